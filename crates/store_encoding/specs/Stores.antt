-- A store's words and the model that they hold, and what a call does to any words.
use Rattle.std.specs.Prelude.{ℕ, ◌≡◌, cond, List, map, length, eqb}
use Rattle.answers.specs.Refusals.{invalid_store}
use Rattle.matrix.specs.Layout.{revision, grid_of}
use Rattle.slots.specs.Sections.{slots_of}
use Rattle.slots.specs.Valid.{store_valid}
use Rattle.model.specs.Model.{Slot, vacant, holding, Model}
use Rattle.model.specs.Effects.{Reply, refused_as, Effect, reply_of, next_of}
use Rattle.model.specs.Calls.{StoreCall, effect}
use Rattle.store_encoding.specs.Writing.{model_writing}

-- what the words of a slot hold
abbrev pub slot_held : List ℕ → Slot
slot_held x = cond (eqb (length x) 0) vacant (holding (revision x) (grid_of x))

unfoldable pub model_of : List ℕ → Model
model_of s = map slot_held (slots_of s)

-- the reply on any words; 12 where they are no store: "shelf length or words not as above"
unfoldable pub effect_reply : List ℕ → Effect → Reply
effect_reply s e = cond (store_valid s) (reply_of e (length s) (model_of s)) (refused_as e.kind invalid_store)

-- and the words afterwards: the one writing of the model after the call; where they are no store, as they were
unfoldable pub effect_words : List ℕ → Effect → List ℕ
effect_words s e = cond (store_valid s) (model_writing (length s) (next_of e (length s) (model_of s))) s

-- an effect on any words s, the reply r and the words s' after it
pub record Effected (s : List ℕ) (e : Effect) (r : Reply) (s' : List ℕ) : Type 0 where
  pub answer_is : r ≡ effect_reply s e
  pub words_are : s' ≡ effect_words s e

-- a call on any words
abbrev pub reply_on : List ℕ → StoreCall → Reply
reply_on s call = effect_reply s (effect call)

abbrev pub words_after : List ℕ → StoreCall → List ℕ
words_after s call = effect_words s (effect call)

abbrev pub Performed : List ℕ → StoreCall → Reply → List ℕ → Type 0
Performed s call r s' = Effected s (effect call) r s'
