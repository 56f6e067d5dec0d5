-- A call on any words, from what its code has found: no store, a refusal, or what it writes.
use Prim.Native.Nat.{ℕ}
use mathlib.Core.Path.{◌≡◌, sym, ap, ◌∙◌}
use mathlib.Core.Bool.{Bool, true, false, cond}
use mathlib.Core.List.{List}
use lib.ListN.{length}
use borrow.Author.Tests.{eq-eqb, ne_eqb}
use Rattle.answers.specs.Refusals.{invalid_store}
use Rattle.slots.specs.Valid.{store_valid}
use Rattle.slots.proofs.Facts.{store_facts}
use Rattle.model.specs.Model.{Model}
use Rattle.model.specs.Effects.{Reply, refused_as, changed, Effect, refusal_of, reply_of, next_of}
use Rattle.store_encoding.specs.Writing.{model_writing}
use Rattle.store_encoding.specs.Stores.{model_of, effect_reply, effect_words, Effected}
use Rattle.store_encoding.proofs.Held.{model_written}

module _ (s : List ℕ) (e : Effect) where
  -- the words are no store
  pub performed_no_store : store_valid s ≡ false → Effected s e (refused_as e.kind invalid_store) s
  unfolding effect_reply effect_words
  performed_no_store h = record { answer_is = rw h; words_are = rw h }

  module _ (h : store_valid s ≡ true) where
    -- refused: the words are the writing of their model
    pub performed_refused : (code : ℕ) → code ≡ refusal_of e (length s) (model_of s) → (code ≡ 0 → ⊥)
        → Effected s e (refused_as e.kind code) s
    unfolding effect_reply effect_words reply_of next_of
    performed_refused code q n =
        let f = ne_eqb code 0 n in
        record {
          answer_is = rw (h, ← q, f);
          words_are = sym (model_written s (store_facts s h)) ∙ rw (h, ← q, f);
        }

    -- accepted: the words are the writing of what the model becomes
    pub performed_done : refusal_of e (length s) (model_of s) ≡ 0 → (r : Reply) (s' : List ℕ) → r ≡ e.answer (model_of s)
        → s' ≡ model_writing (length s) (changed (model_of s) (e.change (model_of s))) → Effected s e r s'
    unfolding effect_reply effect_words reply_of next_of
    performed_done z r s' a w = record { answer_is = a ∙ rw (h, z); words_are = w ∙ rw (h, z) }
