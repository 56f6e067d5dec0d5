-- What inner functions of the store's calls leave: a grid put into a slot, with revision v. No public contract cites these.
use Rattle.std.specs.Prelude.{ℕ, ◌≡◌, List, length, set}
use Rattle.answers.specs.Answers.{Answer}
use Rattle.answers.specs.Refusals.{unless_refused}
use Rattle.grid.specs.Grid.{Grid}
use Rattle.encoding.specs.Encode.{encode_revised}
use Rattle.refusals.specs.Cases.{first_applying, answer_for}
use Rattle.slots.specs.Sections.{writing, slots_of}
use Rattle.model.specs.Calls.{fit_cases}
use Rattle.store_encoding.specs.Stores.{model_of}

-- 10 and 11 of a grid that takes the place of what slot k holds
unfoldable pub place_refusal : List ℕ → ℕ → Grid → ℕ
place_refusal s k g = first_applying (fit_cases (length s) (model_of s) k g)

pub record Placed (s : List ℕ) (k v : ℕ) (g : Grid) (answer : Answer) (s' : List ℕ) : Type 0 where
  pub answer_is : answer ≡ answer_for (place_refusal s k g) g
  pub words_are : s' ≡ unless_refused answer s (writing (length s) (set (slots_of s) k (encode_revised v g)))
