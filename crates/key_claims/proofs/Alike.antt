-- Completed calls that end alike: those with the same numbers and words, and those whose allowances are both beyond the
-- number of keys.
use Prim.Native.Nat.{ℕ, ◌≤◌}
use mathlib.Core.Path.{◌≡◌, refl, sym, ap, ◌∙◌}
use mathlib.Core.List.{List}
use lib.ListN.{length}
use borrow.Author.Tests.{le-ltb}
use Rattle.limits.specs.Limits.{max_allowance}
use Rattle.answers.specs.Answers.{Answer}
use Rattle.answers.specs.Refusals.{unless_refused}
use Rattle.grid.specs.Grid.{Grid, Same}
use Rattle.grid.proofs.Same.{same_sym, same_trans, same_count, same_size}
use Rattle.matrix.specs.Layout.{rows, grid_of}
use Rattle.encoding.specs.Encode.{written_over}
use Rattle.encoding.proofs.Canonical.{encode_ext}
use Rattle.key_rounds.proofs.Rounds.{vector_enough}
use Rattle.key_requests.specs.Refusal.{lent_doors, doors_refusal}
use Rattle.key_calls.specs.Doors.{doors_answer, Completed}
use Rattle.key_claims.specs.Programs.{Alike}

module _ {n m : ℕ} {locks cabinets hand out work out₁ work₁ out₂ work₂ : List ℕ} {answer₁ answer₂ : Answer} where
  -- from the same answer and the same writing
  alike_made : doors_answer n locks cabinets hand (length work) (length out)
      ≡ doors_answer m locks cabinets hand (length work) (length out)
      → written_over (lent_doors n locks cabinets hand) out ≡ written_over (lent_doors m locks cabinets hand) out
      → Completed n locks cabinets hand out work answer₁ out₁ work₁
      → Completed m locks cabinets hand out work answer₂ out₂ work₂
      → Alike answer₁ answer₂ out₁ out₂ work₁ work₂
  alike_made e f h k =
      let a : answer₁ ≡ answer₂ = h.attempted.answer_is ∙ e ∙ sym k.attempted.answer_is in
      record {
        answers = a;
        outs =
            h.attempted.words_are
            ∙ ap (λ (x : Answer). unless_refused x out (written_over (lent_doors n locks cabinets hand) out)) a
            ∙ ap (unless_refused answer₂ out) f
            ∙ sym k.attempted.words_are;
        works = h.cleared ∙ sym k.cleared;
      }

pub alike_same : {n : ℕ} {locks cabinets hand out work out₁ work₁ out₂ work₂ : List ℕ} {answer₁ answer₂ : Answer}
    → Completed n locks cabinets hand out work answer₁ out₁ work₁
    → Completed n locks cabinets hand out work answer₂ out₂ work₂ → Alike answer₁ answer₂ out₁ out₂ work₁ work₂
alike_same h k = alike_made refl refl h k

module _ (n m : ℕ) (locks cabinets hand out work : List ℕ) (u : rows locks ≤ n) (l : n ≤ max_allowance)
    (v : rows locks ≤ m) (k : m ≤ max_allowance) where
  abbrev g : Grid
  g = lent_doors n locks cabinets hand

  abbrev h : Grid
  h = lent_doors m locks cabinets hand

  -- the two vectors have the same cells
  same : Same g h
  same =
      same_trans (vector_enough (grid_of locks) (grid_of cabinets) (grid_of hand) n u)
      (same_sym (vector_enough (grid_of locks) (grid_of cabinets) (grid_of hand) m v))

  answer_same : doors_answer n locks cabinets hand (length work) (length out)
      ≡ doors_answer m locks cabinets hand (length work) (length out)
  unfolding doors_refusal
  answer_same = rw (le-ltb _ _ l, le-ltb _ _ k, same_size g h same, same_count g h same)

  words_same : written_over g out ≡ written_over h out
  words_same = rw (encode_ext 0 g h same, same_size g h same)

  pub alike_beyond : {out₁ work₁ out₂ work₂ : List ℕ} {answer₁ answer₂ : Answer}
      → Completed n locks cabinets hand out work answer₁ out₁ work₁
      → Completed m locks cabinets hand out work answer₂ out₂ work₂ → Alike answer₁ answer₂ out₁ out₂ work₁ work₂
  alike_beyond x y = alike_made answer_same words_same x y
