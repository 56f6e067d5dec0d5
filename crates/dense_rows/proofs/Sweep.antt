-- A sweep over the entries of a row that changes one place for each: what is done and what waits, at entry p. Cited by
-- the loops that add a row to a dense row, or put its entries at their places.
use Rattle.std.proofs.Common.{None}
use Prim.Native.Nat.{ℕ, ◌+◌, ◌≤◌, ◌<◌}
use native.Mathlib.Omega.{arith}
use native.Mathlib.Decide.{dec_lt, ℕ_discrete}
use mathlib.Core.Path.{◌≡◌, sym, ◌∙◌}
use mathlib.Core.List.{List}
use lib.ListN.{length}
use Rattle.words.specs.Words.{at}
use Rattle.grid.specs.Cell.{Cell}
use Rattle.rows.specs.Row.{lookup, Row}
use Rattle.rows.proofs.Walk.{front, front_at, front_end, front_above, absent_first, absent_next, absent_past}

-- the places before entry p have what they shall have, and the others what they had
pub record Swept (n : ℕ) (cols : List ℕ) (old goal new : ℕ → Cell) (p : ℕ) : Type 0 where
  pub done : (j : ℕ) → j < front n cols p → new j ≡ goal j
  pub rest : (j : ℕ) → front n cols p ≤ j → new j ≡ old j

-- a place without an entry shall keep what it had
module _ {n : ℕ} {cols vals : List ℕ} (w : Row n cols vals) {old goal : ℕ → Cell}
    (keeps : (j : ℕ) → lookup cols vals j ≡ None → goal j ≡ old j) where
  pub swept_start : {new : ℕ → Cell} → ((j : ℕ) → new j ≡ old j) → Swept n cols old goal new 0
  swept_start f = record { done = λ j l. f j ∙ sym (keeps j (absent_first w j l)); rest = λ j l. f j }

  -- one more entry: its own place changes, and no other
  pub swept_step : {new next : ℕ → Cell} {p : ℕ} → Swept n cols old goal new p → p < length cols
      → next (at cols p) ≡ goal (at cols p) → ((j : ℕ) → (j ≡ at cols p → ⊥) → next j ≡ new j)
      → Swept n cols old goal next (p + 1)
  swept_step {new} {next} {p} h l here other = record {
    done = λ j m. go j m (ℕ_discrete j (at cols p)) (dec_lt j (at cols p));
    rest = λ j m. other j (λ e. omega (arith, above)) ∙ h.rest j (omega (arith, above, at_front));
  }
    where
      above : at cols p < front n cols (p + 1)
      above = front_above w p (p + 1) (omega arith) l

      at_front : front n cols p ≡ at cols p
      at_front = front_at n cols p l

      go : (j : ℕ) → j < front n cols (p + 1) → Dec (j ≡ at cols p) → Dec (j < at cols p) → next j ≡ goal j
      go j m (yes e) d = rw e here
      go j m (no e) (yes d) = other j e ∙ h.done j (omega (arith, at_front))
      go j m (no e) (no d) =
          other j e ∙ h.rest j (omega (arith, at_front)) ∙ sym (keeps j (absent_next w p j l (omega arith) m))

  -- behind the last entry every place has what it shall have
  pub swept_done : {new : ℕ → Cell} {p : ℕ} → Swept n cols old goal new p → length cols ≤ p → (j : ℕ) → new j ≡ goal j
  swept_done {new} {p} h l j = go (dec_lt j n)
    where
      go : Dec (j < n) → new j ≡ goal j
      go (yes d) = h.done j (omega (arith, front_end n cols p l))
      go (no d) =
          h.rest j (omega (arith, front_end n cols p l)) ∙ sym (keeps j (absent_past w j (omega arith)))
