-- The loop of `add_unlisted`: the entries of the old row before p stand at the columns that the list does not name.
use Rattle.std.proofs.Common.{None}
use Prim.Native.Nat.{ℕ, ◌+◌, ◌≤◌, ◌<◌}
use native.Mathlib.Omega.{arith}
use native.Mathlib.Decide.{ℕ_discrete}
use mathlib.Core.Path.{◌≡◌, refl, sym, ◌∙◌}
use mathlib.Core.List.{List}
use lib.ListN.{length, set, length-set}
use borrow.Author.Tests.{eq-eqb, ne_eqb}
use Rattle.words.specs.Words.{at}
use Rattle.grid.specs.Cell.{Cell}
use Rattle.rows.specs.Row.{lookup, Row}
use Rattle.rows.proofs.Walk.{front_at, lookup_entry}
use Rattle.dense_rows.proofs.Sweep.{Swept, swept_start, swept_step, swept_done}
use Rattle.bit_rows.specs.Bits.{flagged, Tracked, Carries, Marking}
use Rattle.bit_rows.proofs.Marks.{marked_here, marked_other}
use Rattle.assign_rows.specs.Assigned.{OnlyListed, with_unlisted}

-- of the entries before p those at columns that the list does not name are put, and the buffer is as long as it was
pub record Keeping (n : ℕ) (inv cols vals map₀ ov₀ : List ℕ) (top : ℕ) (map ov : List ℕ) (p : ℕ) : Type 0 where
  pub tracked : Tracked top map
  pub long : length ov ≡ length ov₀
  pub swept : Swept n cols (flagged map₀ ov₀) (with_unlisted inv (lookup cols vals) (flagged map₀ ov₀))
      (flagged map ov) p

-- without the entries of the old row there is nothing more
pub none_kept : (inv map ov : List ℕ) {top : ℕ} → Tracked top map → OnlyListed inv map ov → (old : ℕ → Cell)
    → ((j : ℕ) → old j ≡ None) → Carries (with_unlisted inv old (flagged map ov)) top map ov
none_kept inv map ov t o old e = record { tracked = t; cell = λ j. go j (ℕ_discrete (at inv j) 0) }
  where
    go : (j : ℕ) → Dec (at inv j ≡ 0) → flagged map ov j ≡ with_unlisted inv old (flagged map ov) j
    go j (yes d) = rw (eq-eqb (at inv j) 0 d) (o j d ∙ sym (e j))
    go j (no d) = rw (ne_eqb (at inv j) 0 d)

module _ (inv map₀ ov₀ : List ℕ) {n : ℕ} {cols vals : List ℕ} (w : Row n cols vals) (o : OnlyListed inv map₀ ov₀) where
  -- a column without an entry keeps what it has
  keeps : (j : ℕ) → lookup cols vals j ≡ None
      → with_unlisted inv (lookup cols vals) (flagged map₀ ov₀) j ≡ flagged map₀ ov₀ j
  keeps j e = go (ℕ_discrete (at inv j) 0)
    where
      go : Dec (at inv j ≡ 0) → with_unlisted inv (lookup cols vals) (flagged map₀ ov₀) j ≡ flagged map₀ ov₀ j
      go (yes d) = rw (eq-eqb (at inv j) 0 d) (e ∙ sym (o j d))
      go (no d) = rw (ne_eqb (at inv j) 0 d)

  pub keeping_start : {top : ℕ} → Tracked top map₀ → Keeping n inv cols vals map₀ ov₀ top map₀ ov₀ 0
  keeping_start t = record { tracked = t; long = refl; swept = swept_start w keeps (λ j. refl) }

  module _ {top : ℕ} {map ov : List ℕ} {p : ℕ} (h : Keeping n inv cols vals map₀ ov₀ top map ov p)
      (l : p < length cols) where
    -- the list does not name the column of entry p, which is put there
    pub keeping_put : at inv (at cols p) ≡ 0 → n ≤ length ov₀ → {top' : ℕ} {map' : List ℕ}
        → Marking (at cols p) map top' map'
        → Keeping n inv cols vals map₀ ov₀ top' map' (set ov (at cols p) (at vals p)) (p + 1)
    keeping_put e room u = record {
      tracked = u.tracked;
      long = length-set ov (at cols p) (at vals p) ∙ h.long;
      swept = swept_step w keeps h.swept l
          (rw (eq-eqb (at inv (at cols p)) 0 e)
          (marked_here u ov (at vals p) (omega (arith, w.small p l, h.long)) ∙ sym (lookup_entry w p l)))
          (λ j m. marked_other u ov (at vals p) j m);
    }

    -- or it names it, and nothing changes
    pub keeping_left : (at inv (at cols p) ≡ 0 → ⊥) → Keeping n inv cols vals map₀ ov₀ top map ov (p + 1)
    keeping_left e = record {
      tracked = h.tracked;
      long = h.long;
      swept = swept_step w keeps h.swept l
          (rw (ne_eqb (at inv (at cols p)) 0 e) (h.swept.rest (at cols p) (omega (arith, front_at n cols p l))))
          (λ j m. refl);
    }

  -- behind the last entry
  pub keeping_done : {top : ℕ} {map ov : List ℕ} {p : ℕ} → Keeping n inv cols vals map₀ ov₀ top map ov p
      → length cols ≤ p
      → Carries (with_unlisted inv (lookup cols vals) (flagged map₀ ov₀)) top map ov
  keeping_done h m = record { tracked = h.tracked; cell = λ j. swept_done w keeps h.swept m j }
