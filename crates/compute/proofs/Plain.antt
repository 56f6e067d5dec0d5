-- Where C takes T in every place, T is the final C.
use Prim.Native.Nat.{ℕ}
use mathlib.Core.Path.{◌≡◌, refl, sym, ap, ◌∙◌}
use mathlib.Core.List.{List}
use mathlib.Core.Bool.{Bool, true, false, cond, not, false≢true}
use lib.ListN.{take}
use native.Mathlib.Omega.{arith}
use Rattle.std.specs.Prelude.{Result, Ok, Err, None, Some}
use Rattle.answers.specs.declared.Refusal.{Refusal}
use Rattle.conditions.proofs.Tests.{and_left, and_right}
use Rattle.grid.specs.Cell.{Cell}
use Rattle.grid.specs.Grid.{Grid, Same}
use Rattle.grid.proofs.Same.{same_count, same_size}
use Rattle.encoding.proofs.Canonical.{encode_ext}
use Rattle.operations.specs.Accumulator.{Accumulator}
use Rattle.operations.specs.declared.WriteBack.{WriteBack}
use Rattle.operations.specs.WriteBacks.{write_back, accumulated}
use Rattle.compute.specs.Computing.{no_accumulator, plain, straight, Computed}

unset : (b : Bool) → not b ≡ true → b ≡ false
unset true e = absurd (false≢true e)
unset false e = refl

-- what `straight` says: the inputs as they are lent are those as their flags ask
module _ (w : WriteBack) (first second : Bool) (p : straight w first second ≡ true) where
  pub first_lent : (region s : List ℕ) → s ≡ cond first region s
  first_lent region s = ap (λ (f : Bool). cond f region s) (sym (unset first (and_left _ _ p)))

  pub second_lent : (region s : List ℕ) → s ≡ cond second region s
  second_lent region s =
      ap (λ (f : Bool). cond f region s) (sym (unset second (and_left _ _ (and_right (not first) _ p))))

  pub straight_plain : plain w ≡ true
  straight_plain = and_right (not second) _ (and_right (not first) _ p)

-- without mask, complement and accumulator a place takes T's cell
pub write_plain : (w : WriteBack) (m c t : Cell) → plain w ≡ true → write_back w m c t ≡ t
unfolding write_back
write_plain w m c t p =
    let k = and_right (not w.has_mask) _ p in
    rw (unset w.has_mask (and_left _ _ p), unset w.complement (and_left _ _ k))
    (go w.accumulator (and_right (not w.complement) _ k))
  where
    go : (x : Accumulator) → no_accumulator x ≡ true → accumulated x c t ≡ t
    go None e = refl
    go (Some op) e = absurd (false≢true e)

-- what is computed of one grid is computed of another with the same cells
pub computed_same : (r : Result ℕ Refusal) (g h : Grid) (w : List ℕ) → Same g h → Computed r g w → Computed r h w
computed_same (Ok n) g h w s (e, few, words) =
    (e ∙ same_count g h s, few, ap (λ (k : ℕ). take k w) (sym (same_size g h s)) ∙ words ∙ encode_ext 0 g h s)
computed_same (Err r) g h w s (e, f) = (e, omega (arith, same_count g h s))
