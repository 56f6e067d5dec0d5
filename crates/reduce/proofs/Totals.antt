-- The values of a valid matrix stand together, so that their total is that of the grid: what `total_of` cites.
use Prim.Native.Nat.{ℕ, ◌+◌}
use native.Mathlib.Omega.{arith}
use mathlib.Core.Path.{◌≡◌, sym, ap, ◌∙◌}
use mathlib.Core.List.{List}
use Rattle.words.specs.Words.{part}
use Rattle.operators.specs.declared.Monoid.{Monoid}
use Rattle.operators.specs.Operators.{monoid_op}
use Rattle.reductions.specs.Reductions.{total, identity_word, grid_total}
use Rattle.matrix.specs.Layout.{values_at, rows, entries, grid_of}
use Rattle.matrix.specs.Facts.{Matrix}
use Rattle.matrix.proofs.Facts.{matrix_made}
use Rattle.encoding.proofs.Decoded.{valid_values}

pub values_total : (m : Monoid) (s : List ℕ) → Matrix s
    → total (monoid_op m) (identity_word m)
    (part (values_at (rows s) (entries s)) (values_at (rows s) (entries s) + entries s) s)
    ≡ grid_total m (grid_of s)
unfolding grid_total
values_total m s w =
    let b = values_at (rows s) (entries s) in
    ap (total (monoid_op m) (identity_word m))
    (sym (valid_values s (matrix_made s w) ∙ ap (λ (e : ℕ). part b e s) (omega arith)))
