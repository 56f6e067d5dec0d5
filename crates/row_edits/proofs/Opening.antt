-- The words after `make_room`, by two moves up or by two moves down: each from the words before it.
use Prim.Native.Nat.{ℕ, ◌+◌, ◌-◌, ◌≤◌, ◌<◌}
use native.Mathlib.Omega.{arith}
use mathlib.Core.Path.{◌∙◌}
use mathlib.Core.List.{List}
use Rattle.matrix.specs.Layout.{columns_at, values_at}
use Rattle.edits.specs.Changes.{moved}
use Rattle.edits.proofs.Moves.{moved_length, moved_here, moved_before, moved_after}
use Rattle.row_edits.specs.Replacing.{count_with, RoomBounds, Opened}

module _ (r n a b k : ℕ) (s : List ℕ) (h : RoomBounds r n a b k s) where
  -- where the columns behind the row stand and where they go, and so the values
  abbrev columns_from : ℕ
  columns_from = columns_at r + b

  abbrev columns_to : ℕ
  columns_to = columns_at r + a + k

  abbrev values_from : ℕ
  values_from = values_at r n + b

  abbrev values_to : ℕ
  values_to = values_at r n + a + k + a + k - b

  -- how many of them
  abbrev tail : ℕ
  tail = n - b

  abbrev middle : ℕ
  middle = n - b + 1 + a

  -- the values first
  abbrev up₁ : List ℕ
  up₁ = moved values_from values_to tail s

  pub grown : b < a + k → Opened r n a b k s (moved columns_from columns_to middle up₁)
  grown l =
      let e₁ = moved_length values_from values_to tail s (omega arith) (omega arith) in
      let e₂ = moved_length columns_from columns_to middle up₁ (omega arith) (omega arith) in
      record {
        same = e₂ ∙ e₁;
        before = λ x d.
            moved_before columns_from columns_to middle up₁ (omega arith) (omega arith) x (omega arith)
            ∙ moved_before values_from values_to tail s (omega arith) (omega arith) x (omega arith);
        middle = λ x d.
            moved_here columns_from columns_to middle up₁ (omega arith) (omega arith) (columns_to + x) (columns_from + x)
            (omega arith) (omega arith) (omega arith)
            ∙ moved_before values_from values_to tail s (omega arith) (omega arith) (columns_from + x) (omega arith);
        behind = λ x d.
            moved_after columns_from columns_to middle up₁ (omega arith) (omega arith)
            (values_at r (count_with n a b k) + a + k + x) (omega arith)
            ∙ moved_here values_from values_to tail s (omega arith) (omega arith)
            (values_at r (count_with n a b k) + a + k + x) (values_from + x) (omega arith) (omega arith) (omega arith);
        spare = λ x d.
            moved_after columns_from columns_to middle up₁ (omega arith) (omega arith) x (omega arith)
            ∙ moved_after values_from values_to tail s (omega arith) (omega arith) x (omega arith);
      }

  -- the columns first
  abbrev down₁ : List ℕ
  down₁ = moved columns_from columns_to middle s

  pub shrunk : a + k ≤ b → Opened r n a b k s (moved values_from values_to tail down₁)
  shrunk l =
      let e₁ = moved_length columns_from columns_to middle s (omega arith) (omega arith) in
      let e₂ = moved_length values_from values_to tail down₁ (omega arith) (omega arith) in
      record {
        same = e₂ ∙ e₁;
        before = λ x d.
            moved_before values_from values_to tail down₁ (omega arith) (omega arith) x (omega arith)
            ∙ moved_before columns_from columns_to middle s (omega arith) (omega arith) x (omega arith);
        middle = λ x d.
            moved_before values_from values_to tail down₁ (omega arith) (omega arith) (columns_to + x) (omega arith)
            ∙ moved_here columns_from columns_to middle s (omega arith) (omega arith) (columns_to + x) (columns_from + x)
            (omega arith) (omega arith) (omega arith);
        behind = λ x d.
            moved_here values_from values_to tail down₁ (omega arith) (omega arith)
            (values_at r (count_with n a b k) + a + k + x) (values_from + x) (omega arith) (omega arith) (omega arith)
            ∙ moved_after columns_from columns_to middle s (omega arith) (omega arith) (values_from + x) (omega arith);
        spare = λ x d.
            moved_after values_from values_to tail down₁ (omega arith) (omega arith) x (omega arith)
            ∙ moved_after columns_from columns_to middle s (omega arith) (omega arith) x (omega arith);
      }
