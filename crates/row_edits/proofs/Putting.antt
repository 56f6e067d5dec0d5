-- The words after `put_row`, each from the words before it.
use Prim.Native.Nat.{ℕ, ◌+◌, ◌≤◌, ◌<◌}
use native.Mathlib.Omega.{arith}
use mathlib.Core.Path.{◌≡◌, ◌∙◌}
use mathlib.Core.List.{List}
use lib.ListN.{length, set, length-set}
use lib.Seq.{get_or-set_same, get_or-set_other}
use Rattle.words.specs.Words.{at, overwrite}
use Rattle.words.proofs.Overwrite.{overwrite_length, overwrite_before, overwrite_at, overwrite_after}
use Rattle.matrix.specs.Layout.{count_at, columns_at, count_again_at, values_at}
use Rattle.edits.proofs.Located.{Located}
use Rattle.row_edits.specs.Replacing.{PutBounds, row_put}

module _ (r n a : ℕ) (cs vs s : List ℕ) (b : PutBounds r n a cs vs s) where
  abbrev columns_to : ℕ
  columns_to = columns_at r + a

  abbrev values_to : ℕ
  values_to = values_at r n + a

  -- after the columns, after the values, and after the first count
  abbrev w₁ : List ℕ
  w₁ = overwrite columns_to cs s

  abbrev w₂ : List ℕ
  w₂ = overwrite values_to vs w₁

  abbrev w₃ : List ℕ
  w₃ = set w₂ (count_at r) n

  abbrev result : List ℕ
  result = row_put r n a cs vs s

  room₁ : columns_to + length cs ≤ length s
  room₁ = omega arith

  length₁ : length w₁ ≡ length s
  length₁ = overwrite_length columns_to cs s room₁

  pub room₂ : values_to + length vs ≤ length w₁
  room₂ = omega (arith, length₁)

  pub length₂ : length w₂ ≡ length s
  length₂ = overwrite_length values_to vs w₁ room₂ ∙ length₁

  pub put_length : length result ≡ length s
  put_length = simp length-set length₂

  -- the counts
  pub put_count : at result (count_at r) ≡ n
  put_count =
      get_or-set_other w₃ (count_again_at r n) (count_at r) n 0 (λ e. omega arith)
      ∙ get_or-set_same w₂ (count_at r) n 0 (omega (arith, length₂))

  pub put_again : at result (count_again_at r n) ≡ n
  put_again = get_or-set_same w₃ (count_again_at r n) n 0 (simp length-set (omega (arith, length₂)))

  -- every other word
  kept : (k : ℕ) → (k ≡ count_at r → ⊥) → (k ≡ count_again_at r n → ⊥) → at result k ≡ at w₂ k
  kept k f g = get_or-set_other w₃ (count_again_at r n) k n 0 g ∙ get_or-set_other w₂ (count_at r) k n 0 f

  -- the row
  pub put_columns : Located result columns_to cs
  put_columns = record {
    room = omega (arith, put_length);
    words = λ k l.
        kept (columns_to + k) (λ e. omega arith) (λ e. omega arith)
        ∙ overwrite_before values_to vs w₁ room₂ (columns_to + k) (omega arith)
        ∙ overwrite_at columns_to cs s room₁ k l;
  }

  pub put_values : Located result values_to vs
  put_values = record {
    room = omega (arith, put_length);
    words = λ k l.
        kept (values_to + k) (λ e. omega arith) (λ e. omega arith) ∙ overwrite_at values_to vs w₁ room₂ k l;
  }

  -- words before the row, between its columns and its values, and behind it
  pub put_before : (k : ℕ) → k < columns_to → (k ≡ count_at r → ⊥) → at result k ≡ at s k
  put_before k l f =
      kept k f (λ e. omega arith) ∙ overwrite_before values_to vs w₁ room₂ k (omega arith)
      ∙ overwrite_before columns_to cs s room₁ k l

  pub put_between : (k : ℕ) → columns_to + length cs ≤ k → k < values_to → (k ≡ count_again_at r n → ⊥)
      → at result k ≡ at s k
  put_between k l m f =
      kept k (λ e. omega arith) f ∙ overwrite_before values_to vs w₁ room₂ k m
      ∙ overwrite_after columns_to cs s room₁ k l

  pub put_behind : (k : ℕ) → values_to + length cs ≤ k → at result k ≡ at s k
  put_behind k l =
      kept k (λ e. omega arith) (λ e. omega arith)
      ∙ overwrite_after values_to vs w₁ room₂ k (omega arith)
      ∙ overwrite_after columns_to cs s room₁ k (omega arith)
