-- What stands in the words after `write_header`: the header, and every other word as it was. Cited by what writes a
-- matrix.
use Prim.Native.Nat.{ℕ, ◌+◌, ◌≤◌, ◌<◌}
use native.Mathlib.Omega.{arith}
use mathlib.Core.Path.{◌≡◌, refl, sym, ◌∙◌}
use mathlib.Core.List.{List}
use lib.ListN.{length, drop, set, length-set, length-drop}
use lib.Seq.{get_or-set_same, get_or-set_other, get_or-drop, ext_get_or}
use Rattle.words.specs.Words.{at, part}
use Rattle.words.proofs.Overwrite.{part_same}
use Rattle.matrix.specs.Layout.{
  revision_count_at,
  revision_at,
  shape_count_at,
  rows_at,
  cols_at,
  start_count_at,
  starts_at,
  count_at,
  columns_at,
  count_again_at,
  values_at,
  size_of,
  revision,
  rows,
  cols,
  start,
  entries,
}
use Rattle.matrix.specs.Facts.{Header}
use Rattle.matrix.specs.HeaderWords.{unrevised, headed, HeaderOf}

module _ (r c n : ℕ) (w : List ℕ) where
  -- the words after each store
  abbrev w₋ : List ℕ
  w₋ = set w revision_count_at 1

  abbrev w₀ : List ℕ
  w₀ = unrevised w

  abbrev w₁ : List ℕ
  w₁ = set w₀ shape_count_at 2

  abbrev w₂ : List ℕ
  w₂ = set w₁ rows_at r

  abbrev w₃ : List ℕ
  w₃ = set w₂ cols_at c

  abbrev w₄ : List ℕ
  w₄ = set w₃ start_count_at (r + 1)

  abbrev w₅ : List ℕ
  w₅ = set w₄ (count_at r) n

  -- as many as before
  pub headed_length : length (headed r c n w) ≡ length w
  headed_length = simp length-set

  -- a word past the row starts' count that is no count of the other sections is as it was
  kept : (k : ℕ) → starts_at ≤ k → (k ≡ count_at r → ⊥) → (k ≡ count_again_at r n → ⊥)
      → at (headed r c n w) k ≡ at w k
  kept k l f g =
      get_or-set_other w₅ (count_again_at r n) k n 0 g ∙ get_or-set_other w₄ (count_at r) k n 0 f
      ∙ get_or-set_other w₃ start_count_at k (r + 1) 0 (λ e. omega arith)
      ∙ get_or-set_other w₂ cols_at k c 0 (λ e. omega arith)
      ∙ get_or-set_other w₁ rows_at k r 0 (λ e. omega arith) ∙ get_or-set_other w₀ shape_count_at k 2 0 (λ e. omega arith)
      ∙ get_or-set_other w₋ revision_at k 0 0 (λ e. omega arith)
      ∙ get_or-set_other w revision_count_at k 1 0 (λ e. omega arith)

  -- so are the row starts
  pub headed_start : (i : ℕ) → i ≤ r → start (headed r c n w) i ≡ start w i
  headed_start i l = kept (i + starts_at) (omega arith) (λ e. omega arith) (λ e. omega arith)

  module _ (fits : size_of r n ≤ length w) where
    -- the column numbers
    pub headed_columns : part (columns_at r) (count_again_at r n) (headed r c n w)
        ≡ part (columns_at r) (count_again_at r n) w
    headed_columns =
        part_same (columns_at r) (count_again_at r n) (headed r c n w) w (omega (arith, headed_length)) (omega arith)
        (λ k p q. kept k (omega arith) (λ e. omega arith) (λ e. omega arith))

    -- the values
    pub headed_values : part (values_at r n) (size_of r n) (headed r c n w) ≡ part (values_at r n) (size_of r n) w
    headed_values =
        part_same (values_at r n) (size_of r n) (headed r c n w) w (omega (arith, headed_length)) fits
        (λ k p q. kept k (omega arith) (λ e. omega arith) (λ e. omega arith))

    -- and the spare words
    pub headed_spare : drop (size_of r n) (headed r c n w) ≡ drop (size_of r n) w
    headed_spare =
        let a = size_of r n in
        ext_get_or 0 (drop a (headed r c n w)) (drop a w)
        (omega (arith, length-drop a (headed r c n w), length-drop a w, headed_length))
        (λ k l. get_or-drop a (headed r c n w) k 0
        ∙ kept (a + k) (omega arith) (λ e. omega arith) (λ e. omega arith) ∙ sym (get_or-drop a w k 0))

    -- a word of the front: the counts of the entries come later
    front : (k : ℕ) → k < starts_at → at (headed r c n w) k ≡ at w₄ k
    front k l =
        get_or-set_other w₅ (count_again_at r n) k n 0 (λ e. omega arith)
        ∙ get_or-set_other w₄ (count_at r) k n 0 (λ e. omega arith)

    -- a word of the revision's section: the shape and the counts come later
    first : (k : ℕ) → k < shape_count_at → at (headed r c n w) k ≡ at w₀ k
    first k l =
        front k (omega arith) ∙ get_or-set_other w₃ start_count_at k (r + 1) 0 (λ e. omega arith)
        ∙ get_or-set_other w₂ cols_at k c 0 (λ e. omega arith) ∙ get_or-set_other w₁ rows_at k r 0 (λ e. omega arith)
        ∙ get_or-set_other w₀ shape_count_at k 2 0 (λ e. omega arith)

    -- a new matrix has revision 0
    pub headed_revision : revision (headed r c n w) ≡ 0
    headed_revision =
        first revision_at (omega arith) ∙ get_or-set_same w₋ revision_at 0 0 (simp length-set (omega arith))

    -- the header stands there
    pub headed_words : HeaderOf r c n (headed r c n w)
    headed_words = record {
      one =
          first revision_count_at (omega arith) ∙ get_or-set_other w₋ revision_at revision_count_at 0 0 (λ e. omega arith)
          ∙ get_or-set_same w revision_count_at 1 0 (omega arith);
      two =
          front shape_count_at (omega arith) ∙ get_or-set_other w₃ start_count_at shape_count_at (r + 1) 0 (λ e. omega arith)
          ∙ get_or-set_other w₂ cols_at shape_count_at c 0 (λ e. omega arith)
          ∙ get_or-set_other w₁ rows_at shape_count_at r 0 (λ e. omega arith)
          ∙ get_or-set_same w₀ shape_count_at 2 0 (simp length-set (omega arith));
      row_count =
          front rows_at (omega arith) ∙ get_or-set_other w₃ start_count_at rows_at (r + 1) 0 (λ e. omega arith)
          ∙ get_or-set_other w₂ cols_at rows_at c 0 (λ e. omega arith)
          ∙ get_or-set_same w₁ rows_at r 0 (simp length-set (omega arith));
      col_count =
          front cols_at (omega arith) ∙ get_or-set_other w₃ start_count_at cols_at (r + 1) 0 (λ e. omega arith)
          ∙ get_or-set_same w₂ cols_at c 0 (simp length-set (omega arith));
      start_count =
          front start_count_at (omega arith) ∙ get_or-set_same w₃ start_count_at (r + 1) 0 (simp length-set (omega arith));
      count =
          get_or-set_other w₅ (count_again_at r n) (count_at r) n 0 (λ e. omega arith)
          ∙ get_or-set_same w₄ (count_at r) n 0 (simp length-set (omega arith));
      again = get_or-set_same w₅ (count_again_at r n) n 0 (simp length-set (omega arith));
    }

-- the header of a valid matrix is the one of its own numbers
pub header_own : {s : List ℕ} → Header s → HeaderOf (rows s) (cols s) (entries s) s
header_own h = record {
  one = h.one;
  two = h.two;
  row_count = refl;
  col_count = refl;
  start_count = h.starts;
  count = refl;
  again = h.again;
}

-- where only the counts of the entries change, the header is the one of the new number
pub header_recounted : {r c n m : ℕ} {s t : List ℕ} → HeaderOf r c n s → ((k : ℕ) → k < starts_at → at t k ≡ at s k)
    → at t (count_at r) ≡ m → at t (count_again_at r m) ≡ m → HeaderOf r c m t
header_recounted h f e g = record {
  one = f revision_count_at (omega arith) ∙ h.one;
  two = f shape_count_at (omega arith) ∙ h.two;
  row_count = f rows_at (omega arith) ∙ h.row_count;
  col_count = f cols_at (omega arith) ∙ h.col_count;
  start_count = f start_count_at (omega arith) ∙ h.start_count;
  count = e;
  again = g;
}
