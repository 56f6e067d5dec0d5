-- The entries of a grid around one cell: what comes before and after it does not depend on that cell. Cited by every
-- change of one cell; `emit` is the column or the value, so that one lemma serves both.
use Rattle.std.proofs.Common.{None, Some}
use Prim.Native.Nat.{ℕ, zero, suc, ◌+◌, ◌<◌}
use native.Mathlib.Omega.{arith}
use native.Mathlib.Decide.{dec_lt, ℕ_discrete}
use mathlib.Core.Path.{◌≡◌, refl, sym, ap, ◌∙◌}
use mathlib.Core.List.{List, [], ◌++◌, append-nil, append_assoc}
use lib.ListN.{length, length-append}
use borrow.Author.Tests.{eq-eqb, ne_eqb}
use Rattle.grid.specs.Cell.{Cell}
use Rattle.grid.specs.Grid.{Grid}
use Rattle.grid.specs.Entries.{one, gather, flatten}
use Rattle.grid.specs.Update.{with_cell}
use Rattle.grid.proofs.Gather.{gather_same, flatten_same}

-- how many entries a cell has
abbrev pub cell_count : Cell → ℕ
cell_count None = 0
cell_count (Some v) = 1

-- as many as it gives items
pub one_length : {A : Type 0} (emit : ℕ → ℕ → A) (j : ℕ) (c : Cell) → length (one emit j c) ≡ cell_count c
unfolding one
one_length emit j None = refl
one_length emit j (Some v) = refl

module _ {A : Type 0} (emit : ℕ → ℕ → A) where
  -- the first n columns of any row that is `row` but for column j
  record RowAround (row : ℕ → Cell) (j n : ℕ) : Type 0 where
    rest : List A
    joined : (f : ℕ → Cell) → ((c : ℕ) → (c ≡ j → ⊥) → f c ≡ row c)
        → gather emit n f ≡ gather emit j row ++ (one emit j (f j) ++ rest)

  -- what comes behind column j is the same for all of them
  row_around : (row : ℕ → Cell) (j n : ℕ) → j < n → RowAround row j n
  unfolding gather
  row_around row j zero l = absurd (omega arith)
  row_around row j (suc n) l = go (dec_lt j n) (λ d. row_around row j n d)
    where
      go : Dec (j < n) → (j < n → RowAround row j n) → RowAround row j (suc n)
      go (yes d) h =
          let w = h d in
          record {
            rest = w.rest ++ one emit n (row n);
            joined = λ f s. rw (w.joined f s, s n (λ e. omega arith)) (simp append_assoc);
          }
      go (no d) h =
          let e : n ≡ j = omega arith in
          record {
            rest = [];
            joined = λ f s. rw (e, append-nil)
                (ap (λ (l : List A). l ++ one emit j (f j)) (gather_same emit j f row (λ c m. s c (λ q. omega arith))));
          }

  -- the first k rows of any cells that are `cell` but for row i and column j
  pub record Around (n : ℕ) (cell : ℕ → ℕ → Cell) (i j k : ℕ) : Type 0 where
    pub rest : List A
    pub joined : (f : ℕ → ℕ → Cell) → ((r c : ℕ) → (r ≡ i → c ≡ j → ⊥) → f r c ≡ cell r c)
        → flatten emit n f k ≡ (flatten emit n cell i ++ gather emit j (cell i)) ++ (one emit j (f i j) ++ rest)

  -- and so is what comes behind row i and column j
  pub around : (n : ℕ) (cell : ℕ → ℕ → Cell) (i j k : ℕ) → i < k → j < n → Around n cell i j k
  unfolding flatten
  around n cell i j zero l m = absurd (omega arith)
  around n cell i j (suc k) l m = go (dec_lt i k) (λ d. around n cell i j k d m)
    where
      go : Dec (i < k) → (i < k → Around n cell i j k) → Around n cell i j (suc k)
      go (yes d) h =
          let w = h d in
          record {
            rest = w.rest ++ gather emit n (cell k);
            joined = λ f s.
                rw (w.joined f s, gather_same emit n (f k) (cell k) (λ c q. s k c (λ e e'. omega arith)))
                (simp append_assoc);
          }
      go (no d) h =
          let e : k ≡ i = omega arith in
          let w = row_around (cell i) j n m in
          record {
            rest = w.rest;
            joined = λ f s. rw (
              e,
              flatten_same emit n f cell i (λ r c p q. s r c (λ u v. omega arith)),
              w.joined (f i) (λ c q. s i c (λ u v. q v)),
            )
                (sym (append_assoc (flatten emit n cell i) (gather emit j (cell i)) (one emit j (f i j) ++ w.rest)));
          }

  -- how many there are
  pub around_length : {n : ℕ} {cell : ℕ → ℕ → Cell} {i j k : ℕ} (w : Around n cell i j k) (f : ℕ → ℕ → Cell)
      → ((r c : ℕ) → (r ≡ i → c ≡ j → ⊥) → f r c ≡ cell r c)
      → length (flatten emit n f k)
      ≡ length (flatten emit n cell i) + length (gather emit j (cell i)) + cell_count (f i j) + length w.rest
  around_length {n} {cell} {i} {j} w f s =
      ap length (w.joined f s) ∙ simp length-append (omega (arith, one_length emit j (f i j)))

-- such cells are those of a grid with one cell changed: that cell, and all others
module _ (g : Grid) (i j : ℕ) (x : Cell) where
  pub changed_here : (with_cell g i j x).cell i j ≡ x
  changed_here = rw (eq-eqb i i refl, eq-eqb j j refl)

  pub changed_other : (r c : ℕ) → (r ≡ i → c ≡ j → ⊥) → (with_cell g i j x).cell r c ≡ g.cell r c
  changed_other r c f = go (ℕ_discrete r i) (ℕ_discrete c j)
    where
      go : Dec (r ≡ i) → Dec (c ≡ j) → (with_cell g i j x).cell r c ≡ g.cell r c
      go (yes d) (yes e) = absurd (f d e)
      go (yes d) (no e) = rw (eq-eqb r i d, ne_eqb c j e)
      go (no d) e = rw (ne_eqb r i d)
