-- Laws of `gather` and `flatten`, the entries of a row and of several rows. Cited where a row or a matrix is written
-- from its cells.
use Rattle.std.proofs.Common.{None, Some}
use Prim.Native.Nat.{ℕ, zero, suc, ◌+◌, ◌-◌, ◌≤◌, ◌<◌}
use native.Mathlib.Omega.{arith}
use native.Mathlib.Decide.{dec_lt}
use native.Mathlib.Nat.{add-zero, add-suc}
use native.Mathlib.Numerals.{add-one}
use mathlib.Core.Path.{◌≡◌, refl, sym, ap}
use mathlib.Core.List.{List, [], ◌++◌, append-nil, append_assoc}
use lib.ListN.{length, length-append}
use Rattle.grid.specs.Cell.{Cell}
use Rattle.grid.specs.Entries.{one, gather, flatten}

-- what is taken of the entries does not change how many there are: of a cell, of a row, of several rows
module _ {A B : Type 0} (f : ℕ → ℕ → A) (g : ℕ → ℕ → B) where
  one_length : (j : ℕ) (c : Cell) → length (one f j c) ≡ length (one g j c)
  unfolding one
  one_length j None = refl
  one_length j (Some v) = refl

  pub gather_length : (n : ℕ) (row : ℕ → Cell) → length (gather f n row) ≡ length (gather g n row)
  unfolding gather
  gather_length zero row = refl
  gather_length (suc n) row =
      simp length-append (omega (arith, gather_length n row, one_length n (row n)))

  pub flatten_length : (n : ℕ) (cell : ℕ → ℕ → Cell) (r : ℕ)
      → length (flatten f n cell r) ≡ length (flatten g n cell r)
  unfolding flatten
  flatten_length n cell zero = refl
  flatten_length n cell (suc r) =
      simp length-append (omega (arith, flatten_length n cell r, gather_length n (cell r)))

-- only the cells within range count
module _ {A : Type 0} (emit : ℕ → ℕ → A) where
  pub gather_same : (n : ℕ) (f g : ℕ → Cell) → ((j : ℕ) → j < n → f j ≡ g j) → gather emit n f ≡ gather emit n g
  unfolding gather
  gather_same zero f g h = refl
  gather_same (suc n) f g h = rw (gather_same n f g (λ j l. h j (omega arith)), h n (omega arith))

  pub flatten_same : (n : ℕ) (f g : ℕ → ℕ → Cell) (r : ℕ) → ((i j : ℕ) → i < r → j < n → f i j ≡ g i j)
      → flatten emit n f r ≡ flatten emit n g r
  unfolding flatten
  flatten_same n f g zero h = refl
  flatten_same n f g (suc r) h =
      let e = gather_same n (f r) (g r) (λ j k. h r j (omega arith) k) in
      rw (flatten_same n f g r (λ i j l k. h i j (omega arith) k), e)

-- a list that begins with the items of another
pub record Begins {A : Type 0} (front whole : List A) : Type 0 where
  pub rest : List A
  pub joined : whole ≡ front ++ rest

module _ {A : Type 0} (emit : ℕ → ℕ → A) (n : ℕ) (cell : ℕ → ℕ → Cell) where
  -- the entries of one row more
  pub flatten_next : (r : ℕ) → flatten emit n cell (r + 1) ≡ flatten emit n cell r ++ gather emit n (cell r)
  unfolding flatten
  flatten_next r = rw add-one

  -- the entries of the first k rows stand in front of those of more rows
  pub flatten_begins : (k r : ℕ) → k ≤ r → Begins (flatten emit n cell k) (flatten emit n cell r)
  unfolding flatten
  flatten_begins k zero l = let e : k ≡ zero = omega arith in rw e (record { rest = []; joined = refl })
  flatten_begins k (suc r) l = go (dec_lt r k) (λ m. flatten_begins k r m)
    where
      go : Dec (r < k) → (k ≤ r → Begins (flatten emit n cell k) (flatten emit n cell r))
          → Begins (flatten emit n cell k) (flatten emit n cell (suc r))
      go (yes m) before =
          let e : k ≡ suc r = omega arith in
          rw e (record { rest = []; joined = sym (append-nil (flatten emit n cell (suc r))) })
      go (no m) before =
          let b = before (omega arith) in
          record {
            rest = b.rest ++ gather emit n (cell r);
            joined = rw b.joined (append_assoc (flatten emit n cell k) b.rest (gather emit n (cell r)));
          }

  -- so there are no fewer
  pub flatten_grows : (k r : ℕ) → k ≤ r → length (flatten emit n cell k) ≤ length (flatten emit n cell r)
  flatten_grows k r l =
      let b = flatten_begins k r l in
      omega (arith, simp length-append at (ap length b.joined))

-- a cell gives at most one item
one_most : {A : Type 0} (emit : ℕ → ℕ → A) (j : ℕ) (c : Cell) → length (one emit j c) ≤ 1
unfolding one
one_most emit j None = omega arith
one_most emit j (Some v) = omega arith

-- a row that is gathered column by column
module _ {A : Type 0} (emit : ℕ → ℕ → A) (row : ℕ → Cell) where
  -- one column more
  pub gather_next : (n : ℕ) → gather emit (n + 1) row ≡ gather emit n row ++ one emit n (row n)
  unfolding gather
  gather_next n = rw add-one

  -- a gap of d columns without entries
  gather_gap : (p d : ℕ) → ((j : ℕ) → p ≤ j → j < p + d → row j ≡ None) → gather emit (p + d) row ≡ gather emit p row
  unfolding gather one
  gather_gap p zero h = rw add-zero
  gather_gap p (suc d) h =
      rw (add-suc, h (p + d) (omega arith) (omega arith), append-nil) (gather_gap p d (λ j a b. h j a (omega arith)))

  -- columns without entries from p up to q
  pub gather_skip : (p q : ℕ) → p ≤ q → ((j : ℕ) → p ≤ j → j < q → row j ≡ None)
      → gather emit q row ≡ gather emit p row
  gather_skip p q l h =
      let e : q ≡ p + (q - p) = omega arith in rw e (gather_gap p (q - p) (λ j a b. h j a (omega arith)))

  -- a column has at most one entry
  pub gather_most : (n : ℕ) → length (gather emit n row) ≤ n
  unfolding gather
  gather_most zero = omega arith
  gather_most (suc n) = rw length-append (omega (arith, gather_most n, one_most emit n (row n)))
