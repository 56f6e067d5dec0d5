-- Rows and cells: what is gathered from cells is a row that looks the cells up, and a row is what its cells gather.
use Rattle.std.proofs.Common.{None, Some}
use Prim.Native.Nat.{ℕ, zero, suc, ◌<◌}
use native.Mathlib.Omega.{arith}
use native.Mathlib.Decide.{dec_lt, ℕ_discrete}
use mathlib.Core.Path.{◌≡◌, refl, ◌∙◌}
use mathlib.Core.List.{List, [], ◌∷◌, ◌++◌, append-nil}
use mathlib.Core.Bool.{true}
use lib.ListN.{length, take, length-append, get_or-append}
use lib.Seq.{get_or_at, take-suc, take_all}
use borrow.Author.Tests.{eq-eqb, ne_eqb}
use Rattle.words.specs.Words.{at}
use Rattle.grid.specs.Cell.{Cell}
use Rattle.grid.specs.Entries.{column, value, one, gather}
use Rattle.rows.specs.Row.{rising, lookup, position, Row}
use Rattle.rows.proofs.Rising.{rising_rises, rising_below, rises_rising}
use Rattle.rows.proofs.Search.{position_found}
use Rattle.rows.proofs.Position.{stands, position_zero, position_moves, position_stays}
use Rattle.rows.proofs.Found.{lookup_found, lookup_missing}

-- the facts of a row whose columns pass the test
pub rising_row : (n : ℕ) (cols vals : List ℕ) → rising n 0 cols ≡ true → length vals ≡ length cols → Row n cols vals
rising_row n cols vals h e =
    record { even = e; rises = rising_rises n 0 cols h; small = rising_below n 0 cols h }

-- a word of a list with one word more
snoc_at : (P : ℕ → Type 0) (l : List ℕ) (x a : ℕ) → a < length (l ++ (x ∷ []))
    → (a < length l → P (at l a)) → P x → P (at (l ++ (x ∷ [])) a)
snoc_at P l x a h p q = go (dec_lt a (length l))
  where
    go : Dec (a < length l) → P (at (l ++ (x ∷ [])) a)
    go (yes d) = rw (get_or-append l (x ∷ []) 0 a d) (p d)
    go (no d) =
        let e : length l ≡ a = omega (arith, length-append l (x ∷ [])) in
        rw (get_or_at l x [] 0 a e) q

-- a row of n columns with one column more, which may hold an entry
row_more : (n : ℕ) (cols vals : List ℕ) (c : Cell) → Row n cols vals
    → Row (suc n) (cols ++ one column n c) (vals ++ one value n c)
unfolding one
row_more n cols vals None w =
    rw (append-nil cols, append-nil vals)
    (record { even = w.even; rises = w.rises; small = λ a l. let u = w.small a l in omega arith })
row_more n cols vals (Some v) w =
    let e = length-append cols (n ∷ []) in
    record {
      even = simp length-append (omega arith);
      rises = record {
        up = λ a b l m.
            rw (get_or-append cols (n ∷ []) 0 a (omega arith))
            (snoc_at (λ (x : ℕ). at cols a < x) cols n b m (λ u. w.rises.up a b l u) (w.small a (omega arith)));
      };
      small = λ a l. snoc_at (λ (x : ℕ). x < suc n) cols n a l (λ u. let s = w.small a u in omega arith) (omega arith);
    }

-- what is gathered is a row
pub gather_row : (n : ℕ) (f : ℕ → Cell) → Row n (gather column n f) (gather value n f)
unfolding gather
gather_row zero f = record {
  even = refl;
  rises = record { up = λ a b l m. absurd (omega arith) };
  small = λ a l. absurd (omega arith);
}
gather_row (suc n) f = row_more n (gather column n f) (gather value n f) (f n) (gather_row n f)

-- the gathered columns pass the test
pub gather_rising : (n : ℕ) (f : ℕ → Cell) → rising n 0 (gather column n f) ≡ true
gather_rising n f =
    let w = gather_row n f in rises_rising n 0 (gather column n f) w.rises (λ m l. omega arith) w.small

-- two rows after one another: a column that is not in the second is looked up in the first
lookup_front : (cols vals ds ws : List ℕ) (j : ℕ) → length vals ≡ length cols → lookup ds ws j ≡ None
    → lookup (cols ++ ds) (vals ++ ws) j ≡ lookup cols vals j
unfolding lookup
lookup_front [] [] ds ws j e h = h
lookup_front [] (v ∷ vals) ds ws j e h = absurd (omega arith)
lookup_front (c ∷ cols) [] ds ws j e h = absurd (omega arith)
lookup_front (c ∷ cols) (v ∷ vals) ds ws j e h = rw (lookup_front cols vals ds ws j (omega arith) h)

-- and one that is not in the first, in the second
lookup_back : (cols vals ds ws : List ℕ) (j : ℕ) → length vals ≡ length cols
    → ((k : ℕ) → k < length cols → at cols k ≡ j → ⊥) → lookup (cols ++ ds) (vals ++ ws) j ≡ lookup ds ws j
unfolding lookup
lookup_back [] [] ds ws j e h = refl
lookup_back [] (v ∷ vals) ds ws j e h = absurd (omega arith)
lookup_back (c ∷ cols) [] ds ws j e h = absurd (omega arith)
lookup_back (c ∷ cols) (v ∷ vals) ds ws j e h =
    rw (ne_eqb c j (h 0 (omega arith))) (lookup_back cols vals ds ws j (omega arith) (λ k l. h (suc k) (omega arith)))

-- the row of one cell: the cell is there
lookup_one : (n : ℕ) (c : Cell) → lookup (one column n c) (one value n c) n ≡ c
unfolding lookup one
lookup_one n None = refl
lookup_one n (Some v) = rw (eq-eqb n n refl)

-- and there is nothing before it
lookup_other : (n j : ℕ) (c : Cell) → j < n → lookup (one column n c) (one value n c) j ≡ None
unfolding lookup one
lookup_other n j None l = refl
lookup_other n j (Some v) l = rw (ne_eqb n j (λ e. omega arith))

-- in what is gathered the cells are found again
pub lookup_gather : (n : ℕ) (f : ℕ → Cell) (j : ℕ) → j < n → lookup (gather column n f) (gather value n f) j ≡ f j
unfolding gather
lookup_gather zero f j l = absurd (omega arith)
lookup_gather (suc n) f j l = go (dec_lt j n) (λ d. lookup_gather n f j d)
  where
    cols : List ℕ
    cols = gather column n f

    vals : List ℕ
    vals = gather value n f

    go : Dec (j < n) → (j < n → lookup cols vals j ≡ f j)
        → lookup (cols ++ one column n (f n)) (vals ++ one value n (f n)) j ≡ f j
    go (yes d) h =
        lookup_front cols vals _ _ j (gather_row n f).even (lookup_other n j (f n) d) ∙ h d
    go (no d) h =
        let e : j ≡ n = omega arith in
        let w = gather_row n f in
        rw e
        (lookup_back cols vals _ _ n w.even (λ k l z. let u = w.small k l in omega arith) ∙ lookup_one n (f n))

-- for the two lemmas at the end: `items` stands for the columns or the values of a row
module _ {n : ℕ} {cols vals : List ℕ} (w : Row n cols vals) (emit : ℕ → ℕ → ℕ) (items : List ℕ)
    (even : length items ≡ length cols) (same : (p : ℕ) → emit (at cols p) (at vals p) ≡ at items p) where
  -- column q is in the row
  hit : (q p : ℕ) → p ≡ position q cols → p < length cols → at cols p ≡ q
      → gather emit q (lookup cols vals) ≡ take p items
      → gather emit (suc q) (lookup cols vals) ≡ take (position (suc q) cols) items
  unfolding gather one
  hit q p s l e h =
      let m = position_moves q cols p w.rises (rw s (stands q cols w.rises)) l e in
      rw (lookup_found cols vals w.even w.rises q p s l e, h, ← m, take-suc items p 0 (omega arith), ← (same p), e)

  -- column q is not in the row
  miss : (q p : ℕ) → p ≡ position q cols → (p < length cols → at cols p ≡ q → ⊥)
      → gather emit q (lookup cols vals) ≡ take p items
      → gather emit (suc q) (lookup cols vals) ≡ take (position (suc q) cols) items
  unfolding gather one
  miss q p s f h =
      let m = position_stays q cols p w.rises (rw s (stands q cols w.rises)) f in
      rw (lookup_missing cols vals w.even w.rises q p s f, append-nil, ← m) h

  -- the first q columns gather the items before the position of column q
  pub gathered : (q : ℕ) → gather emit q (lookup cols vals) ≡ take (position q cols) items
  unfolding gather
  gathered zero = rw (← (position_zero cols))
  gathered (suc q) = go (dec_lt (position q cols) (length cols)) (ℕ_discrete (at cols (position q cols)) q) (gathered q)
    where
      go : Dec (position q cols < length cols) → Dec (at cols (position q cols) ≡ q)
          → gather emit q (lookup cols vals) ≡ take (position q cols) items
          → gather emit (suc q) (lookup cols vals) ≡ take (position (suc q) cols) items
      go (yes l) (yes e) h = hit q (position q cols) refl l e h
      go (yes l) (no e) h = miss q (position q cols) refl (λ m. e) h
      go (no l) e h = miss q (position q cols) refl (λ m. absurd (l m)) h

  -- that is all of them, for all columns
  gather_lookup : gather emit n (lookup cols vals) ≡ items
  gather_lookup =
      let e = position_found n cols (length cols) (omega arith) w.small (λ k b l. absurd (omega arith)) in
      gathered n ∙ rw (← e) (take_all (length cols) items (omega arith))

-- a row's column numbers are what its cells gather
pub gather_lookup_columns : {n : ℕ} {cols vals : List ℕ} → Row n cols vals → gather column n (lookup cols vals) ≡ cols
gather_lookup_columns {n} {cols} {vals} w = gather_lookup w column cols refl (λ p. refl)

-- and so are its values
pub gather_lookup_values : {n : ℕ} {cols vals : List ℕ} → Row n cols vals → gather value n (lookup cols vals) ≡ vals
gather_lookup_values {n} {cols} {vals} w = gather_lookup w value vals w.even (λ p. refl)
