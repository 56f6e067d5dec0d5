-- Merging on plain grids: the order of the list and a repetition do not matter, and entries only grow.
use Prim.Native.Nat.{ℕ, ◌≤◌, ◌<◌}
use native.Mathlib.Omega.{arith}
use native.Mathlib.Nat.{le_refl}
use mathlib.Core.Path.{◌≡◌, refl, ap}
use mathlib.Core.List.{List, [], ◌∷◌, ◌++◌, map}
use Rattle.grid.specs.Cell.{Cell}
use Rattle.grid.specs.Grid.{Grid, Same}
use Rattle.grid.specs.Entries.{entry_count}
use Rattle.grid.proofs.Same.{same_refl, same_sym, same_trans}
use Rattle.grid.proofs.Counts.{flatten_fewer}
use Rattle.operators.specs.declared.BinaryOp.TheVariants.{Max}
use Rattle.operations.specs.CellOperations.{unite}
use Rattle.merging.specs.Merging.{
  join,
  join_all,
  ◌∈◌,
  here,
  there,
  Rearranged,
  none,
  after,
  exchanged,
  twice,
  Word,
  Worded,
}
use Rattle.merging.proofs.Cells.{unite_word, unite_exchanged, unite_again, unite_grows}

-- a grid of words of r rows and c columns
pub record Suits (r c : ℕ) (g : Grid) : Type 0 where
  pub rows : g.rows ≡ r
  pub cols : g.cols ≡ c
  pub worded : Worded g

pub suits_word : {r c : ℕ} {a : Grid} → Suits r c a → (i j : ℕ) → i < r → j < c → Word (a.cell i j)
suits_word s i j l m = let p = s.rows in let q = s.cols in s.worded.word i j (omega arith) (omega arith)

-- every grid of a list suits
abbrev pub All : ℕ → ℕ → List Grid → Type 0
All r c xs = (a : Grid) → a ∈ xs → Suits r c a

pub worded_same : {g h : Grid} → Same g h → Worded h → Worded g
worded_same s w = record {
  word = λ i j l m.
      let p = s.rows in let q = s.cols in
      rw (s.cell i j (omega arith) (omega arith)) (w.word i j (omega arith) (omega arith));
}

-- one merge
module _ {g : Grid} (w : Worded g) {a : Grid} (sa : Suits g.rows g.cols a) where
  pub join_worded : Worded (join g a)
  join_worded = record {
    word = λ i j l m. unite_word (g.cell i j) (a.cell i j) (w.word i j l m) (suits_word sa i j l m);
  }

  pub join_again : Same (join (join g a) a) (join g a)
  join_again = record {
    rows = refl;
    cols = refl;
    cell = λ i j l m. unite_again (g.cell i j) (a.cell i j) (w.word i j l m) (suits_word sa i j l m);
  }

  pub join_exchanged : {b : Grid} → Suits g.rows g.cols b → Same (join (join g a) b) (join (join g b) a)
  join_exchanged {b} sb = record {
    rows = refl;
    cols = refl;
    cell = λ i j l m.
        unite_exchanged (g.cell i j) (a.cell i j) (b.cell i j) (w.word i j l m) (suits_word sa i j l m)
        (suits_word sb i j l m);
  }

pub join_same : {g h : Grid} (a : Grid) → Same g h → Same (join g a) (join h a)
join_same a s = record {
  rows = s.rows;
  cols = s.cols;
  cell = λ i j l m. ap (λ (x : Cell). unite Max x (a.cell i j)) (s.cell i j l m);
}

-- a list of them
pub join_all_same : {g h : Grid} (xs : List Grid) → Same g h → Same (join_all g xs) (join_all h xs)
join_all_same {g = g} {h = h} [] s = s
join_all_same {g = g} {h = h} (a ∷ xs) s = join_all_same {g = join g a} {h = join h a} xs (join_same a s)

pub join_all_rows : (g : Grid) (xs : List Grid) → (join_all g xs).rows ≡ g.rows
join_all_rows g [] = refl
join_all_rows g (a ∷ xs) = join_all_rows (join g a) xs

pub join_all_cols : (g : Grid) (xs : List Grid) → (join_all g xs).cols ≡ g.cols
join_all_cols g [] = refl
join_all_cols g (a ∷ xs) = join_all_cols (join g a) xs

-- "in whatever order they come"
pub member_rearranged : {A : Type 0} {a : A} {xs ys : List A} → Rearranged xs ys → a ∈ ys → a ∈ xs
member_rearranged none m = m
member_rearranged (after r) here = here
member_rearranged (after r) (there m) = there (member_rearranged r m)
member_rearranged exchanged here = there here
member_rearranged exchanged (there here) = here
member_rearranged exchanged (there (there m)) = there (there m)
member_rearranged (twice p q) m = member_rearranged p (member_rearranged q m)

pub rearranged_map : {A B : Type 0} (f : A → B) {xs ys : List A} → Rearranged xs ys → Rearranged (map f xs) (map f ys)
rearranged_map f none = none
rearranged_map f (after r) = after (rearranged_map f r)
rearranged_map f exchanged = exchanged
rearranged_map f (twice p q) = twice (rearranged_map f p) (rearranged_map f q)

pub member_map : {A B : Type 0} (f : A → B) {a : A} {xs : List A} → a ∈ xs → f a ∈ map f xs
member_map f here = here
member_map f (there m) = there (member_map f m)

-- what holds of f a for each a of a list holds of each of the list of them
pub all_map : {A B : Type 0} (f : A → B) (P : B → Type 0) (xs : List A) → ((a : A) → a ∈ xs → P (f a))
    → (b : B) → b ∈ map f xs → P b
all_map f P [] h b m = elim m [ ]
all_map f P (a ∷ xs) h b here = h a here
all_map f P (a ∷ xs) h b (there m) = all_map f P xs (λ x k. h x (there k)) b m

pub join_all_rearranged : {g : Grid} {xs ys : List Grid} → Rearranged xs ys → Worded g → All g.rows g.cols xs
    → Same (join_all g xs) (join_all g ys)
join_all_rearranged {g = g} none w s = same_refl g
join_all_rearranged {g = g} (after {a = a} {xs = xs} {ys = ys} r) w s =
    join_all_rearranged {g = join g a} r (join_worded w (s a here)) (λ b m. s b (there m))
join_all_rearranged {g = g} (exchanged {a} {b} {xs}) w s =
    join_all_same xs (join_exchanged w (s a here) (s b (there here)))
join_all_rearranged {g = g} (twice p q) w s =
    same_trans (join_all_rearranged p w s) (join_all_rearranged q w (λ a m. s a (member_rearranged p m)))

-- a merge at the end is as good as one at the beginning
join_all_late : {g : Grid} (xs : List Grid) {a : Grid} → Worded g → All g.rows g.cols xs
    → Suits g.rows g.cols a → Same (join (join_all g xs) a) (join_all (join g a) xs)
join_all_late {g = g} [] w s t = same_refl _
join_all_late {g = g} (b ∷ xs) w s t =
    same_trans (join_all_late {g = join g b} xs (join_worded w (s b here)) (λ x m. s x (there m)) t)
    (join_all_same xs (join_exchanged w (s b here) t))

-- "merging one again changes nothing"
pub join_all_again : {g : Grid} {xs : List Grid} {a : Grid} → a ∈ xs → Worded g → All g.rows g.cols xs
    → Same (join (join_all g xs) a) (join_all g xs)
join_all_again {g = g} (here {a} {xs}) w s =
    same_trans (join_all_late xs (join_worded w (s a here)) (λ x m. s x (there m)) (s a here))
    (join_all_same xs (join_again w (s a here)))
join_all_again {g = g} (there {b = b} m) w s =
    join_all_again {g = join g b} m (join_worded w (s b here)) (λ x k. s x (there k))

-- a list of matrices that are all merged already changes nothing
join_all_absorbs : {g : Grid} (xs : List Grid) {ys : List Grid} → ((a : Grid) → a ∈ xs → a ∈ ys) → Worded g
    → All g.rows g.cols ys → Same (join_all (join_all g ys) xs) (join_all g ys)
join_all_absorbs [] f w s = same_refl _
join_all_absorbs (a ∷ xs) f w s =
    same_trans (join_all_same xs (join_all_again (f a here) w s)) (join_all_absorbs xs (λ b m. f b (there m)) w s)

-- two lists one after the other, either way round
join_all_either : {g : Grid} (xs ys : List Grid) → Worded g → All g.rows g.cols xs → All g.rows g.cols ys
    → Same (join_all (join_all g xs) ys) (join_all (join_all g ys) xs)
join_all_either {g = g} [] ys w s t = same_refl _
join_all_either {g = g} (a ∷ xs) ys w s t =
    same_trans (join_all_either {g = join g a} xs ys (join_worded w (s a here)) (λ b m. s b (there m)) t)
    (join_all_same xs (same_sym (join_all_late ys w t (s a here))))

-- lists of the same matrices
pub join_all_members : {g : Grid} {xs ys : List Grid} → ((a : Grid) → a ∈ xs → a ∈ ys)
    → ((a : Grid) → a ∈ ys → a ∈ xs) → Worded g → All g.rows g.cols xs → Same (join_all g xs) (join_all g ys)
join_all_members {g} {xs} {ys} f h w s =
    let t : All g.rows g.cols ys = λ a m. s a (h a m) in
    same_trans (same_sym (join_all_absorbs ys h w s))
    (same_trans (join_all_either xs ys w s t) (join_all_absorbs xs f w t))

-- entries only grow along the list
pub join_all_grows : (g : Grid) (xs : List Grid) → entry_count g ≤ entry_count (join_all g xs)
join_all_grows g [] = le_refl _
join_all_grows g (a ∷ xs) =
    let h = join_all_grows (join g a) xs in
    let k =
    flatten_fewer g.cols g.cell (join g a).cell g.rows
    (λ i j. unite_grows j (g.cell i j) (a.cell i j)) in
    omega arith

-- a list in two parts, the one after the other
pub join_all_append : {A : Type 0} (f : A → Grid) (g : Grid) (xs ys : List A)
    → join_all g (map f (xs ++ ys)) ≡ join_all (join_all g (map f xs)) (map f ys)
join_all_append f g [] ys = refl
join_all_append f g (a ∷ xs) ys = join_all_append f (join g (f a)) xs ys

pub member_append : {A : Type 0} {a : A} {xs : List A} (ys : List A) → a ∈ xs → a ∈ (xs ++ ys)
member_append ys here = here
member_append ys (there m) = there (member_append ys m)
