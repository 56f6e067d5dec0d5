-- Where the entries of each row of a grid go: the slots of two rows lie apart, and a store into the next slot of a row
-- adds an entry there and keeps the others.
use Rattle.std.proofs.Common.{None, Some}
use Prim.Native.Nat.{ℕ, zero, suc, ◌+◌, ◌≤◌, ◌<◌}
use native.Mathlib.Omega.{arith}
use native.Mathlib.Decide.{dec_lt, ℕ_discrete}
use native.Mathlib.Numerals.{add-one}
use mathlib.Core.Path.{◌≡◌, sym, ap, ◌∙◌}
use mathlib.Core.List.{List, [], ◌∷◌, ◌++◌, append-nil}
use lib.ListN.{length, set, length-append, get_or-append}
use lib.Seq.{get_or_at, get_or-set_same, get_or-set_other}
use Rattle.words.specs.Words.{at}
use Rattle.grid.specs.Cell.{Cell}
use Rattle.grid.specs.Grid.{Grid}
use Rattle.grid.specs.Entries.{column, one, gather, entry_count}
use Rattle.grid.proofs.Gather.{gather_length, flatten_next, flatten_grows}
use Rattle.encoding.specs.Encode.{entries_before}
use Rattle.transpose.specs.Placed.{filled, Slots}

-- a row with one column more
module _ (emit : ℕ → ℕ → ℕ) (row : ℕ → Cell) (i : ℕ) where
  -- an entry more
  pub gather_present : {v : ℕ} → row i ≡ Some v → gather emit (i + 1) row ≡ gather emit i row ++ (emit i v ∷ [])
  unfolding gather one
  gather_present e = rw (add-one i, e)

  -- none
  pub gather_absent : row i ≡ None → gather emit (i + 1) row ≡ gather emit i row
  unfolding gather one
  gather_absent e = rw (add-one i, e, append-nil)

-- a row has no fewer entries in more columns
gather_grows : (emit : ℕ → ℕ → ℕ) (row : ℕ → Cell) (i n : ℕ) → i ≤ n
    → length (gather emit i row) ≤ length (gather emit n row)
unfolding gather
gather_grows emit row i zero l = let e : i ≡ zero = omega arith in rw e (omega arith)
gather_grows emit row i (suc n) l = go (ℕ_discrete i (suc n)) (λ d. gather_grows emit row i n d)
  where
    go : Dec (i ≡ suc n) → (i ≤ n → length (gather emit i row) ≤ length (gather emit n row))
        → length (gather emit i row) ≤ length (gather emit n row ++ one emit n (row n))
    go (yes e) f = rw e (omega arith)
    go (no d) f = rw length-append (omega (arith, f (omega arith)))

module _ (g : Grid) where
  -- the entries of row j come between its start and the next
  pub start_next : (j : ℕ) → entries_before g (j + 1) ≡ entries_before g j + filled g g.cols j
  start_next j = ap length (flatten_next column g.cols g.cell j) ∙ simp length-append

  -- starts never fall
  pub start_grows : (j k : ℕ) → j ≤ k → entries_before g j ≤ entries_before g k
  start_grows = flatten_grows column g.cols g.cell

  -- no row has more than all its entries
  pub filled_grows : (i j : ℕ) → i ≤ g.cols → filled g i j ≤ filled g g.cols j
  filled_grows i j l = gather_grows column (g.cell j) i g.cols l

  -- with one column more a row has an entry more
  pub filled_more : (i j : ℕ) {v : ℕ} → g.cell j i ≡ Some v → filled g (i + 1) j ≡ filled g i j + 1
  filled_more i j e = ap length (gather_present column (g.cell j) i e) ∙ simp length-append

  -- or as many
  pub filled_same : (i j : ℕ) → g.cell j i ≡ None → filled g (i + 1) j ≡ filled g i j
  filled_same i j e = ap length (gather_absent column (g.cell j) i e)

  -- a slot of row j is among all of them
  pub slot_within : (j k : ℕ) → j < g.rows → k < filled g g.cols j → entries_before g j + k < entry_count g
  slot_within j k l u = omega (arith, start_next j, start_grows (j + 1) g.rows (omega arith))

  -- slots of two rows are not the same
  pub slots_apart : (j c k x : ℕ) → (j ≡ c → ⊥) → k < filled g g.cols j → x < filled g g.cols c
      → entries_before g j + k ≡ entries_before g c + x → ⊥
  slots_apart j c k x d u w e = go (dec_lt j c)
    where
      go : Dec (j < c) → ⊥
      go (yes l) = omega (arith, start_next j, start_grows (j + 1) c (omega arith))
      go (no l) = omega (arith, start_next c, start_grows (c + 1) j (omega arith))

-- a section of columns or values that begins at word b of s
module _ (emit : ℕ → ℕ → ℕ) (b : ℕ) (g : Grid) (i : ℕ) (s : List ℕ) (j : ℕ) where
  -- a store elsewhere keeps the slots of row j
  pub slots_keep : (p y : ℕ) → ((k : ℕ) → k < filled g i j → b + (entries_before g j + k) ≡ p → ⊥)
      → Slots emit b g i s j → Slots emit b g i (set s p y) j
  slots_keep p y d h k u = get_or-set_other s p (b + (entries_before g j + k)) y 0 (d k u) ∙ h k u

  -- no entry in column i: the slots are those of one column more
  pub slots_same : g.cell j i ≡ None → Slots emit b g i s j → Slots emit b g (i + 1) s j
  slots_same e h k u = rw (gather_absent emit (g.cell j) i e) (h k (omega (arith, filled_same g i j e)))

  -- an entry in column i goes into the next slot
  pub slots_more : (v p : ℕ) → g.cell j i ≡ Some v → p ≡ b + (entries_before g j + filled g i j) → p < length s
      → Slots emit b g i s j → Slots emit b g (i + 1) (set s p (emit i v)) j
  slots_more v p e q l h k u =
      rw (gather_present emit (g.cell j) i e) (go (dec_lt k (filled g i j)))
    where
      -- there are as many items as entries
      long : length (gather emit i (g.cell j)) ≡ filled g i j
      long = gather_length emit column i (g.cell j)

      -- an item that was there, or the new one
      go : Dec (k < filled g i j)
          → at (set s p (emit i v)) (b + (entries_before g j + k)) ≡ at (gather emit i (g.cell j) ++ (emit i v ∷ [])) k
      go (yes d) =
          get_or-set_other s p (b + (entries_before g j + k)) (emit i v) 0 (λ z. omega arith)
          ∙ h k d
          ∙ sym (get_or-append (gather emit i (g.cell j)) (emit i v ∷ []) 0 k (omega (arith, long)))
      go (no d) =
          let z : b + (entries_before g j + k) ≡ p = omega (arith, filled_more g i j e) in
          rw z
          (get_or-set_same s p (emit i v) 0 l
          ∙ sym (get_or_at (gather emit i (g.cell j)) (emit i v) [] 0 k (omega (arith, filled_more g i j e, long))))
