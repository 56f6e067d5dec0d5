-- The loop over row i of a matrix that puts each entry into the next slot of its column, a row of the transposed grid:
-- the stores of a turn, and the turns.
use Rattle.std.proofs.Common.{None, Some}
use Prim.Native.Nat.{ℕ, ◌+◌, ◌≤◌, ◌<◌}
use native.Mathlib.Omega.{arith}
use mathlib.Core.Path.{◌≡◌, refl, ◌∙◌}
use mathlib.Core.List.{List}
use lib.ListN.{length, set, length-set}
use lib.Seq.{get_or-set_same, get_or-set_other}
use Rattle.words.specs.Words.{at}
use Rattle.grid.specs.Grid.{Grid}
use Rattle.grid.specs.Entries.{column, value, entry_count}
use Rattle.rows.specs.Row.{Row, lookup}
use Rattle.rows.proofs.Found.{lookup_absent, lookup_at}
use Rattle.matrix.specs.Layout.{cols, row_columns, row_values, cell_of, grid_of}
use Rattle.matrix.specs.Facts.{RowSpan}
use Rattle.encoding.specs.Encode.{entries_before}
use Rattle.operations.specs.GridOperations.{transposed}
use Rattle.transpose.specs.Placed.{filled, RowPlaced, Placed, Room}
use Rattle.transpose.proofs.Traversal.{Traversal, traversal_start, traversal_step, traversal_done}
use Rattle.transpose.proofs.Slots.{
  filled_grows,
  filled_more,
  filled_same,
  slot_within,
  slots_apart,
  slots_keep,
  slots_same,
  slots_more,
}

-- words of the same length have the same room
pub room_kept : {g : Grid} {n : ℕ} {next s next' s' : List ℕ} → Room g n next s → length next' ≡ length next
    → length s' ≡ length s → Room g n next' s'
room_kept r e f = record {
  entries_are = r.entries_are;
  few = r.few;
  rows_fit = omega (arith, r.rows_fit);
  sections_fit = f ∙ r.sections_fit;
}

-- no entry in column i: row j has as much as with one column more
row_same : {g : Grid} {i j : ℕ} {next s : List ℕ} → g.cell j i ≡ None → RowPlaced g i next s j
    → RowPlaced g (i + 1) next s j
row_same {g} {i} {j} {next} {s} e h = record {
  next_place = h.next_place ∙ omega (arith, filled_same g i j e);
  columns = slots_same column 1 g i s j e h.columns;
  values = slots_same value (entry_count g + 2) g i s j e h.values;
}

-- after a turn: the next places with one more for row c, and the sections with the entry v of column i at place x
abbrev pub advanced : List ℕ → ℕ → List ℕ
advanced next c = set next c (at next c + 1)

abbrev pub stored : List ℕ → ℕ → ℕ → ℕ → ℕ → List ℕ
stored s x n i v = set (set s (x + 1) i) (x + n + 2) v

-- a turn that meets the entry v in column i of row c
module _ {g : Grid} {n i c v : ℕ} {next s : List ℕ} (room : Room g n next s) (c_row : c < g.rows) (i-col : i < g.cols)
    (there : g.cell c i ≡ Some v) (h : RowPlaced g i next s c) where
  -- the slot is one of row c
  slot_free : filled g i c < filled g g.cols c
  slot_free = omega (arith, filled_more g i c there, filled_grows g (i + 1) c (omega arith))

  -- and among all of them
  slot_bound : at next c < entry_count g
  slot_bound = omega (arith, h.next_place, slot_within g c (filled g i c) c_row slot_free)

  -- row c has an entry more
  row_more : RowPlaced g (i + 1) (advanced next c) (stored s (at next c) n i v) c
  row_more =
      let x = at next c in
      let bound = slot_bound in
      let long = length-set s (x + 1) i in
      record {
        next_place =
            get_or-set_same next c (x + 1) 0 (omega arith) ∙ omega (arith, h.next_place, filled_more g i c there);
        columns =
            slots_keep column 1 g (i + 1) (set s (x + 1) i) c (x + n + 2) v
            (λ k u e. omega (arith, slot_within g c k c_row (omega (arith, filled_grows g (i + 1) c (omega arith)))))
            (slots_more column 1 g i s c v (x + 1) there (omega (arith, h.next_place)) (omega arith) h.columns);
        values =
            slots_more value (entry_count g + 2) g i (set s (x + 1) i) c v (x + n + 2) there
            (omega (arith, h.next_place)) (omega arith)
            (slots_keep value (entry_count g + 2) g i s c (x + 1) i (λ k u e. omega arith) h.values);
      }

  -- another row keeps its entries
  row_keep : (m j : ℕ) → m ≤ g.cols → j < g.rows → (j ≡ c → ⊥) → RowPlaced g m next s j
      → RowPlaced g m (advanced next c) (stored s (at next c) n i v) j
  row_keep m j l r d w =
      let x = at next c in
      let bound = slot_bound in
      record {
        next_place = get_or-set_other next c j (x + 1) 0 d ∙ w.next_place;
        columns =
            slots_keep column 1 g m (set s (x + 1) i) j (x + n + 2) v
            (λ k u e. omega (arith, slot_within g j k r (omega (arith, filled_grows g m j l))))
            (slots_keep column 1 g m s j (x + 1) i (λ k u e. apart k u (omega arith)) w.columns);
        values =
            slots_keep value (entry_count g + 2) g m (set s (x + 1) i) j (x + n + 2) v
            (λ k u e. apart k u (omega arith))
            (slots_keep value (entry_count g + 2) g m s j (x + 1) i (λ k u e. omega arith) w.values);
      }
    where
      -- its slots are not the one of the turn
      apart : (k : ℕ) → k < filled g m j → entries_before g j + k ≡ at next c → ⊥
      apart k u e =
          slots_apart g j c k (filled g i c) d (omega (arith, filled_grows g m j l)) slot_free (e ∙ h.next_place)

-- the entries of row i of the matrix are those of column i of the grid
pub record Source (g : Grid) (i : ℕ) (columns values : List ℕ) : Type 0 where
  pub within : i < g.cols
  pub row : Row g.rows columns values
  pub cells : (j : ℕ) → g.cell j i ≡ lookup columns values j

-- row i of a matrix, as it is taken out
pub row_source : (a : List ℕ) {i : ℕ} {columns values : List ℕ} → RowSpan a i
    → Row (cols a) (row_columns a i) (row_values a i) → columns ≡ row_columns a i → values ≡ row_values a i
    → Source (transposed (grid_of a)) i columns values
unfolding cell_of
row_source a r w e f = record { within = r.row; row = rw (e, f) w; cells = λ j. rw (e, f) }

-- if j is a row of the grid, it has its entries of the first i columns
abbrev pub IfRow : Grid → ℕ → List ℕ → List ℕ → ℕ → Type 0
IfRow g i next s j = j < g.rows → RowPlaced g i next s j

-- the loop has placed the first k entries of row i
pub record Placing (g : Grid) (i : ℕ) (columns next₀ s₀ next s : List ℕ) (k : ℕ) : Type 0 where
  pub long_next : length next ≡ length next₀
  pub long_sections : length s ≡ length s₀
  pub entries : Traversal columns (IfRow g i next s) (IfRow g (i + 1) next s) k

-- none of them yet
pub placing_start : {g : Grid} {i : ℕ} {columns values next s : List ℕ} → Source g i columns values
    → Placed g i next s → Placing g i columns next s next s 0
placing_start {g} {i} {columns} {values} src h = record {
  long_next = refl;
  long_sections = refl;
  entries = traversal_start (λ j m l. row_same (src.cells j ∙ lookup_absent columns values j m) (h.row j l)) h.row;
}

-- what a turn finds: the column is a row of the grid, it has a value beside it, and its next place is that of a slot
pub record Turn (g : Grid) (columns values next : List ℕ) (k : ℕ) : Type 0 where
  pub row_in : at columns k < g.rows
  pub value_in : k < length values
  pub place_in : at next (at columns k) < entry_count g

module _ {g : Grid} {n i k : ℕ} {columns values next₀ s₀ next s : List ℕ} (src : Source g i columns values)
    (room : Room g n next₀ s₀) (h : Placing g i columns next₀ s₀ next s k) (l : k < length columns) where
  -- the cell of entry k
  there : g.cell (at columns k) i ≡ Some (at values k)
  there =
      src.cells (at columns k)
      ∙ lookup_at columns values k src.row.even l (λ m u. src.row.rises.up m k u l)

  -- its row of the grid waits for it
  here : RowPlaced g i next s (at columns k)
  here = h.entries.pending k (omega arith) l (src.row.small k l)

  -- there is the room that there was
  room_now : Room g n next s
  room_now = room_kept room h.long_next h.long_sections

  -- the numbers of a turn
  pub placing_turn : Turn g columns values next k
  placing_turn = record {
    row_in = src.row.small k l;
    value_in = omega (arith, src.row.even);
    place_in = slot_bound room_now (src.row.small k l) src.within there here;
  }

  -- a turn of the loop
  pub placing_step : Placing g i columns next₀ s₀ (advanced next (at columns k))
      (stored s (at next (at columns k)) n i (at values k)) (k + 1)
  placing_step =
      let c = at columns k in
      let c_row = src.row.small k l in
      let x = at next c in
      let v = at values k in
      let t = placing_turn in
      let keep = row_keep room_now c_row src.within there here in
      record {
        long_next = length-set next c (x + 1) ∙ h.long_next;
        long_sections = length-set (set s (x + 1) i) (x + n + 2) v ∙ length-set s (x + 1) i ∙ h.long_sections;
        entries = traversal_step h.entries src.row.rises l
            (λ w r. row_more room_now c_row src.within there here)
            (λ j d w r. keep (i + 1) j (omega (arith, src.within)) r d (w r))
            (λ j d w r. keep i j (omega (arith, src.within)) r d (w r));
      }

-- after the last entry every row has its entries of one column more
pub placing_done : {g : Grid} {i k : ℕ} {columns next₀ s₀ next s : List ℕ}
    → Placing g i columns next₀ s₀ next s k → length columns ≤ k → Placed g (i + 1) next s
placing_done h l = record { row = traversal_done h.entries l }
