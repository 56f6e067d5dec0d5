-- The sections of columns and values, from the first row that is placed to the last: before it every slot is free, and
-- behind it the sections are those of the grid.
use Prim.Native.Nat.{ℕ, zero, suc, ◌+◌, ◌≤◌, ◌<◌}
use native.Mathlib.Omega.{arith}
use native.Mathlib.Nat.{add-zero, le_refl}
use native.Mathlib.Numerals.{add-one}
use mathlib.Core.Path.{◌≡◌, refl, sym, ap, ◌∙◌}
use mathlib.Core.List.{List}
use lib.ListN.{length}
use lib.Seq.{ext_get_or}
use Rattle.words.specs.Words.{at, part}
use Rattle.words.proofs.Parts.{part_empty, length_part, part_append, part_at}
use Rattle.grid.specs.Grid.{Grid}
use Rattle.grid.specs.Entries.{column, value, gather, flatten, entry_count}
use Rattle.grid.proofs.Gather.{gather_length, flatten_next}
use Rattle.encoding.specs.Encode.{entries_before}
use Rattle.transpose.specs.Placed.{EntrySections, Slots, Placed, Room, Ready}
use Rattle.transpose.proofs.Slots.{start_next, start_grows}
use Rattle.transpose.proofs.Placing.{room_kept}

-- the loop has placed i rows of the matrix
pub record RowsPlaced (g : Grid) (n : ℕ) (next₀ next s : List ℕ) (i : ℕ) : Type 0 where
  pub within : i ≤ g.cols
  pub long_next : length next ≡ length next₀
  pub room : Room g n next s
  pub placed : Placed g i next s

-- before the first row every slot is free
pub placed_none : {g : Grid} {n : ℕ} {next s : List ℕ} → Ready g next s → n ≡ entry_count g
    → RowsPlaced g n next next s 0
unfolding gather
placed_none {g} h e = record {
  within = omega arith;
  long_next = refl;
  room = record {
    entries_are = e;
    few = h.room.few;
    rows_fit = h.room.rows_fit;
    sections_fit = h.room.sections_fit;
  };
  placed = record {
    row = λ j l. record {
      next_place = h.starts j l ∙ sym (add-zero (entries_before g j));
      columns = λ k u. absurd (omega arith);
      values = λ k u. absurd (omega arith);
    };
  };
}

-- a row more is placed
pub placed_next : {g : Grid} {n i : ℕ} {next₀ next s next' s' : List ℕ} → RowsPlaced g n next₀ next s i → i < g.cols
    → length next' ≡ length next → length s' ≡ length s → Placed g (i + 1) next' s'
    → RowsPlaced g n next₀ next' s' (i + 1)
placed_next h l e f p = record {
  within = omega arith;
  long_next = e ∙ h.long_next;
  room = room_kept h.room e f;
  placed = p;
}

-- a section that begins at word b of s, where every row has all its slots
module _ (emit : ℕ → ℕ → ℕ) (b : ℕ) (g : Grid) (s : List ℕ) (fits : b + entry_count g ≤ length s)
    (slots : (j : ℕ) → j < g.rows → Slots emit b g g.cols s j) where
  -- the columns or the values of row j
  row_part : (j : ℕ) → j < g.rows
      → part (b + entries_before g j) (b + entries_before g (j + 1)) s ≡ gather emit g.cols (g.cell j)
  row_part j l =
      let next = start_next g j in
      let top = start_grows g (j + 1) g.rows (omega arith) in
      let from = b + entries_before g j in
      let to = b + entries_before g (j + 1) in
      let m = length_part from to s (omega arith) in
      let k = gather_length emit column g.cols (g.cell j) in
      ext_get_or 0 (part from to s) (gather emit g.cols (g.cell j)) (m ∙ omega arith)
      (λ p u. part_at from to p s (omega arith) ∙ ap (at s) (omega arith) ∙ slots j l p (omega arith))

  -- those of the first k rows
  rows_part : (k : ℕ) → k ≤ g.rows → part b (b + entries_before g k) s ≡ flatten emit g.cols g.cell k
  unfolding flatten
  rows_part zero l = rw (add-zero b, part_empty b s)
  rows_part (suc k) l = rw (add-one k) at (go (rows_part k (omega arith)))
    where
      -- one row more
      go : part b (b + entries_before g k) s ≡ flatten emit g.cols g.cell k
          → part b (b + entries_before g (k + 1)) s ≡ flatten emit g.cols g.cell (k + 1)
      go e =
          let up = start_grows g k (k + 1) (omega arith) in
          part_append b (b + entries_before g k) (b + entries_before g (k + 1)) s (omega arith) (omega arith)
          ∙ rw (e, row_part k l) (sym (flatten_next emit g.cols g.cell k))

  -- those of all rows
  section_part : part b (b + entry_count g) s ≡ flatten emit g.cols g.cell g.rows
  section_part = rows_part g.rows (le_refl g.rows)

-- when every row is placed, the sections are those of the grid
pub placed_all : {g : Grid} {next s : List ℕ} → Placed g g.cols next s
    → length s ≡ entry_count g + entry_count g + 2 → EntrySections g s
placed_all {g} {next} {s} h long = record {
  columns = section_part column 1 g s (omega arith) (λ j l. (h.row j l).columns);
  values = section_part value (entry_count g + 2) g s (omega arith) (λ j l. (h.row j l).values);
}
