-- The rows of a grid one after another in two buffers: none, one more, all.
use Prim.Native.Nat.{ℕ, ◌+◌, ◌-◌, ◌≤◌, ◌<◌}
use native.Mathlib.Omega.{arith}
use native.Mathlib.Decide.{dec_lt}
use mathlib.Core.Path.{◌≡◌, refl, sym, ap, ◌∙◌}
use mathlib.Core.List.{List, ◌++◌, append-nil}
use lib.ListN.{length, take, drop, set, length-append, length-take, length-drop, length-set}
use lib.Seq.{get_or-set_same, get_or-set_other, length-take-le, take-append-add, drop-length}
use borrow.Rule.Slice.PartMut.{put_mid, Post-is}
use mir.Syntax.{w64}
use mir.Val.{Fits}
use Rattle.limits.specs.Limits.{max_cols, max_entries}
use Rattle.words.specs.Words.{at}
use Rattle.grid.specs.Grid.{Grid}
use Rattle.grid.specs.Entries.{column, value, gather, flatten, entry_count}
use Rattle.grid.proofs.Gather.{gather_skip, flatten_next, flatten_grows}
use Rattle.rows.specs.Row.{Holds}
use Rattle.rows.proofs.Holds.{holds_most}
use Rattle.encoding.specs.Encode.{entries_before}
use Rattle.matrix.specs.Layout as layout
use Rattle.matrix.specs.Layout.{grid_of}
use Rattle.operations.specs.declared.Operation.{Operation}
use Rattle.operations.specs.GridOperations.{result_grid}
use Rattle.result_rows.specs.RowInputs.{RowInputs, Buffers}
use Rattle.plain_results.specs.Rows.{Inputs, EmptyRow, Space, Rows, Skipped}

-- no rows yet
pub rows_none : (g : Grid) (starts oc ov : List ℕ) → Rows g 0 0 starts oc ov
unfolding flatten
rows_none g starts oc ov =
    record { count = refl; starts = λ k l. absurd (omega arith); columns = refl; values = refl }

-- the words behind the first n
take_behind : (n k : ℕ) (s x : List ℕ) → n ≤ length s → take (n + k) (take n s ++ x) ≡ take n s ++ take k x
take_behind n k s x a =
    ap (λ (m : ℕ). take (m + k) (take n s ++ x)) (sym (length-take-le n s a)) ∙ take-append-add (take n s) x k

-- a buffer whose words behind the first n were lent
abbrev pub lent : ℕ → List ℕ → List ℕ
lent n s = take (length s - n) (drop n s)

abbrev pub back : ℕ → List ℕ → List ℕ → List ℕ
back n s y = put_mid n (length s - n) s y

pub back_is : (n : ℕ) (s y : List ℕ) → n ≤ length s → back n s y ≡ take n s ++ y
back_is n s y l =
    ap (λ (z : List ℕ). take n s ++ (y ++ z)) (Post-is n (length s) s l ∙ drop-length s)
    ∙ ap (λ (z : List ℕ). take n s ++ z) (append-nil y)

pub lent_length : (n : ℕ) (s : List ℕ) → length (lent n s) ≡ length s - n
lent_length n s = simp (length-take, length-drop) (omega arith)

pub back_length : (n : ℕ) (s y : List ℕ) → n ≤ length s → length y ≡ length (lent n s) → length (back n s y) ≡ length s
back_length n s y l e =
    ap length (back_is n s y l) ∙ length-append (take n s) y
    ∙ omega (arith, length-take-le n s l, lent_length n s)

-- the start of one row more
starts_next : {g : Grid} {i n : ℕ} {starts oc ov : List ℕ} → Rows g i n starts oc ov → i < length starts → (m : ℕ)
    → m < i + 1 → at (set starts i n) m ≡ entries_before g m
starts_next {g} {i} {n} {starts} p r m l = go (dec_lt m i)
  where
    go : Dec (m < i) → at (set starts i n) m ≡ entries_before g m
    go (yes d) = get_or-set_other starts i m n 0 (λ e. omega arith) ∙ p.starts m d
    go (no d) = let e : m ≡ i = omega arith in rw e (get_or-set_same starts i n 0 r ∙ p.count)

-- one row more, with k entries, behind n entries
module _ {g : Grid} {i n k : ℕ} {starts oc ov : List ℕ} (p : Rows g i n starts oc ov) (a : n ≤ length oc)
    (b : n ≤ length ov) {xc xv : List ℕ} (h : Holds g.cols (g.cell i) k xc xv) where
  entries_next : entries_before g (i + 1) ≡ n + k
  entries_next =
      ap length (flatten_next column g.cols g.cell i)
      ∙ length-append (flatten column g.cols g.cell i) (gather column g.cols (g.cell i))
      ∙ omega (arith, p.count, h.count)

  pub rows_next : i < length starts → Rows g (i + 1) (n + k) (set starts i n) (take n oc ++ xc) (take n ov ++ xv)
  rows_next r = record {
    count = sym entries_next;
    starts = starts_next p r;
    columns = take_behind n k oc xc a ∙ rw (p.columns, h.columns) (sym (flatten_next column g.cols g.cell i));
    values = take_behind n k ov xv b ∙ rw (p.values, h.values) (sym (flatten_next value g.cols g.cell i));
  }

  -- more entries than a matrix may have
  pub rows_full : i < g.rows → max_entries < n + k → max_entries < entry_count g
  rows_full l f = omega (arith, entries_next, flatten_grows column g.cols g.cell (i + 1) g.rows (omega arith))

-- one row more, without entries
module _ (g : Grid) (i : ℕ) (e : EmptyRow g i) where
  flatten_same : (emit : ℕ → ℕ → ℕ) → flatten emit g.cols g.cell i ≡ flatten emit g.cols g.cell (i + 1)
  unfolding gather
  flatten_same emit =
      sym (flatten_next emit g.cols g.cell i
      ∙ ap (λ (x : List ℕ). flatten emit g.cols g.cell i ++ x)
      (gather_skip emit (g.cell i) 0 g.cols (omega arith) (λ j l m. e j))
      ∙ append-nil (flatten emit g.cols g.cell i))

  rows_empty : {n : ℕ} {starts oc ov : List ℕ} → Rows g i n starts oc ov → i < length starts
      → Rows g (i + 1) n (set starts i n) oc ov
  rows_empty p r = record {
    count = p.count ∙ ap length (flatten_same column);
    starts = starts_next p r;
    columns = p.columns ∙ flatten_same column;
    values = p.values ∙ flatten_same value;
  }

-- the loop over rows without entries: none yet, and one more
pub skipped_none : {g : Grid} {total i n : ℕ} {starts : List ℕ} → i ≤ total → Skipped g total i n starts i starts
skipped_none l = record { rises = omega arith; within = l; size = refl; passes = λ oc ov p. p }

pub skipped_next : {g : Grid} {total i n r : ℕ} {st st' : List ℕ} → Skipped g total i n st r st' → EmptyRow g r
    → r < total → r < length st' → Skipped g total i n st (r + 1) (set st' r n)
skipped_next {g} {n = n} {r} {st' = st'} s e l m = record {
  rises = omega (arith, s.rises);
  within = omega arith;
  size = length-set st' r n ∙ s.size;
  passes = λ oc ov p. rows_empty g r e (s.passes oc ov p) m;
}

-- the loop over the rows of T: i of them are passed, with n entries
pub record Passed (op : Operation) (a b c is js : List ℕ) (total n i : ℕ) (starts oc ov : List ℕ) : Type 0 where
  pub inputs : Inputs op a b c is js
  pub rows_are : total ≡ layout.rows c
  pub within : i ≤ total
  pub few : n ≤ max_entries
  pub space : Space starts oc ov
  pub rows : Rows (result_grid op (grid_of a) (grid_of b) (grid_of c) is js) i n starts oc ov

module _ (op : Operation) (a b c is js : List ℕ) where
  -- T
  abbrev T : Grid
  T = result_grid op (grid_of a) (grid_of b) (grid_of c) is js

  pub passed_none : {total : ℕ} {starts oc ov : List ℕ} → Inputs op a b c is js → Space starts oc ov
      → total ≡ layout.rows c → Passed op a b c is js total 0 0 starts oc ov
  passed_none {starts = starts} {oc} {ov} h s e = record {
    inputs = h;
    rows_are = e;
    within = omega arith;
    few = omega arith;
    space = s;
    rows = rows_none T starts oc ov;
  }

  module _ {total n i : ℕ} {starts oc ov : List ℕ} (p : Passed op a b c is js total n i starts oc ov) where
    -- the rows are all passed
    pub passed_all : total ≤ i → (n ≤ max_entries) × Rows T T.rows n starts oc ov
    passed_all l =
        let e : i ≡ T.rows = omega (arith, p.within, p.rows_are, p.inputs.same_rows) in
        (p.few, rw e at p.rows)

    pub columns_room : n ≤ length oc
    columns_room = omega (arith, p.few, p.space.columns)

    pub values_room : n ≤ length ov
    values_room = omega (arith, p.few, p.space.values)

    cols_most : T.cols ≤ max_cols
    cols_most = omega (arith, p.inputs.same_cols, p.inputs.output.header.col_range.most)

    -- the rows up to r have no entries
    pub passed_skip : {r : ℕ} {st' : List ℕ} → Skipped T (layout.rows c) i n starts r st'
        → Passed op a b c is js total n r st' oc ov
    passed_skip s = record {
      inputs = p.inputs;
      rows_are = p.rows_are;
      within = omega (arith, s.within, p.rows_are);
      few = p.few;
      space = record {
        starts = omega (arith, s.size, p.space.starts);
        columns = p.space.columns;
        values = p.space.values;
      };
      rows = s.passes oc ov p.rows;
    }

    -- what the next row needs
    pub row_needs_lem : i < total → RowInputs op a b c is js i × Buffers T (lent n oc) (lent n ov)
    row_needs_lem l = (
      p.inputs.row i (omega (arith, p.rows_are)),
      record {
        columns = omega (arith, cols_most, lent_length n oc, p.few, p.space.columns);
        values = omega (arith, cols_most, lent_length n ov, p.few, p.space.values);
      },
    )

    pub counter_fits : i < total → Fits w64 (i + 1)
    counter_fits l = record { fits = omega (arith, p.rows_are, p.inputs.output.header.row_range.most) }

    -- the next row, with k entries
    module _ {k : ℕ} {xc xv : List ℕ} (h : Holds T.cols (T.cell i) k xc xv) where
      pub sum_fits : Fits w64 (n + k)
      sum_fits = record { fits = omega (arith, holds_most h, cols_most, p.few) }

      pub passed_full : i < total → max_entries < n + k → max_entries < entry_count T
      passed_full l f = rows_full p.rows columns_room values_room h (omega (arith, p.rows_are, p.inputs.same_rows)) f

      pub passed_next : i < total → n + k ≤ max_entries → length xc ≡ length (lent n oc) → length xv ≡ length (lent n ov)
          → Passed op a b c is js total (n + k) (i + 1) (set starts i n) (back n oc xc) (back n ov xv)
      passed_next l f y z = record {
        inputs = p.inputs;
        rows_are = p.rows_are;
        within = omega arith;
        few = f;
        space = record {
          starts = simp length-set p.space.starts;
          columns = omega (arith, back_length n oc xc columns_room y, p.space.columns);
          values = omega (arith, back_length n ov xv values_room z, p.space.values);
        };
        rows = rw (back_is n oc xc columns_room, back_is n ov xv values_room)
            (rows_next p.rows columns_room values_room h
            (omega (arith, p.rows_are, p.inputs.output.header.row_range.most, p.space.starts)));
      }
