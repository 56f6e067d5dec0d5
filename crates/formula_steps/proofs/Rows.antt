-- The rows of T in the third region: none, one more, all.
use Prim.Native.Nat.{ℕ, ◌+◌, ◌-◌, ◌*◌, ◌≤◌, ◌<◌}
use native.Mathlib.Omega.{arith}
use mathlib.Core.Path.{◌≡◌, refl, sym, ap, subst, ◌∙◌}
use mathlib.Core.Bool.{false≢true}
use mathlib.Core.List.{List, [], ◌++◌, append-nil}
use lib.ListN.{length, take, drop, take-append-drop, length-append, length-drop, length-take}
use lib.Seq.{length-take-le, take-length, drop-length, drop_at, take-append-le, take-take}
use mir.Syntax.{w64}
use mir.Val.{Fits}
use borrow.Rule.Slice.PartMut.{put_mid, Post-is}
use Rattle.limits.specs.Limits.{max_entries}
use Rattle.words.proofs.Parts.{part_within}
use Rattle.grid.specs.Grid.{Grid}
use Rattle.grid.specs.Entries.{column, value, gather, flatten, entry_count}
use Rattle.grid.proofs.Gather.{gather_length, flatten_next, flatten_grows}
use Rattle.rows.specs.Row.{Holds}
use Rattle.rows.proofs.Holds.{holds_most}
use Rattle.matrix.specs.Layout.{max_matrix_words}
use Rattle.encoding.specs.Encode.{entries_before}
use Rattle.operations.specs.declared.Operation.{Operation}
use Rattle.result_rows.specs.RowInputs.{RowInputs, Buffers}
use Rattle.results.specs.Staging.{RowBounds, staged_row, Staged}
use Rattle.results.proofs.Staged.{staged_more}
use Rattle.formula_steps.specs.Steps.{left_words, right_words, result_at, words_grid, Staging, Advanced, Gathered}

-- ---- the third region and what follows, lent and given back
abbrev pub tail : List ℕ → List ℕ
tail w = take (length w - result_at) (drop result_at w)

-- it is all from there on
pub tail_is : (w : List ℕ) → tail w ≡ drop result_at w
tail_is w = ap (λ (k : ℕ). take k (drop result_at w)) (sym (length-drop result_at w)) ∙ take-length (drop result_at w)

-- the area where it comes back as y
abbrev pub back : List ℕ → List ℕ → List ℕ
back w y = put_mid result_at (length w - result_at) w y

module _ (w y : List ℕ) (l : 3 * max_matrix_words ≤ length w) where
  -- the first two regions, and then y
  pub back_is : back w y ≡ take result_at w ++ y
  back_is =
      ap (λ (z : List ℕ). take result_at w ++ (y ++ z)) (Post-is result_at (length w) w (omega arith) ∙ drop-length w)
      ∙ ap (λ (z : List ℕ). take result_at w ++ z) (append-nil y)

  front : length (take result_at w) ≡ result_at
  front = length-take-le result_at w (omega arith)

  -- its length stays
  pub back_length : length y ≡ length (tail w) → length (back w y) ≡ length w
  back_length e =
      ap length back_is ∙ length-append (take result_at w) y
      ∙ omega (arith, front, ap length (tail_is w), length-drop result_at w)

  -- y stands in the third region
  pub back_tail : drop result_at (back w y) ≡ y
  back_tail = ap (drop result_at) back_is ∙ drop_at (take result_at w) y result_at front

  -- the operands keep their words
  pub left_back : left_words (back w y) ≡ left_words w
  left_back =
      ap left_words back_is ∙ take-append-le max_matrix_words (take result_at w) y (omega (arith, front))
      ∙ take-take max_matrix_words result_at w (omega arith)

  pub right_back : right_words (back w y) ≡ right_words w
  right_back =
      let k : 2 * max_matrix_words ≤ length (take result_at w) = omega (arith, front) in
      ap right_words back_is ∙ part_within (take result_at w) y max_matrix_words (2 * max_matrix_words) (omega arith) k
      ∙ sym (part_within (take result_at w) (drop result_at w) max_matrix_words (2 * max_matrix_words) (omega arith) k)
      ∙ ap right_words (take-append-drop result_at w)

-- ---- the operands by other names: `advance` names them by the area, `all_rows` by the area at its start
-- for the call of `advance`
pub staging_own : {op : Operation} {a b : List ℕ} {rows i n : ℕ} {w tc tv : List ℕ} → Staging op a b rows i n w tc tv
    → Staging op (left_words w) (right_words w) rows i n w tc tv
staging_own {op} {a} {b} {rows} {i} {n} {w} {tc} {tv} p =
    let h : Staging op (left_words w) b rows i n w tc tv =
    subst (λ (x : List ℕ). Staging op x b rows i n w tc tv) (sym p.left) p in
    subst (λ (x : List ℕ). Staging op (left_words w) x rows i n w tc tv) (sym p.right) h

-- after the call
pub advanced_own : {op : Operation} {a b : List ℕ} {rows i n m : ℕ} {w tc tv w' tc' tv' : List ℕ}
    → Staging op a b rows i n w tc tv → Advanced op (left_words w) (right_words w) rows i m w' tc' tv'
    → Advanced op a b rows i m w' tc' tv'
advanced_own {op} {a} {b} {rows} {i} {n} {m} {w} {tc} {tv} {w'} {tc'} {tv'} p q =
    let h : Advanced op a (right_words w) rows i m w' tc' tv' =
    subst (λ (x : List ℕ). Advanced op x (right_words w) rows i m w' tc' tv') p.left q in
    subst (λ (x : List ℕ). Advanced op a x rows i m w' tc' tv') p.right h

-- ---- one more row
module _ {op : Operation} {rows i n : ℕ} {w tc tv : List ℕ}
    (p : Staging op (left_words w) (right_words w) rows i n w tc tv) where
  abbrev g : Grid
  g = words_grid op (left_words w) (right_words w)

  -- what `row_of` asks for
  pub row_inputs : i < rows → RowInputs op (left_words w) (right_words w) (left_words w) [] [] i
  row_inputs l = record {
    first = p.ready.left;
    second = λ h. p.ready.right;
    inverses = λ h. absurd (false≢true (sym p.ready.lists ∙ h));
    output = p.ready.left;
    agree = p.agree;
    lists = rw p.ready.lists refl;
    row = omega (arith, p.rows_are);
  }

  -- room for a row
  pub row_buffers : Buffers g tc tv
  row_buffers =
      let c = p.ready.col_range.most in
      record { columns = omega (arith, p.columns); values = omega (arith, p.values) }

  -- row i is in tc' and tv', with k entries
  module _ (l : i < rows) {k : ℕ} {tc' tv' : List ℕ} (h : Holds g.cols (g.cell i) k tc' tv') where
    -- as many columns and values are there
    pub columns_length : length (take k tc') ≡ k
    columns_length = ap length h.columns ∙ sym h.count

    pub values_length : length (take k tv') ≡ k
    values_length = ap length h.values ∙ gather_length value column g.cols (g.cell i) ∙ sym h.count

    -- the parts that are lent to `stage_row` are there
    pub columns_fit : k ≤ length tc'
    columns_fit = omega (arith, simp length-take at columns_length)

    pub values_fit : k ≤ length tv'
    values_fit = omega (arith, simp length-take at values_length)

    -- the sum fits a word
    pub next_fits : Fits w64 (n + k)
    next_fits =
        let c = p.ready.col_range.most in
        let o = holds_most h in
        let f = p.few in
        record { fits = omega arith }

    -- the entries of the first i + 1 rows
    entries_next : entries_before g (i + 1) ≡ n + k
    entries_next =
        ap length (flatten_next column g.cols g.cell i)
        ∙ length-append (flatten column g.cols g.cell i) (gather column g.cols (g.cell i))
        ∙ omega (arith, p.staged.count, h.count)

    -- too many after this row are too many in all
    row_full : max_entries < n + k → max_entries < entry_count g
    row_full f =
        omega (
          arith,
          entries_next,
          flatten_grows column g.cols g.cell (i + 1) g.rows (omega (arith, p.rows_are)),
        )

    -- too many entries: nothing is staged
    pub advanced_full : max_entries < n + k → (w' tc'' tv'' : List ℕ)
        → Advanced op (left_words w) (right_words w) rows i (n + k) w' tc'' tv''
    advanced_full f w' tc'' tv'' = record { more = λ o. absurd (omega arith); full = row_full }

    -- what `stage_row` asks for
    pub row_bounds : n + k ≤ max_entries → RowBounds rows i n (take k tc') (take k tv') (tail w)
    row_bounds f = record {
      rows = omega (arith, p.rows_are, p.ready.row_range.most);
      row = l;
      even = values_length ∙ sym columns_length;
      few = omega (arith, columns_length);
      space = omega (arith, ap length (tail_is w), length-drop result_at w, p.space);
    }

    -- the row is staged
    pub advanced_more : n + k ≤ max_entries → (y : List ℕ)
        → y ≡ staged_row rows i n (take k tc') (take k tv') (tail w) → length y ≡ length (tail w)
        → length tc' ≡ length tc → length tv' ≡ length tv
        → Advanced op (left_words w) (right_words w) rows i (n + k) (back w y) tc' tv'
    advanced_more f y e z ec ev =
        let t : Staged g (i + 1) (n + k) (staged_row rows i n (take k tc') (take k tv') (tail w)) =
        rw (p.rows_are, tail_is w) (rw columns_length at (staged_more g i n (take k tc') (take k tv') (drop result_at w)
        (rw (p.rows_are, tail_is w) at (row_bounds f)) p.staged h.columns h.values)) in
        record {
          more = λ o. record {
            ready = p.ready;
            agree = p.agree;
            rows_are = p.rows_are;
            within = omega arith;
            few = f;
            left = left_back w y p.space;
            right = right_back w y p.space;
            space = omega (arith, back_length w y p.space z, p.space);
            staged = rw (back_tail w y p.space, e) t;
            columns = omega (arith, p.columns);
            values = omega (arith, p.values);
          };
          full = λ o. absurd (omega arith);
        }

-- ---- the end of `all_rows`
-- all rows are staged
pub gathered_all : {op : Operation} {a b : List ℕ} {rows i n : ℕ} {w tc tv : List ℕ} → Staging op a b rows i n w tc tv
    → rows ≤ i → Gathered op a b n w
gathered_all {op} {a} {b} {rows} {i} {n} {w} p l =
    let e : i ≡ (words_grid op a b).rows = omega (arith, p.within, p.rows_are) in
    record { all = λ f. rw e at p.staged; full = λ f. absurd (omega (arith, p.few)) }

-- there are too many entries
pub gathered_full : {op : Operation} {a b : List ℕ} {rows i n : ℕ} {w tc tv : List ℕ} → Advanced op a b rows i n w tc tv
    → max_entries < n → Gathered op a b n w
gathered_full p f = record { all = λ o. absurd (omega arith); full = p.full }
