-- The words after `replace_row`: the starts behind the row are shifted, room is made, and the row is put in.
use Prim.Native.Nat.{ℕ, zero, suc, ◌+◌, ◌-◌, ◌≤◌, ◌<◌}
use native.Mathlib.Omega.{arith}
use mathlib.Core.Path.{◌≡◌, ap, ◌∙◌}
use mathlib.Core.List.{List}
use lib.ListN.{length}
use Rattle.limits.specs.Limits.{max_entries}
use Rattle.words.specs.Words.{at}
use Rattle.rows.specs.Row.{lookup}
use Rattle.matrix.specs.Layout.{starts_at, columns_at, values_at, rows, start, entries, grid_of}
use Rattle.matrix.specs.Facts.{RowSpan}
use Rattle.matrix.proofs.Facts.{row_span}
use Rattle.matrix.specs.HeaderWords.{touched}
use Rattle.edits.specs.Changes.{shifted, Mapped, Bounded}
use Rattle.day_grids.specs.Day.{with_row}
use Rattle.row_edits.specs.Replacing.{count_with, Replaceable, RoomBounds, Opened, PutBounds, row_put}
use Rattle.encoding.specs.Encode.{updated_to}
use Rattle.row_edits.proofs.Changed.{RowChanged, row_changed}
use Rattle.row_edits.proofs.Putting.{
  put_length,
  put_count,
  put_again,
  put_columns,
  put_values,
  put_before,
  put_between,
  put_behind,
}

-- starts never fall, from row i on
climb : (s : List ℕ) (i d : ℕ) → ((k : ℕ) → k < rows s → start s k ≤ start s (k + 1)) → i + d ≤ rows s
    → start s i ≤ start s (i + d)
climb s i zero h l = let e : i + zero ≡ i = omega arith in rw e (omega arith)
climb s i (suc d) h l =
    let c = climb s i d h (omega arith) in
    let e : i + suc d ≡ i + d + 1 = omega arith in
    rw e (omega (arith, h (i + d) (omega arith)))

module _ {s cs vs : List ℕ} {i : ℕ} (h : Replaceable s i cs vs) where
  abbrev r : ℕ
  r = rows s

  abbrev n : ℕ
  n = entries s

  abbrev a : ℕ
  a = start s i

  abbrev b : ℕ
  b = start s (i + 1)

  abbrev n' : ℕ
  n' = count_with n a b (length cs)

  pub span : RowSpan s i
  span = row_span s h.matrix.starts i h.row

  -- the new row is within the limit
  pub row_few : length cs ≤ max_entries
  row_few = omega (arith, span, h.few)

  -- what shifting the starts requires
  pub starts_bounded : Bounded (b - a) max_entries (i + 1 + starts_at) (r + 1 + starts_at) s
  starts_bounded = record {
    ordered = omega (arith, h.row);
    inside = omega (arith, h.matrix.header.fits);
    least = λ k p q.
        let e : k - starts_at + starts_at ≡ k = omega arith in
        let d : i + 1 + (k - starts_at - (i + 1)) ≡ k - starts_at = omega arith in
        let c = climb s (i + 1) (k - starts_at - (i + 1)) h.matrix.starts.up (omega arith) in
        omega (arith, ap (start s) d, ap (at s) e, c, span);
    most = λ k p q.
        let e : k - (starts_at + 1) + 1 + starts_at ≡ k = omega arith in
        let t = (row_span s h.matrix.starts (k - (starts_at + 1)) (omega arith)).top in
        omega (arith, ap (at s) e, h.matrix.header.few);
  }

  module _ {w : List ℕ} (f : Mapped (shifted (length cs) (b - a)) (i + 1 + starts_at) (r + 1 + starts_at) s w) where
    -- what making room requires
    pub room_bounds : RoomBounds r n a b (length cs) w
    room_bounds = record {
      rows = h.matrix.header.row_range.most;
      few = h.matrix.header.few;
      span = span.up;
      top = span.top;
      more = row_few;
      old = omega (arith, h.matrix.header.fits, f.same);
      space = omega (arith, h.space, f.same);
    }

    module _ {t : List ℕ} (o : Opened r n a b (length cs) w t) where
      -- what putting the row requires
      pub put_bounds : PutBounds r n' a cs vs t
      put_bounds = record {
        rows = h.matrix.header.row_range.most;
        few = h.few;
        even = h.new.even;
        inside = omega (arith, span);
        space = omega (arith, h.space, f.same, o.same);
      }

      -- each section of the words
      replaced : RowChanged s (row_put r n' a cs vs t) i n' cs vs
      replaced =
          let p = put_bounds in
          let e = h.row in
          let x = span in
          let z = put_length r n' a cs vs t p in
          let before = put_before r n' a cs vs t p in
          let between = put_between r n' a cs vs t p in
          let behind = put_behind r n' a cs vs t p in
          record {
            same = z ∙ o.same ∙ f.same;
            fits = h.space;
            number = omega (arith, span);
            head = λ k c.
                before k (omega arith) (λ q. omega arith) ∙ o.before k (omega arith) ∙ f.before k (omega arith);
            starts_low = λ k c.
                before (k + starts_at) (omega arith) (λ q. omega arith) ∙ o.before (k + starts_at) (omega arith)
                ∙ f.before (k + starts_at) (omega arith);
            starts_high = λ k c d.
                let l = starts_bounded.least (k + starts_at) (omega arith) (omega arith) in
                omega (
                  arith,
                  before (k + starts_at) (omega arith) (λ q. omega arith),
                  o.before (k + starts_at) (omega arith),
                  f.within (k + starts_at) (omega arith) (omega arith),
                );
            count = put_count r n' a cs vs t p;
            columns_low = λ k c.
                before (columns_at r + k) (omega arith) (λ q. omega arith) ∙ o.before (columns_at r + k) (omega arith)
                ∙ f.after (columns_at r + k) (omega arith);
            columns_here = put_columns r n' a cs vs t p;
            columns_high = λ k c.
                between (columns_at r + a + length cs + k) (omega arith) (omega arith) (λ q. omega arith)
                ∙ o.middle k (omega arith) ∙ f.after (columns_at r + b + k) (omega arith);
            again = put_again r n' a cs vs t p;
            values_low = λ k c.
                let u : values_at r n' + k ≡ columns_at r + a + length cs + (n - b + 1 + k) = omega arith in
                let v : columns_at r + b + (n - b + 1 + k) ≡ values_at r n + k = omega arith in
                between (values_at r n' + k) (omega arith) (omega arith) (λ q. omega arith)
                ∙ ap (at t) u ∙ o.middle (n - b + 1 + k) (omega arith) ∙ ap (at w) v
                ∙ f.after (values_at r n + k) (omega arith);
            values_here = put_values r n' a cs vs t p;
            values_high = λ k c.
                behind (values_at r n' + a + length cs + k) (omega arith)
                ∙ o.behind k (omega arith) ∙ f.after (values_at r n + b + k) (omega arith);
            spare = λ k c.
                behind k (omega arith) ∙ o.spare k c ∙ f.after k (omega arith);
          }

      -- so they are the writing of the grid with the row
      pub replaced_written : touched (row_put r n' a cs vs t) ≡ updated_to (with_row (grid_of s) i (lookup cs vs)) s
      replaced_written = row_changed h.matrix h.row h.new replaced
