-- What a read and a place answer is small: for a caller that puts it into a number.
use Prim.Native.Nat.{ℕ, ◌≤◌, ◌<◌}
use native.Mathlib.Omega.{arith}
use mathlib.Core.Path.{◌≡◌, refl}
use mathlib.Core.List.{List}
use mathlib.Core.Bool.{Bool, true, false, cond}
use lib.Dec.{eqb}
use borrow.Author.Tests.{eqb-true}
use Rattle.limits.specs.Limits.{max_entries}
use Rattle.answers.specs.Refusals.{code_limit}
use Rattle.answers.specs.Reads.{found_answer, refused_read}
use Rattle.grid.specs.declared.EntryAt.{EntryAt}
use Rattle.grid.specs.declared.EntryAt.TheVariants as entry
use Rattle.grid.specs.Position.{entry_at}
use Rattle.matrix.specs.Layout.{grid_of}
use Rattle.matrix.proofs.Facts.{matrix_made}
use Rattle.refusals.proofs.Codes.{Coded, applying_coded}
use Rattle.cells.proofs.Positions.{entry_few}
use Rattle.row_view.specs.declared.Section.{Section}
use Rattle.row_view.specs.View.{first, second, nothing, section_from, section_to, place_of}
use Rattle.row_view.proofs.Bounds.{Within, section_within, first_within, second_within}
use Rattle.day_grids.specs.Day.{marked, shown_from}
use Rattle.day_requests.specs.Refusal.{read_cases, read_refusal}
use Rattle.day_requests.specs.Ready.{Readable}
use Rattle.day_requests.proofs.Readiness.{read_ready}
use Rattle.day_calls.specs.Calls.{through_answer}
use Rattle.day_calls.specs.Show.{showable, day_view}
use Rattle.day_calls.proofs.Shows.{shown_pair, base_span, day_span}

-- a cell that is found is no refusal
found_code : (e : EntryAt) → (found_answer e).code < code_limit
found_code (entry.Absent p) = omega arith
found_code (entry.Present v p) = omega arith

module _ (base day marks : List ℕ) (i j : ℕ) where
  coded : Coded (read_cases base day marks i j)
  coded =
      (omega arith, (omega arith, (omega arith, (omega arith, (omega arith, (omega arith, (omega arith, tt)))))))

  refusal_small : read_refusal base day marks i j < code_limit
  unfolding read_refusal
  refusal_small = applying_coded (read_cases base day marks i j) coded

  found_position : (b : Bool) → Readable base day marks i j
      → (found_answer (entry_at (cond b (grid_of day) (grid_of base)) i j)).position ≤ max_entries
  found_position true r =
      entry_few day i j (matrix_made day r.pair.over.day_valid) (omega (arith, r.row, r.pair.same_rows))
      (omega (arith, r.col, r.pair.same_cols))
  found_position false r = entry_few base i j (matrix_made base r.pair.base_valid) r.row r.col

  -- the two cases of the answer
  by_code : (b : Bool)
      → (cond b (found_answer (entry_at (shown_from (grid_of base) (grid_of day) (grid_of marks) i) i j))
      (refused_read (read_refusal base day marks i j))).code < code_limit
  by_code true = found_code (entry_at (shown_from (grid_of base) (grid_of day) (grid_of marks) i) i j)
  by_code false = refusal_small

  by_position : (b : Bool) → eqb (read_refusal base day marks i j) 0 ≡ b
      → (cond b (found_answer (entry_at (shown_from (grid_of base) (grid_of day) (grid_of marks) i) i j))
      (refused_read (read_refusal base day marks i j))).position ≤ max_entries
  by_position true e = found_position (marked (grid_of marks) i) (read_ready base day marks i j (eqb-true _ _ e))
  by_position false e = omega arith

  pub through_code : (through_answer base day marks i j).code < code_limit
  unfolding through_answer
  through_code = by_code (eqb (read_refusal base day marks i j) 0)

  pub through_position : (through_answer base day marks i j).position ≤ max_entries
  unfolding through_answer
  through_position = by_position (eqb (read_refusal base day marks i j) 0) refl

module _ (section : Section) (base day marks : List ℕ) (i : ℕ) where
  -- the three cases of a place
  by_tests : (shows over : Bool) → (shows ≡ true → showable base day marks i ≡ true)
      → Within (place_of (cond shows
      (cond over
      (second (section_from section day i) (section_to section day i))
      (first (section_from section base i) (section_to section base i)))
      nothing))
  by_tests false over h = first_within 0 0 (omega arith, omega arith)
  by_tests true true h =
      let t = h refl in
      second_within _ _ (section_within section day i (shown_pair base day marks i t).over.day_valid.header
      (day_span base day marks i t))
  by_tests true false h =
      let t = h refl in
      first_within _ _ (section_within section base i (shown_pair base day marks i t).base_valid.header
      (base_span base day marks i t))

  pub show_within : Within (place_of (day_view section base day marks i))
  unfolding day_view
  show_within = by_tests (showable base day marks i) (marked (grid_of marks) i) (λ e. e)
