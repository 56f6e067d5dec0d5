-- What the working part needs and leaves.
use Rattle.std.specs.Prelude.{ℕ, ◌+◌, ◌*◌, ◌≤◌, ◌<◌, ◌≡◌, List, Bool, true, false, not, length, take, Result, Ok, Err, None, Some}
use Rattle.conditions.specs.Tests.{◌and◌}
use Rattle.limits.specs.Limits.{max_cols, max_entries}
use Rattle.answers.specs.declared.Refusal.{Refusal}
use Rattle.answers.specs.declared.Refusal.TheVariants.{TooManyEntries}
use Rattle.grid.specs.Grid.{Grid}
use Rattle.grid.specs.Entries.{entry_count}
use Rattle.rows.specs.Row.{Row}
use Rattle.matrix.specs.Layout.{rows, cols, grid_of, max_matrix_words, workspace_words}
use Rattle.matrix.specs.Facts.{Matrix}
use Rattle.encoding.specs.Encode.{encode, grid_size}
use Rattle.operations.specs.Accumulator.{Accumulator}
use Rattle.operations.specs.declared.Call.{Call}
use Rattle.operations.specs.declared.WriteBack.{WriteBack}
use Rattle.operations.specs.Calls.{transpose_first, has_lists, indexes_valid, shapes_agree}
use Rattle.requests.specs.Refusal.{lent_final}
use Rattle.requests.specs.Inputs.{Valid}
use Rattle.extract_rows.specs.Indices.{Inverses}
use Rattle.sources.specs.Sources.{second_flag, Sources}
use Rattle.results.specs.Staging.{Staged}
use Rattle.plain_results.specs.Rows.{Written}

-- the inputs are valid and agree, and where there are lists the words b are their inverses
pub record Prepared (call : Call) (a b m c is js : List ℕ) : Type 0 where
  pub inputs : Valid call a b m c
  pub indexes : indexes_valid call (grid_of a) (grid_of b) (grid_of c) is js ≡ true
  pub shapes : shapes_agree call (grid_of a) (grid_of b) (grid_of m) (grid_of c) is js ≡ true
  pub inverses : has_lists call.operation ≡ true → Inverses is js b

-- a mask has row i
pub record MaskRow (m : List ℕ) (i : ℕ) : Type 0 where
  pub matrix : Matrix m
  pub row : i < rows m

-- where there is a mask it has row i
abbrev pub MaskThere : WriteBack → List ℕ → ℕ → Type 0
MaskThere w m i = w.has_mask ≡ true → MaskRow m i

-- row i of old C, of a mask of the same shape where there is one, and of T
pub record OldRow (w : WriteBack) (m c tc tv : List ℕ) (i : ℕ) : Type 0 where
  pub matrix : Matrix c
  pub row : i < rows c
  pub mask : w.has_mask ≡ true → MaskRow m i
  pub mask_cols : w.has_mask ≡ true → cols m ≡ cols c
  pub result : Row (cols c) tc tv

-- no mask, no complement, no accumulator: C takes T in every place
abbrev pub no_accumulator : Accumulator → Bool
no_accumulator None = true
no_accumulator (Some op) = false

abbrev pub plain : WriteBack → Bool
plain w = not w.has_mask and not w.complement and no_accumulator w.accumulator

-- and both inputs are read as they are lent
abbrev pub straight : WriteBack → Bool → Bool → Bool
straight w first second = not first and not second and plain w

-- buffers for a row
pub record RowBuffers (tc tv oc ov : List ℕ) : Type 0 where
  pub result_columns : max_cols ≤ length tc
  pub result_values : max_cols ≤ length tv
  pub final_columns : max_cols ≤ length oc
  pub final_values : max_cols ≤ length ov

-- i rows of the final C are staged in the first region, with n entries; the other regions hold the transposed inputs
pub record Progress (call : Call) (a b m c is js : List ℕ) (first second : Bool) (w tc tv oc ov : List ℕ)
    (total n i : ℕ) : Type 0 where
  pub ready : Prepared call a b m c is js
  pub flags : (first ≡ transpose_first call) × (second ≡ second_flag call)
  pub sources : Sources call a b w
  pub rows_are : total ≡ rows c
  pub within : i ≤ total
  pub few : n ≤ max_entries
  pub space : workspace_words ≤ length w
  pub staged : Staged (lent_final call a b m c is js) i n (take max_matrix_words w)
  pub buffers : RowBuffers tc tv oc ov

-- after row i the number of entries is n, and the row is staged too; or there are too many
abbrev pub Advanced : Call → List ℕ → List ℕ → List ℕ → List ℕ → List ℕ → List ℕ → Bool → Bool → List ℕ → List ℕ → List ℕ
    → List ℕ → List ℕ → ℕ → Result ℕ Refusal → ℕ → Type 0
Advanced call a b m c is js first second w tc tv oc ov total (Ok n) i =
    Progress call a b m c is js first second w tc tv oc ov total n (i + 1)
Advanced call a b m c is js first second w tc tv oc ov total (Err r) i =
    (r ≡ TooManyEntries) × (max_entries < entry_count (lent_final call a b m c is js))

-- the writing of g at the front of the workspace, with n entries, or the refusal of too many
abbrev pub Computed : Result ℕ Refusal → Grid → List ℕ → Type 0
Computed result g w = Written g result w
