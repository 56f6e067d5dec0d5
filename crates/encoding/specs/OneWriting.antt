-- Demand 2: "Every valid sheet has one writing in words, and reading it gives the sheet back." One statement over
-- every valid matrix and every grid within the limits, with any revision (document 02, A12), proved in proofs/OneWriting.
-- `encode_revised` is the writing of a grid with a revision, `valid` says which words begin with a matrix, and `grid_of` and
-- `revision` read what they hold: the contracts of
-- `matrix::check`, `cells::read_cell` and of every call that writes a matrix cite these definitions.
--
-- Words are natural numbers here. In a contract they are the words of a lent slice of u32, each below 2 ^ 32 by the
-- slice's type: `AreWords` says that of a list. A value is kept as its word in two's complement (grid/specs/Grid).
use Rattle.std.specs.Prelude.{ℕ, ◌^◌, ◌<◌, ◌≡◌, List, ◌++◌, true, length, take, Some}
use Rattle.words.specs.Words.{at}
use Rattle.grid.specs.Grid.{Grid, Same}
use Rattle.matrix.specs.Layout.{revision, size, grid_of}
use Rattle.matrix.specs.Valid.{valid}
use Rattle.encoding.specs.Encode.{encode_revised, grid_size, Within}

-- "32-bit unsigned words": each is below 2 ^ 32. Past the end `at` reads 0.
abbrev pub AreWords : List ℕ → Type 0
AreWords s = (k : ℕ) → at s k < 2 ^ 32

-- every value within the shape is such a word
abbrev pub ValuesAreWords : Grid → Type 0
ValuesAreWords g = (i j v : ℕ) → i < g.rows → j < g.cols → g.cell i j ≡ Some v → v < 2 ^ 32

-- the words of the matrix "at the front of a lent buffer": "Words after the sheet are spare."
abbrev pub matrix_words : List ℕ → List ℕ
matrix_words s = take (size s) s

pub record OneWriting : Type 0 where
  -- a grid whose "R and C are 1 to 512" (A6: 1,000), "N is 0 to 2,048" has a writing that is a valid matrix, whatever spare words
  -- follow
  pub written : (v : ℕ) (g : Grid) (spare : List ℕ) → Within g → valid (encode_revised v g ++ spare) ≡ true
  -- A12: "Sizes become R + 2N + 9"
  pub sized : (v : ℕ) (g : Grid) → length (encode_revised v g) ≡ grid_size g
  -- "and reading it gives the sheet back": the shape, and what is in every cell
  pub read_back : (v : ℕ) (g : Grid) (spare : List ℕ) → Same (grid_of (encode_revised v g ++ spare)) g
  -- and the revision
  pub revision_back : (v : ℕ) (g : Grid) (spare : List ℕ) → revision (encode_revised v g ++ spare) ≡ v
  -- "Every valid sheet has one writing": its words are the writing of the grid that they hold, with their revision
  pub one : (s : List ℕ) → valid s ≡ true → matrix_words s ≡ encode_revised (revision s) (grid_of s)
  -- that grid is within the limits, so every valid matrix is the writing of a grid that has one
  pub within : (s : List ℕ) → valid s ≡ true → Within (grid_of s)
  -- two valid matrices of one shape with the same in every cell and one revision have the same words
  pub unique : (s t : List ℕ) → valid s ≡ true → valid t ≡ true → Same (grid_of s) (grid_of t) → revision s ≡ revision t
      → matrix_words s ≡ matrix_words t
  -- "that shape, with those values as entries": grids that agree have one writing
  pub same_writing : (v : ℕ) (g h : Grid) → Same g h → encode_revised v g ≡ encode_revised v h
  -- and grids whose writings begin the same words agree, and so do their revisions: A12's "equal shelf words mean equal
  -- grids and equal revisions", of one matrix
  pub same_grid_lem : (v u : ℕ) (g h : Grid) (spare rest : List ℕ) → encode_revised v g ++ spare ≡ encode_revised u h ++ rest
      → Same g h
  pub same_revision : (v u : ℕ) (g h : Grid) (spare rest : List ℕ)
      → encode_revised v g ++ spare ≡ encode_revised u h ++ rest → v ≡ u
  -- "a value is -2,147,483,648 to 2,147,483,647": if each value and the revision are 32-bit words, so is each word of the
  -- writing
  pub words_fit : (v : ℕ) (g : Grid) → v < 2 ^ 32 → Within g → ValuesAreWords g → AreWords (encode_revised v g)
  -- and if each word is, so is each value that is read from them
  pub values_fit : (s : List ℕ) → AreWords s → ValuesAreWords (grid_of s)
