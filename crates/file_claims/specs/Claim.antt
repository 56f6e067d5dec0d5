-- Document 02, A1: "Reading what was written gives the words back; each accepted file is what the writer gives." So a
-- grid with its revision has one file. A12: "Only new-form files come back byte for byte", and old ones as the same grid.
--
-- The calls are `files::read_file` and `files::write_file`, and what they do is taken from their own contracts, by
-- name: `Reads.Learnt` is what a caller learns when the function returns.
use Rattle.std.specs.Prelude.{ℕ, ◌+◌, ◌*◌, ◌≤◌, ◌≡◌, true, false, List, ◌∷◌, ◌++◌, length, take, drop, Result}
use contract.Lifetimes.{Lfts}
use Rattle.std.specs.Borrow.{Bor, MutBor}
use borrow.Fn.Picked.{KnownAs}
use Rattle.answers.specs.Answers.{Answer}
use Rattle.answers.specs.declared.Refusal.{Refusal}
use Rattle.answers.specs.Results.{answer}
use Rattle.words.specs.Lent.{Address, lent, lent_mut}
use Rattle.grid.specs.Grid.{Same}
use Rattle.matrix.specs.Layout.{revision, size, entries, grid_of}
use Rattle.matrix.specs.Valid.{valid}
use Rattle.encoding.specs.OneWriting.{AreWords, matrix_words}
use Rattle.word_bytes.specs.Bytes.{words_of, AreBytes}
use Rattle.files.specs.File.{old_form, form_bytes}
use Rattle.files.proofs.read_file.Reads as read_file_reads
use Rattle.files.proofs.read_file.Statement as read_file_statement
use Rattle.files.proofs.read_file.Kinds as read_file_kinds
use Rattle.files.proofs.write_file.Reads as write_file_reads
use Rattle.files.proofs.write_file.Statement as write_file_statement
use Rattle.files.proofs.write_file.Kinds as write_file_kinds
use Rattle.file_claims.specs.OldRule.{old_file}

-- the bytes f are read into the words w, which are w' afterwards
pub data Reading (f w : List ℕ) : Answer → List ℕ → Type 0 where
  reading : {w' : List ℕ} (p q : Address) (κs : Lfts 2) (r : Result ℕ Refusal)
      → read_file_reads.Learnt κs (lent p f, (lent_mut q w, tt)) r (lent p f, (lent_mut q w', tt))
      → Reading f w (answer r) w'

-- the matrix in the words s is written into the bytes b, which are b' afterwards
pub data Writing (s b : List ℕ) : Answer → List ℕ → Type 0 where
  writing : {b' : List ℕ} (p q : Address) (κs : Lfts 2) (r : Result ℕ Refusal)
      → write_file_reads.Learnt κs (lent p s, (lent_mut q b, tt)) r (lent p s, (lent_mut q b', tt))
      → Writing s b (answer r) b'

-- the file at the front of the bytes that the matrix in the words s was written into
abbrev pub written : List ℕ → List ℕ → List ℕ
written s b' = take (size s * 4) b'

-- the form of a file: before A12, or since
abbrev pub OldForm : List ℕ → Type 0
OldForm f = old_form (words_of f) ≡ true

abbrev pub NewForm : List ℕ → Type 0
NewForm f = old_form (words_of f) ≡ false

-- `AreWords` and `AreBytes` are what the types `&[u32]` and `&[u8]` say of lent slices, and a list of numbers does not.
pub record OneFile : Type 3 where
  -- both functions meet their contracts, a caller learns what these say, and has nothing to show
  pub read_met : {M : Type 1} → read_file_statement.statement M
  pub read_known : KnownAs 2 read_file_kinds.ps read_file_kinds.r read_file_reads.Ghost read_file_reads.requires
      read_file_reads.ensures read_file_reads.Asked read_file_reads.Learnt
  pub read_free : (κs : Lfts 2) (f : Bor (List ℕ)) (w : MutBor (List ℕ)) → read_file_reads.Asked κs (f, (w, tt))
  pub write_met : {M : Type 1} → write_file_statement.statement M
  pub write_known : KnownAs 2 write_file_kinds.ps write_file_kinds.r write_file_reads.Ghost write_file_reads.requires
      write_file_reads.ensures write_file_reads.Asked write_file_reads.Learnt
  pub write_free : (κs : Lfts 2) (s : Bor (List ℕ)) (b : MutBor (List ℕ)) → write_file_reads.Asked κs (s, (b, tt))
  -- "Reading what was written gives the words back", and answers alike; the words behind stay
  pub words_back : {s b b' w w' : List ℕ} {x y : Answer} → AreWords s → Writing s b x b' → x.code ≡ 0
      → Reading (written s b') w y w' → size s ≤ length w
      → (y ≡ x) × (w' ≡ matrix_words s ++ drop (size s) w)
  -- what an accepted file leaves is a valid matrix
  pub valid_read : {f w w' : List ℕ} {x : Answer} → Reading f w x w' → x.code ≡ 0
      → (valid w' ≡ true) × (x.entries ≡ entries w') × (form_bytes (length f) (words_of f) ≡ size w' * 4)
  -- "each accepted file is what the writer gives": for what was read from it, with the same answer, if it has the new
  -- form
  pub file_back : {f w w' b b' : List ℕ} {x y : Answer} → AreBytes f → NewForm f → Reading f w x w' → x.code ≡ 0
      → Writing w' b y b' → length f ≤ length b
      → (y ≡ x) × (b' ≡ f ++ drop (length f) b)
  -- a grid with a revision has one file: accepted files that hold it are the same bytes, and so are those that are
  -- written of it
  pub one_file : {f g w w' v v' : List ℕ} {x y : Answer} → AreBytes f → AreBytes g → NewForm f → NewForm g
      → Reading f w x w' → x.code ≡ 0 → Reading g v y v' → y.code ≡ 0
      → Same (grid_of w') (grid_of v') → revision w' ≡ revision v' → f ≡ g
  pub one_written : {s t b b' c c' : List ℕ} {x y : Answer} → Writing s b x b' → x.code ≡ 0
      → Writing t c y c' → y.code ≡ 0 → Same (grid_of s) (grid_of t) → revision s ≡ revision t
      → written s b' ≡ written t c'
  -- "the new reader takes both": all that was a file by the rule before A12, where the new form has room
  pub old_taken : {f w w' : List ℕ} {x : Answer} → OldForm f → old_file (length f) (words_of f) ≡ true
      → length f + 8 ≤ length w * 4 → Reading f w x w' → x.code ≡ 0
  -- "an old file having revision 0": what is read from it is its words behind the new section
  pub old_read : {f w w' : List ℕ} {x : Answer} → OldForm f → Reading f w x w' → x.code ≡ 0
      → (revision w' ≡ 0) × (matrix_words w' ≡ 1 ∷ 0 ∷ words_of f)
  -- and what is written of that is a file of the new form, which is read as the same words
  pub old_back : {f w w' b b' v v' : List ℕ} {x y z : Answer} → AreWords w' → OldForm f → Reading f w x w' → x.code ≡ 0
      → Writing w' b y b' → y.code ≡ 0 → Reading (written w' b') v z v' → z.code ≡ 0
      → NewForm (written w' b') × (matrix_words v' ≡ matrix_words w') × Same (grid_of v') (grid_of w')
  -- "The old reader refuses new files with 15": none that is accepted now is one by its rule
  pub old_refuses : {f w w' : List ℕ} {x : Answer} → NewForm f → Reading f w x w' → x.code ≡ 0
      → old_file (length f) (words_of f) ≡ false
