-- Document 02, A3, "Late phones": "merging the sheets of any number of phones into C, with IDENTITY, MAX as
-- accumulator, no mask and no flags, gives the same C in whatever order they come, and .. merging one again changes
-- nothing".
--
-- A merge is a call of `calls::operate`, and what it does is taken from that function's own contract, by name:
-- `Reads.Learnt` is what a caller learns when it returns.
use Rattle.std.specs.Prelude.{ℕ, ◌^◌, ◌≤◌, ◌<◌, ◌≡◌, true, false, List, [], ◌∷◌, ◌++◌, map, length, take, Result, Some}
use contract.Lifetimes.{Lfts}
use Rattle.std.specs.Borrow.{Bor, MutBor}
use borrow.Fn.Picked.{KnownAs}
use Rattle.limits.specs.Limits.{max_entries}
use Rattle.answers.specs.Answers.{Answer}
use Rattle.answers.specs.declared.Refusal.{Refusal}
use Rattle.answers.specs.Results.{answer as answer_by}
use Rattle.words.specs.Words.{at}
use Rattle.words.specs.Lent.{Address, lent, lent_mut}
use Rattle.grid.specs.Grid.{Same}
use Rattle.grid.specs.Entries.{entry_count}
use Rattle.matrix.specs.Layout.{rows, cols, size, grid_of, workspace_words}
use Rattle.matrix.specs.HeaderWords.{with_revision}
use Rattle.matrix.specs.Valid.{valid}
use Rattle.encoding.specs.Encode.{grid_size}
use Rattle.call_codes.specs.declared.Options.{Options}
use Rattle.call_codes.specs.declared.Verb.{Verb}
use Rattle.call_codes.specs.declared.Verb.TheVariants.{Apply}
use Rattle.calls.proofs.operate.Reads as operate_reads
use Rattle.calls.proofs.operate.Statement as operate_statement
use Rattle.calls.proofs.operate.Kinds as operate_kinds
use Rattle.merging.specs.Merging.{join_all, ◌∈◌, Rearranged}

-- "MAX as accumulator, no mask and no flags": MAX is number 7
abbrev pub by_max : Options
by_max = record { flags = 0; has_mask = false; accumulator = Some 7 }

-- "IDENTITY": number 0 of the unary operators, which are kind 0 of apply
abbrev pub identity : ℕ → Verb
identity scalar = Apply 0 0 scalar

-- One merge of a into C: c and c' are all words of C's buffer before the call and after it. The scalar and the slices
-- lent as a second input, a mask and index lists, which the call does not look at, are any; "the work buffer suffices",
-- with any words in it. The matrix is "lent apart from C": it is borrowed by `&` while C is by `&mut`.
pub data Merge (c a : List ℕ) (answer : Answer) (c' : List ℕ) : Type 0 where
  merge : (scalar : ℕ) (b mask is js : Bor (List ℕ)) (work work' : List ℕ) (p q r : Address) (κs : Lfts 6)
      (suffices : workspace_words ≤ length work) (result : Result ℕ Refusal)
      → operate_reads.Learnt κs
      (by_max, (identity scalar, (lent p a, (b, (mask, (is, (js, (lent_mut q c, (lent_mut r work, tt))))))))) result
      (by_max, (identity scalar, (lent p a, (b, (mask, (is, (js, (lent_mut q c', (lent_mut r work', tt)))))))))
      → answer ≡ answer_by result → Merge c a answer c'

-- a list of matrices merged one after the other
pub data Merges : List ℕ → List (List ℕ) → List Answer → List ℕ → Type 0 where
  end : {c : List ℕ} → Merges c [] [] c
  then : {c c' c'' a : List ℕ} {xs : List (List ℕ)} {answer : Answer} {answers : List Answer}
      → Merge c a answer c' → Merges c' xs answers c'' → Merges c (a ∷ xs) (answer ∷ answers) c''

-- the words of a lent buffer are words of 32 bits: what the type `&[u32]` says, and a list of numbers does not
pub record Words (s : List ℕ) : Type 0 where
  pub small : (k : ℕ) → at s k < 2 ^ 32

-- a phone's matrix: "valid" and of "C's shape"
pub record Input (c a : List ℕ) : Type 0 where
  pub valid_matrix : valid a ≡ true
  pub same_rows : rows a ≡ rows c
  pub same_cols : cols a ≡ cols c
  pub words : Words a

-- What is assumed of C's buffer c and the list of matrices. "The final C keeps within 2,048 entries and its buffer":
-- nothing is assumed of C on the way.
pub record Mergeable (c : List ℕ) (xs : List (List ℕ)) : Type 0 where
  pub valid_c : valid c ≡ true
  pub words : Words c
  pub each : (a : List ℕ) → a ∈ xs → Input c a
  pub entries : entry_count (join_all (grid_of c) (map grid_of xs)) ≤ max_entries
  pub buffer : grid_size (join_all (grid_of c) (map grid_of xs)) ≤ length c

-- every merge is accepted
abbrev pub AllAccepted : List Answer → Type 0
AllAccepted [] = Unit {0}
AllAccepted (x ∷ xs) = (x.code ≡ 0) × AllAccepted xs

-- the words of the matrix at the front of a buffer, without the spare ones, and its revision left out
abbrev pub matrix_words : List ℕ → List ℕ
matrix_words s = take (size s) (with_revision 0 s)

-- "The statement is about C's grid and sheet words, not about spare words or the counts returned on the way." Every merge
-- adds one to the revision: "A3's claim speaks of grids only" (A12), so of every word but that one.
pub record SameC (c d : List ℕ) : Type 0 where
  pub grid : Same (grid_of c) (grid_of d)
  pub words : matrix_words c ≡ matrix_words d

-- a list of merges and what it leaves
pub record Run (c : List ℕ) (xs : List (List ℕ)) : Type 0 where
  pub answers : List Answer
  pub left : List ℕ
  pub merges : Merges c xs answers left

pub record AnyOrder : Type 3 where
  -- `calls::operate` meets its contract, a caller learns what that says, and has nothing to show
  pub met : {M : Type 1} → operate_statement.statement M
  pub known : KnownAs 6 operate_kinds.ps operate_kinds.r operate_reads.Ghost operate_reads.requires
      operate_reads.ensures operate_reads.Asked operate_reads.Learnt
  pub free : (κs : Lfts 6) (a b m is js : Bor (List ℕ)) (c w : MutBor (List ℕ)) (o : Options) (verb : Verb)
      → operate_reads.Asked κs (o, (verb, (a, (b, (m, (is, (js, (c, (w, tt)))))))))
  -- there is a run of every list
  pub possible : Lfts 6 → (c : List ℕ) (xs : List (List ℕ)) → Run c xs
  -- "the final C keeps within 2,048 entries and its buffer": then so does C on the way, and all that is assumed of a
  -- list holds of each beginning of it
  pub on_the_way : {c : List ℕ} (xs ys : List (List ℕ)) → Mergeable c (xs ++ ys) → Mergeable c xs
  -- every merge of a run is accepted
  pub accepted : {c c' : List ℕ} {xs : List (List ℕ)} {answers : List Answer} → Mergeable c xs → Merges c xs answers c'
      → AllAccepted answers
  -- C is valid at the end and holds in each cell the newest report
  pub valid_left : {c c' : List ℕ} {xs : List (List ℕ)} {answers : List Answer} → Mergeable c xs
      → Merges c xs answers c' → valid c' ≡ true
  pub grid_left : {c c' : List ℕ} {xs : List (List ℕ)} {answers : List Answer} → Mergeable c xs → Merges c xs answers c'
      → Same (grid_of c') (join_all (grid_of c) (map grid_of xs))
  -- "the same C in whatever order they come": what is assumed of one order holds of the other
  pub other_order : {c : List ℕ} {xs ys : List (List ℕ)} → Rearranged xs ys → Mergeable c xs → Mergeable c ys
  pub any_order : {c c' c'' : List ℕ} {xs ys : List (List ℕ)} {answers others : List Answer}
      → Rearranged xs ys → Mergeable c xs → Merges c xs answers c' → Merges c ys others c'' → SameC c' c''
  -- "merging one again changes nothing", and is accepted
  pub again_accepted : {c c' c'' a : List ℕ} {xs : List (List ℕ)} {answers : List Answer} {answer : Answer}
      → a ∈ xs → Mergeable c xs → Merges c xs answers c' → Merge c' a answer c'' → answer.code ≡ 0
  pub again : {c c' c'' a : List ℕ} {xs : List (List ℕ)} {answers : List Answer} {answer : Answer}
      → a ∈ xs → Mergeable c xs → Merges c xs answers c' → Merge c' a answer c'' → SameC c'' c'
  -- both at once, wherever in the list a matrix is repeated: lists of the same matrices leave the same C
  pub any_list : {c c' c'' : List ℕ} {xs ys : List (List ℕ)} {answers others : List Answer}
      → ((a : List ℕ) → a ∈ xs → a ∈ ys) → ((a : List ℕ) → a ∈ ys → a ∈ xs)
      → Mergeable c xs → Merges c xs answers c' → Merges c ys others c'' → SameC c' c''
