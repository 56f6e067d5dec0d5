-- Claims of a day matrix over a base matrix (document 02, A7). What a function does is taken from its own contract, by
-- name: `Reads.Learnt` of a function is what a caller learns when it returns, `Reads.Asked` what it has to show, and
-- `Statement.statement` says that the code returns, does nothing undefined and ends as its contract says.
use Rattle.std.specs.Prelude.{ℕ, ◌<◌, ◌≡◌, List, Result}
use contract.Lifetimes.{Lfts}
use Rattle.std.specs.Borrow.{Bor, MutBor}
use borrow.Fn.Picked.{KnownAs}
use Rattle.answers.specs.declared.Refusal.{Refusal}
use Rattle.answers.specs.Results.{answer, cell_answer}
use Rattle.words.specs.Lent.{Address, lent, lent_mut}
use Rattle.grid.specs.Cell.{Cell}
use Rattle.grid.specs.declared.EntryAt.{EntryAt}
use Rattle.grid.specs.Grid.{Grid}
use Rattle.matrix.specs.Layout.{rows, cols, grid_of}
use Rattle.cells.proofs.read_cell.Reads as read_cell_reads
use Rattle.day_requests.specs.Refusal.{pair_refusal}
use Rattle.day_folds.specs.Folding.{lent_fold}
use Rattle.day_calls.proofs.rewrite_row.Reads as rewrite_reads
use Rattle.day_calls.proofs.rewrite_row.Statement as rewrite_statement
use Rattle.day_calls.proofs.rewrite_row.Kinds as rewrite_kinds
use Rattle.day_calls.proofs.take_back.Reads as back_reads
use Rattle.day_calls.proofs.take_back.Statement as back_statement
use Rattle.day_calls.proofs.take_back.Kinds as back_kinds
use Rattle.day_calls.proofs.read_through.Reads as read_reads
use Rattle.day_calls.proofs.read_through.Statement as read_statement
use Rattle.day_calls.proofs.read_through.Kinds as read_kinds
use Rattle.day_calls.proofs.fold.Reads as fold_reads
use Rattle.day_calls.proofs.fold.Statement as fold_statement
use Rattle.day_calls.proofs.fold.Kinds as fold_kinds
use Rattle.day_claims.specs.Plain.{plain_rewritten, plain_taken, cell_read}

-- where the buffers of a call are
pub record Places : Type 0 where
  pub base : Address
  pub day : Address
  pub marks : Address
  pub other : Address

-- What the contracts tell a caller. Of rewriting row i by the words `new`, and of taking it back:
abbrev pub RewriteTold : Lfts 3 → Places → List ℕ → List ℕ → ℕ → List ℕ → Result ℕ Refusal → List ℕ → List ℕ → Type 0
RewriteTold κs p day marks i new result day' marks' =
    rewrite_reads.Learnt κs (lent_mut p.day day, (lent_mut p.marks marks, (i, (lent p.other new, tt)))) result
    (lent_mut p.day day', (lent_mut p.marks marks', (i, (lent p.other new, tt))))

abbrev pub BackTold : Lfts 2 → Places → List ℕ → List ℕ → ℕ → Result ℕ Refusal → List ℕ → List ℕ → Type 0
BackTold κs p day marks i result day' marks' =
    back_reads.Learnt κs (lent_mut p.day day, (lent_mut p.marks marks, (i, tt))) result
    (lent_mut p.day day', (lent_mut p.marks marks', (i, tt)))

-- of reading a cell through the pair, and of folding into `out`
abbrev pub ReadTold : Lfts 2 → Places → List ℕ → List ℕ → List ℕ → ℕ → ℕ → Result EntryAt Refusal → Type 0
ReadTold κs p base day marks i j result =
    read_reads.Learnt κs (lent p.base base, (lent p.day day, (lent p.marks marks, (i, (j, tt))))) result
    (lent p.base base, (lent p.day day, (lent p.marks marks, (i, (j, tt)))))

abbrev pub FoldTold : Lfts 3 → Places → List ℕ → List ℕ → List ℕ → List ℕ → Result ℕ Refusal → List ℕ → Type 0
FoldTold κs p base day marks out result out' =
    fold_reads.Learnt κs (lent p.base base, (lent p.day day, (lent p.marks marks, (lent_mut p.other out, tt))))
    result (lent p.base base, (lent p.day day, (lent p.marks marks, (lent_mut p.other out', tt))))

-- "Folding gives in each place what reading through the pair gives": a read of the folded matrix, and one of the pair
abbrev pub Folding : Type 0
Folding =
    (κs : Lfts 3) (λs : Lfts 2) (μs : Lfts 1) (p q : Places) (r : Address) (base day marks out out' : List ℕ)
    (f : Result ℕ Refusal) (a c : Result EntryAt Refusal) (i j : ℕ) → i < rows base → j < cols base
    → FoldTold κs p base day marks out f out' → (answer f).code ≡ 0
    → ReadTold λs q base day marks i j a
    → read_cell_reads.Learnt μs (lent r out', (i, (j, tt))) c (lent r out', (i, (j, tt)))
    → ((cell_answer a).code ≡ 0) × ((cell_answer c).code ≡ 0) × (cell_read (cell_answer a) ≡ cell_read (cell_answer c))

-- reads through the pair, before a call and after it: row i reads as `row`, and every other row as before
abbrev pub RowReads : List ℕ → List ℕ → List ℕ → List ℕ → List ℕ → ℕ → (ℕ → Cell) → Type 0
RowReads base day marks day' marks' i row =
    (κs λs : Lfts 2) (p q : Places) (r j : ℕ) (before after : Result EntryAt Refusal) → r < rows base → j < cols base
    → ReadTold κs p base day marks r j before → ReadTold λs q base day' marks' r j after
    → ((cell_answer before).code ≡ 0) × ((cell_answer after).code ≡ 0) × (r ≡ i → cell_read (cell_answer after) ≡ row j)
    × ((r ≡ i → ⊥) → cell_read (cell_answer after) ≡ cell_read (cell_answer before))

-- "Rewriting takes a 1 by C strip": after an accepted rewrite the row reads as the new row
abbrev pub Rewriting : Type 0
Rewriting =
    (κs : Lfts 3) (p : Places) (base day marks new day' marks' : List ℕ) (i : ℕ) (f : Result ℕ Refusal)
    → pair_refusal base day marks ≡ 0 → RewriteTold κs p day marks i new f day' marks' → (answer f).code ≡ 0
    → RowReads base day marks day' marks' i ((grid_of new).cell 0)

-- "taking back empties the day row and its mark, if any": after an accepted taking back it reads as the base's row
abbrev pub TakingBack : Type 0
TakingBack =
    (κs : Lfts 2) (p : Places) (base day marks day' marks' : List ℕ) (i : ℕ) (f : Result ℕ Refusal)
    → pair_refusal base day marks ≡ 0 → BackTold κs p day marks i f day' marks' → (answer f).code ≡ 0
    → RowReads base day marks day' marks' i ((grid_of base).cell i)

-- a finite list of rewrites and takings back, refused ones among them, each on the words that the one before left; the
-- plain grid g is given the same list
pub data Run (base : Grid) : List ℕ → List ℕ → Grid → List ℕ → List ℕ → Grid → Type 0 where
  done : {day marks : List ℕ} {g : Grid} → Run base day marks g day marks g
  rewrote : {day marks day₁ marks₁ day' marks' : List ℕ} {g g' : Grid} (κs : Lfts 3) (p : Places) (i : ℕ)
      (new : List ℕ) (f : Result ℕ Refusal) → RewriteTold κs p day marks i new f day₁ marks₁
      → Run base day₁ marks₁ (plain_rewritten (answer f) i (grid_of new) g) day' marks' g'
      → Run base day marks g day' marks' g'
  took : {day marks day₁ marks₁ day' marks' : List ℕ} {g g' : Grid} (κs : Lfts 2) (p : Places) (i : ℕ)
      (f : Result ℕ Refusal) → BackTold κs p day marks i f day₁ marks₁
      → Run base day₁ marks₁ (plain_taken (answer f) i base g) day' marks' g' → Run base day marks g day' marks' g'

-- after every such list, reading through the pair equals the plain grid, which begins as what the pair shows
abbrev pub Listed : Type 0
Listed =
    (base day marks day' marks' : List ℕ) (g : Grid) → pair_refusal base day marks ≡ 0
    → Run (grid_of base) day marks (lent_fold base day marks) day' marks' g
    → (κs : Lfts 2) (p : Places) (i j : ℕ) (a : Result EntryAt Refusal) → i < rows base → j < cols base
    → ReadTold κs p base day' marks' i j a → ((cell_answer a).code ≡ 0) × (cell_read (cell_answer a) ≡ g.cell i j)

-- the claims, with what makes them claims of the code: each call meets its contract, what a caller learns follows from
-- that, and a caller has nothing to show
pub record Claims : Type 3 where
  pub rewrite_met : {M : Type 1} → rewrite_statement.statement M
  pub back_met : {M : Type 1} → back_statement.statement M
  pub read_met : {M : Type 1} → read_statement.statement M
  pub fold_met : {M : Type 1} → fold_statement.statement M
  pub rewrite_known : KnownAs 3 rewrite_kinds.ps rewrite_kinds.r rewrite_reads.Ghost rewrite_reads.requires
      rewrite_reads.ensures rewrite_reads.Asked rewrite_reads.Learnt
  pub back_known : KnownAs 2 back_kinds.ps back_kinds.r back_reads.Ghost back_reads.requires back_reads.ensures
      back_reads.Asked back_reads.Learnt
  pub read_known : KnownAs 2 read_kinds.ps read_kinds.r read_reads.Ghost read_reads.requires read_reads.ensures
      read_reads.Asked read_reads.Learnt
  pub fold_known : KnownAs 3 fold_kinds.ps fold_kinds.r fold_reads.Ghost fold_reads.requires fold_reads.ensures
      fold_reads.Asked fold_reads.Learnt
  pub rewrite_free : (κs : Lfts 3) (day marks : MutBor (List ℕ)) (i : ℕ) (row : Bor (List ℕ))
      → rewrite_reads.Asked κs (day, (marks, (i, (row, tt))))
  pub back_free : (κs : Lfts 2) (day marks : MutBor (List ℕ)) (i : ℕ) → back_reads.Asked κs (day, (marks, (i, tt)))
  pub read_free : (κs : Lfts 2) (base day marks : Bor (List ℕ)) (i j : ℕ)
      → read_reads.Asked κs (base, (day, (marks, (i, (j, tt)))))
  pub fold_free : (κs : Lfts 3) (base day marks : Bor (List ℕ)) (out : MutBor (List ℕ))
      → fold_reads.Asked κs (base, (day, (marks, (out, tt))))
  pub folding : Folding
  pub rewriting : Rewriting
  pub taking_back : TakingBack
  pub listed : Listed
