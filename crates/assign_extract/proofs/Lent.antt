-- On lent matrices: an accepted call leaves its final C, and its lists and shapes agree.
use Prim.Native.Nat.{ℕ}
use native.Mathlib.Decide.{ℕ_discrete}
use mathlib.Core.Path.{◌≡◌, refl, sym, ap, ◌∙◌}
use mathlib.Core.List.{List}
use lib.ListN.{drop}
use borrow.Author.Tests.{eq-eqb, ne_eqb}
use Rattle.answers.specs.Answers.{Answer}
use Rattle.answers.specs.Results.{answer}
use Rattle.grid.specs.Grid.{Grid, Same}
use Rattle.grid.proofs.Same.{same_trans}
use Rattle.grid.specs.Revision.{updating, revision_after}
use Rattle.matrix.specs.Layout.{revision, grid_of}
use Rattle.encoding.specs.Encode.{grid_size, updated_to}
use Rattle.encoding.proofs.Canonical.{encode_same}
use Rattle.operations.specs.declared.Call.{Call}
use Rattle.refusals.specs.Cases.{first_of, answer_for}
use Rattle.requests.specs.Inputs.{Ready}
use Rattle.requests.specs.Refusal.{lent_refusal, lent_final}
use Rattle.requests.proofs.Refusals.{ready_of}
use Rattle.calls.specs.Completion.{Attempted}
use Rattle.call_codes.specs.declared.Verb.TheVariants.{Assign, Extract}
use Rattle.assign_extract.specs.ReadBack.{Accepted, accepted_call}
use Rattle.assign_extract.proofs.Grids.{assigning, extracting, grids_back}

-- the code of an answer is its refusal
answer_code : (n : ℕ) (g : Grid) → (answer_for n g).code ≡ n
answer_code n g = go (ℕ_discrete n 0)
  where
    go : Dec (n ≡ 0) → (answer_for n g).code ≡ n
    go (yes d) = rw (eq-eqb n 0 d) (sym d)
    go (no d) = rw (ne_eqb n 0 d)

-- the first of two refusals that is not there
none_first : (n m : ℕ) → first_of n m ≡ 0 → n ≡ 0
none_first n m e = go (ℕ_discrete n 0)
  where
    go : Dec (n ≡ 0) → n ≡ 0
    go (yes d) = d
    go (no d) = absurd (d (rw (ne_eqb n 0 d) at e))

-- what an accepted call leaves
record Left (call : Call) (a b m c is js c' : List ℕ) : Type 0 where
  ready : Ready call a b m c is js
  grid : Same (grid_of c') (lent_final call a b m c is js)

left : (call : Call) (a b m c is js : List ℕ) (work : ℕ) (answer : Answer) (c' : List ℕ)
    → Attempted call a b m c is js work answer c' → answer.code ≡ 0 → Left call a b m c is js c'
unfolding lent_refusal
left call a b m c is js work answer c' t e =
    let final = lent_final call a b m c is js in
    let none : lent_refusal call a b m c is js work ≡ 0 =
    sym (answer_code (lent_refusal call a b m c is js work) final) ∙ sym (ap (λ (x : Answer). x.code) t.answer_is)
    ∙ e in
    let written : c' ≡ updated_to final c = t.words_are ∙ rw (eq-eqb answer.code 0 e) in
    record {
      ready = (ready_of call a b m c is js work (none_first _ _ none)).ready;
      grid = rw written (encode_same (revision_after updating (revision c)) final (drop (grid_size final) c));
    }

pub lent_back : {a c c' d d' is js : List ℕ} → Accepted Assign a is js c c' → Accepted Extract c' is js d d'
    → Same (grid_of d') (grid_of a)
lent_back {a} {c} {c'} {d} {d'} {is} {js} (accepted_call b m w w' p q r x y κs result t e)
    (accepted_call b' m' v v' p' q' r' x' y' κs' result' t' e') =
    let f = left assigning a _ _ c is js _ (answer result) c' t.attempted e in
    let g = left extracting c' _ _ d is js _ (answer result') d' t'.attempted e' in
    same_trans g.grid
    (grids_back (grid_of a) _ _ (grid_of c) (grid_of c') _ _ (grid_of d) is js f.grid f.ready.indexes
    f.ready.shapes g.ready.shapes)
