-- On a store: the claim over every list of calls, at the two of them, and the model after each.
use Prim.Native.Nat.{ℕ, ◌<◌}
use native.Mathlib.Omega.{arith}
use mathlib.Core.Path.{◌≡◌, refl, sym, ap, ◌∙◌}
use mathlib.Core.Bool.{Bool, true, false}
use mathlib.Core.List.{List, [], ◌∷◌, ◌++◌, map}
use lib.ListN.{length}
use lib.Dec.{leb}
use lib.Seq.{get_or-set_same}
use borrow.Author.Tests.{not-false, leb-false}
use Rattle.limits.specs.Limits.{slot_count}
use Rattle.words.specs.Words.{at}
use Rattle.grid.specs.Grid.{Same}
use Rattle.grid.specs.Revision.{updating, revision_after}
use Rattle.grid.proofs.Same.{same_refl, same_trans}
use Rattle.operations.specs.Calls.{indexes_valid, shapes_agree}
use Rattle.slots.specs.Valid.{store_valid}
use Rattle.slots.proofs.Facts.{store_facts}
use Rattle.model.specs.Model.{Slot, vacant, holding, Model, put, grid_in, grid_at, revision_at}
use Rattle.model.specs.Effects.{Reply, code_of, refusal_of}
use Rattle.model.specs.Calls.{
  StoreCall,
  OperationCall,
  Operate,
  operate_of,
  operated,
  operation,
  operation_cases,
  effect,
  role_cases,
  no_slot,
  no_grid,
  agreements_of,
  fit_cases,
}
use Rattle.model.specs.Histories.{reply, next}
use Rattle.model.proofs.Alike.{grid_same}
use Rattle.model.proofs.Fitting.{Fitting}
use Rattle.model.proofs.Effects.{reply_code, next_accepted, next_fits, effect_fits, effect_sound, refused_code}
use Rattle.refusals.specs.Cases.{first_applying, number_cases}
use Rattle.refusals.proofs.Cases.{later, applying_none, applying_tail}
use Rattle.store_encoding.specs.Writing.{model_writing}
use Rattle.store_encoding.specs.Stores.{model_of, effect_reply, Performed}
use Rattle.histories.specs.Lists.{Runs, call}
use Rattle.histories.proofs.Functions.{told}
use Rattle.histories.proofs.Claim.{resumed}
use Rattle.histories.proofs.Stored.{held_fits, written_model}
use Rattle.call_codes.specs.declared.Verb.{Verb}
use Rattle.call_codes.specs.declared.Verb.TheVariants.{Assign, Extract}
use Rattle.assign_extract.specs.ReadBack.{plainly, SlotCall, slot_call}
use Rattle.assign_extract.proofs.Grids.{grids_back}

-- what is known of an operation that is not refused: C's slot, and its lists and shapes agree
record Agreed (m : Model) (o : Operate) : Type 0 where
  slot : o.roles.output < slot_count
  indexes : indexes_valid o.call (grid_at m o.roles.first) (grid_at m o.roles.second)
      (grid_at m o.roles.output) o.is o.js ≡ true
  shapes : shapes_agree o.call (grid_at m o.roles.first) (grid_at m o.roles.second)
      (grid_at m o.roles.mask) (grid_at m o.roles.output) o.is o.js ≡ true

agreed : (n : ℕ) (m : Model) (o : Operate) → first_applying (operation_cases n m o) ≡ 0 → Agreed m o
agreed n m o z =
    let slots = role_cases no_slot o.roles in
    let numbers = number_cases o.call in
    let grids = role_cases (no_grid m) o.roles in
    let fits = fit_cases n m o.roles.output (operated m o) in
    let rest = numbers ++ (grids ++ (agreements_of m o ++ fits)) in
    let twelve = applying_none slots rest (refl, (refl, (refl, (refl, tt)))) z in
    let a = later (leb slot_count o.roles.first) 12 _ refl twelve in
    let b = later (leb slot_count o.roles.second) 12 _ refl a.rest in
    let c = later (leb slot_count o.roles.mask) 12 _ refl b.rest in
    let d = later (leb slot_count o.roles.output) 12 0 refl c.rest in
    let y = applying_tail slots rest (refl, (refl, (refl, (refl, tt)))) z in
    let x = applying_tail numbers (grids ++ (agreements_of m o ++ fits)) (refl, (refl, tt)) y in
    let w = applying_tail grids (agreements_of m o ++ fits) (refl, (refl, (refl, (refl, tt)))) x in
    let v = applying_none (agreements_of m o) fits (refl, (refl, (refl, tt))) w in
    let h₇ = later _ 7 _ refl v in
    let h₈ = later _ 8 _ refl h₇.rest in
    record {
      slot = leb-false _ _ d.here;
      indexes = not-false _ h₇.here;
      shapes = not-false _ h₈.here;
    }

-- an accepted operation on the model
module _ (n : ℕ) (m : Model) (f : Fitting n m) (x : OperationCall) (z : refusal_of (effect (operation x)) n m ≡ 0) where
  agrees : Agreed m (operate_of x)
  unfolding effect
  agrees = agreed n m (operate_of x) z

  -- C's slot holds the final C, with the next revision
  abbrev left : Slot
  left =
      holding (revision_after updating (revision_at m (operate_of x).roles.output)) (operated m (operate_of x))

  model_is : next n m (operation x) ≡ put m (operate_of x).roles.output left
  unfolding effect
  model_is = next_accepted (effect (operation x)) n m z

  grid_is : grid_at (next n m (operation x)) (operate_of x).roles.output ≡ operated m (operate_of x)
  grid_is =
      ap (λ (w : Model). grid_at w (operate_of x).roles.output) model_is
      ∙ ap grid_in (get_or-set_same m (operate_of x).roles.output left vacant (omega (arith, agrees.slot, f.slots)))

  fits_next : Fitting n (next n m (operation x))
  fits_next = next_fits (effect (operation x)) n m f (effect_fits n m f (operation x))

-- an accepted call was made on a store
accepted_valid : {s s' : List ℕ} (c : StoreCall) {r : Reply} → Performed s c r s' → code_of r ≡ 0 → store_valid s ≡ true
unfolding effect_reply
accepted_valid {s} {s'} c {r} t e = go (store_valid s) refl
  where
    go : (b : Bool) → store_valid s ≡ b → b ≡ true
    go true h = refl
    go false h =
        let k : code_of r ≡ 12 = ap code_of t.answer_is ∙ rw h (refused_code (effect c).kind 12) in
        absurd (omega (arith, e))

-- the call of a slot, as the model has it
abbrev asked : (verb : Verb) → List ℕ → List ℕ → SlotCall → OperationCall
asked verb is js x = record {
  options = plainly;
  verb = verb;
  named = record { first = x.first; second = x.second; mask = x.mask; output = x.output };
  is = is;
  js = js;
  work = x.work;
}

-- the codes of replies
abbrev code_at : ℕ → List Reply → ℕ
code_at k rs = at (map code_of rs) k

pub store_back : {s s'' is js : List ℕ} (x y : SlotCall) {r r' : Reply} → y.first ≡ x.output
    → Runs s (slot_call Assign is js x ∷ slot_call Extract is js y ∷ []) (r ∷ r' ∷ []) s''
    → code_of r ≡ 0 → code_of r' ≡ 0 → Same (grid_at (model_of s'') y.output) (grid_at (model_of s) x.first)
store_back {s} {s''} {is} {js} x y {r} {r'} same (call t u) e e' =
    let n = length s in
    let m = model_of s in
    let c = operation (asked Assign is js x) in
    let d = operation (asked Extract is js y) in
    let valid = accepted_valid c (told t) e in
    let h = store_facts s valid in
    let f = held_fits s h in
    let o = resumed s valid (c ∷ d ∷ []) (r ∷ r' ∷ []) s'' (call t u) in
    let z : refusal_of (effect c) n m ≡ 0 =
    sym (ap (code_at 0) o.answers ∙ reply_code (effect c) n m (effect_sound c)) ∙ e in
    let m₁ = next n m c in
    let z' : refusal_of (effect d) n m₁ ≡ 0 =
    sym (ap (code_at 1) o.answers ∙ reply_code (effect d) n m₁ (effect_sound d)) ∙ e' in
    let f₁ = fits_next n m f (asked Assign is js x) z in
    let f₂ = fits_next n m₁ f₁ (asked Extract is js y) z' in
    let p = agrees n m f (asked Assign is js x) z in
    let q = agrees n m₁ f₁ (asked Extract is js y) z' in
    let g : grid_at m₁ y.first ≡ operated m (operate_of (asked Assign is js x)) =
    ap (grid_at m₁) same ∙ grid_is n m f (asked Assign is js x) z in
    let back =
    grids_back (grid_at m x.first) (grid_at m x.first) (grid_at m x.output)
    (grid_at m x.output) (grid_at m₁ y.first) (grid_at m₁ y.first) (grid_at m₁ y.output) (grid_at m₁ y.output)
    is js (rw g (same_refl _)) p.indexes p.shapes q.shapes in
    let last : Same (grid_at (model_of s'') y.output) (grid_at (next n m₁ d) y.output) =
    rw o.words (grid_same n (model_of (model_writing n (next n m₁ d))) (next n m₁ d)
    (written_model n (next n m₁ d) h.least h.most f₂).alike y.output) in
    same_trans last (rw (grid_is n m₁ f₁ (asked Extract is js y) z') back)
