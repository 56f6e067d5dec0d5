-- The laws of effects: on models that agree a call answers alike and leaves models that agree; a model that fits still
-- fits afterwards; and answers have their kind and a code. First for any effect, then call by call: a new call has a line
-- in `effect_same`, `effect_fits` and `effect_sound`.
use Rattle.std.proofs.Common.{None, Some}
use Prim.Native.Nat.{ℕ, ◌<◌}
use native.Mathlib.Omega.{arith}
use native.Mathlib.Decide.{ℕ_discrete}
use mathlib.Core.Path.{◌≡◌, refl, sym, ap, ◌∙◌}
use mathlib.Core.Bool.{Bool, true, false, not}
use mathlib.Core.List.{List, [], ◌∷◌, ◌++◌}
use lib.Dec.{leb, ltb}
use borrow.Author.Tests.{eq-eqb, ne_eqb, not-false, ltb-true, ltb-false}
use Rattle.conditions.specs.Tests.{◌and◌}
use Rattle.conditions.proofs.Tests.{and_left, and_right}
use Rattle.limits.specs.Limits.{slot_count, max_rows, max_cols}
use Rattle.limits.specs.Ranges.{in_range}
use Rattle.limits.proofs.Ranges.{range_facts}
use Rattle.answers.specs.Refusals.{accepted, invalid_shape, code_limit}
use Rattle.answers.specs.Reads.{found_answer}
use Rattle.answers.proofs.Numbers.{number_limit}
use Rattle.answers.specs.Numbers.{number_answer}
use Rattle.reductions.proofs.Same.{total_same}
use Rattle.grid.specs.Cell.{Cell}
use Rattle.grid.specs.declared.EntryAt.{EntryAt}
use Rattle.grid.specs.declared.EntryAt.TheVariants as entry
use Rattle.grid.specs.Grid.{Grid, Same, empty_grid}
use Rattle.grid.specs.Position.{entry_at}
use Rattle.grid.specs.Update.{with_cell}
use Rattle.grid.specs.Revision.{Writing, updating, making, revision_after}
use Rattle.grid.proofs.Same.{same_refl, same_count, same_changed}
use Rattle.grid.proofs.Counts.{empty_count, cleared_count}
use Rattle.grid.proofs.Position.{same_entry}
use Rattle.refusals.specs.Cases.{Case, given, first_applying}
use Rattle.refusals.proofs.Cases.{later, applying_after, applying_tail, applying_none}
use Rattle.refusals.proofs.Codes.{Coded, applying_coded, applying_numbered, coded_append, outputs_coded}
use Rattle.model.specs.Model.{vacant, holding, Model, slot_of, is_vacant, grid_at, revision_at, needed_with}
use Rattle.model.specs.Effects.{
  Reply,
  wrote,
  found,
  totalled,
  Kind,
  writing,
  reading,
  totalling,
  refused_as,
  code_of,
  changed,
  Effect,
  putting_grid,
  refusal_of,
  reply_of,
  next_of,
}
use Rattle.model.specs.Calls.{
  StoreCall,
  new_empty,
  drop_slot,
  set_cell,
  clear_cell,
  read_cell,
  operation,
  reduce_slot,
  formula,
  operate_of,
  operated,
  no_slot,
  no_monoid,
  cell_cases,
  no_room,
  fit_cases,
  with_value,
  without_value,
  effect,
}
use Rattle.model.proofs.Alike.{Alike, alike_put, grid_same, revision_same, no_grid_lem, cell_cases_lem, room_same, fit_same}
use Rattle.model.proofs.Fitting.{Fitting, put_fits, dropped_fits, shaped_fits, fewer_fits}
use Rattle.model.proofs.Formulas.{formula_coded, formula_fits, formula_same, formula_grid_same}
use Rattle.model.proofs.Operations.{operation_coded, operation_fits, operation_same, operated_same}

-- ---- any effect

-- on models that agree: the same refusal and, where there is none, the same answer and models that agree
pub record SameEffect (e : Effect) (n : ℕ) (m m' : Model) : Type 0 where
  pub refusal : refusal_of e n m ≡ refusal_of e n m'
  pub answer : refusal_of e n m ≡ 0 → e.answer m ≡ e.answer m'
  pub change : refusal_of e n m ≡ 0 → Alike (changed m (e.change m)) (changed m' (e.change m'))

-- an answer of the kind
abbrev pub OfKind : Kind → Reply → Type 0
OfKind writing (wrote a) = Unit {0}
OfKind writing (found a) = ⊥
OfKind writing (totalled a) = ⊥
OfKind reading (wrote a) = ⊥
OfKind reading (found a) = Unit {0}
OfKind reading (totalled a) = ⊥
OfKind totalling (wrote a) = ⊥
OfKind totalling (found a) = ⊥
OfKind totalling (totalled a) = Unit {0}

-- refusals have codes, and an accepted answer has none and the call's kind
pub record Sound (e : Effect) : Type 0 where
  pub coded : (n : ℕ) (m : Model) → Coded (e.cases n m)
  pub accepted_code : (m : Model) → code_of (e.answer m) ≡ 0
  pub of_kind : (m : Model) → OfKind e.kind (e.answer m)

pub refused_code : (k : Kind) (code : ℕ) → code_of (refused_as k code) ≡ code
refused_code writing code = refl
refused_code reading code = refl
refused_code totalling code = refl

pub refused_kind : (k : Kind) (code : ℕ) → OfKind k (refused_as k code)
refused_kind writing code = tt
refused_kind reading code = tt
refused_kind totalling code = tt

module _ (e : Effect) (n : ℕ) (m : Model) where
  module _ (s : Sound e) where
    -- the code of a reply is the refusal
    pub reply_code : code_of (reply_of e n m) ≡ refusal_of e n m
    unfolding reply_of
    reply_code = go (ℕ_discrete (refusal_of e n m) 0)
      where
        go : Dec (refusal_of e n m ≡ 0) → code_of (reply_of e n m) ≡ refusal_of e n m
        go (yes z) = rw (eq-eqb _ _ z) (s.accepted_code m ∙ sym z)
        go (no z) = rw (ne_eqb _ _ z) (refused_code e.kind (refusal_of e n m))

    pub refusal_below : refusal_of e n m < number_limit
    refusal_below = applying_numbered (e.cases n m) (s.coded n m)

    pub reply_small : code_of (reply_of e n m) < code_limit
    reply_small = let c = reply_code in omega (arith, applying_coded (e.cases n m) (s.coded n m))

    pub reply_kind : OfKind e.kind (reply_of e n m)
    unfolding reply_of
    reply_kind = go (ℕ_discrete (refusal_of e n m) 0)
      where
        go : Dec (refusal_of e n m ≡ 0) → OfKind e.kind (reply_of e n m)
        go (yes z) = rw (eq-eqb _ _ z) (s.of_kind m)
        go (no z) = rw (ne_eqb _ _ z) (refused_kind e.kind (refusal_of e n m))

    -- "A refused call changes nothing"
    pub refused_keeps : (code_of (reply_of e n m) ≡ 0 → ⊥) → next_of e n m ≡ m
    unfolding next_of
    refused_keeps h = rw (ne_eqb _ _ (λ z. h (reply_code ∙ z)))

  -- an accepted call changes the model as its effect says
  pub next_accepted : refusal_of e n m ≡ 0 → next_of e n m ≡ changed m (e.change m)
  unfolding next_of
  next_accepted z = rw (eq-eqb _ _ z)

  pub next_fits : Fitting n m → (refusal_of e n m ≡ 0 → Fitting n (changed m (e.change m))) → Fitting n (next_of e n m)
  unfolding next_of
  next_fits h f = go (ℕ_discrete (refusal_of e n m) 0)
    where
      go : Dec (refusal_of e n m ≡ 0) → Fitting n (next_of e n m)
      go (yes z) = rw (eq-eqb _ _ z) (f z)
      go (no z) = rw (ne_eqb _ _ z) h

  module _ {m' : Model} (s : SameEffect e n m m') where
    pub reply_same : reply_of e n m ≡ reply_of e n m'
    unfolding reply_of
    reply_same = go (ℕ_discrete (refusal_of e n m) 0)
      where
        go : Dec (refusal_of e n m ≡ 0) → reply_of e n m ≡ reply_of e n m'
        go (yes z) = let a = s.answer z in rw (← s.refusal, eq-eqb _ _ z, a)
        go (no z) = rw (← s.refusal, ne_eqb _ _ z)

    pub next_same : Alike m m' → Alike (next_of e n m) (next_of e n m')
    unfolding next_of
    next_same a = go (ℕ_discrete (refusal_of e n m) 0)
      where
        go : Dec (refusal_of e n m ≡ 0) → Alike (next_of e n m) (next_of e n m')
        go (yes z) = rw (← s.refusal, eq-eqb _ _ z) (s.change z)
        go (no z) = rw (← s.refusal, ne_eqb _ _ z) a

-- ---- a grid put into a slot
module _ (how : Writing) (k : ℕ) (grid : Model → Grid) (cases : ℕ → Model → List Case) where
  putting_same : (n : ℕ) (m m' : Model) → Alike m m' → first_applying (cases n m) ≡ first_applying (cases n m')
      → (first_applying (cases n m) ≡ 0 → Same (grid m) (grid m')) → SameEffect (putting_grid how k grid cases) n m m'
  putting_same n m m' a r s = record {
    refusal = r;
    answer = λ z. ap (λ (c : ℕ). wrote (accepted c)) (same_count (grid m) (grid m') (s z));
    change = λ z.
        alike_put m m' k (holding (revision_after how (revision_at m k)) (grid m))
        (holding (revision_after how (revision_at m' k)) (grid m')) a (ap (revision_after how) (revision_same n m m' a k), s z);
  }

  putting_sound : ((n : ℕ) (m : Model) → Coded (cases n m)) → Sound (putting_grid how k grid cases)
  putting_sound c = record { coded = c; accepted_code = λ m. refl; of_kind = λ m. tt }

-- ---- call by call: models that agree
module _ (n : ℕ) (m m' : Model) (a : Alike m m') where
  changed_same : (k i j : ℕ) (x : Cell) → Same (with_cell (grid_at m k) i j x) (with_cell (grid_at m' k) i j x)
  changed_same k i j x = same_changed (grid_at m k) (grid_at m' k) i j x (grid_same n m m' a k)

  -- where 12, 13 and 7 do not apply, the cell is there, and its entry at one position in both
  found_same : (k i j : ℕ) → first_applying (cell_cases m k i j) ≡ 0
      → entry_at (grid_at m k) i j ≡ entry_at (grid_at m' k) i j
  found_same k i j z =
      let s = grid_same n m m' a k in
      let h₁ = later (leb slot_count k) 12 _ refl z in
      let h₂ = later (is_vacant (slot_of m k)) 13 _ refl h₁.rest in
      let h₃ = later (not (ltb i (grid_at m k).rows and ltb j (grid_at m k).cols)) 7 0 refl h₂.rest in
      let t = not-false _ h₃.here in
      let p = ltb-true _ _ (and_left _ _ t) in
      let q = ltb-true _ _ (and_right _ _ t) in
      same_entry (grid_at m k) (grid_at m' k) i j s (rw (← s.rows) p) (rw (← s.cols) q)

  -- 8 of a new matrix
  abbrev shape : ℕ → ℕ → Case
  shape r c = given invalid_shape (not (in_range max_rows r and in_range max_cols c))

  pub effect_same : (c : StoreCall) → SameEffect (effect c) n m m'
  unfolding effect
  effect_same (new_empty k r c) =
      let s = same_refl (empty_grid r c) in
      putting_same making k _ _ n m m' a
      (ap (λ (x : Case). first_applying (no_slot k ∷ shape r c ∷ x ∷ [])) (room_same n m m' a k _ _ s)) (λ z. s)
  effect_same (drop_slot k) =
      record { refusal = refl; answer = λ z. refl; change = λ z. alike_put m m' k vacant vacant a tt }
  effect_same (set_cell k i j v) =
      let s = changed_same k i j (Some v) in
      putting_same updating k _ _ n m m' a
      (ap (λ (xs : List Case). first_applying (xs ++ fit_cases n m k (with_value m k i j v))) (cell_cases_lem n m m' a k i j)
      ∙ ap (λ (xs : List Case). first_applying (cell_cases m' k i j ++ xs)) (fit_same n m m' a k _ _ s)) (λ z. s)
  effect_same (clear_cell k i j) =
      putting_same updating k _ _ n m m' a (ap first_applying (cell_cases_lem n m m' a k i j)) (λ z. changed_same k i j None)
  effect_same (read_cell k i j) = record {
    refusal = ap first_applying (cell_cases_lem n m m' a k i j);
    answer = λ z. ap (λ (x : EntryAt). found (found_answer x)) (found_same k i j z);
    change = λ z. a;
  }
  effect_same (operation x) =
      putting_same updating _ _ _ n m m' a (operation_same n m m' a (operate_of x)) (operated_same n m m' a (operate_of x))
  effect_same (reduce_slot k number) = record {
    refusal = ap (λ (x : Case). first_applying (no_slot k ∷ no_monoid number ∷ x ∷ [])) (no_grid_lem n m m' a k);
    answer = λ z.
        ap (λ (v : ℕ). totalled (number_answer v)) (total_same _ (grid_at m k) (grid_at m' k) (grid_same n m m' a k));
    change = λ z. a;
  }
  effect_same (formula x) =
      putting_same making _ _ _ n m m' a (formula_same n m m' a x) (λ z. formula_grid_same n m m' a x z)

-- ---- call by call: what fits
module _ (n : ℕ) (m : Model) (h : Fitting n m) where
  -- a slot that a cell is named in is not empty
  cell_held : (k i j : ℕ) → first_applying (cell_cases m k i j) ≡ 0 → is_vacant (slot_of m k) ≡ false
  cell_held k i j z =
      let h₁ = later (leb slot_count k) 12 _ refl z in
      (later (is_vacant (slot_of m k)) 13 _ refl h₁.rest).here

  pub effect_fits : (c : StoreCall) → refusal_of (effect c) n m ≡ 0 → Fitting n (changed m ((effect c).change m))
  unfolding effect
  effect_fits (new_empty k r c) z =
      let h₁ = later (leb slot_count k) 12 _ refl z in
      let h₂ = later (not (in_range max_rows r and in_range max_cols c)) 8 _ refl h₁.rest in
      let h₃ = later (ltb n (needed_with m k (empty_grid r c))) 11 0 refl h₂.rest in
      let t = not-false _ h₂.here in
      let e = empty_count r c in
      put_fits n m h k (holding 0 (empty_grid r c))
      (record {
        row_range = range_facts max_rows r (and_left _ _ t);
        col_range = range_facts max_cols c (and_right _ _ t);
        few = omega arith;
      })
      (ltb-false _ _ h₃.here)
  effect_fits (drop_slot k) z = dropped_fits n m h k
  effect_fits (set_cell k i j v) z =
      let fits = fit_cases n m k (with_value m k i j v) in
      let c = applying_none (cell_cases m k i j) fits (refl, (refl, (refl, tt))) z in
      let f = applying_tail (cell_cases m k i j) fits (refl, (refl, (refl, tt))) z in
      shaped_fits n m h k (with_value m k i j v) (cell_held k i j c) refl refl _ f
  effect_fits (clear_cell k i j) z =
      fewer_fits n m h k (without_value m k i j) (cell_held k i j z) refl refl _ (cleared_count (grid_at m k) i j)
  effect_fits (read_cell k i j) z = h
  effect_fits (operation x) z = operation_fits n m (operate_of x) _ h z
  effect_fits (reduce_slot k number) z = h
  effect_fits (formula x) z = formula_fits n m x h z

-- ---- call by call: answers and codes
cell_coded : (m : Model) (k i j : ℕ) → Coded (cell_cases m k i j)
cell_coded m k i j = (omega arith, (omega arith, (omega arith, tt)))

found_code : (x : EntryAt) → code_of (found (found_answer x)) ≡ 0
found_code (entry.Absent p) = refl
found_code (entry.Present v p) = refl

pub effect_sound : (c : StoreCall) → Sound (effect c)
unfolding effect
effect_sound (new_empty k r c) = putting_sound making k _ _ (λ n m. (omega arith, (omega arith, (omega arith, tt))))
effect_sound (drop_slot k) =
    record { coded = λ n m. (omega arith, tt); accepted_code = λ m. refl; of_kind = λ m. tt }
effect_sound (set_cell k i j v) =
    putting_sound updating k _ _ (λ n m. coded_append (cell_cases m k i j) (fit_cases n m k (with_value m k i j v))
    (cell_coded m k i j)
    (outputs_coded (with_value m k i j v) (needed_with m k (with_value m k i j v)) n))
effect_sound (clear_cell k i j) = putting_sound updating k _ _ (λ n m. cell_coded m k i j)
effect_sound (read_cell k i j) = record {
  coded = λ n m. cell_coded m k i j;
  accepted_code = λ m. found_code (entry_at (grid_at m k) i j);
  of_kind = λ m. tt;
}
effect_sound (operation x) = putting_sound updating _ _ _ (λ n m. operation_coded n m (operate_of x))
effect_sound (reduce_slot k number) = record {
  coded = λ n m. (omega arith, (omega arith, (omega arith, tt)));
  accepted_code = λ m. refl;
  of_kind = λ m. tt;
}
effect_sound (formula x) = putting_sound making _ _ _ (λ n m. formula_coded n m x)
