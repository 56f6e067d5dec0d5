-- The loop over an index list: marks of the indexes passed, and what they say. And the bounds of a call's lists, which lie
-- within the map.
use Prim.Native.Nat.{ℕ, ◌+◌, ◌≤◌, ◌<◌}
use native.Mathlib.Omega.{arith}
use native.Mathlib.Decide.{ℕ_discrete}
use native.Mathlib.Numerals.{add-one}
use mathlib.Core.Path.{◌≡◌, refl, sym, ap, ◌∙◌}
use mathlib.Core.List.{List}
use mathlib.Core.Bool.{Bool, true, false, cond, not}
use lib.ListN.{length, replicate}
use lib.Dec.{eqb}
use borrow.Author.Tests.{eq-eqb, ne_eqb, lt-ltb, le-ltb}
use Rattle.limits.specs.Limits.{max_cols}
use Rattle.words.specs.Words.{at}
use Rattle.conditions.specs.Tests.{◌and◌, all}
use Rattle.conditions.proofs.Tests.{and_both, all_none, all_more, all_not}
use Rattle.bit_rows.specs.Bits.{map_words, mark, Marking}
use Rattle.bit_rows.proofs.Marks.{tracked_none, mark_none}
use Rattle.grid.specs.Grid.{Grid}
use Rattle.matrix.specs.Layout.{grid_of}
use Rattle.matrix.specs.Facts.{Matrix}
use Rattle.operations.specs.declared.Call.{Call}
use Rattle.operations.specs.declared.Needs.{Needs}
use Rattle.operations.specs.declared.Shapes.{Shapes}
use Rattle.operations.specs.GridOperations.{oriented, needs_of, shape_of, no_shape}
use Rattle.operations.specs.Calls.{transpose_first, transpose_second, has_second, call_shapes, fresh, index_fits}
use Rattle.operations.specs.Lists.{Small}
use Rattle.operations.proofs.Results.{bounds_small}
use Rattle.requests.specs.Inputs.{Valid}
use Rattle.requests.specs.Lists.{Seen}

-- no index is passed, and the map is new
pub seen_none : (l : List ℕ) → Seen l 0 0 (replicate map_words 0)
seen_none l = record {
  tracked = tracked_none;
  marks = λ j. mark_none j ∙ sym (ap (λ (b : Bool). cond b 0 1) (all_none (λ h. not (eqb (at l h) j))));
}

and_true : (b : Bool) → (b and true) ≡ b
unfolding ◌and◌
and_true true = refl
and_true false = refl

module _ {l : List ℕ} {k top : ℕ} {map : List ℕ} (s : Seen l k top map) where
  -- index k is marked
  pub seen_more : {top' : ℕ} {map' : List ℕ} → Marking (at l k) map top' map' → Seen l (k + 1) top' map'
  unfolding all
  seen_more {top'} {map'} m = record { tracked = m.tracked; marks = λ j. go j (ℕ_discrete j (at l k)) }
    where
      older : (j : ℕ) → (j ≡ at l k → ⊥) → fresh l (k + 1) j ≡ fresh l k j
      older j n =
          let e : (fresh l k j and not (eqb (at l k) j)) ≡ (fresh l k j and true) =
          ap (λ (b : Bool). fresh l k j and not b) (ne_eqb (at l k) j (λ e. n (sym e))) in
          rw (add-one k) (e ∙ and_true (fresh l k j))

      go : (j : ℕ) → Dec (j ≡ at l k) → mark map' j ≡ cond (fresh l (k + 1) j) 0 1
      go j (yes e) =
          let f : fresh l (k + 1) j ≡ false =
          all_not (λ h. not (eqb (at l h) j)) (k + 1) k (omega arith) (ap not (eq-eqb (at l k) j (sym e))) in
          ap (mark map') e ∙ m.here ∙ sym (ap (λ (b : Bool). cond b 0 1) f)
      go j (no n) = m.other j n ∙ s.marks j ∙ sym (ap (λ (b : Bool). cond b 0 1) (older j n))

  -- an index with a mark stands among the first k, and one without does not
  pub seen_twice : (j : ℕ) → (mark map j ≡ 0 → ⊥) → fresh l k j ≡ false
  seen_twice j n = go (fresh l k j) (s.marks j)
    where
      go : (b : Bool) → mark map j ≡ cond b 0 1 → b ≡ false
      go true e = absurd (n e)
      go false e = refl

  pub seen_fresh : (j : ℕ) → mark map j ≡ 0 → fresh l k j ≡ true
  seen_fresh j z = go (fresh l k j) (s.marks j)
    where
      go : (b : Bool) → mark map j ≡ cond b 0 1 → b ≡ true
      go true e = refl
      go false e = absurd (omega arith)

-- the first k indexes are passed: each fits and has its mark
pub record Passed (n : ℕ) (l : List ℕ) (k top : ℕ) (map : List ℕ) : Type 0 where
  pub within : k ≤ length l
  pub fits : all k (index_fits n l) ≡ true
  pub seen : Seen l k top map

pub passed_start : (n : ℕ) (l map : List ℕ) → Seen l 0 0 map → Passed n l 0 0 map
passed_start n l map s = record { within = omega arith; fits = all_none (index_fits n l); seen = s }

module _ {n : ℕ} {l : List ℕ} {k top : ℕ} {map : List ℕ} (p : Passed n l k top map) where
  -- index k is past the end
  pub passed_past : k < length l → n ≤ at l k → false ≡ all (length l) (index_fits n l)
  unfolding ◌and◌
  passed_past h m = sym (all_not (index_fits n l) (length l) k h (rw (le-ltb (at l k) n m)))

  module _ (h : k < length l) (m : at l k < n) where
    -- it stands before
    pub passed_twice : (mark map (at l k) ≡ 0 → ⊥) → false ≡ all (length l) (index_fits n l)
    unfolding ◌and◌
    passed_twice e =
        sym (all_not (index_fits n l) (length l) k h (rw (lt-ltb (at l k) n m) (seen_twice p.seen (at l k) e)))

    -- it fits
    pub passed_more : mark map (at l k) ≡ 0 → {top' : ℕ} {map' : List ℕ} → Marking (at l k) map top' map'
        → Passed n l (k + 1) top' map'
    passed_more e g = record {
      within = omega arith;
      fits = all_more (index_fits n l) k p.fits
          (and_both (lt-ltb (at l k) n m) (seen_fresh p.seen (at l k) e));
      seen = seen_more p.seen g;
    }

  -- behind the last
  pub passed_done : length l ≤ k → true ≡ all (length l) (index_fits n l)
  passed_done h =
      let e : k ≡ length l = omega (arith, p.within) in sym (rw e at p.fits)

-- the shape of a valid matrix as its flag asks lies within the map
oriented_small : (flag : Bool) (a : List ℕ) → Matrix a → Small max_cols (shape_of (oriented flag (grid_of a)))
oriented_small true a m = (m.header.col_range.most, omega (arith, m.header.row_range.most))
oriented_small false a m = (omega (arith, m.header.row_range.most), m.header.col_range.most)

-- and so do the shapes of both inputs, where there are two
second_small : (there : Bool) (g : Grid) → (there ≡ true → Small max_cols (shape_of g))
    → Small max_cols (cond there (shape_of g) no_shape)
second_small true g h = h refl
second_small false g h = (omega arith, omega arith)

pub inputs_small : (call : Call) (a b m c is js : List ℕ) → Valid call a b m c → (s : Shapes)
    → s ≡ call_shapes call (grid_of a) (grid_of b) (grid_of c) is js
    → Small max_cols s.first × Small max_cols s.second
inputs_small call a b m c is js v s e = rw e (
  oriented_small (transpose_first call) a v.first,
  second_small (has_second call.operation) (oriented (transpose_second call) (grid_of b))
      (λ t. oriented_small (transpose_second call) b (v.second t)),
)

-- and so do the bounds of the lists
pub lists_within : (call : Call) (a b m c is js : List ℕ) → Valid call a b m c → (s : Shapes) (n : Needs)
    → s ≡ call_shapes call (grid_of a) (grid_of b) (grid_of c) is js → n ≡ needs_of call.operation s
    → Small max_cols n.bounds
lists_within call a b m c is js v s n e f =
    rw (f, e) (bounds_small max_cols (call_shapes call (grid_of a) (grid_of b) (grid_of c) is js)
    (oriented_small (transpose_first call) a v.first) (oriented_small false c v.output) call.operation)
