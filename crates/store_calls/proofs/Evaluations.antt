-- `evaluate`: what is found on the words of four slots, as the model says it of their grids.
use Prim.Native.Nat.{ℕ, ◌≤◌, ◌<◌}
use native.Mathlib.Omega.{arith}
use mathlib.Core.Path.{◌≡◌, refl, sym, ap, subst, ◌∙◌}
use mathlib.Core.List.{List, ◌++◌}
use lib.ListN.{length, take, drop, take-append-drop}
use lib.Seq.{take_at}
use borrow.Author.Tests.{eqb-false, lt-ltb}
use Rattle.limits.specs.Limits.{max_entries}
use Rattle.answers.specs.Refusals.{too_many_entries}
use Rattle.grid.specs.Grid.{Grid}
use Rattle.grid.specs.Entries.{entry_count}
use Rattle.grid.specs.Revision.{updating, revision_after}
use Rattle.matrix.specs.Layout.{revision, grid_of}
use Rattle.matrix.specs.Facts.{Matrix}
use Rattle.matrix.specs.HeaderWords.{with_revision}
use Rattle.encoding.specs.Encode.{encode_revised, encode, grid_size}
use Rattle.encoding.proofs.Canonical.{encode_length, encode_revised_lem}
use Rattle.operations.specs.declared.Call.{Call}
use Rattle.operations.specs.Calls.{call_final}
use Rattle.refusals.specs.Cases.{first_applying, agreement_cases, agreement_refusal}
use Rattle.requests.specs.Refusal.{lent_final}
use Rattle.requests.specs.Inputs.{Valid}
use Rattle.slots.specs.Sections.{slot_at}
use Rattle.slots.specs.Facts.{Held}
use Rattle.model.specs.declared.Roles.{Roles}
use Rattle.model.specs.Model.{grid_at}
use Rattle.model.specs.Calls.{Operate, operated, agreements_of}
use Rattle.store_encoding.specs.Stores.{model_of}
use Rattle.store_encoding.proofs.Held.{grid_model, revision_model}
use Rattle.store_calls.specs.Attempts.{Holding, RefusedBy, output_next, DoneBy}
use Rattle.store_calls.proofs.Refusals.{agreement_first, agreement_passed}

-- a matrix has words
pub not_empty : (x : List ℕ) → Held x → length x ≡ 0 → ⊥
not_empty x h e = let w = h.whole in omega arith

-- another revision in the writing of a grid at the front of words
revised_front : (v : ℕ) (g : Grid) (w : List ℕ) → take (grid_size g) w ≡ encode g
    → take (grid_size g) (with_revision v w) ≡ encode_revised v g
revised_front v g w t =
    let k = grid_size g in
    let d : w ≡ encode g ++ drop k w = sym (take-append-drop k w) ∙ ap (λ (x : List ℕ). x ++ drop k w) t in
    ap (λ (x : List ℕ). take k (with_revision v x)) d ∙ ap (take k) (encode_revised_lem 0 v g (drop k w))
    ∙ take_at (encode_revised v g) (drop k w) k (encode_length v g)

-- the words of each role, as they are lent
pub record Lent (s : List ℕ) (r : Roles) (a b m c : List ℕ) : Type 0 where
  pub first : a ≡ slot_at s r.first
  pub second : b ≡ slot_at s r.second
  pub mask : m ≡ slot_at s r.mask
  pub output : c ≡ slot_at s r.output

pub lent : (s : List ℕ) (r : Roles) (a b m c : List ℕ) → a ≡ slot_at s r.first → b ≡ slot_at s r.second
    → m ≡ slot_at s r.mask → c ≡ slot_at s r.output → Lent s r a b m c
lent s r a b m c p q t u = record { first = p; second = q; mask = t; output = u }

-- they are valid matrices
pub all_valid : (call : Call) (s : List ℕ) (r : Roles) (a b m c : List ℕ) → Holding s r → Lent s r a b m c
    → Valid call a b m c
all_valid call s r a b m c h e = record {
  first = subst Matrix (sym e.first) h.first.matrix;
  second = λ t. subst Matrix (sym e.second) h.second.matrix;
  mask = λ t. subst Matrix (sym e.mask) h.mask.matrix;
  output = subst Matrix (sym e.output) h.output.matrix;
}

-- their grids are the model's
grid_by : (s x : List ℕ) (k : ℕ) → Held (slot_at s k) → x ≡ slot_at s k → grid_at (model_of s) k ≡ grid_of x
grid_by s x k h e = grid_model s k (not_empty _ h) ∙ ap grid_of (sym e)

-- four grids replaced at once
four : {A : Type 0} (f : Grid → Grid → Grid → Grid → A) {a b c d w x y z : Grid} → a ≡ w → b ≡ x → c ≡ y → d ≡ z
    → f a b c d ≡ f w x y z
four f p q r t = rw (p, q, r, t)

module _ (s : List ℕ) (o : Operate) (a b m c : List ℕ) (h : Holding s o.roles) (e : Lent s o.roles a b m c) where
  -- what is said of the model's four grids is said of these
  by_words : {A : Type 0} (f : Grid → Grid → Grid → Grid → A)
      → f (grid_at (model_of s) o.roles.first) (grid_at (model_of s) o.roles.second)
      (grid_at (model_of s) o.roles.mask) (grid_at (model_of s) o.roles.output)
      ≡ f (grid_of a) (grid_of b) (grid_of m) (grid_of c)
  by_words {A} f =
      let p = grid_by s a o.roles.first h.first e.first in
      let q = grid_by s b o.roles.second h.second e.second in
      let r = grid_by s m o.roles.mask h.mask e.mask in
      let t = grid_by s c o.roles.output h.output e.output in
      four f p q r t

  -- the final C, and the first of 7 to 9, by the words
  abbrev final : Grid
  final = lent_final o.call a b m c o.is o.js

  abbrev agreed : ℕ
  agreed = agreement_refusal o.call (grid_of a) (grid_of b) (grid_of m) (grid_of c) o.is o.js o.work

  final_is : operated (model_of s) o ≡ final
  final_is = by_words (λ a b m c. call_final o.call a b m c o.is o.js)

  agreement_is : first_applying (agreements_of (model_of s) o) ≡ agreed
  unfolding agreement_refusal
  agreement_is = by_words (λ a b m c. first_applying (agreement_cases o.call a b m c o.is o.js o.work))

  -- refused by 7 to 9
  pub evaluated_refused : (code : ℕ) → code ≡ agreed → (code ≡ 0 → ⊥) → RefusedBy code (model_of s) o
  evaluated_refused code q n = record {
    some = n;
    applying_is = λ i. agreement_first (model_of s) o i code (q ∙ sym agreement_is) n;
  }

  module _ (z : agreed ≡ 0) where
    -- too many entries
    pub evaluated_full : max_entries < entry_count final → RefusedBy too_many_entries (model_of s) o
    evaluated_full l =
        let f : max_entries < entry_count (operated (model_of s) o) = rw final_is l in
        record {
          some = eqb-false too_many_entries 0 refl;
          applying_is = λ i. sym (agreement_passed (model_of s) o i (agreement_is ∙ z) ∙ rw (lt-ltb _ _ f));
        }

    -- the final C is at the front of the workspace, and its revision, v, is set
    pub evaluated_done : (n v : ℕ) (w w' : List ℕ) → n ≡ entry_count final → n ≤ max_entries
        → take (grid_size final) w ≡ encode final → w' ≡ with_revision v w → v ≡ revision_after updating (revision c)
        → DoneBy n (model_of s) o w'
    evaluated_done n v w w' q f t r u = record {
      agrees = agreement_is ∙ z;
      count = q ∙ ap entry_count (sym final_is);
      few = f;
      written =
          let k = o.roles.output in
          let old = revision_model s k (not_empty _ h.output) ∙ ap revision (sym e.output) in
          ap (λ (g : Grid). take (grid_size g) w') final_is ∙ ap (take (grid_size final)) r ∙ revised_front v final w t
          ∙ ap (λ (x : ℕ). encode_revised x final) (u ∙ ap (revision_after updating) (sym old))
          ∙ ap (encode_revised (output_next (model_of s) o)) (sym final_is);
    }
