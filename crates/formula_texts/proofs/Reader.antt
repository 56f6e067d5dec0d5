-- The computed reading of a whole text is its tree, where it is in the language.
use mathlib.Core.Path.{◌≡◌, refl, sym, ap, ◌∙◌}
use mathlib.Core.Bool.{Bool, true, false, cond}
use mathlib.Core.List.{List, [], ◌∷◌, append-nil}
use Prim.Native.Nat.{ℕ, ◌*◌, ◌≤◌}
use native.Mathlib.Omega.{arith}
use lib.ListN.{length}
use lib.Dec.{leb}
use borrow.Author.Tests.{leb-true, le-leb}
use Rattle.formula_texts.specs.Trees.{Formula, text, Reading, InLanguage}
use Rattle.formula_texts.specs.Reading.{before, Decides}
use Rattle.formula_texts.specs.Reader.{
  Parsed,
  found,
  nothing,
  read_formula,
  Outcome,
  read_as,
  unreadable,
  whole,
  reading,
  readable,
  accepted,
}
use Rattle.formula_texts.proofs.Once.{before_is}
use Rattle.formula_texts.proofs.Found.{paid, formula_found}
use Rattle.formula_texts.proofs.Sound.{formula_sound}

-- a text of the language has its tree as its computed reading
pub reading_found : (s : List ℕ) (f : Formula) → Reading s f → reading s ≡ read_as f
unfolding reading
reading_found s f R =
    let w : text f ≡ s = R.written in
    let l : length s ≤ 64 = R.short in
    let e : before f [] ≡ s = before_is f [] ∙ append-nil (text f) ∙ w in
    let m : length (text f) ≡ length s = ap length w in
    let g : read_formula (3 * length s) 3 (before f []) ≡ found f [] =
    formula_found f (3 * length s) 3 [] R.within ((tt, tt), tt) (omega (arith, paid f)) in
    rw (le-leb (length s) 64 l) (ap whole (rw e at g))

-- the computed reading is a reading
pub reading_sound : (s : List ℕ) (f : Formula) → reading s ≡ read_as f → Reading s f
unfolding reading
reading_sound s f e = by (leb (length s) 64) (read_formula (3 * length s) 3 s) refl refl e
  where
    out : {g : Formula} → unreadable ≡ read_as g → ⊥
    out q = let z : ◌≡◌ {A = ℕ} 0 1 = cc in omega arith

    by : (t : Bool) (o : Parsed Formula) → leb (length s) 64 ≡ t → read_formula (3 * length s) 3 s ≡ o
        → cond t (whole o) unreadable ≡ read_as f → Reading s f
    by false o p q i = absurd (out i)
    by true nothing p q i = absurd (out i)
    by true (found g (x ∷ r)) p q i = absurd (out i)
    by true (found g []) p q i =
        let u : g ≡ f = cc in
        let v = formula_sound (3 * length s) 3 s g [] q in
        let w : Reading s g = record {
          within = v.0;
          written = sym (append-nil (text g)) ∙ sym (before_is g [])
              ∙ sym v.1;
          short = leb-true (length s) 64 p;
        } in
        rw u at w

-- an answer that decides the language is the computed one: for `store_formulas::early_refusal`
pub answer_is : (s : List ℕ) (r : Bool) → Decides (InLanguage s) r → r ≡ accepted s
answer_is s r h = by r (reading s) refl h
  where
    by : (r : Bool) (o : Outcome) → reading s ≡ o → Decides (InLanguage s) r → r ≡ readable (reading s)
    by true o e h = sym (ap readable (reading_found s h.0 h.1))
    by false (read_as f) e h = absurd (h (f, reading_sound s f e))
    by false unreadable e h = sym (ap readable e)
