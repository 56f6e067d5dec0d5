-- The answers of `accepts`: the formula from 0 on is the whole text, or the text is not in the language.
use mathlib.Core.Path.{◌≡◌, refl, sym, ap, ◌∙◌}
use mathlib.Core.List.{List, [], append-nil}
use Prim.Native.Nat.{ℕ, ◌-◌, ◌≤◌}
use native.Mathlib.Omega.{arith}
use lib.ListN.{length, drop, length-drop}
use lib.Seq.{drop-length}
use Rattle.std.specs.Prelude.{Option, Some, None, Bool, true, false}
use Rattle.std.specs.Option.{option_eq}
use borrow.Author.Tests.{eqb-true, eq-eqb}
use mathlib.Core.Bool.{false≢true}
use lib.Dec.{eqb}
use Rattle.formula_texts.specs.Trees.{text, InLanguage}
use Rattle.formula_texts.specs.Reading.{before, FormulaThen, FormulaStops, Ended, Read, Decides}
use Rattle.formula_texts.proofs.Once.{before_is}
use Rattle.formula_texts.proofs.Factors.{formula_rest}

-- a text of the language is a formula that nothing follows
reading_is : (s : List ℕ) → InLanguage s → FormulaThen 3 s []
reading_is s (f, R) = (f, R.within, sym R.written ∙ sym (append-nil (text f)) ∙ sym (before_is f []))

nothing_follows : FormulaStops []
nothing_follows = ((tt, tt), tt)

-- no formula stands at 0
no_formula : (s : List ℕ) → Read FormulaThen FormulaStops s 0 3 None → InLanguage s → ⊥
no_formula s h i = h [] (reading_is s i) nothing_follows

-- one does, and bytes follow it
bytes_left : (s : List ℕ) (q : ℕ) → Ended FormulaThen FormulaStops s 0 3 q → (q ≡ length s → ⊥) → InLanguage s → ⊥
bytes_left s q f n i =
    let z : drop q s ≡ [] = formula_rest 3 3 s (drop q s) [] f.stops nothing_follows f.phrase (reading_is s i) in
    let l : length (drop q s) ≡ 0 = ap length z in
    let m : length s - q ≡ 0 = sym (length-drop q s) ∙ l in
    n (omega (arith, f.inside))

-- one does, and nothing follows
whole_text : (s : List ℕ) (q : ℕ) → Ended FormulaThen FormulaStops s 0 3 q → q ≡ length s → length s ≤ 64 → InLanguage s
whole_text s q f n l = (
  f.phrase.0,
  record {
    within = f.phrase.1;
    written =
        sym (f.phrase.2 ∙ ap (λ (r : List ℕ). before f.phrase.0 r) (ap (λ (k : ℕ). drop k s) n ∙ drop-length s)
        ∙ before_is f.phrase.0 [] ∙ append-nil (text f.phrase.0));
    short = l;
  },
)

-- what `accepts` answers for a text that is not too long
pub decided : (s : List ℕ) (o : Option ℕ) → Read FormulaThen FormulaStops s 0 3 o → length s ≤ 64
    → Decides (InLanguage s) (option_eq eqb o (Some (length s)))
decided s None h l = no_formula s h
decided s (Some q) f l = go (eqb q (length s)) refl
  where
    go : (b : Bool) → eqb q (length s) ≡ b → Decides (InLanguage s) b
    go true e = whole_text s q f (eqb-true q (length s) e) l
    go false e = bytes_left s q f (λ n. false≢true (sym e ∙ eq-eqb q (length s) n))
