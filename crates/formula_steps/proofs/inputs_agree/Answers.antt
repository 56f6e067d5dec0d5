-- `inputs_agree` compares the shapes of both inputs with those asked for.
use mathlib.Core.Path.{◌≡◌, refl, sym, ◌∙◌}
use mathlib.Core.Bool.{Bool, true, false, false≢true, ◌&&◌}
use Rattle.conditions.specs.Tests.{◌and◌}
use Rattle.formula_steps.proofs.inputs_agree.Goals as goal

-- the first input has the shape asked for, or not
first_agrees : (a b c d : Bool) → true ≡ (a && b) → (c && d) ≡ ((a and b) and (c and d))
unfolding ◌and◌
first_agrees true true true d e = refl
first_agrees true true false d e = refl
first_agrees true false c d e = absurd (false≢true (sym e))
first_agrees false b c d e = absurd (false≢true (sym e))

first_differs : (a b x : Bool) → false ≡ (a && b) → (a && b) ≡ ((a and b) and x)
unfolding ◌and◌
first_differs true true x e = absurd (false≢true e)
first_differs true false x e = refl
first_differs false b x e = refl

pub returns-then-eq : goal.returns-then-eq
returns-then-eq c = c.eq-then-eq.ensures ∙ first_agrees _ _ _ _ c.if-eq.ensures

pub returns-else-eq : goal.returns-else-eq
returns-else-eq c = c.eq.ensures ∙ first_differs _ _ _ c.if-eq.ensures
