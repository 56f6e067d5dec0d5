-- `accepts` decides whether the text is in the language.
use Rattle.formula_texts.proofs.Whole.{decided}
use Rattle.formula_texts.proofs.accepts.Goals as goal

pub returns-then-text-le-MAX_BYTES : goal.returns-then-text-le-MAX_BYTES
returns-then-text-le-MAX_BYTES c =
    rw c.eq.ensures (decided c.args.text.now c.formula.result c.formula.ensures c.if-text-le-MAX_BYTES.true)
