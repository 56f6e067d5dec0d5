-- `all_held` goes through the bytes.
use Rattle.std.proofs.Common.{rules, ◌≡◌, true, false, not}
use Rattle.std.proofs.lemmas.Iterator.{YieldsList-from_slice, cases_from_all}
use borrow.Author.Tests.{tests}
use Rattle.model.specs.Formulas.{vacant_byte}
use Rattle.store_encoding.specs.Stores.{model_of}
use Rattle.store_formulas.proofs.Bytes.{all_tell}
use Rattle.store_formulas.proofs.all_held.Goals as goal

pub returns : goal.returns
returns c =
    let m = model_of c.args.store.now in
    all_tell m c.args.text.now c.all.result
    (cases_from_all _ _ _ (λ x. true ≡ not (vacant_byte m x)) (λ x. false ≡ not (vacant_byte m x)) c.all.ensures.ran
    (YieldsList-from_slice c.args.text.now cc) (λ x q k. search (rules, tests)) (λ x q k. search (rules, tests)))
