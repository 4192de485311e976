use Rattle.std.proofs.Common.{◌+◌, ap, ◌∙◌, rules, tests}
use Rattle.std.proofs.lemmas.Iterator.{YieldsList-from_slice}
use Rattle.std.proofs.lemmas.Iterator.Consumers.{fold_from_yields_List, YieldsList-from_enumerate, YieldsList-at}
use Rattle.scheme.specs.Meaning.{run_by}
use Rattle.scheme.specs.Rules.{next_by}
use Rattle.scheme.proofs.Chains.{folded}
use Rattle.scheme.proofs.shared.value_before.Goals as goal

pub returns : goal.returns
returns g c =
    let e = g.E.Engine.rules c.args.engine.now in
    let xs = c.args.characters.now in
    fold_from_yields_List _ (λ a p. next_by e c.args.width (p.0 + 1) a p.1) c.initial.result c.fold.result c.fold.ensures.ran
    (YieldsList-from_enumerate (YieldsList-at c.enumerate.ensures.source (YieldsList-from_slice xs c.iter.ensures.rest)) c.enumerate.ensures.count)
    (λ a x b q k. search (rules, tests))
    ∙ folded (next_by e) c.args.width 0 c.initial.result xs ∙ ap (λ v. run_by (next_by e) c.args.width 1 v xs) c.initial.ensures
