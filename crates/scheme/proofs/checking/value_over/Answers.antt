use Rattle.std.proofs.Common.{◌+◌, ap, ◌∙◌, rules, tests}
use Rattle.std.proofs.lemmas.Iterator.{YieldsList-from_slice}
use Rattle.std.proofs.lemmas.Iterator.Consumers.{fold_from_yields_List, YieldsList-from_enumerate, YieldsList-at}
use Rattle.scheme.specs.Meaning.{run_by}
use Rattle.scheme.proofs.Chains.{folded}
use Rattle.scheme.proofs.checking.value_over.Goals as goal

pub returns : goal.returns
returns g c =
    let m = g.S.Scheme.meaning c.args.scheme.now in
    fold_from_yields_List _ (λ a p. m.next c.args.width (p.0 + 1) a p.1) c.start.result c.fold.result c.fold.ensures.ran
    (YieldsList-from_enumerate (YieldsList-at c.enumerate.ensures.source (YieldsList-from_slice c.args.characters.now c.iter.ensures.rest)) c.enumerate.ensures.count)
    (λ a x b q k. search (rules, tests))
    ∙ folded m.next c.args.width 0 c.start.result c.args.characters.now ∙ ap (λ v. run_by m.next c.args.width 1 v c.args.characters.now) c.start.ensures
