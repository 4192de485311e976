use Rattle.std.proofs.Common.{◌∙◌, ◌+◌, length, ap, rules, tests}
use Rattle.std.specs.Option.{option_map}
use Rattle.std.specs.List.{enumerate_from}
use Rattle.std.proofs.lemmas.Iterator.{YieldsList-from_slice}
use Rattle.std.proofs.lemmas.Iterator.Adapters.{position_from-zero}
use Rattle.std.proofs.lemmas.Iterator.Consumers.{YieldsList-from_enumerate, YieldsList-at}
use Rattle.std.proofs.lemmas.Iterator.Search.{position_from_yields_List}
use Rattle.scheme.proofs.Chains.{stray_at, found}
use Rattle.scheme.proofs.shared.first_uncounted.Goals as goal

pub returns : goal.returns
returns g c =
    let e = g.E.Engine.rules c.args.engine.now in
    let xs = c.args.reading.now in
    let at = position_from_yields_List (stray_at e (length xs)) _ _ c.position.result c.position.ensures.ran
    (YieldsList-from_enumerate (YieldsList-at c.enumerate.ensures.source (YieldsList-from_slice xs c.iter.ensures.rest)) c.enumerate.ensures.count)
    (λ x b q k. search (rules, tests)) ∙ position_from-zero (stray_at e (length xs)) (enumerate_from 0 xs) in
    search rules ∙ ap (option_map (λ n. n + 1)) at ∙ found e (length xs) 0 xs
