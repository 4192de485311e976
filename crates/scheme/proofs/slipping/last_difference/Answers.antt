use Rattle.std.proofs.Common.{◌≡◌, ◌+◌, sym, ap, ◌∙◌, rules, tests}
use Rattle.std.specs.List.{find}
use Rattle.std.specs.Option.{option_map_or}
use Rattle.std.proofs.lemmas.Iterator.Adapters.{option_map_id}
use Rattle.std.proofs.lemmas.Iterator.Search.{find_from_yields_List}
use Rattle.scheme.specs.Slips.{last_below}
use Rattle.scheme.proofs.Chains.{differs, downward, downward_from, last_found}
use Rattle.scheme.proofs.slipping.last_difference.Goals as goal

pub returns : goal.returns
returns c =
    let x = c.args.one.now in
    let y = c.args.other.now in
    let found = find_from_yields_List (differs x y) _ _ c.find.result c.find.ensures.ran (downward_from _ c.min.result c.rev.ensures.source) (λ i b q k. search (rules, tests)) in
    let same : c.find.result ≡ find (differs x y) (downward 0 c.min.result) = sym (option_map_id c.find.result) ∙ found in
    let mapped : c.map_or.result ≡ option_map_or (λ i. i + 1) c.find.result 0 = search (rules, tests) in
    mapped ∙ ap (λ o. option_map_or (λ i. i + 1) o 0) same ∙ last_found x y c.min.result ∙ ap (last_below x y) c.min.ensures
