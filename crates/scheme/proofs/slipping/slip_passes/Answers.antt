use Rattle.std.proofs.Common.{sym, ◌∙◌}
use Rattle.scheme.proofs.Slips.{passing_same, passing_unfit, passing_accepted, law_of_slips}
use Rattle.scheme.proofs.slipping.slip_passes.Goals as goal

pub returns-then-fit : goal.returns-then-fit
returns-then-fit g c =
    let m = g.S.Scheme.meaning c.args.scheme.now in
    let x = c.args.reading.now in
    let y = c.args.slip.now in
    let law = g.met.S.Scheme.lawful c.args.scheme.now in
    let f = sym c.fit.ensures ∙ c.if-fit.true in
    let d = passing_same m x y c.same.result _ _ _ c.last_difference-place.ensures c.value_after-before.ensures c.value_after.ensures f c.same.ensures in
    record { answers = d; exact = passing_accepted m x y c.same.result law d; law = λ u. law_of_slips m (law u) }

pub returns-else-fit : goal.returns-else-fit
returns-else-fit g c =
    let m = g.S.Scheme.meaning c.args.scheme.now in
    let x = c.args.reading.now in
    let y = c.args.slip.now in
    let law = g.met.S.Scheme.lawful c.args.scheme.now in
    let d = passing_unfit m x y c.fit.result c.fit.ensures c.if-fit.false in
    record { answers = d; exact = passing_accepted m x y c.fit.result law d; law = λ u. law_of_slips m (law u) }
