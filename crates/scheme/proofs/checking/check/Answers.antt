use Rattle.std.proofs.Common.{Err, refl, sym, ap, ◌∙◌, rules, tests}
use Rattle.std.proofs.lemmas.Result.{err_from_is_err_and}
use Rattle.scheme.proofs.Checks.{refused_by, at_opening, answered}
use Rattle.scheme.proofs.checking.check.Goals as goal

pub returns-in_err-reading : goal.returns-in_err-reading
returns-in_err-reading g c =
    let m = g.S.Scheme.meaning c.args.scheme.now in
    let law = g.met.S.Scheme.lawful c.args.scheme.now in
    let u = sym c.unfit.ensures ∙ c.if-unfit.false in
    let p = err_from_is_err_and c.from_residual.result c.from_residual.ensures.1 in
    let e = at_opening m c.args.turn c.args.text.now law _ u c.in_err-reading.ensures in
    let r = p.1 ∙ ap Err p.2 in
    record { answers = r ∙ sym e; exact = refused_by m c.args.turn c.args.text.now law c.from_residual.result _ r e }

pub returns : goal.returns
returns g c =
    let m = g.S.Scheme.meaning c.args.scheme.now in
    let law = g.met.S.Scheme.lawful c.args.scheme.now in
    let u = sym c.unfit.ensures ∙ c.if-unfit.false in
    let o = c.in_ok-reading.ensures in
    let p = answered m c.args.turn c.args.text.now law u o.0 _ (c.characters-characters.ensures ∙ o.1) _ _ c.last_value-last.ensures c.accept.ensures _ (λ f x k. search (rules, tests)) c.accept.result c.map_err.result refl c.map_err.ensures.cases in
    record { answers = p.0; exact = p.1 }
