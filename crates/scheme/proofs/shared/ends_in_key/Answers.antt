use Rattle.std.proofs.Common.{sym, ap, ◌∙◌}
use Rattle.scheme.proofs.Ends.{ends_decided}
use Rattle.scheme.proofs.shared.ends_in_key.Goals as goal

pub returns-then-takes : goal.returns-then-takes
returns-then-takes g c =
    let e = g.E.Engine.rules c.args.engine.now in
    let keeps = g.met.E.Engine.keeps c.args.engine.now in
    ends_decided e keeps c.args.reading.now c.in_range.result (sym c.if-takes.ensures) (c.in_range.ensures ∙ ap e.in_range c.key_part.ensures)
