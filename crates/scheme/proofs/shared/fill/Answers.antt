use Rattle.std.proofs.Common.{sym}
use Rattle.scheme.specs.Singles.{written, sealed}
use Rattle.scheme.proofs.shared.fill.Goals as goal

pub returns-then-takes : goal.returns-then-takes
returns-then-takes g c =
    let e = g.E.Engine.rules c.args.engine.now in
    let keeps = g.met.E.Engine.keeps c.args.engine.now in
    let after =
    written e keeps c.args.reading.now c.write_key.new.key c.keys.result c.value_before-value.result
    c.keys.ensures (sym c.if-takes.ensures) c.value_before-value.ensures c.write_key.ensures in
    record { after = after; good = sealed e keeps c.args.reading.now _ after }
