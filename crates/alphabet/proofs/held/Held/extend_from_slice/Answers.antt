use Rattle.std.proofs.Common.{rules, arith}
use Rattle.alphabet.proofs.Buffers.{extended}
use Rattle.alphabet.proofs.held.Held.extend_from_slice.Goals as goal

pub returns : goal.returns
returns g c = extended g.row.N c.args.self.now.width c.min-kept.result _ c.args.self.now.bytes c.args.more.now _ (search rules) c.args.self.now.within c.min-kept.ensures (omega arith) (search rules)
