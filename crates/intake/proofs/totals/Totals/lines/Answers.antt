use Rattle.intake.proofs.Tallies.{counted}
use Rattle.intake.proofs.totals.Totals.lines.Goals as goal

pub returns-clause-lines : goal.returns-clause-lines
returns-clause-lines c = counted c.args.self.now
