-- The check finds this alone, but where the bound is planted wrong it gives up at a limit; so it says that the fact fails.
use Rattle.intake.specs.Inputs.{most_lines, fed}
use Rattle.intake.proofs.Tallies.{full_by}
use Rattle.intake.proofs.input.Intake.full.Goals as goal

pub returns : goal.returns
returns c = λ bytes r. full_by most_lines c.lines.result _ (c.lines.ensures.lines (fed bytes).0 r.counts)
