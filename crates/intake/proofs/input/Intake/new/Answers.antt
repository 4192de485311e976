use Rattle.intake.proofs.Feeding.{splits}
use Rattle.intake.proofs.input.Intake.new.Goals as goal

pub returns-clause-lines : goal.returns-clause-lines
returns-clause-lines c = splits
