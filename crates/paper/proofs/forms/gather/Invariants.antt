-- After i bytes the machine has read just those.
use Rattle.alphabet.specs.Holding.{held}
use Rattle.paper.proofs.Machine.{Reading}
use Rattle.paper.proofs.forms.gather.Given as goal

abbrev pub invariant-loop-i : goal.invariant-loop-i
invariant-loop-i l = Reading l.state l.form l.i (held l.text)
