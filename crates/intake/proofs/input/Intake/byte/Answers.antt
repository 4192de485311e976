-- Each way by its step: a byte of a line, a line end, a line end past a million lines.
use Rattle.std.proofs.Common.{sym, refl}
use Rattle.std.proofs.lemmas.Bool.{leb-true, leb-false, ne_eqb}
use Rattle.intake.proofs.Steps.{full_read, byte_read, end_read, end_told}
use Rattle.intake.proofs.input.Intake.byte.Goals as goal

pub returns-then-byte-ne10-clause-reads : goal.returns-then-byte-ne10-clause-reads
returns-then-byte-ne10-clause-reads c = λ bytes r. byte_read _ _ bytes _ r (ne_eqb _ _ c.if-byte-ne10.true) refl c.push.ensures

pub returns-then-full-clause-reads : goal.returns-then-full-clause-reads
returns-then-full-clause-reads c = λ bytes r. full_read _ bytes _ r (leb-true _ _ (sym (c.if-full.ensures bytes r)))

pub returns-clause-reads : goal.returns-clause-reads
returns-clause-reads c = λ bytes r.
    rw c.if-byte-ne10.false (end_read _ _ _ bytes r (leb-false _ _ (sym (c.if-full.ensures bytes r))) c.close_line.ensures)

pub returns-clause-answers : goal.returns-clause-answers
returns-clause-answers c = λ bytes r.
    rw c.if-byte-ne10.false (end_told _ _ _ bytes r (leb-false _ _ (sym (c.if-full.ensures bytes r))) c.close_line.ensures)
