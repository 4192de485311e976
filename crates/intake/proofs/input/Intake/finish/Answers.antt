-- Each way by its step: nothing more is read, or a last line lacks its end.
use Rattle.std.proofs.Common.{◌≡◌, ◌<◌, ◌≤◌, ◌⊎◌, inl, inr, ℕ, List, length, sym, ap, ◌∙◌, arith}
use Rattle.std.proofs.lemmas.Bool.{leb-true, leb-false, eqb-true, eqb-false}
use Rattle.intake.specs.Inputs.{most_lines, fed, line_bytes, Reads}
use Rattle.intake.proofs.Steps.{last_none, last_line}
use Rattle.intake.proofs.input.Intake.finish.Goals as goal
use Rattle.intake.proofs.input.Intake.finish.Goals.{then-full-via-then-full, then-full-via-else-full+then-is_empty}

pub returns-then-full : goal.returns-then-full
returns-then-full c =
    let i = c.args.self.now in
    let why : (bytes : List ℕ) → Reads i bytes → (most_lines ≤ length (fed bytes).0) ⊎ (length (line_bytes i.line) ≡ 0) =
    λ bytes r.
    elim c.then-full.branch [
      | then-full-via-then-full w ↦ inl (leb-true _ _ (sym (w.if-full.ensures bytes r)))
      | then-full-via-else-full+then-is_empty w ↦ inr (ap length (sym w.as_slice.ensures) ∙ eqb-true _ _ (sym w.if-is_empty.ensures))
    ] in
    record {
      reads = λ bytes r. (last_none _ bytes r (why bytes r)).0;
      counts = λ bytes r. (last_none _ bytes r (why bytes r)).1;
      answers = λ bytes r. (last_none _ bytes r (why bytes r)).2;
    }

pub returns : goal.returns
returns c =
    let i = c.args.self.now in
    let some : 0 < length (line_bytes i.line) = omega (arith, ap length c.as_slice.ensures, eqb-false _ _ (sym c.if-is_empty.ensures)) in
    let step = λ (bytes : List ℕ) (r : Reads i bytes).
    last_line _ _ _ bytes r (leb-false _ _ (sym (c.if-full.ensures bytes r))) some c.close_line.ensures in
    record {
      reads = λ bytes r. (step bytes r).0;
      counts = λ bytes r. (step bytes r).1;
      answers = λ bytes r. (step bytes r).2;
    }
