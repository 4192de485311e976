-- The bytes of a line that are kept: the first of them, and enough to judge it.
use Rattle.std.proofs.Common.{◌≡◌, ℕ, ◌<◌, ltb, List, length, take, Err, sym, ap, ◌∙◌, inl, inr, arith}
use Rattle.std.proofs.lemmas.List.{length-take, take_all}
use Rattle.std.proofs.lemmas.Bool.{cases_lt, cond-true, lt-ltb}
use Rattle.alphabet.specs.Faults.{of_no_layer}
use Rattle.alphabet.specs.declared.fault.Refusal.TheVariants.{Width}
use Rattle.intake.specs.Lines.{longest, line_verdict}
use Rattle.intake.specs.Inputs.{kept_bytes}

-- a line that is too long is so by the bytes that are kept
too_long : (l : List ℕ) → longest < length l → line_verdict l ≡ Err (of_no_layer Width)
too_long l h = cond-true (ltb longest (length l)) _ _ (lt-ltb longest (length l) h)

pub kept_verdict : (l : List ℕ) → line_verdict (take kept_bytes l) ≡ line_verdict l
kept_verdict l =
    elim (cases_lt (length l) kept_bytes) [
      | inl h ↦ ap line_verdict (take_all kept_bytes l (omega arith))
      | inr h ↦
          let w : longest < length (take kept_bytes l) = omega (arith, length-take kept_bytes l) in
          too_long (take kept_bytes l) w ∙ sym (too_long l (omega arith))
    ]
