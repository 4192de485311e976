-- Lines of input: a format word, a space and a paper form.
--   longest       the most bytes that a line may have
--   cut_after     a line at its first space, what was read of it already standing in front
--   line_verdict  what a line answers: too long; no word or an unknown one; a form that cannot be stripped; the check
--   GoodLine      the lines that are ok
use Rattle.std.specs.Prelude.{◌≡◌, ℕ, ◌≤◌, cond, List, [], ◌∷◌, ◌++◌, length, Some, None, Err, Option, Result, ◌==◌, nat_lt}
use Rattle.alphabet.specs.Faults.{of_no_layer}
use Rattle.alphabet.specs.declared.fault.Fault.{Fault}
use Rattle.alphabet.specs.declared.fault.Refusal.TheVariants.{Width, Format as NoFormat}
use Rattle.formats.specs.Formats.{word_of, format_of, format_verdict, FormatValid}
use Rattle.formats.specs.declared.format.Format.{Format}
use Rattle.paper.specs.Paper.{wrong_at, stripped, stripping}

abbrev pub longest : ℕ
longest = 128

-- the byte 32 is the space
abbrev pub cut_after : List ℕ → List ℕ → Option (List ℕ × List ℕ)
cut_after word [] = None
cut_after word (b ∷ bs) = cond (b == 32) (Some (word, bs)) (cut_after (word ++ b ∷ []) bs)

-- a form of a known format: strip's refusal, else the check of the characters
abbrev pub by_form : Option Fault → Format → List ℕ → Result (Unit {0}) Fault
by_form None f form = format_verdict f (stripped form)
by_form (Some fault) f form = Err fault

abbrev pub by_format : Option Format → List ℕ → Result (Unit {0}) Fault
by_format None form = Err (of_no_layer NoFormat)
by_format (Some f) form = by_form (stripping form 34) f form

abbrev pub by_word : Option (List ℕ × List ℕ) → Result (Unit {0}) Fault
by_word None = Err (of_no_layer NoFormat)
by_word (Some p) = by_format (format_of p.0) p.1

abbrev pub line_verdict : List ℕ → Result (Unit {0}) Fault
line_verdict l = cond (nat_lt longest (length l)) (Err (of_no_layer Width)) (by_word (cut_after [] l))

pub record GoodLine (l : List ℕ) : Type 0 where
  pub format : Format
  pub form : List ℕ
  pub short : length l ≤ longest
  -- the format's word, a space and the form
  pub parts : l ≡ word_of format ++ (32 ∷ form)
  -- every byte of the form is a character or a gap between two characters
  pub right : wrong_at form ≡ None
  -- and its characters are a valid number
  pub valid : FormatValid format (stripped form)
