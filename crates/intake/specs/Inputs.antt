-- Inputs: the bytes of a file, as they come, and the lines that they make.
--   fed          after some bytes: the lines that have ended, and the line that is open
--   Split        what that means: the ended lines, each with the byte 10 behind it, and then the open line are the input,
--                and no line has a byte 10 in it
--   input_lines  the lines of a whole input: the last may lack its end, but nothing after a line end is no line
--   verdicts     what the first million lines answer
--   Counts       totals that count these verdicts
--   summary      totals as they are printed
--   Noted        totals before and after one more verdict
--   Closed       an intake before and after its open line ends
--   Reads        what an intake holds after some bytes
--   ReadsMore    an intake before and after some more bytes
use Rattle.std.specs.Prelude.{◌≡◌, ℕ, ◌+◌, ◌<◌, Bool, false, cond, ◌&&◌, List, [], ◌∷◌, ◌++◌, map, length, take, is_ok, is_err, Some, None, fold, count_by, Option, Result, ◌==◌, nat_lt, codes, decimal}
use Rattle.std.specs.List.{flat_map, AllByRecursion}
use Rattle.alphabet.specs.Holding.{held}
use Rattle.alphabet.specs.declared.fault.Fault.{Fault}
use Rattle.alphabet.specs.declared.held.Held.{Held}
use Rattle.intake.specs.Lines.{line_verdict}
use Rattle.intake.specs.declared.totals.Totals.{Totals}
use Rattle.intake.specs.declared.input.Intake.{Intake}

-- the most lines that are read
abbrev pub most_lines : ℕ
most_lines = 1000000

-- one more byte
abbrev pub taken : List (List ℕ) × List ℕ → ℕ → List (List ℕ) × List ℕ
taken s b = cond (b == 10) (s.0 ++ s.1 ∷ [], []) (s.0, s.1 ++ b ∷ [])

abbrev pub fed : List ℕ → List (List ℕ) × List ℕ
fed bytes = fold taken ([], []) bytes

abbrev pub Plain : List ℕ → Type 0
Plain l = AllByRecursion (λ b. (b == 10) ≡ false) l

pub record Split (bytes : List ℕ) (ended : List (List ℕ)) (open' : List ℕ) : Type 0 where
  pub whole : flat_map (λ l. l ++ 10 ∷ []) ended ++ open' ≡ bytes
  pub lines : AllByRecursion Plain ended
  pub last : Plain open'

abbrev pub or_none : List ℕ → List (List ℕ)
or_none [] = []
or_none (b ∷ bs) = (b ∷ bs) ∷ []

abbrev pub input_lines : List ℕ → List (List ℕ)
input_lines bytes = (fed bytes).0 ++ or_none (fed bytes).1

abbrev pub verdicts : List (List ℕ) → List (Result (Unit {0}) Fault)
verdicts ls = map line_verdict (take most_lines ls)

pub record Counts (t : Totals) (ls : List (List ℕ)) : Type 0 where
  pub ok : t.ok ≡ count_by is_ok (verdicts ls)
  pub refused : t.refused ≡ count_by is_err (verdicts ls)

-- totals as they are printed
abbrev pub summary : Totals → List ℕ
summary t = codes "lines " ++ (decimal (t.ok + t.refused) ++ (codes " ok " ++ (decimal t.ok ++ (codes " refused " ++ decimal t.refused))))

-- what a verdict adds to the count of those that pass: one, while fewer than a million are counted
abbrev pub adds : Bool → Totals → ℕ
adds passes t = cond (nat_lt (t.ok + t.refused) most_lines && passes) 1 0

pub record Noted (before : Totals) (v : Result (Unit {0}) Fault) (after : Totals) : Type 0 where
  pub ok : after.ok ≡ before.ok + adds (is_ok v) before
  pub refused : after.refused ≡ before.refused + adds (is_err v) before

-- the bytes of a line that are kept: one more than a line may have, so that a line that is too long stays too long
abbrev pub kept_bytes : ℕ
kept_bytes = 129

abbrev pub line_bytes : Held kept_bytes → List ℕ
line_bytes l = held l

pub record Closed (before : Intake) (v : Result (Unit {0}) Fault) (after : Intake) : Type 0 where
  pub verdict : v ≡ line_verdict (line_bytes before.line)
  pub line : line_bytes after.line ≡ []
  pub totals : Noted before.totals v after.totals

pub record Reads (i : Intake) (bytes : List ℕ) : Type 0 where
  pub counts : Counts i.totals (fed bytes).0
  pub line : length (fed bytes).0 < most_lines → line_bytes i.line ≡ take kept_bytes (fed bytes).1

-- an intake before and after some more bytes: whatever it had read, it has then read that and these
abbrev pub ReadsMore : Intake → List ℕ → Intake → Type 0
ReadsMore before more after = (bytes : List ℕ) → Reads before bytes → Reads after (bytes ++ more)

-- the answer to one more byte: at a line end, the verdict of the line, while fewer than a million have ended
abbrev pub told : List ℕ → ℕ → Option (Result (Unit {0}) Fault)
told bytes b = cond (b == 10 && nat_lt (length (fed bytes).0) most_lines) (Some (line_verdict (fed bytes).1)) None

-- the input with its last line ended
abbrev pub ended_input : List ℕ → List ℕ
ended_input bytes = cond (nat_lt 0 (length (fed bytes).1)) (bytes ++ 10 ∷ []) bytes

-- the answer to the end of the input: the verdict of a last line that lacks its end
abbrev pub told_last : List ℕ → Option (Result (Unit {0}) Fault)
told_last bytes = cond (nat_lt 0 (length (fed bytes).1) && nat_lt (length (fed bytes).0) most_lines) (Some (line_verdict (fed bytes).1)) None
