-- Paper forms: numbers as people write them, in groups with gaps between them.
--   is_gap      a space or a hyphen
--   right       the byte at an index is a character, or a gap between two characters
--   wrong_at    the first place, counted from 1, of a byte that is not right
--   stripped    the characters of a form, without its gaps
--   stripping   the first refusal of a form: a byte that is not right, a width that no text has, want of room
--   afterwards  the buffer after strip: the characters and what stood behind them, or at a refusal what it held
use Rattle.std.specs.Prelude.{ℕ, zero, suc, ◌+◌, ◌-◌, Bool, cond, ◌&&◌, ◌||◌, List, [], ◌∷◌, ◌++◌, length, drop, Some, None, filter, Option, ◌==◌, nat_lt, slice_index}
use Rattle.std.specs.Option.{option_map}
use Rattle.alphabet.specs.Characters.{is_character}
use Rattle.alphabet.specs.Faults.{fault_at, of_no_layer, first, whenever}
use Rattle.alphabet.specs.declared.fault.Fault.{Fault}
use Rattle.alphabet.specs.declared.fault.Refusal.TheVariants.{Width, Stray, Short}

abbrev pub is_gap : ℕ → Bool
is_gap b = b == 32 || b == 45

abbrev pub right : List ℕ → ℕ → Bool
right form i =
    is_character (slice_index form i)
    || (is_gap (slice_index form i) && (nat_lt 0 i && (is_character (slice_index form (i - 1)) && is_character (slice_index form (i + 1)))))

-- the first of n places from index i on that fails a test
abbrev pub first_failing : (ℕ → Bool) → ℕ → ℕ → Option ℕ
first_failing test zero i = None
first_failing test (suc n) i = cond (test i) (first_failing test n (i + 1)) (Some (i + 1))

abbrev pub wrong_at : List ℕ → Option ℕ
wrong_at form = first_failing (right form) (length form) 0

abbrev pub stripped : List ℕ → List ℕ
stripped form = filter is_character form

abbrev pub stripping : List ℕ → ℕ → Option Fault
stripping form room =
    first
    (option_map (fault_at Stray 0) (wrong_at form) ∷
    whenever (length (stripped form) == 0 || nat_lt 34 (length (stripped form))) (of_no_layer Width) ∷
    whenever (nat_lt room (length (stripped form))) (of_no_layer Short) ∷ [])

abbrev pub afterwards : Option Fault → List ℕ → List ℕ → List ℕ
afterwards None form buffer = stripped form ++ drop (length (stripped form)) buffer
afterwards (Some f) form buffer = buffer
