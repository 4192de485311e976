-- The alphabets of the check systems: which characters each has, and what each of them counts.
--   size       how many characters an alphabet has; their counts are the numbers below it
--   count_of   what a byte counts in an alphabet, where it is one of its characters
--   symbol_of  the character that has a count
use Rattle.std.specs.Prelude.{ℕ, ◌+◌, ◌-◌, cond, Some, None, Option, ◌==◌, nat_lt}
use Rattle.alphabet.specs.Characters.{is_digit, is_letter, base_value}
use Rattle.alphabet.specs.declared.counts.Alphabet.{Alphabet}
use Rattle.alphabet.specs.declared.counts.Alphabet.TheVariants.{Digits, DigitsX, Letters, Alphanumeric, Full}

abbrev pub size : Alphabet → ℕ
size Digits = 10
size DigitsX = 11
size Letters = 26
size Alphanumeric = 36
size Full = 37

-- base values, but for letters alone, where A counts 0, and for X after the digits, which counts 10
abbrev pub count_of : Alphabet → ℕ → Option ℕ
count_of Digits b = cond (is_digit b) (base_value b) None
count_of DigitsX b = cond (is_digit b) (base_value b) (cond (b == 88) (Some 10) None)
count_of Letters b = cond (is_letter b) (Some (b - 65)) None
count_of Alphanumeric b = cond (is_digit b) (base_value b) (cond (is_letter b) (base_value b) None)
count_of Full b = base_value b

abbrev pub symbol_of : Alphabet → ℕ → ℕ
symbol_of Digits n = 48 + n
symbol_of DigitsX n = cond (nat_lt n 10) (48 + n) 88
symbol_of Letters n = 65 + n
symbol_of Alphanumeric n = cond (nat_lt n 10) (48 + n) (55 + n)
symbol_of Full n = cond (nat_lt n 10) (48 + n) (cond (nat_lt n 36) (55 + n) 42)
