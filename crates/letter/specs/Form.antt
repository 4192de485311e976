-- The letter form of MOD 97-10: digits and letters that end in two key digits.
--   range_of      the keys, 02 to 98
--   count_at      what a character counts at a place: in the key digits alone, before it digits and letters, by base value
--   step_by       the next running value by a count: a digit shifts by one decimal place, a letter by two
--   letter_rules  the rules
use Rattle.std.specs.Prelude.{ℕ, ◌+◌, ◌*◌, ◌%◌, cond, Option, nat_lt}
use Rattle.alphabet.specs.Counts.{count_of}
use Rattle.alphabet.specs.declared.counts.Alphabet.TheVariants.{Digits, Alphanumeric}
use Rattle.scheme.specs.Rules.{Rules}
use Rattle.keys.specs.KeyRanges.{takes_any, in_key, holds_key, symbols_of}
use Rattle.keys.specs.Remainders.{key_after}
use Rattle.keys.specs.declared.range.KeyLength.TheVariants.{Two}
use Rattle.keys.specs.declared.range.KeyRange.{KeyRange}

abbrev pub range_of : KeyRange
range_of = record { alphabet = Digits; length = Two; least = 2; many = 97 }

abbrev pub count_at : ℕ → ℕ → ℕ → Option ℕ
count_at w k c = count_of (cond (in_key range_of w k) Digits Alphanumeric) c

-- 0 to 9 are the counts of digits
abbrev pub step_by : ℕ → ℕ → ℕ
step_by v x = cond (nat_lt x 10) ((10 * v + x) % 97) ((100 * v + x) % 97)

abbrev pub letter_rules : Rules
letter_rules = record {
  takes = takes_any range_of;
  keys = 2;
  count = count_at;
  in_range = holds_key range_of;
  is_value = λ v. nat_lt v 97;
  start = 0;
  good = 1;
  step = λ w k v a. step_by v a;
  key = λ w v. symbols_of range_of (key_after range_of 97 10 1 v);
}
