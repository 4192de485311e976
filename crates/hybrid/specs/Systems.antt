-- The hybrid systems MOD M + 1, M of ISO 7064.
--   modulus_of   M of each system
--   alphabet_of  its characters, also those of the key; there are M
--   range_of     its keys: one character, of any count
--   or_full      a number, with M for 0
--   full         the remainder by M, with M for 0
--   next_of      the next running value, from M, a running value and a count
--   key_after    the count of the key that belongs to a running value: the one that makes the last running value 2
--   rules_of     the rules of a system
use Rattle.std.specs.Prelude.{ℕ, ◌+◌, ◌-◌, ◌*◌, ◌%◌, cond, ◌&&◌, ◌==◌, nat_le}
use Rattle.alphabet.specs.Counts.{count_of}
use Rattle.alphabet.specs.declared.counts.Alphabet.{Alphabet}
use Rattle.alphabet.specs.declared.counts.Alphabet.TheVariants.{Digits, Letters, Alphanumeric}
use Rattle.scheme.specs.Rules.{Rules}
use Rattle.keys.specs.KeyRanges.{takes_any, holds_key, symbols_of}
use Rattle.keys.specs.declared.range.KeyLength.TheVariants.{One}
use Rattle.keys.specs.declared.range.KeyRange.{KeyRange}
use Rattle.hybrid.specs.declared.system.Hybrid.{Hybrid}
use Rattle.hybrid.specs.declared.system.Hybrid.TheVariants.{Mod11M10, Mod27M26, Mod37M36}

abbrev pub modulus_of : Hybrid → ℕ
modulus_of Mod11M10 = 10
modulus_of Mod27M26 = 26
modulus_of Mod37M36 = 36

abbrev pub alphabet_of : Hybrid → Alphabet
alphabet_of Mod11M10 = Digits
alphabet_of Mod27M26 = Letters
alphabet_of Mod37M36 = Alphanumeric

abbrev pub range_of : Hybrid → KeyRange
range_of h = record { alphabet = alphabet_of h; length = One; least = 0; many = modulus_of h }

abbrev pub or_full : ℕ → ℕ → ℕ
or_full M n = cond (n == 0) M n

abbrev pub full : ℕ → ℕ → ℕ
full M n = or_full M (n % M)

abbrev pub next_of : ℕ → ℕ → ℕ → ℕ
next_of M p a = (2 * full M (p + a)) % (M + 1)

abbrev pub key_after : ℕ → ℕ → ℕ
key_after M p = (M + 1 - p) % M

-- the running values are the numbers from 1 to M
abbrev pub rules_of : Hybrid → Rules
rules_of h = record {
  takes = takes_any (range_of h);
  keys = 1;
  count = λ w k c. count_of (alphabet_of h) c;
  in_range = holds_key (range_of h);
  is_value = λ v. nat_le 1 v && nat_le v (modulus_of h);
  start = modulus_of h;
  good = 2;
  step = λ w k v a. next_of (modulus_of h) v a;
  key = λ w v. symbols_of (range_of h) (key_after (modulus_of h) v);
}
