-- The pure systems MOD m-r of ISO 7064.
--   parameters_of  modulus, radix, the alphabet before the key, and the range of the keys of each system
--   count_at       what a character counts at a place: by the key's alphabet in the key, by the body's before it
--   step_of        the next running value, (radix × running value + count) mod modulus
--   rules_of       the rules of a system
use Rattle.std.specs.Prelude.{ℕ, ◌+◌, ◌*◌, ◌%◌, Option, nat_lt}
use Rattle.alphabet.specs.Counts.{count_of}
use Rattle.alphabet.specs.declared.counts.Alphabet.{Alphabet}
use Rattle.alphabet.specs.declared.counts.Alphabet.TheVariants.{Digits, DigitsX, Letters, Alphanumeric, Full}
use Rattle.scheme.specs.Rules.{Rules}
use Rattle.keys.specs.KeyRanges.{keys_of, takes_any, alphabet_at, holds_key, symbols_of}
use Rattle.keys.specs.Remainders.{key_after}
use Rattle.keys.specs.declared.range.KeyLength.{KeyLength}
use Rattle.keys.specs.declared.range.KeyLength.TheVariants.{One, Two}
use Rattle.pure.specs.declared.systems.Parameters.{Parameters}
use Rattle.pure.specs.declared.systems.Pure.{Pure}
use Rattle.pure.specs.declared.systems.Pure.TheVariants.{Mod11R2, Mod37R2, Mod97R10, Mod661R26, Mod1271R36}

-- a key of one character may be any of its alphabet; one of two counts from 2 on
abbrev pub least_of : KeyLength → ℕ
least_of One = 0
least_of Two = 2

-- from the least on there are as many keys as the modulus has remainders
abbrev pub system : ℕ → ℕ → Alphabet → Alphabet → KeyLength → Parameters
system m r a k l = record { modulus = m; radix = r; body = a; key = record { alphabet = k; length = l; least = least_of l; many = m } }

abbrev pub parameters_of : Pure → Parameters
parameters_of Mod11R2 = system 11 2 Digits DigitsX One
parameters_of Mod37R2 = system 37 2 Alphanumeric Full One
parameters_of Mod97R10 = system 97 10 Digits Digits Two
parameters_of Mod661R26 = system 661 26 Letters Letters Two
parameters_of Mod1271R36 = system 1271 36 Alphanumeric Alphanumeric Two

abbrev pub count_at : Parameters → ℕ → ℕ → ℕ → Option ℕ
count_at p w k c = count_of (alphabet_at p.key p.body w k) c

abbrev pub step_of : Parameters → ℕ → ℕ → ℕ
step_of p v a = (p.radix * v + a) % p.modulus

abbrev pub rules_by : Parameters → Rules
rules_by p = record {
  takes = takes_any p.key;
  keys = keys_of p.key.length;
  count = count_at p;
  in_range = holds_key p.key;
  is_value = λ v. nat_lt v p.modulus;
  start = 0;
  good = 1;
  step = λ w k v a. step_of p v a;
  key = λ w v. symbols_of p.key (key_after p.key p.modulus p.radix 1 v);
}

abbrev pub rules_of : Pure → Rules
rules_of s = rules_by (parameters_of s)
