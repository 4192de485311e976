-- The key of a Belgian account number.
--   less           a running value less a number, by remainder 97, never below 0
--   belgian_next   the next running value: 10 × value + d, but value − 10 × d at place 11 and value − d at place 12
--   belgian_key    the key of ten digits that leave v: v itself, and 97 where nothing is left
--   belgian_rules  the rules of the key
--   BelgianSlips   no slip of an accepted reading is accepted
use Rattle.std.specs.Prelude.{ℕ, ◌+◌, ◌-◌, ◌*◌, ◌%◌, cond, ◌==◌, nat_lt}
use Rattle.alphabet.specs.Counts.{count_of}
use Rattle.alphabet.specs.declared.counts.Alphabet.TheVariants.{Digits}
use Rattle.scheme.specs.Lists.{Never, LetsPass}
use Rattle.scheme.specs.Rules.{Rules}
use Rattle.keys.specs.KeyRanges.{holds_key, symbols_of}
use Rattle.national.specs.Accounts.{account_range}

abbrev pub less : ℕ → ℕ → ℕ
less v x = (v + (97 - x % 97)) % 97

abbrev pub belgian_next : ℕ → ℕ → ℕ → ℕ
belgian_next k v d = cond (k == 11) (less v (10 * d)) (cond (k == 12) (less v d) ((10 * v + d) % 97))

abbrev pub belgian_key : ℕ → ℕ
belgian_key v = cond (v % 97 == 0) 97 (v % 97)

abbrev pub belgian_rules : Rules
belgian_rules = record {
  takes = λ w. (w == 12);
  keys = 2;
  count = λ w k c. count_of Digits c;
  in_range = holds_key account_range;
  is_value = λ v. nat_lt v 97;
  start = 0;
  good = 0;
  step = λ w k v d. belgian_next k v d;
  key = λ w v. symbols_of account_range (belgian_key v);
}

abbrev pub BelgianSlips : Type 0
BelgianSlips = LetsPass belgian_rules Never Never
