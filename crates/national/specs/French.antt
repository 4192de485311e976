-- The key of a French account number.
--   french_count     what a character counts: digits their own value, A to I and J to R 1 to 9, S to Z 2 to 9
--   french_count_at  what a character counts at a place: digits alone at places 1 to 10 and from 22 on
--   french_rules     the rules of the key: (10 × value + count) mod 97, 0 is good, keys 01 to 97
--   EqualCount       two characters have a count, and it is the same
--   ByCount          the rule of the list, after any running value
--   FrenchSlips      the slips that pass are those with fit outcomes that replace a character by one of equal count, or exchange two
use Rattle.std.specs.Prelude.{◌≡◌, ℕ, ◌+◌, ◌-◌, ◌*◌, ◌%◌, Bool, true, cond, ◌&&◌, is_some, Some, None, Option, ◌==◌, nat_le, nat_lt}
use Rattle.alphabet.specs.Counts.{count_of}
use Rattle.alphabet.specs.declared.counts.Alphabet.TheVariants.{Digits}
use Rattle.scheme.specs.Lists.{SlipRule, LetsPass}
use Rattle.scheme.specs.Rules.{Rules}
use Rattle.keys.specs.KeyRanges.{holds_key, symbols_of}
use Rattle.keys.specs.Remainders.{key_after}
use Rattle.national.specs.Accounts.{account_range}

abbrev pub between : ℕ → ℕ → ℕ → Bool
between a b c = nat_le a c && nat_le c b

-- by the bytes: 0 to 9 are 48 to 57, A to I 65 to 73, J to R 74 to 82, S to Z 83 to 90
abbrev pub french_count : ℕ → Option ℕ
french_count c =
    cond (between 48 57 c) (Some (c - 48))
    (cond (between 65 73 c) (Some (c - 64))
    (cond (between 74 82 c) (Some (c - 73))
    (cond (between 83 90 c) (Some (c - 81)) None)))

abbrev pub french_count_at : ℕ → ℕ → Option ℕ
french_count_at k c = cond (between 11 21 k) (french_count c) (count_of Digits c)

abbrev pub french_rules : Rules
french_rules = record {
  takes = λ w. (w == 23);
  keys = 2;
  count = λ w k c. french_count_at k c;
  in_range = holds_key account_range;
  is_value = λ v. nat_lt v 97;
  start = 0;
  good = 0;
  step = λ w k v a. (10 * v + a) % 97;
  key = λ w v. symbols_of account_range (key_after account_range 97 10 0 v);
}

pub record EqualCount (a b : ℕ) : Type 0 where
  pub counted : is_some (french_count a) ≡ true
  pub same : french_count a ≡ french_count b

abbrev pub ByCount : SlipRule
ByCount p a b = EqualCount a b

abbrev pub FrenchSlips : Type 0
FrenchSlips = LetsPass french_rules ByCount ByCount
