-- The letter form keeps what an engine keeps.
use Rattle.std.specs.Prelude.{◌≡◌, ℕ, ◌+◌, ◌*◌, ◌%◌, ◌<◌, ◌≤◌, Bool, true, cond, Option, nat_lt, refl}
use Rattle.std.proofs.Common.{ap, ◌∙◌, arith}
use Rattle.std.proofs.lemmas.Bool.{cond-true, lt-ltb, ltb-true}
use Rattle.std.proofs.lemmas.Bool.Decides.{nat_tests}
use Rattle.std.specs.Option.{unwrap_or}
use Rattle.alphabet.specs.Counts.{count_of}
use Rattle.alphabet.specs.declared.counts.Alphabet.TheVariants.{Digits, Alphanumeric}
use Rattle.scheme.specs.Meaning.{Step}
use Rattle.scheme.specs.Rules.{next_by, Keeps}
use Rattle.keys.specs.KeyRanges.{takes_any, count_in}
use Rattle.keys.specs.Remainders.{key_after}
use Rattle.keys.proofs.Numbered.{Numbered, keeps_numbered}
use Rattle.keys.proofs.Widths.{takes_wide, in_key_lem}
use Rattle.keys.proofs.Shifts.{Shifts, shifts_within, shifts_good}
use Rattle.letter.specs.Form.{count_at, step_by, range_of, letter_rules}
use Rattle.letter.specs.Steps.{step_below, step_injective}

-- the next running value by a character
abbrev pub next_of : ℕ → ℕ → ℕ → ℕ → ℕ
next_of = next_by letter_rules

-- in the places of the key digits alone count
key_count : (w k c : ℕ) → takes_any range_of w ≡ true → w < k + 2 → k ≤ w → count_at w k c ≡ count_of Digits c
key_count w k c t lo hi = ap (λ (b : Bool). count_of (cond b Digits Alphanumeric) c) (in_key_lem range_of w k t lo hi)

digit_below : (c : ℕ) → unwrap_or (count_of Digits c) 0 < 10
digit_below c = grind (arith, nat_tests)

-- and step as digits
step_in_key : (w k v c : ℕ) → takes_any range_of w ≡ true → w < k + 2 → k ≤ w → next_of w k v c ≡ (10 * v + count_in range_of c) % 97
step_in_key w k v c t lo hi =
    ap (λ (o : Option ℕ). step_by v (unwrap_or o 0)) (key_count w k c t lo hi) ∙ cond-true _ _ _ (lt-ltb _ _ (digit_below c))

shifts : Shifts letter_rules range_of 97 10
shifts = record { wide = λ w t. (takes_wide range_of w t).0; many = refl; radix = refl; step = step_in_key }

numbered : Numbered letter_rules range_of (key_after range_of 97 10 1)
numbered = record {
  keys = refl;
  room = omega arith;
  count = key_count;
  range = λ ks. refl;
  key = λ w v. refl;
  within = λ v a. shifts_within letter_rules range_of 97 10 shifts 1 (omega arith) v;
  good = λ w v ks t a len lo hi. shifts_good letter_rules range_of 97 10 shifts 1 (omega arith) w v ks t len lo hi;
}

kept : (w k v c : ℕ) → nat_lt v 97 ≡ true → nat_lt (next_of w k v c) 97 ≡ true
kept w k v c h = lt-ltb _ _ (step_below v _)

injective : (w k c u v : ℕ) → Step w k c → nat_lt u 97 ≡ true → nat_lt v 97 ≡ true → next_of w k u c ≡ next_of w k v c → u ≡ v
injective w k c u v s hu hv e = step_injective _ u v (ltb-true _ _ hu) (ltb-true _ _ hv) e

pub keeps : Keeps letter_rules
keeps = keeps_numbered letter_rules range_of (key_after range_of 97 10 1) numbered (takes_wide range_of) refl kept injective
