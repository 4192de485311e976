-- The French key keeps what an engine keeps, and lets pass exactly the slips among characters of equal count: a step tells
-- counts apart, and two steps their sequence.
use Rattle.std.specs.Prelude.{◌≡◌, ℕ, ◌+◌, ◌*◌, ◌%◌, ◌<◌, ◌≤◌, Bool, true, false, cond, Some, Option, ◌==◌, refl}
use Rattle.std.proofs.Common.{sym, ap, ◌∙◌, mod-lt, arith}
use Rattle.std.proofs.lemmas.Bool.{lt-ltb, ltb-true, eqb-true}
use Rattle.std.proofs.lemmas.Bool.Decides.{nat_tests}
use Rattle.std.specs.Option.{unwrap_or}
use Rattle.alphabet.specs.Counts.{count_of}
use Rattle.alphabet.specs.declared.counts.Alphabet.TheVariants.{Digits}
use Rattle.scheme.specs.Rules.{Keeps}
use Rattle.scheme.proofs.Lists.{Counted, lets_pass_lem}
use Rattle.keys.specs.KeyRanges.{count_in}
use Rattle.keys.specs.Remainders.{key_after}
use Rattle.keys.proofs.Keyed.{step_injective, step_tells, sequence_tells}
use Rattle.keys.proofs.Numbered.{Numbered, keeps_numbered}
use Rattle.keys.proofs.Numbers.{some_of}
use Rattle.keys.proofs.Shifts.{Shifts, shifts_within, shifts_good}
use Rattle.national.specs.Accounts.{account_range}
use Rattle.national.specs.French.{between, french_count, french_count_at, french_rules, EqualCount, ByCount, FrenchSlips}

-- the next running value by a character
abbrev french_next : ℕ → ℕ → ℕ → ℕ
french_next k v c = (10 * v + unwrap_or (french_count_at k c) 0) % 97

wide : (w : ℕ) → (w == 23) ≡ true → (2 < w) × (w ≤ 34)
wide w t = let e = eqb-true w 23 t in (omega arith, omega arith)

-- the key's places take digits
key_place : (w k : ℕ) → (w == 23) ≡ true → w < k + 2 → k ≤ w → between 11 21 k ≡ false
key_place w k t lo hi = let e = eqb-true w 23 t in grind (arith, nat_tests)

count_in_key : (w k c : ℕ) → (w == 23) ≡ true → w < k + 2 → k ≤ w → french_count_at k c ≡ count_of Digits c
count_in_key w k c t lo hi = ap (λ (b : Bool). cond b (french_count c) (count_of Digits c)) (key_place w k t lo hi)

step_in_key : (w k v c : ℕ) → (w == 23) ≡ true → w < k + 2 → k ≤ w → french_next k v c ≡ (10 * v + count_in account_range c) % 97
step_in_key w k v c t lo hi = ap (λ (o : Option ℕ). (10 * v + unwrap_or o 0) % 97) (count_in_key w k c t lo hi)

shifts : Shifts french_rules account_range 97 10
shifts = record { wide = λ w t. (wide w t).0; many = refl; radix = refl; step = step_in_key }

abbrev key_number_lem : ℕ → ℕ
key_number_lem = key_after account_range 97 10 0

numbered : Numbered french_rules account_range key_number_lem
numbered = record {
  keys = refl;
  room = omega arith;
  count = count_in_key;
  range = λ ks. refl;
  key = λ w v. refl;
  within = λ v a. shifts_within french_rules account_range 97 10 shifts 0 (omega arith) v;
  good = λ w v ks t a len lo hi. shifts_good french_rules account_range 97 10 shifts 0 (omega arith) w v ks t len lo hi;
}

pub keeps : Keeps french_rules
keeps =
    keeps_numbered french_rules account_range key_number_lem numbered wide refl (λ w k v c a. lt-ltb _ _ (mod-lt _ (omega arith)))
    (λ w k c u v s a b e. step_injective 97 10 (unwrap_or (french_count_at k c) 0) u v (68, refl) (ltb-true u 97 a) (ltb-true v 97 b) e)

-- where a character is allowed, it counts what it counts in the account
digit_counts : (c n : ℕ) → count_of Digits c ≡ Some n → french_count c ≡ Some n
digit_counts c n e = grind (arith, nat_tests)

counts_by : (b : Bool) (c n : ℕ) → cond b (french_count c) (count_of Digits c) ≡ Some n → french_count c ≡ Some n
counts_by true c n e = e
counts_by false c n e = digit_counts c n e

count_below : (c n : ℕ) → french_count c ≡ Some n → n < 10
count_below c n e = grind (arith, nat_tests)

count_of_lem : (w k c : ℕ) → Counted french_rules w k c → (n : ℕ) × (french_count c ≡ Some n) × (unwrap_or (french_count_at k c) 0 ≡ n) × (n < 10)
count_of_lem w k c a =
    let n = some_of (french_count_at k c) a in
    let e = counts_by (between 11 21 k) c n.0 n.1 in
    (n.0, e, ap (λ (o : Option ℕ). unwrap_or o 0) n.1, count_below c n.0 e)

same_count : (c i j : ℕ) → french_count c ≡ Some i → french_count c ≡ Some j → i ≡ j
same_count c i j p q = cc

equal : (a b i j : ℕ) → french_count a ≡ Some i → french_count b ≡ Some j → i ≡ j → EqualCount a b
equal a b i j p q e = record { counted = grind arith; same = p ∙ ap Some e ∙ sym q }

of_equal : (a b i j : ℕ) → french_count a ≡ Some i → french_count b ≡ Some j → EqualCount a b → i ≡ j
of_equal a b i j p q e = let s = e.same in cc

-- one step, and two, by the counts
next_is : (k v c n : ℕ) → unwrap_or (french_count_at k c) 0 ≡ n → french_next k v c ≡ (10 * v + n) % 97
next_is k v c n e = ap (λ (x : ℕ). (10 * v + x) % 97) e

both_are : (k v a b i j : ℕ) → unwrap_or (french_count_at k a) 0 ≡ i → unwrap_or (french_count_at (k + 1) b) 0 ≡ j → french_next (k + 1) (french_next k v a) b ≡ (10 * ((10 * v + i) % 97) + j) % 97
both_are k v a b i j p q = next_is (k + 1) (french_next k v a) b j q ∙ ap (λ (x : ℕ). (10 * x + j) % 97) (next_is k v a i p)

pub slips : FrenchSlips
slips = lets_pass_lem french_rules keeps ByCount ByCount (record {
  replacement = λ w k v a b t lo hi x ca cb ne.
      let i = count_of_lem w k a ca in
      let j = count_of_lem w k b cb in
      let left = next_is k v a i.0 i.2 in
      let right = next_is k v b j.0 j.2 in (
        λ e. equal a b i.0 j.0 i.1 j.1 (step_tells 97 10 v i.0 j.0 (omega arith) (omega arith) (sym left ∙ e ∙ right)),
        λ e. left ∙ ap (λ (n : ℕ). (10 * v + n) % 97) (of_equal a b i.0 j.0 i.1 j.1 e) ∙ sym right,
      );
  exchange = λ w k v a b t lo hi x ca cb cb' ca' ne.
      let i = count_of_lem w k a ca in
      let j = count_of_lem w k b cb' in
      let i' = count_of_lem w (k + 1) a ca' in
      let j' = count_of_lem w (k + 1) b cb in
      let left = both_are k v a b i.0 j.0 i.2 (j'.2 ∙ same_count b j'.0 j.0 j'.1 j.1) in
      let right = both_are k v b a j.0 i.0 j.2 (i'.2 ∙ same_count a i'.0 i.0 i'.1 i.1) in (
        λ e. equal a b i.0 j.0 i.1 j.1 (sequence_tells 97 10 v i.0 j.0 (54, refl) (omega arith) (omega arith) (sym left ∙ e ∙ right)),
        λ e.
            let same = of_equal a b i.0 j.0 i.1 j.1 e in
            left
            ∙ ap (λ (n : ℕ). (10 * ((10 * v + n) % 97) + j.0) % 97) same
            ∙ ap (λ (n : ℕ). (10 * ((10 * v + j.0) % 97) + n) % 97) (sym same)
            ∙ sym right,
      );
})
