-- The Belgian key keeps what an engine keeps, and lets no slip pass. By remainder 97 every step multiplies value and digit by
-- numbers that have inverses, so all facts here are of one kind.
use Rattle.std.specs.Prelude.{◌≡◌, ℕ, ◌+◌, ◌-◌, ◌*◌, ◌%◌, ◌<◌, ◌≤◌, true, ◌≢◌, ◌↔◌, List, [], ◌∷◌, length, is_some, ◌==◌, refl}
use Rattle.std.proofs.Common.{sym, ap, subst, ◌∙◌, inl, inr, arith}
use Rattle.std.proofs.lemmas.Bool.{lt-ltb, ltb-true, eqb-true, ne_eqb, cases_eq, cond-false}
use Rattle.std.proofs.lemmas.Bool.Decides.{nat_tests}
use Rattle.alphabet.specs.Counts.{count_of}
use Rattle.alphabet.specs.declared.counts.Alphabet.TheVariants.{Digits}
use Rattle.scheme.specs.Meaning.{run_by}
use Rattle.scheme.specs.Rules.{next_by, Keeps}
use Rattle.scheme.specs.Lists.{Never}
use Rattle.scheme.proofs.Lists.{lets_pass_lem}
use Rattle.keys.specs.KeyRanges.{count_in, number_of}
use Rattle.keys.proofs.Keyed.{step_injective, step_tells, sequence_tells}
use Rattle.keys.proofs.Numbered.{Numbered, keeps_numbered}
use Rattle.national.specs.Accounts.{account_range}
use Rattle.national.specs.Belgian.{less, belgian_next, belgian_key, belgian_rules, BelgianSlips}

-- the three kinds of step
at_ten : (k v d : ℕ) → k ≡ 11 → belgian_next k v d ≡ less v (10 * d)
at_ten k v d e = ap (λ (j : ℕ). belgian_next j v d) e

at_one : (k v d : ℕ) → k ≡ 12 → belgian_next k v d ≡ less v d
at_one k v d e = ap (λ (j : ℕ). belgian_next j v d) e

at_other : (k v d : ℕ) → k ≢ 11 → k ≢ 12 → belgian_next k v d ≡ (10 * v + d) % 97
at_other k v d e f = cond-false _ _ _ (ne_eqb k 11 e) ∙ cond-false _ _ _ (ne_eqb k 12 f)

less_injective : (x u v : ℕ) → u < 97 → v < 97 → less u x ≡ less v x → u ≡ v
less_injective x u v hu hv e = grind arith

injective : (k d u v : ℕ) → u < 97 → v < 97 → belgian_next k u d ≡ belgian_next k v d → u ≡ v
injective k d u v hu hv e =
    elim (cases_eq k 11) [
      | inl q ↦ less_injective (10 * d) u v hu hv (sym (at_ten k u d q) ∙ e ∙ at_ten k v d q)
      | inr n ↦
          elim (cases_eq k 12) [
            | inl q ↦ less_injective d u v hu hv (sym (at_one k u d q) ∙ e ∙ at_one k v d q)
            | inr m ↦ step_injective 97 10 d u v (68, refl) hu hv (sym (at_other k u d n m) ∙ e ∙ at_other k v d n m)
          ]
    ]

is_value_lem : (k v d : ℕ) → belgian_next k v d < 97
is_value_lem k v d =
    elim (cases_eq k 11) [
      | inl q ↦ omega (arith, at_ten k v d q)
      | inr n ↦
          elim (cases_eq k 12) [
            | inl q ↦ omega (arith, at_one k v d q)
            | inr m ↦ omega (arith, at_other k v d n m)
          ]
    ]

-- the key's two digits take off its number
key_to : (v a b : ℕ) → v < 97 → a < 10 → b < 10 → 1 ≤ 10 * a + b → 10 * a + b < 98 → less (less v (10 * a)) b ≡ 0 → 10 * a + b ≡ belgian_key v
key_to v a b hv ha hb lo hi e = grind (arith, nat_tests)

key_from_lem : (v a b : ℕ) → v < 97 → a < 10 → b < 10 → 10 * a + b ≡ belgian_key v → less (less v (10 * a)) b ≡ 0
key_from_lem v a b hv ha hb e = grind (arith, nat_tests)

key_within : (v : ℕ) → (1 ≤ belgian_key v) × (belgian_key v < 98)
key_within v = (grind (arith, nat_tests), grind (arith, nat_tests))

digit_below : (c : ℕ) → count_in account_range c < 10
digit_below c = grind (arith, nat_tests)

-- the last two places, by the number of the key
good_12 : (v : ℕ) (ks : List ℕ) → length ks ≡ 2 → v < 97 → 1 ≤ number_of account_range ks → number_of account_range ks < 98 →
    (run_by (next_by belgian_rules) 12 11 v ks ≡ 0) ↔ (number_of account_range ks ≡ belgian_key v)
good_12 v [] len h lo hi = absurd (let n : ⊥ = omega arith in n)
good_12 v (c ∷ []) len h lo hi = absurd (let n : ⊥ = omega arith in n)
good_12 v (c ∷ d ∷ []) len h lo hi =
    let a = count_in account_range c in
    let b = count_in account_range d in
    (key_to v a b h (digit_below c) (digit_below d) lo hi, key_from_lem v a b h (digit_below c) (digit_below d))
good_12 v (c ∷ d ∷ x ∷ ks) len h lo hi = absurd (let n : ⊥ = omega arith in n)

good : (w v : ℕ) (ks : List ℕ) → (w == 12) ≡ true → v < 97 → length ks ≡ 2 → 1 ≤ number_of account_range ks → number_of account_range ks < 98 →
    (run_by (next_by belgian_rules) w (1 + (w - 2)) v ks ≡ 0) ↔ (number_of account_range ks ≡ belgian_key v)
good w v ks t h len lo hi =
    let P : ℕ → Type 0 = λ n. (run_by (next_by belgian_rules) n (1 + (n - 2)) v ks ≡ 0) ↔ (number_of account_range ks ≡ belgian_key v) in
    subst P (sym (eqb-true w 12 t)) (good_12 v ks len h lo hi)

numbered : Numbered belgian_rules account_range belgian_key
numbered = record {
  keys = refl;
  room = omega arith;
  count = λ w k c t lo hi. refl;
  range = λ ks. refl;
  key = λ w v. refl;
  within = λ v a. key_within v;
  good = λ w v ks t a len lo hi. good w v ks t (ltb-true v 97 a) len lo hi;
}

wide : (w : ℕ) → (w == 12) ≡ true → (2 < w) × (w ≤ 34)
wide w t = let e = eqb-true w 12 t in (omega arith, omega arith)

pub keeps : Keeps belgian_rules
keeps =
    keeps_numbered belgian_rules account_range belgian_key numbered wide refl (λ w k v c a. lt-ltb _ _ (is_value_lem k v (count_in account_range c)))
    (λ w k c u v s a b e. injective k (count_in account_range c) u v (ltb-true u 97 a) (ltb-true v 97 b) e)

-- after one value a step tells digits apart, since 1 and 10 have inverses
ten_tells : (v a b : ℕ) → a < 10 → b < 10 → less v (10 * a) ≡ less v (10 * b) → a ≡ b
ten_tells v a b ha hb e = grind arith

one_tells : (v a b : ℕ) → a < 10 → b < 10 → less v a ≡ less v b → a ≡ b
one_tells v a b ha hb e = grind arith

digits_tell : (k v a b : ℕ) → a < 10 → b < 10 → belgian_next k v a ≡ belgian_next k v b → a ≡ b
digits_tell k v a b ha hb e =
    elim (cases_eq k 11) [
      | inl q ↦ ten_tells v a b ha hb (sym (at_ten k v a q) ∙ e ∙ at_ten k v b q)
      | inr n ↦
          elim (cases_eq k 12) [
            | inl q ↦ one_tells v a b ha hb (sym (at_one k v a q) ∙ e ∙ at_one k v b q)
            | inr m ↦ step_tells 97 10 v a b (omega arith) (omega arith) (sym (at_other k v a n m) ∙ e ∙ at_other k v b n m)
          ]
    ]

-- and two steps tell their sequence, since 9 and 11 have inverses too
ten_sequence : (v a b : ℕ) → a < 10 → b < 10 → less ((10 * v + a) % 97) (10 * b) ≡ less ((10 * v + b) % 97) (10 * a) → a ≡ b
ten_sequence v a b ha hb e = grind arith

one_sequence : (v a b : ℕ) → a < 10 → b < 10 → less (less v (10 * a)) b ≡ less (less v (10 * b)) a → a ≡ b
one_sequence v a b ha hb e = grind arith

-- two steps, by the place of the first
abbrev both : ℕ → ℕ → ℕ → ℕ → ℕ
both k v a b = belgian_next (k + 1) (belgian_next k v a) b

both_at : (k j v a b : ℕ) → k ≡ j → both k v a b ≡ both j v a b
both_at k j v a b e = ap (λ (i : ℕ). both i v a b) e

both_before : (k v a b : ℕ) → k < 10 → both k v a b ≡ (10 * ((10 * v + a) % 97) + b) % 97
both_before k v a b h =
    at_other (k + 1) (belgian_next k v a) b (omega arith) (omega arith)
    ∙ ap (λ (x : ℕ). (10 * x + b) % 97) (at_other k v a (omega arith) (omega arith))

sequence : (k v a b : ℕ) → k + 1 ≤ 12 → a < 10 → b < 10 → both k v a b ≡ both k v b a → a ≡ b
sequence k v a b h ha hb e =
    elim (cases_eq k 11) [
      | inl q ↦ one_sequence v a b ha hb (sym (both_at k 11 v a b q) ∙ e ∙ both_at k 11 v b a q)
      | inr n ↦
          elim (cases_eq k 10) [
            | inl q ↦ ten_sequence v a b ha hb (sym (both_at k 10 v a b q) ∙ e ∙ both_at k 10 v b a q)
            | inr m ↦ sequence_tells 97 10 v a b (54, refl) (omega arith) (omega arith) (sym (both_before k v a b (omega arith)) ∙ e ∙ both_before k v b a (omega arith))
          ]
    ]

-- digits of one count are one digit
same_digit : (a b : ℕ) → is_some (count_of Digits a) ≡ true → is_some (count_of Digits b) ≡ true → count_in account_range a ≡ count_in account_range b → a ≡ b
same_digit a b p q e = grind (arith, nat_tests)

pub no_slips : BelgianSlips
no_slips = lets_pass_lem belgian_rules keeps Never Never (record {
  replacement = λ w k v a b t lo hi x ca cb ne. (λ e. ne (same_digit a b ca cb (digits_tell k v (count_in account_range a) (count_in account_range b) (digit_below a) (digit_below b) e)), λ z. absurd z);
  exchange = λ w k v a b t lo hi x ca cb cb' ca' ne.
      let e12 = eqb-true w 12 t in
      (λ e. ne (same_digit a b ca cb (sequence k v (count_in account_range a) (count_in account_range b) (omega arith) (digit_below a) (digit_below b) e)), λ z. absurd z);
})
