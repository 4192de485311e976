-- The hybrid systems keep what an engine keeps, and the slips that pass are those of the list.
use Rattle.std.specs.Prelude.{◌≡◌, ℕ, ◌+◌, ◌-◌, ◌*◌, ◌/◌, ◌<◌, ◌≤◌, true, ◌≢◌, ◌↔◌, List, [], ◌∷◌, length, is_some, Some, None, Option, refl}
use Rattle.std.proofs.Common.{sym, ap, ◌∙◌, arith}
use Rattle.std.proofs.lemmas.Bool.{and_from, and_parts, le-leb, leb-true}
use Rattle.std.specs.Option.{unwrap_or}
use Rattle.alphabet.specs.Counts.{size, count_of}
use Rattle.alphabet.proofs.Alphabets.{count_below, count_injective}
use Rattle.scheme.specs.Lists.{Never}
use Rattle.scheme.specs.Meaning.{run_by}
use Rattle.scheme.specs.Rules.{next_by, Keeps}
use Rattle.scheme.proofs.Lists.{AtOnePlace, lets_pass_lem}
use Rattle.keys.specs.KeyRanges.{count_in, number_of}
use Rattle.keys.proofs.Numbered.{Numbered, keeps_numbered}
use Rattle.keys.proofs.Numbers.{some_of}
use Rattle.keys.proofs.Widths.{takes_wide}
use Rattle.hybrid.specs.Slips.{Exchanges, HybridSlips}
use Rattle.hybrid.specs.Systems.{modulus_of, alphabet_of, range_of, next_of, key_after, rules_of}
use Rattle.hybrid.specs.declared.system.Hybrid.{Hybrid}
use Rattle.hybrid.specs.declared.system.Hybrid.TheVariants.{Mod11M10, Mod27M26, Mod37M36}
use Rattle.hybrid.specs.Steps.{Value, stays, same_value, same_count, at_halves, key_below, key_good}

-- all that is used of a system: M is even, not 0, and the number of characters
record Sound (h : Hybrid) : Type 0 where
  even : 2 * (modulus_of h / 2) ≡ modulus_of h
  positive : 1 ≤ modulus_of h
  sized : size (alphabet_of h) ≡ modulus_of h

sound : (h : Hybrid) → Sound h
sound Mod11M10 = record { even = refl; positive = omega arith; sized = refl }
sound Mod27M26 = record { even = refl; positive = omega arith; sized = refl }
sound Mod37M36 = record { even = refl; positive = omega arith; sized = refl }

module _ (h : Hybrid) where
  value_of : (v : ℕ) → (rules_of h).is_value v ≡ true → Value (modulus_of h) v
  value_of v e = let p = and_parts _ _ e in record { low = leb-true _ _ p.0; high = leb-true _ _ p.1 }

  is_value_lem : (v : ℕ) → Value (modulus_of h) v → (rules_of h).is_value v ≡ true
  is_value_lem v p = and_from _ _ (le-leb _ _ p.low) (le-leb _ _ p.high)

  below_by : (c : ℕ) (o : Option ℕ) → count_of (alphabet_of h) c ≡ o → unwrap_or o 0 < modulus_of h
  below_by c None e = (sound h).positive
  below_by c (Some n) e = let sized = (sound h).sized in let b = count_below (alphabet_of h) c n e in omega arith

  -- what a character counts in a step is below M, whether it is allowed or not
  below : (c : ℕ) → count_in (range_of h) c < modulus_of h
  below c = below_by c (count_of (alphabet_of h) c) refl

  kept : (v c : ℕ) → (rules_of h).is_value v ≡ true → (rules_of h).is_value (next_of (modulus_of h) v (count_in (range_of h) c)) ≡ true
  kept v c e = is_value_lem _ (stays (modulus_of h) (sound h).even v (count_in (range_of h) c) (value_of v e) (below c))

  -- of the keys of one character, the one that belongs to the running value is good
  good : (w k v : ℕ) (ks : List ℕ) → (rules_of h).is_value v ≡ true → length ks ≡ 1 → (run_by (next_by (rules_of h)) w k v ks ≡ 2) ↔ (number_of (range_of h) ks ≡ key_after (modulus_of h) v)
  good w k v [] e len = absurd (let n : ⊥ = omega arith in n)
  good w k v (c ∷ []) e len = key_good (modulus_of h) (sound h).even v (count_in (range_of h) c) (value_of v e) (below c)
  good w k v (c ∷ d ∷ ks) e len = absurd (let n : ⊥ = omega arith in n)

  numbered : Numbered (rules_of h) (range_of h) (key_after (modulus_of h))
  numbered = record {
    keys = refl;
    room = let sized = (sound h).sized in omega arith;
    count = λ w k c t lo hi. refl;
    range = λ ks. refl;
    key = λ w v. refl;
    within = λ v e. let b = key_below (modulus_of h) (sound h).even v (value_of v e) in (omega arith, omega arith);
    good = λ w v ks t e len lo hi. good w (1 + (w - 1)) v ks e len;
  }

  pub keeps : Keeps (rules_of h)
  keeps =
      keeps_numbered (rules_of h) (range_of h) (key_after (modulus_of h)) numbered (takes_wide (range_of h))
      (is_value_lem _ (record { low = (sound h).positive; high = omega arith }))
      (λ w k v c e. kept v c e)
      (λ w k c u v s p q e. same_value (modulus_of h) (sound h).even (count_in (range_of h) c) u v (value_of u p) (value_of v q) (below c) e)

  -- characters that are allowed differ in their counts
  apart : (a b : ℕ) → is_some (count_of (alphabet_of h) a) ≡ true → is_some (count_of (alphabet_of h) b) ≡ true → a ≢ b → count_in (range_of h) a ≢ count_in (range_of h) b
  apart a b ca cb ne e =
      let n = some_of _ ca in
      let m = some_of _ cb in
      let same : n.0 ≡ m.0 = sym (ap (λ (x : Option ℕ). unwrap_or x 0) n.1) ∙ e ∙ ap (λ (x : Option ℕ). unwrap_or x 0) m.1 in
      ne (count_injective (alphabet_of h) a b m.0 (n.1 ∙ ap Some same) m.1)

  at_one_place : AtOnePlace (rules_of h) Never (Exchanges h)
  at_one_place = record {
    replacement = λ w k p a b t lo hi v ca cb ne. (
      λ e. apart a b ca cb ne (same_count (modulus_of h) (sound h).even p (count_in (range_of h) a) (count_in (range_of h) b) (value_of p v) (below a) (below b) e),
      λ n. absurd n,
    );
    exchange = λ w k p a b t lo hi v ca _ cb _ ne. at_halves (modulus_of h) (sound h).even p (count_in (range_of h) a) (count_in (range_of h) b) (value_of p v) (below a) (below b) (apart a b ca cb ne);
  }

  pub slips : HybridSlips h
  slips = lets_pass_lem (rules_of h) keeps Never (Exchanges h) at_one_place
