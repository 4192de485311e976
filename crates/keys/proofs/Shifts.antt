-- Engines that step over their key by (r × running value + count) mod m: the steps over a key are one, by the number that it
-- makes, so that one key of the range makes the last running value good.
use Rattle.std.proofs.Common.{◌≡◌, ℕ, ◌+◌, ◌-◌, ◌*◌, ◌%◌, ◌<◌, ◌≤◌, true, ◌↔◌, List, [], ◌∷◌, length, get_or, sym, refl, ap, ◌∙◌, arith}
use Rattle.alphabet.specs.Counts.{size}
use Rattle.scheme.specs.Meaning.{run_by}
use Rattle.scheme.specs.Rules.{Rules, next_by}
use Rattle.keys.specs.KeyRanges.{keys_of, count_in, number_by, number_of}
use Rattle.keys.specs.Remainders.{shifted, key_after}
use Rattle.keys.specs.declared.range.KeyLength.{KeyLength}
use Rattle.keys.specs.declared.range.KeyLength.TheVariants.{One, Two}
use Rattle.keys.specs.declared.range.KeyRange.{KeyRange}
use Rattle.keys.proofs.Keyed.{KeyFor, two_steps, key_from_lem, key_only}

-- a key of two characters counts by the radix
abbrev pub ByRadix : KeyLength → ℕ → ℕ → Type 0
ByRadix One n r = Unit {0}
ByRadix Two n r = n ≡ r

pub record Shifts (e : Rules) (k : KeyRange) (m r : ℕ) : Type 0 where
  pub wide : (w : ℕ) → e.takes w ≡ true → keys_of k.length < w
  pub many : k.many ≡ m
  pub radix : ByRadix k.length (size k.alphabet) r
  pub step : (w j v c : ℕ) → e.takes w ≡ true → w < j + keys_of k.length → j ≤ w → next_by e w j v c ≡ (r * v + count_in k c) % m

module _ (e : Rules) (k : KeyRange) (m r : ℕ) (h : Shifts e k m r) where
  steps : (l : KeyLength) → k.length ≡ l → ByRadix l (size k.alphabet) r → (w v : ℕ) (ks : List ℕ) → e.takes w ≡ true → length ks ≡ keys_of l →
      run_by (next_by e) w (1 + (w - keys_of l)) v ks ≡ (shifted l r v + number_by l (size k.alphabet) (count_in k (get_or ks 0 0)) (count_in k (get_or ks 1 0))) % m
  steps One q s w v [] t len = absurd (let n : ⊥ = omega arith in n)
  steps One q s w v (c ∷ []) t len =
      let wide = h.wide w t in
      let one = ap keys_of q in
      h.step w (1 + (w - 1)) v c t (omega arith) (omega arith)
  steps One q s w v (c ∷ d ∷ ks) t len = absurd (let n : ⊥ = omega arith in n)
  steps Two q s w v [] t len = absurd (let n : ⊥ = omega arith in n)
  steps Two q s w v (c ∷ []) t len = absurd (let n : ⊥ = omega arith in n)
  steps Two q s w v (c ∷ d ∷ []) t len =
      let wide = h.wide w t in
      let two = ap keys_of q in
      let j = 1 + (w - 2) in
      let a = count_in k c in
      let b = count_in k d in
      ap (λ (x : ℕ). next_by e w (j + 1) x d) (h.step w j v c t (omega arith) (omega arith))
      ∙ h.step w (j + 1) ((r * v + a) % m) d t (omega arith) (omega arith)
      ∙ two_steps m r v a b
      ∙ ap (λ (n : ℕ). (r * (r * v) + (n * a + b)) % m) (sym s)
  steps Two q s w v (c ∷ d ∷ x ∷ ks) t len = absurd (let n : ⊥ = omega arith in n)

  module _ (t : ℕ) (small : t < m) where
    -- the key of a running value is the one in range
    key_for : (v : ℕ) → KeyFor m k.least (shifted k.length r v) t (key_after k m r t v)
    key_for v = key_from_lem m k.least (shifted k.length r v) t small

    pub shifts_within : (v : ℕ) → (k.least ≤ key_after k m r t v) × (key_after k m r t v < k.least + k.many)
    shifts_within v = let f = key_for v in let many = h.many in (f.low, omega (arith, f.high))

    pub shifts_good : (w v : ℕ) (ks : List ℕ) → e.takes w ≡ true → length ks ≡ keys_of k.length → k.least ≤ number_of k ks → number_of k ks < k.least + k.many →
        (run_by (next_by e) w (1 + (w - keys_of k.length)) v ks ≡ t) ↔ (number_of k ks ≡ key_after k m r t v)
    shifts_good w v ks takes len lo hi =
        let run = steps k.length refl h.radix w v ks takes len in
        let many = h.many in
        let x = shifted k.length r v in (
          λ g. key_only m k.least x t (number_of k ks) (key_after k m r t v) (record { low = lo; high = omega arith; good = sym run ∙ g }) (key_for v),
          λ q. run ∙ ap (λ (n : ℕ). (x + n) % m) q ∙ (key_for v).good,
        )
