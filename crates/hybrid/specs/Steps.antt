-- The step by cases: at most one M comes off the sum, and at most one M + 1 off the double. All else is linear.
use Rattle.std.specs.Prelude.{◌≡◌, ℕ, ◌+◌, ◌-◌, ◌*◌, ◌/◌, ◌%◌, ◌<◌, ◌≤◌, ◌≢◌, ◌⊎◌, ◌↔◌}
use Rattle.std.proofs.Common.{sym, ap, ◌∙◌, inl, inr, ⊎_elim, mod-lt, mod-eq_of_lt, arith}
use Rattle.std.proofs.Math.Nat.{add-mod_right, mod_self}
use Rattle.std.proofs.lemmas.Bool.{cases_lt}
use Rattle.std.proofs.lemmas.Bool.Decides.{nat_tests}
use Rattle.hybrid.specs.Slips.{Halves}
use Rattle.hybrid.specs.Systems.{or_full, full, next_of, key_after}

-- a running value
pub record Value (M p : ℕ) : Type 0 where
  pub low : 1 ≤ p
  pub high : p ≤ M

-- a remainder where the modulus comes off once
off : (m x : ℕ) → m ≤ x → x < m + m → x % m + m ≡ x
off m x l h =
    let e : x ≡ (x - m) + m = omega arith in
    let r : x % m ≡ x - m = ap (λ (y : ℕ). y % m) e ∙ add-mod_right (x - m) m ∙ mod-eq_of_lt (omega arith) in
    omega arith

or_full_lem : (M r : ℕ) → ((r ≡ 0) × (or_full M r ≡ M)) ⊎ ((0 < r) × (or_full M r ≡ r))
or_full_lem M r = grind (arith, nat_tests)

module _ (M : ℕ) where
  -- x, less M where it is above M
  abbrev Once : ℕ → ℕ → Type 0
  Once x w = ((x ≤ M) × (w ≡ x)) ⊎ ((M < x) × (w + M ≡ x))

  once : (x : ℕ) → 1 ≤ x → x < M + M → Once x (full M x)
  once x l h =
      let o = or_full_lem M (x % M) in
      ⊎_elim
      (λ lt. let e : x % M ≡ x = mod-eq_of_lt lt in inl (omega arith, omega arith))
      (λ ge. let e = off M x ge h in ⊎_elim (λ z. inl (omega arith, omega arith)) (λ z. inr (omega arith, omega arith)) o)
      (cases_lt x M)

  -- the double, less M + 1 where it is above M
  abbrev Twice : ℕ → ℕ → Type 0
  Twice w g = ((2 * w ≤ M) × (g ≡ 2 * w)) ⊎ ((M < 2 * w) × (g + (M + 1) ≡ 2 * w))

  twice : (w : ℕ) → w ≤ M → Twice w ((2 * w) % (M + 1))
  twice w h =
      ⊎_elim
      (λ lt. inl (omega arith, mod-eq_of_lt lt))
      (λ ge. inr (omega arith, off (M + 1) (2 * w) ge (omega arith)))
      (cases_lt (2 * w) (M + 1))

  -- a step from x, the sum of running value and count, over the number w to the next running value g
  record Leads (x w g : ℕ) : Type 0 where
    once : Once x w
    twice : Twice w g
    low : 1 ≤ w
    high : w ≤ M

  leads : (p a : ℕ) → Value M p → a < M → Leads (p + a) (full M (p + a)) (next_of M p a)
  leads p a v h =
      let o = once (p + a) (omega arith) (omega arith) in
      let high : full M (p + a) ≤ M = omega arith in
      record { once = o; twice = twice (full M (p + a)) high; low = omega arith; high = high }

  module _ (even : 2 * (M / 2) ≡ M) where
    pub stays : (p a : ℕ) → Value M p → a < M → Value M (next_of M p a)
    stays p a v h =
        let s = leads p a v h in
        record { low = omega (arith, s.twice); high = omega (arith, s.twice) }

    -- sums that lead to the same value differ by M, if at all
    abbrev Alike : ℕ → ℕ → Type 0
    Alike x y = (x ≡ y) ⊎ ((x ≡ y + M) ⊎ (y ≡ x + M))

    -- doubling keeps numbers apart
    apart : (w w' g : ℕ) → w ≤ M → w' ≤ M → Twice w g → Twice w' g → w ≡ w'
    apart w w' g k k' t t' = omega arith

    alike : (x y w : ℕ) → Once x w → Once y w → Alike x y
    alike x y w (inl p) (inl q) = inl (omega arith)
    alike x y w (inl p) (inr q) = inr (inr (omega arith))
    alike x y w (inr p) (inl q) = inr (inl (omega arith))
    alike x y w (inr p) (inr q) = inl (omega arith)

    sums : (p a q b : ℕ) → Value M p → Value M q → a < M → b < M → next_of M p a ≡ next_of M q b → Alike (p + a) (q + b)
    sums p a q b vp vq ha hb k =
        let s = leads p a vp ha in
        let t = leads q b vq hb in
        let w = apart (full M (p + a)) (full M (q + b)) (next_of M p a) s.high t.high s.twice (rw k t.twice) in
        alike (p + a) (q + b) (full M (p + a)) s.once (rw w t.once)

    pub same_value : (a p q : ℕ) → Value M p → Value M q → a < M → next_of M p a ≡ next_of M q a → p ≡ q
    same_value a p q vp vq h k = let z = sums p a q a vp vq h h k in omega arith

    pub same_count : (p a b : ℕ) → Value M p → a < M → b < M → next_of M p a ≡ next_of M p b → a ≡ b
    same_count p a b v ha hb k = let z = sums p a p b v v ha hb k in omega arith

    -- an exchange: w and w' after the first step from p, g and g' their doubles
    module _ (p a b w w' g g' : ℕ) (ha : a < M) (hb : b < M) (s : Leads (p + a) w g) (t : Leads (p + b) w' g') where
      lower : Alike (g + b) (g' + a) → a ≢ b → w ≤ M / 2 → (w ≡ M / 2) × (w' ≡ M / 2 + 1)
      lower z ne c = omega arith

      upper : Alike (g + b) (g' + a) → a ≢ b → M / 2 < w → (w ≡ M / 2 + 1) × (w' ≡ M / 2)
      upper z ne c = omega arith

      -- and back: from the halves to the same number at the second step
      meet : (x x' : ℕ) → Once (g + b) x → Once (g' + a) x' → w ≡ M / 2 → w' ≡ M / 2 + 1 → x ≡ x'
      meet x x' q q' k k' = omega arith

    module _ (p a b : ℕ) (v : Value M p) (ha : a < M) (hb : b < M) where
      forth : next_of M (next_of M p a) b ≡ next_of M (next_of M p b) a → a ≢ b → Halves M (full M (p + a)) (full M (p + b))
      forth k ne =
          let s = leads p a v ha in
          let t = leads p b v hb in
          let z = sums (next_of M p a) b (next_of M p b) a (stays p a v ha) (stays p b v hb) hb ha k in
          ⊎_elim
          (λ c. inr (upper p a b _ _ _ _ ha hb s t z ne c))
          (λ c. inl (lower p a b _ _ _ _ ha hb s t z ne c))
          (cases_lt (M / 2) (full M (p + a)))

      back : full M (p + a) ≡ M / 2 → full M (p + b) ≡ M / 2 + 1 → next_of M (next_of M p a) b ≡ next_of M (next_of M p b) a
      back k k' =
          let s = leads p a v ha in
          let t = leads p b v hb in
          let s2 = leads (next_of M p a) b (stays p a v ha) hb in
          let t2 = leads (next_of M p b) a (stays p b v hb) ha in
          let x = meet p a b _ _ _ _ ha hb s t _ _ s2.once t2.once k k' in
          ap (λ (w : ℕ). (2 * w) % (M + 1)) x

    -- an exchange of unequal counts leads to the same value exactly at the halves
    pub at_halves : (p a b : ℕ) → Value M p → a < M → b < M → a ≢ b → (next_of M (next_of M p a) b ≡ next_of M (next_of M p b) a) ↔ Halves M (full M (p + a)) (full M (p + b))
    at_halves p a b v ha hb ne = (
      λ k. forth p a b v ha hb k ne,
      ⊎_elim (λ k. back p a b v ha hb k.0 k.1) (λ k. sym (back p b a v hb ha k.1 k.0)),
    )

    -- M + 1 less p, by remainder M
    key_cases : (p : ℕ) → Value M p → ((p ≡ 1) × (key_after M p ≡ 0)) ⊎ ((1 < p) × (key_after M p + p ≡ M + 1))
    key_cases p v =
        ⊎_elim
        (λ gt. let e : key_after M p ≡ M + 1 - p = mod-eq_of_lt (omega arith) in inr (gt, omega arith))
        (λ le. let one : p ≡ 1 = omega arith in let e : M + 1 - p ≡ M = omega arith in inl (one, ap (λ (x : ℕ). x % M) e ∙ mod_self M))
        (cases_lt 1 p)

    key_leads : (p k w g : ℕ) → Value M p → ((p ≡ 1) × (k ≡ 0)) ⊎ ((1 < p) × (k + p ≡ M + 1)) → Leads (p + k) w g → g ≡ 2
    key_leads p k w g v c s = omega arith

    pub key_below : (p : ℕ) → Value M p → key_after M p < M
    key_below p v = mod-lt (M + 1 - p) (omega arith)

    -- the key that belongs to a running value, and no other, leads to 2
    pub key_good : (p a : ℕ) → Value M p → a < M → (next_of M p a ≡ 2) ↔ (a ≡ key_after M p)
    key_good p a v h =
        let small = key_below p v in
        let hit = key_leads p (key_after M p) _ _ v (key_cases p v) (leads p (key_after M p) v small) in
        (λ k. same_count p a (key_after M p) v h small (k ∙ sym hit), λ k. ap (next_of M p) k ∙ hit)
