-- The laws of keys by remainder, over any modulus and any start of the key range.
use Rattle.std.proofs.Common.{◌≡◌, ℕ, zero, suc, ◌+◌, ◌-◌, ◌*◌, ◌/◌, ◌%◌, ◌<◌, ◌≤◌, sym, ap, ◌∙◌, mod-lt, mod-eq_of_lt, zero-mul, arith}
use Rattle.std.proofs.lemmas.Nat.{mul-mod_second}
use native.Mathlib.Nat.{add-mod-mod, zero-mod, add-mul-mod_self_left, div-add-mod}
use Rattle.keys.specs.Remainders.{key_from}
use Rattle.keys.proofs.Congruent.{Inverse, same_add, cancel_add, cancel_add_left, cancel_mul, below_same}

at : (m : ℕ) {a b : ℕ} → a ≡ b → a % m ≡ b % m
at m e = ap (λ (x : ℕ). x % m) e

-- a step is injective, since the radix has an inverse
pub step_injective : (m r a u v : ℕ) → Inverse m r → u < m → v < m → (r * u + a) % m ≡ (r * v + a) % m → u ≡ v
step_injective m r a u v i hu hv e = below_same m u v hu hv (cancel_mul m r u v i (cancel_add m a (r * u) (r * v) (omega arith) e))

-- after one value, a step tells counts apart
pub step_tells : (m r p a b : ℕ) → a < m → b < m → (r * p + a) % m ≡ (r * p + b) % m → a ≡ b
step_tells m r p a b ha hb e = below_same m a b ha hb (cancel_add_left m (r * p) a b (omega arith) e)

-- two steps are one, by the number that the two counts make
pub two_steps : (m r p a b : ℕ) → (r * ((r * p + a) % m) + b) % m ≡ (r * (r * p) + (r * a + b)) % m
two_steps m r p a b =
    let e : r * (r * p + a) + b ≡ r * (r * p) + (r * a + b) = omega arith in
    same_add m b (r * ((r * p + a) % m)) (r * (r * p + a)) (mul-mod_second r (r * p + a) m) ∙ at m e

-- and two steps tell their sequence, since the radix less one has an inverse: r a + b and r b + a differ by (r - 1) (a - b)
pub sequence_tells : (m r p a b : ℕ) → Inverse m (r - 1) → a < m → b < m → (r * ((r * p + a) % m) + b) % m ≡ (r * ((r * p + b) % m) + a) % m → a ≡ b
sequence_tells m zero p a b (s, i) ha hb e = let z = rw (zero-mul, zero-mod) at i in omega arith
sequence_tells m (suc k) p a b i ha hb e =
    let r = suc k in
    let rest = r * (r * p) + (a + b) in
    let left : r * (r * p) + (r * a + b) ≡ k * a + rest = omega arith in
    let right : r * (r * p) + (r * b + a) ≡ k * b + rest = omega arith in
    let same : (k * a + rest) % m ≡ (k * b + rest) % m = sym (two_steps m r p a b ∙ at m left) ∙ e ∙ two_steps m r p b a ∙ at m right in
    let one : suc k - 1 ≡ k = omega arith in
    below_same m a b ha hb (cancel_mul m k a b (rw one at i) (cancel_add m rest (k * a) (k * b) (omega arith) same))

-- y and what m lacks of its remainder come to a multiple of m
rounded : (m y : ℕ) → 0 < m → y + (m - y % m) ≡ m * (y / m + 1)
rounded m y h = omega (arith, div-add-mod y m, mod-lt y h)

made_up : (m y t : ℕ) → 0 < m → (y + (t + (m - y % m)) % m) % m ≡ t % m
made_up m y t h =
    let e : y + (t + (m - y % m)) ≡ t + m * (y / m + 1) = omega (arith, rounded m y h) in
    add-mod-mod y (t + (m - y % m)) m ∙ at m e ∙ add-mul-mod_self_left t m (y / m + 1)

-- a number among m, from s on, that takes x to the remainder t
pub record KeyFor (m s x t k : ℕ) : Type 0 where
  pub low : s ≤ k
  pub high : k < s + m
  pub good : (x + k) % m ≡ t

-- among m numbers in a row one is the key
pub key_from_lem : (m s x t : ℕ) → t < m → KeyFor m s x t (key_from m s x t)
key_from_lem m s x t h =
    let y = x + s in
    let w = (t + (m - y % m)) % m in
    let pos : 0 < m = omega arith in
    let bound : w < m = mod-lt (t + (m - y % m)) pos in
    let group : x + (s + w) ≡ y + w = omega arith in
    record { low = omega arith; high = omega arith; good = at m group ∙ made_up m y t pos ∙ mod-eq_of_lt h }

-- and no other is
pub key_only : (m s x t k j : ℕ) → KeyFor m s x t k → KeyFor m s x t j → k ≡ j
key_only m s x t k j p q =
    let lo = p.low in
    let hi = p.high in
    let lo' = q.low in
    let hi' = q.high in
    let split : x + k ≡ (x + s) + (k - s) = omega arith in
    let split' : x + j ≡ (x + s) + (j - s) = omega arith in
    let same : ((x + s) + (k - s)) % m ≡ ((x + s) + (j - s)) % m = sym (at m split) ∙ p.good ∙ sym q.good ∙ at m split' in
    let d : k - s ≡ j - s = below_same m (k - s) (j - s) (omega arith) (omega arith) (cancel_add_left m (x + s) (k - s) (j - s) (omega arith) same) in
    omega arith
