-- Remainders by one modulus: what may be added, multiplied and cancelled.
use Rattle.std.proofs.Common.{◌≡◌, ℕ, zero, suc, ◌+◌, ◌*◌, ◌/◌, ◌%◌, ◌<◌, sym, ap, ◌∙◌, mod-eq_of_lt, add_comm, arith}
use native.Mathlib.Nat.{mod-add-mod, add-mul-mod_self_left, div-add-mod}
use Rattle.std.proofs.lemmas.Nat.{mul-mod_second}

-- r times some number leaves 1, so that a factor r cancels
abbrev pub Inverse : ℕ → ℕ → Type 0
Inverse m r = (s : ℕ) × ((r * s) % m ≡ 1)

-- remainders that agree still agree after a factor, or a summand
pub same_mul : (m k a b : ℕ) → a % m ≡ b % m → (k * a) % m ≡ (k * b) % m
same_mul m k a b e = sym (mul-mod_second k a m) ∙ ap (λ (x : ℕ). (k * x) % m) e ∙ mul-mod_second k b m

pub same_add : (m c a b : ℕ) → a % m ≡ b % m → (a + c) % m ≡ (b + c) % m
same_add m c a b e = sym (mod-add-mod a m c) ∙ ap (λ (x : ℕ). (x + c) % m) e ∙ mod-add-mod b m c

-- c and n times c are a multiple of n + 1
undo : (n c a : ℕ) → ((a + c) + n * c) % suc n ≡ a % suc n
undo n c a =
    let e : (a + c) + n * c ≡ a + suc n * c = omega arith in
    ap (λ (x : ℕ). x % suc n) e ∙ add-mul-mod_self_left a (suc n) c

-- a summand cancels
pub cancel_add : (m c a b : ℕ) → 0 < m → (a + c) % m ≡ (b + c) % m → a % m ≡ b % m
cancel_add zero c a b h e = omega arith
cancel_add (suc n) c a b h e = sym (undo n c a) ∙ same_add (suc n) (n * c) (a + c) (b + c) e ∙ undo n c b

pub cancel_add_left : (m c a b : ℕ) → 0 < m → (c + a) % m ≡ (c + b) % m → a % m ≡ b % m
cancel_add_left m c a b h e = cancel_add m c a b h (ap (λ (x : ℕ). x % m) (add_comm a c) ∙ e ∙ ap (λ (x : ℕ). x % m) (add_comm c b))

-- a factor with an inverse cancels
through : (m r s u : ℕ) → (r * s) % m ≡ 1 → (s * (r * u)) % m ≡ u % m
through m r s u i =
    let q = (r * s) / m in
    let e : s * (r * u) ≡ u + m * (q * u) = omega (arith, ap (λ (x : ℕ). x * u) (sym (div-add-mod (r * s) m)), ap (λ (x : ℕ). x * u) i) in
    ap (λ (x : ℕ). x % m) e ∙ add-mul-mod_self_left u m (q * u)

pub cancel_mul : (m r u v : ℕ) → Inverse m r → (r * u) % m ≡ (r * v) % m → u % m ≡ v % m
cancel_mul m r u v (s, i) e = sym (through m r s u i) ∙ same_mul m s (r * u) (r * v) e ∙ through m r s v i

pub below_same : (m a b : ℕ) → a < m → b < m → a % m ≡ b % m → a ≡ b
below_same m a b ha hb e = sym (mod-eq_of_lt ha) ∙ e ∙ mod-eq_of_lt hb
