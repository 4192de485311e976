-- The arithmetic of a step by its count: 10 and 100 have inverses by 97, and what two counts change.
use Rattle.std.specs.Prelude.{◌≡◌, ℕ, ◌+◌, ◌*◌, ◌%◌, ◌<◌, ◌≤◌, ◌≢◌, ◌⊎◌}
use Rattle.std.proofs.Common.{arith}
use Rattle.std.proofs.lemmas.Bool.Decides.{nat_tests}
use Rattle.letter.specs.Form.{step_by}

pub step_below : (v x : ℕ) → step_by v x < 97
step_below v x = grind (arith, nat_tests)

pub step_injective : (x u v : ℕ) → u < 97 → v < 97 → step_by u x ≡ step_by v x → u ≡ v
step_injective x u v hu hv e = grind (arith, nat_tests)

-- a digit and a letter, by their counts, that stand for each other after p
pub record Stands (p d v : ℕ) : Type 0 where
  pub digit : d < 10
  pub letter : 10 ≤ v
  pub same : (90 * p + v) % 97 ≡ d % 97

pub step_replaced : (p x y : ℕ) → x < 36 → y < 36 → x ≢ y → step_by p x ≡ step_by p y → Stands p x y ⊎ Stands p y x
step_replaced p x y hx hy ne e = grind (arith, nat_tests)

pub step_stands : (p d v : ℕ) → Stands p d v → step_by p d ≡ step_by p v
step_stands p d v s = grind (arith, nat_tests)

-- a letter and a digit, by their counts: B with 1, M with 2, X with 3
abbrev pub Paired : ℕ → ℕ → Type 0
Paired v d = ((v ≡ 11) × (d ≡ 1)) ⊎ (((v ≡ 22) × (d ≡ 2)) ⊎ ((v ≡ 33) × (d ≡ 3)))

pub steps_exchanged : (p x y : ℕ) → x < 36 → y < 36 → x ≢ y → step_by (step_by p x) y ≡ step_by (step_by p y) x → Paired x y ⊎ Paired y x
steps_exchanged p x y hx hy ne e = grind (arith, nat_tests)

pub steps_paired : (p x y : ℕ) → Paired x y → step_by (step_by p x) y ≡ step_by (step_by p y) x
steps_paired p x y h = grind (arith, nat_tests)
