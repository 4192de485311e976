-- Which slips a hybrid system lets pass: no replacement, and the exchanges at the halves of M.
--   Halves       two numbers are M / 2 and M / 2 + 1, in some order
--   Exchanges    the exchanges that pass: running value + count, by remainder M with M for 0, are the halves
--   HybridSlips  of an accepted reading, exactly these slips are accepted where they are fit
use Rattle.std.specs.Prelude.{◌≡◌, ℕ, ◌+◌, ◌/◌, ◌⊎◌}
use Rattle.scheme.specs.Lists.{SlipRule, Never, LetsPass}
use Rattle.keys.specs.KeyRanges.{count_in}
use Rattle.hybrid.specs.Systems.{modulus_of, range_of, full, rules_of}
use Rattle.hybrid.specs.declared.system.Hybrid.{Hybrid}

abbrev pub Halves : ℕ → ℕ → ℕ → Type 0
Halves M x y = ((x ≡ M / 2) × (y ≡ M / 2 + 1)) ⊎ ((x ≡ M / 2 + 1) × (y ≡ M / 2))

abbrev pub Exchanges : Hybrid → SlipRule
Exchanges h p a b = Halves (modulus_of h) (full (modulus_of h) (p + count_in (range_of h) a)) (full (modulus_of h) (p + count_in (range_of h) b))

abbrev pub HybridSlips : Hybrid → Type 0
HybridSlips h = LetsPass (rules_of h) Never (Exchanges h)
