-- Which slips an engine lets pass, by a list in its own terms.
--   SlipRule  what a list says of a slip: by the running value before it, the first character changed, and the character
--             that replaces it or changes places with it
--   Listed    a slip that the two rules of a list have, the one for replacements and the one for exchanges
--   LetsPass  of a reading that the engine accepts, a slip is accepted exactly where it is fit and the list has it
use Rattle.std.specs.Prelude.{◌≡◌, ℕ, true, ◌↔◌, List, ◌∷◌, ◌++◌, length}
use Rattle.alphabet.specs.Readings.{Text}
use Rattle.alphabet.specs.Slips.{Slip, replaced, exchanged}
use Rattle.scheme.specs.Meaning.{Accepted, run_by}
use Rattle.scheme.specs.Rules.{Rules, next_by, single}

abbrev pub SlipRule : Type 1
SlipRule = ℕ → ℕ → ℕ → Type 0

-- a list that has no slip
abbrev pub Never : SlipRule
Never p a b = ⊥

abbrev pub Listed : Rules → SlipRule → SlipRule → {x y : List ℕ} → Slip x y → Type 0
Listed e R X (replaced xs a b ys c d) = R (run_by (next_by e) (length (xs ++ (a ∷ ys))) 1 e.start xs) a b
Listed e R X (exchanged xs a b ys d) = X (run_by (next_by e) (length (xs ++ (a ∷ b ∷ ys))) 1 e.start xs) a b

abbrev pub LetsPass : Rules → SlipRule → SlipRule → Type 0
LetsPass e R X = (x y : List ℕ) (s : Slip x y) → Text x → Accepted (single e) x → Accepted (single e) y ↔ (((single e).fit y ≡ true) × Listed e R X s)
