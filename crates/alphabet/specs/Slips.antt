-- Slips: the mistakes that a typist makes.
--   Slip x y      y is x with one character replaced by another, or with two unequal neighbours exchanged.
--                 Said of texts it is a slip of a text, said of readings a slip of a reading.
--   last_changed  the last place, counted from 1, at which the two differ
use Rattle.std.specs.Prelude.{◌≡◌, ℕ, ◌+◌, true, ◌≢◌, List, ◌∷◌, ◌++◌, length}
use Rattle.alphabet.specs.Characters.{is_character}

pub data Slip : List ℕ → List ℕ → Type 0 where
  replaced : (xs : List ℕ) (a b : ℕ) (ys : List ℕ) → is_character b ≡ true → a ≢ b → Slip (xs ++ (a ∷ ys)) (xs ++ (b ∷ ys))
  exchanged : (xs : List ℕ) (a b : ℕ) (ys : List ℕ) → a ≢ b → Slip (xs ++ (a ∷ b ∷ ys)) (xs ++ (b ∷ a ∷ ys))

abbrev pub last_changed : {x y : List ℕ} → Slip x y → ℕ
last_changed (replaced xs a b ys c d) = length xs + 1
last_changed (exchanged xs a b ys d) = length xs + 2
