-- When a slip of an accepted reading is accepted.
--   value_after      the running value after the first n characters of a reading
--   Passing          a reading y is fit, and x and y have the same running value after n characters
--   LawOfSlips       a slip of an accepted reading is accepted exactly where it passes at the last changed place
--   last_below       the last of the first n places at which two lists differ, 0 where none does
--   last_difference  the last place, counted from 1, at which two lists of one width differ, 0 where they do not
use Rattle.std.specs.Prelude.{◌≡◌, ℕ, zero, suc, min, true, cond, List, length, take, ◌==◌, slice_index}
use Rattle.alphabet.specs.Readings.{Text}
use Rattle.alphabet.specs.Slips.{Slip, last_changed}
use Rattle.scheme.specs.Meaning.{Meaning, Accepted, run_from}

abbrev pub value_after : {V : Type 0} → Meaning V → List ℕ → ℕ → V
value_after m r n = run_from m (length r) 1 m.start (take n r)

pub record Passing {V : Type 0} (m : Meaning V) (x y : List ℕ) (n : ℕ) : Type 0 where
  pub fit : m.fit y ≡ true
  pub value : value_after m x n ≡ value_after m y n

abbrev pub LawOfSlips : {V : Type 0} → Meaning V → Type 0
LawOfSlips m = (x y : List ℕ) (s : Slip x y) → Text x → Accepted m x → (Accepted m y → Passing m x y (last_changed s)) × (Passing m x y (last_changed s) → Accepted m y)

abbrev pub last_below : List ℕ → List ℕ → ℕ → ℕ
last_below x y zero = 0
last_below x y (suc n) = cond (slice_index x n == slice_index y n) (last_below x y n) (suc n)

abbrev pub last_difference : List ℕ → List ℕ → ℕ
last_difference x y = last_below x y (min (length x) (length y))
