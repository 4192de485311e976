-- The characters that numbers are written in, by their bytes.
--   is_digit, is_letter  0 to 9; A to Z, capitals alone
--   is_character         a digit, a letter or the asterisk
--   base_value           0 to 9 for digits, 10 to 35 for A to Z, 36 for the asterisk; no other byte has one
--   Characters           each byte of a list is a character
use Rattle.std.specs.Prelude.{◌≡◌, ℕ, ◌-◌, Bool, true, cond, ◌&&◌, ◌||◌, List, Some, None, Option, ◌==◌, nat_le}
use Rattle.std.specs.List.{AllByRecursion}

abbrev pub is_digit : ℕ → Bool
is_digit b = nat_le 48 b && nat_le b 57

abbrev pub is_letter : ℕ → Bool
is_letter b = nat_le 65 b && nat_le b 90

abbrev pub is_character : ℕ → Bool
is_character b = is_digit b || (is_letter b || b == 42)

abbrev pub base_value : ℕ → Option ℕ
base_value b = cond (is_digit b) (Some (b - 48)) (cond (is_letter b) (Some (b - 55)) (cond (b == 42) (Some 36) None))

abbrev pub Characters : List ℕ → Type 0
Characters bs = AllByRecursion (λ b. is_character b ≡ true) bs
