-- Texts, and the readings that schemes work on.
--   reading        a straight format reads the text itself, a turned one moves its first four characters to the end
--   place_in_text  the place in the text of a place of the reading; places are counted from 1, and 0 stands for none
--   in_text        a fault of the reading, with its place in the text
--   Text           1 to 34 characters
--   stray_at       the first place, from k on, of a byte that is no character
--   narrow         a turned text of fewer than five characters
--   characters_of  the characters that a reading in the program's hands holds
--   opening        the first refusal of a text before any scheme reads it: width, stray byte, narrow turned text
use Rattle.std.specs.Prelude.{ℕ, ◌+◌, ◌-◌, ◌≤◌, Bool, false, cond, ◌||◌, List, [], ◌∷◌, ◌++◌, length, take, drop, Some, None, Option, ◌==◌, nat_le, nat_lt}
use Rattle.std.specs.Option.{option_map}
use Rattle.alphabet.specs.Characters.{is_character, Characters}
use Rattle.alphabet.specs.Holding.{held}
use Rattle.alphabet.specs.Faults.{fault_at, of_no_layer, first, whenever}
use Rattle.alphabet.specs.declared.reading.Reading.{Reading}
use Rattle.alphabet.specs.declared.turn.Turn.{Turn}
use Rattle.alphabet.specs.declared.turn.Turn.TheVariants.{Straight, Turned}
use Rattle.alphabet.specs.declared.fault.Fault.{Fault}
use Rattle.alphabet.specs.declared.fault.Refusal.TheVariants.{Width, Stray}

abbrev pub reading : Turn → List ℕ → List ℕ
reading Straight t = t
reading Turned t = drop 4 t ++ take 4 t

-- how many characters of the text the turn moves to the end
abbrev pub moved_by : Turn → ℕ
moved_by Straight = 0
moved_by Turned = 4

abbrev pub place_in_text : Turn → ℕ → ℕ → ℕ
place_in_text Straight w k = k
place_in_text Turned w k = cond (k == 0) 0 (cond (nat_le k (w - 4)) (k + 4) (k - (w - 4)))

abbrev pub in_text : Turn → ℕ → Fault → Fault
in_text turn w f = fault_at f.refusal f.layer (place_in_text turn w f.place)

pub record Text (t : List ℕ) : Type 0 where
  pub some : 1 ≤ length t
  pub short : length t ≤ 34
  pub characters : Characters t

abbrev pub stray_at : ℕ → List ℕ → Option ℕ
stray_at k [] = None
stray_at k (b ∷ bs) = cond (is_character b) (stray_at (k + 1) bs) (Some k)

abbrev pub narrow : Turn → ℕ → Bool
narrow Straight w = false
narrow Turned w = nat_lt w 5

abbrev pub opening : Turn → List ℕ → Option Fault
opening turn t =
    first
    (whenever (length t == 0 || nat_lt 34 (length t)) (of_no_layer Width) ∷
    option_map (fault_at Stray 0) (stray_at 1 t) ∷
    whenever (narrow turn (length t)) (fault_at Width 1 0) ∷ [])

abbrev pub characters_of : Reading → List ℕ
characters_of r = held r.text
