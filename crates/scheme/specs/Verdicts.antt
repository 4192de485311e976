-- What checking a text answers.
--   Valid    the text has 1 to 34 characters, five at least if it is turned, and its reading is accepted by the scheme
--   verdict  the answer to a text: good, or the first refusal in order, with its place in the written text
use Rattle.std.specs.Prelude.{◌≡◌, ℕ, false, List, [], ◌∷◌, length, Result}
use Rattle.std.specs.Option.{option_map}
use Rattle.alphabet.specs.Faults.{of_no_layer, first, whenever, answer}
use Rattle.alphabet.specs.Readings.{reading, narrow, in_text, opening, Text}
use Rattle.alphabet.specs.declared.fault.Fault.{Fault}
use Rattle.alphabet.specs.declared.fault.Refusal.TheVariants.{Unfit}
use Rattle.alphabet.specs.declared.turn.Turn.{Turn}
use Rattle.scheme.specs.Meaning.{Meaning, Accepted}

pub record Valid {V : Type 0} (m : Meaning V) (turn : Turn) (t : List ℕ) : Type 0 where
  pub scheme : m.unfit ≡ false
  pub text : Text t
  pub wide : narrow turn (length t) ≡ false
  pub accepted : Accepted m (reading turn t)

abbrev pub verdict : {V : Type 0} → Meaning V → Turn → List ℕ → Result (Unit {0}) Fault
verdict m turn t =
    answer tt
    (first
    (whenever m.unfit (of_no_layer Unfit) ∷
    opening turn t ∷
    option_map (in_text turn (length t)) (m.fault (reading turn t)) ∷ []))
