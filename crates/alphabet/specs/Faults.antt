-- Refusals by number, and faults.
--   number_of    the number of a refusal, as it is printed
--   fault_at     a fault by its refusal, layer and place
--   of_no_layer  a refusal of the whole text: layer 0, place 0
--   printed      a fault as it is printed: number, layer and place
--   first        the first fault of a list of possible ones: the order of the list is the order of refusal
--   answer       what a call answers: good where there is no fault, else the fault
use Rattle.std.specs.Prelude.{ℕ, Bool, cond, List, [], ◌∷◌, ◌++◌, decimal, Some, None, Ok, Err, Option, Result}
use Rattle.alphabet.specs.declared.fault.Refusal.{Refusal}
use Rattle.alphabet.specs.declared.fault.Refusal.TheVariants.{Width, Stray, Kind, Prefix, Key, Remainder, Standing, Twin, Full, Unknown, Short, Format, Unfit}
use Rattle.alphabet.specs.declared.fault.Fault.{Fault}

abbrev pub number_of : Refusal → ℕ
number_of Width = 1
number_of Stray = 2
number_of Kind = 3
number_of Prefix = 4
number_of Key = 5
number_of Remainder = 6
number_of Standing = 7
number_of Twin = 8
number_of Full = 9
number_of Unknown = 10
number_of Short = 11
number_of Format = 12
number_of Unfit = 13

abbrev pub fault_at : Refusal → ℕ → ℕ → Fault
fault_at r l p = record { refusal = r; layer = l; place = p }

abbrev pub of_no_layer : Refusal → Fault
of_no_layer r = fault_at r 0 0

-- the byte 32 is the space
abbrev pub printed : Fault → List ℕ
printed f = decimal (number_of f.refusal) ++ (32 ∷ (decimal f.layer ++ (32 ∷ decimal f.place)))

abbrev pub or_else : Option Fault → Option Fault → Option Fault
or_else None g = g
or_else (Some f) g = Some f

abbrev pub first : List (Option Fault) → Option Fault
first [] = None
first (f ∷ fs) = or_else f (first fs)

-- the fault, where the test is met
abbrev pub whenever : Bool → Fault → Option Fault
whenever b f = cond b (Some f) None

abbrev pub answer : {A : Type 0} → A → Option Fault → Result A Fault
answer a None = Ok a
answer a (Some f) = Err f
