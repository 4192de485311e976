-- What a scheme means, and what its author shows.
--   Meaning   all that is known of a scheme, in one value; V is the type of its running values
--   run_by    the running value after some characters, by a rule for the next one
--   run       the running value after the last character of a reading
--   Accepted  a reading that is fit and whose last running value is the good one
--   Step      a place of a reading, with a character there
--   Running   the running values: the start value, and what steps lead to from it
--   Agree     two readings of one width that differ at most at key places
--   FaultOf   what a scheme may say of a reading that it does not accept
--   Lawful    the laws that every scheme keeps, and all that is used of a scheme elsewhere
use Rattle.std.specs.Prelude.{◌≡◌, ℕ, ◌+◌, ◌-◌, ◌<◌, ◌≤◌, Bool, true, false, ◌⊎◌, List, [], ◌∷◌, length, Some, None, Option, slice_index}
use Rattle.alphabet.specs.Characters.{is_character}
use Rattle.alphabet.specs.Faults.{number_of}
use Rattle.alphabet.specs.Readings.{Text}
use Rattle.alphabet.specs.declared.fault.Fault.{Fault}

pub record Meaning (V : Type 0) : Type 0 where
  -- whether it is no scheme at all, as some piles are; a single scheme always is one
  pub unfit : Bool
  -- how many layers it has
  pub layers : ℕ
  -- the running value before the first character
  pub start : V
  -- the one last running value that is good
  pub good : V
  -- the next running value, from the width, the place, the running value and the character
  pub next : ℕ → ℕ → V → ℕ → V
  -- whether a reading is fit
  pub fit : List ℕ → Bool
  -- the first fault of a reading, where it is not accepted
  pub fault : List ℕ → Option Fault
  -- whether a place is a key place, by the width alone
  pub is_key : ℕ → ℕ → Bool
  -- how many last places hold every key place, at every width
  pub reach : ℕ
  -- the reading with its key places filled
  pub keyed : List ℕ → List ℕ

-- the running value after some characters by a rule for the next one; the first of them stands at place k of width w
abbrev pub run_by : {V : Type 0} → (ℕ → ℕ → V → ℕ → V) → ℕ → ℕ → V → List ℕ → V
run_by next w k v [] = v
run_by next w k v (c ∷ cs) = run_by next w (k + 1) (next w k v c) cs

abbrev pub run_from : {V : Type 0} → Meaning V → ℕ → ℕ → V → List ℕ → V
run_from m w k v cs = run_by m.next w k v cs

abbrev pub run : {V : Type 0} → Meaning V → List ℕ → V
run m r = run_from m (length r) 1 m.start r

pub record Accepted {V : Type 0} (m : Meaning V) (r : List ℕ) : Type 0 where
  pub fit : m.fit r ≡ true
  pub good : run m r ≡ m.good

-- a place of a reading, with a character there
pub record Step (w k c : ℕ) : Type 0 where
  pub first : 1 ≤ k
  pub last : k ≤ w
  pub widest : w ≤ 34
  pub character : is_character c ≡ true

pub data Running {V : Type 0} (m : Meaning V) : V → Type 0 where
  at_start : Running m m.start
  stepped : {v : V} → Running m v → (w k c : ℕ) → Step w k c → Running m (m.next w k v c)

pub record Agree {V : Type 0} (m : Meaning V) (x y : List ℕ) : Type 0 where
  pub width : length x ≡ length y
  pub same : (k : ℕ) → 1 ≤ k → k ≤ length x → m.is_key (length x) k ≡ false → slice_index x (k - 1) ≡ slice_index y (k - 1)

-- the numbers of the refusals that a layer may answer
pub data OfLayer : ℕ → Type 0 where
  width : OfLayer 1
  kind : OfLayer 3
  prefix : OfLayer 4
  key : OfLayer 5
  remainder : OfLayer 6

pub record FaultOf {V : Type 0} (m : Meaning V) (r : List ℕ) (f : Fault) : Type 0 where
  pub refusal : OfLayer (number_of f.refusal)
  pub outermost : 1 ≤ f.layer
  pub innermost : f.layer ≤ m.layers
  -- 0 for no place, or a place of the reading; where the reading is shorter than five also the next, which it lacks
  pub place : (f.place ≤ length r) ⊎ ((length r < 5) × (f.place ≡ length r + 1))

pub record Lawful {V : Type 0} (m : Meaning V) : Type 0 where
  pub layered : 1 ≤ m.layers
  -- a reading is accepted exactly where it has no fault
  pub sound : (r : List ℕ) → Text r → m.fault r ≡ None → Accepted m r
  pub complete : (r : List ℕ) → Text r → Accepted m r → m.fault r ≡ None
  pub faults : (r : List ℕ) (f : Fault) → Text r → m.fault r ≡ Some f → FaultOf m r f
  -- at the same width, place and character, different running values have different next values
  pub injective : (w k c : ℕ) (u v : V) → Step w k c → Running m u → Running m v → m.next w k u c ≡ m.next w k v c → u ≡ v
  -- the key places are places of the reading, among its last ones
  pub places : (w k : ℕ) → m.is_key w k ≡ true → (1 ≤ k) × (k ≤ w) × (w < k + m.reach)
  -- keying fills key places with characters, and leaves the width and every other place
  pub characters : (r : List ℕ) → Text r → Text (m.keyed r)
  pub others : (r : List ℕ) → Agree m r (m.keyed r)
  -- at most one accepted reading agrees with a given one off the key places, and keying makes it
  pub one_key : (x y : List ℕ) → Text x → Text y → Accepted m y → Agree m x y → m.keyed x ≡ y
