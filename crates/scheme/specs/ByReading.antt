-- Engines by whole readings: the step is said of the character, and the range of the reading that a key ends. That is more than
-- `Rules` can say, by which the trait `Engine` goes; `by_reading` of Rules.antt makes one of these of those.
--   ReadingRules   what such an engine is made of
--   uncounted_by   the first place, from k on, of a character that is not allowed there
--   misfit_of      the first fault of a reading that is not fit: width, kind, key out of range
--   body_of        the characters before the key; `before_of` is the running value after them, `last_of` the one after the key
--   filled_of      a reading with its key filled in
--   single_of      the meaning of such an engine as a scheme
--   ReadingKey     what a reading has whose key belongs to it: allowed characters in the key, in range, the last running value good
--   ReadingKeeps   what the rules keep, from which the laws of a scheme follow
--   ReadingSealed  what filling the key promises of the reading afterwards
use Rattle.std.specs.Prelude.{◌≡◌, ℕ, ◌+◌, ◌-◌, ◌<◌, ◌≤◌, Bool, true, false, cond, not, ◌&&◌, List, [], ◌∷◌, ◌++◌, length, take, drop, is_some, Some, None, Option, ◌==◌, nat_le, nat_lt}
use Rattle.std.specs.Option.{option_map}
use Rattle.alphabet.specs.Characters.{Characters}
use Rattle.alphabet.specs.Faults.{fault_at, first, whenever}
use Rattle.alphabet.specs.Readings.{Text}
use Rattle.alphabet.specs.declared.fault.Fault.{Fault}
use Rattle.alphabet.specs.declared.fault.Refusal.TheVariants.{Width, Kind, Key, Remainder}
use Rattle.scheme.specs.Meaning.{Meaning, Accepted, Step, Running, run_by}

pub record ReadingRules : Type 0 where
  -- whether the engine has a width
  pub takes : ℕ → Bool
  -- how many characters its key has; they stand last
  pub keys : ℕ
  -- what a character counts, by the width, the place and the character; none where it is not allowed
  pub count : ℕ → ℕ → ℕ → Option ℕ
  -- whether the key of a reading is in its range
  pub in_range : List ℕ → Bool
  pub start : ℕ
  pub good : ℕ
  -- the next running value, from the width, the place, the running value and the character
  pub next : ℕ → ℕ → ℕ → ℕ → ℕ
  -- the key, from the width and the running value before it
  pub key : ℕ → ℕ → List ℕ

abbrev pub uncounted_by : (ℕ → ℕ → ℕ → Option ℕ) → ℕ → ℕ → List ℕ → Option ℕ
uncounted_by count w k [] = None
uncounted_by count w k (c ∷ cs) = cond (is_some (count w k c)) (uncounted_by count w (k + 1) cs) (Some k)

abbrev pub misfit_of : ReadingRules → List ℕ → Option Fault
misfit_of g r =
    first
    (whenever (not (g.takes (length r))) (fault_at Width 1 0) ∷
    option_map (fault_at Kind 1) (uncounted_by g.count (length r) 1 r) ∷
    whenever (not (g.in_range r)) (fault_at Key 1 ((length r - g.keys) + 1)) ∷ [])

abbrev pub body_of : ReadingRules → List ℕ → List ℕ
body_of g r = take (length r - g.keys) r

abbrev pub before_of : ReadingRules → List ℕ → ℕ
before_of g r = run_by g.next (length r) 1 g.start (body_of g r)

abbrev pub last_of : ReadingRules → List ℕ → ℕ
last_of g r = run_by g.next (length r) 1 g.start r

abbrev pub filled_of : ReadingRules → List ℕ → List ℕ
filled_of g r = cond (g.takes (length r)) (body_of g r ++ g.key (length r) (before_of g r)) r

abbrev pub single_of : ReadingRules → Meaning ℕ
single_of g = record {
  unfit = false;
  layers = 1;
  start = g.start;
  good = g.good;
  next = g.next;
  fit = λ r. not (is_some (misfit_of g r));
  fault = λ r. first (misfit_of g r ∷ whenever (not (last_of g r == g.good)) (fault_at Remainder 1 0) ∷ []);
  is_key = λ w k. g.takes w && (nat_lt (w - g.keys) k && nat_le k w);
  reach = g.keys;
  keyed = filled_of g;
}

-- s is r with its key: the characters of the key are allowed, it is in range, and the last running value is good
pub record ReadingKey (g : ReadingRules) (r s : List ℕ) : Type 0 where
  pub counted : uncounted_by g.count (length r) (1 + (length r - g.keys)) (drop (length r - g.keys) s) ≡ None
  pub in_range : g.in_range s ≡ true
  pub good : last_of g s ≡ g.good

pub record ReadingKeeps (g : ReadingRules) : Type 0 where
  pub keyed : 1 ≤ g.keys
  -- a width has room for the key and a character before it
  pub wide : (w : ℕ) → g.takes w ≡ true → (g.keys < w) × (w ≤ 34)
  pub injective : (w k c u v : ℕ) → Step w k c → Running (single_of g) u → Running (single_of g) v → g.next w k u c ≡ g.next w k v c → u ≡ v
  -- the key of a reading has its length and is made of characters
  pub key_length : (r : List ℕ) → g.takes (length r) ≡ true → length (g.key (length r) (before_of g r)) ≡ g.keys
  pub key_characters : (r : List ℕ) → g.takes (length r) ≡ true → Characters (g.key (length r) (before_of g r))
  -- whatever stands before it, the key is in range and makes the last running value good
  pub key_good : (r : List ℕ) → g.takes (length r) ≡ true → ReadingKey g r (filled_of g r)
  -- the key of an accepted reading is the one that belongs to its running value
  pub key_only : (r : List ℕ) → Text r → misfit_of g r ≡ None → last_of g r ≡ g.good → drop (length r - g.keys) r ≡ g.key (length r) (before_of g r)

-- at a width that the engine has, the reading has its key; where the characters before it are allowed too, it is accepted
pub record ReadingSealed (g : ReadingRules) (r s : List ℕ) : Type 0 where
  pub keyed : g.takes (length r) ≡ true → ReadingKey g r s
  pub accepted : g.takes (length r) ≡ true → uncounted_by g.count (length r) 1 (body_of g r) ≡ None → Accepted (single_of g) s
