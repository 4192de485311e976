-- Engines: the single schemes that end in a key of one or more characters and count with numbers.
--   Rules      what an engine is made of
--   next_by    the next running value by a character: one that has no count where it stands steps there with count 0
--   uncounted  the first place, from k on, of a character that is not allowed there
--   key_part   the characters of the key of a reading
--   EndsInKey  a reading has a width of the engine and ends in a key in range
--   by_reading  the same engine by whole readings, of which ByReading.antt speaks
--   misfit     the first fault of a reading that is not fit: width, kind, key out of range
--   body       the characters before the key; `before` is the running value after them, `last` the one after the key
--   filled     a reading with its key filled in
--   single     the meaning of an engine as a scheme
--   key_in     a slice after a key is written into it: one of another length than the key's stays as it is
--   KeyOf      a key that belongs to a running value: allowed in its places, in range, and it makes the last running value good
--   Sealed     what filling the key promises of the reading afterwards
--   Keeps      what the rules of an engine keep, from which the laws of a scheme follow
use Rattle.std.specs.Prelude.{◌≡◌, ℕ, ◌+◌, ◌-◌, ◌<◌, ◌≤◌, Bool, true, List, ◌++◌, length, drop, None, Option, nat_eq, if◌then◌else◌}
use Rattle.std.specs.Option.{unwrap_or}
use Rattle.alphabet.specs.Characters.{Characters}
use Rattle.alphabet.specs.declared.fault.Fault.{Fault}
use Rattle.scheme.specs.Meaning.{Meaning, Accepted, Step, run_by}
use Rattle.scheme.specs.ByReading.{ReadingRules, uncounted_by, misfit_of, body_of, before_of, last_of, filled_of, single_of}

pub record Rules : Type 0 where
  -- whether the engine has a width
  pub takes : ℕ → Bool
  -- how many characters its key has; they stand last
  pub keys : ℕ
  -- what a character counts, by the width, the place and the character; none where it is not allowed
  pub count : ℕ → ℕ → ℕ → Option ℕ
  -- whether a key is in its range, by its characters
  pub in_range : List ℕ → Bool
  -- the numbers among which the running values are: the start value is one, and steps lead from these to these alone
  pub is_value : ℕ → Bool
  pub start : ℕ
  pub good : ℕ
  -- the next running value, from the width, the place, the running value and the count
  pub step : ℕ → ℕ → ℕ → ℕ → ℕ
  -- the key, from the width and the running value before it
  pub key : ℕ → ℕ → List ℕ

abbrev pub next_by : Rules → ℕ → ℕ → ℕ → ℕ → ℕ
next_by e w k v c = e.step w k v (unwrap_or (e.count w k c) 0)

abbrev pub uncounted : Rules → ℕ → ℕ → List ℕ → Option ℕ
uncounted e = uncounted_by e.count

-- the characters of the key
abbrev pub key_part : Rules → List ℕ → List ℕ
key_part e r = drop (length r - e.keys) r

-- a reading is a body with a key behind it that is in range, at a width that the engine has
pub record EndsInKey (e : Rules) (r : List ℕ) : Type 0 where
  pub front : List ℕ
  pub key : List ℕ
  pub whole : r ≡ front ++ key
  pub width : e.takes (length r) ≡ true
  pub long : length key ≡ e.keys
  pub in_range : e.in_range key ≡ true

-- the engine by whole readings
abbrev pub by_reading : Rules → ReadingRules
by_reading e = record {
  takes = e.takes;
  keys = e.keys;
  count = e.count;
  in_range = λ r. e.in_range (key_part e r);
  start = e.start;
  good = e.good;
  next = next_by e;
  key = e.key;
}

-- of the engine by whole readings
abbrev pub misfit : Rules → List ℕ → Option Fault
misfit e = misfit_of (by_reading e)

abbrev pub body : Rules → List ℕ → List ℕ
body e = body_of (by_reading e)

abbrev pub before : Rules → List ℕ → ℕ
before e = before_of (by_reading e)

abbrev pub last : Rules → List ℕ → ℕ
last e = last_of (by_reading e)

abbrev pub filled : Rules → List ℕ → List ℕ
filled e = filled_of (by_reading e)

abbrev pub single : Rules → Meaning ℕ
single e = single_of (by_reading e)

abbrev pub key_in : ℕ → List ℕ → List ℕ → List ℕ
key_in n key slice = if nat_eq (length slice) n then key else slice

pub record KeyOf (e : Rules) (w v : ℕ) (ks : List ℕ) : Type 0 where
  pub long : length ks ≡ e.keys
  pub counted : uncounted e w (1 + (w - e.keys)) ks ≡ None
  pub in_range : e.in_range ks ≡ true
  pub good : run_by (next_by e) w (1 + (w - e.keys)) v ks ≡ e.good

pub record Keeps (e : Rules) : Type 0 where
  pub keyed : 1 ≤ e.keys
  -- a width has room for the key and a character before it
  pub wide : (w : ℕ) → e.takes w ≡ true → (e.keys < w) × (w ≤ 34)
  -- running values lead to running values, whatever the character, and different ones to different ones
  pub started : e.is_value e.start ≡ true
  pub kept : (w k v c : ℕ) → e.is_value v ≡ true → e.is_value (next_by e w k v c) ≡ true
  pub injective : (w k c u v : ℕ) → Step w k c → e.is_value u ≡ true → e.is_value v ≡ true → next_by e w k u c ≡ next_by e w k v c → u ≡ v
  -- each running value has one key and no other
  pub key_characters : (w v : ℕ) → e.takes w ≡ true → e.is_value v ≡ true → Characters (e.key w v)
  pub key_good : (w v : ℕ) → e.takes w ≡ true → e.is_value v ≡ true → KeyOf e w v (e.key w v)
  pub key_only : (w v : ℕ) (ks : List ℕ) → e.takes w ≡ true → e.is_value v ≡ true → KeyOf e w v ks → ks ≡ e.key w v

-- At a width that the engine has, the reading ends in its key, whatever stands before it, and the last running value is good;
-- where the characters before the key are allowed too, the reading is accepted.
pub record Sealed (e : Rules) (r s : List ℕ) : Type 0 where
  pub keyed : e.takes (length r) ≡ true → KeyOf e (length r) (before e r) (key_part e s)
  pub good : e.takes (length r) ≡ true → last e s ≡ e.good
  pub accepted : e.takes (length r) ≡ true → uncounted e (length r) 1 (body e r) ≡ None → Accepted (single e) s
