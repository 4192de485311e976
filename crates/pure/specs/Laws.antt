-- The pure systems keep what an engine keeps: one argument over modulus, radix, alphabets and the start of the key range.
use Rattle.std.specs.Prelude.{◌≡◌, ℕ, ◌+◌, ◌*◌, ◌%◌, ◌<◌, ◌≤◌, Bool, true, cond, length, Option, refl}
use Rattle.std.proofs.Common.{ap, mod-lt, arith}
use Rattle.std.proofs.lemmas.Bool.{lt-ltb, ltb-true}
use Rattle.std.specs.Option.{unwrap_or}
use Rattle.alphabet.specs.Characters.{Characters}
use Rattle.alphabet.specs.Counts.{size, count_of}
use Rattle.scheme.specs.Meaning.{Step}
use Rattle.scheme.specs.Rules.{Keeps}
use Rattle.keys.specs.KeyRanges.{keys_of, takes_any, count_in}
use Rattle.keys.specs.Remainders.{shifted, key_after}
use Rattle.keys.proofs.Congruent.{Inverse}
use Rattle.keys.proofs.Keyed.{KeyFor, key_from_lem, step_injective}
use Rattle.keys.proofs.Numbered.{Numbered, keeps_numbered}
use Rattle.keys.proofs.Numbers.{Room, symbols_length, symbols_characters}
use Rattle.keys.proofs.Widths.{takes_wide, in_key_lem}
use Rattle.keys.proofs.Shifts.{ByRadix, Shifts, shifts_within, shifts_good}
use Rattle.pure.specs.Systems.{parameters_of, count_at, step_of, rules_by, rules_of}
use Rattle.pure.specs.declared.systems.Parameters.{Parameters}
use Rattle.pure.specs.declared.systems.Pure.{Pure}
use Rattle.pure.specs.declared.systems.Pure.TheVariants.{Mod11R2, Mod37R2, Mod97R10, Mod661R26, Mod1271R36}

-- what the argument asks of the parameters
pub record Sound (p : Parameters) : Type 0 where
  pub inverse : Inverse p.modulus p.radix
  pub above : 1 < p.modulus
  pub many : p.key.many ≡ p.modulus
  pub room : Room p.key
  pub radix : ByRadix p.key.length (size p.key.alphabet) p.radix

pub sound : (s : Pure) → Sound (parameters_of s)
sound Mod11R2 = record { inverse = (6, refl); above = omega arith; many = refl; room = omega arith; radix = tt }
sound Mod37R2 = record { inverse = (19, refl); above = omega arith; many = refl; room = omega arith; radix = tt }
sound Mod97R10 = record { inverse = (68, refl); above = omega arith; many = refl; room = omega arith; radix = refl }
sound Mod661R26 = record { inverse = (178, refl); above = omega arith; many = refl; room = omega arith; radix = refl }
sound Mod1271R36 = record { inverse = (459, refl); above = omega arith; many = refl; room = omega arith; radix = refl }

-- what a character counts in a step, and the next running value by it
abbrev step_count : Parameters → ℕ → ℕ → ℕ → ℕ
step_count p w k c = unwrap_or (count_at p w k c) 0

abbrev next_of : Parameters → ℕ → ℕ → ℕ → ℕ → ℕ
next_of p w k v c = step_of p v (step_count p w k c)

module _ (p : Parameters) (h : Sound p) where
  is_value_lem : (w k v c : ℕ) → (rules_by p).is_value (next_of p w k v c) ≡ true
  is_value_lem w k v c = lt-ltb _ _ (mod-lt _ (omega (arith, h.above)))

  injective : (w k c u v : ℕ) → Step w k c → (rules_by p).is_value u ≡ true → (rules_by p).is_value v ≡ true → next_of p w k u c ≡ next_of p w k v c → u ≡ v
  injective w k c u v s a b e = step_injective p.modulus p.radix (step_count p w k c) u v h.inverse (ltb-true _ _ a) (ltb-true _ _ b) e

  count_in_key : (w k c : ℕ) → takes_any p.key w ≡ true → w < k + keys_of p.key.length → k ≤ w → count_at p w k c ≡ count_of p.key.alphabet c
  count_in_key w k c t lo hi = ap (λ (b : Bool). count_of (cond b p.key.alphabet p.body) c) (in_key_lem p.key w k t lo hi)

  step_in_key : (w k v c : ℕ) → takes_any p.key w ≡ true → w < k + keys_of p.key.length → k ≤ w → next_of p w k v c ≡ (p.radix * v + count_in p.key c) % p.modulus
  step_in_key w k v c t lo hi = ap (λ (o : Option ℕ). (p.radix * v + unwrap_or o 0) % p.modulus) (count_in_key w k c t lo hi)

  shifts : Shifts (rules_by p) p.key p.modulus p.radix
  shifts = record { wide = λ w t. (takes_wide p.key w t).0; many = h.many; radix = h.radix; step = step_in_key }

  abbrev key_number_lem : ℕ → ℕ
  key_number_lem = key_after p.key p.modulus p.radix 1

  numbered : Numbered (rules_by p) p.key key_number_lem
  numbered = record {
    keys = refl;
    room = h.room;
    count = count_in_key;
    range = λ ks. refl;
    key = λ w v. refl;
    within = λ v a. shifts_within (rules_by p) p.key p.modulus p.radix shifts 1 h.above v;
    good = λ w v ks t a len lo hi. shifts_good (rules_by p) p.key p.modulus p.radix shifts 1 h.above w v ks t len lo hi;
  }

  pub keeps_by : Keeps (rules_by p)
  keeps_by = keeps_numbered (rules_by p) p.key key_number_lem numbered (takes_wide p.key) (lt-ltb _ _ (omega (arith, h.above))) (λ w k v c a. is_value_lem w k v c) injective

-- the key that belongs to a number before it is in range, and makes the last running value 1
pub key_for : (p : Parameters) → Sound p → (v : ℕ) → KeyFor p.modulus p.key.least (shifted p.key.length p.radix v) 1 (key_after p.key p.modulus p.radix 1 v)
key_for p h v = key_from_lem p.modulus p.key.least (shifted p.key.length p.radix v) 1 h.above

-- of any sound parameters, whatever the width and the number before it, the key has its length and is made of characters
pub key_long_by : (p : Parameters) (w v : ℕ) → length ((rules_by p).key w v) ≡ (rules_by p).keys
key_long_by p w v = symbols_length p.key p.key.length _

pub key_written_by : (p : Parameters) → Sound p → (w v : ℕ) → Characters ((rules_by p).key w v)
key_written_by p h w v = symbols_characters p.key p.key.length (p.key.least + p.key.many) (key_number_lem p h v) h.room (shifts_within (rules_by p) p.key p.modulus p.radix (shifts p h) 1 h.above v).1

pub key_long : (s : Pure) (w v : ℕ) → length ((rules_of s).key w v) ≡ (rules_of s).keys
key_long s = key_long_by (parameters_of s)

pub key_written : (s : Pure) (w v : ℕ) → Characters ((rules_of s).key w v)
key_written s = key_written_by (parameters_of s) (sound s)

pub keeps : (s : Pure) → Keeps (rules_of s)
keeps s = keeps_by (parameters_of s) (sound s)
