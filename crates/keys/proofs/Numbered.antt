-- Engines whose keys are the keys of a range: what such an engine shows of its steps, and that it keeps what an engine keeps.
use Rattle.std.proofs.Common.{◌≡◌, ℕ, ◌+◌, ◌-◌, ◌<◌, ◌≤◌, Bool, true, cond, ◌↔◌, List, [], ◌∷◌, length, is_some, Some, None, sym, refl, ap, ◌∙◌, subst, arith}
use Rattle.std.proofs.lemmas.Bool.{and_from, and_parts, eq-eqb, le-leb, lt-ltb, leb-true, ltb-true}
use Rattle.alphabet.specs.Characters.{Characters}
use Rattle.alphabet.specs.Counts.{count_of}
use Rattle.scheme.specs.Meaning.{Step, run_by}
use Rattle.scheme.specs.Rules.{Rules, next_by, uncounted, KeyOf, Keeps}
use Rattle.scheme.specs.Searches.{first_allowed}
use Rattle.keys.specs.KeyRanges.{keys_of, number_of, holds_key, symbols_of}
use Rattle.keys.specs.declared.range.KeyLength.{KeyLength}
use Rattle.keys.specs.declared.range.KeyLength.TheVariants.{One, Two}
use Rattle.keys.specs.declared.range.KeyRange.{KeyRange}
use Rattle.keys.proofs.Numbers.{Room, Allowed, symbols_length, symbols_characters, symbols_allowed, symbols_number, number_symbols}

-- `number` gives the key of a running value, by its number
pub record Numbered (e : Rules) (r : KeyRange) (number : ℕ → ℕ) : Type 0 where
  pub keys : e.keys ≡ keys_of r.length
  pub room : Room r
  -- the places of the key take the characters of the key
  pub count : (w k c : ℕ) → e.takes w ≡ true → w < k + keys_of r.length → k ≤ w → e.count w k c ≡ count_of r.alphabet c
  pub range : (ks : List ℕ) → e.in_range ks ≡ holds_key r ks
  pub key : (w v : ℕ) → e.key w v ≡ symbols_of r (number v)
  pub within : (v : ℕ) → e.is_value v ≡ true → (r.least ≤ number v) × (number v < r.least + r.many)
  -- among the keys of the range, the one with that number and no other makes the last running value good
  pub good : (w v : ℕ) (ks : List ℕ) → e.takes w ≡ true → e.is_value v ≡ true → length ks ≡ keys_of r.length → r.least ≤ number_of r ks → number_of r ks < r.least + r.many →
      (run_by (next_by e) w (1 + (w - keys_of r.length)) v ks ≡ e.good) ↔ (number_of r ks ≡ number v)

module _ (e : Rules) (r : KeyRange) (number : ℕ → ℕ) (n : Numbered e r number) where
  -- the characters of a key are allowed where they stand exactly where they are of its alphabet
  counted_allowed : (w k : ℕ) (ks : List ℕ) → e.takes w ≡ true → w < k + keys_of r.length → k + length ks ≤ w + 1 → uncounted e w k ks ≡ None → Allowed r ks
  counted_allowed w k [] t lo hi u = tt
  counted_allowed w k (c ∷ ks) t lo hi u =
      let h = first_allowed (is_some (e.count w k c)) k (uncounted e w (k + 1) ks) u in
      (sym (ap is_some (n.count w k c t lo (omega arith))) ∙ h.0, counted_allowed w (k + 1) ks t (omega arith) (omega arith) h.1)

  allowed_counted : (w k : ℕ) (ks : List ℕ) → e.takes w ≡ true → w < k + keys_of r.length → k + length ks ≤ w + 1 → Allowed r ks → uncounted e w k ks ≡ None
  allowed_counted w k [] t lo hi a = refl
  allowed_counted w k (c ∷ ks) t lo hi (a, b) =
      let here = ap is_some (n.count w k c t lo (omega arith)) ∙ a in
      ap (λ (x : Bool). cond x (uncounted e w (k + 1) ks) (Some k)) here ∙ allowed_counted w (k + 1) ks t (omega arith) (omega arith) b

  some_keys : (l : KeyLength) → 1 ≤ keys_of l
  some_keys One = omega arith
  some_keys Two = omega arith

  holds : (ks : List ℕ) → length ks ≡ keys_of r.length → r.least ≤ number_of r ks → number_of r ks < r.least + r.many → holds_key r ks ≡ true
  holds ks len lo hi = and_from _ _ (eq-eqb _ _ len) (and_from _ _ (le-leb _ _ lo) (lt-ltb _ _ hi))

  module _ (wide : (w : ℕ) → e.takes w ≡ true → (e.keys < w) × (w ≤ 34)) where
    -- places and lengths by the length of the range's keys
    place_of : (w v : ℕ) (ks : List ℕ) → run_by (next_by e) w (1 + (w - e.keys)) v ks ≡ run_by (next_by e) w (1 + (w - keys_of r.length)) v ks
    place_of w v ks = ap (λ (j : ℕ). run_by (next_by e) w (1 + (w - j)) v ks) n.keys

    key_good : (w v : ℕ) → e.takes w ≡ true → e.is_value v ≡ true → KeyOf e w v (e.key w v)
    key_good w v t h =
        let ks = symbols_of r (number v) in
        let within = n.within v h in
        let len = symbols_length r r.length (number v) in
        let keys = n.keys in
        let wid = (wide w t).0 in
        let is : number_of r ks ≡ number v = symbols_number r r.length (r.least + r.many) (number v) n.room within.1 refl in
        let lo : r.least ≤ number_of r ks = omega (arith, within.0) in
        let hi : number_of r ks < r.least + r.many = omega (arith, within.1) in
        let P : List ℕ → Type 0 = λ xs. KeyOf e w v xs in
        subst P (sym (n.key w v)) (record {
          long = len ∙ sym keys;
          counted = allowed_counted w (1 + (w - e.keys)) ks t (omega arith) (omega arith) (symbols_allowed r r.length (r.least + r.many) (number v) n.room within.1);
          in_range = n.range ks ∙ holds ks len lo hi;
          good = place_of w v ks ∙ (n.good w v ks t h len lo hi).1 is;
        })

    key_only : (w v : ℕ) (ks : List ℕ) → e.takes w ≡ true → e.is_value v ≡ true → KeyOf e w v ks → ks ≡ e.key w v
    key_only w v ks t h k =
        let len : length ks ≡ keys_of r.length = k.long ∙ n.keys in
        let keys = n.keys in
        let wid = (wide w t).0 in
        let allowed = counted_allowed w (1 + (w - e.keys)) ks t (omega arith) (omega arith) k.counted in
        let range = and_parts _ _ (and_parts _ _ (sym (n.range ks) ∙ k.in_range)).1 in
        let lo = leb-true _ _ range.0 in
        let hi = ltb-true _ _ range.1 in
        let is : number_of r ks ≡ number v = (n.good w v ks t h len lo hi).0 (sym (place_of w v ks) ∙ k.good) in
        number_symbols r r.length ks refl len allowed ∙ ap (symbols_of r) is ∙ sym (n.key w v)

    key_characters : (w v : ℕ) → e.takes w ≡ true → e.is_value v ≡ true → Characters (e.key w v)
    key_characters w v t h =
        let P : List ℕ → Type 0 = λ xs. Characters xs in
        subst P (sym (n.key w v)) (symbols_characters r r.length (r.least + r.many) (number v) n.room (n.within v h).1)

    pub keeps_numbered : e.is_value e.start ≡ true → ((w k v c : ℕ) → e.is_value v ≡ true → e.is_value (next_by e w k v c) ≡ true) →
        ((w k c u v : ℕ) → Step w k c → e.is_value u ≡ true → e.is_value v ≡ true → next_by e w k u c ≡ next_by e w k v c → u ≡ v) → Keeps e
    keeps_numbered started kept injective =
        let some = some_keys r.length in
        let keys = n.keys in
        record {
          keyed = omega arith;
          wide = wide;
          started = started;
          kept = kept;
          injective = injective;
          key_characters = key_characters;
          key_good = key_good;
          key_only = key_only;
        }
