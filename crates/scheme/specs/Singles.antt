-- An engine that keeps its rules is a lawful scheme. First for engines by whole readings, then for those by `Rules`, which are such.
use Rattle.std.specs.Prelude.{◌≡◌, ℕ, ◌+◌, ◌-◌, ◌<◌, ◌≤◌, Bool, true, false, cond, not, leb, List, [], ◌∷◌, ◌++◌, length, take, drop, is_some, Some, None, Option, ◌==◌, nat_le, nat_lt, slice_index, refl}
use Rattle.std.proofs.Common.{sym, ap, subst, ◌∙◌, inl, arith, length-append, length-take, length-drop, take-append-drop, get_or-take}
use borrow.Rule.Slice.PartMut.{put_mid}
use Rattle.std.specs.Option.{option_map}
use Rattle.std.proofs.ByRecursion.{All-append, All-take}
use Rattle.std.proofs.lemmas.List.{append-nil, drop_all, drop_at, take_at, ext_get_or, get_or_append_left}
use Rattle.std.proofs.lemmas.Bool.{and_left, and_right, eq-eqb}
use Rattle.std.proofs.lemmas.Bool.Decides.{nat_tests}
use Rattle.alphabet.specs.Characters.{is_character}
use Rattle.alphabet.specs.Faults.{fault_at, first, whenever}
use Rattle.alphabet.specs.Readings.{Text}
use Rattle.alphabet.specs.declared.fault.Fault.{Fault}
use Rattle.alphabet.specs.declared.fault.Refusal.TheVariants.{Width, Kind, Key, Remainder}
use Rattle.scheme.specs.Meaning.{Accepted, Agree, FaultOf, Lawful, Running, at_start, stepped, run_by, width, kind, key, remainder}
use Rattle.scheme.specs.Runs.{run-append}
use Rattle.scheme.specs.Searches.{uncounted_by-append, uncounted_front, uncounted-append}
use Rattle.scheme.specs.ByReading.{ReadingRules, uncounted_by, misfit_of, body_of, before_of, last_of, filled_of, single_of, ReadingKey, ReadingKeeps, ReadingSealed}
use Rattle.scheme.specs.Rules.{Rules, next_by, uncounted, key_part, by_reading, misfit, body, before, last, filled, single, KeyOf, Keeps, Sealed}

-- a character that is not allowed stands at one of the places
module _ (count : ℕ → ℕ → ℕ → Option ℕ) where
  stopped : (w k p : ℕ) (c : ℕ) (cs : List ℕ) → (uncounted_by count w (k + 1) cs ≡ Some p → p < (k + 1) + length cs) → (b : Bool) → cond b (uncounted_by count w (k + 1) cs) (Some k) ≡ Some p → p < k + length (c ∷ cs)
  stopped w k p c cs h true q = omega (arith, h q)
  stopped w k p c cs h false q = let s : k ≡ p = cc in omega arith

  uncounted_place : (w k p : ℕ) (cs : List ℕ) → uncounted_by count w k cs ≡ Some p → p < k + length cs
  uncounted_place w k p [] q = let z : ◌≡◌ {A = ℕ} 0 1 = cc in omega arith
  uncounted_place w k p (c ∷ cs) q = stopped w k p c cs (uncounted_place w (k + 1) p cs) (is_some (count w k c)) q

module _ (g : ReadingRules) where
  -- where a fault comes from
  data Cause (r : List ℕ) (f : Fault) : Type 0 where
    by_width : f ≡ fault_at Width 1 0 → Cause r f
    by_kind : (p : ℕ) → uncounted_by g.count (length r) 1 r ≡ Some p → f ≡ fault_at Kind 1 p → Cause r f
    by_key : f ≡ fault_at Key 1 ((length r - g.keys) + 1) → Cause r f
    by_remainder : f ≡ fault_at Remainder 1 0 → Cause r f

  cause_of : (r : List ℕ) (f : Fault) (a : Bool) (u : Option ℕ) (b c : Bool) → uncounted_by g.count (length r) 1 r ≡ u →
      first (first (whenever a (fault_at Width 1 0) ∷ option_map (fault_at Kind 1) u ∷ whenever b (fault_at Key 1 ((length r - g.keys) + 1)) ∷ []) ∷ whenever c (fault_at Remainder 1 0) ∷ []) ≡ Some f → Cause r f
  cause_of r f true u b c q h = by_width (cc)
  cause_of r f false (Some p) b c q h = by_kind p q (cc)
  cause_of r f false None true c q h = by_key (cc)
  cause_of r f false None false true q h = by_remainder (cc)
  cause_of r f false None false false q h = absurd (let z : ◌≡◌ {A = ℕ} 0 1 = cc in let n : ⊥ = omega arith in n)

  fault_of : (r : List ℕ) (f : Fault) → 1 ≤ g.keys → 1 ≤ length r → Cause r f → FaultOf (single_of g) r f
  fault_of r f k l (by_width q) = rw q (record { refusal = width; outermost = omega arith; innermost = omega arith; place = inl (omega arith) })
  fault_of r f k l (by_kind p u q) =
      let b = uncounted_place g.count (length r) 1 p r u in
      rw q (record { refusal = kind; outermost = omega arith; innermost = omega arith; place = inl (omega arith) })
  fault_of r f k l (by_key q) = rw q (record { refusal = key; outermost = omega arith; innermost = omega arith; place = inl (omega arith) })
  fault_of r f k l (by_remainder q) = rw q (record { refusal = remainder; outermost = omega arith; innermost = omega arith; place = inl (omega arith) })

  -- an accepted reading has no fault, and one with no fault is accepted
  accepted_by : (r : List ℕ) → misfit_of g r ≡ None → last_of g r ≡ g.good → Accepted (single_of g) r
  accepted_by r n q = record { fit = ap (λ (f : Option Fault). not (is_some f)) n; good = q }

  faultless : (r : List ℕ) (f : Option Fault) → misfit_of g r ≡ f → (b : Bool) → (last_of g r == g.good) ≡ b → first (f ∷ whenever (not b) (fault_at Remainder 1 0) ∷ []) ≡ None → Accepted (single_of g) r
  faultless r (Some f) q b t h = absurd (let z : ◌≡◌ {A = ℕ} 0 1 = cc in let n : ⊥ = omega arith in n)
  faultless r None q true t h = accepted_by r q (grind (arith, nat_tests))
  faultless r None q false t h = absurd (let z : ◌≡◌ {A = ℕ} 0 1 = cc in let n : ⊥ = omega arith in n)

  pub no_misfit_of : (r : List ℕ) (f : Option Fault) → misfit_of g r ≡ f → not (is_some f) ≡ true → misfit_of g r ≡ None
  no_misfit_of r None q h = q
  no_misfit_of r (Some f) q h = absurd (let z : ◌≡◌ {A = ℕ} 0 1 = cc in let n : ⊥ = omega arith in n)

  no_fault : (r : List ℕ) → Accepted (single_of g) r → (single_of g).fault r ≡ None
  no_fault r a =
      let n = no_misfit_of r (misfit_of g r) refl a.fit in
      let q = eq-eqb (last_of g r) g.good a.good in
      ap (λ (f : Option Fault). first (f ∷ whenever (not (last_of g r == g.good)) (fault_at Remainder 1 0) ∷ [])) n
      ∙ ap (λ (b : Bool). first (None ∷ whenever (not b) (fault_at Remainder 1 0) ∷ [])) q

  -- the width of a reading that has no misfit is one that the engine has
  pub takes_misfit_of : (r : List ℕ) → misfit_of g r ≡ None → g.takes (length r) ≡ true
  takes_misfit_of r h = grind (arith, nat_tests)

  -- filling, by whether the engine has the width
  filled_when : (r : List ℕ) (b : Bool) → g.takes (length r) ≡ b → filled_of g r ≡ cond b (body_of g r ++ g.key (length r) (before_of g r)) r
  filled_when r b q = ap (λ (v : Bool). cond v (body_of g r ++ g.key (length r) (before_of g r)) r) q

  length-body_of : (r : List ℕ) → length (body_of g r) ≡ length r - g.keys
  length-body_of r = simp length-take (omega arith)

module _ (g : ReadingRules) (wide : (w : ℕ) → g.takes w ≡ true → (g.keys < w) × (w ≤ 34)) where
  -- what filling leaves in the program's hands: the key written over the last places
  pub written_of : (xs y : List ℕ) (n v : ℕ) → n ≡ g.keys → g.takes (length xs) ≡ true → v ≡ run_by g.next (length xs) 1 g.start (take (length xs - n) xs) →
      y ≡ cond (length (take (length xs - (length xs - n)) (drop (length xs - n) xs)) == g.keys) (g.key (length xs) v) (take (length xs - (length xs - n)) (drop (length xs - n) xs)) →
      put_mid (length xs - n) (length xs - (length xs - n)) xs y ≡ filled_of g xs
  written_of xs y n v q t r told =
      let room = (wide (length xs) t).0 in
      let part = take (length xs - (length xs - n)) (drop (length xs - n) xs) in
      let len : length part ≡ g.keys = simp (length-take, length-drop) (omega arith) in
      let yk : y ≡ g.key (length xs) v = told ∙ ap (λ (b : Bool). cond b (g.key (length xs) v) part) (eq-eqb (length part) g.keys len) in
      let rest : drop (length xs - (length xs - n)) (drop (length xs - n) xs) ≡ [] = drop_all (length xs - (length xs - n)) (drop (length xs - n) xs) (simp length-drop (omega arith)) in
      let none = append-nil y in
      let f = filled_when g xs true t in
      cc

-- filling keeps the width, where a key has its length
module _ (g : ReadingRules) (wide : (w : ℕ) → g.takes w ≡ true → (g.keys < w) × (w ≤ 34)) (long : (r : List ℕ) → g.takes (length r) ≡ true → length (g.key (length r) (before_of g r)) ≡ g.keys) where
  length-written : (r : List ℕ) → g.takes (length r) ≡ true → length (body_of g r ++ g.key (length r) (before_of g r)) ≡ length r
  length-written r t =
      let k = long r t in
      let b = length-body_of g r in
      let w = (wide (length r) t).0 in
      length-append (body_of g r) (g.key (length r) (before_of g r)) ∙ omega arith

  length-filled_of : (r : List ℕ) (b : Bool) → g.takes (length r) ≡ b → length (filled_of g r) ≡ length r
  length-filled_of r true t = ap length (filled_when g r true t) ∙ length-written r t
  length-filled_of r false t = ap length (filled_when g r false t)

module _ (g : ReadingRules) (keeps : ReadingKeeps g) where
  text_filled : (r : List ℕ) (b : Bool) → g.takes (length r) ≡ b → Text r → Text (filled_of g r)
  text_filled r true t h =
      let a = h.some in
      let s = h.short in
      let P : List ℕ → Type 0 = λ xs. Text xs in
      let both = All-append (λ c. is_character c ≡ true) (body_of g r) (g.key (length r) (before_of g r)) (All-take _ (length r - g.keys) r h.characters) (keeps.key_characters r t) in
      let lw = length-written g keeps.wide keeps.key_length r t in
      subst P (sym (filled_when g r true t)) (record { some = omega arith; short = omega arith; characters = both })
  text_filled r false t h = let P : List ℕ → Type 0 = λ xs. Text xs in subst P (sym (filled_when g r false t)) h

  -- a place that is no key place lies before the key
  before_key : (w k : ℕ) → g.takes w ≡ true → k ≤ w → (single_of g).is_key w k ≡ false → k ≤ w - g.keys
  before_key w k t h n = grind (arith, nat_tests)

  same_off : (r : List ℕ) (b : Bool) → g.takes (length r) ≡ b → (k : ℕ) → 1 ≤ k → k ≤ length r → (single_of g).is_key (length r) k ≡ false → slice_index r (k - 1) ≡ slice_index (filled_of g r) (k - 1)
  same_off r true t k lo hi n =
      let end = before_key (length r) k t hi n in
      let l = length-body_of g r in
      let i : k - 1 < length (body_of g r) = omega arith in
      let j : k - 1 < length r - g.keys = omega arith in
      sym (ap (λ (xs : List ℕ). slice_index xs (k - 1)) (filled_when g r true t)
      ∙ get_or_append_left (body_of g r) (g.key (length r) (before_of g r)) 0 (k - 1) i
      ∙ get_or-take (length r - g.keys) r (k - 1) 0 j)
  same_off r false t k lo hi n = sym (ap (λ (xs : List ℕ). slice_index xs (k - 1)) (filled_when g r false t))

  places_of : (w k : ℕ) → (single_of g).is_key w k ≡ true → (1 ≤ k) × (k ≤ w) × (w < k + g.keys)
  places_of w k h =
      let t : g.takes w ≡ true = grind arith in
      let a : nat_lt (w - g.keys) k ≡ true = grind arith in
      let b : leb k w ≡ true = grind arith in
      let wide = (keeps.wide w t).0 in
      (grind (arith, nat_tests), grind (arith, nat_tests), grind (arith, nat_tests))

  -- readings that agree off the key places have the same characters before the key
  same_body : (x y : List ℕ) → Agree (single_of g) x y → g.takes (length y) ≡ true → body_of g x ≡ body_of g y
  same_body x y a t =
      let w = a.width in
      let wide = (keeps.wide (length y) t).0 in
      let lx = length-body_of g x in
      let ly = length-body_of g y in
      ext_get_or 0 (body_of g x) (body_of g y) (omega arith) (λ i h.
      let j : i < length x - g.keys = omega arith in
      let j' : i < length y - g.keys = omega arith in
      let back : (i + 1) - 1 ≡ i = omega arith in
      let off : (single_of g).is_key (length x) (i + 1) ≡ false = let s : nat_lt (length x - g.keys) (i + 1) ≡ false = grind (arith, nat_tests) in and_right (g.takes (length x)) _ (and_left _ (nat_le (i + 1) (length x)) s) in
      get_or-take (length x - g.keys) x i 0 j
      ∙ (rw back at (a.same (i + 1) (omega arith) (omega arith) off))
      ∙ sym (get_or-take (length y - g.keys) y i 0 j'))

  only : (x y : List ℕ) → Text y → Accepted (single_of g) y → Agree (single_of g) x y → filled_of g x ≡ y
  only x y ty acc agree =
      let none = no_misfit_of g y (misfit_of g y) refl acc.fit in
      let t = takes_misfit_of g y none in
      let same = same_body x y agree t in
      let w = agree.width in
      let tx : g.takes (length x) ≡ true = ap g.takes w ∙ t in
      let key = keeps.key_only y ty none acc.good in
      let v : before_of g x ≡ before_of g y = ap (λ (n : ℕ). run_by g.next n 1 g.start (body_of g x)) w ∙ ap (run_by g.next (length y) 1 g.start) same in
      let parts : body_of g x ++ g.key (length x) (before_of g x) ≡ body_of g y ++ drop (length y - g.keys) y = cc in
      filled_when g x true tx ∙ parts ∙ take-append-drop (length y - g.keys) y

  pub lawful_of : Lawful (single_of g)
  lawful_of = record {
    layered = omega arith;
    sound = λ r t h. faultless g r (misfit_of g r) refl (last_of g r == g.good) refl h;
    complete = λ r t a. no_fault g r a;
    faults = λ r f t h. fault_of g r f keeps.keyed t.some (cause_of g r f (not (g.takes (length r))) (uncounted_by g.count (length r) 1 r) (not (g.in_range r)) (not (last_of g r == g.good)) refl h);
    injective = keeps.injective;
    places = places_of;
    characters = λ r t. text_filled r (g.takes (length r)) refl t;
    others = λ r. record { width = sym (length-filled_of g keeps.wide keeps.key_length r (g.takes (length r)) refl); same = same_off r (g.takes (length r)) refl };
    one_key = λ x y tx ty a q. only x y ty a q;
  }

  -- with its key, a reading whose other characters are allowed is accepted
  key_accepted : (r : List ℕ) → g.takes (length r) ≡ true → uncounted_by g.count (length r) 1 (body_of g r) ≡ None → Accepted (single_of g) (filled_of g r)
  key_accepted r t u =
      let f = filled_when g r true t in
      let key = g.key (length r) (before_of g r) in
      let k = keeps.key_good r t in
      let l = length-filled_of g keeps.wide keeps.key_length r true t in
      let lb = length-body_of g r in
      let place : 1 + length (body_of g r) ≡ 1 + (length r - g.keys) = omega arith in
      let rest : drop (length r - g.keys) (filled_of g r) ≡ key = ap (drop (length r - g.keys)) f ∙ drop_at (body_of g r) key (length r - g.keys) lb in
      let end : uncounted_by g.count (length r) (1 + length (body_of g r)) key ≡ None =
      ap (λ (j : ℕ). uncounted_by g.count (length r) j key) place ∙ ap (uncounted_by g.count (length r) (1 + (length r - g.keys))) (sym rest) ∙ k.counted in
      let none : uncounted_by g.count (length (filled_of g r)) 1 (filled_of g r) ≡ None =
      ap (λ (w : ℕ). uncounted_by g.count w 1 (filled_of g r)) l ∙ ap (uncounted_by g.count (length r) 1) f ∙ uncounted_by-append g.count (length r) 1 (body_of g r) key u ∙ end in
      let takes : g.takes (length (filled_of g r)) ≡ true = ap g.takes l ∙ t in
      let range = k.in_range in
      let fits : misfit_of g (filled_of g r) ≡ None = grind (arith, nat_tests) in
      accepted_by g (filled_of g r) fits k.good

  pub sealed_of : (r s : List ℕ) → s ≡ filled_of g r → ReadingSealed g r s
  sealed_of r s q = record {
    keyed = λ t. let P : List ℕ → Type 0 = λ xs. ReadingKey g r xs in subst P (sym q) (keeps.key_good r t);
    accepted = λ t u. let P : List ℕ → Type 0 = λ xs. Accepted (single_of g) xs in subst P (sym q) (key_accepted r t u);
  }

module _ (e : Rules) where
  pub no_misfit : (r : List ℕ) (f : Option Fault) → misfit e r ≡ f → not (is_some f) ≡ true → misfit e r ≡ None
  no_misfit = no_misfit_of (by_reading e)

  pub takes-misfit : (r : List ℕ) → misfit e r ≡ None → e.takes (length r) ≡ true
  takes-misfit = takes_misfit_of (by_reading e)

  filled_by : (r : List ℕ) (b : Bool) → e.takes (length r) ≡ b → filled e r ≡ cond b (body e r ++ e.key (length r) (before e r)) r
  filled_by = filled_when (by_reading e)

  length-body : (r : List ℕ) → length (body e r) ≡ length r - e.keys
  length-body = length-body_of (by_reading e)

module _ (e : Rules) (keeps : Keeps e) where
  -- running values are values, and so is what a run over any characters leads to
  running_value : {v : ℕ} → Running (single e) v → e.is_value v ≡ true
  running_value at_start = keeps.started
  running_value (stepped r w k c s) = keeps.kept w k _ c (running_value r)

  run_value : (w k v : ℕ) (cs : List ℕ) → e.is_value v ≡ true → e.is_value (run_by (next_by e) w k v cs) ≡ true
  run_value w k v [] h = h
  run_value w k v (c ∷ cs) h = run_value w (k + 1) (next_by e w k v c) cs (keeps.kept w k v c h)

  pub front_value : (w : ℕ) (cs : List ℕ) → e.is_value (run_by (next_by e) w 1 e.start cs) ≡ true
  front_value w cs = run_value w 1 e.start cs keeps.started

  -- the key that belongs to a reading
  key_for : (r : List ℕ) → e.takes (length r) ≡ true → KeyOf e (length r) (before e r) (e.key (length r) (before e r))
  key_for r t = keeps.key_good (length r) (before e r) t (front_value (length r) (body e r))

  length-filled : (r : List ℕ) (b : Bool) → e.takes (length r) ≡ b → length (filled e r) ≡ length r
  length-filled = length-filled_of (by_reading e) keeps.wide (λ r t. (key_for r t).long)

  -- the last running value, from the one before the key
  last_by_key : (r : List ℕ) → last e r ≡ run_by (next_by e) (length r) (1 + (length r - e.keys)) (before e r) (key_part e r)
  last_by_key r =
      let l = length-body e r in
      ap (run_by (next_by e) (length r) 1 e.start) (sym (take-append-drop (length r - e.keys) r))
      ∙ run-append (next_by e) (length r) 1 e.start (body e r) (key_part e r)
      ∙ ap (λ (j : ℕ). run_by (next_by e) (length r) (1 + j) (before e r) (key_part e r)) l

  -- the search for a character that is not allowed, over the body and the key
  uncounted_parts : (r : List ℕ) → uncounted e (length r) 1 (body e r) ≡ None → uncounted e (length r) 1 r ≡ uncounted e (length r) (1 + (length r - e.keys)) (key_part e r)
  uncounted_parts r u =
      let l = length-body e r in
      ap (uncounted e (length r) 1) (sym (take-append-drop (length r - e.keys) r))
      ∙ uncounted-append e (length r) 1 (body e r) (key_part e r) u
      ∙ ap (λ (j : ℕ). uncounted e (length r) (1 + j) (key_part e r)) l

  -- an accepted reading ends in the key that belongs to it
  key_of : (r : List ℕ) → misfit e r ≡ None → last e r ≡ e.good → KeyOf e (length r) (before e r) (key_part e r)
  key_of r n g =
      let t = takes-misfit e r n in
      let w = (keeps.wide (length r) t).0 in
      let u : uncounted e (length r) 1 r ≡ None = grind (arith, nat_tests) in
      let range : e.in_range (key_part e r) ≡ true = grind (arith, nat_tests) in
      let front = uncounted_front e (length r) 1 (body e r) (key_part e r) (ap (uncounted e (length r) 1) (take-append-drop (length r - e.keys) r) ∙ u) in
      record {
        long = simp length-drop (omega arith);
        counted = sym (uncounted_parts r front) ∙ u;
        in_range = range;
        good = sym (last_by_key r) ∙ g;
      }

  -- a reading with its key: the same body, and the key behind it
  body-filled : (r : List ℕ) → e.takes (length r) ≡ true → body e (filled e r) ≡ body e r
  body-filled r t =
      let f = filled_by e r true t in
      let l = length-filled r true t in
      let b : length (body e r) ≡ length (filled e r) - e.keys = length-body e r ∙ ap (λ (n : ℕ). n - e.keys) (sym l) in
      ap (take (length (filled e r) - e.keys)) f ∙ take_at (body e r) (e.key (length r) (before e r)) (length (filled e r) - e.keys) b

  key_filled : (r : List ℕ) → e.takes (length r) ≡ true → key_part e (filled e r) ≡ e.key (length r) (before e r)
  key_filled r t =
      let f = filled_by e r true t in
      let l = length-filled r true t in
      let b : length (body e r) ≡ length (filled e r) - e.keys = length-body e r ∙ ap (λ (n : ℕ). n - e.keys) (sym l) in
      ap (drop (length (filled e r) - e.keys)) f ∙ drop_at (body e r) (e.key (length r) (before e r)) (length (filled e r) - e.keys) b

  before-filled : (r : List ℕ) → e.takes (length r) ≡ true → before e (filled e r) ≡ before e r
  before-filled r t = ap (λ (w : ℕ). run_by (next_by e) w 1 e.start (body e (filled e r))) (length-filled r true t) ∙ ap (run_by (next_by e) (length r) 1 e.start) (body-filled r t)

  key_at : (r : List ℕ) → e.takes (length r) ≡ true → KeyOf e (length r) (before e r) (key_part e (filled e r))
  key_at r t = let P : List ℕ → Type 0 = λ ks. KeyOf e (length r) (before e r) ks in subst P (sym (key_filled r t)) (key_for r t)

  good_filled : (r : List ℕ) → e.takes (length r) ≡ true → last e (filled e r) ≡ e.good
  good_filled r t =
      let l = length-filled r true t in
      last_by_key (filled e r)
      ∙ ap (λ (w : ℕ). run_by (next_by e) w (1 + (w - e.keys)) (before e (filled e r)) (key_part e (filled e r))) l
      ∙ ap (λ (v : ℕ). run_by (next_by e) (length r) (1 + (length r - e.keys)) v (key_part e (filled e r))) (before-filled r t)
      ∙ (key_at r t).good

  reading_key : (r : List ℕ) → e.takes (length r) ≡ true → ReadingKey (by_reading e) r (filled e r)
  reading_key r t =
      let k = key_at r t in
      record {
        counted = ap (λ (n : ℕ). uncounted e (length r) (1 + (length r - e.keys)) (drop (n - e.keys) (filled e r))) (sym (length-filled r true t)) ∙ k.counted;
        in_range = k.in_range;
        good = good_filled r t;
      }

  -- the engine by whole readings keeps what such an engine keeps
  reading_keeps : ReadingKeeps (by_reading e)
  reading_keeps = record {
    keyed = keeps.keyed;
    wide = keeps.wide;
    injective = λ w k c u v s a b q. keeps.injective w k c u v s (running_value a) (running_value b) q;
    key_length = λ r t. (key_for r t).long;
    key_characters = λ r t. keeps.key_characters (length r) (before e r) t (front_value (length r) (body e r));
    key_good = reading_key;
    key_only = λ r x n q. keeps.key_only (length r) (before e r) (key_part e r) (takes-misfit e r n) (front_value (length r) (body e r)) (key_of r n q);
  }

  pub lawful : Lawful (single e)
  lawful = lawful_of (by_reading e) reading_keeps

  pub written : (xs y : List ℕ) (n v : ℕ) → n ≡ e.keys → e.takes (length xs) ≡ true → v ≡ run_by (next_by e) (length xs) 1 e.start (take (length xs - n) xs) →
      y ≡ cond (length (take (length xs - (length xs - n)) (drop (length xs - n) xs)) == e.keys) (e.key (length xs) v) (take (length xs - (length xs - n)) (drop (length xs - n) xs)) →
      put_mid (length xs - n) (length xs - (length xs - n)) xs y ≡ filled e xs
  written = written_of (by_reading e) keeps.wide

  pub sealed : (r s : List ℕ) → s ≡ filled e r → Sealed e r s
  sealed r s q =
      let P : List ℕ → Type 0 = λ xs. Sealed e r xs in
      subst P (sym q) (record { keyed = key_at r; good = good_filled r; accepted = key_accepted (by_reading e) reading_keeps r })
