-- A text is valid exactly where its verdict is good.
use Rattle.std.proofs.Common.{◌≡◌, ℕ, false, List, length, Some, None, Ok, Err, IsErrAnd, Result, sym, ap, ◌∙◌, subst, arith, MatchResult}
use Rattle.alphabet.specs.Faults.{answer}
use Rattle.alphabet.specs.Readings.{reading, in_text, opening, Text}
use Rattle.alphabet.specs.declared.fault.Fault.{Fault}
use Rattle.alphabet.specs.declared.turn.Turn.{Turn}
use Rattle.alphabet.proofs.Texts.{opening_none, none_opening, reading-text}
use Rattle.scheme.specs.Meaning.{Meaning, Lawful, run}
use Rattle.scheme.specs.Verdicts.{Valid, verdict}

module _ {V : Type 0} (m : Meaning V) (turn : Turn) (t : List ℕ) (law : m.unfit ≡ false → Lawful m) where
  -- a valid text meets no refusal
  pub valid_none : Valid m turn t → verdict m turn t ≡ Ok tt
  valid_none v =
      let o = none_opening turn t v.text v.wide in
      let f = (law v.scheme).complete (reading turn t) (reading-text turn t v.text) v.accepted in
      let u = v.scheme in
      grind arith

  pub none_valid : m.unfit ≡ false → opening turn t ≡ None → m.fault (reading turn t) ≡ None → Valid m turn t
  none_valid u o f =
      let p = opening_none turn t o in
      record { scheme = u; text = p.0; wide = p.1; accepted = (law u).sound (reading turn t) (reading-text turn t p.0) f }

  -- where the verdict is a refusal, the text is not valid
  pub refused_not : (f : Fault) → verdict m turn t ≡ Err f → Valid m turn t → ⊥
  refused_not f e v =
      let g = valid_none v in
      let z : ◌≡◌ {A = ℕ} 0 1 = cc in
      omega arith

  pub refused_by : (r : Result (Unit {0}) Fault) (f : Fault) → r ≡ Err f → verdict m turn t ≡ Err f → MatchResult r (λ _. Valid m turn t) (λ _. Valid m turn t → ⊥)
  refused_by (Ok x) f e v = let z : ◌≡◌ {A = ℕ} 0 1 = cc in absurd (let n : ⊥ = omega arith in n)
  refused_by (Err y) f e v = refused_not f v

  -- the ways on which checking ends once the scheme is fit: at the text itself, and at the scheme's answer r
  pub at_opening : (f : Fault) → m.unfit ≡ false → opening turn t ≡ Some f → verdict m turn t ≡ Err f
  at_opening f u o = grind arith

  ruled : (r : Result (Unit {0}) Fault) → r ≡ answer tt (m.fault (reading turn t)) → (r ≡ Ok tt → m.fault (reading turn t) ≡ None) × ((f : Fault) → r ≡ Err f → m.fault (reading turn t) ≡ Some f)
  ruled r a = (λ e. grind arith, λ f e. grind arith)

  module _ (u : m.unfit ≡ false) (o : opening turn t ≡ None) (cs : List ℕ) (same : cs ≡ reading turn t) (r : Result (Unit {0}) Fault) (v : V) (last : v ≡ run m cs)
      (told : m.unfit ≡ false → Text cs → v ≡ run m cs → r ≡ answer tt (m.fault cs)) where
    told_of_reading : r ≡ answer tt (m.fault (reading turn t))
    told_of_reading =
        let P : List ℕ → Type 0 = λ xs. Text xs in
        let x : Text cs = subst P (sym same) (reading-text turn t (opening_none turn t o).0) in
        told u x last ∙ ap (λ (xs : List ℕ). answer tt (m.fault xs)) same

    at_good : r ≡ Ok tt → (verdict m turn t ≡ Ok tt) × Valid m turn t
    at_good e =
        let f = (ruled r told_of_reading).0 e in
        let v = none_valid u o f in
        (valid_none v, v)

    at_fault : (f : Fault) → r ≡ Err f → verdict m turn t ≡ Err (in_text turn (length t) f)
    at_fault f e =
        let g = (ruled r told_of_reading).1 f e in
        grind arith

    -- the scheme's answer with the place in the text, as s has it by what the mapping of a fault ensures
    pub answered : (post : Fault → Fault → Type 0) → ((f x : Fault) → post f x → x ≡ in_text turn (length t) f) → (q s : Result (Unit {0}) Fault) → r ≡ q →
        MatchResult q (λ x. s ≡ Ok x) (λ f. IsErrAnd s (post f)) → (s ≡ verdict m turn t) × MatchResult s (λ _. Valid m turn t) (λ _. Valid m turn t → ⊥)
    answered post says (Ok x) (Ok y) e h = let p = at_good e in (sym p.0, p.1)
    answered post says (Ok x) (Err y) e h = absurd (let z : ◌≡◌ {A = ℕ} 0 1 = cc in let n : ⊥ = omega arith in n)
    answered post says (Err f) (Ok y) e h = absurd h
    answered post says (Err f) (Err y) e h = let a = at_fault f e ∙ ap Err (sym (says f y h)) in (sym a, refused_not y a)
