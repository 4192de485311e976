-- Where the machine of gather stands after i bytes of a form, and what one byte more does.
use Rattle.std.proofs.Common.{◌≡◌, ℕ, suc, ◌+◌, ◌-◌, ◌<◌, ◌≤◌, true, false, cond, ltb, List, [], ◌∷◌, ◌++◌, length, get_or, take, Some, None, Option, sym, refl, ap, ◌∙◌, append-nil, arith}
use Rattle.std.proofs.lemmas.List.Elements.{filter_more}
use Rattle.std.proofs.lemmas.Bool.{cond-true, cond-false, or_left, or_right, or_from, and_from, and_left, and_right, lt-ltb}
use Rattle.alphabet.proofs.Buffers.{kept_more}
use Rattle.alphabet.specs.Characters.{is_character}
use Rattle.paper.specs.Paper.{is_gap, right, first_failing, wrong_at, stripped}
use Rattle.paper.specs.declared.forms.State.{State}
use Rattle.paper.specs.declared.forms.State.TheVariants.{Start, InGroup, AfterGap}

-- the first wrong place from index k on
abbrev pub wrong_from : List ℕ → ℕ → Option ℕ
wrong_from form k = first_failing (right form) (length form - k) k

-- Each byte before index i is right, but that after a gap it is the next byte which says so of the gap.
abbrev pub Stands : State → List ℕ → ℕ → Type 0
Stands Start form i = (i ≡ 0) × (wrong_at form ≡ wrong_from form i)
Stands InGroup form i =
    (0 < i) × (is_character (get_or form (i - 1) 0) ≡ true) × (wrong_at form ≡ wrong_from form i)
Stands AfterGap form i =
    (1 < i)
    × (is_character (get_or form (i - 1) 0) ≡ false)
    × (is_gap (get_or form (i - 1) 0) ≡ true)
    × (is_character (get_or form (i - 2) 0) ≡ true)
    × (wrong_at form ≡ wrong_from form (i - 1))

-- one place on, and at the end
wrong_step : (form : List ℕ) (k : ℕ) → k < length form →
    wrong_from form k ≡ cond (right form k) (wrong_from form (k + 1)) (Some (k + 1))
wrong_step form k h =
    let e : length form - k ≡ suc (length form - (k + 1)) = omega arith in
    ap (λ n. first_failing (right form) n k) e

wrong_end : (form : List ℕ) (k : ℕ) → length form ≤ k → wrong_from form k ≡ None
wrong_end form k h =
    let e : length form - k ≡ 0 = omega arith in
    ap (λ n. first_failing (right form) n k) e

-- a character is right
char_right : (form : List ℕ) (k : ℕ) → k < length form → is_character (get_or form k 0) ≡ true →
    wrong_from form k ≡ wrong_from form (k + 1)
char_right form k h e =
    wrong_step form k h ∙ cond-true (right form k) _ _ (or_left _ _ e)

-- a gap between characters is right
gap_right : (form : List ℕ) (k : ℕ) → k < length form → 0 < k → is_gap (get_or form k 0) ≡ true →
    is_character (get_or form (k - 1) 0) ≡ true → is_character (get_or form (k + 1) 0) ≡ true →
    wrong_from form k ≡ wrong_from form (k + 1)
gap_right form k l h g a b =
    wrong_step form k l
    ∙ cond-true (right form k) _ _ (or_right _ _ (and_from _ _ g (and_from _ _ (lt-ltb 0 k h) (and_from _ _ a b))))

-- a byte that is neither is wrong
other_wrong : (form : List ℕ) (k : ℕ) → k < length form → is_character (get_or form k 0) ≡ false →
    is_gap (get_or form k 0) ≡ false → wrong_from form k ≡ Some (k + 1)
other_wrong form k l a g =
    wrong_step form k l ∙ cond-false (right form k) _ _ (or_from _ _ a (and_left _ _ g))

-- so is one that begins the form, unless it is a character
start_wrong : (form : List ℕ) → 0 < length form → is_character (get_or form 0 0) ≡ false → wrong_from form 0 ≡ Some 1
start_wrong form l a =
    wrong_step form 0 l ∙ cond-false (right form 0) _ _ (or_from _ _ a (and_right (is_gap (get_or form 0 0)) _ refl))

-- and so is a gap that no character follows
gap_wrong : (form : List ℕ) (k : ℕ) → k < length form → is_character (get_or form k 0) ≡ false →
    is_character (get_or form (k + 1) 0) ≡ false → wrong_from form k ≡ Some (k + 1)
gap_wrong form k l a b =
    wrong_step form k l
    ∙ cond-false (right form k) _ _
    (or_from _ _ a (and_right (is_gap (get_or form k 0)) _ (and_right (ltb 0 k) _ (and_right (is_character (get_or form (k - 1) 0)) _ b))))

-- the last byte of the first i + 1
back : (i : ℕ) → i + 1 - 1 ≡ i
back i = omega arith

-- A character takes the machine into a group, from any state.
by_character : (s : State) (form : List ℕ) (i : ℕ) → i < length form → is_character (get_or form i 0) ≡ true →
    Stands s form i → Stands InGroup form (i + 1)
by_character Start form i l e v = (omega arith, rw back e, v.1 ∙ char_right form i l e)
by_character InGroup form i l e v = (omega arith, rw back e, v.2 ∙ char_right form i l e)
by_character AfterGap form i l e v =
    let p : i - 1 + 1 ≡ i = omega (arith, v.0) in
    let q : i - 1 - 1 ≡ i - 2 = omega arith in
    let g = gap_right form (i - 1) (omega arith) (omega (arith, v.0)) v.2 (rw q v.3) (rw p e) in
    (omega arith, rw back e, v.4 ∙ g ∙ ap (wrong_from form) p ∙ char_right form i l e)

-- A gap in a group is not right yet, and not wrong.
by_gap : (form : List ℕ) (i : ℕ) → is_character (get_or form i 0) ≡ false → is_gap (get_or form i 0) ≡ true →
    Stands InGroup form i → Stands AfterGap form (i + 1)
by_gap form i e g v =
    let q : i + 1 - 2 ≡ i - 1 = omega arith in
    (omega (arith, v.0), rw back e, rw back g, rw q v.1, rw back v.2)

-- After a gap, the gap is wrong where no character follows, be it that the form ends.
pub lost_gap : (form : List ℕ) (i : ℕ) → i ≤ length form → is_character (get_or form i 0) ≡ false →
    Stands AfterGap form i → wrong_at form ≡ Some i
lost_gap form i l e v =
    let p : i - 1 + 1 ≡ i = omega (arith, v.0) in
    let w = gap_wrong form (i - 1) (omega (arith, v.0)) v.1 (rw p e) in
    v.4 ∙ w ∙ ap Some p

-- Elsewhere, a byte is wrong that is no character, nor a gap in a group.
pub stray : (s : State) (form : List ℕ) (i : ℕ) → i < length form → is_character (get_or form i 0) ≡ false →
    (s ≡ AfterGap → ⊥) → (s ≡ InGroup → is_gap (get_or form i 0) ≡ false) → Stands s form i → wrong_at form ≡ Some (i + 1)
stray Start form i l e n g v =
    let w = start_wrong form (omega arith) (rw v.0 at e) in
    v.1 ∙ ap (wrong_from form) v.0 ∙ w ∙ ap (λ k. Some (k + 1)) (sym v.0)
stray InGroup form i l e n g v = v.2 ∙ other_wrong form i l e (g refl)
stray AfterGap form i l e n g v = absurd (n refl)

-- At the end nothing is wrong, unless a gap stands there.
pub finished : (s : State) (form : List ℕ) (i : ℕ) → length form ≤ i → (s ≡ AfterGap → ⊥) → Stands s form i →
    wrong_at form ≡ None
finished Start form i l n v = v.1 ∙ wrong_end form i l
finished InGroup form i l n v = v.2 ∙ wrong_end form i l
finished AfterGap form i l n v = absurd (n refl)

-- The characters of the first i + 1 bytes: one more at a character, and else those of the first i.
one_more : (form : List ℕ) (i : ℕ) → i < length form → is_character (get_or form i 0) ≡ true →
    stripped (take (i + 1) form) ≡ stripped (take i form) ++ get_or form i 0 ∷ []
one_more form i l e =
    filter_more is_character form i 0 l ∙ ap (λ b. stripped (take i form) ++ cond b (get_or form i 0 ∷ []) []) e

no_more : (form : List ℕ) (i : ℕ) → i < length form → is_character (get_or form i 0) ≡ false →
    stripped (take (i + 1) form) ≡ stripped (take i form)
no_more form i l e =
    filter_more is_character form i 0 l
    ∙ ap (λ b. stripped (take i form) ++ cond b (get_or form i 0 ∷ []) []) e
    ∙ append-nil (stripped (take i form))

-- What the machine holds after i bytes: where it stands, and the characters, up to as many as there is room for.
pub record Reading (s : State) (form : List ℕ) (i : ℕ) (text : List ℕ) : Type 0 where
  pub stands : Stands s form i
  pub held : text ≡ take 35 (stripped (take i form))

-- a character, be there room for it or not
pub written : (s : State) (form : List ℕ) (i : ℕ) (text more : List ℕ) → Reading s form i text →
    i < length form → is_character (get_or form i 0) ≡ true → more ≡ take 35 (text ++ get_or form i 0 ∷ []) →
    Reading InGroup form (i + 1) more
written s form i text more v l e k =
    let b = get_or form i 0 in
    record {
      stands = by_character s form i l e v.stands;
      held =
          k ∙ ap (λ xs. take 35 (xs ++ b ∷ [])) v.held ∙ kept_more 35 (stripped (take i form)) (b ∷ []) ∙ ap (take 35) (sym (one_more form i l e));
    }

-- a gap in a group
pub passed : (form : List ℕ) (i : ℕ) (text : List ℕ) → Reading InGroup form i text →
    i < length form → is_character (get_or form i 0) ≡ false → is_gap (get_or form i 0) ≡ true →
    Reading AfterGap form (i + 1) text
passed form i text v l e g =
    record {
      stands = by_gap form i e g v.stands;
      held = v.held ∙ ap (take 35) (sym (no_more form i l e));
    }
