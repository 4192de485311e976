-- From one step to the list: what an engine shows of the characters at a slip is all that its list needs.
use Rattle.std.proofs.Common.{◌≡◌, ℕ, ◌+◌, ◌≤◌, true, ◌≢◌, ◌↔◌, List, ◌∷◌, ◌++◌, length, is_some, None, sym, refl, ap, ◌∙◌, arith, length-append}
use Rattle.std.proofs.lemmas.Bool.Decides.{nat_tests}
use Rattle.alphabet.specs.Slips.{replaced, exchanged}
use Rattle.scheme.specs.Lists.{SlipRule, LetsPass}
use Rattle.scheme.specs.Meaning.{run_by}
use Rattle.scheme.specs.Rules.{Rules, next_by, uncounted, misfit, single, Keeps}
use Rattle.scheme.specs.Slips.{value_after}
use Rattle.scheme.specs.Searches.{first_allowed, uncounted_front, uncounted-append}
use Rattle.scheme.specs.Singles.{no_misfit, takes-misfit, front_value, lawful}
use Rattle.scheme.proofs.Slips.{law_of_slips, after_replaced, after_exchanged}

abbrev pub Counted : Rules → ℕ → ℕ → ℕ → Type 0
Counted e w k c = is_some (e.count w k c) ≡ true

-- At a width that the engine has, after a running value, with characters that are allowed where they stand: two characters
-- lead to the same value at one place, or in either sequence at two neighbouring places, exactly by the rules of the list.
pub record AtOnePlace (e : Rules) (R X : SlipRule) : Type 0 where
  pub replacement : (w k p a b : ℕ) → e.takes w ≡ true → 1 ≤ k → k ≤ w → e.is_value p ≡ true → Counted e w k a → Counted e w k b → a ≢ b → (next_by e w k p a ≡ next_by e w k p b) ↔ R p a b
  pub exchange : (w k p a b : ℕ) → e.takes w ≡ true → 1 ≤ k → k + 1 ≤ w → e.is_value p ≡ true → Counted e w k a → Counted e w (k + 1) b → Counted e w k b → Counted e w (k + 1) a → a ≢ b → (next_by e w (k + 1) (next_by e w k p a) b ≡ next_by e w (k + 1) (next_by e w k p b) a) ↔ X p a b

module _ (e : Rules) (keeps : Keeps e) (R X : SlipRule) (local : AtOnePlace e R X) where
  -- what stands behind a front of a fit reading is allowed there
  rest_counted : (w : ℕ) (xs zs : List ℕ) → uncounted e w 1 (xs ++ zs) ≡ None → uncounted e w (1 + length xs) zs ≡ None
  rest_counted w xs zs u = sym (uncounted-append e w 1 xs zs (uncounted_front e w 1 xs zs u)) ∙ u

  counted_fit : (r : List ℕ) → (single e).fit r ≡ true → (e.takes (length r) ≡ true) × (uncounted e (length r) 1 r ≡ None)
  counted_fit r f =
      let n = no_misfit e r (misfit e r) refl f in
      let t = takes-misfit e r n in
      let u : uncounted e (length r) 1 r ≡ None = grind (arith, nat_tests) in
      (t, u)

  module _ (xs : List ℕ) (a b : ℕ) (ys : List ℕ) (ne : a ≢ b) where
    abbrev x1 : List ℕ
    x1 = xs ++ (a ∷ ys)

    abbrev y1 : List ℕ
    y1 = xs ++ (b ∷ ys)

    abbrev w1 : ℕ
    w1 = length x1

    abbrev p1 : ℕ
    p1 = run_by (next_by e) w1 1 e.start xs

    same1 : length y1 ≡ w1
    same1 = simp length-append

    after1 : value_after (single e) y1 (length xs + 1) ≡ next_by e w1 (1 + length xs) p1 b
    after1 = after_replaced (single e) xs b ys ∙ ap (λ (w : ℕ). next_by e w (1 + length xs) (run_by (next_by e) w 1 e.start xs) b) same1

    step1 : (single e).fit x1 ≡ true → (single e).fit y1 ≡ true → (next_by e w1 (1 + length xs) p1 a ≡ next_by e w1 (1 + length xs) p1 b) ↔ R p1 a b
    step1 fx fy =
        let cx = counted_fit x1 fx in
        let cy = counted_fit y1 fy in
        let long = length-append xs (a ∷ ys) in
        let ca = (first_allowed _ _ _ (rest_counted w1 xs (a ∷ ys) cx.1)).0 in
        let cb = (first_allowed _ _ _ (rest_counted w1 xs (b ∷ ys) (ap (λ (w : ℕ). uncounted e w 1 y1) (sym same1) ∙ cy.1))).0 in
        local.replacement w1 (1 + length xs) p1 a b cx.0 (omega arith) (omega arith) (front_value e keeps w1 xs) ca cb ne

  module _ (xs : List ℕ) (a b : ℕ) (ys : List ℕ) (ne : a ≢ b) where
    abbrev x2 : List ℕ
    x2 = xs ++ (a ∷ b ∷ ys)

    abbrev y2 : List ℕ
    y2 = xs ++ (b ∷ a ∷ ys)

    abbrev w2 : ℕ
    w2 = length x2

    abbrev p2 : ℕ
    p2 = run_by (next_by e) w2 1 e.start xs

    same2 : length y2 ≡ w2
    same2 = simp length-append

    after2 : value_after (single e) y2 (length xs + 2) ≡ next_by e w2 ((1 + length xs) + 1) (next_by e w2 (1 + length xs) p2 b) a
    after2 =
        after_exchanged (single e) xs b a ys
        ∙ ap (λ (w : ℕ). next_by e w ((1 + length xs) + 1) (next_by e w (1 + length xs) (run_by (next_by e) w 1 e.start xs) b) a) same2

    step2 : (single e).fit x2 ≡ true → (single e).fit y2 ≡ true →
        (next_by e w2 ((1 + length xs) + 1) (next_by e w2 (1 + length xs) p2 a) b ≡ next_by e w2 ((1 + length xs) + 1) (next_by e w2 (1 + length xs) p2 b) a) ↔ X p2 a b
    step2 fx fy =
        let cx = counted_fit x2 fx in
        let cy = counted_fit y2 fy in
        let long = length-append xs (a ∷ b ∷ ys) in
        let ca = first_allowed _ _ _ (rest_counted w2 xs (a ∷ b ∷ ys) cx.1) in
        let cb = first_allowed _ _ _ (rest_counted w2 xs (b ∷ a ∷ ys) (ap (λ (w : ℕ). uncounted e w 1 y2) (sym same2) ∙ cy.1)) in
        local.exchange w2 (1 + length xs) p2 a b cx.0 (omega arith) (omega arith) (front_value e keeps w2 xs)
        ca.0 (first_allowed _ _ _ ca.1).0 cb.0 (first_allowed _ _ _ cb.1).0 ne

  pub lets_pass_lem : LetsPass e R X
  lets_pass_lem x y (replaced xs a b ys c d) t acc =
      let law = law_of_slips (single e) (lawful e keeps) x y (replaced xs a b ys c d) t acc in
      let before = after_replaced (single e) xs a ys in
      let after = after1 xs a b ys d in (
        λ h. (h.fit, (step1 xs a b ys d acc.fit h.fit).0 (sym before ∙ (law.0 h).value ∙ after)),
        λ h. law.1 (record { fit = h.0; value = before ∙ (step1 xs a b ys d acc.fit h.0).1 h.1 ∙ sym after }),
      )
  lets_pass_lem x y (exchanged xs a b ys d) t acc =
      let law = law_of_slips (single e) (lawful e keeps) x y (exchanged xs a b ys d) t acc in
      let before = after_exchanged (single e) xs a b ys in
      let after = after2 xs a b ys d in (
        λ h. (h.fit, (step2 xs a b ys d acc.fit h.fit).0 (sym before ∙ (law.0 h).value ∙ after)),
        λ h. law.1 (record { fit = h.0; value = before ∙ (step2 xs a b ys d acc.fit h.0).1 h.1 ∙ sym after }),
      )
