-- The law of slips: of an accepted reading, a slip is accepted exactly where it is fit and the running values after the
-- last changed place are equal.
use Rattle.std.proofs.Common.{◌≡◌, ℕ, zero, suc, ◌+◌, ◌-◌, ◌≤◌, min, Bool, true, false, ◌≢◌, List, [], ◌∷◌, ◌++◌, length, get_or, take, drop, Decides, sym, ap, ◌∙◌, subst, append_assoc, add-zero, arith, length-append, length-drop}
use Rattle.std.proofs.ByRecursion.{All-take, All-drop}
use Rattle.std.proofs.lemmas.List.{get_or-drop, take_at, take-append-drop, length-take-le}
use Rattle.std.proofs.lemmas.Bool.{both_ways}
use Rattle.std.proofs.lemmas.Bool.Decides.{nat_tests, Decides-like}
use Rattle.alphabet.specs.Characters.{is_character, Characters}
use Rattle.alphabet.specs.Readings.{Text}
use Rattle.alphabet.specs.Slips.{Slip, last_changed}
use Rattle.alphabet.proofs.Slips.{slip_width, slip_within, slip_rest, slip_differs, slip_text}
use Rattle.scheme.specs.Meaning.{Meaning, Accepted, Step, Running, at_start, stepped, Lawful, run, run_by, run_from}
use Rattle.scheme.specs.Slips.{value_after, Passing, LawOfSlips, last_below, last_difference}
use Rattle.scheme.specs.Runs.{run-append}

module _ {V : Type 0} (m : Meaning V) where
  -- a run over characters of a reading leads from running values to running values, and from different ones to different ones
  run_running : (w k : ℕ) (v : V) (xs : List ℕ) → w ≤ 34 → 1 ≤ k → k + length xs ≤ w + 1 → Characters xs → Running m v → Running m (run_from m w k v xs)
  run_running w k v [] n a b h r = r
  run_running w k v (x ∷ xs) n a b (p, q) r =
      let s : Step w k x = record { first = a; last = omega arith; widest = n; character = p } in
      run_running w (k + 1) (m.next w k v x) xs n (omega arith) (omega arith) q (stepped r w k x s)

  run-injective : Lawful m → (w k : ℕ) (u v : V) (xs : List ℕ) → w ≤ 34 → 1 ≤ k → k + length xs ≤ w + 1 → Characters xs → Running m u → Running m v → run_from m w k u xs ≡ run_from m w k v xs → u ≡ v
  run-injective l w k u v [] n a b h ru rv e = e
  run-injective l w k u v (x ∷ xs) n a b (p, q) ru rv e =
      let s : Step w k x = record { first = a; last = omega arith; widest = n; character = p } in
      let z = run-injective l w (k + 1) (m.next w k u x) (m.next w k v x) xs n (omega arith) (omega arith) q (stepped ru w k x s) (stepped rv w k x s) e in
      l.injective w k x u v s ru rv z

  run_from_after : (r : List ℕ) (n : ℕ) → n ≤ length r → run m r ≡ run_from m (length r) (1 + n) (value_after m r n) (drop n r)
  run_from_after r n h =
      let l = length-take-le n r h in
      ap (λ (xs : List ℕ). run_from m (length r) 1 m.start xs) (sym (take-append-drop n r)) ∙
      run-append m.next (length r) 1 m.start (take n r) (drop n r) ∙
      ap (λ (j : ℕ). run_from m (length r) (1 + j) (value_after m r n) (drop n r)) l

  pub running_after : (r : List ℕ) (n : ℕ) → n ≤ length r → Text r → Running m (value_after m r n)
  running_after r n h t =
      let l = length-take-le n r h in
      run_running (length r) 1 m.start (take n r) t.short (omega arith) (omega arith) (All-take (λ b. is_character b ≡ true) n r t.characters) at_start

  module _ (x y : List ℕ) (n : ℕ) (w : length x ≡ length y) (h : n ≤ length x) (rest : drop n x ≡ drop n y) where
    -- the run of y, from the value after n, at the width and the rest of x
    other_run : run m y ≡ run_from m (length x) (1 + n) (value_after m y n) (drop n x)
    other_run =
        run_from_after y n (omega arith) ∙
        ap (λ (k : ℕ). run_from m k (1 + n) (value_after m y n) (drop n y)) (sym w) ∙
        ap (λ (xs : List ℕ). run_from m (length x) (1 + n) (value_after m y n) xs) (sym rest)

    same_end : value_after m x n ≡ value_after m y n → run m x ≡ run m y
    same_end e = run_from_after x n h ∙ ap (λ (v : V). run_from m (length x) (1 + n) v (drop n x)) e ∙ sym other_run

    end_same : Lawful m → Text x → Text y → run m x ≡ run m y → value_after m x n ≡ value_after m y n
    end_same l tx ty e =
        let d = length-drop n x in
        run-injective l (length x) (1 + n) (value_after m x n) (value_after m y n) (drop n x) tx.short (omega arith) (omega arith)
        (All-drop (λ b. is_character b ≡ true) n x tx.characters) (running_after x n h tx) (running_after y n (omega arith) ty)
        (sym (run_from_after x n h) ∙ e ∙ other_run)

  pub law_of_slips : Lawful m → LawOfSlips m
  law_of_slips l x y s t a =
      let w = slip_width s in
      let h = slip_within s in
      let r = slip_rest s in (
        λ b. record { fit = b.fit; value = end_same x y (last_changed s) w h r l t (slip_text s t) (a.good ∙ sym b.good) },
        λ p. record { fit = p.fit; good = sym (same_end x y (last_changed s) w h r p.value) ∙ a.good },
      )

  -- the value after a front and a part behind it
  after_part : (xs part zs : List ℕ) → value_after m (xs ++ (part ++ zs)) (length xs + length part) ≡ run_by m.next (length (xs ++ (part ++ zs))) (1 + length xs) (run_by m.next (length (xs ++ (part ++ zs))) 1 m.start xs) part
  after_part xs part zs =
      let w = length (xs ++ (part ++ zs)) in
      let n = length xs + length part in
      let front : take n (xs ++ (part ++ zs)) ≡ xs ++ part = ap (take n) (sym (append_assoc xs part zs)) ∙ take_at (xs ++ part) zs n (length-append xs part) in
      ap (λ (cs : List ℕ). run_by m.next w 1 m.start cs) front ∙ run-append m.next w 1 m.start xs part

  -- the value after the last place that a slip changes, where a character is replaced and where two are exchanged
  pub after_replaced : (xs : List ℕ) (a : ℕ) (ys : List ℕ) → value_after m (xs ++ (a ∷ ys)) (length xs + 1) ≡ m.next (length (xs ++ (a ∷ ys))) (1 + length xs) (run_by m.next (length (xs ++ (a ∷ ys))) 1 m.start xs) a
  after_replaced xs a ys = after_part xs (a ∷ []) ys

  pub after_exchanged : (xs : List ℕ) (a b : ℕ) (ys : List ℕ) → value_after m (xs ++ (a ∷ b ∷ ys)) (length xs + 2) ≡ m.next (length (xs ++ (a ∷ b ∷ ys))) ((1 + length xs) + 1) (m.next (length (xs ++ (a ∷ b ∷ ys))) (1 + length xs) (run_by m.next (length (xs ++ (a ∷ b ∷ ys))) 1 m.start xs) a) b
  after_exchanged xs a b ys = after_part xs (a ∷ b ∷ []) ys

-- one place back, where the two lists are the same at it; and where they are not
last_back : (x y : List ℕ) (k : ℕ) → 1 ≤ k → get_or x (k - 1) 0 ≡ get_or y (k - 1) 0 → last_below x y k ≡ last_below x y (k - 1)
last_back x y zero h e = absurd (let n : ⊥ = omega arith in n)
last_back x y (suc n) h e = let p : suc n - 1 ≡ n = omega arith in let t = simp p at e in rw p (grind (arith, nat_tests))

last_here : (x y : List ℕ) (k : ℕ) → 1 ≤ k → get_or x (k - 1) 0 ≢ get_or y (k - 1) 0 → last_below x y k ≡ k
last_here x y zero h d = absurd (let n : ⊥ = omega arith in n)
last_here x y (suc n) h d = let p : suc n - 1 ≡ n = omega arith in let t = simp p at d in grind (arith, nat_tests)

-- places from n on do not count where the two lists are the same there
last_same : (x y : List ℕ) (n k : ℕ) → drop n x ≡ drop n y → last_below x y (n + k) ≡ last_below x y n
last_same x y n zero rest = ap (last_below x y) (add-zero n)
last_same x y n (suc k) rest =
    let p : (n + suc k) - 1 ≡ n + k = omega arith in
    let same = sym (get_or-drop n x k 0) ∙ ap (λ (l : List ℕ). get_or l k 0) rest ∙ get_or-drop n y k 0 in
    last_back x y (n + suc k) (omega arith) (rw p same) ∙ ap (last_below x y) p ∙ last_same x y n k rest

-- the last difference of a slip is its last changed place
pub slip_last : {x y : List ℕ} (s : Slip x y) → last_difference x y ≡ last_changed s
slip_last {x} {y} s =
    let w = slip_width s in
    let h = slip_within s in
    let n = last_changed s in
    let all : min (length x) (length y) ≡ n + (length x - n) = omega arith in
    let d = slip_differs s in
    ap (last_below x y) all ∙ last_same x y n (length x - n) (slip_rest s) ∙ last_here x y n d.0 d.1

-- what the test of a slip tells, by its two parts, and that it tells whether the slip is accepted
module _ {V : Type 0} (m : Meaning V) (x y : List ℕ) (r : Bool) where
  pub passing_same : (n : ℕ) (u v : V) → n ≡ last_difference x y → u ≡ value_after m x n → v ≡ value_after m y n → m.fit y ≡ true → Decides r (u ≡ v) → Decides r (Passing m x y (last_difference x y))
  passing_same n u v e p q f d =
      let P : ℕ → Type 0 = λ k. Decides r (Passing m x y k) in
      subst P e (Decides-like r (λ h. record { fit = f; value = sym p ∙ h ∙ q }) (λ h. p ∙ h.value ∙ sym q) d)

  pub passing_unfit : r ≡ m.fit y → r ≡ false → Decides r (Passing m x y (last_difference x y))
  passing_unfit e f = (λ t. absurd (both_ways r f t), λ h. e ∙ h.fit)

  pub passing_accepted : (m.unfit ≡ false → Lawful m) → Decides r (Passing m x y (last_difference x y)) → m.unfit ≡ false → Slip x y → Text x → Accepted m x → Decides r (Accepted m y)
  passing_accepted law d u s t a =
      let l = law_of_slips m (law u) x y s t a in
      let P : ℕ → Type 0 = λ k. Decides r (Passing m x y k) in
      Decides-like r l.1 l.0 (subst P (slip_last s) d)
