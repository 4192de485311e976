-- The search for a character that is not allowed: one step of it, and over two parts.
use Rattle.std.specs.Prelude.{◌≡◌, ℕ, ◌+◌, ◌<◌, Bool, true, false, cond, List, [], ◌∷◌, ◌++◌, length, drop, is_some, Some, None, Option, slice_index, refl}
use Rattle.std.proofs.Common.{sym, ap, ◌∙◌, arith}
use Rattle.std.proofs.lemmas.List.{at_drop_more}
use Rattle.scheme.specs.ByReading.{uncounted_by}
use Rattle.scheme.specs.Rules.{Rules, uncounted}

module _ (e : Rules) (w : ℕ) (xs : List ℕ) (i : ℕ) (h : i < length xs) (n : Option ℕ) (told : n ≡ e.count w (i + 1) (slice_index xs i)) where
  turn : (b : Bool) → is_some n ≡ b → uncounted e w (i + 1) (drop i xs) ≡ cond b (uncounted e w ((i + 1) + 1) (drop (i + 1) xs)) (Some (i + 1))
  turn b s =
      at_drop_more (uncounted e w (i + 1)) xs i 0 h
      ∙ ap (λ (v : Bool). cond v (uncounted e w ((i + 1) + 1) (drop (i + 1) xs)) (Some (i + 1))) (sym (ap is_some told) ∙ s)

  pub stops : is_some n ≡ false → uncounted e w (i + 1) (drop i xs) ≡ Some (i + 1)
  stops = turn false

  pub goes_on : is_some n ≡ true → uncounted e w (i + 1) (drop i xs) ≡ uncounted e w ((i + 1) + 1) (drop (i + 1) xs)
  goes_on = turn true

-- the first character of a list that has none that is not allowed
pub first_allowed : (b : Bool) (k : ℕ) (rest : Option ℕ) → cond b rest (Some k) ≡ None → (b ≡ true) × (rest ≡ None)
first_allowed true k rest h = (refl, h)
first_allowed false k rest h = absurd (let z : ◌≡◌ {A = ℕ} 0 1 = cc in let n : ⊥ = omega arith in n)

-- a list of characters has none that is not allowed exactly where its parts have none
module _ (count : ℕ → ℕ → ℕ → Option ℕ) (w : ℕ) where
  front_step : (k y : ℕ) (ys cs : List ℕ) → (uncounted_by count w (k + 1) (ys ++ cs) ≡ None → uncounted_by count w (k + 1) ys ≡ None) → (b : Bool) →
      cond b (uncounted_by count w (k + 1) (ys ++ cs)) (Some k) ≡ None → cond b (uncounted_by count w (k + 1) ys) (Some k) ≡ None
  front_step k y ys cs h true q = h q
  front_step k y ys cs h false q = q

  pub uncounted_by_front : (k : ℕ) (ys cs : List ℕ) → uncounted_by count w k (ys ++ cs) ≡ None → uncounted_by count w k ys ≡ None
  uncounted_by_front k [] cs q = refl
  uncounted_by_front k (y ∷ ys) cs q = front_step k y ys cs (uncounted_by_front (k + 1) ys cs) (is_some (count w k y)) q

  back_step : (k y : ℕ) (ys cs : List ℕ) → (uncounted_by count w (k + 1) ys ≡ None → uncounted_by count w (k + 1) (ys ++ cs) ≡ uncounted_by count w ((k + 1) + length ys) cs) → (b : Bool) →
      cond b (uncounted_by count w (k + 1) ys) (Some k) ≡ None → cond b (uncounted_by count w (k + 1) (ys ++ cs)) (Some k) ≡ uncounted_by count w ((k + 1) + length ys) cs
  back_step k y ys cs h true q = h q
  back_step k y ys cs h false q = cc

  pub uncounted_by-append : (k : ℕ) (ys cs : List ℕ) → uncounted_by count w k ys ≡ None → uncounted_by count w k (ys ++ cs) ≡ uncounted_by count w (k + length ys) cs
  uncounted_by-append k [] cs q = let z : k ≡ k + 0 = omega arith in ap (λ (j : ℕ). uncounted_by count w j cs) z
  uncounted_by-append k (y ∷ ys) cs q =
      let z : (k + 1) + length ys ≡ k + length (y ∷ ys) = omega arith in
      back_step k y ys cs (uncounted_by-append (k + 1) ys cs) (is_some (count w k y)) q ∙ ap (λ (j : ℕ). uncounted_by count w j cs) z

module _ (e : Rules) (w : ℕ) where
  pub uncounted_front : (k : ℕ) (ys cs : List ℕ) → uncounted e w k (ys ++ cs) ≡ None → uncounted e w k ys ≡ None
  uncounted_front = uncounted_by_front e.count w

  pub uncounted-append : (k : ℕ) (ys cs : List ℕ) → uncounted e w k ys ≡ None → uncounted e w k (ys ++ cs) ≡ uncounted e w (k + length ys) cs
  uncounted-append = uncounted_by-append e.count w
