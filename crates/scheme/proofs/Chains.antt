-- What the chains over readings give: a run, the first place of a character that is not allowed, the last place at which two differ.
use Rattle.std.specs.Prelude.{◌≡◌, ℕ, zero, suc, ◌+◌, ◌-◌, Bool, true, false, cond, not, List, [], ◌∷◌, length, is_some, Some, Option, ◌==◌, slice_index, refl}
use Rattle.std.proofs.Common.{sym, ap, ◌∙◌, subst, arith}
use native.Mathlib.Nat.{sub-zero}
use Rattle.std.specs.List.{fold, find, enumerate_from, position_from}
use Rattle.std.specs.Option.{option_map, option_map_or}
use Rattle.std.specs.declared.ops.Range.{Range}
use Rattle.std.specs.declared.iter.Rev.{Rev}
use Rattle.std.specs.Iterator.Adapters.{rev_source, rev_steps}
use Rattle.std.specs.Range.{range_steps_back}
use Rattle.std.proofs.lemmas.Iterator.{YieldsList}
use Rattle.std.proofs.lemmas.Iterator.Consumers.{YieldsList-from_shown}
use Rattle.scheme.specs.Slips.{last_below}
use Rattle.scheme.specs.Meaning.{run_by}
use Rattle.scheme.specs.Rules.{Rules, uncounted}

-- the index of a place is one less than the place
pub folded : {V : Type 0} (next : ℕ → ℕ → V → ℕ → V) (w k : ℕ) (v : V) (xs : List ℕ) → fold (λ a p. next w (p.0 + 1) a p.1) v (enumerate_from k xs) ≡ run_by next w (k + 1) v xs
folded next w k v [] = refl
folded next w k v (x ∷ xs) = folded next w (k + 1) (next w (k + 1) v x) xs

module _ (e : Rules) (w : ℕ) where
  abbrev pub stray_at : ℕ × ℕ → Bool
  stray_at p = not (is_some (e.count w (p.0 + 1) p.1))

  found_step : (k : ℕ) (o rest : Option ℕ) → option_map (λ n. n + 1) o ≡ rest → (b : Bool) → option_map (λ n. n + 1) (cond (not b) (Some k) o) ≡ cond b rest (Some (k + 1))
  found_step k o rest h true = h
  found_step k o rest h false = refl

  pub found : (k : ℕ) (xs : List ℕ) → option_map (λ n. n + 1) (position_from stray_at k (enumerate_from k xs)) ≡ uncounted e w (k + 1) xs
  found k [] = refl
  found k (x ∷ xs) = found_step k (position_from stray_at (k + 1) (enumerate_from (k + 1) xs)) (uncounted e w ((k + 1) + 1) xs) (found (k + 1) xs) (is_some (e.count w (k + 1) x))

-- n numbers from a on, the last first
abbrev pub downward : ℕ → ℕ → List ℕ
downward a zero = []
downward a (suc n) = (a + n) ∷ downward a n

downward_step : (a n m x : ℕ) → n ≡ suc m → x ≡ a + m → downward a n ≡ x ∷ downward a m
downward_step a n m x e f = ap (downward a) e ∙ ap (λ y. y ∷ downward a m) (sym f)

-- a range taken from its end
abbrev pub back_steps : Rev (Range ℕ) → Option ℕ → Rev (Range ℕ) → Type 0
back_steps = rev_steps (range_steps_back (λ a b. b - a) (λ a b. b ≡ a + 1))

pub downward_from : (s : Rev (Range ℕ)) (n : ℕ) → rev_source s ≡ record { start = 0; end = n } → YieldsList back_steps (λ x. x) s (downward 0 n)
downward_from s n e =
    let gap : Range ℕ → ℕ = λ r. r.end - r.start in
    let shown : Rev (Range ℕ) → List ℕ = λ t. downward (rev_source t).start (gap (rev_source t)) in
    let all = YieldsList-from_shown back_steps (λ x. x) shown
    (λ t u p. ap (λ k. length (downward (rev_source t).start k)) p.1.0)
    (λ t x u p. downward_step (rev_source t).start (gap (rev_source t)) (gap (rev_source u)) x (omega (arith, p.0, p.1.0, p.1.2)) (omega (arith, p.0, p.1.0, p.1.1, p.1.2))
    ∙ ap (λ a. x ∷ downward a (gap (rev_source u))) (sym p.0)) s in
    subst (YieldsList back_steps (λ x. x) s) (ap (λ r. downward r.start (gap r)) e ∙ ap (downward 0) (sub-zero n)) all

-- the last place at which two lists differ
module _ (x y : List ℕ) where
  abbrev pub differs : ℕ → Bool
  differs i = not (slice_index x i == slice_index y i)

  last_step : (n below : ℕ) (o : Option ℕ) → option_map_or (λ i. i + 1) o 0 ≡ below → (b : Bool) → option_map_or (λ i. i + 1) (cond (not b) (Some n) o) 0 ≡ cond b below (suc n)
  last_step n below o h true = h
  last_step n below o h false = omega arith

  pub last_found : (n : ℕ) → option_map_or (λ i. i + 1) (find differs (downward 0 n)) 0 ≡ last_below x y n
  last_found zero = refl
  last_found (suc n) =
      let z : 0 + n ≡ n = omega arith in
      rw z (last_step n (last_below x y n) (find differs (downward 0 n)) (last_found n) (slice_index x n == slice_index y n))
