-- What one more byte makes of the lines so far.
use Rattle.std.proofs.Common.{◌≡◌, ℕ, ◌<◌, false, eqb, List, [], ◌∷◌, ◌++◌, length, fold, sym, refl, ap, ◌∙◌, subst, append_assoc, append-nil, arith}
use Rattle.std.specs.List.{flat_map}
use Rattle.std.proofs.ByRecursion.{All-push}
use Rattle.std.proofs.lemmas.List.{flat_map_more}
use Rattle.std.proofs.lemmas.List.Sums.{fold_push}
use Rattle.std.proofs.lemmas.Bool.{cond-false, cond_both, eqb-true}
use Rattle.intake.specs.Inputs.{taken, fed, Plain, Split, or_none}

pub ends : (bytes : List ℕ) → fed (bytes ++ 10 ∷ []) ≡ ((fed bytes).0 ++ (fed bytes).1 ∷ [], [])
ends bytes = fold_push taken ([], []) bytes 10

pub goes_on : (bytes : List ℕ) (b : ℕ) → eqb b 10 ≡ false → fed (bytes ++ b ∷ []) ≡ ((fed bytes).0, (fed bytes).1 ++ b ∷ [])
goes_on bytes b e = fold_push taken ([], []) bytes b ∙ cond-false (eqb b 10) _ _ e

-- a line with the byte 10 behind it
abbrev ended : List ℕ → List ℕ
ended l = l ++ 10 ∷ []

split_ends : (bytes : List ℕ) (ls : List (List ℕ)) (l : List ℕ) → Split bytes ls l → Split (bytes ++ 10 ∷ []) (ls ++ l ∷ []) []
split_ends bytes ls l s =
    record {
      whole =
          append-nil (flat_map ended (ls ++ l ∷ []))
          ∙ sym (flat_map_more ended [] ls l)
          ∙ sym (append_assoc (flat_map ended ls) l (10 ∷ []))
          ∙ ap ended s.whole;
      lines = All-push Plain ls l s.lines s.last;
      last = tt;
    }

split_goes_on : (bytes : List ℕ) (ls : List (List ℕ)) (l : List ℕ) (b : ℕ) → eqb b 10 ≡ false → Split bytes ls l →
    Split (bytes ++ b ∷ []) ls (l ++ b ∷ [])
split_goes_on bytes ls l b e s =
    record {
      whole = sym (append_assoc (flat_map ended ls) l (b ∷ [])) ∙ ap (λ xs. xs ++ b ∷ []) s.whole;
      lines = s.lines;
      last = All-push (λ x. eqb x 10 ≡ false) l b s.last e;
    }

split_more : (bytes : List ℕ) (s : List (List ℕ) × List ℕ) (b : ℕ) → Split bytes s.0 s.1 →
    Split (bytes ++ b ∷ []) (taken s b).0 (taken s b).1
split_more bytes s b h =
    cond_both {A = List (List ℕ) × List ℕ} (eqb b 10) (s.0 ++ s.1 ∷ [], []) (s.0, s.1 ++ b ∷ []) (λ t. Split (bytes ++ b ∷ []) t.0 t.1)
    (λ e. let at : b ≡ 10 = eqb-true b 10 e in rw at (split_ends bytes s.0 s.1 h))
    (λ e. split_goes_on bytes s.0 s.1 b e h)

split_all : (more bytes : List ℕ) (s : List (List ℕ) × List ℕ) → Split bytes s.0 s.1 →
    Split (bytes ++ more) (fold taken s more).0 (fold taken s more).1
split_all [] bytes s h = rw append-nil h
split_all (b ∷ more) bytes s h =
    subst (λ (xs : List ℕ). Split xs (fold taken (taken s b) more).0 (fold taken (taken s b) more).1)
    (append_assoc bytes (b ∷ []) more) (split_all more (bytes ++ b ∷ []) (taken s b) (split_more bytes s b h))

pub splits : (bytes : List ℕ) → Split bytes (fed bytes).0 (fed bytes).1
splits bytes = split_all bytes [] ([], []) (record { whole = refl; lines = tt; last = tt })

-- an open line that holds something is a line
pub or_one : (l : List ℕ) → 0 < length l → or_none l ≡ l ∷ []
or_one [] h = absurd (omega arith)
or_one (b ∷ bs) h = refl
