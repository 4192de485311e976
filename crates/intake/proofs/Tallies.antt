-- Verdicts of lines, and totals that count them.
use Rattle.std.proofs.Common.{◌≡◌, ℕ, ◌+◌, ◌<◌, ◌≤◌, min, cond, List, [], ◌∷◌, ◌++◌, map, length, take, is_ok, is_err, Ok, Err, count_by, Result, leb, sym, refl, ap, ◌∙◌, inl, inr, arith}
use Rattle.std.proofs.lemmas.List.{length_push, length-map, length-take, take_all, take-append-le, map_push}
use Rattle.std.proofs.lemmas.List.Sums.{sum_by-cons}
use Rattle.std.proofs.lemmas.Grind.{common_steps}
use Rattle.std.proofs.lemmas.Bool.{cases_lt, lt-leb, le-leb}
use Rattle.std.proofs.lemmas.Bool.Decides.{nat_tests}
use Rattle.intake.specs.Lines.{line_verdict}
use Rattle.intake.specs.Inputs.{most_lines, verdicts, Counts, Noted}
use Rattle.intake.specs.declared.totals.Totals.{Totals}

-- each verdict is counted once
both_ways : {A E : Type 0} (vs : List (Result A E)) → count_by is_ok vs + count_by is_err vs ≡ length vs
both_ways [] = refl
both_ways (Ok a ∷ vs) =
    omega (arith, sum_by-cons (λ v. cond (is_ok v) 1 0) (Ok a) vs, sum_by-cons (λ v. cond (is_err v) 1 0) (Ok a) vs, both_ways vs)
both_ways (Err e ∷ vs) =
    omega (arith, sum_by-cons (λ v. cond (is_ok v) 1 0) (Err e) vs, sum_by-cons (λ v. cond (is_err v) 1 0) (Err e) vs, both_ways vs)

pub counted : (t : Totals) (ls : List (List ℕ)) → Counts t ls → t.ok + t.refused ≡ min most_lines (length ls)
counted t ls h =
    let both = both_ways (verdicts ls) in
    let n = length-map (take most_lines ls) line_verdict ∙ length-take most_lines ls in
    omega (arith, h.ok, h.refused, both, n)

-- one more line
one_more : (ls : List (List ℕ)) (l : List ℕ) → length ls < most_lines → verdicts (ls ++ l ∷ []) ≡ verdicts ls ++ line_verdict l ∷ []
one_more ls l h =
    ap (map line_verdict) (take_all most_lines (ls ++ l ∷ []) (omega (arith, length_push ls l)))
    ∙ map_push line_verdict ls l
    ∙ ap (λ xs. map line_verdict xs ++ line_verdict l ∷ []) (sym (take_all most_lines ls (omega arith)))

-- past a million lines the totals stand, whatever follows
pub stand : (t : Totals) (ls more : List (List ℕ)) → Counts t ls → most_lines ≤ length ls → Counts t (ls ++ more)
stand t ls more h w =
    let same : verdicts (ls ++ more) ≡ verdicts ls = ap (map line_verdict) (take-append-le most_lines ls more w) in
    record {
      ok = h.ok ∙ ap (count_by is_ok) (sym same);
      refused = h.refused ∙ ap (count_by is_err) (sym same);
    }

-- before that a verdict is one more
pub noted : (t t' : Totals) (ls : List (List ℕ)) (l : List ℕ) → Counts t ls → length ls < most_lines →
    Noted t (line_verdict l) t' → Counts t' (ls ++ l ∷ [])
noted t t' ls l h w n =
    let few = counted t ls h in
    let more = one_more ls l w in
    record { ok = grind (arith, common_steps, nat_tests); refused = grind (arith, common_steps, nat_tests) }

-- the count has reached the most lines exactly where the lines have
pub full_by : (most n k : ℕ) → n ≡ min most k → leb most n ≡ leb most k
full_by most n k e =
    elim (cases_lt k most) [
      | inl below ↦ lt-leb most n (omega arith) ∙ sym (lt-leb most k below)
      | inr reached ↦ le-leb most n (omega arith) ∙ sym (le-leb most k reached)
    ]
