-- What an intake holds and answers after one more byte, and at the end.
use Rattle.std.proofs.Common.{◌≡◌, ℕ, ◌<◌, ◌≤◌, ◌⊎◌, inl, inr, false, eqb, ltb, List, [], ◌∷◌, ◌++◌, length, take, Some, None, Result, sym, ap, ◌∙◌, subst, append-nil, arith}
use Rattle.std.proofs.lemmas.List.{length_push, length-take, nil_from_length}
use Rattle.std.proofs.lemmas.List.Sums.{fold_push}
use Rattle.std.proofs.lemmas.Bool.{cases_lt, cond-true, cond-false, cond_both, lt-ltb, le-ltb}
use Rattle.std.proofs.lemmas.Bool.Decides.{nat_tests}
use Rattle.alphabet.specs.declared.fault.Fault.{Fault}
use Rattle.alphabet.proofs.Buffers.{kept_more}
use Rattle.intake.specs.Lines.{line_verdict}
use Rattle.intake.specs.Inputs.{most_lines, taken, fed, input_lines, or_none, ended_input, kept_bytes, line_bytes, Counts, Noted, Closed, Reads, told, told_last}
use Rattle.intake.specs.declared.input.Intake.{Intake}
use Rattle.intake.proofs.Feeding.{ends, goes_on, or_one}
use Rattle.intake.proofs.Kept.{kept_verdict}
use Rattle.intake.proofs.Tallies.{stand, noted}

reads_at : (i : Intake) (bytes : List ℕ) (s : List (List ℕ) × List ℕ) → fed bytes ≡ s → Counts i.totals s.0 →
    (length s.0 < most_lines → line_bytes i.line ≡ take kept_bytes s.1) → Reads i bytes
reads_at i bytes s e counts line =
    record {
      counts = subst (λ (t : List (List ℕ) × List ℕ). Counts i.totals t.0) (sym e) counts;
      line =
          subst (λ (t : List (List ℕ) × List ℕ). length t.0 < most_lines → line_bytes i.line ≡ take kept_bytes t.1) (sym e)
          line;
    }

-- the open line ends, while fewer than a million have ended
closed_verdict : (i i' : Intake) (v : Result (Unit {0}) Fault) (bytes : List ℕ) → Reads i bytes →
    length (fed bytes).0 < most_lines → Closed i v i' → v ≡ line_verdict (fed bytes).1
closed_verdict i i' v bytes r w h = h.verdict ∙ ap line_verdict (r.line w) ∙ kept_verdict (fed bytes).1

closed_counts : (i i' : Intake) (v : Result (Unit {0}) Fault) (bytes : List ℕ) → Reads i bytes →
    length (fed bytes).0 < most_lines → Closed i v i' → Counts i'.totals ((fed bytes).0 ++ (fed bytes).1 ∷ [])
closed_counts i i' v bytes r w h =
    let same = closed_verdict i i' v bytes r w h in
    let totals =
    subst (λ (u : Result (Unit {0}) Fault). Noted i.totals u i'.totals) same h.totals in
    noted i.totals i'.totals (fed bytes).0 (fed bytes).1 r.counts w totals

-- a line end
pub end_read : (i i' : Intake) (v : Result (Unit {0}) Fault) (bytes : List ℕ) → Reads i bytes →
    length (fed bytes).0 < most_lines → Closed i v i' → Reads i' (bytes ++ 10 ∷ [])
end_read i i' v bytes r w h =
    reads_at i' (bytes ++ 10 ∷ []) ((fed bytes).0 ++ (fed bytes).1 ∷ [], []) (ends bytes) (closed_counts i i' v bytes r w h) (λ _. h.line)

pub end_told : (i i' : Intake) (v : Result (Unit {0}) Fault) (bytes : List ℕ) → Reads i bytes →
    length (fed bytes).0 < most_lines → Closed i v i' → Some v ≡ told bytes 10
end_told i i' v bytes r w h = let same = closed_verdict i i' v bytes r w h in grind (arith, nat_tests)

-- any other byte, also after a million lines
pub byte_read : (i i' : Intake) (bytes : List ℕ) (b : ℕ) → Reads i bytes →
    eqb b 10 ≡ false → i'.totals ≡ i.totals → line_bytes i'.line ≡ take kept_bytes (line_bytes i.line ++ b ∷ []) →
    Reads i' (bytes ++ b ∷ [])
byte_read i i' bytes b r e t h =
    let ls = (fed bytes).0 in
    let l = (fed bytes).1 in
    reads_at i' (bytes ++ b ∷ []) (ls, l ++ b ∷ []) (goes_on bytes b e) (rw t r.counts)
    (λ w. h ∙ ap (λ xs. take kept_bytes (xs ++ b ∷ [])) (r.line w) ∙ kept_more kept_bytes l (b ∷ []))

-- a byte after a million lines
pub full_read : (i : Intake) (bytes : List ℕ) (b : ℕ) → Reads i bytes → most_lines ≤ length (fed bytes).0 → Reads i (bytes ++ b ∷ [])
full_read i bytes b r w =
    let ls = (fed bytes).0 in
    let l = (fed bytes).1 in
    let after =
    cond_both {A = List (List ℕ) × List ℕ} (eqb b 10) (ls ++ l ∷ [], []) (ls, l ++ b ∷ [])
    (λ s. Counts i.totals s.0 × (most_lines ≤ length s.0))
    (λ _. (stand i.totals ls (l ∷ []) r.counts w, omega (arith, length_push ls l)))
    (λ _. (r.counts, w)) in
    reads_at i (bytes ++ b ∷ []) (taken (fed bytes) b) (fold_push taken ([], []) bytes b) after.0 (λ k. absurd (omega (arith, after.1)))

-- the end of the input, where no line is open or a million have ended
last_full : (i : Intake) (bytes : List ℕ) → Reads i bytes → most_lines ≤ length (fed bytes).0 →
    Reads i (ended_input bytes) × Counts i.totals (input_lines bytes) × (None ≡ told_last bytes)
last_full i bytes r w =
    let ls = (fed bytes).0 in
    let l = (fed bytes).1 in (
      cond_both (ltb 0 (length l)) (bytes ++ 10 ∷ []) bytes (Reads i) (λ _. full_read i bytes 10 r w) (λ _. r),
      stand i.totals ls (or_none l) r.counts w,
      grind (arith, nat_tests),
    )

last_empty : (i : Intake) (bytes : List ℕ) → Reads i bytes → length (fed bytes).0 < most_lines →
    length (line_bytes i.line) ≡ 0 → Reads i (ended_input bytes) × Counts i.totals (input_lines bytes) × (None ≡ told_last bytes)
last_empty i bytes r w h =
    let ls = (fed bytes).0 in
    let l = (fed bytes).1 in
    let n : length l ≡ 0 = omega (arith, ap length (r.line w), length-take kept_bytes l) in
    let none : l ≡ [] = nil_from_length l n in
    let same : ls ++ or_none l ≡ ls = ap (λ xs. ls ++ or_none xs) none ∙ append-nil ls in (
      subst (Reads i) (sym (cond-false (ltb 0 (length l)) (bytes ++ 10 ∷ []) bytes (le-ltb 0 (length l) (omega arith)))) r,
      subst (Counts i.totals) (sym same) r.counts,
      grind (arith, nat_tests),
    )

pub last_none : (i : Intake) (bytes : List ℕ) → Reads i bytes →
    (most_lines ≤ length (fed bytes).0) ⊎ (length (line_bytes i.line) ≡ 0) →
    Reads i (ended_input bytes) × Counts i.totals (input_lines bytes) × (None ≡ told_last bytes)
last_none i bytes r (inl full) = last_full i bytes r full
last_none i bytes r (inr empty) =
    elim (cases_lt (length (fed bytes).0) most_lines) [
      | inl w ↦ last_empty i bytes r w empty
      | inr full ↦ last_full i bytes r full
    ]

-- the end of the input, where the last line lacks its end
pub last_line : (i i' : Intake) (v : Result (Unit {0}) Fault) (bytes : List ℕ) → Reads i bytes →
    length (fed bytes).0 < most_lines → 0 < length (line_bytes i.line) → Closed i v i' →
    Reads i' (ended_input bytes) × Counts i'.totals (input_lines bytes) × (Some v ≡ told_last bytes)
last_line i i' v bytes r w k h =
    let ls = (fed bytes).0 in
    let l = (fed bytes).1 in
    let n : 0 < length l = omega (arith, ap length (r.line w), length-take kept_bytes l) in
    let one : ls ++ or_none l ≡ ls ++ l ∷ [] = ap (λ xs. ls ++ xs) (or_one l n) in
    let same = closed_verdict i i' v bytes r w h in (
      subst (Reads i') (sym (cond-true (ltb 0 (length l)) (bytes ++ 10 ∷ []) bytes (lt-ltb 0 (length l) n))) (end_read i i' v bytes r w h),
      subst (Counts i'.totals) (sym one) (closed_counts i i' v bytes r w h),
      grind (arith, nat_tests),
    )
