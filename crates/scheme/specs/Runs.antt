-- A run over two parts is the run over the second from where the first ends.
use Rattle.std.specs.Prelude.{◌≡◌, ℕ, ◌+◌, List, [], ◌∷◌, ◌++◌, length}
use Rattle.std.proofs.Common.{ap, ◌∙◌, arith}
use Rattle.scheme.specs.Meaning.{run_by}

pub run-append : {V : Type 0} (next : ℕ → ℕ → V → ℕ → V) (w k : ℕ) (v : V) (xs ys : List ℕ) → run_by next w k v (xs ++ ys) ≡ run_by next w (k + length xs) (run_by next w k v xs) ys
run-append next w k v [] ys = let e : k ≡ k + 0 = omega arith in ap (λ (j : ℕ). run_by next w j v ys) e
run-append next w k v (x ∷ xs) ys =
    let e : (k + 1) + length xs ≡ k + length (x ∷ xs) = omega arith in
    run-append next w (k + 1) (next w k v x) xs ys ∙ ap (λ (j : ℕ). run_by next w j (run_by next w (k + 1) (next w k v x) xs) ys) e
