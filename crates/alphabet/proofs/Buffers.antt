-- What a buffer holds after some more bytes: the first of what it held and these, as many as it has room for.
use Rattle.std.proofs.Common.{◌≡◌, ℕ, zero, suc, ◌+◌, ◌-◌, ◌≤◌, min, List, [], ◌∷◌, ◌++◌, length, take, sym, refl, ap, ◌∙◌, arith, length-take}
use borrow.Rule.Slice.PartMut.{put_mid}
use Rattle.std.proofs.lemmas.Slice.{take-put_mid}
use Rattle.std.proofs.Math.Seq.{take-append-add}
use Rattle.std.proofs.lemmas.List.{take_min}

take_past : (n : ℕ) (p q : List ℕ) → length p ≤ n → take n (p ++ q) ≡ p ++ take (n - length p) q
take_past n p q h =
    let e : n ≡ length p + (n - length p) = omega arith in
    ap (λ (j : ℕ). take j (p ++ q)) e ∙ take-append-add p q (n - length p)

pub extended : (n w k m : ℕ) (b xs p : List ℕ) → length b ≡ n → w ≤ n → k ≡ min (length xs) (n - w) → m ≡ k → p ≡ take k xs → take (w + k) (put_mid w m b p) ≡ take n (take w b ++ xs)
extended n w k m b xs p l h e q f =
    let front : length (take w b) ≡ w = length-take w b ∙ omega arith in
    let long : length p ≡ k = ap length f ∙ length-take k xs ∙ omega arith in
    let room : n - length (take w b) ≡ n - w = omega arith in
    let rest : take k xs ≡ take (n - w) xs = ap (λ (j : ℕ). take j xs) (e ∙ omega arith) ∙ take_min (n - w) xs in
    take-put_mid w m b p (w + k) (omega arith) (omega arith)
    ∙ ap (λ (ys : List ℕ). take w b ++ ys) (f ∙ rest ∙ ap (λ (j : ℕ). take j xs) (sym room))
    ∙ sym (take_past n (take w b) xs (omega arith))

-- what was let go before makes no difference
pub kept_more : (n : ℕ) (xs ys : List ℕ) → take n (take n xs ++ ys) ≡ take n (xs ++ ys)
kept_more zero xs ys = refl
kept_more (suc n) [] ys = refl
kept_more (suc n) (x ∷ xs) ys = ap (λ (zs : List ℕ). x ∷ zs) (kept_more n xs ys)
