-- What a slip leaves as it was: the width, what stands behind the last changed place, and that a text is a text.
use Rattle.std.proofs.Common.{◌≡◌, ℕ, ◌+◌, ◌-◌, ◌≤◌, true, ◌≢◌, List, [], ◌∷◌, ◌++◌, length, get_or, drop, sym, refl, ap, ◌∙◌, arith, length-append}
use Rattle.std.proofs.ByRecursion.{All-append}
use Rattle.std.proofs.lemmas.List.{drop_at, drop-drop, get_or_at, get_or-append-add}
use Rattle.alphabet.specs.Characters.{is_character, Characters}
use Rattle.alphabet.specs.Readings.{Text}
use Rattle.alphabet.specs.Slips.{Slip, replaced, exchanged, last_changed}

pub slip_width : {x y : List ℕ} → Slip x y → length x ≡ length y
slip_width (replaced xs a b ys c d) = simp length-append
slip_width (exchanged xs a b ys d) = simp length-append

pub slip_within : {x y : List ℕ} (s : Slip x y) → last_changed s ≤ length x
slip_within (replaced xs a b ys c d) = simp length-append (omega arith)
slip_within (exchanged xs a b ys d) = simp length-append (omega arith)

past : (xs zs : List ℕ) (n : ℕ) → drop (length xs + n) (xs ++ zs) ≡ drop n zs
past xs zs n = sym (drop-drop n (length xs) (xs ++ zs)) ∙ ap (drop n) (drop_at xs zs (length xs) refl)

pub slip_rest : {x y : List ℕ} (s : Slip x y) → drop (last_changed s) x ≡ drop (last_changed s) y
slip_rest (replaced xs a b ys c d) = past xs (a ∷ ys) 1 ∙ sym (past xs (b ∷ ys) 1)
slip_rest (exchanged xs a b ys d) = past xs (a ∷ b ∷ ys) 2 ∙ sym (past xs (b ∷ a ∷ ys) 2)

-- there is a last changed place, and the two differ at it
pub slip_differs : {x y : List ℕ} (s : Slip x y) → (1 ≤ last_changed s) × (get_or x (last_changed s - 1) 0 ≢ get_or y (last_changed s - 1) 0)
slip_differs (replaced xs a b ys c d) =
    let n : length xs + 1 - 1 ≡ length xs = omega arith in
    (omega arith, rw n (λ h. d (sym (get_or_at xs a ys 0 (length xs) refl) ∙ h ∙ get_or_at xs b ys 0 (length xs) refl)))
slip_differs (exchanged xs a b ys d) =
    let n : length xs + 2 - 1 ≡ length xs + 1 = omega arith in
    (omega arith, rw n (λ h. d (sym (get_or-append-add xs (b ∷ a ∷ ys) 1 0) ∙ sym h ∙ get_or-append-add xs (a ∷ b ∷ ys) 1 0)))

split : (xs ys : List ℕ) → Characters (xs ++ ys) → Characters xs × Characters ys
split [] ys h = (tt, h)
split (x ∷ xs) ys (p, q) = let r = split xs ys q in ((p, r.0), r.1)

characters_slip : {x y : List ℕ} → Slip x y → Characters x → Characters y
characters_slip (replaced xs a b ys c d) h =
    let p = split xs (a ∷ ys) h in
    All-append (λ b. is_character b ≡ true) xs (b ∷ ys) p.0 (c, p.1.1)
characters_slip (exchanged xs a b ys d) h =
    let p = split xs (a ∷ b ∷ ys) h in
    All-append (λ b. is_character b ≡ true) xs (b ∷ a ∷ ys) p.0 (p.1.1.0, (p.1.0, p.1.1.1))

pub slip_text : {x y : List ℕ} → Slip x y → Text x → Text y
slip_text s t =
    let w = slip_width s in
    let a = t.some in
    let b = t.short in
    record { some = omega arith; short = omega arith; characters = characters_slip s t.characters }
