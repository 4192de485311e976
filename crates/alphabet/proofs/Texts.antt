-- What the refusals before any scheme leave: a text of 1 to 34 characters, and its reading.
use Rattle.std.proofs.Common.{◌≡◌, ℕ, ◌+◌, ◌≤◌, Bool, true, false, cond, not, position, option_map, ◌||◌, eqb, ltb, List, [], ◌∷◌, ◌++◌, length, take, drop, Some, None, refl, ap, ◌∙◌, arith, length-append, length-drop, length-take}
use Rattle.std.proofs.ByRecursion.{All-append, All-take, All-drop}
use Rattle.std.proofs.lemmas.List.{append-nil, take_all}
use Rattle.std.proofs.lemmas.Bool.Decides.{nat_tests}
use Rattle.std.proofs.lemmas.Iterator.Adapters.{position_from-zero}
use Rattle.std.specs.List.{position_from}
use Rattle.alphabet.specs.Characters.{is_character, Characters}
use Rattle.alphabet.specs.Readings.{reading, moved_by, Text, stray_at, narrow, opening}
use Rattle.alphabet.specs.declared.turn.Turn.{Turn}
use Rattle.alphabet.specs.declared.turn.Turn.TheVariants.{Straight, Turned}

some_none : (k : ℕ) → Some k ≡ None → ⊥
some_none k e = let z : ◌≡◌ {A = ℕ} 0 1 = cc in omega arith

one_more : (k b : ℕ) (bs : List ℕ) → (stray_at (k + 1) bs ≡ None → Characters bs) → (v : Bool) → is_character b ≡ v → cond v (stray_at (k + 1) bs) (Some k) ≡ None → Characters (b ∷ bs)
one_more k b bs h true p q = (p, h q)
one_more k b bs h false p q = absurd (some_none k q)

pub stray_none : (k : ℕ) (t : List ℕ) → stray_at k t ≡ None → Characters t
stray_none k [] e = tt
stray_none k (b ∷ bs) e = one_more k b bs (stray_none (k + 1) bs) (is_character b) refl e

pub none_stray : (k : ℕ) (t : List ℕ) → Characters t → stray_at k t ≡ None
none_stray k [] h = refl
none_stray k (b ∷ bs) (p, q) = ap (λ (v : Bool). cond v (stray_at (k + 1) bs) (Some k)) p ∙ none_stray (k + 1) bs q

pub length-reading : (turn : Turn) (t : List ℕ) → length (reading turn t) ≡ length t
length-reading Straight t = refl
length-reading Turned t = simp (length-append, length-drop, length-take) (omega arith)

pub reading-text : (turn : Turn) (t : List ℕ) → Text t → Text (reading turn t)
reading-text Straight t h = h
reading-text Turned t h =
    let l = length-reading Turned t in
    let a = h.some in
    let b = h.short in
    record { some = omega arith; short = omega arith; characters = All-append (λ b. is_character b ≡ true) (drop 4 t) (take 4 t) (All-drop _ 4 t h.characters) (All-take _ 4 t h.characters) }

-- the first stray byte, as the library's search finds it
stray_from : (k : ℕ) (t : List ℕ) → option_map (λ i. i + 1) (position_from (λ b. not (is_character b)) k t) ≡ stray_at (k + 1) t
stray_from k [] = refl
stray_from k (b ∷ bs) = let rest = stray_from (k + 1) bs in grind (arith, nat_tests)

pub stray_position : (t : List ℕ) → option_map (λ i. i + 1) (position (λ b. not (is_character b)) t) ≡ stray_at 1 t
stray_position t = ap (option_map (λ i. i + 1)) (position_from-zero (λ b. not (is_character b)) t) ∙ stray_from 0 t

-- what a buffer of 34 bytes holds after the rest of a text and then the characters that the turn moves
pub reading_held : (turn : Turn) (t h g : List ℕ) → length t ≤ 34 → h ≡ take 34 (drop (moved_by turn) t) → g ≡ take 34 (h ++ take (moved_by turn) t) → g ≡ reading turn t
reading_held Straight t h g l a b =
    let h' : h ≡ t = a ∙ take_all 34 t l in
    b ∙ ap (take 34) (append-nil h) ∙ ap (take 34) h' ∙ take_all 34 t l
reading_held Turned t h g l a b =
    let long : length (drop 4 t) ≤ 34 = simp length-drop (omega arith) in
    let whole : length (drop 4 t ++ take 4 t) ≤ 34 = simp (length-append, length-drop, length-take) (omega arith) in
    b ∙ ap (λ (xs : List ℕ). take 34 (xs ++ take 4 t)) (a ∙ take_all 34 (drop 4 t) long) ∙ take_all 34 (drop 4 t ++ take 4 t) whole

-- no refusal before any scheme
pub opening_none : (turn : Turn) (t : List ℕ) → opening turn t ≡ None → Text t × (narrow turn (length t) ≡ false)
opening_none turn t e =
    let w : (eqb (length t) 0 || ltb 34 (length t)) ≡ false = grind (arith, nat_tests) in
    let s : stray_at 1 t ≡ None = grind (arith, nat_tests) in
    let n : narrow turn (length t) ≡ false = grind (arith, nat_tests) in
    (record { some = grind (arith, nat_tests); short = grind (arith, nat_tests); characters = stray_none 1 t s }, n)

pub none_opening : (turn : Turn) (t : List ℕ) → Text t → narrow turn (length t) ≡ false → opening turn t ≡ None
none_opening turn t h n =
    let s = none_stray 1 t h.characters in
    let a = h.some in
    let b = h.short in
    grind (arith, nat_tests)
