-- A key and its number answer each other.
use Rattle.std.proofs.Common.{◌≡◌, ℕ, ◌+◌, ◌*◌, ◌/◌, ◌%◌, ◌<◌, ◌≤◌, true, List, [], ◌∷◌, length, is_some, Some, None, Option, unwrap_or, sym, refl, ap, ◌∙◌, mod-lt, mod-eq_of_lt, mul_comm, arith}
use native.Mathlib.Nat.{div-add-mod, mul-add-mod_self_left}
use Rattle.std.proofs.lemmas.Nat.{div_below, div-mul-add}
use Rattle.std.proofs.lemmas.Bool.{cond-true, lt-ltb}
use Rattle.std.specs.List.{AllByRecursion}
use Rattle.alphabet.specs.Characters.{is_character, Characters}
use Rattle.alphabet.specs.Counts.{size, count_of, symbol_of}
use Rattle.alphabet.specs.declared.counts.Alphabet.{Alphabet}
use Rattle.alphabet.specs.declared.counts.Alphabet.TheVariants.{Digits, DigitsX, Letters, Alphanumeric, Full}
use Rattle.alphabet.proofs.Alphabets.{count_symbol, count_below, symbol_count, symbol_character}
use Rattle.keys.specs.KeyRanges.{keys_of, count_in, number_by, number_of, symbol_in, symbols_by}
use Rattle.keys.specs.declared.range.KeyLength.{KeyLength}
use Rattle.keys.specs.declared.range.KeyLength.TheVariants.{One, Two}
use Rattle.keys.specs.declared.range.KeyRange.{KeyRange}

-- the key's alphabet can write every number of the range
abbrev pub RoomBy : KeyLength → ℕ → ℕ → Type 0
RoomBy One n s = s ≤ n
RoomBy Two n s = s ≤ n * n

abbrev pub Room : KeyRange → Type 0
Room r = RoomBy r.length (size r.alphabet) (r.least + r.many)

-- a list of one, and of two
pub one_left : (zs : List ℕ) → length zs ≡ 1 → (c : ℕ) × (zs ≡ c ∷ [])
one_left [] h = absurd (let n : ⊥ = omega arith in n)
one_left (c ∷ []) h = (c, refl)
one_left (c ∷ d ∷ zs) h = absurd (let n : ⊥ = omega arith in n)

pub two_left : (zs : List ℕ) → length zs ≡ 2 → (c : ℕ) × (d : ℕ) × (zs ≡ c ∷ d ∷ [])
two_left [] h = absurd (let n : ⊥ = omega arith in n)
two_left (c ∷ []) h = absurd (let n : ⊥ = omega arith in n)
two_left (c ∷ d ∷ []) h = (c, d, refl)
two_left (c ∷ d ∷ x ∷ zs) h = absurd (let n : ⊥ = omega arith in n)

pub some_of : (o : Option ℕ) → is_some o ≡ true → (n : ℕ) × (o ≡ Some n)
some_of None h = absurd (let z : ◌≡◌ {A = ℕ} 0 1 = cc in let n : ⊥ = omega arith in n)
some_of (Some n) h = (n, refl)

pub size_positive : (a : Alphabet) → 0 < size a
size_positive Digits = omega arith
size_positive DigitsX = omega arith
size_positive Letters = omega arith
size_positive Alphanumeric = omega arith
size_positive Full = omega arith

-- the count and the remainder of a number in base n
quotient : (n a b : ℕ) → b < n → (n * a + b) / n ≡ a
quotient n a b h = let e : n * a + b ≡ a * n + b = omega (arith, mul_comm n a) in ap (λ (x : ℕ). x / n) e ∙ div-mul-add a n b h

remainder_of : (n a b : ℕ) → b < n → (n * a + b) % n ≡ b
remainder_of n a b h = mul-add-mod_self_left n a b ∙ mod-eq_of_lt h

module _ (r : KeyRange) where
  -- a count of the alphabet, written and read
  symbol_is : (n : ℕ) → n < size r.alphabet → symbol_in r n ≡ symbol_of r.alphabet n
  symbol_is n h = cond-true _ _ _ (lt-ltb n (size r.alphabet) h)

  read : (n : ℕ) → n < size r.alphabet → count_of r.alphabet (symbol_in r n) ≡ Some n
  read n h = ap (count_of r.alphabet) (symbol_is n h) ∙ count_symbol r.alphabet n h

  count_read : (n : ℕ) → n < size r.alphabet → count_in r (symbol_in r n) ≡ n
  count_read n h = ap (λ (o : Option ℕ). unwrap_or o 0) (read n h)

  character : (n : ℕ) → n < size r.alphabet → is_character (symbol_in r n) ≡ true
  character n h = ap is_character (symbol_is n h) ∙ symbol_character r.alphabet n h

  -- a character of the alphabet, read and written
  written : (c : ℕ) → is_some (count_of r.alphabet c) ≡ true → (count_in r c < size r.alphabet) × (symbol_in r (count_in r c) ≡ c)
  written c h =
      let n = some_of (count_of r.alphabet c) h in
      let is : count_in r c ≡ n.0 = ap (λ (o : Option ℕ). unwrap_or o 0) n.1 in
      let low = count_below r.alphabet c n.0 n.1 in
      (omega arith, ap (symbol_in r) is ∙ symbol_is n.0 low ∙ symbol_count r.alphabet c n.0 n.1)

  -- both characters of a number below the square of the size are of the alphabet
  high : (n : ℕ) → n < size r.alphabet * size r.alphabet → n / size r.alphabet < size r.alphabet
  high n h = div_below n (size r.alphabet) (size r.alphabet) (size_positive r.alphabet) h

  low : (n : ℕ) → n % size r.alphabet < size r.alphabet
  low n = mod-lt n (size_positive r.alphabet)

  abbrev pub Allowed : List ℕ → Type 0
  Allowed ks = AllByRecursion (λ c. is_some (count_of r.alphabet c) ≡ true) ks

  pub symbols_length : (l : KeyLength) (n : ℕ) → length (symbols_by l r n) ≡ keys_of l
  symbols_length One n = refl
  symbols_length Two n = refl

  pub symbols_characters : (l : KeyLength) (s n : ℕ) → RoomBy l (size r.alphabet) s → n < s → Characters (symbols_by l r n)
  symbols_characters One s n room h = (character n (omega arith), tt)
  symbols_characters Two s n room h = (character (n / size r.alphabet) (high n (omega arith)), (character (n % size r.alphabet) (low n), tt))

  pub symbols_allowed : (l : KeyLength) (s n : ℕ) → RoomBy l (size r.alphabet) s → n < s → Allowed (symbols_by l r n)
  symbols_allowed One s n room h = (ap is_some (read n (omega arith)), tt)
  symbols_allowed Two s n room h = (ap is_some (read (n / size r.alphabet) (high n (omega arith))), (ap is_some (read (n % size r.alphabet) (low n)), tt))

  abbrev number_in : KeyLength → ℕ → ℕ → ℕ
  number_in l c d = number_by l (size r.alphabet) (count_in r c) (count_in r d)

  -- the number of a number's key is that number
  pub symbols_number : (l : KeyLength) (s n : ℕ) → RoomBy l (size r.alphabet) s → n < s → r.length ≡ l → number_of r (symbols_by l r n) ≡ n
  symbols_number One s n room h e =
      ap (λ (l : KeyLength). number_in l (symbol_in r n) 0) e ∙ count_read n (omega arith)
  symbols_number Two s n room h e =
      let m = size r.alphabet in
      ap (λ (l : KeyLength). number_in l (symbol_in r (n / m)) (symbol_in r (n % m))) e
      ∙ ap (λ (a : ℕ). m * a + count_in r (symbol_in r (n % m))) (count_read (n / m) (high n (omega arith)))
      ∙ ap (λ (b : ℕ). m * (n / m) + b) (count_read (n % m) (low n))
      ∙ div-add-mod n m

  -- and the key of a key's number is that key
  pub number_symbols : (l : KeyLength) (ks : List ℕ) → r.length ≡ l → length ks ≡ keys_of l → Allowed ks → ks ≡ symbols_by l r (number_of r ks)
  number_symbols One [] e h a = absurd (let n : ⊥ = omega arith in n)
  number_symbols One (c ∷ []) e h (a, t) =
      let n = ap (λ (l : KeyLength). number_in l c 0) e in
      ap (λ (x : ℕ). x ∷ []) (sym (written c a).1 ∙ ap (symbol_in r) (sym n))
  number_symbols One (c ∷ d ∷ ks) e h a = absurd (let n : ⊥ = omega arith in n)
  number_symbols Two [] e h a = absurd (let n : ⊥ = omega arith in n)
  number_symbols Two (c ∷ []) e h a = absurd (let n : ⊥ = omega arith in n)
  number_symbols Two (c ∷ d ∷ []) e h (a, (b, t)) =
      let m = size r.alphabet in
      let n : number_of r (c ∷ d ∷ []) ≡ m * count_in r c + count_in r d = ap (λ (l : KeyLength). number_in l c d) e in
      let below = (written d b).0 in
      let one = ap (λ (x : ℕ). x / m) n ∙ quotient m (count_in r c) (count_in r d) below in
      let two = ap (λ (x : ℕ). x % m) n ∙ remainder_of m (count_in r c) (count_in r d) below in
      ap (λ (x : ℕ). x ∷ d ∷ []) (sym (written c a).1 ∙ ap (symbol_in r) (sym one))
      ∙ ap (λ (x : ℕ). symbol_in r (number_of r (c ∷ d ∷ []) / m) ∷ x ∷ []) (sym (written d b).1 ∙ ap (symbol_in r) (sym two))
  number_symbols Two (c ∷ d ∷ x ∷ ks) e h a = absurd (let n : ⊥ = omega arith in n)
