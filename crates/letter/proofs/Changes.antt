-- What two characters change at one place, or at two neighbouring ones, and so which slips pass.
use Rattle.std.proofs.Common.{◌≡◌, ℕ, ◌+◌, ◌<◌, ◌≤◌, Bool, true, false, cond, ◌≢◌, ◌↔◌, Some, Option, unwrap_or, sym, ap, ◌∙◌, inl, inr, ⊎_elim, arith}
use Rattle.std.proofs.lemmas.Bool.Decides.{nat_tests}
use Rattle.alphabet.specs.Characters.{is_digit, is_letter, base_value}
use Rattle.alphabet.specs.Counts.{count_of}
use Rattle.alphabet.specs.declared.counts.Alphabet.TheVariants.{Digits, Alphanumeric}
use Rattle.alphabet.proofs.Alphabets.{count_below, count_injective}
use Rattle.scheme.proofs.Lists.{Counted, AtOnePlace, lets_pass_lem}
use Rattle.keys.specs.KeyRanges.{in_key}
use Rattle.keys.proofs.Numbers.{some_of}
use Rattle.letter.specs.Form.{range_of, count_at, step_by, letter_rules}
use Rattle.letter.specs.Slips.{Stand, Replacements, Pair, Exchanges, LetterSlips}
use Rattle.letter.specs.Steps.{Stands, Paired, step_replaced, step_stands, steps_exchanged, steps_paired}
use Rattle.letter.specs.Laws.{next_of, keeps}

-- c is a digit or a letter and counts n, its base value
abbrev Counts : ℕ → ℕ → Type 0
Counts c n = count_of Alphanumeric c ≡ Some n

-- a digit of the key counts what it counts before the key
before_key : (b : Bool) (c n : ℕ) → count_of (cond b Digits Alphanumeric) c ≡ Some n → Counts c n
before_key true c n h = grind (arith, nat_tests)
before_key false c n h = h

counts : (w k c : ℕ) → Counted letter_rules w k c → (n : ℕ) × (count_at w k c ≡ Some n) × Counts c n
counts w k c h = let n = some_of (count_at w k c) h in (n.0, n.1, before_key (in_key range_of w k) c n.0 n.1)

stepped : (w k p c n : ℕ) → count_at w k c ≡ Some n → next_of w k p c ≡ step_by p n
stepped w k p c n h = ap (λ (o : Option ℕ). step_by p (unwrap_or o 0)) h

same_count : (c m n : ℕ) → Counts c m → Counts c n → m ≡ n
same_count c m n h g = cc

different : (a b m n : ℕ) → Counts a m → Counts b n → a ≢ b → m ≢ n
different a b m n h g ne e = ne (count_injective Alphanumeric a b m h (g ∙ ap Some (sym e)))

base_value_lem : (c n : ℕ) → Counts c n → unwrap_or (base_value c) 0 ≡ n
base_value_lem c n h = grind (arith, nat_tests)

-- digits count 0 to 9, letters from 10 on
digit_count : (c n : ℕ) → Counts c n → (is_digit c ≡ true) ↔ (n < 10)
digit_count c n h = (λ t. grind (arith, nat_tests), λ t. grind (arith, nat_tests))

letter-count : (c n : ℕ) → Counts c n → (is_letter c ≡ true) ↔ (10 ≤ n)
letter-count c n h = (λ t. grind (arith, nat_tests), λ t. grind (arith, nat_tests))

-- from counts to characters, and back
module _ (d v m n : ℕ) (hd : Counts d m) (hv : Counts v n) where
  stand : (p : ℕ) → Stands p m n → Stand p d v
  stand p s =
      let e = base_value_lem d m hd in
      let f = base_value_lem v n hv in
      record { digit = (digit_count d m hd).1 s.digit; letter = (letter-count v n hv).1 s.letter; same = rw (e, f) s.same }

  stands : (p : ℕ) → Stand p d v → Stands p m n
  stands p s =
      let e = base_value_lem d m hd in
      let f = base_value_lem v n hv in
      record { digit = (digit_count d m hd).0 s.digit; letter = (letter-count v n hv).0 s.letter; same = rw (e, f) at s.same }

  pair : Paired n m → Pair v d
  pair h = grind (arith, nat_tests)

  paired : Pair v d → Paired n m
  paired h = grind (arith, nat_tests)

replacement : (w k p a b : ℕ) → Counted letter_rules w k a → Counted letter_rules w k b → a ≢ b → (next_of w k p a ≡ next_of w k p b) ↔ Replacements p a b
replacement w k p a b ha hb ne =
    let x = counts w k a ha in
    let y = counts w k b hb in
    let one = stepped w k p a x.0 x.1 in
    let two = stepped w k p b y.0 y.1 in
    let there = step_replaced p x.0 y.0 (count_below Alphanumeric a _ x.2) (count_below Alphanumeric b _ y.2) (different a b _ _ x.2 y.2 ne) in (
      λ e. ⊎_elim (λ s. inl (stand a b _ _ x.2 y.2 p s)) (λ s. inr (stand b a _ _ y.2 x.2 p s)) (there (sym one ∙ e ∙ two)),
      ⊎_elim (λ s. one ∙ step_stands p _ _ (stands a b _ _ x.2 y.2 p s) ∙ sym two)
          (λ s. one ∙ sym (step_stands p _ _ (stands b a _ _ y.2 x.2 p s)) ∙ sym two),
    )

-- a step over each of two neighbours, the second of which counts at its own place what it counts elsewhere
two_stepped : (w k p a b m n : ℕ) → count_at w k a ≡ Some m → Counts b n → Counted letter_rules w (k + 1) b → next_of w (k + 1) (next_of w k p a) b ≡ step_by (step_by p m) n
two_stepped w k p a b m n ha hb gb =
    let y = counts w (k + 1) b gb in
    let is : y.0 ≡ n = same_count b y.0 n y.2 hb in
    ap (λ (u : ℕ). next_of w (k + 1) u b) (stepped w k p a m ha) ∙ stepped w (k + 1) (step_by p m) b y.0 y.1 ∙ ap (step_by (step_by p m)) is

exchange : (w k p a b : ℕ) → Counted letter_rules w k a → Counted letter_rules w (k + 1) b → Counted letter_rules w k b → Counted letter_rules w (k + 1) a → a ≢ b →
    (next_of w (k + 1) (next_of w k p a) b ≡ next_of w (k + 1) (next_of w k p b) a) ↔ Exchanges p a b
exchange w k p a b ha hb ga gb ne =
    let x = counts w k a ha in
    let y = counts w k b ga in
    let one = two_stepped w k p a b x.0 y.0 x.1 y.2 hb in
    let two = two_stepped w k p b a y.0 x.0 y.1 x.2 gb in
    let there = steps_exchanged p x.0 y.0 (count_below Alphanumeric a _ x.2) (count_below Alphanumeric b _ y.2) (different a b _ _ x.2 y.2 ne) in (
      λ e. ⊎_elim (λ s. inl (pair b a _ _ y.2 x.2 s)) (λ s. inr (pair a b _ _ x.2 y.2 s)) (there (sym one ∙ e ∙ two)),
      ⊎_elim (λ s. one ∙ steps_paired p _ _ (paired b a _ _ y.2 x.2 s) ∙ sym two)
          (λ s. one ∙ sym (steps_paired p _ _ (paired a b _ _ x.2 y.2 s)) ∙ sym two),
    )

at_one_place : AtOnePlace letter_rules Replacements Exchanges
at_one_place = record {
  replacement = λ w k p a b t lo hi v ha hb ne. replacement w k p a b ha hb ne;
  exchange = λ w k p a b t lo hi v ha hb ga gb ne. exchange w k p a b ha hb ga gb ne;
}

pub letter_slips : LetterSlips
letter_slips = lets_pass_lem letter_rules keeps Replacements Exchanges at_one_place
