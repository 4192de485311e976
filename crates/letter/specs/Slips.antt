-- The slips that the letter form lets pass.
--   Stand         a digit and a letter that stand for each other after running value p: 90 × p + the letter's base value
--                 and the digit's leave the same remainder by 97
--   Replacements  a digit put for a letter, or a letter for a digit, where the two stand for each other
--   Pair          B with 1, M with 2 or X with 3
--   Exchanges     the two neighbours are such a pair, in either sequence, whatever the running value
--   LetterSlips   of an accepted reading, a slip that is fit passes exactly where it is one of these
use Rattle.std.specs.Prelude.{◌≡◌, ℕ, ◌+◌, ◌*◌, ◌%◌, true, ◌⊎◌}
use Rattle.std.specs.Option.{unwrap_or}
use Rattle.alphabet.specs.Characters.{is_digit, is_letter, base_value}
use Rattle.scheme.specs.Lists.{SlipRule, LetsPass}
use Rattle.letter.specs.Form.{letter_rules}

pub record Stand (p d v : ℕ) : Type 0 where
  pub digit : is_digit d ≡ true
  pub letter : is_letter v ≡ true
  pub same : (90 * p + unwrap_or (base_value v) 0) % 97 ≡ unwrap_or (base_value d) 0 % 97

abbrev pub Replacements : SlipRule
Replacements p a b = Stand p a b ⊎ Stand p b a

-- by the bytes of the characters
abbrev pub Pair : ℕ → ℕ → Type 0
Pair v d = ((v ≡ 66) × (d ≡ 49)) ⊎ (((v ≡ 77) × (d ≡ 50)) ⊎ ((v ≡ 88) × (d ≡ 51)))

abbrev pub Exchanges : SlipRule
Exchanges p a b = Pair a b ⊎ Pair b a

abbrev pub LetterSlips : Type 0
LetterSlips = LetsPass letter_rules Replacements Exchanges
