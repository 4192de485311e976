-- Counts and characters of an alphabet answer each other, and the counts are the numbers below its size.
use Rattle.std.proofs.Common.{◌≡◌, ℕ, ◌<◌, true, Some, sym, ◌∙◌, arith}
use Rattle.std.proofs.lemmas.Bool.Decides.{nat_tests}
use Rattle.alphabet.specs.Characters.{is_character}
use Rattle.alphabet.specs.Counts.{size, count_of, symbol_of}
use Rattle.alphabet.specs.declared.counts.Alphabet.{Alphabet}
use Rattle.alphabet.specs.declared.counts.Alphabet.TheVariants.{Digits, DigitsX, Letters, Alphanumeric, Full}

pub count_symbol : (a : Alphabet) (n : ℕ) → n < size a → count_of a (symbol_of a n) ≡ Some n
count_symbol Digits n h = grind (arith, nat_tests)
count_symbol DigitsX n h = grind (arith, nat_tests)
count_symbol Letters n h = grind (arith, nat_tests)
count_symbol Alphanumeric n h = grind (arith, nat_tests)
count_symbol Full n h = grind (arith, nat_tests)

pub count_below : (a : Alphabet) (b n : ℕ) → count_of a b ≡ Some n → n < size a
count_below Digits b n h = grind (arith, nat_tests)
count_below DigitsX b n h = grind (arith, nat_tests)
count_below Letters b n h = grind (arith, nat_tests)
count_below Alphanumeric b n h = grind (arith, nat_tests)
count_below Full b n h = grind (arith, nat_tests)

pub symbol_count : (a : Alphabet) (b n : ℕ) → count_of a b ≡ Some n → symbol_of a n ≡ b
symbol_count Digits b n h = grind (arith, nat_tests)
symbol_count DigitsX b n h = grind (arith, nat_tests)
symbol_count Letters b n h = grind (arith, nat_tests)
symbol_count Alphanumeric b n h = grind (arith, nat_tests)
symbol_count Full b n h = grind (arith, nat_tests)

pub symbol_character : (a : Alphabet) (n : ℕ) → n < size a → is_character (symbol_of a n) ≡ true
symbol_character Digits n h = grind (arith, nat_tests)
symbol_character DigitsX n h = grind (arith, nat_tests)
symbol_character Letters n h = grind (arith, nat_tests)
symbol_character Alphanumeric n h = grind (arith, nat_tests)
symbol_character Full n h = grind (arith, nat_tests)

-- characters of the same count are the same
pub count_injective : (a : Alphabet) (b c n : ℕ) → count_of a b ≡ Some n → count_of a c ≡ Some n → b ≡ c
count_injective a b c n p q = sym (symbol_count a b n p) ∙ symbol_count a c n q
