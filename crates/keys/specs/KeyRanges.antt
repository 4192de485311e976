-- Keys of one or two characters, by the numbers that they make.
--   keys_of     how many characters a key has
--   takes_any   every width from one more than the key to 34, as most engines have them
--   in_key      whether a place is one of the key's, at such a width
--   alphabet_at the characters that may stand at a place: the key's in the key, others before it
--   count_in    what a character counts in a key
--   number_of   the number that a key makes: its count, or size × first count + second count
--   holds_key   a key of the right length whose number is one of the range
--   symbol_in   the character of a count
--   symbols_of  the characters of the key that makes a number
use Rattle.std.specs.Prelude.{ℕ, ◌+◌, ◌-◌, ◌*◌, ◌/◌, ◌%◌, Bool, cond, ◌&&◌, List, [], ◌∷◌, length, ◌==◌, nat_le, nat_lt, slice_index}
use Rattle.std.specs.Option.{unwrap_or}
use Rattle.alphabet.specs.Counts.{size, count_of, symbol_of}
use Rattle.alphabet.specs.declared.counts.Alphabet.{Alphabet}
use Rattle.keys.specs.declared.range.KeyLength.{KeyLength}
use Rattle.keys.specs.declared.range.KeyLength.TheVariants.{One, Two}
use Rattle.keys.specs.declared.range.KeyRange.{KeyRange}

abbrev pub keys_of : KeyLength → ℕ
keys_of One = 1
keys_of Two = 2

abbrev pub takes_any : KeyRange → ℕ → Bool
takes_any r w = nat_lt (keys_of r.length) w && nat_le w 34

abbrev pub in_key : KeyRange → ℕ → ℕ → Bool
in_key r w k = takes_any r w && (nat_lt (w - keys_of r.length) k && nat_le k w)

abbrev pub alphabet_at : KeyRange → Alphabet → ℕ → ℕ → Alphabet
alphabet_at r body w k = cond (in_key r w k) r.alphabet body

-- a character that is not allowed counts 0
abbrev pub count_in : KeyRange → ℕ → ℕ
count_in r c = unwrap_or (count_of r.alphabet c) 0

abbrev pub number_by : KeyLength → ℕ → ℕ → ℕ → ℕ
number_by One n a b = a
number_by Two n a b = n * a + b

abbrev pub number_of : KeyRange → List ℕ → ℕ
number_of r ks = number_by r.length (size r.alphabet) (count_in r (slice_index ks 0)) (count_in r (slice_index ks 1))

abbrev pub holds_key : KeyRange → List ℕ → Bool
holds_key r ks = length ks == keys_of r.length && (nat_le r.least (number_of r ks) && nat_lt (number_of r ks) (r.least + r.many))

-- a count that the alphabet lacks is written 0
abbrev pub symbol_in : KeyRange → ℕ → ℕ
symbol_in r n = cond (nat_lt n (size r.alphabet)) (symbol_of r.alphabet n) 48

abbrev pub symbols_by : KeyLength → KeyRange → ℕ → List ℕ
symbols_by One r n = symbol_in r n ∷ []
symbols_by Two r n = symbol_in r (n / size r.alphabet) ∷ symbol_in r (n % size r.alphabet) ∷ []

abbrev pub symbols_of : KeyRange → ℕ → List ℕ
symbols_of r n = symbols_by r.length r n
