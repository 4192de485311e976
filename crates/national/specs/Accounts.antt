-- What the account keys have in common.
--   account_range  the keys: two digits, 01 to 97
use Rattle.alphabet.specs.declared.counts.Alphabet.TheVariants.{Digits}
use Rattle.keys.specs.declared.range.KeyLength.TheVariants.{Two}
use Rattle.keys.specs.declared.range.KeyRange.{KeyRange}

abbrev pub account_range : KeyRange
account_range = record { alphabet = Digits; length = Two; least = 1; many = 97 }
