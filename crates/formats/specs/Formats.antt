-- The formats, by their words.
--   word_of         the word of a format, as it is written before a number
--   format_of       the format that has a word, where there is one
--   format_verdict  what checking a text by a format answers
--   FormatValid     the texts that are valid by a format
use Rattle.std.specs.Prelude.{ℕ, List, [], ◌∷◌, find, codes, Option, Result}
use Rattle.std.specs.Str.{bytes_eq}
use Rattle.alphabet.specs.declared.fault.Fault.{Fault}
use Rattle.alphabet.specs.declared.turn.Turn.TheVariants.{Straight}
use Rattle.scheme.specs.Verdicts.{Valid, verdict}
use Rattle.scheme.specs.Rules.{single}
use Rattle.pure.specs.Systems.{rules_of}
use Rattle.pure.specs.declared.systems.Pure.TheVariants.{Mod11R2, Mod37R2, Mod97R10, Mod661R26, Mod1271R36}
use Rattle.formats.specs.declared.format.Format.{Format}
use Rattle.formats.specs.declared.format.Format.TheVariants.{System}

abbrev pub word_of : Format → List ℕ
word_of (System Mod11R2) = codes "MOD11-2"
word_of (System Mod37R2) = codes "MOD37-2"
word_of (System Mod97R10) = codes "MOD97-10"
word_of (System Mod661R26) = codes "MOD661-26"
word_of (System Mod1271R36) = codes "MOD1271-36"

abbrev pub every : List Format
every = System Mod11R2 ∷ System Mod37R2 ∷ System Mod97R10 ∷ System Mod661R26 ∷ System Mod1271R36 ∷ []

-- the first of them that has the word
abbrev pub format_of : List ℕ → Option Format
format_of word = find (λ f. bytes_eq word (word_of f)) every

abbrev pub format_verdict : Format → List ℕ → Result (Unit {0}) Fault
format_verdict (System s) t = verdict (single (rules_of s)) Straight t

abbrev pub FormatValid : Format → List ℕ → Type 0
FormatValid (System s) t = Valid (single (rules_of s)) Straight t
