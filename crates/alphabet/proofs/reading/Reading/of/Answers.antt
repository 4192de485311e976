use Rattle.std.proofs.Common.{◌≡◌, ◌++◌, drop, take, rules, arith, None}
use Rattle.std.proofs.lemmas.Bool.Decides.{nat_tests}
use Rattle.alphabet.specs.Holding.{held}
use Rattle.alphabet.specs.Readings.{opening, moved_by}
use Rattle.alphabet.proofs.Texts.{stray_position, reading_held}
use Rattle.alphabet.proofs.reading.Reading.of.Goals as goal

pub returns-in-Some : goal.returns-in-Some
returns-in-Some c = let stray = stray_position c.args.text.now in grind (arith, nat_tests)

pub returns-then-width-lt5 : goal.returns-then-width-lt5
returns-then-width-lt5 c = let stray = stray_position c.args.text.now in grind (arith, nat_tests)

pub returns : goal.returns
returns c =
    let t = c.args.text.now in
    let stray = stray_position t in
    let none : opening c.args.turn t ≡ None = grind (arith, nat_tests) in
    let rest : held c.extend_from_slice.new.self ≡ take 34 (drop (moved_by c.args.turn) t) = search rules in
    let front : held c.extend_from_slice-2.new.self ≡ take 34 (held c.extend_from_slice.new.self ++ take (moved_by c.args.turn) t) = search rules in
    (none, reading_held c.args.turn t _ _ (omega arith) rest front)
