use Rattle.std.proofs.Common.{◌≡◌, Some, refl, arith}
use Rattle.formats.specs.Formats.{format_of}
use Rattle.intake.proofs.Judged.{judged, exactly}
use Rattle.intake.proofs.judging.judge.Goals as goal

pub returns : goal.returns
returns c =
    let l = c.args.line.now in
    let word = c.in_ok-word.word.now in
    let form = c.in_ok-word.form.now in
    let f = c.in_ok-format.format in
    let w = c.in_ok-width.width in
    let buffer = c.strip.new.buffer in
    let short = c.if-line-gt-LONGEST.false in
    let cut = rw c.in_ok-word.ensures.ok_part at c.cut.ensures in
    let named : format_of word ≡ Some f = grind arith in
    let strip = c.in_ok-width.ensures in
    record {
      answers = judged l word form f w buffer _ _ c.check.result short cut named strip.answers strip.after refl c.check.ensures.answers c.check.ensures.exact;
      exact = exactly l word form f w buffer _ _ c.check.result short cut named strip.answers strip.after refl c.check.ensures.answers c.check.ensures.exact;
    }
