use Rattle.std.proofs.Common.{◌+◌, arith}
use Rattle.std.proofs.lemmas.Bool.Decides.{nat_tests}
use Rattle.std.proofs.lemmas.List.{take_rest}
use Rattle.intake.proofs.Judged.{cut_position}
use Rattle.intake.proofs.judging.cut.Goals as goal

pub returns-in_err-at : goal.returns-in_err-at
returns-in_err-at c = let cut = cut_position c.args.line.now in grind (arith, nat_tests)

pub returns : goal.returns
returns c =
    let cut = cut_position c.args.line.now in
    let rest = take_rest c.args.line.now (c.in_ok-at.at + 1) in
    grind (arith, nat_tests)
