use Rattle.std.proofs.Common.{take}
use Rattle.intake.specs.Inputs.{ReadsMore}
use Rattle.assay.proofs.feed.Given as goal

-- every byte so far is read
abbrev pub invariant-loop-byte : goal.invariant-loop-byte
invariant-loop-byte g l = ReadsMore l.initial.intake (take l.byte-index l.block) l.intake
