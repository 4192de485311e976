use Rattle.std.proofs.Common.{◌++◌, take, append_assoc, arith}
use Rattle.std.proofs.lemmas.List.{take_more}
use Rattle.assay.proofs.feed.Goals as goal

pub loop-byte-preserved : goal.loop-byte-preserved
loop-byte-preserved g c = λ bytes reads.
    let block = c.args.block.now in
    let i = c.loop-byte.byte-index in
    let more = c.byte.ensures.reads (bytes ++ take i block) (c.loop-byte.invariant bytes reads) in
    rw (take_more block i 0 (omega arith)) (simp append_assoc at more)
