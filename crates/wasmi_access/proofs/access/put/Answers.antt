use Rattle.std.proofs.Common.{add-one, arith}
use lib.Seq.{paste-suc}
use Rattle.wasmi_access.proofs.access.put.Goals as goal

pub loop-i-preserved : goal.loop-i-preserved
loop-i-preserved g c = rw (c.loop-i.invariant, add-one)
    (paste-suc c.args.memory.now c.args.address c.args.bytes.now c.loop-i.i 0
    (omega (arith, c.requires, c.loop-i-test.true)) (omega (arith, c.told-bytes, c.loop-i-test.true)))
