use Rattle.std.proofs.Common.{take}
use Rattle.wasmi_script.proofs.Common.{tenant_start, parts_in, AnswersParts, new_pool}
use Rattle.wasmi_script.proofs.replaying.run_pool.Given as goal

abbrev pub invariant-loop-index : goal.invariant-loop-index
invariant-loop-index l =
    AnswersParts (new_pool l.fn.line (tenant_start l.script.header))
    (take l.index (parts_in l.script.parts)) l.replies.items l.pool
