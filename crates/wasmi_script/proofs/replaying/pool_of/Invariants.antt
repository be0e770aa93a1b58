use Rattle.std.proofs.Common.{◌≡◌, Some, replicate}
use Rattle.wasmi_grammar.specs.Headers.{tenant_start}
use Rattle.wasmi_script.proofs.replaying.pool_of.Given as goal

abbrev pub invariant-loop-index : goal.invariant-loop-index
invariant-loop-index l =
    l.pool ≡ record { caps = l.fn.line.caps; machines = replicate l._index (Some (tenant_start l.header)) }
