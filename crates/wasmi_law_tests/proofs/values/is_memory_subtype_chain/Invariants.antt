use Rattle.wasmi_store.specs.Memory.{IsSubtype}
use Rattle.wasmi_law_tests.proofs.ChainsLemmas.{RelatesNext}
use Rattle.wasmi_law_tests.proofs.values.is_memory_subtype_chain.Given as goal

abbrev pub invariant-loop-i : goal.invariant-loop-i
invariant-loop-i l = RelatesNext IsSubtype l.types l.i
