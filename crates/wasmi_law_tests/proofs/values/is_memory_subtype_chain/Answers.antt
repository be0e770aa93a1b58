use Rattle.std.proofs.Common.{length, arith}
use Rattle.wasmi_store.specs.Memory.{IsSubtype}
use Rattle.wasmi_law_tests.proofs.ChainsLemmas.{chain_breaks, chain_goes_on, chain_is_forward}
use Rattle.wasmi_law_tests.proofs.values.is_memory_subtype_chain.Goals as goal

pub returns : goal.returns
returns c = chain_is_forward IsSubtype c.memory_subtyping_is_reflexive.ensures c.memory_subtyping_is_transitive.ensures
    c.args.types.now (length c.args.types.now) c.loop-i.i (omega arith) c.loop-i.invariant

pub returns-then-not-is_subtype_of : goal.returns-then-not-is_subtype_of
returns-then-not-is_subtype_of c = chain_breaks IsSubtype _ _ _ _ (omega arith) c.loop-i-test.true c.index-types-i.is
    c.index-types-i-in-loop-i.is _ c.if-not-is_subtype_of.true c.is_subtype_of.ensures

pub loop-i-preserved : goal.loop-i-preserved
loop-i-preserved c = chain_goes_on IsSubtype _ _ _ _ (omega arith) c.loop-i-test.true c.index-types-i.is
    c.index-types-i-in-loop-i.is _ c.if-not-is_subtype_of.false c.is_subtype_of.ensures c.loop-i.invariant
