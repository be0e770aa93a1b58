use Rattle.std.specs.Int.{w128}
use Rattle.wasmi_types.proofs.NumbersLemmas.{wrap_unsigned}
use Rattle.wasmi_vector_access.proofs.simd.v128_store.Goals as goal

pub returns : goal.returns
returns c = rw (wrap_unsigned w128 c.as_u128.result c.as_u128.type_inv, c.as_u128.ensures.value) at c.store.ensures
