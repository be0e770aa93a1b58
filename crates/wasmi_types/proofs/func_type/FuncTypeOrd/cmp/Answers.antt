use Rattle.std.proofs.Common.{◌≡◌}
use Rattle.wasmi_types.specs.FunctionType.{function_type_cmp}
use Rattle.wasmi_types.proofs.FunctionTypeOrderLemmas.{function_type_cmp-places, function_type_cmp-equal}
use Rattle.wasmi_types.proofs.func_type.FuncTypeOrd.cmp.Goals as goal

pub returns : goal.returns
returns c =
    let p = c.order_key.ensures in
    let q = c.order_key-2.ensures in
    let a = c.args.self.now in
    let b = c.args.other.now in
    let answer : c.cmp.result ≡ function_type_cmp a b =
    rw (c.cmp.ensures, p.big, p.params, p.results, p.entries, q.big, q.params, q.results, q.entries)
    (function_type_cmp-places a b) in
    record { cmp = answer; equal = rw answer (function_type_cmp-equal a b) }
