use Rattle.std.proofs.Common.{◌≡◌, rules}
use denote.Enum.Bare.{sameb}
use Rattle.wasmi_types.specs.contracts.value.ValType.{the_type}
use Rattle.wasmi_types.specs.FunctionType.{same_lists}
use Rattle.wasmi_types.specs.FunctionTypeProofs.{same_lists_decides, same_type_decides}
use Rattle.wasmi_types.proofs.func_type.FuncTypePartialEq.eq.Goals as goal

pub returns-clause-same : goal.returns-clause-same
returns-clause-same c =
    let e : c.eq.result ≡ same_lists (sameb the_type) c.args.self.now c.args.other.now = search rules in
    rw e (same_lists_decides same_type_decides c.args.self.now c.args.other.now)
