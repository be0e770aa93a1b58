use Rattle.wasmi_script.proofs.LengthLemmas.{tenant_short}
use Rattle.wasmi_script.proofs.printing.print_tenant.Goals as goal

pub print_line-requires : goal.print_line-requires
print_line-requires g c = record { short = tenant_short _ _ _ }
