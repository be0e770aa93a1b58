use Rattle.wasmi_laws.proofs.ReservedPoolsLemmas.{reserved_tenants_succeed, slots_suffice_for_tenants}
use Rattle.wasmi_laws.proofs.reserved_tenants_suffice.Goals as goal

pub returns-clause-runs : goal.returns-clause-runs
returns-clause-runs c = reserved_tenants_succeed

pub returns-clause-slots : goal.returns-clause-slots
returns-clause-slots c = slots_suffice_for_tenants
