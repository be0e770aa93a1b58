use Rattle.wasmi_c.proofs.SharedQuotaLemmas.{one_quota_holds_each}
use Rattle.wasmi_c.proofs.laws.one_quota_holds_each.Goals as goal

pub returns : goal.returns
returns c = one_quota_holds_each
