use Rattle.wasmi_budget.proofs.TenantsLemmas.{searched_place}
use Rattle.wasmi_budget.proofs.tenants.place_of.Goals as goal

pub returns : goal.returns
returns c = record {
  found = searched_place _ _ c.binary_search.result _ c.requires.rises c.binary_search.ensures.position
      c.ok.ensures.value;
}
