use Rattle.wasmi_access.proofs.AccessLemmas.{loaded-stored, outside-stored}
use Rattle.wasmi_access.proofs.laws.stored_number_is_loaded.Goals as goal

pub returns : goal.returns
returns c = record { integer = loaded-stored; natural = loaded-stored; outside = outside-stored }
