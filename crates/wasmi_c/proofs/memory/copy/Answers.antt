use Rattle.std.proofs.Common.{inl, inr}
use Rattle.wasmi_c.proofs.memory.copy.Goals as goal

pub returns : goal.returns
returns c = elim c.init.ensures [
  | inl none ↦ inl (inl none.0, none.1, none.2)
  | inr it ↦ inr (it.0, c.in-Some._source_ty, it.1, c.in-Some.ensures, it.2)
]
