use Rattle.std.proofs.Common.{inl, inr, refl, rules}
use Rattle.wasmi_machine.proofs.StoreLemmas.{vec_of}
use Rattle.wasmi_c.proofs.Common.{TenantReplies, TenantRepliesToItems}
use Rattle.wasmi_c.proofs.pool.TenantPool.write.Goals.{in-Ok, in-Err}
use Rattle.wasmi_c.proofs.pool.TenantPool.write.Goals as goal

pub returns-clause-step : goal.returns-clause-step
unfolding TenantRepliesToItems TenantReplies
returns-clause-step c = elim c.match-write.branch [
  | in-Ok w ↦
      let written = w.in-Ok.ensures.ran in
      rw (w.result-is, ← c.self.view_is) (written.0, written.1, inr (w.in-Ok.reply, written.2, w.from_common.ensures))
  | in-Err w ↦
      let refused = w.in-Err.ensures.refused in
      rw (w.result-is, ← c.self.view_is)
      (vec_of c.args.bytes.now (search rules), refl, inl (refused.1, w.only.ensures, refused.2))
]
