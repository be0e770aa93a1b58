use Rattle.std.proofs.Common.{◌≡◌, length, take}
use Rattle.wasmi_c.proofs.Common.{InTurn, TenantRepliesToStruct}
use Rattle.wasmi_c.proofs.pool.TenantPool.run_into.Given as goal

-- the calls so far are replied to in turn, within the caps
abbrev pub invariant-loop-i : goal.invariant-loop-i
invariant-loop-i l = record {
  ran : InTurn (λ numbers before reply after. TenantRepliesToStruct l.fn.tenant numbers reply before after)
      (take l.i l.calls) l.fn.self (take l.i l.replies) l.self;
  caps : l.self.caps ≡ l.fn.self.caps;
  places : length l.replies ≡ length l.calls;
}
