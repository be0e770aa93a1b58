use Rattle.std.proofs.Common.{◌≡◌, ◌≤◌, vec_len}
use Rattle.wasmi_script.proofs.Common.{Consumes, script_limit}
use Rattle.wasmi_script.proofs.replaying.read.Given as goal

abbrev pub invariant-loop-turn : goal.invariant-loop-turn
invariant-loop-turn g l = record {
  reader : l.reader.reader.ghost_name ≡ l.initial.reader.reader.ghost_name;
  counted : l.reader.taken ≡ l._turn;
  turned : l._turn ≤ vec_len l.script;
  bounded : vec_len l.script ≤ script_limit;
  taken : Consumes (g.R.Read.remaining l.initial.reader.reader.now)
      (g.R.Read.remaining l.reader.reader.now) l.script.items;
}
