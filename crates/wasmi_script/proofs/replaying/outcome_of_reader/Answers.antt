use Rattle.std.proofs.Common.{◌≡◌, Err, rules, sym, subst}
use Rattle.wasmi_script.specs.Outcomes.{IsOutcomeOfReader}
use Rattle.wasmi_script.proofs.OutcomesLemmas.{unread}
use Rattle.wasmi_script.proofs.replaying.outcome_of_reader.Goals as goal

pub returns-in_err-script : goal.returns-in_err-script
returns-in_err-script g c =
    let given = g.R.Read.remaining c.args.reader.now in
    let failed = g.R.Input.has_failed c.read-script.new.reader.reader.now in
    let same : c.from_residual.result ≡ Err c.in_err-script.field-0.0 = search rules in
    let read = subst (IsOutcomeOfReader given failed) (sym same) (unread given failed c.in_err-script.field-0.0 c.in_err-script.ensures.refused) in
    search (rules, read)
