use Rattle.std.proofs.Common.{◌≡◌, Err, rules}
use Rattle.wasmi_grammar.proofs.Common.{refused_with_memory, NamesAfter, NamesLine}
use Rattle.wasmi_grammar.proofs.LinesLemmas.{command_only, refused_header, refused_line}
use Rattle.wasmi_grammar.proofs.script.line_of.Goals as goal

pub returns-in_err-meter_line-in-meter : goal.returns-in_err-meter_line-in-meter
returns-in_err-meter_line-in-meter c = refused_header _ (search rules) c.in-meter.is c.in_err-meter_line-in-meter.ensures

pub returns-in_ok-meter_line-in-meter : goal.returns-in_ok-meter_line-in-meter
returns-in_ok-meter_line-in-meter c = (c.in-meter.is, c.in_ok-meter_line-in-meter.ensures)

pub returns-in_err-quota-in-quota : goal.returns-in_err-quota-in-quota
returns-in_err-quota-in-quota c = refused_header _ (search rules) c.in-quota.is c.in_err-quota-in-quota.ensures

pub returns-in_ok-quota-in-quota : goal.returns-in_ok-quota-in-quota
returns-in_ok-quota-in-quota c = rw c.in-quota.is c.in_ok-quota-in-quota.ensures

pub returns-in_ok-listed-in-answers : goal.returns-in_ok-listed-in-answers
returns-in_ok-listed-in-answers c = rw c.in-answers.is c.in_ok-listed-in-answers.ensures

pub returns-in_err-listed-in-answers : goal.returns-in_err-listed-in-answers
returns-in_err-listed-in-answers c = refused_line _ (search rules) c.in-answers.is c.in_err-listed-in-answers.ensures

pub returns-in_err-tenants-in-tenants : goal.returns-in_err-tenants-in-tenants
returns-in_err-tenants-in-tenants c = refused_header _ (search rules) c.in-tenants.is c.in_err-tenants-in-tenants.ensures

pub returns-in_ok-tenants-in-tenants : goal.returns-in_ok-tenants-in-tenants
returns-in_ok-tenants-in-tenants c = rw c.in-tenants.is c.in_ok-tenants-in-tenants.ensures

pub returns-in_err-region_line-in-region : goal.returns-in_err-region_line-in-region
returns-in_err-region_line-in-region c = refused_header _ (search rules) c.in-region.is c.in_err-region_line-in-region.ensures

pub returns-in_err-reserve_line-in-reserve : goal.returns-in_err-reserve_line-in-reserve
returns-in_err-reserve_line-in-reserve c =
    refused_header _ (search rules) c.in-reserve.is c.in_err-reserve_line-in-reserve.ensures

pub returns-in_ok-reserve_line-in-reserve : goal.returns-in_ok-reserve_line-in-reserve
returns-in_ok-reserve_line-in-reserve c = (c.in-reserve.is, c.in_ok-reserve_line-in-reserve.ensures)

pub returns-in_err-one-in-as : goal.returns-in_err-one-in-as
returns-in_err-one-in-as c = refused_header _ (search rules) c.in-as.is c.in_err-one-in-as.ensures

pub returns-in_ok-region_line-in-region : goal.returns-in_ok-region_line-in-region
returns-in_ok-region_line-in-region c = (c.in-region.is, c.in_ok-region_line-in-region.ensures)

pub returns-in_ok-one-in-as : goal.returns-in_ok-one-in-as
returns-in_ok-one-in-as c = (c.in-as.is, c.in_ok-one-in-as.ensures)

pub returns-in_err-command-in_default : goal.returns-in_err-command-in_default
returns-in_err-command-in_default c =
    let error = c.in_err-command-in_default.field-0.0 in
    let name = c.args.name.now in
    let words = c.args.operands.now in
    let is : c.from_residual-in_err-command-in_default.result ≡ Err error = search rules in
    rw is (refused_with_memory error (NamesAfter name words) (NamesLine name words)
    (command_only name words c.in_default.not-meter c.in_default.not-quota c.in_default.not-answers
    c.in_default.not-tenants c.in_default.not-region c.in_default.not-reserve c.in_default.not-as) c.in_err-command-in_default.ensures)

pub returns-in_ok-command-in_default : goal.returns-in_ok-command-in_default
returns-in_ok-command-in_default c = c.in_ok-command-in_default.ensures
