use Rattle.std.proofs.Common.{rules}
use Rattle.std.proofs.lemmas.Fmt.{decimal_step}
use Rattle.wasmi_script.proofs.PrintingLemmas.{adds_then, one_digit}
use Rattle.wasmi_script.proofs.lines.+put_number.Goals as goal

pub returns-then-number-lt10 : goal.returns-then-number-lt10
returns-then-number-lt10 t c =
    rw (one_digit c.args.number c.if-number-lt10.true) at c.put.ensures

pub returns : goal.returns
returns t c =
    rw (decimal_step c.args.number c.if-number-lt10.false (search rules))
    (adds_then _ _ _ _ _ _ _ _ c.put_number-before_last.ensures c.put-2.ensures)
