use Rattle.wasmi_grammar.proofs.Common.{IfErr-weaker}
use Rattle.wasmi_grammar.proofs.LinesLemmas.{refused_as}
use Rattle.wasmi_grammar.proofs.script.Script.take.Goals as goal

pub returns-in-Meter-clause-refused : goal.returns-in-Meter-clause-refused
returns-in-Meter-clause-refused c = refused_as _ _ _ _ c.in-Meter.is c.take_meter.ensures.refused

pub returns-in-Limiter-clause-refused : goal.returns-in-Limiter-clause-refused
returns-in-Limiter-clause-refused c = refused_as _ _ _ _ c.in-Limiter.is c.take_limiter.ensures.refused

pub returns-in-Region-clause-refused : goal.returns-in-Region-clause-refused
returns-in-Region-clause-refused c = refused_as _ _ _ _ c.in-Region.is c.take_region.ensures.refused

pub returns-in-Reserve-clause-refused : goal.returns-in-Reserve-clause-refused
returns-in-Reserve-clause-refused c = refused_as _ _ _ _ c.in-Reserve.is c.take_reserve.ensures.refused

pub returns-in-As-clause-refused : goal.returns-in-As-clause-refused
returns-in-As-clause-refused c =
    IfErr-weaker c.take_part.result _ _
    (λ error refused bad new adds. refused bad new (rw c.in-As.is at adds)) c.take_part.ensures.refused
