use Rattle.wasmi_types.proofs.func_type.FuncType.new.Goals as goal

pub read-requires-clause-results : goal.read-requires-clause-results
read-requires-clause-results g c =
    c.requires.results _ c.into_iter-params.ensures.into_iter_gives _ c.into_iter-results.ensures.into_iter_gives
