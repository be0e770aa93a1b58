use Rattle.std.proofs.Common.{◌≡◌, ◌+◌, refl, rules, length, length-append, take, drop}
use Rattle.std.proofs.lemmas.Result.{err_from_is_err_and}
use Rattle.wasmi_types.proofs.ReadingLemmas.{refused_results, refused_end, read_end}
use Rattle.wasmi_types.proofs.func_type.FuncType.read.Goals as goal

pub returns-in_err-len_results : goal.returns-in_err-len_results
returns-in_err-len_results g c =
    let p = err_from_is_err_and c.from_residual-in_err-len_results.result c.from_residual-in_err-len_results.ensures.1
    in
    record {
      reading = rw (p.1, p.2)
          (refused_results c.new-entries.ensures c.in_ok-len_params.ensures.ok c.in_err-len_results.ensures.err);
    }

pub returns-in-Ok : goal.returns-in-Ok
returns-in-Ok g c =
    let first = c.in_ok-len_params.ensures.ok in
    let second = c.in_ok-len_results.ensures.ok in
    let entries = c.read-2.new.self in
    let n = c.in_ok-len_params.len_params in
    let count : length entries ≡ n + c.in_ok-len_results.len_results
    = rw (second.kept, first.kept, c.new-entries.ensures, length-append, ← first.counted, ← second.counted)
    in
    record {
      reading = rw (← count, c.in-Ok.ensures.kept.0)
          (read_end {ty = record { params = take n entries; results = drop n entries }} c.new-entries.ensures first
          second refl refl);
    }

pub returns : goal.returns
returns g c = record {
  reading = refused_end c.new-entries.ensures c.in_ok-len_params.ensures.ok c.in_ok-len_results.ensures.ok
      (c.in-Err.ensures.refused refl);
}

pub read-requires-2 : goal.read-requires-2
read-requires-2 g c =
    let first = c.in_ok-len_params.ensures.ok in record { readable = c.requires.results first.types _ first.read }

pub returns-in_err-len_params : goal.returns-in_err-len_params
returns-in_err-len_params g c = search rules
