use Rattle.std.proofs.Common.{Bor, List, ℕ, ◌≡◌, ◌∙◌, ◌<◌, [], Option, None, Some, arith, length, refl, sym, ap, take}
use Rattle.std.specs.Prelude.{IsSome, slice_get}
use Rattle.wasmi_script.proofs.Common.{option_map, take_all, tenant_start, Call, TenantRun, parts_in, new_pool}
use Rattle.std.proofs.lemmas.Option.{slice_get-get_or}
use Rattle.wasmi_script.proofs.ScriptRunsLemmas.{next_part}
use Rattle.wasmi_script.proofs.replaying.run_pool.Goals as goal

-- a part as it is got
abbrev run_at : ℕ × Bor (List Call) → TenantRun
run_at part = record { tenant = part.0; calls = part.1.now }

pub loop-index-preserved : goal.loop-index-preserved
loop-index-preserved c =
    let parts = parts_in c.args.script.now.parts in
    let start = new_pool c.args.line (tenant_start c.args.script.now.header) in
    let found = sym c.get.ensures ∙ ap (option_map run_at) c.unwrap-tenant.ensures in
    rw c.in_ok-append.ensures.items
    (next_part parts c.loop-index.index c.loop-index.replies.items _ c.in-Ok.answered.items start c.loop-index.pool
    c.run.new.self found c.loop-index.invariant c.in-Ok.ensures.ran)

pub returns : goal.returns
returns c =
    let parts = parts_in c.args.script.now.parts in
    let all : take c.loop-index.index parts ≡ parts =
    take_all c.loop-index.index parts (omega (arith, c.loop-index-test.false, c.len-index-end.ensures)) in (
      c.loop-index.pool,
      refl,
      rw all at c.loop-index.invariant,
    )

pub loop-index-init : goal.loop-index-init
loop-index-init c = (c.in_ok-replies.ensures.items, c.in_ok-pool.ensures)

-- what is got below the length is there
there : {A B : Type 0} (f : A → B) (got : Option A) (xs : List B) (i : ℕ) (d : B) → option_map f got ≡ slice_get xs i
    → i < length xs → IsSome got
there f (Some x) xs i d is within = refl
there f None xs i d is within = let some = is ∙ slice_get-get_or xs i d within in absurd cc

pub unwrap-tenant-requires : goal.unwrap-tenant-requires
unwrap-tenant-requires c =
    there run_at _ (parts_in c.args.script.now.parts) c.loop-index.index (record { tenant = 0; calls = [] }) c.get.ensures
    (omega (arith, c.loop-index-test.true, c.len-index-end.ensures))
