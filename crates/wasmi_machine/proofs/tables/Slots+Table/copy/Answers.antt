use Rattle.wasmi_machine.proofs.Common.{copy_of, Table}
use Rattle.wasmi_machine.proofs.RangeLemmas.{put_copied, put_without}
use Rattle.wasmi_machine.proofs.SlotsLemmas.{taken_within}
use Rattle.wasmi_machine.proofs.tables.Slots+Table.copy.Goals.{in-Some, in-None}
use Rattle.wasmi_machine.proofs.tables.Slots+Table.copy.Goals as goal

pub returns-clause-copied : goal.returns-clause-copied
returns-clause-copied c =
    let write = copy_of c.args.dst c.args.src c.args.len in
    let was = c.in_ok-table in
    elim c.match-live.branch [
      | in-Some w ↦ rw (w.copied-is, w.table_reply.ensures, w.table-is, w.fuel-is) (
        w.copy_metered.ensures.0,
        put_copied Table write _ _ c.args.dst_index c.args.src_index c.if-dst_index-src_index.false _ was.table
            was.ensures.value was.ensures.taken w.in-Some.source.now w.in-Some.ensures _ _ _ _ w.copy_metered.ensures.1,
      )
      | in-None w ↦ rw (w.copied-is, w.table-is, w.fuel-is) (
        0,
        put_without Table write _ _ c.args.dst_index c.args.src_index c.if-dst_index-src_index.false _ was.table
            was.ensures.value was.ensures.taken w.in-None.ensures,
      )
    ]

pub item_mut-requires : goal.item_mut-requires
item_mut-requires c =
    record { there = taken_within _ _ _ _ c.in_ok-table.ensures.value c.in_ok-table.ensures.taken }

pub returns-clause-reserved : goal.returns-clause-reserved
returns-clause-reserved c = c.take.ensures.reserved
