-- Names that many proofs of this crate cite, passed on from one place.
pub use Rattle.std.proofs.alloc.Calls.{α, Fits, Goes-blank, handle_tells, token}
pub use Rattle.std.proofs.lemmas.Grind.{same_number_lists, get_or-set_at}
pub use Rattle.std.proofs.lemmas.List.{get_or-map, length-map, same_lists, take_all, take_more, take_more_set, take_at, drop_at, length-replicate, length-take-le, set-get_or, get_or-set_other, get_or_default, length-set, length-take}
pub use Rattle.std.proofs.lemmas.Option.{gets, slice_get-map}
pub use Rattle.std.proofs.raw_atomic.Walks.{proved_at}
pub use Rattle.std.specs.Option.{option_map, unwrap_or}
pub use Rattle.std.specs.Prelude.{IsSome, ◌==◌, if◌then◌else◌, nat_lt, MatchOption, Vec, nat_eq, slice_set}
pub use Rattle.std_alloc.proofs.BoxSteps.Form.{B, Bx, D, P, R, box_ty, handle, owning, word, τ, args, box_typed}
pub use Rattle.std_alloc.proofs.BoxSteps.Steps.{box_out, box_in}
pub use Rattle.std_alloc.proofs.SendSync.{lies, quiet}
pub use Rattle.wasmi_budget.specs.Pool.{PoolValue, RunsTenant, machine_of, tenant_at, tenant_rules}
pub use Rattle.wasmi_machine.specs.State.{State, with_memories, with_reserved, total, Turn, byte_count, slot_count, world, with_tables, World, live_at}
pub use Rattle.wasmi_machine.specs.declared.calls.Call.TheVariants.{Write, SetFuel, GrowMemory, Binary, GetFuel, Load, Store}
pub use Rattle.wasmi_meter.specs.Capped.{holdings, quota_rules, IsWithinCaps, SameCaps, Asked, HoldsTheSame, Releases, amount_held, with_less, with_more, capped_quota}
pub use Rattle.wasmi_meter.specs.Limiter.{optional_rules, Rules, Question, Answer, Failure, NoticeAnswer, AskedIf, NoticedIf, kind_of}
pub use Rattle.wasmi_meter.specs.Meter.{Meter, meter_after, meter_set}
pub use Rattle.wasmi_meter.specs.declared.quota.Quota.{Quota}
pub use Rattle.wasmi_raw.specs.declared.raw.RawVal.{RawVal}
pub use Rattle.wasmi_region.specs.Table.{creation_in, region_growth, table_in, items_of}
pub use Rattle.wasmi_store.specs.Buffer.{Lent}
pub use Rattle.wasmi_store.specs.Memory.{creation_of, new_memory, MemoryTypeValue, minimum_bytes, page_bytes, MemoryValue, pages_of}
pub use Rattle.wasmi_store.specs.Table.{TableTypeValue, TableValue, TableWrite, WritesTable, table_of, new_table, size_of, copy_of, initialization_of}
pub use base.Fml.{Fml, GName, Lft, Share, fbor, fex, flft, fobs, fsep, ftrue}
pub use base.Logic.{SProp, emp, ent, sep, id⊢, never, fst∗}
pub use contract.BorrowLft.{◌⊑◌}
pub use contract.Monad.{fact, Fun}
pub use contract.Running.{Running, tables}
unfoldable pub use contract.Running.{tables_of}
pub use denote.Exit.{Kept, Last, left, no, yes}
pub use denote.Param.Send.{IsSend, AllSend, owning_send, struct_send, sendable}
pub use denote.RattleType.{RattleType, Valss, owns}
pub use denote.RawPtr.{Ptr, RawPtr, block_ptr, null_ptr, ptr_val, in_a_block}
pub use denote.Signature.{Slot, mut_ref_to, plain}
pub use denote.Steps.{nothing, opens, heard}
pub use denote.Struct.Owning.{shape, fields, to}
pub use denote.Struct.Struct.{within, exits_of}
pub use denote.Triple.Clauses.{Clauses, Ended, closing}
pub use denote.Triple.Spec.{Meets, triple_of}
pub use denote.Triple.Walked.{says, needs, Goes-spent_ref, Stays, stay_dropped, walk_of, ends_at}
pub use mir.MapTy.{inst_fn}
pub use mir.Syntax.{Callee, Fn, Local, Opd, Sym, Ty, addr_of, aggregate, assign, block, copy, deref, dnil, erased, field, impl, local, mut, named, place, return, rv_opd, seq, tcons, tnil, ty_named, ty_ptr, ty_ref, ty_struct, value_local, Args, Dict, a_type, dcons, Body}
pub use mir.Val.{Val, vptr, vstruct, vcons, vnil, of_list, has_ty, WT}
pub use prog.Memory.{Memory}
pub use prog.Routine.{Routine}
pub use prog.Wp.{Closed, Env, WpFn, Tables}
pub use seplogic.Ra.Ura.{Ura}
pub use types.ByLocal.{alloc_all, pass_all, free_all, look_at, get, get_in, through, sets, sets_last, env, lands_as, lands_last}
pub use types.Kit.{Goal, Seq, Step, Item, ⋆, ‵, raw, ◌⊛◌, some, later, await, pick, at_ret, ◌$◌, ◌∵◌, !, qed, step, by, move, keep, use1, split, join, group, rewrite, fsplit, fsplit3, fjoin, fpick, fpack, feq_l, feq_i, suffices, frame, done, split3}
pub use types.Logic.{Logic, sem}
pub use types.Part.{whole, sub, agg, look_in}
pub use types.Run.{stop, fld, load, no_more, and_then, of_opd, addr, first, blocks, exec, returns, enter, lit}
pub use Rattle.wasmi_c.specs.HeldBox.{box_or_none_owns, global_token, machine_row, pool_row}
pub use Rattle.wasmi_c.specs.Instruction.{Leaves, zip3, lanes_of, extracted_value, replaced_value, ternary_value, unary_value}
unfoldable pub use Rattle.wasmi_c.specs.Instruction.{each_of, each_of_two, each_of_three, binary_outcome}
pub use Rattle.wasmi_c.specs.Machine.Calls.{CallsAreRuns, InTurn, ListsAreRuns, MachineReplies, QuotasAreKept, world_of, word_after, RepliesToStruct}
unfoldable pub use Rattle.wasmi_c.specs.Machine.Calls.{RepliesInTurn}
pub use Rattle.wasmi_c.specs.MemoryCalls.{of_memory, by_pages, ended_memory}
pub use Rattle.wasmi_c.specs.Numbers.{meter_of, with_left, KeepsMeter, MeteredRegion, SameRest, limiter_of, quota_numbers_rules, Embedded, embedded, KeepsQuota, Placed, quota_of, table_type_of, IsState}
pub use Rattle.wasmi_c.specs.Pool.{with_machine_at, TenantPaysFuel, TenantRepliesToStruct}
unfoldable pub use Rattle.wasmi_c.specs.Pool.{TenantReplies, TenantRepliesInStatus, TenantRepliesInWord, TenantRepliesToItems}
pub use Rattle.wasmi_c.specs.TableCalls.{WritesTableAs, of_table, by_elements, ended_table}
pub use Rattle.wasmi_c.specs.declared.machine.reply_struct.ReplyStruct.{ReplyStruct}
pub use Rattle.wasmi_c.specs.declared.status.TheConstants.{DONE}
