pub mod Types
pub use Rattle.wasmi_machine.specs.State
pub use Rattle.wasmi_machine.specs.Effects
pub use Rattle.wasmi_machine.specs.MemoryEffects
pub use Rattle.wasmi_machine.specs.TableEffects
pub use Rattle.wasmi_machine.specs.ValueEffects
pub use Rattle.wasmi_machine.specs.RegisterEffects
pub use Rattle.wasmi_machine.specs.Steps
pub use Rattle.wasmi_machine.specs.Exchange
pub use Rattle.wasmi_machine.specs.Account
pub use Rattle.wasmi_machine.specs.Determinism
pub use Rattle.wasmi_machine.specs.LentMemory
pub use Rattle.wasmi_machine.specs.Laws
pub use Rattle.wasmi_types.specs.Numbers
pub use Rattle.wasmi_types.specs.Access
pub use Rattle.wasmi_types.specs.Value
pub use Rattle.wasmi_types.specs.Trap
pub use Rattle.wasmi_types.specs.FunctionType
pub use Rattle.wasmi_types.specs.Reading
pub use Rattle.wasmi_raw.specs.Number
pub use Rattle.wasmi_raw.specs.RawVal
pub use Rattle.wasmi_typed.specs.Typed
pub use Rattle.wasmi_typed.specs.Global
pub use Rattle.wasmi_access.specs.LoadStore
pub use Rattle.wasmi_scalar.specs.Numerics
pub use Rattle.wasmi_ops.specs.LoadStoreOps
pub use Rattle.wasmi_scalar_ops.specs.ScalarOps
pub use Rattle.wasmi_lanes.specs.Vector
pub use Rattle.wasmi_lanes.specs.Words
pub use Rattle.wasmi_lanewise.specs.VectorTable
pub use Rattle.wasmi_simd.specs.WideningTable
pub use Rattle.wasmi_ops.specs.VectorOps
pub use Rattle.wasmi_ops.specs.LaneOps
pub use Rattle.wasmi_meter.specs.Limiter
pub use Rattle.wasmi_meter.specs.Meter
pub use Rattle.wasmi_meter.specs.Attempt
pub use Rattle.wasmi_meter.specs.Capped
pub use Rattle.wasmi_meter.specs.AnswerList
pub use Rattle.wasmi_meter.specs.AnyLimiter
pub use Rattle.wasmi_meter.specs.Texts
pub use Rattle.wasmi_store.specs.Memory
pub use Rattle.wasmi_store.specs.Growth
pub use Rattle.wasmi_store.specs.Write
pub use Rattle.wasmi_store.specs.Buffer
pub use Rattle.wasmi_store.specs.Table
pub use Rattle.wasmi_store.specs.Segment
pub use Rattle.wasmi_machine.specs.declared.calls.Call.TheVariants as Calls
pub use Rattle.wasmi_machine.specs.declared.calls.Reply.TheVariants as Replies
pub use Rattle.wasmi_machine.specs.declared.slots.Slot.TheVariants as Slots
pub use Rattle.wasmi_meter.specs.declared.limiter.Kind.TheVariants as Kinds
pub use Rattle.wasmi_meter.specs.declared.error.MemoryError.TheVariants as MemoryErrors
pub use Rattle.wasmi_meter.specs.declared.error.TableError.TheVariants as TableErrors
pub use Rattle.wasmi_types.specs.declared.trap.TrapCode.TheVariants as TrapCodes
pub use Rattle.wasmi_ops.specs.declared.vector.VectorLoadOp.TheVariants as VectorLoads
pub use Rattle.wasmi_ops.specs.declared.vector.BinaryOp.TheVariants as Binaries
