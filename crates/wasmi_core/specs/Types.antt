-- The types of the parts that clauses and specifications cite, passed on from one place. Declares nothing.
pub use Rattle.wasmi_types.specs.declared.{index_ty.IndexType.IndexType, trap.TrapCode.TrapCode, value.RefType.RefType, value.ValType.ValType}
pub use Rattle.wasmi_raw.specs.declared.raw.RawVal.{RawVal}
pub use Rattle.wasmi_typed.specs.declared.{typed.TypedRawVal.TypedRawVal, typed_ref.TypedRawRef.TypedRawRef, global.Mutability.Mutability, global.GlobalError.GlobalError}
pub use Rattle.wasmi_meter.specs.declared.{error.LimiterError.LimiterError, error.MemoryError.MemoryError, error.TableError.TableError, fuel.FuelError.FuelError, fuel.CustomFuelCosts.CustomFuelCosts, limiter.Kind.Kind, quota.Quota.Quota}
pub use Rattle.wasmi_store.specs.declared.table.element.SegmentError.{SegmentError}
pub use Rattle.wasmi_ops.specs.declared.{load_store.LoadOp.LoadOp, load_store.StoreOp.StoreOp, vector.BinaryOp.BinaryOp, vector.UnaryOp.UnaryOp, vector.TernaryOp.TernaryOp, vector.ShiftOp.ShiftOp, vector.TestOp.TestOp, vector.MakeOp.MakeOp, vector.ExtractOp.ExtractOp, vector.ReplaceOp.ReplaceOp, vector.VectorLoadOp.VectorLoadOp, vector.LoadLaneOp.LoadLaneOp, vector.StoreLaneOp.StoreLaneOp}
pub use Rattle.wasmi_machine.specs.declared.{calls.Call.Call, calls.Reply.Reply, slots.Slot.Slot}
