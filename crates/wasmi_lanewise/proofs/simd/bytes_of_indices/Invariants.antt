use Rattle.std.proofs.Common.{ℕ, ◌<◌, ◌≡◌, length, slice_index}
use Rattle.wasmi_lanewise.proofs.simd.bytes_of_indices.Given as goal

abbrev pub invariant-loop-i : goal.invariant-loop-i
invariant-loop-i l = (length l.bytes ≡ 16)
    × ((k : ℕ) → k < l.i → (slice_index l.bytes k ≡ slice_index l.fn.indices k) × (slice_index l.bytes k < 32))
