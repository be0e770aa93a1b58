use Rattle.std.proofs.Common.{◌≡◌, ◌^◌, ◌<◌, arith, ◌∙◌, w8}
use Rattle.wasmi_lanes.proofs.Common.{number_l, below_from_Fits}
use Rattle.wasmi_lanes.proofs.SimdLaneLemmas.{number_below, number_at}
use Rattle.wasmi_lanes.proofs.simd_lane.from_bytes.Goals as goal

pub returns : goal.returns
returns c =
    let bytes = c.args.bytes in
    let each = below_from_Fits w8 bytes c.fits-bytes.1 in
    let below : number_l 256 bytes < 2 ^ 128 = rw c.fits-bytes.0 at (number_below 8 bytes each) in
    let whole : c.from_word_pair.result ≡ number_l 256 bytes = c.from_word_pair.ensures ∙ omega (arith, below) in
    record {
      number = whole;
      lanes = λ i inside. rw whole (number_at 8 bytes i 0 each (rw c.fits-bytes.0 inside));
      in_range = omega (arith, whole, below);
    }
