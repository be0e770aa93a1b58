use Rattle.wasmi_lanes.proofs.SimdLaneLemmas.{byte_of_words}
use Rattle.wasmi_lanes.proofs.simd_lane.bytes_of.Goals as goal

pub returns-clause-lanes : goal.returns-clause-lanes
returns-clause-lanes c = byte_of_words c.args.vector c.words-low.result.0 c.words-low.result.1 c.words-low.ensures.whole
