-- The lists of instructions' names that stand in memory: each tells what its names mean; and for the four kinds of
-- instructions on one lane what a name and an index name.
use Rattle.std.proofs.Common.{◌≡◌, ℕ, List, map, refl, true}
use denote.Enum.Bare.{Bare}
use denote.Enum.Declared.{Record}
use Rattle.wasmi_ops.specs.declared.load_store.TheConstants.{LOADS, STORES}
use Rattle.wasmi_ops.specs.declared.vector.TheConstants.{MAKES, UNARIES, BINARIES, TERNARIES, SHIFTS, TESTS, EXTRACTIONS, REPLACEMENTS, LANE_LOADS, LANE_STORES, VECTOR_LOADS}
use Rattle.wasmi_ops.specs.LoadStoreOps.{load_name, store_name}
use Rattle.wasmi_ops.specs.VectorOps.{make_name, unary_name, binary_name, ternary_name, shift_name, test_name, vector_load_name}
use Rattle.wasmi_ops.specs.LaneOps.{extract_name, extract_op, replace_name, replace_op, load_lane_name, load_lane_op, store_lane_name, store_lane_op}
use Rattle.wasmi_ops.specs.contracts.load_store.LoadOp as load
use Rattle.wasmi_ops.specs.contracts.load_store.StoreOp as store
use Rattle.wasmi_ops.specs.contracts.vector.MakeOp as make
use Rattle.wasmi_ops.specs.contracts.vector.UnaryOp as unary
use Rattle.wasmi_ops.specs.contracts.vector.BinaryOp as binary
use Rattle.wasmi_ops.specs.contracts.vector.TernaryOp as ternary
use Rattle.wasmi_ops.specs.contracts.vector.ShiftOp as shift
use Rattle.wasmi_ops.specs.contracts.vector.TestOp as test
use Rattle.wasmi_ops.specs.contracts.vector.ExtractKind as extraction
use Rattle.wasmi_ops.specs.contracts.vector.ReplaceKind as replacement
use Rattle.wasmi_ops.specs.contracts.vector.VectorLoadOp as vector_load
use Rattle.wasmi_ops.specs.contracts.vector.LoadLaneKind as lane_load
use Rattle.wasmi_ops.specs.contracts.vector.StoreLaneKind as lane_store
use Rattle.wasmi_operands.proofs.NamesLemmas.{TellsNames, entries_named, has_each, tells_names, NamesOnLane, names_on, no_name, no_index}

-- a list of names that stand in memory tells what they mean
abbrev pub Tells : {A : Type 0} → List (record { now : List ℕ } × A) → (A → List ℕ) → Type 0
Tells list name_of = TellsNames (map (λ entry. (entry.0.now, entry.1)) list) name_of

-- a list of instructions' names that stands in memory and has each op of an enum under its name tells what they mean
tells : (N : Record) (bare : Bare N.parts) (name_of : N.D → List ℕ) (list : List (record { now : List ℕ } × N.D))
    → entries_named name_of (map (λ entry. (entry.0.now, entry.1)) list) ≡ true
    → has_each N bare name_of (map (λ entry. (entry.0.now, entry.1)) list) ≡ true → Tells list name_of
tells N bare name_of list = tells_names N bare name_of (map (λ entry. (entry.0.now, entry.1)) list)

-- the lists of names of loads and stores, and of vector instructions on whole vectors and on one lane, tell what the
-- names mean
pub op_names : Tells LOADS load_name × Tells STORES store_name × Tells MAKES make_name × Tells UNARIES unary_name
    × Tells BINARIES binary_name × Tells TERNARIES ternary_name × Tells SHIFTS shift_name × Tells TESTS test_name
    × Tells VECTOR_LOADS vector_load_name × Tells EXTRACTIONS extract_name × Tells REPLACEMENTS replace_name
    × Tells LANE_LOADS load_lane_name × Tells LANE_STORES store_lane_name
op_names = (
  tells load.enum tt load_name LOADS refl refl,
  tells store.enum tt store_name STORES refl refl,
  tells make.enum tt make_name MAKES refl refl,
  tells unary.enum tt unary_name UNARIES refl refl,
  tells binary.enum tt binary_name BINARIES refl refl,
  tells ternary.enum tt ternary_name TERNARIES refl refl,
  tells shift.enum tt shift_name SHIFTS refl refl,
  tells test.enum tt test_name TESTS refl refl,
  tells vector_load.enum tt vector_load_name VECTOR_LOADS refl refl,
  tells extraction.enum tt extract_name EXTRACTIONS refl refl,
  tells replacement.enum tt replace_name REPLACEMENTS refl refl,
  tells lane_load.enum tt load_lane_name LANE_LOADS refl refl,
  tells lane_store.enum tt store_lane_name LANE_STORES refl refl,
)

-- a name and an index that are read name the instruction on the lane
pub on_lanes : NamesOnLane extract_name extract_op × NamesOnLane replace_name replace_op
    × NamesOnLane load_lane_name load_lane_op × NamesOnLane store_lane_name store_lane_op
on_lanes = (
  names_on extraction.enum tt extract_name extract_op refl,
  names_on replacement.enum tt replace_name replace_op refl,
  names_on lane_load.enum tt load_lane_name load_lane_op refl,
  names_on lane_store.enum tt store_lane_name store_lane_op refl,
)

pub ruleset lane_ops = (no_name, no_index, on_lanes)
