-- Words of 64 bits and their lanes, which may have unequal widths. Where `tops` is a word, its ones are the highest
-- bits of the lanes: a lane begins at the bottom, or right above a top, and ends with the next top. What is left above
-- the last top is a lane too, for what leaves it leaves the word.
use Rattle.std.specs.Prelude.{ℕ, ◌≡◌, ◌+◌, ◌-◌, ◌*◌, ◌/◌, ◌%◌, ◌^◌, ◌<◌, ◌≤◌, ◌⊎◌, List, [], ◌∷◌, replicate, ◌==◌, if◌then◌else◌}
use Rattle.std.specs.Int.{bit_at}
use Rattle.std.specs.Simd.Lanes.{number_l}
use Rattle.wasmi_types.specs.Numbers.{Width, bits}

-- the number in the bits of v from start to start + width - 1
unfoldable pub field : ℕ → ℕ → ℕ → ℕ
field start width v = v / 2 ^ start % 2 ^ width

-- the bits from start to start + width - 1 are a lane of tops
pub record IsLane (tops start width : ℕ) : Type 0 where
  pub starts : (start ≡ 0) ⊎ (bit_at tops (start - 1) ≡ 1)
  pub top : field start width tops ≡ 2 ^ (width - 1)
  pub within : start + width ≤ 64

-- the bits from start to start + width - 1 are those of a word above the last top, or all of them where there is no top
pub record IsLastLane (tops start width : ℕ) : Type 0 where
  pub starts : (start ≡ 0) ⊎ (bit_at tops (start - 1) ≡ 1)
  pub free : field start width tops ≡ 0
  pub whole : start + width ≡ 64

-- lanes of these widths, one after another from start on, are those of tops up to the end of the word
abbrev pub AreLanes : ℕ → ℕ → List ℕ → Type 0
AreLanes tops start [] = start ≡ 64
AreLanes tops start (width ∷ widths) = IsLane tops start width × AreLanes tops (start + width) widths

-- the word whose lanes of these widths, one after another from start on, are what f gives for start and width of each
abbrev pub word_of_lanes : (ℕ → ℕ → ℕ) → ℕ → List ℕ → ℕ
word_of_lanes f start [] = 0
word_of_lanes f start (width ∷ widths) = f start width * 2 ^ start + word_of_lanes f (start + width) widths

-- how many lanes of a width a word has
abbrev pub lanes_in_word : Width → ℕ
lanes_in_word w = 64 / bits w

-- the word with n in each lane of one width
abbrev pub in_each_lane : Width → ℕ → ℕ
in_each_lane w n = number_l (2 ^ bits w) (replicate (lanes_in_word w) n)

-- the numbers of the lanes of one width in a word: how many bits a lane has, the highest bits of the lanes, and the
-- lowest bits of the lanes
pub record IsWordLane (width : Width) (lane_bits tops ones : ℕ) : Type 0 where
  pub wide : lane_bits ≡ bits width
  pub whole : lanes_in_word width * bits width ≡ 64
  pub highest : tops ≡ in_each_lane width (2 ^ (bits width - 1))
  pub lowest : ones ≡ in_each_lane width 1

-- every lane of w bits of a word is 0 or its highest bit alone
abbrev pub AreMarks : Width → ℕ → Type 0
AreMarks w marks = (i : ℕ) → i < lanes_in_word w
    → (field (bits w * i) (bits w) marks ≡ 0) ⊎ (field (bits w * i) (bits w) marks ≡ 2 ^ (bits w - 1))

-- the lanes that have their highest bit in marks are all ones in word, the others all zeros
abbrev pub AreFilled : Width → ℕ → ℕ → Type 0
AreFilled w marks word = (i : ℕ) → i < lanes_in_word w
    → field (bits w * i) (bits w) word ≡ (if field (bits w * i) (bits w) marks == 0 then 0 else 2 ^ bits w - 1)
