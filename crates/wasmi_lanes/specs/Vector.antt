-- A vector is a number below 2 ^ 128; its lanes of one width are its digits to the base 2 ^ width, lane 0 the lowest.
-- How lanes are read as items, and the vectors that are made of lanes, as of rows over the lanes of operands.
use Rattle.std.specs.Prelude.{ℕ, zero, suc, ◌-◌, ◌*◌, ◌/◌, ◌%◌, ◌^◌, ◌<◌, ◌≡◌, ◌⊎◌, ◌+◌, Bool, if◌then◌else◌, ◌==◌}
use Rattle.wasmi_types.specs.Numbers.{Width, bits}

-- lane i of the vector v
abbrev pub lane : Width → ℕ → ℕ → ℕ
lane w v i = v / 2 ^ (bits w * i) % 2 ^ bits w

-- how many lanes of a width a vector has
abbrev pub lane_count : Width → ℕ
lane_count w = 128 / bits w

-- a lane's number as it is; `signed` reads it as a signed number
abbrev pub unsigned : ℕ → ℕ
unsigned n = n

-- the items of a type are those of lanes of a width: `read` gives the item of a lane's number, `image` the number of an
-- item, and `Fits` says which items are in the type's range; `ones` is the item whose bits are all ones, `zeros` that
-- whose bits are all zeros
pub record ReadsLanes {Item : Type 0} (width : Width) (read : ℕ → Item) (image : Item → ℕ) (Fits : Item → Type 0)
    (ones zeros : Item) : Type 0 where
  pub image_of_ones : image ones ≡ 2 ^ bits width - 1
  pub image_of_zeros : image zeros ≡ 0
  pub image_of_read : (n : ℕ) → n < 2 ^ bits width → image (read n) ≡ n
  pub read_fits : (n : ℕ) → n < 2 ^ bits width → Fits (read n)

-- the lanes of a type fill a vector, have as many indices, and have the ones and zeros of its items
pub record AreWholeLanes {Item : Type 0} (width : Width) (lanes indices : ℕ)
    (ones zeros item_ones item_zeros : Item) : Type 0 where
  pub filled : lanes * bits width ≡ 128
  pub counted : indices ≡ lanes
  pub ones_eq : ones ≡ item_ones
  pub zeros_eq : zeros ≡ item_zeros

-- a number of lanes: of one vector, or of two vectors of bytes
abbrev pub IsLaneCount : ℕ → Type 0
IsLaneCount n = (n ≡ 2) ⊎ (n ≡ 4) ⊎ (n ≡ 8) ⊎ (n ≡ 16) ⊎ (n ≡ 32)

-- the steps at lanes 0, 1 and so on, n of them, lead from `first` to `last`
abbrev pub ReducesTo : {A : Type 0} → (ℕ → A → A → Type 0) → ℕ → A → A → Type 0
ReducesTo Step zero first last = last ≡ first
ReducesTo {A} Step (suc n) first last = (middle : A) × ReducesTo Step n first middle × Step n middle last

-- the number whose first n lanes are f 0, f 1 and so on, and whose others are 0
unfoldable pub first_lanes : Width → ℕ → (ℕ → ℕ) → ℕ
first_lanes w zero f = 0
first_lanes w (suc n) f = first_lanes w n f + f n % 2 ^ bits w * 2 ^ (bits w * n)

-- the vector whose lane i is f i
abbrev pub from_lanes : Width → (ℕ → ℕ) → ℕ
from_lanes w f = first_lanes w (128 / bits w) f

-- the vector whose lane i is the row of the operands' lanes i
unfoldable pub unary_of_lanes : {A : Type 0} → (w : Width) → (ℕ → A) → (A → ℕ) → ℕ → ℕ
unary_of_lanes w read row a = from_lanes w (λ i. row (read (lane w a i)))

-- the vector whose lane i is the row of lanes i of two vectors, read in one way
unfoldable pub binary_of_lanes : {A : Type 0} → (w : Width) → (ℕ → A) → (A → A → ℕ) → ℕ → ℕ → ℕ
binary_of_lanes w read row a b = from_lanes w (λ i. row (read (lane w a i)) (read (lane w b i)))

-- all ones where the test of the operands' lanes i holds, else all zeros
unfoldable pub comparison_of_lanes : {A : Type 0} → (w : Width) → (ℕ → A) → (A → A → Bool) → ℕ → ℕ → ℕ
comparison_of_lanes w read test a b =
    from_lanes w (λ i. if test (read (lane w a i)) (read (lane w b i)) then 2 ^ bits w - 1 else 0)

-- n in each lane
unfoldable pub splat_of : Width → ℕ → ℕ
splat_of w n = from_lanes w (λ _. n)

-- v with n in lane k
unfoldable pub with_lane : Width → ℕ → ℕ → ℕ → ℕ
with_lane w v k n = from_lanes w (λ i. if i == k then n else lane w v i)

-- what is made of an item in range has the number that the row names; `Makes` relates the item to what is made of it
abbrev pub ComputesLane : {A : Type 0} → (A → Type 0) → (A → ℕ) → (A → A → Type 0) → (A → ℕ) → Type 0
ComputesLane {A} Fits image Makes row = (x z : A) → Fits x → Fits z → Makes x z → image z ≡ row x

-- what is made of two items in range has the number that the row names for them
abbrev pub ComputesLaneOfTwo : {A : Type 0} → (A → Type 0) → (A → ℕ) → (A → A → A → Type 0) → (A → A → ℕ) → Type 0
ComputesLaneOfTwo {A} Fits image Makes row = (x y z : A) → Fits x → Fits y → Fits z → Makes x y z → image z ≡ row x y
