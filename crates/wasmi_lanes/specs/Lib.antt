pub mod LaneProofs
pub mod Vector
pub mod Words
