pub mod LaneOps
pub mod LoadStoreOps
pub mod VectorOps
