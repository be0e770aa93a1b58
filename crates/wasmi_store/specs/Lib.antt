pub mod Growth
pub mod Write
pub mod Buffer
pub mod Memory
pub mod Segment
pub mod Table
