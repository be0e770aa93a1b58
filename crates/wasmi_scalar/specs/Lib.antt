pub mod Numerics
