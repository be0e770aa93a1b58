pub mod ScalarOps
