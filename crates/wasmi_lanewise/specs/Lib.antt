pub mod VectorTable
