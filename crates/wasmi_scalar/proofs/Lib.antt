pub mod NumericsLemmas
