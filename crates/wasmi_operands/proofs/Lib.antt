pub mod LineWordsLemmas
pub mod NamesLemmas
pub mod OpNamesLemmas
