pub mod Common
pub mod PartsLemmas
pub mod LinesLemmas
pub mod CommandsLemmas
pub mod LimitWordsLemmas
pub mod TextsLemmas
pub mod MeaningLemmas
pub mod OneScriptLemmas
mod HeadersLemmas
