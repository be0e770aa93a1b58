pub mod Common
pub mod RunsLemmas
pub mod RefusalLemmas
pub mod MoreFuelLemmas
pub mod ListLemmas
pub mod LocationLemmas
pub mod IndependenceLemmas
pub mod PlacesLemmas
pub mod ReservedLemmas
mod ReservedPoolsLemmas
