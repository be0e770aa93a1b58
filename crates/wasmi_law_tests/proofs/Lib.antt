pub mod Common
pub mod LimitersLemmas
pub mod LanesLemmas
pub mod ChainsLemmas
pub mod RegionsLemmas
pub mod RunsLemmas
pub mod HostsLemmas
pub mod ReservedLemmas
