pub mod Outcomes
pub mod Chains
pub mod Bodies
