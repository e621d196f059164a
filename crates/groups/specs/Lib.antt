pub mod Groups
pub mod Chains
