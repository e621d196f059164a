pub mod ChainItems
pub mod Putting
pub mod Walks
