pub mod Format
pub mod Check
pub mod Reading
