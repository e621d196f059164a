pub mod Cells
pub mod Places
pub mod Faults
pub mod Decoding
pub mod Encoding
