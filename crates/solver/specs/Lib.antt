pub mod Solved
pub mod Settling
pub mod Narrowing
pub mod Sifting
