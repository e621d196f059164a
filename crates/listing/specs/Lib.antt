pub mod Lines
pub mod Whole
pub mod Printed
