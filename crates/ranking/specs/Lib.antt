pub mod Orders
pub mod Totals
