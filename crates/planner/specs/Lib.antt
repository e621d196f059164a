pub mod Lending
pub mod Sheets
pub mod Model
pub mod Modelled
