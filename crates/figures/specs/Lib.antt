pub mod Sheets
pub mod Figures
