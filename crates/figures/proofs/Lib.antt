pub mod Tests
pub mod Worked
