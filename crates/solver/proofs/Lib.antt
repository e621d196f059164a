pub mod Judging
pub mod Arrays
pub mod Admitted
pub mod Written
pub mod Tests
pub mod Sifts
pub mod NarrowRoots
pub mod NarrowMade
