pub mod Kind
pub mod Forms
pub mod Additive
pub mod Bottleneck
pub mod Sums
pub mod FourBytes
pub mod Maxima
