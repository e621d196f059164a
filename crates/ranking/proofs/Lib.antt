pub mod FreeNumbers
pub mod MergedLists
pub mod MergedHalves
pub mod MergedSteps
pub mod RankedNumbers
pub mod TotalSums
pub mod SwapGroups
pub mod SwapWalk
