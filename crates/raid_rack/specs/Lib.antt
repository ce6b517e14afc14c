pub mod RaidRack
pub mod AllRuns
pub mod Growing
pub mod BareSlices
