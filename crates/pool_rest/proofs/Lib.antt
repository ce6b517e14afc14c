mod Fewer
mod Foremost
mod GonePlaces
mod Fronts
pub mod Landings
pub mod BroughtCopies
pub mod LaterCopies
pub mod Extents
mod Cut
mod CutDrives
mod Listed
mod Damage
mod OnDrives
mod DriveReplays
mod Agreeing
mod Again
pub mod SaidLogs
mod SameMeaning
mod Settled
mod Sliced
pub mod Payloads
mod Refusals
mod Quiet
mod Joined
mod Joining
mod LowerLogs
pub mod Keeping
mod Laid
mod Stood
pub mod Meant
mod Moments
pub mod Midway
mod Meanwhile
pub mod SameLogs
pub mod MidwayDisks
pub mod MidwayPool
pub mod Unwritten
