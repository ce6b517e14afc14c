pub mod Booked
pub mod Keeping
pub mod Doing
pub mod Serving
pub mod Continuing
mod Rebuilding
mod Reached
mod Losing
mod LastRow
mod MovedRows
mod ZeroedRows
mod ExtensionTried
mod Planning
pub mod Admitted
mod Shown
mod Carrying
mod Later
mod Attaching
mod Late
mod NamedDisks
mod Composed
mod Vacating
mod Taken
pub mod Enlisted
pub mod Readying
mod Entered
mod Former
mod Giving
mod Ways
mod Cleaning
mod NewPools
mod OwnAreas
mod Closing
mod Working
mod Rooms
mod Books
mod Quiet
mod Counting
mod Counted
mod Stepping
mod Held
mod Adds
mod Extends
mod InRow
mod Grows
mod RowsTried
mod Trying
mod Added
mod AddedDrives
mod ReachedArrays
mod Enlarged
mod EnlargedDrives
mod GrownPools
