pub mod Dropped
pub mod Synced
pub mod Raises
pub mod RaisedCalls
pub mod Rounds
pub mod Mended
pub mod Turned
pub mod Steps
pub mod Live
pub mod Resynced
pub mod Rebuilt
pub mod Cleanings
pub mod CleanImages
pub mod Sent
pub mod Ended
pub mod Serving
pub mod Worked
pub mod Grown
pub mod ReadContents
pub mod OldKept
pub mod Zeroed
pub mod Readied
pub mod Laid
pub mod Entered
pub mod LaidMembers
pub mod Making
pub mod Sparing
pub mod AgreeStill
pub mod Restating
mod SettledWhole
pub mod LayingDrive
pub mod Enlisted
mod NotTaken
pub mod Seating
pub mod Renewed
mod Joining
mod Joined
mod JoinedMissing
mod JoinedFound
mod Retiring
mod JoinCalls
pub mod Reseated
pub mod Renewing
mod Untouched
mod Enrolled
mod EnlistReplaced
mod EnlistTold
mod EnlistRetired
mod EnlistAll
pub mod Vacated
pub mod Truths
pub mod TruthTurns
pub mod TruthAgrees
mod AddDrive
mod Committed
mod MadeArray
pub mod LaidImages
pub mod LaidOld
pub mod LaidTables
pub mod JoinOld
