pub mod DriveTable
pub mod Places
pub mod RoundTrip
