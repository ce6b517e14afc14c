pub mod Roles
pub mod RoundTrip
