pub mod Areas
pub mod Padding
pub mod Sectors
pub mod Bodies
pub mod Locations
pub mod RoundTrip
pub mod HeaderLaw
pub mod LabelLaw
