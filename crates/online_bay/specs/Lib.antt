pub mod Online
pub mod OnlineBay
pub mod Laws
