pub mod Orders
pub mod Laws
pub mod SecondsLaws
pub mod RiseLaws
pub mod FaresLaws
