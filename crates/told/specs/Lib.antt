pub mod Laws
pub mod Lists
pub mod Tellings
pub mod Trails
