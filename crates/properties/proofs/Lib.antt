mod Permits
pub mod Laws
