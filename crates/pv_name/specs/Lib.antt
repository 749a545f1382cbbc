pub mod Name
pub mod Key
pub mod Laws
