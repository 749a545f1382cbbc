pub mod Complaining
pub mod Fronts
pub mod Words
