pub mod Escaping
pub mod Unescaping
