pub mod Beginning
pub mod Steps
pub mod Written
pub mod Taking
