-- The service of links and doors, in the order in which it is best read: first a request's reply, last a whole service.
pub mod Data
pub mod Requests
pub mod Serving
pub mod Completeness
pub mod Doors
pub mod Service
pub mod Seats
