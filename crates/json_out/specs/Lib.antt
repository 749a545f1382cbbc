-- The JSON text of an answer, in the order in which it is best read: values, objects, what a line says, the whole text, and how much
-- of it an output has written.
pub mod Values
pub mod Objects
pub mod Line
pub mod Json
pub mod Writing
pub mod Fronts
pub mod Laws
