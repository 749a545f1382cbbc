-- Retrievals, in the order in which they are best read: the raw text, and how much of it an output has written; then a pin's pieces, the
-- giving of an answer's samples, and a retrieval as a whole.
pub mod Raw
pub mod Writing
pub mod Texts
pub mod Fronts
pub mod Openings
pub mod Held
pub mod Giving
pub mod Retrieving
pub mod Pinning
