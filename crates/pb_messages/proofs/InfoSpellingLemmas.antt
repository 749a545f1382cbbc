-- What is written, part by part.
pub use Rattle.pb_wire.proofs.PairTexts.{texts_apart}
