-- How much of a JSON text an output has written, since its sink had written a and it had gathered the old bytes. The sink has written b
-- now, and the new bytes are gathered.
use Rattle.std.specs.Prelude.{◌≡◌, ℕ, Bool, true, false, List, [], ◌∷◌, ◌++◌, Option, Some}
use Rattle.std.specs.Io.KnownBytes.{Appends}
use Rattle.edge_io.specs.Stream.{AppendsFront}
use Rattle.edge_io.specs.Sent.{Sends}
use Rattle.series_model.specs.declared.sample.Sample.{Sample}
use Rattle.pb_wire.specs.declared.payload.PayloadType.{PayloadType}
use Rattle.act_model.specs.Out.{Subject}
use Rattle.json_out.specs.Json.{begun_text, json}

abbrev pub has_samples : List Sample → Bool
has_samples [] = false
has_samples (x ∷ xs) = true

-- The text as far as these samples went out, or is gathered. The output knows the samples' type, and whether there are any.
pub record Gives (a b : Option (List ℕ)) (old new : List ℕ) (ty : Option PayloadType) (later : Bool) (subject : Subject) (xs : List Sample) : Type 0 where
  pub kind : ty ≡ Some subject.about.ty
  pub more : later ≡ has_samples xs
  pub sent : Sends a b (old ++ begun_text subject.name subject.about xs) new

-- The whole text went out, and nothing is gathered.
abbrev pub Finishes : Option (List ℕ) → Option (List ℕ) → List ℕ → List ℕ → Subject → List Sample → Type 0
Finishes a b old new subject xs = Appends a b (old ++ json subject.name subject.about xs) × (new ≡ [])

-- A front of the text went out.
abbrev pub Breaks : Option (List ℕ) → Option (List ℕ) → List ℕ → Subject → List Sample → Type 0
Breaks a b old subject xs = AppendsFront a b (old ++ json subject.name subject.about xs)
