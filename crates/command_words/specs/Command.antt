-- The words of the command line.
use Rattle.std.specs.Prelude.{◌≡◌, ℕ, List, [], ◌∷◌, Bool, false, nat_eq, codes}
use Rattle.std.specs.List.{list_any}
use Rattle.arch_time.specs.Iso.{IsIso}
use Rattle.series_model.specs.declared.sample.Query.{Query}
use Rattle.command_words.specs.declared.command.Command.{Command}
use Rattle.command_words.specs.declared.command.Command.TheVariants.{Drill, Extract, OverStore}
use Rattle.command_words.specs.declared.command.StoreCommand.TheVariants.{Ingest, Get, Etl, Status, Check, Serve, Adopt}
use Rattle.command_words.specs.ServeWords.{AsksToDrill, AsksToServe}

-- two texts and the two moments that they tell
abbrev pub IsInterval : List ℕ → List ℕ → Query → Type 0
IsInterval from to query = IsIso from query.from × IsIso to query.to

-- the words that ask for a command
abbrev pub AsksFor : Command → List (List ℕ) → Type 0
AsksFor (Extract query) words = (from : List ℕ) × (to : List ℕ) × (words ≡ codes "extract" ∷ from ∷ to ∷ []) × IsInterval from to query
AsksFor (Drill drill) words = AsksToDrill words drill.hours
AsksFor (OverStore Ingest) words = words ≡ codes "ingest" ∷ []
AsksFor (OverStore (Get name query)) words = (from : List ℕ) × (to : List ℕ) × (words ≡ codes "get" ∷ name.now ∷ from ∷ to ∷ []) × IsInterval from to query
AsksFor (OverStore Etl) words = words ≡ codes "etl" ∷ []
AsksFor (OverStore Status) words = words ≡ codes "status" ∷ []
AsksFor (OverStore Check) words = words ≡ codes "check" ∷ []
AsksFor (OverStore (Serve numbers)) words = AsksToServe words numbers
AsksFor (OverStore Adopt) words = words ≡ codes "adopt" ∷ []

-- the word begins with `-`
abbrev pub has_dash : List ℕ → Bool
has_dash [] = false
has_dash (c ∷ cs) = nat_eq c 45

-- the words are those of a command, and none begins with `-`
abbrev pub IsCommand : List (List ℕ) → Command → Type 0
IsCommand words command = (list_any has_dash words ≡ false) × AsksFor command words

-- the words are those of no command
abbrev pub IsFaulty : List (List ℕ) → Type 0
IsFaulty words = (command : Command) → IsCommand words command → ⊥
