-- What a commit of one store leaves of every name.
use Rattle.std.specs.Prelude.{◌≡◌, ◌≢◌, ℕ}
use Rattle.disk_model.specs.Files.{Name, Files}
use Rattle.gate_journal.specs.Generations.{IsOwn}

-- whatever was there, now there may be anything
abbrev pub Anything : Files → Files → Type 0
Anything old new = Unit {0}

-- every name has what it had, but the files of this store and of the journal of this name
abbrev pub Beside : ℕ → Name → Files → Files → Type 0
Beside store name old new = (n : Name) → n.0 ≢ store → (IsOwn name n → ⊥) → new n ≡ old n
