-- The meanings of the two halves.
use Rattle.std.specs.Prelude.{◌≡◌, ℕ, ◌+◌, ◌≤◌, List}
use Rattle.closed_pairs.specs.Pairs.{Has}
use Rattle.turn_rooms.specs.declared.room.RoomEntry.{RoomEntry}
use Rattle.turn_rooms.specs.declared.beside.ActBeside.{ActBeside}
use Rattle.turn_rooms.specs.declared.twins.Twin.{Twin}
use Rattle.turn_rooms.specs.declared.twins.TwinPass.{TwinPass}
use Rattle.turn_rooms.specs.TwinPasses.{IsTwinPassOf}
use Rattle.unit_cases.specs.declared.halves.Flush.{Flush}
use Rattle.unit_cases.specs.declared.halves.Vault.{Vault}
use Rattle.unit_cases.specs.declared.halves.IntakeCount.{IntakeCount}
use Rattle.unit_cases.specs.declared.halves.Ask.{Ask}
use Rattle.unit_cases.specs.declared.halves.Ask.TheVariants as ask

abbrev pub StoreEntry : Type 0
StoreEntry = RoomEntry Vault (ActBeside Flush) ℕ

abbrev pub IntakeEntry : Type 0
IntakeEntry = RoomEntry IntakeCount (ActBeside Ask) ℕ

abbrev pub vault_steps : Vault → ℕ → ℕ → Flush → ℕ → Vault → Type 0
vault_steps old who n act answer new = answer ≡ new.flushed

abbrev pub tally_steps : IntakeCount → ℕ → ℕ → Ask → ℕ → IntakeCount → Type 0
tally_steps old who n ask.Offer answer new = old.accepted ≤ new.accepted
tally_steps old who n ask.Look answer new = (new.accepted ≡ old.accepted) × (answer ≡ old.accepted)
tally_steps old who n (ask.Take safe) answer new = (new.accepted ≡ old.accepted) × (answer + safe ≡ old.accepted)

-- a take never lets go of more than was offered
abbrev pub tally_fits : IntakeCount → Ask → Type 0
tally_fits room ask.Offer = Unit {0}
tally_fits room ask.Look = Unit {0}
tally_fits room (ask.Take safe) = safe ≤ room.accepted

-- a flush is allowed where a look answered its number
abbrev pub flush_allowed : List IntakeEntry → Flush → Type 0
flush_allowed g act = Has (λ e. (e.act.act ≡ ask.Look) × (e.answer ≡ act.upto)) g

-- a take is allowed where the store has a flush of its number
abbrev pub take_allowed : List StoreEntry → Ask → Type 0
take_allowed h ask.Offer = Unit {0}
take_allowed h ask.Look = Unit {0}
take_allowed h (ask.Take safe) = Has (λ e. e.act.act.upto ≡ safe) h

abbrev pub begins : Vault → IntakeCount → Type 0
begins vault tally = vault.flushed ≤ tally.accepted

abbrev pub IsPass : Twin Vault IntakeCount Flush ℕ Ask ℕ → TwinPass Vault IntakeCount Flush ℕ Ask ℕ → Type 0
IsPass twin pass = IsTwinPassOf vault_steps tally_steps begins twin pass
