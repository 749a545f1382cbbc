-- Pins with their pieces: by its number each has an owner and what is pinned of files.
use Rattle.std.specs.FinMap.{FinMap, get}
use Rattle.std.specs.Coded.{Coded, code_by, coded×, coded_list, coded_ℕ}
use Rattle.std.specs.Ordering.{nat_cmp}
use Rattle.std.specs.Prelude.{◌≡◌, ℕ, ◌==◌, List, map, Option, Some, None, Result, Ok, Err, if◌then◌else◌, refl}
use Rattle.disk_model.specs.Files.{Name}
use Rattle.pins.specs.Pinned.{PinnedNames}
use Rattle.pins.specs.declared.table.PinErr.{PinErr}
use Rattle.pins.specs.declared.table.PinErr.TheVariants.{NoPin, NotYours}
use Rattle.pins.specs.declared.piece.PinnedFile.{PinnedFile}

pub record PinOf : Type 0 where
  pub owner : ℕ
  pub pieces : List PinnedFile

-- a piece is stored as its fields, and a pin as the pair of its own
abbrev pub piece_code : Coded PinnedFile
piece_code = code_by ((ℕ × List ℕ) × (ℕ × ℕ)) (coded× (coded× coded_ℕ (coded_list coded_ℕ)) (coded× coded_ℕ coded_ℕ)) (λ p. (p.name, (p.head_len, p.len))) (λ p. record { name = p.0; head_len = p.1.0; len = p.1.1 }) (λ _. refl)

abbrev pub pin_code : Coded PinOf
pin_code = code_by (ℕ × List PinnedFile) (coded× coded_ℕ (coded_list piece_code)) (λ p. (p.owner, p.pieces)) (λ p. record { owner = p.0; pieces = p.1 }) (λ _. refl)

abbrev pub file_of : PinnedFile → Name
file_of piece = piece.name

-- the same pin, by the names of its files alone
abbrev pub named : Option PinOf → Option PinnedNames
named None = None
named (Some pin) = Some (record { owner = pin.owner; files = map file_of pin.pieces })

-- the pins name just the files of these pieces
abbrev pub Agree : FinMap nat_cmp PinnedNames → FinMap nat_cmp PinOf → Type 0
Agree pins all = (n : ℕ) → get pins n ≡ named (get all n)

-- how one who asks for a pin is answered, by the pin that has the number
abbrev pub asked : ℕ → Option PinOf → Result PinOf PinErr
asked owner None = Err NoPin
asked owner (Some pin) = if pin.owner == owner then Ok pin else Err (NotYours pin.owner)
