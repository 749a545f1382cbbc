-- Pins: by its number each has an owner and the files that it names.
use Rattle.std.specs.FinMap.{FinMap, get}
use Rattle.std.specs.Coded.{Coded, code_by, coded×, coded_list, coded_ℕ}
use Rattle.std.specs.List.{list_any}
use Rattle.std.specs.Ordering.{nat_cmp}
use Rattle.std.specs.Prelude.{◌≡◌, ℕ, ◌==◌, Bool, List, Contains, Option, Some, None, Result, Ok, Err, if◌then◌else◌, refl}
use Rattle.disk_model.specs.Files.{Name}
use Rattle.disk_model.specs.Record.{is_same}
use Rattle.pins.specs.declared.table.PinErr.{PinErr}
use Rattle.pins.specs.declared.table.PinErr.TheVariants.{NoPin, NotYours}

pub record PinnedNames : Type 0 where
  pub owner : ℕ
  pub files : List Name

-- a pin is stored as the pair of its fields
abbrev pub pin_code : Coded PinnedNames
pin_code = code_by (ℕ × List Name) (coded× coded_ℕ (coded_list (coded× coded_ℕ (coded_list coded_ℕ)))) (λ p. (p.owner, p.files)) (λ p. record { owner = p.0; files = p.1 }) (λ _. refl)

-- whether one of the pin's files is this one
abbrev pub names_file : Name → PinnedNames → Bool
names_file file pin = list_any (λ name. is_same name file) pin.files

-- a pin that stands names the file
pub record IsPinned (pins : FinMap nat_cmp PinnedNames) (file : Name) : Type 0 where
  pub number : ℕ
  pub pin : PinnedNames
  pub stands : get pins number ≡ Some pin
  pub names : Contains pin.files file

-- how an owner's wish to drop a pin is answered, by the pin that has the number
abbrev pub dropped : ℕ → Option PinnedNames → Result Unit PinErr
dropped owner None = Err NoPin
dropped owner (Some pin) = if pin.owner == owner then Ok tt else Err (NotYours pin.owner)
