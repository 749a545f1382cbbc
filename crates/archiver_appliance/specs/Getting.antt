-- What a call of `get` comes to, by the rows and the lists of the stores.
use Rattle.std.specs.Prelude.{◌≡◌, ℕ, List, Option}
use Rattle.disk_model.specs.Files.{Name, Files}
use Rattle.disk_model.specs.Past.{Passes}
use Rattle.disk_model.specs.declared.disk.Disk.{Ghosts}
use Rattle.pv_catalog.specs.declared.row.Row.{Row}
use Rattle.series_model.specs.declared.sample.Query.{Query}
use Rattle.store_reopen.specs.Reopen.{IsUnopened}
use Rattle.store_reopen.specs.Verdict.{Listings}
use Rattle.command_words.specs.Status.{number_of}
use Rattle.command_words.specs.declared.status.Status.{Status}
use Rattle.command_words.specs.declared.status.Status.TheVariants.{NoSuchVariable, Damaged}
use Rattle.archiver_appliance.specs.Judging.{IsDamagedFile, IsOneOf}
use Rattle.archiver_appliance.specs.Retrieving.{GetsRead, HasNone}

-- Where no row has the name the status is 4, unless the disk or memory failed; and it is only there, where nothing was written.
pub record FindsName {K : Type 0} (rows : List Row) (name : List ℕ) (old new : K) (status : Status) : Type 0 where
  pub none : HasNone rows name → IsOneOf (number_of status) 4 7 9
  pub named : status ≡ NoSuchVariable → HasNone rows name × (new ≡ old)

-- what was read of the listed files was written, or one of them is damaged
pub record GetsListed (files : Files) (rows : List Row) (lists : Listings) (name : List ℕ) (query : Query) (a b : Option (List ℕ)) (status : Status) : Type 0 where
  pub read : GetsRead files rows lists name query a b status
  pub damaged : (file : Name) (at : ℕ) → status ≡ Damaged file at → IsDamagedFile files rows lists name file at

-- a disk that tells its files was only read, and may be opened again
pub record LeavesAsRead {D R : Type 0} (disk : Ghosts D R) (old new : D) : Type 0 where
  pub files : disk.files new ≡ disk.files old
  pub any_moment : Passes (λ a b. b ≡ a) (disk.past old) (disk.past new)
  pub unopened : IsUnopened (disk.files new) (disk.opened new)
