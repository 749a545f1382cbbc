-- Files in limbo of the store to which a move copies: lines that come into the partition of one go on behind it, and it is to be listed again
-- with them.
use Rattle.std.specs.Prelude.{◌≡◌, ◌≢◌, ◌⊎◌, ◌<◌, ◌≤◌, ◌+◌, ℕ, Bool, List, [], ◌∷◌, ◌++◌, map, length, filter, nat_le, true, false, All, Contains, IfSome, Option, None, Some, slice_get}
use Rattle.etl_mover.specs.Copying.{last_of}
use Rattle.etl_mover.specs.Move.{Moving}
use Rattle.partition_names.specs.Part.{HoldsMoment}
use Rattle.series_model.specs.Series.{end_of}
use Rattle.series_model.specs.declared.sample.Sample.{Sample}
use Rattle.store_manifest.specs.Entries.{place}
use Rattle.store_manifest.specs.declared.entry.Entry.{Entry}
use Rattle.durable_write.specs.Flush.{file_at}
use Rattle.durable_write.specs.Held.{Filed, entry_of, filed_at}
use Rattle.durable_write.specs.Revival.{AreUnlisted}
use Rattle.tier_store.specs.Revival.{IsOfLimbo, samples_at}
use Rattle.tier_store.specs.declared.limbo.Retired.{Retired}

-- WHAT IS IN LIMBO OF A STORE

-- Of these files just those that are in limbo of the store at a place, and in whose places nothing is ahead.
pub record AreBack (i : ℕ) (limbo : List Retired) (files ahead back : List Filed) : Type 0 where
  pub known : All (Contains files) back
  pub unlisted : AreUnlisted ahead back
  pub from : All (λ (f : Filed). IsOfLimbo i limbo f.entry) back
  pub every : (r : Retired) → Contains limbo r → r.name.0 ≡ i + 1 → file_at (place r.entry) ahead ≡ None → Contains (map entry_of back) r.entry

abbrev pub is_nothing : Option Filed → Bool
is_nothing None = true
is_nothing (Some x) = false

-- a file in whose place nothing is
abbrev pub is_free : List Filed → Filed → Bool
is_free ahead f = is_nothing (file_at (filed_at f) ahead)

-- those of these files in whose places nothing is ahead
abbrev pub free_of : List Filed → List Filed → List Filed
free_of ahead files = filter (is_free ahead) files

-- of samples those that are later than the file of their partition, if one of these is
abbrev pub past : List Filed → ℕ → List Sample → List Sample
past back row xs = filter (λ (s : Sample). nat_le (end_of (samples_at back row s.t)) s.t) xs

-- WHERE A PART GOES ON

-- the file is in limbo of a store, of a row, and of the partition that holds a moment, which lies behind that of the row's last entry
pub record IsBehind (number row : ℕ) (last : Option Entry) (t : ℕ) (r : Retired) : Type 0 where
  pub store : r.name.0 ≡ number
  pub own : r.entry.series ≡ row
  pub holds : HoldsMoment r.entry.part t
  pub behind : IfSome last (λ (e : Entry). e.part.start < r.entry.part.start)

-- it is the entry of such a file, and None where there is none
abbrev pub SaysBehind : List Retired → ℕ → ℕ → Option Entry → ℕ → Option Entry → Type 0
SaysBehind limbo store row last t None = (r : Retired) → Contains limbo r → IsBehind store row last t r → ⊥
SaysBehind limbo store row last t (Some e) = (r : Retired) × Contains limbo r × IsBehind store row last t r × (r.entry ≡ e)

-- the file in limbo into whose partition a part's lines come ends no sooner than the part
abbrev pub IsCovered : List Retired → ℕ → ℕ → Option Entry → Entry → Type 0
IsCovered limbo store row last part = (e : Entry) × SaysBehind limbo store row last part.part.start (Some e) × (part.last ≤ e.last)

-- there is none, or one that ends sooner
abbrev pub IsUncovered : List Retired → ℕ → ℕ → Option Entry → Entry → Type 0
IsUncovered limbo store row last part = SaysBehind limbo store row last part.part.start None ⊎ ((e : Entry) × SaysBehind limbo store row last part.part.start (Some e) × (e.last < part.last))

-- Of a move's parts, which are listed by these entries, files in limbo have those from one on up to the n-th, and not that one.
pub record AreCovered (limbo : List Retired) (store : ℕ) (move : Moving) (entries : List Entry) (first n : ℕ) : Type 0 where
  pub low : first ≤ n
  pub high : n ≤ length move.files
  pub each : (k : ℕ) (e : Entry) → first ≤ k → k < n → slice_get entries k ≡ Some e → IsCovered limbo store move.series (last_of move.pending move.listed) e
  pub next : (e : Entry) → n < length move.files → slice_get entries n ≡ Some e → IsUncovered limbo store move.series (last_of move.pending move.listed) e

-- lines of the next part go on in this file in limbo, or there is none in which they would
abbrev pub GoesBehind : List Retired → ℕ → Moving → Option Entry → Type 0
GoesBehind limbo store move revived = (part : Entry) → slice_get move.parts move.at ≡ Some part → SaysBehind limbo store move.series (last_of move.pending move.listed) part.part.start revived

-- what is to be listed, with a file in limbo
abbrev pub pending_with : List Entry → Option Entry → List Entry
pending_with pending None = pending
pending_with pending (Some e) = pending ++ e ∷ []

-- the move as it is where a file in limbo is to be listed already
abbrev pub reviving : Moving → Option Entry → Moving
reviving move revived = record move { pending = pending_with move.pending revived }

-- the last entry is of the partition of the revived file
abbrev pub IsRevived : Option Entry → Option Entry → Type 0
IsRevived last revived = (e : Entry) → revived ≡ Some e → (l : Entry) × (last ≡ Some l) × (l.part.start ≡ e.part.start)

-- it isn't
pub record IsNotRevived (last revived : Option Entry) : Type 0 where
  pub entry : Entry
  pub is : revived ≡ Some entry
  pub apart : (l : Entry) → last ≡ Some l → l.part.start ≢ entry.part.start
