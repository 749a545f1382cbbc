-- The good lines at the front of a partition's file.
use Rattle.std.specs.Prelude.{◌≡◌, ◌⊎◌, ℕ, ◌+◌, ◌<◌, ◌≤◌, ◌^◌, List, Option, Some, None, length, take}
use Rattle.series_model.specs.declared.sample.Sample.{Sample}
use Rattle.pb_messages.specs.declared.info.PayloadInfo.{PayloadInfo}
use Rattle.partition_names.specs.declared.part.Part.{Part}
use Rattle.partition_names.specs.Part.{HoldsMoment}
use Rattle.pb_lines.specs.File.{IsFile}
use Rattle.pb_file.specs.declared.check.Tally.{Tally}
use Rattle.pb_file.specs.declared.good.Front.{Front}
use Rattle.pb_file.specs.Verdict.{AllInside, Spans, IsGood}

-- The front is the longest part of the bytes, from their start, that is a file of at least one sample, all in the partition.
pub record IsGoodFront (part : Part) (bytes : List ℕ) (front : Front) : Type 0 where
  pub within : front.len ≤ length bytes
  pub head : List ℕ
  pub samples : List Sample
  pub file : IsFile (take front.len bytes) head front.info samples
  pub inside : AllInside part samples
  pub header : front.head_len ≡ length head + 1
  pub number : front.count ≡ length samples
  pub span : Spans samples front.first front.last
  pub longest : (len count first last : ℕ) → len ≤ length bytes → IsGood part (take len bytes) count first last → len ≤ front.len

-- The bytes begin with no file of at least one sample, all in the partition, or its header's line with its newline has 2 ^ 32 bytes or more.
abbrev pub HasNoFront : Part → List ℕ → Type 0
HasNoFront part bytes = (len count first last : ℕ) → len ≤ length bytes → (good : IsGood part (take len bytes) count first last) → 2 ^ 32 ≤ length good.head + 1

-- What is known of a front of the first `len` bytes of a file, also where the file doesn't tell its bytes.
pub record IsShapedAs (part : Part) (len : ℕ) (front : Front) : Type 0 where
  pub header : 0 < front.head_len
  pub some : 0 < front.count
  pub longer : front.head_len + front.count ≤ front.len
  pub within : front.len ≤ len
  pub first : HoldsMoment part front.first
  pub last : HoldsMoment part front.last
  pub order : front.first ≤ front.last

-- the front has this header, its line so long, and these samples, so many bytes together
pub record IsMadeOf (info : Option PayloadInfo) (head_len len : ℕ) (tally : Tally) (front : Front) : Type 0 where
  pub header : info ≡ Some front.info
  pub some : 0 < tally.count
  pub made : front ≡ record { info = front.info; head_len = head_len; len = len; count = tally.count; first = tally.first; last = tally.last }

-- there is no header, no sample, or the header's line is too long
abbrev pub LacksFront : Option PayloadInfo → ℕ → Tally → Type 0
LacksFront info head_len tally = (info ≡ None) ⊎ ((tally.count ≡ 0) ⊎ (2 ^ 32 ≤ head_len))
