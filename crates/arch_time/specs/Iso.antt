-- The ISO text of a moment: YYYY-MM-DDTHH:MM:SS, maybe a fraction, and a zone.
use Rattle.std.specs.Prelude.{◌≡◌, ℕ, ◌+◌, ◌-◌, ◌*◌, ◌^◌, ◌<◌, ◌≤◌, ◌⊎◌, List, [], ◌∷◌, ◌++◌, length, drop, slice_index, slice_range}
use Rattle.std.specs.Int.{IsInRange}
use Rattle.arch_time.specs.Calendar.{day_number, unix_day, IsDate}
use Rattle.arch_time.specs.YearTime.{end}
use Rattle.arch_time.specs.Digits.{IsDigits, number_after, IsNumber}
use Rattle.arch_time.specs.declared.iso.Offset.{Offset}
use Rattle.arch_time.specs.declared.iso.Offset.TheVariants.{Ahead, Behind}

-- the marks of the form: - T : . + Z
abbrev pub hyphen : ℕ
hyphen = 45

abbrev pub letter_t : ℕ
letter_t = 84

abbrev pub colon : ℕ
colon = 58

abbrev pub point : ℕ
point = 46

abbrev pub plus : ℕ
plus = 43

abbrev pub letter_z : ℕ
letter_z = 90

-- YYYY-MM-DD, where the calendar has the day, and this is its number
pub record IsDateText (text : List ℕ) (day : ℕ) : Type 0 where
  pub y : ℕ
  pub m : ℕ
  pub d : ℕ
  pub size : length text ≡ 10
  pub year : IsNumber (slice_range text 0 4) y
  pub first_mark : slice_index text 4 ≡ hyphen
  pub month : IsNumber (slice_range text 5 7) m
  pub second_mark : slice_index text 7 ≡ hyphen
  pub date : IsNumber (slice_range text 8 10) d
  pub exists : IsDate y m d
  pub number : day ≡ day_number y m d

-- HH:MM, of hours to 23 and minutes to 59, as seconds
pub record IsMinuteText (text : List ℕ) (seconds : ℕ) : Type 0 where
  pub h : ℕ
  pub m : ℕ
  pub size : length text ≡ 5
  pub hour : IsNumber (slice_range text 0 2) h
  pub mark : slice_index text 2 ≡ colon
  pub minute : IsNumber (slice_range text 3 5) m
  pub hours : h < 24
  pub minutes : m < 60
  pub value : seconds ≡ h * 3600 + m * 60

-- HH:MM:SS, of seconds to 59, as the second of the day
pub record IsClockText (text : List ℕ) (second : ℕ) : Type 0 where
  pub before : ℕ
  pub s : ℕ
  pub size : length text ≡ 8
  pub minute : IsMinuteText (slice_range text 0 5) before
  pub mark : slice_index text 5 ≡ colon
  pub last : IsNumber (slice_range text 6 8) s
  pub seconds : s < 60
  pub value : second ≡ before + s

-- nothing, or a point and one to nine digits, as nanoseconds
abbrev pub IsFraction : List ℕ → ℕ → Type 0
IsFraction [] nano = nano ≡ 0
IsFraction (c ∷ digits) nano =
    (c ≡ point) × IsInRange 1 9 (length digits) × IsDigits digits
    × (nano ≡ number_after 0 digits * 10 ^ (9 - length digits))

-- a sign and HH:MM
pub record IsSigned (sign : ℕ) (text : List ℕ) (seconds : ℕ) : Type 0 where
  pub first : slice_index text 0 ≡ sign
  pub rest : IsMinuteText (drop 1 text) seconds

-- Z, or + and how far civil time is ahead of UTC, or - and how far it is behind
abbrev pub IsZone : List ℕ → Offset → Type 0
IsZone text (Ahead s) = ((text ≡ letter_z ∷ []) × (s ≡ 0)) ⊎ IsSigned plus text s
IsZone text (Behind s) = IsSigned hyphen text s

-- the moment of a civil time is that time less its offset; all three in seconds
abbrev pub IsLessOffset : ℕ → Offset → ℕ → Type 0
IsLessOffset civil (Ahead s) utc = utc + s ≡ civil
IsLessOffset civil (Behind s) utc = utc ≡ civil + s

-- t is the moment of a civil second and a nanosecond at that offset, from 1970 to 2499; civil
-- seconds are counted from the year 0
pub record IsMomentAt (civil : ℕ) (offset : Offset) (nano t : ℕ) : Type 0 where
  pub utc : ℕ
  pub less : IsLessOffset civil offset utc
  pub moment : utc * 1_000_000_000 + nano ≡ unix_day * 86_400 * 1_000_000_000 + t
  pub range : t < end

-- the text is of the form, and its moment is t
pub record IsIso (text : List ℕ) (t : ℕ) : Type 0 where
  pub day : ℕ
  pub second : ℕ
  pub nano : ℕ
  pub offset : Offset
  pub zone_at : ℕ
  pub date : IsDateText (slice_range text 0 10) day
  pub mark : slice_index text 10 ≡ letter_t
  pub clock : IsClockText (slice_range text 11 19) second
  pub behind : 19 ≤ zone_at
  pub fraction : IsFraction (slice_range text 19 zone_at) nano
  pub zone : IsZone (drop zone_at text) offset
  pub moment : IsMomentAt (day * 86_400 + second) offset nano t

-- the text of t in UTC with nine decimals, which 30 bytes and Z say
pub record IsPrinted (text : List ℕ) (t : ℕ) : Type 0 where
  pub iso : IsIso text t
  pub size : length text ≡ 30
  pub utc : slice_index text 29 ≡ letter_z

-- new is old with that text at its end
abbrev pub AppendsIso : List ℕ → List ℕ → ℕ → Type 0
AppendsIso old new t = (text : List ℕ) × (new ≡ old ++ text) × IsPrinted text t
