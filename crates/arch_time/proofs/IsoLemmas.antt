-- The parts of an ISO text are found in one way.
use Rattle.std.proofs.Common.{◌≡◌, ◌≢◌, ◌⊎◌, inl, inr, ℕ, ◌+◌, ◌-◌, ◌*◌, ◌<◌, List, [], ◌∷◌, length, drop, get_or, sym, ap, ◌∙◌, arith, length-drop, length-take, get_or-take, get_or-drop}
use Rattle.std.specs.Prelude.{slice_range}
use Rattle.std.specs.Int.{IsInRange}
use Rattle.arch_time.specs.declared.iso.Offset.{Offset}
use Rattle.arch_time.specs.declared.iso.Offset.TheVariants.{Ahead, Behind}
use Rattle.arch_time.specs.Digits.{IsNumber}
use Rattle.arch_time.specs.Iso.{IsDateText, IsMinuteText, IsClockText, IsFraction, IsSigned, IsZone, IsLessOffset, IsMomentAt, IsIso}
use Rattle.arch_time.proofs.DigitLemmas.{digit_at}

-- the last byte of HH:MM is a digit
minute_last : (text : List ℕ) (seconds : ℕ) → IsMinuteText text seconds → IsInRange 48 57 (get_or text 4 0)
minute_last text seconds h =
    let size = h.size in
    let long : 1 < length (slice_range text 3 5) = simp (length-take, length-drop) (omega arith) in
    let last : get_or (slice_range text 3 5) 1 0 ≡ get_or text 4 0 = grind (arith, get_or-take, get_or-drop) in
    rw last at (digit_at (slice_range text 3 5) 1 h.minute.digits long)

-- a zone is one byte, Z, or six, of which the last is a digit
pub record IsZoneAt (text : List ℕ) (at : ℕ) : Type 0 where
  pub case : ((length text ≡ at + 1) × (get_or text at 0 ≡ 90)) ⊎ ((length text ≡ at + 6) × IsInRange 48 57 (get_or text (at + 5) 0))

signed_at : (text : List ℕ) (at sign seconds : ℕ) → IsSigned sign (drop at text) seconds → IsZoneAt text at
signed_at text at sign seconds h =
    let size : length (drop at text) ≡ 6 = omega (arith, h.rest.size, simp length-drop at h.rest.size, length-drop 1 (drop at text)) in
    let all : length text ≡ at + 6 = omega (arith, size, length-drop at text) in
    let last : get_or (drop 1 (drop at text)) 4 0 ≡ get_or text (at + 5) 0 = grind (arith, get_or-drop) in
    record { case = inr (all, rw last at (minute_last (drop 1 (drop at text)) seconds h.rest)) }

pub zone_at : (text : List ℕ) (at : ℕ) (offset : Offset) → IsZone (drop at text) offset → IsZoneAt text at
zone_at text at (Ahead s) (inl h) =
    let all : length text ≡ at + 1 = omega (arith, length-drop at text, ap length h.0) in
    let first : get_or (drop at text) 0 0 ≡ get_or text at 0 = grind (arith, get_or-drop) in
    record { case = inl (all, sym first ∙ ap (λ z. get_or z 0 0) h.0) }
zone_at text at (Ahead s) (inr h) = signed_at text at 43 s h
zone_at text at (Behind s) h = signed_at text at 45 s h

-- the last byte tells where the zone begins
pub z_at : (text : List ℕ) (at : ℕ) → IsZoneAt text at → get_or text (length text - 1) 0 ≡ 90 → length text ≡ at + 1
z_at text at h last = elim h.case [
  | inl one ↦ one.0
  | inr six ↦ let place : length text - 1 ≡ at + 5 = omega arith in absurd (omega (arith, rw place at last))
]

pub sign_at : (text : List ℕ) (at : ℕ) → IsZoneAt text at → get_or text (length text - 1) 0 ≢ 90 → length text ≡ at + 6
sign_at text at h last = elim h.case [
  | inl one ↦ let place : length text - 1 ≡ at = omega arith in absurd (last (rw place one.1))
  | inr six ↦ six.0
]

-- a zone of six bytes is a sign and HH:MM
pub six_bytes : (text : List ℕ) (offset : Offset) → length text ≡ 6 → IsZone text offset → ((seconds : ℕ) → IsMinuteText (drop 1 text) seconds → ⊥) → ⊥
six_bytes text (Ahead s) size (inl h) none = omega (arith, ap length h.0)
six_bytes text (Ahead s) size (inr h) none = none s h.rest
six_bytes text (Behind s) size h none = none s h.rest

-- each part tells one thing
same_number : (text : List ℕ) (m n : ℕ) → IsNumber text m → IsNumber text n → m ≡ n
same_number text m n a b = sym a.value ∙ b.value

same_date : (text : List ℕ) (day day₂ : ℕ) → IsDateText text day → IsDateText text day₂ → day ≡ day₂
same_date text day day₂ a b =
    let y = same_number (slice_range text 0 4) a.y b.y a.year b.year in
    let m = same_number (slice_range text 5 7) a.m b.m a.month b.month in
    let d = same_number (slice_range text 8 10) a.d b.d a.date b.date in
    a.number ∙ rw (y, m, d) (sym b.number)

same_minute : (text : List ℕ) (s s₂ : ℕ) → IsMinuteText text s → IsMinuteText text s₂ → s ≡ s₂
same_minute text s s₂ a b =
    let h = same_number (slice_range text 0 2) a.h b.h a.hour b.hour in
    let m = same_number (slice_range text 3 5) a.m b.m a.minute b.minute in
    omega (arith, a.value, b.value)

same_clock : (text : List ℕ) (s s₂ : ℕ) → IsClockText text s → IsClockText text s₂ → s ≡ s₂
same_clock text s s₂ a b =
    let m = same_minute (slice_range text 0 5) a.before b.before a.minute b.minute in
    let l = same_number (slice_range text 6 8) a.s b.s a.last b.last in
    omega (arith, a.value, b.value)

same_fraction : (text : List ℕ) (n n₂ : ℕ) → IsFraction text n → IsFraction text n₂ → n ≡ n₂
same_fraction [] n n₂ a b = a ∙ sym b
same_fraction (c ∷ cs) n n₂ a b = a.3 ∙ sym b.3

same_zone : (text : List ℕ) (o o₂ : Offset) → IsZone text o → IsZone text o₂ → o ≡ o₂
same_zone text (Ahead s) (Ahead s₂) (inl a) (inl b) = ap (λ s. Ahead s) (a.1 ∙ sym b.1)
same_zone text (Ahead s) (Ahead s₂) (inl a) (inr b) = absurd (omega (arith, ap (λ z. get_or z 0 0) a.0, b.first))
same_zone text (Ahead s) (Ahead s₂) (inr a) (inl b) = absurd (omega (arith, ap (λ z. get_or z 0 0) b.0, a.first))
same_zone text (Ahead s) (Ahead s₂) (inr a) (inr b) = ap (λ s. Ahead s) (same_minute (drop 1 text) s s₂ a.rest b.rest)
same_zone text (Ahead s) (Behind s₂) (inl a) b = absurd (omega (arith, ap (λ z. get_or z 0 0) a.0, b.first))
same_zone text (Ahead s) (Behind s₂) (inr a) b = absurd (omega (arith, a.first, b.first))
same_zone text (Behind s) (Ahead s₂) a (inl b) = absurd (omega (arith, ap (λ z. get_or z 0 0) b.0, a.first))
same_zone text (Behind s) (Ahead s₂) a (inr b) = absurd (omega (arith, a.first, b.first))
same_zone text (Behind s) (Behind s₂) a b = ap (λ s. Behind s) (same_minute (drop 1 text) s s₂ a.rest b.rest)

same_place : (text : List ℕ) (at at₂ : ℕ) → IsZoneAt text at → IsZoneAt text at₂ → at ≡ at₂
same_place text at at₂ a b =
    elim a.case [
      | inl one ↦ elim b.case [
        | inl one₂ ↦ omega arith
        | inr six₂ ↦ let place : at₂ + 5 ≡ at = omega arith in absurd (omega (arith, rw place at six₂.1))
      ]
      | inr six ↦ elim b.case [
        | inl one₂ ↦ let place : at + 5 ≡ at₂ = omega arith in absurd (omega (arith, rw place at six.1))
        | inr six₂ ↦ omega arith
      ]
    ]

-- where the parts of a text are known, its moment is theirs
pub same_moment : (text : List ℕ) (t at day second nano : ℕ) (offset : Offset) → IsIso text t → IsDateText (slice_range text 0 10) day → IsClockText (slice_range text 11 19) second → IsFraction (slice_range text 19 at) nano → IsZone (drop at text) offset → IsMomentAt (day * 86_400 + second) offset nano t
same_moment text t at day second nano offset h date clock fraction zone =
    let place = same_place text h.zone_at at (zone_at text h.zone_at h.offset h.zone) (zone_at text at offset zone) in
    let d = same_date (slice_range text 0 10) h.day day h.date date in
    let s = same_clock (slice_range text 11 19) h.second second h.clock clock in
    let n = same_fraction (slice_range text 19 at) h.nano nano (rw place at h.fraction) fraction in
    let o = same_zone (drop at text) h.offset offset (rw place at h.zone) zone in
    rw (d, s, n, o) at h.moment

same_utc : (civil : ℕ) (offset : Offset) (utc utc₂ : ℕ) → IsLessOffset civil offset utc → IsLessOffset civil offset utc₂ → utc ≡ utc₂
same_utc civil (Ahead s) utc utc₂ a b = omega (arith, a, b)
same_utc civil (Behind s) utc utc₂ a b = omega (arith, a, b)

-- a text tells one moment
pub one_moment : (text : List ℕ) (t t₂ : ℕ) → IsIso text t → IsIso text t₂ → t ≡ t₂
one_moment text t t₂ a b =
    let c = same_moment text t b.zone_at b.day b.second b.nano b.offset a b.date b.clock b.fraction b.zone in
    let utc = same_utc (b.day * 86_400 + b.second) b.offset c.utc b.moment.utc c.less b.moment.less in
    omega (arith, c.moment, b.moment.moment)
