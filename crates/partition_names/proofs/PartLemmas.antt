-- Partitions and their names.
use Rattle.std.proofs.Common.{pos, ◌≡◌, ◌↔◌, ℕ, suc, max, ◌+◌, ◌*◌, ◌/◌, ◌<◌, ◌≤◌, List, Option, Some, None, length, refl, sym, ap, ◌∙◌, arith}
use Rattle.partition_names.specs.declared.granularity.Granularity.{Granularity}
use Rattle.partition_names.specs.declared.granularity.Granularity.TheVariants.{Year}
use Rattle.arch_time.specs.YearTime.{moment}
use Rattle.arch_time.proofs.CalendarLemmas.{years_1970}
use Rattle.arch_time.proofs.YearLemmas.{new_year_number}
use Rattle.partition_names.specs.declared.unit.CivilMinute.{CivilMinute}
use Rattle.partition_names.specs.declared.part.Part.{Part}
use Rattle.partition_names.specs.Unit.{IsUnitStart, second_of}
use Rattle.partition_names.specs.Name.{name_length, HasParts}
use Rattle.partition_names.specs.Part.{IsPartFrom, IsPart, HoldsMoment}
use Rattle.partition_names.proofs.UnitLemmas.{day_span, first_day, first_of, LiesIn, lies_in, HoldsSecond, same_unit, before_2500, lasts, longer}
use Rattle.std.proofs.Math.Nat.{lt_of_not-le}
use Rattle.partition_names.specs.Granularity.{Holds}
use Rattle.partition_names.proofs.NameLemmas.{name_of_parts, parts_of_name, same_parts}

-- one unit is one partition
pub same_part : (g : Granularity) (from : CivilMinute) (p q : Part) → IsPartFrom g from p → IsPartFrom g from q → p ≡ q
same_part g from p q a b =
    let name : p.name ≡ q.name = a.name ∙ sym b.name in
    let start : p.start ≡ q.start = a.start ∙ sym b.start in
    let end : p.end ≡ q.end = omega (arith, a.end, b.end) in
    let of : List ℕ → ℕ → ℕ → Part = λ n s e. record { name = n; start = s; end = e } in
    ap (λ n. of n p.start p.end) name ∙ ap (λ s. of q.name s p.end) start ∙ ap (λ e. of q.name q.start e) end

-- a partition's name has the parts of its first minute
pub parts_of_part : (g : Granularity) (from : CivilMinute) (part : Part) (text : List ℕ) → IsPartFrom g from part → part.name ≡ text → HasParts text from
parts_of_part g from part text h e = rw (sym e ∙ h.name) (parts_of_name g from h.unit)

-- of one granularity no two partitions have one name
pub one_name : (g : Granularity) (p q : Part) → IsPart g p → IsPart g q → p.name ≡ q.name → p ≡ q
one_name g p q a b e =
    let same : a.0 ≡ b.0 = same_parts q.name a.0 b.0 (parts_of_part g a.0 p q.name a.1 e) (parts_of_part g b.0 q q.name b.1 refl) in
    same_part g b.0 p q (rw same at a.1) b.1

-- no partition is read: its name would have parts
pub read_none : (g : Granularity) (text : List ℕ) (r : Option Part) → r ≡ None → ((from : CivilMinute) → IsUnitStart g from → HasParts text from → ⊥) → (part : Part) → (r ≡ Some part) ↔ (IsPart g part × (part.name ≡ text))
read_none g text r none unless part =
    (λ e. cc, λ h. absurd (unless h.0.0 h.0.1.unit (parts_of_part g h.0.0 part text h.0.1 h.1)))

-- the partition that is read is the one with that name
pub read_some : (g : Granularity) (text : List ℕ) (from : CivilMinute) (found : Part) → IsPartFrom g from found → HasParts text from → length text ≡ name_length g → (part : Part) → ◌≡◌ {A = Option Part} (Some found) (Some part) ↔ (IsPart g part × (part.name ≡ text))
read_some g text from found h parts size part =
    let named : found.name ≡ text = h.name ∙ sym (name_of_parts g text from parts size) in
    let told : IsPart g found × (found.name ≡ text) = ((from, h), named) in
    (λ e. let same : found ≡ part = cc in rw same at told, λ p. ap (λ z. Some z) (one_name g found part (from, h) p.0 (named ∙ sym p.1)))

-- the second of a moment, counted from the year 0
second_at : ℕ → ℕ
second_at t = t / 1_000_000_000 + 719_528 * 86_400

unit_days : (g : Granularity) (from : CivilMinute) → IsUnitStart g from → 719_528 * 86_400 ≤ second_of from
unit_days g from unit = omega (arith, day_span from.year from.month from.day unit.exists.date unit.years)

second_held : (g : Granularity) (from : CivilMinute) (p : Part) (t : ℕ) → IsPartFrom g from p → HoldsMoment p t → HoldsSecond g from (second_at t)
unfolding second_at
second_held g from p t h held =
    record { unit = h.unit; begun = omega (arith, h.start, held); going = omega (arith, h.start, h.end, held, unit_days g from h.unit) }

-- of one granularity no two partitions hold one moment
pub one_part : (g : Granularity) (p q : Part) (t : ℕ) → IsPart g p → IsPart g q → HoldsMoment p t → HoldsMoment q t → p ≡ q
one_part g p q t a b h k =
    let same : a.0 ≡ b.0 = same_unit g a.0 b.0 (second_at t) (second_held g a.0 p t a.1 h) (second_held g b.0 q t b.1 k) in
    same_part g b.0 p q (rw same at a.1) b.1

-- partitions lie in the years 1991 to 2499
pub within : (g : Granularity) (p : Part) → IsPart g p → (662_688_000 * 1_000_000_000 ≤ p.start) × (p.start < p.end) × (p.end ≤ 16_725_225_600 * 1_000_000_000)
within g p h =
    let from = h.0 in
    let unit = h.1.unit in
    let start = h.1.start in
    let end = h.1.end in
    let span = day_span from.year from.month from.day unit.exists.date unit.years in
    (omega (arith, start, span), omega (arith, end, lasts g from), omega (arith, start, end, unit_days g from unit, before_2500 g from unit))

-- the partition that holds the end of another begins there
pub adjoin : (g : Granularity) (p q : Part) → IsPart g p → IsPart g q → HoldsMoment q p.end → q.start ≡ p.end
adjoin g p q a b h =
    let some = within g p a in
    let some₂ = within g q b in
    let earlier : suc q.start ≤ p.end → ⊥ = λ before.
    let t = max p.start q.start in
    let same : p ≡ q = one_part g p q t a b (omega arith, omega arith) (omega (arith, h), omega (arith, h)) in
    let end : p.end ≡ q.end = ap (λ z. z.end) same in
    omega (arith, h) in
    let late : p.end < suc q.start = lt_of_not-le earlier in
    omega (arith, h)

-- a partition lies in the partition of a coarser granularity with which it shares a moment
pub nest : (coarse fine : Granularity) (p q : Part) (t : ℕ) → Holds coarse fine → IsPart fine p → IsPart coarse q → HoldsMoment p t → HoldsMoment q t → (q.start ≤ p.start) × (p.end ≤ q.end)
nest coarse fine p q t holds a b h k =
    let held = second_held fine a.0 p t a.1 h in
    let in_coarse = lies_in coarse fine a.0 holds a.1.unit in
    let above : HoldsSecond coarse (first_of coarse a.0) (second_at t) = record { unit = in_coarse.unit; begun = omega (arith, in_coarse.begun, held.begun); going = omega (arith, in_coarse.ended, held.going) } in
    let same : first_of coarse a.0 ≡ b.0 = same_unit coarse (first_of coarse a.0) b.0 (second_at t) above (second_held coarse b.0 q t b.1 k) in
    let lies : LiesIn coarse fine b.0 a.0 = rw same at in_coarse in
    let days = unit_days coarse b.0 b.1.unit in
    (omega (arith, a.1.start, b.1.start, lies.begun), omega (arith, a.1.start, a.1.end, b.1.start, b.1.end, lies.ended, days))

-- and in none of a finer granularity
pub finer : (coarse fine : Granularity) (p q : Part) → (Holds coarse fine → ⊥) → IsPart fine p → IsPart coarse q → (q.start ≤ p.start) × (p.end ≤ q.end) → ⊥
finer coarse fine p q not a b h = omega (arith, a.1.end, b.1.end, longer coarse fine b.0 a.0 (lt_of_not-le not))

-- a year's partition begins with the year
pub year_begins : (from : CivilMinute) (p : Part) → IsPartFrom Year from p → p.start ≡ moment (pos from.year) 0 0
year_begins from p h =
    let starts = h.unit.starts in
    omega (arith, h.start, first_day from starts.0 starts.1, starts, new_year_number from.year, years_1970)
