-- A name and the parts that it has.
use Rattle.std.proofs.Common.{◌≡◌, inl, inr, ℕ, ◌+◌, ◌-◌, ◌/◌, ◌%◌, ◌<◌, ◌≤◌, List, [], ◌∷◌, ◌++◌, length, take, drop, get_or, refl, sym, ap, ◌∙◌, arith, add-one, length-take, length-drop}
use Rattle.std.proofs.lemmas.List.{take_all}
use Rattle.std.proofs.Math.Seq.{take-add, drop-cons}
use Rattle.std.specs.Int.{IsInRange}
use Rattle.arch_time.proofs.CalendarLemmas.{month_bounds}
use Rattle.arch_time.specs.Digits.{IsNumber}
use Rattle.partition_names.specs.declared.granularity.Granularity.{Granularity}
use Rattle.partition_names.specs.declared.granularity.Granularity.TheVariants.{FiveMinutes, FifteenMinutes, ThirtyMinutes, Hour, Day, Month, Year}
use Rattle.partition_names.specs.declared.unit.CivilMinute.{CivilMinute}
use Rattle.partition_names.specs.Unit.{IsMinute, IsUnitStart}
use Rattle.partition_names.specs.Name.{two_digits, four_digits, part_text, underscore, year_name, month_name, day_name, hour_name, minute_name, name_of, name_length, IsPartAt, HasParts}

-- two digits spell a number in one way
two_cells : (text : List ℕ) (n : ℕ) → length text ≡ 2 → IsNumber text n → text ≡ two_digits n
two_cells [] n size h = absurd (omega arith)
two_cells (a ∷ []) n size h = absurd (omega arith)
two_cells (a ∷ b ∷ []) n size h =
    let digits = h.digits in
    let value = h.value in
    let first : a ≡ 48 + n / 10 = omega arith in
    let last : b ≡ 48 + n % 10 = omega arith in
    rw (first, last) refl
two_cells (a ∷ b ∷ c ∷ cs) n size h = absurd (omega arith)

four_cells : (text : List ℕ) (n : ℕ) → length text ≡ 4 → IsNumber text n → text ≡ four_digits n
four_cells [] n size h = absurd (omega arith)
four_cells (a ∷ []) n size h = absurd (omega arith)
four_cells (a ∷ b ∷ []) n size h = absurd (omega arith)
four_cells (a ∷ b ∷ c ∷ []) n size h = absurd (omega arith)
four_cells (a ∷ b ∷ c ∷ d ∷ []) n size h =
    let digits = h.digits in
    let value = h.value in
    let one : a ≡ 48 + n / 100 / 10 = omega arith in
    let two : b ≡ 48 + n / 100 % 10 = omega arith in
    let three : c ≡ 48 + n % 100 / 10 = omega arith in
    let four : d ≡ 48 + n % 100 % 10 = omega arith in
    rw (one, two, three, four) refl
four_cells (a ∷ b ∷ c ∷ d ∷ e ∷ es) n size h = absurd (omega arith)

-- the first bytes of a text up to the end of a part
front_more : (text front : List ℕ) (i otherwise n : ℕ) → i + 3 ≤ length text → take i text ≡ front → IsPartAt text i otherwise n → take (i + 3) text ≡ front ++ part_text n
front_more text front i otherwise n long e (inl h) = absurd (omega (arith, h.0))
front_more text front i otherwise n long e (inr h) =
    let two : i + 3 - (i + 1) ≡ 2 = omega arith in
    let size : length (take 2 (drop (i + 1) text)) ≡ 2 = simp (length-take, length-drop) (omega arith) in
    let digits : take 2 (drop (i + 1) text) ≡ two_digits n = two_cells (take 2 (drop (i + 1) text)) n size (rw two at h.2) in
    let cut : drop i text ≡ get_or text i 0 ∷ drop (i + 1) text = rw add-one (drop-cons text i 0 h.0) in
    let part : take 3 (drop i text) ≡ part_text n = rw (cut, h.1) (ap (λ z. underscore ∷ z) digits) in
    take-add i 3 text ∙ rw (e, part) refl

module _ (text : List ℕ) (at : CivilMinute) (parts : HasParts text at) where
  year_front : 4 ≤ length text → take 4 text ≡ year_name at
  year_front long =
      let size : length (take 4 text) ≡ 4 = simp length-take (omega arith) in
      four_cells (take 4 text) at.year size parts.year

  month_front : 7 ≤ length text → take 7 text ≡ month_name at
  month_front long = front_more text (year_name at) 4 1 at.month long (year_front (omega arith)) parts.month

  day_front : 10 ≤ length text → take 10 text ≡ day_name at
  day_front long = front_more text (month_name at) 7 1 at.day long (month_front (omega arith)) parts.day

  hour_front : 13 ≤ length text → take 13 text ≡ hour_name at
  hour_front long = front_more text (day_name at) 10 0 at.hour long (day_front (omega arith)) parts.hour

  minute_front : 16 ≤ length text → take 16 text ≡ minute_name at
  minute_front long = front_more text (hour_name at) 13 0 at.minute long (hour_front (omega arith)) parts.minute

-- a text that ends where the granularity's names end is the name of its parts
pub name_of_parts : (g : Granularity) (text : List ℕ) (at : CivilMinute) → HasParts text at → length text ≡ name_length g → text ≡ name_of g at
name_of_parts FiveMinutes text at parts size = sym (take_all 16 text (omega arith)) ∙ minute_front text at parts (omega arith)
name_of_parts FifteenMinutes text at parts size = sym (take_all 16 text (omega arith)) ∙ minute_front text at parts (omega arith)
name_of_parts ThirtyMinutes text at parts size = sym (take_all 16 text (omega arith)) ∙ minute_front text at parts (omega arith)
name_of_parts Hour text at parts size = sym (take_all 13 text (omega arith)) ∙ hour_front text at parts (omega arith)
name_of_parts Day text at parts size = sym (take_all 10 text (omega arith)) ∙ day_front text at parts (omega arith)
name_of_parts Month text at parts size = sym (take_all 7 text (omega arith)) ∙ month_front text at parts (omega arith)
name_of_parts Year text at parts size = sym (take_all 4 text (omega arith)) ∙ year_front text at parts (omega arith)

-- what digits spell
two_spell : (n : ℕ) → n < 100 → IsNumber (two_digits n) n
two_spell n h = record { digits = ((omega arith, omega arith), ((omega arith, omega arith), tt)); value = omega arith }

four_spell : (n : ℕ) → n < 10_000 → IsNumber (four_digits n) n
four_spell n h = record {
  digits = ((omega arith, omega arith), ((omega arith, omega arith), ((omega arith, omega arith), ((omega arith, omega arith), tt))));
  value = omega arith;
}

module _ (at : CivilMinute) (exists : IsMinute at) (years : IsInRange 1991 2499 at.year) where
  year_number : IsNumber (year_name at) at.year
  year_number = four_spell at.year (omega arith)

  month_number : IsNumber (two_digits at.month) at.month
  month_number = two_spell at.month (omega (arith, exists.date.month))

  day_number : IsNumber (two_digits at.day) at.day
  day_number = two_spell at.day (omega (arith, exists.date.day, month_bounds at.year at.month))

  hour_number : IsNumber (two_digits at.hour) at.hour
  hour_number = two_spell at.hour (omega (arith, exists.hour))

  minute_number : IsNumber (two_digits at.minute) at.minute
  minute_number = two_spell at.minute (omega (arith, exists.minute))

  minute_parts : HasParts (minute_name at) at
  minute_parts = record {
    year = year_number;
    month = inr (omega arith, refl, month_number);
    day = inr (omega arith, refl, day_number);
    hour = inr (omega arith, refl, hour_number);
    minute = inr (omega arith, refl, minute_number);
  }

-- the name of a unit has the parts of its first minute
pub parts_of_name : (g : Granularity) (at : CivilMinute) → IsUnitStart g at → HasParts (name_of g at) at
parts_of_name FiveMinutes at unit = minute_parts at unit.exists unit.years
parts_of_name FifteenMinutes at unit = minute_parts at unit.exists unit.years
parts_of_name ThirtyMinutes at unit = minute_parts at unit.exists unit.years
parts_of_name Hour at unit = record {
  year = year_number at unit.exists unit.years;
  month = inr (omega arith, refl, month_number at unit.exists unit.years);
  day = inr (omega arith, refl, day_number at unit.exists unit.years);
  hour = inr (omega arith, refl, hour_number at unit.exists unit.years);
  minute = inl (omega arith, unit.starts);
}
parts_of_name Day at unit = record {
  year = year_number at unit.exists unit.years;
  month = inr (omega arith, refl, month_number at unit.exists unit.years);
  day = inr (omega arith, refl, day_number at unit.exists unit.years);
  hour = inl (omega arith, unit.starts.0);
  minute = inl (omega arith, unit.starts.1);
}
parts_of_name Month at unit = record {
  year = year_number at unit.exists unit.years;
  month = inr (omega arith, refl, month_number at unit.exists unit.years);
  day = inl (omega arith, unit.starts.0);
  hour = inl (omega arith, unit.starts.1);
  minute = inl (omega arith, unit.starts.2);
}
parts_of_name Year at unit = record {
  year = year_number at unit.exists unit.years;
  month = inl (omega arith, unit.starts.0);
  day = inl (omega arith, unit.starts.1);
  hour = inl (omega arith, unit.starts.2);
  minute = inl (omega arith, unit.starts.3);
}

-- a text has the parts of one minute
same_part_at : (text : List ℕ) (i otherwise m n : ℕ) → IsPartAt text i otherwise m → IsPartAt text i otherwise n → m ≡ n
same_part_at text i otherwise m n (inl a) (inl b) = a.1 ∙ sym b.1
same_part_at text i otherwise m n (inl a) (inr b) = absurd (omega (arith, a.0, b.0))
same_part_at text i otherwise m n (inr a) (inl b) = absurd (omega (arith, a.0, b.0))
same_part_at text i otherwise m n (inr a) (inr b) = sym a.2.value ∙ b.2.value

pub same_minute : (a b : CivilMinute) → a.year ≡ b.year → a.month ≡ b.month → a.day ≡ b.day → a.hour ≡ b.hour → a.minute ≡ b.minute → a ≡ b
same_minute a b year month day hour minute =
    let at : CivilMinute → ℕ → ℕ → ℕ → ℕ → ℕ → CivilMinute = λ _ y m d h i. record { year = y; month = m; day = d; hour = h; minute = i } in
    ap (λ y. at a y a.month a.day a.hour a.minute) year ∙ ap (λ m. at a b.year m a.day a.hour a.minute) month ∙ ap (λ d. at a b.year b.month d a.hour a.minute) day
    ∙ ap (λ h. at a b.year b.month b.day h a.minute) hour ∙ ap (λ i. at a b.year b.month b.day b.hour i) minute

pub same_parts : (text : List ℕ) (a b : CivilMinute) → HasParts text a → HasParts text b → a ≡ b
same_parts text a b p q =
    same_minute a b (sym p.year.value ∙ q.year.value) (same_part_at text 4 1 a.month b.month p.month q.month) (same_part_at text 7 1 a.day b.day p.day q.day)
    (same_part_at text 10 0 a.hour b.hour p.hour q.hour) (same_part_at text 13 0 a.minute b.minute p.minute q.minute)
