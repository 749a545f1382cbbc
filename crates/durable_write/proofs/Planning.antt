-- The plan of a flush, sample by sample: where each goes, the files that it makes or lengthens, and what stays true of the writes.
use Rattle.std.proofs.Common.{◌≡◌, ℕ, ◌<◌, ◌≤◌, sym, arith, refl, ◌∙◌, List, [], ◌∷◌, ◌++◌, length, subst, Some, All, ◌+◌, ap, append_assoc, true, ℤ, Bool, false, cond, ◌≢◌, inl, inr, Option, pos, negsuc, unsigned_abs, ◌-◌, ◌*◌, ◌/◌, ◌%◌, append-nil, None}
use Rattle.partition_names.specs.declared.granularity.Granularity.{Granularity}
use Rattle.partition_names.specs.Part.{IsPart, HoldsMoment, IsPartFrom}
use Rattle.std.proofs.lemmas.List.{length-append}
use Rattle.series_model.specs.declared.sample.Sample.{Sample}
use Rattle.pv_catalog.specs.declared.row.Row.{Row}
use Rattle.durable_write.specs.Flush.{IsSampleOf, header_of, Grows, MakesFiles, PlacesRise, put_all, bytes_at, start_of, StartsIn, EndsRow, file_at, listed_bytes, listed_len}
use Rattle.store_manifest.specs.declared.entry.Entry.{Entry}
use Rattle.durable_write.specs.declared.file_write.FileWrite.{FileWrite}
use Rattle.durable_write.specs.declared.plan.Target.{Target}
use Rattle.partition_names.specs.declared.part.Part.{Part}
use Rattle.std.proofs.lemmas.List.Elements.{All-push, All-contains, Contains-push, All-nil, All-head, All-cons, All-from_recursion, All-filter, filter_passes}
use Rattle.series_model.specs.Series.{end_of, end_from, RisesFrom, IsRising, over}
use Rattle.durable_write.specs.Held.{Filed, IsFiled, bytes_of, Held, filed_at, samples_of, count_of, IsListed, AreFiled}
use Rattle.durable_write.specs.Plan.{grown, Adds, of_row, StartBefore, IsLast, IsAppended, IsPlanned, samples_with, HoldsRow, OfLast, IsLastEntry, IsBehind, IsBegun, IsDraft, begun, Gains, EndsAt, IsLastWrite, GoesTo, side_of, IsTarget, IsInLast, IsInListed, IsPushed, IsExtended}
use Rattle.durable_write.proofs.Places.{same_last, last_view, All-front, put_over, put_all-push, start_before, put_other, put_twice, rise_over, Comes, put_behind, rise_behind, put_all_back, count_put, put_all_other, file_of_last, no_file}
use Rattle.arch_time.specs.YearTime.{IsSampleYear, moment, IsInYear, IsMomentYear}
use Rattle.arch_time.proofs.YearLemmas.{sample_year, same_year_time, start_days}
use Rattle.std.specs.Prelude.{slice_get, nat_eq, nat_le, IsTrue, IfSome, nat_lt}
use Rattle.line_escape.specs.Escaping.{escaped}
use Rattle.series_model.proofs.RisingLists.{end_from-append, end_from-ge}
use Rattle.pb_messages.specs.InfoSpelling.{info_text, FitsInfo}
use Rattle.std.specs.List.{AllByRecursion, AllZip, flat_map}
use Rattle.std.proofs.lemmas.Bool.Decides.{nat_tests}
use Rattle.pb_lines.proofs.FileLines.{all-append, lines_of-append}
use Rattle.partition_names.proofs.PartLemmas.{within, year_begins, one_part}
use Rattle.store_manifest.specs.Entries.{put, place, comes_before}
use Rattle.std.proofs.lemmas.Int.{ints}
use Rattle.arch_time.specs.Calendar.{days_in_year}
use Rattle.arch_time.proofs.CalendarLemmas.{years_mono, years_1970, years_1991}
use Rattle.partition_names.specs.declared.granularity.Granularity.TheVariants.{FiveMinutes, FifteenMinutes, ThirtyMinutes, Hour, Day, Month, Year}
use Rattle.partition_names.specs.declared.unit.CivilMinute.{CivilMinute}
use Rattle.partition_names.specs.Granularity.{Holds}
use Rattle.partition_names.specs.Unit.{moment_of, unit_seconds}
use Rattle.partition_names.specs.Name.{name_of}
use Rattle.partition_names.proofs.UnitLemmas.{lies_in, first_of}
use Rattle.line_escape.proofs.EscapingLemmas.{escaped-HasNoNewline, escaped-Means}
use Rattle.pb_messages.proofs.InfoRoundTrip.{info_back}
use Rattle.pb_messages.specs.declared.info.PayloadInfo.{PayloadInfo}
use Rattle.pb_lines.specs.File.{IsFile, IsSample, AreSamples, lines_of}
use Rattle.pb_lines.proofs.FileMeaning.{grows, begins}
use Rattle.std.proofs.lemmas.Bool.{cond-true, cond-false, cases_lt, leb-true, leb-false, ltb-true, ltb-false}
use Rattle.std.proofs.lemmas.List.Concat.{flat_map-append}
use Rattle.std.proofs.lemmas.Option.{same_Some}
use Rattle.durable_write.specs.declared.plan.Destination.{Destination}
use Rattle.durable_write.specs.declared.plan.Destination.TheVariants.{Late, Open, Listed, New}

-- The moments of one partition lie in one year.

year_holds : (g : Granularity) → Holds Year g
year_holds FiveMinutes = omega arith
year_holds FifteenMinutes = omega arith
year_holds ThirtyMinutes = omega arith
year_holds Hour = omega arith
year_holds Day = omega arith
year_holds Month = omega arith
year_holds Year = omega arith

-- the moment is in this year, if in any
year_of_part : (g : Granularity) (from : CivilMinute) (p : Part) (y : ℤ) (s n : ℕ) → IsPartFrom g from p → HoldsMoment p (moment y s n) → IsMomentYear y → IsInYear y s n → y ≡ pos from.year
year_of_part g from p y s n part holds moments in_year =
    let lies = lies_in Year g from (year_holds g) part.unit in
    let new_year = first_of Year from in
    let q : Part = record { name = name_of Year new_year; start = moment_of new_year; end = moment_of new_year + unit_seconds Year new_year * 1_000_000_000 } in
    let whole : IsPartFrom Year new_year q = record { unit = lies.unit; start = refl; end = refl; name = refl } in
    let start : moment_of new_year ≡ moment (pos from.year) 0 0 = year_begins new_year q whole in
    let t = moment y s n in
    let d = t - moment_of new_year in
    let low : moment_of new_year ≤ t = omega (arith, part.start, lies.begun, holds) in
    let high : t < moment_of new_year + days_in_year from.year * 86_400 * 1_000_000_000 = omega (arith, part.start, part.end, lies.begun, lies.ended, holds) in
    let there : IsInYear (pos from.year) (d / 1_000_000_000) (d % 1_000_000_000) = record { second = omega arith; nano = omega arith } in
    let same : moment y s n ≡ moment (pos from.year) (d / 1_000_000_000) (d % 1_000_000_000) = omega arith in
    let years : IsMomentYear (pos from.year) = let range = part.unit.years in omega (arith, ints) in
    (same_year_time y (pos from.year) s n (d / 1_000_000_000) (d % 1_000_000_000) moments years in_year there same).0

pub one_year : (g : Granularity) (p : Part) (y z : ℤ) (s n s₂ n₂ : ℕ) → IsPart g p → HoldsMoment p (moment y s n) → HoldsMoment p (moment z s₂ n₂) → IsMomentYear y → IsMomentYear z → IsInYear y s n → IsInYear z s₂ n₂ → y ≡ z
one_year g p y z s n s₂ n₂ part holds holds₂ moments moments₂ in_year in_year₂ =
    year_of_part g part.0 p y s n part.1 holds moments in_year ∙ sym (year_of_part g part.0 p z s₂ n₂ part.1 holds₂ moments₂ in_year₂)

-- the moments of samples lie in the years 1991 to 2499
from_1991 : (y : ℤ) → IsSampleYear y → 1991 ≤ unsigned_abs y
from_1991 (pos y) h = omega (arith, ints)
from_1991 (negsuc y) h = absurd (omega (arith, ints))

pub in_calendar : (y : ℤ) (s n : ℕ) → IsSampleYear y → IsInYear y s n → (662_688_000 * 1_000_000_000 ≤ moment y s n) × (moment y s n < 16_725_225_600 * 1_000_000_000)
in_calendar y s n years at =
    let days = start_days y (sample_year y years) in
    (omega (arith, years_mono 1991 (unsigned_abs y) (from_1991 y years), years_1970, years_1991), omega (arith, days, at.second, at.nano, years_1970))

-- A file with one sample more, and a file made anew.

-- what is written of a header's line begins its file
written : (info : PayloadInfo) → FitsInfo info → IsFile (escaped (info_text info) ++ 10 ∷ []) (escaped (info_text info)) info []
written info fits = begins (escaped (info_text info)) info (escaped-HasNoNewline (info_text info)) (info_text info, escaped-Means (info_text info), info_back info fits)

-- the line with its newline
abbrev pub line_of : Sample → List ℕ
line_of s = s.line ++ 10 ∷ []

abbrev pub with_sample : Filed → Sample → Filed
with_sample f s = record { entry = grown s f.entry; head = f.head; samples = f.samples ++ s ∷ [] }

pub bytes_more : (f : Filed) (s : Sample) → bytes_of (with_sample f s) ≡ bytes_of f ++ line_of s
bytes_more f s = ap (λ (u : List ℕ). f.head ++ 10 ∷ u) (lines_of-append f.samples (s ∷ [])) ∙ sym (append_assoc f.head (10 ∷ lines_of f.samples) (line_of s))

pub end_of_more : (xs : List Sample) (s : Sample) → end_of (xs ++ s ∷ []) ≡ s.t + 1
end_of_more xs s = end_from-append 0 xs (s ∷ [])

-- a sample of the type whose moment lies in a partition is one of the year of the partition's other samples
sample_in_year : (g : Granularity) (part : Part) (row : Row) (info : PayloadInfo) (s first : Sample) → IsPart g part → IsSampleOf row s → info.ty ≡ row.about.ty → IsSample info.ty info.year first → HoldsMoment part s.t → HoldsMoment part first.t → IsSample info.ty info.year s
sample_in_year g part row info s first is_part of_row type other holds holds₂ =
    let one = of_row.1.meant in
    let two = other.meant in
    let P : ℕ → Type 0 = λ t. HoldsMoment part t in
    let same : of_row.0 ≡ info.year = one_year g part of_row.0 info.year one.secs one.nano two.secs two.nano is_part (subst P one.at holds) (subst P two.at holds₂) (sample_year of_row.0 one.sample_year) (sample_year info.year two.sample_year) one.in_year two.in_year in
    let Q : ℤ → Type 0 = λ y. IsSample row.about.ty y s in
    rw type (subst Q same of_row.1)

first_end : (first : Sample) (others xs : List Sample) → xs ≡ first ∷ others → IsRising xs → first.t + 1 ≤ end_of xs
first_end first others xs are rising =
    let P : List Sample → Type 0 = λ l. IsRising l in
    let from : RisesFrom (first.t + 1) others = (subst P are rising).1 in
    let more = end_from-ge (first.t + 1) others from in
    let same : end_of xs ≡ end_from (first.t + 1) others = ap end_of are in
    omega arith

-- a file with a later sample of its partition is a file of its row
pub filed_more : (g : Granularity) (rows : List Row) (f : Filed) (row : Row) (s : Sample) → IsFiled g rows f → slice_get rows f.entry.series ≡ Some row → IsSampleOf row s → f.entry.last < s.t → s.t < f.entry.part.end → IsFiled g rows (with_sample f s)
filed_more g rows f row s h stands of_row later within =
    let same : h.row ≡ row = cc (h.stands, stands) in
    let type : h.info.ty ≡ row.about.ty = h.type ∙ ap (λ (r : Row). r.about.ty) same in
    let P : List Sample → Type 0 = λ l. AreSamples h.info.ty h.info.year l × All (λ (x : Sample). HoldsMoment f.entry.part x.t) l in
    let all = subst P h.some (h.file.lines, h.inside) in
    let first_in : HoldsMoment f.entry.part h.first.t = All-head (λ (x : Sample). HoldsMoment f.entry.part x.t) h.first h.others all.1 in
    let early = first_end h.first h.others f.samples h.some h.file.rising in
    let to : f.entry.last + 1 ≡ end_of f.samples = h.to in
    let holds : HoldsMoment f.entry.part s.t = (omega (arith, first_in), within) in
    let sample = sample_in_year g f.entry.part row h.info s h.first h.part of_row type all.0.0 holds first_in in
    let behind : end_of f.samples ≤ s.t = omega arith in
    let Q : List ℕ → Type 0 = λ b. IsFile b f.head h.info (f.samples ++ s ∷ []) in
    let long : length (bytes_of (with_sample f s)) ≡ length (bytes_of f) + (length s.line + 1) = ap length (bytes_more f s) ∙ omega (arith, length-append (bytes_of f) (line_of s), length-append s.line (10 ∷ [])) in
    record {
      row = h.row;
      info = h.info;
      first = h.first;
      others = h.others ++ s ∷ [];
      stands = h.stands;
      part = h.part;
      file = subst Q (sym (bytes_more f s)) (grows (bytes_of f) f.head h.info f.samples (s ∷ []) h.file (sample, tt) (behind, tt));
      type = h.type;
      name = h.name;
      some = ap (λ (l : List Sample). l ++ s ∷ []) h.some;
      inside = All-push (λ (x : Sample). HoldsMoment f.entry.part x.t) f.samples s h.inside holds;
      len = omega (arith, h.len, long);
      head_len = h.head_len;
      from = h.from;
      to = sym (end_of_more f.samples s);
      count = omega (arith, h.count, length-append f.samples (s ∷ []));
    }

-- a header's line and one sample
abbrev pub new_file : ℕ → Part → List ℕ → Sample → Filed
new_file series part head s = record { entry = grown s (begun series part (length head + 1) s.t); head = head; samples = s ∷ [] }

pub filed_anew : (g : Granularity) (rows : List Row) (series : ℕ) (part : Part) (year : ℤ) (row : Row) (s : Sample) → slice_get rows series ≡ Some row → IsPart g part → HoldsMoment part s.t → StartsIn part year → IsSampleOf row s → part.start < part.end → (IsSampleYear year → FitsInfo (header_of row year)) → IsFiled g rows (new_file series part (escaped (info_text (header_of row year))) s)
filed_anew g rows series part year row s stands is_part holds starts of_row some fits =
    let info = header_of row year in
    let head = escaped (info_text info) in
    let f = new_file series part head s in
    let one = of_row.1.meant in
    let P : ℕ → Type 0 = λ t. HoldsMoment part t in
    let start : HoldsMoment part part.start = (omega arith, some) in
    let same : of_row.0 ≡ year = one_year g part of_row.0 year one.secs one.nano starts.secs starts.nano is_part (subst P one.at holds) (subst P (sym starts.at) start) (sample_year of_row.0 one.sample_year) starts.moments one.in_year starts.in_year in
    let Q : ℤ → Type 0 = λ y. IsSample row.about.ty y s in
    let Y : ℤ → Type 0 = λ y. IsSampleYear y in
    let file : IsFile ((head ++ 10 ∷ []) ++ line_of s) head info (s ∷ []) = grows (head ++ 10 ∷ []) head info [] (s ∷ []) (written info (fits (subst Y same one.sample_year))) (subst Q same of_row.1, tt) (omega arith, tt) in
    let R : List ℕ → Type 0 = λ b. IsFile b head info (s ∷ []) in
    record {
      row = row;
      info = info;
      first = s;
      others = [];
      stands = stands;
      part = is_part;
      file = subst R (append_assoc head (10 ∷ []) (line_of s)) file;
      type = refl;
      name = refl;
      some = refl;
      inside = All-cons (λ (x : Sample). HoldsMoment part x.t) s [] holds (All-nil (λ (x : Sample). HoldsMoment part x.t));
      len = omega (arith, length-append head (10 ∷ line_of s), length-append s.line (10 ∷ []));
      head_len = refl;
      from = refl;
      to = refl;
      count = omega arith;
    }

-- One sample more in the plan of a flush.

-- PIECES AND THEIR FILES

-- writes and their files have last ones together
pub record ZipLast (R : FileWrite → Filed → Type 0) (ps : List FileWrite) (p : FileWrite) (fs : List Filed) : Type 0 where
  pub rest : List Filed
  pub last : Filed
  pub are : fs ≡ rest ++ last ∷ []
  pub each : AllZip R ps rest
  pub both : R p last

pub zip_last : (R : FileWrite → Filed → Type 0) (ps : List FileWrite) (p : FileWrite) (fs : List Filed) → AllZip R (ps ++ p ∷ []) fs → ZipLast R ps p fs
zip_last R [] p [] h = absurd h
zip_last R [] p (f ∷ []) h = record { rest = []; last = f; are = refl; each = tt; both = h.0 }
zip_last R [] p (f ∷ k ∷ fs) h = absurd h.1
zip_last R (q ∷ ps) p [] h = absurd h
zip_last R (q ∷ ps) p (f ∷ fs) h =
    let z = zip_last R ps p fs h.1 in
    record { rest = f ∷ z.rest; last = z.last; are = ap (λ (l : List Filed). f ∷ l) z.are; each = (h.0, z.each); both = z.both }

pub zip_push : (R : FileWrite → Filed → Type 0) (ps : List FileWrite) (fs : List Filed) (p : FileWrite) (f : Filed) → AllZip R ps fs → R p f → AllZip R (ps ++ p ∷ []) (fs ++ f ∷ [])
zip_push R [] [] p f h r = (r, tt)
zip_push R [] (k ∷ fs) p f h r = absurd h
zip_push R (q ∷ ps) [] p f h r = absurd h
zip_push R (q ∷ ps) (k ∷ fs) p f h r = (h.0, zip_push R ps fs p f h.1 r)

pub zip_none : (R : FileWrite → Filed → Type 0) (fs : List Filed) → AllZip R [] fs → fs ≡ []
zip_none R [] h = refl
zip_none R (f ∷ fs) h = absurd h

-- THE SAMPLES OF A ROW

abbrev pub of_files : List Filed → List Sample
of_files xs = flat_map (λ (f : Filed). f.samples) xs

pub of_last : (xs : List Filed) (row : ℕ) (earlier : List Filed) (f : Filed) → of_row row xs ≡ earlier ++ f ∷ [] → samples_of row xs ≡ of_files earlier ++ f.samples
of_last xs row earlier f are = ap of_files are ∙ (flat_map-append (λ (f : Filed). f.samples) earlier (f ∷ []) ∙ ap (λ (l : List Sample). of_files earlier ++ l) (append-nil f.samples))

-- a row's samples end where its last file says
pub ends_at : (xs : List Filed) (row : ℕ) (f : Filed) (g : Granularity) (rows : List Row) → IsLast xs row f → IsFiled g rows f → end_of (samples_of row xs) ≡ f.entry.last + 1
ends_at xs row f g rows last h =
    let whole : end_of (samples_of row xs) ≡ end_from (end_of (of_files last.earlier)) f.samples = ap end_of (of_last xs row last.earlier f last.are) ∙ end_from-append 0 (of_files last.earlier) f.samples in
    whole ∙ (ap (end_from (end_of (of_files last.earlier))) h.some ∙ (sym (ap end_of h.some) ∙ sym h.to))

over_later : (xs : List Sample) (s : Sample) → end_of xs ≤ s.t → over xs (s ∷ []) ≡ xs ++ s ∷ []
over_later xs s later = let test : nat_le (end_of xs) s.t ≡ true = grind (arith, nat_tests) in ap (λ (l : List Sample). xs ++ l) (cond-true (nat_le (end_of xs) s.t) (s ∷ []) [] test)

over_late : (xs : List Sample) (s : Sample) → s.t < end_of xs → over xs (s ∷ []) ≡ xs
over_late xs s late = let test : nat_le (end_of xs) s.t ≡ false = grind (arith, nat_tests) in ap (λ (l : List Sample). xs ++ l) (cond-false (nat_le (end_of xs) s.t) (s ∷ []) [] test) ∙ append-nil xs

-- the row gains a sample where a file with it is put among the others
pub gains : (held : Held) (row : ℕ) (s : Sample) (fs more : List Filed) (f : Filed) → put_all held.files more ≡ put filed_at f (put_all held.files fs) → f.entry.series ≡ row → samples_of row (put filed_at f (put_all held.files fs)) ≡ samples_with held fs row ++ s ∷ [] → end_of (samples_with held fs row) ≤ s.t → Gains held row (s ∷ []) 1 fs more
gains held row s fs more f are own grown later =
    let cur = put_all held.files fs in
    record {
      own = ap (samples_of row) are ∙ (grown ∙ sym (over_later (samples_of row cur) s later));
      others = λ r other. ap (samples_of r) are ∙ ap of_files (put_other r f cur (λ is. other (is ∙ own)));
      count = omega (arith, ap count_of are, count_put row f cur own, ap length grown, length-append (samples_of row cur) (s ∷ []));
    }

-- a row's files that start before n
starts_all : (row n : ℕ) (xs : List Filed) → StartBefore (n + 1) (of_row row xs) → AllByRecursion (λ (k : Filed). k.entry.series ≡ row → k.entry.part.start ≤ n) xs
starts_all row n [] before = tt
starts_all row n (x ∷ xs) before = by_test (nat_eq x.entry.series row) refl before (starts_all row n xs)
  where
    by_test : (b : Bool) → nat_eq x.entry.series row ≡ b → StartBefore (n + 1) (cond b (x ∷ of_row row xs) (of_row row xs)) → (StartBefore (n + 1) (of_row row xs) → AllByRecursion (λ (k : Filed). k.entry.series ≡ row → k.entry.part.start ≤ n) xs)
        → (x.entry.series ≡ row → x.entry.part.start ≤ n) × AllByRecursion (λ (k : Filed). k.entry.series ≡ row → k.entry.part.start ≤ n) xs
    by_test true own before rest = (λ is. let first : x.entry.part.start < n + 1 = before.0 in omega (arith, first), rest before.1)
    by_test false other before rest = (λ is. absurd (let test : nat_eq x.entry.series row ≡ true = grind (arith, nat_tests, is) in cc (test, other)), rest before)

-- the last file of a row ends it among those that were there before
ends_of_last : (xs fs : List Filed) (row : ℕ) (f : Filed) → f.entry.series ≡ row → IsLast (put_all xs fs) row f → EndsRow xs f
ends_of_last xs fs row f own last =
    let n = f.entry.part.start in
    let P : Filed → Type 0 = λ (x : Filed). x.entry.part.start < n + 1 in
    let now : StartBefore (n + 1) (of_row row (put_all xs fs)) = subst (λ (l : List Filed). StartBefore (n + 1) l) (sym last.are) (all-append P last.earlier (f ∷ []) (start_before n (n + 1) last.earlier last.before (omega arith)) (omega arith, tt)) in
    subst (λ (r : ℕ). All (λ (k : Filed). k.entry.series ≡ r → k.entry.part.start ≤ n) xs) (sym own)
    (All-from_recursion (λ (k : Filed). k.entry.series ≡ row → k.entry.part.start ≤ n) xs (starts_all row n xs (put_all_back row (n + 1) xs fs now)))

-- the files are planned where the last is the last of its row, and those before it end theirs
pub planned : (g : Granularity) (held : Held) (writes : List FileWrite) (rest : List Filed) (f : Filed) → MakesFiles g held writes (rest ++ f ∷ []) → IsLast (put_all held.files (rest ++ f ∷ [])) f.entry.series f → All (EndsRow held.files) rest → IsPlanned g held writes (rest ++ f ∷ [])
planned g held writes rest f makes last others_end = record {
  ends = All-push (EndsRow held.files) rest f others_end (ends_of_last held.files (rest ++ f ∷ []) f.entry.series f refl last);
  makes = makes;
  last = λ others k are.
      let P : Filed → Type 0 = λ x. IsLast (put_all held.files (rest ++ f ∷ [])) x.entry.series x in
      subst P (same_last rest others f k are).1 last;
}

-- what is known of the last file where its row's last entry is known
pub stands_same : (rows : List Row) (series i : ℕ) (row : Row) → i ≡ series → slice_get rows series ≡ Some row → slice_get rows i ≡ Some row
stands_same rows series i row is stands = let P : ℕ → Type 0 = λ k. slice_get rows k ≡ Some row in subst P (sym is) stands

-- A SAMPLE INTO THE LAST PIECE

grows_on : (g : Granularity) (held : Held) (row : Row) (p new : FileWrite) (f : Filed) (s : Sample) → Grows g held p f → slice_get held.rows f.entry.series ≡ Some row → IsSampleOf row s → IsAppended s p new → f.entry.last < s.t → s.t < f.entry.part.end → Grows g held new (with_sample f s)
grows_on g held row p new f s h stands of_row appended later within =
    let old = bytes_at (filed_at f) held.files in
    let len : new.entry.len ≡ p.entry.len + (length s.line + 1) = ap (λ (e : Entry). e.len) appended.entry in
    record {
      entry = appended.entry ∙ ap (grown s) h.entry;
      listed = record { row = h.listed.row; stands = h.listed.stands; part = h.listed.part };
      head = h.head;
      at = appended.at ∙ h.at;
      len = omega (arith, len, h.len, ap start_of appended.at, ap length appended.bytes, length-append p.bytes.items (line_of s), length-append s.line (10 ∷ []));
      some = omega (arith, ap length appended.bytes, length-append p.bytes.items (line_of s), length-append s.line (10 ∷ []));
      own = λ is.
          let mine = h.own is in
          record {
            filed = filed_more g held.rows f row s mine.filed stands of_row later within;
            bytes = bytes_more f s ∙ (ap (λ (l : List ℕ). l ++ line_of s) mine.bytes ∙ (append_assoc old p.bytes.items (line_of s) ∙ ap (λ (l : List ℕ). old ++ l) (sym appended.bytes)));
            anew = λ none. let head = mine.anew none in record { row = head.row; year = head.year; stands = head.stands; starts = head.starts; head = head.head };
          };
    }

pub adds_on : (target : Target) (row : Row) (s : Sample) (ps : List FileWrite) (p new : FileWrite) → IsSampleOf row s → p.entry.series ≡ target.series → p.entry.last < s.t → s.t < p.entry.part.end → IsAppended s p new → Adds target row (s ∷ []) 1 (ps ++ p ∷ []) (ps ++ new ∷ [])
adds_on target row s ps p new of_type own later within appended = record {
  made = λ held has fs plan.
      let g = target.granularity in
      let z = zip_last (Grows g held) ps p fs plan.makes.each in
      let f = z.last in
      let k = with_sample f s in
      let more = z.rest ++ k ∷ [] in
      let base = put_all held.files z.rest in
      let series : f.entry.series ≡ target.series = ap (λ (e : Entry). e.series) (sym z.both.entry) ∙ own in
      let later₂ : f.entry.last < s.t = let same = ap (λ (e : Entry). e.last) z.both.entry in omega arith in
      let within₂ : s.t < f.entry.part.end = let same = ap (λ (e : Entry). e.part.end) z.both.entry in omega arith in
      let P : List Filed → Type 0 = λ l. PlacesRise l in
      let rises : PlacesRise (z.rest ++ f ∷ []) = subst P z.are plan.makes.apart in
      let cur : put_all held.files fs ≡ put filed_at f base = ap (put_all held.files) z.are ∙ put_all-push held.files z.rest f in
      let put_more : put_all held.files more ≡ put filed_at k (put_all held.files fs) = put_all-push held.files z.rest k ∙ (sym (put_twice k f base refl) ∙ ap (put filed_at k) (sym cur)) in
      let Q : ℕ → Type 0 = λ r. IsLast (put_all held.files fs) r f in
      let last : IsLast (put_all held.files fs) target.series f = subst Q series (plan.last z.rest f z.are) in
      let are = put_over target.series k f (put_all held.files fs) last.earlier series refl last.are last.before in
      let samples : samples_of target.series (put filed_at k (put_all held.files fs)) ≡ samples_with held fs target.series ++ s ∷ [] =
      of_last (put filed_at k (put_all held.files fs)) target.series last.earlier k are ∙ (sym (append_assoc (of_files last.earlier) f.samples (s ∷ [])) ∙ ap (λ (l : List Sample). l ++ s ∷ []) (sym (of_last (put_all held.files fs) target.series last.earlier f last.are))) in
      let end : IsTrue held.stands → end_of (samples_with held fs target.series) ≡ f.entry.last + 1 = λ is. ends_at (put_all held.files fs) target.series f g held.rows last (z.both.own is).filed in
      let makes : MakesFiles g held (ps ++ new ∷ []) more = record {
        each = zip_push (Grows g held) ps z.rest new k z.each (grows_on g held row p new f s z.both (stands_same held.rows target.series f.entry.series row series has.stands) of_type appended later₂ within₂);
        apart = rise_over z.rest f k refl rises;
      } in
      let last_more : IsLast (put_all held.files more) k.entry.series k = record { earlier = last.earlier; are = (let R : ℕ → Type 0 = λ r. of_row r (put_all held.files more) ≡ last.earlier ++ k ∷ [] in subst R (sym series) (ap (of_row target.series) put_more ∙ are)); before = last.before } in
      let others_end = All-front (EndsRow held.files) z.rest (f ∷ []) (subst (λ (l : List Filed). All (EndsRow held.files) l) z.are plan.ends) in
      (more, planned g held (ps ++ new ∷ []) z.rest k makes last_more others_end, λ is. gains held target.series s fs more k put_more series samples (omega (arith, end is)));
}

-- A SAMPLE THAT IS LATE

pub adds_none : (target : Target) (row : Row) (s : Sample) (writes : List FileWrite) → ((held : Held) → HoldsRow target row held → (fs : List Filed) → IsPlanned target.granularity held writes fs → IsTrue held.stands → s.t < end_of (samples_with held fs target.series)) → Adds target row (s ∷ []) 0 writes writes
adds_none target row s writes late = record {
  made = λ held has fs plan.
      (fs, plan, λ is. record { own = sym (over_late (samples_with held fs target.series) s (late held has fs plan is)); others = λ r other. refl; count = omega arith });
}

-- A sample of a file that had no write: one that is listed, or one that is made anew.

-- THE LAST FILE

last_has : (P : Filed → Type 0) (xs : List Filed) (row : ℕ) (f : Filed) → IsLast xs row f → All P (of_row row xs) → P f
last_has P xs row f last all = let Q : List Filed → Type 0 = λ l. All P l in All-contains P (last.earlier ++ f ∷ []) f (subst Q last.are all) (Contains-push last.earlier f)

last_own : (xs : List Filed) (row : ℕ) (f : Filed) → IsLast xs row f → f.entry.series ≡ row
last_own xs row f last =
    let test : nat_eq f.entry.series row ≡ true = last_has (λ (x : Filed). nat_eq x.entry.series row ≡ true) xs row f last (filter_passes (λ (x : Filed). nat_eq x.entry.series row) xs) in
    grind (arith, nat_tests)

last_filed : (P : Filed → Type 0) (xs : List Filed) (row : ℕ) (f : Filed) → IsLast xs row f → All P xs → P f
last_filed P xs row f last all = last_has P xs row f last (All-filter (λ (x : Filed). nat_eq x.entry.series row) P xs all)

-- ROWS WITHOUT A PIECE

rows_before : (row : ℕ) (fs : List Filed) (f : Filed) → PlacesRise (fs ++ f ∷ []) → f.entry.series < row → AllByRecursion (λ (k : Filed). row ≢ k.entry.series) (fs ++ f ∷ [])
rows_before row [] f rise lt = ((λ is. omega arith), tt)
rows_before row (x ∷ fs) f rise lt =
    let before : Comes x f = All-contains (Comes x) (fs ++ f ∷ []) f rise.0 (Contains-push fs f) in
    let low : x.entry.series ≤ f.entry.series = grind (arith, nat_tests) in
    ((λ is. omega arith), rows_before row fs f rise.1 lt)

-- a row behind that of the last write has the files that it had
row_kept : (g : Granularity) (held : Held) (row : ℕ) (writes : List FileWrite) (fs : List Filed) → MakesFiles g held writes fs → OfLast (λ p. p.entry.series < row) writes → of_row row (put_all held.files fs) ≡ of_row row held.files
row_kept g held row writes fs makes low = put_all_other row held.files fs (elim (last_view writes) [
  | inl none ↦
      let R : List FileWrite → Type 0 = λ l. AllZip (Grows g held) l fs in
      let P : List Filed → Type 0 = λ l. AllByRecursion (λ (k : Filed). row ≢ k.entry.series) l in
      subst P (sym (zip_none (Grows g held) fs (subst R none makes.each))) tt
  | inr v ↦
      let R : List FileWrite → Type 0 = λ l. AllZip (Grows g held) l fs in
      let z = zip_last (Grows g held) v.0 v.1 fs (subst R v.2 makes.each) in
      let P : List Filed → Type 0 = λ l. PlacesRise l in
      let Q : List Filed → Type 0 = λ l. AllByRecursion (λ (k : Filed). row ≢ k.entry.series) l in
      let lt : z.last.entry.series < row = let first = low v.0 v.1 v.2 in let same = ap (λ (e : Entry). e.series) z.both.entry in omega arith in
      subst Q (sym z.are) (rows_before row z.rest z.last (subst P z.are makes.apart) lt)
])

-- places that rise go on behind the last write
apart_behind : (g : Granularity) (held : Held) (writes : List FileWrite) (fs : List Filed) (k : Filed) → MakesFiles g held writes fs → OfLast (λ p. IsTrue (comes_before (place p.entry) (filed_at k))) writes → PlacesRise (fs ++ k ∷ [])
apart_behind g held writes fs k makes before = elim (last_view writes) [
  | inl none ↦
      let R : List FileWrite → Type 0 = λ l. AllZip (Grows g held) l fs in
      let P : List Filed → Type 0 = λ l. PlacesRise (l ++ k ∷ []) in
      subst P (sym (zip_none (Grows g held) fs (subst R none makes.each))) (All-nil (Comes k), tt)
  | inr v ↦
      let R : List FileWrite → Type 0 = λ l. AllZip (Grows g held) l fs in
      let z = zip_last (Grows g held) v.0 v.1 fs (subst R v.2 makes.each) in
      let P : List Filed → Type 0 = λ l. PlacesRise l in
      let Q : List Filed → Type 0 = λ l. PlacesRise (l ++ k ∷ []) in
      let C : Entry → Type 0 = λ e. IsTrue (comes_before (place e) (filed_at k)) in
      subst Q (sym z.are) (rise_behind z.rest z.last k (subst P z.are makes.apart) (subst C z.both.entry (before v.0 v.1 v.2)))
]

-- THE ROW'S END

-- the row's last entry is that of a file
pub record IsRowEnd (g : Granularity) (held : Held) (row : ℕ) (files : List Filed) (e : Entry) : Type 0 where
  pub file : Filed
  pub last : IsLast files row file
  pub entry : file.entry ≡ e
  pub filed : IsTrue held.stands → IsFiled g held.rows file

abbrev RowEnds : Granularity → Held → ℕ → List Filed → Option Entry → Type 0
RowEnds g held row files None = of_row row files ≡ []
RowEnds g held row files (Some e) = IsRowEnd g held row files e

listed_ends : (g : Granularity) (held : Held) (row : ℕ) (files : List Filed) (last : Option Entry) → EndsAt held.files row last → AreFiled g held → of_row row files ≡ of_row row held.files → RowEnds g held row files last
listed_ends g held row files None ends filed same = same ∙ ends
listed_ends g held row files (Some e) ends filed same = record {
  file = ends.0;
  last = record { earlier = ends.1.earlier; are = same ∙ ends.1.are; before = ends.1.before };
  entry = ends.2;
  filed = λ is. last_filed (IsFiled g held.rows) held.files row ends.0 ends.1 (filed.filed is);
}

row_ends : (target : Target) (row : Row) (held : Held) (writes : List FileWrite) (fs : List Filed) (last : Option Entry) → HoldsRow target row held → IsPlanned target.granularity held writes fs → IsLastEntry target writes last → RowEnds target.granularity held target.series (put_all held.files fs) last
row_ends target row held writes fs last has plan (inl v) =
    let g = target.granularity in
    let R : List FileWrite → Type 0 = λ l. AllZip (Grows g held) l fs in
    let z = zip_last (Grows g held) v.0 v.1 fs (subst R v.2 plan.makes.each) in
    let series : z.last.entry.series ≡ target.series = ap (λ (e : Entry). e.series) (sym z.both.entry) ∙ v.3 in
    let Q : ℕ → Type 0 = λ r. IsLast (put_all held.files fs) r z.last in
    let end : IsRowEnd g held target.series (put_all held.files fs) v.1.entry = record { file = z.last; last = subst Q series (plan.last z.rest z.last z.are); entry = sym z.both.entry; filed = λ is. (z.both.own is).filed } in
    let P : Option Entry → Type 0 = λ o. RowEnds g held target.series (put_all held.files fs) o in
    subst P (sym v.4) end
row_ends target row held writes fs last has plan (inr v) =
    let g = target.granularity in
    let P : Option Entry → Type 0 = λ o. RowEnds g held target.series (put_all held.files fs) o in
    subst P (sym v.1) (listed_ends g held target.series (put_all held.files fs) target.listed has.ends has.filed (row_kept g held target.series writes fs plan.makes v.0))

-- a sample that isn't later than the row's last adds nothing
pub adds_late : (target : Target) (row : Row) (s : Sample) (writes : List FileWrite) (e : Entry) → IsLastEntry target writes (Some e) → s.t ≤ e.last → Adds target row (s ∷ []) 0 writes writes
adds_late target row s writes e is late = adds_none target row s writes (λ held has fs plan is_so.
    let end = row_ends target row held writes fs (Some e) has plan is in
    let at = ends_at (put_all held.files fs) target.series end.file target.granularity held.rows end.last (end.filed is_so) in
    let same = ap (λ (x : Entry). x.last) end.entry in
    omega arith)

-- A PIECE MORE

-- the file that a new write makes
pub record IsAddedFile (target : Target) (held : Held) (fs : List Filed) (s : Sample) (new : FileWrite) : Type 0 where
  pub file : Filed
  pub own : file.entry.series ≡ target.series
  pub grows : Grows target.granularity held new file
  pub apart : PlacesRise (fs ++ file ∷ [])
  pub earlier : List Filed
  pub are : of_row target.series (put filed_at file (put_all held.files fs)) ≡ earlier ++ file ∷ []
  pub before : StartBefore file.entry.part.start earlier
  pub samples : of_files earlier ++ file.samples ≡ samples_with held fs target.series ++ s ∷ []
  pub later : IsTrue held.stands → end_of (samples_with held fs target.series) ≤ s.t

adds_push : (target : Target) (row : Row) (s : Sample) (writes : List FileWrite) (new : FileWrite) → ((held : Held) → HoldsRow target row held → (fs : List Filed) → IsPlanned target.granularity held writes fs → IsAddedFile target held fs s new) → Adds target row (s ∷ []) 1 writes (writes ++ new ∷ [])
adds_push target row s writes new pushed = record {
  made = λ held has fs plan.
      let g = target.granularity in
      let h = pushed held has fs plan in
      let f = h.file in
      let cur = put_all held.files fs in
      let put_more : put_all held.files (fs ++ f ∷ []) ≡ put filed_at f cur = put_all-push held.files fs f in
      let R : ℕ → Type 0 = λ r. of_row r (put_all held.files (fs ++ f ∷ [])) ≡ h.earlier ++ f ∷ [] in
      let last : IsLast (put_all held.files (fs ++ f ∷ [])) f.entry.series f = record { earlier = h.earlier; are = subst R (sym h.own) (ap (of_row target.series) put_more ∙ h.are); before = h.before } in
      let makes : MakesFiles g held (writes ++ new ∷ []) (fs ++ f ∷ []) = record { each = zip_push (Grows g held) writes fs new f plan.makes.each h.grows; apart = h.apart } in
      (fs ++ f ∷ [], planned g held (writes ++ new ∷ []) fs f makes last plan.ends, λ is. gains held target.series s fs (fs ++ f ∷ []) f put_more h.own (of_last (put filed_at f cur) target.series h.earlier f h.are ∙ h.samples) (h.later is));
}

-- A LISTED FILE GOES ON

pub adds_listed : (target : Target) (row : Row) (s : Sample) (writes : List FileWrite) (e : Entry) (start new : FileWrite) → target.listed ≡ Some e → OfLast (λ p. p.entry.series < target.series) writes → IsSampleOf row s → e.last < s.t → s.t < e.part.end → start.entry ≡ e → start.at ≡ Some e.len → start.bytes.items ≡ [] → IsAppended s start new → Adds target row (s ∷ []) 1 writes (writes ++ new ∷ [])
adds_listed target row s writes e start new listed low of_type later within entry at none appended = adds_push target row s writes new (λ held has fs plan.
    let g = target.granularity in
    let cur = put_all held.files fs in
    let E : Option Entry → Type 0 = λ o. EndsAt held.files target.series o in
    let ends = subst E listed has.ends in
    let h = ends.0 in
    let k = with_sample h s in
    let series : h.entry.series ≡ target.series = last_own held.files target.series h ends.1 in
    let kept = row_kept g held target.series writes fs plan.makes low in
    let are = kept ∙ ends.1.are in
    let last : IsLast cur target.series h = record { earlier = ends.1.earlier; are = are; before = ends.1.before } in
    let listed_h : IsListed g held.rows h = last_filed (IsListed g held.rows) held.files target.series h ends.1 has.filed.listed in
    let filed : IsTrue held.stands → IsFiled g held.rows h = λ is. last_filed (IsFiled g held.rows) held.files target.series h ends.1 (has.filed.filed is) in
    let found : file_at (filed_at h) held.files ≡ Some h = file_of_last held.files target.series h ends.1 series in
    let bytes : bytes_at (filed_at h) held.files ≡ bytes_of h = ap listed_bytes found in
    let later₂ : h.entry.last < s.t = let same = ap (λ (x : Entry). x.last) ends.2 in omega arith in
    let within₂ : s.t < h.entry.part.end = let same = ap (λ (x : Entry). x.part.end) ends.2 in omega arith in
    let line : new.bytes.items ≡ line_of s = appended.bytes ∙ ap (λ (l : List ℕ). l ++ line_of s) none in
    let same_len : new.entry.len ≡ e.len + (length s.line + 1) = ap (λ (x : Entry). x.len) (appended.entry ∙ ap (grown s) entry) in
    record {
      file = k;
      own = series;
      grows = record {
        entry = appended.entry ∙ ap (grown s) (entry ∙ sym ends.2);
        listed = record { row = listed_h.row; stands = listed_h.stands; part = listed_h.part };
        head = λ old here. ap (λ (f : Filed). f.entry.head_len) (same_Some h old (sym found ∙ here));
        at = appended.at ∙ (at ∙ (ap (λ (x : Entry). let len : Option ℕ = Some x.len in len) (sym ends.2) ∙ ap listed_len (sym found)));
        len = omega (arith, same_len, ap start_of (appended.at ∙ at), ap length line, length-append s.line (10 ∷ []));
        some = omega (arith, ap length line, length-append s.line (10 ∷ []));
        own = λ is. record {
          filed = filed_more g held.rows h row s (filed is) (stands_same held.rows target.series h.entry.series row series has.stands) of_type later₂ within₂;
          bytes = bytes_more h s ∙ (ap (λ (l : List ℕ). l ++ line_of s) (sym bytes) ∙ ap (λ (l : List ℕ). bytes_at (filed_at h) held.files ++ l) (sym line));
          anew = λ empty. let no : ◌≡◌ {A = Option Filed} (Some h) None = sym found ∙ empty in absurd (cc (no));
        };
      };
      apart = apart_behind g held writes fs k plan.makes (λ rest p is. let lt : p.entry.series < target.series = low rest p is in grind (arith, nat_tests, series));
      earlier = ends.1.earlier;
      are = put_over target.series k h cur ends.1.earlier series refl are ends.1.before;
      before = ends.1.before;
      samples = sym (append_assoc (of_files ends.1.earlier) h.samples (s ∷ [])) ∙ ap (λ (l : List Sample). l ++ s ∷ []) (sym (of_last cur target.series ends.1.earlier h are));
      later = λ is. let end = ends_at cur target.series h g held.rows last (filed is) in omega (arith, end);
    })

-- A FILE MADE ANEW

-- a partition that holds a moment behind another starts behind it
later_part : (g : Granularity) (p q : Part) (t : ℕ) → IsPart g p → IsPart g q → p.end ≤ t → HoldsMoment q t → p.start < q.start
later_part g p q t a b behind holds = elim (cases_lt p.start q.start) [
  | inl lt ↦ lt
  | inr ge ↦
      let some = within g p a in
      let same : p ≡ q = one_part g p q p.start a b (omega arith, some.1) (ge, omega (arith, some, holds)) in
      let end : p.end ≡ q.end = ap (λ (z : Part). z.end) same in
      absurd (omega (arith, holds))
]

-- the last write comes before a partition behind the row's last entry
writes_before : (target : Target) (writes : List FileWrite) (part : Part) (t : ℕ) → IsBehind target writes t → IsPart target.granularity part → HoldsMoment part t → OfLast (λ p. IsTrue (comes_before (place p.entry) (target.series, part.start))) writes
writes_before target writes part t behind is_part holds rest p is = elim behind.is_last [
  | inl v ↦
      let last : v.1 ≡ p = (same_last v.0 rest v.1 p (sym v.2 ∙ is)).1 in
      let P : Option Entry → Type 0 = λ o. IfSome o (λ (e : Entry). IsPart target.granularity e.part × (e.last < t) × (e.part.end ≤ t)) in
      let known = subst P v.4 behind.later in
      let start = later_part target.granularity v.1.entry.part part t known.0 is_part known.2 holds in
      let C : FileWrite → Type 0 = λ q. IsTrue (comes_before (place q.entry) (target.series, part.start)) in
      let own = v.3 in
      let before : C v.1 = grind (arith, nat_tests, own, start) in
      subst C last before
  | inr v ↦ let lt : p.entry.series < target.series = v.0 rest p is in grind (arith, nat_tests)
]

-- its row's files start before it, and its samples end
record IsFree (held : Held) (row : ℕ) (fs : List Filed) (part : Part) (t : ℕ) : Type 0 where
  starts : StartBefore part.start (of_row row (put_all held.files fs))
  later : IsTrue held.stands → end_of (samples_with held fs row) ≤ t

free_behind : (g : Granularity) (held : Held) (row : ℕ) (fs : List Filed) (part : Part) (t : ℕ) (last : Option Entry) → RowEnds g held row (put_all held.files fs) last → IfSome last (λ (e : Entry). IsPart g e.part × (e.last < t) × (e.part.end ≤ t)) → IsPart g part → HoldsMoment part t → IsFree held row fs part t
free_behind g held row fs part t None end known is_part holds =
    let P : List Filed → Type 0 = λ l. StartBefore part.start l in
    record { starts = subst P (sym end) tt; later = λ is. omega (arith, ap end_of (ap of_files end)) }
free_behind g held row fs part t (Some e) end known is_part holds =
    let cur = put_all held.files fs in
    let f = end.file in
    let P : List Filed → Type 0 = λ l. StartBefore part.start l in
    let start = later_part g e.part part t known.0 is_part known.2 holds in
    let same = ap (λ (x : Entry). x.part.start) end.entry in
    let same₂ = ap (λ (x : Entry). x.last) end.entry in
    let lt : f.entry.part.start < part.start = omega arith in
    record {
      starts = subst P (sym end.last.are) (all-append (λ (x : Filed). x.entry.part.start < part.start) end.last.earlier (f ∷ []) (start_before f.entry.part.start part.start end.last.earlier end.last.before (omega arith)) (lt, tt));
      later = λ is. let at = ends_at cur row f g held.rows end.last (end.filed is) in omega (arith, known, at);
    }

pub adds_anew : (target : Target) (row : Row) (s : Sample) (writes : List FileWrite) (start new : FileWrite) → IsBehind target writes s.t → IsSampleOf row s → IsBegun target row s.t start → IsAppended s start new → Adds target row (s ∷ []) 1 writes (writes ++ new ∷ [])
adds_anew target row s writes start new behind of_type begins appended = adds_push target row s writes new (λ held has fs plan.
    let g = target.granularity in
    let cur = put_all held.files fs in
    let part = begins.part in
    let head = escaped (info_text (header_of row begins.year)) in
    let k = new_file target.series part head s in
    let end = row_ends target row held writes fs behind.last has plan behind.is_last in
    let free = free_behind g held target.series fs part s.t behind.last end behind.later begins.is_part begins.holds in
    let empty : file_at (filed_at k) held.files ≡ None = no_file (target.series, part.start) held.files (put_all_back target.series part.start held.files fs free.starts) in
    let line : new.bytes.items ≡ (head ++ 10 ∷ []) ++ line_of s = appended.bytes ∙ ap (λ (l : List ℕ). l ++ line_of s) begins.bytes in
    let same_len : new.entry.len ≡ (length head + 1) + (length s.line + 1) = ap (λ (x : Entry). x.len) (appended.entry ∙ ap (grown s) begins.entry) in
    let long : length new.bytes.items ≡ (length head + 1) + (length s.line + 1) = ap length line ∙ omega (arith, length-append (head ++ 10 ∷ []) (line_of s), length-append s.line (10 ∷ []), length-append head (10 ∷ [])) in
    record {
      file = k;
      own = refl;
      grows = record {
        entry = appended.entry ∙ ap (grown s) begins.entry;
        listed = record { row = row; stands = has.stands; part = begins.is_part };
        head = λ old here. absurd (let no = sym empty ∙ here in cc (no));
        at = appended.at ∙ (begins.at ∙ ap listed_len (sym empty));
        len = omega (arith, same_len, long, ap start_of (appended.at ∙ begins.at));
        some = omega (arith, long);
        own = λ is. record {
          filed = filed_anew g held.rows target.series part begins.year row s has.stands begins.is_part begins.holds begins.starts of_type (within g part begins.is_part).1 begins.fits;
          bytes = sym (line ∙ append_assoc head (10 ∷ []) (line_of s)) ∙ ap (λ (o : Option Filed). listed_bytes o ++ new.bytes.items) (sym empty);
          anew = λ none. record { row = row; year = begins.year; stands = has.stands; starts = begins.starts; head = refl };
        };
      };
      apart = apart_behind g held writes fs k plan.makes (writes_before target writes part s.t behind begins.is_part begins.holds);
      earlier = of_row target.series cur;
      are = put_behind target.series k cur refl free.starts;
      before = free.starts;
      samples = refl;
      later = free.later;
    })

-- Where a sample goes, and what stays true of the writes.

-- the three sides of a moment
by_side : (e : Entry) (t : ℕ) (inside : Destination) (P : Destination → Type 0) → (t ≤ e.last → P Late) → (e.last < t → t < e.part.end → P inside) → (e.last < t → e.part.end ≤ t → P New) → P (side_of e t inside)
by_side e t inside P late within behind = by_tests (nat_le t e.last) (nat_lt t e.part.end) refl refl
  where
    by_tests : (a b : Bool) → nat_le t e.last ≡ a → nat_lt t e.part.end ≡ b → P (cond a Late (cond b inside New))
    by_tests true b is is₂ = late (leb-true t e.last is)
    by_tests false true is is₂ = within (leb-false t e.last is) (ltb-true t e.part.end is₂)
    by_tests false false is is₂ = behind (leb-false t e.last is) (ltb-false t e.part.end is₂)

pub goes_by_last : (target : Target) (writes : List FileWrite) (t : ℕ) (p : FileWrite) → IsDraft target.granularity target.series writes → IsLastWrite writes target.series p → GoesTo target writes t (side_of p.entry t Open)
goes_by_last target writes t p draft is =
    let last : IsLastEntry target writes (Some p.entry) = inl (is.0.0, p, is.0.1, is.1, refl) in
    let Part : FileWrite → Type 0 = λ q. IsPart target.granularity q.entry.part in
    let P : List FileWrite → Type 0 = λ l. All Part l in
    let part : Part p = All-contains Part (is.0.0 ++ p ∷ []) p (subst P is.0.1 draft.parts) (Contains-push is.0.0 p) in
    by_side p.entry t Open (GoesTo target writes t)
    (λ late. (p.entry, last, late))
    (λ later within. record { rest = is.0.0; write = p; are = is.0.1; own = is.1; later = later; within = within })
    (λ later behind. record { last = Some p.entry; is_last = last; later = (part, later, behind) })

pub goes_by_listed : (target : Target) (writes : List FileWrite) (t : ℕ) (e : Entry) → IsDraft target.granularity target.series writes → OfLast (λ p. p.entry.series ≢ target.series) writes → target.listed ≡ Some e → IsPart target.granularity e.part → GoesTo target writes t (side_of e t (Listed e))
goes_by_listed target writes t e draft other listed part =
    let Own : FileWrite → Type 0 = λ q. q.entry.series ≤ target.series in
    let All_own : List FileWrite → Type 0 = λ l. All Own l in
    let below : OfLast (λ p. p.entry.series < target.series) writes = λ rest p is. let le : p.entry.series ≤ target.series = All-contains Own (rest ++ p ∷ []) p (subst All_own is draft.rows) (Contains-push rest p) in let ne : p.entry.series ≢ target.series = other rest p is in omega arith in
    let last : IsLastEntry target writes (Some e) = inr (below, sym listed) in
    by_side e t (Listed e) (GoesTo target writes t)
    (λ late. (e, last, late))
    (λ later within. record { listed = listed; none = below; later = later; within = within })
    (λ later behind. record { last = Some e; is_last = last; later = (part, later, behind) })

pub draft_more : (g : Granularity) (row : ℕ) (writes : List FileWrite) (p : FileWrite) → All (λ (q : FileWrite). IsPart g q.entry.part) writes → All (λ (q : FileWrite). q.entry.series ≤ row) writes → length writes < 21_913_098 → IsPart g p.entry.part → p.entry.series ≤ row → IsDraft g row (writes ++ p ∷ [])
draft_more g row writes p parts rows room part own = record {
  parts = All-push (λ (q : FileWrite). IsPart g q.entry.part) writes p parts part;
  few = omega (arith, length-append writes (p ∷ []));
  rows = All-push (λ (q : FileWrite). q.entry.series ≤ row) writes p rows own;
}

-- A sample in its place: what the plan gains, and what stays true of the writes.

abbrev HasPart : Granularity → FileWrite → Type 0
HasPart g p = IsPart g p.entry.part

abbrev IsUpTo : ℕ → FileWrite → Type 0
IsUpTo row p = p.entry.series ≤ row

-- IN THE LAST PIECE

pub extended_draft : (target : Target) (s : Sample) (writes new : List FileWrite) → IsDraft target.granularity target.series writes → IsInLast target writes s.t → IsExtended s writes new → IsDraft target.granularity target.series new
extended_draft target s writes new draft is ext =
    let g = target.granularity in
    let P : List FileWrite → Type 0 = λ l. All (HasPart g) l in
    let D : List FileWrite → Type 0 = λ l. IsDraft g target.series l in
    let R : List FileWrite → Type 0 = λ l. All (IsUpTo target.series) l in
    let parts = subst P ext.are draft.parts in
    let rows = subst R ext.are draft.rows in
    let same : is.write ≡ ext.start = (same_last is.rest ext.rest is.write ext.start (sym is.are ∙ ext.are)).1 in
    let series : ext.write.entry.series ≡ target.series = ap (λ (e : Entry). e.series) ext.appended.entry ∙ (ap (λ (p : FileWrite). p.entry.series) (sym same) ∙ is.own) in
    let Q : Entry → Type 0 = λ e. IsPart g e.part in
    let part : HasPart g ext.write = subst Q (sym ext.appended.entry) (All-contains (HasPart g) (ext.rest ++ ext.start ∷ []) ext.start parts (Contains-push ext.rest ext.start)) in
    subst D (sym ext.becomes) (draft_more g target.series ext.rest ext.write (All-front (HasPart g) ext.rest (ext.start ∷ []) parts) (All-front (IsUpTo target.series) ext.rest (ext.start ∷ []) rows) (let few = draft.few in omega (arith, ap length ext.are, length-append ext.rest (ext.start ∷ []))) part (omega arith))

pub extended_adds : (target : Target) (row : Row) (s : Sample) (writes new : List FileWrite) → IsSampleOf row s → IsInLast target writes s.t → IsExtended s writes new → Adds target row (s ∷ []) 1 writes new
extended_adds target row s writes new of_row is ext =
    let same : is.write ≡ ext.start = (same_last is.rest ext.rest is.write ext.start (sym is.are ∙ ext.are)).1 in
    let P : FileWrite → Type 0 = λ p. (p.entry.series ≡ target.series) × (p.entry.last < s.t) × (s.t < p.entry.part.end) in
    let known = subst P same (is.own, is.later, is.within) in
    let A : List FileWrite → List FileWrite → Type 0 = λ a b. Adds target row (s ∷ []) 1 a b in
    let step = adds_on target row s ext.rest ext.start ext.write of_row known.0 known.1 known.2 ext.appended in
    subst (λ (a : List FileWrite). A a new) (sym ext.are) (subst (A (ext.rest ++ ext.start ∷ [])) (sym ext.becomes) step)

-- IN A PIECE OF ITS OWN

pushed_draft : (target : Target) (s : Sample) (start : FileWrite) (writes new : List FileWrite) → IsDraft target.granularity target.series writes → IsPart target.granularity start.entry.part → start.entry.series ≤ target.series → IsPushed s start writes new → IsDraft target.granularity target.series new
pushed_draft target s start writes new draft part own push =
    let D : List FileWrite → Type 0 = λ l. IsDraft target.granularity target.series l in
    let P : Entry → Type 0 = λ e. IsPart target.granularity e.part × (e.series ≤ target.series) in
    let known = subst P (sym push.appended.entry) (part, own) in
    subst D (sym push.are) (draft_more target.granularity target.series writes push.write draft.parts draft.rows push.room known.0 known.1)

-- of a listed file
pub listed_draft : (target : Target) (s : Sample) (e : Entry) (start : FileWrite) (writes new : List FileWrite) → IsDraft target.granularity target.series writes → IsTarget target → IsInListed target writes s.t e → start.entry ≡ e → IsPushed s start writes new → IsDraft target.granularity target.series new
listed_draft target s e start writes new draft listed is entry push =
    let P : Option Entry → Type 0 = λ o. IfSome o (λ (x : Entry). IsPart target.granularity x.part × (x.series ≡ target.series)) in
    let Q : Entry → Type 0 = λ x. IsPart target.granularity x.part × (x.series ≡ target.series) in
    let known = subst Q (sym entry) (subst P is.listed listed) in
    pushed_draft target s start writes new draft known.0 (omega (arith, known)) push

pub listed_adds : (target : Target) (row : Row) (s : Sample) (e : Entry) (start : FileWrite) (writes new : List FileWrite) → IsSampleOf row s → IsInListed target writes s.t e → start.entry ≡ e → start.at ≡ Some e.len → start.bytes.items ≡ [] → IsPushed s start writes new → Adds target row (s ∷ []) 1 writes new
listed_adds target row s e start writes new of_row is entry at none push =
    subst (λ (b : List FileWrite). Adds target row (s ∷ []) 1 writes b) (sym push.are) (adds_listed target row s writes e start push.write is.listed is.none of_row is.later is.within entry at none push.appended)

-- made anew
pub begun_draft : (target : Target) (row : Row) (s : Sample) (start : FileWrite) (writes new : List FileWrite) → IsDraft target.granularity target.series writes → IsBegun target row s.t start → IsPushed s start writes new → IsDraft target.granularity target.series new
begun_draft target row s start writes new draft is push =
    let P : Entry → Type 0 = λ e. IsPart target.granularity e.part × (e.series ≤ target.series) in
    let known = subst P (sym is.entry) (is.is_part, omega arith) in
    pushed_draft target s start writes new draft known.0 known.1 push

pub begun_adds : (target : Target) (row : Row) (s : Sample) (start : FileWrite) (writes new : List FileWrite) → IsSampleOf row s → IsBehind target writes s.t → IsBegun target row s.t start → IsPushed s start writes new → Adds target row (s ∷ []) 1 writes new
begun_adds target row s start writes new of_row behind is push =
    subst (λ (b : List FileWrite). Adds target row (s ∷ []) 1 writes b) (sym push.are) (adds_anew target row s writes start push.write behind of_row is push.appended)
