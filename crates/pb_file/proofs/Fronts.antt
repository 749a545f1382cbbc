-- What the good lines at the front of a file come to.
use Rattle.std.proofs.Common.{◌≡◌, ℕ, ◌+◌, ◌<◌, ◌≤◌, ◌^◌, inl, inr, List, [], ◌∷◌, ◌++◌, Option, Some, None, Result, Ok, Err, IfOk, IfErr, length, take, drop, arith, refl, sym, ap, ◌∙◌, subst}
use Rattle.std.proofs.lemmas.List.{length-append, length-take-le, take-append-drop}
use Rattle.std.proofs.lemmas.Bool.{cases_lt}
use Rattle.series_model.specs.declared.sample.Sample.{Sample}
use Rattle.pb_messages.specs.declared.info.PayloadInfo.{PayloadInfo}
use Rattle.partition_names.specs.declared.part.Part.{Part}
use Rattle.partition_names.specs.Part.{HoldsMoment}
use Rattle.pb_lines.specs.File.{IsFile, lines_of}
use Rattle.pb_lines.proofs.FileMeaning.{not_after, no_header_no_file, begin_alike, one_file}
use Rattle.pb_file.specs.declared.walk.Walked.TheVariants as walked
use Rattle.pb_file.specs.declared.check.Tally.{Tally}
use Rattle.pb_file.specs.declared.good.Front.{Front}
use Rattle.pb_file.specs.declared.good.FrontErr.{FrontErr}
use Rattle.pb_file.specs.declared.good.FrontErr.TheVariants.{NoFront}
use Rattle.pb_file.specs.Walk.{Walk, HasWalked, Walks, Front as Read}
use Rattle.pb_file.specs.Verdict.{AllInside, Spans, IsGood, IsDamagedBehind, IsDamaged}
use Rattle.pb_file.specs.GoodFront.{IsGoodFront, HasNoFront, IsMadeOf, LacksFront}
use Rattle.pb_file.proofs.Walking.{within_first}
use Rattle.pb_file.proofs.Verdicts.{Checked, samples_of, checked_with, nothing_begun, one_span}

-- how many bytes the header's line takes, once it was read
abbrev pub IsHeadLength : ℕ → Option Read → Type 0
IsHeadLength n None = Unit {0}
IsHeadLength n (Some f) = n ≡ length f.head + 1

-- what was read of the file is good so far, and so many bytes of it are the header's
pub record Fronted (part : Part) (w : Walk) (file : List ℕ) (tally : Tally) (head_len : ℕ) : Type 0 where
  pub checked : Checked part w file tally
  pub header : IsHeadLength head_len checked.front

-- nothing was read yet
pub nothing_fronted : (part : Part) (w : Walk) (file : List ℕ) → HasWalked w file None → Fronted part w file (record { count = 0; first = 0; last = 0 }) 0
nothing_fronted part w file walked = record { checked = record { front = None; walked = walked; inside = tt; number = refl; span = λ some. absurd (omega (arith, some)) }; header = tt }

-- the header's line was read
pub header_fronted : (part : Part) (old new : Walk) (file line : List ℕ) (tally : Tally) (before head_len : ℕ) (h : Fronted part old file tally before) → Walks h.checked.front file line walked.Header new → head_len ≡ old.place + length line + 1
    → Fronted part new file tally head_len
header_fronted part old new file line tally before head_len h walks place = by_front h.checked.front h.checked.walked h.checked.number walks
  where
    by_front : (front : Option Read) → HasWalked old file front → tally.count ≡ length (samples_of front) → Walks front file line walked.Header new → Fronted part new file tally head_len
    by_front (Some f) walked number walks = absurd walks
    by_front None walked number walks = record {
      checked = record { front = Some (record { head = line; info = walks.0; samples = [] }); walked = walks.1; inside = tt; number = number; span = λ some. absurd (omega (arith, some, number)) };
      header = omega (arith, place, walked.read.0);
    }

-- a sample in the partition was read
pub sample_fronted : (part : Part) (old new : Walk) (file line : List ℕ) (t : ℕ) (tally more : Tally) (head_len : ℕ) (h : Fronted part old file tally head_len) → Walks h.checked.front file line (walked.Sample t) new → HoldsMoment part t
    → more.count ≡ tally.count + 1 → (tally.count ≡ 0 → more.first ≡ t) → (0 < tally.count → more.first ≡ tally.first) → more.last ≡ t → Fronted part new file more head_len
sample_fronted part old new file line t tally more head_len h walks inside count begins goes_on ends = by_front h.checked.front h.header h.checked.inside h.checked.number h.checked.span walks
  where
    by_front : (front : Option Read) → IsHeadLength head_len front → AllInside part (samples_of front) → tally.count ≡ length (samples_of front) → (0 < tally.count → Spans (samples_of front) tally.first tally.last) → Walks front file line (walked.Sample t) new
        → Fronted part new file more head_len
    by_front None header all number span walks = absurd walks
    by_front (Some f) header all number span walks = record { checked = checked_with part new file line t tally more f walks all number span inside count begins goes_on ends; header = header }

-- no file of the partition that begins the bytes is longer
abbrev pub IsLongest : Part → List ℕ → ℕ → Type 0
IsLongest part bytes at = (len count first last : ℕ) → len ≤ length bytes → IsGood part (take len bytes) count first last → len ≤ at

-- WHERE THE GOOD LINES END

-- What was read is the longest file of the partition that begins the bytes; without a header none begins them.
abbrev pub Stops : Part → List ℕ → ℕ → Option Read → Type 0
Stops part bytes at None = (len count first last : ℕ) → IsGood part (take len bytes) count first last → ⊥
Stops part bytes at (Some f) = IsFile (take at bytes) f.head f.info f.samples × AllInside part f.samples × (at ≤ length bytes) × IsLongest part bytes at

longest_behind : (part : Part) (bytes : List ℕ) (at : ℕ) → at ≤ length bytes → IsDamagedBehind part bytes at → IsLongest part bytes at
longest_behind part bytes at within bad =
    elim bad.bad [
      | inl none ↦ λ len count first last short good. not_after (HoldsMoment part) bytes at len bad.head good.head bad.info good.info bad.samples good.samples (record { front = bad.front; good = bad.inside; bad = none }) good.file good.inside short
      | inr ended ↦ λ len count first last short good. omega (arith, short, ended.1)
    ]

-- at a line that fails
pub stops_at_bad : (part : Part) (w : Walk) (file : List ℕ) (tally : Tally) (h : Checked part w file tally) → w.len ≤ length file → IsDamaged part (take w.len file) w.place → Stops part (take w.len file) w.place h.front
stops_at_bad part w file tally h long damaged = by_front h.front h.walked h.inside damaged
  where
    by_front : (front : Option Read) → HasWalked w file front → AllInside part (samples_of front) → IsDamaged part (take w.len file) w.place → Stops part (take w.len file) w.place front
    by_front None walked inside (inl none) = λ len count first last good. no_header_no_file (take w.len file) len good.head good.info good.samples none.1 good.file
    by_front None walked inside (inr bad) = absurd (nothing_begun w.place (take w.len file) bad.head bad.info bad.samples walked.read.0 bad.front)
    by_front (Some f) walked inside (inl none) = absurd (nothing_begun w.place (take w.len file) f.head f.info f.samples none.0 (within_first file w.place w.len f walked.within walked.read.0))
    by_front (Some f) walked inside (inr bad) =
        let within : w.place ≤ length (take w.len file) = omega (arith, walked.within, length-take-le w.len file long) in
        (within_first file w.place w.len f walked.within walked.read.0, inside, within, longest_behind part (take w.len file) w.place within bad)

-- at the end
pub stops_at_end : (part : Part) (w new : Walk) (file line : List ℕ) (tally : Tally) (h : Checked part w file tally) → w.len ≤ length file → w.place ≡ w.len → Walks h.front file line walked.End new → Stops part (take w.len file) w.place h.front
stops_at_end part w new file line tally h long ended walks = by_front h.front h.walked h.inside walks
  where
    by_front : (front : Option Read) → HasWalked w file front → AllInside part (samples_of front) → Walks front file line walked.End new → Stops part (take w.len file) w.place front
    by_front None walked inside walks = absurd walks
    by_front (Some f) walked inside walks =
        let size = length-take-le w.len file long in
        (within_first file w.place w.len f walked.within walked.read.0, inside, omega (arith, size, ended), λ len count first last short good. omega (arith, size, ended, short))

-- WHAT STANDS THERE

-- of two files that begin the bytes one has the header of the other
pub one_head : (bytes : List ℕ) (at len : ℕ) (head other : List ℕ) (info about : PayloadInfo) (xs ys : List Sample) → IsFile (take at bytes) head info xs → IsFile (take len bytes) other about ys → head ≡ other
one_head bytes at len head other info about xs ys h k =
    (begin_alike (take at bytes) (take len bytes) (drop at bytes) (drop len bytes) head other info about xs ys h k (take-append-drop at bytes ∙ sym (take-append-drop len bytes))).heads

-- a longer file begins no bytes of which a header's line is the longest
bare_longest : (part : Part) (bytes : List ℕ) (at : ℕ) (head : List ℕ) (info : PayloadInfo) (xs : List Sample) → IsFile (take at bytes) head info xs → length xs ≡ 0 → at ≤ length bytes → IsLongest part bytes at
    → (len count first last : ℕ) → len ≤ length bytes → IsGood part (take len bytes) count first last → ⊥
bare_longest part bytes at head info (x ∷ xs) file none within longest len count first last short good = absurd (omega (arith, none))
bare_longest part bytes at head info [] file none within longest len count first last short good =
    let s = good.span.begins.0 in
    let more = good.span.begins.1 in
    let text = good.file.text ∙ ap (λ (xs : List Sample). good.head ++ 10 ∷ lines_of xs) good.span.begins.2 in
    let same = one_head bytes at len head good.head info good.info [] good.samples file good.file in
    omega (arith, longest len count first last short good, length-take-le at bytes within, length-take-le len bytes short, ap length file.text ∙ length-append head (10 ∷ []), ap length text ∙ length-append good.head (10 ∷ lines_of (s ∷ more)), length-append s.line (10 ∷ lines_of more), ap length same)

one_some : {X : Type 0} (o : Option X) (x : X) → o ≡ None → o ≡ Some x → ⊥
one_some {X} o x none some = cc

some_same : {X : Type 0} (o : Option X) (x y : X) → o ≡ Some x → o ≡ Some y → x ≡ y
some_same {X} o x y a b = cc

-- the header that was read
abbrev pub info_of_read : Option Read → Option PayloadInfo
info_of_read None = None
info_of_read (Some f) = Some f.info

pub info_read : (w : Walk) (file : List ℕ) (front : Option Read) → HasWalked w file front → w.info ≡ info_of_read front
info_read w file None walked = walked.read.1
info_read w file (Some f) walked = walked.read.1

-- what was read is the front that is given
pub is_front : (part : Part) (bytes : List ℕ) (at head_len : ℕ) (tally : Tally) (info : Option PayloadInfo) (read : Option Read) (front : Front) → Stops part bytes at read → IsHeadLength head_len read → info ≡ info_of_read read
    → tally.count ≡ length (samples_of read) → (0 < tally.count → Spans (samples_of read) tally.first tally.last) → IsMadeOf info head_len at tally front → IsGoodFront part bytes front
is_front part bytes at head_len tally info None front stops header same number span is = absurd (one_some info front.info same is.header)
is_front part bytes at head_len tally info (Some f) front stops header same number span is =
    let about = some_same info f.info front.info same is.header in
    let P : PayloadInfo → Type 0 = λ i. IsFile (take at bytes) f.head i f.samples in
    let G : Front → Type 0 = IsGoodFront part bytes in
    subst G (sym is.made) (record {
      within = stops.2;
      head = f.head;
      samples = f.samples;
      file = subst P about stops.0;
      inside = stops.1;
      header = header;
      number = number;
      span = span is.some;
      longest = stops.3;
    })

-- no front stands there
pub has_no_front : (part : Part) (bytes : List ℕ) (at head_len : ℕ) (tally : Tally) (info : Option PayloadInfo) (read : Option Read) → Stops part bytes at read → IsHeadLength head_len read → info ≡ info_of_read read → tally.count ≡ length (samples_of read)
    → LacksFront info head_len tally → HasNoFront part bytes
has_no_front part bytes at head_len tally info None stops header same number lacks = λ len count first last short good. absurd (stops len count first last good)
has_no_front part bytes at head_len tally info (Some f) stops header same number (inl none) = absurd (one_some info f.info none same)
has_no_front part bytes at head_len tally info (Some f) stops header same number (inr (inl none)) =
    λ len count first last short good. absurd (bare_longest part bytes at f.head f.info f.samples stops.0 (sym number ∙ none) stops.2 stops.3 len count first last short good)
has_no_front part bytes at head_len tally info (Some f) stops header same number (inr (inr long)) =
    λ len count first last short good. omega (arith, long, header, ap length (one_head bytes at len f.head good.head f.info good.info f.samples good.samples stops.0 good.file))

pub ok_then : {A E : Type 0} (P Q : A → Type 0) (r : Result A E) → ((x : A) → P x → Q x) → IfOk r P → IfOk r Q
ok_then P Q (Ok x) f h = f x h
ok_then P Q (Err e) f h = tt

pub gives_front : (part : Part) (w : Walk) (file : List ℕ) (tally : Tally) (head_len len at : ℕ) (info : Option PayloadInfo) (result : Result Front FrontErr) (h : Fronted part w file tally head_len) → Stops part (take w.len file) w.place h.checked.front
    → w.len ≡ len → at ≡ w.place → info ≡ w.info → IfOk result (IsMadeOf info head_len at tally) → IfOk result (IsGoodFront part (take len file))
gives_front part w file tally head_len len at info result h stops size place same ok =
    let P : ℕ → Type 0 = λ n. IfOk result (IsGoodFront part (take n file)) in
    let Q : ℕ → Type 0 = λ n. IfOk result (IsMadeOf info head_len n tally) in
    subst P size (ok_then (IsMadeOf info head_len w.place tally) (IsGoodFront part (take w.len file)) result
    (λ front is. is_front part (take w.len file) w.place head_len tally info h.checked.front front stops h.header (same ∙ info_read w file h.checked.front h.checked.walked) h.checked.number h.checked.span is)
    (subst Q place ok))

pub gives_none : (part : Part) (w : Walk) (file : List ℕ) (tally : Tally) (head_len len : ℕ) (info : Option PayloadInfo) (result : Result Front FrontErr) (h : Fronted part w file tally head_len) → Stops part (take w.len file) w.place h.checked.front
    → w.len ≡ len → info ≡ w.info → IfErr result (λ e. (e ≡ NoFront) × LacksFront info head_len tally) → result ≡ Err NoFront → HasNoFront part (take len file)
gives_none part w file tally head_len len info result h stops size same err is =
    let P : ℕ → Type 0 = λ n. HasNoFront part (take n file) in
    let R : Result Front FrontErr → Type 0 = λ r. IfErr r (λ e. (e ≡ NoFront) × LacksFront info head_len tally) in
    let why : LacksFront info head_len tally = (subst R is err).1 in
    subst P size (has_no_front part (take w.len file) w.place head_len tally info h.checked.front stops h.header (same ∙ info_read w file h.checked.front h.checked.walked) h.checked.number why)

-- ANY FILE

-- what is known of the samples so far, also of a file that doesn't tell its bytes
pub record Shaped (part : Part) (w : Walk) (tally : Tally) (head_len : ℕ) : Type 0 where
  pub unread : w.info ≡ None → tally.count ≡ 0
  pub header : (info : PayloadInfo) → w.info ≡ Some info → (0 < head_len) × (head_len + tally.count ≤ w.place)
  pub moments : 0 < tally.count → HoldsMoment part tally.first × HoldsMoment part tally.last × (tally.first ≤ tally.last) × (w.earliest ≡ tally.last + 1)

pub nothing_shaped : (part : Part) (w : Walk) → w.info ≡ None → Shaped part w (record { count = 0; first = 0; last = 0 }) 0
nothing_shaped part w none = record { unread = λ same. refl; header = λ info some. absurd (one_some w.info info none some); moments = λ some. absurd (omega (arith, some)) }

pub header_shaped : (part : Part) (old new : Walk) (tally : Tally) (before head_len : ℕ) (info : PayloadInfo) → Shaped part old tally before → old.info ≡ None → new.info ≡ Some info → 0 < head_len → head_len ≤ new.place → Shaped part new tally head_len
header_shaped part old new tally before head_len info h none some long within =
    let empty = h.unread none in
    record { unread = λ same. empty; header = λ other same. (long, omega (arith, empty, within)); moments = λ some. absurd (omega (arith, empty, some)) }

pub sample_shaped : (part : Part) (old new : Walk) (t : ℕ) (tally more : Tally) (head_len : ℕ) (info : PayloadInfo) → Shaped part old tally head_len → old.info ≡ Some info → new.info ≡ Some info → old.place < new.place → old.earliest ≤ t → new.earliest ≡ t + 1 → HoldsMoment part t
    → more.count ≡ tally.count + 1 → (tally.count ≡ 0 → more.first ≡ t) → (0 < tally.count → more.first ≡ tally.first) → more.last ≡ t → Shaped part new more head_len
sample_shaped part old new t tally more head_len info h was is place later earliest inside count begins goes_on ends =
    let header = h.header info was in
    let last : HoldsMoment part more.last = (omega (arith, ends, inside.0), omega (arith, ends, inside.1)) in
    record {
      unread = λ none. absurd (one_some new.info info none is);
      header = λ other same. (header.0, omega (arith, header.1, count, place));
      moments = λ some. elim (cases_lt 0 tally.count) [
        | inl old_some ↦
            let first = goes_on old_some in
            let before = h.moments old_some in
            ((omega (arith, first, before.0.0), omega (arith, first, before.0.1)), last, omega (arith, first, before.2, before.3, later, ends), omega (arith, earliest, ends))
        | inr none ↦
            let first = begins (omega (arith, none)) in
            ((omega (arith, first, inside.0), omega (arith, first, inside.1)), last, omega (arith, first, ends), omega (arith, earliest, ends))
      ];
    }

-- ONE FRONT

abbrev good_of : (part : Part) (bytes : List ℕ) (front : Front) → IsGoodFront part bytes front → IsGood part (take front.len bytes) front.count front.first front.last
good_of part bytes front h = record { head = h.head; info = front.info; samples = h.samples; file = h.file; inside = h.inside; number = h.number; span = h.span }

pub one_front : (part : Part) (bytes : List ℕ) (a b : Front) → IsGoodFront part bytes a → IsGoodFront part bytes b → a ≡ b
one_front part bytes a b h k =
    let here = h.longest b.len b.count b.first b.last k.within (good_of part bytes b k) in
    let there = k.longest a.len a.count a.first a.last h.within (good_of part bytes a h) in
    let size : b.len ≡ a.len = omega (arith, here, there) in
    let P : ℕ → Type 0 = λ n. IsFile (take n bytes) k.head b.info k.samples in
    let same = one_file (take a.len bytes) h.head k.head a.info b.info h.samples k.samples h.file (subst P size k.file) in
    let Q : List Sample → Type 0 = λ xs. Spans xs a.first a.last in
    let ends = one_span k.samples a.first a.last b.first b.last (subst Q same.2 h.span) k.span in
    let made : PayloadInfo → ℕ → ℕ → ℕ → ℕ → ℕ → Front = λ info head_len len count first last. record { info = info; head_len = head_len; len = len; count = count; first = first; last = last } in
    ap (λ (i : PayloadInfo). made i a.head_len a.len a.count a.first a.last) same.1
    ∙ ap (λ (n : ℕ). made b.info n a.len a.count a.first a.last) (h.header ∙ ap (λ (l : List ℕ). length l + 1) same.0 ∙ sym k.header)
    ∙ ap (λ (n : ℕ). made b.info b.head_len n a.count a.first a.last) (sym size)
    ∙ ap (λ (n : ℕ). made b.info b.head_len b.len n a.first a.last) (h.number ∙ ap length same.2 ∙ sym k.number)
    ∙ ap (λ (n : ℕ). made b.info b.head_len b.len b.count n a.last) ends.0
    ∙ ap (λ (n : ℕ). made b.info b.head_len b.len b.count b.first n) ends.1

pub front_excluded : (part : Part) (bytes : List ℕ) (front : Front) → IsGoodFront part bytes front → front.head_len < 2 ^ 32 → HasNoFront part bytes → ⊥
front_excluded part bytes front h short none = omega (arith, none front.len front.count front.first front.last h.within (good_of part bytes front h), short, h.header)
