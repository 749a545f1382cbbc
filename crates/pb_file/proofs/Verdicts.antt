-- What a check of a partition's file comes to.
use Rattle.std.proofs.Common.{◌≡◌, ℕ, ◌+◌, ◌<◌, ◌≤◌, inl, inr, List, [], ◌∷◌, ◌++◌, Option, Some, None, length, take, drop, arith, refl, sym, ap, ◌∙◌, subst}
use Rattle.std.proofs.lemmas.List.{length-append, length-take-le, take_all}
use Rattle.series_model.specs.declared.sample.Sample.{Sample}
use Rattle.series_model.specs.Series.{end_of}
use Rattle.series_model.proofs.RisingLists.{end_from-append}
use Rattle.pb_messages.specs.declared.info.PayloadInfo.{PayloadInfo}
use Rattle.partition_names.specs.declared.part.Part.{Part}
use Rattle.partition_names.specs.Part.{HoldsMoment}
use Rattle.pb_lines.proofs.Unique.{one_moment}
use Rattle.pb_file.specs.declared.walk.Walked.{Walked}
use Rattle.pb_file.specs.declared.walk.Walked.TheVariants as walked
use Rattle.pb_file.specs.declared.check.Tally.{Tally}
use Rattle.pb_file.specs.declared.check.Verdict.{Verdict}
use Rattle.pb_file.specs.declared.check.Verdict.TheVariants.{Good, Damaged, ReadFault, Memory}
use Rattle.pb_lines.specs.File.{IsFile, IsBadAt, IsSample, HasNoSample, lines_of}
use Rattle.pb_file.specs.Walk.{Walk, Front, HasWalked, Walks, with_sample}
use Rattle.pb_file.specs.Verdict.{AllInside, Spans, IsGood, IsDamagedBehind, IsDamaged, Says, IsDecided}
use Rattle.pb_lines.proofs.FileLines.{all-append, all_rest, bad_sample}
use Rattle.pb_lines.proofs.FileMeaning.{StopsAt, is_cut, one_file, no_header_no_file, never_stops, not_after, some_left, whole_file}
use Rattle.pb_file.proofs.Walking.{next_line, within_first, bad_at}

-- a step of the walk over bytes that are the same still
pub walks_on : (front : Option Front) (now bytes line : List ℕ) (r : Walked) (walk new : Walk) → now ≡ bytes → HasWalked walk bytes front → (HasWalked walk now front → Walks front now line r new) → Walks front bytes line r new
walks_on front now bytes line r walk new same has step =
    let H : List ℕ → Type 0 = λ b. HasWalked walk b front in
    let W : List ℕ → Type 0 = λ b. Walks front b line r new in subst W same (step (subst H (sym same) has))

-- THE SAMPLES SO FAR

abbrev pub samples_of : Option Front → List Sample
samples_of None = []
samples_of (Some f) = f.samples

-- What was read of the file is good so far, and the tally is that of its samples.
pub record Checked (part : Part) (w : Walk) (file : List ℕ) (tally : Tally) : Type 0 where
  pub front : Option Front
  pub walked : HasWalked w file front
  pub inside : AllInside part (samples_of front)
  pub number : tally.count ≡ length (samples_of front)
  pub span : 0 < tally.count → Spans (samples_of front) tally.first tally.last

pub spans_more : (xs : List Sample) (s : Sample) (old new : Tally) → old.count ≡ length xs → (0 < old.count → Spans xs old.first old.last) → (old.count ≡ 0 → new.first ≡ s.t) → (0 < old.count → new.first ≡ old.first) → new.last ≡ s.t → Spans (xs ++ s ∷ []) new.first new.last
spans_more [] s old new number span begins goes_on ends = record { begins = (s, [], refl, begins number); ends = ([], s, refl, ends) }
spans_more (x ∷ xs) s old new number span begins goes_on ends =
    let some : 0 < old.count = omega (arith, number) in
    let first = (span some).begins in
    let same = ap (λ (l : List Sample). l ++ s ∷ []) first.2 in
    record { begins = (first.0, first.1 ++ s ∷ [], same, goes_on some ∙ first.3); ends = (x ∷ xs, s, refl, ends) }

-- the file of this front and one more sample in the partition is good
abbrev pub checked_with : (part : Part) (new : Walk) (file line : List ℕ) (t : ℕ) (tally more : Tally) (f : Front) → HasWalked new file (Some (with_sample f t line)) → AllInside part f.samples → tally.count ≡ length f.samples → (0 < tally.count → Spans f.samples tally.first tally.last) → HoldsMoment part t
    → more.count ≡ tally.count + 1 → (tally.count ≡ 0 → more.first ≡ t) → (0 < tally.count → more.first ≡ tally.first) → more.last ≡ t → Checked part new file more
checked_with part new file line t tally more f walked all number span inside count begins goes_on ends =
    let s : Sample = record { t = t; line = line } in
    record {
      front = Some (with_sample f t line);
      walked = walked;
      inside = all-append (λ (x : Sample). HoldsMoment part x.t) f.samples (s ∷ []) all (inside, tt);
      number = omega (arith, count, number, length-append f.samples (s ∷ []));
      span = λ some. spans_more f.samples s tally more number span begins goes_on ends;
    }

-- a sample in the partition was read
pub checked_sample : (part : Part) (old new : Walk) (file line : List ℕ) (t : ℕ) (tally more : Tally) (h : Checked part old file tally) → Walks h.front file line (walked.Sample t) new → HoldsMoment part t
    → more.count ≡ tally.count + 1 → (tally.count ≡ 0 → more.first ≡ t) → (0 < tally.count → more.first ≡ tally.first) → more.last ≡ t → Checked part new file more
checked_sample part old new file line t tally more h walks inside count begins goes_on ends = by_front h.front h.inside h.number h.span walks
  where
    by_front : (front : Option Front) → AllInside part (samples_of front) → tally.count ≡ length (samples_of front) → (0 < tally.count → Spans (samples_of front) tally.first tally.last) → Walks front file line (walked.Sample t) new → Checked part new file more
    by_front None all number span walks = absurd walks
    by_front (Some f) all number span walks = checked_with part new file line t tally more f walks all number span inside count begins goes_on ends

-- THE VERDICTS

-- a sample outside the partition was read
pub outside_damaged : (part : Part) (old new : Walk) (file line : List ℕ) (t : ℕ) (tally : Tally) (h : Checked part old file tally) → old.len ≤ length file → new.place ≤ old.len → new.place ≡ old.place + length line + 1
    → Walks h.front file line (walked.Sample t) new → (HoldsMoment part t → ⊥) → IsDamaged part (take old.len file) old.place
outside_damaged part old new file line t tally h long room place walks outside = by_front h.front h.walked h.inside walks
  where
    by_front : (front : Option Front) → HasWalked old file front → AllInside part (samples_of front) → Walks front file line (walked.Sample t) new → IsDamaged part (take old.len file) old.place
    by_front None h all walks = absurd walks
    by_front (Some f) h all walks =
        let s : Sample = record { t = t; line = line } in
        let file_now = walks.read.0 in
        let cut = is_cut (take new.place file) f.head f.info f.samples (s ∷ []) file_now in
        let sample = (all_rest (IsSample f.info.ty f.info.year) f.samples (s ∷ []) file_now.lines).0 in
        let text : take (old.place + length line + 1) file ≡ take old.place file ++ (line ++ 10 ∷ []) = ap (λ (n : ℕ). take n file) (sym place) ∙ cut.1 ∙ ap (λ (u : List ℕ). u ++ (line ++ 10 ∷ [])) (sym h.read.0.text) in
        let left = next_line file line old.place old.len (omega (arith, room, place)) long text in
        inr (record {
          head = f.head;
          info = f.info;
          samples = f.samples;
          front = within_first file old.place old.len f h.within h.read.0;
          inside = all;
          bad = inl (bad_sample f.info (λ u. (end_of f.samples ≤ u) × HoldsMoment part u) (drop old.place (take old.len file)) line (drop (old.place + length line + 1) (take old.len file)) left sample.whole
              (λ u meant good. outside (let P : ℕ → Type 0 = HoldsMoment part in subst P (one_moment f.info.ty f.info.year line u t meant sample.meant) good.1)));
        })

pub nothing_begun : (at : ℕ) (file head : List ℕ) (info : PayloadInfo) (xs : List Sample) → at ≡ 0 → IsFile (take at file) head info xs → ⊥
nothing_begun at file head info xs zero is =
    let P : ℕ → Type 0 = λ n. IsFile (take n file) head info xs in
    let empty = subst P zero is in
    omega (arith, ap length empty.text, length-append head (10 ∷ lines_of xs))

bad_damaged : (part : Part) (w : Walk) (file : List ℕ) (tally : Tally) (h : Checked part w file tally) → IsBadAt (take w.len file) w.place → IsDamaged part (take w.len file) w.place
bad_damaged part w file tally h (inl none) = inl none
bad_damaged part w file tally h (inr bad) = by_front h.front h.walked h.inside
  where
    by_front : (front : Option Front) → HasWalked w file front → AllInside part (samples_of front) → IsDamaged part (take w.len file) w.place
    by_front None h all = absurd (nothing_begun w.place (take w.len file) bad.head bad.info bad.samples h.read.0 bad.front)
    by_front (Some f) h all =
        let front = within_first file w.place w.len f h.within h.read.0 in
        let same = one_file (take w.place (take w.len file)) f.head bad.head f.info bad.info f.samples bad.samples front bad.front in
        let P : List Sample → Type 0 = AllInside part in
        inr (record {
          head = bad.head;
          info = bad.info;
          samples = bad.samples;
          front = bad.front;
          inside = subst P same.2 all;
          bad = inl (record { some = bad.bad.some; none = λ s rest is sample good. bad.bad.none s rest is sample good.0 });
        })

-- the walk met a bad line
pub walk_damaged : (part : Part) (w new : Walk) (file line : List ℕ) (tally : Tally) (at : ℕ) (h : Checked part w file tally) → at ≡ w.place → new.len ≡ w.len → Walks h.front file line (walked.Damaged at) new → IsDamaged part (take w.len file) at
walk_damaged part w new file line tally at h place len walks =
    let P : ℕ → Type 0 = λ n. IsBadAt (take n file) at in
    let Q : ℕ → Type 0 = λ n. IsBadAt (take w.len file) n in
    let R : ℕ → Type 0 = λ n. IsDamaged part (take w.len file) n in
    subst R (sym place) (bad_damaged part w file tally h (subst Q place (subst P len (bad_at h.front file line at new walks))))

ends_with : (part : Part) (bytes head : List ℕ) (info : PayloadInfo) (xs : List Sample) (len : ℕ) (tally : Tally) (verdict : Verdict) → IsFile bytes head info xs → AllInside part xs → tally.count ≡ length xs
    → (0 < tally.count → Spans xs tally.first tally.last) → len ≡ length bytes → (tally.count ≡ 0 → verdict ≡ Damaged len) → (0 < tally.count → verdict ≡ Good tally.count tally.first tally.last) → Says part bytes verdict
ends_with part bytes head info [] len tally verdict file inside number span size none some =
    let S : Verdict → Type 0 = Says part bytes in
    let P : List ℕ → Type 0 = λ b. IsFile b head info [] in
    subst S (sym (none number)) (inr (record { head = head; info = info; samples = []; front = subst P (sym (take_all len bytes (omega (arith, size)))) file; inside = inside; bad = inr (refl, size) }))
ends_with part bytes head info (x ∷ xs) len tally verdict file inside number span size none some =
    let S : Verdict → Type 0 = Says part bytes in
    let more : 0 < tally.count = omega (arith, number) in
    subst S (sym (some more)) (record { head = head; info = info; samples = x ∷ xs; file = file; inside = inside; number = number; span = span more })

-- the file ended
pub end_says : (part : Part) (w new : Walk) (file line : List ℕ) (tally : Tally) (verdict : Verdict) (h : Checked part w file tally) → w.len ≤ length file → new.len ≡ w.len → Walks h.front file line walked.End new
    → (tally.count ≡ 0 → verdict ≡ Damaged w.len) → (0 < tally.count → verdict ≡ Good tally.count tally.first tally.last) → Says part (take w.len file) verdict
end_says part w new file line tally verdict h long len walks none some = by_front h.front h.inside h.number h.span walks
  where
    by_front : (front : Option Front) → AllInside part (samples_of front) → tally.count ≡ length (samples_of front) → (0 < tally.count → Spans (samples_of front) tally.first tally.last) → Walks front file line walked.End new → Says part (take w.len file) verdict
    by_front None all number span walks = absurd walks
    by_front (Some f) all number span walks =
        let P : ℕ → Type 0 = λ n. IsFile (take n file) f.head f.info f.samples in
        ends_with part (take w.len file) f.head f.info f.samples w.len tally verdict (subst P len walks) all number span (sym (length-take-le w.len file long)) none some

-- ONE VERDICT

pub one_span : (xs : List Sample) (a b c d : ℕ) → Spans xs a b → Spans xs c d → (a ≡ c) × (b ≡ d)
one_span xs a b c d h k =
    let first = one_first h.begins.0 k.begins.0 h.begins.1 k.begins.1 (sym h.begins.2 ∙ k.begins.2) in
    let last = ap end_of (sym h.ends.2 ∙ k.ends.2) in
    (h.begins.3 ∙ ap (λ (s : Sample). s.t) first ∙ sym k.begins.3, omega (arith, last, end_from-append 0 h.ends.0 (h.ends.1 ∷ []), end_from-append 0 k.ends.0 (k.ends.1 ∷ []), h.ends.3, k.ends.3))
  where
    one_first : (s u : Sample) (more rest : List Sample) → s ∷ more ≡ u ∷ rest → s ≡ u
    one_first s u more rest is = cc

stops : (part : Part) (bytes : List ℕ) (at : ℕ) (bad : IsDamagedBehind part bytes at) → HasNoSample bad.info (λ t. (end_of bad.samples ≤ t) × HoldsMoment part t) (drop at bytes) → StopsAt (HoldsMoment part) bytes at bad.head bad.info bad.samples
stops part bytes at bad none = record { front = bad.front; good = bad.inside; bad = none }

-- a file without samples that ends at this place
ended : (part : Part) (bytes : List ℕ) (at : ℕ) (bad : IsDamagedBehind part bytes at) → at ≡ length bytes → IsFile bytes bad.head bad.info bad.samples
ended part bytes at bad size = let P : List ℕ → Type 0 = λ b. IsFile b bad.head bad.info bad.samples in subst P (take_all at bytes (omega (arith, size))) bad.front

good_or_damaged : (part : Part) (bytes : List ℕ) (count first last at : ℕ) → IsGood part bytes count first last → IsDamaged part bytes at → ⊥
good_or_damaged part bytes count first last at good (inl none) = no_header_no_file bytes (length bytes) good.head good.info good.samples none.1 (whole_file bytes good.head good.info good.samples good.file)
good_or_damaged part bytes count first last at good (inr bad) =
    elim bad.bad [
      | inl none ↦ never_stops (HoldsMoment part) bytes at bad.head good.head bad.info good.info bad.samples good.samples (stops part bytes at bad none) good.file good.inside
      | inr empty ↦
          let same = one_file bytes bad.head good.head bad.info good.info bad.samples good.samples (ended part bytes at bad empty.1) good.file in
          omega (arith, ap length (sym empty.0 ∙ same.2 ∙ good.span.begins.2))
    ]

one_damage : (part : Part) (bytes : List ℕ) (at other : ℕ) → IsDamaged part bytes at → IsDamaged part bytes other → at ≡ other
one_damage part bytes at other (inl h) (inl k) = h.0 ∙ sym k.0
one_damage part bytes at other (inl h) (inr k) = absurd (no_header_no_file bytes other k.head k.info k.samples h.1 k.front)
one_damage part bytes at other (inr h) (inl k) = absurd (no_header_no_file bytes at h.head h.info h.samples k.1 h.front)
one_damage part bytes at other (inr h) (inr k) =
    elim h.bad [
      | inl bad ↦ elim k.bad [
        | inl worse ↦
            let one = not_after (HoldsMoment part) bytes at other h.head k.head h.info k.info h.samples k.samples (stops part bytes at h bad) k.front k.inside (omega (arith, some_left bytes other worse.some)) in
            let two = not_after (HoldsMoment part) bytes other at k.head h.head k.info h.info k.samples h.samples (stops part bytes other k worse) h.front h.inside (omega (arith, some_left bytes at bad.some)) in
            omega (arith, one, two)
        | inr empty ↦ absurd (never_stops (HoldsMoment part) bytes at h.head k.head h.info k.info h.samples k.samples (stops part bytes at h bad) (ended part bytes other k empty.1) k.inside)
      ]
      | inr none ↦ elim k.bad [
        | inl worse ↦ absurd (never_stops (HoldsMoment part) bytes other k.head h.head k.info h.info k.samples h.samples (stops part bytes other k worse) (ended part bytes at h none.1) h.inside)
        | inr empty ↦ none.1 ∙ sym empty.1
      ]
    ]

pub one_verdict : (part : Part) (bytes : List ℕ) (a b : Verdict) → IsDecided a → IsDecided b → Says part bytes a → Says part bytes b → a ≡ b
one_verdict part bytes (Good n a b) (Good m c d) p q h k =
    let same = one_file bytes h.head k.head h.info k.info h.samples k.samples h.file k.file in
    let P : List Sample → Type 0 = λ xs. Spans xs a b in
    let ends = one_span k.samples a b c d (subst P same.2 h.span) k.span in
    ap (λ (i : ℕ). Good i a b) (h.number ∙ ap length same.2 ∙ sym k.number) ∙ ap (λ (i : ℕ). Good m i b) ends.0 ∙ ap (λ (i : ℕ). Good m c i) ends.1
one_verdict part bytes (Good n a b) (Damaged at) p q h k = absurd (good_or_damaged part bytes n a b at h k)
one_verdict part bytes (Damaged at) (Good n a b) p q h k = absurd (good_or_damaged part bytes n a b at k h)
one_verdict part bytes (Damaged at) (Damaged other) p q h k = ap (λ (i : ℕ). Damaged i) (one_damage part bytes at other h k)
one_verdict part bytes (Good n a b) ReadFault p q h k = absurd q
one_verdict part bytes (Good n a b) Memory p q h k = absurd q
one_verdict part bytes (Damaged at) ReadFault p q h k = absurd q
one_verdict part bytes (Damaged at) Memory p q h k = absurd q
one_verdict part bytes ReadFault b p q h k = absurd p
one_verdict part bytes Memory b p q h k = absurd p
