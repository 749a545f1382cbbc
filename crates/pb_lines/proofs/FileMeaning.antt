-- What a file is, and where its first bad line stands: one answer, and always one.
use Rattle.std.proofs.Common.{◌≡◌, ◌≢◌, ℕ, ◌+◌, ◌<◌, ◌≤◌, ◌⊎◌, inl, inr, zero, suc, List, [], ◌∷◌, ◌++◌, length, take, drop, arith, refl, sym, ap, ◌∙◌, subst, append_assoc, append-nil}
use Rattle.std.proofs.lemmas.List.{length-append, length-take-le, length-drop, take-append-drop, take_all, take_at, drop_at, nil_from_length}
use Rattle.std.proofs.lemmas.Bool.{cases_lt}
use Rattle.std.specs.List.{AllByRecursion}
use Rattle.line_escape.specs.Unescaping.{HasNoNewline}
use Rattle.series_model.specs.declared.sample.Sample.{Sample}
use Rattle.series_model.specs.Series.{IsRising, RisesFrom, end_of, end_from}
use Rattle.series_model.proofs.RisingLists.{RisesFrom-append, RisesFrom-front, RisesFrom-rest}
use Rattle.pb_messages.specs.declared.info.PayloadInfo.{PayloadInfo}
use Rattle.pb_lines.specs.Header.{IsHeaderLine}
use Rattle.pb_lines.specs.Sample.{IsSampleLine}
use Rattle.pb_lines.proofs.Lines.{FirstLine, first_line}
use Rattle.pb_lines.proofs.Unique.{one_header, one_moment}
use Rattle.pb_lines.specs.File.{IsFile, IsBadAt, IsBadSampleAt, IsSample, AreSamples, HasNoHeader, HasNoSample, lines_of}
use Rattle.pb_lines.proofs.FileLines.{all-append, all_front, all_rest, lines_of-append, one_line, torn_head, bad_head, torn_sample, bad_sample, header_or_not, sample_or_not, GoesOn, one_run}

-- FILES GROW AND ARE CUT

pub begins : (head : List ℕ) (info : PayloadInfo) → HasNoNewline head → IsHeaderLine head info → IsFile (head ++ 10 ∷ []) head info []
begins head info whole header = record { whole = whole; header = header; lines = tt; rising = tt; text = refl }

pub grows : (bytes head : List ℕ) (info : PayloadInfo) (xs ys : List Sample) → IsFile bytes head info xs → AreSamples info.ty info.year ys → RisesFrom (end_of xs) ys → IsFile (bytes ++ lines_of ys) head info (xs ++ ys)
grows bytes head info xs ys file lines rising = record {
  whole = file.whole;
  header = file.header;
  lines = all-append (IsSample info.ty info.year) xs ys file.lines lines;
  rising = RisesFrom-append 0 xs ys file.rising rising;
  text = ap (λ (u : List ℕ). u ++ lines_of ys) file.text ∙ append_assoc head (10 ∷ lines_of xs) (lines_of ys) ∙ ap (λ (u : List ℕ). head ++ 10 ∷ u) (sym (lines_of-append xs ys));
}

pub is_cut : (bytes head : List ℕ) (info : PayloadInfo) (xs ys : List Sample) → IsFile bytes head info (xs ++ ys) → IsFile (head ++ 10 ∷ lines_of xs) head info xs × (bytes ≡ (head ++ 10 ∷ lines_of xs) ++ lines_of ys)
is_cut bytes head info xs ys file = (
  record {
    whole = file.whole;
    header = file.header;
    lines = all_front (IsSample info.ty info.year) xs ys file.lines;
    rising = RisesFrom-front 0 xs ys file.rising;
    text = refl;
  },
  file.text ∙ ap (λ (u : List ℕ). head ++ 10 ∷ u) (lines_of-append xs ys) ∙ sym (append_assoc head (10 ∷ lines_of xs) (lines_of ys)),
)

-- ONE ANSWER

-- Two files that begin the same bytes have one header, and the samples of one are those of the other and more.
pub record BeginAlike (head other : List ℕ) (info about : PayloadInfo) (xs ys : List Sample) (u v : List ℕ) : Type 0 where
  pub heads : head ≡ other
  pub infos : info ≡ about
  pub samples : GoesOn xs ys u v ⊎ GoesOn ys xs v u

pub begin_alike : (a b u v head other : List ℕ) (info about : PayloadInfo) (xs ys : List Sample) → IsFile a head info xs → IsFile b other about ys → a ++ u ≡ b ++ v → BeginAlike head other info about xs ys u v
begin_alike a b u v head other info about xs ys h k is =
    let one = ap (λ (l : List ℕ). l ++ u) h.text ∙ append_assoc head (10 ∷ lines_of xs) u in
    let two = ap (λ (l : List ℕ). l ++ v) k.text ∙ append_assoc other (10 ∷ lines_of ys) v in
    let lines = one_line head other (lines_of xs ++ u) (lines_of ys ++ v) h.whole k.whole (sym one ∙ is ∙ two) in
    let P : List ℕ → Type 0 = λ line. IsHeaderLine line about in
    let same : info ≡ about = one_header head info about h.header (subst P (sym lines.0) k.header) in
    let Q : PayloadInfo → Type 0 = λ i. AreSamples i.ty i.year ys in
    record { heads = lines.0; infos = same; samples = one_run info.ty info.year xs ys u v h.lines (subst Q (sym same) k.lines) lines.1 }

no_more : (more : List Sample) → [] ≡ lines_of more ++ [] → more ≡ []
no_more [] h = refl
no_more (s ∷ more) h = absurd (omega (arith, ap length h, length-append (s.line ++ 10 ∷ lines_of more) [], length-append s.line (10 ∷ lines_of more)))

goes_nowhere : (xs ys : List Sample) → GoesOn xs ys [] [] → xs ≡ ys
goes_nowhere xs ys g = sym (g.list ∙ ap (λ (l : List Sample). xs ++ l) (no_more g.more g.left) ∙ append-nil xs)

pub one_file : (bytes head other : List ℕ) (info about : PayloadInfo) (xs ys : List Sample) → IsFile bytes head info xs → IsFile bytes other about ys → (head ≡ other) × (info ≡ about) × (xs ≡ ys)
one_file bytes head other info about xs ys h k =
    let alike = begin_alike bytes bytes [] [] head other info about xs ys h k refl in
    (alike.heads, alike.infos, elim alike.samples [ inl g ↦ goes_nowhere xs ys g | inr g ↦ sym (goes_nowhere ys xs g) ])

-- the front of a file up to a bad line, where the samples' moments are of a kind
pub record StopsAt (is_good : ℕ → Type 0) (bytes : List ℕ) (at : ℕ) (head : List ℕ) (info : PayloadInfo) (xs : List Sample) : Type 0 where
  pub front : IsFile (take at bytes) head info xs
  pub good : AllByRecursion (λ s. is_good s.t) xs
  pub bad : HasNoSample info (λ t. (end_of xs ≤ t) × is_good t) (drop at bytes)

-- No file begins the bytes that goes on behind a bad line, where its moments are of that kind.
goes_no_further : (is_good : ℕ → Type 0) (info : PayloadInfo) (xs ys : List Sample) (u v : List ℕ) → AreSamples info.ty info.year ys → IsRising ys → AllByRecursion (λ s. is_good s.t) ys → HasNoSample info (λ t. (end_of xs ≤ t) × is_good t) u → GoesOn xs ys u v → ys ≡ xs
goes_no_further is_good info xs ys u v lines rising good bad g =
    let P : List Sample → Type 0 = λ l. AreSamples info.ty info.year l × IsRising l × AllByRecursion (λ (s : Sample). is_good s.t) l in
    ends g.more g.list g.left (subst P g.list (lines, rising, good))
  where
    ends : (more : List Sample) → ys ≡ xs ++ more → u ≡ lines_of more ++ v → AreSamples info.ty info.year (xs ++ more) × IsRising (xs ++ more) × AllByRecursion (λ s. is_good s.t) (xs ++ more) → ys ≡ xs
    ends [] list left all = list ∙ append-nil xs
    ends (s ∷ more) list left all =
        absurd (bad.none s (lines_of more ++ v) (left ∙ append_assoc s.line (10 ∷ lines_of more) v)
        (all_rest (IsSample info.ty info.year) xs (s ∷ more) all.0).0
        ((RisesFrom-rest 0 xs (s ∷ more) all.1).0, (all_rest (λ (x : Sample). is_good x.t) xs (s ∷ more) all.2).0))

shorter : (head other : List ℕ) (xs ys : List Sample) (a b : List ℕ) → a ≡ head ++ 10 ∷ lines_of xs → b ≡ other ++ 10 ∷ lines_of ys → head ≡ other → (more : List Sample) → xs ≡ ys ++ more → length b ≤ length a
shorter head other xs ys a b is is₂ same more list =
    let longer = ap length (ap lines_of list ∙ lines_of-append ys more) ∙ length-append (lines_of ys) (lines_of more) in
    omega (arith, longer, ap length is ∙ length-append head (10 ∷ lines_of xs), ap length is₂ ∙ length-append other (10 ∷ lines_of ys), ap length same)

-- A file that begins the bytes, its moments of that kind, is no longer than the front up to the bad line.
pub stops_before : (is_good : ℕ → Type 0) (bytes : List ℕ) (at j : ℕ) (head other : List ℕ) (info about : PayloadInfo) (xs ys : List Sample) → StopsAt is_good bytes at head info xs → IsFile (take j bytes) other about ys → AllByRecursion (λ s. is_good s.t) ys → length (take j bytes) ≤ length (take at bytes)
stops_before is_good bytes at j head other info about xs ys stops file good =
    let alike = begin_alike (take at bytes) (take j bytes) (drop at bytes) (drop j bytes) head other info about xs ys stops.front file (take-append-drop at bytes ∙ sym (take-append-drop j bytes)) in
    let Q : PayloadInfo → Type 0 = λ i. AreSamples i.ty i.year ys in
    let lines = subst Q (sym alike.infos) file.lines in
    elim alike.samples [
      | inl g ↦ shorter head other xs ys (take at bytes) (take j bytes) stops.front.text file.text alike.heads [] (sym (goes_no_further is_good info xs ys (drop at bytes) (drop j bytes) lines file.rising good stops.bad g) ∙ sym (append-nil ys))
      | inr g ↦ shorter head other xs ys (take at bytes) (take j bytes) stops.front.text file.text alike.heads g.more g.list
    ]

pub some_left : (bytes : List ℕ) (at : ℕ) → drop at bytes ≢ [] → at < length bytes
some_left bytes at some =
    elim (cases_lt at (length bytes)) [
      | inl lt ↦ lt
      | inr ge ↦ absurd (some (nil_from_length (drop at bytes) (omega (arith, length-drop at bytes))))
    ]

any_good : (xs : List Sample) → AllByRecursion (λ (s : Sample). Unit {0}) xs
any_good [] = tt
any_good (x ∷ xs) = (tt, any_good xs)

stops_at : (bytes : List ℕ) (at : ℕ) (bad : IsBadSampleAt bytes at) → StopsAt (λ t. Unit {0}) bytes at bad.head bad.info bad.samples
stops_at bytes at bad = record {
  front = bad.front;
  good = any_good bad.samples;
  bad = record { some = bad.bad.some; none = λ s rest is sample good. bad.bad.none s rest is sample good.0 };
}

pub not_after : (is_good : ℕ → Type 0) (bytes : List ℕ) (at j : ℕ) (head other : List ℕ) (info about : PayloadInfo) (xs ys : List Sample) → StopsAt is_good bytes at head info xs → IsFile (take j bytes) other about ys → AllByRecursion (λ s. is_good s.t) ys → j ≤ length bytes → j ≤ at
not_after is_good bytes at j head other info about xs ys stops file good within =
    omega (arith, stops_before is_good bytes at j head other info about xs ys stops file good, length-take-le j bytes within, length-take-le at bytes (omega (arith, some_left bytes at stops.bad.some)))

-- where no header is, no file begins
pub no_header_no_file : (bytes : List ℕ) (j : ℕ) (head : List ℕ) (info : PayloadInfo) (xs : List Sample) → HasNoHeader bytes → IsFile (take j bytes) head info xs → ⊥
no_header_no_file bytes j head info xs none file =
    none head (lines_of xs ++ drop j bytes) info (sym (take-append-drop j bytes) ∙ ap (λ (u : List ℕ). u ++ drop j bytes) file.text ∙ append_assoc head (10 ∷ lines_of xs) (drop j bytes)) file.whole file.header

pub one_place : (bytes : List ℕ) (at other : ℕ) → IsBadAt bytes at → IsBadAt bytes other → at ≡ other
one_place bytes at other (inl h) (inl k) = h.0 ∙ sym k.0
one_place bytes at other (inl h) (inr k) = absurd (no_header_no_file bytes other k.head k.info k.samples h.1 k.front)
one_place bytes at other (inr h) (inl k) = absurd (no_header_no_file bytes at h.head h.info h.samples k.1 h.front)
one_place bytes at other (inr h) (inr k) =
    let one = not_after (λ t. Unit {0}) bytes at other h.head k.head h.info k.info h.samples k.samples (stops_at bytes at h) k.front (any_good k.samples) (omega (arith, some_left bytes other k.bad.some)) in
    let two = not_after (λ t. Unit {0}) bytes other at k.head h.head k.info h.info k.samples h.samples (stops_at bytes other k) h.front (any_good h.samples) (omega (arith, some_left bytes at h.bad.some)) in
    omega (arith, one, two)

pub whole_file : (bytes head : List ℕ) (info : PayloadInfo) (xs : List Sample) → IsFile bytes head info xs → IsFile (take (length bytes) bytes) head info xs
whole_file bytes head info xs file = let P : List ℕ → Type 0 = λ b. IsFile b head info xs in subst P (sym (take_all (length bytes) bytes (omega arith))) file

-- a file has no line that stops it
pub never_stops : (is_good : ℕ → Type 0) (bytes : List ℕ) (at : ℕ) (head other : List ℕ) (info about : PayloadInfo) (xs ys : List Sample) → StopsAt is_good bytes at head info xs → IsFile bytes other about ys → AllByRecursion (λ s. is_good s.t) ys → ⊥
never_stops is_good bytes at head other info about xs ys stops file good =
    omega (arith, not_after is_good bytes at (length bytes) head other info about xs ys stops (whole_file bytes other about ys file) good (omega arith), some_left bytes at stops.bad.some)

pub excluded : (bytes head : List ℕ) (info : PayloadInfo) (xs : List Sample) (at : ℕ) → IsFile bytes head info xs → IsBadAt bytes at → ⊥
excluded bytes head info xs at file (inl h) = no_header_no_file bytes (length bytes) head info xs h.1 (whole_file bytes head info xs file)
excluded bytes head info xs at file (inr h) = never_stops (λ t. Unit {0}) bytes at h.head head h.info info h.samples xs (stops_at bytes at h) file (any_good xs)

-- ALWAYS AN ANSWER

-- The bytes are the lines of samples, each later than the one before, from a moment on, and then nothing or a bad line.
pub record Run (info : PayloadInfo) (n : ℕ) (bytes : List ℕ) : Type 0 where
  pub samples : List Sample
  pub rest : List ℕ
  pub lines : AreSamples info.ty info.year samples
  pub rising : RisesFrom n samples
  pub text : bytes ≡ lines_of samples ++ rest
  pub end : (rest ≡ []) ⊎ HasNoSample info (λ t. end_from n samples ≤ t) rest

stops_here : (info : PayloadInfo) (n : ℕ) (bytes : List ℕ) → ((bytes ≡ []) ⊎ HasNoSample info (λ t. n ≤ t) bytes) → Run info n bytes
stops_here info n bytes end = record { samples = []; rest = bytes; lines = tt; rising = tt; text = refl; end = end }

torn_or_end : (info : PayloadInfo) (n : ℕ) (bytes : List ℕ) → HasNoNewline bytes → (bytes ≡ []) ⊎ HasNoSample info (λ t. n ≤ t) bytes
torn_or_end info n [] none = inl refl
torn_or_end info n (b ∷ bytes) none = inr (torn_sample info (λ t. n ≤ t) (b ∷ bytes) (λ e. cc) none)

one_more : (info : PayloadInfo) (n t : ℕ) (bytes : List ℕ) (l : FirstLine bytes) → IsSample info.ty info.year (record { t = t; line = l.line }) → n ≤ t → Run info (t + 1) l.rest → Run info n bytes
one_more info n t bytes l sample later run = record {
  samples = record { t = t; line = l.line } ∷ run.samples;
  rest = run.rest;
  lines = (sample, run.lines);
  rising = (later, run.rising);
  text = l.split ∙ ap (λ (u : List ℕ). l.line ++ 10 ∷ u) run.text ∙ sym (append_assoc l.line (10 ∷ lines_of run.samples) run.rest);
  end = run.end;
}

too_early : (info : PayloadInfo) (n u : ℕ) (line : List ℕ) → u < n → IsSampleLine info.ty info.year line u → (t : ℕ) → IsSampleLine info.ty info.year line t → n ≤ t → ⊥
too_early info n u line early is t h later = omega (arith, one_moment info.ty info.year line u t is h)

-- Bytes run so, where they are m at most.
run_within : (m : ℕ) (info : PayloadInfo) (n : ℕ) (bytes : List ℕ) → length bytes ≤ m → Run info n bytes
run_within zero info n bytes within = stops_here info n bytes (inl (nil_from_length bytes (omega arith)))
run_within (suc m) info n bytes within =
    elim (first_line bytes) [
      | inr none ↦ stops_here info n bytes (torn_or_end info n bytes none)
      | inl l ↦ elim (sample_or_not info.ty info.year l.line l.whole) [
        | inr none ↦ stops_here info n bytes (inr (bad_sample info (λ t. n ≤ t) bytes l.line l.rest l.split l.whole (λ t h later. none t h)))
        | inl is ↦ elim (cases_lt is.0 n) [
          | inl early ↦ stops_here info n bytes (inr (bad_sample info (λ t. n ≤ t) bytes l.line l.rest l.split l.whole (too_early info n is.0 l.line early is.1)))
          | inr later ↦ one_more info n is.0 bytes l (record { whole = l.whole; meant = is.1 }) later (run_within m info (is.0 + 1) l.rest (omega (arith, ap length l.split, length-append l.line (10 ∷ l.rest))))
        ]
      ]
    ]

-- a file, or a bad line's place
abbrev pub IsKnown : List ℕ → Type 0
IsKnown bytes = ((head : List ℕ) × (info : PayloadInfo) × (xs : List Sample) × IsFile bytes head info xs) ⊎ ((at : ℕ) × IsBadAt bytes at)

known_by : (info : PayloadInfo) (bytes : List ℕ) (l : FirstLine bytes) → IsHeaderLine l.line info → Run info 0 l.rest → IsKnown bytes
known_by info bytes l header run =
    let front = l.line ++ 10 ∷ lines_of run.samples in
    let file : IsFile front l.line info run.samples = record { whole = l.whole; header = header; lines = run.lines; rising = run.rising; text = refl } in
    let is : bytes ≡ front ++ run.rest = l.split ∙ ap (λ (u : List ℕ). l.line ++ 10 ∷ u) run.text ∙ sym (append_assoc l.line (10 ∷ lines_of run.samples) run.rest) in
    let P : List ℕ → Type 0 = λ b. IsFile b l.line info run.samples in
    let Q : List ℕ → Type 0 = λ b. HasNoSample info (λ t. end_of run.samples ≤ t) b in
    elim run.end [
      | inl none ↦ inl (l.line, info, run.samples, subst P (sym (is ∙ ap (λ (u : List ℕ). front ++ u) none ∙ append-nil front)) file)
      | inr bad ↦ inr (
        length front,
        inr (record {
          head = l.line;
          info = info;
          samples = run.samples;
          front = subst P (sym (ap (λ (u : List ℕ). take (length front) u) is ∙ take_at front run.rest (length front) refl)) file;
          bad = subst Q (sym (ap (λ (u : List ℕ). drop (length front) u) is ∙ drop_at front run.rest (length front) refl)) bad;
        }),
      )
    ]

pub every_file : (bytes : List ℕ) → IsKnown bytes
every_file bytes =
    elim (first_line bytes) [
      | inr none ↦ inr (0, inl (refl, torn_head bytes none))
      | inl l ↦ elim (header_or_not l.line l.whole) [
        | inr none ↦ inr (0, inl (refl, bad_head bytes l.line l.rest l.split l.whole none))
        | inl is ↦ known_by is.0 bytes l is.1 (run_within (length l.rest) is.0 0 l.rest (omega arith))
      ]
    ]
