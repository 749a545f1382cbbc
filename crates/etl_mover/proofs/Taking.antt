-- The lines that a step takes of a part's file: its header, the bytes that it loads, and the lines one after another.
use Rattle.std.proofs.Common.{◌≡◌, ℕ, ◌+◌, List, [], ◌∷◌, ◌++◌, length, take, sym, ◌∙◌, ap, arith, suc, ◌<◌, get_or, subst, ◌-◌, refl, ◌⊎◌, inl, inr, ◌≤◌, ℤ, append_assoc, drop, true, false, ◌≢◌, Option, Some, slice_get}
use Rattle.std.proofs.lemmas.List.{length-append, length-take, take_all, take-take, get_or-take, get_or_default, take_at, take-append-le, take-append-drop}
use Rattle.line_escape.specs.Unescaping.{HasNoNewline}
use Rattle.series_model.specs.declared.sample.Sample.{Sample}
use Rattle.pb_lines.specs.File.{lines_of, AreSamples, IsSample}
use Rattle.pb_lines.proofs.FileLines.{one_line, no_line, all-append, lines_of-append}
use Rattle.store_manifest.specs.declared.entry.Entry.{Entry}
use Rattle.std.specs.Prelude.{Contains, ◌&&◌, nat_lt}
use Rattle.std.proofs.lemmas.Bool.{cases_lt, cond-true, cond-false}
use Rattle.etl_mover.specs.Reading.{IsChunk, cut_to_line}
use Rattle.pb_wire.specs.declared.payload.PayloadType.{PayloadType}
use Rattle.etl_mover.specs.Lines.{TakesLines, IsSampleStart, with_lines, with_line}
use Rattle.std.proofs.lemmas.Bool.Decides.{nat_tests}
use Rattle.std.proofs.Math.Seq.{take-append-add, take-suc, get_or-append_seam, drop-append_seam, drop-cons}
use Rattle.pb_messages.specs.declared.info.PayloadInfo.{PayloadInfo}
use Rattle.pb_lines.specs.Header.{IsHeaderLine}
use Rattle.etl_mover.specs.Step.{AreFew, Takes}
use Rattle.pb_lines.specs.Sample.{IsSampleLine}
use Rattle.etl_mover.specs.Copying.{last_of}

-- The lines that are taken of bytes of a file are the next ones of its samples.

one_more : (k : ℕ) → 1 + k ≡ suc k
one_more k = omega arith

pub cut : (line more : List ℕ) (n : ℕ) → length line < n → take n (line ++ 10 ∷ more) ≡ line ++ 10 ∷ take (n - (length line + 1)) more
cut line more n lt =
    let at : n ≡ length line + (1 + (n - (length line + 1))) = omega arith in
    ap (λ (i : ℕ). take i (line ++ 10 ∷ more)) at ∙ (take-append-add line (10 ∷ more) (1 + (n - (length line + 1))) ∙ ap (λ (i : ℕ). line ++ take i (10 ∷ more)) (one_more (n - (length line + 1))))

pub no_ten : (line : List ℕ) (n : ℕ) → HasNoNewline line → Contains (take n line) 10 → ⊥
no_ten line n whole (k, low, is) = let long = length-take n line in whole k 10 (omega (arith, low, long)) (sym (get_or-take n line k 10 (omega (arith, low, long))) ∙ is)

-- WHAT IS READ

-- bytes from the front of others that aren't cut
uncut : (all : List ℕ) (want rest most end : ℕ) (bytes cut : List ℕ) → want ≤ rest → bytes ≡ take want all → (end < length bytes → get_or bytes end 0 ≡ 10) → (end < length bytes) ⊎ (want ≡ rest) → (length bytes ≤ most) ⊎ HasNoNewline bytes → cut ≡ bytes → IsChunk all rest most cut
uncut all want rest most end bytes cut within are ten enough size same = record {
  count = want;
  within = within;
  are = same ∙ are;
  enough = elim enough [
    | inl lt ↦ inl (subst (λ (l : List ℕ). Contains l 10) (sym same) (end, lt, get_or_default bytes end 10 0 lt ∙ ten lt))
    | inr last ↦ inr last
  ];
  few = elim size [
    | inl few ↦ inl (let long = ap length same in omega (arith, long, few))
    | inr none ↦ inr (inr (subst HasNoNewline (sym same) none))
  ];
}

-- and those that are cut behind their first newline
cut_behind : (all : List ℕ) (want rest most end : ℕ) (bytes cut : List ℕ) → want ≤ rest → bytes ≡ take want all → HasNoNewline (take end bytes) → end < length bytes → get_or bytes end 0 ≡ 10 → cut ≡ take (end + 1) bytes → IsChunk all rest most cut
cut_behind all want rest most end bytes cut within are whole lt ten same =
    let long = ap length are in
    let line : cut ≡ take end bytes ++ 10 ∷ [] = same ∙ (ap (λ (n : ℕ). take n bytes) (more end) ∙ (take-suc bytes end 0 lt ∙ ap (λ (x : ℕ). take end bytes ++ x ∷ []) ten)) in
    let at : length (take end bytes) ≡ end = omega (arith, length-take end bytes, lt) in
    record {
      count = end + 1;
      within = omega (arith, long, lt, length-take want all, within);
      are = same ∙ (ap (take (end + 1)) are ∙ take-take (end + 1) want all (omega (arith, long, lt, length-take want all)));
      enough = inl (subst (λ (l : List ℕ). Contains l 10) (sym line) (length (take end bytes), omega (arith, length-append (take end bytes) (10 ∷ [])), get_or-append_seam (take end bytes) 10 [] 10));
      few = inr (inl (take end bytes, whole, line));
    }
  where
    more : (n : ℕ) → n + 1 ≡ suc n
    more n = omega arith

-- bytes from the front of others, cut to one line where they are more than one step appends, are a chunk
pub is_chunk : (all : List ℕ) (want rest most end : ℕ) (bytes cut : List ℕ) → want ≤ rest → bytes ≡ take want all → HasNoNewline (take end bytes) → (end < length bytes → get_or bytes end 0 ≡ 10) → (end < length bytes) ⊎ (want ≡ rest) → cut ≡ cut_to_line most end bytes → IsChunk all rest most cut
is_chunk all want rest most end bytes cut within are whole ten enough is = go (cases_lt most (length bytes)) (cases_lt end (length bytes))
  where
    go : (most < length bytes) ⊎ (length bytes ≤ most) → (end < length bytes) ⊎ (length bytes ≤ end) → IsChunk all rest most cut
    go (inl many) (inl lt) =
        let yes : (nat_lt most (length bytes) && nat_lt end (length bytes)) ≡ true = grind (arith, nat_tests) in
        cut_behind all want rest most end bytes cut within are whole lt (ten lt) (is ∙ cond-true (nat_lt most (length bytes) && nat_lt end (length bytes)) (take (end + 1) bytes) bytes yes)
    go (inl many) (inr ge) =
        let no : (nat_lt most (length bytes) && nat_lt end (length bytes)) ≡ false = grind (arith, nat_tests) in
        uncut all want rest most end bytes cut within are ten enough (inr (subst HasNoNewline (take_all end bytes ge) whole)) (is ∙ cond-false (nat_lt most (length bytes) && nat_lt end (length bytes)) (take (end + 1) bytes) bytes no)
    go (inr few) any =
        let no : (nat_lt most (length bytes) && nat_lt end (length bytes)) ≡ false = grind (arith, nat_tests) in
        uncut all want rest most end bytes cut within are ten enough (inl few) (is ∙ cond-false (nat_lt most (length bytes) && nat_lt end (length bytes)) (take (end + 1) bytes) bytes no)

-- What one step takes of a part's file.

-- samples of which the first is given
record HasFirst (ty : PayloadType) (year : ℤ) (chunk : List ℕ) (samples : List Sample) : Type 0 where
  pub sample : Sample
  pub more : List Sample
  pub behind : List ℕ
  pub are : samples ≡ sample ∷ more
  pub whole : HasNoNewline sample.line
  pub begin : chunk ≡ sample.line ++ 10 ∷ behind

first_or_none : (ty : PayloadType) (year : ℤ) (chunk : List ℕ) (entry new : Entry) (n : ℕ) (takes : TakesLines ty year chunk entry n new) → (takes.samples ≡ []) ⊎ HasFirst ty year chunk takes.samples
first_or_none ty year chunk entry new n takes = go takes.samples refl
  where
    go : (xs : List Sample) → takes.samples ≡ xs → (takes.samples ≡ []) ⊎ HasFirst ty year chunk takes.samples
    go [] is = inl is
    go (x ∷ xs) is = inr (record {
      sample = x;
      more = xs;
      behind = lines_of xs ++ takes.rest;
      are = is;
      whole = (subst (λ (l : List Sample). AreSamples ty year l) is takes.are).0.whole;
      begin = takes.begin ∙ (ap (λ (l : List Sample). lines_of l ++ takes.rest) is ∙ append_assoc x.line (10 ∷ lines_of xs) takes.rest);
    })

-- what is taken is few where the chunk is
pub few_lines : (all : List ℕ) (rest most : ℕ) (chunk lines : List ℕ) (ty : PayloadType) (year : ℤ) (entry new : Entry) → IsChunk all rest most chunk → TakesLines ty year chunk entry (length lines) new → lines ≡ take (length lines) chunk → AreFew most lines
few_lines all rest most chunk lines ty year entry new is takes same = elim (first_or_none ty year chunk entry new (length lines) takes) [
  | inl none ↦ let long = ap (λ (l : List Sample). length (lines_of l)) none in inl (omega (arith, long, takes.long))
  | inr first ↦ elim is.few [
    | inl few ↦ let long = ap length same in inl (omega (arith, long, few, length-take (length lines) chunk))
    | inr (inl (line, whole, one)) ↦
        let end = one_line first.sample.line line first.behind [] first.whole whole (sym first.begin ∙ one) in
        let size = ap length end.0 in
        let long = ap (λ (l : List Sample). length (lines_of l)) first.are in
        let all_of = ap length one in
        let whole_chunk : length chunk ≤ length lines = omega (arith, takes.long, long, size, all_of, length-append first.sample.line (10 ∷ lines_of first.more), length-append line (10 ∷ [])) in
        inr (line, whole, same ∙ (take_all (length lines) chunk whole_chunk ∙ one))
    | inr (inr torn) ↦ absurd (no_line chunk first.sample.line first.behind torn first.begin)
  ]
]

-- a sample at the front of what is left is taken
pub takes_some : (all : List ℕ) (rest most : ℕ) (chunk : List ℕ) (ty : PayloadType) (year : ℤ) (entry new : Entry) (n : ℕ) → IsChunk all rest most chunk → (takes : TakesLines ty year chunk entry n new) → IsSampleStart ty year (take rest all) → takes.samples ≢ []
takes_some all rest most chunk ty year entry new n is takes start none =
    let s : Sample = start.sample in
    let bytes : takes.rest ≡ take is.count (s.line ++ 10 ∷ start.rest) =
    ap (λ (xs : List Sample). lines_of xs ++ takes.rest) (sym none) ∙ (sym takes.begin ∙ (is.are ∙ (sym (take-take is.count rest all is.within) ∙ ap (take is.count) start.are))) in
    elim (cases_lt (length s.line) is.count) [
      | inl enough ↦ takes.all (record { sample = s; rest = take (is.count - (length s.line + 1)) start.rest; are = bytes ∙ cut s.line start.rest is.count enough; is = start.is })
      | inr short ↦ elim is.enough [
        | inl newline ↦
            let part : chunk ≡ take is.count s.line = is.are ∙ (sym (take-take is.count rest all is.within) ∙ (ap (take is.count) start.are ∙ take-append-le is.count s.line (10 ∷ start.rest) short)) in
            no_ten s.line is.count start.is.whole (subst (λ (l : List ℕ). Contains l 10) part newline)
        | inr whole ↦ let long = ap length start.are in omega (arith, long, whole, length-append s.line (10 ∷ start.rest), length-take rest all, short)
      ]
    ]

no_fewer : (n : ℕ) (chunk lines : List ℕ) → lines ≡ take n chunk → n ≡ length lines → n ≤ length chunk
no_fewer n chunk lines is long = let same = ap length is in omega (arith, same, long, length-take n chunk)

-- a chunk's lines that were taken are a step's
pub chunk_takes : (head all : List ℕ) (rest most : ℕ) (chunk lines : List ℕ) (old new : Entry) → IsChunk all rest most chunk → lines ≡ take (length lines) chunk → (lines ≡ []) ⊎ ((ty : PayloadType) × (year : ℤ) × TakesLines ty year chunk old (length lines) new)
    → ((line : List ℕ) (info : PayloadInfo) → head ≡ line ++ 10 ∷ [] → HasNoNewline line → IsHeaderLine line info → TakesLines info.ty info.year chunk old (length lines) new) → new.len ≡ old.len + length lines → Takes head (take rest all) most lines old new
chunk_takes head all rest most chunk lines old new is front some takes longer =
    let low : length lines ≤ length chunk = no_fewer (length lines) chunk lines front refl in
    let size = ap length is.are in
    let counted : length lines ≤ is.count = omega (arith, low, size, length-take is.count all) in
    record {
      front = front ∙ (ap (take (length lines)) is.are ∙ (take-take (length lines) is.count all counted ∙ sym (take-take (length lines) rest all (omega (arith, counted, is.within)))));
      few = elim some [
        | inl none ↦ let long = ap length none in inl (omega (arith, long))
        | inr (ty, year, of_type) ↦ few_lines all rest most chunk lines ty year old new is of_type front
      ];
      longer = longer;
      samples = λ line info are whole header.
          let of_info = takes line info are whole header in
          record {
            samples = of_info.samples;
            are = of_info.are;
            text = front ∙ (ap (take (length lines)) of_info.begin ∙ take_at (lines_of of_info.samples) of_info.rest (length lines) (sym of_info.long));
            grows = of_info.grows;
            some = λ start. takes_some all rest most chunk info.ty info.year old new (length lines) is of_info start;
          };
    }

-- where nothing is left nothing is taken
pub takes_none : (head : List ℕ) (most : ℕ) (e : Entry) → Takes head [] most [] e e
takes_none head most e = record {
  front = refl;
  few = inl (omega arith);
  longer = omega arith;
  samples = λ line info are whole header. record {
    samples = [];
    are = tt;
    text = refl;
    grows = refl;
    some = λ start. let long = ap length start.are in omega (arith, long, length-append start.sample.line (10 ∷ start.rest));
  };
}

-- Lines are taken one after another.

-- so far so many bytes are the lines of samples
pub record IsTaking (ty : PayloadType) (year : ℤ) (bytes : List ℕ) (entry : Entry) (len : ℕ) (new : Entry) : Type 0 where
  pub samples : List Sample
  pub rest : List ℕ
  pub are : AreSamples ty year samples
  pub begin : bytes ≡ lines_of samples ++ rest
  pub long : len ≡ length (lines_of samples)
  pub grows : new ≡ with_lines samples entry

with_lines-push : (xs : List Sample) (s : Sample) (e : Entry) → with_lines (xs ++ s ∷ []) e ≡ with_line (length s.line + 1) s.t (with_lines xs e)
with_lines-push [] s e = refl
with_lines-push (x ∷ xs) s e = with_lines-push xs s (with_line (length x.line + 1) x.t e)

-- the bytes behind those that were taken
rest_is : (ty : PayloadType) (year : ℤ) (bytes : List ℕ) (entry : Entry) (len : ℕ) (new : Entry) (is : IsTaking ty year bytes entry len new) → drop len bytes ≡ is.rest
rest_is ty year bytes entry len new is = ap (λ (l : List ℕ). drop len l) is.begin ∙ (ap (λ (n : ℕ). drop n (lines_of is.samples ++ is.rest)) is.long ∙ drop-append_seam (lines_of is.samples) is.rest)

-- a line and its newline stand at the front
pub line_at : (rest : List ℕ) (end : ℕ) → end < length rest → get_or rest end 0 ≡ 10 → rest ≡ take end rest ++ 10 ∷ drop (suc end) rest
line_at rest end within ten = sym (take-append-drop end rest) ∙ (ap (λ (l : List ℕ). take end rest ++ l) (drop-cons rest end 0 within) ∙ ap (λ (x : ℕ). take end rest ++ x ∷ drop (suc end) rest) ten)

pub takes_more : (ty : PayloadType) (year : ℤ) (bytes rest : List ℕ) (entry : Entry) (len end t : ℕ) (new more : Entry) → IsTaking ty year bytes entry len new → rest ≡ drop len bytes → end < length rest → get_or rest end 0 ≡ 10 → HasNoNewline (take end rest) → IsSampleLine ty year (take end rest) t → more ≡ with_line (end + 1) t new
    → IsTaking ty year bytes entry (len + end + 1) more
takes_more ty year bytes rest entry len end t new more is rest_of within ten whole meant grown =
    let s : Sample = record { t = t; line = take end rest } in
    let long : length (take end rest) ≡ end = omega (arith, length-take end rest, within) in
    let here : is.rest ≡ take end rest ++ 10 ∷ drop (suc end) rest = sym (rest_is ty year bytes entry len new is) ∙ (sym rest_of ∙ line_at rest end within ten) in
    let lines : lines_of (is.samples ++ s ∷ []) ≡ lines_of is.samples ++ (take end rest ++ 10 ∷ []) = lines_of-append is.samples (s ∷ []) in
    record {
      samples = is.samples ++ s ∷ [];
      rest = drop (suc end) rest;
      are = all-append (IsSample ty year) is.samples (s ∷ []) is.are (record { whole = whole; meant = meant }, tt);
      begin =
          is.begin
          ∙ (ap (λ (l : List ℕ). lines_of is.samples ++ l) here
          ∙ (ap (λ (l : List ℕ). lines_of is.samples ++ l) (sym (append_assoc (take end rest) (10 ∷ []) (drop (suc end) rest)))
          ∙ (sym (append_assoc (lines_of is.samples) (take end rest ++ 10 ∷ []) (drop (suc end) rest)) ∙ ap (λ (l : List ℕ). l ++ drop (suc end) rest) (sym lines))));
      long = let all = ap length lines in omega (arith, all, is.long, long, length-append (lines_of is.samples) (take end rest ++ 10 ∷ []), length-append (take end rest) (10 ∷ []));
      grows = grown ∙ (ap (λ (e : Entry). with_line (end + 1) t e) is.grows ∙ (ap (λ (n : ℕ). with_line (n + 1) t (with_lines is.samples entry)) (sym long) ∙ sym (with_lines-push is.samples s entry)));
    }

-- no line of a sample stands behind them
pub takes_all : (ty : PayloadType) (year : ℤ) (bytes : List ℕ) (entry : Entry) (len : ℕ) (new : Entry) → IsTaking ty year bytes entry len new → (IsSampleStart ty year (drop len bytes) → ⊥) → TakesLines ty year bytes entry len new
takes_all ty year bytes entry len new is none = record {
  samples = is.samples;
  rest = is.rest;
  are = is.are;
  begin = is.begin;
  long = is.long;
  grows = is.grows;
  all = λ start. none (subst (IsSampleStart ty year) (sym (rest_is ty year bytes entry len new is)) start);
}

pub none_torn : (ty : PayloadType) (year : ℤ) (rest : List ℕ) (end : ℕ) → HasNoNewline (take end rest) → end ≡ length rest → IsSampleStart ty year rest → ⊥
none_torn ty year rest end whole all start = no_line rest start.sample.line start.rest (subst HasNoNewline (take_all end rest (omega arith)) whole) start.are

pub none_meant : (ty : PayloadType) (year : ℤ) (rest : List ℕ) (end : ℕ) → end < length rest → get_or rest end 0 ≡ 10 → HasNoNewline (take end rest) → ((t : ℕ) → IsSampleLine ty year (take end rest) t → ⊥) → IsSampleStart ty year rest → ⊥
none_meant ty year rest end within ten whole none start =
    let same = one_line start.sample.line (take end rest) start.rest (drop (suc end) rest) start.is.whole whole (sym start.are ∙ line_at rest end within ten) in
    none start.sample.t (subst (λ (l : List ℕ). IsSampleLine ty year l start.sample.t) same.0 start.is.meant)

-- The header of a part's file, and the lines that are taken of it.

-- a header's line ends where its newline stands
pub header_ends : (head line : List ℕ) (end : ℕ) → head ≡ line ++ 10 ∷ [] → HasNoNewline line → end < length head → get_or head end 0 ≡ 10 → HasNoNewline (take end head) → take end head ≡ line
header_ends head line end are whole within ten front = (one_line (take end head) line (drop (suc end) head) [] front whole (sym (line_at head end within ten) ∙ are)).0

pub keeps_part : (xs : List Sample) (e : Entry) → ((with_lines xs e).part ≡ e.part) × ((with_lines xs e).series ≡ e.series)
keeps_part [] e = (refl, refl)
keeps_part (x ∷ xs) e = keeps_part xs (with_line (length x.line + 1) x.t e)

pub lines_long : (xs : List Sample) (e : Entry) → (with_lines xs e).len ≡ e.len + length (lines_of xs)
lines_long [] e = omega arith
lines_long (x ∷ xs) e = let rest = lines_long xs (with_line (length x.line + 1) x.t e) in omega (arith, rest, length-append x.line (10 ∷ lines_of xs))

pub last_is : (xs : List Entry) (o : Option Entry) (e : Entry) → slice_get xs (length xs - 1) ≡ Some e → last_of xs o ≡ Some e
last_is [] o e is = absurd (cc (is))
last_is (x ∷ xs) o e is = go x xs (sym (at x xs) ∙ is)
  where
    at : (x : Entry) (xs : List Entry) → slice_get (x ∷ xs) (length (x ∷ xs) - 1) ≡ slice_get (x ∷ xs) (length xs)
    at x xs = ap (slice_get (x ∷ xs)) (less (length xs))
      where
        less : (n : ℕ) → suc n - 1 ≡ n
        less n = omega arith

    go : (x : Entry) (xs : List Entry) → slice_get (x ∷ xs) (length xs) ≡ Some e → last_of xs (Some x) ≡ Some e
    go x [] is = is
    go x (y ∷ ys) is = go y ys is
