-- The lines of a piece of a file are the next ones of its samples: they are counted, and those before a moment are skipped, one after another.
use Rattle.std.proofs.Common.{◌≡◌, inl, inr, ℕ, ℤ, suc, ◌+◌, ◌≤◌, ◌<◌, List, [], ◌∷◌, ◌++◌, length, take, drop, get_or, Bool, true, false, cond, refl, sym, ◌∙◌, ap, subst, arith, append_assoc, ◌-◌, Some, append-nil, Option}
use Rattle.std.specs.Prelude.{nat_le, IfOk, Result, Ok, Err}
use Rattle.std.proofs.Math.Seq.{drop-append_seam, drop-append-add, take-append-add, take-add, take-append_seam}
use Rattle.std.proofs.lemmas.Bool.{cases_lt}
use Rattle.std.proofs.lemmas.Bool.Decides.{nat_tests}
use Rattle.std.proofs.lemmas.List.{length-append, length-take, length-drop, drop-take, drop-drop, take-append-drop, take-take}
use Rattle.pb_wire.specs.declared.payload.PayloadType.{PayloadType}
use Rattle.line_escape.specs.Unescaping.{HasNoNewline}
use Rattle.series_model.specs.declared.sample.Sample.{Sample}
use Rattle.series_model.specs.Series.{since}
use Rattle.series_model.proofs.RisingLists.{since-append}
use Rattle.pb_lines.specs.Sample.{IsSampleLine}
use Rattle.pb_lines.specs.File.{IsSample, AreSamples, lines_of, IsFile}
use Rattle.pb_lines.proofs.FileLines.{all-append, lines_of-append, all_rest, one_run}
use Rattle.tier_store.specs.Counting.{CountsLines, HasLines}
use Rattle.etl_mover.proofs.Taking.{line_at}
use Rattle.etl_mover.specs.Lines.{IsSampleStart}
use Rattle.disk_model.specs.Files.{Name, Files, HasFile}
use Rattle.pb_messages.specs.declared.info.PayloadInfo.{PayloadInfo}
use Rattle.durable_write.proofs.Staying.{same_then}
use Rattle.std.proofs.lemmas.Option.{same_Some}
use Rattle.disk_model.specs.declared.disk.DiskErr.{DiskErr}
use Rattle.gate_journal.specs.DiskShown.{DiskShown, ReadsDisk}
use Rattle.pb_lines.specs.Header.{IsHeaderLine}
use Rattle.tier_store.specs.Finding.{AreLinesFrom, BeginsWithHeader, GoesOnWith, IsGoodUpTo, IsLaterStart, IsNoSooner, IsTold, IsUpTo, SaysFile, SkipsLines, SplitsAt, no_line}
use Rattle.tier_store.specs.declared.finding.LaterLines.{LaterLines}
use Rattle.tier_store.specs.declared.finding.LaterLines.TheVariants.{At, Damaged}

-- COUNTING LINES

-- LINE BY LINE

abbrev pub sample_at : ℕ → List ℕ → Sample
sample_at t line = record { t = t; line = line }

-- so far so many bytes are the lines of samples, of which so many aren't earlier than n
pub record IsCounting (ty : PayloadType) (year : ℤ) (bytes : List ℕ) (n len count : ℕ) : Type 0 where
  pub samples : List Sample
  pub rest : List ℕ
  pub are : AreSamples ty year samples
  pub begin : bytes ≡ lines_of samples ++ rest
  pub long : len ≡ length (lines_of samples)
  pub counted : count ≡ length (since n samples)

pub begins_counting : (ty : PayloadType) (year : ℤ) (bytes : List ℕ) (n : ℕ) → IsCounting ty year bytes n 0 0
begins_counting ty year bytes n = record { samples = []; rest = bytes; are = tt; begin = refl; long = refl; counted = refl }

-- the bytes behind those that were counted
pub rest_is : (ty : PayloadType) (year : ℤ) (bytes : List ℕ) (n len count : ℕ) (is : IsCounting ty year bytes n len count) → drop len bytes ≡ is.rest
rest_is ty year bytes n len count is = ap (λ (l : List ℕ). drop len l) is.begin ∙ (ap (λ (k : ℕ). drop k (lines_of is.samples ++ is.rest)) is.long ∙ drop-append_seam (lines_of is.samples) is.rest)

-- one sample more is counted, or not
one_more : (n : ℕ) (xs : List Sample) (s : Sample) (more : ℕ) → more ≡ length (since n (s ∷ [])) → length (since n (xs ++ s ∷ [])) ≡ length (since n xs) + more
one_more n xs s more is = ap length (since-append n xs (s ∷ [])) ∙ (length-append (since n xs) (since n (s ∷ [])) ∙ ap (λ (k : ℕ). length (since n xs) + k) (sym is))

pub counts_more : (ty : PayloadType) (year : ℤ) (bytes rest : List ℕ) (n len end t count more : ℕ) → IsCounting ty year bytes n len count → rest ≡ drop len bytes → end < length rest → get_or rest end 0 ≡ 10 → HasNoNewline (take end rest) → IsSampleLine ty year (take end rest) t
    → more ≡ length (since n (sample_at t (take end rest) ∷ [])) → IsCounting ty year bytes n (len + end + 1) (count + more)
counts_more ty year bytes rest n len end t count more is rest_of within ten whole meant one =
    let s = sample_at t (take end rest) in
    let long : length (take end rest) ≡ end = omega (arith, length-take end rest, within) in
    let here : is.rest ≡ take end rest ++ 10 ∷ drop (suc end) rest = sym (rest_is ty year bytes n len count is) ∙ (sym rest_of ∙ line_at rest end within ten) in
    let lines : lines_of (is.samples ++ s ∷ []) ≡ lines_of is.samples ++ (take end rest ++ 10 ∷ []) = lines_of-append is.samples (s ∷ []) in
    record {
      samples = is.samples ++ s ∷ [];
      rest = drop (suc end) rest;
      are = all-append (IsSample ty year) is.samples (s ∷ []) is.are (record { whole = whole; meant = meant }, tt);
      begin =
          is.begin
          ∙ (ap (λ (l : List ℕ). lines_of is.samples ++ l) here
          ∙ (ap (λ (l : List ℕ). lines_of is.samples ++ l) (sym (append_assoc (take end rest) (10 ∷ []) (drop (suc end) rest)))
          ∙ (sym (append_assoc (lines_of is.samples) (take end rest ++ 10 ∷ []) (drop (suc end) rest)) ∙ ap (λ (l : List ℕ). l ++ drop (suc end) rest) (sym lines))));
      long = let all = ap length lines in omega (arith, all, is.long, long, length-append (lines_of is.samples) (take end rest ++ 10 ∷ []), length-append (take end rest) (10 ∷ []));
      counted = ap (λ (k : ℕ). k + more) is.counted ∙ sym (one_more n is.samples s more one);
    }

-- a sample later than a moment is one, another none
pub one_later : (last t : ℕ) (line : List ℕ) (more : ℕ) → (last < t → more ≡ 1) → (t ≤ last → more ≡ 0) → more ≡ length (since (last + 1) (sample_at t line ∷ []))
one_later last t line more one none = elim (cases_lt last t) [
  | inl lt ↦ let is : nat_le (last + 1) t ≡ true = grind (arith, nat_tests) in one lt ∙ ap (λ (b : Bool). length (cond b (sample_at t line ∷ []) [])) (sym is)
  | inr le ↦ let is : nat_le (last + 1) t ≡ false = grind (arith, nat_tests) in none le ∙ ap (λ (b : Bool). length (cond b (sample_at t line ∷ []) [])) (sym is)
]

-- no line of a sample stands behind them
pub counts_all : (ty : PayloadType) (year : ℤ) (bytes : List ℕ) (n len count : ℕ) → IsCounting ty year bytes n len count → (IsSampleStart ty year (drop len bytes) → ⊥) → CountsLines ty year bytes n len count
counts_all ty year bytes n len count is none = record {
  samples = is.samples;
  rest = is.rest;
  are = is.are;
  begin = is.begin;
  long = is.long;
  counted = is.counted;
  all = λ start. none (subst (IsSampleStart ty year) (sym (rest_is ty year bytes n len count is)) start);
}

-- since nothing does, since no newline does, or since the line is no sample's
pub none_at_end : (ty : PayloadType) (year : ℤ) (bytes : List ℕ) (len : ℕ) → length bytes ≤ len → IsSampleStart ty year (drop len bytes) → ⊥
none_at_end ty year bytes len past start = let long = ap length start.are in omega (arith, long, length-drop len bytes, length-append start.sample.line (10 ∷ start.rest), past)

-- PIECES OF A FILE

-- The lines of the first of the samples were counted, and those of the others stand from here to the end.
pub record IsBetween (files : Files) (name : Name) (from at end : ℕ) (ty : PayloadType) (year : ℤ) (n : ℕ) (samples : List Sample) (count : ℕ) : Type 0 where
  pub done : List Sample
  pub left : List Sample
  pub split : samples ≡ done ++ left
  pub here : HasLines files name at end ty year left
  pub counted : count ≡ length (since n done)
  pub place : at ≡ from + length (lines_of done)

no_lines : (xs : List Sample) (u : List ℕ) → lines_of xs ++ u ≡ [] → xs ≡ []
no_lines [] u is = refl
no_lines (x ∷ xs) u is = absurd (omega (arith, simp (length-append) at (ap length is)))

pub no_length : (xs : List Sample) → length (lines_of xs) ≡ 0 → xs ≡ []
no_length [] is = refl
no_length (x ∷ xs) is = absurd (omega (arith, is, length-append x.line (10 ∷ lines_of xs)))

-- what is counted of a piece are the first of the samples
pub record IsFront (ys samples : List Sample) : Type 0 where
  pub more : List Sample
  pub are : ys ≡ samples ++ more

pub front_of : (ty : PayloadType) (year : ℤ) (ys zs : List Sample) (rest behind : List ℕ) → AreSamples ty year ys → AreSamples ty year zs → lines_of zs ++ (rest ++ behind) ≡ lines_of ys → IsFront ys zs
front_of ty year ys zs rest behind are are₂ is =
    elim (one_run ty year zs ys (rest ++ behind) [] are₂ are (is ∙ sym (append-nil (lines_of ys)))) [
      | inl on ↦ record { more = on.more; are = on.list }
      | inr on ↦
          let none : on.more ≡ [] = no_lines on.more (rest ++ behind) (sym on.left) in
          record { more = []; are = sym (append-nil ys) ∙ (ap (λ (l : List Sample). ys ++ l) (sym none) ∙ (sym on.list ∙ sym (append-nil zs))) }
    ]

-- A piece of what is left was read from here on.
abbrev pub IsPiece : Files → Name → ℕ → ℕ → List ℕ → Type 0
IsPiece files name at w bytes = (b : List ℕ) → files name ≡ Some b → bytes ≡ take w (drop at b)

pub piece_of : (files : Files) (name : Name) (at end w : ℕ) (ty : PayloadType) (year : ℤ) (left : List Sample) (bytes : List ℕ) → HasLines files name at end ty year left → w ≤ end - at → IsPiece files name at w bytes → bytes ≡ take w (lines_of left)
piece_of files name at end w ty year left bytes has within is =
    let b = has.lines.bytes in
    is b has.lines.file ∙ (sym (take-take w (end - at) (drop at b) within) ∙ ap (take w) has.lines.holds)

pub goes_on : (files : Files) (name : Name) (from at end w : ℕ) (ty : PayloadType) (year : ℤ) (n : ℕ) (samples : List Sample) (count len more : ℕ) (bytes : List ℕ) → IsBetween files name from at end ty year n samples count → w ≤ end - at → IsPiece files name at w bytes → len ≤ end - at
    → IsCounting ty year bytes n len more → IsBetween files name from (at + len) end ty year n samples (count + more)
goes_on files name from at end w ty year n samples count len more bytes is within piece low counts =
    let b = is.here.lines.bytes in
    let zs = counts.samples in
    let all : lines_of zs ++ (counts.rest ++ drop w (lines_of is.left)) ≡ lines_of is.left =
    sym (append_assoc (lines_of zs) counts.rest (drop w (lines_of is.left)))
    ∙ (ap (λ (l : List ℕ). l ++ drop w (lines_of is.left)) (sym counts.begin ∙ piece_of files name at end w ty year is.left bytes is.here within piece)
    ∙ take-append-drop w (lines_of is.left)) in
    let front = front_of ty year is.left zs counts.rest (drop w (lines_of is.left)) is.here.are counts.are all in
    let two : lines_of is.left ≡ lines_of zs ++ lines_of front.more = ap lines_of front.are ∙ lines_of-append zs front.more in
    record {
      done = is.done ++ zs;
      left = front.more;
      split = is.split ∙ (ap (λ (l : List Sample). is.done ++ l) front.are ∙ sym (append_assoc is.done zs front.more));
      here = record {
        are = all_rest (IsSample ty year) zs front.more (subst (AreSamples ty year) front.are is.here.are);
        lines = record {
          bytes = b;
          file = is.here.lines.file;
          holds =
              ap (λ (l : List ℕ). take (end - (at + len)) l) (sym (drop-drop len at b))
              ∙ (sym (drop-take len (end - (at + len)) (drop at b))
              ∙ (ap (λ (k : ℕ). drop len (take k (drop at b))) (omega (arith, low))
              ∙ (ap (drop len) (is.here.lines.holds ∙ two)
              ∙ (ap (λ (k : ℕ). drop k (lines_of zs ++ lines_of front.more)) counts.long ∙ drop-append_seam (lines_of zs) (lines_of front.more)))));
        };
      };
      counted = ap (λ (k : ℕ). k + more) is.counted ∙ (ap (λ (k : ℕ). length (since n is.done) + k) counts.counted ∙ (sym (length-append (since n is.done) (since n zs)) ∙ ap length (sym (since-append n is.done zs))));
      place = let all = ap length (lines_of-append is.done zs) in omega (arith, is.place, counts.long, all, length-append (lines_of is.done) (lines_of zs));
    }

-- lines that were counted up to the last one
pub as_counting : (ty : PayloadType) (year : ℤ) (bytes : List ℕ) (n len count : ℕ) → CountsLines ty year bytes n len count → IsCounting ty year bytes n len count
as_counting ty year bytes n len count counts = record { samples = counts.samples; rest = counts.rest; are = counts.are; begin = counts.begin; long = counts.long; counted = counts.counted }

-- nothing is left
all_counted : (files : Files) (name : Name) (from at end : ℕ) (ty : PayloadType) (year : ℤ) (n : ℕ) (samples : List Sample) (count : ℕ) (is : IsBetween files name from at end ty year n samples count) → is.left ≡ [] → count ≡ length (since n samples)
all_counted files name from at end ty year n samples count is none =
    let whole : samples ≡ is.done = is.split ∙ (ap (λ (l : List Sample). is.done ++ l) none ∙ append-nil is.done) in
    is.counted ∙ ap (λ (l : List Sample). length (since n l)) (sym whole)

pub at_end : (files : Files) (name : Name) (from at end : ℕ) (ty : PayloadType) (year : ℤ) (n : ℕ) (samples : List Sample) (count : ℕ) → IsBetween files name from at end ty year n samples count → end ≤ at → count ≡ length (since n samples)
at_end files name from at end ty year n samples count is past =
    let b = is.here.lines.bytes in
    let long = ap length is.here.lines.holds in
    all_counted files name from at end ty year n samples count is (no_length is.left (omega (arith, long, length-take (end - at) (drop at b), past)))

-- a piece of all that is left has no line
pub none_left : (files : Files) (name : Name) (from at end w : ℕ) (ty : PayloadType) (year : ℤ) (n : ℕ) (samples : List Sample) (count len more : ℕ) (bytes : List ℕ) → IsBetween files name from at end ty year n samples count → w ≡ end - at → IsPiece files name at w bytes → len ≡ 0
    → CountsLines ty year bytes n len more → count ≡ length (since n samples)
none_left files name from at end w ty year n samples count len more bytes is all piece zero counts = all_counted files name from at end ty year n samples count is (by_first is.left refl)
  where
    b : List ℕ
    b = is.here.lines.bytes

    whole : bytes ≡ lines_of is.left
    whole = piece b is.here.lines.file ∙ (ap (λ (k : ℕ). take k (drop at b)) all ∙ is.here.lines.holds)

    none : counts.samples ≡ []
    none = no_length counts.samples (sym counts.long ∙ zero)

    rest : counts.rest ≡ lines_of is.left
    rest = ap (λ (l : List Sample). lines_of l ++ counts.rest) (sym none) ∙ (sym counts.begin ∙ whole)

    by_first : (xs : List Sample) → xs ≡ is.left → is.left ≡ []
    by_first [] same = sym same
    by_first (x ∷ xs) same = absurd (counts.all (record { sample = x; rest = lines_of xs; are = rest ∙ ap lines_of (sym same); is = (subst (AreSamples ty year) (sym same) is.here.are).0 }))

-- THE WHOLE FILE

-- a read after another
pub then_reads : (old mid new : DiskShown) → ReadsDisk old mid → ReadsDisk mid new → ReadsDisk old new
then_reads old mid new one two = record { same = two.same ∙ one.same; same_opened = two.same_opened ∙ one.same_opened; any_moment = same_then old.past mid.past new.past one.any_moment two.any_moment }

-- a file's header's line, and its samples' lines behind it
pub record IsSplit (b head : List ℕ) (head_len len : ℕ) (samples : List Sample) : Type 0 where
  pub header : take head_len (drop 0 b) ≡ head ++ 10 ∷ []
  pub lines : take (len - head_len) (drop head_len b) ≡ lines_of samples

pub is_split : (b head : List ℕ) (head_len len : ℕ) (info : PayloadInfo) (samples : List Sample) → IsFile (take len b) head info samples → head_len ≡ length head + 1 → IsSplit b head head_len len samples
is_split b head head_len len info samples file at = record {
  header =
      sym (take-take head_len len b within)
      ∙ (ap (take head_len) file.text
      ∙ (ap (λ (k : ℕ). take k (head ++ 10 ∷ lines_of samples)) at ∙ (take-append-add head (10 ∷ lines_of samples) 1)));
  lines =
      sym (drop-take head_len (len - head_len) b)
      ∙ (ap (λ (k : ℕ). drop head_len (take k b)) (omega (arith, within))
      ∙ (ap (drop head_len) file.text
      ∙ (ap (λ (k : ℕ). drop k (head ++ 10 ∷ lines_of samples)) at ∙ drop-append-add head (10 ∷ lines_of samples) 1)));
}
  where
    within : head_len ≤ len
    within = let long = ap length file.text in omega (arith, long, at, length-take len b, length-append head (10 ∷ lines_of samples))

-- SKIPPING LINES

-- LINE BY LINE

-- a sample earlier than n is none that isn't
pub none_earlier : (n t : ℕ) (line : List ℕ) → t + 1 ≤ n → 0 ≡ length (since n (sample_at t line ∷ []))
none_earlier n t line low = let is : nat_le n t ≡ false = grind (arith, nat_tests) in ap (λ (b : Bool). length (cond b (sample_at t line ∷ []) [])) (sym is)

no_samples : (xs : List Sample) → 0 ≡ length xs → xs ≡ []
no_samples [] is = refl
no_samples (x ∷ xs) is = absurd (omega (arith, is))

-- none of those that were counted is late, and this is how it goes on
pub skips : (ty : PayloadType) (year : ℤ) (bytes : List ℕ) (n len : ℕ) (found : Bool) → IsCounting ty year bytes n len 0 → GoesOnWith ty year n (drop len bytes) found → SkipsLines ty year bytes n len found
skips ty year bytes n len found is next = record {
  samples = is.samples;
  rest = is.rest;
  are = is.are;
  begin = is.begin;
  long = is.long;
  earlier = no_samples (since n is.samples) is.counted;
  next = subst (λ (l : List ℕ). GoesOnWith ty year n l found) (rest_is ty year bytes n len 0 is) next;
}

-- a later line stands at the front
pub later_start : (ty : PayloadType) (year : ℤ) (n end t : ℕ) (rest : List ℕ) → end < length rest → get_or rest end 0 ≡ 10 → HasNoNewline (take end rest) → IsSampleLine ty year (take end rest) t → n ≤ t → IsLaterStart ty year n rest
later_start ty year n end t rest within ten whole meant late = record { sample = sample_at t (take end rest); rest = drop (suc end) rest; are = line_at rest end within ten; is = record { whole = whole; meant = meant }; late = late }

-- what was skipped, as counted
pub skipped_counting : (ty : PayloadType) (year : ℤ) (bytes : List ℕ) (n len : ℕ) (found : Bool) → SkipsLines ty year bytes n len found → IsCounting ty year bytes n len 0
skipped_counting ty year bytes n len found is = record { samples = is.samples; rest = is.rest; are = is.are; begin = is.begin; long = is.long; counted = sym (ap length is.earlier) }

-- PIECE BY PIECE

-- all lines were skipped
pub splits_end : (files : Files) (name : Name) (from at end : ℕ) (ty : PayloadType) (year : ℤ) (n : ℕ) (samples : List Sample) → IsBetween files name from at end ty year n samples 0 → end ≤ at → at ≤ end → SplitsAt samples n from end
splits_end files name from at end ty year n samples is past within =
    let b = is.here.lines.bytes in
    let long = ap length is.here.lines.holds in
    let none : is.left ≡ [] = no_length is.left (omega (arith, long, length-take (end - at) (drop at b), past)) in
    record {
      front = is.done;
      back = [];
      split = is.split ∙ ap (λ (l : List Sample). is.done ++ l) none;
      earlier = no_samples (since n is.done) is.counted;
      later = tt;
      place = omega (arith, is.place, past, within);
    }

-- two lists of bytes, of which the first ends with a line, joined
joined : (a line more behind : List ℕ) → (a ++ (line ++ 10 ∷ [])) ++ (more ++ behind) ≡ (a ++ (line ++ 10 ∷ more)) ++ behind
joined a line more behind =
    append_assoc a (line ++ 10 ∷ []) (more ++ behind)
    ∙ (ap (λ (l : List ℕ). a ++ l) (append_assoc line (10 ∷ []) (more ++ behind) ∙ sym (append_assoc line (10 ∷ more) behind))
    ∙ sym (append_assoc a (line ++ 10 ∷ more) behind))

-- a later line stands behind those that were skipped
pub splits_here : (files : Files) (name : Name) (from at end w : ℕ) (ty : PayloadType) (year : ℤ) (n : ℕ) (samples : List Sample) (len : ℕ) (bytes : List ℕ) → IsBetween files name from at end ty year n samples 0 → w ≤ end - at → IsPiece files name at w bytes → SkipsLines ty year bytes n len true → SplitsAt samples n from (at + len)
splits_here files name from at end w ty year n samples len bytes is within piece skips =
    let late = skips.next in
    let s = late.sample in
    let zs = skips.samples in
    let with_it = zs ++ s ∷ [] in
    let behind = drop w (lines_of is.left) in
    let whole : bytes ≡ lines_of zs ++ (s.line ++ 10 ∷ late.rest) = skips.begin ∙ ap (λ (l : List ℕ). lines_of zs ++ l) late.are in
    let all : lines_of with_it ++ (late.rest ++ behind) ≡ lines_of is.left =
    ap (λ (l : List ℕ). l ++ (late.rest ++ behind)) (lines_of-append zs (s ∷ []))
    ∙ (joined (lines_of zs) s.line late.rest behind
    ∙ (ap (λ (l : List ℕ). l ++ behind) (sym whole ∙ piece_of files name at end w ty year is.left bytes is.here within piece) ∙ take-append-drop w (lines_of is.left))) in
    let front = front_of ty year is.left with_it late.rest behind is.here.are (all-append (IsSample ty year) zs (s ∷ []) skips.are (late.is, tt)) all in
    let rest = s ∷ front.more in
    record {
      front = is.done ++ zs;
      back = rest;
      split =
          is.split
          ∙ (ap (λ (l : List Sample). is.done ++ l) (front.are ∙ append_assoc zs (s ∷ []) front.more)
          ∙ sym (append_assoc is.done zs rest));
      earlier = since-append n is.done zs ∙ (ap (λ (l : List Sample). l ++ since n zs) (no_samples (since n is.done) is.counted) ∙ skips.earlier);
      later = late.late;
      place = let lines = ap length (lines_of-append is.done zs) in omega (arith, is.place, skips.long, lines, length-append (lines_of is.done) (lines_of zs));
    }

-- a piece of all that is left has lines, where some are left
pub not_damaged : (files : Files) (name : Name) (from at end w : ℕ) (ty : PayloadType) (year : ℤ) (n : ℕ) (samples : List Sample) (len : ℕ) (bytes : List ℕ) → HasFile files name (λ b. end ≤ length b) → at < end → IsBetween files name from at end ty year n samples 0 → w ≡ end - at → IsPiece files name at w bytes → len ≡ 0
    → SkipsLines ty year bytes n len false → ⊥
not_damaged files name from at end w ty year n samples len bytes there low is all piece zero skips =
    let b = is.here.lines.bytes in
    let whole : bytes ≡ lines_of is.left = piece b is.here.lines.file ∙ (ap (λ (k : ℕ). take k (drop at b)) all ∙ is.here.lines.holds) in
    by_first is.left refl (none_at_front ∙ whole) (let long = ap length is.here.lines.holds in let size = ap length one_file in omega (arith, long, length-take (end - at) (drop at b), length-drop at b, there.holds, low, size))
  where
    one_file : there.bytes ≡ is.here.lines.bytes
    one_file = let both : ◌≡◌ {A = Option (List ℕ)} (Some there.bytes) (Some is.here.lines.bytes) = sym there.file ∙ is.here.lines.file in cc (both)

    none : skips.samples ≡ []
    none = no_length skips.samples (sym skips.long ∙ zero)

    none_at_front : skips.rest ≡ bytes
    none_at_front = ap (λ (l : List Sample). lines_of l ++ skips.rest) (sym none) ∙ sym skips.begin

    by_first : (xs : List Sample) → xs ≡ is.left → skips.rest ≡ lines_of is.left → 1 ≤ length (lines_of is.left) → ⊥
    by_first [] same rest some = let empty = ap (λ (l : List Sample). length (lines_of l)) same in omega (arith, empty, some)
    by_first (x ∷ xs) same rest some = skips.next (record { sample = x; rest = lines_of xs; are = rest ∙ ap lines_of (sym same); is = (subst (AreSamples ty year) (sym same) is.here.are).0 })

-- where it is told that a place is damaged, no line of a sample begins there
pub damaged_here : (files : Files) (name : Name) (at end w : ℕ) (ty : PayloadType) (year : ℤ) (n len : ℕ) (bytes : List ℕ) → HasFile files name (λ b. end ≤ length b) → w ≡ end - at → IsPiece files name at w bytes → len ≡ 0 → SkipsLines ty year bytes n len false → HasFile files name (λ b. IsSampleStart ty year (take (end - at) (drop at b)) → ⊥)
damaged_here files name at end w ty year n len bytes there all piece zero skips = record {
  bytes = there.bytes;
  file = there.file;
  holds = λ start. skips.next (subst (IsSampleStart ty year) (ap (λ (k : ℕ). take k (drop at there.bytes)) (sym all) ∙ (sym (piece there.bytes there.file) ∙ sym none_at_front)) start);
}
  where
    none : skips.samples ≡ []
    none = no_length skips.samples (sym skips.long ∙ zero)

    none_at_front : skips.rest ≡ bytes
    none_at_front = ap (λ (l : List Sample). lines_of l ++ skips.rest) (sym none) ∙ sym skips.begin

-- WHAT IS TOLD

-- the header's line at the front of a file
pub header_front : (b line : List ℕ) (head_len len : ℕ) (info : PayloadInfo) → BeginsWithHeader head_len (take len b) line info → take head_len (drop 0 b) ≡ line ++ 10 ∷ []
header_front b line head_len len info begins = sym (take-take head_len len b within) ∙ begins.text
  where
    within : head_len ≤ len
    within = let long = ap length begins.text in let own = begins.long in omega (arith, long, own, length-take head_len (take len b), length-take len b, length-append line (10 ∷ []))

-- LINES UP TO A PLACE

pub both_file : (files : Files) (name : Name) (P Q : List ℕ → Type 0) → HasFile files name P → HasFile files name Q → HasFile files name (λ b. P b × Q b)
both_file files name P Q one two =
    let same : ◌≡◌ {A = Option (List ℕ)} (Some two.bytes) (Some one.bytes) = sym two.file ∙ one.file in
    record { bytes = one.bytes; file = one.file; holds = (one.holds, subst Q (same_Some two.bytes one.bytes same) two.holds) }

pub lines_begun : (ty : PayloadType) (year : ℤ) (from : ℕ) (b : List ℕ) → AreLinesFrom ty year from from b
lines_begun ty year from b = record { samples = []; are = tt; text = ap (λ (k : ℕ). take k (drop from b)) none }
  where
    none : from - from ≡ 0
    none = omega arith

-- those that were skipped of a piece stand behind them
pub lines_more : (ty : PayloadType) (year : ℤ) (from at w n len : ℕ) (found : Bool) (bytes b : List ℕ) → from ≤ at → len ≤ w → bytes ≡ take w (drop at b) → SkipsLines ty year bytes n len found → AreLinesFrom ty year from at b → AreLinesFrom ty year from (at + len) b
lines_more ty year from at w n len found bytes b low within piece skips is = record {
  samples = is.samples ++ skips.samples;
  are = all-append (IsSample ty year) is.samples skips.samples is.are skips.are;
  text = ap (λ (k : ℕ). take k (drop from b)) further ∙ (take-add (at - from) len (drop from b) ∙ (ap (λ (l : List ℕ). l ++ take len (drop (at - from) (drop from b))) is.text ∙ (ap (λ (l : List ℕ). lines_of is.samples ++ l) behind ∙ sym (lines_of-append is.samples skips.samples))));
}
  where
    further : (at + len) - from ≡ (at - from) + len
    further = omega (arith, low)

    place : from + (at - from) ≡ at
    place = omega (arith, low)

    behind : take len (drop (at - from) (drop from b)) ≡ lines_of skips.samples
    behind =
        ap (take len) (drop-drop (at - from) from b ∙ ap (λ (k : ℕ). drop k b) place)
        ∙ (sym (take-take len w (drop at b) within)
        ∙ (ap (take len) (sym piece ∙ skips.begin) ∙ (ap (λ (k : ℕ). take k (lines_of skips.samples ++ skips.rest)) skips.long ∙ take-append_seam (lines_of skips.samples) skips.rest)))

-- WHAT IS TOLD OF THE FILE

good_from : (b line : List ℕ) (info : PayloadInfo) (head_len len at : ℕ) → len ≤ length b → head_len ≤ at → at ≤ len → take head_len b ≡ line ++ 10 ∷ [] → HasNoNewline line → IsHeaderLine line info → AreLinesFrom info.ty info.year head_len at b → (good : IsGoodUpTo head_len (take len b) at) × (good.info ≡ info)
good_from b line info head_len len at long low high text whole header is = (
  record {
    line = line;
    info = info;
    samples = is.samples;
    header = record {
      long = let size = ap length text in omega (arith, size, long, low, high, length-take head_len b, length-append line (10 ∷ []));
      text = take-take head_len len b (omega (arith, low, high)) ∙ text;
      whole = whole;
      header = header;
    };
    are = is.are;
    text = take-take at len b high ∙ (ap (λ (k : ℕ). take k b) place ∙ (take-add head_len (at - head_len) b ∙ (ap (λ (l : List ℕ). l ++ take (at - head_len) (drop head_len b)) text ∙ (ap (λ (l : List ℕ). (line ++ 10 ∷ []) ++ l) is.text ∙ append_assoc line (10 ∷ []) (lines_of is.samples)))));
  },
  refl,
)
  where
    place : at ≡ head_len + (at - head_len)
    place = omega (arith, low)

pub says_file : (files : Files) (name : Name) (line : List ℕ) (info : PayloadInfo) (head_len len : ℕ) (r : Result LaterLines DiskErr) → HasFile files name (λ b. (len ≤ length b) × (take head_len b ≡ line ++ 10 ∷ [])) → HasNoNewline line → IsHeaderLine line info
    → IfOk r (IsTold files name head_len len info.ty info.year) → IfOk r (IsNoSooner head_len) → IfOk r (IsUpTo len) → IfOk r (λ later. HasFile files name (λ b. SaysFile head_len (take len b) later))
says_file files name line info head_len len (Ok (At at)) has whole header told low high =
    let both = both_file files name _ _ has told in
    record { bytes = both.bytes; file = both.file; holds = (good_from both.bytes line info head_len len at both.holds.0.0 low high both.holds.0.1 whole header both.holds.1).0 }
says_file files name line info head_len len (Ok (Damaged at)) has whole header told low high =
    let both = both_file files name _ _ has told in
    let b = both.bytes in
    let to : at + (len - at) ≡ len = omega (arith, high) in
    let good = good_from b line info head_len len at both.holds.0.0 low high both.holds.0.1 whole header both.holds.1.0 in
    record {
      bytes = b;
      file = both.file;
      holds = no_line good.0 (λ start. both.holds.1.1 (subst (IsSampleStart info.ty info.year) (ap (λ (k : ℕ). drop at (take k b)) (sym to) ∙ drop-take at (len - at) b) (subst (λ (i : PayloadInfo). IsSampleStart i.ty i.year (drop at (take len b))) good.1 start)));
    }
says_file files name line info head_len len (Err e) has whole header told low high = tt
