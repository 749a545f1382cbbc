-- How a search narrows the range of places in which the lines part.
use Rattle.std.proofs.Common.{◌≡◌, ℕ, ◌+◌, ◌-◌, ◌*◌, ◌^◌, ◌<◌, ◌≤◌, inl, inr, zero, suc, List, [], ◌∷◌, ◌++◌, Option, None, Some, length, drop, arith, refl, sym, ap, ◌∙◌, subst, append_assoc, append-nil}
use Rattle.std.proofs.lemmas.List.{length-append, drop-drop}
use Rattle.std.proofs.Math.Nat.{pow-suc}
use Rattle.std.proofs.lemmas.Bool.Decides.{nat_tests}
use Rattle.std.specs.List.{AllByRecursion}
use Rattle.line_escape.specs.Unescaping.{HasNoNewline}
use Rattle.series_model.specs.declared.sample.Sample.{Sample}
use Rattle.series_model.specs.Series.{IsRising, RisesFrom, before}
use Rattle.series_model.proofs.RisingLists.{RisesFrom-front, RisesFrom-rest}
use Rattle.series_model.proofs.AnswerLemmas.{before-append, before_none}
use Rattle.pb_messages.specs.declared.info.PayloadInfo.{PayloadInfo}
use Rattle.pb_lines.specs.Sample.{IsSampleLine}
use Rattle.pb_lines.proofs.Unique.{one_moment}
use Rattle.pb_file.specs.declared.search.FoundLine.{FoundLine}
use Rattle.pb_file.specs.declared.search.Parted.{Parted}
use Rattle.pb_lines.specs.File.{IsFile, AreSamples, HasNoSample, lines_of}
use Rattle.pb_file.specs.Search.{end_place, IsLastLine}
use Rattle.pb_file.specs.Parting.{BeginsFrom, IsLineAt, IsFoundIn, IsPartedAt}
use Rattle.pb_lines.proofs.FileLines.{all_rest, one_line}
use Rattle.pb_file.proofs.Placing.{size-more, size-append, end_is, end-append, drop_front, locate, some_newline, split_two}

-- The lines that begin before `low` are earlier than the moment, those from `next` on aren't, and those between begin before `high`.
pub record Narrowed (head : List ℕ) (samples : List Sample) (n low high next : ℕ) (last : Option ℕ) : Type 0 where
  pub earlier : List Sample
  pub between : List Sample
  pub later : List Sample
  pub all : samples ≡ earlier ++ (between ++ later)
  pub are_earlier : AllByRecursion (λ s. s.t < n) earlier
  pub are_later : RisesFrom n later
  pub low_is : low ≡ end_place head earlier
  pub next_is : next ≡ end_place head (earlier ++ between)
  pub begins : (front : List Sample) (s : Sample) (rest : List Sample) → between ≡ front ++ s ∷ rest → end_place head (earlier ++ front) < high
  pub last_is : IsLastLine head earlier last

starts_within : (head : List ℕ) (samples front rest : List Sample) (s : Sample) → samples ≡ front ++ s ∷ rest → end_place head front < end_place head samples
starts_within head samples front rest s is = omega (arith, ap (end_place head) is, end-append head front (s ∷ rest), size-more s rest)

-- nothing is known yet
pub unknown : (bytes head : List ℕ) (info : PayloadInfo) (samples : List Sample) (n low len : ℕ) → IsFile bytes head info samples → len ≡ length bytes → low ≡ length head + 1 → Narrowed head samples n low len len None
unknown bytes head info samples n low len file size first = record {
  earlier = [];
  between = samples;
  later = [];
  all = sym (append-nil samples);
  are_earlier = tt;
  are_later = tt;
  low_is = omega (arith, first, end_is head []);
  next_is = size ∙ ap length file.text;
  begins = λ front s rest is. omega (arith, size ∙ ap length file.text, starts_within head samples front rest s is);
  last_is = refl;
}

-- WHERE THE FIRST LINE BEGINS FROM THE MIDDLE ON

record Aimed (head : List ℕ) (earlier ys : List Sample) (middle at : ℕ) : Type 0 where
  front : List Sample
  rest : List Sample
  list : ys ≡ front ++ rest
  place : at ≡ end_place head (earlier ++ front)
  begins : (a : List Sample) (s : Sample) (b : List Sample) → front ≡ a ++ s ∷ b → end_place head (earlier ++ a) < middle

none_begins : (head : List ℕ) (earlier : List Sample) (middle : ℕ) (a : List Sample) (s : Sample) (b : List Sample) → [] ≡ a ++ s ∷ b → end_place head (earlier ++ a) < middle
none_begins head earlier middle [] s b is = absurd (cc)
none_begins head earlier middle (y ∷ a) s b is = absurd (cc)

aim_at_low : (head : List ℕ) (earlier ys : List Sample) (low middle at : ℕ) → low ≡ end_place head earlier → at ≡ low → Aimed head earlier ys middle at
aim_at_low head earlier ys low middle at low_is is = record {
  front = [];
  rest = ys;
  list = refl;
  place = is ∙ low_is ∙ ap (end_place head) (sym (append-nil earlier));
  begins = none_begins head earlier middle;
}

behind_low : (bytes head : List ℕ) (earlier ys : List Sample) (low k : ℕ) → bytes ≡ head ++ 10 ∷ lines_of (earlier ++ ys) → low ≡ end_place head earlier → drop (low + k) bytes ≡ drop k (lines_of ys)
behind_low bytes head earlier ys low k is low_is =
    ap (λ (m : ℕ). drop m bytes) (omega arith) ∙ sym (drop-drop k low bytes) ∙ ap (λ (u : List ℕ). drop k u) (ap (λ (m : ℕ). drop m bytes) low_is ∙ drop_front bytes head earlier ys is)

aim : (bytes head : List ℕ) (info : PayloadInfo) (earlier ys : List Sample) (low middle at : ℕ) → bytes ≡ head ++ 10 ∷ lines_of (earlier ++ ys) → AreSamples info.ty info.year ys → low ≡ end_place head earlier → middle ≤ length bytes → BeginsFrom bytes low middle at → Aimed head earlier ys middle at
aim bytes head info earlier ys low middle at is are low_is within (inl h) = aim_at_low head earlier ys low middle at low_is h.1
aim bytes head info earlier ys low middle at is are low_is within (inr (less, inl h)) =
    let k = (middle - 1) - low in
    let size : middle - 1 ≡ low + k = omega (arith, less) in
    let there = sym (behind_low bytes head earlier ys low k is low_is) ∙ ap (λ (m : ℕ). drop m bytes) (sym size) ∙ h.3 in
    let found = locate info.ty info.year ys are k h.0 h.1 h.2 there in
    record {
      front = found.front;
      rest = found.rest;
      list = found.list;
      place = omega (arith, h.4, size, found.place, low_is, end-append head earlier found.front);
      begins = λ a s b first. omega (arith, found.begins a s b first, size, less, low_is, end-append head earlier a);
    }
aim bytes head info earlier ys low middle at is are low_is within (inr (less, inr h)) =
    let k = (middle - 1) - low in
    let size : middle - 1 ≡ low + k = omega (arith, less) in
    let P : List ℕ → Type 0 = HasNoNewline in
    let there = ap (λ (m : ℕ). drop m bytes) size ∙ behind_low bytes head earlier ys low k is low_is in
    let whole = ap length is ∙ length-append head (10 ∷ lines_of (earlier ++ ys)) in
    absurd (some_newline ys k (omega (arith, within, less, size, whole, low_is, end_is head earlier, size-append earlier ys)) (subst P there h.0))

-- NO LINE BEGINS BETWEEN THE MIDDLE AND WHAT IS KNOWN

-- the lines from the front of the list that begin before `middle`
reach_next : (head : List ℕ) (earlier between later : List Sample) (middle next at : ℕ) → (a : Aimed head earlier (between ++ later) middle at) → next ≡ end_place head (earlier ++ between) → next ≤ at → (front : List Sample) (s : Sample) (rest : List Sample) → between ≡ front ++ s ∷ rest → end_place head (earlier ++ front) < middle
reach_next head earlier between later middle next at a next_is past front s rest is =
    elim (split_two between later a.front a.rest a.list) [
      | inl g ↦ a.begins front s (rest ++ g.0) (g.1 ∙ ap (λ (l : List Sample). l ++ g.0) is ∙ append_assoc front (s ∷ rest) g.0)
      | inr g ↦ absurd (omega (arith, past, next_is, a.place, end-append head earlier between, end-append head earlier a.front, ap (λ (l : List Sample). length (lines_of l)) g.2, size-append a.front (g.0 ∷ g.1), size-more g.0 g.1))
    ]

pub none_found : (bytes head : List ℕ) (info : PayloadInfo) (samples : List Sample) (n low high middle next : ℕ) (last : Option ℕ) → IsFile bytes head info samples → middle ≤ length bytes → Narrowed head samples n low high next last → IsFoundIn info bytes low middle next None → Narrowed head samples n low middle next last
none_found bytes head info samples n low high middle next last file within h none =
    let T : List Sample → Type 0 = λ l. bytes ≡ head ++ 10 ∷ lines_of l in
    let A : List Sample → Type 0 = λ l. AreSamples info.ty info.year l in
    let are = all_rest _ h.earlier (h.between ++ h.later) (subst A h.all file.lines) in
    let a = aim bytes head info h.earlier (h.between ++ h.later) low middle none.0 (subst T h.all file.text) are h.low_is within none.1 in
    record {
      earlier = h.earlier;
      between = h.between;
      later = h.later;
      all = h.all;
      are_earlier = h.are_earlier;
      are_later = h.are_later;
      low_is = h.low_is;
      next_is = h.next_is;
      begins = reach_next head h.earlier h.between h.later middle next none.0 a h.next_is none.2;
      last_is = h.last_is;
    }

-- A LINE BEGINS THERE

-- the line that was read is one of those between
pub record Met (head : List ℕ) (earlier between : List Sample) (middle : ℕ) (f : FoundLine) : Type 0 where
  pub front : List Sample
  pub sample : Sample
  pub rest : List Sample
  pub list : between ≡ front ++ sample ∷ rest
  pub moment : f.t ≡ sample.t
  pub place : f.at ≡ end_place head (earlier ++ front)
  pub end : f.end ≡ end_place head (earlier ++ (front ++ sample ∷ []))
  pub begins : (a : List Sample) (s : Sample) (b : List Sample) → front ≡ a ++ s ∷ b → end_place head (earlier ++ a) < middle

same_line : (bytes head : List ℕ) (info : PayloadInfo) (earlier front more : List Sample) (s : Sample) (f : FoundLine) → bytes ≡ head ++ 10 ∷ lines_of (earlier ++ (front ++ s ∷ more)) → AreSamples info.ty info.year (front ++ s ∷ more) → f.at ≡ end_place head (earlier ++ front) → IsLineAt info bytes f
    → (f.t ≡ s.t) × (f.end ≡ f.at + length s.line + 1)
same_line bytes head info earlier front more s f is are place line =
    let there : drop f.at bytes ≡ lines_of (s ∷ more) = ap (λ (m : ℕ). drop m bytes) place ∙ drop_front bytes head (earlier ++ front) (s ∷ more) (is ∙ ap (λ (l : List Sample). head ++ 10 ∷ lines_of l) (sym (append_assoc earlier front (s ∷ more)))) in
    let mine = all_rest _ front (s ∷ more) are in
    let lines = one_line line.sample.line s.line line.rest (lines_of more) line.is.whole mine.0.whole (sym line.text ∙ there) in
    let P : List ℕ → Type 0 = λ l. IsSampleLine info.ty info.year l line.sample.t in
    (line.moment ∙ one_moment info.ty info.year s.line line.sample.t s.t (subst P lines.0 line.is.meant) mine.0.meant, omega (arith, line.end, ap length lines.0))

meet : (bytes head : List ℕ) (info : PayloadInfo) (earlier between later : List Sample) (middle next : ℕ) (f : FoundLine) → bytes ≡ head ++ 10 ∷ lines_of (earlier ++ (between ++ later)) → AreSamples info.ty info.year (between ++ later) → (a : Aimed head earlier (between ++ later) middle f.at)
    → next ≡ end_place head (earlier ++ between) → f.at < next → IsLineAt info bytes f → Met head earlier between middle f
meet bytes head info earlier between later middle next f is are a next_is less line =
    elim (split_two between later a.front a.rest a.list) [
      | inl g ↦ absurd (omega (arith, less, next_is, a.place, end-append head earlier between, end-append head earlier a.front, ap (λ (l : List Sample). length (lines_of l)) g.1, size-append between g.0))
      | inr g ↦
          (let ys : between ++ later ≡ a.front ++ g.0 ∷ (g.1 ++ later) = a.list ∙ ap (λ (l : List Sample). a.front ++ l) g.3 in
          let T : List Sample → Type 0 = λ l. bytes ≡ head ++ 10 ∷ lines_of (earlier ++ l) in
          let A : List Sample → Type 0 = λ l. AreSamples info.ty info.year l in
          let same = same_line bytes head info earlier a.front (g.1 ++ later) g.0 f (subst T ys is) (subst A ys are) a.place line in
          record {
            front = a.front;
            sample = g.0;
            rest = g.1;
            list = g.2;
            moment = same.0;
            place = a.place;
            end = omega (arith, same.1, a.place, end-append head earlier a.front, end-append head earlier (a.front ++ g.0 ∷ []), size-append a.front (g.0 ∷ []), size-more g.0 []);
            begins = a.begins;
          })
    ]

pub met : (bytes head : List ℕ) (info : PayloadInfo) (samples : List Sample) (n low high middle next : ℕ) (last : Option ℕ) (f : FoundLine) → IsFile bytes head info samples → middle ≤ length bytes → (h : Narrowed head samples n low high next last) → IsFoundIn info bytes low middle next (Some f) → Met head h.earlier h.between middle f
met bytes head info samples n low high middle next last f file within h found =
    let T : List Sample → Type 0 = λ l. bytes ≡ head ++ 10 ∷ lines_of l in
    let A : List Sample → Type 0 = λ l. AreSamples info.ty info.year l in
    let text = subst T h.all file.text in
    let are = all_rest _ h.earlier (h.between ++ h.later) (subst A h.all file.lines) in
    meet bytes head info h.earlier h.between h.later middle next f text are (aim bytes head info h.earlier (h.between ++ h.later) low middle f.at text are h.low_is within found.0) h.next_is found.1 found.2

below_last : (k n : ℕ) (xs : List Sample) (s : Sample) → RisesFrom k (xs ++ s ∷ []) → s.t < n → AllByRecursion (λ x. x.t < n) (xs ++ s ∷ [])
below_last k n [] s rises low = (low, tt)
below_last k n (x ∷ xs) s rises low = (first (x.t + 1) xs rises.1 (omega arith), below_last (x.t + 1) n xs s rises.1 low)
  where
    first : (m : ℕ) (ys : List Sample) → RisesFrom m (ys ++ s ∷ []) → x.t + 1 ≤ m → x.t < n
    first m [] up from = omega (arith, up.0, from, low)
    first m (y ∷ ys) up from = first (y.t + 1) ys up.1 (omega (arith, up.0, from))

-- it is earlier: so are all before it
pub found_earlier : (bytes head : List ℕ) (info : PayloadInfo) (samples : List Sample) (n low high middle next : ℕ) (last : Option ℕ) (f : FoundLine) → IsFile bytes head info samples → middle ≤ length bytes → Narrowed head samples n low high next last → IsFoundIn info bytes low middle next (Some f) → f.t < n → Narrowed head samples n f.end high next (Some f.at)
found_earlier bytes head info samples n low high middle next last f file within h found less =
    let m = met bytes head info samples n low high middle next last f file within h found in
    let front = h.earlier ++ m.front in
    let s = m.sample in
    let now = front ++ s ∷ [] in
    let joined : (more : List Sample) → h.earlier ++ (m.front ++ s ∷ more) ≡ now ++ more = λ more. sym (append_assoc h.earlier m.front (s ∷ more)) ∙ sym (append_assoc front (s ∷ []) more) in
    let all : samples ≡ now ++ (m.rest ++ h.later) = h.all ∙ ap (λ (l : List Sample). h.earlier ++ (l ++ h.later)) m.list ∙ ap (λ (l : List Sample). h.earlier ++ l) (append_assoc m.front (s ∷ m.rest) h.later) ∙ joined (m.rest ++ h.later) in
    let R : List Sample → Type 0 = λ l. IsRising l in
    record {
      earlier = now;
      between = m.rest;
      later = h.later;
      all = all;
      are_earlier = below_last 0 n front s (RisesFrom-front 0 now (m.rest ++ h.later) (subst R all file.rising)) (omega (arith, less, m.moment));
      are_later = h.are_later;
      low_is = m.end ∙ ap (end_place head) (joined [] ∙ append-nil now);
      next_is = h.next_is ∙ ap (λ (l : List Sample). end_place head (h.earlier ++ l)) m.list ∙ ap (end_place head) (joined m.rest);
      begins = λ a x b is. omega (arith, h.begins (m.front ++ s ∷ a) x b (m.list ∙ ap (λ (l : List Sample). m.front ++ s ∷ l) is ∙ sym (append_assoc m.front (s ∷ a) (x ∷ b))), ap (end_place head) (joined a));
      last_is = (front, s, refl, m.place);
    }

-- it isn't earlier: nor are those behind it
pub found_later : (bytes head : List ℕ) (info : PayloadInfo) (samples : List Sample) (n low high middle next : ℕ) (last : Option ℕ) (f : FoundLine) → IsFile bytes head info samples → middle ≤ length bytes → Narrowed head samples n low high next last → IsFoundIn info bytes low middle next (Some f) → n ≤ f.t → Narrowed head samples n low middle f.at last
found_later bytes head info samples n low high middle next last f file within h found from =
    let m = met bytes head info samples n low high middle next last f file within h found in
    let s = m.sample in
    let all : samples ≡ h.earlier ++ (m.front ++ s ∷ (m.rest ++ h.later)) = h.all ∙ ap (λ (l : List Sample). h.earlier ++ (l ++ h.later)) m.list ∙ ap (λ (l : List Sample). h.earlier ++ l) (append_assoc m.front (s ∷ m.rest) h.later) in
    let R : List Sample → Type 0 = λ l. IsRising l in
    let up = RisesFrom-rest _ m.front (s ∷ (m.rest ++ h.later)) (RisesFrom-rest 0 h.earlier (m.front ++ s ∷ (m.rest ++ h.later)) (subst R all file.rising)) in
    record {
      earlier = h.earlier;
      between = m.front;
      later = s ∷ (m.rest ++ h.later);
      all = all;
      are_earlier = h.are_earlier;
      are_later = (omega (arith, from, m.moment), up.1);
      low_is = h.low_is;
      next_is = m.place;
      begins = m.begins;
      last_is = h.last_is;
    }

-- no line of a file is refused
pub none_refused : (bytes head : List ℕ) (info : PayloadInfo) (samples : List Sample) (n low high middle next : ℕ) (last : Option ℕ) (at : ℕ) → IsFile bytes head info samples → middle ≤ length bytes → Narrowed head samples n low high next last → BeginsFrom bytes low middle at → HasNoSample info (λ t. Unit {0}) (drop at bytes) → ⊥
none_refused bytes head info samples n low high middle next last at file within h begins bad =
    let T : List Sample → Type 0 = λ l. bytes ≡ head ++ 10 ∷ lines_of l in
    let A : List Sample → Type 0 = λ l. AreSamples info.ty info.year l in
    let ys = h.between ++ h.later in
    let text = subst T h.all file.text in
    let are = all_rest _ h.earlier ys (subst A h.all file.lines) in
    let a = aim bytes head info h.earlier ys low middle at text are h.low_is within begins in
    let joined : h.earlier ++ ys ≡ (h.earlier ++ a.front) ++ a.rest = ap (λ (l : List Sample). h.earlier ++ l) a.list ∙ sym (append_assoc h.earlier a.front a.rest) in
    let there : drop at bytes ≡ lines_of a.rest = ap (λ (m : ℕ). drop m bytes) a.place ∙ drop_front bytes head (h.earlier ++ a.front) a.rest (subst T joined text) in
    by_rest a.rest there (all_rest _ a.front a.rest (subst A a.list are))
  where
    by_rest : (rest : List Sample) → drop at bytes ≡ lines_of rest → AreSamples info.ty info.year rest → ⊥
    by_rest [] there are = bad.some there
    by_rest (s ∷ more) there are = bad.none s (lines_of more) there are.0 tt

-- NO LINE IS LEFT BETWEEN

before_all : (n : ℕ) (xs : List Sample) → AllByRecursion (λ x. x.t < n) xs → before n xs ≡ xs
before_all n [] all = refl
before_all n (x ∷ xs) all =
    let first : x.t < n = all.0 in
    let more : before n xs ≡ xs = before_all n xs all.1 in
    grind (arith, nat_tests)

before_parts : (n : ℕ) (xs ys : List Sample) → AllByRecursion (λ x. x.t < n) xs → RisesFrom n ys → before n (xs ++ ys) ≡ xs
before_parts n xs ys are rises = before-append n xs ys ∙ ap (λ (l : List Sample). before n xs ++ l) (before_none n n ys rises (omega arith)) ∙ append-nil (before n xs) ∙ before_all n xs are

none_between : (head : List ℕ) (earlier between : List Sample) (low high : ℕ) → low ≡ end_place head earlier → high ≤ low → ((front : List Sample) (s : Sample) (rest : List Sample) → between ≡ front ++ s ∷ rest → end_place head (earlier ++ front) < high) → between ≡ []
none_between head earlier [] low high low_is over begins = refl
none_between head earlier (s ∷ rest) low high low_is over begins = absurd (omega (arith, begins [] s rest refl, ap (end_place head) (append-nil earlier), low_is, over))

pub parted : (head : List ℕ) (samples : List Sample) (n low high : ℕ) (p : Parted) → high ≤ low → Narrowed head samples n low high p.next p.last → IsPartedAt head samples n p
parted head samples n low high p over h =
    let none = none_between head h.earlier h.between low high h.low_is over h.begins in
    let split : samples ≡ h.earlier ++ h.later = h.all ∙ ap (λ (l : List Sample). h.earlier ++ (l ++ h.later)) none in
    let is : before n samples ≡ h.earlier = ap (before n) split ∙ before_parts n h.earlier h.later h.are_earlier h.are_later in
    let L : List Sample → Type 0 = λ l. IsLastLine head l p.last in
    (h.next_is ∙ ap (λ (l : List Sample). end_place head (h.earlier ++ l)) none ∙ ap (end_place head) (append-nil h.earlier ∙ sym is), subst L (sym is) h.last_is)

-- HOW OFTEN THE RANGE IS HALVED

-- a range of so many places is halved so often at most
pub halves_again : (d range half : ℕ) → range < 2 ^ d → 0 < range → 2 * half ≤ range → (e : ℕ) × (d ≡ e + 1) × (half < 2 ^ e)
halves_again zero range half within some less = absurd (omega (arith, within, some))
halves_again (suc e) range half within some less = (e, omega arith, omega (arith, within, less, pow_two e))
  where
    pow_two : (k : ℕ) → 2 ^ suc k ≡ 2 * 2 ^ k
    pow_two k = omega (arith, pow-suc 2 k)
