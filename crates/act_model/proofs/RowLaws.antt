-- What flushes, publications and retirements do to a row's lists.
use Rattle.std.proofs.Common.{◌≡◌, ℕ, ◌+◌, ◌≤◌, List, [], ◌∷◌, ◌++◌, max, Bool, true, false, cond, refl, ap, sym, ◌∙◌, arith, append_assoc}
use Rattle.std.proofs.lemmas.Bool.Decides.{nat_tests}
use Rattle.std.specs.Prelude.{nat_le, nat_lt}
use Rattle.std.specs.List.{AllByRecursion}
use Rattle.series_model.specs.declared.sample.Sample.{Sample}
use Rattle.series_model.specs.Series.{end_from, end_of, RisesFrom, IsRising, since, before, over}
use Rattle.series_model.proofs.RisingLists.{end_from-append, end_from-ge, RisesFrom-front, RisesFrom-rest, RisesFrom-lower, RisesFrom-filter, since-append, since_all, since_none}
use Rattle.series_model.proofs.OverLemmas.{end_of-over, since_max, over_assoc, over_retired, end_of-deep}
use Rattle.act_model.specs.Rows.{RowState, Short, Medium, Long, durable, deep, accepted}
use Rattle.act_model.specs.Limbo.{RowFile, put, Covered, IsOfPart, Fits}
use Rattle.act_model.specs.Changes.{flushed, published, retired}
use Rattle.act_model.specs.Sound.{RowSound, IsCopied}
use Rattle.act_model.proofs.Puts.{put-since, put_rises}

-- LISTS

pub before_none : (c n : ℕ) (xs : List Sample) → RisesFrom n xs → c ≤ n → before c xs ≡ []
before_none c n [] rises low = refl
before_none c n (x ∷ xs) rises low =
    let first : n ≤ x.t = rises.0 in
    let more : before c xs ≡ [] = before_none c (x.t + 1) xs rises.1 (omega arith) in
    grind (arith, nat_tests)

-- a rising list in two parts, of what is from k on
pub since_parts : (k c n : ℕ) (xs : List Sample) → RisesFrom n xs → since k (before c xs) ++ since (max k c) xs ≡ since k xs
since_parts k c n [] rises = refl
since_parts k c n (x ∷ xs) rises = by_test (nat_lt x.t c) refl (since_parts k c (x.t + 1) xs rises.1)
  where
    by_test : (b : Bool) → nat_lt x.t c ≡ b → since k (before c xs) ++ since (max k c) xs ≡ since k xs → since k (cond b (x ∷ before c xs) (before c xs)) ++ since (max k c) (x ∷ xs) ≡ since k (x ∷ xs)
    by_test true is more = grind (arith, nat_tests)
    by_test false is more =
        let late : c ≤ x.t = grind (arith, nat_tests) in
        let none : before c xs ≡ [] = before_none c (x.t + 1) xs rises.1 (omega arith) in
        let all : since c (x ∷ xs) ≡ x ∷ xs = since_all c x.t (x ∷ xs) (omega arith, rises.1) late in
        rw none (sym (since_max k c (x ∷ xs)) ∙ ap (λ w. since k w) all)

pub end_from-below : (n t : ℕ) (xs : List Sample) → n ≤ t → end_of xs ≤ t → end_from n xs ≤ t
end_from-below n t [] low end = low
end_from-below n t (x ∷ xs) low end = end

-- what follows a front of a tail
pub since_front : (n : ℕ) (xs rest : List Sample) → RisesFrom n (xs ++ rest) → since (end_of xs) (xs ++ rest) ≡ rest
since_front n [] rest rises = since_all 0 n rest rises (omega arith)
since_front n (x ∷ xs) rest rises =
    let m = end_from (x.t + 1) xs in
    since-append m (x ∷ xs) rest
    ∙ rw (since_none m n (x ∷ xs) (RisesFrom-front n (x ∷ xs) rest rises) (omega arith), since_all m m rest (RisesFrom-rest n (x ∷ xs) rest rises) (omega arith)) refl

-- A FLUSH

pub fit_all : (xs : List Sample) (n : ℕ) (limbo : List RowFile) → RisesFrom n xs → Covered n limbo → AllByRecursion (Fits limbo) xs
fit_all [] n limbo rises low = tt
fit_all (s ∷ xs) n limbo rises low = (one limbo low rises.0, fit_all xs (s.t + 1) limbo rises.1 (higher limbo low))
  where
    one : (limbo : List RowFile) → Covered n limbo → n ≤ s.t → Fits limbo s
    one [] low late = tt
    one (f ∷ rest) low late = (λ is. let up : f.part.start ≤ s.t = grind (arith, nat_tests) in let end : end_of f.samples ≤ n = low.0.1 in end_from-below f.part.start s.t f.samples up (omega arith), one rest low.1 late)

    higher : (limbo : List RowFile) → Covered n limbo → Covered (s.t + 1) limbo
    higher [] low = tt
    higher (f ∷ rest) low = ((low.0.0, (let end : end_of f.samples ≤ n = low.0.1 in let late : n ≤ s.t = rises.0 in omega arith)), higher rest low.1)

pub higher_cover : (limbo : List RowFile) (n m : ℕ) → Covered n limbo → n ≤ m → Covered m limbo
higher_cover [] n m low h = tt
higher_cover (f ∷ rest) n m low h = ((low.0.0, (let end : end_of f.samples ≤ n = low.0.1 in omega arith)), higher_cover rest n m low.1 h)

-- samples later than all that is durable go behind it
pub put_durable : (base store xs : List Sample) (limbo : List RowFile) → IsRising store → RisesFrom (end_of (over base store)) xs → Covered (end_of base) limbo → over base (put xs limbo store) ≡ over base store ++ xs
put_durable base store xs limbo rises later low =
    let e = end_of base in
    let up : e ≤ end_of (over base store) = end_of-deep base store rises in
    ap (λ w. base ++ w) (put-since xs e limbo store low ∙ ap (λ w. since e store ++ w) (since_all e (end_of (over base store)) xs later up)) ∙ sym (append_assoc base (since e store) xs)

-- A MOVE

-- published copies are invisible
pub moved_over : (limbo : List RowFile) (below dest source copied : List Sample) → IsRising dest → IsRising source → Covered (end_of below) limbo → AllByRecursion IsOfPart limbo → IsCopied limbo below dest source copied
    → over (over below (put copied limbo dest)) source ≡ over (over below dest) source
moved_over limbo below dest source copied rises rises' low parts is =
    let e = end_of below in
    let d = end_of dest in
    let c = end_from d copied in
    let now = put copied limbo dest in
    let both = put_rises copied limbo dest rises is.rises parts is.fits in
    let up : d ≤ c = end_from-ge d copied is.rises in
    let same : max (max e d) c ≡ max e c = omega arith in
    let copies : since e now ≡ since e dest ++ since (max e d) (before c source) = put-since copied e limbo dest low ∙ ap (λ w. since e dest ++ w) is.front in
    let rest : since e (since c source) ≡ since (max (max e d) c) source = since_max e c source ∙ ap (λ n. since n source) (sym same) in
    let whole : since e (over now source) ≡ since e dest ++ since (max e d) source =
    since-append e now (since (end_of now) source)
    ∙ (ap (λ n. since e now ++ since e (since n source)) both.1
    ∙ (ap (λ w. w ++ since e (since c source)) copies
    ∙ (append_assoc (since e dest) (since (max e d) (before c source)) (since e (since c source))
    ∙ ap (λ w. since e dest ++ w) (ap (λ w. since (max e d) (before c source) ++ w) rest ∙ since_parts (max e d) c 0 source rises')))) in
    let before_it : since e (over dest source) ≡ since e dest ++ since (max e d) source = since-append e dest (since d source) ∙ ap (λ w. since e dest ++ w) (since_max e d source) in
    over_assoc below now source both.0 ∙ (ap (λ w. below ++ w) (whole ∙ sym before_it) ∙ sym (over_assoc below dest source rises))

-- a flush keeps what is accepted, and appends to what is durable
pub record Flushes (row new : RowState) (xs : List Sample) : Type 0 where
  pub sound : RowSound true new
  pub more : durable new ≡ durable row ++ xs
  pub same : accepted new ≡ accepted row
  pub deep_end : end_of (deep row Short) ≤ end_of (deep new Short)

pub flush_row : (row : RowState) (limbo : List RowFile) (xs rest : List Sample) → RowSound true row → row.tail ≡ xs ++ rest → Covered (end_of (deep row Short)) limbo → AllByRecursion IsOfPart limbo → Flushes row (flushed true limbo xs row) xs
flush_row row limbo xs rest s is low parts =
    let base = over row.long row.medium in
    let p = end_of (durable row) in
    let later : RisesFrom p (xs ++ rest) = rw (← is) s.later in
    let front : RisesFrom p xs = RisesFrom-front p xs rest later in
    let new = flushed true limbo xs row in
    let tail : new.tail ≡ rest = ap (λ w. since (end_of xs) w) is ∙ since_front p xs rest later in
    let more : durable new ≡ durable row ++ xs = put_durable base row.short xs limbo s.short front low in
    let fine : end_of row.short ≤ p = let e = end_of-over base row.short s.short in omega arith in
    let base_low : end_of base ≤ p = end_of-deep base row.short s.short in
    let rises = put_rises xs limbo row.short s.short (RisesFrom-lower (end_of row.short) p xs front fine) parts (fit_all xs p limbo front (higher_cover limbo (end_of base) p low base_low)) in
    let ends : end_of (durable new) ≡ end_from p xs = ap end_of more ∙ end_from-append 0 (durable row) xs in
    let after : RisesFrom (end_of (durable new)) rest = rw ends (RisesFrom-rest p xs rest later) in
    let whole : end_from (end_of (durable new)) new.tail ≡ end_from p row.tail = rw (ends, tail, is) (sym (end_from-append p xs rest)) in
    record {
      sound = record { short = rises.0; medium = s.medium; long = s.long; later = rw tail after; next = rw whole s.next };
      more = more;
      same =
          let one : over (durable new) new.tail ≡ durable new ++ rest = ap (λ w. over (durable new) w) tail ∙ ap (λ w. durable new ++ w) (since_all (end_of (durable new)) (end_of (durable new)) rest after (omega arith)) in
          let two : over (durable row) row.tail ≡ durable row ++ (xs ++ rest) = ap (λ w. over (durable row) w) is ∙ ap (λ w. durable row ++ w) (since_all p p (xs ++ rest) later (omega arith)) in
          one ∙ (ap (λ w. w ++ rest) more ∙ (append_assoc (durable row) xs rest ∙ sym two));
      deep_end = omega arith;
    }

-- a publication or a retirement keeps what is durable
pub record Keeps (row new : RowState) : Type 0 where
  pub sound : RowSound true new
  pub same : durable new ≡ durable row
  pub tail : new.tail ≡ row.tail

keeps_row : (row new : RowState) → RowSound true row → IsRising new.short → IsRising new.medium → IsRising new.long → durable new ≡ durable row → new.tail ≡ row.tail → new.next ≡ row.next → Keeps row new
keeps_row row new s a b c same tail next =
    record {
      sound = record { short = a; medium = b; long = c; later = rw (same, tail) s.later; next = rw (same, tail, next) s.next };
      same = same;
      tail = tail;
    }

pub publish_medium : (row : RowState) (limbo : List RowFile) (copied : List Sample) → RowSound true row → Covered (end_of row.long) limbo → AllByRecursion IsOfPart limbo → IsCopied limbo row.long row.medium row.short copied → Keeps row (published true limbo Medium copied row)
publish_medium row limbo copied s low parts is =
    keeps_row row (published true limbo Medium copied row) s s.short (put_rises copied limbo row.medium s.medium is.rises parts is.fits).0 s.long
    (moved_over limbo row.long row.medium row.short copied s.medium s.short low parts is) refl refl

nil_over : (b : List Sample) → IsRising b → over [] b ≡ b
nil_over b rises = since_all 0 0 b rises (omega arith)

pub publish_long : (row : RowState) (limbo : List RowFile) (copied : List Sample) → RowSound true row → Covered 0 limbo → AllByRecursion IsOfPart limbo → IsCopied limbo [] row.long row.medium copied → Keeps row (published true limbo Long copied row)
publish_long row limbo copied s low parts is =
    let new = put copied limbo row.long in
    let rises : IsRising new = (put_rises copied limbo row.long s.long is.rises parts is.fits).0 in
    let moved : over new row.medium ≡ over row.long row.medium =
    ap (λ w. over w row.medium) (sym (nil_over new rises)) ∙ (moved_over limbo [] row.long row.medium copied s.long s.medium low parts is ∙ ap (λ w. over w row.medium) (nil_over row.long s.long)) in
    keeps_row row (published true limbo Long copied row) s s.short s.medium rises (ap (λ w. over w row.short) moved) refl refl

-- A RETIREMENT

since_before : (k n : ℕ) (xs : List Sample) → RisesFrom n xs → before k xs ++ since k xs ≡ xs
since_before k n xs rises =
    let zero_max : k ≡ max 0 k = omega arith in
    let all : before k xs ≡ since 0 (before k xs) = sym (since_all 0 0 (before k xs) (rising_before k 0 xs (RisesFrom-lower 0 n xs rises (omega arith))) (omega arith)) in
    ap (λ w. w ++ since k xs) all ∙ (ap (λ m. since 0 (before k xs) ++ since m xs) zero_max ∙ (since_parts 0 k n xs rises ∙ since_all 0 n xs rises (omega arith)))
  where
    rising_before : (k m : ℕ) (xs : List Sample) → RisesFrom m xs → RisesFrom m (before k xs)
    rising_before k m xs rises = RisesFrom-filter (λ s. nat_lt s.t k) m xs rises

pub retire_over : (dest source : List Sample) (to : ℕ) → IsRising source → end_of (before to source) ≤ end_of dest → over dest (since to source) ≡ over dest source
retire_over dest source to rises low =
    sym (ap (λ w. over dest w) (sym (since_before to 0 source rises)) ∙ over_retired dest (before to source) (since to source) (RisesFrom-filter (λ s. nat_lt s.t to) 0 source rises) low)

rising_since : (to : ℕ) (xs : List Sample) → IsRising xs → IsRising (since to xs)
rising_since to xs rises = RisesFrom-filter (λ s. nat_le to s.t) 0 xs rises

pub retire_short : (row : RowState) (to : ℕ) → RowSound true row → end_of (before to row.short) ≤ end_of row.medium → Keeps row (retired true Short to row)
retire_short row to s low =
    let deeper : end_of row.medium ≤ end_of (over row.long row.medium) = let e = end_of-over row.long row.medium s.medium in omega arith in
    keeps_row row (retired true Short to row) s (rising_since to row.short s.short) s.medium s.long (retire_over (over row.long row.medium) row.short to s.short (omega arith)) refl refl

pub retire_medium : (row : RowState) (to : ℕ) → RowSound true row → end_of (before to row.medium) ≤ end_of row.long → Keeps row (retired true Medium to row)
retire_medium row to s low =
    keeps_row row (retired true Medium to row) s s.short (rising_since to row.medium s.medium) s.long (ap (λ w. over w row.short) (retire_over row.long row.medium to s.medium low)) refl refl
