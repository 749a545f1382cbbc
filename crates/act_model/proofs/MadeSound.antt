-- A change that may be made keeps the machine sound.
use Rattle.std.proofs.Common.{◌≡◌, ◌≢◌, ℕ, ◌+◌, ◌<◌, ◌≤◌, List, [], ◌∷◌, ◌++◌, length, max, Option, Some, None, zero, suc, Bool, true, false, cond, refl, ap, sym, ◌∙◌, arith, subst, append-nil, inl, inr}
use Rattle.std.specs.Prelude.{◌⊎◌, ◌==◌, ◌&&◌, nat_lt, nat_le, slice_get, filter}
use Rattle.std.proofs.lemmas.Bool.Decides.{nat_tests}
use Rattle.std.specs.List.{AllByRecursion}
use Rattle.std.specs.Ordering.{nat_cmp}
use Rattle.std.specs.FinMap.{FinMap, get}
use Rattle.series_model.specs.declared.sample.Sample.{Sample}
use Rattle.series_model.specs.Series.{end_from, end_of, RisesFrom, IsRising, since, before, over}
use Rattle.series_model.proofs.RisingLists.{end_from-append, end_from-ge, RisesFrom-append, RisesFrom-front, RisesFrom-rest, RisesFrom-filter, RisesFrom-since, RisesFrom-lower, since_all}
use Rattle.series_model.proofs.OverLemmas.{end_of-over, since_max}
use Rattle.partition_names.specs.declared.part.Part.{Part}
use Rattle.act_model.specs.Rows.{RowState, Store, Short, Medium, Long, same_store, holds, next_store, durable, deep, tier, fresh_row, accepted, size_of, window, is_empty}
use Rattle.act_model.specs.Rule.{Rule, IsPartition}
use Rattle.act_model.specs.Limbo.{RowFile, put, files_of, Covered, IsOfPart, Fits, unlisted, tier_at}
use Rattle.pv_name.specs.Key.{key_of}
use Rattle.pb_messages.specs.declared.about.State.{State}
use Rattle.pb_messages.specs.declared.about.State.TheVariants.{Retired}
use Rattle.act_model.specs.Whole.{AllFollow}
use Rattle.act_model.specs.Machine.{Machine, MoveState, Change, AddsRow, SetsState, Renames, Appends, Publishes, Unlists, held_bytes}
use Rattle.act_model.specs.Changes.{each, changed, changed_rows, added, at, flushed, of_row, Retires, IsRetired, without_held, published, retired}
use Rattle.act_model.specs.Sound.{RowSound, LinesSound, IsCopied, CopiesOf, MoveSound, is_copying, IsStill, MayMake, MayRename, MayUnlist, EndedMove, LimboSound, IsSoundOf, IsSound}
use Rattle.act_model.proofs.Puts.{since-before, before-before, put-since, put_rises, before-append, end_from-mono}
use Rattle.act_model.proofs.RowLaws.{before_none, higher_cover, fit_all, end_from-below}
use Rattle.act_model.proofs.ChangeLaws.{RowGoes, Ground, RowMay, at_row}
use Rattle.act_model.proofs.Places.{places_made}
use Rattle.act_model.proofs.Rows.{more_rows, each_forward, append_forward, Came, from_row, is_new, came, of_place, of_filter, of_append, of_all, fewer_of_place, all_filter, there_is_row}
use Rattle.act_model.proofs.PinnedPieces.{pins_made}
use Rattle.act_model.proofs.Bases.{RowOver, Comes, goes_on, over_none, over_row, bases_go, follows_go}
use Rattle.act_model.proofs.MadeLaws.{ground, row_may, goes, IsFresh, fresh, fresh_over, added_fresh, fresh_sound, fresh_lines, goes_lines, goes_size, each_size, append_size, added_size}

-- LISTS

filter_end : (p : Sample → Bool) (n : ℕ) (xs : List Sample) → RisesFrom n xs → end_from n (filter p xs) ≤ end_from n xs
filter_end p n [] rises = omega arith
filter_end p n (x ∷ xs) rises = by_test (p x) (filter_end p (x.t + 1) xs rises.1)
  where
    by_test : (b : Bool) → end_from (x.t + 1) (filter p xs) ≤ end_from (x.t + 1) xs → end_from n (cond b (x ∷ filter p xs) (filter p xs)) ≤ end_from (x.t + 1) xs
    by_test true more = more
    by_test false more = let first : n ≤ x.t = rises.0 in let low = end_from-mono n (x.t + 1) (filter p xs) (omega arith) in omega arith

before_end : (n c : ℕ) (xs : List Sample) → n ≤ c → end_from n (before c xs) ≤ c
before_end n c [] low = low
before_end n c (x ∷ xs) low = by_test (nat_lt x.t c) refl (λ m h. before_end m c xs h)
  where
    by_test : (b : Bool) → nat_lt x.t c ≡ b → ((m : ℕ) → m ≤ c → end_from m (before c xs) ≤ c) → end_from n (cond b (x ∷ before c xs) (before c xs)) ≤ c
    by_test true is more = more (x.t + 1) (let h : x.t < c = grind (arith, nat_tests) in omega arith)
    by_test false is more = more n low

-- COPIES BESIDE A FLUSH

grown_source : (limbo l : List RowFile) (below dest source copied xs : List Sample) (p : ℕ) → IsRising source → RisesFrom p xs → max (max (end_of below) (end_of dest)) (end_of source) ≤ p → Covered (max (end_of below) (end_of dest)) l → AllByRecursion IsOfPart l
    → IsCopied limbo below dest source copied → IsCopied limbo below dest (put xs l source) copied
grown_source limbo l below dest source copied xs p rises later high low parts is =
    let k = max (end_of below) (end_of dest) in
    let c = end_from (end_of dest) copied in
    let until : c ≤ max k (end_of source) = is.until in
    let both = put_rises xs l source rises (RisesFrom-lower (end_of source) p xs later (omega arith)) parts (fit_all xs p l later (higher_cover l k p low (omega arith))) in
    let up : end_of source ≤ end_from (end_of source) xs = end_from-ge (end_of source) xs (RisesFrom-lower (end_of source) p xs later (omega arith)) in
    let more : since k (put xs l source) ≡ since k source ++ xs = put-since xs k l source low ∙ ap (λ w. since k source ++ w) (since_all k p xs later (omega arith)) in
    let same : since k (before c (put xs l source)) ≡ since k (before c source) =
    since-before k c (put xs l source)
    ∙ (ap (λ w. before c w) more ∙ (before-append c (since k source) xs ∙ (ap (λ w. before c (since k source) ++ w) (before_none c p xs later (omega arith)) ∙ (append-nil (before c (since k source)) ∙ sym (since-before k c source))))) in
    let ends : end_of (put xs l source) ≡ end_from (end_of source) xs = both.1 in
    record { rises = is.rises; front = is.front ∙ sym same; fits = is.fits; until = omega arith }

flushed_copies : (limbo : List RowFile) (row : RowState) (i : ℕ) (store : Store) (copied xs rest : List Sample) → RowSound true row → Ground true limbo i row → row.tail ≡ xs ++ rest → store ≢ Long → CopiesOf limbo row i store copied → CopiesOf limbo (flushed true (files_of i Short limbo) xs row) i store copied
flushed_copies limbo row i Short copied xs rest s g is apart c =
    let base = end_of-over row.long row.medium s.medium in
    let all = end_of-over (over row.long row.medium) row.short s.short in
    let later : RisesFrom (end_of (durable row)) (xs ++ rest) = rw (← is) s.later in
    let low : Covered (end_of (over row.long row.medium)) (files_of i Short limbo) = g.covered Short refl in
    grown_source (files_of i Medium limbo) (files_of i Short limbo) row.long row.medium row.short copied xs (end_of (durable row)) s.short (RisesFrom-front (end_of (durable row)) xs rest later) (omega arith)
    (higher_cover (files_of i Short limbo) (end_of (over row.long row.medium)) (max (end_of row.long) (end_of row.medium)) low (omega arith)) (g.parts Short refl) c
flushed_copies limbo row i Medium copied xs rest s g is apart c = c
flushed_copies limbo row i Long copied xs rest s g is apart c = absurd (apart refl)

held_copies : (limbo : List RowFile) (row : RowState) (i : ℕ) (state : State) (store : Store) (copied : List Sample) → CopiesOf limbo row i store copied → CopiesOf limbo (without_held state row) i store copied
held_copies limbo row i state Short copied c = c
held_copies limbo row i state Medium copied c = c
held_copies limbo row i state Long copied c = c

-- copies of a row beside a change
copies_stay : (limbo : List RowFile) (change : Change) (row : RowState) (i : ℕ) (store : Store) (copied : List Sample) → RowSound true row → Ground true limbo i row → RowMay true limbo change i row → store ≢ Long
    → ((k : ℕ) (s : Store) (xs : List Sample) → change ≡ Publishes k s xs → i ≢ k) → ((k : ℕ) (s : Store) (to : ℕ) → change ≡ Unlists k s to → i ≢ k)
    → CopiesOf limbo row i store copied → CopiesOf limbo (changed true limbo change i row) i store copied
copies_stay limbo (AddsRow name about) row i store copied s g may apart a b c = c
copies_stay limbo (SetsState k state) row i store copied s g may apart a b c = at_row k i (without_held state) row (λ r. CopiesOf limbo r i store copied) c (λ is. held_copies limbo row i state store copied c)
copies_stay limbo (Renames k name) row i store copied s g may apart a b c = at_row k i (without_held Retired) row (λ r. CopiesOf limbo r i store copied) c (λ is. held_copies limbo row i Retired store copied c)
copies_stay limbo (Appends batch) row i store copied s g may apart a b c = flushed_copies limbo row i store copied (of_row i batch) may.0 s g may.1 apart c
copies_stay limbo (Publishes k st xs) row i store copied s g may apart a b c = at_row k i (published true (files_of k (next_store st) limbo) (next_store st) xs) row (λ r. CopiesOf limbo r i store copied) c (λ is. absurd (a k st xs refl is))
copies_stay limbo (Unlists k st to) row i store copied s g may apart a b c = at_row k i (retired true st to) row (λ r. CopiesOf limbo r i store copied) c (λ is. absurd (b k st to refl is))

-- FITS, WITH FEWER OF LIMBO AND OTHERS' FILES BESIDE

pub fits_stay : (limbo into : List RowFile) (p : RowFile → Bool) (i : ℕ) (store : Store) (xs : List Sample) → AllByRecursion (λ (f : RowFile). f.row ≢ i) into → AllByRecursion (Fits (files_of i store limbo)) xs → AllByRecursion (Fits (files_of i store (filter p (limbo ++ into)))) xs
fits_stay limbo into p i store [] others all = tt
fits_stay limbo into p i store (s ∷ xs) others all = (fewer_of_place (λ f. OneFits f s) p i store (limbo ++ into) (both limbo all.0), fits_stay limbo into p i store xs others all.1)
  where
    OneFits : RowFile → Sample → Type 0
    OneFits f s = holds f.part s.t ≡ true → end_from f.part.start f.samples ≤ s.t

    both : (limbo : List RowFile) → Fits (files_of i store limbo) s → AllByRecursion (λ f. OneFits f s) (files_of i store (limbo ++ into))
    both [] all = of_place (λ f. f.row ≢ i) (λ f. OneFits f s) i store into (λ f a b c. absurd (c a)) others
    both (f ∷ limbo) all = by_test (f.row == i && same_store f.store store) (both limbo) all
      where
        by_test : (c : Bool) → (Fits (files_of i store limbo) s → AllByRecursion (λ f. OneFits f s) (files_of i store (limbo ++ into))) → Fits (cond c (f ∷ files_of i store limbo) (files_of i store limbo)) s → AllByRecursion (λ f. OneFits f s) (cond c (f ∷ files_of i store (limbo ++ into)) (files_of i store (limbo ++ into)))
        by_test true more all = (all.0, more all.1)
        by_test false more all = more all

-- FILES THAT GO TO LIMBO

tier_is : (rows : List RowState) (i : ℕ) (store : Store) (row : RowState) → slice_get rows i ≡ Some row → tier_at rows i store ≡ tier row store
tier_is rows i store row here = rw here refl

tier_rises : (told : Bool) (row : RowState) (store : Store) → RowSound told row → IsRising (tier row store)
tier_rises told row Short s = s.short
tier_rises told row Medium s = s.medium
tier_rises told row Long s = s.long

next_below : (row : RowState) (store : Store) → RowSound true row → store ≢ Long → end_of (tier row (next_store store)) ≤ end_of (deep row store)
next_below row Short s apart = let all = end_of-over row.long row.medium s.medium in omega arith
next_below row Medium s apart = omega arith
next_below row Long s apart = absurd (apart refl)

-- a window of a rising list, all of it before a moment
pub record IsWindow (part : Part) (to : ℕ) (xs : List Sample) : Type 0 where
  pub from : RisesFrom part.start (window part xs)
  pub end : end_from part.start (window part xs) ≤ part.end
  pub rising : IsRising (window part xs)
  pub low : end_of (window part xs) ≤ end_of (before to xs)

windowed : (part : Part) (to : ℕ) (xs : List Sample) → IsRising xs → part.start ≤ part.end → part.end ≤ to → IsWindow part to xs
windowed part to xs rises whole low =
    let inside : IsRising (before part.end xs) = RisesFrom-filter (λ s. nat_lt s.t part.end) 0 xs rises in
    let rising : IsRising (window part xs) = RisesFrom-filter (λ s. nat_le part.start s.t) 0 (before part.end xs) inside in
    let bound : end_of (window part xs) ≤ end_of (before part.end xs) = filter_end (λ s. nat_le part.start s.t) 0 (before part.end xs) inside in
    let last : end_of (before part.end xs) ≤ part.end = before_end 0 part.end xs (omega arith) in
    let same : before part.end xs ≡ before part.end (before to xs) = sym (before-before part.end to xs low) in
    let less : end_of (before part.end (before to xs)) ≤ end_of (before to xs) = filter_end (λ s. nat_lt s.t part.end) 0 (before to xs) (RisesFrom-filter (λ s. nat_lt s.t to) 0 xs rises) in
    let again : end_of (before part.end xs) ≡ end_of (before part.end (before to xs)) = ap end_of same in
    record {
      from = RisesFrom-since 0 part.start (before part.end xs) inside;
      end = end_from-below part.start part.end (window part xs) whole (omega arith);
      rising = rising;
      low = omega arith;
    }

-- THE MACHINE

past_end : (rows : List RowState) (i j : ℕ) → i < length rows → i ≡ length rows + j → ⊥
past_end rows i j low is = absurd (omega arith)

ended_publish : (moves : FinMap nat_cmp MoveState) (change : Change) → EndedMove moves change → (n : ℕ) (move : MoveState) → get moves n ≡ Some move → is_copying move.stage ≡ true → (k : ℕ) (st : Store) (xs : List Sample) → change ≡ Publishes k st xs → move.row ≢ k
ended_publish moves change still n move here copies k st xs is = let such : IsStill moves k = subst (λ c. EndedMove moves c) is still in such n move here copies

ended_unlist : (moves : FinMap nat_cmp MoveState) (change : Change) → EndedMove moves change → (n : ℕ) (move : MoveState) → get moves n ≡ Some move → is_copying move.stage ≡ true → (k : ℕ) (st : Store) (to : ℕ) → change ≡ Unlists k st to → move.row ≢ k
ended_unlist moves change still n move here copies k st to is = let such : IsStill moves k = subst (λ c. EndedMove moves c) is still in such n move here copies

few_rows : (rule : Rule) (told : Bool) (rows : List RowState) (limbo : List RowFile) (change : Change) → length rows ≤ 65536 → MayMake rule told rows limbo change → length rows + length (added change rows) ≤ 65536
few_rows rule told rows limbo (AddsRow name about) few may = let room : length rows < 65536 = may.room in omega arith
few_rows rule told rows limbo (SetsState k state) few may = omega arith
few_rows rule told rows limbo (Renames k name) few may = by_row (slice_get rows k) refl
  where
    by_row : (o : Option RowState) → slice_get rows k ≡ o → length rows + length (added (Renames k name) rows) ≤ 65536
    by_row None none = rw none (omega arith)
    by_row (Some old) here = let room : length rows < 65536 = may.add.room in rw here (omega arith)
few_rows rule told rows limbo (Appends batch) few may = omega arith
few_rows rule told rows limbo (Publishes k st xs) few may = omega arith
few_rows rule told rows limbo (Unlists k st to) few may = omega arith

new_key : (rule : Rule) (told : Bool) (rows : List RowState) (limbo : List RowFile) (change : Change) (j i : ℕ) (new row : RowState) → MayMake rule told rows limbo change → slice_get (added change rows) j ≡ Some new → slice_get rows i ≡ Some row → key_of row.name ≢ key_of new.name
new_key rule told rows limbo (AddsRow name about) zero i new row may is here = λ same. let one : fresh_row name about ≡ new = cc in may.free i row here (same ∙ ap (λ (r : RowState). key_of r.name) (sym one))
new_key rule told rows limbo (AddsRow name about) (suc j) i new row may is here = absurd cc
new_key rule told rows limbo (SetsState k state) j i new row may is here = absurd cc
new_key rule told rows limbo (Renames k name) j i new row may is here = by_fresh (added_fresh (Renames k name) rows j new is).0
  where
    renames_name : (n k : ℕ) (other name : List ℕ) → Renames k name ≡ Renames n other → other ≡ name
    renames_name n k other name is = cc

    by_fresh : IsFresh (Renames k name) rows new → key_of row.name ≢ key_of new.name
    by_fresh (fresh other about by same) = absurd cc
    by_fresh (fresh_over n other old by there same) = λ equal. (
        let own : other ≡ name = renames_name n k other name by in
        may.add.free i row here (equal ∙ (ap (λ (r : RowState). key_of r.name) same ∙ ap key_of own)))
new_key rule told rows limbo (Appends batch) j i new row may is here = absurd cc
new_key rule told rows limbo (Publishes k st xs) j i new row may is here = absurd cc
new_key rule told rows limbo (Unlists k st to) j i new row may is here = absurd cc

-- OVER BASES

-- an empty tail stays empty
no_tail : (told : Bool) (row new : RowState) → RowGoes told row new → row.tail ≡ [] → new.tail ≡ []
no_tail told row new g none = by_tail g.tail
  where
    by_tail : (new.tail ≡ row.tail) ⊎ ((n : ℕ) × (new.tail ≡ since n row.tail)) → new.tail ≡ []
    by_tail (inl is) = is ∙ none
    by_tail (inr is) = is.1 ∙ ap (λ w. since is.0 w) none

-- part of a list behind another
fewer_behind : (p : Sample → Bool) (e : ℕ) (xs ys : List Sample) → RisesFrom e (xs ++ ys) → RisesFrom e (xs ++ filter p ys) × (end_from e (xs ++ filter p ys) ≤ end_from e (xs ++ ys))
fewer_behind p e xs ys rises =
    let front = RisesFrom-front e xs ys rises in
    let rest = RisesFrom-rest e xs ys rises in
    let low = filter_end p (end_from e xs) ys rest in
    let all = end_from-append e xs ys in
    let some = end_from-append e xs (filter p ys) in
    (RisesFrom-append e xs (filter p ys) front (RisesFrom-filter p (end_from e xs) ys rest), omega arith)

since_both : (n k : ℕ) (xs : List Sample) → since n (since k xs) ≡ since k (since n xs)
since_both n k xs = let same : max n k ≡ max k n = omega arith in since_max n k xs ∙ (ap (λ m. since m xs) same ∙ sym (since_max k n xs))

goes_over : (told : Bool) (row new : RowState) → RowGoes told row new → RowOver told row new
goes_over true row new g =
    let same : accepted new ≡ accepted row = g.same refl in
    record {
      base = g.base;
      about = g.about;
      retired = g.stays_retired;
      still = λ gone none. (no_tail true row new g none, same);
      next = (let next = g.next in omega arith);
      goes = λ rises low. (rw same rises, rw (same, g.next) low);
      exact = λ t e is. g.next ∙ (is ∙ ap (λ w. max e (end_of w)) (sym same));
      more = λ t. ([], same ∙ sym (append-nil (accepted row)), tt);
    }
goes_over false row new g =
    let same : durable new ≡ durable row = g.untold refl in
    let p = end_of (durable row) in
    record {
      base = g.base;
      about = g.about;
      retired = g.stays_retired;
      still = λ gone none. let empty = no_tail false row new g none in
          (empty, ap (λ w. over w new.tail) same ∙ (ap (λ w. over (durable row) w) empty ∙ ap (λ w. over (durable row) w) (sym none)));
      next = (let next = g.next in omega arith);
      goes = λ rises low. by_tail rises low g.tail;
      exact = λ t. absurd cc;
      more = λ t. absurd cc;
    }
  where
    by_tail : IsRising (accepted row) → end_of (accepted row) ≤ row.next → (new.tail ≡ row.tail) ⊎ ((n : ℕ) × (new.tail ≡ since n row.tail)) → IsRising (accepted new) × (end_of (accepted new) ≤ new.next)
    by_tail rises low (inl is) =
        let same : accepted new ≡ accepted row = ap (λ w. over w new.tail) (g.untold refl) ∙ ap (λ w. over (durable row) w) is in
        (rw same rises, rw (same, g.next) low)
    by_tail rises low (inr is) =
        let p = end_of (durable row) in
        let less : accepted new ≡ durable row ++ since is.0 (since p row.tail) =
        ap (λ w. over w new.tail) (g.untold refl) ∙ (ap (λ w. over (durable row) w) is.1 ∙ ap (λ w. durable row ++ w) (since_both p is.0 row.tail)) in
        let both = fewer_behind (λ s. nat_le is.0 s.t) 0 (durable row) (since p row.tail) rises in
        let end : end_of (accepted new) ≤ new.next = rw (less, g.next) (let fewer = both.1 in omega arith) in
        (rw less both.0, end)

-- the row that is renamed is retired
retires_own : (told : Bool) (limbo : List RowFile) (k : ℕ) (name : List ℕ) (row : RowState) → (changed told limbo (Renames k name) k row).state ≡ Retired
retires_own told limbo k name row = let own : (k == k) ≡ true = grind (arith, nat_tests) in rw own refl

-- THE MACHINE WITH A CHANGE

module _ (m : Machine) (change : Change) (s : IsSound m) (may : MayMake m.rule m.told m.rows m.limbo change) where
  abbrev then_rows : List RowState
  then_rows = changed_rows m.told m.limbo change m.rows

  row_goes : (i : ℕ) (row : RowState) → slice_get m.rows i ≡ Some row → RowGoes m.told row (changed m.told m.limbo change i row)
  row_goes i row here = goes m.rule m.told m.rows m.limbo change s.each_row s.each_file may i row here

  -- each row goes on over its base
  forth : (i : ℕ) (row : RowState) → slice_get m.rows i ≡ Some row → (new : RowState) × (slice_get then_rows i ≡ Some new) × RowOver m.told row new
  forth i row here =
      let f = changed m.told m.limbo change in
      let plain : 0 + i ≡ i = omega arith in
      let there : slice_get (each f 0 m.rows) i ≡ Some (f i row) = each_forward f 0 m.rows i row here ∙ ap (λ n. Some (f n row)) plain in
      (f i row, append_forward (each f 0 m.rows) (added change m.rows) i (f i row) there, goes_over m.told row (f i row) (row_goes i row here))

  back : (i : ℕ) (new : RowState) → slice_get then_rows i ≡ Some new → Comes m.told m.rows then_rows i new
  unfolding forth
  back i new there = by_row (came m.told m.limbo change m.rows i new there)
    where
      by_fresh : i ≡ length m.rows → IsFresh change m.rows new → Comes m.told m.rows then_rows i new
      by_fresh place (fresh name about by is) = over_none (ap (λ (r : RowState). r.base) is) (ap (λ (r : RowState). accepted r) is) (ap (λ (r : RowState). r.next) is)
      by_fresh place (fresh_over k name old by here is) =
          let may_rename : MayRename m.rows k name = subst (λ c. MayMake m.rule m.told m.rows m.limbo c) by may in
          let x = forth k old here in
          let g = row_goes k old here in
          let gone : x.0.state ≡ Retired = ap (λ c. (changed m.told m.limbo c k old).state) by ∙ retires_own m.told m.limbo k name old in
          over_row k old x.0 place here x.1 x.2 (may_rename.paused old here) gone (no_tail m.told old x.0 g (may_rename.none old here)) (ap (λ (r : RowState). r.base) is) (g.about ∙ sym (ap (λ (r : RowState). r.about) is)) (ap (λ (r : RowState). accepted r) is)
          (ap (λ (r : RowState). r.next) is ∙ sym g.next)

      by_row : Came m.told m.limbo change m.rows i new → Comes m.told m.rows then_rows i new
      by_row (from_row row here is) = goes_on row here (subst (λ r. RowOver m.told row r) (sym is) (goes_over m.told row (changed m.told m.limbo change i row) (row_goes i row here)))
      by_row (is_new j place here) = let one = added_fresh change m.rows j new here in by_fresh (let first : j ≡ 0 = one.1 in omega arith) one.0

  pub made_follows : m.told ≡ true → AllFollow accepted m.rows → AllFollow accepted then_rows
  made_follows = follows_go m.told m.rows then_rows s.each_row s.bases forth back

module _ (m : Machine) (into : List RowFile) (change : Change) (s : IsSound m) (may : MayMake m.rule m.told m.rows m.limbo change) (retires : Retires m change into) where
  abbrev new_rows : List RowState
  new_rows = changed_rows m.told m.limbo change m.rows

  longer : length m.rows ≤ length new_rows
  longer = let more : length new_rows ≡ length m.rows + length (added change m.rows) = more_rows m.told m.limbo change m.rows in omega arith

  old_file : (f : RowFile) → LimboSound m.rule m.told m.rows f → LimboSound m.rule m.told new_rows f
  old_file f l = record { here = (let low : f.row < length m.rows = l.here in let more = longer in omega arith); moves = l.moves; partition = l.partition; part = l.part; rising = l.rising; covered = λ new there t. by_row new (came m.told m.limbo change m.rows f.row new there) t }
    where
      base : (store : Store) (row new : RowState) → store ≢ Long → RowGoes m.told row new → m.told ≡ true → end_of (deep row store) ≤ end_of (deep new store)
      base Short row new apart g t = g.short_base t
      base Medium row new apart g t = g.medium_base t
      base Long row new apart g t = absurd (apart refl)

      by_row : (new : RowState) → Came m.told m.limbo change m.rows f.row new → m.told ≡ true → end_of f.samples ≤ end_of (deep new f.store)
      by_row new (from_row row here is) t =
          let low : end_of f.samples ≤ end_of (deep row f.store) = l.covered row here t in
          let g : RowGoes m.told row new = rw is (row_goes m change s may f.row row here) in
          let up : end_of (deep row f.store) ≤ end_of (deep new f.store) = base f.store row new l.moves g t in
          omega arith
      by_row new (is_new j is there) t = absurd (past_end m.rows f.row j l.here is)

  -- a retired file
  new_file : (k : ℕ) (store : Store) (to : ℕ) → change ≡ Unlists k store to → MayUnlist m.rule m.told m.rows k store to → (f : RowFile) → IsRetired m k store to f → LimboSound m.rule m.told new_rows f
  new_file k store to is may f r = by_row (slice_get m.rows k) refl
    where
      rises : (row : RowState) → slice_get m.rows k ≡ Some row → IsWindow f.part to (tier row store)
      rises row here = windowed f.part to (tier row store) (tier_rises m.told row store (s.each_row k row here)) r.whole r.before

      samples : (row : RowState) → slice_get m.rows k ≡ Some row → m.told ≡ true → f.samples ≡ window f.part (tier row store)
      samples row here t = r.samples t ∙ ap (λ w. window f.part w) (tier_is m.rows k store row here)

      covers : (row : RowState) → slice_get m.rows k ≡ Some row → m.told ≡ true → end_of f.samples ≤ end_of (deep row f.store)
      covers row here t =
          let sound : RowSound true row = subst (λ b. RowSound b row) t (s.each_row k row here) in
          let low : end_of (window f.part (tier row store)) ≤ end_of (before to (tier row store)) = (rises row here).low in
          let same : end_of f.samples ≡ end_of (window f.part (tier row store)) = ap end_of (samples row here t) in
          let next : end_of (before to (tier row store)) ≤ end_of (tier row (next_store store)) = may.covered row here t in
          let deeper : end_of (tier row (next_store store)) ≤ end_of (deep row store) = next_below row store sound r.moves in
          let own : end_of (deep row f.store) ≡ end_of (deep row store) = ap (λ w. end_of (deep row w)) r.own_store in
          omega arith

      by_row : (o : Option RowState) → slice_get m.rows k ≡ o → LimboSound m.rule m.told new_rows f
      by_row None none = absurd (there_is_row m.rows k r.here none)
      by_row (Some row) here =
          let own : f.row ≡ k = r.row in
          let plain : LimboSound m.rule m.told m.rows f = record {
            here = (let low : k < length m.rows = r.here in omega arith);
            moves = λ long. r.moves (sym r.own_store ∙ long);
            partition = λ t. subst (λ st. IsPartition m.rule st f.part) (sym r.own_store) (r.partition t);
            part = λ t. let w = rises row here in record { from = rw (samples row here t) w.from; to = rw (samples row here t) w.end };
            rising = λ t. rw (samples row here t) (rises row here).rising;
            covered = λ other there t. covers other (ap (λ n. slice_get m.rows n) (sym own) ∙ there) t;
          } in
          old_file f plain

  into_sound : AllByRecursion (LimboSound m.rule m.told new_rows) into
  into_sound = by_change change refl may retires
    where
      none : into ≡ [] → AllByRecursion (LimboSound m.rule m.told new_rows) into
      none is = rw is tt

      by_change : (c : Change) → change ≡ c → MayMake m.rule m.told m.rows m.limbo c → Retires m c into → AllByRecursion (LimboSound m.rule m.told new_rows) into
      by_change (AddsRow name about) is may r = none r
      by_change (SetsState k state) is may r = none r
      by_change (Renames k name) is may r = none r
      by_change (Appends batch) is may r = none r
      by_change (Publishes k st xs) is may r = none r
      by_change (Unlists k st to) is may r = of_all (IsRetired m k st to) (LimboSound m.rule m.told new_rows) into (new_file k st to is may) r.0

  -- a row that still copies has no file that goes to limbo
  others_go : (i : ℕ) → ((k : ℕ) (st : Store) (to : ℕ) → change ≡ Unlists k st to → i ≢ k) → AllByRecursion (λ (f : RowFile). f.row ≢ i) into
  others_go i apart = by_change change refl retires
    where
      none : into ≡ [] → AllByRecursion (λ (f : RowFile). f.row ≢ i) into
      none is = rw is tt

      by_change : (c : Change) → change ≡ c → Retires m c into → AllByRecursion (λ (f : RowFile). f.row ≢ i) into
      by_change (AddsRow name about) is r = none r
      by_change (SetsState k state) is r = none r
      by_change (Renames k name) is r = none r
      by_change (Appends batch) is r = none r
      by_change (Publishes k st xs) is r = none r
      by_change (Unlists k st to) is r = of_all (IsRetired m k st to) (λ (f : RowFile). f.row ≢ i) into (λ f one same. apart k st to is (sym same ∙ one.row)) r.0

  module _ (moves : FinMap nat_cmp MoveState) (still : EndedMove moves change)
      (each_move : (n : ℕ) (move : MoveState) → get moves n ≡ Some move → MoveSound m.rule m.told m.rows m.limbo move)
      (one_move : (n k : ℕ) (move other : MoveState) → get moves n ≡ Some move → get moves k ≡ Some other → move.row ≡ other.row → n ≡ k) where
    move_goes : (n : ℕ) (move : MoveState) → get moves n ≡ Some move → MoveSound m.rule m.told new_rows (unlisted new_rows (m.limbo ++ into)) move
    move_goes n move here =
        let old : MoveSound m.rule m.told m.rows m.limbo move = each_move n move here in
        record {
          here = (let low : move.row < length m.rows = old.here in let more = longer in omega arith);
          moves = old.moves;
          edge = old.edge;
          copied = λ new there t copies. by_row new (came m.told m.limbo change m.rows move.row new there) t copies old;
        }
      where
        by_row : (new : RowState) → Came m.told m.limbo change m.rows move.row new → m.told ≡ true → is_copying move.stage ≡ true → MoveSound m.rule m.told m.rows m.limbo move → CopiesOf (unlisted new_rows (m.limbo ++ into)) new move.row move.store move.copied
        by_row new (is_new j is there) t copies old = absurd (past_end m.rows move.row j old.here is)
        by_row new (from_row row there is) t copies old =
            let sound : RowSound true row = subst (λ b. RowSound b row) t (s.each_row move.row row there) in
            let ground_here : Ground true m.limbo move.row row = subst (λ b. Ground b m.limbo move.row row) t (ground m.rule m.told m.rows m.limbo move.row row there s.each_file) in
            let may_here : RowMay true m.limbo change move.row row = subst (λ b. RowMay b m.limbo change move.row row) t (row_may m.rule m.told m.rows m.limbo change move.row row there may) in
            let apart = ended_unlist moves change still n move here copies in
            let same : new ≡ changed true m.limbo change move.row row = is ∙ ap (λ b. changed b m.limbo change move.row row) t in
            let kept : CopiesOf m.limbo (changed true m.limbo change move.row row) move.row move.store move.copied =
            copies_stay m.limbo change row move.row move.store move.copied sound ground_here may_here old.moves (ended_publish moves change still n move here copies) apart (old.copied row there t copies) in
            let fit = fits_stay m.limbo into (λ (f : RowFile). is_empty (window f.part (tier_at new_rows f.row f.store))) move.row (next_store move.store) move.copied (others_go move.row apart) kept.fits in
            rw same (record { rises = kept.rises; front = kept.front; fits = fit; until = kept.until })

    pub made_sound : IsSoundOf m.rule m.told new_rows (unlisted new_rows (m.limbo ++ into)) m.pins moves None
    made_sound =
        record {
          few = (let few = few_rows m.rule m.told m.rows m.limbo change s.few may in let more : length new_rows ≡ length m.rows + length (added change m.rows) = more_rows m.told m.limbo change m.rows in omega arith);
          keys = λ i j a b here there same. by_keys i j a b (came m.told m.limbo change m.rows i a here) (came m.told m.limbo change m.rows j b there) same;
          each_row = λ i new there. by_sound i new (came m.told m.limbo change m.rows i new there);
          bases = bases_go m.told m.rows new_rows s.each_row s.bases (forth m change s may) (back m change s may);
          lines = λ i new there. by_lines i new (came m.told m.limbo change m.rows i new there);
          intake =
              let one : held_bytes new_rows ≡ held_bytes (each (changed m.told m.limbo change) 0 m.rows) + held_bytes (added change m.rows) = append_size (each (changed m.told m.limbo change) 0 m.rows) (added change m.rows) in
              let none = added_size change m.rows in
              let less : held_bytes (each (changed m.told m.limbo change) 0 m.rows) ≤ held_bytes m.rows =
              each_size (changed m.told m.limbo change) 0 m.rows (λ i row here. let plain : i ≡ 0 + i = omega arith in subst (λ n. size_of (changed m.told m.limbo change n row).tail ≤ size_of row.tail) plain (goes_size m.told row (changed m.told m.limbo change i row) (row_goes m change s may i row here))) in
              let before : held_bytes m.rows ≤ 67108864 = s.intake in omega arith;
          doubted = λ c is. absurd cc;
          each_move = move_goes;
          one_move = one_move;
          each_file = of_filter (LimboSound m.rule m.told new_rows) (λ (f : RowFile). is_empty (window f.part (tier_at new_rows f.row f.store))) (m.limbo ++ into) (of_append (LimboSound m.rule m.told new_rows) m.limbo into (of_all (LimboSound m.rule m.told m.rows) (LimboSound m.rule m.told new_rows) m.limbo old_file s.each_file) into_sound);
          each_unlisted = all_filter (λ (f : RowFile). is_empty (window f.part (tier_at new_rows f.row f.store))) (m.limbo ++ into);
          places = λ t. places_made m into change new_rows retires t (s.places t) s.each_unlisted;
          pinned = λ t. pins_made m into change may retires s.each_file t (s.pinned t);
        }
      where
        by_sound : (i : ℕ) (new : RowState) → Came m.told m.limbo change m.rows i new → RowSound m.told new
        by_sound i new (from_row row here is) = rw is (row_goes m change s may i row here).sound
        by_sound i new (is_new j is here) = fresh_sound m.told change m.rows new (added_fresh change m.rows j new here).0

        by_lines : (i : ℕ) (new : RowState) → Came m.told m.limbo change m.rows i new → LinesSound new
        by_lines i new (from_row row here is) = rw is (goes_lines m.told row (changed m.told m.limbo change i row) (row_goes m change s may i row here) (s.lines i row here))
        by_lines i new (is_new j is here) = fresh_lines change m.rows new (added_fresh change m.rows j new here).0

        name_of : (i : ℕ) (new row : RowState) → slice_get m.rows i ≡ Some row → new ≡ changed m.told m.limbo change i row → key_of new.name ≡ key_of row.name
        name_of i new row here is = ap (λ (r : RowState). key_of r.name) is ∙ ap key_of (row_goes m change s may i row here).name

        by_keys : (i j : ℕ) (a b : RowState) → Came m.told m.limbo change m.rows i a → Came m.told m.limbo change m.rows j b → key_of a.name ≡ key_of b.name → i ≡ j
        by_keys i j a b (from_row row here is) (from_row other there is') same = s.keys i j row other here there (sym (name_of i a row here is) ∙ (same ∙ name_of j b other there is'))
        by_keys i j a b (from_row row here is) (is_new k at there) same = absurd (new_key m.rule m.told m.rows m.limbo change k i b row may there here (sym (name_of i a row here is) ∙ same))
        by_keys i j a b (is_new k at here) (from_row other there is) same = absurd (new_key m.rule m.told m.rows m.limbo change k j a other may here there (sym (name_of j b other there is) ∙ sym same))
        by_keys i j a b (is_new k at here) (is_new l at' there) same = let one : k ≡ 0 = (added_fresh change m.rows k a here).1 in let two : l ≡ 0 = (added_fresh change m.rows l b there).1 in omega arith
