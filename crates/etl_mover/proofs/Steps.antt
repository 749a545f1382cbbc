-- A step of copying: how it leaves the move, what stands ahead of the destination from one to the next, what it writes, and how it ends.
use Rattle.std.proofs.Common.{◌≡◌, inl, inr, ℕ, ◌≤◌, List, [], ◌∷◌, length, Option, Some, None, refl, sym, ◌∙◌, ap, subst, arith, ◌++◌, get_or, ◌⊎◌, ◌+◌, ◌<◌, map, Bool, true, false, zero, suc, take, ◌≢◌, set, ◌-◌, drop, Result, Ok, Err, filter, append-nil, cond}
use Rattle.store_manifest.specs.declared.entry.Entry.{Entry}
use Rattle.etl_mover.specs.declared.copying.Start.{Start}
use Rattle.etl_mover.specs.Copying.{SetsLast, last_of, starts, fresh, after, behind}
use Rattle.std.specs.Prelude.{slice_get, All, Contains, IfSome, nat_eq, nat_lt, if◌then◌else◌, OnOk, OnErr}
use Rattle.partition_names.specs.declared.granularity.Granularity.{Granularity}
use Rattle.etl_mover.specs.Move.{Moving, IsMove, part_file, FewPending, OfNext, IsAhead, StillLists}
use Rattle.etl_mover.specs.Step.{Advances, GoesTo, CanRevive, finished, with_pending, Takes, Copies, between, target_file, IsLongUnopened, CopiesPart, SetsPart, written_at, IsToRow, HasTargets}
use Rattle.disk_model.specs.Files.{Name, Files, HasFile, At}
use Rattle.std.proofs.lemmas.Bool.{cases_lt, eqb-true}
use Rattle.std.proofs.lemmas.List.{length-append, length-set, length-take, take_all}
use Rattle.std.proofs.lemmas.List.Elements.{All-contains, All-append, All-nil, All-cons, All-head, All-tail, All-set, Contains-get_or, filter-append}
use Rattle.std.proofs.lemmas.Option.{slice_get_within, get_or_from_slice_get, slice_get-get_or}
use Rattle.std.proofs.Math.Seq.{map-set_same, get_or-append_seam}
use Rattle.partition_names.specs.Part.{IsPart, HoldsMoment}
use Rattle.store_manifest.specs.Entries.{Place, comes_before, place, InOrder, put, spliced}
use Rattle.etl_mover.specs.Writing.{WritesFile, LeavesFile}
use Rattle.std.specs.List.{AllByRecursion}
use Rattle.partition_names.specs.declared.part.Part.{Part}
use Rattle.partition_names.proofs.PartLemmas as parts
use Rattle.disk_model.specs.declared.disk.DiskErr.{DiskErr}
use Rattle.etl_mover.proofs.Taking.{takes_none}
use Rattle.disk_model.proofs.Passing.{passes_none, passes_weaker}
use Rattle.store_files.specs.Fronts.{Begins, Keeps}
use Rattle.store_files.proofs.Stays.{keeps_more}
use Rattle.durable_write.specs.Flush.{start_of, put_all, with_files}
use Rattle.etl_mover.proofs.Written.{same_opened}
use Rattle.std.proofs.lemmas.Bool.Decides.{nat_tests}
use Rattle.gate_journal.specs.Journal.{JournalState}
use Rattle.gate_journal.specs.DiskShown.{DiskShown, ReadsDisk}
use Rattle.partition_names.specs.Path.{path_of}
use Rattle.pv_catalog.specs.declared.row.Row.{Row}
use Rattle.store_manifest.specs.Manifest.{ManifestState}
use Rattle.durable_write.specs.Held.{Filed, Held, Shelf, bytes_of, entry_of, filed_at, file_of, name_of, shelf_of}
use Rattle.durable_write.specs.Plan.{IsLastOf}
use Rattle.durable_write.specs.Ahead.{HasCopied}
use Rattle.durable_write.specs.Writing.{IsStoredAs}
use Rattle.durable_write.proofs.Written.{put_itself}
use Rattle.durable_write.proofs.Places.{last_view, same_last}
use Rattle.durable_write.proofs.Staying.{contains_map}
use Rattle.etl_mover.specs.declared.moving.Copied.{Copied as CopiedEnd}

-- How one step of copying leaves the move.

-- WHERE THE PART GOES ON

-- one place, whatever the partition was found by
same_to : (g : Granularity) (p q : Entry) (to to₂ : Part) → p ≡ q → IsPart g to → IsPart g to₂ → HoldsMoment to p.part.start → HoldsMoment to₂ q.part.start → to ≡ to₂
same_to g p q to to₂ same is is₂ holds holds₂ = parts.one_part g to to₂ p.part.start is is₂ holds (subst (λ (e : Entry). HoldsMoment to₂ e.part.start) (sym same) holds₂)

same_start : (last revived : Option Entry) (series : ℕ) (p q : Entry) (to to₂ : Part) → p ≡ q → to ≡ to₂ → starts last series to p.head_len revived ≡ starts last series to₂ q.head_len revived
same_start last revived series p q to to₂ same same₂ = ap (λ (x : Part). starts last series x p.head_len revived) same₂ ∙ ap (λ (e : Entry). starts last series to₂ e.head_len revived) same

pub one_next : (move : Moving) (p q : Entry) → slice_get move.parts move.at ≡ Some p → slice_get move.parts move.at ≡ Some q → p ≡ q
one_next move p q one two = let next : ◌≡◌ {A = Option Entry} (Some p) (Some q) = sym one ∙ two in cc (next)

pub one_start : (move : Moving) (revived : Option Entry) (p q : Entry) (s t : Start) → GoesTo move revived p s → GoesTo move revived q t → (p ≡ q) × (s ≡ t)
one_start move revived p q s t one two =
    let part : p ≡ q = one_next move p q one.at_hand two.at_hand in
    let to : one.to ≡ two.to = same_to move.granularity p q one.to two.to part one.is two.is one.holds two.holds in
    let begins : ◌≡◌ {A = Option Start} (Some s) (Some t) = sym one.begins ∙ (same_start (last_of move.pending move.listed) revived move.series p q one.to two.to part to ∙ two.begins) in
    (part, cc (begins))

pub goes_nowhere : (move : Moving) (revived : Option Entry) (part p : Entry) (to : Part) (s : Start) → slice_get move.parts move.at ≡ Some part → IsPart move.granularity to → HoldsMoment to part.part.start → starts (last_of move.pending move.listed) move.series to part.head_len revived ≡ None → GoesTo move revived p s → ⊥
goes_nowhere move revived part p to s next is holds none goes =
    let same : part ≡ p = one_next move part p next goes.at_hand in
    let to_same : to ≡ goes.to = same_to move.granularity part p to goes.to same is goes.is holds goes.holds in
    let no : ◌≡◌ {A = Option Start} None (Some s) = sym none ∙ (same_start (last_of move.pending move.listed) revived move.series part p to goes.to same to_same ∙ goes.begins) in
    absurd (cc (no))

-- it is of the series, and of the destination's partition that holds the part
pub record IsOfPart (g : Granularity) (series : ℕ) (part : Entry) (e : Entry) : Type 0 where
  pub own : e.series ≡ series
  pub is : IsPart g e.part
  pub holds : HoldsMoment e.part part.part.start

pub after_cases : (e : Entry) (begin : ℕ) (start s : Start) → after e begin start ≡ Some s → ((e.part.start ≡ begin) × (s ≡ behind e)) ⊎ (s ≡ start)
after_cases e begin start s is = go (nat_eq e.part.start begin) refl is
  where
    go₂ : (b : Bool) → (if b then None else Some start) ≡ Some s → s ≡ start
    go₂ true is = absurd (cc (is))
    go₂ false is = cc (is)

    go : (b : Bool) → nat_eq e.part.start begin ≡ b → (if b then Some (behind e) else (if nat_lt begin e.part.start then None else Some start)) ≡ Some s → ((e.part.start ≡ begin) × (s ≡ behind e)) ⊎ (s ≡ start)
    go true same is = inl (eqb-true e.part.start begin same, cc (is))
    go false same is = inr (go₂ (nat_lt begin e.part.start) is)

pub last_all : (P : Entry → Type 0) (xs : List Entry) (o : Option Entry) (e : Entry) → All P xs → IfSome o P → last_of xs o ≡ Some e → P e
last_all P [] o e all listed is = subst (λ (x : Option Entry). IfSome x P) is listed
last_all P (x ∷ xs) o e all listed is = last_all P xs (Some x) e (All-tail P x xs all) (All-head P x xs all) is

pub start_is : (fine : Granularity) (move : Moving) (revived : Option Entry) (part : Entry) (start : Start) → IsMove fine move → IfSome revived (CanRevive move) → GoesTo move revived part start → IsOfPart move.granularity move.series part start.entry
start_is fine move revived part start is can goes = go (last_of move.pending move.listed) refl goes.begins
  where
    g : Granularity
    g = move.granularity

    fresh_is : (o : Option Entry) → IfSome o (CanRevive move) → IsOfPart g move.series part (fresh move.series goes.to part.head_len o).entry
    fresh_is None none = record { own = refl; is = goes.is; holds = goes.holds }
    fresh_is (Some old) some = record { own = some.own; is = some.is; holds = some.holds part goes.at_hand }

    of_fresh : start ≡ fresh move.series goes.to part.head_len revived → IsOfPart g move.series part start.entry
    of_fresh same = subst (λ (s : Start). IsOfPart g move.series part s.entry) (sym same) (fresh_is revived can)

    of_last : (e : Entry) → last_of move.pending move.listed ≡ Some e → e.part.start ≡ goes.to.start → IsOfPart g move.series part e
    of_last e last begin =
        let known = last_all (λ (x : Entry). IsPart g x.part × (x.series ≡ move.series)) move.pending move.listed e is.pending is.listed last in
        let some = parts.within g e.part known.0 in
        let some₂ = parts.within g goes.to goes.is in
        let same : e.part ≡ goes.to = parts.one_part g e.part goes.to goes.to.start known.0 goes.is (omega (arith, begin), omega (arith, begin, some.1)) (omega arith, omega (arith, some₂.1)) in
        record { own = known.1; is = known.0; holds = subst (λ (p : Part). HoldsMoment p part.part.start) (sym same) goes.holds }

    go : (last : Option Entry) → last_of move.pending move.listed ≡ last → starts last move.series goes.to part.head_len revived ≡ Some start → IsOfPart g move.series part start.entry
    go None none begins = of_fresh (sym (cc (begins)))
    go (Some e) last begins = elim (after_cases e goes.to.start (fresh move.series goes.to part.head_len revived) start begins) [
      | inl (begin, same) ↦ subst (λ (s : Start). IsOfPart g move.series part s.entry) (sym same) (of_last e last begin)
      | inr same ↦ of_fresh same
    ]

-- WHAT IS KEPT

-- entries are in order by their places alone
after_same : (p q : Place) → p ≡ q → (xs ys : List Entry) → map place xs ≡ map place ys → AllByRecursion (λ d. comes_before p (place d) ≡ true) xs → AllByRecursion (λ d. comes_before q (place d) ≡ true) ys
after_same p q same [] [] are all = tt
after_same p q same [] (y ∷ ys) are all = absurd (cc (are))
after_same p q same (x ∷ xs) [] are all = absurd (cc (are))
after_same p q same (x ∷ xs) (y ∷ ys) are all = (cc (same, are, all.0), after_same p q same xs ys (cc (are)) all.1)

in_order_same : (xs ys : List Entry) → map place xs ≡ map place ys → InOrder xs → InOrder ys
in_order_same [] [] are order = tt
in_order_same [] (y ∷ ys) are order = absurd (cc (are))
in_order_same (x ∷ xs) [] are order = absurd (cc (are))
in_order_same (x ∷ xs) (y ∷ ys) are order = (after_same (place x) (place y) (cc (are)) xs ys (cc (are)) order.0, in_order_same xs ys (cc (are)) order.1)

pub part_is : (fine : Granularity) (move : Moving) (part : Entry) → IsMove fine move → slice_get move.parts move.at ≡ Some part → IsPart fine part.part × (part.series ≡ move.series)
part_is fine move part is next =
    subst (λ (e : Entry). IsPart fine e.part × (e.series ≡ move.series)) (get_or_from_slice_get move.parts move.at part part next) (is.parts move.at part (slice_get_within move.parts move.at part next))

few_then : (move : Moving) → FewPending move → length move.pending ≤ move.at + 1
few_then move (inl few) = omega (arith, few)
few_then move (inr (one, next)) = omega (arith, one)

-- no more entries are to be listed than there are parts
pub pending_few : (fine : Granularity) (move : Moving) → IsMove fine move → length move.pending ≤ length move.parts
pending_few fine move is = elim is.most [
  | inl few ↦ omega (arith, few, is.at)
  | inr (one, next) ↦ omega (arith, one, slice_get_within move.parts move.at next.part next.next)
]

pub finish_keeps : (fine : Granularity) (move : Moving) (part : Entry) (len : ℕ) → IsMove fine move → slice_get move.parts move.at ≡ Some part → IsMove fine (finished move part len)
finish_keeps fine move part len is next =
    let new : Entry = record part { len = len } in
    let within : move.at < length move.parts = slice_get_within move.parts move.at part next in
    let here : get_or move.parts move.at part ≡ part = get_or_from_slice_get move.parts move.at part part next in
    let long = length-set move.parts move.at new in
    record {
      nested = is.nested;
      parts = All-set (λ (e : Entry). IsPart fine e.part × (e.series ≡ move.series)) move.parts move.at new (part_is fine move part is next) is.parts;
      in_order = in_order_same move.parts (set move.parts move.at new) (sym (map-set_same place move.parts move.at new part (ap place (sym here)))) is.in_order;
      few = omega (arith, long, is.few);
      at = omega (arith, long, within);
      pending = is.pending;
      most = inl (few_then move is.most);
      listed = is.listed;
      files = is.files ∙ sym (map-set_same (part_file move.source move.name) move.parts move.at new part (ap (part_file move.source move.name) (sym here)));
    }

-- what is to be listed is set in the partition of the part at hand
module _ (fine : Granularity) (move : Moving) (part entry : Entry) (pending : List Entry) (is : IsMove fine move) (next : slice_get move.parts move.at ≡ Some part) (of_part : IsOfPart move.granularity move.series part entry) where
  abbrev pub P : Entry → Type 0
  P e = IsPart move.granularity e.part × (e.series ≡ move.series)

  here : P entry
  here = (of_part.is, of_part.own)

  pub set_all : SetsLast entry move.pending pending → All P pending
  set_all (inl takes) = subst (All P) (sym takes.becomes) (All-append P takes.rest (entry ∷ []) (front takes.rest takes.last (subst (All P) takes.are is.pending)) (All-cons P entry [] here (All-nil P)))
    where
      front : (rest : List Entry) (last : Entry) → All P (rest ++ last ∷ []) → All P rest
      front [] last all = All-nil P
      front (x ∷ rest) last all = All-cons P x rest (All-head P x (rest ++ last ∷ []) all) (front rest last (All-tail P x (rest ++ last ∷ []) all))
  set_all (inr stands) = subst (All P) (sym stands.becomes) (All-append P move.pending (entry ∷ []) is.pending (All-cons P entry [] here (All-nil P)))

  of_next : (rest : List Entry) → pending ≡ rest ++ entry ∷ [] → OfNext (with_pending move pending)
  of_next rest are = record { rest = rest; entry = entry; part = part; are = are; next = next; holds = of_part.holds }

  not_twice : OfNext move → ((rest : List Entry) (last : Entry) → move.pending ≡ rest ++ last ∷ [] → last.part.start ≢ entry.part.start) → ⊥
  not_twice one other =
      let known = All-contains P move.pending one.entry is.pending (last_within one) in
      let q : one.part ≡ part = one_next move one.part part one.next next in
      let same : one.entry.part ≡ entry.part = parts.one_part move.granularity one.entry.part entry.part part.part.start known.0 of_part.is (subst (λ (e : Entry). HoldsMoment one.entry.part e.part.start) q one.holds) of_part.holds in
      other one.rest one.entry one.are (ap (λ (p : Part). p.start) same)
    where
      last_within : (one : OfNext move) → Contains move.pending one.entry
      last_within one = subst (λ (l : List Entry). Contains l one.entry) (sym one.are) (length one.rest, omega (arith, length-append one.rest (one.entry ∷ [])), get_or-append_seam one.rest one.entry [] one.entry)

  pub set_few : SetsLast entry move.pending pending → FewPending (with_pending move pending)
  set_few (inl takes) =
      let long = ap length takes.are ∙ length-append takes.rest (takes.last ∷ []) in
      let size = ap length takes.becomes ∙ length-append takes.rest (entry ∷ []) in
      elim is.most [
        | inl few ↦ inl (omega (arith, long, size, few))
        | inr (one, of) ↦ inr (omega (arith, long, size, one), of_next takes.rest takes.becomes)
      ]
  set_few (inr stands) =
      let size = ap length stands.becomes ∙ length-append move.pending (entry ∷ []) in
      elim is.most [
        | inl few ↦ elim (cases_lt (length move.pending) move.at) [
          | inl fewer ↦ inl (omega (arith, size, fewer))
          | inr all ↦ inr (omega (arith, size, few, all), of_next move.pending stands.becomes)
        ]
        | inr (one, of) ↦ absurd (not_twice of stands.other)
      ]

  pub set_keeps : SetsLast entry move.pending pending → IsMove fine (with_pending move pending)
  set_keeps sets = record { nested = is.nested; parts = is.parts; in_order = is.in_order; few = is.few; at = is.at; pending = set_all sets; most = set_few sets; listed = is.listed; files = is.files }

pub advances_keep : (fine : Granularity) (move new : Moving) (revived : Option Entry) (len : ℕ) → IsMove fine move → IfSome revived (CanRevive move) → Advances move new revived len → IsMove fine new
advances_keep fine move new revived len is can goes = elim goes.is [
  | inl same ↦ subst (IsMove fine) (sym same) pending_is
  | inr (part, next, same) ↦ subst (IsMove fine) (sym same) (finish_keeps fine (with_pending move goes.pending) part len pending_is next)
]
  where
    pending_is : IsMove fine (with_pending move goes.pending)
    pending_is = elim goes.sets [
      | inl same ↦ subst (λ (ps : List Entry). IsMove fine (with_pending move ps)) (sym same) is
      | inr (part, start, entry, to, of, own, longer, sets) ↦
          let at = start_is fine move revived part start is can to in
          set_keeps fine move part entry goes.pending is to.at_hand
          (record { own = own ∙ at.own; is = subst (λ (p : Part). IsPart move.granularity p) (sym of) at.is; holds = subst (λ (p : Part). HoldsMoment p part.part.start) (sym of) at.holds }) sets
    ]

-- How a step of copying ends.

pub no_part : (move : Moving) (revived : Option Entry) (part : Entry) (start : Start) → slice_get move.parts move.at ≡ None → GoesTo move revived part start → ⊥
no_part move revived part start none goes = let no : ◌≡◌ {A = Option Entry} None (Some part) = sym none ∙ goes.at_hand in absurd (cc (no))

none_between : (from len : ℕ) (b : List ℕ) → from ≡ len → between from len b ≡ []
none_between from len b same = go (len - from) (omega (arith, same)) (drop from b)
  where
    go : (n : ℕ) → n ≡ 0 → (l : List ℕ) → take n l ≡ []
    go zero is l = refl
    go (suc n) is l = absurd (omega (arith, is))

-- nothing of the part was left
pub ends_covered : (move : Moving) (start : Start) (p part : Entry) (from len most : ℕ) (b : List ℕ) (disk : DiskShown) → from ≡ len → CopiesPart move (finished move p len) start part from len most b disk.files disk
ends_covered move start p part from len most b disk same = (
  [],
  record {
    entry = start.entry;
    part_is = refl;
    series_is = refl;
    takes = subst (λ (rest : List ℕ). Takes (take part.head_len b) rest most [] start.entry start.entry) (sym (none_between from len b same)) (takes_none (take part.head_len b) most start.entry);
    writes = inr (record { none = refl; same = refl; same_files = refl });
  },
  (λ is. omega (arith, same), λ is. refl),
)

few_taken : (from len : ℕ) (b head lines : List ℕ) (most : ℕ) (old new : Entry) → from ≤ len → Takes head (between from len b) most lines old new → from + length lines ≤ len
few_taken from len b head lines most old new within takes = let long = ap length takes.front in omega (arith, long, within, length-take (length lines) (between from len b), length-take (len - from) (drop from b))

-- some of it is left
pub ends_more : (move new : Moving) (start : Start) (part : Entry) (from len most n : ℕ) (b lines : List ℕ) (files : Files) (later : DiskShown) → new ≡ with_pending move new.pending → length lines ≡ n → n < len - from → Copies (target_file move start) start part from len most b move.pending new.pending files later lines
    → CopiesPart move new start part from len most b files later
ends_more move new start part from len most n b lines files later same long fewer copies = (
  lines,
  copies,
  (λ is. let at = ap (λ (m : Moving). m.at) same in absurd (omega (arith, is, at)), λ is. absurd (omega (arith, is, long, fewer))),
)

-- or all is copied
pub ends_whole : (move mid : Moving) (start : Start) (p part : Entry) (from len most n : ℕ) (b lines : List ℕ) (files : Files) (later : DiskShown) → from ≤ len → mid ≡ with_pending move mid.pending → length lines ≡ n → len - from ≤ n → Copies (target_file move start) start part from len most b move.pending mid.pending files later lines
    → CopiesPart move (finished mid p len) start part from len most b files later
ends_whole move mid start p part from len most n b lines files later within same long all copies = (
  lines,
  copies,
  (λ is. omega (arith, long, all, within, few_taken from len b (take part.head_len b) lines most start.entry copies.entry within copies.takes), λ is. ap (λ (m : Moving). m.at + 1) same),
)

-- THE MOVE

pub advances_none : (move : Moving) (revived : Option Entry) (len : ℕ) → Advances move move revived len
advances_none move revived len = record { pending = move.pending; is = inl refl; sets = inl refl }

pub advances_covered : (move : Moving) (revived : Option Entry) (part : Entry) (len : ℕ) → slice_get move.parts move.at ≡ Some part → Advances move (finished move part len) revived len
advances_covered move revived part len next = record { pending = move.pending; is = inr (part, next, refl); sets = inl refl }

sets_in : (move : Moving) (revived : Option Entry) (part : Entry) (start : Start) (pending : List Entry) → GoesTo move revived part start → SetsPart move start pending
    → (pending ≡ move.pending) ⊎ ((p : Entry) × (s : Start) × (entry : Entry) × GoesTo move revived p s × (entry.part ≡ s.entry.part) × (entry.series ≡ s.entry.series) × (s.entry.len ≤ entry.len) × SetsLast entry move.pending pending)
sets_in move revived part start pending goes (inl same) = inl same
sets_in move revived part start pending goes (inr (e, of, own, longer, sets)) = inr (part, start, e, goes, of, own, longer, sets)

pub advances_more : (move new : Moving) (revived : Option Entry) (part : Entry) (start : Start) (len : ℕ) → GoesTo move revived part start → new ≡ with_pending move new.pending → SetsPart move start new.pending → Advances move new revived len
advances_more move new revived part start len goes same sets = record { pending = new.pending; is = inl same; sets = sets_in move revived part start new.pending goes sets }

pub advances_whole : (move mid : Moving) (revived : Option Entry) (part : Entry) (start : Start) (len : ℕ) → GoesTo move revived part start → mid ≡ with_pending move mid.pending → SetsPart move start mid.pending → Advances move (finished mid part len) revived len
advances_whole move mid revived part start len goes same sets = record {
  pending = mid.pending;
  is = inr (part, goes.at_hand, ap (λ (m : Moving). finished m part len) same);
  sets = sets_in move revived part start mid.pending goes sets;
}

-- what is copied next stays where the part isn't finished
pub still_next : (move new : Moving) (part : Entry) → new ≡ with_pending move new.pending → slice_get move.parts move.at ≡ Some part → slice_get new.parts new.at ≡ Some part
still_next move new part same next = ap (λ (m : Moving). slice_get m.parts m.at) same ∙ next

pub not_all : (move new : Moving) (part : Entry) → new ≡ with_pending move new.pending → slice_get move.parts move.at ≡ Some part → new.at ≡ length new.parts → ⊥
not_all move new part same next all = let low = slice_get_within new.parts new.at part (still_next move new part same next) in omega (arith, low, all)

-- what holds of one part and place holds of any
pub by_one : (move : Moving) (revived : Option Entry) (p q : Entry) (s t : Start) (P : Entry → Start → Type 0) → GoesTo move revived p s → GoesTo move revived q t → P p s → P q t
by_one move revived p q s t P one two is = let same = one_start move revived p q s t one two in subst (λ (e : Entry). P e t) same.0 (subst (λ (x : Start). P p x) same.1 is)

pub still_running : (fine : Granularity) (move new : Moving) (revived : Option Entry) (len : ℕ) (result : Result CopiedEnd DiskErr) → OnOk result (Advances move new revived len) → OnErr result (new ≡ move) → IsMove fine move → IfSome revived (CanRevive move) → IsMove fine new
still_running fine move new revived len (Ok x) goes same is can = advances_keep fine move new revived len is can goes
still_running fine move new revived len (Err e) goes same is can = subst (IsMove fine) (sym same) is

-- no part is left
pub all_copied : (fine : Granularity) (move : Moving) → IsMove fine move → slice_get move.parts move.at ≡ None → move.at ≡ length move.parts
all_copied fine move is none = elim (cases_lt move.at (length move.parts)) [
  | inl fewer ↦ absurd (some_there move.parts move.at fewer none)
  | inr all ↦ omega (arith, all, is.at)
]
  where
    some_there : (xs : List Entry) (k : ℕ) → k < length xs → slice_get xs k ≡ None → ⊥
    some_there [] k low gone = absurd (omega (arith, low))
    some_there (x ∷ xs) k low gone =
        let none_some : ◌≡◌ {A = Option Entry} (Some (get_or (x ∷ xs) k x)) None = sym (slice_get-get_or (x ∷ xs) k x low) ∙ gone in
        absurd (cc (none_some))

-- What a step of copying writes, and what it leaves.

-- WHERE THE DISK IS ONLY READ

pub reads_none : (disk : DiskShown) → ReadsDisk disk disk
reads_none disk = record { same = refl; same_opened = refl; any_moment = passes_none (λ a b. b ≡ a) disk.past (λ a left. refl) }

keeps_itself : (name : Name) (n : ℕ) (a b : Files) → b ≡ a → At name (Keeps n) a b
keeps_itself name n a b same = record {
  here = λ front some low begins. subst (λ (f : Files). Begins front (f name)) (sym same) begins;
  elsewhere = λ m apart. ap (λ (f : Files). f m) same;
}

-- each file stays as it is
pub reads_leave : (name : Name) (at : Option ℕ) (old new : DiskShown) → ((n : ℕ) → at ≡ Some n → IsLongUnopened n name old.files old.opened) → ReadsDisk old new → LeavesFile name at old new
reads_leave name at old new room reads = record {
  any_moment = passes_weaker (λ a b. b ≡ a) (At name (Keeps (start_of at))) old.past new.past reads.any_moment (λ a c left same. keeps_itself name (start_of at) a c same);
  front = (keeps_itself name (start_of at) old.files new.files reads.same).here;
  long = λ n is. let was = room n is in record { bytes = was.bytes; file = ap (λ (f : Files). f name) reads.same ∙ was.file; holds = was.holds.1 };
  elsewhere = λ n apart. ap (λ (f : Files). f n) reads.same;
  fewer = same_opened old.opened new.opened reads.same_opened;
}

-- and a write behind it is as one from before it
pub reads_then_leave : (name : Name) (at : Option ℕ) (old now new : DiskShown) → ReadsDisk old now → LeavesFile name at now new → LeavesFile name at old new
reads_then_leave name at old now new reads leaves = record {
  any_moment = keeps_more name (start_of at) old.past now.past new.past (passes_weaker (λ a b. b ≡ a) (At name (Keeps (start_of at))) old.past now.past reads.any_moment (λ a c left same. keeps_itself name (start_of at) a c same)) leaves.any_moment;
  front = λ front some low begins. leaves.front front some low (subst (λ (f : Files). Begins front (f name)) (sym reads.same) begins);
  long = leaves.long;
  elsewhere = λ n apart. leaves.elsewhere n apart ∙ ap (λ (f : Files). f n) reads.same;
  fewer = λ n. let same = ap (λ (o : Name → ℕ). o n) reads.same_opened in omega (arith, leaves.fewer n, same);
}

pub reads_room : (name : Name) (n : ℕ) (old new : DiskShown) → ReadsDisk old new → IsLongUnopened n name old.files old.opened → HasFile new.files name (λ b. (new.opened name ≤ n) × (n ≤ length b))
reads_room name n old new reads was =
    let same = ap (λ (o : Name → ℕ). o name) reads.same_opened in
    record { bytes = was.bytes; file = ap (λ (f : Files). f name) reads.same ∙ was.file; holds = (omega (arith, was.holds.0, same), was.holds.1) }

-- WHAT IS WRITTEN

-- behind a listed length the lines, in a file made anew the header before them
wrote_at : (name : Name) (at : Option ℕ) (head lines : List ℕ) (files : Files) (later : DiskShown) → ((len : ℕ) → at ≡ Some len → WritesFile name at lines files later) → (at ≡ None → WritesFile name at (head ++ lines) files later) → WritesFile name at (written_at at head lines) files later
wrote_at name None head lines files later grows makes = makes refl
wrote_at name (Some len) head lines files later grows makes = grows len refl

-- a call that wrote them after it had read
pub has_copied : (name : Name) (start : Start) (part entry : Entry) (from len most : ℕ) (b head lines : List ℕ) (old pending : List Entry) (disk mid later : DiskShown)
    → ReadsDisk disk mid → entry.part ≡ start.entry.part → entry.series ≡ start.entry.series → head ≡ take part.head_len b → Takes (take part.head_len b) (between from len b) most lines start.entry entry
    → ((n : ℕ) → start.at ≡ Some n → WritesFile name start.at lines mid.files later) → (start.at ≡ None → WritesFile name start.at (head ++ lines) mid.files later) → SetsLast entry old pending
    → Copies name start part from len most b old pending disk.files later lines
has_copied name start part entry from len most b head lines old pending disk mid later reads part_is series_is head_is takes grows makes sets = record {
  entry = entry;
  part_is = part_is;
  series_is = series_is;
  takes = takes;
  writes = inl (record {
    wrote = subst (λ (f : Files). WritesFile name start.at (written_at start.at (take part.head_len b) lines) f later) reads.same
        (subst (λ (h : List ℕ). WritesFile name start.at (written_at start.at h lines) mid.files later) head_is (wrote_at name start.at head lines mid.files later grows makes));
    set = sets;
  });
}

-- one that found no line
pub copied_none : (name : Name) (start : Start) (part entry : Entry) (from len most : ℕ) (b lines : List ℕ) (pending : List Entry) (files : Files) (later : DiskShown)
    → entry.part ≡ start.entry.part → entry.series ≡ start.entry.series → Takes (take part.head_len b) (between from len b) most lines start.entry entry → length lines ≡ 0 → later.files ≡ files → Copies name start part from len most b pending pending files later lines
copied_none name start part entry from len most b lines pending files later part_is series_is takes none same = record { entry = entry; part_is = part_is; series_is = series_is; takes = takes; writes = inr (record { none = empty lines none; same = refl; same_files = same }) }
  where
    empty : (l : List ℕ) → length l ≡ 0 → l ≡ []
    empty [] is = refl
    empty (x ∷ xs) is = absurd (omega (arith, is))

-- What stands ahead of a destination, from one step of copying to the next.

-- A FILE IS PUT TWICE

filter_same : (p : Filed → Bool) (xs : List Filed) → filter p (filter p xs) ≡ filter p xs
filter_same p [] = refl
filter_same p (x ∷ xs) = go (p x) refl (filter_same p xs)
  where
    go : (b : Bool) → p x ≡ b → filter p (filter p xs) ≡ filter p xs → filter p (cond b (x ∷ filter p xs) (filter p xs)) ≡ cond b (x ∷ filter p xs) (filter p xs)
    go true is rest = ap (λ b. cond b (x ∷ filter p (filter p xs)) (filter p (filter p xs))) is ∙ ap (λ (l : List Filed). x ∷ l) rest
    go false is rest = rest

filter_none : (p q : Filed → Bool) (xs : List Filed) → ((y : Filed) → q y ≡ true → p y ≡ false) → filter p (filter q xs) ≡ []
filter_none p q [] apart = refl
filter_none p q (x ∷ xs) apart = go (q x) refl (filter_none p q xs apart)
  where
    go : (b : Bool) → q x ≡ b → filter p (filter q xs) ≡ [] → filter p (cond b (x ∷ filter q xs) (filter q xs)) ≡ []
    go true is rest = ap (λ b. cond b (x ∷ filter p (filter q xs)) (filter p (filter q xs))) (apart x is) ∙ rest
    go false is rest = rest

not_before : (p : Place) → comes_before p p ≡ false
not_before p = grind (arith, nat_tests)

one_side : (p q : Place) → comes_before p q ≡ true → comes_before q p ≡ false
one_side p q is = grind (arith, nat_tests)

pub put_twice : (x f : Filed) (xs : List Filed) → filed_at x ≡ filed_at f → put filed_at f (put filed_at x xs) ≡ put filed_at f xs
put_twice x f xs same = ap (λ (p : Place). put filed_at f (spliced filed_at p (x ∷ []) xs)) same ∙ (ap (λ (l : List Filed). l ++ (f ∷ filter high (low_of ++ (x ∷ high_of)))) low_is ∙ ap (λ (l : List Filed). low_of ++ (f ∷ l)) high_is)
  where
    q : Place
    q = filed_at f

    low : Filed → Bool
    low y = comes_before (filed_at y) q

    high : Filed → Bool
    high y = comes_before q (filed_at y)

    low_of : List Filed
    low_of = filter low xs

    high_of : List Filed
    high_of = filter high xs

    x_low : low x ≡ false
    x_low = ap (λ (p : Place). comes_before p q) same ∙ not_before q

    x_high : high x ≡ false
    x_high = ap (λ (p : Place). comes_before q p) same ∙ not_before q

    low_is : filter low (low_of ++ (x ∷ high_of)) ≡ low_of
    low_is =
        filter-append low low_of (x ∷ high_of)
        ∙ (ap (λ (l : List Filed). l ++ filter low (x ∷ high_of)) (filter_same low xs)
        ∙ (ap (λ b. low_of ++ cond b (x ∷ filter low high_of) (filter low high_of)) x_low
        ∙ (ap (λ (l : List Filed). low_of ++ l) (filter_none low high xs (λ y is. one_side q (filed_at y) is)) ∙ append-nil low_of)))

    high_is : filter high (low_of ++ (x ∷ high_of)) ≡ high_of
    high_is =
        filter-append high low_of (x ∷ high_of)
        ∙ (ap (λ (l : List Filed). l ++ filter high (x ∷ high_of)) (filter_none high low xs (λ y is. one_side (filed_at y) q is))
        ∙ (ap (λ b. cond b (x ∷ filter high high_of) (filter high high_of)) x_high ∙ filter_same high xs))

put_all-append : (files xs ys : List Filed) → put_all files (xs ++ ys) ≡ put_all (put_all files xs) ys
put_all-append files [] ys = refl
put_all-append files (x ∷ xs) ys = put_all-append (put filed_at x files) xs ys

-- THE ENTRIES THAT ARE TO BE LISTED

pub map_append : (xs ys : List Filed) → map entry_of (xs ++ ys) ≡ map entry_of xs ++ map entry_of ys
map_append [] ys = refl
map_append (x ∷ xs) ys = ap (λ (l : List Entry). x.entry ∷ l) (map_append xs ys)

-- the files among those that are held
abbrev pub with_more : Held → List Filed → Held
with_more held files = record { store = held.store; rows = held.rows; files = files; stands = held.stands }

behind_all : (move new : Moving) (held ahead : Held) (f : Filed) → IsAhead move held ahead → new.pending ≡ move.pending ++ f.entry ∷ [] → IsAhead new held (with_files ahead (f ∷ []))
behind_all move new held ahead f is becomes = record {
  files = is.files ++ f ∷ [];
  are = ap (λ (h : Held). with_files h (f ∷ [])) is.are ∙ ap (with_more held) (sym (put_all-append held.files is.files (f ∷ [])));
  pending = becomes ∙ (ap (λ (l : List Entry). l ++ f.entry ∷ []) is.pending ∙ sym (map_append is.files (f ∷ [])));
}

in_place : (move new : Moving) (held ahead : Held) (f l : Filed) (rest : List Entry) (last : Entry) (front : List Filed) → IsAhead move held ahead → move.pending ≡ rest ++ last ∷ [] → new.pending ≡ rest ++ f.entry ∷ [] → (are : ahead ≡ with_files held (front ++ l ∷ [])) → move.pending ≡ map entry_of (front ++ l ∷ []) → ((l.entry ≡ last) → filed_at l ≡ filed_at f)
    → IsAhead new held (with_files ahead (f ∷ []))
in_place move new held ahead f l rest last front is old becomes are pending place =
    let ends = same_last (map entry_of front) rest l.entry last (sym (map_append front (l ∷ [])) ∙ (sym pending ∙ old)) in
    let here : filed_at l ≡ filed_at f = place ends.1 in
    record {
      files = front ++ f ∷ [];
      are =
          ap (λ (h : Held). with_files h (f ∷ [])) are
          ∙ (ap (λ (fs : List Filed). with_more held (put filed_at f fs)) (put_all-append held.files front (l ∷ []))
          ∙ (ap (with_more held) (put_twice l f (put_all held.files front) here) ∙ ap (with_more held) (sym (put_all-append held.files front (f ∷ [])))));
      pending = becomes ∙ (ap (λ (es : List Entry). es ++ f.entry ∷ []) (sym ends.0) ∙ sym (map_append front (f ∷ [])));
    }

none_last : (xs : List Entry) (x : Entry) → [] ≡ xs ++ x ∷ [] → ⊥
none_last xs x is = let long = ap length is in omega (arith, long, length-append xs (x ∷ []))

-- once its file has the lines that were copied, the pending entries are ahead with it
pub ahead_on : (move new : Moving) (held ahead : Held) (f : Filed) → All (λ (e : Entry). e.series ≡ move.series) move.pending → IsAhead move held ahead → f.entry.series ≡ move.series → SetsLast f.entry move.pending new.pending → IsAhead new held (with_files ahead (f ∷ []))
ahead_on move new held ahead f all is own (inr stands) = behind_all move new held ahead f is stands.becomes
ahead_on move new held ahead f all is own (inl takes) = elim (last_view is.files) [
  | inl none ↦ absurd (none_last takes.rest takes.last (sym (is.pending ∙ ap (map entry_of) none) ∙ takes.are))
  | inr (front, l, are) ↦
      in_place move new held ahead f l takes.rest takes.last front is takes.are takes.becomes (is.are ∙ ap (with_files held) are) (is.pending ∙ ap (map entry_of) are) (λ same.
      let series : takes.last.series ≡ f.entry.series = All-contains (λ (e : Entry). e.series ≡ move.series) move.pending takes.last all (last_within takes.rest takes.last takes.are) ∙ sym own in
      ap (λ (e : Entry). (e.series, e.part.start)) same ∙ (ap (λ (n : ℕ). (n, takes.last.part.start)) series ∙ ap (λ (n : ℕ). (f.entry.series, n)) takes.same))
]
  where
    last_within : (rest : List Entry) (last : Entry) → move.pending ≡ rest ++ last ∷ [] → Contains move.pending last
    last_within rest last are = subst (λ (l : List Entry). Contains l last) (sym are) (length rest, omega (arith, length-append rest (last ∷ [])), get_or-append_seam rest last [] last)

-- WHERE COPYING GOES ON

-- the last entry that is listed or is to be is one of a file ahead
pub record HasEntry (ahead : Held) (e : Entry) : Type 0 where
  pub file : Filed
  pub within : Contains ahead.files file
  pub entry : file.entry ≡ e

filter_within : (p : Entry → Bool) (xs : List Entry) (e : Entry) → Contains (filter p xs) e → Contains xs e
filter_within p [] e has = has
filter_within p (x ∷ xs) e has = go (p x) (filter_within p xs e) has
  where
    go : (b : Bool) → (Contains (filter p xs) e → Contains xs e) → Contains (cond b (x ∷ filter p xs) (filter p xs)) e → Contains (x ∷ xs) e
    go true rest (zero, low, same) = (zero, omega arith, same)
    go true rest (suc k, low, same) = let has = rest (k, omega (arith, low), same) in (suc has.0, omega (arith, has.1), has.2)
    go false rest has = let has₂ = rest has in (suc has₂.0, omega (arith, has₂.1), has₂.2)

pub last_of-push : (xs : List Entry) (x : Entry) (o : Option Entry) → last_of (xs ++ x ∷ []) o ≡ Some x
last_of-push [] x o = refl
last_of-push (y ∷ ys) x o = last_of-push ys x (Some y)

listed_entry : (m : ManifestState) (held : Held) (series : ℕ) (o : Option Entry) (e : Entry) → m.entries ≡ map entry_of held.files → IsLastOf m.entries series o → o ≡ Some e → HasEntry held e
listed_entry m held series None e are last is = absurd (cc (is))
listed_entry m held series (Some x) e are last is =
    let same : x ≡ e = cc (is) in
    let within : Contains (filter (λ (d : Entry). nat_eq d.series series) m.entries) x = subst (λ (l : List Entry). Contains l x) (sym last.1) (length last.0, omega (arith, length-append last.0 (x ∷ [])), get_or-append_seam last.0 x [] x) in
    let file = contains_map held.files x (subst (λ (l : List Entry). Contains l x) are (filter_within (λ (d : Entry). nat_eq d.series series) m.entries x within)) in
    record { file = file.0; within = file.1; entry = file.2 ∙ same }

last_entry : (m : ManifestState) (held ahead : Held) (move : Moving) (e : Entry) → m.entries ≡ map entry_of held.files → IsAhead move held ahead → IsLastOf m.entries move.series move.listed → last_of move.pending move.listed ≡ Some e → HasEntry ahead e
last_entry m held ahead move e are is last same = elim (last_view is.files) [
  | inl none ↦
      let pending : move.pending ≡ [] = is.pending ∙ ap (map entry_of) none in
      let listed : move.listed ≡ Some e = ap (λ (l : List Entry). last_of l move.listed) (sym pending) ∙ same in
      subst (λ (h : Held). HasEntry h e) (sym (is.are ∙ ap (with_files held) none)) (listed_entry m held move.series move.listed e are last listed)
  | inr (front, l, files) ↦
      let pending : move.pending ≡ map entry_of front ++ l.entry ∷ [] = is.pending ∙ (ap (map entry_of) files ∙ map_append front (l ∷ [])) in
      let some : ◌≡◌ {A = Option Entry} (Some l.entry) (Some e) = sym (last_of-push (map entry_of front) l.entry move.listed) ∙ (ap (λ (l : List Entry). last_of l move.listed) (sym pending) ∙ same) in
      let ends : ahead.files ≡ put filed_at l (put_all held.files front) = ap (λ (h : Held). h.files) (is.are ∙ ap (with_files held) files) ∙ put_all-append held.files front (l ∷ []) in
      record { file = l; within = subst (λ (fs : List Filed). Contains fs l) (sym ends) (put_itself l (put_all held.files front)); entry = cc (some) }
]

-- its name in the store
to_name : (move : Moving) (shelf : Shelf) (e : Entry) → IsToRow move shelf → e.series ≡ move.series → file_of shelf e ≡ part_file move.destination move.name e
to_name move shelf e row own =
    ap (λ (n : ℕ). (n, path_of (name_of (slice_get shelf.1 e.series)) e.part.name)) (sym row.store)
    ∙ (ap (λ (n : ℕ). (move.destination, path_of (name_of (slice_get shelf.1 n)) e.part.name)) own
    ∙ (ap (λ (o : Option Row). (move.destination, path_of (name_of o) e.part.name)) row.stands ∙ ap (λ (t : List ℕ). (move.destination, path_of t e.part.name)) row.name))

-- each file that may go on stands on the disk
pub targets : (fine : Granularity) (catalogue : JournalState) (m : ManifestState) (shelf : Shelf) (disk : DiskShown) (held ahead : Held) (move : Moving) (revived : Option Entry) → IsMove fine move → HasCopied catalogue m shelf disk held ahead → IsAhead move held ahead → IsLastOf m.entries move.series move.listed → IsToRow move shelf
    → ((e : Entry) → revived ≡ Some e → IsLongUnopened e.len (part_file move.destination move.name e) disk.files disk.opened) → HasTargets move revived disk.files disk.opened
targets fine catalogue m shelf disk held ahead move revived is has at last row old part start n goes some = go (last_of move.pending move.listed) refl goes.begins
  where
    of_fresh : start ≡ fresh move.series goes.to part.head_len revived → IsLongUnopened n (target_file move start) disk.files disk.opened
    of_fresh same = by_old revived refl
      where
        by_old : (o : Option Entry) → revived ≡ o → IsLongUnopened n (target_file move start) disk.files disk.opened
        by_old None none =
            let no : ◌≡◌ {A = Option ℕ} None (Some n) = sym (ap (λ (s : Start). s.at) (same ∙ ap (fresh move.series goes.to part.head_len) none)) ∙ some in
            absurd (cc (no))
        by_old (Some e) one =
            let start_is : start ≡ fresh move.series goes.to part.head_len (Some e) = same ∙ ap (fresh move.series goes.to part.head_len) one in
            let len : ◌≡◌ {A = Option ℕ} (Some e.len) (Some n) = sym (ap (λ (s : Start). s.at) start_is) ∙ some in
            let long : e.len ≡ n = cc (len) in
            subst (λ (s : Start). IsLongUnopened n (target_file move s) disk.files disk.opened) (sym start_is) (subst (λ (k : ℕ). IsLongUnopened k (part_file move.destination move.name e) disk.files disk.opened) long (old e one))

    of_last : (e : Entry) → last_of move.pending move.listed ≡ Some e → start ≡ record { entry = e; at = Some e.len } → IsLongUnopened n (target_file move start) disk.files disk.opened
    of_last e here same =
        let file = last_entry m held ahead move e has.stored.entries at last here in
        let len : ◌≡◌ {A = Option ℕ} (Some e.len) (Some n) = sym (ap (λ (s : Start). s.at) same) ∙ some in
        let long : e.len ≡ n = cc (len) in
        let own = last_all (λ (x : Entry). IsPart move.granularity x.part × (x.series ≡ move.series)) move.pending move.listed e is.pending is.listed here in
        let name : file_of (shelf_of ahead) file.file.entry ≡ part_file move.destination move.name e = ap (λ (s : Shelf). file_of s file.file.entry) has.safe.of_rows ∙ (ap (file_of shelf) file.entry ∙ to_name move shelf e row own.1) in
        let was = All-contains (λ (h : Filed). HasFile disk.files (file_of (shelf_of ahead) h.entry) (λ b. h.entry.len ≤ length b)) ahead.files file.file has.safe.safe.long file.within in
        let low = All-contains (λ (h : Filed). disk.opened (file_of (shelf_of ahead) h.entry) ≤ h.entry.len) ahead.files file.file has.safe.safe.unopened file.within in
        let size = ap (λ (x : Entry). x.len) file.entry in
        subst (λ (s : Start). IsLongUnopened n (target_file move s) disk.files disk.opened) (sym same)
        (subst (λ (x : Name). IsLongUnopened n x disk.files disk.opened) name (record { bytes = was.bytes; file = was.file; holds = (omega (arith, low, size, long), omega (arith, was.holds, size, long)) }))

    go : (o : Option Entry) → last_of move.pending move.listed ≡ o → starts o move.series goes.to part.head_len revived ≡ Some start → IsLongUnopened n (target_file move start) disk.files disk.opened
    go None none begins = of_fresh (sym (cc (begins)))
    go (Some e) here begins = elim (after_cases e goes.to.start (fresh move.series goes.to part.head_len revived) start begins) [
      | inl (begin, same) ↦ of_last e here same
      | inr same ↦ of_fresh same
    ]

-- FROM THE BEGINNING ON

-- nothing is ahead when a move begins
pub begins_ahead : (catalogue : JournalState) (m : ManifestState) (shelf : Shelf) (disk : DiskShown) (held : Held) (move : Moving) → IsStoredAs catalogue m shelf disk held → move.pending ≡ [] → HasCopied catalogue m shelf disk held held × IsAhead move held held
begins_ahead catalogue m shelf disk held move stored none = (
  record {
    stored = stored;
    leads = record {
      same_shelf = refl;
      same_stands = refl;
      each = λ k d lt. let h : Filed = get_or held.files k d in record { file = h; within = Contains-get_or held.files k d lt; name = refl; longer = omega arith; front = λ stands. (omega arith, take_all (length (bytes_of h)) (bytes_of h) (omega arith)) };
    };
    safe = record { of_rows = stored.of_rows; valid = stored.stored.tier.valid; safe = stored.stored.tier.safe };
  },
  record { files = []; are = refl; pending = none },
)

-- the parts stay the partitions that they are
pub still_lists : (move new : Moving) (revived : Option Entry) (len : ℕ) (m : ManifestState) → Advances move new revived len → StillLists move m → StillLists new m
still_lists move new revived len m goes lists = elim goes.is [
  | inl same ↦ subst (λ (x : Moving). StillLists x m) (sym same) (record { now = lists.now; others = lists.others; entries = lists.entries; parts = lists.parts })
  | inr (part, next, same) ↦
      let here : get_or move.parts move.at part ≡ part = get_or_from_slice_get move.parts move.at part part next in
      subst (λ (x : Moving). StillLists x m) (sym same) (record {
        now = lists.now;
        others = lists.others;
        entries = lists.entries;
        parts = lists.parts ∙ sym (map-set_same (λ (e : Entry). e.part) move.parts move.at (record part { len = len }) part (ap (λ (e : Entry). e.part) (sym here)));
      })
]

pub leaves_here : (s t : Shelf) (e : Entry) (at : Option ℕ) (old new : DiskShown) → s ≡ t → LeavesFile (file_of s e) at old new → LeavesFile (file_of t e) at old new
leaves_here s t e at old new same = subst (λ (x : Shelf). LeavesFile (file_of x e) at old new) same

pub writes_here : (s t : Shelf) (e : Entry) (at : Option ℕ) (bytes : List ℕ) (files : Files) (later : DiskShown) → s ≡ t → WritesFile (file_of s e) at bytes files later → WritesFile (file_of t e) at bytes files later
writes_here s t e at bytes files later same = subst (λ (x : Shelf). WritesFile (file_of x e) at bytes files later) same
