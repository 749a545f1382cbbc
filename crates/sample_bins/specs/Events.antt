-- Why BINS of events are events, and what was handed on is a front of them. An output owes this with its definitions.
use Rattle.std.proofs.Common.{◌≡◌, ℕ, ◌+◌, ◌*◌, ◌/◌, ◌%◌, ◌<◌, ◌≤◌, ◌==◌, Bool, true, false, List, [], ◌∷◌, ◌++◌, length, map, Option, sym, ap, ◌∙◌, subst, arith}
use Rattle.std.specs.Prelude.{if◌then◌else◌, nat_le, ◌&&◌}
use Rattle.std.specs.List.{AllByRecursion, filter}
use Rattle.std.proofs.Math.Nat.{div-mul-le_self, le-max_left}
use Rattle.std.proofs.lemmas.List.Elements.{filter-append}
use Rattle.arch_time.specs.YearTime.{start, end}
use Rattle.pb_wire.specs.declared.payload.PayloadType.{PayloadType}
use Rattle.pb_wire.specs.declared.payload.PayloadType.TheVariants.{ScalarInt}
use Rattle.pb_messages.specs.declared.about.About.{About}
use Rattle.series_model.specs.declared.sample.Query.{Query}
use Rattle.series_model.specs.declared.sample.Sample.{Sample}
use Rattle.series_model.specs.Retrieval.{within}
use Rattle.act_model.specs.Event.{IsEvent, AreEvents}
use Rattle.act_model.specs.Out.{Subject}
use Rattle.sample_bins.specs.declared.op.Op.{Op}
use Rattle.sample_bins.specs.declared.op.Op.TheVariants.{FirstSample, LastSample, Count, Nth, NCount}
use Rattle.sample_bins.specs.declared.beginning.BegunText.{BegunText}
use Rattle.sample_bins.specs.declared.kept.Kept.{Kept}
use Rattle.sample_bins.specs.Counts.{capped, nearest_moment, most_counted}
use Rattle.sample_bins.specs.CountEvents.{counted_event, event_time}
use Rattle.sample_bins.specs.Bins.{Bin, bin_of, bin_start, bins, same_bin, other_bins, samples_in, last_from, last_in, count_in, each_nth, binned, bins_of, about_of, binned_subject}
use Rattle.sample_bins.specs.Coming.{coming}
use Rattle.sample_bins.specs.Binning.{GivesBins}

-- WITHIN AN INTERVAL

pub filtered : (P : Sample → Type 0) (p : Sample → Bool) (xs : List Sample) → AllByRecursion P xs → AllByRecursion P (filter p xs)
filtered P p [] all = tt
filtered P p (s ∷ rest) all =
    let behind = filtered P p rest all.1 in
    elim (p s) as (λ b. AllByRecursion P (if b then s ∷ filter p rest else filter p rest)) [ true ↦ (all.0, behind) | false ↦ behind ]

-- BY BINS

module _ (P : Sample → Type 0) (width : ℕ) where
  abbrev InBin : Bin → Type 0
  InBin b = P b.first × AllByRecursion P b.later

  same_all : (bin : ℕ) (bs : List Bin) → AllByRecursion InBin bs → AllByRecursion P (same_bin width bin bs)
  same_all bin [] all = tt
  same_all bin (b ∷ bs) all = elim (bin == bin_of width b.first.t) as (λ v. AllByRecursion P (if v then samples_in b else [])) [ true ↦ all.0 | false ↦ tt ]

  other_all : (bin : ℕ) (bs : List Bin) → AllByRecursion InBin bs → AllByRecursion InBin (other_bins width bin bs)
  other_all bin [] all = tt
  other_all bin (b ∷ bs) all = elim (bin == bin_of width b.first.t) as (λ v. AllByRecursion InBin (if v then bs else b ∷ bs)) [ true ↦ all.1 | false ↦ all ]

  bins_all : (l : List Sample) → AllByRecursion P l → AllByRecursion InBin (bins width l)
  bins_all [] all = tt
  bins_all (s ∷ rest) all =
      let behind = bins_all rest all.1 in
      ((all.0, same_all (bin_of width s.t) (bins width rest) behind), other_all (bin_of width s.t) (bins width rest) behind)

  last_all : (s : Sample) (rest : List Sample) → P s → AllByRecursion P rest → P (last_from s rest)
  last_all s [] here all = here
  last_all s (next ∷ rest) here all = last_all next rest all.0 all.1

  mapped : (Q : Sample → Type 0) (f : Bin → Sample) → ((b : Bin) → InBin b → Q (f b)) → (bs : List Bin) → AllByRecursion InBin bs → AllByRecursion Q (map f bs)
  mapped Q f step [] all = tt
  mapped Q f step (b ∷ bs) all = (step b all.0, mapped Q f step bs all.1)

  nths_all : (position : ℕ) (l : List Sample) → AllByRecursion P l → AllByRecursion P (each_nth width position l)
  nths_all position [] all = tt
  nths_all position (s ∷ rest) all =
      elim (position % width == 0) as (λ v. AllByRecursion P (if v then s ∷ each_nth width (position + 1) rest else each_nth width (position + 1) rest)) [
        | true ↦ (all.0, nths_all (position + 1) rest all.1)
        | false ↦ nths_all (position + 1) rest all.1
      ]

-- COUNTS

-- a bin starts where its samples may stand
pub bin_starts : (width t : ℕ) → start ≤ t → t < end → (start ≤ bin_start width (bin_of width t)) × (bin_start width (bin_of width t) < end)
bin_starts width t low high =
    let seconds : ℕ = t / 1_000_000_000 in
    let under : seconds / width * width ≤ seconds = div-mul-le_self seconds width in
    let early : seconds / width * width * 1_000_000_000 < end = omega (arith, under, high) in
    (le-max_left start (seconds / width * width * 1_000_000_000), omega (arith, early))

pub nearest_stands : (t : ℕ) → (start ≤ nearest_moment t) × (nearest_moment t < end)
nearest_stands t = (omega arith, omega arith)

pub capped_small : (n : ℕ) → capped n ≤ most_counted
capped_small n = omega arith

count_event : (ty : PayloadType) (width : ℕ) (b : Bin) → IsEvent ty b.first → IsEvent ScalarInt (count_in width b)
count_event ty width b e =
    let time = event_time ty b.first e in
    let from = bin_starts width b.first.t time.0 time.1 in
    counted_event (bin_start width (bin_of width b.first.t)) (capped (length (samples_in b))) from.0 from.1 (capped_small (length (samples_in b)))

pub binned_events : (op : Op) (from : ℕ) (about : About) (l : List Sample) → AreEvents about.ty l → AreEvents (about_of op about).ty (binned op from l)
binned_events (FirstSample width) from about l all = let P : Sample → Type 0 = IsEvent about.ty in mapped P width P (λ b. b.first) (λ b in_bin. in_bin.0) (bins width l) (bins_all P width l all)
binned_events (LastSample width) from about l all = let P : Sample → Type 0 = IsEvent about.ty in mapped P width P last_in (λ b in_bin. last_all P width b.first b.later in_bin.0 in_bin.1) (bins width l) (bins_all P width l all)
binned_events (Count width) from about l all =
    let P : Sample → Type 0 = IsEvent about.ty in
    mapped P width (IsEvent ScalarInt) (count_in width) (λ b in_bin. count_event about.ty width b in_bin.0) (bins width l) (bins_all P width l all)
binned_events (Nth n) from about l all = nths_all (IsEvent about.ty) n 0 l all
binned_events NCount from about l all =
    let stands = nearest_stands from in
    (counted_event (nearest_moment from) (capped (length l)) stands.0 stands.1 (capped_small (length l)), tt)

pub bins_of_events : (op : Op) (query : Query) (about : About) (xs : List Sample) → AreEvents about.ty xs → AreEvents (about_of op about).ty (bins_of op query xs)
bins_of_events op query about xs all = binned_events op query.from about (within query xs) (filtered (IsEvent about.ty) _ xs all)

-- A FRONT

-- what is given behind some samples
pub bins_on : (op : Op) (query : Query) (kept : Kept) (given xs more : List Sample) → ((rest : List Sample) → binned op query.from (within query xs ++ rest) ≡ given ++ coming op query.from kept rest) → bins_of op query (xs ++ more) ≡ given ++ coming op query.from kept (within query more)
bins_on op query kept given xs more goes_on = ap (binned op query.from) (filter-append (λ (s : Sample). nat_le query.from s.t && nat_le s.t query.to) xs more) ∙ goes_on (within query more)

module _ {O : Type 0} (gave broke : O → Subject → List Sample → O → Type 0) (front : (before now : O) (subject : Subject) (xs more : List Sample) → AreEvents subject.about.ty (xs ++ more) → gave before subject xs now → broke before subject (xs ++ more) now) where
  pub gives_breaks : (op : Op) (begun : Option BegunText) (kept : Kept) (before : O) (subject : Subject) (xs more : List Sample) (now : O) → AreEvents subject.about.ty (xs ++ more) → GivesBins gave op begun kept before subject xs now
      → broke before (binned_subject op subject) (bins_of op subject.query (xs ++ more)) now
  gives_breaks op begun kept before subject xs more now events gives =
      let all = bins_on op subject.query kept gives.given xs more gives.goes_on in
      let are : AreEvents (about_of op subject.about).ty (bins_of op subject.query (xs ++ more)) = bins_of_events op subject.query subject.about (xs ++ more) events in
      let behind : List Sample = coming op subject.query.from kept (within subject.query more) in
      subst (λ (l : List Sample). broke before (binned_subject op subject) l now) (sym all)
      (front before now (binned_subject op subject) gives.given behind (subst (λ (l : List Sample). AreEvents (about_of op subject.about).ty l) all are) gives.has)
