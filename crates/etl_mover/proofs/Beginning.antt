-- A running move, and one that has just begun.
use Rattle.std.proofs.Common.{◌≡◌, ℕ, ◌≤◌, List, ◌++◌, refl, ap, sym, ◌∙◌, subst, arith, max, append_assoc, append-nil, inl, zero, suc, [], ◌∷◌, length, map, filter, take, drop, Option, Some, None, Bool, true, false, cond}
use Rattle.series_model.specs.declared.sample.Sample.{Sample}
use Rattle.series_model.specs.Series.{over, since, end_of, end_from, IsRising, RisesFrom}
use Rattle.series_model.proofs.RisingLists.{end_from-append, end_from-ge, RisesFrom-append, RisesFrom-front, RisesFrom-rest, RisesFrom-since, since-append, since_all, since_none, since-since}
use Rattle.series_model.proofs.OverLemmas.{end_from-since, end_of-over, over_assoc, over_half_moved, over_retired}
use Rattle.etl_mover.specs.Moving.{IsMoving}
use Rattle.etl_mover.specs.Laws.{CopiesOn, RestIsRemaining, FlushedBeside, PublishedFromShort, PublishedFromMedium, AllPublished, RetiredFromShort, RetiredFromMedium, StillRises}
use Rattle.std.specs.Prelude.{All, IfSome, nat_eq}
use Rattle.std.specs.List.{AllByRecursion}
use Rattle.std.proofs.lemmas.Bool.{eqb-true}
use Rattle.std.proofs.lemmas.List.{length-take, take-append-drop}
use Rattle.std.proofs.lemmas.List.Elements.{All-nil, All-cons, All-filter, All-take}
use Rattle.partition_names.specs.declared.granularity.Granularity.{Granularity}
use Rattle.partition_names.specs.Granularity.{Holds}
use Rattle.partition_names.specs.Part.{IsPart}
use Rattle.store_manifest.specs.declared.entry.Entry.{Entry}
use Rattle.store_manifest.specs.Entries.{place, comes_before, InOrder, AreEntries}
use Rattle.store_manifest.specs.Manifest.{ManifestState}
use Rattle.durable_write.specs.Plan.{IsLastOf}
use Rattle.etl_mover.specs.Move.{Moving, HasBegun, IsMove, StillLists, of_series, part_file}
use Rattle.store_manifest.proofs.Changes.{order_filter}

-- A running move.

pub copies_on : CopiesOn
copies_on destination parts copied more left m = record { rising = m.rising; split = m.split ∙ sym (append_assoc copied more left) }

-- what was copied and what is left rise behind the destination's last
later : (destination parts copied left : List Sample) → IsMoving destination parts copied left → RisesFrom (end_of destination) (copied ++ left)
later destination parts copied left m = subst (RisesFrom (end_of destination)) m.split (RisesFrom-since 0 (end_of destination) parts m.rising)

pub rest_is_remaining : RestIsRemaining
rest_is_remaining destination parts copied left m =
    let n = end_of destination in
    let mid : ℕ = end_from n copied in
    let low = later destination parts copied left m in
    let up : n ≤ mid = end_from-ge n copied (RisesFrom-front n copied left low) in
    let rest : since mid (copied ++ left) ≡ left = since-append mid copied left ∙ rw (since_none mid n copied (RisesFrom-front n copied left low) (omega arith), since_all mid mid left (RisesFrom-rest n copied left low) (omega arith)) refl in
    sym (rw (end_from-append 0 destination copied) (sym (since-since mid n parts up) ∙ ap (since mid) m.split ∙ rest))

pub flushed_beside : FlushedBeside
flushed_beside destination parts more copied left m rises = record {
  rising = rises;
  split = since-append (end_of destination) parts more ∙ ap (λ (xs : List Sample). xs ++ since (end_of destination) more) m.split ∙ append_assoc copied left (since (end_of destination) more);
}

pub still_rises : StillRises
still_rises destination parts copied left rises m = RisesFrom-append 0 destination copied rises (RisesFrom-front (end_of destination) copied left (later destination parts copied left m))

-- the copy stands before what the whole source has later
half : (destination parts rest copied left : List Sample) → IsRising (parts ++ rest) → IsMoving destination parts copied left → over (destination ++ copied) (parts ++ rest) ≡ over destination (parts ++ rest)
half destination parts rest copied left rises m =
    over_half_moved destination copied (left ++ since (end_of destination) rest) (parts ++ rest) rises (flushed_beside destination parts rest copied left m rises).split

pub published_from_short : PublishedFromShort
published_from_short long medium parts rest copied left one two m =
    over_assoc long (medium ++ copied) (parts ++ rest) (still_rises medium parts copied left one m)
    ∙ ap (over long) (half medium parts rest copied left two m)
    ∙ sym (over_assoc long medium (parts ++ rest) one)

pub published_from_medium : PublishedFromMedium
published_from_medium long parts rest short copied left rises m = ap (λ (xs : List Sample). over xs short) (half long parts rest copied left rises m)

pub all_published : AllPublished
all_published destination parts copied m =
    let n = end_of destination in
    let all : since n parts ≡ copied = m.split ∙ append-nil copied in
    let end : end_from n (since n parts) ≡ max n (end_of parts) = end_from-since 0 n parts m.rising (omega arith) in
    let there : end_from n copied ≡ max n (end_of parts) = ap (end_from n) (sym all) ∙ end in
    omega (arith, there, end_from-append 0 destination copied)

pub retired_from_short : RetiredFromShort
retired_from_short long medium parts rest one two covered = over_retired (over long medium) parts rest two (let end = end_of-over long medium one in omega (arith, end, covered))

pub retired_from_medium : RetiredFromMedium
retired_from_medium long parts rest short rises covered = ap (λ (xs : List Sample). over xs short) (over_retired long parts rest rises covered)

-- A move that has just begun.

pub take_front : (P : Entry → Type 0) (n : ℕ) (xs : List Entry) → AllByRecursion P xs → AllByRecursion P (take n xs)
take_front P zero xs all = tt
take_front P (suc n) [] all = tt
take_front P (suc n) (x ∷ xs) all = (all.0, take_front P n xs all.1)

pub take_order : (n : ℕ) (xs : List Entry) → InOrder xs → InOrder (take n xs)
take_order zero xs order = tt
take_order (suc n) [] order = tt
take_order (suc n) (x ∷ xs) order = (take_front (λ d. comes_before (place x) (place d) ≡ true) n xs order.0, take_order n xs order.1)

-- what passes a test
filter_passes : (P : Entry → Type 0) (p : Entry → Bool) (xs : List Entry) → ((e : Entry) → p e ≡ true → P e) → All P (filter p xs)
filter_passes P p [] means = All-nil P
filter_passes P p (x ∷ xs) means = go (filter_passes P p xs means) (p x) refl
  where
    go : All P (filter p xs) → (b : Bool) → p x ≡ b → All P (cond b (x ∷ filter p xs) (filter p xs))
    go rest true is = All-cons P x (filter p xs) (means x is) rest
    go rest false is = rest

own_series : (series : ℕ) (entries : List Entry) → All (λ (e : Entry). e.series ≡ series) (of_series series entries)
own_series series entries = filter_passes (λ (e : Entry). e.series ≡ series) (λ (e : Entry). nat_eq e.series series) entries (λ e is. eqb-true e.series series is)

-- the entries of a series are of partitions
pub of_parts : (g : Granularity) (series : ℕ) (entries : List Entry) → AreEntries g entries → All (λ (e : Entry). IsPart g e.part × (e.series ≡ series)) (of_series series entries)
of_parts g series entries are = λ k d lt. (All-filter (λ (e : Entry). nat_eq e.series series) (λ (e : Entry). IsPart g e.part) entries are.parts k d lt, own_series series entries k d lt)

listed_is : (g : Granularity) (series : ℕ) (entries : List Entry) (o : Option Entry) → AreEntries g entries → IsLastOf entries series o → IfSome o (λ (e : Entry). IsPart g e.part × (e.series ≡ series))
listed_is g series entries None are last = tt
listed_is g series entries (Some e) are last =
    last_of last.0 (subst (All (λ (x : Entry). IsPart g x.part × (x.series ≡ series))) last.1 (of_parts g series entries are))
  where
    last_of : (front : List Entry) → All (λ (x : Entry). IsPart g x.part × (x.series ≡ series)) (front ++ e ∷ []) → IsPart g e.part × (e.series ≡ series)
    last_of [] all = all zero e (omega arith)
    last_of (x ∷ front) all = last_of front (λ k d lt. all (suc k) d (omega (arith, lt)))

-- it is a move of the two stores
pub begun_is : (source destination : ManifestState) (number : ℕ) (text : List ℕ) (n : ℕ) (move : Moving) → HasBegun source destination number text n move → n ≤ 65_536 → Holds destination.granularity source.granularity → AreEntries source.granularity source.entries → AreEntries destination.granularity destination.entries → IsMove source.granularity move
begun_is source destination number text n move is most nested from to = record {
  nested = subst (λ (g : Granularity). Holds g source.granularity) (sym is.granularity) nested;
  parts = subst (All (λ (e : Entry). IsPart source.granularity e.part × (e.series ≡ move.series))) (sym is.parts)
      (subst (λ (s : ℕ). All (λ (e : Entry). IsPart source.granularity e.part × (e.series ≡ s)) (take n (of_series number source.entries))) (sym is.series)
      (All-take (λ (e : Entry). IsPart source.granularity e.part × (e.series ≡ number)) n (of_series number source.entries) (of_parts source.granularity number source.entries from)));
  in_order = subst InOrder (sym is.parts) (take_order n (of_series number source.entries) (order_filter (λ (e : Entry). nat_eq e.series number) source.entries from.in_order));
  few = let long = ap length is.parts in omega (arith, long, length-take n (of_series number source.entries), most);
  at = omega (arith, is.at);
  pending = subst (All (λ (e : Entry). IsPart move.granularity e.part × (e.series ≡ move.series))) (sym is.pending) (All-nil (λ (e : Entry). IsPart move.granularity e.part × (e.series ≡ move.series)));
  most = let long = ap length is.pending in inl (omega (arith, long));
  listed = subst (λ (g : Granularity). IfSome move.listed (λ (e : Entry). IsPart g e.part × (e.series ≡ move.series))) (sym is.granularity)
      (subst (λ (s : ℕ). IfSome move.listed (λ (e : Entry). IsPart destination.granularity e.part × (e.series ≡ s))) (sym is.series) (listed_is destination.granularity number destination.entries move.listed to is.listed));
  files = is.files ∙ ap (λ (t : List ℕ). map (part_file move.source t) move.parts) (sym is.name);
}

-- and its parts are the oldest that the source lists
pub begun_lists : (source destination : ManifestState) (number : ℕ) (text : List ℕ) (n : ℕ) (move : Moving) → HasBegun source destination number text n move → StillLists move source
begun_lists source destination number text n move is = record {
  now = take n (of_series number source.entries);
  others = drop n (of_series number source.entries);
  entries = ap (λ (s : ℕ). of_series s source.entries) is.series ∙ sym (take-append-drop n (of_series number source.entries));
  parts = ap (map (λ (e : Entry). e.part)) (sym is.parts);
}
