-- A move that is chosen by what the memory lists, and begun: what is said of it by what is held.
use Rattle.std.proofs.Common.{◌≡◌, Bool, true, false, cond, ℕ, ◌+◌, ◌-◌, ◌≤◌, ◌<◌, List, length, map, get_or, min, max, Some, refl, sym, ◌∙◌, ap, subst, arith}
use Rattle.std.specs.Prelude.{◌==◌, nat_le, Option, All, slice_get}
use Rattle.std.proofs.lemmas.List.{length-map}
use Rattle.std.proofs.lemmas.List.Elements.{All-map}
use Rattle.std.proofs.lemmas.List.Sums.{count_by-le-length}
use Rattle.std.proofs.lemmas.Option.{slice_get-get_or}
use Rattle.etl_mover.specs.Move.{Moving}
use Rattle.etl_rules.specs.Choosing.{chosen, ripe}
use Rattle.moves.specs.Parts.{covered, end_of, is_covered}
use Rattle.moves.specs.Series.{IsToMove, of_series, parts_in}
use Rattle.moves.specs.declared.parts.MoveRule.{MoveRule}
use Rattle.moves.specs.declared.series.ToMove.{ToMove}
use Rattle.moves.specs.declared.series.ToMove.TheVariants.{Begin}
use Rattle.moves.specs.declared.series.ToMove.TheVariants as to_move
use Rattle.partition_names.specs.Part.{IsPart}
use Rattle.pv_catalog.specs.declared.row.Row.{Row}
use Rattle.store_manifest.specs.declared.entry.Entry.{Entry}
use Rattle.store_manifest.specs.Entries.{AreEntries}
use Rattle.store_manifest.specs.Manifest.{ManifestState}
use Rattle.durable_write.specs.Held.{entry_of}
use Rattle.tier_store.specs.Beginning.{AreNested, IsChoice, BeginsRow, IsBegun, BeginsMove, SaysBegun, parts_at}
use Rattle.tier_store.specs.Change.{Has}
use Rattle.tier_store.specs.Seen.{Seen, granularities}
use Rattle.tier_store.specs.Stores.{Stores, list_at}
use Rattle.tier_store.specs.declared.moving.StoreMove.{StoreMove}
use Rattle.tier_store.specs.declared.moving.StoreMove.TheVariants.{Begun, Running, Nothing}
use Rattle.tier_store.proofs.Places.{granularity_at}
use Rattle.tier_store.proofs.Removals.{lists_in_order}

-- HOW MANY PARTS

chosen_low : (hold gather n : ℕ) → chosen hold gather n ≤ n
chosen_low hold gather n = by_test (hold == 0) (nat_le hold n)
  where
    by_test : (none_held due : Bool) → cond none_held n (cond due (min gather n) 0) ≤ n
    by_test true due = omega arith
    by_test false true = omega arith
    by_test false false = omega arith

larger_low : (a b n : ℕ) → a ≤ n → b ≤ n → min 65536 (max a b) ≤ n
larger_low a b n low_a low_b = omega arith

few_parts : (a b : ℕ) → min 65536 (max a b) ≤ 65536
few_parts a b = omega arith

ripe_low : (now : ℕ) (source : List Entry) → ripe now (map end_of source) ≤ length source
ripe_low now source = let low = count_by-le-length (λ (at : ℕ). nat_le at now) (map end_of source) in let same = length-map source end_of in omega (arith, low, same)

-- a move takes no more parts than the source lists of the series, and not too many
pub parts_listed : (rule : MoveRule) (source destination : List Entry) (s : ℕ) → parts_in rule source destination s ≤ length (of_series s source)
parts_listed rule source destination s =
    let own = of_series s source in
    let into = of_series s destination in
    let held = chosen_low rule.hold rule.gather (ripe rule.at (map end_of own)) in
    let over = ripe_low rule.at own in
    larger_low (chosen rule.hold rule.gather (ripe rule.at (map end_of own))) (covered own into) (length own) (omega (arith, held, over)) (count_by-le-length (is_covered (slice_get into (length into - 1))) own)

pub parts_few : (rule : MoveRule) (source destination : List Entry) (s : ℕ) → parts_in rule source destination s ≤ 65536
parts_few rule source destination s =
    let own = of_series s source in
    let into = of_series s destination in
    few_parts (chosen rule.hold rule.gather (ripe rule.at (map end_of own))) (covered own into)

-- what is chosen to begin can begin
pub record CanBegin (source : List Entry) (count s n : ℕ) : Type 0 where
  pub within : s < count
  pub some : 1 ≤ n
  pub few : n ≤ 65536
  pub listed : n ≤ length (of_series s source)

pub can_begin : (rule : MoveRule) (source destination : List Entry) (running : ℕ → Option ℕ) (count : ℕ) (choice : ToMove) (s n : ℕ) → choice ≡ Begin s n → IsToMove (parts_in rule source destination) running count choice → CanBegin source count s n
can_begin rule source destination running count choice s n is made =
    let free : IsToMove (parts_in rule source destination) running count (Begin s n) = subst (IsToMove (parts_in rule source destination) running count) is made in
    let some = free.0.some in
    let number = free.1 in
    let few = parts_few rule source destination s in
    let listed = parts_listed rule source destination s in
    record { within = free.0.within; some = omega (arith, some, number); few = omega (arith, few, number); listed = omega (arith, listed, number) }

-- the choice, as it is found to be
pub chosen_is : (parts : ℕ → ℕ) (running : ℕ → Option ℕ) (count : ℕ) (choice other : ToMove) → choice ≡ other → IsToMove parts running count choice → IsToMove parts running count other
chosen_is parts running count choice other is made = subst (IsToMove parts running count) is made

pub row_here : (rows : List Row) (i : ℕ) (row : Row) → row ≡ get_or rows i row → i < length rows → slice_get rows i ≡ Some row
row_here rows i row is low = slice_get-get_or rows i row low ∙ ap (λ (r : Row). Some r) (sym is)

-- WHAT IS SAID OF IT

module _ (tells : Bool) (at : Seen) (held : Stores) (has : Has tells at held) (i : ℕ) (low : i < 2) (source destination : ManifestState) (from : slice_get at.manifests i ≡ Some source) (to : slice_get at.manifests (i + 1) ≡ Some destination) where
  -- the choice by what the memory lists is the one by what is held
  choice_held : (rule : MoveRule) (running : ℕ → Option ℕ) (count : ℕ) (choice : ToMove) → count ≡ length at.catalogue.rows → IsToMove (parts_in rule source.entries destination.entries) running count choice → IsChoice rule i running held choice
  choice_held rule running count choice many is =
      subst (λ (n : ℕ). IsToMove (parts_at rule i held) running n choice) (many ∙ ap length has.known.rows)
      (subst (λ (es : List Entry). IsToMove (parts_in rule (map entry_of (list_at i held)) es) running count choice) (has.known.each (i + 1) destination to).entries
      (subst (λ (es : List Entry). IsToMove (parts_in rule es destination.entries) running count choice) (has.known.each i source from).entries is))

  are_entries : (k : ℕ) (m : ManifestState) → slice_get at.manifests k ≡ Some m → AreEntries m.granularity m.entries
  are_entries k m here =
      let known = has.known.each k m here in
      record {
        in_order = lists_in_order at.catalogue at.manifests held has.known k m here;
        parts = subst (All (λ (e : Entry). IsPart m.granularity e.part)) (sym known.entries) (All-map (λ (e : Entry). IsPart m.granularity e.part) entry_of (list_at k held) (λ j d lt. (known.valid.filed.listed j d lt).part));
      }

  -- and so is the move that begins
  begins_held : (row n : ℕ) (move : Moving) → AreNested i (granularities at.manifests) → BeginsRow at.catalogue.rows source destination row n move → BeginsMove tells i at.manifests held row n move
  begins_held row n move nested is =
      let own = is.own in
      let begun = is.begun in
      let there : slice_get held.rows row ≡ Some own = ap (λ (rs : List Row). slice_get rs row) (sym has.known.rows) ∙ is.here in
      let own_row : slice_get held.rows move.series ≡ Some own = ap (slice_get held.rows) begun.series ∙ there in
      record {
        source = source;
        destination = destination;
        from = from;
        to = to;
        own = own;
        here = there;
        begun = begun;
        goes_on = is.goes_on (nested source.granularity destination.granularity (granularity_at at.manifests i source from) (granularity_at at.manifests (i + 1) destination to)) (are_entries i source from) (are_entries (i + 1) destination to);
        lists = is.lists;
        leaves = λ told. record { row = own; stands = own_row; name = sym begun.name; store = begun.from (i + 1) (omega (arith, low)) ((has.disk told).each i source from).named };
        enters = λ told. record { row = own; stands = own_row; name = sym begun.name; store = begun.to (i + 1 + 1) (omega (arith, low)) ((has.disk told).each (i + 1) destination to).named };
      }

  pub says_held : (rule : MoveRule) (running : ℕ → Option ℕ) (b : StoreMove) → AreNested i (granularities at.manifests) → IsBegun rule running at.catalogue.rows source destination b → SaysBegun tells i rule running at.manifests b held
  says_held rule running (Begun row n move) nested is = (choice_held rule running (length at.catalogue.rows) (Begin row n) refl is.0, begins_held row n move nested is.1)
  says_held rule running (Running number) nested is = choice_held rule running (length at.catalogue.rows) (to_move.Running number) refl is
  says_held rule running Nothing nested is = choice_held rule running (length at.catalogue.rows) to_move.Nothing refl is
