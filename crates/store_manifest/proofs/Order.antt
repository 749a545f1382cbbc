-- Entries stay in order, each of one of the granularity's partitions.
use Rattle.std.proofs.Common.{ℕ, List, [], ◌∷◌, All, sym, subst}
use Rattle.std.proofs.lemmas.List.Elements.{All-from_recursion, recursion_from_All}
use Rattle.std.specs.List.{AllByRecursion}
use Rattle.partition_names.specs.declared.granularity.Granularity.{Granularity}
use Rattle.partition_names.specs.Part.{IsPart}
use Rattle.store_manifest.specs.declared.entry.Entry.{Entry}
use Rattle.store_manifest.specs.declared.entry.Change.{Change}
use Rattle.store_manifest.specs.declared.entry.Change.TheVariants.{Set, Drop}
use Rattle.store_manifest.specs.Batches.{AreBatches, Configured, Folds}
use Rattle.store_manifest.specs.Entries.{changed, all_changed, CanFollow, InTurn, AllCanFollow, InOrder, AreEntries}
use Rattle.store_manifest.specs.Numbers.{IsSized, HasSizes}
use Rattle.store_manifest.proofs.Meaning.{configured_folds}
use Rattle.store_manifest.proofs.Changes.{mid_of, order_changed, each_changed}

abbrev Parts : Granularity → List Entry → Type 0
Parts g xs = AllByRecursion (λ e. IsPart g e.part) xs

mid_part : (g : Granularity) (xs : List Entry) (c : Change) → CanFollow g xs c → Parts g (mid_of c)
mid_part g xs (Set e) can = (can, tt)
mid_part g xs (Drop s t) can = tt

mid_size : (c : Change) → HasSizes c → AllByRecursion IsSized (mid_of c)
mid_size (Set e) sizes = (sizes, tt)
mid_size (Drop s t) sizes = tt

kept_by : (g : Granularity) (xs : List Entry) (cs : List Change) → InOrder xs × Parts g xs → AllCanFollow g xs cs → InOrder (all_changed xs cs) × Parts g (all_changed xs cs)
kept_by g xs [] are follow = are
kept_by g xs (c ∷ cs) are follow = kept_by g (changed xs c) cs (order_changed xs c are.0, each_changed (λ e. IsPart g e.part) xs c are.1 (mid_part g xs c follow.0)) follow.1

entries_from : (g : Granularity) (xs : List Entry) → InOrder xs × Parts g xs → AreEntries g xs
entries_from g xs are = record { in_order = are.0; parts = All-from_recursion (λ e. IsPart g e.part) xs are.1 }

pub changes_keep : (g : Granularity) (xs : List Entry) (cs : List Change) → AreEntries g xs → AllCanFollow g xs cs → AreEntries g (all_changed xs cs)
changes_keep g xs cs are follow = entries_from g (all_changed xs cs) (kept_by g xs cs (are.in_order, recursion_from_All (λ e. IsPart g e.part) xs are.parts) follow)

-- what a batch makes
abbrev Fine : Granularity → List Entry → Type 0
Fine g xs = (InOrder xs × Parts g xs) × AllByRecursion IsSized xs

fine_turn : (g : Granularity) (xs : List Entry) (cs : List Change) → Fine g xs → InTurn (λ es c. HasSizes c × CanFollow g es c) xs cs → Fine g (all_changed xs cs)
fine_turn g xs [] fine turn = fine
fine_turn g xs (c ∷ cs) fine turn =
    fine_turn g (changed xs c) cs ((order_changed xs c fine.0.0, each_changed (λ e. IsPart g e.part) xs c fine.0.1 (mid_part g xs c turn.0.1)), each_changed IsSized xs c fine.1 (mid_size c turn.0.0)) turn.1

fine_batches : (g : Granularity) (xs : List Entry) (bs : List (List ℕ)) (last : List Entry) → Fine g xs → AreBatches g xs bs last → Fine g last
fine_batches g xs [] last fine are = let P : List Entry → Type 0 = λ l. Fine g l in subst P (sym are) fine
fine_batches g xs (b ∷ bs) last fine are =
    let P : List Entry → Type 0 = λ l. Fine g l in
    let made = are.1.1 in
    fine_batches g are.0 bs last (subst P (sym made.next_is) (fine_turn g xs made.changes fine made.follow)) are.2

fine_folds : (g : Granularity) (bs : List (List ℕ)) (xs : List Entry) → Folds g bs xs → Fine g xs
fine_folds g [] xs folds = let P : List Entry → Type 0 = λ l. Fine g l in subst P (sym folds) ((tt, tt), tt)
fine_folds g (b ∷ bs) xs folds =
    let P : List Entry → Type 0 = λ l. Fine g l in
    let made = folds.1.2.0 in fine_batches g folds.0 bs xs (subst P (sym made.next_is) (fine_turn g [] made.changes ((tt, tt), tt) made.follow)) folds.2

pub folds_entries : (g : Granularity) (bs : List (List ℕ)) (xs : List Entry) → Folds g bs xs → AreEntries g xs
folds_entries g bs xs folds = entries_from g xs (fine_folds g bs xs folds).0

pub folds_sized : (g : Granularity) (bs : List (List ℕ)) (xs : List Entry) → Folds g bs xs → All IsSized xs
folds_sized g bs xs folds = All-from_recursion IsSized xs (fine_folds g bs xs folds).1

pub configured_entries : (g : Granularity) (bs : List (List ℕ)) (xs : List Entry) → Configured g bs xs → AreEntries g xs
configured_entries g bs xs folds = folds_entries g bs xs (configured_folds g bs xs folds)
