-- Entries in order, and what a change makes of them.
use Rattle.std.specs.Prelude.{◌≡◌, All, true, ◌==◌, ◌&&◌, ◌||◌, ℕ, Bool, List, [], ◌∷◌, ◌++◌, filter, nat_lt, IsTrue}
use Rattle.std.specs.List.{list_any, AllByRecursion}
use Rattle.partition_names.specs.declared.granularity.Granularity.{Granularity}
use Rattle.partition_names.specs.Part.{IsPart}
use Rattle.store_manifest.specs.declared.entry.Entry.{Entry}
use Rattle.store_manifest.specs.declared.entry.Change.{Change}
use Rattle.store_manifest.specs.declared.entry.Change.TheVariants.{Set, Drop}

-- a series and where one of its partitions starts
abbrev pub Place : Type 0
Place = ℕ × ℕ

abbrev pub place : Entry → Place
place e = (e.series, e.part.start)

-- by series, and by time in each
abbrev pub comes_before : Place → Place → Bool
comes_before a b = nat_lt a.0 b.0 || ((a.0 == b.0) && nat_lt a.1 b.1)

-- the items before a place, these items, and the items behind the place
abbrev pub spliced : {A : Type 0} → (A → Place) → Place → List A → List A → List A
spliced key p mid xs = filter (λ y. comes_before (key y) p) xs ++ (mid ++ filter (λ y. comes_before p (key y)) xs)

-- the items with one in its place, in which it replaces what stood there
abbrev pub put : {A : Type 0} → (A → Place) → A → List A → List A
put key x xs = spliced key (key x) (x ∷ []) xs

-- the items without the one at a place
abbrev pub without : {A : Type 0} → (A → Place) → Place → List A → List A
without key p xs = spliced key p [] xs

-- the place that a change is about
abbrev pub place_of : Change → Place
place_of (Set e) = place e
place_of (Drop series start) = (series, start)

-- the entries, in order of series and time, with one change made
abbrev pub changed : List Entry → Change → List Entry
changed entries (Set e) = put place e entries
changed entries (Drop series start) = without place (series, start) entries

-- and with all of them made, one after another
abbrev pub all_changed : List Entry → List Change → List Entry
all_changed entries [] = entries
all_changed entries (c ∷ cs) = all_changed (changed entries c) cs

-- the two places are one
abbrev pub is_place : Place → Place → Bool
is_place a b = (a.0 == b.0) && (a.1 == b.1)

-- an entry is listed at this place
abbrev pub is_listed : List Entry → Place → Bool
is_listed entries p = list_any (λ e. is_place (place e) p) entries

-- the change may be made: what is set is a file of one of the granularity's partitions, and what is dropped is listed
abbrev pub CanFollow : Granularity → List Entry → Change → Type 0
CanFollow g entries (Set e) = IsPart g e.part
CanFollow g entries (Drop series start) = IsTrue (is_listed entries (series, start))

-- P of each change and of the entries at its turn
abbrev pub InTurn : (List Entry → Change → Type 0) → List Entry → List Change → Type 0
InTurn P entries [] = Unit {0}
InTurn P entries (c ∷ cs) = P entries c × InTurn P (changed entries c) cs

-- each may be made at its turn
abbrev pub AllCanFollow : Granularity → List Entry → List Change → Type 0
AllCanFollow g entries changes = InTurn (CanFollow g) entries changes

-- each comes before all behind it
abbrev pub InOrder : List Entry → Type 0
InOrder [] = Unit {0}
InOrder (e ∷ es) = AllByRecursion (λ d. comes_before (place e) (place d) ≡ true) es × InOrder es

-- what a manifest of this granularity may list: entries in order of series and time, each of one of its partitions
pub record AreEntries (g : Granularity) (entries : List Entry) : Type 0 where
  pub in_order : InOrder entries
  pub parts : All (λ e. IsPart g e.part) entries
