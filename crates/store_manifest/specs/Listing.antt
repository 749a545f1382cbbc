-- A manifest's entries in memory: a list for each series, and changes that are to come.
use Rattle.std.specs.Prelude.{◌≡◌, ◌≤◌, ◌+◌, ℕ, List, [], ◌∷◌, Option, IsSome, IfSome, filter, take, drop, ◌==◌, if◌then◌else◌}
use Rattle.std.specs.List.{flat_map, AllByRecursion}
use Rattle.std.specs.List.Sorted.{IsStrictlySortedBy}
use Rattle.std.specs.Map.{lookup, keys_of}
use Rattle.std.specs.BTreeMap.{is_at}
use Rattle.std.specs.Ordering.{nat_cmp}
use Rattle.store_manifest.specs.declared.entry.Entry.{Entry}
use Rattle.store_manifest.specs.declared.entry.Change.{Change}
use Rattle.store_manifest.specs.declared.entry.Change.TheVariants.{Set, Drop}
use Rattle.store_manifest.specs.declared.listing.Listing.{Listing}
use Rattle.store_manifest.specs.EntryList.{ListState}
use Rattle.store_manifest.specs.Entries.{Place, place, place_of, comes_before, all_changed, InOrder}

-- a series and its list
abbrev pub Slot : Type 0
Slot = ℕ × ListState

-- the list of a series
abbrev pub list_of : ℕ → List Slot → Option ListState
list_of series slots = lookup (is_at (nat_cmp series)) slots

-- the entries in a slot's list
abbrev pub own : Slot → List Entry
own slot = slot.1.items

-- all entries, in order of series
abbrev pub entries_of : List Slot → List Entry
entries_of slots = flat_map own slots

-- entries of one series, in order
abbrev pub OfSeries : ℕ → List Entry → Type 0
OfSeries series entries = AllByRecursion (λ e. e.series ≡ series) entries × InOrder entries

-- each series has one list, of its own entries in order
pub record AreLists (slots : List Slot) : Type 0 where
  pub ordered : IsStrictlySortedBy nat_cmp (keys_of slots)
  pub own_entries : AllByRecursion (λ slot. OfSeries slot.0 (own slot)) slots

-- the entries before a place are as many as the front, and those behind it begin at the back
pub record IsAround (p : Place) (entries : List Entry) (front back : ℕ) : Type 0 where
  pub before : filter (λ e. comes_before (place e) p) entries ≡ take front entries
  pub behind : filter (λ e. comes_before p (place e)) entries ≡ drop back entries

-- how many entries more a change may make
abbrev pub sets : Change → ℕ
sets (Set e) = 1
sets (Drop series start) = 0

-- how many more changes may make in one series
abbrev pub sets_in : ℕ → List Change → ℕ
sets_in series [] = 0
sets_in series (c ∷ cs) = (if (place_of c).0 == series then sets c else 0) + sets_in series cs

-- each change has the list of its series, and each list has room for what changes set in it
pub record HasRoom (slots : List Slot) (changes : List Change) : Type 0 where
  pub there : AllByRecursion (λ c. IsSome (list_of (place_of c).0 slots)) changes
  pub room : (series : ℕ) → 1 ≤ sets_in series changes → IfSome (list_of series slots) (λ list. list.used + sets_in series changes ≤ list.capacity)

-- a change leaves all other lists, and in its own the room that was there but for what it sets
pub record KeepsLists (c : Change) (old new : List Slot) : Type 0 where
  pub others : (s : ℕ) → ((place_of c).0 ≡ s → ⊥) → list_of s new ≡ list_of s old
  pub there : IsSome (list_of (place_of c).0 new)
  pub room : (n : ℕ) → IfSome (list_of (place_of c).0 old) (λ list. list.used + (sets c + n) ≤ list.capacity) → IfSome (list_of (place_of c).0 new) (λ list. list.used + n ≤ list.capacity)

-- all entries once the changes are made
abbrev pub next_of : Listing → List Entry
next_of l = all_changed (entries_of l.lists.listed.entries) l.pending.items

-- lists of all series, with room for the changes that are to come
abbrev pub IsListing : Listing → Type 0
IsListing l = AreLists l.lists.listed.entries × HasRoom l.lists.listed.entries l.pending.items
