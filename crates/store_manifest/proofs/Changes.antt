-- What a change makes of entries in order.
use Rattle.std.proofs.Common.{◌≡◌, ◌&&◌, Bool, true, false, cond, List, [], ◌∷◌, ◌++◌, refl, sym, ◌∙◌, ap, subst, arith}
use Rattle.std.proofs.lemmas.Bool.Decides.{nat_tests}
use Rattle.std.specs.List.{filter, list_all, AllByRecursion}
use Rattle.store_manifest.specs.declared.entry.Entry.{Entry}
use Rattle.store_manifest.specs.declared.entry.Change.{Change}
use Rattle.store_manifest.specs.declared.entry.Change.TheVariants.{Set, Drop}
use Rattle.store_manifest.specs.Entries.{Place, place, place_of, comes_before, spliced, put, changed, InOrder}

-- FILTERS

pub filter_all : (p : Entry → Bool) (xs : List Entry) → AllByRecursion (λ x. p x ≡ true) xs → filter p xs ≡ xs
filter_all p [] all = refl
filter_all p (x ∷ xs) all = ap (λ (b : Bool). cond b (x ∷ filter p xs) (filter p xs)) all.0 ∙ ap (λ (l : List Entry). x ∷ l) (filter_all p xs all.1)

pub filter_none : (p : Entry → Bool) (xs : List Entry) → AllByRecursion (λ x. p x ≡ false) xs → filter p xs ≡ []
filter_none p [] all = refl
filter_none p (x ∷ xs) all = ap (λ (b : Bool). cond b (x ∷ filter p xs) (filter p xs)) all.0 ∙ filter_none p xs all.1

pub each : (P Q : Entry → Type 0) → ((x : Entry) → P x → Q x) → (xs : List Entry) → AllByRecursion P xs → AllByRecursion Q xs
each P Q f [] all = tt
each P Q f (x ∷ xs) all = (f x all.0, each P Q f xs all.1)

pub filtered : (p : Entry → Bool) (P : Entry → Type 0) (xs : List Entry) → AllByRecursion P xs → AllByRecursion P (filter p xs)
filtered p P [] all = tt
filtered p P (x ∷ xs) all = go (filtered p P xs all.1) (p x)
  where
    go : AllByRecursion P (filter p xs) → (b : Bool) → AllByRecursion P (cond b (x ∷ filter p xs) (filter p xs))
    go rest true = (all.0, rest)
    go rest false = rest

pub joined : (P : Entry → Type 0) (xs ys : List Entry) → AllByRecursion P xs → AllByRecursion P ys → AllByRecursion P (xs ++ ys)
joined P [] ys one two = two
joined P (x ∷ xs) ys one two = (one.0, joined P xs ys one.1 two)

abbrev pub mid_of : Change → List Entry
mid_of (Set e) = e ∷ []
mid_of (Drop series start) = []

pub changed_is : (xs : List Entry) (c : Change) → changed xs c ≡ spliced place (place_of c) (mid_of c) xs
changed_is xs (Set e) = refl
changed_is xs (Drop series start) = refl

-- ORDER

before_trans : (a b c : Place) → comes_before a b ≡ true → comes_before b c ≡ true → comes_before a c ≡ true
before_trans a b c one two = grind (arith, nat_tests)

filter_passes : (p : Entry → Bool) (xs : List Entry) → AllByRecursion (λ x. p x ≡ true) (filter p xs)
filter_passes p [] = tt
filter_passes p (x ∷ xs) = go (filter_passes p xs) (p x) refl
  where
    go : AllByRecursion (λ x. p x ≡ true) (filter p xs) → (b : Bool) → p x ≡ b → AllByRecursion (λ x. p x ≡ true) (cond b (x ∷ filter p xs) (filter p xs))
    go rest true is = (is, rest)
    go rest false is = rest

pub order_filter : (p : Entry → Bool) (xs : List Entry) → InOrder xs → InOrder (filter p xs)
order_filter p [] order = tt
order_filter p (x ∷ xs) order = go (order_filter p xs order.1) (p x)
  where
    go : InOrder (filter p xs) → (b : Bool) → InOrder (cond b (x ∷ filter p xs) (filter p xs))
    go rest true = (filtered p (λ d. comes_before (place x) (place d) ≡ true) xs order.0, rest)
    go rest false = rest

order_append : (q : Place) (xs ys : List Entry) → AllByRecursion (λ x. comes_before (place x) q ≡ true) xs → InOrder xs → InOrder ys
    → ((x : Entry) → comes_before (place x) q ≡ true → AllByRecursion (λ d. comes_before (place x) (place d) ≡ true) ys) → InOrder (xs ++ ys)
order_append q [] ys below one two apart = two
order_append q (x ∷ xs) ys below one two apart = (joined (λ d. comes_before (place x) (place d) ≡ true) xs ys one.0 (apart x below.0), order_append q xs ys below.1 one.1 two apart)

behind_all : (q : Place) (x : Entry) (ys : List Entry) → comes_before (place x) q ≡ true → AllByRecursion (λ d. comes_before q (place d) ≡ true) ys → AllByRecursion (λ d. comes_before (place x) (place d) ≡ true) ys
behind_all q x [] below behind = tt
behind_all q x (y ∷ ys) below behind = (before_trans (place x) q (place y) below behind.0, behind_all q x ys below behind.1)

pub order_changed : (xs : List Entry) (c : Change) → InOrder xs → InOrder (changed xs c)
order_changed xs (Set e) order =
    let before : Entry → Bool = λ y. comes_before (place y) (place e) in
    let behind : Entry → Bool = λ y. comes_before (place e) (place y) in
    let last = filter_passes behind xs in
    order_append (place e) (filter before xs) (e ∷ filter behind xs) (filter_passes before xs) (order_filter before xs order) (last, order_filter behind xs order) (λ x below. (below, behind_all (place e) x (filter behind xs) below last))
order_changed xs (Drop s t) order =
    let q : Place = (s, t) in
    let before : Entry → Bool = λ y. comes_before (place y) q in
    let behind : Entry → Bool = λ y. comes_before q (place y) in
    order_append q (filter before xs) (filter behind xs) (filter_passes before xs) (order_filter before xs order) (order_filter behind xs order) (λ x below. behind_all q x (filter behind xs) below (filter_passes behind xs))

-- what holds of each entry, and of one that is set
pub each_changed : (P : Entry → Type 0) (xs : List Entry) (c : Change) → AllByRecursion P xs → AllByRecursion P (mid_of c) → AllByRecursion P (changed xs c)
each_changed P xs c all mid =
    let before : Entry → Bool = λ y. comes_before (place y) (place_of c) in
    let behind : Entry → Bool = λ y. comes_before (place_of c) (place y) in
    let Q : List Entry → Type 0 = λ l. AllByRecursion P l in
    subst Q (sym (changed_is xs c)) (joined P (filter before xs) (mid_of c ++ filter behind xs) (filtered before P xs all) (joined P (mid_of c) (filter behind xs) mid (filtered behind P xs all)))

-- THE END OF A LIST

one_way : (q : Place) (x : Entry) → comes_before (place x) q ≡ true → comes_before q (place x) ≡ false
one_way q x before = grind (arith, nat_tests)

each_true : (p : Entry → Bool) (xs : List Entry) → list_all p xs ≡ true → AllByRecursion (λ x. p x ≡ true) xs
each_true p [] all = tt
each_true p (x ∷ xs) all = go (λ rest. each_true p xs rest) (p x) refl all
  where
    go : (list_all p xs ≡ true → AllByRecursion (λ x. p x ≡ true) xs) → (b : Bool) → p x ≡ b → (b && list_all p xs) ≡ true → (p x ≡ true) × AllByRecursion (λ x. p x ≡ true) xs
    go more true is rest = (is, more rest)
    go more false is rest = let no : false ≡ true = rest in absurd (cc no)

-- one whose place is behind all entries comes last
pub put_end : (e : Entry) (xs : List Entry) → list_all (λ y. comes_before (place y) (place e)) xs ≡ true → xs ++ e ∷ [] ≡ put place e xs
put_end e xs below =
    let before : Entry → Bool = λ y. comes_before (place y) (place e) in
    let behind : Entry → Bool = λ y. comes_before (place e) (place y) in
    let all = each_true before xs below in
    sym
    (
    ap (λ (l : List Entry). l ++ (e ∷ filter behind xs)) (filter_all before xs all)
    ∙ ap (λ (l : List Entry). xs ++ (e ∷ l)) (filter_none behind xs (each (λ y. before y ≡ true) (λ y. behind y ≡ false) (one_way (place e)) xs all))
    )
