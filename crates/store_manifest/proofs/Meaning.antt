-- Batches have one meaning, and each one more goes on from what those before it mean.
use Rattle.std.proofs.Common.{◌≡◌, ◌≢◌, ℕ, zero, suc, List, [], ◌∷◌, ◌++◌, length, All, refl, sym, ◌∙◌, ap, subst, arith}
use Rattle.std.proofs.lemmas.List.Elements.{All-head, All-tail}
use Rattle.std.specs.List.{AllByRecursion}
use Rattle.gate_journal.proofs.FirstBad.{HaveFronts, last_is_bad, none_is_bad, one_is_bad, stays_bad}
use Rattle.partition_names.specs.declared.granularity.Granularity.{Granularity}
use Rattle.partition_names.specs.declared.granularity.Granularity.TheVariants.{FiveMinutes, FifteenMinutes, ThirtyMinutes, Hour, Day, Month, Year}
use Rattle.partition_names.specs.Granularity.{number_of}
use Rattle.store_manifest.specs.declared.entry.Entry.{Entry}
use Rattle.store_manifest.specs.declared.entry.Change.{Change}
use Rattle.store_manifest.specs.declared.entry.Change.TheVariants.{Set, Drop}
use Rattle.store_manifest.specs.Batches.{members_of, encoded, batch_of, config, Makes, IsBatch, IsSet, OnlySets, Begins, AreBatches, Configured, Folds, FoldsTo, IsBadBatch}
use Rattle.store_manifest.specs.Entries.{changed, all_changed, CanFollow, InTurn, AllCanFollow}
use Rattle.store_manifest.specs.Numbers.{HasSizes}
use Rattle.store_manifest.specs.Reading.{HasPart, IsFront, IsAllowed}
use Rattle.store_manifest.proofs.Bytes.{one_front}

abbrev Good : Granularity → List Entry → Change → Type 0
Good g es c = HasSizes c × CanFollow g es c

can_follow : (g : Granularity) (es : List Entry) (c : Change) → HasPart g c → IsAllowed es c → CanFollow g es c
can_follow g es (Set e) part allowed = part
can_follow g es (Drop s t) part allowed = allowed

has_part : (g : Granularity) (es : List Entry) (c : Change) → CanFollow g es c → HasPart g c
has_part g es (Set e) can = can
has_part g es (Drop s t) can = tt

is_allowed : (g : Granularity) (es : List Entry) (c : Change) → CanFollow g es c → IsAllowed es c
is_allowed g es (Set e) can = tt
is_allowed g es (Drop s t) can = can

-- ONE BATCH

first_front : (g : Granularity) (es : List Entry) (c : Change) (cs : List Change) (bytes : List ℕ) → bytes ≡ batch_of (c ∷ cs) → InTurn (Good g) es (c ∷ cs) → IsFront g bytes c (batch_of cs)
first_front g es c cs bytes is follow = record { split = is; sizes = follow.0.0; part = has_part g es c follow.0.1 }

no_change : (c : Change) (rest : List ℕ) → encoded c ++ rest ≡ [] → ⊥
no_change (Set e) rest is = let both : 2 ∷ (members_of e ++ rest) ≡ [] = is in cc both
no_change (Drop s t) rest is = omega (arith, ap length is)

same_changes : (g : Granularity) (es : List Entry) (cs ds : List Change) (bytes : List ℕ) → bytes ≡ batch_of cs → bytes ≡ batch_of ds → InTurn (Good g) es cs → InTurn (Good g) es ds → cs ≡ ds
same_changes g es [] [] bytes one two good too = refl
same_changes g es [] (d ∷ ds) bytes one two good too = absurd (no_change d (batch_of ds) (sym two ∙ one))
same_changes g es (c ∷ cs) [] bytes one two good too = absurd (no_change c (batch_of cs) (sym one ∙ two))
same_changes g es (c ∷ cs) (d ∷ ds) bytes one two good too =
    let first = one_front g bytes c d (batch_of cs) (batch_of ds) (first_front g es c cs bytes one good) (first_front g es d ds bytes two too) in
    let P : Change → Type 0 = λ z. InTurn (Good g) (changed es z) ds in
    let rest = same_changes g (changed es c) cs ds (batch_of cs) refl first.1 good.1 (subst P (sym first.0) too.1) in
    ap (λ (l : List Change). c ∷ l) rest ∙ ap (λ (z : Change). z ∷ ds) first.0

pub one_made : (g : Granularity) (es : List Entry) (bytes : List ℕ) (a b : List Entry) → Makes g es bytes a → Makes g es bytes b → a ≡ b
one_made g es bytes a b one two =
    one.next_is ∙ ap (λ (cs : List Change). all_changed es cs) (same_changes g es one.changes two.changes bytes one.bytes_are two.bytes_are one.follow two.follow) ∙ sym two.next_is

-- READING ON

pub made_first : (g : Granularity) (es : List Entry) (bytes rest : List ℕ) (c : Change) (next : List Entry) → IsFront g bytes c rest → IsAllowed es c → Makes g (changed es c) rest next → Makes g es bytes next
made_first g es bytes rest c next front allowed made = record {
  changes = c ∷ made.changes;
  bytes_are = front.split ∙ ap (λ (l : List ℕ). encoded c ++ l) made.bytes_are;
  follow = ((front.sizes, can_follow g es c front.part allowed), made.follow);
  next_is = made.next_is;
}

-- bytes that aren't empty begin with a change that is allowed, and go on
begins : (g : Granularity) (es : List Entry) (bytes : List ℕ) (cs : List Change) (next : List Entry) → bytes ≢ [] → bytes ≡ batch_of cs → InTurn (Good g) es cs → next ≡ all_changed es cs
    → (c : Change) × (rest : List ℕ) × IsFront g bytes c rest × IsAllowed es c × Makes g (changed es c) rest next
begins g es bytes [] next some is follow next_is = absurd (some is)
begins g es bytes (c ∷ cs) next some is follow next_is =
    (c, batch_of cs, first_front g es c cs bytes is follow, is_allowed g es c follow.0.1, record { changes = cs; bytes_are = refl; follow = follow.1; next_is = next_is })

pub made_begins : (g : Granularity) (es : List Entry) (bytes : List ℕ) (next : List Entry) → bytes ≢ [] → Makes g es bytes next → (c : Change) × (rest : List ℕ) × IsFront g bytes c rest × IsAllowed es c × Makes g (changed es c) rest next
made_begins g es bytes next some made = begins g es bytes made.changes next some made.bytes_are made.follow made.next_is

pub made_rest : (g : Granularity) (es : List Entry) (bytes rest : List ℕ) (c : Change) (next : List Entry) → bytes ≢ [] → IsFront g bytes c rest → Makes g es bytes next → IsAllowed es c × Makes g (changed es c) rest next
made_rest g es bytes rest c next some front made =
    let begun = made_begins g es bytes next some made in
    let same = one_front g bytes begun.0 c begun.1 rest begun.2 front in
    let P : Change → Type 0 = λ z. IsAllowed es z in
    let Q : Change → Type 0 = λ z. Makes g (changed es z) rest next in
    let R : List ℕ → Type 0 = λ l. Makes g (changed es begun.0) l next in
    (subst P same.0 begun.3, subst Q same.0 (subst R same.1 begun.4))

-- WRITTEN BATCHES

in_turn : (g : Granularity) (es : List Entry) (cs : List Change) → All HasSizes cs → AllCanFollow g es cs → InTurn (Good g) es cs
in_turn g es [] sizes follow = tt
in_turn g es (c ∷ cs) sizes follow = ((All-head HasSizes c cs sizes, follow.0), in_turn g (changed es c) cs (All-tail HasSizes c cs sizes) follow.1)

pub some_bytes : (cs : List Change) → cs ≢ [] → batch_of cs ≢ []
some_bytes [] some = absurd (some refl)
some_bytes (c ∷ cs) some = λ none. no_change c (batch_of cs) none

pub written_batch : (g : Granularity) (es : List Entry) (cs : List Change) (batch : List ℕ) → batch ≡ batch_of cs → cs ≢ [] → All HasSizes cs → AllCanFollow g es cs → IsBatch g es batch (all_changed es cs)
written_batch g es cs batch is some sizes follow = (
  λ none. some_bytes cs some (sym is ∙ none),
  record { changes = cs; bytes_are = is; follow = in_turn g es cs sizes follow; next_is = refl },
)

-- ALL BATCHES

back : ℕ → Granularity
back zero = FiveMinutes
back (suc zero) = FifteenMinutes
back (suc (suc zero)) = ThirtyMinutes
back (suc (suc (suc zero))) = Hour
back (suc (suc (suc (suc zero)))) = Day
back (suc (suc (suc (suc (suc zero))))) = Month
back (suc (suc (suc (suc (suc (suc n)))))) = Year

back_of : (g : Granularity) → back (number_of g) ≡ g
unfolding back
back_of FiveMinutes = refl
back_of FifteenMinutes = refl
back_of ThirtyMinutes = refl
back_of Hour = refl
back_of Day = refl
back_of Month = refl
back_of Year = refl

one_config : (g h : Granularity) (r s : List ℕ) → config g ++ r ≡ config h ++ s → (g ≡ h) × (r ≡ s)
one_config g h r s same =
    let both : 1 ∷ (number_of g ∷ r) ≡ 1 ∷ (number_of h ∷ s) = same in
    let number : number_of g ≡ number_of h = cc both in
    let rest : r ≡ s = cc both in (sym (back_of g) ∙ ap back number ∙ back_of h, rest)

-- A FIRST BATCH

same_begun : (g h : Granularity) (batch : List ℕ) (a b : List Entry) → Begins g batch a → Begins h batch b → g ≡ h
same_begun g h batch a b one two = (one_config g h one.0 two.0 (sym one.1 ∙ two.1)).0

one_begun : (g : Granularity) (batch : List ℕ) (a b : List Entry) → Begins g batch a → Begins g batch b → a ≡ b
one_begun g batch a b one two =
    let rest = (one_config g g one.0 two.0 (sym one.1 ∙ two.1)).1 in
    let P : List ℕ → Type 0 = λ l. Makes g [] l b in one_made g [] one.0 a b one.2.0 (subst P (sym rest) two.2.0)

-- one that says the granularity alone
pub begun_empty : (g : Granularity) (batch : List ℕ) → batch ≡ config g → Begins g batch []
begun_empty g batch is =
    let made : Makes g [] [] [] = record { changes = []; bytes_are = refl; follow = tt; next_is = refl } in ([], is, (made, tt))

-- behind the granularity stand the entries that it sets
pub begun_rest : (g h : Granularity) (batch rest : List ℕ) (first : List Entry) → batch ≡ config g ++ rest → Begins h batch first → OnlySets g [] rest first
begun_rest g h batch rest first is begins =
    let same = one_config h g begins.0 rest (sym begins.1 ∙ is) in
    let P : List ℕ → Type 0 = λ l. OnlySets h [] l first in
    let Q : Granularity → Type 0 = λ k. OnlySets k [] rest first in subst Q same.0 (subst P same.1 begins.2)

set_allowed : (es : List Entry) (c : Change) → IsSet c → IsAllowed es c
set_allowed es (Set e) set = tt
set_allowed es (Drop s t) set = absurd set

pub sets_none : (g : Granularity) (es : List Entry) → OnlySets g es [] es
sets_none g es = let made : Makes g es [] es = record { changes = []; bytes_are = refl; follow = tt; next_is = refl } in (made, tt)

pub sets_first : (g : Granularity) (es : List Entry) (bytes rest : List ℕ) (c : Change) (next : List Entry) → IsFront g bytes c rest → IsSet c → OnlySets g (changed es c) rest next → OnlySets g es bytes next
sets_first g es bytes rest c next front set only =
    let made : Makes g es bytes next = record {
      changes = c ∷ only.0.changes;
      bytes_are = front.split ∙ ap (λ (l : List ℕ). encoded c ++ l) only.0.bytes_are;
      follow = ((front.sizes, can_follow g es c front.part (set_allowed es c set)), only.0.follow);
      next_is = only.0.next_is;
    } in
    (made, (set, only.1))

sets_begin : (g : Granularity) (es : List Entry) (bytes : List ℕ) (cs : List Change) (next : List Entry) → bytes ≢ [] → bytes ≡ batch_of cs → InTurn (Good g) es cs → AllByRecursion IsSet cs → next ≡ all_changed es cs
    → (c : Change) × (rest : List ℕ) × IsFront g bytes c rest × IsSet c × OnlySets g (changed es c) rest next
sets_begin g es bytes [] next some is follow set next_is = absurd (some is)
sets_begin g es bytes (c ∷ cs) next some is follow set next_is =
    let made : Makes g (changed es c) (batch_of cs) next = record { changes = cs; bytes_are = refl; follow = follow.1; next_is = next_is } in
    (c, batch_of cs, first_front g es c cs bytes is follow, set.0, (made, set.1))

pub sets_begins : (g : Granularity) (es : List Entry) (bytes : List ℕ) (next : List Entry) → bytes ≢ [] → OnlySets g es bytes next → (c : Change) × (rest : List ℕ) × IsFront g bytes c rest × IsSet c × OnlySets g (changed es c) rest next
sets_begins g es bytes next some only = sets_begin g es bytes only.0.changes next some only.0.bytes_are only.0.follow only.1 only.0.next_is

pub sets_rest : (g : Granularity) (es : List Entry) (bytes rest : List ℕ) (c : Change) (next : List Entry) → bytes ≢ [] → IsFront g bytes c rest → OnlySets g es bytes next → IsSet c × OnlySets g (changed es c) rest next
sets_rest g es bytes rest c next some front only =
    let begun = sets_begins g es bytes next some only in
    let same = one_front g bytes begun.0 c begun.1 rest begun.2 front in
    let P : Change → Type 0 = λ z. IsSet z in
    let Q : Change → Type 0 = λ z. OnlySets g (changed es z) rest next in
    let R : List ℕ → Type 0 = λ l. OnlySets g (changed es begun.0) l next in
    (subst P same.0 begun.3, subst Q same.0 (subst R same.1 begun.4))

pub no_set : (c : Change) → ((e : Entry) → c ≡ Set e → ⊥) → IsSet c → ⊥
no_set (Set e) not_set set = not_set e refl
no_set (Drop s t) not_set set = set

same_made : (g : Granularity) (es : List Entry) (bs : List (List ℕ)) (a b : List Entry) → AreBatches g es bs a → AreBatches g es bs b → a ≡ b
same_made g es [] a b one two = one ∙ sym two
same_made g es (x ∷ bs) a b one two =
    let P : List Entry → Type 0 = λ l. AreBatches g l bs b in
    same_made g one.0 bs a b one.2 (subst P (sym (one_made g es x one.0 two.0 one.1.1 two.1.1)) two.2)

pub one_granularity : (g h : Granularity) (bs : List (List ℕ)) (a b : List Entry) → Configured g bs a → Configured h bs b → g ≡ h
one_granularity g h [] a b one two = absurd one
one_granularity g h (x ∷ bs) a b one two = same_begun g h x one.0 two.0 one.1 two.1

pub one_fold : (g h : Granularity) (bs : List (List ℕ)) (a b : List Entry) → Folds g bs a → Folds h bs b → a ≡ b
one_fold g h [] a b one two = one ∙ sym two
one_fold g h (x ∷ bs) a b one two =
    let P : Granularity → Type 0 = λ z. Configured z (x ∷ bs) b in
    let too : Configured g (x ∷ bs) b = subst P (sym (one_granularity g h (x ∷ bs) a b one two)) two in
    let Q : List Entry → Type 0 = λ l. AreBatches g l bs b in
    same_made g one.0 bs a b one.2 (subst Q (sym (one_begun g x one.0 too.0 one.1 too.1)) too.2)

-- a front of batches folds too
batches_front : (g : Granularity) (es : List Entry) (xs ys : List (List ℕ)) (last : List Entry) → AreBatches g es (xs ++ ys) last → (mid : List Entry) × AreBatches g es xs mid
batches_front g es [] ys last are = (es, refl)
batches_front g es (x ∷ xs) ys last are = let front = batches_front g are.0 xs ys last are.2 in (front.0, (are.0, are.1, front.1))

folds_front : (g : Granularity) (xs ys : List (List ℕ)) (last : List Entry) → Folds g (xs ++ ys) last → (mid : List Entry) × Folds g xs mid
folds_front g [] ys last folds = ([], refl)
folds_front g (x ∷ xs) ys last folds = let front = batches_front g folds.0 xs ys last folds.2 in (front.0, (folds.0, folds.1, front.1))

-- and one more batch
batches_more : (g : Granularity) (es : List Entry) (bs : List (List ℕ)) (mid next : List Entry) (batch : List ℕ) → AreBatches g es bs mid → IsBatch g mid batch next → AreBatches g es (bs ++ batch ∷ []) next
batches_more g es [] mid next batch are is = let P : List Entry → Type 0 = λ l. IsBatch g l batch next in (next, subst P are is, refl)
batches_more g es (b ∷ bs) mid next batch are is = (are.0, are.1, batches_more g are.0 bs mid next batch are.2 is)

pub configured_more : (g : Granularity) (bs : List (List ℕ)) (es next : List Entry) (batch : List ℕ) → Configured g bs es → IsBatch g es batch next → Configured g (bs ++ batch ∷ []) next
configured_more g [] es next batch folds is = absurd folds
configured_more g (b ∷ bs) es next batch folds is = (folds.0, folds.1, batches_more g folds.0 bs es next batch folds.2 is)

pub configured_folds : (g : Granularity) (bs : List (List ℕ)) (es : List Entry) → Configured g bs es → Folds g bs es
configured_folds g [] es folds = absurd folds
configured_folds g (b ∷ bs) es folds = folds

-- the last batch of those that fold
batches_last : (g : Granularity) (es : List Entry) (bs : List (List ℕ)) (batch : List ℕ) (last : List Entry) → AreBatches g es (bs ++ batch ∷ []) last → (mid : List Entry) × AreBatches g es bs mid × IsBatch g mid batch last
batches_last g es [] batch last are = let P : List Entry → Type 0 = λ l. IsBatch g es batch l in (es, refl, subst P (sym are.2) are.1)
batches_last g es (b ∷ bs) batch last are = let more = batches_last g are.0 bs batch last are.2 in (more.0, (are.0, are.1, more.1), more.2)

-- BAD BATCHES

fronts : HaveFronts FoldsTo
fronts xs ys said folds = let front = folds_front said.0 xs ys said.1 folds in ((said.0, front.0), front.1)

pub folds_good : (g : Granularity) (bs : List (List ℕ)) (es : List Entry) (n : ℕ) → Folds g bs es → IsBadBatch bs n → ⊥
folds_good g bs es n folds bad = none_is_bad FoldsTo fronts bs (g, es) n folds bad

pub one_bad : (bs : List (List ℕ)) (m n : ℕ) → IsBadBatch bs m → IsBadBatch bs n → m ≡ n
one_bad bs m n one two = one_is_bad FoldsTo fronts bs m n one two

-- BATCH BY BATCH

pub begins_good : (g : Granularity) (bs : List (List ℕ)) (batch : List ℕ) (first : List Entry) → bs ≡ [] → Begins g batch first → Configured g (bs ++ batch ∷ []) first
begins_good g bs batch first none begins = let P : List (List ℕ) → Type 0 = λ l. Configured g (l ++ batch ∷ []) first in subst P (sym none) (first, begins, refl)

pub begins_bad : (bs : List (List ℕ)) (batch : List ℕ) (n : ℕ) → bs ≡ [] → n ≡ length bs → ((g : Granularity) (first : List Entry) → Begins g batch first → ⊥) → IsBadBatch (bs ++ batch ∷ []) n
begins_bad bs batch n none counted bad =
    let P : List (List ℕ) → Type 0 = λ l. Folds FiveMinutes l [] in
    last_is_bad FoldsTo bs batch (FiveMinutes, []) n counted (subst P (sym none) refl)
    (λ said folds. let Q : List (List ℕ) → Type 0 = λ l. Folds said.0 (l ++ batch ∷ []) said.1 in let first = subst Q none folds in bad said.0 first.0 first.1)

-- a batch that doesn't go on
goes_on : (g : Granularity) (bs : List (List ℕ)) (batch : List ℕ) (es : List Entry) → Configured g bs es → (h : Granularity) (last : List Entry) → Folds h (bs ++ batch ∷ []) last → IsBatch g es batch last
goes_on g [] batch es good h last folds = absurd good
goes_on g (b ∷ bs) batch es good h last folds =
    let same = same_begun h g b folds.0 good.0 folds.1 good.1 in
    let P : Granularity → Type 0 = λ z. Configured z (b ∷ (bs ++ batch ∷ [])) last in
    let too : Configured g (b ∷ (bs ++ batch ∷ [])) last = subst P same folds in
    let R : List Entry → Type 0 = λ l. AreBatches g l (bs ++ batch ∷ []) last in
    let more = batches_last g good.0 bs batch last (subst R (one_begun g b too.0 good.0 too.1 good.1) too.2) in
    let Q : List Entry → Type 0 = λ l. IsBatch g l batch last in
    subst Q (same_made g good.0 bs more.0 es more.1 good.2) more.2

pub goes_bad : (g : Granularity) (bs : List (List ℕ)) (batch : List ℕ) (es : List Entry) (n : ℕ) → n ≡ length bs → Configured g bs es → ((next : List Entry) → IsBatch g es batch next → ⊥) → IsBadBatch (bs ++ batch ∷ []) n
goes_bad g bs batch es n counted good bad = last_is_bad FoldsTo bs batch (g, es) n counted (configured_folds g bs es good) (λ said folds. bad said.1 (goes_on g bs batch es good said.0 said.1 folds))

pub goes_on_bad : (bs : List (List ℕ)) (batch : List ℕ) (n : ℕ) → IsBadBatch bs n → IsBadBatch (bs ++ batch ∷ []) n
goes_on_bad bs batch n bad = stays_bad FoldsTo bs batch n bad
