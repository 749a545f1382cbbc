-- What the acts of one who acts alone leave of the disk's files: those of an ingest leave whatever is listed, and those of a retrieval only read.
use Rattle.std.proofs.Common.{◌≡◌, inl, inr, ℕ, ◌+◌, List, [], ◌∷◌, ◌++◌, map, get_or, Bool, true, false, Option, Some, None, refl, sym, ◌∙◌, ap, subst, arith}
use Rattle.std.specs.Prelude.{Contains, IsTrue, slice_get}
use Rattle.std.specs.List.{AllByRecursion}
use Rattle.std.proofs.lemmas.List.Elements.{Contains-get_or}
use Rattle.disk_model.specs.Files.{Name}
use Rattle.disk_model.proofs.Passing.{passes_weaker}
use Rattle.edge_io.specs.Moments.{Moments}
use Rattle.pb_messages.specs.declared.info.PayloadInfo.{PayloadInfo}
use Rattle.pb_lines.specs.Stream.{Item, header, sample, chunk_end}
use Rattle.series_model.specs.declared.sample.Query.{Query}
use Rattle.store_files.specs.Fronts.{Keeps}
use Rattle.store_manifest.specs.Manifest.{ManifestState}
use Rattle.store_manifest.specs.declared.entry.Entry.{Entry as FileEntry}
use Rattle.durable_write.specs.Held.{KeepsListed, Listing, file_of}
use Rattle.durable_write.specs.Writing.{LeavesListed}
use Rattle.tier_store.specs.Change.{Has}
use Rattle.tier_store.specs.Pinned.{IsThereTo, LeavesFronts}
use Rattle.tier_store.specs.Stores.{Stores}
use Rattle.tier_store.proofs.Frames.{fronts_on, nothing_fronts}
use Rattle.tier_store.proofs.ReadCalls.{listed_to}
use Rattle.act_model.specs.Alone.{Chain}
use Rattle.act_model.specs.History.{Done, Entry, done_of, mine, own}
use Rattle.act_model.specs.Machine.{Machine}
use Rattle.act_model.specs.Reply.{Reply}
use Rattle.act_model.specs.declared.acts.Act.{Act}
use Rattle.act_model.specs.declared.acts.Act.TheVariants.{Register, Offer, Flush, Pin, OpenPiece, Unpin}
use Rattle.act_model.specs.declared.acts.Answer.TheVariants.{IntakeFull}
use Rattle.archive_core.specs.Leaving.{Leaves, LeavesFiles, ReadsAlone, files_of}
use Rattle.archive_core.specs.Parts.{Parts}
use Rattle.archive_core.proofs.Opened.{reads_none, reads_then}
use Rattle.feed_session.specs.Asks.{AsksFor, AsksRow, AreMade, asked_again, chunk_behind}
use Rattle.feed_session.specs.Session.{AreTaken, AsksLast, Session, TakenItem, acts_of, chunk_after}
use Rattle.feed_session.specs.declared.end.Fed.{Fed}
use Rattle.retrieval_query.specs.Openings.{PieceTold, openings}
use Rattle.retrieval_query.specs.Retrieving.{given_up}
use Rattle.archiver_appliance.specs.Retrieving.{FailsAtMost, IsRetrieval, of_none, without_pin, with_pin}

-- THE KINDS OF ACTS

-- an act of an ingest
abbrev pub IsFeeding : Act → Type 0
IsFeeding (Register name about) = Unit {0}
IsFeeding (Offer name ty t line now) = Unit {0}
IsFeeding (Flush limit) = Unit {0}
IsFeeding _ = ⊥

-- an act of a retrieval
abbrev pub IsLooking : Act → Type 0
IsLooking (Pin name query) = Unit {0}
IsLooking (OpenPiece pin i) = Unit {0}
IsLooking (Unpin pin) = Unit {0}
IsLooking _ = ⊥

-- all that was done are acts of this kind
abbrev pub AllDone : (Act → Type 0) → List Done → Type 0
AllDone Is done = AllByRecursion (λ (d : Done). Is d.act) done

all_both : {A : Type 0} (P : A → Type 0) (xs ys : List A) → AllByRecursion P xs → AllByRecursion P ys → AllByRecursion P (xs ++ ys)
all_both {A} P [] ys one two = two
all_both {A} P (x ∷ xs) ys one two = (one.0, all_both P xs ys one.1 two)

of_done : (Is : Act → Type 0) (es : List Entry) → AllDone Is (map done_of es) → AllByRecursion (λ (e : Entry). Is e.act) es
of_done Is [] are = tt
of_done Is (e ∷ es) are = (are.0, of_done Is es are.1)

-- the entries of one who acts alone are what was done
pub done_alone : (entries : List Entry) (done : List Done) → own 0 entries ≡ entries → mine 0 entries ≡ done → map done_of entries ≡ done
done_alone entries done all just = ap (map done_of) (sym all) ∙ just

pub acts_alone_are : (Is : Act → Type 0) (entries : List Entry) (done : List Done) → own 0 entries ≡ entries → mine 0 entries ≡ done → AllDone Is done → AllByRecursion (λ (e : Entry). Is e.act) entries
acts_alone_are Is entries done all just are = of_done Is entries (subst (AllDone Is) (sym (done_alone entries done all just)) are)

-- THE ACTS OF AN INGEST

again_feeding : (act : Act) (answer : Reply) → IsFeeding act → AllByRecursion IsFeeding (asked_again act answer)
again_feeding act (IntakeFull held) is = (tt, (is, tt))
again_feeding act _ is = tt

made_feeding : (asked : List Act) (done : List Done) (left : List Act) → AreMade asked done left → AllByRecursion IsFeeding asked → AllDone IsFeeding done
made_feeding asked [] left made are = tt
made_feeding [] (d ∷ done) left made are = absurd made
made_feeding (act ∷ asked) (d ∷ done) left made are = (
  subst IsFeeding (sym made.0) are.0,
  made_feeding (asked_again act d.answer ++ asked) done left made.1 (all_both IsFeeding (asked_again act d.answer) asked (again_feeding act d.answer are.0) are.1),
)

row_feeding : (registers : Bool) (info : PayloadInfo) (asked : List Act) → AsksRow registers info asked → AllByRecursion IsFeeding asked
row_feeding true info asked (inl is) = subst (AllByRecursion IsFeeding) (sym is.1) (tt, tt)
row_feeding true info asked (inr is) = subst (AllByRecursion IsFeeding) (sym is.1) tt
row_feeding false info asked is = subst (AllByRecursion IsFeeding) (sym is) tt

item_feeding : (registers : Bool) (chunk : Option PayloadInfo) (item : Item) (moments : List ℕ) (asked : List Act) → AsksFor registers chunk item moments asked → AllByRecursion IsFeeding asked
item_feeding registers chunk (header info line) moments asked asks = row_feeding registers info asked asks.1
item_feeding registers chunk (sample x) moments asked asks = subst (AllByRecursion IsFeeding) (sym asks.4) (tt, tt)
item_feeding registers chunk chunk_end moments asked asks = subst (AllByRecursion IsFeeding) (sym asks.1) tt

taken_feeding : (registers : Bool) (chunk : Option PayloadInfo) (ts : List TakenItem) → AreTaken registers chunk ts → AllDone IsFeeding (acts_of ts)
taken_feeding registers chunk [] are = tt
taken_feeding registers chunk (t ∷ ts) are =
    let one = are.0 in
    all_both (λ (d : Done). IsFeeding d.act) t.done (acts_of ts) (made_feeding one.asked t.done [] one.made (item_feeding registers chunk t.item t.moments one.asked one.asks)) (taken_feeding registers (chunk_behind chunk t.item) ts are.1)

last_feeding : (registers : Bool) (chunk : Option PayloadInfo) (items : List Item) (moments : List ℕ) (asked : List Act) → AsksLast registers chunk items moments asked → AllByRecursion IsFeeding asked
last_feeding registers chunk [] moments asked (none, inl is) = subst (AllByRecursion IsFeeding) (sym is) tt
last_feeding registers chunk [] moments asked (none, inr is) = subst (AllByRecursion IsFeeding) (sym is) (tt, tt)
last_feeding registers chunk (item ∷ []) moments asked asks = item_feeding registers chunk item moments asked asks
last_feeding registers chunk (item ∷ other ∷ items) moments asked asks = absurd asks

pub session_feeding : (registers : Bool) (end : Fed) (taken : List TakenItem) (source : Option (List ℕ)) (clock clock' : Option Moments) (done : List Done) → Session registers end taken source clock clock' done → AllDone IsFeeding done
session_feeding registers end taken source clock clock' done s =
    let last = made_feeding s.asked s.last s.left s.made (last_feeding registers (chunk_after None taken) s.begun s.moments s.asked s.asks) in
    subst (AllDone IsFeeding) (sym s.all) (all_both (λ (d : Done). IsFeeding d.act) (acts_of taken) s.last (taken_feeding registers None taken s.items) last)

-- THE ACTS OF A RETRIEVAL

openings_looking : (pin i : ℕ) (told : List PieceTold) → AllDone IsLooking (openings pin i told)
openings_looking pin i [] = tt
openings_looking pin i (t ∷ ts) = (tt, openings_looking pin (i + 1) ts)

failed_looking : (pin : ℕ) (told : List PieceTold) (failed : List Done) → FailsAtMost pin told failed → AllDone IsLooking failed
failed_looking pin told failed (inl is) = subst (AllDone IsLooking) (sym is) tt
failed_looking pin told failed (inr (inl is)) = subst (AllDone IsLooking) (sym is) (tt, tt)
failed_looking pin told failed (inr (inr is)) = subst (AllDone IsLooking) (sym is) (tt, tt)

pub retrieval_looking : (name : List ℕ) (query : Query) {done : List Done} → IsRetrieval name query done → AllDone IsLooking done
retrieval_looking name query of_none = tt
retrieval_looking name query (without_pin reply is) = (tt, tt)
retrieval_looking name query (with_pin pin told_name about pieces tail told failed fails) =
    let P : Done → Type 0 = λ d. IsLooking d.act in (
      tt,
      all_both P (openings pin 0 told ++ failed) (given_up pin) (all_both P (openings pin 0 told) failed (openings_looking pin 0 told) (failed_looking pin told failed fails)) (tt, tt),
    )

-- WHAT AN ACT LEAVES

feeding_leaves : (tells : Bool) (act : Act) (p q : Parts) → IsFeeding act → LeavesFiles tells act p q → LeavesFronts tells (files_of p) (files_of q)
feeding_leaves tells (Register name about) p q is files = files
feeding_leaves tells (Offer name ty t line now) p q is files = files.fronts
feeding_leaves tells (Flush limit) p q is files = files
feeding_leaves tells _ p q is files = absurd is

looking_leaves : (tells : Bool) (act : Act) (p q : Parts) → IsLooking act → LeavesFiles tells act p q → ReadsAlone tells p q
looking_leaves tells (Pin name query) p q is files = files
looking_leaves tells (OpenPiece pin i) p q is files = files
looking_leaves tells (Unpin pin) p q is files = files
looking_leaves tells _ p q is files = absurd is

-- WHAT A CHAIN OF ACTS LEAVES

module _ {A : Type 0} (stands : A → Machine → Type 0) (leaves : A → Entry → A → Type 0) (R : A → A → Type 0) (none : (a : A) → R a a) (more : (a b c : A) → R a b → R b c → R a c) (Is : Act → Type 0)
    (one : (a b : A) (e : Entry) → Is e.act → leaves a e b → R a b) where
  -- what each act of a kind makes, all of them make
  along : (entries : List Entry) (a b : A) → AllByRecursion (λ (e : Entry). Is e.act) entries → Chain stands leaves a entries b → R a b
  along [] a b are chain = subst (λ (x : A). R a x) (sym chain) (none a)
  along (e ∷ es) a b are chain = more a chain.0 b (one a chain.0 e are.0 chain.2) (along es chain.0 b are.1 chain.3)

module _ {A : Type 0} (tells : Bool) (stands : A → Machine → Type 0) (see : A → Parts) where
  pub fronts_along : (entries : List Entry) (a b : A) → AllByRecursion (λ (e : Entry). IsFeeding e.act) entries → Chain stands (λ a e b. Leaves tells (see a) e (see b)) a entries b → LeavesFronts tells (files_of (see a)) (files_of (see b))
  fronts_along =
      along stands (λ a e b. Leaves tells (see a) e (see b)) (λ a b. LeavesFronts tells (files_of (see a)) (files_of (see b))) (λ a. nothing_fronts tells (files_of (see a)))
      (λ a b c one two. fronts_on tells (files_of (see a)) (files_of (see b)) (files_of (see c)) one two) IsFeeding (λ a b e is left. feeding_leaves tells e.act (see a) (see b) is left.files)

  pub reads_along : (entries : List Entry) (a b : A) → AllByRecursion (λ (e : Entry). IsLooking e.act) entries → Chain stands (λ a e b. Leaves tells (see a) e (see b)) a entries b → ReadsAlone tells (see a) (see b)
  reads_along =
      along stands (λ a e b. Leaves tells (see a) e (see b)) (λ a b. ReadsAlone tells (see a) (see b)) (λ a. reads_none tells (see a) (see a) refl)
      (λ a b c one two. reads_then tells (see a) (see b) (see c) one two) IsLooking (λ a b e is left. looking_leaves tells e.act (see a) (see b) is left.files)

-- WHAT IS LISTED

module _ (tells : Bool) (p q : Parts) (held : Stores) (has : Has tells p.at held) (fronts : LeavesFronts tells (files_of p) (files_of q)) (told : IsTrue tells) (i : ℕ) (m : ManifestState) (here : slice_get p.at.manifests i ≡ Some m) where
  abbrev listing : Listing
  listing = ((i + 1, p.at.catalogue.rows), m.entries)

  there : (e : FileEntry) → Contains m.entries e → IsThereTo (files_of p) (file_of listing.0 e) e.len
  there e within = inl (listed_to tells p.at held (i + 1) e (file_of listing.0 e) has (record { place = i; manifest = m; is = refl; here = here; listed = within }) refl)

  -- Where nothing stood in doubt, the listed files of each store have what is listed of them.
  pub lists_left : LeavesListed ((i + 1, p.at.catalogue.rows), m.entries) p.at.files q.at.files p.at.past q.at.past
  lists_left = record {
    now = λ k d lt. let e = get_or m.entries k d in fronts.now told (file_of listing.0 e) e.len (there e (Contains-get_or m.entries k d lt));
    any_moment =
        passes_weaker (λ a b. (name : Name) (len : ℕ) → name.0 ≡ i + 1 → IsThereTo (files_of p) name len → Keeps len (a name) (b name)) (KeepsListed listing) p.at.past q.at.past (fronts.any_moment told (i + 1) (omega arith))
        (λ a b left step k d lt. let e = get_or m.entries k d in step (file_of listing.0 e) e.len refl (there e (Contains-get_or m.entries k d lt)));
  }
