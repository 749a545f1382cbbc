-- One step of copying, which may go on in a file of limbo, by what the move's own call says. Its lines go where they would if that file were to be listed already.
use Rattle.std.proofs.Common.{◌≡◌, ◌⊎◌, inl, inr, true, false, Bool, ℕ, ◌<◌, ◌≤◌, List, [], ◌∷◌, ◌++◌, length, get_or, Option, Some, None, refl, sym, ◌∙◌, ap, subst, arith, ◌≢◌, ◌+◌, Err, Result, Ok}
use Rattle.std.specs.Prelude.{All, IfSome, nat_eq, nat_lt, if◌then◌else◌, slice_get, Contains, IsTrue}
use Rattle.std.proofs.lemmas.Bool.Decides.{nat_tests}
use Rattle.std.proofs.lemmas.List.{length-append}
use Rattle.std.proofs.lemmas.List.Elements.{All-contains, Contains-append_left, Contains-get_or, Contains-push}
use Rattle.disk_model.specs.Files.{Name, Files, Rose, HasFile}
use Rattle.disk_model.specs.Past.{MayLeave}
use Rattle.etl_mover.specs.Copying.{anew, behind, last_of, starts, SetsLast}
use Rattle.etl_mover.specs.Move.{Moving, FewPending, IsMove}
use Rattle.etl_mover.specs.Step.{Advances, CanCopy, CanRevive, CopiesPart, GoesTo, IsPlacedOrNot, source_file, target_file}
use Rattle.etl_mover.proofs.Steps.{advances_keep, IsOfPart, targets, last_of-push}
use Rattle.partition_names.specs.declared.granularity.Granularity.{Granularity}
use Rattle.partition_names.specs.declared.part.Part.{Part}
use Rattle.partition_names.specs.Part.{HoldsMoment, IsPart}
use Rattle.store_manifest.specs.declared.entry.Entry.{Entry}
use Rattle.tier_store.specs.Reviving.{GoesBehind, IsRevived, pending_with, reviving, IsNotRevived}
use Rattle.tier_store.specs.declared.limbo.Retired.{Retired}
use Rattle.tier_store.proofs.CopyWrites.{listed_here, of_part, Stays, Wrote, goes_whole, keeps_whole, kept_still, leaves_others, on_store, shown_still, stays}
use Rattle.tier_store.proofs.CopySays.{all_said, damaged_said, more_said, wrote_it}
use Rattle.tier_store.proofs.CopyFiles.{Start, after_split}
use Rattle.disk_model.specs.declared.disk.DiskErr.{DiskErr}
use Rattle.disk_model.specs.declared.disk.DiskErr.TheVariants.{Fault, Memory}
use Rattle.gate_journal.specs.DiskShown.{DiskShown, ReadsDisk}
use Rattle.etl_mover.specs.Writing.{LeavesFile}
use Rattle.pv_catalog.specs.Catalogue.{CatalogueState}
use Rattle.pv_catalog.specs.declared.row.Row.{Row}
use Rattle.store_manifest.specs.Entries.{Place}
use Rattle.store_manifest.specs.Manifest.{ManifestState}
use Rattle.durable_write.specs.Ends.{Done, IsFailed, end_of_disk}
use Rattle.durable_write.specs.Held.{Filed, IsListed, file_of, filed_at}
use Rattle.durable_write.specs.Stored.{KeysDiffer}
use Rattle.durable_write.proofs.Staying.{same_place}
use Rattle.tier_store.specs.Stores.{Stores, tier}
use Rattle.tier_store.specs.Seen.{seen_on}
use Rattle.tier_store.specs.Change.{Has}
use Rattle.tier_store.specs.Copied.{end_after}
use Rattle.tier_store.specs.Copying.{CopiesFurther, CopyLeaves, FindsLine, IsDamaged, SaysLines, StaysHeld}
use Rattle.tier_store.specs.Limbo.{IsOfPlace, LimboStands}
use Rattle.tier_store.specs.Pinned.{SeenAll, beside, KeepsShown}
use Rattle.tier_store.specs.declared.copying.CopyEnd.{CopyEnd}
use Rattle.tier_store.proofs.CopyParts.{next_part, runs_by, q_head, source_there}
use Rattle.tier_store.proofs.Places.{manifest_of, within_three}
use Rattle.tier_store.proofs.Removals.{as_filed, retired_listed}
use Rattle.pv_catalog.proofs.Standing.{keeps_same}
use Rattle.tier_store.specs.Revival.{AreWhole, KeepsWhole}
use Rattle.tier_store.proofs.Revival.{read_whole}
use Rattle.tier_store.proofs.Showing.{held_same}
use Rattle.durable_write.specs.Flush.{with_files}
use Rattle.durable_write.specs.Plan.{IsLastOf}
use Rattle.tier_store.proofs.RunningMoves.{has_copied, is_ahead}
use Rattle.partition_names.proofs.PartLemmas as parts
use Rattle.tier_store.specs.declared.copying.CopyEnd.TheVariants as ends

-- WHERE LINES GO

starts_some : (last : Option Entry) (e : Entry) (series : ℕ) (to : Part) (head_len : ℕ) → e.part.start ≡ to.start → IfSome last (λ (l : Entry). l.part.start < e.part.start) → starts last series to head_len (Some e) ≡ Some (behind e)
starts_some None e series to head_len same less = refl
starts_some (Some l) e series to head_len same less = go (nat_eq l.part.start to.start) refl (nat_lt to.start l.part.start) refl
  where
    go : (b : Bool) → nat_eq l.part.start to.start ≡ b → (c : Bool) → nat_lt to.start l.part.start ≡ c → (if b then Some (behind l) else (if c then None else Some (behind e))) ≡ Some (behind e)
    go true is c other = absurd (let one : l.part.start ≡ to.start = grind (arith, nat_tests, is) in omega (arith, one, same, less))
    go false is true low = absurd (let one : to.start < l.part.start = grind (arith, nat_tests, low) in omega (arith, one, same, less))
    go false is false high = refl

starts_last : (e : Entry) (series : ℕ) (to : Part) (head_len : ℕ) → e.part.start ≡ to.start → starts (Some e) series to head_len None ≡ Some (behind e)
starts_last e series to head_len same = go (nat_eq e.part.start to.start) refl
  where
    go : (b : Bool) → nat_eq e.part.start to.start ≡ b → (if b then Some (behind e) else (if nat_lt to.start e.part.start then None else Some (anew series to head_len))) ≡ Some (behind e)
    go true is = refl
    go false is = absurd (let no : nat_eq e.part.start to.start ≡ true = grind (arith, nat_tests, same) in cc (is, no))

module _ (limbo : List Retired) (store : ℕ) (move : Moving) where
  abbrev of_move : Entry → Type 0
  of_move e = IsPart move.granularity e.part × (e.series ≡ move.series)

  -- the revived file is of the partition into which the part comes
  revived_to : (e p : Entry) (to : Part) → GoesBehind limbo store move (Some e) → slice_get move.parts move.at ≡ Some p → IsPart move.granularity to → HoldsMoment to p.part.start → of_move e → e.part ≡ to
  revived_to e p to goes at_hand is holds of =
      let r = goes p at_hand in
      parts.one_part move.granularity e.part to p.part.start of.0 is (subst (λ (x : Entry). HoldsMoment x.part p.part.start) r.3 r.2.holds) holds

  last_before : (e p : Entry) → GoesBehind limbo store move (Some e) → slice_get move.parts move.at ≡ Some p → IfSome (last_of move.pending move.listed) (λ (l : Entry). l.part.start < e.part.start)
  last_before e p goes at_hand = let r = goes p at_hand in subst (λ (x : Entry). IfSome (last_of move.pending move.listed) (λ (l : Entry). l.part.start < x.part.start)) r.3 r.2.behind

  starts_same : (revived : Option Entry) (p : Entry) (to : Part) → GoesBehind limbo store move revived → slice_get move.parts move.at ≡ Some p → IsPart move.granularity to → HoldsMoment to p.part.start → All of_move (pending_with move.pending revived)
      → starts (last_of (pending_with move.pending revived) move.listed) move.series to p.head_len None ≡ starts (last_of move.pending move.listed) move.series to p.head_len revived
  starts_same None p to goes at_hand is holds all = refl
  starts_same (Some e) p to goes at_hand is holds all =
      let of = All-contains of_move (move.pending ++ e ∷ []) e all (Contains-push move.pending e) in
      let start : e.part.start ≡ to.start = ap (λ (x : Part). x.start) (revived_to e p to goes at_hand is holds of) in
      ap (λ (o : Option Entry). starts o move.series to p.head_len None) (last_of-push move.pending e move.listed)
      ∙ (starts_last e move.series to p.head_len start ∙ sym (starts_some (last_of move.pending move.listed) e move.series to p.head_len start (last_before e p goes at_hand)))

  module _ (revived : Option Entry) (goes_behind : GoesBehind limbo store move revived) (all : All of_move (pending_with move.pending revived)) where
    abbrev with_it : Moving
    with_it = reviving move revived

    pub to_none : (p : Entry) (s : Start) → GoesTo with_it None p s → GoesTo move revived p s
    to_none p s goes = record {
      at_hand = goes.at_hand;
      to = goes.to;
      is = goes.is;
      holds = goes.holds;
      begins = sym (starts_same revived p goes.to goes_behind goes.at_hand goes.is goes.holds all) ∙ goes.begins;
    }

    pub begins_plain : (p : Entry) (s : Start) (goes : GoesTo with_it None p s) → starts (last_of move.pending move.listed) move.series goes.to p.head_len revived ≡ Some s
    begins_plain p s goes = sym (starts_same revived p goes.to goes_behind goes.at_hand goes.is goes.holds all) ∙ goes.begins

    pub from_none : (p : Entry) (s : Start) → GoesTo move revived p s → GoesTo with_it None p s
    from_none p s goes = record {
      at_hand = goes.at_hand;
      to = goes.to;
      is = goes.is;
      holds = goes.holds;
      begins = starts_same revived p goes.to goes_behind goes.at_hand goes.is goes.holds all ∙ goes.begins;
    }

    pub placed_none : (p : Entry) → slice_get move.parts move.at ≡ Some p → IsPlacedOrNot move revived p → IsPlacedOrNot with_it None p
    placed_none p at_hand (inl (s, goes)) = inl (s, from_none p s goes)
    placed_none p at_hand (inr over) = inr (record { to = over.to; is = over.is; holds = over.holds; none = starts_same revived p over.to goes_behind at_hand over.is over.holds all ∙ over.none })

-- WHAT IS TO BE LISTED

sets_rest : (entry : Entry) (ps new : List Entry) (listed : Option Entry) (n : ℕ) → entry.part.start ≡ n → IfSome (last_of ps listed) (λ (l : Entry). l.part.start < n) → SetsLast entry ps new → new ≡ ps ++ entry ∷ []
sets_rest entry ps new listed n begin less (inr stands) = stands.becomes
sets_rest entry ps new listed n begin less (inl takes) =
    let last : last_of ps listed ≡ Some takes.last = ap (λ (l : List Entry). last_of l listed) takes.are ∙ last_of-push takes.rest takes.last listed in
    let low : takes.last.part.start < n = subst (λ (o : Option Entry). IfSome o (λ (l : Entry). l.part.start < n)) last less in
    let same = takes.same in
    absurd (omega (arith, low, same, begin))

-- the last of those that are to be listed begins before what lies behind
pub last_in_pending : (ps : List Entry) (listed : Option Entry) (rest : List Entry) (l e : Entry) → ps ≡ rest ++ l ∷ [] → IfSome (last_of ps listed) (λ (x : Entry). x.part.start < e.part.start) → l.part.start ≡ e.part.start → ⊥
last_in_pending ps listed rest l e are less same =
    let last : last_of ps listed ≡ Some l = ap (λ (xs : List Entry). last_of xs listed) are ∙ last_of-push rest l listed in
    let low : l.part.start < e.part.start = subst (λ (o : Option Entry). IfSome o (λ (x : Entry). x.part.start < e.part.start)) last less in
    omega (arith, low, same)

not_longer : (ps : List Entry) (e : Entry) → ps ≡ ps ++ e ∷ [] → ⊥
not_longer ps e is = let long = ap length is in omega (arith, long, length-append ps (e ∷ []))

-- the entry takes the place of the revived file's
sets_over : (entry e : Entry) (ps new : List Entry) → new ≡ ps ++ entry ∷ [] → e.part.start ≡ entry.part.start → SetsLast entry (ps ++ e ∷ []) new
sets_over entry e ps new is same = inl (record { rest = ps; last = e; are = refl; same = same; becomes = is })

-- THE CALL

-- what the move becomes: as the call tells it, or with the revived file where nothing is to be listed that wasn't before
pub record Becomes (fine : Granularity) (revived : Option Entry) (old move nm : Moving) (len : ℕ) (Copies : Moving → Type 0) : Type 0 where
  pub new : Moving
  pub adv : Advances move new None len
  pub run : IsMove fine new
  pub copies : Copies new
  pub same : ((new ≡ nm) × IsRevived (last_of nm.pending nm.listed) revived) ⊎ ((nm.pending ≡ old.pending) × (new.pending ≡ move.pending) × (new.listed ≡ nm.listed))

module _ (files : Files) (later : DiskShown) (told : Type 0) (at len most : ℕ) (fine : Granularity) (limbo : List Retired) (store : ℕ) (move nm : Moving) where
  -- what the call tells of the lines
  abbrev pub Copies : Moving → Option Entry → Moving → Type 0
  Copies m revived new = told → (p : Entry) (start : Start) (bytes : List ℕ) → GoesTo m revived p start → files (source_file m p) ≡ Some bytes → CopiesPart m new start p at len most bytes files later

  pub becomes : (revived : Option Entry) → GoesBehind limbo store move revived → IsMove fine (reviving move revived) → Advances move nm revived len → Copies move revived nm → Becomes fine revived move (reviving move revived) nm len (Copies (reviving move revived) None)
  becomes None goes is adv copies = record { new = nm; adv = adv; run = advances_keep fine move nm None len is tt adv; copies = copies; same = inl (refl, λ e none. absurd (cc (none))) }
  becomes (Some e) goes is adv copies = by_sets adv.sets
    where
      m : Moving
      m = reviving move (Some e)

      all : All (of_move limbo store move) (pending_with move.pending (Some e))
      all = is.pending

      of : of_move limbo store move e
      of = All-contains (of_move limbo store move) (move.pending ++ e ∷ []) e is.pending (Contains-push move.pending e)

      begins : (p : Entry) (s : Start) → GoesTo move (Some e) p s → s ≡ behind e
      begins p s to =
          let same = revived_to limbo store move e p to.to goes to.at_hand to.is to.holds of in
          let one : ◌≡◌ {A = Option Start} (Some s) (Some (behind e)) = sym to.begins ∙ starts_some (last_of move.pending move.listed) e move.series to.to p.head_len (ap (λ (x : Part). x.start) same) (last_before limbo store move e p goes to.at_hand) in
          cc (one)

      -- an entry that is set is so behind the others
      set_so : (p : Entry) (s : Start) (entry : Entry) (new : List Entry) → GoesTo move (Some e) p s → entry.part ≡ s.entry.part → SetsLast entry move.pending new → (new ≡ move.pending ++ entry ∷ []) × (e.part.start ≡ entry.part.start)
      set_so p s entry new to of_part sets =
          let begin : entry.part.start ≡ e.part.start = ap (λ (x : Part). x.start) of_part ∙ ap (λ (x : Start). x.entry.part.start) (begins p s to) in
          (sets_rest entry move.pending new move.listed e.part.start begin (last_before limbo store move e p goes to.at_hand) sets, sym begin)

      pending_is : adv.pending ≡ nm.pending
      pending_is = elim adv.is [ inl same ↦ sym (ap (λ (x : Moving). x.pending) same) | inr (p, at_hand, same) ↦ sym (ap (λ (x : Moving). x.pending) same) ]

      -- nothing is set
      unset : nm.pending ≡ move.pending → Becomes fine (Some e) move m nm len (Copies m None)
      unset same = record {
        new = new;
        adv = adv_is;
        run = advances_keep fine m new None len is tt adv_is;
        copies = λ t p s bytes to file.
            let cp = copies t p s bytes (to_none limbo store move (Some e) goes all p s to) file in (
              cp.0,
              record {
                entry = cp.1.entry;
                part_is = cp.1.part_is;
                series_is = cp.1.series_is;
                takes = cp.1.takes;
                writes = elim cp.1.writes [
                  | inl w ↦ absurd (not_longer move.pending cp.1.entry (sym same ∙ (set_so p s cp.1.entry nm.pending (to_none limbo store move (Some e) goes all p s to) cp.1.part_is w.set).0))
                  | inr none ↦ inr (record { none = none.none; same = refl; same_files = none.same_files })
                ];
              },
              cp.2,
            );
        same = inr (same, refl, refl);
      }
        where
          new : Moving
          new = record nm { pending = m.pending }

          adv_is : Advances m new None len
          adv_is = record {
            pending = m.pending;
            is = elim adv.is [
              | inl is_so ↦ inl (ap (λ (x : Moving). record x { pending = m.pending }) is_so)
              | inr (p, at_hand, is_so) ↦ inr (p, at_hand, ap (λ (x : Moving). record x { pending = m.pending }) is_so)
            ];
            sets = inl refl;
          }

      by_sets : (adv.pending ≡ move.pending) ⊎ ((part : Entry) × (start : Start) × (entry : Entry) × GoesTo move (Some e) part start × (entry.part ≡ start.entry.part) × (entry.series ≡ start.entry.series) × (start.entry.len ≤ entry.len) × SetsLast entry move.pending adv.pending) → Becomes fine (Some e) move m nm len (Copies m None)
      by_sets (inl same) = unset (sym pending_is ∙ same)
      by_sets (inr (part, start, entry, to, of_part, own, longer, sets)) = record {
        new = nm;
        adv = adv_is;
        run = advances_keep fine m nm None len is tt adv_is;
        copies = λ t p s bytes goes_on file.
            let cp = copies t p s bytes (to_none limbo store move (Some e) goes all p s goes_on) file in (
              cp.0,
              record {
                entry = cp.1.entry;
                part_is = cp.1.part_is;
                series_is = cp.1.series_is;
                takes = cp.1.takes;
                writes = elim cp.1.writes [
                  | inl w ↦
                      let set = set_so p s cp.1.entry nm.pending (to_none limbo store move (Some e) goes all p s goes_on) cp.1.part_is w.set in
                      inl (record { wrote = w.wrote; set = sets_over cp.1.entry e move.pending nm.pending set.0 set.1 })
                  | inr none ↦ absurd (not_longer move.pending entry (sym none.same ∙ (sym pending_is ∙ set_here.0)))
                ];
              },
              cp.2,
            );
        same = inl (
          refl,
          λ x is_e.
              let one : e ≡ x = cc (is_e) in
              (entry, ap (λ (l : List Entry). last_of l nm.listed) (sym pending_is ∙ set_here.0) ∙ last_of-push move.pending entry nm.listed, sym set_here.1 ∙ ap (λ (y : Entry). y.part.start) one),
        );
      }
        where
          set_here : (adv.pending ≡ move.pending ++ entry ∷ []) × (e.part.start ≡ entry.part.start)
          set_here = set_so part start entry adv.pending to of_part sets

          adv_is : Advances m nm None len
          adv_is = record {
            pending = adv.pending;
            is = adv.is;
            sets = inr (part, start, entry, from_none limbo store move (Some e) goes all part start to, of_part, own, longer, sets_over entry e move.pending adv.pending set_here.0 set_here.1);
          }

-- WHAT THE CALL NEEDS

push_front : (P : Entry → Type 0) (xs : List Entry) (x : Entry) → All P (xs ++ x ∷ []) → All P xs
push_front P xs x all k d lt = All-contains P (xs ++ x ∷ []) (get_or xs k d) all (Contains-append_left xs (x ∷ []) (get_or xs k d) (Contains-get_or xs k d lt))

pub plain : (fine : Granularity) (move : Moving) (revived : Option Entry) → IsMove fine (reviving move revived) → IsMove fine move
plain fine move None is = is
plain fine move (Some e) is = record {
  nested = is.nested;
  parts = is.parts;
  in_order = is.in_order;
  few = is.few;
  at = is.at;
  pending = push_front (λ (x : Entry). IsPart move.granularity x.part × (x.series ≡ move.series)) move.pending e is.pending;
  most = inl (few_then is.most);
  listed = is.listed;
  files = is.files;
}
  where
    few_then : FewPending (reviving move (Some e)) → length move.pending ≤ move.at
    few_then (inl few) = omega (arith, few, length-append move.pending (e ∷ []))
    few_then (inr (one, next)) = omega (arith, one, length-append move.pending (e ∷ []))

pub can_revive : (limbo : List Retired) (store : ℕ) (fine : Granularity) (move : Moving) (revived : Option Entry) → GoesBehind limbo store move revived → IsMove fine (reviving move revived) → IfSome revived (CanRevive move)
can_revive limbo store fine move None goes is = tt
can_revive limbo store fine move (Some e) goes is =
    let of = All-contains (of_move limbo store move) (move.pending ++ e ∷ []) e is.pending (Contains-push move.pending e) in
    record { own = of.1; is = of.0; holds = λ part at_hand. let r = goes part at_hand in subst (λ (x : Entry). HoldsMoment x.part part.part.start) r.3 r.2.holds }

pub can_go : (limbo : List Retired) (store : ℕ) (fine : Granularity) (move : Moving) (revived : Option Entry) (len : ℕ) (files : Files) (opened : Name → ℕ) → GoesBehind limbo store move revived → IsMove fine (reviving move revived) → CanCopy (reviving move revived) None len files opened → CanCopy move revived len files opened
can_go limbo store fine move revived len files opened goes is can = record {
  source = can.source;
  target = λ part start n to at. can.target part start n (from_none limbo store move revived goes is.pending part start to) at;
}

-- THE ENTRY AS IT IS HANDED IN

module _ (move : Moving) (one two : Option Entry) (same : one ≡ two) where
  pub either_it : (at len : ℕ) → ((part : Entry) → slice_get move.parts move.at ≡ Some part → at < len → IsPlacedOrNot move one part) → (part : Entry) → slice_get move.parts move.at ≡ Some part → at < len → IsPlacedOrNot move two part
  either_it at len either part at_hand low = subst (λ (o : Option Entry). IsPlacedOrNot move o part) same (either part at_hand low)

  goes_it : (p : Entry) (s : Start) → GoesTo move two p s → GoesTo move one p s
  goes_it p s goes = subst (λ (o : Option Entry). GoesTo move o p s) (sym same) goes

  pub leaves_it : (told : Type 0) (Q : Start → Type 0) → (told → (p : Entry) (start : Start) → GoesTo move one p start → Q start) → told → (p : Entry) (start : Start) → GoesTo move two p start → Q start
  leaves_it told Q leaves t p start goes = leaves t p start (goes_it p start goes)

  pub nowhere_it : (told Q : Type 0) → (told → ((p : Entry) (start : Start) → GoesTo move one p start → ⊥) → Q) → told → ((p : Entry) (start : Start) → GoesTo move two p start → ⊥) → Q
  nowhere_it told Q nowhere t never = nowhere t (λ p s goes. never p s (subst (λ (o : Option Entry). GoesTo move o p s) same goes))

  pub copies_it : (told : Type 0) (files : Files) (Q : Entry → Start → List ℕ → Type 0) → (told → (p : Entry) (start : Start) (bytes : List ℕ) → GoesTo move one p start → files (source_file move p) ≡ Some bytes → Q p start bytes)
      → told → (p : Entry) (start : Start) (bytes : List ℕ) → GoesTo move two p start → files (source_file move p) ≡ Some bytes → Q p start bytes
  copies_it told files Q copies t p start bytes goes file = copies t p start bytes (goes_it p start goes) file

same_last : (a b : List Entry) (x y : Option Entry) → a ≡ b → x ≡ y → last_of a x ≡ last_of b y
same_last a b x y one two = ap (λ (l : List Entry). last_of l x) one ∙ ap (λ (o : Option Entry). last_of b o) two

-- What a step does, whatever it answers: what is held stays so, the move runs as it did, and all else is left.
pub record Went (from : ℕ) (tells : Bool) (old new : SeenAll) (move : Moving) (revived : Option Entry) (faults later : ℕ) : Type 0 where
  pub stays : (files : List Filed) (held : Stores) → Has tells old.stores held → CopiesFurther from tells old (reviving move revived) files held → StaysHeld tells old.stores new.stores held
  pub still : (files : List Filed) (held : Stores) → Has tells old.stores held → CopiesFurther from tells old (reviving move revived) files held → CopiesFurther from tells new (reviving move revived) files held
  pub rest : (r : Result CopyEnd DiskErr) → (r ≡ Err Fault → Rose faults later) → CopyLeaves move tells old new (end_of_disk r)
  pub done : (end : CopyEnd) → CopyLeaves {A = CopyEnd} {E = ⊥} move tells old new (Done end)

module _ {S : Type 0} (shows : S → DiskShown) (faults_of : S → ℕ) (tells : Bool) (c : CatalogueState) (ms : List ManifestState) (limbo : List Retired) (from : ℕ) (d after : S) (seen_it : IsTrue tells → MayLeave (shows d).past (shows d).files) (move : Moving) (revived : Option Entry) (name : Name) (at len : ℕ) where
  abbrev old : SeenAll
  old = beside (seen_on shows faults_of c ms d) limbo

  abbrev new : SeenAll
  new = beside (seen_on shows faults_of c ms after) limbo

  abbrev m : Moving
  m = reviving move revived

  module _ (begun : (files : List Filed) × (held : Stores) × Has tells old.stores held × CopiesFurther from tells old m files held × FindsLine from tells (shows d).files m held name at len) (stand : LimboStands old.stores limbo) (goes_behind : GoesBehind limbo (from + 2) move revived)
      (either : (part : Entry) → slice_get move.parts move.at ≡ Some part → at < len → IsPlacedOrNot move revived part)
      (leaves : IsTrue tells → (p : Entry) (start : Start) → GoesTo move revived p start → LeavesFile (target_file move start) start.at (shows d) (shows after))
      (nowhere : IsTrue tells → ((p : Entry) (start : Start) → GoesTo move revived p start → ⊥) → ReadsDisk (shows d) (shows after)) where
    all : All (λ (e : Entry). IsPart move.granularity e.part × (e.series ≡ move.series)) (pending_with move.pending revived)
    all = begun.3.runs.running.pending

    to : (x : ManifestState) × (slice_get ms (from + 1) ≡ Some x) × (x.granularity ≡ move.granularity)
    to = manifest_of ms (from + 1) move.granularity begun.3.runs.to_coarse

    -- A FILE THAT IS MADE ANEW

    -- no file in limbo has its name
    apart_from : (p : Entry) (start : Start) → GoesTo m None p start → start.at ≡ None → (r : Retired) → Contains limbo r → r.name ≡ file_of ((from + 1) + 1, c.rows) start.entry → ⊥
    apart_from p start goes none r within named = go (last_of m.pending m.listed) refl goes.begins
      where
        g : Granularity
        g = to.0.granularity

        held : Stores
        held = begun.1

        of : IsOfPlace old.stores r
        of = All-contains (IsOfPlace old.stores) limbo r stand.0 within

        place : of.place ≡ from + 1
        place = let one = ap (λ (n : Name). n.0) of.named in let two = ap (λ (n : Name). n.0) named in omega (arith, one, two)

        bare : Filed
        bare = record { entry = start.entry; head = []; samples = [] }

        of_it : IsOfPart move.granularity move.series p start.entry
        of_it = of_part shows faults_of tells c ms limbo from to.0 to.1 d after seen_it m p begun.0 begun.1 begun.2 begun.3 start goes

        bare_is : IsListed g c.rows bare
        bare_is = subst (λ (rows : List Row). IsListed g rows bare) (sym begun.2.known.rows) (listed_here shows faults_of tells c ms limbo from to.0 to.1 d after seen_it m p begun.0 begun.1 begun.2 begun.3 start goes bare of_it.own refl)

        r_is : IsListed g c.rows (as_filed r)
        r_is = retired_listed old.stores r of to.0 (ap (slice_get ms) place ∙ to.1)

        keys : KeysDiffer c.rows
        keys = subst (λ (rows : List Row). KeysDiffer rows) (sym begun.2.known.rows) (begun.2.known.each (from + 1) to.0 to.1).valid.keys

        one_place : filed_at (as_filed r) ≡ filed_at bare
        one_place = same_place g ((from + 1) + 1) c.rows (as_filed r) bare keys r_is bare_is (ap (λ (k : ℕ). file_of (k + 1, c.rows) r.entry) (sym place) ∙ (of.named ∙ named))

        begin : r.entry.part.start ≡ start.entry.part.start
        begin = ap (λ (q : Place). q.1) one_place

        part_is : r.entry.part ≡ start.entry.part
        part_is =
            let a = parts.within g r.entry.part r_is.part in
            let b = parts.within g start.entry.part bare_is.part in
            parts.one_part g r.entry.part start.entry.part r.entry.part.start r_is.part bare_is.part (omega arith, a.1) (omega (arith, begin), omega (arith, begin, b.1))

        behind_all : (revived : Option Entry) → GoesBehind limbo (from + 2) move revived → revived ≡ None → IfSome (last_of (pending_with move.pending revived) move.listed) (λ (l : Entry). l.part.start < start.entry.part.start) → ⊥
        behind_all (Some e) goes_on is less = absurd (cc (is))
        behind_all None goes_on is less = goes_on p goes.at_hand r within (record {
          store = let number = ap (λ (n : Name). n.0) named in omega (arith, number);
          own = ap (λ (q : Place). q.0) one_place ∙ of_it.own;
          holds = subst (λ (x : Part). HoldsMoment x p.part.start) (sym part_is) (of_it.holds);
          behind = subst (λ (n : ℕ). IfSome (last_of move.pending move.listed) (λ (l : Entry). l.part.start < n)) (sym begin) less;
        })

        is_none : (o : Option Entry) → revived ≡ o → starts (last_of m.pending m.listed) m.series goes.to p.head_len None ≡ Some start → o ≡ None
        is_none None is begins = refl
        is_none (Some e) is begins =
            absurd (not_anew (begins_plain limbo (from + 2) move revived goes_behind all p start goes))
          where
            not_anew : starts (last_of move.pending move.listed) move.series goes.to p.head_len revived ≡ Some start → ⊥
            not_anew begins = by_last (last_of move.pending move.listed) (subst (λ (x : Option Entry). starts (last_of move.pending move.listed) move.series goes.to p.head_len x ≡ Some start) is begins)
              where
                at_some : (x : Entry) → start ≡ behind x → ⊥
                at_some x same = let at_is : ◌≡◌ {A = Option ℕ} None (Some x.len) = sym none ∙ ap (λ (s : Start). s.at) same in absurd (cc (at_is))

                by_last : (o : Option Entry) → starts o move.series goes.to p.head_len (Some e) ≡ Some start → ⊥
                by_last None begins = at_some e (sym (cc (begins)))
                by_last (Some l) begins = elim (after_split l goes.to.start (behind e) start begins) [ inl (same_start, same) ↦ at_some l same | inr (less, same) ↦ at_some e same ]

        go : (o : Option Entry) → last_of m.pending m.listed ≡ o → starts o m.series goes.to p.head_len None ≡ Some start → ⊥
        go o last begins = behind_all revived goes_behind (is_none revived refl goes.begins) (less o last begins)
          where
            less : (o : Option Entry) → last_of m.pending m.listed ≡ o → starts o m.series goes.to p.head_len None ≡ Some start → IfSome (last_of m.pending m.listed) (λ (l : Entry). l.part.start < start.entry.part.start)
            less None last begins = subst (λ (x : Option Entry). IfSome x (λ (l : Entry). l.part.start < start.entry.part.start)) (sym last) tt
            less (Some l) last begins = subst (λ (x : Option Entry). IfSome x (λ (l : Entry). l.part.start < start.entry.part.start)) (sym last)
                (elim (after_split l goes.to.start (anew m.series goes.to p.head_len) start begins) [
                  | inl (same_start, same) ↦ let at_is : ◌≡◌ {A = Option ℕ} None (Some l.len) = sym none ∙ ap (λ (s : Start). s.at) same in absurd (cc (at_is))
                  | inr (low, same) ↦ let there = ap (λ (s : Start). s.entry.part.start) same in omega (arith, low, there)
                ])

    -- WHAT IT LEAVES

    either_none : (part : Entry) → slice_get move.parts move.at ≡ Some part → at < len → IsPlacedOrNot m None part
    either_none part at_hand low = placed_none limbo (from + 2) move revived goes_behind all part at_hand (either part at_hand low)

    leaves_none : IsTrue tells → (p : Entry) (start : Start) → GoesTo m None p start → LeavesFile (target_file m start) start.at (shows d) (shows after)
    leaves_none told p start goes = leaves told p start (to_none limbo (from + 2) move revived goes_behind all p start goes)

    nowhere_none : IsTrue tells → ((p : Entry) (start : Start) → GoesTo m None p start → ⊥) → ReadsDisk (shows d) (shows after)
    nowhere_none told never = nowhere told (λ p s goes. never p s (from_none limbo (from + 2) move revived goes_behind all p s goes))

    part : (p : Entry) × (slice_get m.parts m.at ≡ Some p)
    part = next_part tells old from m begun.0 begun.1 begun.2 begun.3

    wrote : Wrote shows faults_of tells c ms limbo from to.0 to.1 d after seen_it m part.0
    wrote = wrote_it shows faults_of tells c ms limbo from to.0 to.1 d after seen_it m part.0 part.1 (either_none part.0 part.1 begun.4.low) leaves_none nowhere_none

    stays_in : (files : List Filed) (held : Stores) → Has tells old.stores held → CopiesFurther from tells old m files held → IsTrue tells → Stays shows faults_of tells c ms limbo from to.0 to.1 d after seen_it files held
    stays_in files held has is told = stays shows faults_of tells c ms limbo from to.0 to.1 d after seen_it m part.0 files held has is wrote told

    -- what is held stays so
    stays_held : (files : List Filed) (held : Stores) → faults_of d ≤ faults_of after → Has tells old.stores held → CopiesFurther from tells old m files held → StaysHeld tells old.stores new.stores held
    stays_held files held faults has is =
        kept_still shows faults_of tells c ms limbo from to.0 to.1 d after seen_it (CopiesFurther from tells old m files) files (begun.2.settled.manifests (from + 1) to.0 to.1) (λ held has is told. stays_in files held has is told)
        (λ told. on_store shows faults_of tells c ms limbo from to.0 to.1 d after seen_it m part.0 begun.0 begun.1 begun.2 begun.3 wrote told) faults held has is

    step_shown : KeepsShown tells old new
    step_shown = shown_still shows faults_of tells c ms limbo from to.0 to.1 d after seen_it m part.0 begun.0 begun.1 begun.2 begun.3 wrote apart_from

    step_whole : KeepsWhole tells old new
    step_whole =
        keeps_whole shows faults_of tells c ms limbo from to.0 to.1 d after seen_it (λ stands were whole. own wrote stands were whole)
        (λ told. on_store shows faults_of tells c ms limbo from to.0 to.1 d after seen_it m part.0 begun.0 begun.1 begun.2 begun.3 wrote told)
      where
        own : Wrote shows faults_of tells c ms limbo from to.0 to.1 d after seen_it m part.0 → (stands : Bool) (were : List Filed) → AreWhole (from + 1) tells old.stores limbo stands were → (left : List Filed) × AreWhole (from + 1) tells new.stores limbo stands left
        own (inl (start, goes, wrote_so)) stands were whole = goes_whole shows faults_of tells c ms limbo from to.0 to.1 d after seen_it m part.0 begun.0 begun.1 begun.2 begun.3 stand start goes wrote_so apart_from stands were whole
        own (inr (went_nowhere, reads)) stands were whole = (
          were,
          read_whole tells old.stores new.stores limbo begun.2.known.three (λ n h. held_same shows faults_of c ms d after n 0 h) (keeps_same c.rows) refl (λ told. (reads told).same) (λ told. (reads told).same_opened) (λ told. (reads told).any_moment) (from + 1) stands were
              (within_three ms (from + 1) to.0 begun.2.known.three to.1) whole,
        )

    -- after an error the move runs as it did
    step_still : (files : List Filed) (held : Stores) → Has tells old.stores held → CopiesFurther from tells old m files held → CopiesFurther from tells new m files held
    step_still files held has is = record {
      runs = runs_by (from + 1) tells old new m m files files held refl refl is.runs is.runs.running is.runs.parts (λ some. some) is.runs.pending
          (record { rise = is.runs.ahead.rise; filed = is.runs.ahead.filed; safe = λ told. (stays_in files held has is told).safe; longer = is.runs.ahead.longer; longer_retired = is.runs.ahead.longer_retired });
      stage = is.stage;
      left = is.left;
      heads = is.heads;
      lengths = is.lengths;
      last = is.last;
      told = is.told;
    }

    -- the step, whatever it answers
    pub went : faults_of d ≤ faults_of after → Went from tells old new move revived (faults_of d) (faults_of after)
    went faults = record {
      stays = λ files held has is. stays_held files held faults has is;
      still = step_still;
      rest = leaves_so;
      done = λ end. leaves_so (Ok end) (λ is. let no : ◌≡◌ {A = Result CopyEnd DiskErr} (Ok end) (Err Fault) = is in absurd (cc (no)));
    }
      where
        by_end : (r : Result CopyEnd DiskErr) → (r ≡ Err Fault → Rose (faults_of d) (faults_of after)) → IsFailed (end_of_disk r) → Rose (faults_of d) (faults_of after)
        by_end (Ok end) cause failed = absurd failed
        by_end (Err Fault) cause failed = cause refl
        by_end (Err Memory) cause failed = absurd failed

        leaves_so : (r : Result CopyEnd DiskErr) → (r ≡ Err Fault → Rose (faults_of d) (faults_of after)) → CopyLeaves move tells old new (end_of_disk r)
        leaves_so r cause = record {
          shown = step_shown;
          leaves = leaves_others shows faults_of tells c ms limbo from to.0 to.1 d after seen_it m part.0 wrote;
          whole = step_whole;
          costs = record { granularity = refl; faults = faults; cause = by_end r cause };
        }

    -- WHAT IT ANSWERS

    module _ (most : ℕ) (nm : Moving) (adv : Advances move nm revived len) (copies : Copies (shows d).files (shows after) (IsTrue tells) at len most begun.3.runs.fine limbo (from + 2) move nm move revived nm) (files : List Filed) (held : Stores) (has : Has tells old.stores held) (is : CopiesFurther from tells old m files held) (line : FindsLine from tells (shows d).files m held name at len) where
      abbrev n : ℕ
      n = end_after (last_of m.pending m.listed)

      abbrev ends_now : ℕ
      ends_now = end_after (last_of nm.pending nm.listed)

      then_is : Becomes begun.3.runs.fine revived move m nm len (Copies (shows d).files (shows after) (IsTrue tells) at len most begun.3.runs.fine limbo (from + 2) move nm m None)
      then_is = becomes (shows d).files (shows after) (IsTrue tells) at len most begun.3.runs.fine limbo (from + 2) move nm revived goes_behind begun.3.runs.running adv copies

      listed_same : nm.listed ≡ move.listed
      listed_same = elim adv.is [ inl same ↦ ap (λ (x : Moving). x.listed) same | inr (p, at_hand, same) ↦ ap (λ (x : Moving). x.listed) same ]

      run : (fine : Granularity) → IsMove fine m → IsMove fine then_is.new
      run fine is_move = advances_keep fine m then_is.new None len is_move tt then_is.adv

      -- something is to be listed that wasn't before
      moved : IsRevived (last_of nm.pending nm.listed) revived → n < ends_now → then_is.new ≡ nm
      moved on ahead = elim then_is.same [
        | inl same ↦ same.0
        | inr same ↦
            let one = same_last nm.pending move.pending nm.listed move.listed same.0 listed_same in
            absurd (by_file revived goes_behind (subst (λ (o : Option Entry). IsRevived o revived) one on) (subst (λ (o : Option Entry). n < end_after o) one ahead))
      ]
        where
          by_file : (o : Option Entry) → GoesBehind limbo (from + 2) move o → IsRevived (last_of move.pending move.listed) o → end_after (last_of (pending_with move.pending o) move.listed) < end_after (last_of move.pending move.listed) → ⊥
          by_file None goes_on on ahead = omega (arith, ahead)
          by_file (Some e) goes_on on ahead =
              let part = next_part tells old from m begun.0 begun.1 begun.2 begun.3 in
              let r = goes_on part.0 part.1 in
              let l = on e refl in
              let low : l.0.part.start < r.0.entry.part.start = subst (λ (x : Option Entry). IfSome x (λ (y : Entry). y.part.start < r.0.entry.part.start)) l.1 r.2.behind in
              let same = ap (λ (x : Entry). x.part.start) r.3 in
              let at_e = l.2 in
              omega (arith, low, same, at_e)

      pub go_more : IsRevived (last_of nm.pending nm.listed) revived → n < ends_now → nm.at ≢ length nm.parts → SaysLines most from tells new m nm files held ends.More
      go_more on ahead not_all =
          let same = moved on ahead in
          subst (λ (x : Moving). SaysLines most from tells new m x files held ends.More) same
          (more_said shows faults_of tells c ms limbo from to.0 to.1 d after seen_it m part.0 part.1 files held has is name at len most line apart_from then_is.new (run is.runs.fine is.runs.running) then_is.adv wrote then_is.copies
          (subst (λ (x : Moving). n < end_after (last_of x.pending x.listed)) (sym same) ahead) (subst (λ (x : Moving). x.at ≢ length x.parts) (sym same) not_all))

      pub go_all : IsRevived (last_of nm.pending nm.listed) revived → n < ends_now → nm.at ≡ length nm.parts → SaysLines most from tells new m nm files held ends.Copied
      go_all on ahead whole =
          let same = moved on ahead in
          subst (λ (x : Moving). SaysLines most from tells new m x files held ends.Copied) same
          (all_said shows faults_of tells c ms limbo from to.0 to.1 d after seen_it m part.0 part.1 files held has is name at len most line apart_from then_is.new (run is.runs.fine is.runs.running) then_is.adv wrote then_is.copies
          (subst (λ (x : Moving). n < end_after (last_of x.pending x.listed)) (sym same) ahead) (subst (λ (x : Moving). x.at ≡ length x.parts) (sym same) whole))

      pub go_damaged : IsNotRevived (last_of nm.pending nm.listed) revived ⊎ (ends_now ≤ n) → IsDamaged from tells (shows after).files m held name at
      go_damaged why = damaged_said shows faults_of tells c ms limbo from to.0 to.1 d after seen_it m part.0 part.1 files held has is name at len most line apart_from then_is.new (run is.runs.fine is.runs.running) then_is.adv wrote then_is.copies (high why)
        where
          high : IsNotRevived (last_of nm.pending nm.listed) revived ⊎ (ends_now ≤ n) → end_after (last_of then_is.new.pending then_is.new.listed) ≤ n
          high why = elim then_is.same [
            | inl same ↦ elim why [
              | inl other ↦ let l = same.1 other.entry other.is in absurd (other.apart l.0 l.1 l.2)
              | inr low ↦ subst (λ (x : Moving). end_after (last_of x.pending x.listed) ≤ n) (sym same.0) low
            ]
            | inr same ↦ let one = ap end_after (same_last then_is.new.pending m.pending then_is.new.listed m.listed same.1 (same.2 ∙ listed_same)) in omega (arith, one)
          ]

module _ {S : Type 0} (shows : S → DiskShown) (faults_of : S → ℕ) (tells : Bool) (c : CatalogueState) (ms : List ManifestState) (limbo : List Retired) (from : ℕ) (m : ManifestState) (here : slice_get ms (from + 1) ≡ Some m) (d : S) (seen_it : IsTrue tells → MayLeave (shows d).past (shows d).files)
    (move : Moving) (files : List Filed) (held : Stores) where
  abbrev was_all : SeenAll
  was_all = beside (seen_on shows faults_of c ms d) limbo

  module _ (has : Has tells was_all.stores held) (is : CopiesFurther from tells was_all move files held) (name : Name) (at len : ℕ) (line : FindsLine from tells (shows d).files move held name at len) where
    -- the header's line ends before them
    pub head_low : (part : Entry) → slice_get move.parts move.at ≡ Some part → part.head_len ≤ len
    head_low part next =
        let head = q_head tells was_all from move files held has is line.file line.next part next in
        let behind = line.behind in
        let low = line.low in
        omega (arith, head, behind, low)

    pub can_copy : IsTrue tells → CanCopy move None len (shows d).files (shows d).opened
    can_copy told = record {
      source = λ part next. subst (λ (k : ℕ). HasFile (shows d).files (source_file move part) (λ b. k ≤ length b)) line.long (source_there tells was_all from move files held has is line.file line.next part next told);
      target = targets is.runs.fine c.journal m ((from + 1) + 1, c.rows) (shows d) (tier (from + 1) held) (with_files (tier (from + 1) held) files) move None is.runs.running
          (has_copied (from + 1) tells was_all held files is.runs.ahead m here has told (seen_it told)) (is_ahead (from + 1) tells was_all move files held is.runs)
          (subst (λ (es : List Entry). IsLastOf es move.series move.listed) (sym (has.known.each (from + 1) m here).entries) (is.runs.last is.left))
          (record { row = is.runs.row; stands = ap (λ (rows : List Row). slice_get rows move.series) has.known.rows ∙ is.runs.stands; name = is.runs.name; store = (is.runs.numbers told).1 })
          (λ e none. absurd (cc (none)));
    }
