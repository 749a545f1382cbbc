-- Pins: the acts that make one, give it up, and open a piece of it.
use Rattle.std.proofs.Common.{◌≡◌, ℕ, List, Bool, true, false, Option, Some, None, refl, sym, ◌∙◌, ap, cond, ◌⊎◌, inl, inr, ◌≤◌, length, Ok, Err, subst, arith, ◌<◌, ◌^◌, [], ◌∷◌, map, ◌++◌, take, Result}
use Rattle.std.specs.FinMap.{get, FinMap, remove, get-remove, insert}
use Rattle.pins.specs.Pieces.{PinOf, asked}
use Rattle.tier_store.specs.Pinned.{beside, SeenAll, PinsStand, IsShown}
use Rattle.act_model.specs.Machine.{Machine, PinState, find_row}
use Rattle.act_model.specs.Reply.{reply_of, Reply}
use Rattle.act_model.specs.Rows.{RowState, Short, durable, accepted, Store, Medium, Long}
use Rattle.archive_core.specs.Parts.{Parts}
use Rattle.archive_core.specs.Stands.{Stands, InDoubt, Rests}
use Rattle.std.specs.Ordering.{nat_cmp, eq_by_cmp}
use Rattle.std.specs.Prelude.{◌==◌, slice_get, IsTrue, ◌&&◌, IsSome, filter, All, Contains, nat_eq}
use Rattle.act_model.specs.Unpin.{pin_refused, Unpins, refused_unpin, unpins}
use Rattle.archive_core.specs.Ends.{Steps, AskEnds, is_spent, is_answered, disk_reply}
use Rattle.archive_core.proofs.Standing.{pins_stand}
use Rattle.std.proofs.lemmas.Option.{same_Some, slice_get_within}
use Rattle.disk_model.specs.Files.{Name, Rose}
use Rattle.pins.specs.declared.table.PinErr.{PinErr}
use Rattle.pins.specs.declared.piece.PinnedFile.{PinnedFile}
use Rattle.store_manifest.specs.Manifest.{ManifestState}
use Rattle.tier_store.specs.Change.{Has, IsOpen, Doubts, IsKnown}
use Rattle.tier_store.specs.Opening.{IsOpened, IsReaderOf, end_of_answer, refusal, given_up, pins_left}
use Rattle.tier_store.specs.Seen.{Seen, IsSettled, granularities}
use Rattle.tier_store.specs.Stores.{Stores, list_at, whole_in}
use Rattle.act_model.specs.declared.acts.Answer.{Answer}
use Rattle.act_model.specs.Limbo.{RowFile}
use Rattle.pins.specs.declared.table.PinErr.TheVariants as err
use Rattle.act_model.specs.declared.acts.Answer.TheVariants as answer
use Rattle.std.proofs.lemmas.Cmp.{nat_cmp_total}
use Rattle.tier_store.proofs.ReadCalls.{stand_fewer, asked_some}
use Rattle.act_model.specs.declared.acts.Answer.TheVariants.{NoPin, NotYours, Unpinned}
use Rattle.act_model.proofs.PinActs.{unpins_sound, pins_sound}
use Rattle.archive_core.specs.Pins.{ArePinsOf, IsPieceOf, HasFileOf, HasPinOf, IsPinOf}
use Rattle.std.proofs.lemmas.Bool.Decides.{nat_tests}
use Rattle.pv_catalog.specs.Catalogue.{CatalogueState}
use Rattle.durable_write.specs.Ends.{IsFailed, End, IsCut}
use Rattle.tier_store.specs.Moving.{KeepsBeside, MayHold}
use Rattle.act_model.specs.OpenPiece.{Opens, refused_open, no_piece, opens, faults_opening, wants_memory_opening, IsNamed, bytes_of, name_of}
use Rattle.archive_core.specs.Wanting.{OwnsPiece, WithWants}
use Rattle.archive_core.proofs.Settled.{KeepsLimbo, doubt_beside, rests_has, go_beside}
use Rattle.archive_core.proofs.MovesKept.{moves_beside}
use Rattle.archive_core.proofs.Lists.{element, map_in, map_out}
use Rattle.act_model.specs.OpenPiece as piece
use Rattle.std.specs.List.{AllByRecursion, flat_map}
use Rattle.std.proofs.lemmas.List.{length-map}
use Rattle.intake.specs.Tails.{tail_at}
use Rattle.disk_model.specs.Past.{MayLeave}
use Rattle.pb_messages.specs.declared.about.About.{About}
use Rattle.pins.specs.declared.choosing.Listed.{Listed}
use Rattle.pv_catalog.specs.Lines.{line}
use Rattle.pv_catalog.specs.Rows.{HasName}
use Rattle.pv_catalog.specs.declared.row.Row.{Row}
use Rattle.series_model.specs.declared.sample.Query.{Query}
use Rattle.series_model.specs.declared.sample.Sample.{Sample}
use Rattle.series_model.specs.Series.{end_of, over, IsRising}
use Rattle.series_model.proofs.RisingLists.{RisesFrom-lower}
use Rattle.tier_store.specs.Pinning.{files_in, files_of_line, state_of, listed_of, piece_of, has_bytes, IsPinned, AreEnough, SaysPinned, none_has, is_pinned, Placed, placed, placed_at}
use Rattle.tier_store.specs.Telling.{SaysOf}
use Rattle.act_model.specs.Details.{details_refused}
use Rattle.act_model.specs.Pin.{MakesPin, pins as pins_it, IsPieceOf as IsOpenedPiece, InOrder, over_pieces}
use Rattle.act_model.specs.Whole.{whole}
use Rattle.archive_core.proofs.Registered.{end_kind, details_never_want, find_some}
use Rattle.archive_core.proofs.Batches.{told_stands}
use Rattle.archive_core.proofs.Acting.{rests_again, IsAct}
use Rattle.archive_core.proofs.KeptRows.{row_at}
use Rattle.archive_core.proofs.Windows.{accepted_held, part_in_line, index_low}
use Rattle.archive_core.proofs.LimboSwept.{more_pins, get_inserted, pieces_are}
use Rattle.tier_store.proofs.Frames.{frame_same}
use Rattle.act_model.specs.declared.acts.Act.TheVariants.{Pin, OpenPiece}
use Rattle.std.proofs.lemmas.List.Elements.{All-contains, All-contains_itself, All-filter, All-from_recursion, All-head, All-map, All-same, All-tail, All-weaker, Contains-append_cases, Contains-append_left, Contains-append_right}
use Rattle.disk_model.specs.declared.disk.DiskErr.{DiskErr}
use Rattle.disk_model.specs.declared.disk.DiskErr.TheVariants.{Fault, Memory}
use Rattle.store_manifest.specs.declared.entry.Entry.{Entry}
use Rattle.durable_write.specs.Held.{Filed, entry_of}
use Rattle.durable_write.specs.Plan.{of_row}
use Rattle.tier_store.proofs.Places.{manifest_at, own_series}
use Rattle.act_model.specs.Rule.{index_of}
use Rattle.archive_core.specs.Leaving.{IsPieceOfRow, LeavesPins}
use Rattle.store_files.proofs.Stays.{front_file}
use Rattle.series_model.specs.Retrieval.{answer as answer_to}

-- The acts on pins: a pin is given up, and a piece is opened.

-- GIVING UP

-- without one pin the pins are those without it
fewer_pins : (tells : Bool) (all : SeenAll) (told : Bool) (rows : List RowState) (pins : FinMap nat_cmp PinState) (pinned : FinMap nat_cmp PinOf) (gone : ℕ) → ArePinsOf tells all told rows pins pinned → ArePinsOf tells all told rows (remove pins gone) (remove pinned gone)
fewer_pins tells all told rows pins pinned gone are = record {
  none = λ n none. get-remove nat_cmp_total pinned gone n ∙ by_test n (eq_by_cmp nat_cmp n gone) (sym (get-remove nat_cmp_total pins gone n) ∙ none);
  each = λ n pin here.
      let has = are.each n pin (of_old n pin (eq_by_cmp nat_cmp n gone) (sym (get-remove nat_cmp_total pins gone n) ∙ here)) in
      record { own = has.own; there = get-remove nat_cmp_total pinned gone n ∙ kept n pin has.own (eq_by_cmp nat_cmp n gone) (sym (get-remove nat_cmp_total pins gone n) ∙ here) has.there; is = has.is };
  stand = stand_fewer tells all pinned gone are.stand;
}
  where
    by_test : (n : ℕ) (b : Bool) → cond b None (get pins n) ≡ None → cond b None (get pinned n) ≡ None
    by_test n true is = refl
    by_test n false is = are.none n is

    of_old : (n : ℕ) (pin : PinState) (b : Bool) → cond b None (get pins n) ≡ Some pin → get pins n ≡ Some pin
    of_old n pin true is = absurd (cc (is))
    of_old n pin false is = is

    kept : (n : ℕ) (pin : PinState) (own : PinOf) (b : Bool) → cond b None (get pins n) ≡ Some pin → get pinned n ≡ Some own → cond b None (get pinned n) ≡ Some own
    kept n pin own true is there = absurd (cc (is))
    kept n pin own false is there = there

module _ (tells : Bool) (p : Parts) (who pin : ℕ) where
  abbrev pub left : FinMap nat_cmp PinOf
  left = pins_left p.pinned pin (asked who (get p.pinned pin))

  -- how it ends from a machine
  abbrev EndsUnpinned : (R : Type 0) → Bool → (R → List ℕ) → (R → ℕ) → Machine → Type 0
  EndsUnpinned R reader_tells bytes faults m = (n : Machine) × Unpins who pin m (reply_of reader_tells bytes faults (given_up {R = R} (asked who (get p.pinned pin)))) n × Stands tells (record p { pinned = left }) n

  -- a pin is given up, or all stays
  pub unpin_ends : (R : Type 0) (reader_tells : Bool) (bytes : R → List ℕ) (faults : R → ℕ) → Steps tells (Unpins who pin) p (reply_of reader_tells bytes faults (given_up {R = R} (asked who (get p.pinned pin)))) (record p { pinned = left })
  unpin_ends R reader_tells bytes faults = λ m s. by_pin m s (get m.pins pin) refl
    where
      by_owner : (m : Machine) → Stands tells p m → (state : PinState) (own : PinOf) → get m.pins pin ≡ Some state → get p.pinned pin ≡ Some own → own.owner ≡ state.owner → (b : Bool) → (state.owner == who) ≡ b → EndsUnpinned R reader_tells bytes faults m
      by_owner m s state own here there same true is =
          let test : (own.owner == who) ≡ true = ap (λ (n : ℕ). n == who) same ∙ is in
          let refused : pin_refused who (get m.pins pin) ≡ None = rw (here, is) refl in
          let step : Unpins who pin m Unpinned (record m { pins = remove m.pins pin }) = unpins refused in
          let are = fewer_pins tells (beside p.at p.limbo) m.told m.rows m.pins p.pinned pin s.pins in
          rw (there, test) (record m { pins = remove m.pins pin }, step, pins_stand tells p m (remove m.pins pin) (remove p.pinned pin) are (unpins_sound s.sound step) s)
      by_owner m s state own here there same false is =
          let test : (own.owner == who) ≡ false = ap (λ (n : ℕ). n == who) same ∙ is in
          let refused : pin_refused who (get m.pins pin) ≡ Some (NotYours own.owner) = rw (here, is) (ap (λ (n : ℕ). Some (NotYours n)) (sym same)) in
          rw (there, test) (m, refused_unpin (NotYours own.owner) refused, s)

      by_pin : (m : Machine) → Stands tells p m → (o : Option PinState) → get m.pins pin ≡ o → EndsUnpinned R reader_tells bytes faults m
      by_pin m s None here =
          let none = s.pins.none pin here in
          let refused : pin_refused who (get m.pins pin) ≡ Some NoPin = rw here refl in
          rw none (m, refused_unpin NoPin refused, s)
      by_pin m s (Some state) here =
          let has = s.pins.each pin state here in
          by_owner m s state has.own here has.there has.is.owner (state.owner == who) refl

-- A piece of a pin is opened: as the machine has it.

-- a told machine's disk tells
pub told_tells : (tells told stands : Bool) → told ≡ (tells && stands) → told ≡ true → IsTrue tells
told_tells true told stands same is = refl
told_tells false told stands same is = absurd (let bad = sym same ∙ is in cc (bad))

-- where nothing stood in doubt, nothing does in the same memory
pub undoubted : (tells : Bool) (old new : Seen) (before after : Stores) → IsSettled old → new.catalogue ≡ old.catalogue → new.manifests ≡ old.manifests → Doubts tells new before after → ⊥
undoubted tells old new before after settled same_rows same_lists doubts = elim doubts.change [
  | inl rows ↦ (let sound = settled.catalogue in let unsound = sym (ap (λ (c : CatalogueState). c.journal.sound) same_rows) ∙ rows.unsound in let both : true ≡ false = sym sound ∙ unsound in cc (both))
  | inr list ↦ (let sound = settled.manifests list.0 list.1.manifest (ap (λ (ms : List ManifestState). slice_get ms list.0) (sym same_lists) ∙ list.1.here) in let unsound = list.1.unsound in let both : true ≡ false = sym sound ∙ unsound in cc (both))
]

-- how a piece that is there is opened, as cases
pub data OpenedAs {R : Type 0} (tells reader_tells : Bool) (bytes : R → List ℕ) (faults : R → ℕ) (all : SeenAll) (file : PinnedFile) (given : Answer R) : Type 0 where
  as_piece : (reader : R) (name : Name) (head_len len : ℕ) → given ≡ answer.Piece reader name head_len len → IsReaderOf tells reader_tells bytes faults all file reader × (name ≡ file.name) × (head_len ≡ file.head_len) × (len ≡ file.len) → OpenedAs tells reader_tells bytes faults all file given
  as_fault : given ≡ answer.DiskFault → OpenedAs tells reader_tells bytes faults all file given
  as_memory : given ≡ answer.Memory → OpenedAs tells reader_tells bytes faults all file given

pub opened_as : {R : Type 0} (tells reader_tells : Bool) (bytes : R → List ℕ) (faults : R → ℕ) (all : SeenAll) (file : PinnedFile) (given : Answer R) → IsOpened tells reader_tells bytes faults all file given → OpenedAs tells reader_tells bytes faults all file given
opened_as {R} tells reader_tells bytes faults all file (answer.Piece reader name head_len len) is = as_piece reader name head_len len refl is
opened_as {R} tells reader_tells bytes faults all file answer.DiskFault is = as_fault refl
opened_as {R} tells reader_tells bytes faults all file answer.Memory is = as_memory refl
opened_as {R} tells reader_tells bytes faults all file given is = absurd is

module _ (R : Type 0) (tells reader_tells : Bool) (bytes : R → List ℕ) (faults : R → ℕ) (readers : IsTrue reader_tells → IsTrue tells) (p : Parts) (who pin i : ℕ) (result : Answer R) (new : Seen)
    (refused : (e : PinErr) → asked who (get p.pinned pin) ≡ Err e → (result ≡ refusal e) × (new ≡ p.at)) (lacks : (own : PinOf) → asked who (get p.pinned pin) ≡ Ok own → slice_get own.pieces i ≡ None → (result ≡ answer.NoPiece (length own.pieces)) × (new ≡ p.at))
    (opened : (own : PinOf) (file : PinnedFile) → asked who (get p.pinned pin) ≡ Ok own → slice_get own.pieces i ≡ Some file → IsOpened tells reader_tells bytes faults (beside p.at p.limbo) file result)
    (kept : (before after : Stores) → IsOpen tells p.at before after → IsOpen tells new before after) (same_rows : new.catalogue ≡ p.at.catalogue) (same_lists : new.manifests ≡ p.at.manifests) (shown : KeepsLimbo tells (beside p.at p.limbo) (beside new p.limbo)) (stay : KeepsBeside tells (beside p.at p.limbo) (beside new p.limbo))
    (more : p.at.faults ≤ new.faults) (cause : IsFailed (end_of_answer result) → Rose p.at.faults new.faults) where
  -- how it ends from a machine, with this answer
  abbrev EndsAs : Answer R → Machine → Type 0
  EndsAs given m = (n : Machine) × WithWants (OwnsPiece who pin i) (Opens who pin i) m (reply_of reader_tells bytes faults given) n × Stands tells (record p { at = new }) n

  -- the disk was read
  read_stands : (m : Machine) → Stands tells p m → Stands tells (record p { at = new }) (record m { faults = new.faults })
  read_stands m s = doubt_beside tells p m s new p.kept p.doubt m.doubt (ap granularities same_lists) shown (moves_beside tells (beside p.at p.limbo) (beside new p.limbo) m.told m.rows m.limbo s.store.before m.moves p.slots (λ i move files runs. stay s.store.before (may_hold s.store.is_open) i move files runs) s.store.moves) s.sound s.rows s.doubt s.ready (by_open s.store.is_open)
    where
      may_hold : Has tells p.at s.store.before ⊎ InDoubt tells p.at p.limbo s.store.before m → MayHold tells p.at s.store.before
      may_hold (inl has) = inl has
      may_hold (inr d) = inr (d.after, inl d.doubts)

      by_open : Has tells p.at s.store.before ⊎ InDoubt tells p.at p.limbo s.store.before m → Has tells new s.store.before ⊎ InDoubt tells new p.limbo s.store.before (record m { faults = new.faults })
      by_open (inl has) = elim (kept s.store.before s.store.before (inl has)) [
        | inl still ↦ inl still
        | inr doubts ↦ absurd (undoubted tells p.at new s.store.before s.store.before has.settled same_rows same_lists doubts)
      ]
      by_open (inr d) = elim (kept s.store.before d.after (inr d.doubts)) [
        | inl still ↦ inl still
        | inr doubts ↦ inr (record { change = d.change; is = d.is; after = d.after; doubts = doubts; stand = d.stand; go = go_beside tells p.at new p.limbo m.told m.rows m.moves s.store.before d.after d.doubts.known doubts.known (ap granularities same_lists) shown.shown d.change d.go; holds = d.holds })
      ]

  -- it wasn't called
  unread_stands : (m : Machine) → new ≡ p.at → Stands tells p m → Stands tells (record p { at = new }) m
  unread_stands m same s = subst (λ (at : Seen). Stands tells (record p { at = at }) m) (sym same) s

  more_faults : (m : Machine) → Stands tells p m → m.faults ≤ new.faults
  more_faults m s = let was : m.faults ≡ p.at.faults = s.faults in omega (arith, was, more)

  module _ (m : Machine) (s : Stands tells p m) (state : PinState) (there : get m.pins pin ≡ Some state) (owner : state.owner ≡ who) (has : HasPinOf tells (beside p.at p.limbo) m.told m.rows p.pinned pin state) (f : RowFile) (at : slice_get state.pieces i ≡ Some f) (file : PinnedFile) (file_at : slice_get has.own.pieces i ≡ Some file) where
    -- what is known of the piece where the machine is told
    own_piece : m.told ≡ true → HasFileOf tells (beside p.at p.limbo) m.rows has.own i f
    own_piece told = has.is.pieces told i f at

    piece_ends : (reader : R) (name : Name) (head_len len : ℕ) → IsReaderOf tells reader_tells bytes faults (beside p.at p.limbo) file reader → name ≡ file.name → head_len ≡ file.head_len → len ≡ file.len → EndsAs (answer.Piece reader name head_len len) m
    piece_ends reader name head_len len is name_is head_is len_is = (
      record m { faults = new.faults },
      (opens state f (record { tells = reader_tells; bytes = bytes reader; faults = faults reader }) name head_len len there owner at is.fresh shows named enough refl (more_faults m s), λ told. absurd (cc (told))),
      read_stands m s,
    )
      where
        shows : m.told ≡ true → piece.Shows f (record { tells = reader_tells; bytes = bytes reader; faults = faults reader }) head_len len
        shows told =
            let own = own_piece told in
            let one : own.file ≡ file = same_Some own.file file (sym own.there ∙ file_at) in
            let its = subst (λ (x : PinnedFile). IsPieceOf tells (beside p.at p.limbo) m.rows f x) one own.is in
            let read = is.shows (told_tells tells m.told s.store.before.stands s.store.told told) (bytes_of f) (sym its.len) its.shows in
            record { tells = read.0; bytes = read.1; head_is = head_is ∙ its.head_len; len_is = len_is ∙ its.len }

        named : m.told ≡ true → IsNamed m f name
        named told = λ row here.
            let own = own_piece told in
            let one : own.file ≡ file = same_Some own.file file (sym own.there ∙ file_at) in
            let same : own.is.row ≡ row = same_Some own.is.row row (sym own.is.here ∙ here) in
            name_is ∙ (ap (λ (x : PinnedFile). x.name) (sym one) ∙ (own.is.named ∙ ap (λ (r : RowState). name_of r f) same))

        enough : reader_tells ≡ true → len ≤ length (bytes reader)
        enough told =
            let is_shown = s.pins.stand pin i has.own file has.there file_at in
            let read = is.shows (readers told) is_shown.bytes is_shown.len is_shown.shown in
            let size : length (bytes reader) ≡ file.len = ap length read.1 ∙ is_shown.len in
            omega (arith, size, len_is)

    by_kind : OpenedAs tells reader_tells bytes faults (beside p.at p.limbo) file result → EndsAs result m
    by_kind (as_piece reader name head_len len same is) = subst (λ (given : Answer R). EndsAs given m) (sym same) (piece_ends reader name head_len len is.0 is.1 is.2 is.3)
    by_kind (as_fault same) =
        let failed : IsFailed (end_of_answer result) = subst (λ (given : Answer R). IsFailed (end_of_answer given)) (sym same) tt in
        let rises : Rose m.faults new.faults = rw s.faults (cause failed) in
        subst (λ (given : Answer R). EndsAs given m) (sym same) (record m { faults = new.faults }, (faults_opening state f there owner at refl rises, λ told. absurd (cc (told))), read_stands m s)
    by_kind (as_memory same) = subst (λ (given : Answer R). EndsAs given m) (sym same) (record m { faults = new.faults }, (wants_memory_opening refl (more_faults m s), λ told. record { state = state; there = there; owner = owner; piece = f; here = at }), read_stands m s)

  pub open_ends : Steps tells (WithWants (OwnsPiece who pin i) (Opens who pin i)) p (reply_of reader_tells bytes faults result) (record p { at = new })
  open_ends = λ m s. by_pin m s (get m.pins pin) refl
    where
      by_piece : (m : Machine) → Stands tells p m → (state : PinState) → get m.pins pin ≡ Some state → state.owner ≡ who → (has : HasPinOf tells (beside p.at p.limbo) m.told m.rows p.pinned pin state) → asked who (get p.pinned pin) ≡ Ok has.own → (o : Option PinnedFile) → slice_get has.own.pieces i ≡ o → EndsAs result m
      by_piece m s state there owner has granted None none =
          let told = lacks has.own granted none in
          let number : length has.own.pieces ≡ length state.pieces = has.is.number in
          let lacking : slice_get state.pieces i ≡ None = by_place (slice_get state.pieces i) refl in
          subst (λ (given : Answer R). EndsAs given m) (sym (told.0 ∙ ap (λ (n : ℕ). answer.NoPiece n) number)) (m, (no_piece state there owner lacking, λ told. absurd (cc (told))), unread_stands m told.1 s)
        where
          by_place : (o : Option RowFile) → slice_get state.pieces i ≡ o → slice_get state.pieces i ≡ None
          by_place None is = is
          by_place (Some f) is = absurd (
              let low = slice_get_within state.pieces i f is in
              let number : length has.own.pieces ≡ length state.pieces = has.is.number in
              let some = element has.own.pieces i (omega (arith, low, number)) in
              let both : ◌≡◌ {A = Option PinnedFile} None (Some some.0) = sym none ∙ some.1 in
              cc (both)
              )
      by_piece m s state there owner has granted (Some file) file_at =
          let low = slice_get_within has.own.pieces i file file_at in
          let number : length has.own.pieces ≡ length state.pieces = has.is.number in
          let f = element state.pieces i (omega (arith, low, number)) in
          by_kind m s state there owner has f.0 f.1 file file_at (opened_as tells reader_tells bytes faults (beside p.at p.limbo) file result (opened has.own file granted file_at))

      by_owner : (m : Machine) → Stands tells p m → (state : PinState) → get m.pins pin ≡ Some state → (has : HasPinOf tells (beside p.at p.limbo) m.told m.rows p.pinned pin state) → (b : Bool) → (state.owner == who) ≡ b → EndsAs result m
      by_owner m s state there has true is =
          let own_test : (has.own.owner == who) ≡ true = ap (λ (n : ℕ). n == who) has.is.owner ∙ is in
          let own_there = has.there in
          let granted : asked who (get p.pinned pin) ≡ Ok has.own = rw (own_there, own_test) refl in
          let owner : state.owner ≡ who = grind (arith, nat_tests) in
          by_piece m s state there owner has granted (slice_get has.own.pieces i) refl
      by_owner m s state there has false is =
          let own_test : (has.own.owner == who) ≡ false = ap (λ (n : ℕ). n == who) has.is.owner ∙ is in
          let own_there = has.there in
          let told = refused (err.NotYours has.own.owner) (rw (own_there, own_test) refl) in
          let reply : pin_refused who (get m.pins pin) ≡ Some (answer.NotYours has.own.owner) = rw (there, is) (ap (λ (n : ℕ). Some (answer.NotYours n)) (sym has.is.owner)) in
          subst (λ (given : Answer R). EndsAs given m) (sym told.0) (m, (refused_open (answer.NotYours has.own.owner) reply, λ told. absurd (cc (told))), unread_stands m told.1 s)

      by_pin : (m : Machine) → Stands tells p m → (o : Option PinState) → get m.pins pin ≡ o → EndsAs result m
      by_pin m s None here =
          let none = s.pins.none pin here in
          let told = refused err.NoPin (rw none refl) in
          let reply : pin_refused who (get m.pins pin) ≡ Some answer.NoPin = rw here refl in
          subst (λ (given : Answer R). EndsAs given m) (sym told.0) (m, (refused_open answer.NoPin reply, λ told. absurd (cc (told))), unread_stands m told.1 s)
      by_pin m s (Some state) here = by_owner m s state here (s.pins.each pin state here) (state.owner == who) refl

-- The act that pins: what the stores' call makes of the machine, and which files the pieces of pins are.

-- what an answer says is so, or memory was wanting
pub says_kind : {R : Type 0} (says : Answer R → Stores → Type 0) (held : Stores) (given : Answer R) → SaysOf says (end_of_answer given) held → (given ≡ answer.Memory) ⊎ says given held
says_kind {R} says held given is = elim (end_kind given) [
  | inl fault ↦ absurd (subst (λ (x : Answer R). SaysOf says (end_of_answer x) held) fault is)
  | inr others ↦ elim others [
    | inl spent ↦ inl spent
    | inr done ↦ inr (subst (λ (end : End (Answer R) ⊥). SaysOf says end held) done is)
  ]
]

filter_few : (test : Listed → Bool) (xs : List Listed) → length (filter test xs) ≤ length xs
filter_few test [] = omega arith
filter_few test (x ∷ xs) = by_test (test x) (filter_few test xs)
  where
    by_test : (b : Bool) → length (filter test xs) ≤ length xs → length (cond b (x ∷ filter test xs) (filter test xs)) ≤ length (x ∷ xs)
    by_test true low = omega (arith, low)
    by_test false low = omega (arith, low)

-- a piece of a machine that isn't told
unknown : ℕ → PinnedFile → RowFile
unknown i file = record { row = i; store = Short; part = record { start = 0; end = 0; name = [] }; head = []; samples = [] }

module _ (R : Type 0) (tells reader_tells : Bool) (bytes : R → List ℕ) (faults : R → ℕ) (p : Parts) (m : Machine) (r : Rests tells p m) (who i : ℕ) (name : List ℕ) (query : Query) (named : HasName p.at.catalogue.rows i name) (result : Answer R) (pinned : FinMap nat_cmp PinOf)
    (says : SaysOf (SaysPinned who name query (tail_at p.tails i).samples p.pinned pinned) (end_of_answer result) r.stands.store.before) (unchanged : IsCut (end_of_answer result) → pinned ≡ p.pinned) (stand : PinsStand tells (beside p.at p.limbo) p.pinned → PinsStand tells (beside p.at p.limbo) pinned)
    (seen_now : IsTrue tells → MayLeave p.at.past p.at.files) where
  abbrev held : Stores
  held = r.stands.store.before

  abbrev Ends : Answer R → Type 0
  Ends given = AskEnds tells (MakesPin who name query) p m (record p { pinned = pinned }) (reply_of reader_tells bytes faults given)

  has : Has tells p.at held
  has = rests_has tells p m r

  -- the archive but for its pins
  read : Stands tells p (record m { faults = p.at.faults })
  read = rests_again tells p m r p.at refl (frame_same tells (beside p.at p.limbo)) has

  told_is : m.told ≡ true → IsTrue held.stands
  told_is = told_stands tells m.told held.stands r.stands.store.told

  module _ (k : ℕ) (pin count : ℕ) (told : List ℕ) (about : About) (rest : List Sample) (named_k : HasName held.rows k name) (q : IsPinned held.rows (map listed_of (files_of_line k held)) who k query (tail_at p.tails i).samples p.pinned pinned pin told about count rest) (enough : AreEnough held k query (tail_at p.tails i).samples q.opened) where
    abbrev own : PinOf
    own = record { owner = who; pieces = q.pieces }

    known : HasName p.at.catalogue.rows k name
    known = subst (λ (rows : List Row). HasName rows k name) (sym has.known.rows) named_k

    found : find_row m name ≡ Some k
    found = find_some tells p m r.stands name k known

    same_row : i ≡ k
    same_row = same_Some i k (sym (find_some tells p m r.stands name i named) ∙ found)

    row : (row : RowState) × (slice_get m.rows k ≡ Some row) × (row.name ≡ told) × (row.about ≡ about) × (row.tail ≡ rest)
    row =
        let at = row_at p.at.catalogue.rows p.kept p.tails m.rows r.stands.rows k known.row known.here in
        let one : known.row ≡ q.row = same_Some known.row q.row (sym known.here ∙ (ap (λ (rows : List Row). slice_get rows k) has.known.rows ∙ q.here)) in
        let tail : at.0.tail ≡ rest = at.4.tail ∙ (ap (λ (n : ℕ). (tail_at p.tails n).samples) (sym same_row) ∙ sym q.tail_is) in
        (at.0, at.1, at.4.name ∙ (ap (λ (x : Row). x.name) one ∙ sym q.name_is), at.4.about ∙ (ap (λ (x : Row). x.about) one ∙ sym q.about_is), tail)

    -- with these pieces the machine makes the pin
    with_pieces : (pieces : List RowFile) → length pieces ≡ count → length pieces < 2 ^ 32 → (m.told ≡ true → AllByRecursion (IsOpenedPiece m.rule m.rows k row.0) pieces) → (m.told ≡ true → InOrder pieces) → (m.told ≡ true → answer_to (over (over_pieces [] pieces) row.0.tail) query ≡ answer_to (whole accepted m.rows k) query)
        → IsPinOf tells (beside p.at p.limbo) m.told m.rows (record { owner = who; pieces = pieces }) own → Ends (answer.Pinned pin told about count rest)
    with_pieces pieces number few listed ordered answers is =
        let state : PinState = record { owner = who; pieces = pieces } in
        let n : Machine = record m { pins = insert m.pins pin state; faults = p.at.faults } in
        let free : get m.pins pin ≡ None = by_pin (get m.pins pin) refl in
        let made : MakesPin who name query m (answer.Pinned pin row.0.name row.0.about (length pieces) row.0.tail) n = pins_it k row.0 pin pieces found row.1 free (λ lower low none. absurd (let some = q.least lower low in let lacks = r.stands.pins.none lower none in let both : false ≡ true = subst (λ (o : Option PinOf). IsSome o) lacks some in cc (both))) listed ordered answers few refl in
        let same : answer.Pinned pin row.0.name row.0.about (length pieces) row.0.tail ≡ reply_of reader_tells bytes faults (answer.Pinned pin told about count rest) = let a = row.2 in let b = row.3 in let c = row.4 in cc (a, b, c, number) in
        let stand_now = subst (λ (x : FinMap nat_cmp PinOf). PinsStand tells (beside p.at p.limbo) x) q.made (stand r.stands.pins.stand) in
        let are = more_pins tells (beside p.at p.limbo) m.told m.rows m.pins p.pinned pin state own r.stands.pins is stand_now in
        let stands = pins_stand tells p (record m { faults = p.at.faults }) (insert m.pins pin state) (insert p.pinned pin own) are (pins_sound r.stands.sound made) read in
        is_answered n (subst (λ (reply : Reply). MakesPin who name query m reply n) same made) (subst (λ (x : FinMap nat_cmp PinOf). Stands tells (record p { pinned = x }) n) (sym q.made) stands)
      where
        by_pin : (o : Option PinState) → get m.pins pin ≡ o → get m.pins pin ≡ None
        by_pin None is = is
        by_pin (Some x) is = absurd (let there = (r.stands.pins.each pin x is).there in let none = q.free in let both : ◌≡◌ {A = Option PinOf} None (Some (r.stands.pins.each pin x is).own) = sym none ∙ there in cc (both))

    pin_made : Ends (answer.Pinned pin told about count rest)
    pin_made = by_told m.told refl
      where
        untold : m.told ≡ false → (t : Type 0) → m.told ≡ true → t
        untold off t on = absurd (let both : false ≡ true = sym off ∙ on in cc (both))

        by_told : (b : Bool) → m.told ≡ b → Ends (answer.Pinned pin told about count rest)
        by_told false off =
            let number = length-map q.pieces (unknown k) in
            let size = ap length q.are ∙ length-map (filter has_bytes q.opened) (piece_of held.rows) in
            let few = filter_few has_bytes q.opened in
            let count_is = q.number in
            let most = q.few in
            with_pieces (map (unknown k) q.pieces) (omega (arith, number, count_is)) (omega (arith, number, size, few, most))
            (λ on. untold off _ on) (λ on. untold off _ on) (λ on. untold off _ on)
            (record { owner = refl; number = sym number; pieces = λ on. untold off _ on })
        by_told true on =
            let stands = told_is on in
            let whole : filter has_bytes q.opened ≡ q.opened = enough.all stands in
            let of_files : q.pieces ≡ map (piece_of p.at.catalogue.rows) (map listed_of enough.files) = q.are ∙ (ap (map (piece_of held.rows)) (whole ∙ sym enough.are) ∙ ap (λ (rows : List Row). map (piece_of rows) (map listed_of enough.files)) (sym has.known.rows)) in
            let size = ap length of_files ∙ (length-map (map listed_of enough.files) (piece_of p.at.catalogue.rows) ∙ length-map enough.files listed_of) in
            let number = length-map enough.files state_of in
            let count_is = q.number in
            let opened_size = ap length enough.are in
            let listed_size = length-map enough.files listed_of in
            let most = q.few in
            let gran : m.rule.granularity ≡ granularities p.at.manifests = r.stands.rule.granularity in
            let rising : IsRising (tail_at p.tails i).samples = subst (λ (xs : List Sample). IsRising xs) (row.4 ∙ q.tail_is) (RisesFrom-lower 0 (end_of (durable row.0)) row.0.tail (r.stands.sound.each_row k row.0 row.1).later (omega arith)) in
            let in_line = part_in_line m r.stands.sound tells p.at held has r.stands.store.holds gran r.stands.rule.headers on stands k row.0 row.1 enough.closed enough.files enough.behind enough.split in
            let tail_same : row.0.tail ≡ (tail_at p.tails i).samples = row.4 ∙ q.tail_is in
            let stand_now = stand r.stands.pins.stand in
            let there : get pinned pin ≡ Some own = ap (λ (x : FinMap nat_cmp PinOf). get x pin) q.made ∙ get_own in
            with_pieces (map state_of enough.files) (omega (arith, number, count_is, size)) (omega (arith, number, opened_size, listed_size, most)) (λ t. in_line.0) (λ t. in_line.1)
            (λ t. ap (λ (xs : List Sample). answer_to (over (over_pieces [] (map state_of enough.files)) xs) query) tail_same ∙ (enough.answers stands rising ∙ ap (λ (xs : List Sample). answer_to xs query) (ap (λ (xs : List Sample). over (whole_in k held) xs) (sym tail_same) ∙ sym (accepted_held m r.stands.sound held r.stands.store.holds on k row.0 row.1))))
            (record { owner = refl; number = sym (number ∙ sym size); pieces = λ t. pieces_are tells (beside p.at p.limbo) m held has seen_now r.stands.store.holds (told_tells tells m.told held.stands r.stands.store.told on) stands k enough.closed enough.files enough.behind pinned pin own enough.split of_files there stand_now })
          where
            get_own : get (insert p.pinned pin own) pin ≡ Some own
            get_own = get_inserted p.pinned pin own

  -- the stores' answer
  by_says : (given : Answer R) (s : Stores) → SaysPinned who name query (tail_at p.tails i).samples p.pinned pinned given s → s ≡ held → Ends given
  by_says _ _ (none_has {held = s} none same) is = absurd (none i (subst (λ (rows : List Row). HasName rows i name) (has.known.rows ∙ sym (ap (λ (x : Stores). x.rows) is)) named))
  by_says _ _ (is_pinned {held = s} k pin count told about rest has q enough) is = moved s is k pin count told about rest has q enough
    where
      moved : (s : Stores) → s ≡ held → (k pin count : ℕ) (told : List ℕ) (about : About) (rest : List Sample) → HasName s.rows k name → (q : IsPinned s.rows (map listed_of (files_of_line k s)) who k query (tail_at p.tails i).samples p.pinned pinned pin told about count rest) → AreEnough s k query (tail_at p.tails i).samples q.opened → Ends (answer.Pinned pin told about count rest)
      moved s is k pin count told about rest has q enough =
          (subst (λ (x : Stores). (k pin count : ℕ) (told : List ℕ) (about : About) (rest : List Sample) → HasName x.rows k name → (q : IsPinned x.rows (map listed_of (files_of_line k x)) who k query (tail_at p.tails i).samples p.pinned pinned pin told about count rest) → AreEnough x k query (tail_at p.tails i).samples q.opened → Ends (answer.Pinned pin told about count rest)) (sym is) pin_made)
          k pin count told about rest has q enough

  pub pin_ends : Ends result
  pin_ends = elim (says_kind (SaysPinned who name query (tail_at p.tails i).samples p.pinned pinned) held result says) [
    | inl spent ↦ (
        let cut : IsCut (end_of_answer result) = subst (λ (given : Answer R). IsCut (end_of_answer given)) (sym spent) tt in
        let same = unchanged cut in
        subst (λ (given : Answer R). Ends given) (sym spent) (is_spent (subst (λ (x : FinMap nat_cmp PinOf). Stands tells (record p { pinned = x }) (record m { faults = p.at.faults })) (sym same) read))
        )
    | inr told ↦ by_says result held told refl
  ]

-- the count of faults is nothing to a pin
pub pins_goes : (who : ℕ) (name : List ℕ) (query : Query) (m : Machine) (f : ℕ) (given : Reply) (new : Machine) → MakesPin who name query (record m { faults = f }) given new → MakesPin who name query m given new
pins_goes who name query m f _ new (pins_it i row pin pieces found here free least listed ordered answers few same) = pins_it i row pin pieces found here free least listed ordered answers few same

-- it isn't told as want of memory
pub pins_tell : (who : ℕ) (name : List ℕ) (query : Query) (m : Machine) (given : Reply) (new : Machine) → MakesPin who name query m given new → given ≡ answer.Memory → ⊥
pins_tell who name query m _ new (pins_it i row pin pieces found here free least listed ordered answers few same) told = cc (told)

abbrev pub pins_act : (who : ℕ) (name : List ℕ) (query : Query) → IsAct who (Pin name query) (MakesPin who name query)
pins_act who name query = record { refuse = λ old. details_refused name; passes = λ old m is. is; counts = λ old m f. refl; refuses = λ m f. refl; changes = λ m f. refl; goes = pins_goes who name query; never = λ old. details_never_want name; tells_more = pins_tell who name query; steps = λ m given new acts. acts; wants = λ m n none. none }

-- THE FILES OF A PIN THAT IS MADE

module _ (at : Seen) (held : Stores) (known : IsKnown at.catalogue at.manifests held) (i : ℕ) (name : List ℕ) (named : HasName held.rows i name) where
  -- what is pinned of a file that a store lists of a row of the line
  piece_in : (k : ℕ) → Contains (line held.rows i) k → (store : Store) (p : Placed) → Contains (placed store k (list_at (index_of store) held)) p → IsPieceOfRow at name (piece_of at.catalogue.rows (listed_of p))
  piece_in k among store p there = subst (λ (x : Placed). IsPieceOfRow at name (piece_of at.catalogue.rows (listed_of x))) f.2 (record {
    place = index_of store;
    manifest = m.0;
    here = m.1;
    entry = f.0.entry;
    listed = subst (λ (es : List Entry). Contains es f.0.entry) (sym (known.each (index_of store) m.0 m.1).entries) (map_in entry_of files f.0 within);
    row = i;
    named = subst (λ (rows : List Row). HasName rows i name) (sym known.rows) named;
    among = subst (λ (rows : List Row). Contains (line rows i) f.0.entry.series) (sym known.rows) (subst (λ (n : ℕ). Contains (line held.rows i) n) (sym series) among);
    is = refl;
  })
    where
      files : List Filed
      files = list_at (index_of store) held

      m : (m : ManifestState) × (slice_get at.manifests (index_of store) ≡ Some m)
      m = let low = index_low store in let three = known.three in manifest_at at.manifests (index_of store) (omega (arith, low, three))

      f : (f : Filed) × Contains (of_row k files) f × (placed_at store f ≡ p)
      f = map_out (placed_at store) (of_row k files) p there

      within : Contains files f.0
      within = All-contains (Contains files) (of_row k files) f.0 (All-filter (λ (x : Filed). nat_eq x.entry.series k) (Contains files) files (All-contains_itself files)) f.1

      series : f.0.entry.series ≡ k
      series = All-contains (λ (x : Filed). x.entry.series ≡ k) (of_row k files) f.0 (All-from_recursion (λ (x : Filed). x.entry.series ≡ k) (of_row k files) (own_series k files)) f.1

  piece_of_row : (ks : List ℕ) → All (Contains (line held.rows i)) ks → (p : Placed) → Contains (flat_map (λ (k : ℕ). files_in k held) ks) p → IsPieceOfRow at name (piece_of at.catalogue.rows (listed_of p))
  piece_of_row [] among p (n, low, is) = absurd (omega (arith, low))
  piece_of_row (k ∷ ks) among p there =
      let own : Contains (line held.rows i) k = All-head (Contains (line held.rows i)) k ks among in
      elim (Contains-append_cases (files_in k held) (flat_map (λ (j : ℕ). files_in j held) ks) p there) [
        | inl here ↦ elim (Contains-append_cases (placed Long k held.long ++ placed Medium k held.medium) (placed Short k held.short) p here) [
          | inl deeper ↦ elim (Contains-append_cases (placed Long k held.long) (placed Medium k held.medium) p deeper) [
            | inl long ↦ piece_in k own Long p long
            | inr medium ↦ piece_in k own Medium p medium
          ]
          | inr short ↦ piece_in k own Short p short
        ]
        | inr rest ↦ piece_of_row ks (All-tail (Contains (line held.rows i)) k ks among) p rest
      ]

  pieces_of_row : (closed files behind : List Placed) (opened : List Listed) → files_of_line i held ≡ closed ++ (files ++ behind) → map listed_of files ≡ opened → All (IsPieceOfRow at name) (map (piece_of at.catalogue.rows) (filter has_bytes opened))
  pieces_of_row closed files behind opened split are = All-map (IsPieceOfRow at name) (piece_of at.catalogue.rows) (filter has_bytes opened) (All-filter has_bytes (λ (l : Listed). IsPieceOfRow at name (piece_of at.catalogue.rows l)) opened each)
    where
      each : All (λ (l : Listed). IsPieceOfRow at name (piece_of at.catalogue.rows l)) opened
      each = subst (λ (ls : List Listed). All (λ (l : Listed). IsPieceOfRow at name (piece_of at.catalogue.rows l)) ls) are
          (All-map (λ (l : Listed). IsPieceOfRow at name (piece_of at.catalogue.rows l)) listed_of files
          (All-weaker (Contains files) (λ (p : Placed). IsPieceOfRow at name (piece_of at.catalogue.rows (listed_of p)))
          (λ p there. piece_of_row (line held.rows i) (All-contains_itself (line held.rows i)) p (subst (λ (ps : List Placed). Contains ps p) (sym split) (Contains-append_right closed (files ++ behind) p (Contains-append_left files behind p there)))) files (All-contains_itself files)))

-- the stores' answer, by what they say of what is held
pins_by : (R : Type 0) (tells reader_tells : Bool) (bytes : R → List ℕ) (faults : R → ℕ) (p q : Parts) (who : ℕ) (name : List ℕ) (query : Query) (tail : List Sample) (held : Stores) (given : Answer R) → IsKnown q.at.catalogue q.at.manifests held → (q.at.catalogue ≡ p.at.catalogue) × (q.at.manifests ≡ p.at.manifests)
    → SaysPinned who name query tail p.pinned q.pinned given held → LeavesPins tells p (Pin name query) (reply_of reader_tells bytes faults given) q
pins_by R tells reader_tells bytes faults p q who name query tail _ _ known same (none_has none stay) = tt
pins_by R tells reader_tells bytes faults p q who name query tail _ _ known same (is_pinned {held = held} i pin count told about rest has made enough) =
    let own : PinOf = record { owner = who; pieces = made.pieces } in
    record {
      own = own;
      made = ap (λ (x : FinMap nat_cmp PinOf). get x pin) made.made ∙ get_inserted p.pinned pin own;
      pieces = All-same (IsPieceOfRow q.at name) made.pieces (map (piece_of q.at.catalogue.rows) (filter has_bytes made.opened)) (made.are ∙ ap (λ (rows : List Row). map (piece_of rows) (filter has_bytes made.opened)) (sym known.rows))
          (pieces_of_row q.at held known i name has enough.closed enough.files enough.behind made.opened enough.split enough.are);
      same_lists = λ settled. same;
    }

-- so it is where the pins alone have changed
pub pins_files : (R : Type 0) (tells reader_tells : Bool) (bytes : R → List ℕ) (faults : R → ℕ) (p : Parts) (pinned : FinMap nat_cmp PinOf) (held : Stores) → IsKnown p.at.catalogue p.at.manifests held → (who : ℕ) (name : List ℕ) (query : Query) (tail : List Sample) (given : Answer R)
    → SaysOf (SaysPinned who name query tail p.pinned pinned) (end_of_answer given) held → LeavesPins tells p (Pin name query) (reply_of reader_tells bytes faults given) (record p { pinned = pinned })
pins_files R tells reader_tells bytes faults p pinned held known who name query tail given says = elim (says_kind (SaysPinned who name query tail p.pinned pinned) held given says) [
  | inl spent ↦ subst (λ (x : Answer R). LeavesPins tells p (Pin name query) (reply_of reader_tells bytes faults x) (record p { pinned = pinned })) (sym spent) tt
  | inr told ↦ pins_by R tells reader_tells bytes faults p (record p { pinned = pinned }) who name query tail held given known (refl, refl) told
]

-- a doubt was settled before
pub pins_then : (tells : Bool) (p mid q : Parts) (name : List ℕ) (query : Query) (given : Reply) → (IsSettled p.at → mid.at ≡ p.at) → LeavesPins tells mid (Pin name query) given q → LeavesPins tells p (Pin name query) given q
pins_then tells p mid q name query (answer.Pinned pin told about count tail) quiet made = record {
  own = made.own;
  made = made.made;
  pieces = made.pieces;
  same_lists = λ settled.
      let still = quiet settled in
      let same = made.same_lists (subst IsSettled (sym still) settled) in
      (same.0 ∙ ap (λ (s : Seen). s.catalogue) still, same.1 ∙ ap (λ (s : Seen). s.manifests) still);
}
pins_then tells p mid q name query _ quiet made = made

-- no pin was made
pub pins_failed : (tells : Bool) (p q : Parts) (name : List ℕ) (query : Query) (e : DiskErr) → LeavesPins tells p (Pin name query) (disk_reply e) q
pins_failed tells p q name query Fault = tt
pins_failed tells p q name query Memory = tt

-- A PIECE IS OPENED

module _ (R : Type 0) (tells reader_tells : Bool) (bytes : R → List ℕ) (faults : R → ℕ) (p q : Parts) (who pin i : ℕ) (given : Answer R) (still : q.pinned ≡ p.pinned) (stand : PinsStand tells (beside p.at p.limbo) p.pinned) where
  -- how it is answered
  abbrev Opened : Answer R → Type 0
  Opened answer = LeavesPins tells p (OpenPiece pin i) (reply_of reader_tells bytes faults answer) q

  refused_opening : (e : PinErr) → Opened (refusal e)
  refused_opening err.NoPin = still
  refused_opening (err.NotYours owner) = still

  module _ (own : PinOf) (file : PinnedFile) (there : get p.pinned pin ≡ Some own) (here : slice_get own.pieces i ≡ Some file) where
    read_file : (reader : R) (name : Name) (head_len len : ℕ) → IsReaderOf tells reader_tells bytes faults (beside p.at p.limbo) file reader → name ≡ file.name → len ≡ file.len → Opened (answer.Piece reader name head_len len)
    read_file reader name head_len len is name_is len_is = (
      still,
      record {
        own = own;
        there = there;
        piece = file;
        here = here;
        named = name_is;
        len_is = len_is;
        told = λ told. let read = reads told in (read.0, ap length read.1 ∙ (shown.len ∙ sym len_is));
        bytes = λ told.
            let f = front_file p.at.files file.name shown.bytes (shown.shown.front told) in
            record { bytes = f.bytes; file = ap p.at.files name_is ∙ f.file; holds = (reads told).1 ∙ (sym f.holds.1 ∙ ap (λ (n : ℕ). take n f.bytes) (shown.len ∙ sym len_is)) };
      },
    )
      where
        shown : IsShown tells (beside p.at p.limbo) file
        shown = stand pin i own file there here

        reads : IsTrue tells → IsTrue reader_tells × (bytes reader ≡ shown.bytes)
        reads told = is.shows told shown.bytes shown.len shown.shown

    kind_of : OpenedAs tells reader_tells bytes faults (beside p.at p.limbo) file given → Opened given
    kind_of (as_piece reader name head_len len same is) = subst Opened (sym same) (read_file reader name head_len len is.0 is.1 is.3)
    kind_of (as_fault same) = subst Opened (sym same) still
    kind_of (as_memory same) = subst Opened (sym same) still

  pub opens_file : ((e : PinErr) → asked who (get p.pinned pin) ≡ Err e → given ≡ refusal e) → ((own : PinOf) → asked who (get p.pinned pin) ≡ Ok own → slice_get own.pieces i ≡ None → given ≡ answer.NoPiece (length own.pieces))
      → ((own : PinOf) (file : PinnedFile) → asked who (get p.pinned pin) ≡ Ok own → slice_get own.pieces i ≡ Some file → IsOpened tells reader_tells bytes faults (beside p.at p.limbo) file given) → Opened given
  opens_file refused lacks opened = by_asked (asked who (get p.pinned pin)) refl
    where
      by_piece : (own : PinOf) → asked who (get p.pinned pin) ≡ Ok own → (o : Option PinnedFile) → slice_get own.pieces i ≡ o → Opened given
      by_piece own is None none = subst Opened (sym (lacks own is none)) still
      by_piece own is (Some file) here = kind_of own file (asked_some who (get p.pinned pin) own is) here (opened_as tells reader_tells bytes faults (beside p.at p.limbo) file given (opened own file is here))

      by_asked : (r : Result PinOf PinErr) → asked who (get p.pinned pin) ≡ r → Opened given
      by_asked (Err e) is = subst Opened (sym (refused e is)) (refused_opening e)
      by_asked (Ok own) is = by_piece own is (slice_get own.pieces i) refl
