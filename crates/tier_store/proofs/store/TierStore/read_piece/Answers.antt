use Rattle.std.proofs.Common.{◌≡◌, ◌≤◌, max, Some, ◌∙◌, ap, subst}
use Rattle.std.specs.Prelude.{IsTrue, slice_get}
use Rattle.pins.specs.declared.piece.PinnedFile.{PinnedFile}
use Rattle.std.specs.FinMap.{get}
use Rattle.gate_journal.specs.DiskShown.{shown_by}
use Rattle.pins.specs.Pieces.{asked}
use Rattle.tier_store.specs.Change.{IsOpen}
use Rattle.tier_store.specs.Limbo.{LimboStands}
use Rattle.tier_store.specs.Moving.{KeepsBeside}
use Rattle.tier_store.specs.Revival.{KeepsWhole}
use Rattle.tier_store.specs.Seen.{seen, seen_by}
use Rattle.tier_store.specs.Stores.{Stores}
use Rattle.tier_store.specs.Opening.{IsReaderOf}
use Rattle.tier_store.specs.Pinned.{beside, IsThereTo, seen_all}
use Rattle.tier_store.proofs.Showing.{numbered}
use Rattle.tier_store.proofs.ReadCalls.{found_at, granted_shown, one_piece, some_piece, shown_long, shown_held, reader_of, piece_opened, opened_most, unopened_most, opened_beside, opened_whole}
use Rattle.tier_store.proofs.store.TierStore.read_piece.Goals.{After-open_file}
use Rattle.tier_store.proofs.store.TierStore.read_piece.Goals as goal

found_here : (g : _) (c : After-open_file g) → slice_get c.in-Ok.pieces.now c.args.i ≡ Some c.in-Some.piece.now
found_here g c = found_at c.in-Ok.pieces.now c.args.i c.in-Some.piece.now c.in-Some.ensures.lookup.3.0 c.in-Some.ensures.lookup.1

there : (g : _) (c : After-open_file g) → IsThereTo (seen_all g.D.Disk c.args.self.now) c.in_ok-name.name c.in-Some.piece.now.len
there g c = shown_held g.D.Disk.tells _ c.in-Some.piece.now c.in_ok-name.name c.in_ok-name.ensures (granted_shown g.D.Disk.tells _ c.args.self.now.pinned c.args.who c.args.pin c.args.i _ c.in-Some.piece.now c.requires.stand c.in-Ok.ensures.found (found_here g c))

abbrev Most : (g : _) → After-open_file g → Type 0
Most g c = IsTrue g.D.Disk.tells → g.D.Disk.opened c.open_file.new.self c.in_ok-name.name ≤ max (g.D.Disk.opened c.args.self.now.disk c.in_ok-name.name) c.in-Some.piece.now.len

runs_on : (g : _) (c : After-open_file g) → Most g c → KeepsBeside g.D.Disk.tells (seen_all g.D.Disk c.args.self.now) (beside (seen_by g.D.Disk c.args.self.now.catalogue c.args.self.now.manifests.items c.open_file.new.self) c.args.self.now.limbo.items)
runs_on g c most = let self = c.args.self.now in opened_beside (shown_by g.D.Disk) g.D.Disk.faults g.D.Disk.tells self.catalogue self.manifests.items self.limbo.items self.disk c.open_file.new.self c.in_ok-name.name c.in-Some.piece.now.len (there g c) c.open_file.ensures.crash c.open_file.ensures.same most c.open_file.ensures.others

stays_open : (g : _) (c : After-open_file g) → Most g c → (before after : Stores) → IsOpen g.D.Disk.tells (seen g.D.Disk c.args.self.now) before after → IsOpen g.D.Disk.tells (seen_by g.D.Disk c.args.self.now.catalogue c.args.self.now.manifests.items c.open_file.new.self) before after
stays_open g c most before after was =
    let self = c.args.self.now in
    piece_opened (shown_by g.D.Disk) g.D.Disk.faults g.D.Disk.tells self.catalogue self.manifests.items self.disk c.open_file.new.self c.in_ok-name.name c.in-Some.piece.now.len (numbered _ c.in_ok-name.name c.in-Some.piece.now.len (there g c)) c.open_file.ensures.crash c.open_file.ensures.same most c.open_file.ensures.others self.limbo.items before after (there g c) was

stays_whole : (g : _) (c : After-open_file g) → Most g c → LimboStands (seen g.D.Disk c.args.self.now) c.args.self.now.limbo.items → KeepsWhole g.D.Disk.tells (seen_all g.D.Disk c.args.self.now) (beside (seen_by g.D.Disk c.args.self.now.catalogue c.args.self.now.manifests.items c.open_file.new.self) c.args.self.now.limbo.items)
stays_whole g c most stand i stands files low whole =
    let self = c.args.self.now in
    let was = c.requires.begun in
    opened_whole (shown_by g.D.Disk) g.D.Disk.faults g.D.Disk.tells self.catalogue self.manifests.items self.limbo.items self.disk c.open_file.new.self c.in_ok-name.name c.in-Some.piece.now.len (there g c) c.open_file.ensures.crash c.open_file.ensures.same most c.open_file.ensures.others was.0 was.1 was.2 stand i low stands files whole

pub open_file-requires : goal.open_file-requires
open_file-requires g c told =
    let here : slice_get c.in-Ok.pieces.now c.args.i ≡ Some c.in-Some.piece.now = found_at c.in-Ok.pieces.now c.args.i c.in-Some.piece.now c.in-Some.ensures.lookup.3.0 c.in-Some.ensures.lookup.1 in
    shown_long g.D.Disk.tells _ c.in-Some.piece.now c.in_ok-name.name c.in_ok-name.ensures (granted_shown g.D.Disk.tells _ c.args.self.now.pinned c.args.who c.args.pin c.args.i _ c.in-Some.piece.now c.requires.stand c.in-Ok.ensures.found here) told

pub returns-in_err-reader-clause-no_piece : goal.returns-in_err-reader-clause-no_piece
returns-in_err-reader-clause-no_piece g c p granted none = absurd (some_piece _ _ p c.args.i c.in-Some.piece.now c.in-Ok.ensures.found granted (found_here g (goal.at.returns-in_err-reader-clause-no_piece g c).After-open_file) none)

pub returns-clause-no_piece : goal.returns-clause-no_piece
returns-clause-no_piece g c p granted none = absurd (some_piece _ _ p c.args.i c.in-Some.piece.now c.in-Ok.ensures.found granted (found_here g (goal.at.returns-clause-no_piece g c).After-open_file) none)

pub returns-in_err-reader-clause-kept : goal.returns-in_err-reader-clause-kept
returns-in_err-reader-clause-kept g c = stays_open g (goal.at.returns-in_err-reader-clause-kept g c).After-open_file (λ tells. unopened_most _ _ _ _ (c.in_err-reader.ensures.unopened tells))

pub returns-in_err-reader-clause-beside : goal.returns-in_err-reader-clause-beside
returns-in_err-reader-clause-beside g c = runs_on g (goal.at.returns-in_err-reader-clause-beside g c).After-open_file (λ tells. unopened_most _ _ _ _ (c.in_err-reader.ensures.unopened tells))

pub returns-in_err-reader-clause-whole : goal.returns-in_err-reader-clause-whole
returns-in_err-reader-clause-whole g c = stays_whole g (goal.at.returns-in_err-reader-clause-whole g c).After-open_file (λ tells. unopened_most _ _ _ _ (c.in_err-reader.ensures.unopened tells))

pub returns-clause-kept : goal.returns-clause-kept
returns-clause-kept g c = stays_open g (goal.at.returns-clause-kept g c).After-open_file (λ tells. opened_most _ _ _ (c.in_ok-reader.ensures.opened tells))

pub returns-clause-beside : goal.returns-clause-beside
returns-clause-beside g c = runs_on g (goal.at.returns-clause-beside g c).After-open_file (λ tells. opened_most _ _ _ (c.in_ok-reader.ensures.opened tells))

pub returns-clause-whole : goal.returns-clause-whole
returns-clause-whole g c = stays_whole g (goal.at.returns-clause-whole g c).After-open_file (λ tells. opened_most _ _ _ (c.in_ok-reader.ensures.opened tells))

pub returns-clause-piece : goal.returns-clause-piece
returns-clause-piece g c p piece granted there =
    let same = one_piece (asked c.args.who (get c.args.self.now.pinned c.args.pin)) _ p c.args.i c.in-Some.piece.now piece c.in-Ok.ensures.found granted (found_here g (goal.at.returns-clause-piece g c).After-open_file) there in
    let reader = reader_of g.D.Disk.tells g.D.Reader.ReadAt.tells g.D.Reader.ReadAt.bytes g.D.Reader.ReadAt.faults (beside (seen_by g.D.Disk c.args.self.now.catalogue c.args.self.now.manifests.items c.args.self.now.disk) c.args.self.now.limbo.items) c.in-Some.piece.now c.in_ok-reader.reader c.in_ok-name.name c.in_ok-name.ensures c.in_ok-reader.ensures.fresh c.in_ok-reader.ensures.reader in (
      subst (λ (x : PinnedFile). IsReaderOf g.D.Disk.tells g.D.Reader.ReadAt.tells g.D.Reader.ReadAt.bytes g.D.Reader.ReadAt.faults (beside (seen_by g.D.Disk c.args.self.now.catalogue c.args.self.now.manifests.items c.args.self.now.disk) c.args.self.now.limbo.items) x c.in_ok-reader.reader) same reader,
      c.in_ok-name.ensures ∙ ap (λ (x : PinnedFile). x.name) same,
      ap (λ (x : PinnedFile). x.head_len) same,
      ap (λ (x : PinnedFile). x.len) same,
    )

pub returns-in-Err-clause-beside : goal.returns-in-Err-clause-beside
returns-in-Err-clause-beside g c held may i move files runs = runs

pub returns-in-Err-clause-whole : goal.returns-in-Err-clause-whole
returns-in-Err-clause-whole g c stand i stands files low whole = (files, whole)

pub returns-in_default-clause-beside : goal.returns-in_default-clause-beside
returns-in_default-clause-beside g c held may i move files runs = runs

pub returns-in_default-clause-whole : goal.returns-in_default-clause-whole
returns-in_default-clause-whole g c stand i stands files low whole = (files, whole)

pub returns-in_err-name-clause-beside : goal.returns-in_err-name-clause-beside
returns-in_err-name-clause-beside g c held may i move files runs = runs

pub returns-in_err-name-clause-whole : goal.returns-in_err-name-clause-whole
returns-in_err-name-clause-whole g c stand i stands files low whole = (files, whole)
