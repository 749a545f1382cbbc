use Rattle.std.proofs.Common.{List, refl, ap, subst}
use Rattle.tier_store.specs.Moving.{KeepsBeside}
use Rattle.tier_store.specs.Pinned.{beside}
use Rattle.tier_store.specs.Seen.{seen}
use Rattle.tier_store.specs.declared.limbo.Retired.{Retired}
use Rattle.tier_store.proofs.OnePlace.{reads_settle}
use Rattle.act_model.specs.Step.{refuse_by, change_by}
use Rattle.act_model.specs.declared.acts.Act.TheVariants.{OpenPiece}
use Rattle.archive_core.specs.Leaving.{ReadsAlone}
use Rattle.archive_core.specs.Parts.{InMemory, parts_beside}
use Rattle.archive_core.proofs.Acting.{crash_settling}
use Rattle.archive_core.proofs.Settled.{KeepsLimbo, begun}
use Rattle.archive_core.proofs.Opens.{open_ends, opens_file}
use Rattle.archive_core.proofs.Opened.{reads_beside}
use Rattle.archive_core.proofs.Batches.{tidy_reads}
use Rattle.archive_core.proofs.archive.StoreHalf.open_piece.Goals.{After-open_piece}
use Rattle.archive_core.proofs.archive.StoreHalf.open_piece.Goals as goal

-- the disk was only read
reads : (g : _) (w : InMemory) (c : After-open_piece g) → ReadsAlone g.D.Disk.tells (parts_beside g.D.Disk c.args.self.now w) (parts_beside g.D.Disk (record c.args.self.now { store = c.open_piece.new.self }) w)
reads g w c =
    let call = c.open_piece.ensures in
    let same = call.same in
    reads_beside g.D.Disk.tells (parts_beside g.D.Disk c.args.self.now w) (parts_beside g.D.Disk (record c.args.self.now { store = c.open_piece.new.self }) w) (same.0, ap (λ l. l.items) same.1) (ap (λ l. l.items) same.3) (λ told. (call.reads.files told, call.reads.any_moment told))

pub open_piece-requires : goal.open_piece-requires
open_piece-requires g c =
    let was = c.requires.stands in
    record { begun = begun g.D.Disk.tells (parts_beside g.D.Disk c.args.self.now was.0) was.1 was.2; stand = was.2.pins.stand }

pub returns-clause-acted : goal.returns-clause-acted
returns-clause-acted g c w =
    let was = c.requires.stands in
    let call = c.open_piece.ensures in
    let same = call.same in
    let p = parts_beside g.D.Disk c.args.self.now w in
    let new = seen g.D.Disk c.open_piece.new.self in
    let q = parts_beside g.D.Disk (record c.args.self.now { store = c.open_piece.new.self }) w in
    let alone = reads g w (goal.at.returns-clause-acted g c).After-open_piece in
    record {
      step = λ m s.
          let shown : KeepsLimbo g.D.Disk.tells (beside p.at p.limbo) (beside new p.limbo) = subst (λ (l : List Retired). KeepsLimbo g.D.Disk.tells (beside p.at p.limbo) (beside new l)) (ap (λ l. l.items) same.3) (record { shown = call.shown; whole = call.whole s.limbo.stands }) in
          let stay : KeepsBeside g.D.Disk.tells (beside p.at p.limbo) (beside new p.limbo) = subst (λ (l : List Retired). KeepsBeside g.D.Disk.tells (beside p.at p.limbo) (beside new l)) (ap (λ l. l.items) same.3) call.beside in
          let ends = open_ends g.row.D-Reader.Denot g.D.Disk.tells g.D.Reader.ReadAt.tells g.D.Reader.ReadAt.bytes g.D.Reader.ReadAt.faults g.met.D.Disk.readers p c.args.who c.args.pin c.args.i c.open_piece.result new
          (λ e is. let told = call.refused e is in (told.0, ap (λ store. seen g.D.Disk store) told.1)) (λ own is none. let told = call.no_piece own is none in (told.0, ap (λ store. seen g.D.Disk store) told.1)) call.piece
          call.kept same.0 (ap (λ l. l.items) same.1) shown stay call.reads.faults call.reads.cause m s in
          rw (same.2, same.3) ends;
      crash = crash_settling g.D.Disk.tells (refuse_by (OpenPiece c.args.pin c.args.i)) (change_by (OpenPiece c.args.pin c.args.i)) (λ m f. refl) (λ m f. refl) p q (reads_settle g.D.Disk.tells _ _ _ call.reads).any_moment;
      files = alone;
      pins = opens_file g.row.D-Reader.Denot g.D.Disk.tells g.D.Reader.ReadAt.tells g.D.Reader.ReadAt.bytes g.D.Reader.ReadAt.faults p q c.args.who c.args.pin c.args.i c.open_piece.result same.2 was.2.pins.stand (λ e is. (call.refused e is).0) (λ own is none. (call.no_piece own is none).0) call.piece;
      moves = tt;
      tidy = λ settled well. tidy_reads g.D.Disk.tells p q alone refl settled;
    }
