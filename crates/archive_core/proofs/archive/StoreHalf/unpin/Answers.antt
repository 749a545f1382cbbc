use Rattle.std.proofs.Common.{◌≡◌, refl}
use Rattle.act_model.specs.Machine.{Machine}
use Rattle.act_model.specs.Reply.{reply_of}
use Rattle.act_model.specs.Unpin.{Unpins}
use Rattle.act_model.specs.declared.acts.Act.TheVariants.{Unpin}
use Rattle.archive_core.specs.Leaving.{files_of}
use Rattle.archive_core.specs.Parts.{parts_beside}
use Rattle.archive_core.specs.Stands.{Stands}
use Rattle.archive_core.proofs.Acting.{acted_alone}
use Rattle.archive_core.proofs.Opened.{reads_none}
use Rattle.archive_core.proofs.Opens.{unpin_ends}
use Rattle.archive_core.proofs.archive.StoreHalf.unpin.Goals as goal

pub returns-clause-acted : goal.returns-clause-acted
returns-clause-acted g c w =
    let p = parts_beside g.D.Disk c.args.self.now w in
    let q = parts_beside g.D.Disk (record c.args.self.now { store = c.unpin.new.self }) w in
    let same = c.unpin.ensures.same in
    let still : files_of q ≡ files_of p = rw (same.0, same.1, same.2, same.3) refl in
    acted_alone g.D.Disk.tells c.args.who (Unpin c.args.pin) p (reply_of g.D.Reader.ReadAt.tells g.D.Reader.ReadAt.bytes g.D.Reader.ReadAt.faults c.unpin.result) q (λ m f. refl) (λ m f. refl) still refl
    (λ m s.
    let ends = unpin_ends g.D.Disk.tells p c.args.who c.args.pin g.row.D-Reader.Denot g.D.Reader.ReadAt.tells g.D.Reader.ReadAt.bytes g.D.Reader.ReadAt.faults m s in
    let step : (n : Machine) × Unpins c.args.who c.args.pin m (reply_of g.D.Reader.ReadAt.tells g.D.Reader.ReadAt.bytes g.D.Reader.ReadAt.faults c.unpin.result) n × Stands g.D.Disk.tells q n = rw (c.unpin.ensures.answer, same.0, same.1, same.2, same.3, c.unpin.ensures.pins) ends in
    (step.0, (step.1, λ told. tt), step.2))
    (reads_none g.D.Disk.tells p q still) tt tt
