use Rattle.std.proofs.Common.{◌∙◌}
use Rattle.tier_store.proofs.CopyParts.{at_left, at_none}
use Rattle.archive_core.specs.Parts.{parts_beside}
use Rattle.archive_core.proofs.CopyTaken.{copying_there}
use Rattle.archive_core.proofs.Publishing.{copied_there}
use Rattle.archive_core.proofs.archive.StoreHalf.go_on.Goals as goal

pub publish_taken-requires : goal.publish_taken-requires
publish_taken-requires g c =
    let taken = c.requires.taken.1 in
    record {
      taken = c.requires.taken;
      copied = copied_there g.D.Disk.tells (parts_beside g.D.Disk c.args.self.now c.requires.taken.0) c.args.number c.args.running taken.0 taken.1 taken.2 taken.3 (λ listed. c.in_default.not-Published (c.stage.ensures ∙ listed))
          (λ low. at_none c.at.result c.args.running.moving.parts c.args.running.moving.at c.if-is_none.ensures c.at.ensures low);
      room = c.requires.room;
    }

pub copy_taken-requires : goal.copy_taken-requires
copy_taken-requires g c =
    let taken = c.requires.taken.1 in
    let copies = copying_there g.D.Disk.tells (parts_beside g.D.Disk c.args.self.now c.requires.taken.0) c.args.number c.args.running taken.0 taken.1 taken.2 taken.3 (λ listed. c.in_default-2.not-Published (c.stage.ensures ∙ listed))
    (at_left c.at.result c.args.running.moving.parts c.args.running.moving.at c.if-is_none.ensures c.at.ensures) in
    record { taken = c.requires.taken; copies = copies.0; left = copies.1; room = c.requires.room }
