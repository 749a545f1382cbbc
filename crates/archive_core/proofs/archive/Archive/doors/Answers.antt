use Rattle.std.proofs.Common.{refl, sym, ap}
use Rattle.act_model.specs.declared.acts.Act.TheVariants.{Doors}
use Rattle.act_model.specs.declared.acts.Answer.TheVariants.{DoorsLeft}
use Rattle.archive_core.specs.Parts.{parts}
use Rattle.archive_core.proofs.Acting.{acted_alone}
use Rattle.archive_core.proofs.Opened.{reads_none}
use Rattle.archive_core.proofs.archive.Archive.doors.Goals as goal

pub returns : goal.returns
returns g c who =
    let p = parts g.D.Disk c.args.self.now in
    acted_alone g.D.Disk.tells who Doors p (DoorsLeft p.doors) p (λ m f. refl) (λ m f. refl) refl refl (λ m s. (m, ((ap (λ d. DoorsLeft d) (sym s.doors), refl), λ told. tt), s)) (reads_none g.D.Disk.tells p p refl) tt tt
