use Rattle.std.proofs.Common.{◌≡◌, ℕ, ◌-◌, refl, sym, ap, ◌∙◌}
use Rattle.act_model.specs.declared.acts.Act.TheVariants.{DoorDone}
use Rattle.act_model.specs.declared.acts.Answer.TheVariants.{DoorsLeft}
use Rattle.archive_core.specs.Parts.{parts}
use Rattle.archive_core.proofs.Acting.{acted_alone}
use Rattle.archive_core.proofs.Opened.{reads_none}
use Rattle.archive_core.proofs.Standing.{doors_stand}
use Rattle.archive_core.proofs.archive.Archive.door_done.Goals as goal

pub returns-clause-acted : goal.returns-clause-acted
returns-clause-acted g c who =
    let p = parts g.D.Disk c.args.self.now in
    let q = record p { doors = c.saturating_sub-self.result } in
    acted_alone g.D.Disk.tells who DoorDone p (DoorsLeft q.doors) q (λ m f. refl) (λ m f. refl) refl refl
    (λ m s.
    let left : c.saturating_sub-self.result ≡ c.args.self.now.doors - 1 = c.saturating_sub-self.ensures in
    let same : m.doors - 1 ≡ c.saturating_sub-self.result = ap (λ (d : ℕ). d - 1) s.doors ∙ sym left in
    (record m { doors = m.doors - 1 }, ((ap (λ d. DoorsLeft d) (sym same), refl), λ told. tt), doors_stand g.D.Disk.tells p m c.saturating_sub-self.result (m.doors - 1) same s))
    (reads_none g.D.Disk.tells p q refl) tt tt
