use Rattle.std.proofs.Common.{sym, subst, ap, ◌∙◌}
use Rattle.std.specs.Prelude.{length}
use Rattle.turn_rooms.specs.Passes.{opened}
use Rattle.act_model.specs.Reply.{reply_of}
use Rattle.archive_core.specs.Parts.{parts}
use Rattle.archive_core.specs.Stands.{Stands}
use Rattle.archiver_appliance.specs.Serving.{ArchiveStep}
use Rattle.archiver_appliance.proofs.Services.{gives_nothing, leaves_archive, turns_run_on}
use Rattle.archiver_appliance.proofs.service_run.serve_archive.Goals as goal

pub serve_in_rooms-requires-clause-stands : goal.serve_in_rooms-requires-clause-stands
serve_in_rooms-requires-clause-stands g c κs within =
    let same = ap (λ o. o.archive.value) (ap (λ room. room.archive) c.in-Ok.ensures.ok.opens ∙ c.new-2.ensures) ∙ c.in_ok-observed.ensures.made in
    let s = c.requires.stands in
    (s.0, subst (λ a. Stands g.D.Disk.tells (parts g.D.Disk a) s.0) (sym same) s.1)

pub returns-in-Ok-clause-leaves : goal.returns-in-Ok-clause-leaves
returns-in-Ok-clause-leaves g c =
    let R = g.D.Reader.ReadAt in
    let same = ap (λ o. o.archive.value) (ap (λ room. room.archive) c.in-Ok.ensures.ok.opens ∙ c.new-2.ensures) ∙ c.in_ok-observed.ensures.made in
    let left = c.serve_in_rooms.ensures.leaves in (
      left.0,
      leaves_archive g.D.Disk (ArchiveStep g.D.Disk R.tells R.bytes R.faults) (reply_of R.tells R.bytes R.faults) (opened c.in-Ok.rooms) c.args.archive (length c.args.posts.now) _ left.0 c.serve_in_rooms.result.0 c.serve_in_rooms.result.1 same
          (λ acts m stands legal. turns_run_on g.D.Disk R.tells R.bytes R.faults acts (opened c.in-Ok.rooms) m stands legal) left.1,
      left.2,
    )

pub returns-in-Err-clause-clock : goal.returns-in-Err-clause-clock
returns-in-Err-clause-clock g c = gives_nothing (g.C.Clock.coming c.args.clock.now)
