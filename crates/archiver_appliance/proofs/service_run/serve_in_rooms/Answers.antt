use Rattle.std.proofs.Common.{ap, length, List, ◌∙◌}
use Rattle.turn_rooms.specs.Passes.{known, opened}
use Rattle.act_model.specs.History.{Entry}
use Rattle.act_model.specs.Machine.{Machine}
use Rattle.act_model.specs.Reply.{reply_of}
use Rattle.archive_actors.specs.Steps.{all_kept}
use Rattle.archive_core.specs.Parts.{parts}
use Rattle.archive_core.specs.Stands.{Stands}
use Rattle.archiver_appliance.specs.Serving.{ArchiveStep}
use Rattle.archiver_appliance.specs.Sessions.{Given}
use Rattle.archiver_appliance.proofs.Posts.{door_left, posts_left}
use Rattle.archiver_appliance.proofs.Sessions.{all_given}
use Rattle.archiver_appliance.proofs.Services.{first_is_last, leaves_room, numbers_left, stands_first}
use Rattle.archiver_appliance.proofs.Spending.{door_full}
use Rattle.archiver_appliance.proofs.service_run.serve_in_rooms.Goals as goal

pub serve_all-told-requires-clause-stands : goal.serve_all-told-requires-clause-stands
serve_all-told-requires-clause-stands g c κs within =
    let R = g.D.Reader.ReadAt in
    let steps = ArchiveStep g.D.Disk R.tells R.bytes R.faults in
    let s = c.requires.stands in
    (s.0, stands_first g.D.Disk steps (reply_of R.tells R.bytes R.faults) c.args.rooms c.args.pass c.requires.opens s.0 s.1)

pub serve_all-told-requires-clause-last : goal.serve_all-told-requires-clause-last
serve_all-told-requires-clause-last g c κs within =
    let R = g.D.Reader.ReadAt in
    first_is_last (ArchiveStep g.D.Disk R.tells R.bytes R.faults) c.args.rooms c.args.pass c.requires.opens

pub returns-clause-leaves : goal.returns-clause-leaves
returns-clause-leaves g c =
    let R = g.D.Reader.ReadAt in
    let disk = g.D.Disk in
    let W = g.W.Door in
    let L = g.W.L in
    let steps = ArchiveStep disk R.tells R.bytes R.faults in
    let reply = reply_of R.tells R.bytes R.faults in
    let rooms = c.args.rooms in
    let new = c.serve_all-told.new.pass in
    let told = c.serve_all-told.result in
    let olds = c.args.posts.now in
    let news = c.serve_all-told.new.posts in
    let is = c.into_archive.ensures ∙ ap (λ o. o.archive.value) (c.into_inner.ensures ∙ ap (λ room. room.archive) c.close.ensures) in
    let few = numbers_left steps rooms c.args.pass c.requires.opens (length olds) c.requires.few in
    let Sessions : Machine → List Entry → Type 0 = λ start entries. Given start R L.Source L.Sink entries W told olds news in
    let left =
    posts_left _ _ _ _ _ _ _ _ (door_left _ _ L.Source L.Sink _ _) (door_full _ _ _ _ L.Source L.Sink _ _) rooms _ _ told c.args.pass new olds news ((m : Machine) → Stands disk.tells (parts disk (opened rooms).archive.archive.value) m → Sessions m (all_kept reply (known new)))
    (λ all m s. all_given _ steps _ reply (λ before after who n act answer step. step.0) R L.Source L.Sink W _ g.C.Clock.coming rooms c.args.pass new c.requires.opens m s.sound s told olds news all)
    few c.serve_all-told.ensures.served in (
      left.began,
      leaves_room disk steps reply rooms c.args.pass c.requires.opens new _ Sessions left.began told c.into_archive.result c.serve_all-told.ensures.rooms is left.none left.worked left.spent c.serve_all-told.ensures.disk_fault c.serve_all-told.ensures.ends,
      left.posts,
    )
