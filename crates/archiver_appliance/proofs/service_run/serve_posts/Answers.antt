use Rattle.std.proofs.Common.{◌≡◌, Bool, refl, sym, ◌∙◌, ap, subst}
use Rattle.std.specs.Prelude.{None, length}
use Rattle.disk_model.specs.Files.{Rose as DiskRose}
use Rattle.service.specs.Doors.{IsServed}
use Rattle.service.specs.declared.service.AllServed.{AllServed}
use Rattle.tier_store.specs.Change.{Has}
use Rattle.tier_store.specs.Seen.{seen}
use Rattle.tier_store.specs.Stores.{Stores}
use Rattle.archiver_appliance.specs.Acting.{IsNotMade}
use Rattle.command_words.specs.declared.status.Status.{Status}
use Rattle.archiver_appliance.specs.Outside.{IsCausedBy}
use Rattle.archiver_appliance.specs.Sessions.{Given}
use Rattle.archiver_appliance.specs.Serving.{IsUnserved, ServesFrom, ServesPosts, status_of}
use Rattle.archiver_appliance.proofs.Acting.{nested_in, unopened_back}
use Rattle.archiver_appliance.proofs.Posts.{serves_nobody, serves_posts}
use Rattle.archiver_appliance.proofs.Services.{gives_nothing, served_caused, served_counts, served_from, served_unopened, stands_with}
use Rattle.archiver_appliance.proofs.service_run.serve_posts.Goals as goal

pub of-requires-clause-nested : goal.of-requires-clause-nested
of-requires-clause-nested g c = nested_in g.D.Disk c.args.store c.requires.fresh

pub returns-in-Err-clause-unopened : goal.returns-in-Err-clause-unopened
returns-in-Err-clause-unopened g c = unopened_back g.D.Disk c.args.store c.in-Err.store _ c.requires.fresh c.in-Err.ensures.back c.out_of_memory.ensures.disk (λ told. (g.met.D.Disk g.world.𝓛 g.world.𝓜 g.world.𝓡 ((λ s x. x), (λ x. x), (λ x. x), λ x. x)).seen c.args.store.disk told)

pub returns-in-Err-clause-serves : goal.returns-in-Err-clause-serves
returns-in-Err-clause-serves g c =
    serves_nobody _ _ _ _ _ _ c.out_of_memory.result.status c.args.posts.now (subst IsUnserved (sym c.out_of_memory.ensures.status) tt)
    (record { status_is = c.out_of_memory.ensures.status; same = c.out_of_memory.ensures.disk ∙ ap (λ s. s.disk) c.in-Err.ensures.back }, refl)

pub returns-in-Err-clause-clock : goal.returns-in-Err-clause-clock
returns-in-Err-clause-clock g c = gives_nothing (g.C.Clock.coming c.args.clock.now)

pub serve_archive-requires-clause-stands : goal.serve_archive-requires-clause-stands
serve_archive-requires-clause-stands g c κs within = stands_with g.D.Disk c.args.store c.requires.fresh _ c.in-Ok.archive c.in-Ok.ensures.opened

pub returns-in-Ok-serve_archive-clause-serves : goal.returns-in-Ok-serve_archive-clause-serves
returns-in-Ok-serve_archive-clause-serves g c =
    let W = g.W.Door in
    let L = g.W.L in
    let disk = g.D.Disk in
    let store = c.args.store in
    let olds = c.args.posts.now in
    let news = c.serve_archive.new.posts in
    let given = c.into_disk.result in
    let leaves = c.in-Ok-serve_archive.ensures.leaves in
    let Made : Bool → AllServed → Type 0 = λ began told. (held : Stores) → Has disk.tells (seen disk store) held → ServesFrom (λ image. ⊥) disk.tells store.config held (length olds)
    (λ start entries. Given start g.D.Reader.ReadAt L.Source L.Sink entries W told olds news) began told (disk.past store.disk) (disk.past given) in
    let Unmade : Status → Type 0 = λ s. IsNotMade store.disk given s × (g.C.Clock.coming c.serve_archive.new.clock ≡ g.C.Clock.coming c.args.clock.now) in
    subst (λ (s : Status). ServesPosts W.is_closed W.door_faults W.ledger (λ kind l. IsServed kind L.Sink.written L.Source.read_faults L.Sink.write_faults l) (Unmade s) Made s olds news) (sym c.served_status.ensures)
    (serves_posts W.is_closed W.door_faults W.ledger (λ kind l. IsServed kind L.Sink.written L.Source.read_faults L.Sink.write_faults l) (Unmade (status_of c.in-Ok-serve_archive.told)) Made c.in-Ok-serve_archive.told olds news leaves.0 leaves.2
    (served_from disk store c.requires.fresh (length olds) c.in-Ok.archive c.in-Ok-serve_archive.archive c.in-Ok.ensures.store c.in-Ok.ensures.opened c.into_store.result given c.into_store.ensures c.into_disk.ensures _ leaves.0 c.in-Ok-serve_archive.told leaves.1))

pub returns-in-Ok-serve_archive-clause-caused : goal.returns-in-Ok-serve_archive-clause-caused
returns-in-Ok-serve_archive-clause-caused g c =
    let disk = g.D.Disk in
    let new = c.in-Ok-serve_archive.archive in
    subst (λ (s : Status). IsCausedBy g.D.Reader.ReadAt.faults ⊥ ⊥ (DiskRose (disk.faults c.args.store.disk) (disk.faults c.into_disk.result)) s None) (sym c.served_status.ensures)
    (served_caused disk c.args.store c.requires.fresh _ c.in-Ok.archive new c.in-Ok.ensures.store c.in-Ok.ensures.opened c.into_store.result c.into_disk.result c.into_store.ensures c.into_disk.ensures _ c.in-Ok-serve_archive.ensures.leaves.0 c.in-Ok-serve_archive.told c.in-Ok-serve_archive.ensures.leaves.1 g.D.Reader.ReadAt.faults c.soundness_stays.ensures.answers)

pub returns-in-Ok-serve_archive-clause-disk_faults : goal.returns-in-Ok-serve_archive-clause-disk_faults
returns-in-Ok-serve_archive-clause-disk_faults g c =
    served_counts g.D.Disk c.args.store c.requires.fresh _ c.in-Ok.archive c.in-Ok-serve_archive.archive c.in-Ok.ensures.store c.in-Ok.ensures.opened c.into_store.result c.into_disk.result c.into_store.ensures c.into_disk.ensures _ c.in-Ok-serve_archive.ensures.leaves.0 c.in-Ok-serve_archive.told c.in-Ok-serve_archive.ensures.leaves.1

pub returns-in-Ok-serve_archive-clause-unopened : goal.returns-in-Ok-serve_archive-clause-unopened
returns-in-Ok-serve_archive-clause-unopened g c =
    let new = c.in-Ok-serve_archive.archive in
    served_unopened g.D.Disk c.args.store c.requires.fresh _ c.in-Ok.archive new c.in-Ok.ensures.store c.in-Ok.ensures.opened c.into_store.result c.into_disk.result c.into_store.ensures c.into_disk.ensures _ c.in-Ok-serve_archive.ensures.leaves.0 c.in-Ok-serve_archive.told c.in-Ok-serve_archive.ensures.leaves.1 (λ told. (g.met.D.Disk g.world.𝓛 g.world.𝓜 g.world.𝓡 ((λ s x. x), (λ x. x), (λ x. x), λ x. x)).seen new.half.store.disk told)

pub returns-clause-serves : goal.returns-clause-serves
returns-clause-serves g c =
    let back = c.in-Err-serve_archive.ensures.back in
    let given = c.into_store-in-Err-serve_archive.ensures ∙ (ap (λ a. a.half.store) back.0 ∙ c.in-Ok.ensures.store) in
    let came = c.out_of_memory-in-Err-serve_archive in
    rw back.1
    (serves_nobody _ _ _ _ _ _ came.result.status c.args.posts.now (subst IsUnserved (sym came.ensures.status) tt)
    (record { status_is = came.ensures.status; same = came.ensures.disk ∙ ap (λ s. s.disk) given }, ap g.C.Clock.coming back.2))

pub returns-clause-unopened : goal.returns-clause-unopened
returns-clause-unopened g c =
    unopened_back g.D.Disk c.args.store c.into_store-in-Err-serve_archive.result _ c.requires.fresh (c.into_store-in-Err-serve_archive.ensures ∙ (ap (λ a. a.half.store) c.in-Err-serve_archive.ensures.back.0 ∙ c.in-Ok.ensures.store)) c.out_of_memory-in-Err-serve_archive.ensures.disk (λ told. (g.met.D.Disk g.world.𝓛 g.world.𝓜 g.world.𝓡 ((λ s x. x), (λ x. x), (λ x. x), λ x. x)).seen c.args.store.disk told)
