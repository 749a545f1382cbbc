use Rattle.std.proofs.Common.{ℕ, map, sym, ◌∙◌, subst}
use Rattle.archiver_appliance.specs.Outside.{outside}
use Rattle.archiver_appliance.specs.Run.{EndsWellBy}
use Rattle.archiver_appliance.specs.World.{TouchesOnly, world}
use Rattle.archiver_appliance.proofs.Completeness.{ends_well, faulty_is, two_is}
use Rattle.archiver_appliance.proofs.Obeying.{caused, none_fell, obeys, serves, touches, unopened_still, usage_faulty}
use Rattle.archiver_appliance.proofs.Posts.{doors_hold}
use Rattle.archiver_appliance.proofs.run.run.Goals as goal

pub returns-clause-ran : goal.returns-clause-ran
returns-clause-ran g c =
    let o = c.obey-came.ensures in
    record { status = c.obey-came.result.status; is = c.number.ensures; obeys = obeys _ _ _ _ _ _ _ _ _ _ _ _ _ _ o; caused = caused _ _ _ _ _ _ _ _ _ _ _ _ _ _ o; complaint = c.complain.ensures.told }

pub returns-clause-faults : goal.returns-clause-faults
returns-clause-faults g c = (none_fell _ _ _ _ _ _ _ _ _ _ _ _ _ _ c.obey-came.ensures, c.complain.ensures.faults)

pub returns-clause-usage : goal.returns-clause-usage
returns-clause-usage g c =
    let came = c.obey-came.result in
    let old = outside g.S.Source g.K.Sink g.C.Clock g.D.Disk c.args.source.now c.args.sink.now c.args.clock.now c.args.disk in
    let new = outside g.S.Source g.K.Sink g.C.Clock g.D.Disk c.obey-came.new.source c.obey-came.new.sink c.obey-came.new.clock came.disk in (
      λ two. (usage_faulty _ _ _ _ _ _ _ _ _ _ _ _ _ _ c.obey-came.ensures (two_is came.status (sym c.number.ensures ∙ two))).0,
      λ faulty. c.number.ensures ∙ faulty_is (map (λ w. w.now) c.args.words.now) c.args.config.now g.D.Disk.tells old new came.status (obeys _ _ _ _ _ _ _ _ _ _ _ _ _ _ c.obey-came.ensures) faulty,
    )

pub returns-clause-touches : goal.returns-clause-touches
returns-clause-touches g c =
    let came = c.obey-came in
    subst (λ (n : ℕ). TouchesOnly g.C.Clock.coming (world c.args.source.now c.args.sink.now c.args.disk c.args.clock.now c.args.posts.now) (world came.new.source came.new.sink came.result.disk came.new.clock came.new.posts) (map (λ w. w.now) c.args.words.now) c.args.config.now g.D.Disk.tells
    (g.D.Disk.files c.args.disk) n) (sym c.number.ensures) (touches _ _ _ _ _ _ _ _ _ _ _ _ _ _ came.ensures)

pub returns-clause-serves : goal.returns-clause-serves
returns-clause-serves g c numbers asks = (c.obey-came.result.status, c.number.ensures, serves _ _ _ _ _ _ _ _ _ _ _ _ _ _ c.obey-came.ensures numbers asks)

pub returns-clause-complete : goal.returns-clause-complete
returns-clause-complete g c command asks can quiet doors =
    let came = c.obey-came.result in
    let o = c.obey-came.ensures in
    let words = map (λ w. w.now) c.args.words.now in
    let old = outside g.S.Source g.K.Sink g.C.Clock g.D.Disk c.args.source.now c.args.sink.now c.args.clock.now c.args.disk in
    let new = outside g.S.Source g.K.Sink g.C.Clock g.D.Disk c.obey-came.new.source c.obey-came.new.sink c.obey-came.new.clock came.disk in
    subst (λ (n : ℕ). EndsWellBy command n) (sym c.number.ensures)
    (ends_well g.D.Reader.ReadAt.faults words c.args.config.now g.D.Disk.tells old new came.status came.failed (caused _ _ _ _ _ _ _ _ _ _ _ _ _ _ o) command asks can quiet
    (doors_hold g.W.Door.is_closed g.W.Door.door_faults g.W.Door.ledger _ _ _ words came.status c.args.posts.now c.obey-came.new.posts (serves _ _ _ _ _ _ _ _ _ _ _ _ _ _ o) command asks doors)
    (obeys _ _ _ _ _ _ _ _ _ _ _ _ _ _ o))

pub returns-clause-unopened : goal.returns-clause-unopened
returns-clause-unopened g c = unopened_still _ _ _ _ _ _ _ _ _ _ _ _ _ _ c.requires.unopened c.obey-came.ensures
