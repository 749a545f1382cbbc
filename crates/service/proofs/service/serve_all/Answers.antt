use Rattle.std.proofs.Common.{rules, ◌≡◌, ◌∙◌, ◌+◌, ◌<◌, inl, inr, length, ap, refl}
use Rattle.turn_rooms.specs.Histories.{most_numbers}
use Rattle.turn_rooms.specs.Passes.{drained, known, stands}
use Rattle.archive_actors.specs.Steps.{SharedStands}
use Rattle.service.proofs.Servicing.{all_end, all_fault, all_full, all_worked, done_length, drawn_can, left_all, met_all, told_as}
use Rattle.service.proofs.Tending.{placed, written_back}
use Rattle.serving.specs.Acting.{room_steps}
use Rattle.service.proofs.service.serve_all.Goals as goal

pub work_all-requires-clause-stand : goal.work_all-requires-clause-stand
work_all-requires-clause-stand g c κs within =
    let R = g.X.Reader.ReadAt in
    rw c.as_mut_slice.ensures.value
    (drawn_can _ (room_steps g.X.Applies R) c.args.rooms.now (SharedStands g.X.Applies.stands) c.args.pass.now c.draw_workers.new.pass c.in-Ok.workers.items c.in-Ok.ensures.drawn c.requires.stands)

pub work_all-requires-clause-as_many : goal.work_all-requires-clause-as_many
work_all-requires-clause-as_many g c κs within = ap length c.as_mut_slice.ensures.value ∙ placed (λ w. w.place) c.in-Ok.workers.items (length c.args.posts.now + 2) c.in-Ok.ensures.places

pub meet_workers-requires : goal.meet_workers-requires
meet_workers-requires g c =
    let done = rw c.as_mut_slice.ensures.value at c.work_all.ensures in
    let count : c.in-Ok.workers.len ≡ length c.in-Ok.workers.items = search rules in
    let back = written_back c.in-Ok.workers.len c.in-Ok.workers.items c.work_all.new.workers count (done_length _ _ _ _ _ _ _ _ _ _ _ _ _ _ _ _ done) in
    left_all _ _ _ _ _ _ _ _ _ _ _ _ _ _ _ _ done _ back c.draw_workers.new.pass c.in-Ok.ensures.drawn.left

pub returns-in-Ok-clause-served : goal.returns-in-Ok-clause-served
returns-in-Ok-clause-served g c =
    let done = rw c.as_mut_slice.ensures.value at c.work_all.ensures in
    let count : c.in-Ok.workers.len ≡ length c.in-Ok.workers.items = search rules in
    let back = written_back c.in-Ok.workers.len c.in-Ok.workers.items c.work_all.new.workers count (done_length _ _ _ _ _ _ _ _ _ _ _ _ _ _ _ _ done) in
    let told = told_as _ _ _ _ _ _ _ _ _ _ _ _ _ _ _ _ done _ (c.as_slice.ensures.value ∙ back) c.tell-told.result c.tell-told.ensures in
    let met = met_all _ _ _ _ _ _ _ _ _ _ _ _ _ _ _ _ done _ back c.draw_workers.new.pass c.meet_workers.new.pass c.meet_workers.ensures in
    let many = placed (λ w. w.place) c.in-Ok.workers.items (length c.args.posts.now + 2) c.in-Ok.ensures.places in
    inl (rw told (all_worked _ _ _ _ _ _ _ _ _ _ _ _ _ _ _ _ done c.args.pass.now c.draw_workers.new.pass c.meet_workers.new.pass c.in-Ok.ensures.drawn met (length c.args.posts.now + 2) c.in-Ok.ensures.places many))

pub returns-in-Ok-clause-spent : goal.returns-in-Ok-clause-spent
returns-in-Ok-clause-spent g c = λ spent.
    let done = rw c.as_mut_slice.ensures.value at c.work_all.ensures in
    let count : c.in-Ok.workers.len ≡ length c.in-Ok.workers.items = search rules in
    let back = written_back c.in-Ok.workers.len c.in-Ok.workers.items c.work_all.new.workers count (done_length _ _ _ _ _ _ _ _ _ _ _ _ _ _ _ _ done) in
    let told = told_as _ _ _ _ _ _ _ _ _ _ _ _ _ _ _ _ done _ (c.as_slice.ensures.value ∙ back) c.tell-told.result c.tell-told.ensures in
    let met = met_all _ _ _ _ _ _ _ _ _ _ _ _ _ _ _ _ done _ back c.draw_workers.new.pass c.meet_workers.new.pass c.meet_workers.ensures in
    inl (all_full _ _ _ _ _ _ _ _ _ _ _ _ _ _ _ _ done c.args.pass.now c.draw_workers.new.pass c.meet_workers.new.pass c.in-Ok.ensures.drawn met (rw told at spent))

pub returns-in-Ok-clause-disk_fault : goal.returns-in-Ok-clause-disk_fault
returns-in-Ok-clause-disk_fault g c = λ fault.
    let done = rw c.as_mut_slice.ensures.value at c.work_all.ensures in
    let count : c.in-Ok.workers.len ≡ length c.in-Ok.workers.items = search rules in
    let back = written_back c.in-Ok.workers.len c.in-Ok.workers.items c.work_all.new.workers count (done_length _ _ _ _ _ _ _ _ _ _ _ _ _ _ _ _ done) in
    let told = told_as _ _ _ _ _ _ _ _ _ _ _ _ _ _ _ _ done _ (c.as_slice.ensures.value ∙ back) c.tell-told.result c.tell-told.ensures in
    let met = met_all _ _ _ _ _ _ _ _ _ _ _ _ _ _ _ _ done _ back c.draw_workers.new.pass c.meet_workers.new.pass c.meet_workers.ensures in
    all_fault _ _ _ _ _ _ _ _ _ _ _ _ _ _ _ _ done c.args.pass.now c.draw_workers.new.pass c.meet_workers.new.pass c.in-Ok.ensures.drawn met (rw told at fault)

pub returns-in-Ok-clause-ends : goal.returns-in-Ok-clause-ends
returns-in-Ok-clause-ends g c = λ m here doors spent memory fault.
    let done = rw c.as_mut_slice.ensures.value at c.work_all.ensures in
    let count : c.in-Ok.workers.len ≡ length c.in-Ok.workers.items = search rules in
    let back = written_back c.in-Ok.workers.len c.in-Ok.workers.items c.work_all.new.workers count (done_length _ _ _ _ _ _ _ _ _ _ _ _ _ _ _ _ done) in
    let told = told_as _ _ _ _ _ _ _ _ _ _ _ _ _ _ _ _ done _ (c.as_slice.ensures.value ∙ back) c.tell-told.result c.tell-told.ensures in
    let met = met_all _ _ _ _ _ _ _ _ _ _ _ _ _ _ _ _ done _ back c.draw_workers.new.pass c.meet_workers.new.pass c.meet_workers.ensures in
    let many = placed (λ w. w.place) c.in-Ok.workers.items (length c.args.posts.now + 2) c.in-Ok.ensures.places in
    all_end _ _ _ _ _ _ _ _ _ _ _ _ _ _ _ _ done c.args.pass.now c.draw_workers.new.pass c.meet_workers.new.pass c.in-Ok.ensures.drawn met (SharedStands g.X.Applies.stands)
    (λ before after who n act answer step. step.0) (λ s m stood. g.X.Applies.sound s.archive m stood) many m here doors (rw told at spent) (rw told at memory) (rw told at fault)

pub returns-in-Err-Spent-clause-served : goal.returns-in-Err-Spent-clause-served
returns-in-Err-Spent-clause-served g c =
    let more : drained c.args.pass.now < drained c.draw_workers.new.pass = search rules in
    let same : known c.draw_workers.new.pass ≡ known c.args.pass.now = search rules in
    let many : most_numbers < length (stands c.args.pass.now) + (length c.args.posts.now + 2) = search rules in
    inr (refl, inl (refl, (more, same, many)))

pub returns-in-Err-Memory-clause-served : goal.returns-in-Err-Memory-clause-served
returns-in-Err-Memory-clause-served g c =
    let same : c.draw_workers.new.pass ≡ c.args.pass.now = search rules in
    inr (refl, inr (refl, same))

pub returns-in-Err-Spent-clause-spent : goal.returns-in-Err-Spent-clause-spent
returns-in-Err-Spent-clause-spent g c = λ spent.
    let more : drained c.args.pass.now < drained c.draw_workers.new.pass = search rules in
    let same : known c.draw_workers.new.pass ≡ known c.args.pass.now = search rules in
    let many : most_numbers < length (stands c.args.pass.now) + (length c.args.posts.now + 2) = search rules in
    inr (more, same, many)
