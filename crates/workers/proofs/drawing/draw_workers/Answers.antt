use Rattle.std.proofs.Common.{rules, ◌≡◌, ◌<◌, ◌∷◌, [], ◌++◌, refl, sym, ◌∙◌, subst, arith, length, map}
use Rattle.std.specs.List.{range_with_len}
use Rattle.std.proofs.lemmas.List.{length-map}
use Rattle.workers.proofs.Leaving.{drawn_none, drawn_more, drawn_stays, drawn_back, nothing_told, numbers_drawn}
use Rattle.edge_io.proofs.Clocks.{gives_on}
use Rattle.workers.proofs.Pushing.{gives_none, passes_pushed, places_pushed}
use Rattle.workers.proofs.drawing.draw_workers.Goals as goal

pub loop-place-init : goal.loop-place-init
loop-place-init g c =
    let none : c.in-Ok.workers.items ≡ [] = search rules in
    record {
      drawn = rw none (drawn_none g.R.Room.steps c.args.rooms.now c.args.pass.now c.requires.rooms c.requires.last);
      places = rw none refl;
      count = search rules;
      room = search rules;
      clock = gives_none (g.C.Clock.coming c.args.clock.now);
    }

pub meet_workers-requires : goal.meet_workers-requires
meet_workers-requires g c = (drawn_stays g.R.Room.steps c.args.rooms.now c.args.pass.now c.loop-place.pass c.draw_one.new.pass _ c.loop-place.invariant.drawn c.in-Err.ensures.spent.0 c.in-Err.ensures.spent.1).left

pub returns-in-Err-clause-back : goal.returns-in-Err-clause-back
returns-in-Err-clause-back g c = λ err.
    let drawn = drawn_stays g.R.Room.steps c.args.rooms.now c.args.pass.now c.loop-place.pass c.draw_one.new.pass _ c.loop-place.invariant.drawn c.in-Err.ensures.spent.0 c.in-Err.ensures.spent.1 in (
      c.meet_workers.ensures.rooms,
      drawn_back g.R.Room.steps c.args.rooms.now c.args.pass.now c.draw_one.new.pass c.meet_workers.new.pass _ drawn c.meet_workers.ensures,
      nothing_told g.R.Room.steps c.args.rooms.now c.args.pass.now c.draw_one.new.pass c.meet_workers.new.pass _ drawn c.meet_workers.ensures,
    )

pub returns-in-Err-clause-numbers : goal.returns-in-Err-clause-numbers
returns-in-Err-clause-numbers g c = λ spent.
    let all = numbers_drawn g.R.Room.steps c.args.rooms.now c.args.pass.now c.loop-place.pass c.draw_one.new.pass c.meet_workers.new.pass _ c.loop-place.invariant.drawn c.in-Err.ensures.spent.0 c.in-Err.ensures.spent.1 c.in-Err.ensures.numbers c.meet_workers.ensures in
    let long : length (map (λ w. w.pass) c.loop-place.workers.items) ≡ length c.loop-place.workers.items = length-map c.loop-place.workers.items (λ w. w.pass) in
    let has : c.loop-place.workers.len ≡ length c.loop-place.workers.items = search rules in
    let drawn : length c.loop-place.workers.items ≡ c.loop-place.place = sym has ∙ c.loop-place.invariant.count in
    let low : c.loop-place.place < c.args.count = c.loop-place-test.true in
    omega arith

pub returns-in-Err-clause-clock : goal.returns-in-Err-clause-clock
returns-in-Err-clause-clock g c = gives_on _ _ _ [] [] c.loop-place.invariant.clock c.draw_one.ensures.clock

pub loop-place-preserved : goal.loop-place-preserved
loop-place-preserved g c =
    let w = c.in-Ok-draw_one.worker in
    let pushed : c.push_reserved.new.self.items ≡ c.loop-place.workers.items ++ w ∷ [] = c.push_reserved.ensures.items in
    record {
      drawn = rw (passes_pushed c.push_reserved.new.self.items c.loop-place.workers.items w pushed)
          (drawn_more g.R.Room.steps c.args.rooms.now c.args.pass.now c.loop-place.pass c.draw_one.new.pass _ w.pass c.loop-place.invariant.drawn c.in-Ok-draw_one.ensures.parts);
      places = places_pushed c.push_reserved.new.self.items c.loop-place.workers.items w c.loop-place.place pushed c.in-Ok-draw_one.ensures.worker.0 c.loop-place.invariant.places;
      count = search rules;
      room = search rules;
      clock = gives_on _ _ _ [] [] c.loop-place.invariant.clock c.draw_one.ensures.clock;
    }

pub returns-clause-places : goal.returns-clause-places
returns-clause-places g c =
    let all : c.loop-place.place ≡ c.args.count = omega (arith, c.loop-place-test.false, c.loop-place.auto.place-end) in
    subst (λ k. map (λ w. w.place) c.loop-place.workers.items ≡ range_with_len 0 k) all c.loop-place.invariant.places
