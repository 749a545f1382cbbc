use Rattle.std.proofs.Common.{rules, ◌≡◌, length, ◌++◌}
use Rattle.workers.specs.Pairs.{AllCan, AllGive}
use Rattle.workers.specs.Calls.{TakesPair, LeavesPair}
use Rattle.workers.proofs.Halves.{can_front, can_back, give_append, gives_none}
use Rattle.workers.proofs.pairs.+fn-run_all-join_mut+arg2+fn-run_all-join_mut+arg3+run_all.Goals as goal

pub returns-then-xs-eq0 : goal.returns-then-xs-eq0
returns-then-xs-eq0 g t c = record { gives = gives_none (LeavesPair g.F.Fn c.args.f.now) c.args.xs.now c.args.ys.now (search rules) }

pub join_mut-requires-after_bounds : goal.join_mut-requires-after_bounds
join_mut-requires-after_bounds g t c κs within =
    let C = TakesPair g.F.Fn c.args.f.now in
    let xs = c.split_at_mut-xs_front.result.0.now in
    let ys = c.split_at_mut-xs_front.result.1.now in
    let us = c.split_at_mut-ys_front.result.0.now in
    let vs = c.split_at_mut-ys_front.result.1.now in
    let ls : length xs ≡ length us = search rules in
    let ms : length ys ≡ length vs = search rules in
    let whole : AllCan C (xs ++ ys) (us ++ vs) = rw (← c.split_at_mut-xs_front.ensures.value, ← c.split_at_mut-ys_front.ensures.value) c.requires.can in
    let fs : AllCan C xs us = can_front C xs ys us vs whole ls in
    let bs : AllCan C ys vs = can_back C xs ys us vs whole ls in (
      (search rules, (λ a m. m, (λ a m. m, (λ a m. m, (λ a m. m, ((search rules, search rules, fs, ls), search rules)))))),
      (search rules, (λ a m. m, (λ a m. m, (λ a m. m, (λ a m. m, ((search rules, search rules, bs, ms), search rules)))))),
    )

pub returns : goal.returns
returns g t c =
    let G = LeavesPair g.F.Fn c.args.f.now in
    let xs = c.split_at_mut-xs_front.result.0.now in
    let ys = c.split_at_mut-xs_front.result.1.now in
    let us = c.split_at_mut-ys_front.result.0.now in
    let vs = c.split_at_mut-ys_front.result.1.now in
    let ls : length xs ≡ length us = search rules in
    let a : AllGive G xs us c.xs_front-1.given.0 c.ys_front-1.given.0 = search rules in
    let b : AllGive G ys vs c.xs_back-1.given.0 c.ys_back-1.given.0 = search rules in
    record { gives = rw (c.split_at_mut-xs_front.ensures.value, c.split_at_mut-ys_front.ensures.value) (give_append G xs ys _ _ us vs _ _ a b ls) }
