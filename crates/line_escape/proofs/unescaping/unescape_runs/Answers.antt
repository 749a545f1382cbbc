use Rattle.std.proofs.Common.{◌∷◌, []}
use Rattle.std.proofs.lemmas.List.{take_rest}
use Rattle.line_escape.proofs.EscapingLemmas.{front_stays, meant_run, meant_pair, bad_place}
use Rattle.line_escape.proofs.unescaping.unescape_runs.Goals as goal

pub loop-rest-preserved : goal.loop-rest-preserved
loop-rest-preserved c =
    let init = c.args.out.now.items in
    let run = meant_run c.args.line.now c.loop-rest.rest.now init c.loop-rest.out.items c.plain_len.result c.loop-rest.invariant.meant c.requires c.plain_len.ensures.plain in
    let more = front_stays init c.loop-rest.out.items c.split_at.result.0.now c.loop-rest.invariant.grows in
    record { meant = rw (c.split_at.ensures.back, c.in_ok-extend_from_slice.ensures.items, c.split_at.ensures.front) run; grows = rw c.in_ok-extend_from_slice.ensures.items more }

pub loop-rest-preserved-then-not-is_empty : goal.loop-rest-preserved-then-not-is_empty
loop-rest-preserved-then-not-is_empty c =
    let init = c.args.out.now.items in
    let run = meant_run c.args.line.now c.loop-rest.rest.now init c.loop-rest.out.items c.plain_len.result c.loop-rest.invariant.meant c.requires c.plain_len.ensures.plain in
    let more = front_stays init c.loop-rest.out.items c.split_at.result.0.now c.loop-rest.invariant.grows in
    let pair = meant_pair c.args.line.now c.split_at.result.1.now init c.extend_from_slice.new.self.items c.in-Some.byte (rw (c.split_at.ensures.back, c.in_ok-extend_from_slice.ensures.items, c.split_at.ensures.front) run) c.in-Some.ensures.pair in
    let longer = front_stays init c.extend_from_slice.new.self.items (c.in-Some.byte ∷ []) (rw c.in_ok-extend_from_slice.ensures.items more) in
    record { meant = rw (take_rest, c.in_ok-push.ensures.items) pair; grows = rw c.in_ok-push.ensures.items longer }

pub returns-in_default-clause-refused : goal.returns-in_default-clause-refused
returns-in_default-clause-refused c =
    let init = c.args.out.now.items in
    let run = meant_run c.args.line.now c.loop-rest.rest.now init c.loop-rest.out.items c.plain_len.result c.loop-rest.invariant.meant c.requires c.plain_len.ensures.plain in
    bad_place c.args.line.now c.split_at.result.1.now init c.extend_from_slice.new.self.items (rw (c.split_at.ensures.back, c.in_ok-extend_from_slice.ensures.items, c.split_at.ensures.front) run) c.in_default.ensures.none
