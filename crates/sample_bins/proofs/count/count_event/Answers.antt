use Rattle.std.proofs.Common.{◌≡◌, pos, to_z, w32, arith, rules, []}
use Rattle.std.proofs.lemmas.Int.{ints}
use Rattle.sample_bins.proofs.Counting.{count_event_is}
use Rattle.sample_bins.proofs.count.count_event.Goals as goal

pub returns : goal.returns
returns c =
    let number : to_z w32 c.args.count ≡ pos c.args.count = omega (arith, ints, c.requires.small) in
    let none : c.from.result ≡ [] = search rules in
    count_event_is c.args.t c.args.count _ c.in-Some.at.secs c.in-Some.at.nano (to_z w32 c.args.count) c.from.result c.requires.from c.requires.before c.in-Some.ensures.parts.0 c.in-Some.ensures.parts.1 c.in-Some.ensures.value number none
