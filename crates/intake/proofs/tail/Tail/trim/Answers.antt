use Rattle.std.proofs.Common.{◌≡◌, ◌≤◌, rules, arith, ap}
use Rattle.std.specs.Prelude.{filter, nat_lt}
use Rattle.std.proofs.lemmas.Fn.{filter_same}
use Rattle.intake.specs.Tails.{TailState, size_of}
use Rattle.intake.proofs.TailLemmas.{later_kept, later_fewer}
use Rattle.intake.proofs.tail.Tail.trim.Goals as goal

pub all_bytes-left-requires : goal.all_bytes-left-requires
all_bytes-left-requires c =
    let kept : c.retain.new.self.items ≡ filter (λ s. nat_lt c.args.t s.t) c.self.inside.samples.items = filter_same _ _ _ (λ x b f' k. search rules) _ _ c.retain.ensures.filtered in
    let fewer = later_fewer c.args.t c.self.inside.samples.items c.retain.new.self.items kept in
    let all = ap size_of c.deref.ensures.value in
    omega (arith, c.self.invariant)

pub overflow_sub-result : goal.overflow_sub-result
overflow_sub-result c =
    let kept : c.retain.new.self.items ≡ filter (λ s. nat_lt c.args.t s.t) c.self.inside.samples.items = filter_same _ _ _ (λ x b f' k. search rules) _ _ c.retain.ensures.filtered in
    let fewer = later_fewer c.args.t c.self.inside.samples.items c.retain.new.self.items kept in
    let all = ap size_of c.deref.ensures.value in
    omega (arith, c.self.invariant, c.all_bytes-left.ensures)

pub returns-clause-samples : goal.returns-clause-samples
returns-clause-samples c =
    let kept : c.retain.new.self.items ≡ filter (λ s. nat_lt c.args.t s.t) c.self.inside.samples.items = filter_same _ _ _ (λ x b f' k. search rules) _ _ c.retain.ensures.filtered in
    rw (← c.self.view_is) (later_kept c.args.t c.self.inside.samples.items c.retain.new.self.items kept)

pub returns-clause-bytes : goal.returns-clause-bytes
returns-clause-bytes c =
    let kept : c.retain.new.self.items ≡ filter (λ s. nat_lt c.args.t s.t) c.self.inside.samples.items = filter_same _ _ _ (λ x b f' k. search rules) _ _ c.retain.ensures.filtered in
    let fewer = later_fewer c.args.t c.self.inside.samples.items c.retain.new.self.items kept in
    let same = ap (λ (t : TailState). size_of t.samples) c.self.view_is in
    let all = ap size_of c.deref.ensures.value in
    omega (arith, c.self.invariant, c.all_bytes-left.ensures)
