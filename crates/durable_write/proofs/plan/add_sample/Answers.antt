use Rattle.std.proofs.Common.{ℕ, ◌*◌, ◌<◌, ◌≤◌, sym, subst}
use Rattle.durable_write.proofs.Planning.{adds_late, extended_draft, extended_adds, listed_draft, listed_adds, begun_draft, begun_adds, in_calendar}
use Rattle.durable_write.proofs.plan.add_sample.Goals as goal

pub returns-in-Late-clause-added : goal.returns-in-Late-clause-added
returns-in-Late-clause-added c =
    let late = rw c.deref.ensures.value at c.in-Late.ensures in
    adds_late c.args.target.now c.args.row.now c.args.sample.now c.args.writes.now.items late.0 late.1 late.2

pub returns-in_ok-extend_last-in-Open-clause-draft : goal.returns-in_ok-extend_last-in-Open-clause-draft
returns-in_ok-extend_last-in-Open-clause-draft c =
    extended_draft c.args.target.now c.args.sample.now c.args.writes.now.items c.extend_last.new.writes.items c.requires.draft (rw c.deref.ensures.value at c.in-Open.ensures) c.in_ok-extend_last-in-Open.ensures

pub returns-in_ok-extend_last-in-Open-clause-added : goal.returns-in_ok-extend_last-in-Open-clause-added
returns-in_ok-extend_last-in-Open-clause-added c =
    extended_adds c.args.target.now c.args.row.now c.args.sample.now c.args.writes.now.items c.extend_last.new.writes.items c.requires.sample (rw c.deref.ensures.value at c.in-Open.ensures) c.in_ok-extend_last-in-Open.ensures

pub returns-in_ok-push-in-Listed-clause-draft : goal.returns-in_ok-push-in-Listed-clause-draft
returns-in_ok-push-in-Listed-clause-draft c =
    listed_draft c.args.target.now c.args.sample.now c.in-Listed.entry c.resume.result c.args.writes.now.items c.push.new.writes.items c.requires.draft c.requires.target (rw c.deref.ensures.value at c.in-Listed.ensures) c.resume.ensures.entry c.in_ok-push-in-Listed.ensures

pub returns-in_ok-push-in-Listed-clause-added : goal.returns-in_ok-push-in-Listed-clause-added
returns-in_ok-push-in-Listed-clause-added c =
    listed_adds c.args.target.now c.args.row.now c.args.sample.now c.in-Listed.entry c.resume.result c.args.writes.now.items c.push.new.writes.items c.requires.sample (rw c.deref.ensures.value at c.in-Listed.ensures) c.resume.ensures.entry c.resume.ensures.at c.resume.ensures.bytes c.in_ok-push-in-Listed.ensures

pub begin-requires : goal.begin-requires
begin-requires c = let is = c.requires.sample.1.meant in subst (λ (t : ℕ). (662_688_000 * 1_000_000_000 ≤ t) × (t < 16_725_225_600 * 1_000_000_000)) (sym is.at) (in_calendar c.requires.sample.0 is.secs is.nano is.sample_year is.in_year)

pub returns-in_ok-push-in-New-clause-draft : goal.returns-in_ok-push-in-New-clause-draft
returns-in_ok-push-in-New-clause-draft c =
    begun_draft c.args.target.now c.args.row.now c.args.sample.now c.in_ok-begin-in-New.field-0 c.args.writes.now.items c.push-in-New.new.writes.items c.requires.draft c.in_ok-begin-in-New.ensures c.in_ok-push-in-New.ensures

pub returns-in_ok-push-in-New-clause-added : goal.returns-in_ok-push-in-New-clause-added
returns-in_ok-push-in-New-clause-added c =
    begun_adds c.args.target.now c.args.row.now c.args.sample.now c.in_ok-begin-in-New.field-0 c.args.writes.now.items c.push-in-New.new.writes.items c.requires.sample (rw c.deref.ensures.value at c.in-New.ensures) c.in_ok-begin-in-New.ensures c.in_ok-push-in-New.ensures
