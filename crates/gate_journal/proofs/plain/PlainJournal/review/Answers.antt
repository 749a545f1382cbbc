use Rattle.std.proofs.Common.{refl, ◌∙◌, ap}
use Rattle.disk_model.specs.Files.{Files}
use Rattle.gate_journal.specs.DiskShown.{shown_by}
use Rattle.gate_journal.proofs.Reviewing.{in_file, doubt_file, made_settled, unmade_settled}
use Rattle.gate_journal.proofs.plain.PlainJournal.review.Goals as goal

pub is_open-requires : goal.is_open-requires
is_open-requires g c tells =
    let d = c.requires.in_doubt tells in
    let has = in_file c.args.self.now (shown_by g.D.Disk c.args.disk.now) d.0 d.1 d.2 in
    rw (c.sync.ensures.same tells) (rw (← c.self.view_is) at has)

pub returns-then-not-branch-clause-unmade : goal.returns-then-not-branch-clause-unmade
returns-then-not-branch-clause-unmade g c = rw (← c.self.view_is) (λ tells bs batch doubt no.
    let f = doubt_file bs batch (g.D.Disk.files c.args.disk.now c.self.inside.name) doubt.seen in
    let there = ap (λ (h : Files). h c.self.inside.name) (c.sync.ensures.same tells) ∙ f.1 in
    let a = c.in_ok-is_open.ensures.answer tells f.0 there in
    let looks = c.is_open.ensures.reads tells in
    unmade_settled _ _ (shown_by g.D.Disk c.args.disk.now)
    (g.D.Disk.past c.sync.new.self) (shown_by g.D.Disk c.is_open.new.disk) bs batch doubt refl (looks.same ∙ c.sync.ensures.same tells) (looks.same_opened ∙ c.sync.ensures.opened tells)
    (c.in_ok-sync.ensures.durable tells) looks.any_moment (λ w. let yes = a.1 w in let not_so = c.if-not-branch.true in cc (yes, not_so)) refl)

pub returns-clause-made : goal.returns-clause-made
returns-clause-made g c = rw (← c.self.view_is) (λ tells bs batch doubt yes.
    let f = doubt_file bs batch (g.D.Disk.files c.args.disk.now c.self.inside.name) doubt.seen in
    let there = ap (λ (h : Files). h c.self.inside.name) (c.sync.ensures.same tells) ∙ f.1 in
    let a = c.in_ok-is_open.ensures.answer tells f.0 there in
    let looks = c.is_open.ensures.reads tells in
    made_settled _ _ (shown_by g.D.Disk c.args.disk.now)
    (g.D.Disk.past c.sync.new.self) (shown_by g.D.Disk c.is_open.new.disk) bs batch doubt refl (looks.same ∙ c.sync.ensures.same tells) (looks.same_opened ∙ c.sync.ensures.opened tells)
    (c.in_ok-sync.ensures.durable tells) looks.any_moment (a.0 c.if-not-branch.false).0 refl)
