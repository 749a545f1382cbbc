use Rattle.std.proofs.Common.{◌≡◌, inl, refl, None, sym, ◌∙◌, ap, subst, arith}
use Rattle.std.proofs.lemmas.Result.{on_ok_weaker}
use Rattle.disk_model.specs.Files.{Name}
use Rattle.disk_model.specs.Past.{Only}
use Rattle.gate_journal.specs.Generations.{IsBefore}
use Rattle.gate_journal.proofs.LoadingBoth.{no_before, before_is, is_before}
use Rattle.gate_journal.proofs.LoadingEach.{clears_none, clears_at, clears_passes}
use Rattle.gate_journal.proofs.load.clear_before.Goals as goal

pub returns-then-generation-eq0-clause-gone : goal.returns-then-generation-eq0-clause-gone
returns-then-generation-eq0-clause-gone g c tells n before = absurd (no_before c.args.name.now c.args.generation n c.if-generation-eq0.true before)

pub returns-then-generation-eq0-clause-clears : goal.returns-then-generation-eq0-clause-clears
returns-then-generation-eq0-clause-clears g c tells n = (λ before. inl refl, λ other. refl)

pub returns-in_err-old-clause-clears : goal.returns-in_err-old-clause-clears
returns-in_err-old-clause-clears g c tells n = (λ before. inl refl, λ other. refl)

pub returns-then-generation-eq0-clause-any_moment : goal.returns-then-generation-eq0-clause-any_moment
returns-then-generation-eq0-clause-any_moment g c tells = clears_none c.args.name.now c.args.generation (g.D.Disk.past c.args.disk.now)

pub returns-in_err-old-clause-any_moment : goal.returns-in_err-old-clause-any_moment
returns-in_err-old-clause-any_moment g c tells = clears_none c.args.name.now c.args.generation (g.D.Disk.past c.args.disk.now)

pub clear-requires : goal.clear-requires
clear-requires g c = record { unopened = λ tells. c.requires.unopened tells c.in_ok-old.old (is_before c.args.name.now c.args.generation c.in_ok-old.old (omega (arith, c.if-generation-eq0.false)) c.in_ok-old.ensures.named) }

pub returns-clause-gone : goal.returns-clause-gone
returns-clause-gone g c tells =
    let P : Name → Type 0 = λ n. (g.D.Disk.files c.clear.new.disk n ≡ None) × Only (g.D.Disk.past c.clear.new.disk) n None in
    on_ok_weaker c.clear.result (λ gone n before. subst P (sym (before_is c.args.name.now c.args.generation c.in_ok-old.old n c.in_ok-old.ensures.named before)) gone) (c.clear.ensures.gone tells)

pub returns-clause-clears : goal.returns-clause-clears
returns-clause-clears g c tells =
    clears_at c.args.name.now c.args.generation c.in_ok-old.old (omega (arith, c.if-generation-eq0.false)) c.in_ok-old.ensures.named (g.D.Disk.files c.args.disk.now) (g.D.Disk.files c.clear.new.disk) (c.clear.ensures.removes tells).files

pub returns-clause-any_moment : goal.returns-clause-any_moment
returns-clause-any_moment g c tells =
    clears_passes c.args.name.now c.args.generation c.in_ok-old.old (omega (arith, c.if-generation-eq0.false)) c.in_ok-old.ensures.named (g.D.Disk.past c.args.disk.now) (g.D.Disk.past c.clear.new.disk) (c.clear.ensures.removes tells).any_moment

pub returns-clause-opened : goal.returns-clause-opened
returns-clause-opened g c tells n other =
    (c.clear.ensures.removes tells).opened n (λ is. other (subst (IsBefore c.args.name.now c.args.generation) (sym is) (is_before c.args.name.now c.args.generation c.in_ok-old.old (omega (arith, c.if-generation-eq0.false)) c.in_ok-old.ensures.named)))

pub returns-clause-unopened : goal.returns-clause-unopened
returns-clause-unopened g c tells n before =
    ap (g.D.Disk.opened c.clear.new.disk) (before_is c.args.name.now c.args.generation c.in_ok-old.old n c.in_ok-old.ensures.named before) ∙ (c.clear.ensures.removes tells).unopened
