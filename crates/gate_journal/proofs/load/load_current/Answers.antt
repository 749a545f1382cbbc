use Rattle.std.proofs.Common.{◌≡◌, [], ◌∷◌, Some, Err, inl, inr, refl, sym, ◌∙◌, ap, subst}
use Rattle.disk_model.specs.Files.{Files, Name, Content}
use Rattle.gate_journal.specs.Batches.{HasBatches, IsBadJournal, IsShort}
use Rattle.gate_journal.specs.Journal.{IsThere}
use Rattle.gate_journal.specs.Generations.{generation_name}
use Rattle.gate_journal.specs.Load.{StaysOrShort}
use Rattle.gate_journal.specs.declared.load_plain.PlainErr.{PlainErr}
use Rattle.gate_journal.specs.declared.load.JournalErr.TheVariants.{BadJournal as BadNamed}
use Rattle.gate_journal.proofs.Files.{does_nothing, only_reads, reads_then, named}
use Rattle.gate_journal.specs.DiskShown.{shown_by}
use Rattle.gate_journal.proofs.NamedErrs.{named_bad}
use Rattle.gate_journal.proofs.load.load_current.Goals as goal

pub returns-in_err-file-clause-loads : goal.returns-in_err-file-clause-loads
returns-in_err-file-clause-loads g c tells = does_nothing (generation_name c.args.name.now c.args.generation) StaysOrShort (λ x. inl refl) (shown_by g.D.Disk c.args.disk.now) (c.requires.unopened tells)

pub returns-in_err-is_there-clause-loads : goal.returns-in_err-is_there-clause-loads
returns-in_err-is_there-clause-loads g c tells =
    only_reads (generation_name c.args.name.now c.args.generation) StaysOrShort (λ x. inl refl) (shown_by g.D.Disk c.args.disk.now) (shown_by g.D.Disk c.is_there.new.disk) (c.requires.unopened tells)
    (c.is_there.ensures.reads tells)

pub returns-then-not-branch-clause-loads : goal.returns-then-not-branch-clause-loads
returns-then-not-branch-clause-loads g c tells =
    only_reads (generation_name c.args.name.now c.args.generation) StaysOrShort (λ x. inl refl) (shown_by g.D.Disk c.args.disk.now) (shown_by g.D.Disk c.is_there.new.disk) (c.requires.unopened tells)
    (c.is_there.ensures.reads tells)

pub returns-then-not-branch-clause-bad : goal.returns-then-not-branch-clause-bad
returns-then-not-branch-clause-bad g c tells file at failed =
    let which : c.in_ok-file.file ≡ file = cc failed in
    let same : 0 ≡ at = cc failed in
    let short = c.in_ok-is_there.ensures.short tells c.if-not-branch.true in
    (sym which ∙ c.in_ok-file.ensures.named, inr (short.0, subst (λ (n : Name). IsShort ((g.D.Disk.files c.args.disk.now) n)) which short.1, sym same))

pub returns-in-Err-clause-bad : goal.returns-in-Err-clause-bad
returns-in-Err-clause-bad g c tells file at failed =
    let is : c.named.result ≡ BadNamed file at = cc failed in
    let b = named_bad c.in-Err.error c.in_ok-file.file file at (sym c.named.ensures ∙ is) in
    let bad = c.in-Err.ensures.bad tells at (ap (λ (e : PlainErr). Err e) b.0) in
    let here = subst (λ (x : Content). IsBadJournal x at) (ap (λ (f : Files). f c.in_ok-file.file) (c.is_there.ensures.reads tells).same) bad in
    (b.1 ∙ c.in_ok-file.ensures.named, inl (subst (λ (n : Name). IsBadJournal ((g.D.Disk.files c.args.disk.now) n) at) (sym b.1) here))

pub returns-in-Ok-clause-took : goal.returns-in-Ok-clause-took
returns-in-Ok-clause-took g c =
    let took = c.in-Ok.ensures.took in (
      took.0,
      took.1,
      λ tells.
          let t = took.2 tells in
          let here = subst (λ (x : Content). HasBatches x took.0) (ap (λ (f : Files). f c.in_ok-file.file) (c.is_there.ensures.reads tells).same) t.0 in
          let there = c.in_ok-is_there.ensures.there tells c.if-not-branch.false in (
            subst (λ (n : Name). HasBatches ((g.D.Disk.files c.args.disk.now) n) took.0) c.in_ok-file.ensures.named here,
            subst (λ (n : Name). IsThere c.args.generation ((g.D.Disk.files c.args.disk.now) n)) c.in_ok-file.ensures.named there,
            t.1,
          ),
    )

pub returns-in-Ok-clause-journal : goal.returns-in-Ok-clause-journal
returns-in-Ok-clause-journal g c = (c.in-Ok.ensures.journal.0 ∙ c.in_ok-file.ensures.named, c.in-Ok.ensures.journal.1)

pub returns-in-Ok-clause-loads : goal.returns-in-Ok-clause-loads
returns-in-Ok-clause-loads g c tells =
    let file = generation_name c.args.name.now c.args.generation in
    let mid = shown_by g.D.Disk c.is_there.new.disk in
    let last = shown_by g.D.Disk c.load_into.new.disk in
    let loads = c.load_into.ensures in
    reads_then file StaysOrShort (λ x. inl refl) (shown_by g.D.Disk c.args.disk.now) mid last (c.is_there.ensures.reads tells)
    (named c.in_ok-file.file file StaysOrShort mid last c.in_ok-file.ensures.named (loads.kept tells) (loads.any_moment tells) (loads.opened tells) (loads.unopened tells))

pub returns-in-Err-clause-loads : goal.returns-in-Err-clause-loads
returns-in-Err-clause-loads g c tells =
    let file = generation_name c.args.name.now c.args.generation in
    let mid = shown_by g.D.Disk c.is_there.new.disk in
    let last = shown_by g.D.Disk c.load_into.new.disk in
    let loads = c.load_into.ensures in
    reads_then file StaysOrShort (λ x. inl refl) (shown_by g.D.Disk c.args.disk.now) mid last (c.is_there.ensures.reads tells)
    (named c.in_ok-file.file file StaysOrShort mid last c.in_ok-file.ensures.named (loads.kept tells) (loads.any_moment tells) (loads.opened tells) (loads.unopened tells))

pub returns-in-Ok-clause-made : goal.returns-in-Ok-clause-made
returns-in-Ok-clause-made g c tells short =
    let was = subst (λ (n : Name). IsShort (g.D.Disk.files c.args.disk.now n)) (sym c.in_ok-file.ensures.named) short in
    let now = subst (λ (f : Files). IsShort (f c.in_ok-file.file)) (sym (c.is_there.ensures.reads tells).same) was in
    subst (λ (n : Name). g.D.Disk.files c.load_into.new.disk n ≡ Some (0 ∷ [])) c.in_ok-file.ensures.named (c.in-Ok.ensures.made tells now)
