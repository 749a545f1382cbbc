use Rattle.std.proofs.Common.{◌≡◌, ℕ, List, [], ◌∷◌, Some, Err, inl, refl, sym, ◌∙◌, ap, subst, arith}
use Rattle.disk_model.specs.Files.{Name}
use Rattle.gate_journal.specs.Batches.{HasBatches, IsBadJournal, IsShort}
use Rattle.gate_journal.specs.Generations.{at_name, generation_batches}
use Rattle.gate_journal.specs.Load.{StaysOrShort}
use Rattle.gate_journal.specs.Plain.{IsSettled}
use Rattle.gate_journal.specs.declared.load_plain.PlainErr.{PlainErr}
use Rattle.gate_journal.specs.declared.load.JournalErr.TheVariants.{BadJournal as BadNamed}
use Rattle.gate_journal.specs.DiskShown.{shown_by}
use Rattle.gate_journal.proofs.NamedErrs.{named_bad}
use Rattle.gate_journal.proofs.Files.{does_nothing, named}
use Rattle.gate_journal.proofs.Turns.{tells_all, tells_out, bad_place, bad_told}
use Rattle.gate_journal.proofs.load.load_told.Goals as goal

pub returns-in_err-file-clause-loads : goal.returns-in_err-file-clause-loads
returns-in_err-file-clause-loads g c tells = does_nothing (at_name c.args.name.now) StaysOrShort (λ x. inl refl) (shown_by g.D.Disk c.args.disk.now) (c.requires.unopened tells)

pub returns-clause-told : goal.returns-clause-told
returns-clause-told g c tells =
    let took = c.in-Ok.ensures.took in
    let all = tells_all c.load_into.new.fold.out_of_turn c.load_into.new.fold.generation took.0 c.if-told.false took.1 in
    let t = took.2 tells in (
      all.0,
      subst (λ (n : Name). HasBatches ((g.D.Disk.files c.args.disk.now) n) (generation_batches c.load_into.new.fold.generation)) c.in_ok-file.ensures (subst (λ (bs : List (List ℕ)). HasBatches ((g.D.Disk.files c.args.disk.now) c.in_ok-file.file) bs) all.1 t.0),
      subst (λ (bs : List (List ℕ)). IsSettled c.in-Ok.journal (shown_by g.D.Disk c.load_into.new.disk) bs) all.1 t.1,
    )

pub returns-clause-journal : goal.returns-clause-journal
returns-clause-journal g c = (c.in-Ok.ensures.journal.0 ∙ c.in_ok-file.ensures, c.in-Ok.ensures.journal.1)

pub returns-then-told-clause-bad : goal.returns-then-told-clause-bad
returns-then-told-clause-bad g c tells file at failed =
    let took = c.in-Ok.ensures.took in
    let t = took.2 tells in
    let which : c.in_ok-file.file ≡ file = cc failed in
    let same : c.min-at.result ≡ at = cc failed in
    let out = tells_out c.load_into.new.fold.out_of_turn c.load_into.new.fold.generation took.0 c.if-told.true took.1 in
    let place = bad_place c.load_into.new.fold.generation c.saturating_mul-place.result c.min-at.result c.len.result c.in-Ok.journal.place took.0 c.saturating_mul-place.ensures c.min-at.ensures c.len.ensures (omega arith) t.1.place out in
    bad_told c.args.name.now file (g.D.Disk.files c.args.disk.now) c.load_into.new.fold.out_of_turn c.load_into.new.fold.generation at took.0 (sym which ∙ c.in_ok-file.ensures) c.if-told.true took.1 (subst (λ (n : Name). HasBatches ((g.D.Disk.files c.args.disk.now) n) took.0) which t.0) (sym same ∙ place)

pub returns-in-Err-clause-bad : goal.returns-in-Err-clause-bad
returns-in-Err-clause-bad g c tells file at failed =
    let is : c.named.result ≡ BadNamed file at = cc failed in
    let b = named_bad c.in-Err.error c.in_ok-file.file file at (sym c.named.ensures ∙ is) in
    inl (b.1 ∙ c.in_ok-file.ensures, inl (subst (λ (n : Name). IsBadJournal ((g.D.Disk.files c.args.disk.now) n) at) (sym b.1) (c.in-Err.ensures.bad tells at (ap (λ (e : PlainErr). Err e) b.0))))

pub returns-in-Err-clause-loads : goal.returns-in-Err-clause-loads
returns-in-Err-clause-loads g c tells =
    let loads = c.load_into.ensures in
    named c.in_ok-file.file (at_name c.args.name.now) StaysOrShort (shown_by g.D.Disk c.args.disk.now) (shown_by g.D.Disk c.load_into.new.disk) c.in_ok-file.ensures (loads.kept tells) (loads.any_moment tells) (loads.opened tells) (loads.unopened tells)

pub returns-then-told-clause-loads : goal.returns-then-told-clause-loads
returns-then-told-clause-loads g c tells =
    let loads = c.load_into.ensures in
    named c.in_ok-file.file (at_name c.args.name.now) StaysOrShort (shown_by g.D.Disk c.args.disk.now) (shown_by g.D.Disk c.load_into.new.disk) c.in_ok-file.ensures (loads.kept tells) (loads.any_moment tells) (loads.opened tells) (loads.unopened tells)

pub returns-clause-loads : goal.returns-clause-loads
returns-clause-loads g c tells =
    let loads = c.load_into.ensures in
    named c.in_ok-file.file (at_name c.args.name.now) StaysOrShort (shown_by g.D.Disk c.args.disk.now) (shown_by g.D.Disk c.load_into.new.disk) c.in_ok-file.ensures (loads.kept tells) (loads.any_moment tells) (loads.opened tells) (loads.unopened tells)

pub returns-clause-made : goal.returns-clause-made
returns-clause-made g c tells short =
    subst (λ (n : Name). g.D.Disk.files c.load_into.new.disk n ≡ Some (0 ∷ [])) c.in_ok-file.ensures (c.in-Ok.ensures.made tells (subst (λ (n : Name). IsShort (g.D.Disk.files c.args.disk.now n)) (sym c.in_ok-file.ensures) short))
