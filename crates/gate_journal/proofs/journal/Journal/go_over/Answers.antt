use Rattle.std.proofs.Common.{◌≡◌, None, sym, ◌∙◌, ap, subst}
use Rattle.disk_model.specs.Files.{Name, KeptOr, HasFile}
use Rattle.disk_model.specs.Past.{Only}
use Rattle.gate_journal.specs.declared.journal.Pending.TheVariants.{Nothing, Removal}
use Rattle.gate_journal.specs.DiskShown.{ChangesUnopened, shown_by}
use Rattle.gate_journal.specs.Plain.{PlainState}
use Rattle.gate_journal.proofs.Committing.{same_next, state_same}
use Rattle.gate_journal.proofs.journal.Journal.go_over.Goals as goal

pub remove_synced-requires-clause-file : goal.remove_synced-requires-clause-file
remove_synced-requires-clause-file g c tells =
    let old_is = c.name.ensures ∙ ap (λ (j : PlainState). j.name) c.replace-old.ensures.value in
    let file = rw (← c.self.view_is) at (c.requires.file tells) in
    subst (λ (n : Name). HasFile (g.D.Disk.files c.args.disk.now) n (λ b. Unit {0})) (sym old_is) file

pub remove_synced-requires-clause-unopened : goal.remove_synced-requires-clause-unopened
remove_synced-requires-clause-unopened g c tells =
    let old_is = c.name.ensures ∙ ap (λ (j : PlainState). j.name) c.replace-old.ensures.value in
    let none = rw (← c.self.view_is) at (c.requires.unopened tells) in
    ap (g.D.Disk.opened c.args.disk.now) old_is ∙ none

pub returns-in-Ok-clause-over : goal.returns-in-Ok-clause-over
returns-in-Ok-clause-over g c = rw (← c.self.view_is) (λ next is.
    state_same c.self.inside.name c.self.inside.at c.replace-old.new.dest next c.replace.new.dest Nothing
    (c.replace-old.ensures.after ∙ same_next c.self.inside.pending c.in-Switch.next next (sym c.replace.ensures.value ∙ c.in-Switch.is) is) c.replace.ensures.after)

pub returns-in-Err-clause-left : goal.returns-in-Err-clause-left
returns-in-Err-clause-left g c = rw (← c.self.view_is) (λ next is.
    state_same c.self.inside.name c.self.inside.at c.replace-old.new.dest next (Removal c.replace-old.result) (Removal c.self.inside.current)
    (c.replace-old.ensures.after ∙ same_next c.self.inside.pending c.in-Switch.next next (sym c.replace.ensures.value ∙ c.in-Switch.is) is) (ap (λ (j : PlainState). Removal j) c.replace-old.ensures.value))

pub returns-in-Ok-clause-removes : goal.returns-in-Ok-clause-removes
returns-in-Ok-clause-removes g c = rw (← c.self.view_is) (λ tells.
    let old_is = c.name.ensures ∙ ap (λ (j : PlainState). j.name) c.replace-old.ensures.value in
    let P : Name → Type 0 = λ n. ChangesUnopened n (KeptOr None) (shown_by g.D.Disk c.args.disk.now) (shown_by g.D.Disk c.remove_synced.new.disk) in
    subst P old_is (c.remove_synced.ensures.removes tells))

pub returns-in-Err-clause-removes : goal.returns-in-Err-clause-removes
returns-in-Err-clause-removes g c = rw (← c.self.view_is) (λ tells.
    let old_is = c.name.ensures ∙ ap (λ (j : PlainState). j.name) c.replace-old.ensures.value in
    let P : Name → Type 0 = λ n. ChangesUnopened n (KeptOr None) (shown_by g.D.Disk c.args.disk.now) (shown_by g.D.Disk c.remove_synced.new.disk) in
    subst P old_is (c.remove_synced.ensures.removes tells))

pub returns-in-Ok-clause-gone : goal.returns-in-Ok-clause-gone
returns-in-Ok-clause-gone g c = rw (← c.self.view_is) (λ tells.
    let old_is = c.name.ensures ∙ ap (λ (j : PlainState). j.name) c.replace-old.ensures.value in
    let P : Name → Type 0 = λ n. (g.D.Disk.files c.remove_synced.new.disk n ≡ None) × Only (g.D.Disk.past c.remove_synced.new.disk) n None in
    subst P old_is (c.in-Ok.ensures.gone tells))
