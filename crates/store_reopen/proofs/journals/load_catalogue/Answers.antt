use Rattle.std.proofs.Common.{inl, Err, sym, ◌∙◌, subst, ap}
use Rattle.disk_model.specs.Files.{Name}
use Rattle.gate_journal.specs.Generations.{IsOwn}
use Rattle.gate_journal.specs.DiskShown.{shown_by}
use Rattle.pv_catalog.specs.Catalogue.{catalogue_name}
use Rattle.pv_catalog.specs.Rows.{IsBadBatch}
use Rattle.store_reopen.specs.OneJournal.{NoneOpened, IsGate}
use Rattle.store_reopen.specs.Verdict.{catalogue_bad}
use Rattle.store_reopen.proofs.Having.{kept_rows, kept_then, rows_again, bad_again, no_bad_rows}
use Rattle.store_reopen.proofs.journals.load_catalogue.Goals as goal

pub returns-in-Ok-clause-keeps : goal.returns-in-Ok-clause-keeps
returns-in-Ok-clause-keeps g c tells g' =
    kept_rows g' (shown_by g.D.Disk c.args.disk.now) (shown_by g.D.Disk c.load.new.disk) (c.load.ensures.leaves tells)

pub returns-in-Err-Disk-clause-keeps : goal.returns-in-Err-Disk-clause-keeps
returns-in-Err-Disk-clause-keeps g c tells g' =
    kept_rows g' (shown_by g.D.Disk c.args.disk.now) (shown_by g.D.Disk c.load.new.disk) (c.load.ensures.leaves tells)

pub returns-in-Err-BadJournal-clause-keeps : goal.returns-in-Err-BadJournal-clause-keeps
returns-in-Err-BadJournal-clause-keeps g c tells g' =
    kept_rows g' (shown_by g.D.Disk c.args.disk.now) (shown_by g.D.Disk c.load.new.disk) (c.load.ensures.leaves tells)

pub returns-in_err-file-in-Err-BadBatch-clause-keeps : goal.returns-in_err-file-in-Err-BadBatch-clause-keeps
returns-in_err-file-in-Err-BadBatch-clause-keeps g c tells g' =
    kept_then g' _ _ _
    (kept_rows g' (shown_by g.D.Disk c.args.disk.now) (shown_by g.D.Disk c.load.new.disk) (c.load.ensures.leaves tells))
    (rows_again g' (shown_by g.D.Disk c.load.new.disk) (shown_by g.D.Disk c.gate_of.new.disk) c.in_ok-name.name c.in_ok-name.ensures (c.gate_of.ensures.leaves tells))

pub returns-clause-keeps : goal.returns-clause-keeps
returns-clause-keeps g c tells g' =
    kept_then g' _ _ _
    (kept_rows g' (shown_by g.D.Disk c.args.disk.now) (shown_by g.D.Disk c.load.new.disk) (c.load.ensures.leaves tells))
    (rows_again g' (shown_by g.D.Disk c.load.new.disk) (shown_by g.D.Disk c.gate_of.new.disk) c.in_ok-name.name c.in_ok-name.ensures (c.gate_of.ensures.leaves tells))

pub gate_of-requires : goal.gate_of-requires
gate_of-requires g c = record { unopened = λ tells. subst (λ (n : Name). NoneOpened n (g.D.Disk.opened c.load.new.disk)) (sym c.in_ok-name.ensures) (c.load.ensures.leaves tells).unopened }

pub returns-in-Err-BadJournal-clause-told : goal.returns-in-Err-BadJournal-clause-told
returns-in-Err-BadJournal-clause-told g c tells g' = catalogue_bad (inl (c.in-Err-BadJournal.ensures.refused.bad_journal tells c.in-Err-BadJournal.file c.in-Err-BadJournal.at (ap Err c.in-Err-BadJournal.field-0-is)))

pub returns-clause-told : goal.returns-clause-told
returns-clause-told g c tells g' =
    let bad = c.in-Err-BadBatch.ensures.refused.bad_batch tells c.in-Err-BadBatch.number (ap Err c.in-Err-BadBatch.field-0-is) in
    let file = c.in_ok-file-in-Err-BadBatch.file in
    let at = c.in_ok-file-in-Err-BadBatch.at in
    let gate = subst (λ (n : Name). IsGate n (g.D.Disk.files c.load.new.disk) c.in-Err-BadBatch.number file at) c.in_ok-name.ensures (c.in_ok-file-in-Err-BadBatch.ensures.gate tells) in
    catalogue_bad (bad_again IsBadBatch no_bad_rows catalogue_name (g.D.Disk.files c.args.disk.now) (g.D.Disk.files c.load.new.disk) ⊥ bad.0 c.in-Err-BadBatch.number file at bad.1 bad.2 (inl (c.load.ensures.leaves tells).kept.here) gate)

pub returns-in_err-file-in-Err-BadBatch-clause-others : goal.returns-in_err-file-in-Err-BadBatch-clause-others
returns-in_err-file-in-Err-BadBatch-clause-others g c tells n other =
    (c.gate_of.ensures.leaves tells).kept.elsewhere n (λ own. other (subst (λ (m : Name). IsOwn m n) c.in_ok-name.ensures own)) ∙ (c.load.ensures.leaves tells).kept.elsewhere n other

pub returns-clause-others : goal.returns-clause-others
returns-clause-others g c tells n other =
    (c.gate_of.ensures.leaves tells).kept.elsewhere n (λ own. other (subst (λ (m : Name). IsOwn m n) c.in_ok-name.ensures own)) ∙ (c.load.ensures.leaves tells).kept.elsewhere n other

pub returns-in-Ok-clause-others : goal.returns-in-Ok-clause-others
returns-in-Ok-clause-others g c tells n other = (c.load.ensures.leaves tells).kept.elsewhere n other

pub returns-in-Err-Disk-clause-others : goal.returns-in-Err-Disk-clause-others
returns-in-Err-Disk-clause-others g c tells n other = (c.load.ensures.leaves tells).kept.elsewhere n other

pub returns-in-Err-BadJournal-clause-others : goal.returns-in-Err-BadJournal-clause-others
returns-in-Err-BadJournal-clause-others g c tells n other = (c.load.ensures.leaves tells).kept.elsewhere n other
