use Rattle.std.proofs.Common.{◌∷◌, [], true, false, subst}
use Rattle.pb_messages.specs.declared.about.About.{About}
use Rattle.store_reopen.specs.Adoption.{about_of}
use Rattle.store_reopen.specs.Reopen.{loaded}
use Rattle.store_reopen.specs.Steps.{MakesSteps, NewRow}
use Rattle.store_reopen.proofs.TakenFiles.{never_refused, on_err, row_cut, row_made, row_spared}
use Rattle.store_reopen.proofs.registering.register_first.Goals as goal

pub returns-in_err-about-clause-stops : goal.returns-in_err-about-clause-stops
returns-in_err-about-clause-stops g c told ms has = on_err c.from_residual.result (row_spared g.D.Disk c.args.catalogue.now ms c.args.disk.now (NewRow c.args.candidate.now.name (about_of c.args.candidate.now)))

pub returns-in-Ok-clause-makes : goal.returns-in-Ok-clause-makes
returns-in-Ok-clause-makes g c told ms has =
    subst (λ (a : About). MakesSteps true g.D.Disk.tells (NewRow c.args.candidate.now.name a ∷ []) (loaded g.D.Disk c.args.catalogue.now ms c.args.disk.now) (loaded g.D.Disk c.add_row.new.catalogue ms c.add_row.new.disk)) c.in_ok-about.ensures
    (row_made g.D.Disk c.args.catalogue.now ms c.args.disk.now c.args.candidate.now.name c.in_ok-about.about c.add_row.new.catalogue c.add_row.new.disk c.in-Ok.field-0 (c.in-Ok.ensures.changes ms has))

pub returns-in-Disk-clause-stops : goal.returns-in-Disk-clause-stops
returns-in-Disk-clause-stops g c told ms has =
    subst (λ (a : About). MakesSteps false g.D.Disk.tells (NewRow c.args.candidate.now.name a ∷ []) (loaded g.D.Disk c.args.catalogue.now ms c.args.disk.now) (loaded g.D.Disk c.add_row.new.catalogue ms c.add_row.new.disk)) c.in_ok-about.ensures
    (row_cut g.D.Disk c.args.catalogue.now ms c.args.disk.now c.args.candidate.now.name c.in_ok-about.about c.add_row.new.catalogue c.add_row.new.disk c.in-Err.refusal c.in-Disk.e c.in-Disk.is (c.in-Err.ensures.changes ms has))

pub unreachable-requires : goal.unreachable-requires
unreachable-requires g c = never_refused c.args.catalogue.now.rows c.args.candidate.now.name c.in-Err.refusal c.in-Err.ensures.refusal c.in_default.not-Disk c.requires.free
