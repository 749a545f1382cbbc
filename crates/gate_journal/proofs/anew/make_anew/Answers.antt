use Rattle.std.proofs.Common.{subst}
use Rattle.std.proofs.lemmas.Result.{on_ok_weaker}
use Rattle.disk_model.specs.Files.{Content}
use Rattle.disk_model.specs.Past.{Only}
use Rattle.gate_journal.proofs.Results.{on_ok_both}
use Rattle.gate_journal.proofs.Files.{then_loosely, written_whole}
use Rattle.gate_journal.proofs.anew.make_anew.Goals as goal

pub returns-clause-made : goal.returns-clause-made
returns-clause-made g c tells =
    on_ok_weaker c.write_synced.result (written_whole c.args.name.now c.args.bytes.now (g.D.Disk.files c.empty.new.disk) (g.D.Disk.files c.write_synced.new.disk) (c.in_ok-empty.ensures.made tells)) (c.write_synced.ensures.written tells)

pub returns-clause-durable : goal.returns-clause-durable
returns-clause-durable g c tells =
    let name = c.args.name.now in
    let last = g.D.Disk.files c.write_synced.new.disk in
    let whole = written_whole name c.args.bytes.now (g.D.Disk.files c.empty.new.disk) last (c.in_ok-empty.ensures.made tells) in
    let P : Content → Type 0 = λ content. Only (g.D.Disk.past c.write_synced.new.disk) name content in
    on_ok_both c.write_synced.result (λ step only. subst P (whole step) only) (c.write_synced.ensures.written tells) (c.write_synced.ensures.durable tells)

pub returns-clause-any_moment : goal.returns-clause-any_moment
returns-clause-any_moment g c tells = then_loosely _ _ _ _ _ (c.empty.ensures.any_moment tells) (c.write_synced.ensures.any_moment tells)
