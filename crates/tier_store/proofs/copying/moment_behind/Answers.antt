use Rattle.std.proofs.Common.{Option, sym, ◌∙◌, ap}
use Rattle.store_manifest.specs.declared.entry.Entry.{Entry}
use Rattle.etl_mover.specs.Copying.{last_of}
use Rattle.tier_store.specs.Copied.{end_after}
use Rattle.tier_store.specs.Reviving.{pending_with}
use Rattle.etl_mover.proofs.Steps.{last_of-push}
use Rattle.tier_store.proofs.copying.moment_behind.Goals as goal

pub returns : goal.returns
returns c =
    sym (ap (λ (o : Option Entry). end_after (last_of (pending_with c.args.moving.now.pending o) c.args.moving.now.listed)) c.in-Some.is ∙ ap end_after (last_of-push c.args.moving.now.pending c.in-Some.entry c.args.moving.now.listed))
