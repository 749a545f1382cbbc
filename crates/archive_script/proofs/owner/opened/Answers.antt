use Rattle.std.proofs.Common.{List, None, Some, Option, refl, sym, subst, ap}
use Rattle.std.specs.Prelude.{Result, Ok, Err}
use Rattle.pb_messages.specs.Info.{info_of}
use Rattle.pb_messages.specs.declared.info.PayloadInfo.{PayloadInfo}
use Rattle.etl_rules.specs.Config.{ConfigState}
use Rattle.partition_names.specs.declared.granularity.Granularity.{Granularity}
use Rattle.act_model.specs.Rule.{Rule, Header}
use Rattle.tier_store.specs.Beginning.{AllNested}
use Rattle.tier_store.specs.Seen.{granularities}
use Rattle.archive_script.proofs.owner.opened.Goals as goal

-- what a header says whose fields are these
head_of : {E : Type 0} → Result PayloadInfo E → Option Header
head_of (Ok info) = Some (record { ty = info.ty; year = info.year })
head_of (Err e) = None

-- a rule with the granularities of the stores that tells headers as PB files have them
abbrev rule_of : List Granularity → ConfigState → Rule
rule_of gs config = record { granularity = gs; hold = config.hold; gather = config.gather; header = λ line. head_of (info_of line) }

pub of-requires-clause-nested : goal.of-requires-clause-nested
of-requires-clause-nested c = let ready = c.in-Ok.ensures.opened.ready in subst AllNested (sym ready.granularity) ready.nested

pub returns-in-Ok-of : goal.returns-in-Ok-of
unfolding head_of
returns-in-Ok-of c =
    let has = c.in-Ok.ensures.opened.has in
    let archive = c.in-Ok-of.ensures.opened has.0 (rule_of (granularities c.in-Ok.store.manifests.items) c.in-Ok.store.config) has.1 refl (λ message info is. ap head_of is) refl refl in
    (archive.0, archive.3.stands)
