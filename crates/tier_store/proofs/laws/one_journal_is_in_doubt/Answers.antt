use Rattle.tier_store.specs.Seen.{seen_by}
use Rattle.tier_store.proofs.Holding.{rows_alone, list_alone}
use Rattle.tier_store.proofs.laws.one_journal_is_in_doubt.Goals as goal

pub returns-clause-catalogue : goal.returns-clause-catalogue
returns-clause-catalogue g c disk catalogue ms before after was unsound = rows_alone g.D.Disk.tells (seen_by g.D.Disk catalogue ms disk) before after was unsound

pub returns-clause-manifest : goal.returns-clause-manifest
returns-clause-manifest g c disk catalogue ms before after i k m n was here there first second =
    list_alone g.D.Disk.tells (seen_by g.D.Disk catalogue ms disk) before after i k m n was here there first second
