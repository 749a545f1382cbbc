use Rattle.std.proofs.Common.{◌∙◌, ap, sym}
use Rattle.etl_rules.specs.Config.{ConfigState}
use Rattle.archive_core.proofs.Opened.{opened_as}
use Rattle.archive_core.proofs.archive.Archive.of.Goals as goal

pub returns-in-Ok-clause-opened : goal.returns-in-Ok-clause-opened
returns-in-Ok-clause-opened g c held rule has same headers hold gather =
    let r = opened_as g.D.Disk.tells _ held has c.in-Ok.ensures.are rule c.from.result same headers c.config-config.result (record { hold = hold ∙ ap (λ (config : ConfigState). config.hold) (sym c.config-config.ensures); gather = gather ∙ ap (λ (config : ConfigState). config.gather) (sym c.config-config.ensures); nested = c.requires.nested }) c.new.result.slots.items c.new.ensures
    c.args.store.limbo.items c.args.store.pinned c.new-in-Ok.result c.in-Ok.rows.items c.requires.limbo c.requires.pins c.new-in-Ok.ensures c.in-Ok.ensures.rows in
    (r.0, r.1, r.2, r.3, r.4 ∙ c.from.ensures, r.5)
