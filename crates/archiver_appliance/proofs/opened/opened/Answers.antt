use Rattle.store_reopen.specs.Reopen.{disk_of, stores_of}
use Rattle.archiver_appliance.proofs.Opening.{opening_opens, opening_reads, opens_unwhole, reads_open, unreported}
use Rattle.archiver_appliance.proofs.opened.opened.Goals as goal

pub returns-then-only_reads-clause-opens : goal.returns-then-only_reads-clause-opens
returns-then-only_reads-clause-opens g c told =
    reads_open g.D.Disk (stores_of c.args.config.now) c.args.disk (disk_of c.open_to_read.result) (c.open_to_read.ensures.reopens told)

pub returns-then-only_reads-clause-reads : goal.returns-then-only_reads-clause-reads
returns-then-only_reads-clause-reads g c told reading = opening_reads g.D.Disk (stores_of c.args.config.now) c.args.disk (disk_of c.open_to_read.result) (c.open_to_read.ensures.reopens told) (c.open_to_read.ensures.site told)

pub returns-then-only_reads-clause-unopened : goal.returns-then-only_reads-clause-unopened
returns-then-only_reads-clause-unopened g c told = (c.open_to_read.ensures.reopens told).unopened

pub returns-else-only_reads-clause-opens : goal.returns-else-only_reads-clause-opens
returns-else-only_reads-clause-opens g c told = opening_opens g.D.Disk (stores_of c.args.config.now) c.args.disk (disk_of c.reopen.result) (c.reopen.ensures.sweeps told)

pub returns-else-only_reads-clause-reads : goal.returns-else-only_reads-clause-reads
returns-else-only_reads-clause-reads g c told reading =
    let gs = stores_of c.args.config.now in
    let new = disk_of c.reopen.result in
    opens_unwhole gs (g.D.Disk.files c.args.disk) (g.D.Disk.files new) (g.D.Disk.past c.args.disk) (g.D.Disk.past new) (unreported gs (g.D.Disk.files c.args.disk) c.args.command.now (c.only_reads.ensures.acts c.if-only_reads.false) reading) (opening_opens g.D.Disk gs c.args.disk new (c.reopen.ensures.sweeps told)) (c.reopen.ensures.site told)

pub returns-else-only_reads-clause-unopened : goal.returns-else-only_reads-clause-unopened
returns-else-only_reads-clause-unopened g c told = (c.reopen.ensures.sweeps told).unopened

pub returns-then-only_reads-clause-swept : goal.returns-then-only_reads-clause-swept
returns-then-only_reads-clause-swept g c told acts = absurd (acts (c.only_reads.ensures.reads c.if-only_reads.true))

pub returns-else-only_reads-clause-swept : goal.returns-else-only_reads-clause-swept
returns-else-only_reads-clause-swept g c told acts = c.reopen.ensures.swept told
