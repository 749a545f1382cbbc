use Rattle.std.proofs.Common.{◌<◌, length, sym, subst}
use Rattle.durable_write.specs.declared.file_write.FileWrite.{FileWrite}
use Rattle.durable_write.proofs.writing.names_of.Goals as goal

pub set_name-requires : goal.set_name-requires
set_name-requires c = subst (λ (p : FileWrite). p.entry.series < length c.args.rows.now) (sym c.write-item.is) (c.requires c.loop-write.write-index c.write-item.result c.loop-write-test.true)
