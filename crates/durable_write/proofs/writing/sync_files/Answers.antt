use Rattle.std.proofs.Common.{List, length, get_or, map, subst, ◌∙◌, arith, All}
use Rattle.std.proofs.lemmas.List.{get_or-map, length-map}
use Rattle.disk_model.specs.Files.{Name}
use Rattle.disk_model.specs.Past.{Only}
use Rattle.durable_write.specs.declared.file_write.FileWrite.{FileWrite}
use Rattle.durable_write.specs.Held.{file_of, Shelf}
use Rattle.durable_write.proofs.writing.sync_files.Goals as goal

-- what holds of the name of each write's file
of_each : (P : Name → Type 0) (shelf : Shelf) (ps : List FileWrite) → All P (map (λ p. file_of shelf p.entry) ps) → All (λ (p : FileWrite). P (file_of shelf p.entry)) ps
of_each P shelf ps all k d lt =
    let name : FileWrite → Name = λ p. file_of shelf p.entry in
    subst P (get_or-map name ps k d (name d) lt) (all k (name d) (omega (arith, length-map ps name)))

pub returns-clause-durable : goal.returns-clause-durable
returns-clause-durable g c tells =
    of_each (λ n. Only (g.D.Disk.past c.sync_each.new.self) n (g.D.Disk.files c.args.disk.now n)) (c.args.store, c.args.rows.now) c.args.writes.now
    (subst (λ (ns : List Name). All (λ n. Only (g.D.Disk.past c.sync_each.new.self) n (g.D.Disk.files c.args.disk.now n)) ns) (c.deref.ensures.value ∙ c.in_ok-names.ensures) (c.in_ok-sync_each.ensures.durable tells))
