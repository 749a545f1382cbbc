use Rattle.std.proofs.Common.{◌≤◌, ◌++◌, ℕ, List, length, take, sym, ◌∙◌, subst, arith}
use Rattle.std.proofs.lemmas.List.{length-append, length-take}
use Rattle.std.proofs.lemmas.Option.{same_Some}
use Rattle.disk_model.specs.Files.{Name, At, Torn}
use Rattle.disk_model.specs.Past.{Past, Passes}
use Rattle.store_files.specs.Fronts.{Keeps}
use Rattle.store_files.proofs.Stays.{as_keeps, torn_keeps, keeps_more}
use Rattle.durable_write.proofs.Staying.{appended, cut_kept, kept_on, written_keeps}
use Rattle.durable_write.proofs.writing.go_on.Goals as goal

-- a cut, and then a write behind it
cut_write : (name : Name) (len n : ℕ) (old mid new : Past) → Passes (At name (Keeps len)) old mid → Passes (At name (Torn len n)) mid new → Passes (At name (Keeps len)) old new
cut_write name len n old mid new cut write = keeps_more name len old mid new cut (as_keeps name (Torn len n) len mid new (torn_keeps len n) write)

pub returns-in_err-write-clause-any_moment : goal.returns-in_err-write-clause-any_moment
returns-in_err-write-clause-any_moment g c tells =
    cut_write c.args.name.now c.args.len (length c.args.bytes.now) (g.D.Disk.past c.args.disk.now) (g.D.Disk.past c.settle.new.disk) (g.D.Disk.past c.write.new.disk) (c.settle.ensures.any_moment tells) (c.write.ensures.any_moment tells)

pub returns-clause-any_moment : goal.returns-clause-any_moment
returns-clause-any_moment g c tells =
    cut_write c.args.name.now c.args.len (length c.args.bytes.now) (g.D.Disk.past c.args.disk.now) (g.D.Disk.past c.settle.new.disk) (g.D.Disk.past c.write.new.disk) (c.settle.ensures.any_moment tells) (c.write.ensures.any_moment tells)

pub returns-clause-grown : goal.returns-clause-grown
returns-clause-grown g c tells b is =
    let name = c.args.name.now in
    let was = c.requires tells in
    let enough : c.args.len ≤ length b = subst (λ (l : List _). c.args.len ≤ length l) (same_Some was.bytes b (sym was.file ∙ is)) was.holds.1 in
    appended c.args.len c.args.bytes.now b (g.D.Disk.files c.args.disk.now name) (g.D.Disk.files c.settle.new.disk name) (g.D.Disk.files c.write.new.disk name) is enough (c.in_ok-settle.ensures.settled tells).here (c.in_ok-write.ensures.written tells).here

pub returns-clause-long : goal.returns-clause-long
returns-clause-long g c tells =
    let name = c.args.name.now in
    let was = c.requires tells in
    record {
      bytes = take c.args.len was.bytes ++ c.args.bytes.now;
      file = appended c.args.len c.args.bytes.now was.bytes (g.D.Disk.files c.args.disk.now name) (g.D.Disk.files c.settle.new.disk name) (g.D.Disk.files c.write.new.disk name) was.file was.holds.1 (c.in_ok-settle.ensures.settled tells).here (c.in_ok-write.ensures.written tells).here;
      holds = omega (arith, length-append (take c.args.len was.bytes) c.args.bytes.now, length-take c.args.len was.bytes, was.holds.1);
    }

pub returns-in_err-settle-clause-kept : goal.returns-in_err-settle-clause-kept
returns-in_err-settle-clause-kept g c tells = cut_kept c.args.name.now c.args.len _ _ (c.in_err-settle.ensures.unsettled tells)

pub returns-in_err-write-clause-kept : goal.returns-in_err-write-clause-kept
returns-in_err-write-clause-kept g c tells =
    let torn = c.in_err-write.ensures.torn tells in
    kept_on c.args.name.now c.args.len _ (g.D.Disk.files c.settle.new.disk) _ (c.in_ok-settle.ensures.settled tells) (record { here = torn_keeps c.args.len (length c.args.bytes.now) _ _ torn.here; elsewhere = torn.elsewhere })

pub returns-clause-kept : goal.returns-clause-kept
returns-clause-kept g c tells =
    let written = c.in_ok-write.ensures.written tells in
    kept_on c.args.name.now c.args.len _ (g.D.Disk.files c.settle.new.disk) _ (c.in_ok-settle.ensures.settled tells) (record { here = written_keeps c.args.len c.args.bytes.now _ _ written.here; elsewhere = written.elsewhere })
