use Rattle.std.proofs.Common.{◌≡◌, ◌+◌, List, None, take, subst, sym, arith}
use Rattle.std.specs.Prelude.{All, Contains, IsErr, IsSome, OnOk, Result}
use Rattle.std.proofs.lemmas.List.{take_all}
use Rattle.std.proofs.lemmas.List.Elements.{Contains-get_or}
use Rattle.disk_model.specs.Files.{Name, Rose}
use Rattle.disk_model.specs.declared.disk.DiskErr.{DiskErr}
use Rattle.gate_journal.specs.DiskShown.{shown_by}
use Rattle.durable_write.proofs.Staying.{rose_after}
use Rattle.tier_store.proofs.Removals.{both_err, gone_more, names_more, names_none, there_more, both_done, rose_until}
use Rattle.tier_store.proofs.removing.remove_all.Goals as goal

pub loop-name-init : goal.loop-name-init
loop-name-init g c = record {
  removes = λ tells. names_none c.args.names.now _;
  gone = λ tells k d lt. absurd (omega (arith, lt));
  there = λ tells k d behind lt. (c.requires tells).1 k d lt;
  faults = omega arith;
  cause = λ is. absurd (cc (is));
}

pub remove_file-removed-requires : goal.remove_file-removed-requires
remove_file-removed-requires g c tells = subst (λ (n : Name). IsSome (g.D.Disk.files c.loop-name.disk n)) (sym c.name-item.is) (c.loop-name.invariant.there tells c.loop-name.name-index c.name-item.result (omega arith) c.loop-name-test.true)

pub loop-name-preserved : goal.loop-name-preserved
loop-name-preserved g c =
    let n = c.name-item.result in
    let names = c.args.names.now in
    let mid = c.loop-name.disk in
    let new = c.remove_file-removed.new.disk in
    let so_far = c.loop-name.invariant in
    let says = c.remove_file-removed.ensures in
    let removed = c.remove_file-removed.result in
    let done = c.loop-name.done in
    let within : Contains names n = subst (λ (x : Name). Contains names x) (sym c.name-item.is) (Contains-get_or names c.loop-name.name-index n c.loop-name-test.true) in
    record {
      removes = λ tells. names_more names _ (shown_by g.D.Disk mid) (shown_by g.D.Disk new) n within (so_far.removes tells) (says.elsewhere tells) (says.any_moment tells) (says.fewer tells);
      gone = λ tells.
          let both = both_done removed done (g.D.Disk.files new n ≡ None) (All (λ (x : Name). g.D.Disk.files mid x ≡ None) (take c.loop-name.name-index names)) (All (λ (x : Name). g.D.Disk.files new x ≡ None) (take (c.loop-name.name-index + 1) names))
          (λ none rest. gone_more names c.loop-name.name-index n (g.D.Disk.files mid) (g.D.Disk.files new) c.loop-name-test.true c.name-item.is (says.elsewhere tells) none rest) (says.gone tells) (so_far.gone tells) in
          subst (λ (x : Result (Unit {0}) DiskErr). OnOk x (All (λ (y : Name). g.D.Disk.files new y ≡ None) (take (c.loop-name.name-index + 1) names))) (sym c.and-done.ensures) both;
      there = λ tells. there_more names c.loop-name.name-index n (g.D.Disk.files mid) (g.D.Disk.files new) (c.requires tells).0 c.name-item.is (says.elsewhere tells) (so_far.there tells);
      faults = omega (arith, says.faults, so_far.faults);
      cause = λ is.
          both_err removed done (Rose (g.D.Disk.faults c.args.disk.now) (g.D.Disk.faults new)) (λ failed. rose_after (g.D.Disk.faults c.args.disk.now) (g.D.Disk.faults mid) (g.D.Disk.faults new) so_far.faults (says.cause failed))
          (λ failed. rose_until (g.D.Disk.faults c.args.disk.now) (g.D.Disk.faults mid) (g.D.Disk.faults new) says.faults (so_far.cause failed)) (subst (λ (x : Result (Unit {0}) DiskErr). IsErr x) c.and-done.ensures is);
    }

pub returns-clause-gone : goal.returns-clause-gone
returns-clause-gone g c tells =
    let all : take c.loop-name.name-index c.args.names.now ≡ c.args.names.now = take_all c.loop-name.name-index c.args.names.now (omega (arith, c.loop-name-test.false)) in
    subst (λ (ns : List Name). OnOk c.loop-name.done (All (λ (n : Name). g.D.Disk.files c.loop-name.disk n ≡ None) ns)) all (c.loop-name.invariant.gone tells)
