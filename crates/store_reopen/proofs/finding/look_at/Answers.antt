use Rattle.std.proofs.Common.{◌≡◌, ◌+◌, List, [], ◌∷◌, ◌++◌, sym, ◌∙◌, ap, subst, arith}
use Rattle.std.specs.Prelude.{All, IfSome}
use Rattle.std.proofs.lemmas.List.Elements.{All-push}
use Rattle.disk_model.specs.Files.{Name, Files}
use Rattle.found_files.specs.Candidate.{IsShapedOf}
use Rattle.found_files.specs.ReadRuns.{read_then}
use Rattle.partition_names.specs.declared.granularity.Granularity.{Granularity}
use Rattle.durable_write.specs.Held.{Listing}
use Rattle.store_reopen.specs.Adoption.{IsFoundAs, IsUnlisted}
use Rattle.store_reopen.specs.Finding.{IsOfPlace}
use Rattle.store_reopen.specs.declared.finding.Unlisted.{Unlisted}
use Rattle.store_reopen.proofs.Marking.{at_store, is_none}
use Rattle.store_reopen.proofs.TakenFiles.{FoundSo, found_all, found_as, found_listed, found_more, of_place}
use Rattle.store_reopen.proofs.finding.look_at.Goals as goal

pub loop-file-preserved-then-not-branch : goal.loop-file-preserved-then-not-branch
loop-file-preserved-then-not-branch g c = record {
  found = λ told all.
      let n = c.file-item.result in
      let store = at_store (c.args.place + 1) c.args.names.now c.loop-file.file-index n c.loop-file-test.true c.file-item.is all in
      found_listed c.args.manifest.now.granularity (g.D.Disk.files c.args.disk.now) ((c.args.place + 1, c.args.catalogue.now.rows), c.args.manifest.now.entries) c.args.place c.args.names.now
      c.loop-file.file-index n c.args.unlisted.now.items c.loop-file.unlisted.items c.loop-file-test.true c.file-item.is
      (is_none (IsUnlisted ((c.args.place + 1, c.args.catalogue.now.rows), c.args.manifest.now.entries) n) c.in_ok-is_unlisted.field-0 (c.in_ok-is_unlisted.ensures c.args.place store) c.if-not-branch.true) (c.loop-file.invariant.found told all);
  shape = c.loop-file.invariant.shape;
  read = c.loop-file.invariant.read;
}

pub loop-file-preserved : goal.loop-file-preserved
loop-file-preserved g c = record {
  found = λ told all.
      let n = c.file-item.result in
      let listing : Listing = ((c.args.place + 1, c.args.catalogue.now.rows), c.args.manifest.now.entries) in
      let unit = c.args.manifest.now.granularity in
      let store = at_store (c.args.place + 1) c.args.names.now c.loop-file.file-index n c.loop-file-test.true c.file-item.is all in
      let own : IsUnlisted listing n = (c.in_ok-is_unlisted.ensures c.args.place store).0 c.if-not-branch.false in
      let here : IsFoundAs unit (g.D.Disk.files c.args.disk.now) n c.in_ok-candidate.candidate =
      subst (λ (f : Files). IsFoundAs unit f n c.in_ok-candidate.candidate) (c.loop-file.invariant.read.files told) (subst (λ (u : Granularity). IsFoundAs u (g.D.Disk.files c.loop-file.disk) n c.in_ok-candidate.candidate) c.granularity.ensures
      (found_as c.granularity.result (g.D.Disk.files c.loop-file.disk) n c.in_ok-candidate.candidate (c.in_ok-candidate.ensures.found told) (c.in_ok-candidate.ensures.none told))) in
      let so = found_more unit (g.D.Disk.files c.args.disk.now) listing c.args.place c.args.names.now c.loop-file.file-index n c.in_ok-candidate.candidate c.args.unlisted.now.items c.loop-file.unlisted.items c.loop-file-test.true c.file-item.is own here (c.loop-file.invariant.found told all) in
      let items : c.push.new.self.items ≡ c.loop-file.unlisted.items ++ (record { place = c.args.place; file = c.in_ok-copy.field-0; candidate = c.in_ok-candidate.candidate }) ∷ [] = c.in_ok-push.ensures.items in
      subst (λ (l : List Unlisted). FoundSo unit (g.D.Disk.files c.args.disk.now) listing c.args.place c.args.names.now (c.loop-file.file-index + 1) c.args.unlisted.now.items l)
      (ap (λ (m : Name). c.loop-file.unlisted.items ++ (record { place = c.args.place; file = m; candidate = c.in_ok-candidate.candidate }) ∷ []) (sym c.in_ok-copy.ensures) ∙ sym items) so;
  shape = λ ms here all.
      let items : c.push.new.self.items ≡ c.loop-file.unlisted.items ++ (record { place = c.args.place; file = c.in_ok-copy.field-0; candidate = c.in_ok-candidate.candidate }) ∷ [] = c.in_ok-push.ensures.items in
      let one = of_place ms c.args.place c.args.manifest.now c.granularity.result c.in_ok-copy.field-0 c.in_ok-candidate.candidate here c.granularity.ensures (subst (λ (m : Name). IfSome c.in_ok-candidate.candidate (IsShapedOf c.granularity.result m)) (sym c.in_ok-copy.ensures) c.in_ok-candidate.ensures.shape) in
      subst (λ (l : List Unlisted). All (IsOfPlace ms) l) (sym items) (All-push (IsOfPlace ms) c.loop-file.unlisted.items (record { place = c.args.place; file = c.in_ok-copy.field-0; candidate = c.in_ok-candidate.candidate }) (c.loop-file.invariant.shape ms here all) one);
  read = read_then g.D.Disk _ _ _ c.loop-file.invariant.read c.find_candidate.ensures.read;
}

pub returns-in_err-copy-clause-read : goal.returns-in_err-copy-clause-read
returns-in_err-copy-clause-read g c = read_then g.D.Disk _ _ _ c.loop-file.invariant.read c.find_candidate.ensures.read

pub returns-clause-found : goal.returns-clause-found
returns-clause-found g c told all =
    found_all c.args.manifest.now.granularity (g.D.Disk.files c.args.disk.now) ((c.args.place + 1, c.args.catalogue.now.rows), c.args.manifest.now.entries) c.args.place c.args.names.now
    c.loop-file.file-index c.args.unlisted.now.items c.loop-file.unlisted.items (omega (arith, c.loop-file-test.false)) (c.loop-file.invariant.found told all)
