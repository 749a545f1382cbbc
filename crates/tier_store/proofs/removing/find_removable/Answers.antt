use Rattle.std.proofs.Common.{◌≡◌, ◌+◌, ◌++◌, ◌∷◌, [], List, true, take, sym, ◌∙◌, ap, subst, arith}
use Rattle.std.specs.Prelude.{IsSome}
use Rattle.disk_model.specs.Files.{Files, Name}
use Rattle.tier_store.specs.Limbo.{AreRemovable, IsLeftOver}
use Rattle.tier_store.proofs.Lines.{then_reads}
use Rattle.tier_store.proofs.Removals.{found_more, found_other, not_some_none}
use Rattle.tier_store.proofs.removing.find_removable.Goals as goal
use Rattle.tier_store.proofs.removing.find_removable.Goals.{then-there+in_ok-copy+in_ok-push, else-there}

pub loop-file-preserved-then-not-is_left_over : goal.loop-file-preserved-then-not-is_left_over
loop-file-preserved-then-not-is_left_over g c = record {
  found = λ tells order.
      found_other (IsLeftOver c.args.manifests.now c.args.pinned.now c.args.copied.now) c.args.files.now (g.D.Disk.files c.args.disk.now) c.loop-file.file-index c.file-item.result c.loop-file-test.true c.file-item.is c.loop-file.names.items (c.loop-file.invariant.found tells order)
      (λ goes. absurd (c.is_left_over.ensures.other order c.if-not-is_left_over.true goes));
  reads = c.loop-file.invariant.reads;
  faults = c.loop-file.invariant.faults;
}

pub loop-file-preserved : goal.loop-file-preserved
loop-file-preserved g c = elim c.if-there.branch [
  | then-there+in_ok-copy+in_ok-push w ↦
      let r = c.file-item.result in
      let Goes = IsLeftOver c.args.manifests.now c.args.pinned.now c.args.copied.now in
      let pushed : c.if-there.names.items ≡ c.loop-file.names.items ++ r.name ∷ [] = ap (λ v. v.items) w.names-is ∙ (w.in_ok-push.ensures.items ∙ ap (λ (n : Name). c.loop-file.names.items ++ n ∷ []) w.in_ok-copy.ensures) in
      record {
        found = λ tells order.
            let some = (c.in_ok-there.ensures.there tells).0 w.if-there.true in
            let goes = c.is_left_over.ensures.left order c.if-not-is_left_over.false in
            subst (λ (ns : List Name). AreRemovable Goes (take (c.loop-file.file-index + 1) c.args.files.now) (g.D.Disk.files c.args.disk.now) ns) (sym pushed)
            (found_more Goes c.args.files.now (g.D.Disk.files c.args.disk.now) c.loop-file.file-index r c.loop-file-test.true c.file-item.is c.loop-file.names.items (c.loop-file.invariant.found tells order) c.requires goes
            (subst (λ (f : Files). IsSome (f r.name)) (c.loop-file.invariant.reads tells).same some));
        reads = λ tells. then_reads _ _ _ (c.loop-file.invariant.reads tells) (c.is_there.ensures.reads tells);
        faults = omega (arith, c.loop-file.invariant.faults, c.is_there.ensures.faults);
      }
  | else-there w ↦
      let r = c.file-item.result in
      let Goes = IsLeftOver c.args.manifests.now c.args.pinned.now c.args.copied.now in
      let same : c.if-there.names.items ≡ c.loop-file.names.items = ap (λ v. v.items) w.names-is in
      record {
        found = λ tells order.
            let none = not_some_none (g.D.Disk.files c.args.disk.now r.name) (λ some.
            let yes : c.in_ok-there.there ≡ true = (c.in_ok-there.ensures.there tells).1 (subst (λ (f : Files). IsSome (f r.name)) (sym (c.loop-file.invariant.reads tells).same) some) in
            let no = w.if-there.false in
            absurd (cc (yes, no))) in
            subst (λ (ns : List Name). AreRemovable Goes (take (c.loop-file.file-index + 1) c.args.files.now) (g.D.Disk.files c.args.disk.now) ns) (sym same)
            (found_other Goes c.args.files.now (g.D.Disk.files c.args.disk.now) c.loop-file.file-index r c.loop-file-test.true c.file-item.is c.loop-file.names.items (c.loop-file.invariant.found tells order) (λ goes. none));
        reads = λ tells. then_reads _ _ _ (c.loop-file.invariant.reads tells) (c.is_there.ensures.reads tells);
        faults = omega (arith, c.loop-file.invariant.faults, c.is_there.ensures.faults);
      }
]
