use Rattle.std.proofs.Common.{◌≡◌, ℕ, List, length, Option, IfSome, Bor, subst, arith}
use Rattle.std.specs.Iterator.{YieldsFirstBy}
use Rattle.std.proofs.lemmas.Iterator.{YieldsList}
use Rattle.std.proofs.lemmas.Iterator.Consumers.{YieldsList-from_first, YieldsList-turn, YieldsList-end}
use Rattle.std.proofs.lemmas.List.{length_push}
use Rattle.gate_journal.specs.DiskShown.{shown_by}
use Rattle.store_manifest.specs.declared.entry.Entry.{Entry}
use Rattle.tier_store.proofs.Lines.{then_reads}
use Rattle.store_reopen.specs.Verdict.{EndsEarly}
use Rattle.store_reopen.proofs.Verdicts.{all_there, first_short, there_more, no_some}
use Rattle.store_reopen.proofs.files.check_store.Goals as goal

-- the iterator gives the entries
abbrev seen_by : (entries left : List Entry) → left ≡ entries → YieldsList (YieldsFirstBy (λ (x : Bor Entry). x.now) (λ (l : List Entry). l)) (λ (x : Bor Entry). x.now) left entries
seen_by entries left is = YieldsList-from_first (λ (x : Bor Entry). x.now) (λ (l : List Entry). l) entries is

pub returns-in-Some-2-clause-told : goal.returns-in-Some-2-clause-told
returns-in-Some-2-clause-told g c tells =
    let t = YieldsList-turn (seen_by c.args.manifest.now.entries c.into_iter-entry-iterator.result (cc)) c.loop-entry.yielded _ c.loop-entry.yielded_by _ _ c.in-Some.entry c.in-Some.is c.next.ensures.steps in
    let short = subst (λ (o : Option ℕ). IfSome o (λ at. EndsEarly c.in-Some.entry.now.len at (g.D.Disk.files c.loop-entry.disk c.set_name.new.name))) c.in-Some-2.is (c.in_ok-at.ensures.short tells) in
    first_short c.args.place (g.D.Disk.files c.args.disk.now) (g.D.Disk.files c.loop-entry.disk) c.args.rows.now c.args.manifest.now.entries c.set_name.new.name c.in-Some-2.at (length c.loop-entry.yielded) c.in-Some.entry.now
    (c.loop-entry.invariant.reads tells).same t.0 t.1 (c.loop-entry.invariant.there tells) c.in_ok-set_name.ensures short

pub loop-entry-preserved : goal.loop-entry-preserved
loop-entry-preserved g c =
    let t = YieldsList-turn (seen_by c.args.manifest.now.entries c.into_iter-entry-iterator.result (cc)) c.loop-entry.yielded _ c.loop-entry.yielded_by _ _ c.in-Some.entry c.in-Some.is c.next.ensures.steps in
    let none = no_some c.in_ok-at.field-0 c.in_default.not-Some in
    record {
      there = λ tells.
          let long = c.in_ok-at.ensures.long tells none in
          there_more c.args.place (g.D.Disk.files c.args.disk.now) (g.D.Disk.files c.loop-entry.disk) c.args.rows.now c.args.manifest.now.entries c.set_name.new.name (length c.loop-entry.yielded) _ c.in-Some.entry.now (length_push c.loop-entry.yielded c.in-Some.entry) t.0 t.1 (c.loop-entry.invariant.reads tells).same (c.loop-entry.invariant.there tells) c.in_ok-set_name.ensures long;
      reads = λ tells. then_reads (shown_by g.D.Disk c.args.disk.now) (shown_by g.D.Disk c.loop-entry.disk) (shown_by g.D.Disk c.shortfall.new.disk) (c.loop-entry.invariant.reads tells) (c.shortfall.ensures.reads tells);
      faults = omega (arith, c.loop-entry.invariant.faults, c.shortfall.ensures.faults);
    }

pub returns-clause-there : goal.returns-clause-there
returns-clause-there g c tells =
    let t = YieldsList-end (seen_by c.args.manifest.now.entries c.into_iter-entry-iterator.result (cc)) c.loop-entry.yielded _ c.loop-entry.yielded_by _ _ c.in-None.is c.next.ensures.steps in
    all_there c.args.place (g.D.Disk.files c.args.disk.now) c.args.rows.now c.args.manifest.now.entries (length c.loop-entry.yielded) t.1 (c.loop-entry.invariant.there tells)
