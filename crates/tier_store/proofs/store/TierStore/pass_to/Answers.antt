use Rattle.std.proofs.Common.{refl, sym, ◌∙◌, ap, arith}
use Rattle.gate_journal.specs.DiskShown.{shown_by}
use Rattle.etl_mover.specs.Move.{Moving}
use Rattle.store_manifest.specs.declared.entry.Entry.{Entry}
use Rattle.tier_store.specs.Pinned.{beside}
use Rattle.tier_store.specs.Seen.{seen_on}
use Rattle.tier_store.proofs.CopyParts.{next_found, next_never, next_part, fronts_finished, further_finished, parts_finished, passes_finished, passes_none, passes_then}
use Rattle.tier_store.proofs.store.TierStore.pass_to.Goals as goal

pub manifest-requires-clause-last : goal.manifest-requires-clause-last
manifest-requires-clause-last g c = let three = c.requires.runs.2.known.three in omega (arith, three, c.requires.within)

pub loop-moving-init : goal.loop-moving-init
loop-moving-init g c = record { further = λ files held has is. is; passes = passes_none c.args.moving.now; most = c.requires.low; low = omega arith; fronts = refl; parts = refl }

pub unreachable-requires : goal.unreachable-requires
unreachable-requires g c =
    let runs = c.requires.runs in
    next_never g.D.Disk.tells _ c.args.place c.loop-moving.moving runs.0 runs.1 runs.2 (c.loop-moving.invariant.further runs.0 runs.1 runs.2 runs.3) c.manifest.result.now (c.manifest.ensures c.args.place refl) c.next_entry.result c.next_entry.ensures c.in_default.is

pub pass-requires-clause-running : goal.pass-requires-clause-running
pass-requires-clause-running g c = let runs = c.requires.runs in let is = c.loop-moving.invariant.further runs.0 runs.1 runs.2 runs.3 in (is.runs.fine, is.runs.running)

pub pass-requires-clause-left : goal.pass-requires-clause-left
pass-requires-clause-left g c = let runs = c.requires.runs in (c.loop-moving.invariant.further runs.0 runs.1 runs.2 runs.3).left

pub loop-moving-smaller : goal.loop-moving-smaller
loop-moving-smaller g c =
    let runs = c.requires.runs in
    let part = next_part g.D.Disk.tells _ c.args.place c.loop-moving.moving runs.0 runs.1 runs.2 (c.loop-moving.invariant.further runs.0 runs.1 runs.2 runs.3) in
    let more = ap (λ (x : Moving). x.at) (c.pass.ensures.passed part.0 part.1) in
    omega (arith, more, c.loop-moving-test.true, c.copied_parts.ensures)

pub loop-moving-preserved : goal.loop-moving-preserved
loop-moving-preserved g c =
    let disk = g.D.Disk in
    let self = c.args.self.now in
    let runs = c.requires.runs in
    let all = beside (seen_on (shown_by disk) disk.faults self.catalogue self.manifests.items self.disk) self.limbo.items in
    let move = c.loop-moving.moving in
    let inv = c.loop-moving.invariant in
    let part = next_part disk.tells all c.args.place move runs.0 runs.1 runs.2 (inv.further runs.0 runs.1 runs.2 runs.3) in
    let passed = c.pass.ensures.passed part.0 part.1 in
    let more = ap (λ (x : Moving). x.at) passed in
    let long = inv.passes.long in
    record {
      further = λ files held has is.
          let is_now = inv.further files held has is in
          let q = next_found disk.tells all c.args.place move files held has is_now c.manifest.result.now (c.manifest.ensures c.args.place refl) c.next_entry.result c.next_entry.ensures c.in-Some.entry c.in-Some.is in
          further_finished disk.tells all c.args.place move c.pass.new.self files held has is_now part.0 part.1 q.0 q.1 c.in-Some.entry.len (ap (λ (e : Entry). e.len) (sym q.2)) passed (c.pass.ensures.running is_now.runs.fine is_now.runs.running)
          (λ all. omega (arith, all, long, c.requires.high, c.loop-moving-test.true, c.copied_parts.ensures));
      passes = passes_then c.args.moving.now move c.pass.new.self inv.passes (passes_finished move c.pass.new.self part.0 c.in-Some.entry.len passed);
      most = omega (arith, more, c.loop-moving-test.true, c.copied_parts.ensures);
      low = let was = inv.low in omega (arith, was, more);
      fronts = fronts_finished c.args.moving.now.at move c.pass.new.self part.0 c.in-Some.entry.len inv.low passed ∙ inv.fronts;
      parts = parts_finished move c.pass.new.self part.0 c.in-Some.entry.len part.1 passed ∙ inv.parts;
    }

pub returns-clause-further : goal.returns-clause-further
returns-clause-further g c files held has is = c.loop-moving.invariant.further files held has is

pub returns-clause-at : goal.returns-clause-at
returns-clause-at g c = let most = c.loop-moving.invariant.most in omega (arith, most, c.loop-moving-test.false, c.copied_parts.ensures)
