use Rattle.std.proofs.Common.{◌≡◌, ◌+◌, List, length, take, sym, ap, subst, arith}
use Rattle.std.proofs.lemmas.List.{length-map, take_all}
use Rattle.std.proofs.lemmas.List.Elements.{All-contains}
use Rattle.disk_model.specs.Files.{Files}
use Rattle.series_model.specs.Series.{over}
use Rattle.series_model.specs.declared.sample.Sample.{Sample}
use Rattle.store_manifest.specs.declared.entry.Entry.{Entry}
use Rattle.durable_write.specs.Held.{Filed, Shelf, entry_of}
use Rattle.tier_store.specs.Counting.{behind}
use Rattle.tier_store.specs.Details.{IsTally, IsWhole}
use Rattle.tier_store.specs.Tallying.{end_of_files, listed_count}
use Rattle.tier_store.proofs.Lines.{then_reads}
use Rattle.tier_store.proofs.Tallies.{adds_more, ends_more, file_at, flat}
use Rattle.tier_store.proofs.tallying.add_files.Goals as goal

pub loop-entry-preserved : goal.loop-entry-preserved
loop-entry-preserved g c = record {
  tally = λ tells h files samples are whole rises was.
      let shelf : Shelf = (c.args.store, c.args.rows.now) in
      let at = file_at files c.args.entries.now c.loop-entry.entry-index c.entry-item.result samples are c.loop-entry-test.true c.entry-item.is rises in
      let same = (c.loop-entry.invariant.reads tells).same in
      let here : IsWhole h shelf (g.D.Disk.files c.loop-entry.disk) at.file = subst (λ (f : Files). IsWhole h shelf f at.file) (sym same) (All-contains (IsWhole h shelf (g.D.Disk.files c.args.disk.now)) files at.file whole at.within) in
      subst (λ (l : List Sample). IsTally l c.in_ok-tally.tally) (sym at.adds)
      (c.in_ok-tally.ensures.tally tells h at.file (over samples (flat (take c.loop-entry.entry-index files))) at.entry here (c.loop-entry.invariant.tally tells h files samples are whole rises was));
  listed = adds_more c.args.tally c.loop-entry.tally c.in_ok-tally.tally c.args.entries.now c.loop-entry.entry-index c.entry-item.result c.loop-entry-test.true c.entry-item.is c.loop-entry.invariant.listed c.in_ok-tally.ensures.listed;
  ends = ends_more (behind c.args.tally.last) c.args.entries.now c.loop-entry.entry-index c.entry-item.result (behind c.loop-entry.tally.last) (behind c.in_ok-tally.tally.last) c.loop-entry-test.true c.entry-item.is c.loop-entry.invariant.ends c.in_ok-tally.ensures.ends;
  reads = λ tells. then_reads _ _ _ (c.loop-entry.invariant.reads tells) (c.in_ok-tally.ensures.reads tells);
  faults = omega (arith, c.loop-entry.invariant.faults, c.in_ok-tally.ensures.faults);
}

pub returns-clause-tally : goal.returns-clause-tally
returns-clause-tally g c tells h files samples are whole rises was =
    let long = ap length are in
    let all : take c.loop-entry.entry-index files ≡ files = take_all c.loop-entry.entry-index files (omega (arith, long, length-map files entry_of, c.loop-entry-test.false)) in
    subst (λ (l : List Filed). IsTally (over samples (flat l)) c.loop-entry.tally) all (c.loop-entry.invariant.tally tells h files samples are whole rises was)

pub returns-clause-listed : goal.returns-clause-listed
returns-clause-listed g c rise =
    let all : take c.loop-entry.entry-index c.args.entries.now ≡ c.args.entries.now = take_all c.loop-entry.entry-index c.args.entries.now (omega (arith, c.loop-entry-test.false)) in
    let t = c.loop-entry.tally in
    let old = c.args.tally in
    subst (λ (l : List Entry). (t.count ≡ old.count + listed_count l) × (behind t.last ≡ end_of_files (behind old.last) l)) all (c.loop-entry.invariant.listed rise)

pub returns-clause-ends : goal.returns-clause-ends
returns-clause-ends g c =
    let all : take c.loop-entry.entry-index c.args.entries.now ≡ c.args.entries.now = take_all c.loop-entry.entry-index c.args.entries.now (omega (arith, c.loop-entry-test.false)) in
    subst (λ (l : List Entry). behind c.loop-entry.tally.last ≡ end_of_files (behind c.args.tally.last) l) all c.loop-entry.invariant.ends
