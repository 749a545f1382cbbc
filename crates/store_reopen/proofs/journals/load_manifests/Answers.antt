use Rattle.std.proofs.Common.{◌≡◌, ◌+◌, [], ◌∷◌, length, true, Some, refl, sym, ◌∙◌, ap, arith, length-append}
use Rattle.std.specs.Prelude.{slice_get}
use Rattle.std.proofs.lemmas.Option.{slice_get_within}
use Rattle.std.proofs.lemmas.Result.{err_from_is_err_and}
use Rattle.disk_model.proofs.Passing.{passes_none}
use Rattle.gate_journal.specs.Kept.{Says}
use Rattle.gate_journal.specs.DiskShown.{shown_by}
use Rattle.gate_journal.proofs.Keeping.{says_stays}
use Rattle.store_manifest.specs.Batches.{Folds}
use Rattle.store_manifest.specs.Entries.{AreEntries}
use Rattle.store_manifest.specs.Manifest.{IsKept, manifest_name}
use Rattle.durable_write.proofs.Staying.{manifests_differ}
use Rattle.store_reopen.specs.Loading.{Manifest}
use Rattle.store_reopen.specs.Reopen.{stores_of, lists_of}
use Rattle.store_reopen.proofs.Having.{kept_then, kept_same}
use Rattle.store_reopen.proofs.Verdicts.{no_manifest, one_more, one_further, said_below}
use Rattle.store_reopen.proofs.journals.load_manifests.Goals as goal

pub loop-place-init : goal.loop-place-init
loop-place-init g c =
    let none = c.new-manifests.ensures.items in
    let ms = c.new-manifests.result.items in
    record {
      few = omega arith;
      count = ap length none;
      kept = λ tells. no_manifest (λ i m. IsKept m (shown_by g.D.Disk c.args.disk.now)) ms none;
      said = λ tells. no_manifest (λ i m. Says (Folds m.granularity) m.entries (manifest_name (i + 1)) (g.D.Disk.files c.args.disk.now)) ms none;
      names = no_manifest (λ i m. m.journal.name ≡ manifest_name (i + 1)) ms none;
      sound = no_manifest (λ i m. m.journal.sound ≡ true) ms none;
      granularity = no_manifest (λ i m. slice_get (stores_of c.args.config.now) i ≡ Some m.granularity) ms none;
      nested = λ i few low. absurd (omega (arith, low));
      are = no_manifest (λ i m. AreEntries m.granularity m.entries) ms none;
      rest = λ tells i n from low own. refl;
      catalogue = λ tells s named stored. stored;
      keeps = λ tells. kept_same (stores_of c.args.config.now) (shown_by g.D.Disk c.args.disk.now) (passes_none (λ a b. b ≡ a) (g.D.Disk.past c.args.disk.now) (λ a left. refl));
      faults = omega arith;
    }

pub load_manifest-requires-clause-unopened : goal.load_manifest-requires-clause-unopened
load_manifest-requires-clause-unopened g c tells = (c.loop-place.invariant.keeps tells).none_opened (Manifest c.loop-place.place) (c.requires.unopened tells c.loop-place.place c.loop-place-test.true)

pub loop-place-preserved : goal.loop-place-preserved
loop-place-preserved g c =
    let ms = c.loop-place.manifests.items in
    let made = c.push.new.self.items in
    let m = c.in_ok-manifest.manifest in
    let place = c.loop-place.place in
    let was = c.loop-place.invariant in
    let says = c.in_ok-manifest.ensures in
    let own = says.loaded in
    let is = c.in_ok-push.ensures.items in
    let disk = c.load_manifest.new.disk in
    record {
      few = omega (arith, c.loop-place-test.true);
      count = ap length is ∙ length-append ms (m ∷ []) ∙ omega (arith, was.count);
      kept = λ tells. one_more (λ i k. IsKept k (shown_by g.D.Disk disk)) ms made m place is was.count
          (λ i k here. let low = slice_get_within ms i k here in says.earlier tells i k (omega (arith, low, was.count)) (was.names i k here) (was.kept tells i k here)) (own.kept tells);
      said = λ tells. one_more (λ i k. Says (Folds k.granularity) k.entries (manifest_name (i + 1)) (g.D.Disk.files c.args.disk.now)) ms made m place is was.count (was.said tells)
          (says_stays (Folds m.granularity) m.entries (manifest_name (place + 1)) (g.D.Disk.files c.loop-place.disk) (g.D.Disk.files c.args.disk.now) (λ n its. sym (was.rest tells place n (omega arith) c.loop-place-test.true its)) (own.said tells));
      names = one_more (λ i k. k.journal.name ≡ manifest_name (i + 1)) ms made m place is was.count was.names own.name;
      sound = one_more (λ i k. k.journal.sound ≡ true) ms made m place is was.count was.sound own.sound;
      granularity = one_more (λ i k. slice_get (stores_of c.args.config.now) i ≡ Some k.granularity) ms made m place is was.count was.granularity own.granularity;
      nested = λ i few low. one_further i place (λ earlier. was.nested i few earlier) (λ last. own.nested i few last) low;
      are = one_more (λ i k. AreEntries k.granularity k.entries) ms made m place is was.count was.are own.are;
      rest = λ tells i n from low its. says.others tells n (λ too. manifests_differ (i + 1) (place + 1) (λ same. omega (arith, same, from)) n its too) ∙ was.rest tells i n (omega (arith, from)) low its;
      catalogue = λ tells s named stored. says.catalogue tells s named (was.catalogue tells s named stored);
      keeps = λ tells. kept_then (stores_of c.args.config.now) _ _ _ (was.keeps tells) (says.keeps tells);
      faults = omega (arith, was.faults, says.faults);
    }

pub returns-in_err-manifest-clause-told : goal.returns-in_err-manifest-clause-told
returns-in_err-manifest-clause-told g c tells seen rows says same =
    let p = err_from_is_err_and c.from_residual.result c.from_residual.ensures.1 in
    let ms = c.loop-place.manifests.items in
    let was = c.loop-place.invariant in
    let earlier = said_below (stores_of c.args.config.now) (g.D.Disk.files c.args.disk.now) seen ms c.loop-place.place was.count was.few (was.said tells) was.granularity same in
    rw (p.1, p.2) (c.in_err-manifest.ensures.told tells seen rows (lists_of ms) says earlier (λ n own. was.rest tells c.loop-place.place n (omega arith) c.loop-place-test.true own ∙ same c.loop-place.place n c.loop-place-test.true own))

pub returns-in_err-manifest-clause-keeps : goal.returns-in_err-manifest-clause-keeps
returns-in_err-manifest-clause-keeps g c tells = kept_then (stores_of c.args.config.now) _ _ _ (c.loop-place.invariant.keeps tells) (c.load_manifest.ensures.keeps tells)

pub returns-in_err-push-clause-keeps : goal.returns-in_err-push-clause-keeps
returns-in_err-push-clause-keeps g c tells = kept_then (stores_of c.args.config.now) _ _ _ (c.loop-place.invariant.keeps tells) (c.load_manifest.ensures.keeps tells)

pub returns-clause-loaded : goal.returns-clause-loaded
returns-clause-loaded g c =
    let was = c.loop-place.invariant in
    record {
      kept = was.kept;
      said = was.said;
      three = omega (arith, was.count, was.few, c.loop-place-test.false);
      names = was.names;
      sound = was.sound;
      granularity = was.granularity;
      nested = λ i low. was.nested i low (omega (arith, low, c.loop-place-test.false));
      are = was.are;
    }
