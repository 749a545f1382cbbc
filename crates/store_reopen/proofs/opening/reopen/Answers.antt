use Rattle.std.proofs.Common.{◌≡◌, ◌+◌, ◌<◌, inl, ℕ, zero, suc, List, [], ◌∷◌, length, None, Some, refl, sym, ◌∙◌, ap, subst, arith}
use Rattle.std.specs.Prelude.{IsSome, slice_get}
use Rattle.disk_model.specs.Files.{Content}
use Rattle.pv_catalog.specs.Catalogue.{CatalogueState}
use Rattle.store_manifest.specs.Manifest.{ManifestState}
use Rattle.durable_write.specs.Held.{file_of}
use Rattle.tier_store.proofs.Retirements.{seen_new}
use Rattle.store_reopen.specs.Reopen.{IsOpenedAs, IsSwept, LeavesSite, Sweeps, stores_of}
use Rattle.store_reopen.specs.Strays.{IsFileOf}
use Rattle.store_reopen.proofs.Having.{count_of}
use Rattle.store_reopen.proofs.opening.reopen.Goals as goal

pub returns-in-Ok-clause-opened : goal.returns-in-Ok-clause-opened
returns-in-Ok-clause-opened g c =
    subst (λ s. IsOpenedAs g.D.Disk (stores_of c.args.config.now) c.args.disk s) (sym (seen_new g.D.Disk c.new.result c.in-Ok.catalogue c.in-Ok.manifests.items c.open_stores.new.disk c.new.ensures.rows c.new.ensures.lists c.new.ensures.disk)) c.in-Ok.ensures.opened

pub returns-in-Ok-clause-swept : goal.returns-in-Ok-clause-swept
returns-in-Ok-clause-swept g c tells = subst (λ d. IsSwept (stores_of c.args.config.now) (g.D.Disk.files c.args.disk) (g.D.Disk.files d) (g.D.Disk.past d)) (sym c.new.ensures.disk) (c.in-Ok.ensures.swept tells)

pub returns-in-Ok-clause-sweeps : goal.returns-in-Ok-clause-sweeps
returns-in-Ok-clause-sweeps g c tells = subst (λ d. Sweeps g.D.Disk (stores_of c.args.config.now) c.args.disk d) (sym c.new.ensures.disk) (c.open_stores.ensures.sweeps tells)

pub returns-in-Ok-clause-site : goal.returns-in-Ok-clause-site
returns-in-Ok-clause-site g c tells = subst (λ d. LeavesSite g.D.Disk (stores_of c.args.config.now) c.args.disk d) (sym c.new.ensures.disk) (c.open_stores.ensures.site tells)

pub returns-in-Ok-clause-tidy : goal.returns-in-Ok-clause-tidy
returns-in-Ok-clause-tidy g c tells finished place manifest n series part here store file stray =
    let disk = g.D.Disk in
    let ms = c.in-Ok.manifests.items in
    let rows = c.in-Ok.catalogue.rows in
    let there : slice_get ms place ≡ Some manifest = ap (λ (l : List ManifestState). slice_get l place) (sym c.new.ensures.lists) ∙ here in
    let own : IsFileOf manifest.granularity rows n.1 series part = subst (λ (x : CatalogueState). IsFileOf manifest.granularity x.rows n.1 series part) c.new.ensures.rows file in
    let low : place < 3 = subst (λ (k : ℕ). place < k) (count_of (stores_of c.args.config.now) ms refl c.in-Ok.ensures.opened.ready.granularity) (within ms place manifest there) in
    let none = c.in-Ok.ensures.gone tells finished n (record {
      place = place;
      low = low;
      manifest = manifest;
      here = there;
      stray = record {
        store = store;
        series = series;
        part = part;
        file = own;
        unlisted = λ e within named. stray.unknown (inl (record { place = place; manifest = manifest; here = here; entry = e; within = within; named = ap (λ (x : CatalogueState). file_of (place + 1, x.rows) e) c.new.ensures.rows ∙ named }));
      };
    }) in
    no_file (disk.files c.new.result.disk n) (ap (λ d. disk.files d n) c.new.ensures.disk ∙ none) stray.file
  where
    no_file : (content : Content) → content ≡ None → IsSome content → ⊥
    no_file None is some = cc (some)
    no_file (Some b) is some = cc (is)

    within : (ms : List ManifestState) (k : ℕ) (m : ManifestState) → slice_get ms k ≡ Some m → k < length ms
    within [] k m here = absurd (cc (here))
    within (x ∷ ms) zero m here = omega arith
    within (x ∷ ms) (suc k) m here = let low = within ms k m here in omega (arith, low)
