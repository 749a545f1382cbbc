use Rattle.std.proofs.Common.{List, length, refl, sym, ◌∙◌, ap, subst}
use Rattle.std.specs.Prelude.{slice_get}
use Rattle.store_manifest.specs.Manifest.{ManifestState}
use Rattle.store_reopen.specs.Reopen.{stores_of}
use Rattle.store_reopen.specs.Strays.{AreGone, IsStrayBelow, Removes, adoption_name}
use Rattle.store_reopen.proofs.Having.{count_of, reopened}
use Rattle.store_reopen.proofs.Marking.{site_loaded, site_swept, site_then}
use Rattle.store_reopen.proofs.Swept.{is_finished, load_opens, load_sweeps, load_swept, no_file, sweeps_none, sweeps_or_none}
use Rattle.store_reopen.proofs.opening.load_and_sweep.Goals as goal

pub load_stores-requires : goal.load_stores-requires
load_stores-requires g c = record { unopened = λ tells. ((c.requires.unopened tells).catalogue, (c.requires.unopened tells).manifests) }

pub sweep_finished-requires-clause-three : goal.sweep_finished-requires-clause-three
sweep_finished-requires-clause-three g c = ap length c.deref.ensures.value ∙ count_of (stores_of c.args.config.now) c.in_ok-catalogue.manifests.items refl c.in_ok-catalogue.ensures.loaded.ready.granularity

pub sweep_finished-requires-clause-rows : goal.sweep_finished-requires-clause-rows
sweep_finished-requires-clause-rows g c = c.in_ok-catalogue.ensures.loaded.ready.rows

pub sweep_finished-requires-clause-entries : goal.sweep_finished-requires-clause-entries
sweep_finished-requires-clause-entries g c i m here = c.in_ok-catalogue.ensures.loaded.ready.entries i m (ap (λ (l : List ManifestState). slice_get l i) (sym c.deref.ensures.value) ∙ here)

pub sweep_finished-requires-clause-of_rows : goal.sweep_finished-requires-clause-of_rows
sweep_finished-requires-clause-of_rows g c i m here = c.in_ok-catalogue.ensures.loaded.ready.of_rows i m (ap (λ (l : List ManifestState). slice_get l i) (sym c.deref.ensures.value) ∙ here)

pub returns-in_err-catalogue-clause-sweeps : goal.returns-in_err-catalogue-clause-sweeps
returns-in_err-catalogue-clause-sweeps g c tells =
    sweeps_none g.D.Disk (stores_of c.args.config.now) c.args.disk.now c.load_stores.new.disk (reopened g.D.Disk (stores_of c.args.config.now) c.args.disk.now c.load_stores.new.disk (c.requires.unopened tells) (c.load_stores.ensures.keeps tells))

pub returns-in_err-sweep_finished-clause-sweeps : goal.returns-in_err-sweep_finished-clause-sweeps
returns-in_err-sweep_finished-clause-sweeps g c tells =
    sweeps_or_none g.D.Disk (stores_of c.args.config.now) c.args.disk.now c.load_stores.new.disk c.sweep_finished.new.disk c.args.unfinished c.sweep_finished.ensures.left
    (reopened g.D.Disk (stores_of c.args.config.now) c.args.disk.now c.load_stores.new.disk (c.requires.unopened tells) (c.load_stores.ensures.keeps tells))
    (λ finished. load_sweeps g.D.Disk (stores_of c.args.config.now) c.args.disk.now c.load_stores.new.disk c.sweep_finished.new.disk c.in_ok-catalogue.catalogue c.in_ok-catalogue.manifests.items refl c.in_ok-catalogue.ensures.loaded
    c.requires.unopened c.load_stores.ensures.keeps (λ d told. g.met.D.Disk.seen d told)
    (λ told. subst (λ (l : List ManifestState). Removes g.D.Disk (IsStrayBelow 3 c.in_ok-catalogue.catalogue.rows l) c.load_stores.new.disk c.sweep_finished.new.disk) c.deref.ensures.value (c.sweep_finished.ensures.removes told)) tells (no_file c.args.unfinished (g.D.Disk.files c.args.disk.now adoption_name) (c.requires.says tells) finished))

pub returns-clause-opened : goal.returns-clause-opened
returns-clause-opened g c = load_opens g.D.Disk (stores_of c.args.config.now) c.args.disk.now c.load_stores.new.disk c.sweep_finished.new.disk c.in_ok-catalogue.catalogue c.in_ok-catalogue.manifests.items refl c.in_ok-catalogue.ensures.loaded
    c.requires.unopened c.load_stores.ensures.keeps (λ d told. g.met.D.Disk.seen d told)
    (λ told. subst (λ (l : List ManifestState). Removes g.D.Disk (IsStrayBelow 3 c.in_ok-catalogue.catalogue.rows l) c.load_stores.new.disk c.sweep_finished.new.disk) c.deref.ensures.value (c.sweep_finished.ensures.removes told))

pub returns-clause-swept : goal.returns-clause-swept
returns-clause-swept g c tells n stray =
    load_swept g.D.Disk (stores_of c.args.config.now) c.args.disk.now c.load_stores.new.disk c.sweep_finished.new.disk c.in_ok-catalogue.catalogue c.in_ok-catalogue.manifests.items refl c.in_ok-catalogue.ensures.loaded
    c.requires.unopened c.load_stores.ensures.keeps (λ d told. g.met.D.Disk.seen d told)
    (λ told. subst (λ (l : List ManifestState). Removes g.D.Disk (IsStrayBelow 3 c.in_ok-catalogue.catalogue.rows l) c.load_stores.new.disk c.sweep_finished.new.disk) c.deref.ensures.value (c.sweep_finished.ensures.removes told))
    tells (subst (λ (l : List ManifestState). AreGone (IsStrayBelow 3 c.in_ok-catalogue.catalogue.rows l) (g.D.Disk.files c.load_stores.new.disk) (g.D.Disk.files c.sweep_finished.new.disk) (g.D.Disk.past c.sweep_finished.new.disk)) c.deref.ensures.value (c.in_ok-sweep_finished.ensures.gone tells (is_finished c.args.unfinished (g.D.Disk.files c.args.disk.now adoption_name) (c.requires.says tells) stray.finished))) n stray

pub returns-clause-sweeps : goal.returns-clause-sweeps
returns-clause-sweeps g c tells =
    sweeps_or_none g.D.Disk (stores_of c.args.config.now) c.args.disk.now c.load_stores.new.disk c.sweep_finished.new.disk c.args.unfinished c.sweep_finished.ensures.left
    (reopened g.D.Disk (stores_of c.args.config.now) c.args.disk.now c.load_stores.new.disk (c.requires.unopened tells) (c.load_stores.ensures.keeps tells))
    (λ finished. load_sweeps g.D.Disk (stores_of c.args.config.now) c.args.disk.now c.load_stores.new.disk c.sweep_finished.new.disk c.in_ok-catalogue.catalogue c.in_ok-catalogue.manifests.items refl c.in_ok-catalogue.ensures.loaded
    c.requires.unopened c.load_stores.ensures.keeps (λ d told. g.met.D.Disk.seen d told)
    (λ told. subst (λ (l : List ManifestState). Removes g.D.Disk (IsStrayBelow 3 c.in_ok-catalogue.catalogue.rows l) c.load_stores.new.disk c.sweep_finished.new.disk) c.deref.ensures.value (c.sweep_finished.ensures.removes told)) tells (no_file c.args.unfinished (g.D.Disk.files c.args.disk.now adoption_name) (c.requires.says tells) finished))

pub returns-clause-gone : goal.returns-clause-gone
returns-clause-gone g c tells finished n stray =
    (c.in_ok-sweep_finished.ensures.gone tells (is_finished c.args.unfinished (g.D.Disk.files c.args.disk.now adoption_name) (c.requires.says tells) finished) n
    (subst (λ (l : List ManifestState). IsStrayBelow 3 c.in_ok-catalogue.catalogue.rows l n) (sym c.deref.ensures.value) stray)).0

pub returns-in_err-catalogue-clause-site : goal.returns-in_err-catalogue-clause-site
returns-in_err-catalogue-clause-site g c tells = site_loaded g.D.Disk (stores_of c.args.config.now) c.args.disk.now c.load_stores.new.disk (c.load_stores.ensures.keeps tells)

pub returns-in_err-sweep_finished-clause-site : goal.returns-in_err-sweep_finished-clause-site
returns-in_err-sweep_finished-clause-site g c tells =
    site_then g.D.Disk (stores_of c.args.config.now) c.args.disk.now c.load_stores.new.disk c.sweep_finished.new.disk (site_loaded g.D.Disk (stores_of c.args.config.now) c.args.disk.now c.load_stores.new.disk (c.load_stores.ensures.keeps tells))
    (site_swept g.D.Disk (stores_of c.args.config.now) _ _ c.load_stores.new.disk c.sweep_finished.new.disk (c.sweep_finished.ensures.removes tells))

pub returns-clause-site : goal.returns-clause-site
returns-clause-site g c tells =
    site_then g.D.Disk (stores_of c.args.config.now) c.args.disk.now c.load_stores.new.disk c.sweep_finished.new.disk (site_loaded g.D.Disk (stores_of c.args.config.now) c.args.disk.now c.load_stores.new.disk (c.load_stores.ensures.keeps tells))
    (site_swept g.D.Disk (stores_of c.args.config.now) _ _ c.load_stores.new.disk c.sweep_finished.new.disk (c.sweep_finished.ensures.removes tells))
