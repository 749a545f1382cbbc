use Rattle.std.proofs.Common.{true, refl}
use Rattle.store_reopen.specs.Reopen.{stores_of}
use Rattle.store_reopen.proofs.AdoptedDisk.{adopts_from, done_adopts, left_adopts, load_site, none_opened, only_opens, found_loaded}
use Rattle.store_reopen.proofs.Counts.{settings_coarse}
use Rattle.store_reopen.proofs.Marking.{removes_none, loads_marked, site_loaded}
use Rattle.store_reopen.proofs.Having.{reopened}
use Rattle.store_reopen.proofs.Swept.{load_opens}
use Rattle.store_reopen.proofs.adopting.adopt_files.Goals as goal

pub load_stores-requires : goal.load_stores-requires
load_stores-requires g c =
    record { unopened = λ tells. ((c.requires.unopened tells).catalogue, (c.requires.unopened tells).manifests) }

pub adopt_loaded-requires-clause-ready : goal.adopt_loaded-requires-clause-ready
adopt_loaded-requires-clause-ready g c =
    (stores_of c.args.config.now, refl, c.in_ok-catalogue.ensures.loaded.ready)

pub adopt_loaded-requires-clause-has : goal.adopt_loaded-requires-clause-has
adopt_loaded-requires-clause-has g c tells =
    let gs = stores_of c.args.config.now in
    let old = c.args.disk.now in
    let mid = c.load_stores.new.disk in
    let cat = c.in_ok-catalogue.catalogue in
    let ms = c.in_ok-catalogue.manifests.items in
    (load_opens g.D.Disk gs old mid mid cat ms refl c.in_ok-catalogue.ensures.loaded c.requires.unopened c.load_stores.ensures.keeps (λ d told. g.met.D.Disk.seen d told) (λ told. removes_none g.D.Disk _ mid)).has

pub adopt_loaded-requires-clause-unopened : goal.adopt_loaded-requires-clause-unopened
adopt_loaded-requires-clause-unopened g c tells =
    let gs = stores_of c.args.config.now in
    let old = c.args.disk.now in
    let mid = c.load_stores.new.disk in
    let cat = c.in_ok-catalogue.catalogue in
    let ms = c.in_ok-catalogue.manifests.items in
    let opened = load_opens g.D.Disk gs old mid mid cat ms refl c.in_ok-catalogue.ensures.loaded c.requires.unopened c.load_stores.ensures.keeps (λ d told. g.met.D.Disk.seen d told) (λ told. removes_none g.D.Disk _ mid) in
    let has = opened.has in
    none_opened g.D.Disk gs old mid cat ms c.in_ok-catalogue.ensures.loaded.ready.granularity (c.load_stores.ensures.keeps tells) has.0 has.1 tells (g.met.D.Disk.seen mid tells) (c.in_ok-catalogue.ensures.loaded.said tells) (c.requires.found tells)

pub adopt_loaded-requires-clause-coarse : goal.adopt_loaded-requires-clause-coarse
adopt_loaded-requires-clause-coarse g c = settings_coarse c.args.config.now c.in_ok-catalogue.manifests.items c.in_ok-catalogue.ensures.loaded.ready.granularity c.requires.coarse

pub returns-in_err-catalogue-clause-adopts : goal.returns-in_err-catalogue-clause-adopts
returns-in_err-catalogue-clause-adopts g c tells =
    let gs = stores_of c.args.config.now in
    let old = c.args.disk.now in
    let mid = c.load_stores.new.disk in
    let keeps = c.load_stores.ensures.keeps tells in
    only_opens g.D.Disk gs old mid (reopened g.D.Disk gs old mid (c.requires.unopened tells) keeps)
    (λ before after opens. loads_marked gs (g.D.Disk.files old) (g.D.Disk.past old) (g.D.Disk.past mid) before after opens keeps.passes) (found_loaded g.D.Disk gs old mid keeps (c.requires.found tells)) (load_site g.D.Disk gs old mid keeps) (site_loaded g.D.Disk gs old mid keeps)

pub returns-in_err-adopted-clause-adopts : goal.returns-in_err-adopted-clause-adopts
returns-in_err-adopted-clause-adopts g c tells =
    let gs = stores_of c.args.config.now in
    let old = c.args.disk.now in
    let mid = c.load_stores.new.disk in
    let cat = c.in_ok-catalogue.catalogue in
    let ms = c.in_ok-catalogue.manifests.items in
    let cat₁ = c.adopt_loaded.new.catalogue in
    let m₁ = c.adopt_loaded.new.manifests.items in
    let new = c.adopt_loaded.new.disk in
    let opened = load_opens g.D.Disk gs old mid mid cat ms refl c.in_ok-catalogue.ensures.loaded c.requires.unopened c.load_stores.ensures.keeps (λ d told. g.met.D.Disk.seen d told) (λ told. removes_none g.D.Disk _ mid) in
    let has = opened.has in
    let begun = reopened g.D.Disk gs old mid (c.requires.unopened tells) (c.load_stores.ensures.keeps tells) in
    let none = none_opened g.D.Disk gs old mid cat ms c.in_ok-catalogue.ensures.loaded.ready.granularity (c.load_stores.ensures.keeps tells) has.0 has.1 tells (g.met.D.Disk.seen mid tells) (c.in_ok-catalogue.ensures.loaded.said tells) (c.requires.found tells) in
    left_adopts g.D.Disk gs old mid new cat ms cat₁ m₁ tells c.in_ok-catalogue.ensures.loaded.ready.granularity begun (g.met.D.Disk.seen new tells) (opened.whole tells) (opened.stands tells) has.0 has.1 (c.adopt_loaded.ensures.site tells) (c.load_stores.ensures.keeps tells) none
    (λ held had. c.in_err-adopted.ensures.leaves_off tells gs (g.D.Disk.files old) held c.in_ok-catalogue.ensures.loaded.ready.granularity begun.elsewhere had)
    (λ held had. c.adopt_loaded.ensures.marked tells gs (g.D.Disk.files old) held c.in_ok-catalogue.ensures.loaded.ready.granularity begun.elsewhere had)

pub returns-clause-adopts : goal.returns-clause-adopts
returns-clause-adopts g c tells =
    let gs = stores_of c.args.config.now in
    let old = c.args.disk.now in
    let mid = c.load_stores.new.disk in
    let cat = c.in_ok-catalogue.catalogue in
    let ms = c.in_ok-catalogue.manifests.items in
    let cat₁ = c.adopt_loaded.new.catalogue in
    let m₁ = c.adopt_loaded.new.manifests.items in
    let new = c.adopt_loaded.new.disk in
    let opened = load_opens g.D.Disk gs old mid mid cat ms refl c.in_ok-catalogue.ensures.loaded c.requires.unopened c.load_stores.ensures.keeps (λ d told. g.met.D.Disk.seen d told) (λ told. removes_none g.D.Disk _ mid) in
    let has = opened.has in
    let begun = reopened g.D.Disk gs old mid (c.requires.unopened tells) (c.load_stores.ensures.keeps tells) in
    let none = none_opened g.D.Disk gs old mid cat ms c.in_ok-catalogue.ensures.loaded.ready.granularity (c.load_stores.ensures.keeps tells) has.0 has.1 tells (g.met.D.Disk.seen mid tells) (c.in_ok-catalogue.ensures.loaded.said tells) (c.requires.found tells) in
    done_adopts g.D.Disk gs old mid new cat ms cat₁ m₁ tells c.in_ok-catalogue.ensures.loaded.ready.granularity begun (g.met.D.Disk.seen new tells) (opened.whole tells) (opened.stands tells) has.0 has.1 (c.adopt_loaded.ensures.site tells) (c.load_stores.ensures.keeps tells) none
    (λ held had. (c.in_ok-adopted.ensures.follows tells gs (g.D.Disk.files old) held c.in_ok-catalogue.ensures.loaded.ready.granularity begun.elsewhere had).all)
    (λ held had. c.adopt_loaded.ensures.marked tells gs (g.D.Disk.files old) held c.in_ok-catalogue.ensures.loaded.ready.granularity begun.elsewhere had)

pub returns-clause-adopted : goal.returns-clause-adopted
returns-clause-adopted g c tells before after opens =
    let gs = stores_of c.args.config.now in
    let old = c.args.disk.now in
    let mid = c.load_stores.new.disk in
    let cat = c.in_ok-catalogue.catalogue in
    let ms = c.in_ok-catalogue.manifests.items in
    let cat₁ = c.adopt_loaded.new.catalogue in
    let m₁ = c.adopt_loaded.new.manifests.items in
    let new = c.adopt_loaded.new.disk in
    let opened = load_opens g.D.Disk gs old mid mid cat ms refl c.in_ok-catalogue.ensures.loaded c.requires.unopened c.load_stores.ensures.keeps (λ d told. g.met.D.Disk.seen d told) (λ told. removes_none g.D.Disk _ mid) in
    let begun = reopened g.D.Disk gs old mid (c.requires.unopened tells) (c.load_stores.ensures.keeps tells) in
    let loads = opened.stands tells before after opens in
    let follows = c.in_ok-adopted.ensures.follows tells gs (g.D.Disk.files old) loads.held c.in_ok-catalogue.ensures.loaded.ready.granularity begun.elsewhere loads.has in
    record {
      adopts = adopts_from g.D.Disk gs old mid new cat ms cat₁ m₁ tells c.in_ok-catalogue.ensures.loaded.ready.granularity begun (g.met.D.Disk.seen new tells) true true before after opens loads follows.all;
      has = follows.all.makes.ends loads.held loads.has;
      counts = follows.counts;
    }

pub returns-clause-ready : goal.returns-clause-ready
returns-clause-ready g c =
    c.in_ok-adopted.ensures.ready (stores_of c.args.config.now) c.in_ok-catalogue.ensures.loaded.ready

pub returns-clause-whole : goal.returns-clause-whole
returns-clause-whole g c tells fine =
    let gs = stores_of c.args.config.now in
    let old = c.args.disk.now in
    let mid = c.load_stores.new.disk in
    let cat = c.in_ok-catalogue.catalogue in
    let ms = c.in_ok-catalogue.manifests.items in
    (load_opens g.D.Disk gs old mid mid cat ms refl c.in_ok-catalogue.ensures.loaded c.requires.unopened c.load_stores.ensures.keeps (λ d told. g.met.D.Disk.seen d told) (λ told. removes_none g.D.Disk _ mid)).whole tells

pub returns-clause-finished : goal.returns-clause-finished
returns-clause-finished g c tells = c.in_ok-adopted.ensures.finished tells
