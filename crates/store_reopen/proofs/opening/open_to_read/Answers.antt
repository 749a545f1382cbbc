use Rattle.std.proofs.Common.{refl, sym, subst}
use Rattle.tier_store.proofs.Retirements.{seen_new}
use Rattle.store_reopen.specs.Reopen.{IsOpenedAs, LeavesSite, Reopens, stores_of}
use Rattle.store_reopen.proofs.Having.{reopened}
use Rattle.store_reopen.proofs.Marking.{removes_none, site_loaded}
use Rattle.store_reopen.proofs.Swept.{load_opens}
use Rattle.store_reopen.proofs.opening.open_to_read.Goals as goal

pub load_stores-requires : goal.load_stores-requires
load_stores-requires g c = record { unopened = λ tells. ((c.requires.unopened tells).catalogue, (c.requires.unopened tells).manifests) }

pub returns-in-Ok-clause-opened : goal.returns-in-Ok-clause-opened
returns-in-Ok-clause-opened g c =
    let gs = stores_of c.args.config.now in
    let mid = c.load_stores.new.disk in
    let cat = c.in-Ok.catalogue in
    let ms = c.in-Ok.manifests.items in
    subst (λ s. IsOpenedAs g.D.Disk gs c.args.disk s) (sym (seen_new g.D.Disk c.new.result cat ms mid c.new.ensures.rows c.new.ensures.lists c.new.ensures.disk))
    (load_opens g.D.Disk gs c.args.disk mid mid cat ms refl c.in-Ok.ensures.loaded c.requires.unopened c.load_stores.ensures.keeps (λ d told. g.met.D.Disk.seen d told) (λ told. removes_none g.D.Disk _ mid))

pub returns-in-Ok-clause-reopens : goal.returns-in-Ok-clause-reopens
returns-in-Ok-clause-reopens g c tells =
    subst (λ d. Reopens g.D.Disk (stores_of c.args.config.now) c.args.disk d) (sym c.new.ensures.disk) (reopened g.D.Disk (stores_of c.args.config.now) c.args.disk c.load_stores.new.disk (c.requires.unopened tells) (c.load_stores.ensures.keeps tells))

pub returns-in-Err-Disk-Fault-clause-reopens : goal.returns-in-Err-Disk-Fault-clause-reopens
returns-in-Err-Disk-Fault-clause-reopens g c tells = reopened g.D.Disk (stores_of c.args.config.now) c.args.disk c.load_stores.new.disk (c.requires.unopened tells) (c.load_stores.ensures.keeps tells)

pub returns-in-Err-Disk-Memory-clause-reopens : goal.returns-in-Err-Disk-Memory-clause-reopens
returns-in-Err-Disk-Memory-clause-reopens g c tells = reopened g.D.Disk (stores_of c.args.config.now) c.args.disk c.load_stores.new.disk (c.requires.unopened tells) (c.load_stores.ensures.keeps tells)

pub returns-in-Err-Damaged-clause-reopens : goal.returns-in-Err-Damaged-clause-reopens
returns-in-Err-Damaged-clause-reopens g c tells = reopened g.D.Disk (stores_of c.args.config.now) c.args.disk c.load_stores.new.disk (c.requires.unopened tells) (c.load_stores.ensures.keeps tells)

pub returns-in-Err-GranularityDiffers-clause-reopens : goal.returns-in-Err-GranularityDiffers-clause-reopens
returns-in-Err-GranularityDiffers-clause-reopens g c tells = reopened g.D.Disk (stores_of c.args.config.now) c.args.disk c.load_stores.new.disk (c.requires.unopened tells) (c.load_stores.ensures.keeps tells)

pub returns-in-Ok-clause-site : goal.returns-in-Ok-clause-site
returns-in-Ok-clause-site g c tells = subst (λ d. LeavesSite g.D.Disk (stores_of c.args.config.now) c.args.disk d) (sym c.new.ensures.disk) (site_loaded g.D.Disk (stores_of c.args.config.now) c.args.disk c.load_stores.new.disk (c.load_stores.ensures.keeps tells))

pub returns-in-Err-Disk-Fault-clause-site : goal.returns-in-Err-Disk-Fault-clause-site
returns-in-Err-Disk-Fault-clause-site g c tells = site_loaded g.D.Disk (stores_of c.args.config.now) c.args.disk c.load_stores.new.disk (c.load_stores.ensures.keeps tells)

pub returns-in-Err-Disk-Memory-clause-site : goal.returns-in-Err-Disk-Memory-clause-site
returns-in-Err-Disk-Memory-clause-site g c tells = site_loaded g.D.Disk (stores_of c.args.config.now) c.args.disk c.load_stores.new.disk (c.load_stores.ensures.keeps tells)

pub returns-in-Err-Damaged-clause-site : goal.returns-in-Err-Damaged-clause-site
returns-in-Err-Damaged-clause-site g c tells = site_loaded g.D.Disk (stores_of c.args.config.now) c.args.disk c.load_stores.new.disk (c.load_stores.ensures.keeps tells)

pub returns-in-Err-GranularityDiffers-clause-site : goal.returns-in-Err-GranularityDiffers-clause-site
returns-in-Err-GranularityDiffers-clause-site g c tells = site_loaded g.D.Disk (stores_of c.args.config.now) c.args.disk c.load_stores.new.disk (c.load_stores.ensures.keeps tells)
