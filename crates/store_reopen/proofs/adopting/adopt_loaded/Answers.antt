use Rattle.std.proofs.Common.{inl, inr, true, false, ◌∙◌}
use Rattle.std.proofs.lemmas.Result.{err_from_is_err_and}
use Rattle.store_reopen.proofs.Swept.{journals_site, marks_same, marks_site, site_then}
use Rattle.store_reopen.proofs.Stages.{follows_before, follows_behind, follows_stopped, none_later, steps_marked}
use Rattle.store_reopen.proofs.Marking.{marked_begun, marked_end, marked_made, has_marked, marks_then}
use Rattle.store_reopen.proofs.adopting.adopt_loaded.Goals as goal

pub adopt_found-requires-clause-has : goal.adopt_found-requires-clause-has
adopt_found-requires-clause-has g c tells =
    let was = c.requires.has tells in (was.0, has_marked g.D.Disk c.args.catalogue.now c.args.manifests.now.items c.args.disk.now c.begin_adoption.new.disk c.begin_adoption.ensures.marks was.0 was.1)

pub adopt_found-requires-clause-unopened : goal.adopt_found-requires-clause-unopened
adopt_found-requires-clause-unopened g c tells = none_later c.args.catalogue.now.rows c.args.manifests.now.items (g.D.Disk.opened c.args.disk.now) (g.D.Disk.opened c.begin_adoption.new.disk) (c.begin_adoption.ensures.marks tells).fewer (c.requires.unopened tells)

pub returns-in_err-begin_adoption-clause-leaves_off : goal.returns-in_err-begin_adoption-clause-leaves_off
returns-in_err-begin_adoption-clause-leaves_off g c tells gs image held of_gs same has = let p = err_from_is_err_and c.from_residual.result c.from_residual.ensures.1 in rw p.1 (inl (c.begin_adoption.ensures.marks tells))

pub returns-in_err-begin_adoption-clause-site : goal.returns-in_err-begin_adoption-clause-site
returns-in_err-begin_adoption-clause-site g c tells = marks_site g.D.Disk c.args.disk.now c.begin_adoption.new.disk (c.begin_adoption.ensures.marks tells)

pub returns-in_err-adopted-clause-leaves_off : goal.returns-in_err-adopted-clause-leaves_off
returns-in_err-adopted-clause-leaves_off g c tells gs image held of_gs same has =
    let disk = g.D.Disk in
    let cat = c.args.catalogue.now in
    let ms = c.args.manifests.now.items in
    let old = c.args.disk.now in
    let mid = c.begin_adoption.new.disk in
    let new = c.adopt_found.new.disk in
    let marks = c.begin_adoption.ensures.marks in
    let p = err_from_is_err_and c.from_residual-in_err-adopted.result c.from_residual-in_err-adopted.ensures.1 in
    rw p.1 (elim (c.in_err-adopted.ensures.leaves_off tells gs image held of_gs (λ n other. marks_same disk _ _ (marks tells).now n other ∙ same n other) (has_marked disk cat ms old mid marks held has)) [
      | inl more ↦ inl (marks_then disk old mid new (marks tells) more)
      | inr (whole, follows) ↦ inr (whole, follows_before disk gs image held cat ms old mid c.adopt_found.new.catalogue c.adopt_found.new.manifests.items new whole false (steps_marked disk cat ms old mid marks c.begin_adoption.ensures.faults) follows)
    ])

pub returns-in_err-adopted-clause-site : goal.returns-in_err-adopted-clause-site
returns-in_err-adopted-clause-site g c tells = site_then g.D.Disk c.args.disk.now c.begin_adoption.new.disk c.adopt_found.new.disk (marks_site g.D.Disk c.args.disk.now c.begin_adoption.new.disk (c.begin_adoption.ensures.marks tells)) (journals_site g.D.Disk c.begin_adoption.new.disk c.adopt_found.new.disk (c.adopt_found.ensures.spares tells))

pub returns-in_err-end_adoption-clause-leaves_off : goal.returns-in_err-end_adoption-clause-leaves_off
returns-in_err-end_adoption-clause-leaves_off g c tells gs image held of_gs same has =
    let disk = g.D.Disk in
    let cat = c.args.catalogue.now in
    let ms = c.args.manifests.now.items in
    let old = c.args.disk.now in
    let mid = c.begin_adoption.new.disk in
    let made = c.adopt_found.new.disk in
    let new = c.end_adoption.new.disk in
    let cat₁ = c.adopt_found.new.catalogue in
    let m₁ = c.adopt_found.new.manifests.items in
    let marks = c.begin_adoption.ensures.marks in
    let p = err_from_is_err_and c.from_residual-in_err-end_adoption.result c.from_residual-in_err-end_adoption.ensures.1 in
    let all = (c.in_ok-adopted.ensures.follows tells gs image held of_gs (λ n other. marks_same disk _ _ (marks tells).now n other ∙ same n other) (has_marked disk cat ms old mid marks held has)).all in
    rw p.1 (inr (
      true,
      follows_stopped disk gs image held cat ms old mid cat₁ m₁ new true
          (follows_behind disk gs image held cat ms old mid cat₁ m₁ made true new (steps_marked disk cat₁ m₁ made new c.end_adoption.ensures.marks c.end_adoption.ensures.faults) (follows_before disk gs image held cat ms old mid cat₁ m₁ made true true (steps_marked disk cat ms old mid marks c.begin_adoption.ensures.faults) all)),
    ))

pub returns-in_err-end_adoption-clause-site : goal.returns-in_err-end_adoption-clause-site
returns-in_err-end_adoption-clause-site g c tells =
    let disk = g.D.Disk in
    let old = c.args.disk.now in
    let mid = c.begin_adoption.new.disk in
    let made = c.adopt_found.new.disk in
    let new = c.end_adoption.new.disk in
    site_then disk old made new (site_then disk old mid made (marks_site disk old mid (c.begin_adoption.ensures.marks tells)) (journals_site g.D.Disk c.begin_adoption.new.disk c.adopt_found.new.disk (c.adopt_found.ensures.spares tells))) (marks_site disk made new (c.end_adoption.ensures.marks tells))

pub returns-clause-follows : goal.returns-clause-follows
returns-clause-follows g c tells gs image held of_gs same has =
    let disk = g.D.Disk in
    let cat = c.args.catalogue.now in
    let ms = c.args.manifests.now.items in
    let old = c.args.disk.now in
    let mid = c.begin_adoption.new.disk in
    let made = c.adopt_found.new.disk in
    let new = c.end_adoption.new.disk in
    let cat₁ = c.adopt_found.new.catalogue in
    let m₁ = c.adopt_found.new.manifests.items in
    let marks = c.begin_adoption.ensures.marks in
    let followed = c.in_ok-adopted.ensures.follows tells gs image held of_gs (λ n other. marks_same disk _ _ (marks tells).now n other ∙ same n other) (has_marked disk cat ms old mid marks held has) in
    record {
      all = follows_behind disk gs image held cat ms old mid cat₁ m₁ made true new (steps_marked disk cat₁ m₁ made new c.end_adoption.ensures.marks c.end_adoption.ensures.faults) (follows_before disk gs image held cat ms old mid cat₁ m₁ made true true (steps_marked disk cat ms old mid marks c.begin_adoption.ensures.faults) followed.all);
      counts = followed.counts;
    }

pub returns-clause-site : goal.returns-clause-site
returns-clause-site g c tells =
    let disk = g.D.Disk in
    let old = c.args.disk.now in
    let mid = c.begin_adoption.new.disk in
    let made = c.adopt_found.new.disk in
    let new = c.end_adoption.new.disk in
    site_then disk old made new (site_then disk old mid made (marks_site disk old mid (c.begin_adoption.ensures.marks tells)) (journals_site g.D.Disk c.begin_adoption.new.disk c.adopt_found.new.disk (c.adopt_found.ensures.spares tells))) (marks_site disk made new (c.end_adoption.ensures.marks tells))

pub returns-in_err-begin_adoption-clause-marked : goal.returns-in_err-begin_adoption-clause-marked
returns-in_err-begin_adoption-clause-marked g c tells gs image held of_gs same has =
    marked_begun g.D.Disk gs tells image c.args.catalogue.now c.args.manifests.now.items held c.args.disk.now c.begin_adoption.new.disk of_gs (c.begin_adoption.ensures.stays tells) has

pub returns-in_err-adopted-clause-marked : goal.returns-in_err-adopted-clause-marked
returns-in_err-adopted-clause-marked g c tells gs image held of_gs same has =
    marked_made g.D.Disk gs tells image c.args.catalogue.now c.args.manifests.now.items held c.args.disk.now c.begin_adoption.new.disk of_gs (c.begin_adoption.ensures.stays tells) has c.adopt_found.new.disk (c.in_ok-begin_adoption.ensures.there tells)
    (c.adopt_found.ensures.spares tells)

pub returns-in_err-end_adoption-clause-marked : goal.returns-in_err-end_adoption-clause-marked
returns-in_err-end_adoption-clause-marked g c tells gs image held of_gs same has =
    let disk = g.D.Disk in
    let cat = c.args.catalogue.now in
    let ms = c.args.manifests.now.items in
    let old = c.args.disk.now in
    let mid = c.begin_adoption.new.disk in
    let marks = c.begin_adoption.ensures.marks in
    let had = has_marked disk cat ms old mid marks held has in
    let all = (c.in_ok-adopted.ensures.follows tells gs image held of_gs (λ n other. marks_same disk _ _ (marks tells).now n other ∙ same n other) had).all in
    marked_end disk gs tells image cat ms held old mid of_gs (c.begin_adoption.ensures.stays tells) has c.adopt_found.new.disk (c.in_ok-begin_adoption.ensures.there tells) (c.adopt_found.ensures.spares tells) all.steps all.rule c.adopt_found.new.catalogue
    c.adopt_found.new.manifests.items c.end_adoption.new.disk (all.makes.granularity ∙ of_gs) (all.makes.ends held had) (c.end_adoption.ensures.marks tells)

pub returns-clause-marked : goal.returns-clause-marked
returns-clause-marked g c tells gs image held of_gs same has =
    let disk = g.D.Disk in
    let cat = c.args.catalogue.now in
    let ms = c.args.manifests.now.items in
    let old = c.args.disk.now in
    let mid = c.begin_adoption.new.disk in
    let marks = c.begin_adoption.ensures.marks in
    let had = has_marked disk cat ms old mid marks held has in
    let all = (c.in_ok-adopted.ensures.follows tells gs image held of_gs (λ n other. marks_same disk _ _ (marks tells).now n other ∙ same n other) had).all in
    marked_end disk gs tells image cat ms held old mid of_gs (c.begin_adoption.ensures.stays tells) has c.adopt_found.new.disk (c.in_ok-begin_adoption.ensures.there tells) (c.adopt_found.ensures.spares tells) all.steps all.rule c.adopt_found.new.catalogue
    c.adopt_found.new.manifests.items c.end_adoption.new.disk (all.makes.granularity ∙ of_gs) (all.makes.ends held had) (c.end_adoption.ensures.marks tells)
