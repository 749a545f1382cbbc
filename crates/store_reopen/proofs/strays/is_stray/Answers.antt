use Rattle.std.proofs.Common.{◌≡◌, ℕ, List, Option, sym, ◌∙◌, ap, subst}
use Rattle.std.specs.Prelude.{IfSome}
use Rattle.disk_model.specs.Files.{Name}
use Rattle.partition_names.specs.declared.granularity.Granularity.{Granularity}
use Rattle.partition_names.specs.declared.part.Part.{Part}
use Rattle.store_reopen.specs.Strays.{IsFileOf}
use Rattle.store_reopen.proofs.AdoptedDisk.{no_stray, unlisted_stray}
use Rattle.store_reopen.proofs.strays.is_stray.Goals as goal

pub returns-in-None : goal.returns-in-None
returns-in-None c place store =
    let rows = c.args.catalogue.now.rows in
    let m = c.args.manifest.now in
    let n = c.args.name.now in
    let path : c.as_slice-path.result.now ≡ n.1 = c.as_slice-path.ensures.value ∙ ap (λ (x : Name). x.1) c.name.view_is in
    no_stray m.granularity place rows m.entries n (λ series part file.
    let own : IsFileOf c.granularity.result rows c.as_slice-path.result.now series part =
    subst (λ (g : Granularity). IsFileOf g rows c.as_slice-path.result.now series part) (sym c.granularity.ensures) (subst (λ (p : List ℕ). IsFileOf m.granularity rows p series part) (sym path) file) in
    absurd (cc (sym c.in-None.is ∙ c.in_ok-own_file.ensures.only series part own)))

pub returns-in-Some : goal.returns-in-Some
returns-in-Some c place store =
    let rows = c.args.catalogue.now.rows in
    let m = c.args.manifest.now in
    let n = c.args.name.now in
    let path : c.as_slice-path.result.now ≡ n.1 = c.as_slice-path.ensures.value ∙ ap (λ (x : Name). x.1) c.name.view_is in
    let file : IsFileOf m.granularity rows n.1 c.in-Some.row c.in-Some.part =
    subst (λ (g : Granularity). IsFileOf g rows n.1 c.in-Some.row c.in-Some.part) c.granularity.ensures (subst (λ (p : List ℕ). IsFileOf c.granularity.result rows p c.in-Some.row c.in-Some.part) path
    (subst (λ (o : Option (ℕ × Part)). IfSome o (λ p. IsFileOf c.granularity.result rows c.as_slice-path.result.now p.0 p.1)) c.in-Some.is c.in_ok-own_file.ensures.found)) in
    unlisted_stray m.granularity place rows m.entries n c.in-Some.row c.in-Some.part c.requires.rows c.requires.entries c.requires.of_rows store file c.is_listed.result c.is_listed.ensures
