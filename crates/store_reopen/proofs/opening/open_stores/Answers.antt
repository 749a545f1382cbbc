use Rattle.std.proofs.Common.{sym, ◌∙◌, ap, subst}
use Rattle.std.proofs.lemmas.Result.{IfErr-weaker, IfOk-weaker}
use Rattle.std.specs.Prelude.{IsSome, IsTrue, OnOk, ◌↔◌}
use Rattle.disk_model.specs.Files.{Files}
use Rattle.store_reopen.specs.NotOpened.{IsTold}
use Rattle.store_reopen.specs.Reopen.{IsOpenedAs, IsSwept, loaded, stores_of}
use Rattle.store_reopen.specs.Strays.{adoption_name}
use Rattle.store_reopen.proofs.Marking.{site_read, site_then}
use Rattle.store_reopen.proofs.Swept.{opened_behind, read_reopens, sweeps_behind, sweeps_none}
use Rattle.store_reopen.proofs.opening.open_stores.Goals as goal

pub load_and_sweep-requires-clause-unopened : goal.load_and_sweep-requires-clause-unopened
load_and_sweep-requires-clause-unopened g c tells =
    (read_reopens g.D.Disk (stores_of c.args.config.now) c.args.disk.now c.is_unfinished.new.disk (c.requires.unopened tells) (c.is_unfinished.ensures.reads tells).same (c.is_unfinished.ensures.reads tells).any_moment (c.is_unfinished.ensures.reads tells).same_opened).unopened

pub load_and_sweep-requires-clause-says : goal.load_and_sweep-requires-clause-says
load_and_sweep-requires-clause-says g c tells = subst (λ (f : Files). IsTrue c.in_ok-unfinished.unfinished ↔ IsSome (f adoption_name)) (sym (c.is_unfinished.ensures.reads tells).same) (c.in_ok-unfinished.ensures.there tells)

pub returns-in_err-unfinished-clause-sweeps : goal.returns-in_err-unfinished-clause-sweeps
returns-in_err-unfinished-clause-sweeps g c tells =
    sweeps_none g.D.Disk (stores_of c.args.config.now) c.args.disk.now c.is_unfinished.new.disk
    (read_reopens g.D.Disk (stores_of c.args.config.now) c.args.disk.now c.is_unfinished.new.disk (c.requires.unopened tells) (c.is_unfinished.ensures.reads tells).same (c.is_unfinished.ensures.reads tells).any_moment (c.is_unfinished.ensures.reads tells).same_opened)

pub returns-clause-opened : goal.returns-clause-opened
returns-clause-opened g c =
    let gs = stores_of c.args.config.now in
    let old = c.args.disk.now in
    let now = c.is_unfinished.new.disk in
    let new = c.load_and_sweep.new.disk in
    IfOk-weaker c.load_and_sweep.result (λ r. IsOpenedAs g.D.Disk gs now (loaded g.D.Disk r.0 r.1.items new)) (λ r. IsOpenedAs g.D.Disk gs old (loaded g.D.Disk r.0 r.1.items new))
    (λ r opened. opened_behind g.D.Disk gs old now (loaded g.D.Disk r.0 r.1.items new) (λ tells. (c.is_unfinished.ensures.reads tells).same)
    (λ tells. read_reopens g.D.Disk gs old now (c.requires.unopened tells) (c.is_unfinished.ensures.reads tells).same (c.is_unfinished.ensures.reads tells).any_moment (c.is_unfinished.ensures.reads tells).same_opened) opened) c.load_and_sweep.ensures.opened

pub returns-clause-told : goal.returns-clause-told
returns-clause-told g c tells =
    let gs = stores_of c.args.config.now in
    IfErr-weaker c.load_and_sweep.result (IsTold gs (g.D.Disk.files c.is_unfinished.new.disk)) (IsTold gs (g.D.Disk.files c.args.disk.now)) (λ e told. subst (λ (f : Files). IsTold gs f e) (c.is_unfinished.ensures.reads tells).same told) (c.load_and_sweep.ensures.told tells)

pub returns-clause-swept : goal.returns-clause-swept
returns-clause-swept g c tells =
    subst (λ (f : Files). OnOk c.load_and_sweep.result (IsSwept (stores_of c.args.config.now) f (g.D.Disk.files c.load_and_sweep.new.disk) (g.D.Disk.past c.load_and_sweep.new.disk))) (c.is_unfinished.ensures.reads tells).same (c.load_and_sweep.ensures.swept tells)

pub returns-clause-sweeps : goal.returns-clause-sweeps
returns-clause-sweeps g c tells =
    let gs = stores_of c.args.config.now in
    sweeps_behind g.D.Disk gs c.args.disk.now c.is_unfinished.new.disk c.load_and_sweep.new.disk
    (read_reopens g.D.Disk gs c.args.disk.now c.is_unfinished.new.disk (c.requires.unopened tells) (c.is_unfinished.ensures.reads tells).same (c.is_unfinished.ensures.reads tells).any_moment (c.is_unfinished.ensures.reads tells).same_opened)
    (c.is_unfinished.ensures.reads tells).same (c.load_and_sweep.ensures.sweeps tells)

pub returns-clause-gone : goal.returns-clause-gone
returns-clause-gone g c tells finished = c.load_and_sweep.ensures.gone tells (ap (λ (f : Files). f adoption_name) (c.is_unfinished.ensures.reads tells).same ∙ finished)

pub returns-in_err-unfinished-clause-site : goal.returns-in_err-unfinished-clause-site
returns-in_err-unfinished-clause-site g c tells = site_read g.D.Disk (stores_of c.args.config.now) c.args.disk.now c.is_unfinished.new.disk (c.is_unfinished.ensures.reads tells).same (c.is_unfinished.ensures.reads tells).any_moment

pub returns-clause-site : goal.returns-clause-site
returns-clause-site g c tells =
    site_then g.D.Disk (stores_of c.args.config.now) c.args.disk.now c.is_unfinished.new.disk c.load_and_sweep.new.disk (site_read g.D.Disk (stores_of c.args.config.now) c.args.disk.now c.is_unfinished.new.disk (c.is_unfinished.ensures.reads tells).same (c.is_unfinished.ensures.reads tells).any_moment)
    (c.load_and_sweep.ensures.site tells)
