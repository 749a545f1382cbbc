use Rattle.std.proofs.Common.{◌≡◌, ◌≤◌, ◌++◌, ℕ, List, length, take, Option, None, Some, sym, ◌∙◌, ap, subst, arith}
use Rattle.disk_model.specs.Files.{Name, HasFile}
use Rattle.gate_journal.specs.DiskShown.{shown_by}
use Rattle.durable_write.specs.Held.{file_of, shelf_of}
use Rattle.durable_write.proofs.Written.{can_go_on, write_name, made_written, grown_written, still_long}
use Rattle.durable_write.proofs.writing.write_file.Goals as goal

pub go_on-requires : goal.go_on-requires
go_on-requires g c tells =
    let can = c.requires.can tells in
    let name : file_of (shelf_of can.1) can.2.entry ≡ c.set_name.new.name = write_name can.0 (c.args.store, c.args.rows.now) can.1 (shown_by g.D.Disk c.args.disk.now) c.args.write.now can.2 can.3 can.4 ∙ sym c.in_ok-set_name.ensures in
    subst (λ (n : Name). HasFile (g.D.Disk.files c.args.disk.now) n (λ b. (g.D.Disk.opened c.args.disk.now n ≤ c.in-Some.len) × (c.in-Some.len ≤ length b))) name
    (can_go_on can.0 can.1 (shown_by g.D.Disk c.args.disk.now) c.args.write.now can.2 c.in-Some.len can.3.valid can.3.safe can.4 c.in-Some.is)

pub returns-in_err-go_on-in-Some-clause-still : goal.returns-in_err-go_on-in-Some-clause-still
returns-in_err-go_on-in-Some-clause-still g c tells gr held f safe grows =
    let name : file_of (shelf_of held) f.entry ≡ c.set_name.new.name = write_name gr (c.args.store, c.args.rows.now) held (shown_by g.D.Disk c.args.disk.now) c.args.write.now f safe grows ∙ sym c.in_ok-set_name.ensures in
    still_long gr held c.args.write.now f (g.D.Disk.files c.args.disk.now) (g.D.Disk.files c.go_on.new.disk) safe.valid safe.safe.long grows
    (λ n apart. (c.go_on.ensures.kept tells).elsewhere n (λ is. apart (is ∙ sym name)))
    (λ at is.
    let same : c.in-Some.len ≡ at = let both : ◌≡◌ {A = Option ℕ} (Some c.in-Some.len) (Some at) = sym c.in-Some.is ∙ is in cc (both) in
    let file = c.go_on.ensures.long tells in
    subst (λ (n : ℕ). HasFile (g.D.Disk.files c.go_on.new.disk) (file_of (shelf_of held) f.entry) (λ b. n ≤ length b)) same (subst (λ (n : Name). HasFile (g.D.Disk.files c.go_on.new.disk) n (λ b. c.in-Some.len ≤ length b)) (sym name) file))

pub returns-in_err-make_anew-in-None-clause-still : goal.returns-in_err-make_anew-in-None-clause-still
returns-in_err-make_anew-in-None-clause-still g c tells gr held f safe grows =
    let name : file_of (shelf_of held) f.entry ≡ c.set_name.new.name = write_name gr (c.args.store, c.args.rows.now) held (shown_by g.D.Disk c.args.disk.now) c.args.write.now f safe grows ∙ sym c.in_ok-set_name.ensures in
    still_long gr held c.args.write.now f (g.D.Disk.files c.args.disk.now) (g.D.Disk.files c.make_anew.new.disk) safe.valid safe.safe.long grows
    (λ n apart. (c.make_anew.ensures.kept tells).elsewhere n (λ is. apart (is ∙ sym name)))
    (λ at is. let both : ◌≡◌ {A = Option ℕ} None (Some at) = sym c.in-None.is ∙ is in absurd (cc (both)))

pub returns-in_ok-go_on-in-Some-clause-still : goal.returns-in_ok-go_on-in-Some-clause-still
returns-in_ok-go_on-in-Some-clause-still g c tells gr held f safe grows =
    let name : file_of (shelf_of held) f.entry ≡ c.set_name.new.name = write_name gr (c.args.store, c.args.rows.now) held (shown_by g.D.Disk c.args.disk.now) c.args.write.now f safe grows ∙ sym c.in_ok-set_name.ensures in
    still_long gr held c.args.write.now f (g.D.Disk.files c.args.disk.now) (g.D.Disk.files c.go_on.new.disk) safe.valid safe.safe.long grows
    (λ n apart. (c.go_on.ensures.kept tells).elsewhere n (λ is. apart (is ∙ sym name)))
    (λ at is.
    let same : c.in-Some.len ≡ at = let both : ◌≡◌ {A = Option ℕ} (Some c.in-Some.len) (Some at) = sym c.in-Some.is ∙ is in cc (both) in
    let file = c.go_on.ensures.long tells in
    subst (λ (n : ℕ). HasFile (g.D.Disk.files c.go_on.new.disk) (file_of (shelf_of held) f.entry) (λ b. n ≤ length b)) same (subst (λ (n : Name). HasFile (g.D.Disk.files c.go_on.new.disk) n (λ b. c.in-Some.len ≤ length b)) (sym name) file))

pub returns-in_ok-make_anew-in-None-clause-still : goal.returns-in_ok-make_anew-in-None-clause-still
returns-in_ok-make_anew-in-None-clause-still g c tells gr held f safe grows =
    let name : file_of (shelf_of held) f.entry ≡ c.set_name.new.name = write_name gr (c.args.store, c.args.rows.now) held (shown_by g.D.Disk c.args.disk.now) c.args.write.now f safe grows ∙ sym c.in_ok-set_name.ensures in
    still_long gr held c.args.write.now f (g.D.Disk.files c.args.disk.now) (g.D.Disk.files c.make_anew.new.disk) safe.valid safe.safe.long grows
    (λ n apart. (c.make_anew.ensures.kept tells).elsewhere n (λ is. apart (is ∙ sym name)))
    (λ at is. let both : ◌≡◌ {A = Option ℕ} None (Some at) = sym c.in-None.is ∙ is in absurd (cc (both)))

pub returns-in_ok-go_on-in-Some-clause-written : goal.returns-in_ok-go_on-in-Some-clause-written
returns-in_ok-go_on-in-Some-clause-written g c tells gr held f safe grows =
    let p = c.args.write.now in
    let at = c.in-Some.len in
    let old = g.D.Disk.files c.args.disk.now in
    let new = g.D.Disk.files c.go_on.new.disk in
    let name : file_of (shelf_of held) f.entry ≡ c.set_name.new.name = write_name gr (c.args.store, c.args.rows.now) held (shown_by g.D.Disk c.args.disk.now) c.args.write.now f safe grows ∙ sym c.in_ok-set_name.ensures in
    let bytes : c.deref.result.now ≡ p.bytes.items = c.deref.ensures.value in
    let file = can_go_on gr held (shown_by g.D.Disk c.args.disk.now) p f at safe.valid safe.safe grows c.in-Some.is in
    let there : old c.set_name.new.name ≡ Some file.bytes = ap old (sym name) ∙ file.file in
    let grown : new (file_of (shelf_of held) f.entry) ≡ Some (take at file.bytes ++ p.bytes.items) = ap new name ∙ (c.in_ok-go_on-in-Some.ensures.grown tells file.bytes there ∙ ap (λ (l : List ℕ). Some (take at file.bytes ++ l)) bytes) in
    let opened : g.D.Disk.opened c.go_on.new.disk (file_of (shelf_of held) f.entry) ≡ g.D.Disk.opened c.args.disk.now (file_of (shelf_of held) f.entry) = ap (λ (o : Name → ℕ). o (file_of (shelf_of held) f.entry)) (c.go_on.ensures.opened tells) in
    grown_written gr held p f at file.bytes (shown_by g.D.Disk c.args.disk.now) new (g.D.Disk.opened c.go_on.new.disk) safe.valid safe.safe (g.met.D.Disk.seen c.args.disk.now tells) grows c.in-Some.is
    file.file file.holds.1 grown (omega (arith, opened, file.holds.0))

pub returns-in_ok-make_anew-in-None-clause-written : goal.returns-in_ok-make_anew-in-None-clause-written
returns-in_ok-make_anew-in-None-clause-written g c tells gr held f safe grows =
    let p = c.args.write.now in
    let new = g.D.Disk.files c.make_anew.new.disk in
    let name : file_of (shelf_of held) f.entry ≡ c.set_name.new.name = write_name gr (c.args.store, c.args.rows.now) held (shown_by g.D.Disk c.args.disk.now) c.args.write.now f safe grows ∙ sym c.in_ok-set_name.ensures in
    let bytes : c.deref-in-None.result.now ≡ p.bytes.items = c.deref-in-None.ensures.value in
    let made : new (file_of (shelf_of held) f.entry) ≡ Some p.bytes.items = ap new name ∙ (c.in_ok-make_anew-in-None.ensures.made tells ∙ ap (λ (l : List ℕ). Some l) bytes) in
    let closed : g.D.Disk.opened c.make_anew.new.disk (file_of (shelf_of held) f.entry) ≡ 0 = ap (g.D.Disk.opened c.make_anew.new.disk) name ∙ c.in_ok-make_anew-in-None.ensures.closed tells in
    made_written gr held p f new (g.D.Disk.opened c.make_anew.new.disk) grows c.in-None.is made (omega (arith, closed))
