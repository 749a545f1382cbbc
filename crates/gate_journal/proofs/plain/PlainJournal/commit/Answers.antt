use Rattle.std.proofs.Common.{◌≡◌, ℕ, List, ◌+◌, [], ◌∷◌, ◌++◌, subst, refl, ◌∙◌, ap, arith, length, length-append}
use Rattle.disk_model.specs.Files.{At, Overwritten}
use Rattle.gate_journal.specs.Batches.{framed_bytes}
use Rattle.gate_journal.specs.DiskShown.{shown_by}
use Rattle.gate_journal.proofs.Bytes.{length-framed_bytes}
use Rattle.gate_journal.proofs.Growing.{none_grows, write_grows, writes_grow}
use Rattle.gate_journal.proofs.Steps.{first, both, added, in_doubt, written_twice}
use Rattle.gate_journal.proofs.plain.PlainJournal.commit.Goals as goal

pub returns-in_err-write_synced-clause-any_moment : goal.returns-in_err-write_synced-clause-any_moment
returns-in_err-write_synced-clause-any_moment g c = rw (← c.self.view_is) (λ tells bs settled. first _ bs c.args.batch.now _ settled _ _ (c.write_synced.ensures.any_moment tells))

pub returns-in_err-write_synced-2-clause-any_moment : goal.returns-in_err-write_synced-2-clause-any_moment
returns-in_err-write_synced-2-clause-any_moment g c = rw (← c.self.view_is) (λ tells bs settled.
    both _ bs c.args.batch.now _ settled (omega (arith, c.requires.not_long)) (g.D.Disk.files c.write_synced.new.disk) (g.D.Disk.past c.write_synced.new.disk) _ (c.deref.ensures.value ∙ c.in_ok-frame.ensures)
    (c.in_ok-write_synced.ensures.written tells) (c.in_ok-write_synced.ensures.durable tells) (g.D.Disk.past c.write_synced-2.new.disk) (c.write_synced.ensures.any_moment tells) (c.write_synced-2.ensures.any_moment tells))

pub returns-clause-any_moment : goal.returns-clause-any_moment
returns-clause-any_moment g c = rw (← c.self.view_is) (λ tells bs settled.
    both _ bs c.args.batch.now _ settled (omega (arith, c.requires.not_long)) (g.D.Disk.files c.write_synced.new.disk) (g.D.Disk.past c.write_synced.new.disk) _ (c.deref.ensures.value ∙ c.in_ok-frame.ensures)
    (c.in_ok-write_synced.ensures.written tells) (c.in_ok-write_synced.ensures.durable tells) (g.D.Disk.past c.write_synced-2.new.disk) (c.write_synced.ensures.any_moment tells) (c.write_synced-2.ensures.any_moment tells))

pub returns-clause-added : goal.returns-clause-added
returns-clause-added g c = rw (← c.self.view_is) (λ tells bs settled.
    added _ bs c.args.batch.now _ settled (omega (arith, c.requires.not_long)) (g.D.Disk.files c.write_synced.new.disk) (g.D.Disk.past c.write_synced.new.disk) _ (c.deref.ensures.value ∙ c.in_ok-frame.ensures)
    (c.in_ok-write_synced.ensures.written tells) (c.in_ok-write_synced.ensures.durable tells) (shown_by g.D.Disk c.write_synced-2.new.disk) _ refl (omega (arith, c.len.ensures, ap length c.deref.ensures.value)) (c.write_synced-2.ensures.opened tells ∙ c.write_synced.ensures.opened tells)
    (c.in_ok-write_synced-2.ensures.written tells) (c.in_ok-write_synced-2.ensures.durable tells))

pub returns-in_err-write_synced-clause-in_doubt : goal.returns-in_err-write_synced-clause-in_doubt
returns-in_err-write_synced-clause-in_doubt g c =
    let pending : c.len.result ≡ 5 + length c.args.batch.now = omega (arith, c.len.ensures, ap length c.in_ok-frame.ensures, length-append (framed_bytes c.args.batch.now) (0 ∷ []), length-framed_bytes c.args.batch.now) in
    rw (← c.self.view_is) (λ tells bs settled fault.
    in_doubt _ _ bs c.args.batch.now _ (shown_by g.D.Disk c.write_synced.new.disk) settled refl refl pending (g.met.D.Disk.seen c.write_synced.new.disk tells) (c.write_synced.ensures.opened tells)
    (first _ bs c.args.batch.now _ settled _ _ (c.write_synced.ensures.any_moment tells)))

pub returns-in_err-write_synced-2-clause-in_doubt : goal.returns-in_err-write_synced-2-clause-in_doubt
returns-in_err-write_synced-2-clause-in_doubt g c =
    let pending : c.len.result ≡ 5 + length c.args.batch.now = omega (arith, c.len.ensures, ap length c.in_ok-frame.ensures, length-append (framed_bytes c.args.batch.now) (0 ∷ []), length-framed_bytes c.args.batch.now) in
    rw (← c.self.view_is) (λ tells bs settled fault.
    in_doubt _ _ bs c.args.batch.now _ (shown_by g.D.Disk c.write_synced-2.new.disk) settled refl refl pending (g.met.D.Disk.seen c.write_synced-2.new.disk tells)
    (c.write_synced-2.ensures.opened tells ∙ c.write_synced.ensures.opened tells)
    (both _ bs c.args.batch.now _ settled (omega (arith, c.requires.not_long)) (g.D.Disk.files c.write_synced.new.disk) (g.D.Disk.past c.write_synced.new.disk) _ (c.deref.ensures.value ∙ c.in_ok-frame.ensures)
    (c.in_ok-write_synced.ensures.written tells) (c.in_ok-write_synced.ensures.durable tells) (g.D.Disk.past c.write_synced-2.new.disk) (c.write_synced.ensures.any_moment tells) (c.write_synced-2.ensures.any_moment tells)))

pub returns-clause-bytes : goal.returns-clause-bytes
returns-clause-bytes g c = rw (← c.self.view_is) (λ tells b is.
    written_twice c.self.inside.name (g.D.Disk.files c.args.disk.now) (g.D.Disk.files c.write_synced.new.disk) (g.D.Disk.files c.write_synced-2.new.disk) (c.self.inside.place + 1) c.self.inside.place (framed_bytes c.args.batch.now ++ 0 ∷ []) (1 ∷ []) b is
    (subst (λ (l : List ℕ). At c.self.inside.name (Overwritten (c.self.inside.place + 1) l) (g.D.Disk.files c.args.disk.now) (g.D.Disk.files c.write_synced.new.disk)) (c.deref.ensures.value ∙ c.in_ok-frame.ensures) (c.in_ok-write_synced.ensures.written tells))
    (c.in_ok-write_synced-2.ensures.written tells))

pub returns-in_err-frame-clause-one_file : goal.returns-in_err-frame-clause-one_file
returns-in_err-frame-clause-one_file g c tells = record { files = λ n other. refl; any_moment = none_grows _ _; opened = refl }

pub returns-in_err-write_synced-clause-one_file : goal.returns-in_err-write_synced-clause-one_file
returns-in_err-write_synced-clause-one_file g c =
    rw (← c.self.view_is) (λ tells. record { files = c.write_synced.ensures.elsewhere tells; any_moment = write_grows _ _ _ _ _ (c.write_synced.ensures.any_moment tells); opened = c.write_synced.ensures.opened tells })

pub returns-in_err-write_synced-2-clause-one_file : goal.returns-in_err-write_synced-2-clause-one_file
returns-in_err-write_synced-2-clause-one_file g c = rw (← c.self.view_is) (λ tells. record {
  files = λ n other. c.write_synced-2.ensures.elsewhere tells n other ∙ c.write_synced.ensures.elsewhere tells n other;
  any_moment = writes_grow _ _ _ _ _ _ _ _ (c.write_synced.ensures.any_moment tells) (c.write_synced-2.ensures.any_moment tells);
  opened = c.write_synced-2.ensures.opened tells ∙ c.write_synced.ensures.opened tells;
})

pub returns-clause-one_file : goal.returns-clause-one_file
returns-clause-one_file g c = rw (← c.self.view_is) (λ tells. record {
  files = λ n other. c.write_synced-2.ensures.elsewhere tells n other ∙ c.write_synced.ensures.elsewhere tells n other;
  any_moment = writes_grow _ _ _ _ _ _ _ _ (c.write_synced.ensures.any_moment tells) (c.write_synced-2.ensures.any_moment tells);
  opened = c.write_synced-2.ensures.opened tells ∙ c.write_synced.ensures.opened tells;
})

pub returns-clause-placed : goal.returns-clause-placed
returns-clause-placed g c =
    let pending : c.len.result ≡ 5 + length c.args.batch.now = omega (arith, c.len.ensures, ap length c.in_ok-frame.ensures, length-append (framed_bytes c.args.batch.now) (0 ∷ []), length-framed_bytes c.args.batch.now) in
    rw (← c.self.view_is) (omega (arith, pending), refl)
