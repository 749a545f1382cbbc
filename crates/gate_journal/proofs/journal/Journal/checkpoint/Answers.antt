use Rattle.std.proofs.Common.{◌≡◌, ℕ, ◌+◌, ◌/◌, List, [], ◌∷◌, Err, Some, inr, refl, sym, ◌∙◌, ap, arith}
use Rattle.std.proofs.lemmas.Result.{on_ok_weaker, IfErr-at_err, err_from_is_err_and}
use Rattle.disk_model.specs.declared.disk.DiskErr.{DiskErr}
use Rattle.gate_journal.specs.Journal.{JournalState, state_of, is_of_commit}
use Rattle.gate_journal.specs.declared.journal.Pending.TheVariants.{Removal}
use Rattle.gate_journal.specs.Generations.{generation_batches}
use Rattle.gate_journal.specs.Plain.{PlainState}
use Rattle.gate_journal.specs.DiskShown.{shown_by}
use Rattle.gate_journal.proofs.Checkpoints.{told_by_length, at_not_next, current_not_next, all_unopened, current_file, left_commits, left_goes, open_commits, open_goes, gone_commits, gone_over_goes, nothing_commits, nothing_goes}
use Rattle.gate_journal.proofs.Committing.{sound_parts}
use Rattle.gate_journal.proofs.Holding.{current_is_own}
use Rattle.gate_journal.proofs.journal.Journal.checkpoint.Goals as goal

pub switch-requires-clause-sound : goal.switch-requires-clause-sound
switch-requires-clause-sound g c = (sound_parts c.self.inside.pending c.self.inside.at c.self.inside.current (rw (← c.self.view_is) at c.requires.sound) c.self.invariant).0

pub switch-requires-clause-apart : goal.switch-requires-clause-apart
switch-requires-clause-apart g c tells =
    let s = rw (← c.self.view_is) at (c.requires.settled tells) in
    let counted = told_by_length c.self.inside.at (shown_by g.D.Disk c.args.disk.now) s.1.generation c.len.result s.1.at c.len.ensures in
    at_not_next _ (shown_by g.D.Disk c.args.disk.now) s.0 s.1 (c.len.result / 13 + 1) counted c.name-2.result.now c.generation_name.ensures.small (c.name-2.ensures ∙ ap (λ (j : PlainState). j.name) c.closed_at-next.ensures ∙ c.in_ok-name.ensures.named)

pub switch-requires-clause-settled : goal.switch-requires-clause-settled
switch-requires-clause-settled g c tells = let s = rw (← c.self.view_is) at (c.requires.settled tells) in (generation_batches s.1.generation, s.1.at)

pub switch-requires-clause-unopened : goal.switch-requires-clause-unopened
switch-requires-clause-unopened g c tells =
    let s = rw (← c.self.view_is) at (c.requires.settled tells) in
    s.1.named.unopened c.name-2.result.now (inr (c.len.result / 13 + 1, c.generation_name.ensures.small, c.name-2.ensures ∙ ap (λ (j : PlainState). j.name) c.closed_at-next.ensures ∙ c.in_ok-name.ensures.named))

pub returns-in_err-name-clause-commits : goal.returns-in_err-name-clause-commits
returns-in_err-name-clause-commits g c =
    let p = err_from_is_err_and c.from_residual.result c.from_residual.ensures.1 in
    rw (← c.self.view_is) (λ tells bs s. nothing_commits _ (shown_by g.D.Disk c.args.disk.now) bs (c.args.batch.now ∷ []) c.from_residual.result (p.1 ∙ ap (λ (e : DiskErr). Err e) p.2) s)

pub returns-in_err-name-clause-goes_over : goal.returns-in_err-name-clause-goes_over
returns-in_err-name-clause-goes_over g c =
    let p = err_from_is_err_and c.from_residual.result c.from_residual.ensures.1 in
    rw (← c.self.view_is) (λ tells k small_k is. nothing_goes k _ (shown_by g.D.Disk c.args.disk.now) c.from_residual.result (p.1 ∙ ap (λ (e : DiskErr). Err e) p.2))

pub returns-in_err-first_bytes-clause-commits : goal.returns-in_err-first_bytes-clause-commits
returns-in_err-first_bytes-clause-commits g c =
    let p = err_from_is_err_and c.from_residual-in_err-first_bytes.result c.from_residual-in_err-first_bytes.ensures.1 in
    rw (← c.self.view_is) (λ tells bs s. nothing_commits _ (shown_by g.D.Disk c.args.disk.now) bs (c.args.batch.now ∷ []) c.from_residual-in_err-first_bytes.result (p.1 ∙ ap (λ (e : DiskErr). Err e) p.2) s)

pub returns-in_err-first_bytes-clause-goes_over : goal.returns-in_err-first_bytes-clause-goes_over
returns-in_err-first_bytes-clause-goes_over g c =
    let p = err_from_is_err_and c.from_residual-in_err-first_bytes.result c.from_residual-in_err-first_bytes.ensures.1 in
    rw (← c.self.view_is) (λ tells k small_k is. nothing_goes k _ (shown_by g.D.Disk c.args.disk.now) c.from_residual-in_err-first_bytes.result (p.1 ∙ ap (λ (e : DiskErr). Err e) p.2))

pub returns-in-Err-Memory-clause-commits : goal.returns-in-Err-Memory-clause-commits
returns-in-Err-Memory-clause-commits g c =
    let was = shown_by g.D.Disk c.args.disk.now in
    let mid = shown_by g.D.Disk c.switch.new.disk in
    let is = ap (λ (e : DiskErr). Err e) c.in-Err-Memory.field-0-is in
    let state = λ (a : PlainState). let x : JournalState = state_of c.self.inside.name a c.self.inside.current c.self.inside.pending in x in
    rw (← c.self.view_is) (λ tells bs s.
    left_commits _ was bs s (c.len.result / 13 + 1) (told_by_length c.self.inside.at was s.generation c.len.result s.at c.len.ensures) c.name-2.result.now
    c.generation_name.ensures.small (c.name-2.ensures ∙ ap (λ (j : PlainState). j.name) c.closed_at-next.ensures ∙ c.in_ok-name.ensures.named) c.args.batch.now c.deref.result.now c.requires.not_long
    (c.deref.ensures.value ∙ c.in_ok-first_bytes.ensures) mid c.switch.result c.switch.new.at (c.switch.ensures.switches tells (generation_batches s.generation) s.at)
    _ (ap state (c.in-Err-Memory.ensures.memory is)) ((c.in-Err-Memory.ensures.switches tells (generation_batches s.generation) s.at).left is))

pub returns-in-Err-Memory-clause-goes_over : goal.returns-in-Err-Memory-clause-goes_over
returns-in-Err-Memory-clause-goes_over g c =
    let was = shown_by g.D.Disk c.args.disk.now in
    let mid = shown_by g.D.Disk c.switch.new.disk in
    let is = ap (λ (e : DiskErr). Err e) c.in-Err-Memory.field-0-is in
    rw (← c.self.view_is) (λ tells k small_k current.
    let held = rw (← c.self.view_is) at (c.requires.settled tells) in
    let s = held.1 in
    let made = (c.in-Err-Memory.ensures.switches tells (generation_batches s.generation) s.at).untold is in
    left_goes _ was held.0 s (c.len.result / 13 + 1) (told_by_length c.self.inside.at was s.generation c.len.result s.at c.len.ensures) c.name-2.result.now
    c.generation_name.ensures.small (c.name-2.ensures ∙ ap (λ (j : PlainState). j.name) c.closed_at-next.ensures ∙ c.in_ok-name.ensures.named) c.args.batch.now c.deref.result.now c.requires.not_long
    (c.deref.ensures.value ∙ c.in_ok-first_bytes.ensures) mid c.switch.result c.switch.new.at (c.switch.ensures.switches tells (generation_batches s.generation) s.at) k small_k current _ made.0 made.1)

pub returns-in-Err-Memory-clause-memory : goal.returns-in-Err-Memory-clause-memory
returns-in-Err-Memory-clause-memory g c = rw (← c.self.view_is) (λ failed.
    let state = λ (a : PlainState). let x : JournalState = state_of c.self.inside.name a c.self.inside.current c.self.inside.pending in x in ap state (c.in-Err-Memory.ensures.memory (ap (λ (e : DiskErr). Err e) c.in-Err-Memory.field-0-is)))

pub returns-in-Err-Fault-clause-commits : goal.returns-in-Err-Fault-clause-commits
returns-in-Err-Fault-clause-commits g c =
    let sound = sound_parts c.self.inside.pending c.self.inside.at c.self.inside.current (rw (← c.self.view_is) at c.requires.sound) c.self.invariant in
    let was = shown_by g.D.Disk c.args.disk.now in
    let mid = shown_by g.D.Disk c.switch.new.disk in
    let is = ap (λ (e : DiskErr). Err e) c.in-Err-Fault.field-0-is in
    rw (← c.self.view_is) (λ tells bs s.
    open_commits _ was bs s (c.len.result / 13 + 1) (told_by_length c.self.inside.at was s.generation c.len.result s.at c.len.ensures) c.name-2.result.now
    c.generation_name.ensures.small (c.name-2.ensures ∙ ap (λ (j : PlainState). j.name) c.closed_at-next.ensures ∙ c.in_ok-name.ensures.named) c.args.batch.now c.deref.result.now c.requires.not_long
    (c.deref.ensures.value ∙ c.in_ok-first_bytes.ensures) mid c.switch.result c.switch.new.at (c.switch.ensures.switches tells (generation_batches s.generation) s.at)
    c.closed_at-next.result c.switch.ensures.name (sym c.name-2.ensures) (let place = ap (λ (j : PlainState). j.place) c.closed_at-next.ensures in omega (arith, place))
    ((c.in-Err-Fault.ensures.switches tells (generation_batches s.generation) s.at).in_doubt is) sound.0)

pub returns-in-Err-Fault-clause-goes_over : goal.returns-in-Err-Fault-clause-goes_over
returns-in-Err-Fault-clause-goes_over g c =
    let was = shown_by g.D.Disk c.args.disk.now in
    let mid = shown_by g.D.Disk c.switch.new.disk in
    rw (← c.self.view_is) (λ tells k small_k current.
    let held = rw (← c.self.view_is) at (c.requires.settled tells) in
    let s = held.1 in
    open_goes _ was held.0 s (c.len.result / 13 + 1) (told_by_length c.self.inside.at was s.generation c.len.result s.at c.len.ensures) c.name-2.result.now
    c.generation_name.ensures.small (c.name-2.ensures ∙ ap (λ (j : PlainState). j.name) c.closed_at-next.ensures ∙ c.in_ok-name.ensures.named) c.args.batch.now c.deref.result.now c.requires.not_long
    (c.deref.ensures.value ∙ c.in_ok-first_bytes.ensures) mid c.switch.result c.switch.new.at (c.switch.ensures.switches tells (generation_batches s.generation) s.at) k small_k current _)

pub go_over-requires-clause-pending : goal.go_over-requires-clause-pending
go_over-requires-clause-pending g c = (c.closed_at-next.result, refl)

pub go_over-requires-clause-sound : goal.go_over-requires-clause-sound
go_over-requires-clause-sound g c = c.in-Ok.ensures.sound

pub go_over-requires-clause-file : goal.go_over-requires-clause-file
go_over-requires-clause-file g c tells =
    let was = shown_by g.D.Disk c.args.disk.now in
    let mid = shown_by g.D.Disk c.switch.new.disk in
    let held = rw (← c.self.view_is) at (c.requires.settled tells) in
    let s = held.1 in
    current_file _ was held.0 s (c.len.result / 13 + 1) (told_by_length c.self.inside.at was s.generation c.len.result s.at c.len.ensures) c.name-2.result.now
    c.generation_name.ensures.small (c.name-2.ensures ∙ ap (λ (j : PlainState). j.name) c.closed_at-next.ensures ∙ c.in_ok-name.ensures.named) c.args.batch.now c.deref.result.now c.requires.not_long
    (c.deref.ensures.value ∙ c.in_ok-first_bytes.ensures) mid c.switch.result c.switch.new.at (c.switch.ensures.switches tells (generation_batches s.generation) s.at)

pub go_over-requires-clause-unopened : goal.go_over-requires-clause-unopened
go_over-requires-clause-unopened g c tells =
    let was = shown_by g.D.Disk c.args.disk.now in
    let mid = shown_by g.D.Disk c.switch.new.disk in
    let held = rw (← c.self.view_is) at (c.requires.settled tells) in
    let s = held.1 in
    all_unopened _ was held.0 s (c.len.result / 13 + 1) (told_by_length c.self.inside.at was s.generation c.len.result s.at c.len.ensures) c.name-2.result.now
    c.generation_name.ensures.small (c.name-2.ensures ∙ ap (λ (j : PlainState). j.name) c.closed_at-next.ensures ∙ c.in_ok-name.ensures.named) c.args.batch.now c.deref.result.now c.requires.not_long
    (c.deref.ensures.value ∙ c.in_ok-first_bytes.ensures) mid c.switch.result c.switch.new.at (c.switch.ensures.switches tells (generation_batches s.generation) s.at) c.self.inside.current.name (current_is_own _ was held.0 s)

pub returns-in-Ok-clause-commits : goal.returns-in-Ok-clause-commits
returns-in-Ok-clause-commits g c =
    let was = shown_by g.D.Disk c.args.disk.now in
    let mid = shown_by g.D.Disk c.switch.new.disk in
    let last = shown_by g.D.Disk c.go_over.new.disk in
    rw (← c.self.view_is) (λ tells bs s.
    let says = c.in-Ok.ensures.switches tells (generation_batches s.generation) s.at in
    gone_commits _ was bs s (c.len.result / 13 + 1) (told_by_length c.self.inside.at was s.generation c.len.result s.at c.len.ensures) c.name-2.result.now
    c.generation_name.ensures.small (c.name-2.ensures ∙ ap (λ (j : PlainState). j.name) c.closed_at-next.ensures ∙ c.in_ok-name.ensures.named) c.args.batch.now c.deref.result.now c.requires.not_long
    (c.deref.ensures.value ∙ c.in_ok-first_bytes.ensures) mid c.switch.result c.switch.new.at (c.switch.ensures.switches tells (generation_batches s.generation) s.at)
    c.closed_at-next.result c.switch.ensures.name (sym c.name-2.ensures) (let place = ap (λ (j : PlainState). j.place) c.closed_at-next.ensures in omega (arith, place))
    says.told says.made.0 says.made.1 last (c.go_over.ensures.removes tells)
    c.go_over.result _ (c.go_over.ensures.over c.closed_at-next.result refl) (c.go_over.ensures.left c.closed_at-next.result refl) c.go_over.ensures.no_memory)

pub returns-in-Ok-clause-goes_over : goal.returns-in-Ok-clause-goes_over
returns-in-Ok-clause-goes_over g c =
    let was = shown_by g.D.Disk c.args.disk.now in
    let mid = shown_by g.D.Disk c.switch.new.disk in
    let last = shown_by g.D.Disk c.go_over.new.disk in
    rw (← c.self.view_is) (λ tells k small_k current.
    let held = rw (← c.self.view_is) at (c.requires.settled tells) in
    let s = held.1 in
    let says = c.in-Ok.ensures.switches tells (generation_batches s.generation) s.at in
    gone_over_goes _ was held.0 s (c.len.result / 13 + 1) (told_by_length c.self.inside.at was s.generation c.len.result s.at c.len.ensures) c.name-2.result.now
    c.generation_name.ensures.small (c.name-2.ensures ∙ ap (λ (j : PlainState). j.name) c.closed_at-next.ensures ∙ c.in_ok-name.ensures.named) c.args.batch.now c.deref.result.now c.requires.not_long
    (c.deref.ensures.value ∙ c.in_ok-first_bytes.ensures) mid c.switch.result c.switch.new.at (c.switch.ensures.switches tells (generation_batches s.generation) s.at)
    c.closed_at-next.result c.switch.ensures.name (sym c.name-2.ensures) (let place = ap (λ (j : PlainState). j.place) c.closed_at-next.ensures in omega (arith, place))
    says.told says.made.0 says.made.1 last (c.go_over.ensures.removes tells)
    k small_k current c.go_over.result _ (c.go_over.ensures.over c.closed_at-next.result refl) c.go_over.ensures.no_memory (c.go_over.ensures.gone tells))

pub returns-in-Ok-clause-bytes : goal.returns-in-Ok-clause-bytes
returns-in-Ok-clause-bytes g c tells =
    let was = shown_by g.D.Disk c.args.disk.now in
    let held = rw (← c.self.view_is) at (c.requires.settled tells) in
    let s = held.1 in
    let counted = told_by_length c.self.inside.at was s.generation c.len.result s.at c.len.ensures in
    let named = c.name-2.ensures ∙ ap (λ (j : PlainState). j.name) c.closed_at-next.ensures ∙ c.in_ok-name.ensures.named in
    let not_next = current_not_next _ was held.0 s (c.len.result / 13 + 1) counted c.name-2.result.now c.generation_name.ensures.small named in
    let file = c.deref.ensures.value ∙ c.in_ok-first_bytes.ensures in
    on_ok_weaker c.go_over.result (λ is. ap (λ (j : JournalState). (g.D.Disk.files c.go_over.new.disk) j.current.name) is ∙ ap (g.D.Disk.files c.go_over.new.disk) (sym c.name-2.ensures) ∙ (c.go_over.ensures.removes tells).files.elsewhere c.name-2.result.now (λ too. not_next (sym too)) ∙ (c.in-Ok.ensures.switches tells (generation_batches s.generation) s.at).made.0 ∙ ap (λ (l : List ℕ). Some l) file)
    (c.go_over.ensures.over c.closed_at-next.result refl)

pub returns-in-Ok-clause-memory : goal.returns-in-Ok-clause-memory
returns-in-Ok-clause-memory g c failed = absurd (c.go_over.ensures.no_memory failed)

pub returns-in-Ok-clause-name : goal.returns-in-Ok-clause-name
returns-in-Ok-clause-name g c = rw (← c.self.view_is) c.go_over.ensures.name

pub returns-in-Ok-clause-placed : goal.returns-in-Ok-clause-placed
returns-in-Ok-clause-placed g c =
    on_ok_weaker c.go_over.result (λ is. ap (λ (j : JournalState). j.current.place) is ∙ ap (λ (j : PlainState). j.place) c.closed_at-next.ensures) (c.go_over.ensures.over c.closed_at-next.result refl)

pub returns-in-Ok-clause-of_checkpoint : goal.returns-in-Ok-clause-of_checkpoint
returns-in-Ok-clause-of_checkpoint g c failed =
    let is = IfErr-at_err (λ (e : DiskErr). c.go_over.new.self ≡ state_of c.self.inside.name c.switch.new.at c.closed_at-next.result (Removal c.self.inside.current)) failed (c.go_over.ensures.left c.closed_at-next.result refl) in
    ap (λ (j : JournalState). is_of_commit j.pending) is
