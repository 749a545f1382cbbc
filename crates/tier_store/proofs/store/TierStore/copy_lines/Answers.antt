use Rattle.std.proofs.Common.{inl, inr, Err, Option, ◌+◌, ◌∙◌, ap, subst, sym, arith}
use Rattle.std.proofs.lemmas.Result.{err_from_is_err_and}
use Rattle.std.specs.Prelude.{IfSome, IsTrue}
use Rattle.disk_model.specs.declared.disk.DiskErr.{DiskErr}
use Rattle.gate_journal.specs.DiskShown.{shown_by}
use Rattle.etl_mover.specs.Step.{Advances, CanCopy, CanRevive}
use Rattle.store_manifest.specs.declared.entry.Entry.{Entry}
use Rattle.tier_store.specs.Pinned.{beside, seen_all}
use Rattle.tier_store.specs.Reviving.{reviving}
use Rattle.tier_store.specs.Seen.{seen_by}
use Rattle.tier_store.specs.Strays.{WritesTargets}
use Rattle.tier_store.proofs.CopyGoes.{Went, can_copy, can_go, can_revive, copies_it, either_it, go_all, go_damaged, go_more, head_low, leaves_it, nowhere_it, plain, went}
use Rattle.tier_store.proofs.CopySteps.{err_says, fault_was}
use Rattle.tier_store.proofs.CopyParts.{next_part}
use Rattle.tier_store.proofs.Places.{manifest_of}
use Rattle.tier_store.proofs.Strays.{step_targets}
use Rattle.tier_store.proofs.store.TierStore.copy_lines.Goals.{After-copy, In_ok-copied, then-not-is_revived-via-then-not-is_revived, then-not-is_revived-via-else-not-is_revived+then-not-is_ahead}
use Rattle.tier_store.proofs.store.TierStore.copy_lines.Goals as goal

pub copy-requires-clause-running : goal.copy-requires-clause-running
copy-requires-clause-running g c = let runs = c.requires.runs.3.runs in (runs.fine, plain runs.fine c.args.moving.now c.args.revived runs.running)

pub copy-requires-clause-stage : goal.copy-requires-clause-stage
copy-requires-clause-stage g c = c.requires.runs.3.stage

pub copy-requires-clause-within : goal.copy-requires-clause-within
copy-requires-clause-within g c = let low = c.requires.runs.4.low in omega (arith, low)

pub copy-requires-clause-head : goal.copy-requires-clause-head
copy-requires-clause-head g c part next =
    let disk = g.D.Disk in
    let self = c.args.self.now in
    let runs = c.requires.runs in
    let to = manifest_of self.manifests.items (c.args.place + 1) c.args.moving.now.granularity runs.3.runs.to_coarse in
    head_low (shown_by disk) disk.faults disk.tells self.catalogue self.manifests.items self.limbo.items c.args.place to.0 to.1 self.disk (λ told. g.met.D.Disk.seen self.disk told) (reviving c.args.moving.now c.args.revived) runs.0 runs.1 runs.2 runs.3 c.args.line.name c.args.line.at c.args.line.len runs.4 part next

pub copy-requires-clause-revived : goal.copy-requires-clause-revived
copy-requires-clause-revived g c =
    let runs = c.requires.runs.3.runs in
    subst (λ (o : Option Entry). IfSome o (CanRevive c.args.moving.now)) (sym c.as_ref.ensures.value) (can_revive c.args.self.now.limbo.items (c.args.place + 2) runs.fine c.args.moving.now c.args.revived c.requires.goes runs.running)

pub copy-requires-clause-can : goal.copy-requires-clause-can
copy-requires-clause-can g c tells =
    let disk = g.D.Disk in
    let self = c.args.self.now in
    let runs = c.requires.runs in
    let line = c.args.line in
    let to = manifest_of self.manifests.items (c.args.place + 1) c.args.moving.now.granularity runs.3.runs.to_coarse in
    subst (λ (o : Option Entry). CanCopy c.args.moving.now o line.len (disk.files self.disk) (disk.opened self.disk)) (sym c.as_ref.ensures.value)
    (can_go self.limbo.items (c.args.place + 2) runs.3.runs.fine c.args.moving.now c.args.revived line.len (disk.files self.disk) (disk.opened self.disk) c.requires.goes runs.3.runs.running
    (can_copy (shown_by disk) disk.faults disk.tells self.catalogue self.manifests.items self.limbo.items c.args.place to.0 to.1 self.disk (λ told. g.met.D.Disk.seen self.disk told) (reviving c.args.moving.now c.args.revived) runs.0 runs.1 runs.2 runs.3 line.name line.at line.len runs.4 tells))

-- what the move's call does, whatever it answers
did : (g : _) (c : After-copy g) → Went c.args.place g.D.Disk.tells (seen_all g.D.Disk c.args.self.now) (beside (seen_by g.D.Disk c.args.self.now.catalogue c.args.self.now.manifests.items c.copy.new.disk) c.args.self.now.limbo.items) c.args.moving.now c.args.revived (g.D.Disk.faults c.args.self.now.disk) (g.D.Disk.faults c.copy.new.disk)
did g c =
    let disk = g.D.Disk in
    let self = c.args.self.now in
    let move = c.args.moving.now in
    let lent = c.as_ref.ensures.value in
    went (shown_by disk) disk.faults disk.tells self.catalogue self.manifests.items self.limbo.items c.args.place self.disk c.copy.new.disk (λ told. g.met.D.Disk.seen self.disk told) move c.args.revived c.args.line.name c.args.line.at c.args.line.len c.requires.runs c.requires.stands c.requires.goes
    (either_it move _ c.args.revived lent c.args.line.at c.args.line.len c.copy.ensures.either) (λ told p start goes. leaves_it move _ c.args.revived lent (IsTrue disk.tells) _ c.copy.ensures.leaves told p start goes)
    (λ told never. nowhere_it move _ c.args.revived lent (IsTrue disk.tells) _ c.copy.ensures.nowhere told never) c.copy.ensures.faults

pub returns-in_err-copied-clause-copies : goal.returns-in_err-copied-clause-copies
returns-in_err-copied-clause-copies g c files held has is line =
    let p = err_from_is_err_and c.from_residual.result c.from_residual.ensures.1 in
    let now = did g (goal.at.returns-in_err-copied-clause-copies g c).After-copy in
    let both = err_says _ _ c.from_residual.result _ (p.1 ∙ ap (λ (x : DiskErr). Err x) p.2) (now.still files held has is) in
    record { stays = now.stays files held has is; says = both.0; still = both.1 }

pub returns-in_err-copied-clause-rest : goal.returns-in_err-copied-clause-rest
returns-in_err-copied-clause-rest g c =
    let p = err_from_is_err_and c.from_residual.result c.from_residual.ensures.1 in
    (did g (goal.at.returns-in_err-copied-clause-rest g c).After-copy).rest c.from_residual.result (λ is. c.copy.ensures.cause (fault_was c.copy.result c.from_residual.result _ p.0 c.in_err-copied.was p.1 p.2 is))

pub returns-then-not-is_revived-clause-copies : goal.returns-then-not-is_revived-clause-copies
returns-then-not-is_revived-clause-copies g c files held has is line =
    let disk = g.D.Disk in
    let self = c.args.self.now in
    let move = c.args.moving.now in
    let lent = c.as_ref.ensures.value in
    let before = c.moment_behind-before.ensures in
    let now = c.last_moment-now.ensures in
    record {
      stays = (did g (goal.at.returns-then-not-is_revived-clause-copies g c).After-copy).stays files held has is;
      says = go_damaged (shown_by disk) disk.faults disk.tells self.catalogue self.manifests.items self.limbo.items c.args.place self.disk c.copy.new.disk (λ told. g.met.D.Disk.seen self.disk told) move c.args.revived c.args.line.name c.args.line.at c.args.line.len c.requires.runs c.requires.stands c.requires.goes
          (either_it move _ c.args.revived lent c.args.line.at c.args.line.len c.copy.ensures.either) (λ told p start goes. leaves_it move _ c.args.revived lent (IsTrue disk.tells) _ c.copy.ensures.leaves told p start goes)
          (λ told never. nowhere_it move _ c.args.revived lent (IsTrue disk.tells) _ c.copy.ensures.nowhere told never) 1_048_576 c.copy.new.self (subst (λ (o : Option Entry). Advances move c.copy.new.self o c.args.line.len) lent c.in_ok-copied.ensures.advances)
          (λ told p start bytes goes file. copies_it move _ c.args.revived lent (IsTrue disk.tells) (disk.files self.disk) _ c.in_ok-copied.ensures.copies told p start bytes goes file) files held has is line
          (elim c.then-not-is_revived.branch [
            | then-not-is_revived-via-then-not-is_revived w ↦ inl (c.is_revived.ensures.other w.if-not-is_revived.true)
            | then-not-is_revived-via-else-not-is_revived+then-not-is_ahead w ↦ inr (let high = w.is_ahead.ensures.behind w.if-not-is_ahead.true in omega (arith, before, now, high))
          ]);
      still = tt;
    }

pub returns-then-not-is_revived-clause-rest : goal.returns-then-not-is_revived-clause-rest
returns-then-not-is_revived-clause-rest g c = (did g (goal.at.returns-then-not-is_revived-clause-rest g c).After-copy).done _

pub returns-in-More-clause-copies : goal.returns-in-More-clause-copies
returns-in-More-clause-copies g c files held has is line =
    let disk = g.D.Disk in
    let self = c.args.self.now in
    let move = c.args.moving.now in
    let lent = c.as_ref.ensures.value in
    let before = c.moment_behind-before.ensures in
    let now = c.last_moment-now.ensures in
    let less = c.is_ahead.ensures.ahead c.if-not-is_ahead.false in
    record {
      stays = (did g (goal.at.returns-in-More-clause-copies g c).After-copy).stays files held has is;
      says = go_more (shown_by disk) disk.faults disk.tells self.catalogue self.manifests.items self.limbo.items c.args.place self.disk c.copy.new.disk (λ told. g.met.D.Disk.seen self.disk told) move c.args.revived c.args.line.name c.args.line.at c.args.line.len c.requires.runs c.requires.stands c.requires.goes
          (either_it move _ c.args.revived lent c.args.line.at c.args.line.len c.copy.ensures.either) (λ told p start goes. leaves_it move _ c.args.revived lent (IsTrue disk.tells) _ c.copy.ensures.leaves told p start goes)
          (λ told never. nowhere_it move _ c.args.revived lent (IsTrue disk.tells) _ c.copy.ensures.nowhere told never) 1_048_576 c.copy.new.self (subst (λ (o : Option Entry). Advances move c.copy.new.self o c.args.line.len) lent c.in_ok-copied.ensures.advances)
          (λ told p start bytes goes file. copies_it move _ c.args.revived lent (IsTrue disk.tells) (disk.files self.disk) _ c.in_ok-copied.ensures.copies told p start bytes goes file) files held has is line
          (c.is_revived.ensures.revived c.if-not-is_revived.false) (omega (arith, before, now, less)) (λ all. let done = c.in_ok-copied.ensures.done.1 all in absurd (cc (done, c.in-More.is)));
      still = tt;
    }

pub returns-in-More-clause-rest : goal.returns-in-More-clause-rest
returns-in-More-clause-rest g c = (did g (goal.at.returns-in-More-clause-rest g c).After-copy).done _

pub returns-clause-copies : goal.returns-clause-copies
returns-clause-copies g c files held has is line =
    let disk = g.D.Disk in
    let self = c.args.self.now in
    let move = c.args.moving.now in
    let lent = c.as_ref.ensures.value in
    let before = c.moment_behind-before.ensures in
    let now = c.last_moment-now.ensures in
    let less = c.is_ahead.ensures.ahead c.if-not-is_ahead.false in
    record {
      stays = (did g (goal.at.returns-clause-copies g c).After-copy).stays files held has is;
      says = go_all (shown_by disk) disk.faults disk.tells self.catalogue self.manifests.items self.limbo.items c.args.place self.disk c.copy.new.disk (λ told. g.met.D.Disk.seen self.disk told) move c.args.revived c.args.line.name c.args.line.at c.args.line.len c.requires.runs c.requires.stands c.requires.goes
          (either_it move _ c.args.revived lent c.args.line.at c.args.line.len c.copy.ensures.either) (λ told p start goes. leaves_it move _ c.args.revived lent (IsTrue disk.tells) _ c.copy.ensures.leaves told p start goes)
          (λ told never. nowhere_it move _ c.args.revived lent (IsTrue disk.tells) _ c.copy.ensures.nowhere told never) 1_048_576 c.copy.new.self (subst (λ (o : Option Entry). Advances move c.copy.new.self o c.args.line.len) lent c.in_ok-copied.ensures.advances)
          (λ told p start bytes goes file. copies_it move _ c.args.revived lent (IsTrue disk.tells) (disk.files self.disk) _ c.in_ok-copied.ensures.copies told p start bytes goes file) files held has is line
          (c.is_revived.ensures.revived c.if-not-is_revived.false) (omega (arith, before, now, less)) (c.in_ok-copied.ensures.done.0 c.in-Done.is);
      still = tt;
    }

pub returns-clause-rest : goal.returns-clause-rest
returns-clause-rest g c = (did g (goal.at.returns-clause-rest g c).After-copy).done _

-- the files that were written are to be listed
wrote : (g : _) (c : In_ok-copied g) → IsTrue g.D.Disk.tells → WritesTargets c.args.moving.now c.copy.new.self (g.D.Disk.files c.args.self.now.disk) (g.D.Disk.files c.copy.new.disk)
wrote g c tells =
    let disk = g.D.Disk in
    let self = c.args.self.now in
    let move = c.args.moving.now in
    let runs = c.requires.runs in
    let line = c.args.line in
    let part = next_part disk.tells (seen_all disk self) c.args.place (reviving move c.args.revived) runs.0 runs.1 runs.2 runs.3 in
    let running = plain runs.3.runs.fine move c.args.revived runs.3.runs.running in
    let to = manifest_of self.manifests.items (c.args.place + 1) move.granularity runs.3.runs.to_coarse in
    let can = can_copy (shown_by disk) disk.faults disk.tells self.catalogue self.manifests.items self.limbo.items c.args.place to.0 to.1 self.disk (λ told. g.met.D.Disk.seen self.disk told) (reviving move c.args.revived) runs.0 runs.1 runs.2 runs.3 line.name line.at line.len runs.4 tells in
    step_targets runs.3.runs.fine move c.copy.new.self _ part.0 line.at line.len _ _ running (c.copy.ensures.running runs.3.runs.fine running) c.in_ok-copied.ensures.advances part.1 (c.copy.ensures.either part.0 part.1 runs.4.low) (can.source part.0 part.1) (c.copy.ensures.leaves tells) (c.in_ok-copied.ensures.copies tells) (c.copy.ensures.nowhere tells)

pub returns-then-not-is_revived-clause-targets : goal.returns-then-not-is_revived-clause-targets
returns-then-not-is_revived-clause-targets g c tells = wrote g (goal.at.returns-then-not-is_revived-clause-targets g c).In_ok-copied tells

pub returns-in-More-clause-targets : goal.returns-in-More-clause-targets
returns-in-More-clause-targets g c tells = wrote g (goal.at.returns-in-More-clause-targets g c).In_ok-copied tells

pub returns-clause-targets : goal.returns-clause-targets
returns-clause-targets g c tells = wrote g (goal.at.returns-clause-targets g c).In_ok-copied tells
