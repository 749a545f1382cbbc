use Rattle.std.proofs.Common.{ℕ, ◌+◌, sym, ◌∙◌, ap, subst}
use Rattle.std.proofs.lemmas.Result.{err_from_is_err_and}
use Rattle.std.specs.Int.{to_le_bytes, w64}
use Rattle.disk_model.specs.Files.{Files, Name}
use Rattle.gate_journal.specs.Journal.{JournalState, state_of, is_of_commit, is_sound_with, HasNoneBefore}
use Rattle.gate_journal.specs.declared.journal.Pending.{Pending}
use Rattle.gate_journal.specs.declared.journal.Pending.TheVariants.{Nothing}
use Rattle.gate_journal.specs.Generations.{generation_batches}
use Rattle.gate_journal.specs.DiskShown.{shown_by}
use Rattle.gate_journal.proofs.Results.{on_err_always}
use Rattle.gate_journal.proofs.Deciding.{half_switched, unswitched_reviews, still_reviews, not_switched, over_reviews, half_over_reviews}
use Rattle.gate_journal.proofs.Removing.{none_before}
use Rattle.gate_journal.proofs.Files.{anyhow_none, unmoved, then_loosely}
use Rattle.gate_journal.proofs.journal.Journal.review_switch.Goals as goal

pub review-requires-clause-unsound : goal.review-requires-clause-unsound
review-requires-clause-unsound g c = (sym c.is_sound.ensures ∙ c.if-is_sound.false)

pub review-requires-clause-in_doubt : goal.review-requires-clause-in_doubt
review-requires-clause-in_doubt g c tells =
    let p = rw (← c.self.view_is) at c.requires.pending in
    let d = (rw (← c.self.view_is) at (c.requires.in_doubt tells)) p.0 p.1 in
    let next = p.0 in
    let before = d.0 in
    let after = d.1 in
    let w = d.2 in
    let half = half_switched (state_of c.self.inside.name c.self.inside.at c.self.inside.current c.self.inside.pending) (shown_by g.D.Disk c.args.disk.now) before after next w (sym c.is_sound.ensures ∙ c.if-is_sound.false) in
    ((generation_batches w.generation), (to_le_bytes w64 (w.generation + 1)), half.at)

pub go_over-requires-clause-pending : goal.go_over-requires-clause-pending
go_over-requires-clause-pending g c = rw (← c.self.view_is) at c.requires.pending

pub go_over-requires-clause-sound : goal.go_over-requires-clause-sound
go_over-requires-clause-sound g c = c.in_ok-review.ensures.sound

pub go_over-requires-clause-file : goal.go_over-requires-clause-file
go_over-requires-clause-file g c tells =
    let p = rw (← c.self.view_is) at c.requires.pending in
    let d = (rw (← c.self.view_is) at (c.requires.in_doubt tells)) p.0 p.1 in
    record { bytes = d.2.current.bytes; file = ap (λ (f : Files). f c.self.inside.current.name) (c.review.ensures.reads tells).same ∙ d.2.current.file; holds = tt }

pub go_over-requires-clause-unopened : goal.go_over-requires-clause-unopened
go_over-requires-clause-unopened g c tells =
    let p = rw (← c.self.view_is) at c.requires.pending in
    let d = (rw (← c.self.view_is) at (c.requires.in_doubt tells)) p.0 p.1 in
    ap (λ (f : Name → ℕ). f c.self.inside.current.name) (c.review.ensures.reads tells).same_opened ∙ d.2.current.unopened

pub returns-then-is_sound-clause-reviews : goal.returns-then-is_sound-clause-reviews
returns-then-is_sound-clause-reviews g c =
    let was = shown_by g.D.Disk c.args.disk.now in
    rw (← c.self.view_is) (λ tells next is before after w. unswitched_reviews (state_of c.self.inside.name c.self.inside.at c.self.inside.current c.self.inside.pending) was before after next w Nothing is (sym c.is_sound.ensures ∙ c.if-is_sound.true))

pub returns-in_err-review-clause-reviews : goal.returns-in_err-review-clause-reviews
returns-in_err-review-clause-reviews g c =
    let was = shown_by g.D.Disk c.args.disk.now in
    let mid = shown_by g.D.Disk c.review.new.disk in
    let p = err_from_is_err_and c.from_residual.result c.from_residual.ensures.1 in
    rw (← c.self.view_is) (λ tells next is before after w.
    let half = half_switched (state_of c.self.inside.name c.self.inside.at c.self.inside.current c.self.inside.pending) was before after next w (sym c.is_sound.ensures ∙ c.if-is_sound.false) in
    still_reviews (state_of c.self.inside.name c.self.inside.at c.self.inside.current c.self.inside.pending) was before after next w is half c.review.new.self mid c.review.ensures.name (c.review.ensures.reads tells).same (c.review.ensures.reads tells).same_opened (c.review.ensures.reads tells).any_moment
    c.self.inside.pending c.from_residual.result _ p.1 c.in_err-review.ensures.still is (c.in_err-review.ensures.doubtful tells (generation_batches w.generation) (to_le_bytes w64 (w.generation + 1)) half.at))

pub returns-then-not-branch-clause-reviews : goal.returns-then-not-branch-clause-reviews
returns-then-not-branch-clause-reviews g c =
    let was = shown_by g.D.Disk c.args.disk.now in
    let mid = shown_by g.D.Disk c.review.new.disk in
    rw (← c.self.view_is) (λ tells next is before after w.
    let half = half_switched (state_of c.self.inside.name c.self.inside.at c.self.inside.current c.self.inside.pending) was before after next w (sym c.is_sound.ensures ∙ c.if-is_sound.false) in
    not_switched (state_of c.self.inside.name c.self.inside.at c.self.inside.current c.self.inside.pending) was before after next w is half c.review.new.self mid c.review.ensures.name (c.review.ensures.reads tells).same (c.review.ensures.reads tells).same_opened (c.review.ensures.reads tells).any_moment
    Nothing (c.in_ok-review.ensures.unmade tells (generation_batches w.generation) (to_le_bytes w64 (w.generation + 1)) half.at c.if-not-branch.true))

pub returns-clause-reviews : goal.returns-clause-reviews
returns-clause-reviews g c =
    let was = shown_by g.D.Disk c.args.disk.now in
    let mid = shown_by g.D.Disk c.review.new.disk in
    let last = shown_by g.D.Disk c.go_over.new.disk in
    rw (← c.self.view_is) (λ tells next is before after w.
    let half = half_switched (state_of c.self.inside.name c.self.inside.at c.self.inside.current c.self.inside.pending) was before after next w (sym c.is_sound.ensures ∙ c.if-is_sound.false) in
    over_reviews (state_of c.self.inside.name c.self.inside.at c.self.inside.current c.self.inside.pending) was before after next w is half c.review.new.self mid c.review.ensures.name (c.review.ensures.reads tells).same (c.review.ensures.reads tells).same_opened (c.review.ensures.reads tells).any_moment
    (c.in_ok-review.ensures.made tells (generation_batches w.generation) (to_le_bytes w64 (w.generation + 1)) half.at c.if-not-branch.false)
    last (c.go_over.ensures.removes tells)
    _ (c.in_ok-go_over.ensures.over next is))

pub returns-in_err-go_over-clause-reviews : goal.returns-in_err-go_over-clause-reviews
returns-in_err-go_over-clause-reviews g c =
    let was = shown_by g.D.Disk c.args.disk.now in
    let mid = shown_by g.D.Disk c.review.new.disk in
    let last = shown_by g.D.Disk c.go_over.new.disk in
    let p = err_from_is_err_and c.from_residual-in_err-go_over.result c.from_residual-in_err-go_over.ensures.1 in
    rw (← c.self.view_is) (λ tells next is before after w.
    let half = half_switched (state_of c.self.inside.name c.self.inside.at c.self.inside.current c.self.inside.pending) was before after next w (sym c.is_sound.ensures ∙ c.if-is_sound.false) in
    half_over_reviews (state_of c.self.inside.name c.self.inside.at c.self.inside.current c.self.inside.pending) was before after next w is half c.review.new.self mid c.review.ensures.name (c.review.ensures.reads tells).same (c.review.ensures.reads tells).same_opened (c.review.ensures.reads tells).any_moment
    (c.in_ok-review.ensures.made tells (generation_batches w.generation) (to_le_bytes w64 (w.generation + 1)) half.at c.if-not-branch.false)
    last (c.go_over.ensures.removes tells)
    _ c.from_residual-in_err-go_over.result _ p.1 (c.in_err-go_over.ensures.left next is))

pub returns-clause-elsewhere : goal.returns-clause-elsewhere
returns-clause-elsewhere g c = rw (← c.self.view_is) (λ tells n other. (c.go_over.ensures.removes tells).files.elsewhere n other ∙ ap (λ (f : Files). f n) (c.review.ensures.reads tells).same)

pub returns-clause-name : goal.returns-clause-name
returns-clause-name g c = rw (← c.self.view_is) c.go_over.ensures.name

pub returns-in_err-go_over-clause-elsewhere : goal.returns-in_err-go_over-clause-elsewhere
returns-in_err-go_over-clause-elsewhere g c = rw (← c.self.view_is) (λ tells n other. (c.go_over.ensures.removes tells).files.elsewhere n other ∙ ap (λ (f : Files). f n) (c.review.ensures.reads tells).same)

pub returns-in_err-go_over-clause-name : goal.returns-in_err-go_over-clause-name
returns-in_err-go_over-clause-name g c = rw (← c.self.view_is) c.go_over.ensures.name

pub returns-in_err-review-clause-still : goal.returns-in_err-review-clause-still
returns-in_err-review-clause-still g c =
    let p = rw (← c.self.view_is) at c.requires.pending in
    on_err_always c.from_residual.result (ap (λ (q : Pending). is_sound_with q c.self.inside.current.sound) p.1, ap is_of_commit p.1)

pub returns-in_err-go_over-clause-still : goal.returns-in_err-go_over-clause-still
returns-in_err-go_over-clause-still g c =
    let p = rw (← c.self.view_is) at c.requires.pending in
    on_err_always c.from_residual-in_err-go_over.result (c.in_err-go_over.ensures.unsound, ap (λ (j : JournalState). is_of_commit j.pending) (c.in_err-go_over.ensures.left p.0 p.1))

pub returns-clause-sound : goal.returns-clause-sound
returns-clause-sound g c =
    let p = rw (← c.self.view_is) at c.requires.pending in
    (c.in_ok-go_over.ensures.sound, ap (λ (j : JournalState). is_of_commit j.pending) (c.in_ok-go_over.ensures.over p.0 p.1))

pub returns-then-is_sound-clause-cleared : goal.returns-then-is_sound-clause-cleared
returns-then-is_sound-clause-cleared g c tells next is before after w told = absurd (cc told)

pub returns-then-not-branch-clause-cleared : goal.returns-then-not-branch-clause-cleared
returns-then-not-branch-clause-cleared g c tells next is before after w told = absurd (cc told)

pub returns-clause-cleared : goal.returns-clause-cleared
returns-clause-cleared g c =
    let was = shown_by g.D.Disk c.args.disk.now in
    rw (← c.self.view_is) (λ tells next is before after w told.
    let half = half_switched (state_of c.self.inside.name c.self.inside.at c.self.inside.current c.self.inside.pending) was before after next w (sym c.is_sound.ensures ∙ c.if-is_sound.false) in
    subst (λ (j : JournalState). HasNoneBefore j (shown_by g.D.Disk c.go_over.new.disk)) (sym (c.in_ok-go_over.ensures.over next is))
    (none_before (state_of c.self.inside.name c.review.new.self next Nothing) (shown_by g.D.Disk c.go_over.new.disk) w.generation c.self.inside.current.name half.small half.named w.named.current (c.in_ok-go_over.ensures.gone tells)))

pub returns-then-is_sound-clause-any_moment : goal.returns-then-is_sound-clause-any_moment
returns-then-is_sound-clause-any_moment g c = rw (← c.self.view_is) (λ tells. anyhow_none _ (g.D.Disk.past c.args.disk.now))

pub returns-in_err-review-clause-any_moment : goal.returns-in_err-review-clause-any_moment
returns-in_err-review-clause-any_moment g c = rw (← c.self.view_is) (λ tells. unmoved _ _ _ (c.review.ensures.reads tells).any_moment)

pub returns-then-not-branch-clause-any_moment : goal.returns-then-not-branch-clause-any_moment
returns-then-not-branch-clause-any_moment g c = rw (← c.self.view_is) (λ tells. unmoved _ _ _ (c.review.ensures.reads tells).any_moment)

pub returns-in_err-go_over-clause-any_moment : goal.returns-in_err-go_over-clause-any_moment
returns-in_err-go_over-clause-any_moment g c = rw (← c.self.view_is) (λ tells. then_loosely _ _ _ _ _ (unmoved _ _ _ (c.review.ensures.reads tells).any_moment) (c.go_over.ensures.removes tells).any_moment)

pub returns-clause-any_moment : goal.returns-clause-any_moment
returns-clause-any_moment g c = rw (← c.self.view_is) (λ tells. then_loosely _ _ _ _ _ (unmoved _ _ _ (c.review.ensures.reads tells).any_moment) (c.go_over.ensures.removes tells).any_moment)
