-- Resume: a paused variable's samples are taken again.
use Rattle.std.specs.Prelude.{ℕ, List, if◌then◌else◌, Option, Some, None}
use Rattle.pb_messages.specs.declared.about.State.{State}
use Rattle.pb_messages.specs.declared.about.State.TheVariants.{Running}
use Rattle.act_model.specs.Machine.{Machine}
use Rattle.act_model.specs.Pause.{StateStep}
use Rattle.act_model.specs.Reply.{Reply}
use Rattle.act_model.specs.Rows.{is_paused}
use Rattle.act_model.specs.declared.acts.Answer.TheVariants.{NotPaused}

-- only a paused row is resumed
abbrev pub not_paused : State → Option Reply
not_paused s = if is_paused s then None else Some NotPaused

abbrev pub ResumeStep : List ℕ → Machine → Reply → Machine → Type 0
ResumeStep name old answer new = StateStep not_paused Running name old answer new
