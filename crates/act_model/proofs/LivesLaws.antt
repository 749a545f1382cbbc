-- Lives one after another: each begins sound on what was left, and rows last and follow their bases.
use Rattle.std.proofs.Common.{◌≡◌, ℕ, List, Bool, Some, true, refl, ◌∙◌, subst}
use Rattle.std.specs.Prelude.{slice_get}
use Rattle.act_model.specs.Rows.{RowState, accepted, durable}
use Rattle.act_model.specs.Whole.{AllFollow, whole}
use Rattle.series_model.specs.Archive.{Extends, IsPrefix}
use Rattle.act_model.specs.Machine.{Machine}
use Rattle.act_model.specs.Sound.{BasesSound, IsSound}
use Rattle.act_model.specs.Growth.{RowsOn, Onward, RowsLast}
use Rattle.act_model.specs.Crash.{kept, Between}
use Rattle.act_model.specs.NextLife.{opened}
use Rattle.act_model.specs.Lives.{Stops, between_acts, within_an_act, Lives, one_life, one_more}
use Rattle.act_model.proofs.Onward.{prefix_refl, prefix_trans, left_between}
use Rattle.act_model.proofs.StepOnward.{left_on_between, left_on, crash_within}
use Rattle.act_model.proofs.Histories.{runs_sound, runs_onward}
use Rattle.act_model.proofs.NextLife.{next_life_sound, next_life_between, lives, forth, left_bases, between_bases, durable_opened, opened_follow}
use Rattle.act_model.proofs.WholeLaws.{durable_extends, durable_follow}

-- WHAT A STOP LEAVES

stop_on : (last left : Machine) → IsSound last → Stops last left → Onward last left
stop_on last left s (between_acts is) = left_on_between last left s is
stop_on last left s (within_an_act act is) = left_on act last left s is

stop_opens : (last left : Machine) (doors faults : ℕ) → IsSound last → Stops last left → IsSound (opened last.rule last.told doors faults (kept left))
stop_opens last left doors faults s (between_acts is) = next_life_between last left s is last.rule last.told doors faults
stop_opens last left doors faults s (within_an_act act is) = next_life_sound act last left s is last.rule last.told doors faults

stop_bases : (last left : Machine) → IsSound last → Stops last left → (told : Bool) × BasesSound told left.rows
stop_bases last left s (between_acts is) = between_bases last left s is
stop_bases last left s (within_an_act act is) = left_bases act last left s is

stop_between : (last left : Machine) → last.told ≡ true → IsSound last → Stops last left → (i : ℕ) (row : RowState) → slice_get left.rows i ≡ Some row → Between last.rows i row
stop_between last left t s (between_acts is) i row here = left_between last left t s is i row here
stop_between last left t s (within_an_act act is) i row here = crash_within act last left t s is i row here

-- ROWS THAT LAST

rows_last : (rows news : List RowState) → RowsOn rows news → RowsLast rows news
rows_last rows news on = λ i row here. let x = on i row here in (x.0, x.1, record { name = x.2.name; about = x.2.about; base = x.2.base; durable_on = x.2.durable_on })

last_trans : (a b c : List RowState) → RowsLast a b → RowsLast b c → RowsLast a c
last_trans a b c p q = λ i row here. let x = p i row here in let y = q i x.0 x.1 in
    (y.0, y.1, record { name = y.2.name ∙ x.2.name; about = y.2.about ∙ x.2.about; base = y.2.base ∙ x.2.base; durable_on = prefix_trans (durable row) (durable x.0) (durable y.0) x.2.durable_on y.2.durable_on })

-- what is opened has the rows that were left
opened_last : (last left : Machine) (doors faults : ℕ) → RowsLast left.rows (opened last.rule last.told doors faults (kept left)).rows
opened_last last left doors faults = λ i row here. (lives left.rows i row, forth left.rows i row here, record { name = refl; about = refl; base = refl; durable_on = prefix_refl (durable row) })

-- LIVES

pub lives_sound : (start now : Machine) → IsSound start → Lives start now → IsSound now
lives_sound start now s (one_life entries p) = runs_sound entries start now s p
lives_sound start now s (one_more {last} {left} earlier stops doors faults entries p) =
    runs_sound entries (opened last.rule last.told doors faults (kept left)) now (stop_opens last left doors faults (lives_sound start last s earlier) stops) p

lives_told : (start now : Machine) → IsSound start → Lives start now → now.told ≡ start.told
lives_told start now s (one_life entries p) = (runs_onward entries start now s p).told
lives_told start now s (one_more {last} {left} earlier stops doors faults entries p) =
    (runs_onward entries (opened last.rule last.told doors faults (kept left)) now (stop_opens last left doors faults (lives_sound start last s earlier) stops) p).told ∙ lives_told start last s earlier

rows_lasting : (start now : Machine) → start.told ≡ true → IsSound start → Lives start now → RowsLast start.rows now.rows
rows_lasting start now t s (one_life entries p) = rows_last start.rows now.rows ((runs_onward entries start now s p).rows t)
rows_lasting start now t s (one_more {last} {left} earlier stops doors faults entries p) =
    let sound : IsSound last = lives_sound start last s earlier in
    let told : last.told ≡ true = lives_told start last s earlier ∙ t in
    let first = opened last.rule last.told doors faults (kept left) in
    let before = rows_lasting start last t s earlier in
    let stop = rows_last last.rows left.rows ((stop_on last left sound stops).rows told) in
    let after = rows_last first.rows now.rows ((runs_onward entries first now (stop_opens last left doors faults sound stops) p).rows told) in
    last_trans start.rows last.rows now.rows before (last_trans last.rows left.rows now.rows stop (last_trans left.rows first.rows now.rows (opened_last last left doors faults) after))

wholes_lasting : (start now : Machine) → start.told ≡ true → IsSound start → Lives start now → Extends (whole durable now.rows) (whole durable start.rows)
wholes_lasting start now t s (one_life entries p) i = durable_extends start now.rows s ((runs_onward entries start now s p).rows t) i
wholes_lasting start now t s (one_more {last} {left} earlier stops doors faults entries p) i =
    let sound : IsSound last = lives_sound start last s earlier in
    let told : last.told ≡ true = lives_told start last s earlier ∙ t in
    let first = opened last.rule last.told doors faults (kept left) in
    let opens = stop_opens last left doors faults sound stops in
    let to_left = durable_extends last left.rows sound ((stop_on last left sound stops).rows told) i in
    let after = durable_extends first now.rows opens ((runs_onward entries first now opens p).rows told) i in
    let from_left : IsPrefix (whole durable left.rows i) (whole durable now.rows i) = subst (λ w. IsPrefix w (whole durable now.rows i)) (durable_opened last.rule last.told doors faults left i) after in
    prefix_trans (whole durable start.rows i) (whole durable last.rows i) (whole durable now.rows i) (wholes_lasting start last t s earlier i)
    (prefix_trans (whole durable last.rows i) (whole durable left.rows i) (whole durable now.rows i) to_left from_left)

pub lives_last : (start now : Machine) → start.told ≡ true → IsSound start → Lives start now → RowsLast start.rows now.rows × Extends (whole durable now.rows) (whole durable start.rows)
lives_last start now t s lives_on = (rows_lasting start now t s lives_on, wholes_lasting start now t s lives_on)

-- what was accepted follows the wholes of bases in all later lives
pub lives_follow : (start now : Machine) → start.told ≡ true → IsSound start → Lives start now → AllFollow accepted start.rows → AllFollow accepted now.rows
lives_follow start now t s (one_life entries p) f = (runs_onward entries start now s p).follow t f
lives_follow start now t s (one_more {last} {left} earlier stops doors faults entries p) f =
    let sound : IsSound last = lives_sound start last s earlier in
    let told : last.told ≡ true = lives_told start last s earlier ∙ t in
    let bases = stop_bases last left sound stops in
    let left_follow = durable_follow bases.0 left.rows bases.1 ((stop_on last left sound stops).follow told (lives_follow start last t s earlier f)) in
    (runs_onward entries (opened last.rule last.told doors faults (kept left)) now (stop_opens last left doors faults sound stops) p).follow told (opened_follow last.rule last.told doors faults left left_follow)

-- what a life leaves was accepted in it, and holds what was durable in it
pub lives_leave : (start last left : Machine) → start.told ≡ true → IsSound start → Lives start last → Stops last left → (i : ℕ) (row : RowState) → slice_get left.rows i ≡ Some row → Between last.rows i row
lives_leave start last left t s earlier stops i row here = stop_between last left (lives_told start last s earlier ∙ t) (lives_sound start last s earlier) stops i row here
