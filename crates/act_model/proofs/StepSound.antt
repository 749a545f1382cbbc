-- Every step keeps the machine sound.
use Rattle.std.proofs.Common.{◌≡◌, ℕ, List, Some, None, sym, subst}
use Rattle.std.specs.Ordering.{nat_cmp}
use Rattle.std.specs.FinMap.{FinMap, get}
use Rattle.act_model.specs.declared.acts.Act.{Act}
use Rattle.act_model.specs.declared.acts.Act.TheVariants.{Register, Pause, Resume, Rename, Offer, Tick, Flush, MoveBegin, MoveStep, Sweep, Pin, OpenPiece, Unpin, Names, Details, Doors, DoorDone}
use Rattle.pb_messages.specs.declared.about.State.TheVariants.{Running, Paused}
use Rattle.act_model.specs.Reply.{Reply}
use Rattle.act_model.specs.Machine.{Machine, MoveState, Change}
use Rattle.act_model.specs.Outcome.{all_go}
use Rattle.act_model.specs.Pause.{not_running}
use Rattle.act_model.specs.Resume.{not_paused}
use Rattle.act_model.specs.Details.{Describes, details_refused}
use Rattle.act_model.specs.Pin.{MakesPin}
use Rattle.act_model.specs.Step.{Step, MayAsk, store_of}
use Rattle.act_model.specs.Sound.{MayMake, EndedMove, IsSound}
use Rattle.act_model.proofs.StepLaws.{Acts-sound, Ends-sound, same_sound}
use Rattle.act_model.proofs.RowActs.{register_sound, state_sound, rename_sound, flush_sound, offer_sound, tick_sound}
use Rattle.act_model.proofs.PinActs.{pins_sound, opens_sound, unpins_sound}
use Rattle.act_model.proofs.MoveActs.{move_begin_sound, move_step_sound, sweep_sound}

all_fewer : (moves : FinMap nat_cmp MoveState) (n : ℕ) (move : MoveState) → get (all_go moves) n ≡ Some move → get moves n ≡ Some move
all_fewer moves n move here = here

no_change : (name : List ℕ) (mid : Machine) (one : Change) → IsSound mid → mid.doubt ≡ None → details_refused name mid ≡ None → None ≡ Some one → MayMake mid.rule mid.told mid.rows mid.limbo one × EndedMove mid.moves one
no_change name mid one s none free is = absurd cc

pub step_sound : (who : ℕ) (act : Act) (old new : Machine) (reply : Reply) → IsSound old → MayAsk act → Step who act old reply new → IsSound new
step_sound who (Register name about) old new reply s ask step = register_sound name about old new reply s step
step_sound who (Pause name) old new reply s ask step = state_sound not_running Paused (λ none. cc) name old new reply s step
step_sound who (Resume name) old new reply s ask step = state_sound not_paused Running (λ none. cc) name old new reply s step
step_sound who (Rename name newname) old new reply s ask step = rename_sound name newname old new reply s step
step_sound who (Offer name ty t line now) old new reply s ask step = offer_sound name ty (record { t = t; line = line }) now old new reply s ask step
step_sound who (Tick row now) old new reply s ask step = tick_sound row now old new reply s step
step_sound who (Flush limit) old new reply s ask step = flush_sound limit old new reply s step
step_sound who (MoveBegin store now) old new reply s ask step = move_begin_sound (store_of store) now old new reply s step
step_sound who (MoveStep n) old new reply s ask step = move_step_sound n old new reply s step
step_sound who Sweep old new reply s ask step = sweep_sound old new reply s step
step_sound who (Pin name query) old new reply s ask step = Acts-sound (details_refused name) (MakesPin who name query) (λ m. None) all_go all_fewer (λ mid answer new s none free ran. pins_sound s ran) (no_change name) s step
step_sound who (OpenPiece pin i) old new reply s ask step = opens_sound s step
step_sound who (Unpin pin) old new reply s ask step = unpins_sound s step
step_sound who (Names from most) old new reply s ask step = Ends-sound _ old new reply s s step
step_sound who (Details name) old new reply s ask step = Acts-sound (details_refused name) (Describes name) (λ m. None) all_go all_fewer (λ mid answer new s none free ran. same_sound mid new ran.same s) (no_change name) s step
step_sound who Doors old new reply s ask step = subst (λ m. IsSound m) (sym step.1) s
step_sound who DoorDone old new reply s ask step = subst (λ m. IsSound m) (sym step.1) s
