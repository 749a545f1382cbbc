-- Every act that settles a doubt keeps the machine sound, if what it runs does.
use Rattle.std.proofs.Common.{◌≡◌, ℕ, List, Option, Some, None, Bool, refl, sym, subst, inl, inr}
use Rattle.std.specs.Ordering.{nat_cmp}
use Rattle.std.specs.FinMap.{FinMap, get}
use Rattle.act_model.specs.Reply.{Reply}
use Rattle.act_model.specs.Rows.{RowState}
use Rattle.act_model.specs.Rule.{Rule}
use Rattle.act_model.specs.Limbo.{RowFile}
use Rattle.act_model.specs.Machine.{Machine, PinState, MoveState, Change, AddsRow, SetsState, Renames, Appends, Publishes, Unlists}
use Rattle.act_model.specs.Changes.{made, Retires, Settles, no_doubt, as_not_made, as_made}
use Rattle.act_model.specs.Outcome.{Outcome, Ends, Same, Acts, stops, refused_at_once, refused, runs, faults_first, faults_between, faults_within, faults_removing, wants_memory, wants_memory_settled}
use Rattle.act_model.specs.Sound.{MayMake, EndedMove, IsSoundOf, IsSound}
use Rattle.act_model.proofs.MadeSound.{made_sound}

pub same_sound : (mid new : Machine) → Same mid new → IsSound mid → IsSound new
same_sound mid new same s = let counted : IsSound (record mid { faults = new.faults }) = s in subst (λ m. IsSound m) (sym same) counted

-- fewer moves are as sound
pub ended_fewer : (moves fewer : FinMap nat_cmp MoveState) → ((n : ℕ) (move : MoveState) → get fewer n ≡ Some move → get moves n ≡ Some move) → (change : Change) → EndedMove moves change → EndedMove fewer change
ended_fewer moves fewer sub (AddsRow name about) e = tt
ended_fewer moves fewer sub (SetsState i state) e = tt
ended_fewer moves fewer sub (Renames i name) e = tt
ended_fewer moves fewer sub (Appends batch) e = tt
ended_fewer moves fewer sub (Publishes i store copied) e = λ n move here copies. e n move (sub n move here) copies
ended_fewer moves fewer sub (Unlists i store to) e = λ n move here copies. e n move (sub n move here) copies

pub fewer_moves : (rule : Rule) (told : Bool) (rows : List RowState) (limbo : List RowFile) (pins : FinMap nat_cmp PinState) (moves fewer : FinMap nat_cmp MoveState) (doubt : Option Change) → ((n : ℕ) (move : MoveState) → get fewer n ≡ Some move → get moves n ≡ Some move) → IsSoundOf rule told rows limbo pins moves doubt → IsSoundOf rule told rows limbo pins fewer doubt
fewer_moves rule told rows limbo pins moves fewer doubt sub s =
    record {
      few = s.few;
      keys = s.keys;
      each_row = s.each_row;
      bases = s.bases;
      lines = s.lines;
      intake = s.intake;
      doubted = λ c is. let old = s.doubted c is in (old.0, ended_fewer moves fewer sub c old.1);
      each_move = λ n move here. s.each_move n move (sub n move here);
      one_move = λ n k move other here there same. s.one_move n k move other (sub n move here) (sub k other there) same;
      each_file = s.each_file;
      each_unlisted = s.each_unlisted;
      places = s.places;
      pinned = s.pinned;
    }

pub with_doubt : (rule : Rule) (told : Bool) (rows : List RowState) (limbo : List RowFile) (pins : FinMap nat_cmp PinState) (moves : FinMap nat_cmp MoveState) (doubt : Option Change) (change : Change) → IsSoundOf rule told rows limbo pins moves doubt → MayMake rule told rows limbo change × EndedMove moves change → IsSoundOf rule told rows limbo pins moves (Some change)
with_doubt rule told rows limbo pins moves doubt change s may =
    record { few = s.few; keys = s.keys; each_row = s.each_row; bases = s.bases; lines = s.lines; intake = s.intake; doubted = λ c is. let same : change ≡ c = cc in subst (λ d. MayMake rule told rows limbo d × EndedMove moves d) same may; each_move = s.each_move; one_move = s.one_move; each_file = s.each_file; each_unlisted = s.each_unlisted; places = s.places; pinned = s.pinned }

pub no_doubt_sound : (rule : Rule) (told : Bool) (rows : List RowState) (limbo : List RowFile) (pins : FinMap nat_cmp PinState) (moves : FinMap nat_cmp MoveState) (doubt : Option Change) → IsSoundOf rule told rows limbo pins moves doubt → IsSoundOf rule told rows limbo pins moves None
no_doubt_sound rule told rows limbo pins moves doubt s =
    record { few = s.few; keys = s.keys; each_row = s.each_row; bases = s.bases; lines = s.lines; intake = s.intake; doubted = λ c is. absurd cc; each_move = s.each_move; one_move = s.one_move; each_file = s.each_file; each_unlisted = s.each_unlisted; places = s.places; pinned = s.pinned }

pub settled_sound : {old mid : Machine} → Settles old mid → IsSound old → IsSound mid
settled_sound (no_doubt is) s = s
settled_sound {old} (as_not_made change is) s = no_doubt_sound old.rule old.told old.rows old.limbo old.pins old.moves old.doubt s
settled_sound {old} (as_made change into is retires) s = let may = s.doubted change is in made_sound old into change s may.0 retires old.moves may.1 s.each_move s.one_move

pub settled_none : {old mid : Machine} → Settles old mid → mid.doubt ≡ None
settled_none (no_doubt is) = is
settled_none (as_not_made change is) = refl
settled_none (as_made change into is retires) = refl

-- an act's own change, where no doubt stands
pub own_change : (mid new : Machine) (into : List RowFile) (change : Change) → IsSound mid → mid.doubt ≡ None → MayMake mid.rule mid.told mid.rows mid.limbo change → EndedMove mid.moves change → Retires mid change into → Same (made into change mid) new → IsSound new
own_change mid new into change s none may still retires same =
    let changed = made into change mid in
    let after : IsSoundOf changed.rule changed.told changed.rows changed.limbo changed.pins changed.moves None = made_sound mid into change s may retires mid.moves still s.each_move s.one_move in
    same_sound changed new same (subst (λ d. IsSoundOf changed.rule changed.told changed.rows changed.limbo changed.pins changed.moves d) (sym none) after)

module _ (refuse : Machine → Option Reply) (run : Machine → Reply → Machine → Type 0) (change : Machine → Option Change) (stopped : FinMap nat_cmp MoveState → FinMap nat_cmp MoveState)
    (fewer : (moves : FinMap nat_cmp MoveState) (n : ℕ) (move : MoveState) → get (stopped moves) n ≡ Some move → get moves n ≡ Some move)
    (run_keeps : (mid : Machine) (answer : Reply) (new : Machine) → IsSound mid → mid.doubt ≡ None → refuse mid ≡ None → run mid answer new → IsSound new)
    (may : (mid : Machine) (one : Change) → IsSound mid → mid.doubt ≡ None → refuse mid ≡ None → change mid ≡ Some one → MayMake mid.rule mid.told mid.rows mid.limbo one × EndedMove (stopped mid.moves) one) where
  stopped_sound : (m : Machine) → IsSound m → IsSound (stops stopped m)
  stopped_sound m s = fewer_moves m.rule m.told m.rows m.limbo m.pins m.moves (stopped m.moves) m.doubt (fewer m.moves) s

  pub Acts-sound : {old new : Machine} {answer : Reply} → IsSound old → Acts refuse run change stopped old answer new → IsSound new
  Acts-sound s (refused_at_once answer p) = s
  Acts-sound {old} {new} s (refused {mid = mid} answer p settles q same r) = same_sound mid new same (settled_sound settles s)
  Acts-sound {old} {new} s (runs {mid = mid} answer p settles q ran r) = run_keeps mid answer new (settled_sound settles s) (settled_none settles) q ran
  Acts-sound {old} {new} s (faults_first p same q) = same_sound (stops stopped old) new same (stopped_sound old s)
  Acts-sound {old} {new} s (faults_between {mid = mid} p settles same q) = same_sound (stops stopped mid) new same (stopped_sound mid (settled_sound settles s))
  Acts-sound {old} {new} s (faults_within {mid = mid} doubted p settles q r same t) =
      let sound : IsSound mid = settled_sound settles s in
      let own = may mid doubted sound (settled_none settles) q r in
      same_sound (record (stops stopped mid) { doubt = Some doubted }) new same (with_doubt mid.rule mid.told mid.rows mid.limbo mid.pins (stopped mid.moves) mid.doubt doubted (stopped_sound mid sound) own)
  Acts-sound {old} {new} s (faults_removing {mid = mid} done gone p settles q ran t) = run_keeps mid done new (settled_sound settles s) (settled_none settles) q ran
  Acts-sound {old} {new} s (wants_memory same q) = same_sound old new same s
  Acts-sound {old} {new} s (wants_memory_settled {mid = mid} p settles same q) = same_sound mid new same (settled_sound settles s)

pub Ends-sound : (end : Outcome) (old new : Machine) (answer : Reply) → IsSound old → IsSound end.after → Ends end old answer new → IsSound new
Ends-sound end old new answer s after (inl p) = subst (λ m. IsSound m) (sym p.1) after
Ends-sound end old new answer s after (inr p) = subst (λ m. IsSound m) (sym p.1) s
