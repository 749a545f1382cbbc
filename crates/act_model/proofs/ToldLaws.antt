-- What is told of a move is so, and another's pin doesn't open.
use Rattle.std.proofs.Common.{◌≡◌, ◌≢◌, ℕ, Option, Some, None, true, false, refl, ap, sym, ◌∙◌, subst, arith, inl, inr}
use Rattle.std.specs.Prelude.{◌⊎◌, ◌==◌}
use Rattle.std.proofs.lemmas.Bool.Decides.{nat_tests}
use Rattle.std.specs.Ordering.{nat_cmp}
use Rattle.std.specs.FinMap.{FinMap, get, insert, remove, gets}
use Rattle.disk_model.specs.Files.{Name}
use Rattle.act_model.specs.declared.acts.Answer.TheVariants.{Begun, Damaged, Retired, NoMove, NotYours, Memory}
use Rattle.act_model.specs.Reply.{Reply}
use Rattle.act_model.specs.Rows.{Store}
use Rattle.act_model.specs.Machine.{Machine, PinState, MoveState}
use Rattle.act_model.specs.Changes.{Settles, no_doubt, as_not_made, as_made}
use Rattle.act_model.specs.Outcome.{refused_at_once, refused, runs, faults_first, faults_between, faults_within, faults_removing, wants_memory, wants_memory_settled}
use Rattle.act_model.specs.MoveBegin.{MoveBeginStep, Begins, new_move, begins, all_run, none_to_make}
use Rattle.act_model.specs.MoveStep.{MoveStepStep, GoesOn, copies, has_copied, publishes, retires, again, damaged, no_move}
use Rattle.act_model.specs.OpenPiece.{Opens, refused_open, no_piece, opens, faults_opening, wants_memory_opening}
use Rattle.act_model.specs.Unpin.{pin_refused}
use Rattle.act_model.specs.Step.{store_of}

settled_moves : {old mid : Machine} → Settles old mid → mid.moves ≡ old.moves
settled_moves (no_doubt is) = refl
settled_moves (as_not_made change is) = refl
settled_moves (as_made change into is stay) = refl

settled_tells : {old mid : Machine} → Settles old mid → mid.told ≡ old.told
settled_tells (no_doubt is) = refl
settled_tells (as_not_made change is) = refl
settled_tells (as_made change into is stay) = refl

-- MOVES

abbrev begun_as : ℕ → ℕ → ℕ → Reply
begun_as n row parts = Begun n row parts

same_begun : {n row parts a b c : ℕ} → begun_as n row parts ≡ begun_as a b c → (n ≡ a) × ((row ≡ b) × (parts ≡ c))
same_begun is = (cc, (cc, cc))

put_move : (moves : FinMap nat_cmp MoveState) (n : ℕ) (move : MoveState) → get (insert moves n move) n ≡ Some move
put_move moves n move = grind (arith, gets, nat_tests)

gone_move : (moves : FinMap nat_cmp MoveState) (n : ℕ) → get (remove moves n) n ≡ None
gone_move moves n = grind (arith, gets, nat_tests)

abbrev IsBegun : ℕ → ℕ → ℕ → Machine → Machine → Type 0
IsBegun n row parts old new = (get old.moves n ≡ None) × ((move : MoveState) × (get new.moves n ≡ Some move) × (move.row ≡ row) × (move.parts ≡ parts))

begins_new : {store : Store} {now : ℕ} {mid new : Machine} {reply : Reply} (n row parts : ℕ) → Begins store now mid reply new → reply ≡ Begun n row parts → IsBegun n row parts mid new
begins_new {store} {now} {mid} {new} n row parts (begins k i some to apart low free empty least has passed same) is =
    let own = same_begun is in
    let move = new_move store i some to in
    let there : get new.moves k ≡ Some move = ap (λ (m : Machine). get m.moves k) same ∙ put_move mid.moves k move in
    (subst (λ x. get mid.moves x ≡ None) own.0 empty, (move, subst (λ x. get new.moves x ≡ Some move) own.0 there, own.1.0, own.1.1))
begins_new n row parts (all_run k i moving made passed has same) is = absurd cc
begins_new n row parts (none_to_make has same) is = absurd cc

pub begun_new : (store now n row parts : ℕ) (old new : Machine) (answer : Reply) → MoveBeginStep (store_of store) now old answer new → answer ≡ Begun n row parts → IsBegun n row parts old new
begun_new store now n row parts old new answer (runs a p settles q ran r) is =
    let made = begins_new n row parts ran is in
    (ap (λ w. get w n) (sym (settled_moves settles)) ∙ made.0, made.1)
begun_new store now n row parts old new answer (refused_at_once a p) is = absurd cc
begun_new store now n row parts old new answer (refused a p settles q same r) is = absurd cc
begun_new store now n row parts old new answer (faults_first p same q) is = absurd cc
begun_new store now n row parts old new answer (faults_between p settles same q) is = absurd cc
begun_new store now n row parts old new answer (faults_within doubted p settles q r same t) is = absurd cc
begun_new store now n row parts old new answer (faults_removing done gone p settles q ran t) is = absurd cc
begun_new store now n row parts old new answer (wants_memory same q) is = absurd cc
begun_new store now n row parts old new answer (wants_memory_settled p settles same q) is = absurd cc

-- a MoveStep is refused as NoMove alone
refused_as : (o : Option MoveState) (reply : Reply) → no_move o ≡ Some reply → reply ≡ NoMove
refused_as None reply is = cc
refused_as (Some move) reply is = absurd cc

abbrev retired_as : ℕ → Reply
retired_as parts = Retired parts

same_parts : {a b : ℕ} → retired_as a ≡ retired_as b → a ≡ b
same_parts is = cc

abbrev IsWhole : ℕ → ℕ → Machine → Machine → Type 0
IsWhole n parts old new = ((move : MoveState) × (get old.moves n ≡ Some move) × (move.parts ≡ parts)) × (get new.moves n ≡ None)

goes_whole : {n : ℕ} {mid new : Machine} {reply : Reply} (parts : ℕ) → GoesOn n mid reply new → reply ≡ Retired parts → IsWhole n parts mid new
goes_whole {n} {mid} {new} parts (retires move into here at covers stays named same) is = ((move, here, same_parts is), ap (λ (m : Machine). get m.moves n) same ∙ gone_move mid.moves n)
goes_whole parts (copies move first more next rest here at left same) is = absurd cc
goes_whole parts (has_copied move xs here at left same) is = absurd cc
goes_whole parts (publishes move here at same) is = absurd cc
goes_whole parts (again move len copied here at grown less part same) is = absurd cc
goes_whole parts (damaged name at untold same) is = absurd cc

pub retired_whole : (n parts : ℕ) (old new : Machine) (answer : Reply) → MoveStepStep n old answer new → answer ≡ Retired parts → IsWhole n parts old new
retired_whole n parts old new answer (runs a p settles q ran r) is =
    let made = goes_whole parts ran is in
    ((made.0.0, ap (λ w. get w n) (sym (settled_moves settles)) ∙ made.0.1, made.0.2), made.1)
retired_whole n parts old new answer (refused_at_once a p) is = absurd (let said = refused_as (get old.moves n) a p in cc)
retired_whole n parts old new answer (refused {mid = mid} a p settles q same r) is = absurd (let said = refused_as (get mid.moves n) a q in cc)
retired_whole n parts old new answer (faults_first p same q) is = absurd cc
retired_whole n parts old new answer (faults_between p settles same q) is = absurd cc
retired_whole n parts old new answer (faults_within doubted p settles q r same t) is = absurd cc
retired_whole n parts old new answer (faults_removing done gone p settles q ran t) is = absurd cc
retired_whole n parts old new answer (wants_memory same q) is = absurd cc
retired_whole n parts old new answer (wants_memory_settled p settles same q) is = absurd cc

goes_undamaged : {n : ℕ} {mid new : Machine} {reply : Reply} (name : Name) (place : ℕ) → mid.told ≡ true → GoesOn n mid reply new → reply ≡ Damaged name place → ⊥
goes_undamaged name place told (damaged file at untold same) is = untold told
goes_undamaged name place told (copies move first more next rest here at left same) is = absurd cc
goes_undamaged name place told (has_copied move xs here at left same) is = absurd cc
goes_undamaged name place told (publishes move here at same) is = absurd cc
goes_undamaged name place told (retires move into here at covers stays named same) is = absurd cc
goes_undamaged name place told (again move len copied here at grown less part same) is = absurd cc

pub none_damaged : (n place : ℕ) (name : Name) (old new : Machine) (answer : Reply) → old.told ≡ true → MoveStepStep n old answer new → answer ≡ Damaged name place → ⊥
none_damaged n place name old new answer told (runs a p settles q ran r) is = goes_undamaged name place (settled_tells settles ∙ told) ran is
none_damaged n place name old new answer told (refused_at_once a p) is = absurd (let said = refused_as (get old.moves n) a p in cc)
none_damaged n place name old new answer told (refused {mid = mid} a p settles q same r) is = absurd (let said = refused_as (get mid.moves n) a q in cc)
none_damaged n place name old new answer told (faults_first p same q) is = absurd cc
none_damaged n place name old new answer told (faults_between p settles same q) is = absurd cc
none_damaged n place name old new answer told (faults_within doubted p settles q r same t) is = absurd cc
none_damaged n place name old new answer told (faults_removing done gone p settles q ran t) is = absurd cc
none_damaged n place name old new answer told (wants_memory same q) is = absurd cc
none_damaged n place name old new answer told (wants_memory_settled p settles same q) is = absurd cc

-- ANOTHER'S PIN

refused_other : (who : ℕ) (pin : PinState) → pin.owner ≢ who → pin_refused who (Some pin) ≡ Some (NotYours pin.owner)
refused_other who pin other = let apart : (pin.owner == who) ≡ false = grind (arith, nat_tests) in rw apart refl

pub others_open_none : (who n i : ℕ) (pin : PinState) (old new : Machine) (answer : Reply) → Opens who n i old answer new → get old.pins n ≡ Some pin → pin.owner ≢ who → (answer ≡ NotYours pin.owner) ⊎ (answer ≡ Memory)
others_open_none who n i pin old new answer (refused_open reply p) here other = let said : pin_refused who (get old.pins n) ≡ Some (NotYours pin.owner) = rw here (refused_other who pin other) in inl cc
others_open_none who n i pin old new answer (no_piece p there mine none) here other = absurd (other (let same : p ≡ pin = cc in ap (λ (x : PinState). x.owner) (sym same) ∙ mine))
others_open_none who n i pin old new answer (opens p piece reader file head_len len there mine at faults shows named enough same more) here other = absurd (other (let same : p ≡ pin = cc in ap (λ (x : PinState). x.owner) (sym same) ∙ mine))
others_open_none who n i pin old new answer (faults_opening p piece there mine at same rose) here other = absurd (other (let same : p ≡ pin = cc in ap (λ (x : PinState). x.owner) (sym same) ∙ mine))
others_open_none who n i pin old new answer (wants_memory_opening same more) here other = inr refl
