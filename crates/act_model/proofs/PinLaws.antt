-- A pin stands as it was made until its owner gives it up, through every act of anyone, and what is opened of it has the bytes that were pinned.
use Rattle.std.proofs.Common.{◌≡◌, ℕ, List, [], ◌∷◌, ◌++◌, length, Option, Some, None, Bool, true, false, cond, refl, ap, sym, ◌∙◌, arith, subst, inl, inr}
use Rattle.std.specs.Prelude.{◌==◌, slice_get}
use Rattle.std.proofs.lemmas.Bool.Decides.{nat_tests}
use Rattle.std.specs.Ordering.{nat_cmp}
use Rattle.std.specs.FinMap.{FinMap, get, insert, remove, gets}
use Rattle.std.specs.List.{AllByRecursion}
use Rattle.series_model.specs.declared.sample.Query.{Query}
use Rattle.series_model.specs.declared.sample.Sample.{Sample}
use Rattle.series_model.specs.Series.{over}
use Rattle.series_model.specs.Retrieval.{answer}
use Rattle.pb_messages.specs.declared.about.About.{About}
use Rattle.act_model.specs.Rows.{RowState, accepted}
use Rattle.act_model.specs.Limbo.{RowFile}
use Rattle.disk_model.specs.Files.{Name}
use Rattle.act_model.specs.declared.acts.Act.{Act}
use Rattle.act_model.specs.declared.acts.Act.TheVariants.{Register, Pause, Resume, Rename, Offer, Tick, Flush, MoveBegin, MoveStep, Sweep, Pin, OpenPiece, Unpin, Names, Details, Doors, DoorDone}
use Rattle.act_model.specs.declared.acts.Answer.TheVariants.{Piece, Pinned, NotYours}
use Rattle.act_model.specs.Reply.{Reply, OpenedFile}
use Rattle.act_model.specs.Machine.{Machine, PinState, MoveState, Change, find_row, place, same_bytes}
use Rattle.act_model.specs.Changes.{Settles, no_doubt, as_not_made, as_made}
use Rattle.act_model.specs.Outcome.{Outcome, Ends, Same, Acts, all_go, refused_at_once, refused, runs, faults_first, faults_between, faults_within, faults_removing, wants_memory, wants_memory_settled}
use Rattle.act_model.specs.Register.{register_refused, Registers}
use Rattle.act_model.specs.Pause.{Sets}
use Rattle.act_model.specs.Rename.{IsRenamed}
use Rattle.act_model.specs.Flush.{Flushes}
use Rattle.act_model.specs.Details.{Describes, details_refused}
use Rattle.act_model.specs.MoveBegin.{Begins, begins, all_run, none_to_make}
use Rattle.act_model.specs.MoveStep.{GoesOn, copies, has_copied, publishes, retires, again, damaged, ends_move}
use Rattle.act_model.specs.Sweep.{Sweeps}
use Rattle.act_model.specs.Rule.{Rule}
use Rattle.act_model.specs.Files.{IsFileOf}
use Rattle.act_model.specs.Pin.{IsPieceOf, MakesPin, pins, over_pieces}
use Rattle.act_model.specs.Whole.{whole}
use Rattle.act_model.specs.OpenPiece.{Opens, refused_open, no_piece, opens, faults_opening, wants_memory_opening, Shows, IsNamed}
use Rattle.act_model.specs.Unpin.{Unpins, refused_unpin, unpins, pin_refused}
use Rattle.act_model.specs.Sound.{IsSound}
use Rattle.act_model.specs.Step.{Step, MayAsk, store_of}
use Rattle.act_model.specs.History.{Entry, Runs, own}
use Rattle.act_model.specs.Pinned.{Keeps, AllKeep, PinStands, IsOpenedAs, IsPinMade, IsRead}
use Rattle.act_model.proofs.RowActs.{RowAct, stays_act, row_act, offered_act, ticked_act}
use Rattle.act_model.proofs.Rows.{of_all}
use Rattle.act_model.proofs.StepSound.{step_sound}
use Rattle.act_model.proofs.StepOnward.{step_onward}
use Rattle.act_model.proofs.Histories.{runs_apart, runs_sound, runs_onward}

-- the same pins
abbrev Alike : Machine → Machine → Type 0
Alike old new = new.pins ≡ old.pins

alike_same : (old new : Machine) → Same old new → Alike old new
alike_same old new same = ap (λ (m : Machine). m.pins) same

settled_pins : {old mid : Machine} → Settles old mid → Alike old mid
settled_pins (no_doubt is) = refl
settled_pins (as_not_made change is) = refl
settled_pins (as_made change into is stays) = refl

-- every act but Pin and Unpin leaves the pins as they are
module _ (refuse : Machine → Option Reply) (run : Machine → Reply → Machine → Type 0) (change : Machine → Option Change) (stopped : FinMap nat_cmp MoveState → FinMap nat_cmp MoveState)
    (P : Machine → Machine → Type 0) (of_alike : (old new : Machine) → Alike old new → P old new) (later : (old mid new : Machine) → Alike old mid → P mid new → P old new)
    (run_pins : (mid : Machine) (answer : Reply) (new : Machine) → run mid answer new → P mid new) where
  Acts-pins : {old new : Machine} {answer : Reply} → Acts refuse run change stopped old answer new → P old new
  Acts-pins {old} (refused_at_once answer p) = of_alike old old refl
  Acts-pins {old} {new} (refused {mid = mid} answer p settles q same r) = of_alike old new (alike_same mid new same ∙ settled_pins settles)
  Acts-pins {old} {new} (runs {mid = mid} answer p settles q ran r) = later old mid new (settled_pins settles) (run_pins mid answer new ran)
  Acts-pins {old} {new} (faults_first p same q) = of_alike old new (ap (λ (m : Machine). m.pins) same)
  Acts-pins {old} {new} (faults_between {mid = mid} p settles same q) = of_alike old new (ap (λ (m : Machine). m.pins) same ∙ settled_pins settles)
  Acts-pins {old} {new} (faults_within {mid = mid} doubted p settles q r same t) = of_alike old new (ap (λ (m : Machine). m.pins) same ∙ settled_pins settles)
  Acts-pins {old} {new} (faults_removing {mid = mid} done gone p settles q ran t) = later old mid new (settled_pins settles) (run_pins mid done new ran)
  Acts-pins {old} {new} (wants_memory same q) = of_alike old new (alike_same old new same)
  Acts-pins {old} {new} (wants_memory_settled {mid = mid} p settles same q) = of_alike old new (alike_same mid new same ∙ settled_pins settles)

module _ (refuse : Machine → Option Reply) (run : Machine → Reply → Machine → Type 0) (change : Machine → Option Change) (stopped : FinMap nat_cmp MoveState → FinMap nat_cmp MoveState)
    (run_pins : (mid : Machine) (answer : Reply) (new : Machine) → run mid answer new → Alike mid new) where
  Acts-alike : {old new : Machine} {answer : Reply} → Acts refuse run change stopped old answer new → Alike old new
  Acts-alike step = Acts-pins refuse run change stopped Alike (λ old new is. is) (λ old mid new a b. b ∙ a) run_pins step

begins_pins : {store : _} {now : ℕ} {mid new : Machine} {answer : Reply} → Begins store now mid answer new → Alike mid new
begins_pins {mid = mid} {new = new} (begins n i parts to apart low free empty least has passed same) = ap (λ (m : Machine). m.pins) same
begins_pins {mid = mid} {new = new} (all_run n i moving made passed has same) = alike_same mid new same
begins_pins {mid = mid} {new = new} (none_to_make has same) = alike_same mid new same

goes_pins : {n : ℕ} {mid new : Machine} {answer : Reply} → GoesOn n mid answer new → Alike mid new
goes_pins (copies move first more next rest here at left same) = ap (λ (m : Machine). m.pins) same
goes_pins (has_copied move xs here at left same) = ap (λ (m : Machine). m.pins) same
goes_pins (publishes move here at same) = ap (λ (m : Machine). m.pins) same
goes_pins (retires move into here at covers stays named same) = ap (λ (m : Machine). m.pins) same
goes_pins (again move len copied here at grown less part same) = ap (λ (m : Machine). m.pins) same
goes_pins (damaged name at untold same) = ap (λ (m : Machine). m.pins) same

opens_pins : {who pin i : ℕ} {old new : Machine} {reply : Reply} → Opens who pin i old reply new → Alike old new
opens_pins (refused_open reply p) = refl
opens_pins (no_piece p a b c) = refl
opens_pins {old = old} {new = new} (opens p piece reader name head_len len a b c d e named enough same f) = alike_same old new same
opens_pins {old = old} {new = new} (faults_opening p piece a b c same q) = alike_same old new same
opens_pins {old = old} {new = new} (wants_memory_opening same q) = alike_same old new same

ends_pins : (end : Outcome) (old new : Machine) (answer : Reply) → Alike old end.after → Ends end old answer new → Alike old new
ends_pins end old new answer on (inl p) = ap (λ (m : Machine). m.pins) p.1 ∙ on
ends_pins end old new answer on (inr p) = ap (λ (m : Machine). m.pins) p.1

act_pins : (m : Machine) (end : Outcome) → RowAct m end → Alike m end.after
act_pins m end (stays_act answer) = refl
act_pins m end (row_act answer i f row here tail bytes) = refl

-- ONE PIN

-- a pin stands in both
abbrev Stays : ℕ → PinState → Machine → Machine → Type 0
Stays n pin old new = get old.pins n ≡ Some pin → get new.pins n ≡ Some pin

alike_stays : (n : ℕ) (pin : PinState) (old new : Machine) → Alike old new → Stays n pin old new
alike_stays n pin old new is here = ap (λ p. get p n) is ∙ here

later_stays : (n : ℕ) (pin : PinState) (old mid new : Machine) → Alike old mid → Stays n pin mid new → Stays n pin old new
later_stays n pin old mid new is more here = more (alike_stays n pin old mid is here)

-- a new pin has a free number
pins_stay : (n : ℕ) (pin : PinState) {who : ℕ} {name : List ℕ} {query : Query} {mid new : Machine} {reply : Reply} → MakesPin who name query mid reply new → Stays n pin mid new
pins_stay n pin {who} {mid = mid} {new = new} (pins i row k pieces found there free least listed order gives few same) here = ap (λ (m : Machine). get m.pins n) same ∙ by_test (n == k) refl
  where
    by_test : (b : Bool) → (n == k) ≡ b → get (insert mid.pins k (record { owner = who; pieces = pieces })) n ≡ Some pin
    by_test true is = absurd (let eq : n ≡ k = grind (arith, nat_tests) in let none : get mid.pins n ≡ None = ap (λ w. get mid.pins w) eq ∙ free in let bad = sym none ∙ here in cc)
    by_test false is = grind (arith, gets, nat_tests)

-- only its owner gives it up
unpins_stay : (n : ℕ) (pin : PinState) {who k : ℕ} {old new : Machine} {reply : Reply} → (who ≡ pin.owner → k ≡ n → ⊥) → Unpins who k old reply new → Stays n pin old new
unpins_stay n pin other (refused_unpin reply p) here = here
unpins_stay n pin {who} {k} {old} other (unpins p) here = by_test (n == k) refl
  where
    owned : (p : PinState) → pin_refused who (Some p) ≡ None → who ≡ p.owner
    owned p none = by_owner (p.owner == who) refl none
      where
        by_owner : (b : Bool) → (p.owner == who) ≡ b → pin_refused who (Some p) ≡ None → who ≡ p.owner
        by_owner true is none = grind (arith, nat_tests)
        by_owner false is none = absurd (let bad = rw is at none in cc)

    by_test : (b : Bool) → (n == k) ≡ b → get (remove old.pins k) n ≡ Some pin
    by_test true is =
        let eq : n ≡ k = grind (arith, nat_tests) in
        let mine : get old.pins k ≡ Some pin = ap (λ w. get old.pins w) (sym eq) ∙ here in
        absurd (other (owned pin (subst (λ o. pin_refused who o ≡ None) mine p)) (sym eq))
    by_test false is = grind (arith, gets, nat_tests)

-- an act that isn't its owner's Unpin leaves a pin as it is
pub step_keeps : (n : ℕ) (pin : PinState) (e : Entry) (old new : Machine) → IsSound old → MayAsk e.act → Step e.who e.act old e.answer new → Keeps pin.owner n e → Stays n pin old new
step_keeps n pin e old new s ask step keeps = by_act e.act ask step refl
  where
    alike : Alike old new → Stays n pin old new
    alike is = alike_stays n pin old new is

    by_act : (act : Act) → MayAsk act → Step e.who act old e.answer new → e.act ≡ act → Stays n pin old new
    by_act (Register name about) ask step is = alike (Acts-alike (register_refused name) (Registers name about) _ all_go (λ mid answer new ran. ap (λ (m : Machine). m.pins) ran.1) step)
    by_act (Pause name) ask step is = alike (Acts-alike _ (Sets _ name) _ all_go (λ mid answer new ran. ap (λ (m : Machine). m.pins) ran.1.2) step)
    by_act (Resume name) ask step is = alike (Acts-alike _ (Sets _ name) _ all_go (λ mid answer new ran. ap (λ (m : Machine). m.pins) ran.1.2) step)
    by_act (Rename name newname) ask step is = alike (Acts-alike _ (IsRenamed name newname) _ all_go (λ mid answer new ran. ap (λ (m : Machine). m.pins) ran.1.2) step.1)
    by_act (Offer name ty t line now) ask step is = alike (ends_pins _ old new e.answer (act_pins old _ (offered_act old name ty (record { t = t; line = line }) now s ask)) step)
    by_act (Tick row now) ask step is = alike (ends_pins _ old new e.answer (act_pins old _ (ticked_act old row now s)) step)
    by_act (Flush limit) ask step is = alike (Acts-alike _ (Flushes limit) _ all_go (λ mid answer new ran. ap (λ (m : Machine). m.pins) ran.1) step)
    by_act (MoveBegin store now) ask step is = alike (Acts-alike _ (Begins (store_of store) now) _ all_go (λ mid answer new ran. begins_pins ran) step)
    by_act (MoveStep k) ask step is = alike (Acts-alike _ (GoesOn k) _ (ends_move k) (λ mid answer new ran. goes_pins ran) step)
    by_act Sweep ask step is = alike (Acts-alike _ Sweeps _ all_go (λ mid answer new ran. ap (λ (m : Machine). m.pins) ran.same) step)
    by_act (Pin name query) ask step is = Acts-pins (details_refused name) (MakesPin e.who name query) (λ m. None) all_go (Stays n pin) (alike_stays n pin) (later_stays n pin) (λ mid answer new ran. pins_stay n pin ran) step
    by_act (OpenPiece k i) ask step is = alike (opens_pins step)
    by_act (Unpin k) ask step is = unpins_stay n pin (λ owner same. keeps owner (is ∙ ap (λ w. Unpin w) same)) step
    by_act (Names from most) ask step is = alike (ends_pins _ old new e.answer refl step)
    by_act (Details name) ask step is = alike (Acts-alike (details_refused name) (Describes name) _ all_go (λ mid answer new ran. alike_same mid new ran.same) step)
    by_act Doors ask step is = alike (ap (λ (m : Machine). m.pins) step.1)
    by_act DoorDone ask step is = alike (ap (λ (m : Machine). m.pins) step.1)

-- RUNS

runs_keep : (n : ℕ) (pin : PinState) (entries : List Entry) (old new : Machine) → IsSound old → Runs old entries new → AllKeep pin.owner n entries → Stays n pin old new
runs_keep n pin [] old new s p keep here = ap (λ (m : Machine). get m.pins n) p ∙ here
runs_keep n pin (e ∷ rest) old new s p keep here =
    let first = step_keeps n pin e old p.1 s p.0 p.2 keep.0 here in
    runs_keep n pin rest p.1 new (step_sound e.who e.act old p.1 e.answer s p.0 p.2) p.3 keep.1 first

-- Through a run in which its owner doesn't unpin it a pin stays, and its pieces stand in their stores or in limbo.
pub pin_stands : (n : ℕ) (pin : PinState) (entries : List Entry) (old new : Machine) → IsSound old → Runs old entries new → AllKeep pin.owner n entries → get old.pins n ≡ Some pin → PinStands n pin new
pin_stands n pin entries old new s p keep here =
    let there = runs_keep n pin entries old new s p keep here in
    record { there = there; pieces = λ t. (runs_sound entries old new s p).pinned t n pin there }

none_own : (n : ℕ) (pin : PinState) (entries : List Entry) → own pin.owner entries ≡ [] → AllKeep pin.owner n entries
none_own n pin [] none = tt
none_own n pin (e ∷ rest) none = by_test (e.who == pin.owner) refl none (none_own n pin rest)
  where
    by_test : (b : Bool) → (e.who == pin.owner) ≡ b → cond b (e ∷ own pin.owner rest) (own pin.owner rest) ≡ [] → (own pin.owner rest ≡ [] → AllKeep pin.owner n rest) → Keeps pin.owner n e × AllKeep pin.owner n rest
    by_test true is none more = absurd cc
    by_test false is none more = (λ owner unpin. (let bad : (e.who == pin.owner) ≡ true = grind (arith, nat_tests) in cc), more none)

-- so through every run with no entry of its owner
pub pin_stands_beside : (n : ℕ) (pin : PinState) (entries : List Entry) (old new : Machine) → IsSound old → Runs old entries new → own pin.owner entries ≡ [] → get old.pins n ≡ Some pin → PinStands n pin new
pin_stands_beside n pin entries old new s p none here = pin_stands n pin entries old new s p (none_own n pin entries none) here

-- WHAT IS OPENED

one_pin : {a b : PinState} → Some a ≡ Some b → a ≡ b
one_pin is = cc

opened_here : (n i : ℕ) (pin : PinState) {who : ℕ} {old new : Machine} {reply : Reply} → get old.pins n ≡ Some pin → old.told ≡ true → Opens who n i old reply new → (reader : OpenedFile) (name : Name) (head_len len : ℕ) → reply ≡ Piece reader name head_len len → IsOpenedAs old pin i reader name head_len len
opened_here n i pin {who} {old} here t (refused_open reply p) reader name head_len len is = absurd (by_pin (get old.pins n) (subst (λ r. pin_refused who (get old.pins n) ≡ Some r) is p))
  where
    by_owner : (b : Bool) (o : ℕ) → cond b None (Some (NotYours o)) ≡ Some (Piece reader name head_len len) → ⊥
    by_owner true o is = cc
    by_owner false o is = cc

    by_pin : (o : Option PinState) → pin_refused who o ≡ Some (Piece reader name head_len len) → ⊥
    by_pin None is = cc
    by_pin (Some p) is = by_owner (p.owner == who) p.owner is
opened_here n i pin here t (no_piece p a b c) reader name head_len len is = absurd cc
opened_here n i pin {who} {old} here t (opens p piece r nm hl l a b c d shows named enough same f) reader name head_len len is =
    let own : p ≡ pin = one_pin (sym a ∙ here) in
    let parts = one_reply r nm hl l reader name head_len len is in
    let shown : Shows piece r hl l = shows t in
    record { piece = piece; at = ap (λ (w : PinState). slice_get w.pieces i) (sym own) ∙ c; shows = subst (λ w. Shows piece w head_len len) parts.0 (subst (λ w. Shows piece r w len) parts.1 (subst (λ w. Shows piece r hl w) parts.2 shown)); named = subst (λ w. IsNamed old piece w) parts.3 (named t); faults = ap (λ (w : OpenedFile). w.faults) (sym parts.0) ∙ d }
  where
    one_reply : (r : OpenedFile) (nm : Name) (hl l : ℕ) (r' : OpenedFile) (nm' : Name) (hl' l' : ℕ) → Piece r nm hl l ≡ Piece r' nm' hl' l' → (r ≡ r') × (hl ≡ hl') × (l ≡ l') × (nm ≡ nm')
    one_reply r nm hl l r' nm' hl' l' is = (cc, cc, cc, cc)
opened_here n i pin here t (faults_opening p piece a b c same q) reader name head_len len is = absurd cc
opened_here n i pin here t (wants_memory_opening same q) reader name head_len len is = absurd cc

-- Whatever was done since a pin was made, but for its owner's Unpin: a piece of it that is opened has the bytes that were pinned.
pub opens_pinned : (n i : ℕ) (pin : PinState) (entries : List Entry) (old mid new : Machine) → old.told ≡ true → IsSound old → Runs old entries mid → AllKeep pin.owner n entries → get old.pins n ≡ Some pin
    → (who : ℕ) (reader : OpenedFile) (name : Name) (head_len len : ℕ) → Step who (OpenPiece n i) mid (Piece reader name head_len len) new → IsOpenedAs mid pin i reader name head_len len
opens_pinned n i pin entries old mid new t s p keep here who reader name head_len len step =
    let there = runs_keep n pin entries old mid s p keep here in
    let on = runs_onward entries old mid s p in
    opened_here n i pin there (on.told ∙ t) step reader name head_len len refl

-- WHAT A PIN ANSWERS

abbrev pinned_as : ℕ → List ℕ → About → ℕ → List Sample → Reply
pinned_as n name about count tail = Pinned n name about count tail

no_refusal : (name : List ℕ) (o : Option ℕ) (m : Machine) (n count : ℕ) (nm : List ℕ) (about : About) (tail : List Sample) → find_row m name ≡ o → details_refused name m ≡ Some (Pinned n nm about count tail) → ⊥
no_refusal name (Some i) m n count nm about tail found is = absurd (let bad = rw found at is in cc)
no_refusal name None m n count nm about tail found is = absurd (let bad = rw found at is in cc)

one_answer : (n count : ℕ) (nm : List ℕ) (about : About) (tail : List Sample) (n' count' : ℕ) (nm' : List ℕ) (about' : About) (tail' : List Sample) → pinned_as n nm about count tail ≡ pinned_as n' nm' about' count' tail' → (n ≡ n') × (count ≡ count') × (tail ≡ tail') × (nm ≡ nm') × (about ≡ about')
one_answer n count nm about tail n' count' nm' about' tail' is = (cc, cc, cc, cc, cc)

-- a file of a row is one of another row with the same type
file_of : (rule : Rule) (own row : RowState) (f : RowFile) → own.about.ty ≡ row.about.ty → IsFileOf rule own f → IsFileOf rule row f
file_of rule own row f same is = record { whole = is.whole; message = is.message; means = is.means; header = is.header; says = is.says; ty = is.ty ∙ same; lines = is.lines; rising = is.rising }

made_here : {who : ℕ} {name : List ℕ} {query : Query} {mid new : Machine} {reply : Reply} (n count : ℕ) (nm : List ℕ) (about : About) (tail : List Sample) → MakesPin who name query mid reply new → reply ≡ Pinned n nm about count tail → IsPinMade who name query n nm about count tail new
made_here {who} {name} {query} {mid} {new} n count nm about tail (pins i row pin pieces found here free least listed order gives few same) is =
    let own = one_answer pin (length pieces) row.name row.about row.tail n count nm about tail is in
    let rows : new.rows ≡ mid.rows = ap (λ (m : Machine). m.rows) same in
    record {
      pin = record { owner = who; pieces = pieces };
      there = ap (λ (m : Machine). get m.pins n) same ∙ subst (λ k. get (insert mid.pins pin (record { owner = who; pieces = pieces })) k ≡ Some (record { owner = who; pieces = pieces })) own.0 (grind (arith, gets, nat_tests));
      owner = refl;
      number = sym own.1;
      few = few;
      row = row;
      i = i;
      found = ap (λ w. place (λ r. same_bytes r.name name) 0 w) rows ∙ found;
      here = ap (λ w. slice_get w i) rows ∙ here;
      name_is = sym own.3;
      about_is = sym own.4;
      tail_is = sym own.2;
      files = λ t. subst (λ (r : Rule). AllByRecursion (IsFileOf r row) pieces) (sym (ap (λ (m : Machine). m.rule) same)) (of_all (IsPieceOf mid.rule mid.rows i row) (IsFileOf mid.rule row) pieces (λ f p. file_of mid.rule p.own row f p.ty p.listed.file) (listed (sym (ap (λ (m : Machine). m.told) same) ∙ t)));
      order = λ t. order (sym (ap (λ (m : Machine). m.told) same) ∙ t);
      gives = λ t. subst (λ w. answer (over (over_pieces [] pieces) tail) query ≡ answer (whole accepted w i) query) (sym rows) (subst (λ w. answer (over (over_pieces [] pieces) w) query ≡ answer (whole accepted mid.rows i) query) own.2 (gives (sym (ap (λ (m : Machine). m.told) same) ∙ t)));
    }

-- The pin is there, and its pieces and the tail that was told answer the query as all that is accepted.
pub pin_answers : (who n count : ℕ) (name nm : List ℕ) (query : Query) (about : About) (tail : List Sample) (old new : Machine) → Step who (Pin name query) old (Pinned n nm about count tail) new → IsPinMade who name query n nm about count tail new
pin_answers who n count name nm query about tail old new step = by_act step refl
  where
    by_act : {old new : Machine} {reply : Reply} → Acts (details_refused name) (MakesPin who name query) (λ m. None) all_go old reply new → reply ≡ Pinned n nm about count tail → IsPinMade who name query n nm about count tail new
    by_act {old} (refused_at_once answer p) is = absurd (no_refusal name (find_row old name) old n count nm about tail refl (p ∙ ap (λ w. Some w) is))
    by_act (refused {mid = mid} answer p settles q same r) is = absurd (no_refusal name (find_row mid name) mid n count nm about tail refl (q ∙ ap (λ w. Some w) is))
    by_act (runs answer p settles q ran r) is = made_here n count nm about tail ran is
    by_act (faults_first p same q) is = absurd cc
    by_act (faults_between p settles same q) is = absurd cc
    by_act (faults_within doubted p settles q r same t) is = absurd cc
    by_act (faults_removing done gone p settles q ran t) is = absurd cc
    by_act (wants_memory same q) is = absurd cc
    by_act (wants_memory_settled p settles same q) is = absurd cc

-- IN ONE HISTORY

keep_owner : (a b n : ℕ) (entries : List Entry) → a ≡ b → AllKeep a n entries → AllKeep b n entries
keep_owner a b n entries same keep = subst (λ w. AllKeep w n entries) same keep

-- A pin is made, anything is done but its Unpin, and a piece of it is opened: the piece is one of those that answer the query, as it was.
pub pieces_read : (who n count i head_len len : ℕ) (name nm : List ℕ) (query : Query) (about : About) (tail : List Sample) (reader : OpenedFile) (file : Name) (xs ys zs : List Entry) (start end : Machine) → start.told ≡ true → IsSound start
    → Runs start (xs ++ (record { who = who; act = Pin name query; answer = Pinned n nm about count tail } ∷ (ys ++ (record { who = who; act = OpenPiece n i; answer = Piece reader file head_len len } ∷ zs)))) end → AllKeep who n ys
    → IsRead start.rule who name query n nm about count tail i reader file head_len len
pieces_read who n count i head_len len name nm query about tail reader file xs ys zs start end t s p keep =
    let e : Entry = record { who = who; act = Pin name query; answer = Pinned n nm about count tail } in
    let later : List Entry = record { who = who; act = OpenPiece n i; answer = Piece reader file head_len len } ∷ zs in
    let front = runs_apart xs (e ∷ (ys ++ later)) start end p in
    let old = front.0 in
    let pinned = front.2.1 in
    let sound : IsSound old = runs_sound xs start old s front.1 in
    let before = runs_onward xs start old s front.1 in
    let told : old.told ≡ true = before.told ∙ t in
    let sound' : IsSound pinned = step_sound who (Pin name query) old pinned (Pinned n nm about count tail) sound front.2.0 front.2.2 in
    let onward = step_onward who (Pin name query) old pinned (Pinned n nm about count tail) sound front.2.0 front.2.2 in
    let told' : pinned.told ≡ true = onward.told ∙ told in
    let made = pin_answers who n count name nm query about tail old pinned front.2.2 in
    let back = runs_apart ys later pinned end front.2.3 in
    record {
      pinned = pinned;
      opening = back.0;
      told = told';
      ruled = onward.rule ∙ before.rule;
      made = made;
      opened = opens_pinned n i made.pin ys pinned back.0 back.2.1 told' sound' back.1 (keep_owner who made.pin.owner n ys (sym made.owner) keep) made.there who reader file head_len len back.2.2;
    }
