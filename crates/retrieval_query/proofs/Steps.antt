-- What the acts on a pin are answered, where the actor holds it.
use Rattle.std.proofs.Common.{◌≡◌, ◌≢◌, ℕ, zero, suc, ◌<◌, ◌≤◌, List, [], ◌∷◌, ◌++◌, length, map, Bool, true, false, cond, Option, Some, None, refl, sym, ap, ◌∙◌, subst, arith}
use Rattle.std.specs.Prelude.{◌==◌, slice_get}
use Rattle.std.specs.FinMap.{get}
use Rattle.std.proofs.lemmas.Bool.{eqb-false}
use Rattle.disk_model.specs.Files.{Name}
use Rattle.act_model.specs.declared.acts.Act.{Act}
use Rattle.act_model.specs.declared.acts.Act.TheVariants.{OpenPiece, Unpin}
use Rattle.act_model.specs.declared.acts.Answer.TheVariants.{NoPin, NotYours, NoPiece, Piece, Unpinned}
use Rattle.act_model.specs.Reply.{Reply, OpenedFile}
use Rattle.act_model.specs.History.{Entry, Done, MadeOne, Runs, Goes, own, mine, done_of}
use Rattle.act_model.specs.Limbo.{RowFile}
use Rattle.act_model.specs.Machine.{Machine, PinState}
use Rattle.act_model.specs.Sound.{IsSound}
use Rattle.act_model.specs.Step.{Step, MayAsk}
use Rattle.act_model.specs.OpenPiece.{Opens, refused_open, no_piece, opens, faults_opening, wants_memory_opening}
use Rattle.act_model.specs.Unpin.{Unpins, refused_unpin, unpins, pin_refused}
use Rattle.act_model.proofs.Histories.{cut_at, steps_at}
use Rattle.act_model.proofs.PinLaws.{pin_stands_beside}
use Rattle.retrieval_query.specs.Openings.{Holds}

-- one act of an actor: others' entries lead to the state before it, and from the state after it
pub record OneStep (stands : Machine → Type 0) (m : Machine) (who : ℕ) (act : Act) (reply : Reply) (entries : List Entry) : Type 0 where
  pub before_it : List Entry
  pub entry : Entry
  pub after_it : List Entry
  pub is : entries ≡ before_it ++ entry ∷ after_it
  pub by : entry.who ≡ who
  pub act_is : entry.act ≡ act
  pub none_before : own who before_it ≡ []
  pub none_after : own who after_it ≡ []
  pub at : Machine
  pub after : Machine
  pub end : Machine
  pub to : Runs m before_it at
  pub asked : MayAsk entry.act
  pub entry_step : Step entry.who entry.act at entry.answer after
  pub step : Step who act at reply after
  pub from : Runs after after_it end
  pub stands_for : stands end

none_mapped : (l : List Entry) → map done_of l ≡ [] → l ≡ []
none_mapped [] is = refl
none_mapped (e ∷ l) is = absurd cc

module _ {A : Type 0} (number : A → ℕ) (between : A → List Entry → A → Type 0) (stands : A → Machine → Type 0) (legal : (a b : A) (entries : List Entry) (m : Machine) → between a entries b → stands a m → Goes (stands b) m entries) where
  pub one_step : (a b : A) (act : Act) (reply : Reply) (m : Machine) → stands a m → (made : MadeOne number between a act reply b) → OneStep (stands b) m (number a) act reply made.entries
  one_step a b act reply m s made =
      let cut = cut_at (number a) made.entries [] [] (record { act = act; answer = reply }) made.just_these in
      let goes = legal a b made.entries m made.leads s in
      let at = steps_at cut.front cut.back cut.entry m goes.after (subst (λ (l : List Entry). Runs m l goes.after) cut.is goes.runs) in
      let as_act : Step (number a) cut.entry.act at.at cut.entry.answer at.after = subst (λ (n : ℕ). Step n cut.entry.act at.at cut.entry.answer at.after) cut.by at.step in
      record {
        before_it = cut.front;
        entry = cut.entry;
        after_it = cut.back;
        is = cut.is;
        by = cut.by;
        act_is = ap (λ (d : Done). d.act) cut.done;
        none_before = none_mapped (own (number a) cut.front) cut.front_is;
        none_after = none_mapped (own (number a) cut.back) cut.back_is;
        at = at.at;
        after = at.after;
        end = goes.after;
        to = at.to;
        asked = at.asked;
        entry_step = at.step;
        step = subst (λ (d : Done). Step (number a) d.act at.at d.answer at.after) cut.done as_act;
        from = at.from;
        stands_for = goes.stands_for;
      }

-- ANSWERS

no_refusal : (who : ℕ) (o : Option PinState) (reader : OpenedFile) (name : Name) (head_len len : ℕ) → pin_refused who o ≡ Some (Piece reader name head_len len) → ⊥
no_refusal who None reader name head_len len is = cc
no_refusal who (Some p) reader name head_len len is = by_owner (p.owner == who) is
  where
    by_owner : (b : Bool) → cond b None (Some (NotYours p.owner)) ≡ Some (Piece reader name head_len len) → ⊥
    by_owner true is = cc
    by_owner false is = cc

-- a reader that was opened hasn't failed, and has the bytes of its piece
pub opened_fresh : {who n i : ℕ} {old new : Machine} {reply : Reply} (reader : OpenedFile) (name : Name) (head_len len : ℕ) → Opens who n i old reply new → reply ≡ Piece reader name head_len len → (reader.faults ≡ 0) × (reader.tells ≡ true → len ≤ length reader.bytes)
opened_fresh {who} {n} {i} {old} reader name head_len len (refused_open reply p) is = absurd (no_refusal who (get old.pins n) reader name head_len len (subst (λ r. pin_refused who (get old.pins n) ≡ Some r) is p))
opened_fresh reader name head_len len (no_piece p a b c) is = absurd cc
opened_fresh reader name head_len len (opens p piece r nm hl l a b c fresh shows named enough same f) is =
    let reader_is : r ≡ reader = cc in
    let len_is : l ≡ len = cc in
    (ap (λ (o : OpenedFile). o.faults) (sym reader_is) ∙ fresh, subst (λ (o : OpenedFile). o.tells ≡ true → len ≤ length o.bytes) reader_is (subst (λ (k : ℕ). r.tells ≡ true → k ≤ length r.bytes) len_is enough))
opened_fresh reader name head_len len (faults_opening p piece a b c same q) is = absurd cc
opened_fresh reader name head_len len (wants_memory_opening same q) is = absurd cc

one_pin : {a b : PinState} → Some a ≡ Some b → a ≡ b
one_pin is = cc

there_is : (l : List RowFile) (i : ℕ) → i < length l → slice_get l i ≡ None → ⊥
there_is [] i low none = omega (arith, low)
there_is (f ∷ l) zero low none = cc
there_is (f ∷ l) (suc i) low none = there_is l i (omega (arith, low)) none

-- the owner is not refused
owned : (who : ℕ) (o : Option PinState) (p : PinState) → o ≡ Some p → p.owner ≡ who → pin_refused who o ≡ None
owned who o p here mine = subst (λ (x : Option PinState). pin_refused who x ≡ None) (sym here) (by_test (p.owner == who) refl)
  where
    by_test : (b : Bool) → (p.owner == who) ≡ b → ◌≡◌ {A = Option Reply} (cond b None (Some (NotYours p.owner))) None
    by_test true is = refl
    by_test false is = absurd (eqb-false p.owner who is mine)

-- such an answer doesn't come to the owner for one of the pieces
abbrev pub IsRefusal : Reply → Type 0
IsRefusal NoPin = Unit {0}
IsRefusal (NotYours owner) = Unit {0}
IsRefusal (NoPiece pieces) = Unit {0}
IsRefusal _ = ⊥

pub never_refused : {who n i : ℕ} {old new : Machine} {reply : Reply} (p : PinState) → get old.pins n ≡ Some p → p.owner ≡ who → i < length p.pieces → Opens who n i old reply new → IsRefusal reply → ⊥
never_refused {who} {n} {i} {old} p here own low (refused_open reply refuses) bad = (let none = owned who (get old.pins n) p here own in let both : None ≡ Some reply = sym none ∙ refuses in cc)
never_refused {who} {n} {i} {old} p here own low (no_piece q a b c) bad =
    let same : q ≡ p = one_pin (sym a ∙ here) in
    there_is p.pieces i low (ap (λ (x : PinState). slice_get x.pieces i) (sym same) ∙ c)
never_refused p here own low (opens q piece r nm hl l a b c fresh shows named enough same f) bad = bad
never_refused p here own low (faults_opening q piece a b c same r) bad = bad
never_refused p here own low (wants_memory_opening same q) bad = bad

-- the owner's pin is given up
pub gives_up : {who n : ℕ} {old new : Machine} {reply : Reply} (p : PinState) → get old.pins n ≡ Some p → p.owner ≡ who → Unpins who n old reply new → reply ≡ Unpinned
gives_up {who} {n} {old} p here own (refused_unpin reply refuses) = absurd (let none = owned who (get old.pins n) p here own in let both : None ≡ Some reply = sym none ∙ refuses in cc)
gives_up p here own (unpins none) = refl

module _ {A : Type 0} (number : A → ℕ) (between : A → List Entry → A → Type 0) (stands : A → Machine → Type 0)
    (legal : (a b : A) (entries : List Entry) (m : Machine) → between a entries b → stands a m → Goes (stands b) m entries) (sound : (a : A) (m : Machine) → stands a m → IsSound m) where
  -- the pin is there as the act comes
  pub there_at : (a b : A) (pin next left : ℕ) (act : Act) (reply : Reply) → (h : Holds number stands a pin next left) → (made : MadeOne number between a act reply b) → let s = one_step number between stands legal a b act reply h.m h.stands_for made in get s.at.pins pin ≡ Some h.state
  there_at a b pin next left act reply h made =
      let s = one_step number between stands legal a b act reply h.m h.stands_for made in
      (pin_stands_beside pin h.state s.before_it h.m s.at (sound a h.m h.stands_for) s.to (subst (λ (n : ℕ). own n s.before_it ≡ []) (sym h.owner) s.none_before) h.there).there

  pub opens_some : (a b : A) (pin next left : ℕ) (reply : Reply) → Holds number stands a pin next left → left ≢ 0 → MadeOne number between a (OpenPiece pin next) reply b → IsRefusal reply → ⊥
  opens_some a b pin next left reply h some made =
      let s = one_step number between stands legal a b (OpenPiece pin next) reply h.m h.stands_for made in
      never_refused h.state (there_at a b pin next left (OpenPiece pin next) reply h made) h.owner (omega (arith, h.all, some)) s.step

  pub gives_it_up : (a b : A) (pin next left : ℕ) (reply : Reply) → Holds number stands a pin next left → MadeOne number between a (Unpin pin) reply b → reply ≡ Unpinned
  gives_it_up a b pin next left reply h made =
      let s = one_step number between stands legal a b (Unpin pin) reply h.m h.stands_for made in
      gives_up h.state (there_at a b pin next left (Unpin pin) reply h made) h.owner s.step

  pub opens_fresh : (a b : A) (pin next left : ℕ) (reader : OpenedFile) (name : Name) (head_len len : ℕ) → Holds number stands a pin next left → MadeOne number between a (OpenPiece pin next) (Piece reader name head_len len) b → (reader.faults ≡ 0) × (reader.tells ≡ true → len ≤ length reader.bytes)
  opens_fresh a b pin next left reader name head_len len h made =
      let s = one_step number between stands legal a b (OpenPiece pin next) (Piece reader name head_len len) h.m h.stands_for made in
      opened_fresh reader name head_len len s.step refl
