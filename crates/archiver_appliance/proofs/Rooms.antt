-- One who acts alone and flushes all has room for what is offered next.
use Rattle.std.proofs.Common.{◌≡◌, inl, inr, ℕ, ◌+◌, ◌<◌, ◌≤◌, List, [], ◌∷◌, ◌++◌, length, Bool, true, false, if◌then◌else◌, Option, Some, None, refl, sym, ◌∙◌, ap, subst, arith, append_assoc}
use Rattle.std.specs.Prelude.{All, nat_lt, slice_get}
use Rattle.std.proofs.lemmas.Bool.{false≢true}
use Rattle.std.proofs.lemmas.Bool.Decides.{nat_tests}
use Rattle.std.proofs.lemmas.List.Elements.{All-cons, All-nil}
use Rattle.pb_messages.specs.declared.about.Method.{Method}
use Rattle.pb_messages.specs.declared.about.Method.TheVariants.{Monitor, Scan}
use Rattle.pb_messages.specs.declared.info.PayloadInfo.{PayloadInfo}
use Rattle.pb_wire.specs.declared.payload.PayloadType.{PayloadType}
use Rattle.pb_lines.specs.Stream.{Item, header, sample, chunk_end}
use Rattle.series_model.specs.Limits.{intake_room}
use Rattle.series_model.specs.Admission.{refused_by_time, refused_by_row}
use Rattle.series_model.specs.declared.admission.Reason.{Reason}
use Rattle.series_model.specs.declared.sample.Sample.{Sample}
use Rattle.act_model.specs.declared.acts.Act.{Act}
use Rattle.act_model.specs.declared.acts.Act.TheVariants.{Offer}
use Rattle.act_model.specs.declared.acts.Answer.TheVariants as answer
use Rattle.act_model.specs.Flush.{FlushStep}
use Rattle.act_model.specs.History.{Done, Entry, Runs, mine, own}
use Rattle.act_model.specs.Machine.{Machine, find_row, held_bytes}
use Rattle.act_model.specs.Offer.{OfferStep, offered, offered_to, tried}
use Rattle.act_model.specs.Outcome.{Outcome, refused_at_once, refused, runs, faults_first, faults_between, faults_within, faults_removing, wants_memory, wants_memory_settled}
use Rattle.act_model.specs.Reply.{Reply}
use Rattle.act_model.specs.Rows.{RowState, number_of, standing}
use Rattle.act_model.specs.Sound.{IsSound}
use Rattle.act_model.specs.Step.{Step}
use Rattle.act_model.proofs.FlushLeft.{flush_leaves_none}
use Rattle.act_model.proofs.Histories.{cut_at, runs_sound, steps_at}
use Rattle.feed_session.specs.Asks.{AreMade, AsksFor, NoneFails, asked_again, chunk_behind, flush_all, is_failure, offer_of}
use Rattle.feed_session.specs.Session.{AreTaken, IsTaken, TakenItem, acts_of}
use Rattle.archiver_appliance.specs.Ingesting.{HasRoom, IsOfferedTwice}
use Rattle.archiver_appliance.proofs.Ingests.{rest_own}
use Rattle.archiver_appliance.proofs.PinSteps.{first_own}

-- AN OFFER

-- the offer isn't refused for room
abbrev Finds : Outcome → Type 0
Finds o = (held : ℕ) → o.answer ≡ answer.IntakeFull held → ⊥

tried_finds : (m : Machine) (row : RowState) (s : Sample) (now : ℕ) (kept : Outcome) → held_bytes m.rows + (length s.line + 1) ≤ intake_room → Finds kept → Finds (tried m row s now kept)
tried_finds m row s now kept fits good = by_reason (refused_by_time row.next s.t now) refl
  where
    by_room : (b : Bool) → nat_lt intake_room (held_bytes m.rows + (length s.line + 1)) ≡ b → Finds (if b then record { answer = answer.IntakeFull (held_bytes m.rows); after = m } else kept)
    by_room true is = let over : intake_room < held_bytes m.rows + (length s.line + 1) = grind (arith, nat_tests) in absurd (omega (arith, over, fits))
    by_room false is = good

    by_reason : (o : Option Reason) → refused_by_time row.next s.t now ≡ o → Finds (tried m row s now kept)
    by_reason (Some reason) is = rw is (λ held full. absurd cc)
    by_reason None is = rw is (by_room (nat_lt intake_room (held_bytes m.rows + (length s.line + 1))) refl)

offered_to_finds : (m : Machine) (i : ℕ) (row : RowState) (ty : PayloadType) (s : Sample) (now : ℕ) → held_bytes m.rows + (length s.line + 1) ≤ intake_room → Finds (offered_to m i row ty s now)
offered_to_finds m i row ty s now fits = by_reason (refused_by_row (Some (standing row)) (number_of ty)) refl
  where
    by_method : (d : Method) → row.about.method ≡ d → refused_by_row (Some (standing row)) (number_of ty) ≡ None → Finds (offered_to m i row ty s now)
    by_method Monitor is none = rw (none, is) (tried_finds m row s now _ fits (λ held full. absurd cc))
    by_method (Scan period) is none = rw (none, is) (λ held full. absurd cc)

    by_reason : (o : Option Reason) → refused_by_row (Some (standing row)) (number_of ty) ≡ o → Finds (offered_to m i row ty s now)
    by_reason (Some reason) is = rw is (λ held full. absurd cc)
    by_reason None is = by_method row.about.method refl is

offered_finds : (m : Machine) (name : List ℕ) (ty : PayloadType) (s : Sample) (now : ℕ) → held_bytes m.rows + (length s.line + 1) ≤ intake_room → Finds (offered m name ty s now)
offered_finds m name ty s now fits = by_name (find_row m name) refl
  where
    by_row : (i : ℕ) → (o : Option RowState) → slice_get m.rows i ≡ o → find_row m name ≡ Some i → Finds (offered m name ty s now)
    by_row i None none is = rw (is, none) (λ held full. absurd cc)
    by_row i (Some row) here is = rw (is, here) (offered_to_finds m i row ty s now fits)

    by_name : (o : Option ℕ) → find_row m name ≡ o → Finds (offered m name ty s now)
    by_name None is = rw is (λ held full. absurd cc)
    by_name (Some i) is = by_row i (slice_get m.rows i) refl is

offer_finds : (name : List ℕ) (ty : PayloadType) (s : Sample) (now held : ℕ) (old new : Machine) (reply : Reply) → held_bytes old.rows ≡ 0 → length s.line + 1 ≤ intake_room → OfferStep name ty s now old reply new → reply ≡ answer.IntakeFull held → ⊥
offer_finds name ty s now held old new reply none fits (inl made) full = offered_finds old name ty s now (omega (arith, none, fits)) held (sym made.0 ∙ full)
offer_finds name ty s now held old new reply none fits (inr lacks) full = let bad : answer.Memory ≡ answer.IntakeFull held = sym lacks.0 ∙ full in absurd cc

-- A FLUSH OF ALL

-- one that doesn't fail leaves nothing in the intake
flush_empties : (old new : Machine) (reply : Reply) → IsSound old → FlushStep 67108864 old reply new → is_failure reply ≡ false → held_bytes new.rows ≡ 0
flush_empties old new reply sound step well = by_step step refl
  where
    emptied : {new : Machine} {reply : Reply} (samples : ℕ) → FlushStep 67108864 old reply new → reply ≡ answer.Flushed samples (held_bytes new.rows) new.doors → held_bytes new.rows ≡ 0
    emptied {new = new} {reply = reply} samples step is = flush_leaves_none 67108864 old new reply samples (held_bytes new.rows) new.doors sound (omega arith) step is

    by_step : {after : Machine} {told : Reply} → FlushStep 67108864 old told after → is_failure told ≡ is_failure reply → held_bytes after.rows ≡ 0
    by_step (refused_at_once told p) same = absurd (cc (p))
    by_step (refused told p settles q alike more) same = absurd (cc (q))
    by_step (runs told p settles q ran more) same = emptied ran.0.0 (runs told p settles q ran more) ran.0.2
    by_step (faults_first p alike rose) same = absurd (false≢true (sym well ∙ sym same))
    by_step (faults_between p settles alike rose) same = absurd (false≢true (sym well ∙ sym same))
    by_step (faults_within doubted p settles q r alike rose) same = absurd (false≢true (sym well ∙ sym same))
    by_step (faults_removing done gone p settles q ran rose) same = absurd (false≢true (sym well ∙ sym same))
    by_step (wants_memory alike more) same = absurd (false≢true (sym well ∙ sym same))
    by_step (wants_memory_settled p settles alike more) same = absurd (false≢true (sym well ∙ sym same))

-- none is refused for room
flush_finds : (held : ℕ) {old new : Machine} {reply : Reply} → FlushStep 67108864 old reply new → reply ≡ answer.IntakeFull held → ⊥
flush_finds held (refused_at_once reply p) is = absurd (cc (p))
flush_finds held (refused reply p settles q same more) is = absurd (cc (q))
flush_finds held {new = new} (runs reply p settles q ran more) is = let bad : answer.Flushed ran.0.0 (held_bytes new.rows) new.doors ≡ answer.IntakeFull held = sym ran.0.2 ∙ is in absurd (cc (bad))
flush_finds held (faults_first p same rose) is = absurd (cc (is))
flush_finds held (faults_between p settles same rose) is = absurd (cc (is))
flush_finds held (faults_within doubted p settles q r same rose) is = absurd (cc (is))
flush_finds held (faults_removing done gone p settles q ran rose) is = absurd (cc (is))
flush_finds held (wants_memory same more) is = absurd (cc (is))
flush_finds held (wants_memory_settled p settles same more) is = absurd (cc (is))

-- where nothing is asked, nothing was made
none_made : (ds : List Done) → AreMade [] ds [] → ds ≡ []
none_made [] made = refl
none_made (d ∷ ds) made = absurd made

-- TWO ACTS OF ONE WHO ACTS ALONE

behind_own : (who : ℕ) (xs ys : List Entry) → own who (xs ++ ys) ≡ xs ++ ys → own who ys ≡ ys
behind_own who [] ys all = all
behind_own who (x ∷ xs) ys all = behind_own who xs ys (rest_own who x (xs ++ ys) all)

none_in_front : (who : ℕ) (xs ys : List Entry) → own who (xs ++ ys) ≡ xs ++ ys → mine who xs ≡ [] → xs ≡ []
none_in_front who [] ys all none = refl
none_in_front who (x ∷ xs) ys all none = let is = first_own who x (xs ++ ys) all in absurd (cc (rw is at none))

module _ (entries : List Entry) (start end : Machine) (sound : IsSound start) (run : Runs start entries end) (all : own 0 entries ≡ entries) (done : List Done) (just : mine 0 entries ≡ done) where
  finds_room : (front : List Done) (f o : Done) (back : List Done) (name : List ℕ) (ty : PayloadType) (t : ℕ) (line : List ℕ) (now held : ℕ) → done ≡ front ++ f ∷ o ∷ back → f.act ≡ flush_all → is_failure f.answer ≡ false → o.act ≡ Offer name ty t line now → length line + 1 ≤ intake_room
      → o.answer ≡ answer.IntakeFull held → ⊥
  finds_room front f o back name ty t line now held is flushes well offers fits full =
      let cut = cut_at 0 entries front (o ∷ back) f (just ∙ is) in
      let at = steps_at cut.front cut.back cut.entry start end (subst (λ (es : List Entry). Runs start es end) cut.is run) in
      let next = cut_at 0 cut.back [] back o cut.back_is in
      let split : entries ≡ (cut.front ++ cut.entry ∷ []) ++ cut.back = cut.is ∙ sym (append_assoc cut.front (cut.entry ∷ []) cut.back) in
      let owned : own 0 cut.back ≡ cut.back = behind_own 0 (cut.front ++ cut.entry ∷ []) cut.back (subst (λ (es : List Entry). own 0 es ≡ es) split all) in
      let none : next.front ≡ [] = none_in_front 0 next.front (next.entry ∷ next.back) (subst (λ (es : List Entry). own 0 es ≡ es) next.is owned) next.front_is in
      let goes : Runs at.after (next.entry ∷ next.back) end = subst (λ (es : List Entry). Runs at.after (es ++ next.entry ∷ next.back) end) none (subst (λ (es : List Entry). Runs at.after es end) next.is at.from) in
      let act : cut.entry.act ≡ flush_all = ap (λ (x : Done). x.act) cut.done ∙ flushes in
      let flush : FlushStep 67108864 at.at cut.entry.answer at.after = subst (λ (a : Act). Step cut.entry.who a at.at cut.entry.answer at.after) act at.step in
      let told : is_failure cut.entry.answer ≡ false = ap (λ (x : Done). is_failure x.answer) cut.done ∙ well in
      let empty = flush_empties at.at at.after cut.entry.answer (runs_sound cut.front start at.at sound at.to) flush told in
      let act' : next.entry.act ≡ Offer name ty t line now = ap (λ (x : Done). x.act) next.done ∙ offers in
      let offer : OfferStep name ty (record { t = t; line = line }) now at.after next.entry.answer goes.1 = subst (λ (a : Act). Step next.entry.who a at.after next.entry.answer goes.1) act' goes.2 in
      offer_finds name ty (record { t = t; line = line }) now held at.after goes.1 next.entry.answer empty fits offer (ap (λ (x : Done). x.answer) next.done ∙ full)

  not_full : (front : List Done) (f : Done) (back : List Done) (held : ℕ) → done ≡ front ++ f ∷ back → f.act ≡ flush_all → f.answer ≡ answer.IntakeFull held → ⊥
  not_full front f back held is flushes full =
      let cut = cut_at 0 entries front back f (just ∙ is) in
      let at = steps_at cut.front cut.back cut.entry start end (subst (λ (es : List Entry). Runs start es end) cut.is run) in
      let act : cut.entry.act ≡ flush_all = ap (λ (x : Done). x.act) cut.done ∙ flushes in
      let flush : FlushStep 67108864 at.at cut.entry.answer at.after = subst (λ (a : Act). Step cut.entry.who a at.at cut.entry.answer at.after) act at.step in
      flush_finds held flush (ap (λ (x : Done). x.answer) cut.done ∙ full)

  -- the acts that an offer made: one, or one, a flush and one more
  three : (front ds back : List Done) (info : PayloadInfo) (x : Sample) (now : ℕ) → done ≡ front ++ (ds ++ back) → AreMade (offer_of info x now ∷ []) ds [] → NoneFails ds → length x.line + 1 ≤ intake_room → length ds ≤ 3
  three front [] back info x now is made well fits = omega arith
  three front (d ∷ ds) back info x now is made well fits = by_first d.answer made.1
    where
      by_last : (f o : Done) (ds : List Done) (reply : Reply) → o.answer ≡ reply → done ≡ (front ++ d ∷ []) ++ f ∷ o ∷ (ds ++ back) → f.act ≡ flush_all → is_failure f.answer ≡ false → o.act ≡ offer_of info x now → AreMade (asked_again (offer_of info x now) reply ++ []) ds []
          → length (d ∷ f ∷ o ∷ ds) ≤ 3
      by_last f o ds (answer.IntakeFull held) told is flushes well offers made = absurd (finds_room (front ++ d ∷ []) f o (ds ++ back) info.name info.ty x.t x.line now held is flushes well offers fits told)
      by_last f o ds other told is flushes well offers made = subst (λ (es : List Done). length (d ∷ f ∷ o ∷ es) ≤ 3) (sym (none_made ds made)) (omega arith)

      by_offer : (f : Done) (ds : List Done) → done ≡ (front ++ d ∷ []) ++ f ∷ (ds ++ back) → f.act ≡ flush_all → is_failure f.answer ≡ false → AreMade (offer_of info x now ∷ []) ds [] → length (d ∷ f ∷ ds) ≤ 3
      by_offer f [] is flushes well made = omega arith
      by_offer f (o ∷ ds) is flushes well made = by_last f o ds o.answer refl is flushes well made.0 made.1

      by_flush : (f : Done) (ds : List Done) (reply : Reply) → f.answer ≡ reply → done ≡ (front ++ d ∷ []) ++ f ∷ (ds ++ back) → f.act ≡ flush_all → is_failure f.answer ≡ false → AreMade (asked_again flush_all reply ++ offer_of info x now ∷ []) ds [] → length (d ∷ f ∷ ds) ≤ 3
      by_flush f ds (answer.IntakeFull held) told is flushes well made = absurd (not_full (front ++ d ∷ []) f (ds ++ back) held is flushes told)
      by_flush f ds other told is flushes well made = by_offer f ds is flushes well made

      by_second : (ds : List Done) → done ≡ (front ++ d ∷ []) ++ (ds ++ back) → NoneFails ds → AreMade (flush_all ∷ offer_of info x now ∷ []) ds [] → length (d ∷ ds) ≤ 3
      by_second [] is well made = omega arith
      by_second (f ∷ ds) is well made = by_flush f ds f.answer refl is made.0 well.0 made.1

      by_first : (reply : Reply) → AreMade (asked_again (offer_of info x now) reply ++ []) ds [] → length (d ∷ ds) ≤ 3
      by_first (answer.IntakeFull held) made = by_second ds (is ∙ sym (append_assoc front (d ∷ []) (ds ++ back))) well.1 made
      by_first other made = subst (λ (es : List Done). length (d ∷ es) ≤ 3) (sym (none_made ds made)) (omega arith)

  item_twice : (front : List Done) (chunk : Option PayloadInfo) (t : TakenItem) (back : List Done) → done ≡ front ++ (t.done ++ back) → IsTaken true chunk t → IsOfferedTwice t
  item_twice front chunk t back is taken = by_item t.item refl taken.asks
    where
      by_item : (item : Item) → t.item ≡ item → AsksFor true chunk item t.moments taken.asked → HasRoom t.item → length t.done ≤ 3
      by_item (header info line) same asks fits = absurd (subst HasRoom same fits)
      by_item (sample x) same asks fits = three front t.done back asks.0 x asks.2 is (subst (λ (acts : List Act). AreMade acts t.done []) asks.4 taken.made) taken.well (subst HasRoom same fits)
      by_item chunk_end same asks fits = absurd (subst HasRoom same fits)

  pub all_twice : (front : List Done) (chunk : Option PayloadInfo) (ts : List TakenItem) (last : List Done) → done ≡ front ++ (acts_of ts ++ last) → AreTaken true chunk ts → All IsOfferedTwice ts
  all_twice front chunk [] last is taken = All-nil IsOfferedTwice
  all_twice front chunk (t ∷ ts) last is taken =
      let first : done ≡ front ++ (t.done ++ (acts_of ts ++ last)) = is ∙ ap (λ (es : List Done). front ++ es) (append_assoc t.done (acts_of ts) last) in
      All-cons IsOfferedTwice t ts (item_twice front chunk t (acts_of ts ++ last) first taken.0) (all_twice (front ++ t.done) (chunk_behind chunk t.item) ts last (first ∙ sym (append_assoc front t.done (acts_of ts ++ last))) taken.1)
