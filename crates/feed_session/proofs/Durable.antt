-- A kept sample is accepted, what is accepted stays so, and the flush at the end makes all of it durable.
use Rattle.std.proofs.Common.{◌≡◌, ◌∙◌, ap, sym, refl, subst, ℕ, ◌+◌, ◌≤◌, List, [], ◌∷◌, ◌++◌, zero, suc, append_assoc, append-nil, arith, Bool, true, false, Option, Some, None, inl, inr}
use Rattle.std.specs.Prelude.{◌==◌, slice_get}
use Rattle.std.specs.List.{Contains}
use Rattle.std.proofs.lemmas.Bool.Decides.{nat_tests}
use Rattle.std.proofs.lemmas.List.Elements.{Contains-append_left, Contains-append_right, Contains-push}
use Rattle.pb_messages.specs.declared.about.Method.{Method}
use Rattle.pb_messages.specs.declared.about.Method.TheVariants.{Monitor, Scan}
use Rattle.pb_lines.specs.Stream.{Item}
use Rattle.pb_wire.specs.declared.payload.PayloadType.{PayloadType}
use Rattle.series_model.specs.Admission.{refused_by_row}
use Rattle.series_model.specs.Archive.{IsPrefix}
use Rattle.series_model.specs.Series.{since, end_of, RisesFrom}
use Rattle.series_model.specs.declared.admission.Reason.{Reason}
use Rattle.series_model.specs.declared.sample.Sample.{Sample}
use Rattle.series_model.proofs.RisingLists.{RisesFrom-append, since_all}
use Rattle.act_model.specs.declared.acts.Answer.TheVariants.{Flushed, Kept}
use Rattle.act_model.specs.Changes.{with_rows, at}
use Rattle.act_model.specs.Flush.{FlushStep}
use Rattle.act_model.specs.Growth.{Onward}
use Rattle.act_model.specs.History.{CutAt, Done, Entry, Goes, Runs, mine}
use Rattle.act_model.specs.Machine.{Machine, find_row, held_bytes, place, same_bytes}
use Rattle.act_model.specs.Offer.{OfferStep, gains, offered, offered_to}
use Rattle.act_model.specs.Outcome.{Outcome, refused_at_once, refused, runs, faults_first, faults_between, faults_within, faults_removing, wants_memory, wants_memory_settled}
use Rattle.act_model.specs.Reply.{Reply}
use Rattle.act_model.specs.Rows.{RowState, accepted, durable, number_of, standing}
use Rattle.act_model.specs.Sound.{IsSound}
use Rattle.act_model.specs.Step.{MayAsk, Step}
use Rattle.act_model.proofs.Histories.{cut_at, runs_onward, runs_sound, steps_at}
use Rattle.act_model.proofs.Onward.{each_forward}
use Rattle.act_model.proofs.RowActs.{tried_is, same_bytes_is}
use Rattle.act_model.proofs.StepOnward.{step_onward}
use Rattle.act_model.proofs.StepSound.{step_sound}
use Rattle.feed_session.specs.Asks.{flush_all}
use Rattle.feed_session.specs.Durable.{HasSample, KeptAreDurable, KeptIsDurable, SaysDurable, kept_offer}
use Rattle.feed_session.specs.Session.{EndsIn, IsFlushed, acts_of}
use Rattle.feed_session.specs.declared.end.Fed.{Fed}
use Rattle.feed_session.specs.declared.end.Fed.TheVariants as fed
use Rattle.feed_session.proofs.Asked.{done_as}
use Rattle.act_model.proofs.FlushLeft.{no_rows, flushed_as}

-- WHAT STAYS

in_longer : (xs ys : List Sample) (x : Sample) → IsPrefix xs ys → Contains xs x → Contains ys x
in_longer xs ys x p h = subst (λ (l : List Sample). Contains l x) (sym p.1) (Contains-append_left xs p.0 x h)

accepted_on : (a b : Machine) (name : List ℕ) (x : Sample) → a.told ≡ true → Onward a b → HasSample accepted a name x → HasSample accepted b name x
accepted_on a b name x told on h =
    let r = on.rows told h.place h.row h.here in
    record { place = h.place; row = r.0; here = r.1; named = r.2.name ∙ h.named; has = in_longer (accepted h.row) (accepted r.0) x r.2.accepted_on h.has }

durable_on : (a b : Machine) (name : List ℕ) (x : Sample) → a.told ≡ true → Onward a b → HasSample durable a name x → HasSample durable b name x
durable_on a b name x told on h =
    let r = on.rows told h.place h.row h.here in
    record { place = h.place; row = r.0; here = r.1; named = r.2.name ∙ h.named; has = in_longer (durable h.row) (durable r.0) x r.2.durable_on h.has }

-- AN OFFER

-- the row that was found passes the test
place_passes : (p : RowState → Bool) (k : ℕ) (rows : List RowState) (i : ℕ) → place p k rows ≡ Some i → (j : ℕ) × (i ≡ k + j) × ((row : RowState) → slice_get rows j ≡ Some row → p row ≡ true)
place_passes p k [] i is = absurd cc
place_passes p k (x ∷ rows) i is = by_test (p x) refl (λ later. place_passes p (k + 1) rows i later)
  where
    some_is : {a b : ℕ} → Some a ≡ Some b → a ≡ b
    some_is is = cc

    by_test : (b : Bool) → p x ≡ b → (place p (k + 1) rows ≡ Some i → (j : ℕ) × (i ≡ (k + 1) + j) × ((row : RowState) → slice_get rows j ≡ Some row → p row ≡ true))
        → (j : ℕ) × (i ≡ k + j) × ((row : RowState) → slice_get (x ∷ rows) j ≡ Some row → p row ≡ true)
    by_test true passes more =
        let own : Some k ≡ Some i = rw passes at is in
        let first : k ≡ i = some_is own in
        (0, omega (arith, first), λ row here. let same : x ≡ row = cc in subst (λ (r : RowState). p r ≡ true) same passes)
    by_test false fails more =
        let later : place p (k + 1) rows ≡ Some i = rw fails at is in
        let rest = more later in
        (suc rest.0, omega (arith, rest.1), λ row here. rest.2 row here)

found_is_named : (m : Machine) (name : List ℕ) (i : ℕ) (row : RowState) → find_row m name ≡ Some i → slice_get m.rows i ≡ Some row → row.name ≡ name
found_is_named m name i row found here =
    let passes = place_passes (λ (r : RowState). same_bytes r.name name) 0 m.rows i found in
    let same : i ≡ passes.0 = omega (arith, passes.1) in
    same_bytes_is row.name name (passes.2 row (subst (λ (n : ℕ). slice_get m.rows n ≡ Some row) same here))

module _ (name : List ℕ) (ty : PayloadType) (s : Sample) (now : ℕ) (m : Machine) (sound : IsSound m) where
  abbrev Keeps : Outcome → Type 0
  Keeps end = end.answer ≡ Kept → HasSample accepted end.after name s

  -- the row has it
  gained : (i : ℕ) (row : RowState) → slice_get m.rows i ≡ Some row → row.name ≡ name → row.next ≤ s.t → HasSample accepted (with_rows m (at i (gains s))) name s
  gained i row here named late =
      let own : (0 + i == i) ≡ true = grind (arith, nat_tests) in
      let p = end_of (durable row) in
      let r = sound.each_row i row here in
      let rises : RisesFrom p (row.tail ++ s ∷ []) = RisesFrom-append p row.tail (s ∷ []) r.later (omega (arith, r.next, late), tt) in
      let all : since p (row.tail ++ s ∷ []) ≡ row.tail ++ s ∷ [] = since_all p p (row.tail ++ s ∷ []) rises (omega arith) in
      record {
        place = i;
        row = gains s row;
        here = each_forward (at i (gains s)) 0 m.rows i row here ∙ rw own refl;
        named = named;
        has = Contains-append_right (durable row) (since p (row.tail ++ s ∷ [])) s (subst (λ (l : List Sample). Contains l s) (sym all) (Contains-push row.tail s));
      }

  offered_to_keeps : (i : ℕ) (row : RowState) → slice_get m.rows i ≡ Some row → row.name ≡ name → Keeps (offered_to m i row ty s now)
  offered_to_keeps i row here named = by_reason (refused_by_row (Some (standing row)) (number_of ty)) refl
    where
      by_method : (d : Method) → row.about.method ≡ d → refused_by_row (Some (standing row)) (number_of ty) ≡ None → Keeps (offered_to m i row ty s now)
      by_method Monitor is none = rw (none, is) (tried_is Keeps m row s now (record { answer = Kept; after = with_rows m (at i (gains s)) }) (λ reason kept. absurd cc) (λ kept. absurd cc) (λ late fits kept. gained i row here named late))
      by_method (Scan period) is none = rw (none, is) (λ kept. absurd cc)

      by_reason : (o : Option Reason) → refused_by_row (Some (standing row)) (number_of ty) ≡ o → Keeps (offered_to m i row ty s now)
      by_reason (Some reason) is = rw is (λ kept. absurd cc)
      by_reason None is = by_method row.about.method refl is

  offered_keeps : Keeps (offered m name ty s now)
  offered_keeps = by_name (find_row m name) refl
    where
      by_row : (i : ℕ) → (o : Option RowState) → slice_get m.rows i ≡ o → find_row m name ≡ Some i → Keeps (offered m name ty s now)
      by_row i None none is = rw (is, none) (λ kept. absurd cc)
      by_row i (Some row) here is = rw (is, here) (offered_to_keeps i row here (found_is_named m name i row is here))

      by_name : (o : Option ℕ) → find_row m name ≡ o → Keeps (offered m name ty s now)
      by_name None is = rw is (λ kept. absurd cc)
      by_name (Some i) is = by_row i (slice_get m.rows i) refl is

  kept_is_accepted : (new : Machine) → OfferStep name ty s now m Kept new → HasSample accepted new name s
  kept_is_accepted new (inl end) = subst (λ (n : Machine). HasSample accepted n name s) (sym end.1) (offered_keeps (sym end.0))
  kept_is_accepted new (inr end) = absurd (let bad = end.0 in cc)

-- THE FLUSH

left_is : {samples left doors a b c : ℕ} → flushed_as samples left doors ≡ flushed_as a b c → b ≡ left
left_is is = cc

-- what it tells to be left is what the intake holds
flush_tells : (limit : ℕ) (old new : Machine) (reply : Reply) (samples left doors : ℕ) → FlushStep limit old reply new → reply ≡ Flushed samples left doors → held_bytes new.rows ≡ left
flush_tells limit old new reply samples left doors (runs {mid = mid} a p settles q ran r) is =
    let both : flushed_as samples left doors ≡ flushed_as ran.0.0 (held_bytes new.rows) new.doors = sym is ∙ ran.0.2 in
    left_is both
flush_tells limit old new reply samples left doors (refused_at_once a p) is = absurd cc
flush_tells limit old new reply samples left doors (refused a p settles q same r) is = absurd cc
flush_tells limit old new reply samples left doors (faults_first p same q) is = absurd cc
flush_tells limit old new reply samples left doors (faults_between p settles same q) is = absurd cc
flush_tells limit old new reply samples left doors (faults_within doubted p settles q r same t) is = absurd cc
flush_tells limit old new reply samples left doors (faults_removing done gone p settles q ran t) is = absurd cc
flush_tells limit old new reply samples left doors (wants_memory same q) is = absurd cc
flush_tells limit old new reply samples left doors (wants_memory_settled p settles same q) is = absurd cc

-- with an empty intake all that is accepted is durable
all_durable : (m : Machine) (name : List ℕ) (x : Sample) → held_bytes m.rows ≡ 0 → HasSample accepted m name x → HasSample durable m name x
all_durable m name x none h =
    let empty : h.row.tail ≡ [] = no_rows m.rows h.place h.row none h.here in
    let same : accepted h.row ≡ durable h.row = ap (λ (l : List Sample). durable h.row ++ since (end_of (durable h.row)) l) empty ∙ append-nil (durable h.row) in
    record { place = h.place; row = h.row; here = h.here; named = h.named; has = subst (λ (l : List Sample). Contains l x) same h.has }

-- A SESSION'S ENTRIES

-- one's own act in a run, and what one did behind it
record OwnAct (who : ℕ) (d : Done) (later : List Done) (m new : Machine) : Type 0 where
  by : ℕ
  front : List Entry
  back : List Entry
  at : Machine
  after : Machine
  to : Runs m front at
  asked : MayAsk d.act
  step : Step by d.act at d.answer after
  from : Runs after back new
  rest : mine who back ≡ later

own_act : (who : ℕ) (entries : List Entry) (earlier later : List Done) (d : Done) (m new : Machine) → Runs m entries new → mine who entries ≡ earlier ++ d ∷ later → OwnAct who d later m new
own_act who entries earlier later d m new run is = of_cut (cut_at who entries earlier later d is)
  where
    of_cut : CutAt who entries earlier d later → OwnAct who d later m new
    of_cut c =
        let s = steps_at c.front c.back c.entry m new (subst (λ (es : List Entry). Runs m es new) c.is run) in
        record {
          by = c.entry.who;
          front = c.front;
          back = c.back;
          at = s.at;
          after = s.after;
          to = s.to;
          asked = subst (λ (x : Done). MayAsk x.act) c.done s.asked;
          step = subst (λ (x : Done). Step c.entry.who x.act s.at x.answer s.after) c.done s.step;
          from = s.from;
          rest = c.back_is;
        }

-- where an element stands
cut_list : (xs : List Done) (d : Done) → Contains xs d → (front : List Done) × ((back : List Done) × (xs ≡ front ++ d ∷ back))
cut_list [] d h = absurd (omega (arith, h.1))
cut_list (x ∷ xs) d (zero, low, is) = ([], (xs, ap (λ (y : Done). y ∷ xs) is))
cut_list (x ∷ xs) d (suc k, low, is) =
    let rest = cut_list xs d (k, omega (arith, low), is) in
    (x ∷ rest.0, (rest.1.0, ap (λ (l : List Done). x ∷ l) rest.1.1))

module _ (who : ℕ) (m new : Machine) (entries : List Entry) (sound : IsSound m) (told : m.told ≡ true) (run : Runs m entries new) where
  pub kept_durable : (acts : List Done) (samples doors : ℕ) → mine who entries ≡ acts ++ done_as flush_all (Flushed samples 0 doors) ∷ [] → KeptAreDurable acts new
  kept_durable acts samples doors is name ty x now among =
      let f = done_as flush_all (Flushed samples 0 doors) in
      let d = kept_offer name ty x now in
      let cut = cut_list acts d among in
      let whole : mine who entries ≡ cut.0 ++ d ∷ (cut.1.0 ++ f ∷ []) = is ∙ (ap (λ (l : List Done). l ++ f ∷ []) cut.1.1 ∙ append_assoc cut.0 (d ∷ cut.1.0) (f ∷ [])) in
      let o = own_act who entries cut.0 (cut.1.0 ++ f ∷ []) d m new run whole in
      let o_sound = runs_sound o.front m o.at sound o.to in
      let o_on = runs_onward o.front m o.at sound o.to in
      let o_told : o.at.told ≡ true = o_on.told ∙ told in
      let kept = kept_is_accepted name ty x now o.at o_sound o.after o.step in
      let a_sound = step_sound o.by d.act o.at o.after d.answer o_sound o.asked o.step in
      let a_told : o.after.told ≡ true = (step_onward o.by d.act o.at o.after d.answer o_sound o.asked o.step).told ∙ o_told in
      let g = own_act who o.back cut.1.0 [] f o.after new o.from o.rest in
      let g_sound = runs_sound g.front o.after g.at a_sound g.to in
      let g_on = runs_onward g.front o.after g.at a_sound g.to in
      let g_told : g.at.told ≡ true = g_on.told ∙ a_told in
      let before = accepted_on o.after g.at name x a_told g_on kept in
      let f_on = step_onward g.by f.act g.at g.after f.answer g_sound g.asked g.step in
      let f_told : g.after.told ≡ true = f_on.told ∙ g_told in
      let empty = flush_tells 67108864 g.at g.after f.answer samples 0 doors g.step refl in
      let then = all_durable g.after name x empty (accepted_on g.at g.after name x g_told f_on before) in
      durable_on g.after new name x f_told (runs_onward g.back g.after new (step_sound g.by f.act g.at g.after f.answer g_sound g.asked g.step) g.from) then

module _ {A : Type 0} (number : A → ℕ) (stands : A → Machine → Type 0) (between : A → List Entry → A → Type 0)
    (legal : (a b : A) (entries : List Entry) (m : Machine) → between a entries b → stands a m → Goes (stands b) m entries)
    (sound : (a : A) (m : Machine) → stands a m → IsSound m) where
  -- a session that says so ended with the flush
  flushed_last : (end : Fed) (begun : List Item) (last : List Done) → SaysDurable end → EndsIn end begun last → IsFlushed last
  flushed_last (fed.Fed kept held dropped) begun last says ends = ends.1
  flushed_last (fed.Refused line fault) begun last says ends = ends.1
  flushed_last fed.PeerFault begun last says ends = absurd says
  flushed_last fed.DiskFault begun last says ends = absurd says
  flushed_last fed.Spent begun last says ends = absurd says
  flushed_last fed.Memory begun last says ends = absurd says

  pub kept_is_durable : KeptIsDurable number stands between
  kept_is_durable registers end taken old new source clock clock' m says e here told =
      let goes = legal old new e.made.entries m e.made.leads here in
      let s = e.session in
      let f = flushed_last end s.begun s.last says s.ends in
      let all : mine (number old) e.made.entries ≡ acts_of taken ++ done_as flush_all (Flushed f.samples 0 f.doors) ∷ [] = e.made.just_these ∙ (s.all ∙ ap (λ (l : List Done). acts_of taken ++ l) f.is) in
      (goes, kept_durable (number old) m goes.after e.made.entries (sound old m here) told goes.runs (acts_of taken) f.samples f.doors all)
