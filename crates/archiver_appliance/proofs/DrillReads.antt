-- What one who acts alone on a drill's archive is told of a variable: the tally of a whole retrieval, and the files of its details.
use Rattle.std.proofs.Common.{◌≡◌, ◌⊎◌, inl, inr, ℕ, ◌+◌, suc, List, [], ◌∷◌, ◌++◌, length, Bool, true, Option, Some, None, Result, Ok, Err, refl, sym, ap, subst, ◌∙◌, append_assoc, append-nil, arith}
use Rattle.std.specs.Prelude.{IsTrue}
use Rattle.std.proofs.lemmas.Bool.Decides.{nat_tests}
use Rattle.std.proofs.lemmas.List.{length-map}
use Rattle.disk_model.specs.declared.disk.Disk.{Ghosts}
use Rattle.series_model.specs.declared.sample.Query.{Query}
use Rattle.series_model.specs.declared.sample.Sample.{Sample}
use Rattle.drill_feed.specs.declared.report.Tally.{Tally}
use Rattle.act_model.specs.declared.acts.Act.{Act}
use Rattle.act_model.specs.declared.acts.Act.TheVariants.{Details as AskDetails}
use Rattle.act_model.specs.declared.acts.Answer.TheVariants.{Described}
use Rattle.act_model.specs.declared.details.Details.{Details}
use Rattle.act_model.specs.Details.{Describes, DetailsStep, details_refused}
use Rattle.act_model.specs.declared.actor.Spent.{Spent as NoAct}
use Rattle.act_model.specs.Alone.{Alone as Acts}
use Rattle.act_model.specs.Asks.{Asked}
use Rattle.act_model.specs.Growth.{Onward}
use Rattle.act_model.specs.History.{Done, Entry, Made, Runs, done_of, mine, own}
use Rattle.act_model.specs.Machine.{Machine, find_row}
use Rattle.act_model.specs.Out.{Subject}
use Rattle.act_model.specs.Outcome.{refused_at_once, refused, runs, faults_first, faults_between, faults_within, faults_removing, wants_memory, wants_memory_settled}
use Rattle.act_model.specs.Reply.{Reply}
use Rattle.act_model.specs.Step.{Step}
use Rattle.act_model.proofs.ActsAlone.{alone_joined}
use Rattle.act_model.proofs.Histories.{runs_onward}
use Rattle.archive_actors.specs.declared.alone.Alone.{Alone as ActorValue}
use Rattle.archive_core.specs.Leaving.{Leaves}
use Rattle.archive_core.specs.Parts.{parts}
use Rattle.archive_core.specs.Stands.{Stands}
use Rattle.archive_core.specs.declared.archive.Archive.{Archive}
use Rattle.archive_core.proofs.Acting.{chain_runs_on}
use Rattle.retrieval_query.specs.Retrieving.{IsPinned, NotPinned, ReadsHeaders, WritesAnswer}
use Rattle.retrieval_query.specs.declared.retrieved.Retrieved.{Retrieved}
use Rattle.retrieval_query.specs.declared.retrieved.Retrieved.TheVariants as got
use Rattle.archiver_appliance.specs.Acting.{ActsAlone}
use Rattle.archiver_appliance.specs.Drilling.{CameTo, HasFiles, HasTally, Led, TellsOn}
use Rattle.archiver_appliance.specs.Tallying.{AreTallied}
use Rattle.archiver_appliance.specs.declared.tallying.TallyOut.{TallyOut}
use Rattle.archiver_appliance.proofs.Acting.{acts_alone, ran}
use Rattle.archiver_appliance.proofs.Gotten.{AloneOn, alone_on}
use Rattle.archiver_appliance.proofs.PinSteps.{first_own}
use Rattle.archiver_appliance.proofs.Retrievals.{is_pinned, not_pinned}

-- A RETRIEVAL

module _ {A O R : Type 0} (number : A → ℕ) (between : A → List Entry → A → Type 0) (is_spent : A → Type 0) (never : (a : A) → is_spent a → ⊥)
    (joined : (a b c : A) (xs ys : List Entry) → between a xs b → between b ys c → between a (xs ++ ys) c) (number_stays : (a b : A) (entries : List Entry) → between a entries b → number b ≡ number a)
    (tells : Bool) (faults : R → ℕ) (finished broke : O → Subject → List Sample → O → Type 0) (rose : Type 0) (old : A) (name : List ℕ) (query : Query) (out : O) (result : Retrieved R) (new : A) (out' : O) where
  -- whatever it came to, it made some acts and no others
  pub made_some : NotPinned number between is_spent old name query out result new out' ⊎ IsPinned number between is_spent tells faults finished broke rose old name query out result new out' → (done : List Done) × Made number between old done new
  made_some (inl n) = let one = not_pinned number between is_spent never joined number_stays tells faults rose old name query new result n.refuses in (one.0.done, one.0.made)
  made_some (inr p) = let one = is_pinned number between is_spent never joined number_stays tells faults rose old name query new p.pin p.name_told p.about p.pieces p.tail p.pinned result p.pins p.reads in (one.0.done, one.0.made)

module _ {A O D R : Type 0} (disk : Ghosts D R) (number : A → ℕ) (between : A → List Entry → A → Type 0) (finished broke : O → Subject → List Sample → O → Type 0) (old new : A) (out out' : O) (first last : Archive D R)
    (alone : (entries : List Entry) → between old entries new → AloneOn disk first entries last) (tally : Option Tally) (tallied : (s : Subject) (xs : List Sample) → finished out s xs out' → AreTallied xs tally) (name : List ℕ) (query : Query) (count : ℕ) where
  -- the tally of a whole one is of what was accepted in the state that its pin led to
  pub tally_led : (m : Machine) → Stands disk.tells (parts disk first) m → WritesAnswer {R = R} number between finished broke old m name query out (got.Finished count) new out' → Led disk m last (λ n es. CameTo n es (HasTally name query tally))
  tally_led m stands w =
      let entries = w.before_it ++ w.pin ∷ w.after_it in
      let run = chain_runs_on disk.tells (parts disk) entries first last m stands (alone entries w.leads).chain in
      record {
        entries = entries;
        after = run.after;
        runs = run.runs;
        stands = run.stands;
        such = record {
          front = w.before_it ++ w.pin ∷ [];
          back = w.after_it;
          split = sym (append_assoc w.before_it (w.pin ∷ []) w.after_it);
          at = w.pinned;
          to = w.runs;
          such = record { i = w.i; row = w.row; found = w.found; here = w.here; tallied = tallied (record { name = w.row.name; about = w.row.about; query = query }) _ w.writes.0 };
        };
      }

-- DETAILS

-- one act alone is the step to the end
pub one_step : (entries : List Entry) (start end : Machine) (d : Done) → own 0 entries ≡ entries → mine 0 entries ≡ d ∷ [] → Runs start entries end → Step 0 d.act start d.answer end
one_step [] start end d all is run = absurd (cc (is))
one_step (e ∷ []) start end d all is run =
    let test = first_own 0 e [] all in
    let one : mine 0 (e ∷ []) ≡ done_of e ∷ [] = rw test refl in
    let both : done_of e ∷ [] ≡ d ∷ [] = sym one ∙ is in
    let first : done_of e ≡ d = cc (both) in
    let who : e.who ≡ 0 = grind (arith, nat_tests, test) in
    let step : Step e.who e.act start e.answer end = subst (λ (x : Machine). Step e.who e.act start e.answer x) (sym run.3) run.2 in
    subst (λ (x : Done). Step 0 x.act start x.answer end) first (subst (λ (w : ℕ). Step w e.act start e.answer end) who step)
one_step (e ∷ (x ∷ es)) start end d all is run =
    let long : length (mine 0 (e ∷ (x ∷ es))) ≡ suc (suc (length es)) = length-map (own 0 (e ∷ (x ∷ es))) done_of ∙ ap (λ (l : List Entry). length l) all in
    let short : length (mine 0 (e ∷ (x ∷ es))) ≡ 1 = ap (λ (l : List Done). length l) is in
    absurd (omega (arith, long, short))

refusal_not : (name : List ℕ) (m : Machine) (d : Details) → details_refused name m ≡ Some (Described d) → ⊥
refusal_not name m d is = by_found (find_row m name) refl
  where
    by_found : (o : Option ℕ) → find_row m name ≡ o → ⊥
    by_found (Some i) here = let one = rw here at is in cc (one)
    by_found None here = let one = rw here at is in cc (one)

-- the step leaves what it told of
described_files : (name : List ℕ) (d : Details) (mid new : Machine) (reply : Reply) → Describes name mid reply new → reply ≡ Described d → new.told ≡ true → HasFiles name d.files new
described_files name d mid new reply s is told =
    let both : ◌≡◌ {A = Reply} (Described s.details) (Described d) = sym s.answered ∙ is in
    let same : s.details ≡ d = cc (both) in
    let whole = s.told (sym (ap (λ (m : Machine). m.told) s.same) ∙ told) in
    subst (λ (m : Machine). HasFiles name d.files m) (sym s.same)
    (subst (λ (x : Details). HasFiles name x.files (record mid { faults = new.faults })) same (record { i = s.i; row = s.row; found = s.found; here = s.here; each = whole.files }))

step_files : (name : List ℕ) (d : Details) {old new : Machine} {reply : Reply} → DetailsStep name old reply new → reply ≡ Described d → new.told ≡ true → HasFiles name d.files new
step_files name d {old} (refused_at_once reply p) is told = absurd (refusal_not name old d (p ∙ ap (λ (r : Reply). Some r) is))
step_files name d (refused {mid = mid} reply p settles q same more) is told = absurd (refusal_not name mid d (q ∙ ap (λ (r : Reply). Some r) is))
step_files name d {new = new} (runs {mid = mid} reply p settles q ran more) is told = described_files name d mid new reply ran is told
step_files name d (faults_first p same rose) is told = absurd (cc (is))
step_files name d (faults_between p settles same rose) is told = absurd (cc (is))
step_files name d (faults_within doubted p settles q r same rose) is told = absurd (cc (is))
step_files name d (faults_removing done gone p settles q ran rose) is told = absurd (cc (is))
step_files name d (wants_memory same more) is told = absurd (cc (is))
step_files name d (wants_memory_settled p settles same more) is told = absurd (cc (is))

module _ {D R : Type 0} (disk : Ghosts D R) (old new : Archive D R) (name : List ℕ) (d : Details) (made : ActsAlone disk old (record { act = AskDetails name; answer = Described d } ∷ []) new) where
  -- the files are those of the state that the act led to
  pub files_led : (m : Machine) → Stands disk.tells (parts disk old) m → m.told ≡ true → Led disk m new (λ n es. CameTo n es (HasFiles name d.files))
  files_led m stands is =
      let act : Done = record { act = AskDetails name; answer = Described d } in
      let run = ran disk old new (act ∷ []) m stands made in
      let on : Onward m run.after = runs_onward made.entries m run.after stands.sound run.runs in
      let step : DetailsStep name m (Described d) run.after = one_step made.entries m run.after act made.no_others made.just_these run.runs in
      record {
        entries = made.entries;
        after = run.after;
        runs = run.runs;
        stands = run.stands;
        such = record { front = made.entries; back = []; split = sym (append-nil made.entries); at = run.after; to = run.runs; such = step_files name d step refl (on.told ∙ is) };
      }

-- ONE WHO ACTS ALONE

-- what an output has that was given these samples
abbrev pub Tallied : TallyOut → Subject → List Sample → TallyOut → Type 0
Tallied before subject xs now = AreTallied xs now.tally

abbrev pub Broken : TallyOut → Subject → List Sample → TallyOut → Type 0
Broken before subject xs now = Unit {0}

module _ {D R : Type 0} (disk : Ghosts D R) where
  abbrev pub number : ActorValue (Archive D R) R → ℕ
  number a = a.who

  abbrev pub Between : ActorValue (Archive D R) R → List Entry → ActorValue (Archive D R) R → Type 0
  Between a entries b = (b.archive.ghost_name ≡ a.archive.ghost_name) × (b.who ≡ a.who) × Acts (λ x m. Stands disk.tells (parts disk x) m) (λ x e y. Leaves disk.tells (parts disk x) e (parts disk y)) a.who a.archive.now entries b.archive.now

  between_joined : (a b c : ActorValue (Archive D R) R) (xs ys : List Entry) → Between a xs b → Between b ys c → Between a (xs ++ ys) c
  between_joined a b c xs ys p q = (q.0 ∙ p.0, q.1 ∙ p.1, alone_joined (λ x m. Stands disk.tells (parts disk x) m) (λ x e y. Leaves disk.tells (parts disk x) e (parts disk y)) a.who b.who a.archive.now b.archive.now c.archive.now xs ys p.1 p.2 q.2)

  -- an archive stands for something behind all acts
  pub stands_behind : (old new : Archive D R) (done : List Done) → (m : Machine) × Stands disk.tells (parts disk old) m → ActsAlone disk old done new → (n : Machine) × Stands disk.tells (parts disk new) n
  stands_behind old new done s made = let run = ran disk old new done s.0 s.1 made in (run.after, run.stands)

  -- An archive that an actor lends under 0, and what it is once the actor gives it back.
  module _ (first last : Archive D R) (old new : ActorValue (Archive D R) R) (zero : old.who ≡ 0) (from : old.archive.now ≡ first) (to : new.archive.ghost_name ≡ old.archive.ghost_name → last ≡ new.archive.now) where
    pub acts_given_back : (done : List Done) → Made number Between old done new → ActsAlone disk first done last
    acts_given_back done made = acts_alone disk old.archive.now first new.archive.now last old.who done made.entries made.just_these zero made.leads.2 from (to made.leads.0)

    -- one act was asked, and it was made or none was
    pub asked_acts : {N : Type 0} (reply : N → Reply) (act : Act) (result : Result N NoAct) → Asked number Between (λ a. ⊥) reply old act result new → (done : List Done) × ActsAlone disk first done last
    asked_acts {N} reply act (Ok n) asked = (record { act = act; answer = reply n } ∷ [], acts_given_back (record { act = act; answer = reply n } ∷ []) asked.done)
    asked_acts {N} reply act (Err e) asked = ([], acts_given_back [] asked.spent.0)

    -- one act was made, and this was answered
    pub made_one : {N : Type 0} (reply : N → Reply) (act : Act) (n m : N) → n ≡ m → Made number Between old (record { act = act; answer = reply n } ∷ []) new → Made number Between old (record { act = act; answer = reply m } ∷ []) new
    made_one {N} reply act n m is made = subst (λ (x : N). Made number Between old (record { act = act; answer = reply x } ∷ []) new) is made

    alone_given_back : (entries : List Entry) → Between old entries new → AloneOn disk first entries last
    alone_given_back entries leads = alone_on disk old.archive.now first new.archive.now last old.who entries zero leads.2 from (to leads.0)

    module _ (reads : Bool) (faults : R → ℕ) (rose : Type 0) (name : List ℕ) (query : Query) (out out' : TallyOut) where
      pub retrieval_acts : (result : Retrieved R) → NotPinned number Between (λ a. ⊥) old name query out result new out' ⊎ IsPinned number Between (λ a. ⊥) reads faults Tallied Broken rose old name query out result new out' → (done : List Done) × ActsAlone disk first done last
      retrieval_acts result acts = let some = made_some number Between (λ a. ⊥) (λ a none. none) between_joined (λ a b entries h. h.1) reads faults Tallied Broken rose old name query out result new out' acts in (some.0, acts_given_back some.0 some.1)

      pub tells_tally : (count : ℕ) → (IsTrue disk.tells → IsTrue reads)
          → (IsTrue reads → (m : Machine) → Stands disk.tells (parts disk old.archive.now) m → m.told ≡ true → ReadsHeaders m.rule → NotPinned {R = R} number Between (λ a. ⊥) old name query out (got.Finished count) new out' ⊎ WritesAnswer {R = R} number Between Tallied Broken old m name query out (got.Finished count) new out')
          → TellsOn disk first last (λ m es. CameTo m es (HasTally name query out'.tally))
      tells_tally count tell whole told m stands is headers = by (whole (tell told) m (subst (λ (a : Archive D R). Stands disk.tells (parts disk a) m) (sym from) stands) is headers)
        where
          by : NotPinned {R = R} number Between (λ a. ⊥) old name query out (got.Finished count) new out' ⊎ WritesAnswer {R = R} number Between Tallied Broken old m name query out (got.Finished count) new out' → Led disk m last (λ n es. CameTo n es (HasTally name query out'.tally))
          by (inl n) = absurd n.refuses
          by (inr w) = tally_led disk number Between Tallied Broken old new out out' first last alone_given_back out'.tally (λ s xs t. t) name query count m stands w

    pub tells_files : (name : List ℕ) (d : Details) → Made number Between old (record { act = AskDetails name; answer = Described d } ∷ []) new → TellsOn disk first last (λ m es. CameTo m es (HasFiles name d.files))
    tells_files name d made told m stands is headers = files_led disk first last name d (acts_given_back (record { act = AskDetails name; answer = Described d } ∷ []) made) m stands is
