-- What a retrieval wrote, as the answer over what was held as the archive was opened.
use Rattle.std.proofs.Common.{Result, Ok, Err, ◌≡◌, ◌≢◌, ◌≤◌, ◌⊎◌, inl, inr, ℕ, List, [], ◌∷◌, Bool, true, Option, Some, None, refl, sym, ◌∙◌, ap, subst, arith}
use Rattle.std.specs.Prelude.{slice_get}
use Rattle.std.specs.Io.KnownBytes.{Appends}
use Rattle.edge_io.specs.Stream.{AppendsFront}
use Rattle.disk_model.specs.Files.{Name}
use Rattle.etl_rules.specs.Config.{ConfigState}
use Rattle.series_model.specs.declared.sample.Query.{Query}
use Rattle.series_model.specs.Retrieval.{answer as answer_of}
use Rattle.series_model.specs.declared.sample.Sample.{Sample}
use Rattle.tier_store.specs.Stores.{Stores, whole_in}
use Rattle.act_model.specs.declared.acts.Act.TheVariants.{Pin}
use Rattle.act_model.specs.declared.acts.Answer.TheVariants as answer
use Rattle.act_model.specs.Event.{AreEvents}
use Rattle.act_model.specs.History.{Done, Entry, Runs, mine, own}
use Rattle.act_model.specs.Machine.{Machine}
use Rattle.act_model.specs.Out.{Subject}
use Rattle.act_model.specs.Rows.{RowState, accepted}
use Rattle.act_model.specs.Sound.{IsSound}
use Rattle.act_model.specs.Whole.{whole}
use Rattle.pb_messages.specs.Info.{info_of}
use Rattle.pb_messages.specs.declared.info.PayloadInfo.{PayloadInfo}
use Rattle.pb_messages.specs.declared.info_error.InfoFault.{InfoFault}
use Rattle.act_model.specs.Rule.{Header}
use Rattle.retrieval_query.specs.Retrieving.{ReadsHeaders}
use Rattle.retrieval_query.specs.Raw.{IsRaw}
use Rattle.retrieval_query.specs.declared.retrieved.Retrieved.{Retrieved}
use Rattle.retrieval_query.specs.declared.retrieved.Retrieved.TheVariants as got
use Rattle.archive_core.specs.Parts.{Parts}
use Rattle.archive_core.specs.Stands.{Stands}
use Rattle.pb_messages.specs.declared.about.About.{About}
use Rattle.command_words.specs.declared.status.Status.{Status}
use Rattle.command_words.specs.declared.status.Status.TheVariants.{Done as IsDone, NoSuchVariable, SinkFault, DiskFault, Damaged, OutOfMemory}
use Rattle.archiver_appliance.specs.Acting.{IsOpenedOn, header_by, rule_of}
use Rattle.archiver_appliance.specs.Judging.{IsOneOf}
use Rattle.archiver_appliance.specs.Retrieving.{Answers, EndsBy, Gets, GetsSome, HasAnswer, HasNone, IsPinless, IsRetrieved, WritesAccepted, WritesEvents, WritesOfPin, subject_of}
use Rattle.archiver_appliance.specs.Outside.{IsCausedBy}
use Rattle.command_words.specs.Status.{number_of}
use Rattle.command_words.specs.declared.command.StoreCommand.TheVariants as command
use Rattle.archiver_appliance.proofs.PinSteps.{IsPinnedRow, first_step, found_name, held_row, none_has, one_has, pin_named, pin_rows, pin_unknown}

-- OF WHAT IS HELD

module _ {R : Type 0} (config : ConfigState) (held : Stores) (start : Machine) (sound : IsSound start) (opened : IsOpenedOn true config held start) (told : start.told ≡ true) (name : List ℕ) (query : Query) (a b : Option (List ℕ)) (result : Retrieved R) where
  -- what is accepted of the variable as the pin leads to it
  abbrev Accepted : WritesAccepted start name query a b result → List Sample
  Accepted w = answer_of (whole accepted w.pinned.rows w.i) query

  -- the text over that is the answer over what is held
  answers : (Becomes : List ℕ → Type 0) (w : WritesAccepted start name query a b result) (text : List ℕ) → IsRaw (record { name = w.row.name; about = w.row.about; query = query }) (Accepted w) text → Becomes text → Answers held name query Becomes
  answers Becomes w text raw becomes =
      let rows = pin_rows 0 name query opened.settled w.step in
      let r = held_row config held start sound opened told w.i w.row (ap (λ (rs : List RowState). slice_get rs w.i) (sym rows) ∙ w.here) in
      let whole_is : whole accepted w.pinned.rows w.i ≡ whole_in w.i held = ap (λ (rs : List RowState). whole accepted rs w.i) rows ∙ r.whole_is in
      record {
        id = w.i;
        row = r.own;
        here = r.here;
        is_named = sym r.name_is ∙ found_name w.pinned name w.i w.row w.found w.here;
        text = text;
        raw = rw (← r.name_is, ← r.about_is, ← whole_is) raw;
        becomes = becomes;
      }

  front_of : (w : WritesAccepted start name query a b result) → (text : List ℕ) × IsRaw (record { name = w.row.name; about = w.row.about; query = query }) (Accepted w) text × AppendsFront a b text → Answers held name query (AppendsFront a b)
  front_of w t = answers (AppendsFront a b) w t.0 t.1 t.2

  whole_of : (w : WritesAccepted start name query a b result) → (text : List ℕ) × IsRaw (record { name = w.row.name; about = w.row.about; query = query }) (Accepted w) text × Appends a b text → Answers held name query (Appends a b)
  whole_of w t = answers (Appends a b) w t.0 t.1 t.2

-- by how it ended
pub gets_held : {R : Type 0} (config : ConfigState) (held : Stores) (start : Machine) → IsSound start → IsOpenedOn true config held start → start.told ≡ true → (name : List ℕ) (query : Query) (a b : Option (List ℕ)) (result : Retrieved R) (status : Status) (file : Option R)
    → IsRetrieved result status file → (result ≡ got.NoSuchVariable → (b ≡ a) × HasNone held.rows name) → ((name : Name) (at : ℕ) → result ≡ got.Damaged name at → ⊥) → (IsPinless result × (b ≡ a)) ⊎ WritesAccepted start name query a b result → Gets held name query a b status
gets_held {R} config held start sound opened told name query a b (got.Finished count) status file is unknown undamaged (inl none) = absurd none.0
gets_held {R} config held start sound opened told name query a b (got.Finished count) status file is unknown undamaged (inr w) = subst (λ (s : Status). Gets held name query a b s) (sym is.0) (whole_of config held start sound opened told name query a b (got.Finished count) w w.writes)
gets_held {R} config held start sound opened told name query a b got.NoSuchVariable status file is unknown undamaged w = subst (λ (s : Status). Gets held name query a b s) (sym is.0) (unknown refl)
gets_held {R} config held start sound opened told name query a b (got.ReadFault failed) status file is unknown undamaged (inl none) = subst (λ (s : Status). Gets held name query a b s) (sym is.0) (inl none.1)
gets_held {R} config held start sound opened told name query a b (got.ReadFault failed) status file is unknown undamaged (inr w) = subst (λ (s : Status). Gets held name query a b s) (sym is.0) (inr (front_of config held start sound opened told name query a b (got.ReadFault failed) w w.writes))
gets_held {R} config held start sound opened told name query a b (got.Damaged bad at) status file is unknown undamaged w = absurd (undamaged bad at refl)
gets_held {R} config held start sound opened told name query a b got.SinkFault status file is unknown undamaged (inl none) = absurd none.0
gets_held {R} config held start sound opened told name query a b got.SinkFault status file is unknown undamaged (inr w) = subst (λ (s : Status). Gets held name query a b s) (sym is.0) (front_of config held start sound opened told name query a b got.SinkFault w w.writes)
gets_held {R} config held start sound opened told name query a b got.Spent status file is unknown undamaged w = absurd is
gets_held {R} config held start sound opened told name query a b got.Memory status file is unknown undamaged (inl none) = subst (λ (s : Status). Gets held name query a b s) (sym is.0) (inl none.1)
gets_held {R} config held start sound opened told name query a b got.Memory status file is unknown undamaged (inr w) = subst (λ (s : Status). Gets held name query a b s) (sym is.0) (inr (front_of config held start sound opened told name query a b got.Memory w w.writes))

-- OF ANY ROWS

same_subject : (query : Query) (n n' : List ℕ) (x x' : About) → n ≡ n' → x ≡ x' → ◌≡◌ {A = Subject} (record { name = n; about = x; query = query }) (record { name = n'; about = x'; query = query })
same_subject query n n' x x' p q = rw (p, q) refl

module _ (tells : Bool) (p : Parts) (start : Machine) (stands : Stands tells p start) (settled : start.doubt ≡ None) (entries : List Entry) (end : Machine) (done : List Done) (all : own 0 entries ≡ entries) (just : mine 0 entries ≡ done) (run : Runs start entries end)
    (name : List ℕ) (query : Query) where
  -- where no variable was found, no row has the name
  pub unknown_none : done ≡ record { act = Pin name query; answer = answer.NoSuchVariable } ∷ [] → HasNone p.at.catalogue.rows name
  unknown_none is =
      let one = first_step entries start end (record { act = Pin name query; answer = answer.NoSuchVariable }) [] all (just ∙ is) run in
      none_has tells p start name stands (pin_unknown 0 name query settled one.1 refl)

module _ {R : Type 0} (tells : Bool) (p : Parts) (start : Machine) (stands : Stands tells p start) (settled : start.doubt ≡ None) (entries : List Entry) (end : Machine) (done : List Done) (all : own 0 entries ≡ entries) (just : mine 0 entries ≡ done) (run : Runs start entries end)
    (name : List ℕ) (query : Query) (a b : Option (List ℕ)) where
  -- a row that was pinned has the name
  pub pinned_has : (result : Retrieved R) (w : WritesOfPin name query done a b result) → (row : IsPinnedRow start name w.told_name w.about w.tail) × (row.row.name ≡ name)
  pinned_has result w =
      let one = first_step entries start end (record { act = Pin name query; answer = answer.Pinned w.pin w.told_name w.about w.pieces w.tail }) w.rest all (just ∙ w.is) run in
      let row = pin_named 0 name query settled one.1 w.pin w.told_name w.about w.pieces w.tail refl in
      (row, found_name start name row.i row.row row.found row.here)

  -- what was written is of events of the row
  events_of : (Becomes : List ℕ → Type 0) (result : Retrieved R) (w : WritesOfPin name query done a b result) (text : List ℕ) → IsRaw (record { name = w.told_name; about = w.about; query = query }) w.samples text → Becomes text → WritesEvents p.at.catalogue.rows name query Becomes
  events_of Becomes result w text raw becomes =
      let has = pinned_has result w in
      let r = has.0 in
      let one = one_has tells p start name r.i r.row stands r.found r.here in
      let about_is : w.about ≡ one.0.row.about = r.about_is ∙ sym one.1 in
      let subject_is : ◌≡◌ {A = Subject} (record { name = w.told_name; about = w.about; query = query }) (subject_of one.0.row query) = same_subject query w.told_name one.0.row.name w.about one.0.row.about (r.name_is ∙ has.1 ∙ sym one.0.is) about_is in
      record {
        id = r.i;
        row = one.0.row;
        here = one.0.here;
        is_named = one.0.is;
        samples = w.samples;
        events = subst (λ (x : About). AreEvents x.ty w.samples) about_is w.events;
        rising = w.rising;
        text = text;
        raw = subst (λ (s : Subject). IsRaw s w.samples text) subject_is raw;
        becomes = becomes;
      }

  some_front : (result : Retrieved R) → ((w : WritesOfPin name query done a b result) → (text : List ℕ) × IsRaw (record { name = w.told_name; about = w.about; query = query }) w.samples text × AppendsFront a b text) → (IsPinless result × (b ≡ a)) ⊎ WritesOfPin name query done a b result
      → (b ≡ a) ⊎ WritesEvents p.at.catalogue.rows name query (AppendsFront a b)
  some_front result front (inl none) = inl none.1
  some_front result front (inr w) = let t = front w in inr (events_of (AppendsFront a b) result w t.0 t.1 t.2)

  pub some_events : (result : Retrieved R) (status : Status) (file : Option R) → IsRetrieved result status file → (IsPinless result × (b ≡ a)) ⊎ WritesOfPin name query done a b result → GetsSome p.at.catalogue.rows name query a b status
  some_events (got.Finished count) status file is (inl none) = absurd none.0
  some_events (got.Finished count) status file is (inr w) = subst (λ (s : Status). GetsSome p.at.catalogue.rows name query a b s) (sym is.0) (events_of (Appends a b) (got.Finished count) w w.writes.0 w.writes.1 w.writes.2)
  some_events got.NoSuchVariable status file is w = subst (λ (s : Status). GetsSome p.at.catalogue.rows name query a b s) (sym is.0) (some_front got.NoSuchVariable (λ v. v.writes) w)
  some_events (got.ReadFault failed) status file is w = subst (λ (s : Status). GetsSome p.at.catalogue.rows name query a b s) (sym is.0) (some_front (got.ReadFault failed) (λ v. v.writes) w)
  some_events (got.Damaged bad at) status file is w = subst (λ (s : Status). GetsSome p.at.catalogue.rows name query a b s) (sym is.0) (some_front (got.Damaged bad at) (λ v. v.writes) w)
  some_events got.SinkFault status file is w = subst (λ (s : Status). GetsSome p.at.catalogue.rows name query a b s) (sym is.0) (some_front got.SinkFault (λ v. v.writes) w)
  some_events got.Spent status file is w = absurd is
  some_events got.Memory status file is w = subst (λ (s : Status). GetsSome p.at.catalogue.rows name query a b s) (sym is.0) (some_front got.Memory (λ v. v.writes) w)

  -- where no row has the name, it ends with 4, or with 7 or 9 before
  pub none_ends : (result : Retrieved R) (status : Status) (file : Option R) → IsRetrieved result status file → (IsPinless result × (b ≡ a)) ⊎ WritesOfPin name query done a b result → HasNone p.at.catalogue.rows name → IsOneOf (number_of status) 4 7 9
  none_ends result status file is (inl pinless) none = by_result result is pinless.0
    where
      by_result : (r : Retrieved R) → IsRetrieved r status file → IsPinless r → IsOneOf (number_of status) 4 7 9
      by_result (got.Finished count) is pinless = absurd pinless
      by_result got.NoSuchVariable is pinless = inl (ap number_of is.0)
      by_result (got.ReadFault failed) is pinless = inr (inl (ap number_of is.0))
      by_result (got.Damaged bad at) is pinless = absurd pinless
      by_result got.SinkFault is pinless = absurd pinless
      by_result got.Spent is pinless = absurd pinless
      by_result got.Memory is pinless = inr (inr (ap number_of is.0))
  none_ends result status file is (inr w) none =
      let has = pinned_has result w in
      let r = has.0 in
      absurd (none r.i (one_has tells p start name r.i r.row stands r.found r.here).0)

-- STATUSES

-- that no variable was found is told of nothing else
pub found_none : {R : Type 0} (result : Retrieved R) (status : Status) (file : Option R) → IsRetrieved result status file → status ≡ NoSuchVariable → result ≡ got.NoSuchVariable
found_none {R} (got.Finished count) status file is same = absurd (cc (is.0, same))
found_none {R} got.NoSuchVariable status file is same = refl
found_none {R} (got.ReadFault failed) status file is same = absurd (cc (is.0, same))
found_none {R} (got.Damaged name at) status file is same = absurd (cc (is.0, same))
found_none {R} got.SinkFault status file is same = absurd (cc (is.0, same))
found_none {R} got.Spent status file is same = absurd is
found_none {R} got.Memory status file is same = absurd (cc (is.0, same))

-- and damage of a file that was found
pub found_damaged : {R : Type 0} (result : Retrieved R) (status : Status) (file : Option R) → IsRetrieved result status file → (name : Name) (at : ℕ) → status ≡ Damaged name at → result ≡ got.Damaged name at
found_damaged {R} (got.Finished count) status file is name at same = absurd (cc (is.0, same))
found_damaged {R} got.NoSuchVariable status file is name at same = absurd (cc (is.0, same))
found_damaged {R} (got.ReadFault failed) status file is name at same = absurd (cc (is.0, same))
found_damaged {R} (got.Damaged bad place) status file is name at same = let one : bad ≡ name = cc (is.0, same) in let two : place ≡ at = cc (is.0, same) in rw (one, two) refl
found_damaged {R} got.SinkFault status file is name at same = absurd (cc (is.0, same))
found_damaged {R} got.Spent status file is name at same = absurd is
found_damaged {R} got.Memory status file is name at same = absurd (cc (is.0, same))

some_is : (n : ℕ) → n ≢ 0 → 1 ≤ n
some_is n not = omega (arith, not)

told_by : {R : Type 0} (faults : R → ℕ) (rose disk : Type 0) (status : Status) (file : Option R) (s : Status) (f : Option R) → (status ≡ s) × (file ≡ f) → IsCausedBy faults ⊥ rose disk s f → IsCausedBy faults ⊥ rose disk status file
told_by faults rose disk status file s f is cause = rw (is.0, is.1) cause

-- why it ended, by the counts
pub retrieved_caused : {R : Type 0} (tells : Bool) (faults : R → ℕ) (rose disk : Type 0) (name : List ℕ) (query : Query) (done : List Done) (result : Retrieved R) (status : Status) (file : Option R)
    → IsRetrieved result status file → EndsBy tells faults rose name query result done → (HasAnswer answer.DiskFault done → disk) → IsCausedBy faults ⊥ rose disk status file
retrieved_caused {R} tells faults rose disk name query done (got.Finished count) status file is ends failed = told_by faults rose disk status file IsDone None is tt
retrieved_caused {R} tells faults rose disk name query done got.NoSuchVariable status file is ends failed = told_by faults rose disk status file NoSuchVariable None is tt
retrieved_caused {R} tells faults rose disk name query done (got.ReadFault None) status file is ends failed = told_by faults rose disk status file DiskFault None is (failed ends)
retrieved_caused {R} tells faults rose disk name query done (got.ReadFault (Some r)) status file is ends failed = told_by faults rose disk status file DiskFault (Some r) is (some_is (faults r) ends)
retrieved_caused {R} tells faults rose disk name query done (got.Damaged bad at) status file is ends failed = told_by faults rose disk status file (Damaged bad at) None is tt
retrieved_caused {R} tells faults rose disk name query done got.SinkFault status file is ends failed = told_by faults rose disk status file SinkFault None is ends
retrieved_caused {R} tells faults rose disk name query done got.Spent status file is ends failed = absurd is
retrieved_caused {R} tells faults rose disk name query done got.Memory status file is ends failed = told_by faults rose disk status file OutOfMemory None is tt

-- the rule's headers are those of the format
pub reads_headers : (config : ConfigState) → ReadsHeaders (rule_of config)
reads_headers config message header is = by (info_of message) refl is
  where
    by : (r : Result PayloadInfo InfoFault) → info_of message ≡ r → header_by r ≡ Some header → (info : PayloadInfo) × (info_of message ≡ Ok info) × (info.ty ≡ header.ty) × (info.year ≡ header.year)
    by (Ok info) same h = let one : ◌≡◌ {A = Header} (record { ty = info.ty; year = info.year }) header = cc (h) in (info, same, ap (λ (x : Header). x.ty) one, ap (λ (x : Header). x.year) one)
    by (Err e) same h = absurd (cc (h))
