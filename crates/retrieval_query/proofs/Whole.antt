-- What a retrieval reads of its pin's pieces, where these are told, is what was pinned: so it is the answer over all that was accepted.
use Rattle.std.proofs.Common.{◌≡◌, ℕ, ℤ, ◌<◌, ◌^◌, List, [], ◌∷◌, ◌++◌, Bool, true, false, cond, Option, Some, None, refl, sym, ap, ◌∙◌, subst, zero-add, zero-le, append_assoc}
use Rattle.std.specs.Prelude.{slice_get, map, filter}
use Rattle.std.specs.List.{AllByRecursion, AllZip}
use Rattle.pb_wire.specs.declared.payload.PayloadType.{PayloadType}
use Rattle.pb_messages.specs.declared.about.About.{About}
use Rattle.series_model.specs.declared.sample.Query.{Query}
use Rattle.series_model.specs.declared.sample.Sample.{Sample}
use Rattle.series_model.specs.Series.{IsRising, over, since, before, end_of}
use Rattle.series_model.specs.Retrieval.{answer, last_of, within}
use Rattle.series_model.proofs.RisingLists.{RisesFrom-lower}
use Rattle.pb_lines.specs.File.{IsFile, IsSample, AreSamples, lines_of}
use Rattle.act_model.specs.declared.acts.Act.TheVariants.{Pin}
use Rattle.act_model.specs.declared.acts.Answer.TheVariants.{Pinned}
use Rattle.act_model.specs.Event.{AreEvents}
use Rattle.act_model.specs.Files.{IsFileOf, IsEventIn}
use Rattle.act_model.specs.Growth.{Onward}
use Rattle.act_model.specs.History.{Entry, MadeOne, Goes, own}
use Rattle.act_model.specs.Limbo.{RowFile}
use Rattle.act_model.specs.Machine.{Machine}
use Rattle.act_model.specs.OpenPiece.{bytes_of, name_of}
use Rattle.act_model.specs.OpenPiece.{lines_of as piece_lines}
use Rattle.act_model.specs.Out.{Subject}
use Rattle.act_model.specs.Pin.{over_pieces}
use Rattle.act_model.specs.Pinned.{IsPinMade, PinStands}
use Rattle.act_model.specs.Rows.{RowState, accepted}
use Rattle.act_model.specs.Rule.{Rule}
use Rattle.act_model.specs.Whole.{whole}
use Rattle.act_model.specs.Sound.{IsSound, PieceSound}
use Rattle.act_model.proofs.Histories.{runs_onward, runs_append}
use Rattle.act_model.proofs.Onward.{onward_trans}
use Rattle.act_model.proofs.StepOnward.{step_onward}
use Rattle.act_model.proofs.PinLaws.{pin_stands_beside}
use Rattle.act_model.proofs.Rows.{there_is_row}
use Rattle.act_model.proofs.Histories.{runs_sound}
use Rattle.stream_merge.specs.Pieces.{NamedBytes}
use Rattle.stream_merge.specs.Reading.{AreReadAs, IsReadAs}
use Rattle.stream_merge.specs.Over.{over_all, over_each}
use Rattle.stream_merge.proofs.Reading.{read_as}
use Rattle.retrieval_query.specs.declared.retrieved.Retrieved.{Retrieved}
use Rattle.retrieval_query.specs.Openings.{LeftOf, IsNamedAs}
use Rattle.retrieval_query.specs.Retrieving.{ReadsHeaders, Writes, WritesAnswer}
use Rattle.retrieval_query.proofs.Steps.{OneStep, one_step}
use Rattle.retrieval_query.proofs.Pinning.{pin_made, sound_after}

-- FILES

lines_same : (xs : List Sample) → piece_lines xs ≡ lines_of xs
lines_same [] = refl
lines_same (s ∷ xs) = ap (λ (l : List ℕ). s.line ++ 10 ∷ l) (lines_same xs)

samples_of : (ty : PayloadType) (year : ℤ) (xs : List Sample) → AllByRecursion (IsEventIn ty year) xs → AreSamples ty year xs
samples_of ty year [] all = tt
samples_of ty year (s ∷ xs) all = (one (all.0), samples_of ty year xs all.1)
  where
    one : IsEventIn ty year s → IsSample ty year s
    one e = subst (λ (y : ℤ). IsSample ty y s) e.year_is (record {
      whole = e.event.whole;
      meant = record { secs = e.event.secs; nano = e.event.nano; stamp = (e.event.message, e.event.means, e.event.stamp); sample_year = e.event.sample_year; in_year = e.event.in_year; at = e.event.at };
    })

file_of : (rule : Rule) (row : RowState) (f : RowFile) → ReadsHeaders rule → IsFileOf rule row f → IsReadAs row.about.ty (bytes_of f) f.samples
file_of rule row f reads o =
    let h = reads o.message o.header o.says in
    let lines : AreSamples h.0.ty h.0.year f.samples = subst (λ (t : PayloadType). AreSamples t h.0.year f.samples) (sym h.2) (subst (λ (y : ℤ). AreSamples o.header.ty y f.samples) (sym h.3) (samples_of o.header.ty o.header.year f.samples o.lines)) in
    let file : IsFile (bytes_of f) f.head h.0 f.samples = record { whole = o.whole; header = (o.message, o.means, h.1); lines = lines; rising = o.rising; text = ap (λ (l : List ℕ). f.head ++ 10 ∷ l) (lines_same f.samples) } in
    read_as row.about.ty (bytes_of f) f.head h.0 f.samples file (h.2 ∙ o.ty)

-- EVENTS

events_append : (ty : PayloadType) (xs ys : List Sample) → AreEvents ty xs → AreEvents ty ys → AreEvents ty (xs ++ ys)
events_append ty [] ys a b = b
events_append ty (x ∷ xs) ys a b = (a.0, events_append ty xs ys a.1 b)

events_filter : (ty : PayloadType) (p : Sample → Bool) (xs : List Sample) → AreEvents ty xs → AreEvents ty (filter p xs)
events_filter ty p [] all = tt
events_filter ty p (x ∷ xs) all = by_test (p x) (events_filter ty p xs all.1)
  where
    by_test : (b : Bool) → AreEvents ty (filter p xs) → AreEvents ty (cond b (x ∷ filter p xs) (filter p xs))
    by_test true more = (all.0, more)
    by_test false more = more

events_last : (ty : PayloadType) (xs : List Sample) → AreEvents ty xs → AreEvents ty (last_of xs)
events_last ty [] all = tt
events_last ty (x ∷ []) all = all
events_last ty (x ∷ y ∷ xs) all = events_last ty (y ∷ xs) all.1

events_answer : (ty : PayloadType) (xs : List Sample) (q : Query) → AreEvents ty xs → AreEvents ty (answer xs q)
events_answer ty xs q all = events_append ty (last_of (before q.from xs)) (within q xs) (events_last ty (before q.from xs) (events_filter ty _ xs all)) (events_filter ty _ xs all)

events_over : (ty : PayloadType) (xs ys : List Sample) → AreEvents ty xs → AreEvents ty ys → AreEvents ty (over xs ys)
events_over ty xs ys a b = events_append ty xs (since (end_of xs) ys) a (events_filter ty _ ys b)

events_in : (ty : PayloadType) (year : ℤ) (xs : List Sample) → AllByRecursion (IsEventIn ty year) xs → AreEvents ty xs
events_in ty year [] all = tt
events_in ty year (x ∷ xs) all = (all.0.event, events_in ty year xs all.1)

events_pieces : (rule : Rule) (row : RowState) (xs : List Sample) (fs : List RowFile) → AreEvents row.about.ty xs → AllByRecursion (IsFileOf rule row) fs → AreEvents row.about.ty (over_pieces xs fs)
events_pieces rule row xs [] a all = a
events_pieces rule row xs (f ∷ fs) a all =
    let o = all.0 in
    let own_events : AreEvents row.about.ty f.samples = subst (λ (t : PayloadType). AreEvents t f.samples) o.ty (events_in o.header.ty o.header.year f.samples o.lines) in
    events_pieces rule row (over xs f.samples) fs (events_over row.about.ty xs f.samples a own_events) all.1

-- THE PIECES

abbrev pub samples_in : RowFile → List Sample
samples_in f = f.samples

over_same : (xs : List Sample) (fs : List RowFile) → over_each xs (map samples_in fs) ≡ over_pieces xs fs
over_same xs [] = refl
over_same xs (f ∷ fs) = over_same (over xs f.samples) fs

-- their names and bytes, which are read as their samples
record AreRead (rows : List RowState) (ty : PayloadType) (fs : List RowFile) : Type 0 where
  pub ps : List NamedBytes
  pub named_as : AllZip (IsNamedAs rows) fs ps
  pub read : AreReadAs ty ps (map samples_in fs)

are_read : (rule : Rule) (row : RowState) (rows : List RowState) (limbo fs : List RowFile) (place : Rule) → ReadsHeaders rule → AllByRecursion (PieceSound place rows limbo) fs → AllByRecursion (IsFileOf rule row) fs → AreRead rows row.about.ty fs
are_read rule row rows limbo [] place reads sound files = record { ps = []; named_as = tt; read = tt }
are_read rule row rows limbo (f ∷ fs) place reads sound files = by_row (slice_get rows f.row) refl (are_read rule row rows limbo fs place reads sound.1 files.1)
  where
    by_row : (o : Option RowState) → slice_get rows f.row ≡ o → AreRead rows row.about.ty fs → AreRead rows row.about.ty (f ∷ fs)
    by_row None none more = absurd (there_is_row rows f.row sound.0.here none)
    by_row (Some r) here more = record {
      ps = record { name = name_of r f; bytes = bytes_of f } ∷ more.ps;
      named_as = (record { row = r; here = here; whole = files.0.whole; is = refl }, more.named_as);
      read = (file_of rule row f reads files.0, more.read);
    }

-- THE WHOLE

module _ {A : Type 0} (number : A → ℕ) (between : A → List Entry → A → Type 0) (stands : A → Machine → Type 0)
    (legal : (a b : A) (entries : List Entry) (m : Machine) → between a entries b → stands a m → Goes (stands b) m entries) (sound : (a : A) (m : Machine) → stands a m → IsSound m)
    (joined : (a b c : A) (xs ys : List Entry) → between a xs b → between b ys c → between a (xs ++ ys) c) (number_stays : (a b : A) (entries : List Entry) → between a entries b → number b ≡ number a)
    (a b : A) (name : List ℕ) (query : Query) (pin : ℕ) (told_name : List ℕ) (about : About) (count : ℕ) (tail : List Sample) (made : MadeOne number between a (Pin name query) (Pinned pin told_name about count tail) b) (m : Machine) (is : stands a m)
    (told : m.told ≡ true) (reads : ReadsHeaders m.rule) where
  abbrev step : OneStep (stands b) m (number a) (Pin name query) (Pinned pin told_name about count tail) made.entries
  step = one_step number between stands legal a b (Pin name query) (Pinned pin told_name about count tail) m is made

  pin_is : IsPinMade (number a) name query pin told_name about count tail step.after
  pin_is = pin_made number between stands legal sound number_stays a b name query pin told_name about count tail made m is

  good : IsSound step.after
  good = sound_after number between stands legal sound number_stays a b name query pin told_name about count tail made m is

  on_to : Onward m step.after
  on_to = onward_trans m step.at step.after (runs_onward step.before_it m step.at (sound a m is) step.to) (step_onward (number a) (Pin name query) step.at step.after (Pinned pin told_name about count tail) (runs_sound step.before_it m step.at (sound a m is) step.to) tt step.step)

  still : PinStands pin pin_is.pin step.end
  still = pin_stands_beside pin pin_is.pin step.after_it step.after step.end good step.from (subst (λ (n : ℕ). own n step.after_it ≡ []) (sym pin_is.owner) step.none_after) pin_is.there

  on_end : Onward step.after step.end
  on_end = runs_onward step.after_it step.after step.end good step.from

  told_end : step.end.told ≡ true
  told_end = on_end.told ∙ (on_to.told ∙ told)

  rule_reads : ReadsHeaders step.after.rule
  rule_reads = subst (λ (r : Rule). ReadsHeaders r) (sym on_to.rule) reads

  files : AllByRecursion (IsFileOf step.after.rule pin_is.row) pin_is.pin.pieces
  files = pin_is.files (on_to.told ∙ told)

  read_of : AreRead step.end.rows pin_is.row.about.ty pin_is.pin.pieces
  read_of = are_read step.after.rule pin_is.row step.end.rows step.end.limbo pin_is.pin.pieces step.end.rule rule_reads (still.pieces told_end) files

  left_first : LeftOf number stands b pin 0 count read_of.ps
  left_first = record {
    holds = record {
      m = step.end;
      stands_for = step.stands_for;
      state = pin_is.pin;
      there = still.there;
      owner = pin_is.owner ∙ sym (number_stays a b made.entries made.leads);
      all = sym pin_is.number ∙ sym (zero-add count);
      few = subst (λ (n : ℕ). n < 2 ^ 32) (sym pin_is.number ∙ sym (zero-add count)) pin_is.few;
    };
    told = told_end;
    rest = read_of.named_as;
  }

  abbrev lists : List (List Sample)
  lists = map samples_in pin_is.pin.pieces

  rises : IsRising tail
  rises = subst (λ (xs : List Sample). IsRising xs) (sym pin_is.tail_is) (RisesFrom-lower 0 _ pin_is.row.tail (good.each_row pin_is.i pin_is.row pin_is.here).later zero-le)

  answers : answer (over_all lists tail) query ≡ answer (whole accepted step.after.rows pin_is.i) query
  answers = ap (λ (xs : List Sample). answer (over xs tail) query) (over_same [] pin_is.pin.pieces) ∙ pin_is.gives (on_to.told ∙ told)

  events : AreEvents pin_is.row.about.ty (answer (over_all lists tail) query)
  events =
      let tail_events : AreEvents pin_is.row.about.ty tail = subst (λ (xs : List Sample). AreEvents pin_is.row.about.ty xs) (sym pin_is.tail_is) (good.lines pin_is.i pin_is.row pin_is.here).tail in
      let all = events_over pin_is.row.about.ty (over_pieces [] pin_is.pin.pieces) tail (events_pieces step.after.rule pin_is.row [] pin_is.pin.pieces tt files) tail_events in
      events_answer pin_is.row.about.ty (over_all lists tail) query (subst (λ (xs : List Sample). AreEvents pin_is.row.about.ty (over xs tail)) (sym (over_same [] pin_is.pin.pieces)) all)

  pub writes_answer : {O R : Type 0} (finished broke : O → Subject → List Sample → O → Type 0) (out out_new : O) (result : Retrieved R) (c : A) (more : List Entry) → between b more c
      → ((ps : List NamedBytes) (lists : List (List Sample)) → LeftOf number stands b pin 0 count ps → AreReadAs about.ty ps lists → IsRising tail → AreEvents about.ty (answer (over_all lists tail) query)
      → Writes finished broke out (record { name = told_name; about = about; query = query }) (answer (over_all lists tail) query) result out_new)
      → WritesAnswer number between finished broke a m name query out result c out_new
  writes_answer finished broke out out_new result c more leads writes =
      let row = pin_is.row in
      let here : (about : About) → about ≡ row.about → (AreReadAs row.about.ty read_of.ps lists → AreReadAs about.ty read_of.ps lists) = λ k same. subst (λ (x : About). AreReadAs x.ty read_of.ps lists) (sym same) in
      let wrote = writes read_of.ps lists left_first (here about pin_is.about_is read_of.read) rises (subst (λ (x : About). AreEvents x.ty (answer (over_all lists tail) query)) (sym pin_is.about_is) events) in
      record {
        before_it = step.before_it;
        pin = step.entry;
        after_it = step.after_it ++ more;
        leads = subst (λ (es : List Entry). between a es c) (ap (λ (es : List Entry). es ++ more) step.is ∙ append_assoc step.before_it (step.entry ∷ step.after_it) more) (joined a b c made.entries more made.leads leads);
        first = step.none_before;
        by = step.by;
        act = step.act_is;
        pinned = step.after;
        runs = runs_append step.before_it (step.entry ∷ []) m step.at step.after step.to (step.asked, step.after, step.entry_step, refl);
        i = pin_is.i;
        row = row;
        found = pin_is.found;
        here = pin_is.here;
        writes = subst (λ (n : List ℕ). Writes finished broke out (record { name = n; about = row.about; query = query }) (answer (whole accepted step.after.rows pin_is.i) query) result out_new) pin_is.name_is
            (subst (λ (k : About). Writes finished broke out (record { name = told_name; about = k; query = query }) (answer (whole accepted step.after.rows pin_is.i) query) result out_new) pin_is.about_is (subst (λ (xs : List Sample). Writes finished broke out (record { name = told_name; about = about; query = query }) xs result out_new) answers wrote));
      }
