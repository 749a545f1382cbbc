-- What a pin's owner meets where files are told: the variable's row is there, and no piece that was opened is damaged.
use Rattle.std.proofs.Common.{◌≡◌, ◌⊎◌, inl, inr, ℕ, zero, suc, ◌+◌, List, [], ◌∷◌, ◌++◌, length, map, take, Bool, true, false, cond, Option, Some, None, refl, sym, ap, ◌∙◌, subst, arith, append_assoc}
use Rattle.std.specs.Prelude.{Contains, slice_get}
use Rattle.std.specs.List.{AllByRecursion, AllZip}
use Rattle.std.proofs.lemmas.List.{take_all}
use Rattle.pb_wire.specs.declared.payload.PayloadType.{PayloadType}
use Rattle.pb_messages.specs.declared.about.About.{About}
use Rattle.disk_model.specs.Files.{Name}
use Rattle.series_model.specs.declared.sample.Query.{Query}
use Rattle.series_model.specs.declared.sample.Sample.{Sample}
use Rattle.act_model.specs.declared.acts.Act.TheVariants.{OpenPiece, Pin}
use Rattle.act_model.specs.declared.acts.Answer.TheVariants.{NoSuchVariable, Piece, Pinned}
use Rattle.act_model.specs.Details.{details_refused}
use Rattle.act_model.specs.Growth.{Onward}
use Rattle.act_model.specs.History.{Done, Entry, Goes, Made, MadeOne, Runs}
use Rattle.act_model.specs.Limbo.{RowFile}
use Rattle.act_model.specs.Machine.{Machine, find_row, place, same_bytes}
use Rattle.act_model.specs.OpenPiece.{bytes_of}
use Rattle.act_model.specs.Outcome.{Acts, all_go, refused_at_once, refused, runs, faults_first, faults_between, faults_within, faults_removing, wants_memory, wants_memory_settled}
use Rattle.act_model.specs.Pin.{MakesPin, pins}
use Rattle.act_model.specs.Pinned.{AllKeep, IsOpenedAs}
use Rattle.act_model.specs.Reply.{Reply}
use Rattle.act_model.specs.Rows.{RowState}
use Rattle.act_model.specs.Sound.{IsSound}
use Rattle.act_model.specs.Step.{Step}
use Rattle.act_model.proofs.Histories.{cut_at, runs_onward, runs_sound, steps_at}
use Rattle.act_model.proofs.PinLaws.{opens_pinned}
use Rattle.act_model.proofs.StepOnward.{step_onward}
use Rattle.stream_merge.specs.Pieces.{NamedBytes}
use Rattle.stream_merge.specs.Reading.{AreReadAs, IsBadFor, IsDamaged, IsReadAs}
use Rattle.stream_merge.proofs.Reading.{none_bad}
use Rattle.retrieval_query.specs.declared.retrieved.Retrieved.{Retrieved}
use Rattle.retrieval_query.specs.declared.retrieved.Retrieved.TheVariants.{SinkFault}
use Rattle.retrieval_query.specs.Held.{keeps, openings-append, openings_others, IsOther}
use Rattle.retrieval_query.specs.Openings.{IsNamedAs, LeftOf, PieceTold, named, opening, openings}
use Rattle.retrieval_query.specs.Retrieving.{ReadsHeaders}
use Rattle.retrieval_query.proofs.Steps.{one_step}
use Rattle.retrieval_query.proofs.Whole.{writes_answer}

-- A ROW STAYS

-- the row of a number that was found
record FoundAt (p : RowState → Bool) (rows : List RowState) : Type 0 where
  pub at : ℕ
  pub row : RowState
  pub here : slice_get rows at ≡ Some row
  pub passes : p row ≡ true

one_further : (p : RowState → Bool) (row : RowState) (rows : List RowState) → FoundAt p rows → FoundAt p (row ∷ rows)
one_further p row rows f = record { at = suc f.at; row = f.row; here = f.here; passes = f.passes }

found_at : (p : RowState → Bool) (k : ℕ) (rows : List RowState) (i : ℕ) → place p k rows ≡ Some i → FoundAt p rows
found_at p k [] i is = absurd cc
found_at p k (row ∷ rows) i is = by_test (p row) refl is (λ later. found_at p (k + 1) rows i later)
  where
    by_test : (b : Bool) → p row ≡ b → cond b (Some k) (place p (k + 1) rows) ≡ Some i → (place p (k + 1) rows ≡ Some i → FoundAt p rows) → FoundAt p (row ∷ rows)
    by_test true passes is more = record { at = 0; row = row; here = refl; passes = passes }
    by_test false fails is more = one_further p row rows (more is)

is_found : (p : RowState → Bool) (k : ℕ) (rows : List RowState) (j : ℕ) (row : RowState) → slice_get rows j ≡ Some row → p row ≡ true → place p k rows ≡ None → ⊥
is_found p k [] j row here passes none = cc
is_found p k (r ∷ rows) zero row here passes none =
    let same : r ≡ row = cc in
    let test : p r ≡ true = ap p same ∙ passes in
    let some : place p k (r ∷ rows) ≡ Some k = rw test refl in
    cc
is_found p k (r ∷ rows) (suc j) row here passes none = by_test (p r) none (λ later. is_found p (k + 1) rows j row here passes later)
  where
    by_test : (b : Bool) → cond b (Some k) (place p (k + 1) rows) ≡ None → (place p (k + 1) rows ≡ None → ⊥) → ⊥
    by_test true none more = cc
    by_test false none more = more none

-- a name that a row has is found later too
row_stays : (old new : Machine) (name : List ℕ) (i : ℕ) → old.told ≡ true → Onward old new → find_row old name ≡ Some i → find_row new name ≡ None → ⊥
row_stays old new name i told on found none =
    let p : RowState → Bool = λ row. same_bytes row.name name in
    let at = found_at p 0 old.rows i found in
    let later = on.rows told at.at at.row at.here in
    is_found p 0 new.rows at.at later.0 later.1 (ap (λ (n : List ℕ). same_bytes n name) later.2.name ∙ at.passes) none

unknown : (name : List ℕ) (m : Machine) → details_refused name m ≡ Some NoSuchVariable → find_row m name ≡ None
unknown name m is = by_name (find_row m name) refl
  where
    by_name : (o : Option ℕ) → find_row m name ≡ o → find_row m name ≡ None
    by_name (Some i) found = absurd (let bad = rw found at is in cc)
    by_name None none = none

-- a pin is refused for an unknown name alone
pin_unknown : (who : ℕ) (name : List ℕ) (query : Query) {old new : Machine} {reply : Reply} → Acts (details_refused name) (MakesPin who name query) (λ m. None) all_go old reply new → reply ≡ NoSuchVariable → (find_row old name ≡ None) ⊎ (find_row new name ≡ None)
pin_unknown who name query {old} (refused_at_once answer p) is = inl (unknown name old (p ∙ ap (λ (r : Reply). Some r) is))
pin_unknown who name query {old} {new} (refused {mid = mid} answer p settles q same more) is =
    inr (ap (λ (rows : List RowState). place (λ row. same_bytes row.name name) 0 rows) (ap (λ (m : Machine). m.rows) same) ∙ unknown name mid (q ∙ ap (λ (r : Reply). Some r) is))
pin_unknown who name query (runs answer p settles q (pins i row pin pieces found here free least listed order gives few same) more) is = absurd cc
pin_unknown who name query (faults_first p same rose) is = absurd cc
pin_unknown who name query (faults_between p settles same rose) is = absurd cc
pin_unknown who name query (faults_within doubted p settles q r same rose) is = absurd cc
pin_unknown who name query (faults_removing done gone p settles q ran rose) is = absurd cc
pin_unknown who name query (wants_memory same more) is = absurd cc
pin_unknown who name query (wants_memory_settled p settles same more) is = absurd cc

-- PIECES

-- a piece among those that were told, and those before it
record ToldAt (told : List PieceTold) (n : NamedBytes) : Type 0 where
  pub front : List PieceTold
  pub p : PieceTold
  pub back : List PieceTold
  pub is : told ≡ front ++ p ∷ back
  pub named_as : named p ≡ n

told_at : (told : List PieceTold) (n : NamedBytes) → Contains (map named told) n → ToldAt told n
told_at [] n (k, low, is) = absurd (omega (arith, low))
told_at (p ∷ told) n (zero, low, is) = record { front = []; p = p; back = told; is = refl; named_as = is }
told_at (p ∷ told) n (suc k, low, is) =
    let more = told_at told n (k, omega (arith, low), is) in
    record { front = p ∷ more.front; p = more.p; back = more.back; is = ap (λ (l : List PieceTold). p ∷ l) more.is; named_as = more.named_as }

-- the file at a place is read as some samples
file_read : (rows : List RowState) (ty : PayloadType) (fs : List RowFile) (ps : List NamedBytes) (lists : List (List Sample)) (i : ℕ) (f : RowFile) → AllZip (IsNamedAs rows) fs ps → AreReadAs ty ps lists → slice_get fs i ≡ Some f → (xs : List Sample) × IsReadAs ty (bytes_of f) xs
file_read rows ty [] ps lists i f all read here = absurd cc
file_read rows ty (g ∷ fs) [] lists i f all read here = absurd all
file_read rows ty (g ∷ fs) (p ∷ ps) [] i f all read here = absurd read
file_read rows ty (g ∷ fs) (p ∷ ps) (xs ∷ lists) zero f all read here =
    let same : g ≡ f = cc in
    (xs, subst (λ (b : List ℕ). IsReadAs ty b xs) (ap (λ (n : NamedBytes). n.bytes) all.0.is ∙ ap bytes_of same) read.0)
file_read rows ty (g ∷ fs) (p ∷ ps) (xs ∷ lists) (suc i) f all read here = file_read rows ty fs ps lists i f all.1 read.1 here

module _ {A : Type 0} (number : A → ℕ) (between : A → List Entry → A → Type 0) (stands : A → Machine → Type 0)
    (legal : (a b : A) (entries : List Entry) (m : Machine) → between a entries b → stands a m → Goes (stands b) m entries) (sound : (a : A) (m : Machine) → stands a m → IsSound m) where
  -- where a row has the name, no pin is refused for it
  pub never_unknown : (old new : A) (name : List ℕ) (query : Query) (m : Machine) (i : ℕ) → stands old m → m.told ≡ true → find_row m name ≡ Some i → MadeOne number between old (Pin name query) NoSuchVariable new → ⊥
  never_unknown old new name query m i is told found made =
      let s = one_step number between stands legal old new (Pin name query) NoSuchVariable m is made in
      let to = runs_onward s.before_it m s.at (sound old m is) s.to in
      let good = runs_sound s.before_it m s.at (sound old m is) s.to in
      let at_told : s.at.told ≡ true = to.told ∙ told in
      let at_row = known s.at (row_stays m s.at name i told to found) in
      by_place s.at s.after at_row (row_stays s.at s.after name at_row.0 at_told (step_onward (number old) (Pin name query) s.at s.after NoSuchVariable good tt s.step) at_row.1) (pin_unknown (number old) name query s.step refl)
    where
      known : (n : Machine) → (find_row n name ≡ None → ⊥) → (j : ℕ) × (find_row n name ≡ Some j)
      known n some = by_name (find_row n name) refl
        where
          by_name : (o : Option ℕ) → find_row n name ≡ o → (j : ℕ) × (find_row n name ≡ Some j)
          by_name (Some j) here = (j, here)
          by_name None none = absurd (some none)

      by_place : (at after : Machine) → (j : ℕ) × (find_row at name ≡ Some j) → (find_row after name ≡ None → ⊥) → (find_row at name ≡ None) ⊎ (find_row after name ≡ None) → ⊥
      by_place at after here later (inl none) = let both : None ≡ Some here.0 = sym none ∙ here.1 in cc
      by_place at after here later (inr none) = later none

  -- the piece of a pin that was told has the bytes of its file
  opened_as : (a b : A) (pin count : ℕ) (ps : List NamedBytes) (front : List PieceTold) (p : PieceTold) (back : List Done) (l : LeftOf number stands a pin 0 count ps) → Made number between a (openings pin 0 front ++ opening pin (0 + length front) p ∷ back) b
      → (m : Machine) × IsOpenedAs m l.holds.state (0 + length front) p.reader p.name p.head_len p.len
  opened_as a b pin count ps front p back l made =
      let h = l.holds in
      let cut = cut_at (number a) made.entries (openings pin 0 front) back (opening pin (0 + length front) p) made.just_these in
      let goes = legal a b made.entries h.m made.leads h.stands_for in
      let at = steps_at cut.front cut.back cut.entry h.m goes.after (subst (λ (es : List Entry). Runs h.m es goes.after) cut.is goes.runs) in
      let step : Step cut.entry.who (OpenPiece pin (0 + length front)) at.at (Piece p.reader p.name p.head_len p.len) at.after = subst (λ (d : Done). Step cut.entry.who d.act at.at d.answer at.after) cut.done at.step in
      let others = subst (λ (ds : List Done). AllByRecursion (IsOther pin) ds) (sym cut.front_is) (openings_others pin pin 0 front) in
      let keep : AllKeep h.state.owner pin cut.front = subst (λ (n : ℕ). AllKeep n pin cut.front) (sym h.owner) (keeps (number a) pin cut.front others) in
      (at.at, opens_pinned pin (0 + length front) h.state cut.front h.m at.at at.after l.told (sound a h.m h.stands_for) at.to keep h.there cut.entry.who p.reader p.name p.head_len p.len step)

  none_damaged : (a b : A) (pin count : ℕ) (ty : PayloadType) (ps : List NamedBytes) (lists : List (List Sample)) (told : List PieceTold) (failed : List Done) (name : Name) (at : ℕ) → LeftOf number stands a pin 0 count ps → AreReadAs ty ps lists
      → Made number between a (openings pin 0 told ++ failed) b → IsDamaged ty (map named told) name at → ⊥
  none_damaged a b pin count ty ps lists told failed name at l read made bad =
      let t = told_at told bad.piece bad.among in
      let parts : openings pin 0 told ++ failed ≡ openings pin 0 t.front ++ opening pin (0 + length t.front) t.p ∷ (openings pin (0 + length t.front + 1) t.back ++ failed) =
      ap (λ (ts : List PieceTold). openings pin 0 ts ++ failed) t.is ∙ (ap (λ (ds : List Done). ds ++ failed) (openings-append pin 0 t.front (t.p ∷ t.back)) ∙ append_assoc (openings pin 0 t.front) (openings pin (0 + length t.front) (t.p ∷ t.back)) failed) in
      let opened = opened_as a b pin count ps t.front t.p (openings pin (0 + length t.front + 1) t.back ++ failed) l (subst (λ (ds : List Done). Made number between a ds b) parts made) in
      let o = opened.1 in
      let has = file_read l.holds.m.rows ty l.holds.state.pieces ps lists (0 + length t.front) o.piece l.rest read o.at in
      let bytes : bad.piece.bytes ≡ bytes_of o.piece =
      ap (λ (n : NamedBytes). n.bytes) (sym t.named_as) ∙ (ap (λ (k : ℕ). take k t.p.reader.bytes) o.shows.len_is ∙ (ap (λ (bs : List ℕ). take (length (bytes_of o.piece)) bs) o.shows.bytes ∙ take_all (length (bytes_of o.piece)) (bytes_of o.piece) (omega arith))) in
      none_bad ty (bytes_of o.piece) has.1.head has.1.info has.0 at has.1.file has.1.type (subst (λ (bs : List ℕ). IsBadFor ty bs at) bytes bad.bad)

  module _ (joined : (a b c : A) (xs ys : List Entry) → between a xs b → between b ys c → between a (xs ++ ys) c) (number_stays : (a b : A) (entries : List Entry) → between a entries b → number b ≡ number a) (nothing : (a : A) → between a [] a) where
    -- Where a pin was made from a state whose files are told, what was opened of it isn't damaged. That its pieces are files of the type is
    -- what an answer over them is told for: here for one of which nothing is to be written.
    pub undamaged : (old pinned stopped : A) (name : List ℕ) (query : Query) (pin : ℕ) (name_told : List ℕ) (about : About) (count : ℕ) (tail : List Sample) (m : Machine) (told : List PieceTold) (failed : List Done) (file : Name) (at : ℕ)
        → MadeOne number between old (Pin name query) (Pinned pin name_told about count tail) pinned → stands old m → m.told ≡ true → ReadsHeaders m.rule
        → Made number between pinned (openings pin 0 told ++ failed) stopped → IsDamaged about.ty (map named told) file at → ⊥
    undamaged old pinned stopped name query pin name_told about count tail m told failed file at made_pin is telling headers made bad =
        let end : Retrieved (Unit {0}) = SinkFault in
        (writes_answer number between stands legal sound joined number_stays old pinned name query pin name_told about count tail made_pin m is telling headers
        {O = Unit {0}} (λ _ _ _ _. ⊥) (λ _ _ _ _. ⊥) tt tt end pinned [] (nothing pinned)
        (λ ps lists left read rising events. none_damaged pinned stopped pin count about.ty ps lists told failed file at left read made bad)).writes
