-- What a call came to, by cases of its answer.
use Rattle.std.proofs.Common.{◌≡◌, ◌⊎◌, ℕ, ◌+◌, ◌≤◌, ◌<◌, inl, inr, Bool, List, [], ◌∷◌, ◌++◌, Option, None, Some, IsTrue, length, take, drop, refl, sym, ap, ◌∙◌, subst}
use Rattle.disk_model.specs.Files.{Name, Rose}
use Rattle.pb_wire.specs.declared.payload.PayloadType.{PayloadType}
use Rattle.series_model.specs.declared.sample.Query.{Query}
use Rattle.series_model.specs.declared.sample.Sample.{Sample}
use Rattle.pb_lines.specs.File.{HasNoHeader}
use Rattle.pb_file.specs.declared.search.SearchErr.{SearchErr}
use Rattle.pb_file.specs.declared.search.SearchErr.TheVariants as search_err
use Rattle.pb_file.specs.declared.walk.Walked.{Walked}
use Rattle.pb_file.specs.declared.walk.Walked.TheVariants as walked
use Rattle.stream_merge.specs.declared.pieces.Merged.{Merged}
use Rattle.stream_merge.specs.declared.pieces.Merged.TheVariants.{Line, End, ReadFault, Damaged, Spent, Memory}
use Rattle.stream_merge.specs.declared.source.OpenPiece.{OpenPiece}
use Rattle.stream_merge.specs.declared.source.SampleSource.{SampleSource}
use Rattle.stream_merge.specs.Pieces.{NamedBytes}
use Rattle.stream_merge.specs.Reading.{AreSamplesOf, IsBadFor, IsDamaged, IsSampleOf}
use Rattle.stream_merge.specs.Beginning.{TellsAs}
use Rattle.stream_merge.specs.Source.{CameOfOpen, CameOfPull, ClosesAs, Grew, HasRisen, IsGiven, IsOfTail, IsReady, Passes, Pulls, ReadsLine, RefusesAs, StopsAs, TakesFew, open_pieces, unread}
use Rattle.stream_merge.specs.Reads.{PullsNext}
use Rattle.stream_merge.proofs.Giving.{damaged_back, failed_since}
use Rattle.stream_merge.proofs.Coming.{damaged_in, damaged_one, failed_first, failed_open, grew_since, less_open, none_left, tail_event, tail_less}

grew_none : {R : Type 0} (faults : R → ℕ) (o : Option (OpenPiece R)) → Grew faults o None
grew_none {R} faults None = tt
grew_none {R} faults (Some p) = tt

module _ {R : Type 0} (tells : Bool) (bytes : R → List ℕ) (faults : R → ℕ) where
  -- THE OPEN PIECE

  pub came_stop : (ty : PayloadType) (old new : Option (OpenPiece R)) (line : List ℕ) (r : Merged R) → ((t : ℕ) → r ≡ Line t → ⊥) → (r ≡ End → new ≡ None) → ((failed : Option R) → r ≡ ReadFault failed → HasRisen faults old failed)
      → (IsTrue tells → (name : Name) (at : ℕ) → r ≡ Damaged name at → IsDamaged ty (open_pieces bytes old) name at) → (r ≡ Spent → ⊥) → CameOfOpen tells bytes faults ty old new line r
  came_stop ty old new line (Line t) none end fails damaged never = absurd (none t refl)
  came_stop ty old new line End none end fails damaged never = end refl
  came_stop ty old new line (ReadFault failed) none end fails damaged never = fails failed refl
  came_stop ty old new line (Damaged name at) none end fails damaged never = λ told. damaged told name at refl
  came_stop ty old new line Spent none end fails damaged never = absurd (never refl)
  came_stop ty old new line Memory none end fails damaged never = tt

  pub stays_of : (ty : PayloadType) (old new : Option (OpenPiece R)) (line : List ℕ) (r : Merged R) → CameOfOpen tells bytes faults ty old new line r → IsTrue tells → (t : ℕ) → r ≡ Line t → open_pieces bytes new ≡ open_pieces bytes old
  stays_of ty old new line r came told t is =
      let Q : Merged R → Type 0 = λ x. CameOfOpen tells bytes faults ty old new line x in
      let read : ReadsLine tells bytes faults ty old new (record { t = t; line = line }) = subst Q is came in
      read.stays told

  -- so it is of the source
  pub came_open : (before now : ℕ) (first s : SampleSource R) (o : Option (OpenPiece R)) (line : List ℕ) (r : Merged R) → s.ty ≡ first.ty → (now < before) ⊎ (s.piece ≡ first.piece) → unread now s ≤ unread before first → CameOfOpen tells bytes faults s.ty s.piece o line r → (r ≡ End → ⊥)
      → CameOfPull tells bytes faults before now first (record s { piece = o }) line r
  came_open before now first s o line (Line t) same since low came more =
      let T : PayloadType → Type 0 = λ y. IsSampleOf y (record { t = t; line = line }) in
      record {
        ready = came.ready;
        event = subst T same came.event;
        grew = grew_since faults first.piece s.piece o (now < before) came.grew since;
        smaller = less_open now (unread before first) s (record s { piece = o }) refl came.smaller low;
      }
  came_open before now first s o line End same since low came more = absurd (more refl)
  came_open before now first s o line r same since low came more = tt

  pub stops_open : (left all : List NamedBytes → Type 0) (opened risen spent : Type 0) (ty own : PayloadType) (first s o : Option (OpenPiece R)) (line : List ℕ) (r : Merged R) → own ≡ ty → opened ⊎ (s ≡ first) → (IsTrue tells → (ps : List NamedBytes) → all ps → Passes bytes left (open_pieces bytes first ++ ps) s)
      → CameOfOpen tells bytes faults own s o line r → StopsAs tells bytes faults ty first all opened risen spent r
  stops_open left all opened risen spent ty own first s o line (ReadFault failed) same since opens came = failed_open faults first s opened risen failed since came
  stops_open left all opened risen spent ty own first s o line (Damaged name at) same since opens came = λ told ps is.
      let p = opens told ps is in
      let Q : PayloadType → Type 0 = λ y. IsDamaged y (open_pieces bytes first ++ ps) name at in
      subst Q same (damaged_in own (open_pieces bytes first ++ ps) p.passed (open_pieces bytes s) p.rest name at p.are (came told))
  stops_open left all opened risen spent ty own first s o line Spent same since opens came = absurd came
  stops_open left all opened risen spent ty own first s o line r same since opens came = tt

  -- THE TAIL

  pub came_tail : (before was now : ℕ) (first s new last : SampleSource R) (line : List ℕ) (r : Merged R) → AreSamplesOf first.ty new.tail.items → new ≡ record s { piece = new.piece } → new.piece ≡ None → last ≡ record new { at = last.at } → now ≡ was → unread was s ≤ unread before first
      → ((t : ℕ) → r ≡ Line t → drop new.at new.tail.items ≡ record { t = t; line = line } ∷ drop last.at last.tail.items) → (r ≡ End → (drop new.at new.tail.items ≡ []) × (last ≡ new))
      → ((t : ℕ) → r ≡ Line t → length (drop last.at last.tail.items) < length (drop new.at new.tail.items)) → CameOfPull tells bytes faults before now first last line r
  came_tail before was now first s new last line (Line t) samples same none after count low gives end less =
      let x : Sample = record { t = t; line = line } in
      let gone : last.piece ≡ None = ap (λ (v : SampleSource R). v.piece) after ∙ none in
      let G : Option (OpenPiece R) → Type 0 = λ o. IsReady tells bytes last.ty o × Grew faults first.piece o in
      let both = subst G (sym gone) (tt, grew_none faults first.piece) in
      record {
        ready = both.0;
        event = tail_event first.ty new.at new.tail.items (drop last.at last.tail.items) x samples (gives t refl);
        grew = inr both.1;
        smaller = tail_less was now (unread before first) s new last same gone count low (less t refl);
      }
  came_tail before was now first s new last line End samples same none after count low gives end less =
      let G : Option (OpenPiece R) → Type 0 = λ o. IsReady tells bytes last.ty o in
      record { ready = subst G (sym (ap (λ (v : SampleSource R). v.piece) after ∙ none)) tt; no_more = none_left was now (unread before first) s new last same none (end refl).1 count low }
  came_tail before was now first s new last line r samples same none after count low gives end less = tt

  pub stops_tail : (ty : PayloadType) (first : Option (OpenPiece R)) (all : List NamedBytes → Type 0) (opened risen spent : Type 0) (r : Merged R) → IsOfTail r → StopsAs tells bytes faults ty first all opened risen spent r
  stops_tail ty first all opened risen spent (ReadFault failed) of_tail = absurd of_tail
  stops_tail ty first all opened risen spent (Damaged name at) of_tail = absurd of_tail
  stops_tail ty first all opened risen spent Spent of_tail = absurd of_tail
  stops_tail ty first all opened risen spent r of_tail = tt

  pub stops_given : (ty : PayloadType) (first : Option (OpenPiece R)) (all : List NamedBytes → Type 0) (opened risen spent : Type 0) (r : Merged R) → IsGiven r → StopsAs tells bytes faults ty first all opened risen spent r
  stops_given ty first all opened risen spent (ReadFault failed) given = absurd given
  stops_given ty first all opened risen spent (Damaged name at) given = absurd given
  stops_given ty first all opened risen spent Spent given = absurd given
  stops_given ty first all opened risen spent r given = tt

  -- behind what the merge read before
  pub stops_since : (first now : Option (OpenPiece R)) (ty own : PayloadType) (all mid : List NamedBytes → Type 0) (opened opened₂ risen risen₂ spent : Type 0) (r : Merged R) → (opened → opened₂) → (risen → risen₂) → opened₂ ⊎ Grew faults first now → own ≡ ty
      → (IsTrue tells → (ps : List NamedBytes) → all ps → Passes bytes mid (open_pieces bytes first ++ ps) now) → StopsAs tells bytes faults own now mid opened risen spent r → StopsAs tells bytes faults ty first all opened₂ risen₂ spent r
  stops_since first now ty own all mid opened opened₂ risen risen₂ spent (ReadFault failed) more rises since same opens stops = failed_since faults first now opened opened₂ risen risen₂ failed more rises since stops
  stops_since first now ty own all mid opened opened₂ risen risen₂ spent (Damaged name at) more rises since same opens stops = λ told ps is.
      let p = opens told ps is in
      damaged_back own ty (open_pieces bytes first ++ ps) p.passed (open_pieces bytes now ++ p.rest) name at same p.are (stops told p.rest p.left_is)
  stops_since first now ty own all mid opened opened₂ risen risen₂ spent Spent more rises since same opens stops = stops
  stops_since first now ty own all mid opened opened₂ risen risen₂ spent r more rises since same opens stops = tt

  -- A PIECE THAT ISN'T OPENED

  module _ (ty : PayloadType) (name : Name) (len : ℕ) (reader : R) where
    pub closed_refused : (p : OpenPiece R) (w : Walked) (r : Merged R) → p.name ≡ name → (w ≡ walked.End → ⊥) → (w ≡ walked.ReadFault → Rose 0 (faults p.reader)) → (IsTrue tells → (at : ℕ) → w ≡ walked.Damaged at → IsBadFor ty (take len (bytes reader)) at) → ClosesAs p w r
        → RefusesAs tells bytes faults ty name len reader r
    closed_refused p walked.Header r named more fails bad closes = absurd closes
    closed_refused p (walked.Sample t) r named more fails bad closes = absurd closes
    closed_refused p walked.End r named more fails bad closes = absurd (more refl)
    closed_refused p (walked.Damaged at) r named more fails bad closes = subst (RefusesAs tells bytes faults ty name len reader) (sym closes) (λ told. (named, bad told at refl))
    closed_refused p walked.ReadFault r named more fails bad closes = subst (RefusesAs tells bytes faults ty name len reader) (sym closes) (fails refl)
    closed_refused p walked.Memory r named more fails bad closes = subst (RefusesAs tells bytes faults ty name len reader) (sym closes) tt

    pub told_refused : (p : OpenPiece R) (e : SearchErr) (r : Merged R) → p.name ≡ name → (e ≡ search_err.ReadFault → Rose 0 (faults p.reader)) → (IsTrue tells → (at : ℕ) → e ≡ search_err.Damaged at → (at ≡ 0) × HasNoHeader (take len (bytes reader))) → TellsAs p e r
        → RefusesAs tells bytes faults ty name len reader r
    told_refused p search_err.ReadFault r named fails none tells_as = subst (RefusesAs tells bytes faults ty name len reader) (sym tells_as) (fails refl)
    told_refused p (search_err.Damaged at) r named fails none tells_as = subst (RefusesAs tells bytes faults ty name len reader) (sym tells_as) (λ told. let bad = none told at refl in (named, inl (bad.0, inl bad.1)))
    told_refused p search_err.Memory r named fails none tells_as = subst (RefusesAs tells bytes faults ty name len reader) (sym tells_as) tt

    -- so it is of the source
    pub came_refused : (before now : ℕ) (old new : SampleSource R) (line : List ℕ) (r : Merged R) → RefusesAs tells bytes faults ty name len reader r → CameOfPull tells bytes faults before now old new line r
    came_refused before now old new line (Line t) why = absurd why
    came_refused before now old new line End why = absurd why
    came_refused before now old new line r why = tt

    pub pulls_refused : (left : List NamedBytes → Type 0) (n : ℕ) (q : Query) (ps : List NamedBytes) (xs : List Sample) (room : ℕ) (s : SampleSource R) (line : List ℕ) (steps : ℕ) (r : Merged R) → RefusesAs tells bytes faults ty name len reader r → TakesFew left ps (room + 1) steps → Pulls bytes left n q ps xs room s line steps r
    pulls_refused left n q ps xs room s line steps (Line t) why few = absurd why
    pulls_refused left n q ps xs room s line steps End why few = absurd why
    pulls_refused left n q ps xs room s line steps r why few = few

    pub reads_refused : {P : Type 0} (opened : P → List NamedBytes → P → Type 0) (a b : P) (ps : List NamedBytes) (left : ℕ) (s : SampleSource R) (read : List Sample) (line : List ℕ) (r : Merged R) → RefusesAs tells bytes faults ty name len reader r → PullsNext bytes opened a ps b left read s line r
    reads_refused {P} opened a b ps left s read line (Line t) why = absurd why
    reads_refused {P} opened a b ps left s read line End why = absurd why
    reads_refused {P} opened a b ps left s read line r why = tt

    pub stops_refused : (first : Option (OpenPiece R)) (all : List NamedBytes → Type 0) (opened risen spent : Type 0) (r : Merged R) → opened
        → (IsTrue tells → (ps : List NamedBytes) → all ps → (front rest : List NamedBytes) × (open_pieces bytes first ++ ps ≡ front ++ record { name = name; bytes = take len (bytes reader) } ∷ rest)) → RefusesAs tells bytes faults ty name len reader r
        → StopsAs tells bytes faults ty first all opened risen spent r
    stops_refused first all opened risen spent (ReadFault failed) was among why = failed_first faults first opened risen failed was why
    stops_refused first all opened risen spent (Damaged found at) was among why = λ told ps is.
        let n : NamedBytes = record { name = name; bytes = take len (bytes reader) } in
        let p = among told ps is in
        damaged_in ty (open_pieces bytes first ++ ps) p.0 (n ∷ []) p.1 found at p.2 (damaged_one ty n found at (why told).0 (why told).1)
    stops_refused first all opened risen spent Spent was among why = absurd why
    stops_refused first all opened risen spent r was among why = tt
