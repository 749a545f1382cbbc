-- What was read of the pieces, from one read to the next.
use Rattle.std.proofs.Common.{◌≡◌, ◌⊎◌, Bool, ℕ, ◌+◌, inl, inr, List, [], ◌∷◌, ◌++◌, Option, None, Some, IsTrue, length, take, drop, refl, sym, ap, ◌∙◌, subst, arith, append_assoc, append-nil}
use Rattle.std.specs.List.{flat_map}
use Rattle.std.proofs.lemmas.Grind.{flat_map-append}
use Rattle.std.proofs.lemmas.List.{length-take-le, take-append-drop, take-take, append_cancel_right}
use Rattle.std.proofs.Math.Seq.{take-length}
use Rattle.series_model.specs.declared.sample.Sample.{Sample}
use Rattle.pb_messages.specs.declared.info.PayloadInfo.{PayloadInfo}
use Rattle.pb_wire.specs.declared.payload.PayloadType.{PayloadType}
use Rattle.pb_file.specs.declared.walk.Walked.TheVariants as walked
use Rattle.pb_lines.specs.File.{IsFile}
use Rattle.pb_file.specs.Walk.{Walk, Front, with_sample}
use Rattle.pb_file.specs.Search.{IsLineStart}
use Rattle.pb_file.specs.Skip.{HasSkipped, GoesOnFrom, from_place}
use Rattle.pb_file.proofs.Walking.{one_info}
use Rattle.stream_merge.specs.declared.pieces.Merged.{Merged}
use Rattle.stream_merge.specs.declared.pieces.Merged.TheVariants.{Line, End, ReadFault, Damaged, Spent, Memory}
use Rattle.stream_merge.specs.declared.source.OpenPiece.{OpenPiece}
use Rattle.stream_merge.specs.declared.source.SampleSource.{SampleSource}
use Rattle.stream_merge.specs.Pieces.{NamedBytes}
use Rattle.stream_merge.specs.Beginning.{IsAtLine}
use Rattle.stream_merge.specs.Source.{open_pieces, IsBegun}
use Rattle.stream_merge.specs.Reads.{IsReadUpTo, IsReadToEnd, AreReadToEnd, HasReadOf, HasReadOpen, ReadsNext, HasRead, HasReadAll, ReadsOn, PullsNext}

abbrev pub flat : List (List Sample) → List Sample
flat lists = flat_map (λ (l : List Sample). l) lists

-- OF THE OPEN PIECE

-- its reading begins
pub unread_at : {R : Type 0} (tells : Bool) (bytes : R → List ℕ) (ty : PayloadType) (p : OpenPiece R) (head_len : ℕ) → IsTrue tells → IsBegun tells bytes ty p → IsAtLine head_len p.walk (bytes p.reader) → HasReadOf bytes ty p []
unread_at {R} tells bytes ty p head_len told b l =
    let L : ℕ → Type 0 = λ n. IsLineStart (take p.walk.len (bytes p.reader)) n p.walk.place in
    record {
      at = p.walk.place;
      front = record { head = l.head; info = l.info; samples = [] };
      rest = l.rest;
      skipped = l.skipped;
      text = l.text;
      long = b.bytes_are told;
      type = ap (λ (i : PayloadInfo). i.ty) (one_info p.walk.info l.info b.info l.skipped.header b.header) ∙ b.type;
      begins = subst L l.size l.begins;
      are = refl;
    }

pub none_open : {R : Type 0} (o : Option (OpenPiece R)) (p : OpenPiece R) → o ≡ Some p → o ≡ None → ⊥
none_open {R} o p is none = cc

-- so it was of the piece that is open
pub read_of : {R : Type 0} (bytes : R → List ℕ) (ty : PayloadType) (o : Option (OpenPiece R)) (p : OpenPiece R) (read : List Sample) → o ≡ Some p → HasReadOpen bytes ty o read → HasReadOf bytes ty p read
read_of {R} bytes ty o p read is now = let P : Option (OpenPiece R) → Type 0 = λ x. HasReadOpen bytes ty x read in subst P is now

-- its next line was read
pub one_read : {R : Type 0} (bytes : R → List ℕ) (ty : PayloadType) (p : OpenPiece R) (file : R) (new : Walk) (line : List ℕ) (t : ℕ) (read : List Sample) → new.len ≡ p.walk.len → bytes file ≡ bytes p.reader
    → ((at : ℕ) (front : Front) → HasSkipped p.walk (bytes p.reader) at front → GoesOnFrom at front (bytes p.reader) line (walked.Sample t) new)
    → HasReadOf bytes ty p read → HasReadOf bytes ty (record { reader = file; name = p.name; walk = new }) (read ++ record { t = t; line = line } ∷ [])
one_read {R} bytes ty p file new line t read len same skips h =
    let after = with_sample h.front t line in
    let H : List ℕ → Type 0 = λ l. HasSkipped new l h.at after in
    let T : List ℕ → Type 0 = λ l. take new.len l ≡ h.front.head ++ 10 ∷ h.rest in
    let U : ℕ → Type 0 = λ n. take n (bytes p.reader) ≡ h.front.head ++ 10 ∷ h.rest in
    let L : List ℕ → Type 0 = λ l. IsLineStart (take new.len l) (length h.front.head + 1) h.at in
    let M : ℕ → Type 0 = λ n. IsLineStart (take n (bytes p.reader)) (length h.front.head + 1) h.at in
    record {
      at = h.at;
      front = after;
      rest = h.rest;
      skipped = subst H (sym same) (skips h.at h.front h.skipped);
      text = subst T (sym same) (subst U (sym len) h.text);
      long = omega (arith, len, h.long, ap length same);
      type = h.type;
      begins = subst L (sym same) (subst M (sym len) h.begins);
      are = ap (λ (l : List Sample). l ++ record { t = t; line = line } ∷ []) h.are;
    }

-- the piece came to its end
pub end_is_read : {R : Type 0} (bytes : R → List ℕ) (ty : PayloadType) (p : OpenPiece R) (new : Walk) (line : List ℕ) (read : List Sample) → new.len ≡ p.walk.len → ((at : ℕ) (front : Front) → HasSkipped p.walk (bytes p.reader) at front → GoesOnFrom at front (bytes p.reader) line walked.End new)
    → HasReadOf bytes ty p read → IsReadToEnd ty (take p.walk.len (bytes p.reader)) read
end_is_read {R} bytes ty p new line read len skips h =
    let all = take p.walk.len (bytes p.reader) in
    let f = h.front in
    let N : ℕ → Type 0 = λ n. IsFile (from_place f.head h.at (take n (bytes p.reader))) f.head f.info f.samples in
    let A : List ℕ → Type 0 = λ l. IsFile (from_place f.head h.at l) f.head f.info f.samples in
    let S : List Sample → Type 0 = λ l. IsFile (from_place f.head h.at (take (length all) all)) f.head f.info l in
    record {
      head = f.head;
      rest = h.rest;
      info = f.info;
      start = h.at;
      text = h.text;
      type = h.type;
      begins = h.begins;
      order = omega (arith, h.skipped.begun, h.skipped.within, length-take-le p.walk.len (bytes p.reader) h.long);
      within = omega arith;
      lines = subst S h.are (subst A (sym (take-length all)) (subst N len (skips h.at f h.skipped)));
    }

-- up to where it stands
pub is_read_up_to : {R : Type 0} (bytes : R → List ℕ) (ty : PayloadType) (p : OpenPiece R) (read : List Sample) → HasReadOf bytes ty p read → IsReadUpTo ty (take p.walk.len (bytes p.reader)) read p.walk.place
is_read_up_to {R} bytes ty p read h =
    let all = take p.walk.len (bytes p.reader) in
    let f = h.front in
    let A : List ℕ → Type 0 = λ l. IsFile (from_place f.head h.at l) f.head f.info f.samples in
    let S : List Sample → Type 0 = λ l. IsFile (from_place f.head h.at (take p.walk.place all)) f.head f.info l in
    record {
      head = f.head;
      rest = h.rest;
      info = f.info;
      start = h.at;
      text = h.text;
      type = h.type;
      begins = h.begins;
      order = h.skipped.begun;
      within = omega (arith, h.skipped.within, length-take-le p.walk.len (bytes p.reader) h.long);
      lines = subst S h.are (subst A (sym (take-take p.walk.place p.walk.len (bytes p.reader) h.skipped.within)) h.skipped.read);
    }

-- what a read that gives no line comes to
pub next_none : {R : Type 0} (bytes : R → List ℕ) (ty : PayloadType) (old new : Option (OpenPiece R)) (read : List Sample) (line : List ℕ) (r : Merged R) → ((t : ℕ) → r ≡ Line t → ⊥) → (r ≡ End → ReadsNext bytes ty old new read line End) → ReadsNext bytes ty old new read line r
next_none {R} bytes ty old new read line (Line t) none end = absurd (none t refl)
next_none {R} bytes ty old new read line End none end = end refl
next_none {R} bytes ty old new read line (ReadFault failed) none end = tt
next_none {R} bytes ty old new read line (Damaged name at) none end = tt
next_none {R} bytes ty old new read line Spent none end = tt
next_none {R} bytes ty old new read line Memory none end = tt

-- the open piece was read to its end
pub end_of_open : {R : Type 0} (bytes : R → List ℕ) (ty : PayloadType) (o : Option (OpenPiece R)) (p : OpenPiece R) (read : List Sample) → o ≡ Some p → IsReadToEnd ty (take p.walk.len (bytes p.reader)) read → (lists : List (List Sample)) × AreReadToEnd ty (open_pieces bytes o) lists × (read ≡ flat lists)
end_of_open {R} bytes ty o p read is end =
    let P : Option (OpenPiece R) → Type 0 = λ x. AreReadToEnd ty (open_pieces bytes x) (read ∷ []) in
    (read ∷ [], subst P (sym is) (end, tt), sym (append-nil read))

-- OF ALL PIECES

zip_append : (ty : PayloadType) (ps qs : List NamedBytes) (xs ys : List (List Sample)) → AreReadToEnd ty ps xs → AreReadToEnd ty qs ys → AreReadToEnd ty (ps ++ qs) (xs ++ ys)
zip_append ty [] qs [] ys a b = b
zip_append ty [] qs (x ∷ xs) ys a b = absurd a
zip_append ty (p ∷ ps) qs [] ys a b = absurd a
zip_append ty (p ∷ ps) qs (x ∷ xs) ys a b = (a.0, zip_append ty ps qs xs ys a.1 b)

-- the open piece came to its end
pub read_ended : {R : Type 0} (bytes : R → List ℕ) (s : SampleSource R) (o : Option (OpenPiece R)) (left : ℕ) (ps : List NamedBytes) (read : List Sample) → o ≡ None → ((xs : List Sample) → HasReadOpen bytes s.ty s.piece xs → (lists : List (List Sample)) × AreReadToEnd s.ty (open_pieces bytes s.piece) lists × (xs ≡ flat lists))
    → HasRead bytes s left ps read → HasRead bytes (record s { piece = o }) left ps read
read_ended {R} bytes s o left ps read none end h =
    let closed = end h.here h.open_is in
    let O : Option (OpenPiece R) → Type 0 = λ x. HasReadOpen bytes s.ty x [] in
    let tail = take s.at s.tail.items in
    record {
      done = h.done ++ open_pieces bytes s.piece;
      lists = h.lists ++ closed.0;
      here = [];
      to_end = zip_append s.ty h.done (open_pieces bytes s.piece) h.lists closed.0 h.to_end closed.1;
      open_is = subst O (sym none) refl;
      are = h.are ∙ sym (append-nil (h.done ++ open_pieces bytes s.piece)) ∙ ap (λ (x : Option (OpenPiece R)). (h.done ++ open_pieces bytes s.piece) ++ open_pieces bytes x) (sym none);
      all = h.all ∙ ap (λ (l : List Sample). flat h.lists ++ (l ++ tail)) closed.2 ∙ sym (append_assoc (flat h.lists) (flat closed.0) tail) ∙ ap (λ (l : List Sample). l ++ tail) (sym (flat_map-append (λ (l : List Sample). l) h.lists closed.0));
      order = ordered h.order;
    }
  where
    ordered : ((s.at ≡ 0) ⊎ ((left ≡ 0) × (s.piece ≡ None))) → (s.at ≡ 0) ⊎ ((left ≡ 0) × (o ≡ None))
    ordered (inl first) = inl first
    ordered (inr last) = inr (last.0, none)

-- the next one was opened
pub read_opened : {R : Type 0} (bytes : R → List ℕ) (s : SampleSource R) (p : OpenPiece R) (n : NamedBytes) (left left₂ : ℕ) (ps : List NamedBytes) (read : List Sample) → s.piece ≡ None → left ≡ left₂ + 1 → open_pieces bytes (Some p) ≡ n ∷ [] → HasReadOpen bytes s.ty (Some p) []
    → HasRead bytes s left ps read → HasRead bytes (record s { piece = Some p }) left₂ (ps ++ n ∷ []) read
read_opened {R} bytes s p n left left₂ ps read none fewer one fresh h =
    let O : Option (OpenPiece R) → Type 0 = λ x. HasReadOpen bytes s.ty x h.here in
    let empty : h.here ≡ [] = subst O none h.open_is in
    record {
      done = h.done;
      lists = h.lists;
      here = [];
      to_end = h.to_end;
      open_is = fresh;
      are = ap (λ (l : List NamedBytes). l ++ n ∷ []) (h.are ∙ ap (λ (x : Option (OpenPiece R)). h.done ++ open_pieces bytes x) none ∙ append-nil h.done) ∙ ap (λ (l : List NamedBytes). h.done ++ l) (sym one);
      all = h.all ∙ ap (λ (l : List Sample). flat h.lists ++ (l ++ take s.at s.tail.items)) empty;
      order = ordered h.order;
    }
  where
    ordered : ((s.at ≡ 0) ⊎ ((left ≡ 0) × (s.piece ≡ None))) → (s.at ≡ 0) ⊎ ((left₂ ≡ 0) × (Some p ≡ None))
    ordered (inl first) = inl first
    ordered (inr last) = absurd (omega (arith, last.0, fewer))

-- a line of the open piece was read
pub read_line : {R : Type 0} (bytes : R → List ℕ) (s : SampleSource R) (o : Option (OpenPiece R)) (left : ℕ) (ps : List NamedBytes) (read : List Sample) (x : Sample) → open_pieces bytes o ≡ open_pieces bytes s.piece → (s.piece ≡ None → ⊥) → ((xs : List Sample) → HasReadOpen bytes s.ty s.piece xs → HasReadOpen bytes s.ty o (xs ++ x ∷ []))
    → HasRead bytes s left ps read → HasRead bytes (record s { piece = o }) left ps (read ++ x ∷ [])
read_line {R} bytes s o left ps read x same some next h =
    let first : s.at ≡ 0 = at_first h.order in
    let none : take s.at s.tail.items ≡ [] = ap (λ (n : ℕ). take n s.tail.items) first in
    record {
      done = h.done;
      lists = h.lists;
      here = h.here ++ x ∷ [];
      to_end = h.to_end;
      open_is = next h.here h.open_is;
      are = h.are ∙ ap (λ (l : List NamedBytes). h.done ++ l) (sym same);
      all =
          let one : read ≡ flat h.lists ++ (h.here ++ []) = h.all ∙ ap (λ (l : List Sample). flat h.lists ++ (h.here ++ l)) none in
          let two : read ≡ flat h.lists ++ h.here = one ∙ ap (λ (l : List Sample). flat h.lists ++ l) (append-nil h.here) in
          ap (λ (l : List Sample). l ++ x ∷ []) two ∙ append_assoc (flat h.lists) h.here (x ∷ []) ∙ ap (λ (l : List Sample). flat h.lists ++ l) (sym (append-nil (h.here ++ x ∷ []))) ∙ ap (λ (l : List Sample). flat h.lists ++ ((h.here ++ x ∷ []) ++ l)) (sym none);
      order = inl first;
    }
  where
    at_first : ((s.at ≡ 0) ⊎ ((left ≡ 0) × (s.piece ≡ None))) → s.at ≡ 0
    at_first (inl is) = is
    at_first (inr last) = absurd (some last.1)

-- a line of the tail was read
pub read_of_tail : {R : Type 0} (bytes : R → List ℕ) (s t : SampleSource R) (left : ℕ) (ps : List NamedBytes) (read : List Sample) (x : Sample) → t ≡ record s { at = t.at } → s.piece ≡ None → left ≡ 0 → drop s.at s.tail.items ≡ x ∷ drop t.at t.tail.items → HasRead bytes s left ps read → HasRead bytes t left ps (read ++ x ∷ [])
read_of_tail {R} bytes s t left ps read x same none last next h =
    let P : SampleSource R → Type 0 = λ v. HasRead bytes v left ps (read ++ x ∷ []) in
    let tail = s.tail.items in
    let d = drop t.at tail in
    let next₂ : drop s.at tail ≡ x ∷ d = next ∙ ap (λ (v : SampleSource R). x ∷ drop t.at v.tail.items) same in
    let both : (take s.at tail ++ x ∷ []) ++ d ≡ take t.at tail ++ d = append_assoc (take s.at tail) (x ∷ []) d ∙ ap (λ (l : List Sample). take s.at tail ++ l) (sym next₂) ∙ take-append-drop s.at tail ∙ sym (take-append-drop t.at tail) in
    let more : take s.at tail ++ x ∷ [] ≡ take t.at tail = append_cancel_right (take s.at tail ++ x ∷ []) (take t.at tail) d both in
    subst P (sym same) (record {
      done = h.done;
      lists = h.lists;
      here = h.here;
      to_end = h.to_end;
      open_is = h.open_is;
      are = h.are;
      all = ap (λ (l : List Sample). l ++ x ∷ []) h.all ∙ append_assoc (flat h.lists) (h.here ++ take s.at tail) (x ∷ []) ∙ ap (λ (l : List Sample). flat h.lists ++ l) (append_assoc h.here (take s.at tail) (x ∷ []) ∙ ap (λ (l : List Sample). h.here ++ l) more);
      order = inr (last, none);
    })

pub read_same : {R : Type 0} (bytes : R → List ℕ) (s t : SampleSource R) (left left₂ : ℕ) (ps : List NamedBytes) (read : List Sample) → t ≡ s → left ≡ left₂ → HasRead bytes s left ps read → HasRead bytes t left₂ ps read
read_same {R} bytes s t left left₂ ps read same count h =
    let P : SampleSource R → Type 0 = λ v. HasRead bytes v left₂ ps read in
    let N : ℕ → Type 0 = λ n. HasRead bytes s n ps read in
    subst P (sym same) (subst N count h)

-- WHAT WAS OPENED

module _ {P R : Type 0} (bytes : R → List ℕ) (opened : P → List NamedBytes → P → Type 0) where
  -- so much was read before anything
  pub reads_first : ((a : P) → opened a [] a) → (a : P) (ps : List NamedBytes) (left : ℕ) (s : SampleSource R) (read : List Sample) → HasRead bytes s left ps read → ReadsOn bytes opened a ps a left s read
  reads_first none a ps left s read h = let Q : List NamedBytes → Type 0 = λ l. HasRead bytes s left l read in record { more = []; were = none a; has = subst Q (sym (append-nil ps)) h }

  -- and so much was opened then
  pub reads_then : ((a b c : P) (xs ys : List NamedBytes) → opened a xs b → opened b ys c → opened a (xs ++ ys) c) → (a b c : P) (ps more : List NamedBytes) (left left₂ : ℕ) (s t : SampleSource R) (read read₂ : List Sample) → opened b more c → (r : ReadsOn bytes opened a ps b left s read)
      → (HasRead bytes s left (ps ++ r.more) read → HasRead bytes t left₂ ((ps ++ r.more) ++ more) read₂) → ReadsOn bytes opened a ps c left₂ t read₂
  reads_then on a b c ps more left left₂ s t read read₂ were r next = let Q : List NamedBytes → Type 0 = λ l. HasRead bytes t left₂ l read₂ in record { more = r.more ++ more; were = on a b c r.more more r.were were; has = subst Q (append_assoc ps r.more more) (next r.has) }

  -- nothing more was opened
  pub reads_still : (a b : P) (ps : List NamedBytes) (left : ℕ) (s t : SampleSource R) (read read₂ : List Sample) → (r : ReadsOn bytes opened a ps b left s read) → (HasRead bytes s left (ps ++ r.more) read → HasRead bytes t left (ps ++ r.more) read₂) → ReadsOn bytes opened a ps b left t read₂
  reads_still a b ps left s t read read₂ r next = record { more = r.more; were = r.were; has = next r.has }

  -- a read of the open piece that isn't at its end
  pub pulls_more : (a b : P) (ps : List NamedBytes) (left : ℕ) (s : SampleSource R) (o : Option (OpenPiece R)) (read : List Sample) (line : List ℕ) (r : Merged R) → ((t : ℕ) → r ≡ Line t → open_pieces bytes o ≡ open_pieces bytes s.piece) → (s.piece ≡ None → r ≡ End) → ((xs : List Sample) → HasReadOpen bytes s.ty s.piece xs → ReadsNext bytes s.ty s.piece o xs line r) → (r ≡ End → ⊥)
      → ReadsOn bytes opened a ps b left s read → PullsNext bytes opened a ps b left read (record s { piece = o }) line r
  pulls_more a b ps left s o read line (Line t) same some next more on =
      let not_none : s.piece ≡ None → ⊥ = λ is. (let end : Line t ≡ End = some is in absurd (cc)) in
      reads_still a b ps left s (record s { piece = o }) read (read ++ record { t = t; line = line } ∷ []) on (read_line bytes s o left (ps ++ on.more) read (record { t = t; line = line }) (same t refl) not_none next)
  pulls_more a b ps left s o read line End same some next more on = absurd (more refl)
  pulls_more a b ps left s o read line (ReadFault f) same some next more on = tt
  pulls_more a b ps left s o read line (Damaged name at) same some next more on = tt
  pulls_more a b ps left s o read line Spent same some next more on = tt
  pulls_more a b ps left s o read line Memory same some next more on = tt

  -- a read of the tail
  pub pulls_of_tail : (a b : P) (ps : List NamedBytes) (left : ℕ) (s t : SampleSource R) (read : List Sample) (line : List ℕ) (r : Merged R) → t ≡ record s { at = t.at } → s.piece ≡ None → left ≡ 0 → ((m : ℕ) → r ≡ Line m → drop s.at s.tail.items ≡ record { t = m; line = line } ∷ drop t.at t.tail.items)
      → (r ≡ End → (drop s.at s.tail.items ≡ []) × (t ≡ s)) → ReadsOn bytes opened a ps b left s read → PullsNext bytes opened a ps b left read t line r
  pulls_of_tail a b ps left s t read line (Line m) same none last next end on = reads_still a b ps left s t read (read ++ record { t = m; line = line } ∷ []) on (read_of_tail bytes s t left (ps ++ on.more) read (record { t = m; line = line }) same none last (next m refl))
  pulls_of_tail a b ps left s t read line End same none last next end on =
      let e = end refl in
      let A : SampleSource R → Type 0 = λ v. HasReadAll bytes v left in
      (reads_still a b ps left s t read read on (read_same bytes s t left left (ps ++ on.more) read e.1 refl), subst A (sym e.1) (record { no_piece = last; none_open = none; tail = e.0 }))
  pulls_of_tail a b ps left s t read line (ReadFault f) same none last next end on = tt
  pulls_of_tail a b ps left s t read line (Damaged name at) same none last next end on = tt
  pulls_of_tail a b ps left s t read line Spent same none last next end on = tt
  pulls_of_tail a b ps left s t read line Memory same none last next end on = tt
