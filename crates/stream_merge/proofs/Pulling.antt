-- What one read of the open piece, or of the next piece's header, comes to.
use Rattle.std.proofs.Common.{◌≡◌, ◌⊎◌, ℕ, ◌+◌, ◌≤◌, inl, inr, append_assoc, drop, Bool, List, [], ◌∷◌, ◌++◌, Option, None, Some, IsTrue, length, take, refl, sym, ap, ◌∙◌, subst, arith}
use Rattle.std.specs.Prelude.{IfNone}
use Rattle.std.proofs.lemmas.List.{length-append, length-take, length-take-le, length-drop, take-append-drop, take-take, nil_from_length}
use Rattle.std.proofs.lemmas.List.Elements.{Contains-push}
use Rattle.disk_model.specs.Files.{Name, Rose}
use Rattle.series_model.specs.declared.sample.Sample.{Sample}
use Rattle.series_model.specs.declared.sample.Query.{Query}
use Rattle.series_model.specs.Series.{end_of}
use Rattle.pb_messages.specs.declared.info.PayloadInfo.{PayloadInfo}
use Rattle.pb_wire.specs.declared.payload.PayloadType.{PayloadType}
use Rattle.pb_file.specs.declared.walk.Walked.{Walked}
use Rattle.pb_file.specs.declared.walk.Walked.TheVariants as walked
use Rattle.pb_lines.specs.File.{IsFile, IsBadAt, HasNoSample, lines_of}
use Rattle.pb_lines.proofs.FileMeaning.{begins}
use Rattle.pb_file.specs.Walk.{Walk, Front, HasWalked, Walks, Gives, fresh, with_sample}
use Rattle.pb_file.specs.Search.{HasSampleAt, IsLineStart, MayBegin}
use Rattle.pb_file.specs.Skip.{HasSkipped, GoesOnFrom, from_place}
use Rattle.pb_file.proofs.Walking.{bad_at, one_info}
use Rattle.pb_file.proofs.Starts.{no_header_there}
use Rattle.stream_merge.specs.declared.pieces.Merged.{Merged}
use Rattle.stream_merge.specs.declared.pieces.Merged.TheVariants.{Line, End, ReadFault, Damaged, Spent, Memory}
use Rattle.stream_merge.specs.declared.source.OpenPiece.{OpenPiece}
use Rattle.stream_merge.specs.Pieces.{NamedBytes}
use Rattle.stream_merge.specs.Reading.{IsReadAs, IsBadFor, IsDamaged}
use Rattle.stream_merge.specs.Beginning.{IsAtLine, MovesOn, BeginsWell}
use Rattle.stream_merge.specs.Source.{open_pieces, HasBegun, IsBegun, IsReady, GoesOnAs, IsOpenAs, BeginsAs, ReadsOpen, ClosesAs, HasRisen}
use Rattle.stream_merge.proofs.Reading.{next_read, end_read, same_header, file_from}

-- OF THE OPEN PIECE

pub begun : {R : Type 0} (tells : Bool) (bytes : R → List ℕ) (ty : PayloadType) (o : Option (OpenPiece R)) (p : OpenPiece R) → o ≡ Some p → IsReady tells bytes ty o → IsBegun tells bytes ty p
begun {R} tells bytes ty o p is ready = let P : Option (OpenPiece R) → Type 0 = λ x. IsReady tells bytes ty x in subst P is ready

pub goes_on : {R : Type 0} (bytes : R → List ℕ) (o : Option (OpenPiece R)) (p : OpenPiece R) (xs : List Sample) → o ≡ Some p → IsOpenAs bytes o xs → GoesOnAs bytes p xs
goes_on {R} bytes o p xs is now = let P : Option (OpenPiece R) → Type 0 = λ x. IsOpenAs bytes x xs in subst P is now

pub gives_now : (stop : Option Walked) (P : Type 0) → stop ≡ None → IfNone stop P → P
gives_now None P is h = h
gives_now (Some w) P is h = absurd (cc)

pub same_len : (old new : Walk) (line : List ℕ) (w : Walked) → Gives old line w new → new.len ≡ old.len
same_len old new line walked.Header g = ap (λ (v : Walk). v.len) g.4
same_len old new line (walked.Sample t) g = ap (λ (v : Walk). v.len) g.4
same_len old new line walked.End g = ap (λ (v : Walk). v.len) g.2
same_len old new line (walked.Damaged at) g = ap (λ (v : Walk). v.len) g.1
same_len old new line walked.ReadFault g = ap (λ (v : Walk). v.len) g
same_len old new line walked.Memory g = ap (λ (v : Walk). v.len) g

-- A sample was read.
pub begun_on : {R : Type 0} (tells : Bool) (bytes : R → List ℕ) (ty : PayloadType) (p : OpenPiece R) (file : R) (new : Walk) (line : List ℕ) (t : ℕ) → IsBegun tells bytes ty p → Gives p.walk line (walked.Sample t) new → new.place ≤ new.len
    → (IsTrue tells → bytes file ≡ bytes p.reader) → (IsTrue tells → (at : ℕ) (front : Front) → HasSkipped p.walk (bytes p.reader) at front → GoesOnFrom at front (bytes p.reader) line (walked.Sample t) new) → IsBegun tells bytes ty (record { reader = file; name = p.name; walk = new })
begun_on {R} tells bytes ty p file new line t b g within same skips = record {
  going = ap (λ (v : Walk). v.stop) g.4 ∙ b.going;
  info = b.info;
  header = ap (λ (v : Walk). v.info) g.4 ∙ b.header;
  type = b.type;
  within = within;
  bytes_are = λ told. omega (arith, b.bytes_are told, ap (λ (v : Walk). v.len) g.4, ap length (same told));
  walked = λ told.
      let before = b.walked told in
      let P : List ℕ → Type 0 = λ l. HasBegun new l in
      let T : ℕ → Type 0 = λ n. take n (bytes p.reader) ≡ before.front.head ++ 10 ∷ before.rest in
      let L : ℕ → Type 0 = λ n. IsLineStart (take n (bytes p.reader)) (length before.front.head + 1) before.at in
      let M : ℕ → Type 0 = λ n. MayBegin before.front.info (take n (bytes p.reader)) (length before.front.head + 1) before.at in
      let len : p.walk.len ≡ new.len = sym (ap (λ (v : Walk). v.len) g.4) in
      subst P (sym (same told)) (record { at = before.at; front = with_sample before.front t line; rest = before.rest; skipped = skips told before.at before.front before.skipped; text = subst T len before.text; begins = subst L len before.begins; from = subst M len before.from });
}

pub line_read : {R : Type 0} (bytes : R → List ℕ) (p : OpenPiece R) (file : R) (new : Walk) (line : List ℕ) (t : ℕ) (xs : List Sample) → GoesOnAs bytes p xs → new.len ≡ p.walk.len → p.walk.len ≤ length (bytes p.reader) → bytes file ≡ bytes p.reader
    → ((at : ℕ) (front : Front) → HasSkipped p.walk (bytes p.reader) at front → GoesOnFrom at front (bytes p.reader) line (walked.Sample t) new)
    → (rest : List Sample) × (xs ≡ record { t = t; line = line } ∷ rest) × GoesOnAs bytes (record { reader = file; name = p.name; walk = new }) rest
line_read {R} bytes p file new line t xs now len long same skips =
    let next = skips now.at now.front now.skipped in
    let read = next_read (bytes p.reader) line t now.at p.walk.len new now.front xs next len long now.file in
    let after = with_sample now.front t line in
    let H : List ℕ → Type 0 = λ l. HasSkipped new l now.at after in
    let P : List ℕ → Type 0 = λ l. IsFile (from_place after.head now.at (take new.len l)) after.head after.info (after.samples ++ read.0) in
    (read.0, read.1, record { at = now.at; front = after; skipped = subst H (sym same) next; file = subst P (sym same) read.2 })

-- The piece came to its end.
pub no_line_left : {R : Type 0} (bytes : R → List ℕ) (p : OpenPiece R) (new : Walk) (line : List ℕ) (xs : List Sample) → (now : GoesOnAs bytes p xs) → new.len ≡ p.walk.len → GoesOnFrom now.at now.front (bytes p.reader) line walked.End new → xs ≡ []
no_line_left {R} bytes p new line xs now len end = end_read (bytes p.reader) now.at p.walk.len new now.front xs end len now.file

-- a reading that comes upon a bad line didn't begin at the end
not_at_end : (bytes : List ℕ) (info : PayloadInfo) (is_good : ℕ → Type 0) (first start bad : ℕ) → start ≤ bad → HasNoSample info is_good (drop bad bytes) → MayBegin info bytes first start → (start ≡ first) ⊎ HasSampleAt info bytes start
not_at_end bytes info is_good first start bad order none (inl is) = inl is
not_at_end bytes info is_good first start bad order none (inr (inl end)) = absurd (none.some (nil_from_length (drop bad bytes) (omega (arith, length-drop bad bytes, order, end))))
not_at_end bytes info is_good first start bad order none (inr (inr sample)) = inr sample

-- Its next line is bad.
pub read_bad : (ty : PayloadType) (bytes line : List ℕ) (old new : Walk) (info : PayloadInfo) (bad : ℕ) → (b : HasBegun old bytes) → old.info ≡ Some info → info.ty ≡ ty → Gives old line (walked.Damaged bad) new → GoesOnFrom b.at b.front bytes line (walked.Damaged bad) new → IsBadFor ty (take old.len bytes) bad
read_bad ty bytes line old new info bad b header type g goes =
    let f = b.front in
    let F : List ℕ → Type 0 = λ l. IsFile (from_place f.head b.at l) f.head f.info f.samples in
    let N : ℕ → Type 0 = λ n. IsFile (from_place f.head b.at (take n (take old.len bytes))) f.head f.info f.samples in
    let L : ℕ → Type 0 = λ n. HasNoSample f.info (λ t. end_of f.samples ≤ t) (drop bad (take n bytes)) in
    let here = subst L (ap (λ (v : Walk). v.len) g.1) goes in
    inr (record {
      head = f.head;
      rest = b.rest;
      info = f.info;
      start = b.at;
      samples = f.samples;
      text = b.text;
      type = ap (λ (i : PayloadInfo). i.ty) (one_info old.info f.info info b.skipped.header header) ∙ type;
      begins = b.begins;
      from = not_at_end (take old.len bytes) f.info (λ t. end_of f.samples ≤ t) (length f.head + 1) b.at bad (omega (arith, b.skipped.begun, g.0)) here b.from;
      order = omega (arith, b.skipped.begun, g.0);
      lines = subst N (sym g.0) (subst F (sym (take-take old.place old.len bytes b.skipped.within)) b.skipped.read);
      bad = here;
    })

-- The piece was closed.

pub closed_line : {R : Type 0} (p : OpenPiece R) (w : Walked) (r : Merged R) (t : ℕ) → ClosesAs p w r → r ≡ Line t → ⊥
closed_line {R} p walked.Header r t is line = is
closed_line {R} p (walked.Sample s) r t is line = is
closed_line {R} p walked.End r t is line = cc
closed_line {R} p (walked.Damaged at) r t is line = cc
closed_line {R} p walked.ReadFault r t is line = cc
closed_line {R} p walked.Memory r t is line = cc

pub closed_spent : {R : Type 0} (p : OpenPiece R) (w : Walked) (r : Merged R) → ClosesAs p w r → r ≡ Spent → ⊥
closed_spent {R} p walked.Header r is spent = is
closed_spent {R} p (walked.Sample s) r is spent = is
closed_spent {R} p walked.End r is spent = cc
closed_spent {R} p (walked.Damaged at) r is spent = cc
closed_spent {R} p walked.ReadFault r is spent = cc
closed_spent {R} p walked.Memory r is spent = cc

pub closed_end : {R : Type 0} (p : OpenPiece R) (w : Walked) (r : Merged R) → ClosesAs p w r → r ≡ End → w ≡ walked.End
closed_end {R} p walked.Header r is end = absurd is
closed_end {R} p (walked.Sample s) r is end = absurd is
closed_end {R} p walked.End r is end = refl
closed_end {R} p (walked.Damaged at) r is end = absurd (cc)
closed_end {R} p walked.ReadFault r is end = absurd (cc)
closed_end {R} p walked.Memory r is end = absurd (cc)

pub closed_fault : {R : Type 0} (p : OpenPiece R) (w : Walked) (r : Merged R) (failed : Option R) → ClosesAs p w r → r ≡ ReadFault failed → (w ≡ walked.ReadFault) × (failed ≡ Some p.reader)
closed_fault {R} p walked.Header r failed is fault = absurd is
closed_fault {R} p (walked.Sample s) r failed is fault = absurd is
closed_fault {R} p walked.End r failed is fault = absurd (cc)
closed_fault {R} p (walked.Damaged at) r failed is fault = absurd (cc)
closed_fault {R} p walked.ReadFault r failed is fault = (refl, cc)
closed_fault {R} p walked.Memory r failed is fault = absurd (cc)

pub closed_damaged : {R : Type 0} (p : OpenPiece R) (w : Walked) (r : Merged R) (name : Name) (at : ℕ) → ClosesAs p w r → r ≡ Damaged name at → (w ≡ walked.Damaged at) × (name ≡ p.name)
closed_damaged {R} p walked.Header r name at is bad = absurd is
closed_damaged {R} p (walked.Sample s) r name at is bad = absurd is
closed_damaged {R} p walked.End r name at is bad = absurd (cc)
closed_damaged {R} p (walked.Damaged n) r name at is bad = let same : n ≡ at = cc in (ap (λ (k : ℕ). walked.Damaged k) same, cc)
closed_damaged {R} p walked.ReadFault r name at is bad = absurd (cc)
closed_damaged {R} p walked.Memory r name at is bad = absurd (cc)

-- no header was read
pub walk_bad : (ty : PayloadType) (bytes line : List ℕ) (w : Walked) (at len : ℕ) (old new : Walk) → w ≡ walked.Damaged at → Gives old line w new → old.place ≡ 0 → old.len ≡ len → Walks None bytes line w new → IsBadFor ty (take len bytes) at
walk_bad ty bytes line w at len old new is gives first same walks =
    let W : Walked → Type 0 = λ k. Walks None bytes line k new in
    let G : Walked → Type 0 = λ k. Gives old line k new in
    let L : ℕ → Type 0 = λ n. IsBadAt (take n bytes) at in
    let zero : at ≡ 0 = (subst G is gives).0 ∙ first in
    inl (zero, inl (no_header_there (take len bytes) at zero (subst L (same_len old new line w gives ∙ same) (bad_at None bytes line at new (subst W is walks)))))

pub reads_open : {R : Type 0} (bytes : R → List ℕ) (o : Option (OpenPiece R)) (xs : List Sample) (line : List ℕ) (r : Merged R) → ((t : ℕ) → r ≡ Line t → ⊥) → (r ≡ End → xs ≡ []) → ReadsOpen bytes o xs line r
reads_open {R} bytes o xs line (Line t) none end = absurd (none t refl)
reads_open {R} bytes o xs line End none end = end refl
reads_open {R} bytes o xs line (ReadFault failed) none end = tt
reads_open {R} bytes o xs line (Damaged name at) none end = tt
reads_open {R} bytes o xs line Spent none end = tt
reads_open {R} bytes o xs line Memory none end = tt

pub has_risen : {R : Type 0} (faults : R → ℕ) (o : Option (OpenPiece R)) (p : OpenPiece R) (r : R) (failed : Option R) → o ≡ Some p → failed ≡ Some r → Rose (faults p.reader) (faults r) → HasRisen faults o failed
has_risen {R} faults o p r failed is same rose =
    let P : Option (OpenPiece R) → Type 0 = λ x. HasRisen faults x failed in
    let Q : Option R → Type 0 = λ x. HasRisen faults (Some p) x in
    subst P (sym is) (subst Q (sym same) rose)

-- OF THE NEXT PIECE

-- Its header was read.
pub at_header : (bytes line : List ℕ) (info : PayloadInfo) (w : Walk) → HasWalked w bytes (Some (record { head = line; info = info; samples = [] })) → w.len ≤ length bytes → IsAtLine w.place w bytes
at_header bytes line info w h long =
    let file = h.read.0 in
    let all = take w.len bytes in
    let rest = drop w.place all in
    let none : drop w.place (take w.place bytes) ≡ [] = nil_from_length (drop w.place (take w.place bytes)) (omega (arith, length-drop w.place (take w.place bytes), length-take w.place bytes)) in
    let F : List ℕ → Type 0 = λ l. IsFile (line ++ 10 ∷ l) line info [] in
    record {
      head = line;
      info = info;
      rest = rest;
      size = omega (arith, length-take-le w.place bytes (omega (arith, h.within, long)), ap length file.text, length-append line (10 ∷ []));
      text = sym (take-append-drop w.place all) ∙ ap (λ (u : List ℕ). u ++ rest) (take-take w.place w.len bytes h.within ∙ file.text) ∙ append_assoc line (10 ∷ []) rest;
      skipped = record { going = h.going; begun = omega arith; within = h.within; read = subst F (sym none) (begins line info file.whole file.header); header = h.read.1; earliest = h.read.2; window = h.window };
      begins = inl refl;
      from = inl refl;
    }

pub at_line_begun : (head_len : ℕ) (w : Walk) (bytes : List ℕ) → IsAtLine head_len w bytes → HasBegun w bytes
at_line_begun head_len w bytes l =
    let L : ℕ → Type 0 = λ n. IsLineStart (take w.len bytes) n w.place in
    let M : ℕ → Type 0 = λ n. MayBegin l.info (take w.len bytes) n w.place in
    record { at = w.place; front = record { head = l.head; info = l.info; samples = [] }; rest = l.rest; skipped = l.skipped; text = l.text; begins = subst L l.size l.begins; from = subst M l.size l.from }

pub begun_first : {R : Type 0} (tells : Bool) (bytes : R → List ℕ) (ty : PayloadType) (reader file : R) (name : Name) (line : List ℕ) (len : ℕ) (old new : Walk) → old ≡ fresh len → (g : Gives old line walked.Header new) → g.0.ty ≡ ty → new.place ≤ new.len
    → (IsTrue tells → len ≤ length (bytes reader)) → (IsTrue tells → bytes file ≡ bytes reader) → (IsTrue tells → IsAtLine new.place new (bytes reader))
    → IsBegun tells bytes ty (record { reader = file; name = name; walk = new })
begun_first {R} tells bytes ty reader file name line len old new start g type within long same here = record {
  going = ap (λ (v : Walk). v.stop) g.4 ∙ ap (λ (v : Walk). v.stop) start;
  info = g.0;
  header = ap (λ (v : Walk). v.info) g.4;
  type = type;
  within = within;
  bytes_are = λ told. omega (arith, long told, ap (λ (v : Walk). v.len) g.4, ap (λ (v : Walk). v.len) start, ap length (same told));
  walked = λ told.
      let P : List ℕ → Type 0 = λ l. HasBegun new l in
      subst P (sym (same told)) (at_line_begun new.place new (bytes reader) (here told));
}

-- It went on at another place.
pub begun_there : {R : Type 0} (tells : Bool) (bytes : R → List ℕ) (ty : PayloadType) (p : OpenPiece R) (file : R) (new : Walk) (head_len : ℕ) → IsBegun tells bytes ty p → MovesOn p.walk new → (IsTrue tells → bytes file ≡ bytes p.reader) → (IsTrue tells → IsAtLine head_len new (bytes p.reader))
    → IsBegun tells bytes ty (record { reader = file; name = p.name; walk = new })
begun_there {R} tells bytes ty p file new head_len b moves same here = record {
  going = moves.going;
  info = b.info;
  header = ap (λ (v : Walk). v.info) moves.same ∙ b.header;
  type = b.type;
  within = moves.within;
  bytes_are = λ told. omega (arith, b.bytes_are told, ap (λ (v : Walk). v.len) moves.same, ap length (same told));
  walked = λ told.
      let P : List ℕ → Type 0 = λ l. HasBegun new l in
      subst P (sym (same told)) (at_line_begun head_len new (bytes p.reader) (here told));
}

-- It begins to give its samples there.
pub begins_as : {R : Type 0} (bytes : R → List ℕ) (ty : PayloadType) (n : ℕ) (q : Query) (p : OpenPiece R) (head_len : ℕ) (xs : List Sample) → IsAtLine head_len p.walk (bytes p.reader) → (r : IsReadAs ty (take p.walk.len (bytes p.reader)) xs) → BeginsWell n q r.head xs p.walk.place → BeginsAs bytes n q p xs
begins_as {R} bytes ty n q p head_len xs l r well =
    let all = take p.walk.len (bytes p.reader) in
    let one = same_header all l.head r.head l.rest (lines_of xs) l.info r.info l.text r.file.text l.skipped.read.whole r.file.whole l.skipped.read.header r.file.header in
    let own = file_from all r.head r.info xs well.here p.walk.place r.file well.split in
    let H : List ℕ → Type 0 = λ h. IsFile (from_place h p.walk.place all) h r.info well.here in
    let I : PayloadInfo → Type 0 = λ i. IsFile (from_place l.head p.walk.place all) l.head i well.here in
    record {
      here = well.here;
      gives = record { at = p.walk.place; front = record { head = l.head; info = l.info; samples = [] }; skipped = l.skipped; file = subst I (sym one.infos) (subst H (sym one.heads) own) };
      placed = well.placed;
      same = well.same;
    }

-- the header that was read is that of the file
pub head_place : (ty : PayloadType) (bytes : List ℕ) (head_len len : ℕ) (w : Walk) (xs : List Sample) → IsAtLine head_len w bytes → w.len ≡ len → (r : IsReadAs ty (take len bytes) xs) → head_len ≡ length r.head + 1
head_place ty bytes head_len len w xs l same r =
    let T : ℕ → Type 0 = λ n. take n bytes ≡ l.head ++ 10 ∷ l.rest in
    let one = same_header (take len bytes) l.head r.head l.rest (lines_of xs) l.info r.info (subst T same l.text) r.file.text l.skipped.read.whole r.file.whole l.skipped.read.header r.file.header in
    l.size ∙ ap (λ (h : List ℕ). length h + 1) one.heads

-- the open piece has a bad line
pub open_damaged : {R : Type 0} (bytes : R → List ℕ) (ty : PayloadType) (o : Option (OpenPiece R)) (p : OpenPiece R) (name : Name) (at : ℕ) → o ≡ Some p → name ≡ p.name → IsBadFor ty (take p.walk.len (bytes p.reader)) at → IsDamaged ty (open_pieces bytes o) name at
open_damaged {R} bytes ty o p name at is named bad =
    let P : Option (OpenPiece R) → Type 0 = λ x. IsDamaged ty (open_pieces bytes x) name at in
    let here : NamedBytes = record { name = p.name; bytes = take p.walk.len (bytes p.reader) } in
    let found : IsDamaged ty (here ∷ []) name at = record { piece = here; among = Contains-push [] here; named = sym named; bad = bad } in
    subst P (sym is) found
