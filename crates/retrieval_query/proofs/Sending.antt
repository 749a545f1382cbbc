-- How much of a raw text went out, call by call.
use Rattle.std.proofs.Common.{◌≡◌, ℕ, ℤ, List, [], ◌∷◌, ◌++◌, Option, None, Some, inl, inr, refl, sym, ap, ◌∙◌, subst, append_assoc, append-nil}
use Rattle.std.specs.Prelude.{is_some, false}
use Rattle.std.specs.Io.KnownBytes.{Appends}
use Rattle.std.proofs.KnownBytes.{Appends-nil}
use Rattle.edge_io.specs.Stream.{AppendsFront}
use Rattle.edge_io.specs.Sent.{Sends}
use Rattle.edge_io.proofs.Sending.{front_then, front_longer, front_kept, sends_none, sends_then, all_out, front_out}
use Rattle.pb_lines.proofs.FileLines.{all_rest}
use Rattle.pb_messages.specs.declared.info.PayloadInfo.{PayloadInfo}
use Rattle.series_model.specs.declared.sample.Sample.{Sample}
use Rattle.act_model.specs.Event.{IsEvent, AreEvents}
use Rattle.act_model.specs.Out.{Subject}
use Rattle.retrieval_query.specs.declared.head.HeaderLines.{HeaderLines}
use Rattle.retrieval_query.specs.Raw.{IsOfYear, IsNearestYear, IsHeaderAlone, IsRaw, header_of}
use Rattle.retrieval_query.specs.Writing.{IsOpening, IsHeader, IsEnding, IsText, HasHead, Opens, OpensFront, Closes, ClosesFront, Gives, Finishes, Breaks}
use Rattle.retrieval_query.specs.Texts.{line_of, opening_of, text_none, text_more, raw_front, raw_ended}

-- nothing more was put
pub sends_nothing : (a : Option (List ℕ)) (old : List ℕ) → Sends a a (old ++ []) old
sends_nothing a old = ([], append-nil old, Appends-nil a)

-- nothing went out, which is a front of everything
pub front_none : (a : Option (List ℕ)) (bytes : List ℕ) → AppendsFront a a bytes
front_none a bytes = front_kept a a [] [] bytes (sends_none a)

-- HEADER LINES

pub opens_none : (a : Option (List ℕ)) (old : List ℕ) (subject : Subject) (last : Option ℤ) (year : ℤ) → OpensFront a a old subject last year
opens_none a old subject last year =
    let o = opening_of subject last year in
    record { piece = o.0; opening = o.1; front = front_none a (old ++ o.0) }

-- the head, by its own name
pub here_is : (subject : Subject) (o : Option HeaderLines) (head : HeaderLines) (last : Option ℤ) → o ≡ Some head → HasHead subject o last → HasHead subject (Some head) last
here_is subject o head last is has = let P : Option HeaderLines → Type 0 = λ x. HasHead subject x last in subst P is has

pub some_here : (subject : Subject) (head : HeaderLines) (last : Option ℤ) → HasHead subject (Some head) last → IsHeader subject head.info × (head.last ≡ last) × (last ≡ None → IsNearestYear head.info.year subject.query.from)
some_here subject head last has =
    let same : has.here ≡ head = cc (has.is) in
    let P : HeaderLines → Type 0 = λ h. IsHeader subject h.info × (h.last ≡ last) × (last ≡ None → IsNearestYear h.info.year subject.query.from) in
    subst P same (has.info, has.last_is, has.nearest)

is_none : (o : Option ℤ) → is_some o ≡ false → o ≡ None
is_none None h = refl
is_none (Some y) h = cc

-- the year that is there no longer, by the code's test
pub none_last : (o last : Option ℤ) → o ≡ last → is_some o ≡ false → last ≡ None
none_last o last same empty = sym same ∙ is_none o empty

-- THE ENDING

-- the opening of a text without samples is its one header line
alone : (subject : Subject) (year : ℤ) (piece : List ℕ) → IsNearestYear year subject.query.from → IsOpening subject None year piece → IsHeaderAlone subject piece
alone subject year piece near (inl opening) = absurd (cc (opening.0))
alone subject year piece near (inr opening) = record { year = year; nearest = near; is = opening.1 }

pub closes_none : (a b : Option (List ℕ)) (old new : List ℕ) (subject : Subject) (last here : Option ℤ) (year : ℤ) → last ≡ None → here ≡ last → (last ≡ None → IsNearestYear year subject.query.from) → Opens a b old new subject here year → Closes a b old new subject last
closes_none a b old new subject last here year none same near o =
    let O : Option ℤ → Type 0 = λ l. IsOpening subject l year o.piece in
    let E : Option ℤ → Type 0 = λ l. IsEnding subject l o.piece in
    record { piece = o.piece; ending = subst E (sym none) (alone subject year o.piece (near none) (subst O (same ∙ none) o.opening)); sent = o.sent }

pub closes_none_front : (a b : Option (List ℕ)) (old : List ℕ) (subject : Subject) (last here : Option ℤ) (year : ℤ) → last ≡ None → here ≡ last → (last ≡ None → IsNearestYear year subject.query.from) → OpensFront a b old subject here year → ClosesFront a b old subject last
closes_none_front a b old subject last here year none same near o =
    let O : Option ℤ → Type 0 = λ l. IsOpening subject l year o.piece in
    let E : Option ℤ → Type 0 = λ l. IsEnding subject l o.piece in
    record { piece = o.piece; ending = subst E (sym none) (alone subject year o.piece (near none) (subst O (same ∙ none) o.opening)); front = o.front }

-- BEGINNING

pub begins : (a : Option (List ℕ)) (old : List ℕ) (head : HeaderLines) (subject : Subject) (year : ℤ) → head.info ≡ header_of subject year → head.last ≡ None → IsNearestYear year subject.query.from → Gives a a old old (Some head) subject []
begins a old head subject year is none near =
    let same : head.info.year ≡ year = ap (λ (i : PayloadInfo). i.year) is in
    let N : ℤ → Type 0 = λ y. IsNearestYear y subject.query.from in
    record {
      last = None;
      has_head = record { here = head; is = refl; info = is ∙ ap (header_of subject) (sym same); last_is = none; nearest = λ l. subst N (sym same) near };
      bytes = [];
      text = text_none subject;
      sent = sends_nothing a old;
    }

pub nothing_breaks : (a : Option (List ℕ)) (old : List ℕ) (subject : Subject) (all : List Sample) (year : ℤ) → AreEvents subject.about.ty all → IsNearestYear year subject.query.from → Breaks a a old subject all
nothing_breaks a old subject all year events near =
    let raw = raw_front subject.about.ty subject year [] all None [] (text_none subject) events (λ l. near) in
    record { text = raw.0; raw = raw.1; front = front_none a (old ++ raw.0) }

-- A SAMPLE

-- a front of bytes that stand first in a text
front_in : (a b : Option (List ℕ)) (old bytes piece more : List ℕ) → AppendsFront a b ((old ++ bytes) ++ piece) → AppendsFront a b (old ++ ((bytes ++ (piece ++ more))))
front_in a b old bytes piece more front =
    let is : old ++ (bytes ++ (piece ++ more)) ≡ ((old ++ bytes) ++ piece) ++ more =
    sym (append_assoc old bytes (piece ++ more)) ∙ sym (append_assoc (old ++ bytes) piece more) in
    let P : List ℕ → Type 0 = λ u. AppendsFront a b u in
    subst P (sym is) (front_longer a b ((old ++ bytes) ++ piece) more front)

front_behind : (a b c : Option (List ℕ)) (text mid piece : List ℕ) → Sends a b text mid → AppendsFront b c (mid ++ piece) → AppendsFront a c (text ++ piece)
front_behind a b c text mid piece sent front =
    let P : List ℕ → Type 0 = λ u. AppendsFront a c u in
    subst P (sym (ap (λ (u : List ℕ). u ++ piece) sent.1 ∙ append_assoc sent.0 mid piece)) (front_then a b c sent.0 (mid ++ piece) sent.2 front)

module _ (subject : Subject) (xs : List Sample) (s : Sample) (more : List Sample) (year : ℤ) (of_year : IsOfYear year s) (events : AreEvents subject.about.ty (xs ++ (s ∷ more))) where
  -- the text with the sample, and what follows it
  whole : (last : Option ℤ) (bytes piece : List ℕ) → IsText subject xs last bytes → IsOpening subject last year piece → (rest : List ℕ) × IsRaw subject (xs ++ (s ∷ more)) (bytes ++ ((piece ++ line_of s) ++ rest))
  whole last bytes piece text opening =
      let ty = subject.about.ty in
      let one = text_more subject xs last bytes year s piece text opening of_year in
      let later = all_rest (IsEvent ty) xs (s ∷ more) events in
      let raw = raw_front ty subject year (xs ++ s ∷ []) more (Some year) (bytes ++ (piece ++ line_of s)) one later.1 (λ l. absurd (cc l)) in
      let L : List Sample → Type 0 = λ l. IsRaw subject l ((bytes ++ (piece ++ line_of s)) ++ raw.0) in
      let B : List ℕ → Type 0 = λ u. IsRaw subject (xs ++ (s ∷ more)) u in
      (raw.0, subst B (append_assoc bytes (piece ++ line_of s) raw.0) (subst L (append_assoc xs (s ∷ []) more) raw.1))

  -- it broke off in its header line
  pub opening_breaks : (a b c : Option (List ℕ)) (old mid : List ℕ) (last here : Option ℤ) (bytes : List ℕ) → IsText subject xs last bytes → Sends a b (old ++ bytes) mid → here ≡ last → OpensFront b c mid subject here year → Breaks a c old subject (xs ++ (s ∷ more))
  opening_breaks a b c old mid last here bytes text sent same o =
      let O : Option ℤ → Type 0 = λ l. IsOpening subject l year o.piece in
      let all = whole last bytes o.piece text (subst O same o.opening) in
      let B : List ℕ → Type 0 = λ u. IsRaw subject (xs ++ (s ∷ more)) (bytes ++ u) in
      record {
        text = bytes ++ (o.piece ++ (line_of s ++ all.0));
        raw = subst B (append_assoc o.piece (line_of s) all.0) all.1;
        front = front_in a c old bytes o.piece (line_of s ++ all.0) (front_behind a b c (old ++ bytes) mid o.piece sent o.front);
      }

  -- it broke off in its line
  pub line_breaks : (a b c d : Option (List ℕ)) (old mid then : List ℕ) (last here : Option ℤ) (bytes : List ℕ) → IsText subject xs last bytes → Sends a b (old ++ bytes) mid → here ≡ last → Opens b c mid then subject here year → AppendsFront c d (then ++ line_of s) → Breaks a d old subject (xs ++ (s ∷ more))
  line_breaks a b c d old mid then last here bytes text sent same o front =
      let O : Option ℤ → Type 0 = λ l. IsOpening subject l year o.piece in
      let all = whole last bytes o.piece text (subst O same o.opening) in
      let first = sends_then a b c (old ++ bytes) mid o.piece then sent o.sent in
      let F : List ℕ → Type 0 = λ u. AppendsFront a d u in
      record {
        text = bytes ++ ((o.piece ++ line_of s) ++ all.0);
        raw = all.1;
        front = front_in a d old bytes (o.piece ++ line_of s) all.0 (subst F (append_assoc (old ++ bytes) o.piece (line_of s)) (front_behind a c d ((old ++ bytes) ++ o.piece) then (line_of s) first front));
      }

pub given : (a b c d : Option (List ℕ)) (old mid then new : List ℕ) (head : HeaderLines) (subject : Subject) (xs : List Sample) (s : Sample) (year : ℤ) (last here : Option ℤ) (bytes : List ℕ) → IsText subject xs last bytes → Sends a b (old ++ bytes) mid → here ≡ last → IsOfYear year s
    → Opens b c mid then subject here year → Sends c d (then ++ line_of s) new → IsHeader subject head.info → head.last ≡ Some year → Gives a d old new (Some head) subject (xs ++ s ∷ [])
given a b c d old mid then new head subject xs s year last here bytes text sent same of_year o line info is =
    let O : Option ℤ → Type 0 = λ l. IsOpening subject l year o.piece in
    let first = sends_then a b c (old ++ bytes) mid o.piece then sent o.sent in
    let all = sends_then a c d ((old ++ bytes) ++ o.piece) then (line_of s) new first line in
    let S : List ℕ → Type 0 = λ u. Sends a d u new in
    let there : ((old ++ bytes) ++ o.piece) ++ line_of s ≡ old ++ (bytes ++ (o.piece ++ line_of s)) = append_assoc (old ++ bytes) o.piece (line_of s) ∙ append_assoc old bytes (o.piece ++ line_of s) in
    record {
      last = Some year;
      has_head = record { here = head; is = refl; info = info; last_is = is; nearest = λ l. absurd (cc l) };
      bytes = bytes ++ (o.piece ++ line_of s);
      text = text_more subject xs last bytes year s o.piece text (subst O same o.opening) of_year;
      sent = subst S there all;
    }

-- THE END

pub end_breaks : (a b c : Option (List ℕ)) (old mid : List ℕ) (subject : Subject) (xs : List Sample) (last : Option ℤ) (bytes : List ℕ) → IsText subject xs last bytes → Sends a b (old ++ bytes) mid → ClosesFront b c mid subject last → Breaks a c old subject xs
end_breaks a b c old mid subject xs last bytes text sent o =
    let F : List ℕ → Type 0 = λ u. AppendsFront a c u in
    record { text = bytes ++ o.piece; raw = raw_ended subject xs last bytes o.piece text o.ending; front = subst F (append_assoc old bytes o.piece) (front_behind a b c (old ++ bytes) mid o.piece sent o.front) }

pub finish_breaks : (a b c d : Option (List ℕ)) (old mid then : List ℕ) (subject : Subject) (xs : List Sample) (last : Option ℤ) (bytes : List ℕ) → IsText subject xs last bytes → Sends a b (old ++ bytes) mid → Closes b c mid then subject last → AppendsFront c d then → Breaks a d old subject xs
finish_breaks a b c d old mid then subject xs last bytes text sent o front =
    let F : List ℕ → Type 0 = λ u. AppendsFront a d u in
    let all = sends_then a b c (old ++ bytes) mid o.piece then sent o.sent in
    record { text = bytes ++ o.piece; raw = raw_ended subject xs last bytes o.piece text o.ending; front = subst F (append_assoc old bytes o.piece) (front_out a c d ((old ++ bytes) ++ o.piece) then all front) }

pub finishes : (a b c d : Option (List ℕ)) (old mid then new : List ℕ) (subject : Subject) (xs : List Sample) (last : Option ℤ) (bytes : List ℕ) → IsText subject xs last bytes → Sends a b (old ++ bytes) mid → Closes b c mid then subject last → Appends c d then → new ≡ [] → Finishes a d old new subject xs
finishes a b c d old mid then new subject xs last bytes text sent o out none =
    let A : List ℕ → Type 0 = λ u. Appends a d u in
    let all = sends_then a b c (old ++ bytes) mid o.piece then sent o.sent in
    record { text = bytes ++ o.piece; raw = raw_ended subject xs last bytes o.piece text o.ending; all = subst A (append_assoc old bytes o.piece) (all_out a c d ((old ++ bytes) ++ o.piece) then all out); none = none }
