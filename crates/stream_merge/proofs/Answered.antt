-- What a merge gave of what it read, from one call to the next.
use Rattle.std.proofs.Common.{◌≡◌, ◌⊎◌, ℕ, ◌+◌, ◌*◌, ◌^◌, ◌<◌, ◌≤◌, inl, inr, List, [], ◌∷◌, ◌++◌, Option, None, Some, length, take, drop, refl, sym, ap, ◌∙◌, subst, arith, append_assoc, append-nil}
use Rattle.std.specs.Prelude.{IsSome}
use Rattle.std.specs.List.{Contains}
use Rattle.std.proofs.lemmas.Bool.{cases_lt}
use Rattle.std.proofs.lemmas.List.{take-append-drop}
use Rattle.std.proofs.lemmas.List.Elements.{Contains-append_left, Contains-push}
use Rattle.series_model.specs.declared.sample.Sample.{Sample}
use Rattle.series_model.specs.declared.sample.Query.{Query}
use Rattle.series_model.specs.Series.{taken, taken_from}
use Rattle.series_model.specs.Retrieval.{answer}
use Rattle.pb_wire.specs.declared.payload.PayloadType.{PayloadType}
use Rattle.pb_file.specs.Walk.{behind}
use Rattle.stream_merge.specs.declared.pieces.Merged.{Merged}
use Rattle.stream_merge.specs.declared.pieces.Merged.TheVariants.{Line, End, ReadFault, Damaged, Spent, Memory}
use Rattle.stream_merge.specs.declared.source.OpenPiece.{OpenPiece}
use Rattle.stream_merge.specs.declared.source.SampleSource.{SampleSource}
use Rattle.stream_merge.specs.declared.merge.Merge.{Merge}
use Rattle.stream_merge.specs.Pieces.{NamedBytes}
use Rattle.stream_merge.specs.Source.{open_pieces, IsGiven, unread, unread_in}
use Rattle.stream_merge.specs.Merging.{Gives, IsDue, IsEarly, IsKept, kept_of}
use Rattle.stream_merge.specs.Reads.{AreRead, AnswersRead, LastIsRead, HasReadOpen, HasRead, HasReadAll, HasGiven, GivesNext}
use Rattle.stream_merge.proofs.Giving.{step_skip, step_keep, step_held, step_within, step_past, step_due, step_due_past, step_last}
use Rattle.stream_merge.proofs.SoFar.{is_read_up_to}

-- NOTHING IS LEFT

all_of_none : (left a b : ℕ) → left ≡ 0 → a ≡ 0 → b ≡ 0 → left * 2 ^ 64 + a + b ≡ 0
all_of_none left a b one two three = omega (arith, ap (λ (n : ℕ). n * 2 ^ 64) one, two, three)

-- no line is read where all is read
pub is_not_read : {R : Type 0} (bytes : R → List ℕ) (s : SampleSource R) (left now : ℕ) → now < unread left s → HasReadAll bytes s left → ⊥
is_not_read {R} bytes s left now less all =
    let none : unread left s ≡ 0 = all_of_none left (unread_in s.piece) (length (drop s.at s.tail.items)) all.no_piece (ap (λ (o : Option (OpenPiece R)). unread_in o) all.none_open) (ap length all.tail) in
    omega (arith, less, none)

-- A LINE WAS READ

-- What was given then is that and these, if the answer goes on so.
pub given_step : {R : Type 0} (bytes : R → List ℕ) (m m₂ : Merge R) (s : SampleSource R) (left left₂ : ℕ) (ps ps₂ : List NamedBytes) (given gave ks : List Sample) (n : ℕ) (x : Sample) → m₂.source ≡ s → m₂.query ≡ m.query → behind m₂.last ≡ n → kept_of m₂.kept m₂.kept_line.items ≡ ks → (h : HasGiven bytes m left ps given)
    → HasRead bytes s left₂ ps₂ (h.read ++ x ∷ []) → (HasReadAll bytes m.source left → ⊥) → ((t : ℕ) → m₂.kept ≡ Some t → (m.kept ≡ Some t) ⊎ (x.t ≡ t))
    → ((more : List Sample) → answer (kept_of m.kept m.kept_line.items ++ taken_from (behind m.last) (x ∷ more)) m.query ≡ gave ++ answer (ks ++ taken_from n more) m.query) → HasGiven bytes m₂ left₂ ps₂ (given ++ gave)
given_step {R} bytes m m₂ s left left₂ ps ps₂ given gave ks n x source query was keeps h has some kept goes =
    let H : SampleSource R → Type 0 = λ v. HasRead bytes v left₂ ps₂ (h.read ++ x ∷ []) in
    let now = kept_of m₂.kept m₂.kept_line.items in
    record {
      read = h.read ++ x ∷ [];
      has = subst H (sym source) has;
      kept = λ t is. of_kept t (kept t is);
      so = λ more none.
          let E : Query → Type 0 = λ q. answer (taken ((h.read ++ x ∷ []) ++ more)) q ≡ (given ++ gave) ++ answer (now ++ taken_from (behind m₂.last) more) q in
          let rest = answer (ks ++ taken_from n more) m.query in
          let same : rest ≡ answer (now ++ taken_from (behind m₂.last) more) m.query = ap (λ (l : List Sample). answer (l ++ taken_from n more) m.query) (sym keeps) ∙ ap (λ (k : ℕ). answer (now ++ taken_from k more) m.query) (sym was) in
          subst E (sym query)
          (ap (λ (l : List Sample). answer (taken l) m.query) (append_assoc h.read (x ∷ []) more) ∙ h.so (x ∷ more) (λ all. absurd (some all)) ∙ ap (λ (l : List Sample). given ++ l) (goes more) ∙ sym (append_assoc given gave rest) ∙ ap (λ (l : List Sample). (given ++ gave) ++ l) same);
    }
  where
    of_kept : (t : ℕ) → ((m.kept ≡ Some t) ⊎ (x.t ≡ t)) → (y : Sample) × Contains (h.read ++ x ∷ []) y × (y.t ≡ t)
    of_kept t (inl old) = let k = h.kept t old in (k.0, Contains-append_left h.read (x ∷ []) k.0 k.1, k.2)
    of_kept t (inr own) = (x, Contains-push h.read x, own)

pub given_at : {R : Type 0} (bytes : R → List ℕ) (m : Merge R) (left : ℕ) (ps : List NamedBytes) (given given₂ : List Sample) → given ≡ given₂ → HasGiven bytes m left ps given → HasGiven bytes m left ps given₂
given_at {R} bytes m left ps given given₂ same h = let P : List Sample → Type 0 = λ l. HasGiven bytes m left ps l in subst P same h

-- it isn't later than the one before
pub given_skips : {R : Type 0} (bytes : R → List ℕ) (m : Merge R) (s : SampleSource R) (left left₂ : ℕ) (ps ps₂ : List NamedBytes) (given : List Sample) (x : Sample) → x.t < behind m.last → (h : HasGiven bytes m left ps given) → HasRead bytes s left₂ ps₂ (h.read ++ x ∷ []) → (HasReadAll bytes m.source left → ⊥) → HasGiven bytes (record m { source = s }) left₂ ps₂ given
given_skips {R} bytes m s left left₂ ps ps₂ given x low h has some =
    let ks = kept_of m.kept m.kept_line.items in
    let n = behind m.last in
    given_at bytes (record m { source = s }) left₂ ps₂ (given ++ []) given (append-nil given)
    (given_step bytes m (record m { source = s }) s left left₂ ps ps₂ given [] ks n x refl refl refl refl h has some (λ t is. inl is) (λ more. step_skip m.query n x more (x ∷ more) (answer (ks ++ taken_from n (x ∷ more)) m.query) ks refl low refl))

some_is : (a b : ℕ) → ◌≡◌ {A = Option ℕ} (Some a) (Some b) → a ≡ b
some_is a b is = cc

not_some : (k : Option ℕ) (t : ℕ) → k ≡ None → k ≡ Some t → ⊥
not_some k t none some = cc

-- it is earlier than the interval, and kept
pub given_keeps : {R : Type 0} (bytes : R → List ℕ) (m m₂ : Merge R) (s : SampleSource R) (left left₂ : ℕ) (ps ps₂ : List NamedBytes) (given : List Sample) (ty : PayloadType) (x : Sample) → m₂.source ≡ s → m₂.query ≡ m.query → m₂.last ≡ Some x.t → m₂.kept ≡ Some x.t → kept_of m₂.kept m₂.kept_line.items ≡ x ∷ [] → behind m.last ≤ x.t → x.t < m.query.from → IsEarly m.kept m.query.from
    → (h : HasGiven bytes m left ps given) → HasRead bytes s left₂ ps₂ (h.read ++ x ∷ []) → (HasReadAll bytes m.source left → ⊥) → HasGiven bytes m₂ left₂ ps₂ given
given_keeps {R} bytes m m₂ s left left₂ ps ps₂ given ty x source query last kept keeps low early was h has some =
    let ks = kept_of m.kept m.kept_line.items in
    let n = behind m.last in
    given_at bytes m₂ left₂ ps₂ (given ++ []) given (append-nil given)
    (given_step bytes m m₂ s left left₂ ps ps₂ given [] (x ∷ []) (x.t + 1) x source query (ap behind last) keeps h has some (λ t is. inr (some_is x.t t (sym kept ∙ is)))
    (λ more. step_keep m.query n m.kept m.kept_line.items x more (x ∷ more) (answer (ks ++ taken_from n (x ∷ more)) m.query) refl low early was refl))

-- THE END

-- of the tail and of the last piece some were read
last_read : {R : Type 0} (bytes : R → List ℕ) (ty : PayloadType) (o : Option (OpenPiece R)) (read : List Sample) → HasReadOpen bytes ty o read → LastIsRead ty (open_pieces bytes o) read
last_read {R} bytes ty None read h = h
last_read {R} bytes ty (Some p) read h = (p.walk.place, is_read_up_to bytes ty p read h)

pub are_read : {R : Type 0} (bytes : R → List ℕ) (s : SampleSource R) (left : ℕ) (ps : List NamedBytes) (read : List Sample) → HasRead bytes s left ps read → AreRead s.ty ps s.tail.items read
are_read {R} bytes s left ps read h = record {
  done = h.done;
  last = open_pieces bytes s.piece;
  lists = h.lists;
  here = h.here;
  front = take s.at s.tail.items;
  behind_it = drop s.at s.tail.items;
  are = h.are;
  to_end = h.to_end;
  last_is = last_read bytes s.ty s.piece h.here h.open_is;
  of_tail = sym (take-append-drop s.at s.tail.items);
  all = h.all;
}

-- all was read, and nothing is kept
pub answers_all : {R : Type 0} (bytes : R → List ℕ) (m : Merge R) (s : SampleSource R) (left left₂ : ℕ) (ps ps₂ : List NamedBytes) (given : List Sample) → kept_of m.kept m.kept_line.items ≡ [] → (h : HasGiven bytes m left ps given) → HasRead bytes s left₂ ps₂ h.read → HasReadAll bytes s left₂ → AnswersRead s.ty m.query ps₂ left₂ s.tail.items given
unfolding are_read
answers_all {R} bytes m s left left₂ ps ps₂ given none h has all = record {
  read = h.read;
  are = are_read bytes s left₂ ps₂ h.read has;
  ends = inl (all.no_piece, ap (λ (o : Option (OpenPiece R)). open_pieces bytes o) all.none_open, all.tail);
  is = sym (append-nil given) ∙ ap (λ (l : List Sample). given ++ answer (l ++ []) m.query) (sym none) ∙ sym (h.so [] (λ a. refl)) ∙ ap (λ (l : List Sample). answer (taken l) m.query) (append-nil h.read);
}

-- one of the samples that were read is behind the interval
pub answers_past : {R : Type 0} (bytes : R → List ℕ) (m : Merge R) (s : SampleSource R) (left left₂ : ℕ) (ps ps₂ : List NamedBytes) (given : List Sample) (x : Sample) → (h : HasGiven bytes m left ps given) → HasRead bytes s left₂ ps₂ (h.read ++ x ∷ []) → (HasReadAll bytes m.source left → ⊥)
    → m.query.from ≤ x.t → m.query.to < x.t → answer (kept_of m.kept m.kept_line.items ++ taken_from (behind m.last) (x ∷ [])) m.query ≡ [] → AnswersRead s.ty m.query ps₂ left₂ s.tail.items given
answers_past {R} bytes m s left left₂ ps ps₂ given x h has some from past none = record {
  read = h.read ++ x ∷ [];
  are = are_read bytes s left₂ ps₂ (h.read ++ x ∷ []) has;
  ends = inr (record { sample = x; among = Contains-push h.read x; from = from; to = past });
  is = sym (append-nil given) ∙ ap (λ (l : List Sample). given ++ l) (sym none) ∙ sym (h.so (x ∷ []) (λ a. absurd (some a)));
}

-- what is kept is behind the interval
pub answers_kept : {R : Type 0} (bytes : R → List ℕ) (m : Merge R) (left : ℕ) (ps : List NamedBytes) (given : List Sample) (t : ℕ) → m.kept ≡ Some t → m.query.from ≤ t → m.query.to < t → t < behind m.last → (h : HasGiven bytes m left ps given) → AnswersRead m.source.ty m.query ps left m.source.tail.items given
answers_kept {R} bytes m left ps given t kept from past low h =
    let x : Sample = record { t = t; line = m.kept_line.items } in
    let k = h.kept t kept in
    let keeps : kept_of m.kept m.kept_line.items ≡ x ∷ [] = ap (λ (o : Option ℕ). kept_of o m.kept_line.items) kept in
    let none : answer (kept_of m.kept m.kept_line.items ++ taken_from (behind m.last) []) m.query ≡ [] = step_due_past m.query (behind m.last) x [] (answer (kept_of m.kept m.kept_line.items ++ taken_from (behind m.last) []) m.query) (kept_of m.kept m.kept_line.items) keeps from past low refl in
    record {
      read = h.read;
      are = are_read bytes m.source left ps h.read h.has;
      ends = inr (record { sample = k.0; among = k.1; from = omega (arith, from, k.2); to = omega (arith, past, k.2) });
      is = sym (append-nil given) ∙ ap (λ (l : List Sample). given ++ l) (sym none) ∙ sym (h.so [] (λ a. refl)) ∙ ap (λ (l : List Sample). answer (taken l) m.query) (append-nil h.read);
    }

-- A CALL

-- what was given before, of what was read
pub given_first : {R : Type 0} (bytes : R → List ℕ) (m : Merge R) (s : SampleSource R) (left : ℕ) → m.source ≡ s → m.last ≡ None → m.kept ≡ None → s.piece ≡ None → s.at ≡ 0 → HasGiven bytes m left [] []
given_first {R} bytes m s left source last kept none at =
    let O : Option (OpenPiece R) → Type 0 = λ o. HasReadOpen bytes s.ty o [] in
    let H : SampleSource R → Type 0 = λ v. HasRead bytes v left [] [] in
    record {
      read = [];
      has = subst H (sym source) (record { done = []; lists = []; here = []; to_end = tt; open_is = subst O (sym none) refl; are = ap (λ (o : Option (OpenPiece R)). open_pieces bytes o) (sym none); all = ap (λ (n : ℕ). take n s.tail.items) (sym at); order = inl at });
      kept = λ t is. absurd (not_some m.kept t kept is);
      so = λ more none₂. ap (λ (o : Option ℕ). answer (kept_of o m.kept_line.items ++ taken more) m.query) (sym kept) ∙ ap (λ (o : Option ℕ). answer (kept_of m.kept m.kept_line.items ++ taken_from (behind o) more) m.query) (sym last);
    }

-- what is kept is given, or nothing is
pub given_kept : {R : Type 0} (bytes : R → List ℕ) (m m₂ : Merge R) (left : ℕ) (ps : List NamedBytes) (given : List Sample) (x : Sample) → m₂.source ≡ m.source → m₂.query ≡ m.query → m₂.last ≡ m.last → m₂.kept ≡ None → (h : HasGiven bytes m left ps given)
    → ((more : List Sample) → (HasReadAll bytes m.source left → more ≡ []) → answer (kept_of m.kept m.kept_line.items ++ taken_from (behind m.last) more) m.query ≡ x ∷ answer ([] ++ taken_from (behind m.last) more) m.query) → HasGiven bytes m₂ left ps (given ++ x ∷ [])
given_kept {R} bytes m m₂ left ps given x source query last none h goes =
    let H : SampleSource R → Type 0 = λ v. HasRead bytes v left ps h.read in
    record {
      read = h.read;
      has = subst H (sym source) h.has;
      kept = λ t is. absurd (not_some m₂.kept t none is);
      so = λ more all.
          let A : SampleSource R → Type 0 = λ v. HasReadAll bytes v left → more ≡ [] in
          let before = subst A source all in
          let E : Query → Type 0 = λ q. answer (taken (h.read ++ more)) q ≡ (given ++ x ∷ []) ++ answer (kept_of m₂.kept m₂.kept_line.items ++ taken_from (behind m₂.last) more) q in
          let rest = answer ([] ++ taken_from (behind m.last) more) m.query in
          let same : rest ≡ answer (kept_of m₂.kept m₂.kept_line.items ++ taken_from (behind m₂.last) more) m.query = ap (λ (o : Option ℕ). answer (kept_of o m₂.kept_line.items ++ taken_from (behind m.last) more) m.query) (sym none) ∙ ap (λ (o : Option ℕ). answer (kept_of m₂.kept m₂.kept_line.items ++ taken_from (behind o) more) m.query) (sym last) in
          subst E (sym query) (h.so more before ∙ ap (λ (l : List Sample). given ++ l) (goes more before) ∙ sym (append_assoc given (x ∷ []) rest) ∙ ap (λ (l : List Sample). (given ++ x ∷ []) ++ l) same);
    }

-- all was read since: what was given is of that
pub given_on : {R : Type 0} (bytes : R → List ℕ) (m : Merge R) (s : SampleSource R) (left left₂ : ℕ) (ps ps₂ : List NamedBytes) (given : List Sample) → (HasReadAll bytes s left₂) → (h : HasGiven bytes m left ps given) → HasRead bytes s left₂ ps₂ h.read → HasGiven bytes (record m { source = s }) left₂ ps₂ given
given_on {R} bytes m s left left₂ ps ps₂ given all h has = record {
  read = h.read;
  has = has;
  kept = h.kept;
  so = λ more none.
      let empty = none all in
      let E : List Sample → Type 0 = λ l. answer (taken (h.read ++ l)) m.query ≡ given ++ answer (kept_of m.kept m.kept_line.items ++ taken_from (behind m.last) l) m.query in
      subst E (sym empty) (h.so [] (λ a. refl));
}

due_is : (k : Option ℕ) (l : List ℕ) (x : Sample) (from : ℕ) → kept_of k l ≡ x ∷ [] → IsDue k from → from ≤ x.t
due_is None l x from is due = absurd due
due_is (Some b) l x from is due = let same : b ≡ x.t = cc in omega (arith, same, due)

early_is : (k : Option ℕ) (l : List ℕ) (x : Sample) (from : ℕ) → kept_of k l ≡ x ∷ [] → IsEarly k from → x.t < from
early_is None l x from is early = absurd (cc)
early_is (Some b) l x from is early = let same : b ≡ x.t = cc in omega (arith, same, early)

low_is : (ty : PayloadType) (last k : Option ℕ) (l : List ℕ) (x : Sample) → kept_of k l ≡ x ∷ [] → IsKept ty last k l → x.t < behind last
low_is ty last None l x is kept = absurd (cc)
low_is ty last (Some b) l x is kept = let same : b ≡ x.t = cc in omega (arith, same, kept.1)

module _ {P R : Type 0} (bytes : R → List ℕ) (opened : P → List NamedBytes → P → Type 0) (a : P) (ps : List NamedBytes) where
  -- it is due
  pub due_next : ((x : P) → opened x [] x) → (m m₂ : Merge R) (left : ℕ) (ty : PayloadType) (given : List Sample) (line : List ℕ) (r : Merged R) → m₂.source ≡ m.source → m₂.query ≡ m.query → m₂.last ≡ m.last → m₂.kept ≡ None → IsDue m.kept m.query.from → IsKept ty m.last m.kept m.kept_line.items
      → ((t : ℕ) → r ≡ Line t → (kept_of m.kept m.kept_line.items ≡ record { t = t; line = line } ∷ []) × (t ≤ m.query.to)) → ((t : ℕ) → r ≡ End → m.kept ≡ Some t → m.query.to < t) → IsGiven r → HasGiven bytes m left ps given → GivesNext bytes opened a ps a left m.source.ty m.query m.source.tail.items given m₂ line r
  due_next none m m₂ left ty given line (Line t) source query last empty due kept gives ends is h =
      let x : Sample = record { t = t; line = line } in
      let ks = kept_of m.kept m.kept_line.items in
      let n = behind m.last in
      let gave = gives t refl in
      let Q : List NamedBytes → Type 0 = λ l. HasGiven bytes m₂ left l (given ++ x ∷ []) in
      record {
        more = [];
        were = none a;
        has = subst Q (sym (append-nil ps)) (given_kept bytes m m₂ left ps given x source query last empty h (λ more all. step_due m.query n x more (answer (ks ++ taken_from n more) m.query) ks gave.0 (due_is m.kept m.kept_line.items x m.query.from gave.0 due) gave.1 (low_is ty m.last m.kept m.kept_line.items x gave.0 kept) refl));
      }
  due_next none m m₂ left ty given line End source query last empty due kept gives ends is h =
      let Q : List NamedBytes → Type 0 = λ l. AnswersRead m.source.ty m.query l left m.source.tail.items given in
      ([], none a, subst Q (sym (append-nil ps)) (by m.kept refl))
    where
      by : (o : Option ℕ) → m.kept ≡ o → AnswersRead m.source.ty m.query ps left m.source.tail.items given
      by None same = absurd (let D : Option ℕ → Type 0 = λ o. IsDue o m.query.from in subst D same due)
      by (Some t) same =
          let D : Option ℕ → Type 0 = λ o. IsDue o m.query.from in
          let K : Option ℕ → Type 0 = λ o. IsKept ty m.last o m.kept_line.items in
          answers_kept bytes m left ps given t same (subst D same due) (ends t refl same) (subst K same kept).1 h
  due_next none m m₂ left ty given line (ReadFault f) source query last empty due kept gives ends is h = absurd is
  due_next none m m₂ left ty given line (Damaged name at) source query last empty due kept gives ends is h = absurd is
  due_next none m m₂ left ty given line Spent source query last empty due kept gives ends is h = absurd is
  due_next none m m₂ left ty given line Memory source query last empty due kept gives ends is h = absurd is

  -- all was read
  pub last_next : (b : P) (more : List NamedBytes) (m m₂ : Merge R) (s : SampleSource R) (left left₂ : ℕ) (pieces : List NamedBytes) (ty : PayloadType) (given : List Sample) (line : List ℕ) (r : Merged R) → opened a more b → m₂.source ≡ s → m₂.query ≡ m.query → m₂.last ≡ m.last → m₂.kept ≡ None → s.ty ≡ ty → IsEarly m.kept m.query.from
      → ((t : ℕ) → r ≡ Line t → kept_of m.kept m.kept_line.items ≡ record { t = t; line = line } ∷ []) → (r ≡ End → kept_of m.kept m.kept_line.items ≡ []) → IsGiven r → (h : HasGiven bytes m left pieces given) → HasRead bytes s left₂ (ps ++ more) h.read → HasReadAll bytes s left₂
      → GivesNext bytes opened a ps b left₂ ty m.query s.tail.items given m₂ line r
  last_next b more m m₂ s left left₂ pieces ty given line (Line t) were source query last empty same early gives ends is h has all =
      let x : Sample = record { t = t; line = line } in
      let ks = kept_of m.kept m.kept_line.items in
      let n = behind m.last in
      let on = given_on bytes m s left left₂ pieces (ps ++ more) given all h has in
      record {
        more = more;
        were = were;
        has = given_kept bytes (record m { source = s }) m₂ left₂ (ps ++ more) given x source query last empty on
            (λ rest none.
            let E : List Sample → Type 0 = λ l. answer (ks ++ taken_from n l) m.query ≡ x ∷ answer ([] ++ taken_from n l) m.query in
            subst E (sym (none all)) (step_last m.query n x [] (answer (ks ++ taken_from n []) m.query) ks refl (gives t refl) (early_is m.kept m.kept_line.items x m.query.from (gives t refl) early) refl));
      }
  last_next b more m m₂ s left left₂ pieces ty given line End were source query last empty same early gives ends is h has all =
      let Q : PayloadType → Type 0 = λ y. AnswersRead y m.query (ps ++ more) left₂ s.tail.items given in
      (more, were, subst Q same (answers_all bytes m s left left₂ pieces (ps ++ more) given (ends refl) h has all))
  last_next b more m m₂ s left left₂ pieces ty given line (ReadFault f) were source query last empty same early gives ends is h has all = absurd is
  last_next b more m m₂ s left left₂ pieces ty given line (Damaged name at) were source query last empty same early gives ends is h has all = absurd is
  last_next b more m m₂ s left left₂ pieces ty given line Spent were source query last empty same early gives ends is h has all = absurd is
  last_next b more m m₂ s left left₂ pieces ty given line Memory were source query last empty same early gives ends is h has all = absurd is

  -- one came that isn't earlier than the interval
  pub give_next : (b : P) (more : List NamedBytes) (m m₂ : Merge R) (s : SampleSource R) (left left₂ : ℕ) (pieces : List NamedBytes) (ty : PayloadType) (given : List Sample) (t : ℕ) (own line : List ℕ) (r : Merged R) → opened a more b → m₂.source ≡ s → m₂.query ≡ m.query → m₂.last ≡ Some t → s.ty ≡ ty → behind m.last ≤ t → m.query.from ≤ t → IsEarly m.kept m.query.from
      → Gives m.query.to m.kept t m₂.kept r → (IsSome m.kept → (line ≡ m.kept_line.items) × (m₂.kept_line.items ≡ own)) → (m.kept ≡ None → line ≡ own) → (h : HasGiven bytes m left pieces given) → HasRead bytes s left₂ (ps ++ more) (h.read ++ record { t = t; line = own } ∷ []) → (HasReadAll bytes m.source left → ⊥)
      → GivesNext bytes opened a ps b left₂ ty m.query s.tail.items given m₂ line r
  give_next b more m m₂ s left left₂ pieces ty given t own line r were source query last same low from early gives swapped stays h has some = by m.kept refl gives
    where
      x : Sample
      x = record { t = t; line = own }

      G : Merged R → Type 0
      G k = GivesNext bytes opened a ps b left₂ ty m.query s.tail.items given m₂ line k

      ks : List Sample
      ks = kept_of m.kept m.kept_line.items

      n : ℕ
      n = behind m.last

      all_of : List Sample → List Sample
      all_of more_of = answer (ks ++ taken_from n (x ∷ more_of)) m.query

      by : (o : Option ℕ) → m.kept ≡ o → Gives m.query.to o t m₂.kept r → G r
      by None is g =
          let keeps : ks ≡ [] = ap (λ (o : Option ℕ). kept_of o m.kept_line.items) is in
          let K : List Sample → Type 0 = λ l. (rest : List Sample) → answer (l ++ taken_from n (x ∷ rest)) m.query ≡ answer ([] ++ taken_from n (x ∷ rest)) m.query in
          let first = subst K (sym keeps) (λ rest. refl) in
          elim (cases_lt m.query.to t) [
            | inl past ↦
                (let Q : PayloadType → Type 0 = λ y. AnswersRead y m.query (ps ++ more) left₂ s.tail.items given in
                subst G (sym (g.2 past))
                (more, were, subst Q same (answers_past bytes m s left left₂ pieces (ps ++ more) given x h has some from past (first [] ∙ step_past m.query n x [] (x ∷ []) (answer ([] ++ taken_from n (x ∷ [])) m.query) refl low from past refl))))
            | inr within ↦
                (let L : List ℕ → Type 0 = λ l. HasGiven bytes m₂ left₂ (ps ++ more) (given ++ record { t = t; line = l } ∷ []) in
                subst G (sym (g.1 within)) (record {
                  more = more;
                  were = were;
                  has = subst L (sym (stays is)) (given_step bytes m m₂ s left left₂ pieces (ps ++ more) given (x ∷ []) [] (t + 1) x source query (ap behind last) (ap (λ (o : Option ℕ). kept_of o m₂.kept_line.items) g.0) h has some (λ u some₂. absurd (not_some m₂.kept u g.0 some₂))
                      (λ rest. first rest ∙ step_within m.query n x rest (x ∷ rest) (answer ([] ++ taken_from n (x ∷ rest)) m.query) refl low from within refl));
                }))
          ]
      by (Some before) is g =
          let was : Sample = record { t = before; line = m.kept_line.items } in
          let S : Option ℕ → Type 0 = IsSome in
          let lines = swapped (subst S (sym is) refl) in
          let keeps : ks ≡ kept_of (Some before) m.kept_line.items = ap (λ (o : Option ℕ). kept_of o m.kept_line.items) is in
          let now : kept_of m₂.kept m₂.kept_line.items ≡ x ∷ [] = ap (λ (o : Option ℕ). kept_of o m₂.kept_line.items) g.0 ∙ ap (λ (l : List ℕ). record { t = t; line = l } ∷ []) lines.1 in
          let E : Option ℕ → Type 0 = λ o. IsEarly o m.query.from in
          let L : List ℕ → Type 0 = λ l. HasGiven bytes m₂ left₂ (ps ++ more) (given ++ record { t = before; line = l } ∷ []) in
          subst G (sym g.1) (record {
            more = more;
            were = were;
            has = subst L (sym lines.0) (given_step bytes m m₂ s left left₂ pieces (ps ++ more) given (was ∷ []) (x ∷ []) (t + 1) x source query (ap behind last) now h has some (λ u some₂. inr (some_is t u (sym g.0 ∙ some₂)))
                (λ rest. step_held m.query n before m.kept_line.items x rest (x ∷ rest) (all_of rest) refl low from (subst E is early) (ap (λ (l : List Sample). answer (l ++ taken_from n (x ∷ rest)) m.query) keeps)));
          })

  -- a call failed
  pub gives_none : (b : P) (left : ℕ) (m₂ : Merge R) (ty : PayloadType) (q : Query) (tail given : List Sample) (line : List ℕ) (r : Merged R) → ((t : ℕ) → r ≡ Line t → ⊥) → (r ≡ End → ⊥) → GivesNext bytes opened a ps b left ty q tail given m₂ line r
  gives_none b left m₂ ty q tail given line (Line t) none more = absurd (none t refl)
  gives_none b left m₂ ty q tail given line End none more = absurd (more refl)
  gives_none b left m₂ ty q tail given line (ReadFault f) none more = tt
  gives_none b left m₂ ty q tail given line (Damaged name at) none more = tt
  gives_none b left m₂ ty q tail given line Spent none more = tt
  gives_none b left m₂ ty q tail given line Memory none more = tt
