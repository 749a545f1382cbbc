-- How far an extraction has come.
use Rattle.std.proofs.Common.{◌≡◌, ℕ, ◌+◌, ◌⊎◌, inl, inr, List, [], ◌∷◌, ◌++◌, Bool, true, false, Option, Some, None, Result, Ok, Err, arith, refl, sym, ap, ◌∙◌, subst, append_assoc}
use Rattle.std.specs.Prelude.{IfSome, IsSome, OnOk, OnErr, is_err, if◌then◌else◌}
use Rattle.std.specs.Io.KnownBytes.{Appends}
use Rattle.std.proofs.KnownBytes.{Appends-trans, Appends-nil}
use Rattle.std.proofs.lemmas.List.{append-nil}
use Rattle.edge_io.specs.Stream.{AppendsFront}
use Rattle.series_model.specs.declared.sample.Sample.{Sample}
use Rattle.series_model.specs.declared.sample.Query.{Query}
use Rattle.series_model.specs.Series.{taken}
use Rattle.series_model.specs.Retrieval.{answer}
use Rattle.pb_messages.specs.declared.info.PayloadInfo.{PayloadInfo}
use Rattle.pb_lines.specs.declared.reader.ChunkItem.TheVariants as it
use Rattle.pb_lines.specs.Stream.{Item, header, sample, chunk_end, Section, Stop, first_section, between}
use Rattle.pb_lines.specs.Reader.{Chunks, Passes, Stops, ReadsItem, ReadsLine, IsFresh, to_come, lines_taken, bytes_taken}
use Rattle.pb_lines.proofs.Whole.{every_stream}
use Rattle.pb_lines.proofs.Passing.{passes_join, nothing_read, fresh_before, fresh_holds}
use Rattle.command_words.specs.declared.status.Status.{Status}
use Rattle.command_words.specs.declared.status.Status.TheVariants.{SinkFault}
use Rattle.stream_extract.specs.Extract.{lines_text, known, Before, nothing, chunks, samples, text_behind, extracted}
use Rattle.stream_extract.specs.Answer.{Answering, Covers, Adds, Takes}
use Rattle.stream_extract.specs.Text.{WritesAll, WritesFront, Extracts, IsFlushed}
use Rattle.command_words.proofs.Fronts.{front_of}
use Rattle.stream_extract.proofs.Answers.{known_more, held_more}

-- where the reader stands, by what stands before the next item
abbrev pub Stands : Before → Section → Answering → Type 0
Stands nothing s a = s ≡ first_section
Stands chunks s a = s ≡ between
Stands (samples xs) s a = IsSome s.chunk × (s.begun ≡ true) × Covers a xs

-- From the sink's a to b, and the reader's old to new: some items were read, and their text was written but for what is gathered.
pub record Progress (q : Query) (a b : Option (List ℕ)) (old new : Chunks) (before after : Option (List ℕ)) (gathered : List ℕ) (later : Bool) (answering : Answering) : Type 0 where
  pub items : List Item
  pub passed : Passes old new before after items
  pub out : List ℕ
  pub written : Appends a b out
  pub mode : Before
  pub stands : Stands mode new.section answering
  pub marked : later ≡ new.section.begun
  pub query : answering.query ≡ q
  -- the text of the items before the mode's
  pub text : List ℕ
  pub split : out ++ gathered ≡ text ++ text_behind q mode []
  pub so_far : (rest : List Item) → extracted q (items ++ rest) ≡ text ++ text_behind q mode rest

-- THE STEPS

pub starts : (q : Query) (a : Option (List ℕ)) (c : Chunks) (left : Option (List ℕ)) (answering : Answering) → IsFresh c → answering.query ≡ q → Progress q a a c c left (to_come c left) [] false answering
starts q a c left answering fresh query =
    let first = ap (λ (c : Chunks). c.section) fresh in
    let P : Option (List ℕ) → Type 0 = λ all. Progress q a a c c all (to_come c left) [] false answering in
    subst P (fresh_before c left fresh) (record {
      items = [];
      passed = nothing_read c (to_come c left);
      out = [];
      written = Appends-nil a;
      mode = nothing;
      stands = first;
      marked = sym (ap (λ (s : Section). s.begun) first);
      query = query;
      text = [];
      split = refl;
      so_far = λ rest. refl;
    })

-- what was gathered was written
pub flushed : (q : Query) (a b b' : Option (List ℕ)) (old new : Chunks) (before after : Option (List ℕ)) (gathered : List ℕ) (later : Bool) (answering : Answering) → Progress q a b old new before after gathered later answering → Appends b b' gathered → Progress q a b' old new before after [] later answering
flushed q a b b' old new before after gathered later answering p w =
    record {
      items = p.items;
      passed = p.passed;
      out = p.out ++ gathered;
      written = Appends-trans a b b' p.out gathered p.written w;
      mode = p.mode;
      stands = p.stands;
      marked = p.marked;
      query = p.query;
      text = p.text;
      split = append-nil (p.out ++ gathered) ∙ p.split;
      so_far = p.so_far;
    }

-- what was gathered was written, or is still gathered
flushed_or_kept : (q : Query) (a b b' : Option (List ℕ)) (old new : Chunks) (before after : Option (List ℕ)) (gathered left : List ℕ) (later : Bool) (answering : Answering) → Progress q a b old new before after gathered later answering → IsFlushed b b' gathered left → Progress q a b' old new before after left later answering
flushed_or_kept q a b b' old new before after gathered left later answering p (inl f) =
    let P : List ℕ → Type 0 = λ left. Progress q a b' old new before after left later answering in
    subst P (sym f.1) (flushed q a b b' old new before after gathered later answering p f.0)
flushed_or_kept q a b b' old new before after gathered left later answering p (inr f) =
    let P : List ℕ → Type 0 = λ left. Progress q a b' old new before after left later answering in
    let Q : Option (List ℕ) → Type 0 = λ b. Progress q a b old new before after gathered later answering in
    subst P (sym f.1) (subst Q (sym f.0) p)

pub on_ok : {A E : Type 0} (r : Result A E) (P : Type 0) → false ≡ is_err r → OnOk r P → P
on_ok (Ok x) P is h = h
on_ok (Err e) P is h = cc

pub on_err : {A E : Type 0} (r : Result A E) (P : Type 0) → true ≡ is_err r → OnErr r P → P
on_err (Ok x) P is h = cc
on_err (Err e) P is h = h

-- before a line is read what was gathered was written, or is still gathered
pub read_from : {A E : Type 0} {q : Query} {a s : Option (List ℕ)} {old mid : Chunks} {before middle : Option (List ℕ)} {out : List ℕ} {later : Bool} {answering : Answering} (b : Option (List ℕ)) (gathered : List ℕ) (r : Result A E)
    → Progress q a s old mid before middle out later answering → false ≡ is_err r → OnOk r (IsFlushed s b out gathered) → Progress q a b old mid before middle gathered later answering
read_from {A} {E} {q} {a} {s} {old} {mid} {before} {middle} {out} {later} {answering} b gathered r p is flushed = flushed_or_kept q a s b old mid before middle out gathered later answering p (on_ok r (IsFlushed s b out gathered) is flushed)

-- a line was skipped
pub skipped : (q : Query) (a b : Option (List ℕ)) (old mid new : Chunks) (before middle after : Option (List ℕ)) (gathered : List ℕ) (later : Bool) (answering : Answering) → Progress q a b old mid before middle gathered later answering → ReadsLine mid new middle after None → Progress q a b old new before after gathered later answering
skipped q a b old mid new before middle after gathered later answering p h =
    let S : Section → Type 0 = λ s. Stands p.mode s answering in
    let P : List Item → Type 0 = λ items. Passes old new before after items in
    record {
      items = p.items;
      passed = subst P (append-nil p.items) (passes_join old mid new before middle after p.items [] p.passed h.1);
      out = p.out;
      written = p.written;
      mode = p.mode;
      stands = subst S (sym h.0) p.stands;
      marked = p.marked ∙ sym (ap (λ (s : Section). s.begun) h.0);
      query = p.query;
      text = p.text;
      split = p.split;
      so_far = p.so_far;
    }

none_inside : (o : Option PayloadInfo) → o ≡ None → IsSome o → ⊥
none_inside None h k = cc
none_inside (Some i) h k = cc

header_in : (q : Query) (mode : Before) (s : Section) (answering : Answering) (later : Bool) (info : PayloadInfo) (line : List ℕ) (rest : List Item) → Stands mode s answering → s.chunk ≡ None → later ≡ s.begun → text_behind q mode (header info line ∷ rest) ≡ ((if later then 10 ∷ [] else []) ++ (line ++ 10 ∷ [])) ++ text_behind q (samples []) rest
header_in q nothing s answering later info line rest stands outside is =
    let first : later ≡ false = is ∙ ap (λ (s : Section). s.begun) stands in
    rw first (sym (append_assoc line (10 ∷ []) (text_behind q (samples []) rest)))
header_in q chunks s answering later info line rest stands outside is =
    let second : later ≡ true = is ∙ ap (λ (s : Section). s.begun) stands in
    rw second (ap (λ (u : List ℕ). 10 ∷ u) (sym (append_assoc line (10 ∷ []) (text_behind q (samples []) rest))))
header_in q (samples xs) s answering later info line rest stands outside is = absurd (none_inside s.chunk outside stands.0)

none_emitted : (q : Query) (mode : Before) (s : Section) (answering : Answering) → Stands mode s answering → s.chunk ≡ None → text_behind q mode [] ≡ []
none_emitted q nothing s answering stands outside = refl
none_emitted q chunks s answering stands outside = refl
none_emitted q (samples xs) s answering stands outside = absurd (none_inside s.chunk outside stands.0)

-- a header was read
pub headed : (q : Query) (a b : Option (List ℕ)) (old mid new : Chunks) (before middle after : Option (List ℕ)) (gathered more : List ℕ) (later : Bool) (answering begun : Answering) → Progress q a b old mid before middle gathered later answering → ReadsItem mid new middle after it.Header → Covers begun [] → begun.query ≡ answering.query → more ≡ gathered ++ ((if later then 10 ∷ [] else []) ++ (new.lines.line ++ 10 ∷ [])) → Progress q a b old new before after more true begun
headed q a b old mid new before middle after gathered more later answering begun p h covers query grown =
    let line = new.lines.line in
    let added = (if later then 10 ∷ [] else []) ++ (line ++ 10 ∷ []) in
    let item = header h.0 line in
    let outside = h.5 in
    record {
      items = p.items ++ item ∷ [];
      passed = passes_join old mid new before middle after p.items (item ∷ []) p.passed h.2;
      out = p.out;
      written = p.written;
      mode = samples [];
      stands = (rw (ap (λ (s : Section). s.chunk) h.1) refl, ap (λ (s : Section). s.begun) h.1, covers);
      marked = sym (ap (λ (s : Section). s.begun) h.1);
      query = query ∙ p.query;
      text = p.text ++ added;
      split =
          let none : p.out ++ gathered ≡ p.text = p.split ∙ ap (λ (u : List ℕ). p.text ++ u) (none_emitted q p.mode mid.section answering p.stands outside) ∙ append-nil p.text in
          rw grown (sym (append_assoc p.out gathered added) ∙ ap (λ (u : List ℕ). u ++ added) none ∙ sym (append-nil (p.text ++ added)));
      so_far = λ rest.
          ap (λ (all : List Item). extracted q all) (append_assoc p.items (item ∷ []) rest) ∙ p.so_far (item ∷ rest)
          ∙ ap (λ (u : List ℕ). p.text ++ u) (header_in q p.mode mid.section answering later h.0 line rest p.stands outside p.marked)
          ∙ sym (append_assoc p.text added (text_behind q (samples []) rest));
    }

-- within a chunk there are its samples so far
pub inside_mode : (mode : Before) (s : Section) (answering : Answering) → Stands mode s answering → IsSome s.chunk → (xs : List Sample) × (mode ≡ samples xs)
inside_mode nothing s answering stands inside = absurd (none_inside s.chunk (ap (λ (s : Section). s.chunk) stands) inside)
inside_mode chunks s answering stands inside = absurd (none_inside s.chunk (ap (λ (s : Section). s.chunk) stands) inside)
inside_mode (samples xs) s answering stands inside = (xs, refl)

-- a sample was read
pub sampled : (q : Query) (a b : Option (List ℕ)) (old mid new : Chunks) (before middle after : Option (List ℕ)) (gathered more : List ℕ) (later : Bool) (answering next : Answering) (t : ℕ) → Progress q a b old mid before middle gathered later answering → ReadsItem mid new middle after (it.Sample t) → Takes answering next (record { t = t; line = new.lines.line }) gathered more → next.query ≡ answering.query → Progress q a b old new before after more later next
sampled q a b old mid new before middle after gathered more later answering next t p h takes query =
    let x : Sample = record { t = t; line = new.lines.line } in
    let item = sample x in
    let m = inside_mode p.mode mid.section answering p.stands h.4 in
    let xs = m.0 in
    let S : Before → Type 0 = λ mode. Stands mode mid.section answering in
    let stands = subst S m.1 p.stands in
    let k = takes xs stands.2 in
    let A : Query → Type 0 = λ q. Adds (lines_text (known q xs)) (lines_text (known q (xs ++ x ∷ []))) gathered more in
    let adds = subst A p.query k.1 in
    record {
      items = p.items ++ item ∷ [];
      passed = passes_join old mid new before middle after p.items (item ∷ []) p.passed h.1;
      out = p.out;
      written = p.written;
      mode = samples (xs ++ x ∷ []);
      stands = (rw h.0 stands.0, rw h.0 stands.1, k.0);
      marked = p.marked ∙ sym (ap (λ (s : Section). s.begun) h.0);
      query = query ∙ p.query;
      text = p.text;
      split =
          let was : p.out ++ gathered ≡ p.text ++ lines_text (known q xs) = p.split ∙ ap (λ (mode : Before). p.text ++ text_behind q mode []) m.1 in
          rw (adds.2, adds.1) (sym (append_assoc p.out gathered adds.0) ∙ ap (λ (u : List ℕ). u ++ adds.0) was ∙ append_assoc p.text (lines_text (known q xs)) adds.0);
      so_far = λ rest.
          ap (λ (all : List Item). extracted q all) (append_assoc p.items (item ∷ []) rest) ∙ p.so_far (item ∷ rest) ∙ ap (λ (mode : Before). p.text ++ text_behind q mode (item ∷ rest)) m.1;
    }

-- a chunk's end was read
pub finished : (q : Query) (a b : Option (List ℕ)) (old mid new : Chunks) (before middle after : Option (List ℕ)) (gathered more : List ℕ) (later : Bool) (answering next : Answering) → Progress q a b old mid before middle gathered later answering → ReadsItem mid new middle after it.ChunkEnd → ((xs : List Sample) → Covers answering xs → Adds (lines_text (known answering.query xs)) (lines_text (answer (taken xs) answering.query)) gathered more) → next.query ≡ answering.query → Progress q a b old new before after more later next
finished q a b old mid new before middle after gathered more later answering next p h adds query =
    let m = inside_mode p.mode mid.section answering p.stands h.4 in
    let xs = m.0 in
    let S : Before → Type 0 = λ mode. Stands mode mid.section answering in
    let stands = subst S m.1 p.stands in
    let A : Query → Type 0 = λ q. Adds (lines_text (known q xs)) (lines_text (answer (taken xs) q)) gathered more in
    let k = subst A p.query (adds xs stands.2) in
    let whole = lines_text (answer (taken xs) q) in
    record {
      items = p.items ++ chunk_end ∷ [];
      passed = passes_join old mid new before middle after p.items (chunk_end ∷ []) p.passed h.1;
      out = p.out;
      written = p.written;
      mode = chunks;
      stands = h.0;
      marked = p.marked ∙ stands.1 ∙ sym (ap (λ (s : Section). s.begun) h.0);
      query = query ∙ p.query;
      text = p.text ++ whole;
      split =
          let was : p.out ++ gathered ≡ p.text ++ lines_text (known q xs) = p.split ∙ ap (λ (mode : Before). p.text ++ text_behind q mode []) m.1 in
          rw k.2 (sym (append_assoc p.out gathered k.0) ∙ ap (λ (u : List ℕ). u ++ k.0) was ∙ append_assoc p.text (lines_text (known q xs)) k.0 ∙ ap (λ (u : List ℕ). p.text ++ u) (sym k.1) ∙ sym (append-nil (p.text ++ whole)));
      so_far = λ rest.
          ap (λ (all : List Item). extracted q all) (append_assoc p.items (chunk_end ∷ []) rest) ∙ p.so_far (chunk_end ∷ rest) ∙ ap (λ (mode : Before). p.text ++ text_behind q mode (chunk_end ∷ rest)) m.1 ∙ sym (append_assoc p.text whole (text_behind q chunks rest));
    }

-- THE ENDS

-- What is known so far is a front of the text, whatever follows.
front_known : (q : Query) (mode : Before) (rest : List Item) → (more : List ℕ) × (text_behind q mode rest ≡ text_behind q mode [] ++ more)
front_known q (samples xs) [] = ([], sym (append-nil (lines_text (known q xs))))
front_known q (samples xs) (header info line ∷ rest) = front_known q (samples xs) rest
front_known q (samples xs) (sample x ∷ rest) =
    let behind = front_known q (samples (xs ++ x ∷ [])) rest in
    let more = known_more q xs x in
    (more.0 ++ behind.0, behind.1 ∙ ap (λ (u : List ℕ). u ++ behind.0) more.1 ∙ append_assoc (lines_text (known q xs)) more.0 behind.0)
front_known q (samples xs) (chunk_end ∷ rest) =
    let more = held_more q xs in
    (more.0 ++ text_behind q chunks rest, ap (λ (u : List ℕ). u ++ text_behind q chunks rest) more.1 ∙ append_assoc (lines_text (known q xs)) more.0 (text_behind q chunks rest))
front_known q nothing rest = (text_behind q nothing rest, refl)
front_known q chunks rest = (text_behind q chunks rest, refl)

-- where nothing was read or written yet
pub nothing_written : (q : Query) (a left : Option (List ℕ)) → IfSome left (WritesFront q a a)
nothing_written q a None = tt
nothing_written q a (Some xs) =
    let s = every_stream first_section 0 0 xs in
    (s.0, s.1, s.2, (0, omega arith, Appends-nil a))

-- wherever it ends, a front of the text was written
pub writes_front : (q : Query) (a b b' : Option (List ℕ)) (old new : Chunks) (before after : Option (List ℕ)) (gathered : List ℕ) (later : Bool) (answering : Answering) → IsFresh old → Progress q a b old new before after gathered later answering → AppendsFront b b' gathered → IfSome before (WritesFront q a b')
writes_front q a b b' old new None after gathered later answering fresh p f = tt
writes_front q a b b' old new (Some xs) None gathered later answering fresh p f = absurd p.passed
writes_front q a b b' old new (Some xs) (Some ys) gathered later answering fresh p f =
    let still = every_stream new.section (lines_taken new) (bytes_taken new) ys in
    let known = front_known q p.mode still.0 in
    let text : extracted q (p.items ++ still.0) ≡ (p.out ++ gathered) ++ known.0 =
    p.so_far still.0 ∙ ap (λ (u : List ℕ). p.text ++ u) known.1 ∙ sym (append_assoc p.text (text_behind q p.mode []) known.0) ∙ ap (λ (u : List ℕ). u ++ known.0) (sym p.split) in
    (p.items ++ still.0, still.1, fresh_holds old xs (p.items ++ still.0) still.1 fresh (p.passed still.0 still.1 still.2), front_of a b b' p.out gathered known.0 (extracted q (p.items ++ still.0)) p.written f text)

-- where the stream stops, the whole text was written
writes_all : (q : Query) (stop : Stop) (a b b' : Option (List ℕ)) (old new : Chunks) (before after : Option (List ℕ)) (gathered : List ℕ) (later : Bool) (answering : Answering) → IsFresh old → Progress q a b old new before after gathered later answering → Stops new after stop → Appends b b' gathered → IfSome before (WritesAll q stop a b')
writes_all q stop a b b' old new None after gathered later answering fresh p stops f = tt
writes_all q stop a b b' old new (Some xs) None gathered later answering fresh p stops f = absurd p.passed
writes_all q stop a b b' old new (Some xs) (Some ys) gathered later answering fresh p stops f =
    let text : extracted q (p.items ++ []) ≡ p.out ++ gathered = p.so_far [] ∙ sym p.split in
    (p.items ++ [], fresh_holds old xs (p.items ++ []) stop fresh (p.passed [] stop stops), rw text (Appends-trans a b b' p.out gathered p.written f))

-- The sink's fault stands in place of what ended the input.
ended_extracts : (q : Query) (source a b : Option (List ℕ)) (status result : Status) → (result ≡ status) ⊎ (result ≡ SinkFault) → (result ≡ status → Extracts q source a b status) → IfSome source (WritesFront q a b) → Extracts q source a b result
ended_extracts q source a b status result (inl is) all front = let P : Status → Type 0 = λ s. Extracts q source a b s in subst P (sym is) (all is)
ended_extracts q source a b status result (inr is) all front = let P : Status → Type 0 = λ s. Extracts q source a b s in subst P (sym is) front

-- What was gathered last was written, all of it or a front, once the reading ended.
module _ {q : Query} {a b : Option (List ℕ)} {old mid : Chunks} {before middle : Option (List ℕ)} {gathered : List ℕ} {later : Bool} {answering : Answering} (fresh : IsFresh old) (p : Progress q a b old mid before middle gathered later answering)
    (b' : Option (List ℕ)) (out : List ℕ) (same : out ≡ gathered) (front : AppendsFront b b' out) (status result : Status) (is : (result ≡ status) ⊎ (result ≡ SinkFault)) where
  front_written : IfSome before (WritesFront q a b')
  front_written = writes_front q a b b' old mid before middle gathered later answering fresh p (subst (AppendsFront b b') same front)

  -- before the stream's end
  pub ended_early : (IfSome before (WritesFront q a b') → Extracts q before a b' status) → Extracts q before a b' result
  ended_early early = ended_extracts q before a b' status result is (λ equal. early front_written) front_written

  -- at the stream's end, or at its first bad line
  pub ended_whole : (stop : Stop) → Stops mid middle stop → (result ≡ status → Appends b b' out) → (IfSome before (WritesAll q stop a b') → Extracts q before a b' status) → Extracts q before a b' result
  ended_whole stop stops all whole = ended_extracts q before a b' status result is (λ equal. whole (writes_all q stop a b b' old mid before middle gathered later answering fresh p stops (subst (Appends b b') same (all equal)))) front_written
