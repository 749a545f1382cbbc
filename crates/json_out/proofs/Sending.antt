-- How much of a text went out, call by call.
use Rattle.std.proofs.Common.{◌≡◌, ℕ, Bool, true, List, [], ◌∷◌, ◌++◌, Option, Some, Ok, codes, if◌then◌else◌, refl, sym, ap, ◌∙◌, subst, append_assoc}
use Rattle.std.specs.Io.KnownBytes.{Appends}
use Rattle.std.proofs.lemmas.List.{append-nil}
use Rattle.edge_io.specs.Stream.{AppendsFront}
use Rattle.edge_io.specs.Sent.{Sends}
use Rattle.edge_io.proofs.Sending.{front_then, front_longer, sends_then, all_out, front_out}
use Rattle.series_model.specs.declared.sample.Sample.{Sample}
use Rattle.pb_wire.specs.declared.payload.PayloadType.{PayloadType}
use Rattle.pb_messages.specs.declared.about.About.{About}
use Rattle.pb_messages.specs.declared.event.Event.{Event}
use Rattle.act_model.specs.Out.{Subject}
use Rattle.json_out.specs.Line.{event_in}
use Rattle.json_out.specs.Json.{read_text, sample_text, samples_text, event_text, head_text, begun_text, json}
use Rattle.json_out.specs.Writing.{has_samples, Gives, Breaks}
use Rattle.json_out.specs.Fronts.{front_of, json_rest}
use Rattle.json_out.proofs.Texts.{separated_more}

-- THE BEGINNING

-- the text as far as no sample is what stands before the samples
begun_none : (name : List ℕ) (about : About) → head_text name about.headers ≡ begun_text name about []
begun_none name about = sym (append-nil (head_text name about.headers))

pub begin_broken : (a b : Option (List ℕ)) (old piece : List ℕ) (subject : Subject) (all : List Sample) → piece ≡ head_text subject.name subject.about.headers
    → AppendsFront a b (old ++ piece) → Breaks a b old subject all
begin_broken a b old piece subject all is front =
    let rest = json_rest subject.name subject.about [] all in
    let whole : old ++ json subject.name subject.about all ≡ (old ++ piece) ++ rest.0 =
    ap (λ (u : List ℕ). old ++ u) (rest.1 ∙ ap (λ (u : List ℕ). u ++ rest.0) (sym (is ∙ begun_none subject.name subject.about))) ∙ sym (append_assoc old piece rest.0) in
    front_of a b (old ++ json subject.name subject.about all) ((old ++ piece) ++ rest.0) whole (front_longer a b (old ++ piece) rest.0 front)

-- a piece that was put into an empty buffer
pub put_alone : (piece items old text : List ℕ) → piece ≡ items → items ≡ old ++ text → old ≡ [] → piece ≡ text
put_alone piece items old text is put empty = is ∙ put ∙ ap (λ (u : List ℕ). u ++ text) empty

-- A SAMPLE

-- an event of one type, by another name of it
pub of_type : (kept : Option PayloadType) (ty asked : PayloadType) (line : List ℕ) (event : Event) → kept ≡ Some ty → kept ≡ Some asked → event_in ty line ≡ Ok event → event_in asked line ≡ Ok event
of_type kept ty asked line event one two is =
    let same : Some ty ≡ Some asked = sym one ∙ two in
    let both : ty ≡ asked = cc in
    let P : PayloadType → Type 0 = λ k. event_in k line ≡ Ok event in
    subst P both is

-- the text with one more sample
more_text : (subject : Subject) (xs : List Sample) (s : Sample) (later : Bool) (event : Event) → later ≡ has_samples xs → event_in subject.about.ty s.line ≡ Ok event
    → begun_text subject.name subject.about (xs ++ s ∷ []) ≡ begun_text subject.name subject.about xs ++ ((if later then codes "," else []) ++ event_text s.t event)
more_text subject xs s later event more is =
    let head = head_text subject.name subject.about.headers in
    let ty = subject.about.ty in
    let text : sample_text ty s ≡ event_text s.t event = ap (read_text s.t) is in
    ap (λ (u : List ℕ). head ++ u) (separated_more (sample_text ty) xs s
    ∙ ap (λ (u : List ℕ). samples_text ty xs ++ ((if has_samples xs then codes "," else []) ++ u)) text
    ∙ ap (λ (later : Bool). samples_text ty xs ++ ((if later then codes "," else []) ++ event_text s.t event)) (sym more))
    ∙ sym (append_assoc head (samples_text ty xs) ((if later then codes "," else []) ++ event_text s.t event))

has_more : (xs : List Sample) (s : Sample) → true ≡ has_samples (xs ++ s ∷ [])
has_more [] s = refl
has_more (x ∷ xs) s = refl

pub given : (a b c : Option (List ℕ)) (old mid new piece : List ℕ) (ty kept : Option PayloadType) (later : Bool) (subject : Subject) (xs : List Sample) (s : Sample) (event : Event)
    → Gives a b old mid ty later subject xs → event_in subject.about.ty s.line ≡ Ok event → piece ≡ (if later then codes "," else []) ++ event_text s.t event → kept ≡ ty
    → Sends b c (mid ++ piece) new → Gives a c old new kept true subject (xs ++ s ∷ [])
given a b c old mid new piece ty kept later subject xs s event gives is put same sent =
    let before = begun_text subject.name subject.about xs in
    let text : (old ++ before) ++ piece ≡ old ++ begun_text subject.name subject.about (xs ++ s ∷ []) =
    append_assoc old before piece ∙ ap (λ (u : List ℕ). old ++ u) (ap (λ (u : List ℕ). before ++ u) put ∙ sym (more_text subject xs s later event gives.more is)) in
    let P : List ℕ → Type 0 = λ u. Sends a c u new in
    record {
      kind = same ∙ gives.kind;
      more = has_more xs s;
      sent = subst P text (sends_then a b c (old ++ before) mid piece new gives.sent sent);
    }

pub sample_broken : (a b c : Option (List ℕ)) (old mid piece : List ℕ) (ty : Option PayloadType) (later : Bool) (subject : Subject) (xs : List Sample) (s : Sample) (more : List Sample) (event : Event)
    → Gives a b old mid ty later subject xs → event_in subject.about.ty s.line ≡ Ok event → piece ≡ (if later then codes "," else []) ++ event_text s.t event
    → AppendsFront b c (mid ++ piece) → Breaks a c old subject (xs ++ s ∷ more)
sample_broken a b c old mid piece ty later subject xs s more event gives is put front =
    let before = begun_text subject.name subject.about xs in
    let rest = json_rest subject.name subject.about (xs ++ s ∷ []) more in
    let text : (old ++ before) ++ piece ≡ old ++ begun_text subject.name subject.about (xs ++ s ∷ []) =
    append_assoc old before piece ∙ ap (λ (u : List ℕ). old ++ u) (ap (λ (u : List ℕ). before ++ u) put ∙ sym (more_text subject xs s later event gives.more is)) in
    let out : AppendsFront a c ((old ++ before) ++ piece) = front_of a c ((old ++ before) ++ piece) (gives.sent.0 ++ (mid ++ piece)) (ap (λ (u : List ℕ). u ++ piece) gives.sent.1 ∙ append_assoc gives.sent.0 mid piece) (front_then a b c gives.sent.0 (mid ++ piece) gives.sent.2 front) in
    let whole : old ++ json subject.name subject.about (xs ++ s ∷ more) ≡ ((old ++ before) ++ piece) ++ rest.0 =
    ap (λ (u : List Sample). old ++ json subject.name subject.about u) (sym (append_assoc xs (s ∷ []) more))
    ∙ ap (λ (u : List ℕ). old ++ u) rest.1
    ∙ sym (append_assoc old (begun_text subject.name subject.about (xs ++ s ∷ [])) rest.0)
    ∙ ap (λ (u : List ℕ). u ++ rest.0) (sym text) in
    front_of a c (old ++ json subject.name subject.about (xs ++ s ∷ more)) (((old ++ before) ++ piece) ++ rest.0) whole (front_longer a c ((old ++ before) ++ piece) rest.0 out)

-- THE END

pub finished : (a b c d : Option (List ℕ)) (old mid new : List ℕ) (ty : Option PayloadType) (later : Bool) (subject : Subject) (xs : List Sample)
    → Gives a b old mid ty later subject xs → Sends b c (mid ++ codes "]}]\n") new → Appends c d new → Appends a d (old ++ json subject.name subject.about xs)
finished a b c d old mid new ty later subject xs gives sent all =
    let before = begun_text subject.name subject.about xs in
    let P : List ℕ → Type 0 = λ u. Appends a d u in
    subst P (append_assoc old before (codes "]}]\n")) (all_out a c d ((old ++ before) ++ codes "]}]\n") new (sends_then a b c (old ++ before) mid (codes "]}]\n") new gives.sent sent) all)

pub end_broken : (a b c : Option (List ℕ)) (old mid : List ℕ) (ty : Option PayloadType) (later : Bool) (subject : Subject) (xs : List Sample)
    → Gives a b old mid ty later subject xs → AppendsFront b c (mid ++ codes "]}]\n") → Breaks a c old subject xs
end_broken a b c old mid ty later subject xs gives front =
    let before = begun_text subject.name subject.about xs in
    let end = codes "]}]\n" in
    let out : AppendsFront a c ((old ++ before) ++ end) = front_of a c ((old ++ before) ++ end) (gives.sent.0 ++ (mid ++ end)) (ap (λ (u : List ℕ). u ++ end) gives.sent.1 ∙ append_assoc gives.sent.0 mid end) (front_then a b c gives.sent.0 (mid ++ end) gives.sent.2 front) in
    front_of a c (old ++ (before ++ end)) ((old ++ before) ++ end) (sym (append_assoc old before end)) out

pub finish_broken : (a b c d : Option (List ℕ)) (old mid new : List ℕ) (ty : Option PayloadType) (later : Bool) (subject : Subject) (xs : List Sample)
    → Gives a b old mid ty later subject xs → Sends b c (mid ++ codes "]}]\n") new → AppendsFront c d new → Breaks a d old subject xs
finish_broken a b c d old mid new ty later subject xs gives sent front =
    let before = begun_text subject.name subject.about xs in
    let end = codes "]}]\n" in
    let P : List ℕ → Type 0 = λ u. AppendsFront a d u in
    subst P (append_assoc old before end) (front_out a c d ((old ++ before) ++ end) new (sends_then a b c (old ++ before) mid end new gives.sent sent) front)
