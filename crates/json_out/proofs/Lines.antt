-- What a line's message and its event are.
use Rattle.std.proofs.Common.{◌≡◌, ℕ, List, [], ◌∷◌, ◌++◌, Ok, Err, refl, sym, ap, ◌∙◌, subst, eq-eqb, ne_eqb}
use Rattle.line_escape.specs.Unescaping.{IsCode, Means, IsRefusal}
use Rattle.line_escape.specs.declared.error.EscapeErr.{EscapeErr}
use Rattle.line_escape.specs.declared.error.EscapeErr.TheVariants.{BadEscape}
use Rattle.line_escape.proofs.EscapingLemmas.{meaning_unique, bad_means_nothing}
use Rattle.series_model.specs.declared.sample.Sample.{Sample}
use Rattle.pb_wire.specs.declared.payload.PayloadType.{PayloadType}
use Rattle.pb_wire.specs.declared.fault.FieldFault.{FieldFault}
use Rattle.pb_messages.specs.declared.event.Event.{Event}
use Rattle.pb_messages.specs.declared.error.EventErr.{EventErr}
use Rattle.pb_messages.specs.declared.error.EventErr.TheVariants.{Fault}
use Rattle.pb_messages.specs.Event.{event_of, stamp_of, Gives}
use Rattle.act_model.specs.Event.{IsEvent}
use Rattle.json_out.specs.Line.{message_of, event_in}

-- a byte's code is read as that byte
code_read : (code rest : List ℕ) (b : ℕ) → IsCode code b → message_of (code ++ rest) ≡ b ∷ message_of rest
code_read [] rest b is = absurd is
code_read (x ∷ []) [] b is = ap (λ (y : ℕ). y ∷ []) is.0
code_read (x ∷ []) (c ∷ rest) b is = rw (ne_eqb x 27 is.1) (ap (λ (y : ℕ). y ∷ message_of (c ∷ rest)) is.0)
code_read (x ∷ c ∷ []) rest b is = rw (eq-eqb x 27 is.0, is.1) refl
code_read (x ∷ c ∷ y ∷ code) rest b is = absurd is

-- a line that means a message has it
pub message_meant : (line message : List ℕ) → Means line message → message_of line ≡ message
message_meant line [] means = ap message_of means
message_meant line (b ∷ message) means =
    ap message_of means.2 ∙ code_read means.0 means.1 b means.3 ∙ ap (λ (u : List ℕ). b ∷ u) (message_meant means.1 message means.4)

-- no escape of an event's line is bad
pub never_refused : (ty : PayloadType) (s : Sample) (e : EscapeErr) (at : ℕ) → IsEvent ty s → e ≡ BadEscape at → IsRefusal s.line e → ⊥
never_refused ty s e at is bad refusal =
    let P : EscapeErr → Type 0 = λ k. IsRefusal s.line k in
    bad_means_nothing s.line is.message at (subst P bad refusal) is.means

stamp_or_fault : (ty : PayloadType) (message : List ℕ) (secs nano : ℕ) (fault : FieldFault) → stamp_of ty message ≡ Ok (secs, nano) → event_of ty message ≡ Err fault → ⊥
unfolding stamp_of
stamp_or_fault ty message secs nano fault stamp none = let both = rw none at stamp in cc

-- an event's message has no fault
pub never_faulty : (ty : PayloadType) (s : Sample) (message : List ℕ) (e : EventErr) (fault : FieldFault) → IsEvent ty s → Means s.line message → e ≡ Fault fault → Gives (Err e) (event_of ty message) → ⊥
never_faulty ty s message e fault is means bad gives =
    let same = meaning_unique s.line message is.message means is.means in
    let P : EventErr → Type 0 = λ k. Gives (Err k) (event_of ty message) in
    stamp_or_fault ty is.message is.secs is.nano fault is.stamp (ap (event_of ty) (sym same) ∙ subst P bad gives)

-- what was decoded is the line's event
pub event_read : (ty : PayloadType) (line message : List ℕ) (event : Event) → Means line message → event_of ty message ≡ Ok event → event_in ty line ≡ Ok event
event_read ty line message event means is = ap (event_of ty) (message_meant line message means) ∙ is
