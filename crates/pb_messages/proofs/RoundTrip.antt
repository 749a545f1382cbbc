-- What is written as an event is read as that event.
use Rattle.std.proofs.Common.{◌≡◌, ℕ, ◌-◌, ◌^◌, ◌<◌, ◌≤◌, ◌==◌, if◌then◌else◌, Bool, true, false, not, ℤ, pos, negsuc, List, [], ◌∷◌, ◌++◌, length, map, Option, Some, None, Ok, refl, sym, ◌∙◌, ap, subst, arith}
use Rattle.std.specs.Prelude.{IfSome, FitsSigned}
use Rattle.std.specs.List.{flat_map, AllByRecursion}
use Rattle.std.specs.Ordering.{int_eq}
use Rattle.std.specs.Option.{option_map, option_map_or, option_or}
use Rattle.std.specs.Int.{w32, w64, cast_unsigned, to_le_bytes, from_le_bytes}
use Rattle.std.proofs.Math.Nat.{mod-eq_of_lt}
use Rattle.std.proofs.lemmas.Int.{ints}
use Rattle.pb_wire.specs.declared.payload.PayloadType.{PayloadType}
use Rattle.pb_wire.specs.declared.payload.PayloadType.TheVariants.{ScalarString, ScalarShort, ScalarFloat, ScalarEnum, ScalarByte, ScalarInt, ScalarDouble, WaveformString, WaveformShort, WaveformFloat, WaveformEnum, WaveformByte, WaveformInt, WaveformDouble}
use Rattle.pb_wire.specs.Signed.{zigzag_of}
use Rattle.pb_wire.specs.Message.{WireValue, varint, fixed64, blob, fixed32, WireField}
use Rattle.pb_wire.specs.Spelling.{FitsValue}
use Rattle.pb_messages.specs.declared.event.Event.{Event}
use Rattle.pb_messages.specs.declared.layout.Layout.{Layout}
use Rattle.pb_messages.specs.declared.reading.Members as reading
use Rattle.pb_messages.specs.declared.value.Value.{Value}
use Rattle.pb_messages.specs.declared.value.Value.TheVariants.{Str, Short, Float, Enum, Byte, Int, Double, Strs, Shorts, Floats, Enums, Bytes, IntList, Doubles}
use Rattle.pb_wire.specs.Cursor.{Contents}
use Rattle.pb_wire.specs.Fields.{first_of, first_fault}
use Rattle.pb_wire.specs.FieldValue.{fields_of}
use Rattle.series_model.specs.PairLists.{joined}
use Rattle.pb_messages.specs.Layout.{layout_of, elements_in}
use Rattle.pb_wire.specs.Numbers.{int32_of, uint32_of}
use Rattle.pb_messages.specs.Event.{Members, fault_in, event_with, event_of, IsOfType}
use Rattle.pb_messages.specs.Adding.{blank, with_elements}
use Rattle.pb_messages.specs.Reading.{seen, no_members, with_fields}
use Rattle.pb_wire.specs.FieldSpelling.{message_text, number_field, text_field, optional_field, pair_field, ShortPairs}
use Rattle.pb_wire.specs.Numbers.{sign_extended}
use Rattle.pb_messages.specs.Spelling.{val_fields, stamp_fields, state_fields, last_fields, event_fields, event_text, packed_field, unless_zero, bool_number, sint32_text, sfixed32_text, FitsVal, FitsEvent}
use Rattle.std.proofs.lemmas.List.{append-nil}
use Rattle.pb_messages.proofs.FieldsLemmas.{no_fields}
use Rattle.pb_messages.proofs.EventLemmas.{event_found}
use Rattle.pb_messages.proofs.ElementLemmas.{more_elements, no_elements}
use Rattle.pb_wire.proofs.PairWritten.{FitsField, contents_written, both_fit, placed, pairs_fit, int32_back, extended_small}
use Rattle.pb_messages.proofs.WrittenFields.{Acts, acts_then, number_acts, val_acts, pairs_act, severity_acts, status_acts, repeat_acts, change_acts}
use Rattle.pb_messages.proofs.WrittenValues.{zigzag_back, sfixed_back, packed_varints-written, packed_words, packed_longs, zigzags_mean, words_mean, sfixeds_mean, longs_mean, strings_mean}

-- val of an event: it acts on the members, and on those of no fields it leaves the value
record ActsAsVal (ty : PayloadType) (v : Value) : Type 0 where
  flag : Bool → Bool
  elements : List WireValue
  acts : Acts (layout_of ty) (val_fields v) (λ m. record m { val = flag m.val; value = with_elements m.value elements })
  there : flag (layout_of ty).repeated ≡ true
  value : with_elements (blank ty) elements ≡ v

one_value : (ty : PayloadType) (v : Value) (e : WireValue) → val_fields v ≡ record { number = 3; value = e } ∷ [] → ((behind : ℕ) → elements_in (layout_of ty) e behind ≡ record { values = e ∷ []; fault = None }) → with_elements (blank ty) (e ∷ []) ≡ v → ActsAsVal ty v
one_value ty v e fields read value = record {
  flag = λ b. true;
  elements = e ∷ [];
  acts = rw fields (val_acts (layout_of ty) e (e ∷ []) read);
  there = refl;
  value = value;
}

-- the flag is set where there is a field
flag_of : {A : Type 0} → List A → Bool → Bool
flag_of [] b = b
flag_of (x ∷ xs) b = true

flag_of-true : {A : Type 0} (xs : List A) → flag_of xs true ≡ true
unfolding flag_of
flag_of-true [] = refl
flag_of-true (x ∷ xs) = refl

packed_acts : {A : Type 0} (layout : Layout) (spell : A → List ℕ) (mean : List A → List WireValue) → mean [] ≡ [] → (xs : List A) → ((behind : ℕ) → elements_in layout (blob (flat_map spell xs)) behind ≡ record { values = mean xs; fault = None })
    → Acts layout (packed_field spell xs) (λ m. record m { val = flag_of xs m.val; value = with_elements m.value (mean xs) })
unfolding flag_of
packed_acts layout spell mean none [] read = record {
  sound = λ end rest. refl;
  acts = λ end rest m. ap (λ (v : Value). with_fields layout (record m { value = v }) (placed end rest)) (sym (ap (with_elements m.value) none ∙ no_elements m.value));
}
packed_acts layout spell mean none (x ∷ xs) read = val_acts layout (blob (flat_map spell (x ∷ xs))) (mean (x ∷ xs)) read

packed_value : {A : Type 0} (ty : PayloadType) (v : Value) (spell : A → List ℕ) (mean : List A → List WireValue) → mean [] ≡ [] → (xs : List A) → val_fields v ≡ packed_field spell xs → (layout_of ty).repeated ≡ true
    → ((behind : ℕ) → elements_in (layout_of ty) (blob (flat_map spell xs)) behind ≡ record { values = mean xs; fault = None }) → with_elements (blank ty) (mean xs) ≡ v → ActsAsVal ty v
packed_value {A} ty v spell mean none xs fields many read value = record {
  flag = flag_of xs;
  elements = mean xs;
  acts = rw fields (packed_acts (layout_of ty) spell mean none xs read);
  there = rw many (flag_of-true xs);
  value = value;
}

strings_act : (layout : Layout) (bs : List (List ℕ)) → ((b : List ℕ) (behind : ℕ) → elements_in layout (blob b) behind ≡ record { values = blob b ∷ []; fault = None })
    → Acts layout (map (text_field 3) bs) (λ m. record m { val = flag_of bs m.val; value = with_elements m.value (map (λ b. blob b) bs) })
unfolding flag_of
strings_act layout [] read = record {
  sound = λ end rest. refl;
  acts = λ end rest m. ap (λ (v : Value). with_fields layout (record m { value = v }) (placed end rest)) (sym (no_elements m.value));
}
strings_act layout (b ∷ bs) read =
    let a = val_acts layout (blob b) (blob b ∷ []) (read b) in
    let more = strings_act layout bs read in
    record {
      sound = λ end rest. a.sound end (map (text_field 3) bs ++ rest) ∙ more.sound end rest;
      acts = λ end rest m. a.acts end (map (text_field 3) bs ++ rest) m ∙ more.acts end rest (record m { val = true; value = with_elements m.value (blob b ∷ []) })
          ∙ (λ i. with_fields layout (record m { val = flag_of-true bs i; value = more_elements m.value (blob b) (map (λ b. blob b) bs) i }) (placed end rest));
    }

strings_value : (bs : List (List ℕ)) → ActsAsVal WaveformString (Strs bs)
strings_value bs = record {
  flag = flag_of bs;
  elements = map (λ b. blob b) bs;
  acts = strings_act (layout_of WaveformString) bs (λ b behind. refl);
  there = flag_of-true bs;
  value = ap (λ (l : List (List ℕ)). Strs l) (strings_mean bs);
}

val_written : (ty : PayloadType) (v : Value) → IsOfType ty v → FitsVal v → ActsAsVal ty v
val_written ty (Str b) is fits = subst (λ (t : PayloadType). ActsAsVal t (Str b)) (sym is) (one_value ScalarString (Str b) (blob b) refl (λ behind. refl) refl)
val_written ty (Short n) is fits = subst (λ (t : PayloadType). ActsAsVal t (Short n)) (sym is) (one_value ScalarShort (Short n) (varint (zigzag_of n)) refl (λ behind. refl) (ap (λ (z : ℤ). Short z) (zigzag_back n fits)))
val_written ty (Float n) is fits = subst (λ (t : PayloadType). ActsAsVal t (Float n)) (sym is) (one_value ScalarFloat (Float n) (fixed32 n) refl (λ behind. refl) refl)
val_written ty (Enum n) is fits = subst (λ (t : PayloadType). ActsAsVal t (Enum n)) (sym is) (one_value ScalarEnum (Enum n) (varint (zigzag_of n)) refl (λ behind. refl) (ap (λ (z : ℤ). Enum z) (zigzag_back n fits)))
val_written ty (Byte b) is fits = subst (λ (t : PayloadType). ActsAsVal t (Byte b)) (sym is) (one_value ScalarByte (Byte b) (blob b) refl (λ behind. refl) refl)
val_written ty (Int n) is fits = subst (λ (t : PayloadType). ActsAsVal t (Int n)) (sym is) (one_value ScalarInt (Int n) (fixed32 (cast_unsigned w32 n)) refl (λ behind. refl) (ap (λ (z : ℤ). Int z) (sfixed_back n fits)))
val_written ty (Double n) is fits = subst (λ (t : PayloadType). ActsAsVal t (Double n)) (sym is) (one_value ScalarDouble (Double n) (fixed64 n) refl (λ behind. refl) refl)
val_written ty (Strs bs) is fits = subst (λ (t : PayloadType). ActsAsVal t (Strs bs)) (sym is) (strings_value bs)
val_written ty (Shorts ns) is fits = subst (λ (t : PayloadType). ActsAsVal t (Shorts ns)) (sym is) (packed_value WaveformShort (Shorts ns) sint32_text (λ zs. map (λ z. varint (zigzag_of z)) zs) refl ns refl refl (λ behind. packed_varints-written ns behind fits.0) (ap (λ (l : List ℤ). Shorts l) (zigzags_mean ns fits.0)))
val_written ty (Floats ns) is fits = subst (λ (t : PayloadType). ActsAsVal t (Floats ns)) (sym is) (packed_value WaveformFloat (Floats ns) (to_le_bytes w32) (λ xs. map (λ t. fixed32 (from_le_bytes w32 t)) (map (to_le_bytes w32) xs)) refl ns refl refl (λ behind. packed_words (to_le_bytes w32) (λ x. refl) ns behind) (ap (λ (l : List ℕ). Floats l) (words_mean ns fits.0)))
val_written ty (Enums ns) is fits = subst (λ (t : PayloadType). ActsAsVal t (Enums ns)) (sym is) (packed_value WaveformEnum (Enums ns) sint32_text (λ zs. map (λ z. varint (zigzag_of z)) zs) refl ns refl refl (λ behind. packed_varints-written ns behind fits.0) (ap (λ (l : List ℤ). Enums l) (zigzags_mean ns fits.0)))
val_written ty (Bytes b) is fits = subst (λ (t : PayloadType). ActsAsVal t (Bytes b)) (sym is) (one_value WaveformByte (Bytes b) (blob b) refl (λ behind. refl) refl)
val_written ty (IntList ns) is fits = subst (λ (t : PayloadType). ActsAsVal t (IntList ns)) (sym is) (packed_value WaveformInt (IntList ns) sfixed32_text (λ xs. map (λ t. fixed32 (from_le_bytes w32 t)) (map sfixed32_text xs)) refl ns refl refl (λ behind. packed_words sfixed32_text (λ x. refl) ns behind) (ap (λ (l : List ℤ). IntList l) (sfixeds_mean ns fits.0)))
val_written ty (Doubles ns) is fits = subst (λ (t : PayloadType). ActsAsVal t (Doubles ns)) (sym is) (packed_value WaveformDouble (Doubles ns) (to_le_bytes w64) (λ xs. map (λ t. fixed64 (from_le_bytes w64 t)) (map (to_le_bytes w64) xs)) refl ns refl refl (λ behind. packed_longs (to_le_bytes w64) (λ x. refl) ns behind) (ap (λ (l : List ℕ). Doubles l) (longs_mean ns fits.0)))

-- the members are read back
zero_only : (z : ℤ) → int_eq z (pos 0) ≡ true → z ≡ pos 0
zero_only z e = grind (arith, ints)

by_zero : (z : ℤ) → FitsSigned w32 z → (b : Bool) → (b ≡ true → z ≡ pos 0) → option_map_or int32_of (if b then None else Some (sign_extended z)) (pos 0) ≡ z
by_zero z fits true zero = sym (zero refl)
by_zero z fits false zero = int32_back z fits

state_back : (z : ℤ) → FitsSigned w32 z → option_map_or int32_of (unless_zero z) (pos 0) ≡ z
state_back z fits = by_zero z fits (int_eq z (pos 0)) (zero_only z)

repeat_back : (o : Option ℕ) → IfSome o (λ n. n < 2 ^ 32) → option_map uint32_of o ≡ o
repeat_back None fits = refl
repeat_back (Some n) fits = ap (λ (k : ℕ). Some k) (mod-eq_of_lt fits)

change_back : (o : Option Bool) → option_map (λ n. not (n == 0)) (option_map bool_number o) ≡ o
change_back None = refl
change_back (Some true) = refl
change_back (Some false) = refl

option_or-none : (o : Option ℕ) → option_or o None ≡ o
option_or-none None = refl
option_or-none (Some n) = refl

members_written : Event → Members
members_written e = record { secs = Some e.secs; nano = Some e.nano; value = Some e.val; severity = unless_zero e.severity; status = unless_zero e.status; repeat = e.repeat; fields = Some e.fields; actual_change = option_map bool_number e.actual_change }

event_made : (e : Event) → FitsEvent e → event_with (members_written e) ≡ Ok e
unfolding event_with members_written
event_made e fits = rw (mod-eq_of_lt fits.secs, mod-eq_of_lt fits.nano, state_back e.severity fits.state.severity, state_back e.status fits.state.status, repeat_back e.repeat fits.state.repeat, change_back e.actual_change) refl

zigzag_fits : (z : ℤ) → FitsSigned w32 z → zigzag_of z < 2 ^ 64
zigzag_fits (pos n) fits = omega (arith, ints)
zigzag_fits (negsuc n) fits = omega (arith, ints)

unsigned_fits : (z : ℤ) → FitsSigned w32 z → cast_unsigned w32 z < 2 ^ 32
unsigned_fits z fits = omega (arith, ints)

one_fits : (k : ℕ) (v : WireValue) → 1 ≤ k → k ≤ 15 → FitsValue v → AllByRecursion FitsField (record { number = k; value = v } ∷ [])
one_fits k v low high fits = (((low, omega arith), fits), tt)

packed_fits : {A : Type 0} (spell : A → List ℕ) (xs : List A) → length (flat_map spell xs) < 2 ^ 64 → AllByRecursion FitsField (packed_field spell xs)
packed_fits spell [] short = tt
packed_fits spell (x ∷ xs) short = one_fits 3 (blob (flat_map spell (x ∷ xs))) (omega arith) (omega arith) short

strings_fit : (bs : List (List ℕ)) → AllByRecursion (λ b. length b < 2 ^ 64) bs → AllByRecursion FitsField (map (text_field 3) bs)
strings_fit [] fits = tt
strings_fit (b ∷ bs) fits = (((omega arith, omega arith), fits.0), strings_fit bs fits.1)

val_fits : (v : Value) → FitsVal v → AllByRecursion FitsField (val_fields v)
val_fits (Str b) fits = one_fits 3 (blob b) (omega arith) (omega arith) fits
val_fits (Short n) fits = one_fits 3 (varint (zigzag_of n)) (omega arith) (omega arith) (zigzag_fits n fits)
val_fits (Float n) fits = one_fits 3 (fixed32 n) (omega arith) (omega arith) fits
val_fits (Enum n) fits = one_fits 3 (varint (zigzag_of n)) (omega arith) (omega arith) (zigzag_fits n fits)
val_fits (Byte b) fits = one_fits 3 (blob b) (omega arith) (omega arith) fits
val_fits (Int n) fits = one_fits 3 (fixed32 (cast_unsigned w32 n)) (omega arith) (omega arith) (unsigned_fits n fits)
val_fits (Double n) fits = one_fits 3 (fixed64 n) (omega arith) (omega arith) fits
val_fits (Strs bs) fits = strings_fit bs fits
val_fits (Shorts ns) fits = packed_fits sint32_text ns fits.1
val_fits (Floats ns) fits = packed_fits (to_le_bytes w32) ns fits.1
val_fits (Enums ns) fits = packed_fits sint32_text ns fits.1
val_fits (Bytes b) fits = one_fits 3 (blob b) (omega arith) (omega arith) fits
val_fits (IntList ns) fits = packed_fits sfixed32_text ns fits.1
val_fits (Doubles ns) fits = packed_fits (to_le_bytes w64) ns fits.1

optional_fits : (k : ℕ) (o : Option ℕ) → 1 ≤ k → k ≤ 15 → IfSome o (λ n. n < 2 ^ 64) → AllByRecursion FitsField (optional_field k o)
optional_fits k None low high fits = tt
optional_fits k (Some v) low high fits = one_fits k (varint v) low high fits

state_fits : (z : ℤ) → FitsSigned w32 z → (b : Bool) → IfSome (if b then None else Some (sign_extended z)) (λ n. n < 2 ^ 64)
state_fits z fits true = tt
state_fits z fits false = extended_small z fits

repeat_fits : (o : Option ℕ) → IfSome o (λ n. n < 2 ^ 32) → IfSome o (λ n. n < 2 ^ 64)
repeat_fits None fits = tt
repeat_fits (Some n) fits = omega arith

change_fits : (o : Option Bool) → IfSome (option_map bool_number o) (λ n. n < 2 ^ 64)
change_fits None = tt
change_fits (Some true) = omega arith
change_fits (Some false) = omega arith

event_fits : (e : Event) → FitsEvent e → AllByRecursion FitsField (event_fields e)
event_fits e fits =
    let secs : e.secs < 2 ^ 64 = omega (arith, fits.secs) in
    let nano : e.nano < 2 ^ 64 = omega (arith, fits.nano) in
    let stamp : AllByRecursion FitsField (stamp_fields e) = (((omega arith, omega arith), secs), (((omega arith, omega arith), nano), tt)) in
    let severity = optional_fits 4 (unless_zero e.severity) (omega arith) (omega arith) (state_fits e.severity fits.state.severity (int_eq e.severity (pos 0))) in
    let status = optional_fits 5 (unless_zero e.status) (omega arith) (omega arith) (state_fits e.status fits.state.status (int_eq e.status (pos 0))) in
    let repeat = optional_fits 6 e.repeat (omega arith) (omega arith) (repeat_fits e.repeat fits.state.repeat) in
    let change = optional_fits 8 (option_map bool_number e.actual_change) (omega arith) (omega arith) (change_fits e.actual_change) in
    both_fit (stamp_fields e ++ val_fields e.val) (state_fields e ++ last_fields e)
    (both_fit (stamp_fields e) (val_fields e.val) stamp (val_fits e.val fits.val))
    (both_fit (state_fields e) (last_fields e)
    (both_fit (optional_field 4 (unless_zero e.severity)) (optional_field 5 (unless_zero e.status) ++ optional_field 6 e.repeat) severity (both_fit (optional_field 5 (unless_zero e.status)) (optional_field 6 e.repeat) status repeat))
    (both_fit (map (pair_field 7) e.fields) (optional_field 8 (option_map bool_number e.actual_change)) (pairs_fit 7 e.fields (omega arith, omega arith) fits.fields) change))

-- what the fields of an event do to the members
after_event : (Bool → Bool) → List WireValue → Event → reading.Members → reading.Members
after_event flag elements e m = record {
  numbers = record {
    secs = Some e.secs;
    nano = Some e.nano;
    severity = option_or (unless_zero e.severity) m.numbers.severity;
    status = option_or (unless_zero e.status) m.numbers.status;
    repeat = option_or e.repeat m.numbers.repeat;
    actual_change = option_or (option_map bool_number e.actual_change) m.numbers.actual_change;
  };
  val = flag m.val;
  value = with_elements m.value elements;
  fields = joined m.fields (Some e.fields);
}

event_acts : (ty : PayloadType) (e : Event) (v : ActsAsVal ty e.val) → ShortPairs e.fields → Acts (layout_of ty) (event_fields e) (after_event v.flag v.elements e)
unfolding after_event
event_acts ty e v short =
    let layout = layout_of ty in
    let severity = optional_field 4 (unless_zero e.severity) in
    let status = optional_field 5 (unless_zero e.status) in
    let repeat = optional_field 6 e.repeat in
    let pairs = map (pair_field 7) e.fields in
    let change = optional_field 8 (option_map bool_number e.actual_change) in
    let stamp = acts_then layout (number_field 1 e.secs ∷ []) (number_field 2 e.nano ∷ []) _ _ (number_acts layout 1 e.secs refl refl) (number_acts layout 2 e.nano refl refl) in
    let front = acts_then layout (stamp_fields e) (val_fields e.val) _ _ stamp v.acts in
    let state = acts_then layout severity (status ++ repeat) _ _ (severity_acts layout (unless_zero e.severity)) (acts_then layout status repeat _ _ (status_acts layout (unless_zero e.status)) (repeat_acts layout e.repeat)) in
    let last = acts_then layout pairs change _ _ (pairs_act layout e.fields short) (change_acts layout (option_map bool_number e.actual_change)) in
    acts_then layout (stamp_fields e ++ val_fields e.val) (state_fields e ++ last_fields e) _ _ front (acts_then layout (state_fields e) (last_fields e) _ _ state last)

seen_written : (ty : PayloadType) (e : Event) (v : ActsAsVal ty e.val) → seen (after_event v.flag v.elements e (no_members ty (layout_of ty).repeated)) ≡ members_written e
unfolding after_event members_written
seen_written ty e v =
    let value : (if v.flag (layout_of ty).repeated then Some (with_elements (blank ty) v.elements) else None) ≡ Some e.val = rw (v.there, v.value) refl in
    λ i. record {
      secs = Some e.secs;
      nano = Some e.nano;
      value = value i;
      severity = option_or-none (unless_zero e.severity) i;
      status = option_or-none (unless_zero e.status) i;
      repeat = option_or-none e.repeat i;
      fields = Some e.fields;
      actual_change = option_or-none (option_map bool_number e.actual_change) i;
    }

pub event_back : (ty : PayloadType) (e : Event) → IsOfType ty e.val → FitsEvent e → event_of ty (event_text e) ≡ Ok e
unfolding event_text
event_back ty e is fits =
    let layout = layout_of ty in
    let fields = event_fields e in
    let text = message_text fields in
    let end = length text in
    let v = val_written ty e.val is fits.val in
    let a = event_acts ty e v fits.fields in
    let m0 = no_members ty layout.repeated in
    let m = after_event v.flag v.elements e m0 in
    let contents = contents_written end fields (event_fits e fits) in
    let none : first_of (fault_in layout) (placed end fields) ≡ None = ap (λ (l : List WireField). first_of (fault_in layout) (placed end l)) (sym (append-nil fields)) ∙ a.sound end [] in
    let made : with_fields layout m0 (placed end fields) ≡ m = ap (λ (l : List WireField). with_fields layout m0 (placed end l)) (sym (append-nil fields)) ∙ a.acts end [] m0 ∙ no_fields layout m in
    let sound : first_fault (fault_in layout) (fields_of text end) ≡ None = rw (contents, none) refl in
    let whole : m ≡ with_fields layout m0 (fields_of text end).items = sym made ∙ sym (ap (λ (c : Contents WireField). with_fields layout m0 c.items) contents) in
    event_found ty text m sound whole ∙ ap event_with (seen_written ty e v) ∙ event_made e fits
