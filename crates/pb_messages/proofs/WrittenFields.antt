-- What is written as fields is read as those fields.
use Rattle.std.proofs.Common.{◌≡◌, ℕ, ◌-◌, ◌^◌, ◌<◌, ◌==◌, ◌||◌, Bool, true, false, List, [], ◌∷◌, ◌++◌, length, map, Option, Some, None, refl, sym, ◌∙◌, ap, append_assoc}
use Rattle.std.specs.Option.{option_or}
use Rattle.std.proofs.lemmas.List.{append-nil}
use Rattle.pb_wire.specs.Message.{WireValue, WireField}
use Rattle.pb_wire.specs.Cursor.{Placed}
use Rattle.pb_wire.proofs.PairWritten.{placed, pair_sound, pair_back}
use Rattle.pb_messages.specs.declared.layout.Layout.{Layout}
use Rattle.pb_messages.specs.declared.reading.Members.{Members}
use Rattle.pb_wire.specs.Fields.{first_of}
use Rattle.series_model.specs.PairLists.{joined}
use Rattle.pb_messages.specs.Layout.{Elements, elements_in}
use Rattle.pb_messages.specs.Event.{number, part_of, fault_in}
use Rattle.pb_messages.specs.Adding.{with_elements}
use Rattle.pb_messages.specs.Singular.{with_numbers}
use Rattle.pb_messages.specs.Reading.{with_fields}
use Rattle.pb_wire.specs.FieldSpelling.{message_text, number_field, pair_text, pair_field, optional_field, ShortPairs}
use Rattle.pb_messages.proofs.ElementLemmas.{no_elements}
use Rattle.series_model.proofs.PairLists.{joined_assoc, joined_nothing}
use Rattle.pb_messages.proofs.FieldsLemmas.{or_false, same_members, more_fields}

-- what some fields do to the members that were read before them, whatever follows
pub record Acts (layout : Layout) (fields : List WireField) (f : Members → Members) : Type 0 where
  pub sound : (end : ℕ) (rest : List WireField) → first_of (fault_in layout) (placed end (fields ++ rest)) ≡ first_of (fault_in layout) (placed end rest)
  pub acts : (end : ℕ) (rest : List WireField) (m : Members) → with_fields layout m (placed end (fields ++ rest)) ≡ with_fields layout (f m) (placed end rest)

pub acts_none : (layout : Layout) → Acts layout [] (λ m. m)
acts_none layout = record { sound = λ end rest. refl; acts = λ end rest m. refl }

pub acts_then : (layout : Layout) (xs ys : List WireField) (f g : Members → Members) → Acts layout xs f → Acts layout ys g → Acts layout (xs ++ ys) (λ m. g (f m))
acts_then layout xs ys f g a b = record {
  sound = λ end rest. ap (λ (l : List WireField). first_of (fault_in layout) (placed end l)) (append_assoc xs ys rest) ∙ a.sound end (ys ++ rest) ∙ b.sound end rest;
  acts = λ end rest m. ap (λ (l : List WireField). with_fields layout m (placed end l)) (append_assoc xs ys rest) ∙ a.acts end (ys ++ rest) m ∙ b.acts end rest (f m);
}

acts_one : (layout : Layout) (x : WireField) (f : Members → Members) → ((behind : ℕ) → fault_in layout (record { item = x; behind = behind }) ≡ None) → ((behind : ℕ) (m : Members) → with_fields layout m (record { item = x; behind = behind } ∷ []) ≡ f m) → Acts layout (x ∷ []) f
acts_one layout x f none one = record {
  sound = λ end rest. rw (none (end - length (message_text rest))) refl;
  acts = λ end rest m.
      let first : Placed WireField = record { item = x; behind = end - length (message_text rest) } in
      sym (more_fields layout m first (placed end rest)) ∙ ap (λ (n : Members). with_fields layout n (placed end rest)) (one (end - length (message_text rest)) m);
}

-- a number that isn't repeated
pub number_acts : (layout : Layout) (k v : ℕ) → part_of k ≡ number → (k == 3) ≡ false → Acts layout (number_field k v ∷ []) (λ m. record m { numbers = with_numbers m.numbers (record { item = number_field k v; behind = 0 } ∷ []) })
number_acts layout k v part other =
    acts_one layout (number_field k v) (λ m. record m { numbers = with_numbers m.numbers (record { item = number_field k v; behind = 0 } ∷ []) })
    (λ behind. rw part refl)
    (λ behind m. same_members (with_fields layout m (record { item = number_field k v; behind = behind } ∷ [])) (record m { numbers = with_numbers m.numbers (record { item = number_field k v; behind = 0 } ∷ []) })
    refl (rw other (or_false m.val)) (rw part (no_elements m.value)) (rw part (joined_nothing m.fields)))

or_true : (b : Bool) → (b || true) ≡ true
or_true true = refl
or_true false = refl

-- a value of val
pub val_acts : (layout : Layout) (v : WireValue) (es : List WireValue) → ((behind : ℕ) → elements_in layout v behind ≡ record { values = es; fault = None }) → Acts layout (record { number = 3; value = v } ∷ []) (λ m. record m { val = true; value = with_elements m.value es })
val_acts layout v es read =
    acts_one layout (record { number = 3; value = v }) (λ m. record m { val = true; value = with_elements m.value es })
    (λ behind. ap (λ (e : Elements). e.fault) (read behind))
    (λ behind m. same_members (with_fields layout m (record { item = record { number = 3; value = v }; behind = behind } ∷ [])) (record m { val = true; value = with_elements m.value es })
    refl (or_true m.val) (ap (λ (e : Elements). with_elements m.value (e.values ++ [])) (read behind) ∙ ap (with_elements m.value) (append-nil es)) (joined_nothing m.fields))

pair_acts : (layout : Layout) (p : List ℕ × List ℕ) → length (pair_text p) < 2 ^ 64 → Acts layout (pair_field 7 p ∷ []) (λ m. record m { fields = joined m.fields (Some (p ∷ [])) })
pair_acts layout p short =
    acts_one layout (pair_field 7 p) (λ m. record m { fields = joined m.fields (Some (p ∷ [])) })
    (λ behind. pair_sound p 7 behind short)
    (λ behind m. same_members (with_fields layout m (record { item = pair_field 7 p; behind = behind } ∷ [])) (record m { fields = joined m.fields (Some (p ∷ [])) })
    refl (or_false m.val) (no_elements m.value) (rw (pair_back p behind short) refl))

-- the field values
pub pairs_act : (layout : Layout) (ps : List (List ℕ × List ℕ)) → ShortPairs ps → Acts layout (map (pair_field 7) ps) (λ m. record m { fields = joined m.fields (Some ps) })
pairs_act layout [] fits = record { sound = λ end rest. refl; acts = λ end rest m. ap (λ (l : Option (List (List ℕ × List ℕ))). with_fields layout (record m { fields = l }) (placed end rest)) (sym (joined_nothing m.fields)) }
pairs_act layout (p ∷ ps) fits =
    let a = pair_acts layout p fits.0 in
    let b = pairs_act layout ps fits.1 in
    record {
      sound = λ end rest. a.sound end (map (pair_field 7) ps ++ rest) ∙ b.sound end rest;
      acts = λ end rest m. a.acts end (map (pair_field 7) ps ++ rest) m ∙ b.acts end rest (record m { fields = joined m.fields (Some (p ∷ [])) })
          ∙ ap (λ (l : Option (List (List ℕ × List ℕ))). with_fields layout (record m { fields = l }) (placed end rest)) (joined_assoc m.fields (Some (p ∷ [])) (Some ps));
    }

pub severity_acts : (layout : Layout) (o : Option ℕ) → Acts layout (optional_field 4 o) (λ m. record m { numbers = record m.numbers { severity = option_or o m.numbers.severity } })
severity_acts layout None = acts_none layout
severity_acts layout (Some v) = number_acts layout 4 v refl refl

pub status_acts : (layout : Layout) (o : Option ℕ) → Acts layout (optional_field 5 o) (λ m. record m { numbers = record m.numbers { status = option_or o m.numbers.status } })
status_acts layout None = acts_none layout
status_acts layout (Some v) = number_acts layout 5 v refl refl

pub repeat_acts : (layout : Layout) (o : Option ℕ) → Acts layout (optional_field 6 o) (λ m. record m { numbers = record m.numbers { repeat = option_or o m.numbers.repeat } })
repeat_acts layout None = acts_none layout
repeat_acts layout (Some v) = number_acts layout 6 v refl refl

pub change_acts : (layout : Layout) (o : Option ℕ) → Acts layout (optional_field 8 o) (λ m. record m { numbers = record m.numbers { actual_change = option_or o m.numbers.actual_change } })
change_acts layout None = acts_none layout
change_acts layout (Some v) = number_acts layout 8 v refl refl
