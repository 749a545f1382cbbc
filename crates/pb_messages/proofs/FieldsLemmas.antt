-- What fields say, one field after another.
use Rattle.std.proofs.Common.{◌≡◌, ℕ, ◌==◌, ◌||◌, Bool, true, false, List, [], ◌∷◌, ◌++◌, Option, Some, None, refl, ◌∙◌, ap}
use Rattle.std.specs.List.{filter_map, cons_option, last_or}
use Rattle.std.proofs.lemmas.List.{append-nil}
use Rattle.pb_wire.specs.Message.{WireValue, WireField}
use Rattle.pb_wire.specs.Cursor.{Placed}
use Rattle.series_model.proofs.PairLists.{joined_assoc, joined_nothing}
use Rattle.pb_messages.specs.declared.layout.Layout.{Layout}
use Rattle.pb_messages.specs.declared.reading.Members.{Members}
use Rattle.pb_messages.specs.declared.singular.Singular.{Singular}
use Rattle.pb_wire.specs.Fields.{number_in}
use Rattle.series_model.specs.PairLists.{joined}
use Rattle.pb_messages.specs.Event.{part_of, elements_of, elements_as, pairs_of, pairs_as, has_val}
use Rattle.pb_messages.specs.Adding.{with_elements}
use Rattle.pb_messages.specs.Singular.{with_numbers}
use Rattle.pb_messages.specs.Reading.{with_fields}
use Rattle.pb_messages.proofs.ElementLemmas.{no_elements, elements_apart}

last_or-more : {A : Type 0} (given o : Option A) (rest : List A) → last_or (last_or o (cons_option given [])) rest ≡ last_or o (cons_option given rest)
last_or-more None o rest = refl
last_or-more (Some x) o rest = refl

last_more : (n : ℕ) (o : Option ℕ) (x : Placed WireField) (items : List (Placed WireField)) → last_or (last_or o (filter_map (number_in n) (x ∷ []))) (filter_map (number_in n) items) ≡ last_or o (filter_map (number_in n) (x ∷ items))
last_more n o x items = last_or-more (number_in n x) o (filter_map (number_in n) items)

more_numbers : (s : Singular) (x : Placed WireField) (items : List (Placed WireField)) → with_numbers (with_numbers s (x ∷ [])) items ≡ with_numbers s (x ∷ items)
more_numbers s x items =
    let e1 = last_more 1 s.secs x items in
    let e2 = last_more 2 s.nano x items in
    let e4 = last_more 4 s.severity x items in
    let e5 = last_more 5 s.status x items in
    let e6 = last_more 6 s.repeat x items in
    let e8 = last_more 8 s.actual_change x items in
    rw (e1, e2, e4, e5, e6, e8) refl

or_more : (a b c : Bool) → ((a || (b || false)) || c) ≡ (a || (b || c))
or_more true b c = refl
or_more false true c = refl
or_more false false c = refl

pub or_false : (b : Bool) → (b || false) ≡ b
or_false true = refl
or_false false = refl

pub same_members : (a b : Members) → a.numbers ≡ b.numbers → a.val ≡ b.val → a.value ≡ b.value → a.fields ≡ b.fields → a ≡ b
same_members a b numbers val value fields = λ i. record { numbers = numbers i; val = val i; value = value i; fields = fields i }

-- one field, and then the others
pub more_fields : (layout : Layout) (m : Members) (x : Placed WireField) (items : List (Placed WireField)) → with_fields layout (with_fields layout m (x ∷ [])) items ≡ with_fields layout m (x ∷ items)
more_fields layout m x items =
    let es = elements_as layout (part_of x.item.number) x.item.value x.behind in
    let ps = pairs_as (part_of x.item.number) x.item.value x.behind in
    let others = elements_of layout items in
    let value : with_elements (with_elements m.value (es ++ [])) others ≡ with_elements m.value (es ++ others) = ap (λ (l : List WireValue). with_elements (with_elements m.value l) others) (append-nil es) ∙ elements_apart m.value es others in
    let fields : joined (joined m.fields (joined ps (Some []))) (pairs_of items) ≡ joined m.fields (joined ps (pairs_of items)) = ap (λ (l : Option (List (List ℕ × List ℕ))). joined (joined m.fields l) (pairs_of items)) (joined_nothing ps) ∙ joined_assoc m.fields ps (pairs_of items) in
    same_members (with_fields layout (with_fields layout m (x ∷ [])) items) (with_fields layout m (x ∷ items)) (more_numbers m.numbers x items) (or_more m.val (x.item.number == 3) (has_val items)) value fields

pub no_fields : (layout : Layout) (m : Members) → with_fields layout m [] ≡ m
no_fields layout m = same_members (with_fields layout m []) m refl (or_false m.val) (no_elements m.value) (joined_nothing m.fields)

pub ruleset field_steps = (more_fields, no_fields)
