-- Packed elements, as they are written.
use Rattle.std.proofs.Common.{◌≡◌, ℕ, ◌*◌, ◌<◌, List, [], ◌∷◌, ◌++◌, length, arith, sym, ◌∙◌, ap, append_assoc}
use Rattle.std.specs.List.{flat_map}
use Rattle.std.proofs.lemmas.List.{append-nil, length-append}
use Rattle.pb_wire.specs.Spelling.{number_text}
use Rattle.pb_wire.specs.FieldSpelling.{message_text}
use Rattle.pb_messages.specs.Spelling.{packed_field}

-- the tag, the length and the elements are the field, behind other bytes
pub packed_written : {A : Type 0} (spell : A → List ℕ) (old : List ℕ) (xs : List A) (len : ℕ) → 0 < length xs → len ≡ length (flat_map spell xs)
    → (old ++ (number_text 26 ++ number_text len)) ++ flat_map spell xs ≡ old ++ message_text (packed_field spell xs)
packed_written spell old [] len some e = absurd (omega arith)
packed_written spell old (x ∷ xs) len some e =
    let text = flat_map spell (x ∷ xs) in
    let whole : (number_text 26 ++ number_text (length text)) ++ text ≡ message_text (packed_field spell (x ∷ xs)) = append_assoc (number_text 26) (number_text (length text)) text ∙ sym (append-nil (number_text 26 ++ (number_text (length text) ++ text))) in
    rw e (append_assoc old (number_text 26 ++ number_text (length text)) text ∙ ap (λ (t : List ℕ). old ++ t) whole)

pub same_length : {A : Type 0} (spell : A → List ℕ) (k : ℕ) → ((x : A) → length (spell x) ≡ k) → (xs : List A) → length (flat_map spell xs) ≡ length xs * k
same_length spell k each [] = omega arith
same_length spell k each (x ∷ xs) = omega (arith, each x, length-append (spell x) (flat_map spell xs), same_length spell k each xs)
