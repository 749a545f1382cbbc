-- What is written, part by part.
use Rattle.std.proofs.Common.{◌≡◌, ℕ, ◌+◌, ◌*◌, ◌^◌, ◌<◌, List, [], ◌∷◌, ◌++◌, length, arith, sym, ◌∙◌, ap, append_assoc}
use Rattle.std.proofs.lemmas.Grind.{flat_map-append}
use Rattle.std.proofs.lemmas.List.{append-nil, length-append}
use Rattle.pb_wire.specs.Message.{blob, WireField}
use Rattle.pb_wire.specs.Spelling.{number, number_text, field_text}
use Rattle.pb_wire.specs.FieldSpelling.{message_text, pair_text, pair_field}

-- some fields, and then the others
pub texts_apart : (fields others : List WireField) → message_text (fields ++ others) ≡ message_text fields ++ message_text others
texts_apart fields others = flat_map-append (λ f. field_text f.number f.value) fields others

name_length : (b : List ℕ) → length (field_text 1 (blob b)) ≡ 1 + (length (number_text (length b)) + length b)
unfolding number_text number
name_length b = simp length-append (omega arith)

val_length : (b : List ℕ) → length (field_text 2 (blob b)) ≡ 1 + (length (number_text (length b)) + length b)
unfolding number_text number
val_length b = simp length-append (omega arith)

-- the length of both members
pub pair_length : (name val : List ℕ) → length (pair_text (name, val)) ≡ (1 + (length (number_text (length name)) + length name)) + (1 + (length (number_text (length val)) + length val))
pair_length name val = omega (arith, name_length name, val_length val, length-append (field_text 1 (blob name)) (field_text 2 (blob val) ++ []), ap length (append-nil (field_text 2 (blob val))))

-- a tag, the length of the members and the members, behind other bytes
pub pair_written : (old : List ℕ) (number first second : ℕ) (name val : List ℕ) → first ≡ 1 + (length (number_text (length name)) + length name) → second ≡ 1 + (length (number_text (length val)) + length val)
    → (old ++ (number_text (number * 8 + 2) ++ number_text (first + second))) ++ pair_text (name, val) ≡ old ++ message_text (pair_field number (name, val) ∷ [])
pair_written old number first second name val e1 e2 =
    let text = pair_text (name, val) in
    let tag = number_text (number * 8 + 2) in
    let len : first + second ≡ length text = omega (arith, e1, e2, pair_length name val) in
    let whole : (tag ++ number_text (length text)) ++ text ≡ message_text (pair_field number (name, val) ∷ []) = append_assoc tag (number_text (length text)) text ∙ sym (append-nil (field_text number (blob text))) in
    rw len (append_assoc old (tag ++ number_text (length text)) text ∙ ap (λ (t : List ℕ). old ++ t) whole)

-- what was counted for the length fits into a number of 64 bits
pub pair_short : (first second : ℕ) (name val : List ℕ) → first ≡ 1 + (length (number_text (length name)) + length name) → second ≡ 1 + (length (number_text (length val)) + length val) → first + second < 2 ^ 64
    → length (pair_text (name, val)) < 2 ^ 64
pair_short first second name val e1 e2 short = omega (arith, e1, e2, short, pair_length name val)
