-- Laws of texts with commas between them.
use Rattle.std.proofs.Common.{◌≡◌, ◌<◌, ◌≤◌, ◌-◌, ◌*◌, ◌/◌, ◌%◌, ◌^◌, ℕ, zero, suc, List, [], ◌∷◌, ◌++◌, map, codes, decimal, if◌then◌else◌, Result, Ok, Err, OnOk, is_ok, refl, sym, ap, ◌∙◌, append_assoc, arith}
use Rattle.std.specs.Char.{digit_char}
use Rattle.std.specs.Fmt.{signed_decimal}
use Rattle.std.proofs.lemmas.List.{append-nil}
use Rattle.std.specs.List.{flat_map}
use Rattle.series_model.specs.declared.sample.Sample.{Sample}
use Rattle.pb_messages.specs.declared.event.Event.{Event}
use Rattle.json_out.specs.Values.{separated, array_text, hex_digits, value_text}
use Rattle.json_out.specs.Json.{event_text, fields_text}
use Rattle.json_out.specs.Writing.{has_samples}
use Rattle.json_out.specs.Fronts.{separated_first}

-- what the last of several pieces leaves
pub ended : {A E : Type 0} (r : Result A E) (new old piece whole : List ℕ) → new ≡ (if is_ok r then old ++ piece else old) → old ++ piece ≡ whole → OnOk r (new ≡ whole)
ended {A} {E} (Ok x) new old piece whole put is = put ∙ is
ended {A} {E} (Err e) new old piece whole put is = tt

-- an array, written bracket by bracket
pub array_put : {X : Type 0} (text : X → List ℕ) (x : X) (xs items : List X) (o p q r : List ℕ) → items ≡ x ∷ xs → p ≡ o ++ codes "[" → q ≡ p ++ text x → r ≡ q ++ flat_map (λ y. 44 ∷ text y) xs
    → r ++ codes "]" ≡ o ++ array_text text items
array_put text x xs items o p q r are opened first rest =
    rw (rest, first, opened, are, separated_first text x xs) (simp append_assoc)

-- one more sample, behind a comma where others stand before it
pub separated_more : (text : Sample → List ℕ) (xs : List Sample) (s : Sample) → separated (map text (xs ++ s ∷ [])) ≡ separated (map text xs) ++ ((if has_samples xs then codes "," else []) ++ text s)
separated_more text [] s = refl
separated_more text (x ∷ []) s = refl
separated_more text (x ∷ y ∷ xs) s =
    ap (λ (u : List ℕ). text x ++ (44 ∷ u)) (separated_more text (y ∷ xs) s) ∙ sym (append_assoc (text x) (44 ∷ separated (map text (y ∷ xs))) (44 ∷ text s))

-- DIGITS

-- one digit more is written, and one fewer is left
pub digit_put : (n bits digit : ℕ) (out new whole : List ℕ) → 0 < n → digit ≡ digit_char (bits / 2 ^ (4 * (n - 1)) % 16) → new ≡ out ++ digit ∷ [] → out ++ hex_digits n bits ≡ whole
    → new ++ hex_digits (n - 1) bits ≡ whole
unfolding hex_digits
digit_put zero bits digit out new whole some is put so_far = absurd (omega arith)
digit_put (suc n) bits digit out new whole some is put so_far =
    let one : suc n - 1 ≡ n = omega arith in
    rw (put, is, one, append_assoc) so_far

pub digits_done : (n bits : ℕ) (out whole : List ℕ) → n ≤ 0 → out ++ hex_digits n bits ≡ whole → out ≡ whole
unfolding hex_digits
digits_done zero bits out whole none so_far = sym (append-nil out) ∙ so_far
digits_done (suc n) bits out whole none so_far = absurd (omega arith)

-- EVENTS

-- an event, written member by member
pub event_put : (t : ℕ) (e : Event) (o q r s u v w : List ℕ) → q ≡ o ++ (codes "{\"secs\":" ++ decimal (t / 1000000000) ++ codes ",\"nanos\":" ++ decimal (t % 1000000000))
    → r ≡ q ++ codes ",\"val\":" → s ≡ r ++ value_text e.val → u ≡ s ++ (codes ",\"severity\":" ++ signed_decimal e.severity) → v ≡ u ++ (codes ",\"status\":" ++ signed_decimal e.status)
    → w ≡ v ++ fields_text e.fields → w ++ codes "}" ≡ o ++ event_text t e
event_put t e o q r s u v w moment label value severity status fields =
    rw (fields, status, severity, value, label, moment) (simp append_assoc)
