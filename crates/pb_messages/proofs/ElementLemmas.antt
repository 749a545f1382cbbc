-- Elements that are added one after another.
use Rattle.std.proofs.Common.{◌≡◌, ℕ, List, [], ◌∷◌, ◌++◌, map, refl, sym, ◌∙◌, ap, append_assoc}
use Rattle.std.proofs.lemmas.List.{append-nil}
use Rattle.pb_wire.specs.Message.{WireValue}
use Rattle.pb_messages.specs.declared.value.Value.{Value}
use Rattle.pb_messages.specs.declared.value.Value.TheVariants.{Str, Short, Float, Enum, Byte, Int, Double, Strs, Shorts, Floats, Enums, Bytes, IntList, Doubles}
use Rattle.pb_messages.specs.Element.{int_of, bits32_of, bits64_of, bytes_of}
use Rattle.pb_messages.specs.Adding.{with_elements}

-- one element, and then the others
pub more_elements : (v : Value) (x : WireValue) (xs : List WireValue) → with_elements (with_elements v (x ∷ [])) xs ≡ with_elements v (x ∷ xs)
more_elements (Str b) x xs = refl
more_elements (Short n) x xs = refl
more_elements (Float n) x xs = refl
more_elements (Enum n) x xs = refl
more_elements (Byte b) x xs = refl
more_elements (Int n) x xs = refl
more_elements (Double n) x xs = refl
more_elements (Strs bs) x xs = ap (λ (l : List (List ℕ)). Strs l) (append_assoc bs (bytes_of x ∷ []) (map bytes_of xs))
more_elements (Shorts ns) x xs = ap Shorts (append_assoc ns (int_of x ∷ []) (map int_of xs))
more_elements (Floats ns) x xs = ap Floats (append_assoc ns (bits32_of x ∷ []) (map bits32_of xs))
more_elements (Enums ns) x xs = ap Enums (append_assoc ns (int_of x ∷ []) (map int_of xs))
more_elements (Bytes b) x xs = refl
more_elements (IntList ns) x xs = ap IntList (append_assoc ns (int_of x ∷ []) (map int_of xs))
more_elements (Doubles ns) x xs = ap Doubles (append_assoc ns (bits64_of x ∷ []) (map bits64_of xs))

pub no_elements : (v : Value) → with_elements v [] ≡ v
no_elements (Str b) = refl
no_elements (Short n) = refl
no_elements (Float n) = refl
no_elements (Enum n) = refl
no_elements (Byte b) = refl
no_elements (Int n) = refl
no_elements (Double n) = refl
no_elements (Strs bs) = ap Strs (append-nil bs)
no_elements (Shorts ns) = ap Shorts (append-nil ns)
no_elements (Floats ns) = ap Floats (append-nil ns)
no_elements (Enums ns) = ap Enums (append-nil ns)
no_elements (Bytes b) = refl
no_elements (IntList ns) = ap IntList (append-nil ns)
no_elements (Doubles ns) = ap Doubles (append-nil ns)

-- some elements, and then the others
pub elements_apart : (v : Value) (xs ys : List WireValue) → with_elements (with_elements v xs) ys ≡ with_elements v (xs ++ ys)
elements_apart v [] ys = ap (λ (u : Value). with_elements u ys) (no_elements v)
elements_apart v (x ∷ xs) ys =
    ap (λ (u : Value). with_elements u ys) (sym (more_elements v x xs)) ∙ elements_apart (with_elements v (x ∷ [])) xs ys ∙ more_elements v x (xs ++ ys)

pub ruleset element_steps = (more_elements, no_elements)
