-- Changes that are written one after another.
use Rattle.std.proofs.Common.{◌≡◌, ℕ, ◌+◌, ◌*◌, ◌<◌, ◌≤◌, List, [], ◌∷◌, ◌++◌, length, get_or, take, refl, sym, ◌∙◌, ap, append_assoc, append-nil, length-append, arith}
use Rattle.std.proofs.lemmas.List.{take_more}
use Rattle.store_manifest.specs.declared.entry.Change.{Change}
use Rattle.store_manifest.specs.declared.entry.Change.TheVariants.{Set, Drop}
use Rattle.store_manifest.proofs.Bytes.{length_members}
use Rattle.store_manifest.specs.Batches.{encoded, batch_of}

pub joined : (o w x y z a b l l' h h' t : List ℕ) → w ≡ o ++ (a ++ b) → x ≡ w ++ l' → l' ≡ l → y ≡ x ++ h' → h' ≡ h → z ≡ y ++ t → z ≡ o ++ (a ++ (b ++ (l ++ (h ++ t))))
joined o w x y z a b l l' h h' t e1 e2 e3 e4 e5 e6 = rw (e6, e4, e5, e2, e3, e1) (simp append_assoc)

batch_of-append : (xs ys : List Change) → batch_of (xs ++ ys) ≡ batch_of xs ++ batch_of ys
batch_of-append [] ys = refl
batch_of-append (x ∷ xs) ys = ap (λ (l : List ℕ). encoded x ++ l) (batch_of-append xs ys) ∙ sym (append_assoc (encoded x) (batch_of xs) (batch_of ys))

pub batch_more : (xs : List Change) (i : ℕ) (d : Change) (old new : List ℕ) → i < length xs → old ≡ batch_of (take i xs) → new ≡ old ++ encoded (get_or xs i d) → new ≡ batch_of (take (i + 1) xs)
batch_more xs i d old new below was more =
    more
    ∙ ap (λ (l : List ℕ). l ++ encoded (get_or xs i d)) was
    ∙ ap (λ (l : List ℕ). batch_of (take i xs) ++ l) (sym (append-nil (encoded (get_or xs i d))))
    ∙ sym (batch_of-append (take i xs) (get_or xs i d ∷ []))
    ∙ sym (ap batch_of (take_more xs i d below))

-- a change takes at most 49 bytes
change_length : (c : Change) → length (encoded c) ≤ 49
change_length (Set e) = omega (arith, length_members e)
change_length (Drop s t) = omega arith

pub batch_length : (cs : List Change) → length (batch_of cs) ≤ 49 * length cs
batch_length [] = omega arith
batch_length (c ∷ cs) = omega (arith, length-append (encoded c) (batch_of cs), change_length c, batch_length cs)
