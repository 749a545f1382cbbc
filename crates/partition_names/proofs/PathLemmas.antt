-- Paths and what they tell.
use Rattle.std.proofs.Common.{◌≡◌, ◌≢◌, ℕ, List, [], ◌∷◌, ◌++◌, map, refl, sym, ◌∙◌, arith, append_assoc}
use Rattle.std.specs.Prelude.{codes}
use Rattle.std.proofs.lemmas.List.{append_cancel_right}
use Rattle.pv_name.specs.Key.{key_byte, key_of}
use Rattle.pv_name.proofs.KeyNames.{no_colon}
use Rattle.partition_names.specs.Path.{path_of}

no_colon_byte : (x : ℕ) → key_byte x ≢ 58
no_colon_byte x = no_colon (x ∷ []) 0 0 (omega arith)

-- the first colon ends the key
keys_end : (a b m n : List ℕ) → map key_byte a ++ (58 ∷ m) ≡ map key_byte b ++ (58 ∷ n) → (map key_byte a ≡ map key_byte b) × (m ≡ n)
keys_end [] [] m n e = (refl, cc)
keys_end [] (y ∷ ys) m n e = let colon : 58 ≡ key_byte y = cc in absurd (no_colon_byte y (sym colon))
keys_end (x ∷ xs) [] m n e = let colon : key_byte x ≡ 58 = cc in absurd (no_colon_byte x colon)
keys_end (x ∷ xs) (y ∷ ys) m n e =
    let head : key_byte x ≡ key_byte y = cc in
    let tail : map key_byte xs ++ (58 ∷ m) ≡ map key_byte ys ++ (58 ∷ n) = cc in
    let rest = keys_end xs ys m n tail in
    (rw (head, rest.0) refl, rest.1)

pub one_path : (a b m n : List ℕ) → path_of a m ≡ path_of b n → (key_of a ≡ key_of b) × (m ≡ n)
one_path a b m n e =
    let front : key_of a ++ codes ":" ++ m ≡ key_of b ++ codes ":" ++ n = append_cancel_right (key_of a ++ codes ":" ++ m) (key_of b ++ codes ":" ++ n) (codes ".pb") e in
    keys_end a b m n (sym (append_assoc (key_of a) (codes ":") m) ∙ front ∙ append_assoc (key_of b) (codes ":") n)
