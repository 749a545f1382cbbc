-- Paths, and what they tell.
use Rattle.std.proofs.Common.{◌≡◌, ◌≢◌, Bool, true, false, cond, not, ◌==◌, ℕ, suc, ◌<◌, ◌≤◌, ◌+◌, ◌-◌, List, [], ◌∷◌, ◌++◌, length, take, drop, Some, None, refl, sym, ◌∙◌, ap, subst, arith, append_assoc}
use Rattle.std.specs.Prelude.{nat_lt, codes, slice_range}
use Rattle.std.specs.List.{position, position_or_len}
use Rattle.std.proofs.lemmas.Bool.Decides.{Decides-eqb, nat_tests}
use Rattle.std.proofs.lemmas.List.{length-append}
use Rattle.std.proofs.lemmas.Option.{same_Some}
use Rattle.std.proofs.Math.Seq.{drop-append_seam, take-append_seam}
use Rattle.partition_names.specs.Path.{path_of}
use Rattle.pv_name.specs.Key.{key_byte, key_of}
use Rattle.pv_name.proofs.KeyNames.{no_colon}

-- PATHS

no_colon_byte : (x : ℕ) → key_byte x ≢ 58
no_colon_byte x = no_colon (x ∷ []) 0 0 (omega arith)

no_colon_here : (x : ℕ) → (key_byte x == 58) ≡ false
no_colon_here x = go (key_byte x == 58) refl
  where
    go : (b : Bool) → (key_byte x == 58) ≡ b → (key_byte x == 58) ≡ false
    go true is = absurd (no_colon_byte x ((Decides-eqb (key_byte x) 58).0 is))
    go false is = is

abbrev is_colon : ℕ → Bool
is_colon b = b == 58

-- the first colon stands where the key ends
key_before : (name rest : List ℕ) → position_or_len is_colon (key_of name ++ 58 ∷ rest) ≡ length (key_of name)
key_before [] rest = refl
key_before (x ∷ xs) rest = go (key_byte x == 58) (no_colon_here x) (key_before xs rest)
  where
    go : (b : Bool) → b ≡ false → position_or_len is_colon (key_of xs ++ 58 ∷ rest) ≡ length (key_of xs) → cond (not b) (1 + position_or_len is_colon (key_of xs ++ 58 ∷ rest)) 0 ≡ suc (length (key_of xs))
    go true is behind = absurd (cc (is))
    go false is behind = let h : 1 + position_or_len is_colon (key_of xs ++ 58 ∷ rest) ≡ suc (length (key_of xs)) = omega (arith, behind) in h

below : (a b : ℕ) → a < b → nat_lt a b ≡ true
below a b lt = grind (arith, nat_tests)

found_at : (path : List ℕ) (n : ℕ) → position_or_len is_colon path ≡ n → n < length path → position is_colon path ≡ Some n
found_at path n is lt =
    let low : nat_lt (position_or_len is_colon path) (length path) ≡ true = below (position_or_len is_colon path) (length path) (omega (arith, is, lt)) in
    ap (λ (b : Bool). cond b (Some (position_or_len is_colon path)) None) low ∙ ap (λ (k : ℕ). Some k) is

-- a path is its key, a colon, and the rest
split : (name part : List ℕ) → path_of name part ≡ key_of name ++ 58 ∷ (part ++ codes ".pb")
split name part = append_assoc (key_of name ++ codes ":") part (codes ".pb") ∙ append_assoc (key_of name) (codes ":") (part ++ codes ".pb")

split_front : (name part : List ℕ) → path_of name part ≡ (key_of name ++ codes ":") ++ (part ++ codes ".pb")
split_front name part = append_assoc (key_of name ++ codes ":") part (codes ".pb")

front_long : (name : List ℕ) → length (key_of name ++ codes ":") ≡ length (key_of name) + 1
front_long name = length-append (key_of name) (codes ":")

pub path_long : (name part : List ℕ) → length (path_of name part) ≡ length (key_of name) + 4 + length part
path_long name part =
    let whole : length (path_of name part) ≡ length ((key_of name ++ codes ":") ++ (part ++ codes ".pb")) = ap (λ (l : List ℕ). length l) (split_front name part) in
    let one : length ((key_of name ++ codes ":") ++ (part ++ codes ".pb")) ≡ length (key_of name ++ codes ":") + length (part ++ codes ".pb") = length-append (key_of name ++ codes ":") (part ++ codes ".pb") in
    let two : length (part ++ codes ".pb") ≡ length part + 3 = length-append part (codes ".pb") in
    omega (arith, whole, one, two, front_long name)

pub colon_in : (name part : List ℕ) → position (λ b. b == 58) (path_of name part) ≡ Some (length (key_of name))
colon_in name part = found_at (path_of name part) (length (key_of name)) (ap (position_or_len is_colon) (split name part) ∙ key_before name (part ++ codes ".pb")) (omega (arith, path_long name part))

-- the name of the partition
pub part_between : (name part : List ℕ) → slice_range (path_of name part) (length (key_of name) + 1) (length (path_of name part) - 3) ≡ part
part_between name part =
    let front : List ℕ = key_of name ++ codes ":" in
    let n : length front ≡ length (key_of name) + 1 = front_long name in
    let count : length (path_of name part) - 3 - (length (key_of name) + 1) ≡ length part = omega (arith, path_long name part) in
    let rest : drop (length (key_of name) + 1) (path_of name part) ≡ part ++ codes ".pb" =
    ap (drop (length (key_of name) + 1)) (split_front name part) ∙ ap (λ (k : ℕ). drop k (front ++ (part ++ codes ".pb"))) (sym n) ∙ drop-append_seam front (part ++ codes ".pb") in
    ap (λ (k : ℕ). take k (drop (length (key_of name) + 1) (path_of name part))) count ∙ ap (take (length part)) rest ∙ take-append_seam part (codes ".pb")

-- the key
pub key_front : (name part : List ℕ) → take (length (key_of name)) (path_of name part) ≡ key_of name
key_front name part = ap (take (length (key_of name))) (split name part) ∙ take-append_seam (key_of name) (58 ∷ (part ++ codes ".pb"))

-- PARTS OF A PATH

pub no_colon_none : (name part path : List ℕ) → path_of name part ≡ path → None ≡ position (λ b. b == 58) path → ⊥
no_colon_none name part path named none = absurd (cc (none ∙ ap (position (λ b. b == 58)) (sym named) ∙ colon_in name part))

pub colon_at : (name part path : List ℕ) (end : ℕ) → path_of name part ≡ path → Some end ≡ position (λ b. b == 58) path → end ≡ length (key_of name)
colon_at name part path end named some = same_Some end (length (key_of name)) (some ∙ ap (position (λ b. b == 58)) (sym named) ∙ colon_in name part)

pub part_at : (name part path : List ℕ) (end : ℕ) → path_of name part ≡ path → end ≡ length (key_of name) → slice_range path (end + 1) (length path - 3) ≡ part
part_at name part path end named is =
    subst (λ (p : List ℕ). slice_range p (end + 1) (length p - 3) ≡ part) named (ap (λ (n : ℕ). slice_range (path_of name part) (n + 1) (length (path_of name part) - 3)) is ∙ part_between name part)

pub key_at : (name part path : List ℕ) (end : ℕ) → path_of name part ≡ path → end ≡ length (key_of name) → key_of name ≡ take end path
key_at name part path end named is = subst (λ (p : List ℕ). key_of name ≡ take end p) named (sym (ap (λ (n : ℕ). take n (path_of name part)) is ∙ key_front name part))

pub path_is_long : (name part path : List ℕ) (end : ℕ) → path_of name part ≡ path → end ≡ length (key_of name) → end + 4 ≤ length path
path_is_long name part path end named is = let long = path_long name part in let same = ap (λ (l : List ℕ). length l) named in omega (arith, is, long, same)
