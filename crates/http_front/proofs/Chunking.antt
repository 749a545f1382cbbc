-- The chunks of texts that are joined.
use Rattle.std.proofs.Common.{◌≡◌, ℕ, zero, suc, ◌+◌, ◌*◌, ◌<◌, ◌≤◌, List, [], ◌∷◌, ◌++◌, length, take, drop, arith, refl, sym, ap, ◌∙◌, append_assoc}
use Rattle.std.proofs.lemmas.List.{append-nil, length-append, length-drop, take-append-le, drop-append-le, take_all, drop_all, drop_at, drop-drop, nil_from_length}
use Rattle.http_front.specs.Chunks.{chunk_of, last_chunk, full_chunks, rest_chunk, full_in, chunked}

-- full chunks, and then those of what follows
pub full_joined : (n k : ℕ) (xs ys : List ℕ) → length xs ≡ 8192 * n → full_chunks (n + k) (xs ++ ys) ≡ full_chunks n xs ++ full_chunks k ys
full_joined zero k xs ys long = let same : zero + k ≡ k = omega arith in rw (nil_from_length xs (omega (arith, long)), same) refl
full_joined (suc n) k xs ys long =
    let first : take 8192 (xs ++ ys) ≡ take 8192 xs = take-append-le 8192 xs ys (omega (arith, long)) in
    let later : drop 8192 (xs ++ ys) ≡ drop 8192 xs ++ ys = drop-append-le 8192 xs ys (omega (arith, long)) in
    let rest = full_joined n k (drop 8192 xs) ys (omega (arith, long, length-drop 8192 xs)) in
    let count : suc n + k ≡ suc (n + k) = omega arith in
    ap (λ (m : ℕ). full_chunks m (xs ++ ys)) count ∙ ap (λ (u : List ℕ). chunk_of u ++ full_chunks (n + k) (drop 8192 (xs ++ ys))) first
    ∙ ap (λ (u : List ℕ). chunk_of (take 8192 xs) ++ full_chunks (n + k) u) later
    ∙ ap (λ (u : List ℕ). chunk_of (take 8192 xs) ++ u) rest
    ∙ sym (append_assoc (chunk_of (take 8192 xs)) (full_chunks n (drop 8192 xs)) (full_chunks k ys))

pub full_in_joined : (xs ys : List ℕ) → length xs ≡ 8192 * full_in xs → full_in (xs ++ ys) ≡ full_in xs + full_in ys
full_in_joined xs ys full = omega (arith, full, length-append xs ys)

pub drop_joined : (n k : ℕ) (xs ys : List ℕ) → length xs ≡ 8192 * n → drop (8192 * (n + k)) (xs ++ ys) ≡ drop (8192 * k) ys
drop_joined n k xs ys long =
    let sum : 8192 * (n + k) ≡ 8192 * n + 8192 * k = omega arith in
    ap (λ (m : ℕ). drop m (xs ++ ys)) sum ∙ sym (drop-drop (8192 * k) (8192 * n) (xs ++ ys)) ∙ ap (λ (u : List ℕ). drop (8192 * k) u) (drop_at xs ys (8192 * n) long)

-- Behind full chunks the rest goes on as if it were the whole.
pub chunked_joined : (xs ys : List ℕ) → length xs ≡ 8192 * full_in xs → chunked (xs ++ ys) ≡ full_chunks (full_in xs) xs ++ chunked ys
chunked_joined xs ys full =
    let n = full_in xs in
    let k = full_in ys in
    let count = full_in_joined xs ys full in
    let fronts = full_joined n k xs ys full in
    let rests = drop_joined n k xs ys full in
    ap (λ (m : ℕ). full_chunks m (xs ++ ys) ++ rest_chunk (drop (8192 * m) (xs ++ ys)) ++ last_chunk) count
    ∙ ap (λ (u : List ℕ). u ++ rest_chunk (drop (8192 * (n + k)) (xs ++ ys)) ++ last_chunk) fronts
    ∙ ap (λ (u : List ℕ). (full_chunks n xs ++ full_chunks k ys) ++ rest_chunk u ++ last_chunk) rests
    ∙ ap (λ (u : List ℕ). u ++ last_chunk) (append_assoc (full_chunks n xs) (full_chunks k ys) (rest_chunk (drop (8192 * k) ys)))
    ∙ append_assoc (full_chunks n xs) (full_chunks k ys ++ rest_chunk (drop (8192 * k) ys)) last_chunk

-- one full chunk
pub full_one : (xs : List ℕ) → length xs ≡ 8192 → full_chunks 1 xs ≡ chunk_of xs
full_one xs long = ap (λ (u : List ℕ). chunk_of u ++ []) (take_all 8192 xs (omega (arith, long))) ∙ append-nil (chunk_of xs)

pub rest_some : (xs : List ℕ) → 0 < length xs → rest_chunk xs ≡ chunk_of xs
rest_some [] some = absurd (omega (arith, some))
rest_some (x ∷ xs) some = refl

-- at most one chunk, and the end
pub chunked_short : (xs : List ℕ) → length xs ≤ 8192 → chunked xs ≡ rest_chunk xs ++ last_chunk
chunked_short xs short =
    elim (full_in xs) as (λ k. full_in xs ≡ k → full_chunks k xs ++ rest_chunk (drop (8192 * k) xs) ++ last_chunk ≡ rest_chunk xs ++ last_chunk) [
      | zero ↦ λ e. refl
      | suc k ↦ λ e.
          let one : suc k ≡ 1 = omega (arith, e, short) in
          let long : length xs ≡ 8192 = omega (arith, e, short) in
          let none : drop 8192 xs ≡ [] = drop_all 8192 xs (omega (arith, long)) in
          ap (λ (m : ℕ). full_chunks m xs ++ rest_chunk (drop (8192 * m) xs) ++ last_chunk) one
          ∙ ap (λ (u : List ℕ). full_chunks 1 xs ++ rest_chunk u ++ last_chunk) none
          ∙ ap (λ (u : List ℕ). u ++ last_chunk) (append-nil (full_chunks 1 xs) ∙ full_one xs long ∙ sym (rest_some xs (omega (arith, long))))
    ] refl

-- a full chunk more
pub full_behind : (xs held : List ℕ) → length xs ≡ 8192 * full_in xs → length held ≡ 8192 → full_chunks (full_in (xs ++ held)) (xs ++ held) ≡ full_chunks (full_in xs) xs ++ chunk_of held
full_behind xs held full long =
    let count : full_in (xs ++ held) ≡ full_in xs + 1 = omega (arith, full, long, length-append xs held) in
    ap (λ (m : ℕ). full_chunks m (xs ++ held)) count ∙ full_joined (full_in xs) 1 xs held full ∙ ap (λ (u : List ℕ). full_chunks (full_in xs) xs ++ u) (full_one held long)
