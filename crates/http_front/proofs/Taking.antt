-- How much of a body is taken, and what of it the link has then.
use Rattle.std.proofs.Common.{◌≡◌, ℕ, ◌+◌, ◌-◌, ◌*◌, ◌/◌, ◌%◌, ◌<◌, ◌≤◌, min, Bool, true, false, List, [], ◌++◌, Option, Some, None, Result, Ok, Err, length, take, drop, refl, sym, ap, ◌∙◌, subst, arith}
use Rattle.std.specs.Prelude.{if◌then◌else◌}
use Rattle.std.specs.Cmp.Lexicographic.{bytes_decides}
use Rattle.std.specs.Io.KnownBytes.{Keeps, append_known}
use Rattle.std.proofs.lemmas.List.{append-nil, take_at, drop_at, length-append}
use Rattle.edge_io.specs.declared.stream.Failed.{Failed}
use Rattle.http_front.specs.Chunks.{full_chunks, full_in}
use Rattle.http_front.specs.Behind.{known, in_chunks, as_it_is, coded, has_got, stands, written_behind, told_of, mode_of, room_of, sent_of, Takes}
use Rattle.http_front.proofs.Chunking.{full_joined}
use Rattle.http_front.proofs.Standing.{full_of, stood}

takes_if : (w : Option (List ℕ)) (s t : Bool) (x y : List ℕ) (now : Option (List ℕ)) (most n : ℕ) → Keeps w (if s then Some x else None)
    → (s ≡ true → mode_of x ≡ 1 → n ≡ min most (room_of x)) → (t ≡ true → told_of y ≡ 1 → now ≡ Some (sent_of y)) → Takes w (if t then Some y else None) now most (Ok n)
takes_if None s t x y now most n kept room sent = tt
takes_if (Some told) s false x y now most n kept room sent = tt
takes_if (Some told) false true x y now most n kept room sent = absurd kept
takes_if (Some told) true true x y now most n kept room sent =
    let P : List ℕ → Type 0 = λ u. mode_of u ≡ 1 → n ≡ min most (room_of u) in
    (subst P kept (room refl), sent refl)

err_takes : (w v now : Option (List ℕ)) (most : ℕ) (e : Failed) → Takes w v now most (Err e)
err_takes None v now most e = tt
err_takes (Some told) None now most e = tt
err_takes (Some told) (Some more) now most e = tt

-- A TEXT AS IT IS

plain_sent : (start now : Option (List ℕ)) (name : ℕ) (taken : List ℕ) → has_got start (append_known now []) taken ≡ true → told_of (as_it_is name start taken) ≡ 1 → now ≡ Some (sent_of (as_it_is name start taken))
plain_sent None now name taken got one = absurd (omega (arith, one))
plain_sent (Some f) None name taken got one = cc
plain_sent (Some f) (Some xs) name taken got one =
    let is : xs ++ [] ≡ f ++ taken = (bytes_decides (xs ++ []) (f ++ taken)).0 got in
    ap Some (sym (append-nil xs) ∙ is)

pub plain_takes : (w start a first now : Option (List ℕ)) (name other : ℕ) (taken held p more rest : List ℕ) (most : ℕ) (r : Result ℕ Failed) → Keeps w (written_behind start a name false taken held p)
    → Takes w (written_behind first now other false more rest []) now most r
plain_takes w start a first now name other taken held p more rest most (Ok n) kept =
    takes_if w (stands start a false taken p) (stands first now false more []) (as_it_is name start taken) (as_it_is other first more) now most n kept
    (λ h one. absurd (omega (arith, one)))
    (λ h one. plain_sent first now other more (stood first now false more [] h).got one)
plain_takes w start a first now name other taken held p more rest most (Err e) kept = err_takes w (written_behind first now other false more rest []) now most e

-- CHUNKS

chunk_room : (start : Option (List ℕ)) (name : ℕ) (taken held : List ℕ) (most n : ℕ) → length taken ≡ 8192 * full_in taken → length held < 8192 → n ≡ min most (8192 - length held)
    → n ≡ min most (room_of (in_chunks name start (taken ++ held)))
chunk_room start name taken held most n full short is =
    let f = known start in
    let rest : length (taken ++ held) % 8192 ≡ length held = omega (arith, full, short, length-append taken held) in
    let same : length (drop (length f) (f ++ (taken ++ held))) % 8192 ≡ length held = ap (λ (u : List ℕ). length u % 8192) (drop_at f (taken ++ held) (length f) refl) ∙ rest in
    is ∙ ap (λ (m : ℕ). min most (8192 - m)) (sym same)

-- the chunks that are full, whatever stands behind them
full_alone : (n : ℕ) (xs ys : List ℕ) → length xs ≡ 8192 * n → full_chunks n (xs ++ ys) ≡ full_chunks n xs
full_alone n xs ys long =
    let same : n ≡ n + 0 = omega arith in
    ap (λ (m : ℕ). full_chunks m (xs ++ ys)) same ∙ full_joined n 0 xs ys long ∙ append-nil (full_chunks n xs)

chunks_sent : (f taken held : List ℕ) → length taken ≡ 8192 * full_in taken → 0 < length held → length held ≤ 8192
    → take (length f) (f ++ (taken ++ held)) ++ full_chunks ((length (drop (length f) (f ++ (taken ++ held))) - 1) / 8192) (drop (length f) (f ++ (taken ++ held))) ≡ f ++ coded true taken
chunks_sent f taken held full some short =
    let body = taken ++ held in
    let count : (length body - 1) / 8192 ≡ full_in taken = omega (arith, full, some, short, length-append taken held) in
    rw (take_at f body (length f) refl, drop_at f body (length f) refl, count, full_alone (full_in taken) taken held full) refl

chunk_sent : (start now : Option (List ℕ)) (name : ℕ) (taken held : List ℕ) → has_got start (append_known now []) (coded true taken) ≡ true → length taken ≡ 8192 * full_in taken → 0 < length held → length held ≤ 8192
    → told_of (in_chunks name start (taken ++ held)) ≡ 1 → now ≡ Some (sent_of (in_chunks name start (taken ++ held)))
chunk_sent None now name taken held got full some short one = absurd (omega (arith, one))
chunk_sent (Some f) None name taken held got full some short one = cc
chunk_sent (Some f) (Some xs) name taken held got full some short one =
    let is : xs ++ [] ≡ f ++ coded true taken = (bytes_decides (xs ++ []) (f ++ coded true taken)).0 got in
    ap Some (sym (append-nil xs) ∙ is ∙ sym (chunks_sent f taken held full some short))

pub chunk_takes : (w start now : Option (List ℕ)) (name : ℕ) (taken held piece : List ℕ) (most n : ℕ) → Keeps w (written_behind start now name true taken held []) → length held < 8192
    → n ≡ min most (8192 - length held) → length piece ≡ n → 0 < n → Takes w (written_behind start now name true taken (held ++ piece) []) now most (Ok n)
chunk_takes w start now name taken held piece most n kept short is long some =
    let joined = length-append held piece in
    takes_if w (stands start now true taken []) (stands start now true taken []) (in_chunks name start (taken ++ held)) (in_chunks name start (taken ++ (held ++ piece))) now most n kept
    (λ h one. chunk_room start name taken held most n (full_of taken (stood start now true taken [] h).full) short is)
    (λ h one. chunk_sent start now name taken (held ++ piece) (stood start now true taken [] h).got (full_of taken (stood start now true taken [] h).full) (omega (arith, joined, long, some)) (omega (arith, joined, long, is, short)) one)
