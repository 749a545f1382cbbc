-- Bytes behind which more are read.
use Rattle.std.proofs.Common.{◌≡◌, ◌≢◌, ℕ, Bool, true, false, ◌||◌, ◌==◌, ◌+◌, ◌-◌, ◌≤◌, List, [], ◌∷◌, ◌++◌, length, take, refl, sym, ap, ◌∙◌, subst, inl, inr, arith, append_assoc}
use Rattle.std.specs.List.{list_any, slice_range}
use Rattle.std.proofs.lemmas.List.{append-nil, drop-take, drop_at, length-take}
use Rattle.std.proofs.lemmas.List.Elements.{All-nil, All-cons, All-head, All-tail, All-append}
use Rattle.httparse.specs.Grammar.{LineEnd, crlf, lf, print_end, RequestHead, print_request, HasNoRequest}
use Rattle.http_front.specs.declared.reading.Due.{Due}
use Rattle.http_front.specs.declared.reading.Due.TheVariants as due
use Rattle.http_front.specs.Heads.{IsUnfinished}
use Rattle.http_front.specs.Reading.{HasNoLine, Waits, GoesOn}

-- A HEAD ENDS WITH A NEWLINE

line_ends : (e : LineEnd) → (front : List ℕ) × (print_end e ≡ front ++ 10 ∷ [])
line_ends crlf = (13 ∷ [], refl)
line_ends lf = ([], refl)

ends : (a b : List ℕ) (e : LineEnd) → (front : List ℕ) × (a ++ (b ++ print_end e) ≡ front ++ 10 ∷ [])
ends a b e =
    let last = line_ends e in
    (a ++ (b ++ last.0), rw last.1 (simp append_assoc))

head_ends : (h : RequestHead) → (front : List ℕ) × (print_request h ≡ front ++ 10 ∷ [])
unfolding print_request
head_ends h = ends _ _ h.last

-- BYTES WITHOUT A NEWLINE

pub no_line_from : (xs : List ℕ) → list_any (λ b. b == 10) xs ≡ false → HasNoLine xs
no_line_from [] none = All-nil (λ b. b ≢ 10)
no_line_from (x ∷ xs) none = All-cons (λ b. b ≢ 10) x xs (first x (list_any (λ b. b == 10) xs) none) (no_line_from xs (later (x == 10) (list_any (λ b. b == 10) xs) none))
  where
    later : (a b : Bool) → (a || b) ≡ false → b ≡ false
    later true b h = cc
    later false b h = h

    first : (x : ℕ) (b : Bool) → ((x == 10) || b) ≡ false → x ≢ 10
    first x b h is = let no = rw is at h in cc

none_in : (ys front rest : List ℕ) → HasNoLine ys → ys ≡ front ++ 10 ∷ rest → ⊥
none_in [] [] rest none is = cc
none_in [] (x ∷ front) rest none is = cc
none_in (y ∷ ys) [] rest none is = let same : y ≡ 10 = cc (is) in All-head (λ b. b ≢ 10) y ys none same
none_in (y ∷ ys) (x ∷ front) rest none is = let tails : ys ≡ front ++ 10 ∷ rest = cc (is) in none_in ys front rest (All-tail (λ b. b ≢ 10) y ys none) tails

-- a newline stands before them
cut : (xs ys front rest : List ℕ) → HasNoLine ys → xs ++ ys ≡ front ++ 10 ∷ rest → (more : List ℕ) × (xs ≡ front ++ 10 ∷ more)
cut [] ys front rest none is = absurd (none_in ys front rest none is)
cut (x ∷ xs) ys [] rest none is = let same : x ≡ 10 = cc (is) in (xs, ap (λ (n : ℕ). n ∷ xs) same)
cut (x ∷ xs) ys (y ∷ front) rest none is =
    let first : x ≡ y = cc (is) in
    let tails : xs ++ ys ≡ front ++ 10 ∷ rest = cc (is) in
    let later = cut xs ys front rest none tails in
    (later.0, cc (first, later.1))

-- they make no head
no_head_longer : (xs ys : List ℕ) → HasNoRequest xs → HasNoLine ys → HasNoRequest (xs ++ ys)
no_head_longer xs ys none quiet h rest reads =
    let end = head_ends h in
    let is : xs ++ ys ≡ end.0 ++ 10 ∷ rest = reads.1 ∙ ap (λ (u : List ℕ). u ++ rest) end.1 ∙ append_assoc end.0 (10 ∷ []) rest in
    let found = cut xs ys end.0 rest quiet is in
    none h found.0 (reads.0, found.1 ∙ sym (append_assoc end.0 (10 ∷ []) found.0) ∙ ap (λ (u : List ℕ). u ++ found.0) (sym end.1))

no_head_empty : HasNoRequest []
no_head_empty h rest reads =
    let end = head_ends h in
    none_in [] end.0 rest (All-nil (λ b. b ≢ 10)) (reads.1 ∙ ap (λ (u : List ℕ). u ++ rest) end.1 ∙ append_assoc end.0 (10 ∷ []) rest)

-- THE READING GOES ON

pub waits_first : Waits []
waits_first = record { no_head = no_head_empty; parsed = []; later = []; parts = refl; open_yet = inl refl; no_line = All-nil (λ b. b ≢ 10) }

waits_parsed : (taken : List ℕ) → IsUnfinished taken → Waits taken
waits_parsed taken u = record { no_head = u.0; parsed = taken; later = []; parts = sym (append-nil taken); open_yet = inr u.1; no_line = All-nil (λ b. b ≢ 10) }

waits_longer : (taken chunk : List ℕ) → Waits taken → HasNoLine chunk → Waits (taken ++ chunk)
waits_longer taken chunk w quiet = record {
  no_head = no_head_longer taken chunk w.no_head quiet;
  parsed = w.parsed;
  later = w.later ++ chunk;
  parts = ap (λ (u : List ℕ). u ++ chunk) w.parts ∙ append_assoc w.parsed w.later chunk;
  open_yet = w.open_yet;
  no_line = All-append (λ b. b ≢ 10) w.later chunk w.no_line quiet;
}

-- after a read
pub waits_on : (why : Due) (taken chunk all : List ℕ) (is_line : Bool) → all ≡ taken ++ chunk → Waits taken → GoesOn why all → (why ≡ due.Nothing → is_line ≡ false) → (is_line ≡ false → HasNoLine chunk) → Waits all
waits_on due.Nothing taken chunk all is_line is w on quiet none = subst Waits (sym is) (waits_longer taken chunk w (none (quiet refl)))
waits_on due.Look taken chunk all is_line is w on quiet none = waits_parsed all on
waits_on due.End taken chunk all is_line is w on quiet none = absurd on
waits_on due.Limit taken chunk all is_line is w on quiet none = absurd on

-- the bytes that a read brought
pub brought : (old new chunk : List ℕ) (len more : ℕ) → len ≤ length old → take (len + more) new ≡ take len old ++ chunk → slice_range new len (len + more) ≡ chunk
brought old new chunk len more within is =
    let count : len + more - len ≡ more = omega arith in
    let front : length (take len old) ≡ len = omega (arith, length-take len old) in
    rw (count, sym (drop-take len more new), is) (drop_at (take len old) chunk len front)

-- what both parses that lead on need
pub still : (why : Due) (taken : List ℕ) (P : Type 0) → GoesOn why taken → (why ≡ due.Nothing → P) → (why ≡ due.Look → P) → P
still due.Nothing taken P on nothing look = nothing refl
still due.Look taken P on nothing look = look refl
still due.End taken P on nothing look = absurd on
still due.Limit taken P on nothing look = absurd on
