-- What stays told of what is behind a sink.
use Rattle.std.proofs.Common.{◌≡◌, ℕ, ◌+◌, ◌*◌, ◌≤◌, Bool, true, false, ◌&&◌, List, [], ◌∷◌, ◌++◌, Option, Some, None, inr, length, take, drop, refl, sym, ap, ◌∙◌, arith, append_assoc, rules}
use Rattle.std.specs.Prelude.{if◌then◌else◌, nat_le, not, ◌||◌, IfSome, OnOk, Result, Ok, Err}
use Rattle.std.specs.Cmp.Lexicographic.{bytes_decides}
use Rattle.std.specs.Io.KnownBytes.{Keeps, Appends, WriteAppends, append_known}
use Rattle.std.proofs.KnownBytes.{Keeps-trans}
use Rattle.std.proofs.lemmas.List.{append-nil, take_at, drop_at, length-append}
use Rattle.std.specs.Option.{option_map}
use Rattle.std.proofs.lemmas.Bool.Decides.{nat_tests}
use Rattle.http_front.specs.Chunks.{chunk_of, last_chunk, rest_chunk, full_in, chunked}
use Rattle.http_front.specs.Behind.{known, tells, in_chunks, as_it_is, behind, coded, is_full, has_got, has_kept, stands, text_of, written_behind, whole_of, ended, told_of, HasFront, EndsBody}
use Rattle.edge_io.specs.declared.stream.Failed.{Failed}
use Rattle.http_front.proofs.Chunking.{chunked_joined, chunked_short, full_behind}

pub both : (a b : Bool) → a && b ≡ true → (a ≡ true) × (b ≡ true)
both true b h = (refl, h)
both false b h = cc

and_both : (a b : Bool) → a ≡ true → b ≡ true → a && b ≡ true
and_both a b h k = rw (h, k) refl

keeps_if : (s t : Bool) (x y : List ℕ) → (s ≡ true → (t ≡ true) × (y ≡ x)) → Keeps (if s then Some x else None) (if t then Some y else None)
keeps_if false t x y h = tt
keeps_if true t x y h = let got = h refl in rw (got.0, got.1) refl

appends_if : (s t : Bool) (x y bs : List ℕ) → (s ≡ true → (t ≡ true) × (y ≡ x ++ bs)) → Appends (if s then Some x else None) (if t then Some y else None) bs
appends_if false t x y bs h = tt
appends_if true t x y bs h = let got = h refl in rw (got.0, got.1) refl

-- more is on its way, and more was taken
has_got_more : (start a : Option (List ℕ)) (p text q : List ℕ) → has_got start (append_known a p) text ≡ true → has_got start (append_known a (p ++ q)) (text ++ q) ≡ true
has_got_more None a p text q h = refl
has_got_more (Some f) None p text q h = cc
has_got_more (Some f) (Some xs) p text q h =
    let is : xs ++ p ≡ f ++ text = (bytes_decides (xs ++ p) (f ++ text)).0 h in
    (bytes_decides (xs ++ (p ++ q)) (f ++ (text ++ q))).1 (sym (append_assoc xs p q) ∙ ap (λ (u : List ℕ). u ++ q) is ∙ append_assoc f text q)

pub full_of : (taken : List ℕ) → is_full taken ≡ true → length taken ≡ 8192 * full_in taken
full_of taken h = let e = h in search rules

is_full_of : (taken : List ℕ) → length taken ≡ 8192 * full_in taken → is_full taken ≡ true
is_full_of taken h = let e = h in search rules

-- the link has no less than before
has_kept_more : (start a b : Option (List ℕ)) (out : List ℕ) → Appends a b out → has_kept start a ≡ true → has_kept start b ≡ true
has_kept_more None a b out p h = refl
has_kept_more (Some f) None b out p h = cc
has_kept_more (Some f) (Some xs) None out p h = absurd p
has_kept_more (Some f) (Some xs) (Some ys) out p h =
    let long : length ys ≡ length xs + length out = ap length p ∙ length-append xs out in
    grind (arith, nat_tests)

kept_long : (f xs : List ℕ) → nat_le (length f) (length xs) ≡ true → length f ≤ length xs
kept_long f xs h = grind (arith, nat_tests)

-- what a sink that stands has
pub record Stood (start now : Option (List ℕ)) (chunks : Bool) (taken going : List ℕ) : Type 0 where
  pub got : has_got start (append_known now going) (coded chunks taken) ≡ true
  pub kept : has_kept start now ≡ true
  pub full : (not chunks || is_full taken) ≡ true

pub stood : (start now : Option (List ℕ)) (chunks : Bool) (taken going : List ℕ) → stands start now chunks taken going ≡ true → Stood start now chunks taken going
stood start now chunks taken going h =
    let first = both (has_got start (append_known now going) (coded chunks taken)) (has_kept start now && (not chunks || is_full taken)) h in
    let rest = both (has_kept start now) (not chunks || is_full taken) first.1 in
    record { got = first.0; kept = rest.0; full = rest.1 }

pub chunk_closed : (start a : Option (List ℕ)) (name : ℕ) (taken held : List ℕ) → length held ≡ 8192
    → Keeps (written_behind start a name true taken held []) (written_behind start a name true (taken ++ held) [] (chunk_of held))
chunk_closed start a name taken held long =
    keeps_if (stands start a true taken []) (stands start a true (taken ++ held) (chunk_of held)) _ _ (λ h.
    let s = stood start a true taken [] h in
    let full = full_of taken s.full in
    let more = has_got_more start a [] (coded true taken) (chunk_of held) s.got in
    (and_both _ _ (rw (full_behind taken held full long) more) (and_both _ _ s.kept (is_full_of (taken ++ held) (omega (arith, full, long, length-append taken held)))), ap (λ (u : List ℕ). in_chunks name start u) (append-nil (taken ++ held))))

ended_if : (s t : Bool) (x y : List ℕ) → (s ≡ true → (t ≡ true) × (y ≡ ended x)) → Keeps (option_map ended (if s then Some x else None)) (if t then Some y else None)
ended_if false t x y h = tt
ended_if true t x y h = let got = h refl in rw (got.0, got.1) refl

whole_begun : (f body : List ℕ) → take (length f) (f ++ body) ++ chunked (drop (length f) (f ++ body)) ≡ f ++ chunked body
whole_begun f body = rw (take_at f body (length f) refl, drop_at f body (length f) refl) refl

pub body_closed : (start a : Option (List ℕ)) (name : ℕ) (taken held : List ℕ) → length held ≤ 8192
    → Keeps (option_map ended (written_behind start a name true taken held [])) (written_behind start a name false (chunked (taken ++ held)) [] (rest_chunk held ++ last_chunk))
body_closed start a name taken held short =
    ended_if (stands start a true taken []) (stands start a false (chunked (taken ++ held)) (rest_chunk held ++ last_chunk)) _ _ (λ h.
    let s = stood start a true taken [] h in
    let more = has_got_more start a [] (coded true taken) (rest_chunk held ++ last_chunk) s.got in
    let whole : chunked (taken ++ held) ≡ coded true taken ++ (rest_chunk held ++ last_chunk) =
    chunked_joined taken held (full_of taken s.full) ∙ ap (λ (u : List ℕ). coded true taken ++ u) (chunked_short held short) in
    (and_both _ _ (rw whole more) (and_both _ _ s.kept refl), ap (λ (u : List ℕ). 0 ∷ name ∷ tells start ∷ length (known start) ∷ u) (sym (whole_begun (known start) (taken ++ held)))))

pub gathered : (start a : Option (List ℕ)) (name : ℕ) (taken held p bs : List ℕ)
    → Appends (written_behind start a name true taken held p) (written_behind start a name true taken (held ++ bs) p) bs
gathered start a name taken held p bs =
    appends_if (stands start a true taken p) (stands start a true taken p) _ _ bs (λ h.
    (h, ap (λ (u : List ℕ). 1 ∷ name ∷ tells start ∷ length (known start) ∷ u) (ap (λ (u : List ℕ). known start ++ u) (sym (append_assoc taken held bs)) ∙ sym (append_assoc (known start) (taken ++ held) bs))))

has_got_passed : (start a b : Option (List ℕ)) (text bs : List ℕ) → Appends a b bs → has_got start (append_known a []) text ≡ true → has_got start (append_known b []) (text ++ bs) ≡ true
has_got_passed None a b text bs p h = refl
has_got_passed (Some f) None b text bs p h = cc
has_got_passed (Some f) (Some xs) None text bs p h = absurd p
has_got_passed (Some f) (Some xs) (Some ys) text bs p h =
    let is : xs ++ [] ≡ f ++ text = (bytes_decides (xs ++ []) (f ++ text)).0 h in
    (bytes_decides (ys ++ []) (f ++ (text ++ bs))).1 (append-nil ys ∙ p ∙ ap (λ (u : List ℕ). u ++ bs) (sym (append-nil xs) ∙ is) ∙ append_assoc f text bs)

pub passed : (start a b : Option (List ℕ)) (name : ℕ) (taken held bs : List ℕ) → Appends a b bs
    → Appends (written_behind start a name false taken held []) (written_behind start b name false (taken ++ bs) held []) bs
passed start a b name taken held bs appends =
    appends_if (stands start a false taken []) (stands start b false (taken ++ bs) []) _ _ bs (λ h.
    let s = stood start a false taken [] h in
    (and_both _ _ (has_got_passed start a b taken bs appends s.got) (and_both _ _ (has_kept_more start a b bs appends s.kept) refl), ap (λ (u : List ℕ). 0 ∷ name ∷ tells start ∷ length (known start) ∷ u) (sym (append_assoc (known start) taken bs))))

if_some : (s : Bool) (x : List ℕ) (P : List ℕ → Type 0) → (s ≡ true → P x) → IfSome (if s then Some x else None) P
if_some false x P h = tt
if_some true x P h = h refl

front_at : (start now : Option (List ℕ)) (name : ℕ) (chunks : Bool) (taken held p : List ℕ) → has_got start (append_known now p) (coded chunks taken) ≡ true
    → has_kept start now ≡ true → (chunks ≡ true → length taken ≡ 8192 * full_in taken) → HasFront (behind chunks name start (text_of chunks taken held)) now
front_at None now name true taken held p h kept full = λ e. absurd (omega (arith, e))
front_at None now name false taken held p h kept full = λ e. absurd (omega (arith, e))
front_at (Some f) None name chunks taken held p h kept full = cc
front_at (Some f) (Some xs) name true taken held p h kept full = λ e. (
  kept_long f xs kept,
  λ more.
      let is : xs ++ p ≡ f ++ coded true taken = (bytes_decides (xs ++ p) (f ++ coded true taken)).0 h in
      let text = taken ++ held in
      let rest = chunked (held ++ more) in (
        p ++ rest,
        ap (λ (u : List ℕ). take (length f) u ++ chunked (drop (length f) u)) (append_assoc f text more)
            ∙ whole_begun f (text ++ more)
            ∙ ap (λ (u : List ℕ). f ++ chunked u) (append_assoc taken held more)
            ∙ ap (λ (u : List ℕ). f ++ u) (chunked_joined taken (held ++ more) (full refl))
            ∙ sym (append_assoc f (coded true taken) rest)
            ∙ ap (λ (u : List ℕ). u ++ rest) (sym is)
            ∙ append_assoc xs p rest,
      ),
)
front_at (Some f) (Some xs) name false taken held p h kept full = λ e. (
  kept_long f xs kept,
  λ more.
      let is : xs ++ p ≡ f ++ taken = (bytes_decides (xs ++ p) (f ++ taken)).0 h in
      (p ++ more, ap (λ (u : List ℕ). u ++ more) (sym is) ∙ append_assoc xs p more),
)

pub has_front : (start now : Option (List ℕ)) (name : ℕ) (chunks : Bool) (taken held p : List ℕ) → IfSome (written_behind start now name chunks taken held p) (λ told. HasFront told now)
has_front start now name chunks taken held p =
    if_some (stands start now chunks taken p) (behind chunks name start (text_of chunks taken held)) (λ told. HasFront told now) (λ h.
    let s = stood start now chunks taken p h in
    front_at start now name chunks taken held p s.got s.kept (λ e. let full = rw e at s.full in full_of taken full))

out_of : (start now : Option (List ℕ)) (name : ℕ) (taken told : List ℕ) → has_got start (append_known now []) taken ≡ true → as_it_is name start taken ≡ ended told → told_of told ≡ 1 → now ≡ Some (whole_of told)
out_of start now name taken [] got is one = absurd (omega (arith, one))
out_of start now name taken (a ∷ []) got is one = absurd (omega (arith, one))
out_of start now name taken (a ∷ b ∷ []) got is one = absurd (omega (arith, one))
out_of start now name taken (a ∷ b ∷ c ∷ []) got is one = cc
out_of None now name taken (a ∷ b ∷ c ∷ d ∷ text) got is one = let zero_is : 0 ≡ c = cc (is) in absurd (omega (arith, zero_is, one))
out_of (Some f) None name taken (a ∷ b ∷ c ∷ d ∷ text) got is one = cc
out_of (Some f) (Some xs) name taken (a ∷ b ∷ c ∷ d ∷ text) got is one =
    let whole : f ++ taken ≡ whole_of (a ∷ b ∷ c ∷ d ∷ text) = cc (is) in
    let has : xs ++ [] ≡ f ++ taken = (bytes_decides (xs ++ []) (f ++ taken)).0 got in
    ap Some (sym (append-nil xs) ∙ has ∙ whole)

-- where nothing is on its way, the link has the whole text
all_out : (start now : Option (List ℕ)) (name : ℕ) (taken held told : List ℕ) → written_behind start now name false taken held [] ≡ Some (ended told) → told_of told ≡ 1 → now ≡ Some (whole_of told)
all_out start now name taken held told is one =
    elim (stands start now false taken []) as (λ s. stands start now false taken [] ≡ s → now ≡ Some (whole_of told)) [
      | false ↦ λ e. absurd (let none = rw e at is in cc)
      | true ↦ λ e.
          let some = rw e at is in
          let same : as_it_is name start taken ≡ ended told = cc (some) in
          out_of start now name taken told (stood start now false taken [] e).got same one
    ] refl

kept_is : (y : List ℕ) (o : Option (List ℕ)) → Keeps (Some y) o → o ≡ Some y
kept_is y None h = absurd h
kept_is y (Some z) h = ap Some h

ends_at : (now start : Option (List ℕ)) (name : ℕ) (taken held going told : List ℕ) (r : Result Unit Failed) → written_behind start now name false taken held going ≡ Some (ended told)
    → OnOk r (going ≡ []) → EndsBody (Some told) (written_behind start now name false taken held going) now r
ends_at now start name taken held going told (Ok done) is out = (is, λ one. let none = rw out at is in all_out start now name taken held told none one)
ends_at now start name taken held going told (Err e) is out = inr is

-- the steps of an end
pub ends : (w v u now : Option (List ℕ)) (start : Option (List ℕ)) (name : ℕ) (taken held going : List ℕ) (r : Result Unit Failed) → Keeps w v → Keeps (option_map ended v) u
    → Keeps u (written_behind start now name false taken held going) → OnOk r (going ≡ []) → EndsBody w (written_behind start now name false taken held going) now r
ends None v u now start name taken held going r first close last out = tt
ends (Some told) None u now start name taken held going r first close last out = absurd first
ends (Some told) (Some x) None now start name taken held going r first close last out = absurd close
ends (Some told) (Some x) (Some y) now start name taken held going r first close last out =
    let target = ended told in
    let same : y ≡ ended told = close ∙ ap ended first in
    ends_at now start name taken held going told r (kept_is y (written_behind start now name false taken held going) last ∙ ap Some same) out

-- nothing was done, and then bytes were written
pub kept_appends : (a b c : Option (List ℕ)) (bs : List ℕ) → Keeps a b → Appends b c bs → Appends a c bs
kept_appends None b c bs k p = tt
kept_appends (Some xs) None c bs k p = absurd k
kept_appends (Some xs) (Some ys) None bs k p = absurd p
kept_appends (Some xs) (Some ys) (Some zs) bs k p = p ∙ ap (λ (u : List ℕ). u ++ bs) k

pub kept_writes : (a b c : Option (List ℕ)) (r : Result ℕ Failed) (bytes : List ℕ) → Keeps a b → WriteAppends b c r bytes → WriteAppends a c r bytes
kept_writes a b c (Ok n) bytes k p = kept_appends a b c (take n bytes) k p
kept_writes a b c (Err e) bytes k p = Keeps-trans a b c k p
