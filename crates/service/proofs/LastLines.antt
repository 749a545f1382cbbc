-- The last of the lines that a feed is replied.
use Rattle.std.proofs.Common.{◌≡◌, ◌≢◌, inl, inr, ℕ, zero, suc, ◌+◌, ◌/◌, ◌%◌, ◌==◌, List, [], ◌∷◌, ◌++◌, Bool, true, false, if◌then◌else◌, Option, codes, refl, ap, sym, ◌∙◌, subst, arith, append_assoc, append-nil}
use Rattle.std.specs.Prelude.{nat_lt}
use Rattle.std.specs.List.{AllByRecursion}
use Rattle.std.specs.Io.KnownBytes.{Appends}
use Rattle.std.proofs.lemmas.List.Elements.{All-from_recursion}
use Rattle.std.specs.Fmt.{decimal, digit_glyph, digits, digits_onto}
use Rattle.pb_lines.specs.Fault.{fault_number}
use Rattle.pb_lines.specs.Stream.{Item, header, sample, chunk_end}
use Rattle.act_model.specs.History.{Done}
use Rattle.feed_session.specs.Replies.{CutsOff, Replies, in_chunk, last_line, lines_of, reply_to, text_of}
use Rattle.feed_session.specs.Session.{TakenItem, count_dropped, count_held, count_kept}
use Rattle.feed_session.specs.declared.end.Fed.{Fed}
use Rattle.feed_session.specs.declared.end.Fed.TheVariants as fed
use Rattle.service.specs.declared.served.Kind.TheVariants.{Feed}
use Rattle.service.specs.Serving.{AreLines, EndsInLast, HasBegun, HasReply, fed_as}

-- BYTES THAT ARE NO NEWLINE

abbrev IsPlain : List ℕ → Type 0
IsPlain bytes = AllByRecursion (λ (b : ℕ). b ≢ 10) bytes

plain-append : (xs ys : List ℕ) → IsPlain xs → IsPlain ys → IsPlain (xs ++ ys)
plain-append [] ys p q = q
plain-append (x ∷ xs) ys p q = (p.0, plain-append xs ys p.1 q)

-- so it is, where a test of each byte says so
abbrev has_newline : List ℕ → Bool
has_newline [] = false
has_newline (x ∷ xs) = if x == 10 then true else has_newline xs

by_test : (xs : List ℕ) → has_newline xs ≡ false → IsPlain xs
by_test [] none = tt
by_test (x ∷ xs) none = by_first (x == 10) refl none (by_test xs)
  where
    by_first : (b : Bool) → (x == 10) ≡ b → (if b then true else has_newline xs) ≡ false → (has_newline xs ≡ false → IsPlain xs) → IsPlain (x ∷ xs)
    by_first true is none more = absurd (cc)
    by_first false is none more = (λ same. let found : (10 == 10) ≡ false = ap (λ (n : ℕ). n == 10) (sym same) ∙ is in absurd (cc), more none)

glyph_plain : (d : ℕ) → digit_glyph false d ≢ 10
glyph_plain d = by_size (nat_lt d 10)
  where
    by_size : (b : Bool) → (if b then 48 + d else (if false then 55 + d else 87 + d)) ≢ 10
    by_size true same = omega arith
    by_size false same = omega arith

either_plain : (b : Bool) (xs ys : List ℕ) → IsPlain xs → IsPlain ys → IsPlain (if b then xs else ys)
either_plain true xs ys p q = p
either_plain false xs ys p q = q

digits_plain : (k n : ℕ) (bytes : List ℕ) → IsPlain bytes → IsPlain (digits_onto k 10 false n bytes)
digits_plain zero n bytes p = p
digits_plain (suc k) n bytes p =
    let more : IsPlain (digit_glyph false (n % 10) ∷ bytes) = (glyph_plain (n % 10), p) in
    either_plain ((n / 10) == 0) (digit_glyph false (n % 10) ∷ bytes) (digits_onto k 10 false (n / 10) (digit_glyph false (n % 10) ∷ bytes)) more (digits_plain k (n / 10) (digit_glyph false (n % 10) ∷ bytes) more)

decimal_plain : (n : ℕ) → IsPlain (decimal n)
unfolding digits
decimal_plain n = digits_plain 64 n [] tt

-- WHOLE LINES

lines-append : (xs ys : List ℕ) → AreLines xs → AreLines ys → AreLines (xs ++ ys)
lines-append xs ys p (inr (front, is)) = inr (xs ++ front, ap (λ (w : List ℕ). xs ++ w) is ∙ sym (append_assoc xs front (codes "\n")))
lines-append xs ys (inl none) (inl is) = inl (ap (λ (w : List ℕ). w ++ ys) none ∙ is)
lines-append xs ys (inr (front, is)) (inl none) = inr (front, ap (λ (w : List ℕ). xs ++ w) none ∙ (append-nil xs ∙ is))

-- the line for a chunk, without its newline
abbrev ok_front : List Done → List ℕ
ok_front chunk = codes "ok " ++ decimal (count_kept chunk) ++ codes " " ++ decimal (count_held chunk) ++ codes " " ++ decimal (count_dropped chunk)

reply_whole : (chunk : List Done) (item : Item) → AreLines (reply_to chunk item)
reply_whole chunk (header info line) = inl refl
reply_whole chunk (sample x) = inl refl
reply_whole chunk chunk_end = inr (ok_front chunk, refl)

lines_whole : (chunk : List Done) (ts : List TakenItem) → AreLines (lines_of chunk ts)
lines_whole chunk [] = inl refl
lines_whole chunk (t ∷ ts) = lines-append (reply_to chunk t.item) (lines_of (in_chunk chunk t) ts) (reply_whole chunk t.item) (lines_whole (in_chunk chunk t) ts)

-- THE LAST LINE

-- a session that ended so has a last line
abbrev HasLast : Fed → Type 0
HasLast (fed.Fed kept held dropped) = Unit {0}
HasLast (fed.Refused line fault) = Unit {0}
HasLast fed.PeerFault = ⊥
HasLast fed.DiskFault = Unit {0}
HasLast fed.Spent = ⊥
HasLast fed.Memory = ⊥

ends_in_last : (end : Fed) (before : List ℕ) → HasLast end → AreLines before → EndsInLast (before ++ last_line end)
ends_in_last (fed.Fed kept held dropped) before has whole = record {
  before = before;
  line = codes "durable " ++ decimal kept;
  is = refl;
  whole = whole;
  one = All-from_recursion (λ (b : ℕ). b ≢ 10) (codes "durable " ++ decimal kept) (plain-append (codes "durable ") (decimal kept) (by_test (codes "durable ") refl) (decimal_plain kept));
  begins = (decimal kept, inl refl);
}
ends_in_last (fed.Refused number fault) before has whole = record {
  before = before;
  line = codes "refused " ++ decimal number ++ codes " E" ++ decimal (fault_number fault);
  is = refl;
  whole = whole;
  one = All-from_recursion (λ (b : ℕ). b ≢ 10) (codes "refused " ++ decimal number ++ codes " E" ++ decimal (fault_number fault))
      (plain-append (codes "refused " ++ decimal number ++ codes " E") (decimal (fault_number fault))
      (plain-append (codes "refused " ++ decimal number) (codes " E") (plain-append (codes "refused ") (decimal number) (by_test (codes "refused ") refl) (decimal_plain number)) (by_test (codes " E") refl)) (decimal_plain (fault_number fault)));
  begins = (decimal number ++ codes " E" ++ decimal (fault_number fault), inr (inl refl));
}
ends_in_last fed.PeerFault before has whole = absurd has
ends_in_last fed.DiskFault before has whole = record {
  before = before;
  line = codes "fault disk";
  is = refl;
  whole = whole;
  one = All-from_recursion (λ (b : ℕ). b ≢ 10) (codes "fault disk") (by_test (codes "fault disk") refl);
  begins = (codes "disk", inr (inr refl));
}
ends_in_last fed.Spent before has whole = absurd has
ends_in_last fed.Memory before has whole = absurd has

no_cut : (end : Fed) → HasLast end → CutsOff end → ⊥
no_cut (fed.Fed kept held dropped) has cuts = cuts
no_cut (fed.Refused line fault) has cuts = cuts
no_cut fed.PeerFault has cuts = has
no_cut fed.DiskFault has cuts = cuts
no_cut fed.Spent has cuts = has
no_cut fed.Memory has cuts = has

has_reply : (before end : Fed) (taken : List TakenItem) (a b : Option (List ℕ)) → HasLast end → Replies before taken end a b → HasReply Feed a b
has_reply before end taken a b has (inl (is, out)) = (text_of end taken, subst (λ (e : Fed). Appends a b (text_of e taken)) (sym is) out, ends_in_last end (lines_of [] taken) has (lines_whole [] taken))
has_reply before end taken a b has (inr (cuts, front)) = absurd (no_cut end has cuts)

pub feed_begun : (R : Type 0) (before end : Fed) (taken : List TakenItem) (a b : Option (List ℕ)) → Replies before taken end a b → HasBegun {R = R} Feed (fed_as end) a b
feed_begun R before (fed.Fed kept held dropped) taken a b r = has_reply before (fed.Fed kept held dropped) taken a b tt r
feed_begun R before (fed.Refused line fault) taken a b r = has_reply before (fed.Refused line fault) taken a b tt r
feed_begun R before fed.PeerFault taken a b r = tt
feed_begun R before fed.DiskFault taken a b r = has_reply before fed.DiskFault taken a b tt r
feed_begun R before fed.Spent taken a b r = tt
feed_begun R before fed.Memory taken a b r = tt
