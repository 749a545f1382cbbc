-- What is still to come, over the steps of a reader of lines.
use Rattle.std.proofs.Common.{◌≡◌, ◌≢◌, ℕ, ◌+◌, ◌-◌, ◌<◌, ◌≤◌, List, [], ◌∷◌, ◌++◌, Option, Some, None, All, length, take, drop, get_or, arith, refl, sym, ◌∙◌, ap, subst, append_assoc, inl, inr, zero, suc}
use Rattle.std.specs.Prelude.{◌^◌, IfSome, IfNone, IsTrue, Bool}
use Rattle.std.proofs.lemmas.List.{take-append-drop, drop_more, get_or_append_left, get_or-take, length-take-le, length-append, take-take, take_all, take_at, drop_at, take-append-le, drop-append-le, append-nil, get_or_default, nil_from_length}
use Rattle.std.proofs.Math.Seq.{take-add}
use Rattle.std.proofs.lemmas.List.Elements.{All-from_get_or}
use Rattle.std.specs.Io.KnownBytes.{Consumes, Keeps, IsAtEnd, prepend_known}
use Rattle.edge_io.specs.declared.lines.LineRead.{LineRead}
use Rattle.edge_io.specs.declared.lines.LineRead.TheVariants.{Line, End, Torn, TooLong, InputTooLong, SourceFault, Memory}
use Rattle.edge_io.specs.declared.lines.Filled.{Filled}
use Rattle.edge_io.specs.declared.lines.Filled.TheVariants as filled
use Rattle.edge_io.specs.Lines.{LineReader, ahead, IsTorn, IsTooLong, IsInputTooLong, NoneBelow, IsLineEnd, Stays, Reads, HoldsAnswer, AnswersHeld, Wants, Fills, ReadsOn}

-- a line went from the reader to the caller
pub consumes_line : (a : Option (List ℕ)) (held line rest : List ℕ) (left : Option (List ℕ)) → Keeps a (prepend_known held left) → held ≡ line ++ 10 ∷ rest → Consumes a (prepend_known rest left) (line ++ 10 ∷ [])
consumes_line None held line rest left h e = tt
consumes_line (Some xs) held line rest None h e = h
consumes_line (Some xs) held line rest (Some ys) h e =
    sym h ∙ ap (λ (v : List ℕ). v ++ ys) e ∙ append_assoc line (10 ∷ rest) ys ∙ sym (append_assoc line (10 ∷ []) (rest ++ ys))

-- what the reader holds is a front of what is still to come
pub held_is_front : (a : Option (List ℕ)) (held : List ℕ) (left : Option (List ℕ)) (P : List ℕ → Type 0) → Keeps a (prepend_known held left) → ((more : List ℕ) → P (held ++ more)) → IfSome a P
held_is_front None held left P h k = tt
held_is_front (Some xs) held None P h k = absurd h
held_is_front (Some xs) held (Some ys) P h k = subst P h (k ys)

-- a newline follows the line
pub line_is : (held : List ℕ) (k : ℕ) → k < length held → get_or held k 0 ≡ 10 → held ≡ take k held ++ 10 ∷ drop (k + 1) held
line_is held k lt is = sym (take-append-drop k held) ∙ ap (λ (v : List ℕ). take k held ++ v) (drop_more held k 0 lt ∙ ap (λ (b : ℕ). b ∷ drop (k + 1) held) is)

pub none_in_line : (held : List ℕ) (k : ℕ) → k ≤ length held → NoneBelow held k → All (λ x. x ≢ 10) (take k held)
none_in_line held k within none =
    All-from_get_or (λ x. x ≢ 10) (take k held) 0 (λ i lt. let small : i < k = omega (arith, length-take-le k held within) in rw (get_or-take k held i 0 small) (none i small))

pub none_below_more : (held more : List ℕ) (n m : ℕ) → NoneBelow held n → m ≤ n → m ≤ length held → NoneBelow (held ++ more) m
none_below_more held more n m none le within k lt = rw (get_or_append_left held more 0 k (omega arith)) (none k (omega arith))

-- what a buffer holds after a read behind its first bytes, once it is cut to what was read
pub read_behind : (D chunk post junk old new : List ℕ) (len more n : ℕ) → new ≡ take (len + more) (take n ((take len D ++ (chunk ++ post)) ++ junk)) → len + more ≤ n → len ≤ length D → more ≤ length chunk → take len D ≡ old → new ≡ old ++ take more chunk
read_behind D chunk post junk old new len more n is le within fits same =
    let front = take len D in
    let rest = (chunk ++ post) ++ junk in
    let short = length-take-le len D within in
    let cut = take-take (len + more) n ((front ++ (chunk ++ post)) ++ junk) le in
    let regroup : (front ++ (chunk ++ post)) ++ junk ≡ front ++ rest = append_assoc front (chunk ++ post) junk in
    let split = take-add len more (front ++ rest) in
    let fore = take_at front rest len short in
    let back = drop_at front rest len short in
    let inner : take more rest ≡ take more chunk = take-append-le more (chunk ++ post) junk (omega (arith, length-append chunk post)) ∙ take-append-le more chunk post fits in
    is ∙ cut ∙ ap (λ (v : List ℕ). take (len + more) v) regroup ∙ split ∙ rw (fore, back, inner) (ap (λ (v : List ℕ). v ++ take more chunk) same)

-- a buffer that grew has what it had
pub resized_front : (old zeros : List ℕ) (n count : ℕ) → n ≡ length old → take n (take (n + count) old ++ zeros) ≡ old
resized_front old zeros n count long =
    let whole = take_all (n + count) old (omega arith) in
    rw whole (take_at old zeros n (sym long))

-- what a reader holds grows by what it takes, and what is still to come stays
takes_more : (a b : Option (List ℕ)) (held more chunk : List ℕ) → more ≡ held ++ chunk → Consumes a b chunk → Keeps (prepend_known held a) (prepend_known more b)
takes_more None b held more chunk e h = tt
takes_more (Some xs) None held more chunk e h = absurd h
takes_more (Some xs) (Some ys) held more chunk e h = ap (λ (v : List ℕ). v ++ ys) e ∙ append_assoc held chunk ys ∙ ap (λ (v : List ℕ). held ++ v) (sym h)

takes_none : (a b : Option (List ℕ)) (held more : List ℕ) → more ≡ held → Keeps a b → Keeps (prepend_known held a) (prepend_known more b)
takes_none None b held more e h = tt
takes_none (Some xs) None held more e h = absurd h
takes_none (Some xs) (Some ys) held more e h = ap (λ (v : List ℕ). v ++ ys) e ∙ ap (λ (v : List ℕ). held ++ v) h

-- a read behind the buffer's bytes fills what is not given of them
pub read_fills : (old new : List ℕ) (start : ℕ) (a b : Option (List ℕ)) (r : Filled) → start ≤ length old → ReadsOn old new a b r →
    Fills (drop start old) (drop start new) (prepend_known (drop start old) a) (prepend_known (drop start new) b) r
read_fills old new start a b filled.More within h =
    let grown = ap (λ (v : List ℕ). drop start v) h.2 ∙ drop-append-le start old h.0 within in
    (takes_more a b (drop start old) (drop start new) h.0 grown h.3, (h.0, h.1, grown))
read_fills old new start a b filled.End within h =
    let same = ap (λ (v : List ℕ). drop start v) h.0 in
    (takes_none a b (drop start old) (drop start new) same h.1, same)
read_fills old new start a b filled.Fault within h =
    let same = ap (λ (v : List ℕ). drop start v) h.0 in
    (takes_none a b (drop start old) (drop start new) same h.1, same)
read_fills old new start a b filled.Memory within h =
    let same = ap (λ (v : List ℕ). drop start v) h.0 in
    (takes_none a b (drop start old) (drop start new) same h.1, same)

-- an answer from what the reader holds is the answer to what is still to come
pub held_answers : (old mid new : LineReader) (a left : Option (List ℕ)) (r : LineRead) → Keeps a (ahead mid left) → Stays old mid → AnswersHeld mid new r → Reads old new a (ahead new left) r
held_answers old mid new a left Line kept stays h =
    let line = h.0 in (
      record {
        whole = line.whole;
        short = line.short;
        number = omega (arith, line.number, stays.number);
        passed = omega (arith, line.passed, stays.passed);
        goes_on = line.goes_on;
        bound = line.bound;
      },
      consumes_line a mid.held new.line new.held left kept h.1,
    )
held_answers old mid new a left TooLong kept stays h =
    rw h.0 (
      record { line = stays.line; number = stays.number; passed = stays.passed },
      kept,
      refl,
      held_is_front a mid.held left (IsTooLong old.passed) kept (λ more. (omega (arith, h.1, length-append mid.held more), omega (arith, h.2, stays.passed), none_below_more mid.held more 16777217 16777217 h.3 (omega arith) (omega (arith, h.1)))),
    )
held_answers old mid new a left InputTooLong kept stays h =
    rw h.0 (
      record { line = stays.line; number = stays.number; passed = stays.passed },
      kept,
      refl,
      held_is_front a mid.held left (IsInputTooLong old.passed) kept (λ more. (omega (arith, h.2, stays.passed, length-append mid.held more), omega (arith, h.1, h.2, stays.passed), none_below_more mid.held more (length mid.held) (2 ^ 40 - old.passed) h.3 (omega (arith, h.2, stays.passed)) (omega (arith, h.2, stays.passed)))),
    )
held_answers old mid new a left End kept stays h = absurd h
held_answers old mid new a left Torn kept stays h = absurd h
held_answers old mid new a left SourceFault kept stays h = absurd h
held_answers old mid new a left Memory kept stays h = absurd h

-- a line that a newline follows is given
pub gives_line : (old new : LineReader) (len : ℕ) → old.stop ≡ None → len ≤ 16777216 → len < length old.held → get_or old.held len 0 ≡ 10 → NoneBelow old.held len →
    new.line ≡ take len old.held → new.held ≡ drop (len + 1) old.held → new.number ≡ old.number + 1 → new.passed ≡ old.passed + len + 1 → new.stop ≡ old.stop → new.passed ≤ 2 ^ 40 → AnswersHeld old new Line
gives_line old new len goes_on short within is none line held number passed stop bound =
    let long = length-take-le len old.held (omega arith) in (
      record {
        whole = rw line (none_in_line old.held len (omega arith) none);
        short = rw line (omega (arith, long));
        number = number;
        passed = rw line (omega (arith, long, passed));
        goes_on = stop ∙ goes_on;
        bound = bound;
      },
      rw (line, held) (line_is old.held len within is),
    )

-- at the source's end, what the reader holds is all that is still to come
held_is_all : (a : Option (List ℕ)) (held : List ℕ) (left : Option (List ℕ)) (P : List ℕ → Type 0) → Keeps a (prepend_known held left) → IsAtEnd left → P held → IfSome a P
held_is_all None held left P h end p = tt
held_is_all (Some xs) held None P h end p = absurd h
held_is_all (Some xs) held (Some ys) P h end p = let whole : held ≡ xs = sym (append-nil held) ∙ ap (λ (v : List ℕ). held ++ v) (sym end) ∙ h in subst P whole p

none_at_end : (a : Option (List ℕ)) (held : List ℕ) (left : Option (List ℕ)) → Keeps a (prepend_known held left) → IsAtEnd left → held ≡ [] → IsAtEnd a
none_at_end None held left h end e = tt
none_at_end (Some xs) held None h end e = absurd h
none_at_end (Some xs) held (Some ys) h end e = sym h ∙ ap (λ (v : List ℕ). held ++ v) end ∙ append-nil held ∙ e

-- the answer at the source's end
pub end_answers : (old mid new : LineReader) (a left : Option (List ℕ)) (r : LineRead) → Keeps a (ahead mid left) → Stays old mid → mid.stop ≡ None → Wants mid → IsAtEnd left →
    (length mid.held ≡ 0 → (r ≡ End) × (new ≡ mid)) → (0 < length mid.held → (r ≡ Torn) × (new ≡ record mid { stop = Some Torn })) → Reads old new a (ahead new left) r
end_answers old mid new a left r kept stays goes_on wants end none some =
    elim (length mid.held) as (λ n. length mid.held ≡ n → Reads old new a (ahead new left) r) [
      | zero ↦ λ e. rw ((none e).0, (none e).1) (stays, kept, goes_on, none_at_end a mid.held left kept end (nil_from_length mid.held e), omega (arith, wants.within, stays.passed))
      | suc n ↦ λ e.
          let more = some (omega (arith, e)) in
          rw (more.0, more.1) (
            record { line = stays.line; number = stays.number; passed = stays.passed },
            kept,
            refl,
            held_is_all a mid.held left (IsTorn old.passed) kept end (omega (arith, e), wants.short, omega (arith, wants.within, stays.passed), wants.none),
          )
    ] refl

-- a reader that wants more has no answer
pub no_answer : (r : LineReader) → r.stop ≡ None → Wants r → HoldsAnswer r → ⊥
no_answer r goes_on wants (inl stop) = let none = rw goes_on at stop in cc
no_answer r goes_on wants (inr (inl newline)) = wants.none newline.0 newline.1 (sym (get_or_default r.held newline.0 10 0 newline.1) ∙ newline.2)
no_answer r goes_on wants (inr (inr (inl long))) = omega (arith, wants.short, long)
no_answer r goes_on wants (inr (inr (inr full))) = omega (arith, wants.within, full)

pub if_none : {X : Type 0} → (o : Option X) (P : Type 0) → P → IfNone o P
if_none None P h = h
if_none (Some x) P h = tt

-- where an answer was in hand, the reader answers before it wants more
pub never_wants : (old mid : LineReader) (P : Type 0) → (HoldsAnswer old → (mid ≡ old) × P) → mid.stop ≡ None → Wants mid → HoldsAnswer old → ⊥
never_wants old mid P unread goes_on wants h = no_answer mid goes_on wants (subst HoldsAnswer (sym (unread h).0) h)

pub Stays-trans : (a b c : LineReader) → Stays a b → Stays b c → Stays a c
Stays-trans a b c h k = record { line = k.line ∙ h.line; number = k.number ∙ h.number; passed = k.passed ∙ h.passed }

pub wants_still : (old new : LineReader) → Wants old → new.held ≡ old.held → new.passed ≡ old.passed → Wants new
wants_still old new wants held passed = rw (held, passed) (record { none = wants.none; short = wants.short; within = wants.within })

-- the newline that was found in a front
pub line_end_at : (xs : List ℕ) (mark k : ℕ) (is_free : Bool) → k < length xs → get_or xs k 0 ≡ 10 → NoneBelow xs k → (IsTrue is_free → (j : ℕ) → j < k → get_or xs j 0 ≢ mark) → IsLineEnd xs mark k is_free
line_end_at xs mark k is_free within is none free = record {
  within = within;
  newline = is;
  line = none_in_line xs k (omega arith) none;
  free = λ h.
      let below = free h in
      All-from_get_or (λ x. x ≢ mark) (take k xs) 0 (λ i lt. let small : i < k = omega (arith, length-take-le k xs (omega arith)) in rw (get_or-take k xs i 0 small) (below i small));
}
