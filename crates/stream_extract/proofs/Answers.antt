-- What is known of an answer by one more sample.
use Rattle.std.proofs.Common.{◌≡◌, ℕ, zero, suc, ◌+◌, ◌<◌, ◌≤◌, inl, inr, ◌-◌, List, [], ◌∷◌, ◌++◌, Bool, true, false, ◌||◌, Option, Some, None, length, take, drop, arith, refl, sym, ap, ◌∙◌, subst, append_assoc}
use Rattle.std.specs.Prelude.{nat_le, if◌then◌else◌}
use Rattle.std.proofs.lemmas.List.{append-nil, length-append, take_at, drop_at}
use Rattle.std.proofs.lemmas.List.Folds.{list_any-append}
use Rattle.std.proofs.lemmas.Grind.{flat_map-append}
use Rattle.std.proofs.lemmas.Bool.{cases_lt, cases_Bool, lt-ltb, le-ltb, le-leb, lt-leb}
use Rattle.series_model.specs.declared.sample.Sample.{Sample}
use Rattle.series_model.specs.declared.sample.Query.{Query}
use Rattle.series_model.specs.Series.{end_from, end_of, RisesFrom, before, taken}
use Rattle.series_model.specs.Retrieval.{answer, within, last_of}
use Rattle.series_model.proofs.RisingLists.{taken_more, end_from-append, end_from-ge, RisesFrom-taken_from}
use Rattle.series_model.proofs.AnswerLemmas.{before-append, within-append, last_of-append}
use Rattle.stream_extract.specs.Extract.{line_text, lines_text, is_reached, known}
use Rattle.stream_extract.specs.Answer.{Answering, Covers, Takes, TakesAll, IsFollowed, next_of}

-- NOT REACHED

-- Where no sample is as late as the interval, all are before it.
not_reached : (q : Query) (ys : List Sample) → is_reached q ys ≡ false → (before q.from ys ≡ ys) × (within q ys ≡ [])
not_reached q [] h = (refl, refl)
not_reached q (y ∷ ys) h =
    elim (cases_lt y.t q.from) [
      | inl early ↦
          let out = lt-leb q.from y.t early in
          let rest = not_reached q ys (rw out at h) in
          (rw (lt-ltb y.t q.from early) (ap (λ (zs : List Sample). y ∷ zs) rest.0), rw out rest.1)
      | inr late ↦ let in_ = rw (le-leb q.from y.t late) at h in cc
    ]

answer_not_reached : (q : Query) (ys : List Sample) → is_reached q ys ≡ false → answer ys q ≡ last_of ys
answer_not_reached q ys h = let none = not_reached q ys h in rw (none.0, none.1) (append-nil (last_of ys))

-- Where a sample is as late as the interval, the list ends behind the interval's start.
reached_end : (q : Query) (n : ℕ) (ys : List Sample) → RisesFrom n ys → is_reached q ys ≡ true → q.from < end_from n ys
reached_end q n [] rises h = cc
reached_end q n (y ∷ ys) rises h =
    elim (cases_lt y.t q.from) [
      | inl early ↦ reached_end q (y.t + 1) ys rises.1 (rw (lt-leb q.from y.t early) at h)
      | inr late ↦ omega (arith, end_from-ge (y.t + 1) ys rises.1)
    ]

-- ONE MORE SAMPLE

reached_more : (q : Query) (ys : List Sample) (x : Sample) → is_reached q (ys ++ x ∷ []) ≡ (is_reached q ys || (nat_le q.from x.t || false))
reached_more q ys x = list_any-append (λ y. nat_le q.from y.t) ys (x ∷ [])

or_true : (a b : Bool) → b ≡ true → (a || (b || false)) ≡ true
or_true true b h = refl
or_true false b h = rw h refl

or_false : (a b : Bool) → a ≡ false → b ≡ false → (a || (b || false)) ≡ false
or_false a b h k = rw (h, k) refl

taken_on : (xs : List Sample) (x : Sample) → end_of (taken xs) ≤ x.t → taken (xs ++ x ∷ []) ≡ taken xs ++ x ∷ []
taken_on xs x h = taken_more xs x ∙ rw (le-leb (end_of (taken xs)) x.t h) refl

taken_same : (xs : List Sample) (x : Sample) → x.t < end_of (taken xs) → taken (xs ++ x ∷ []) ≡ taken xs
taken_same xs x h = taken_more xs x ∙ rw (lt-leb (end_of (taken xs)) x.t h) refl

end_on : (ys : List Sample) (x : Sample) → end_of (ys ++ x ∷ []) ≡ x.t + 1
end_on ys x = end_from-append 0 ys (x ∷ [])

last_on : (ys : List Sample) (x : Sample) → last_of (ys ++ x ∷ []) ≡ x ∷ []
last_on ys x = last_of-append ys x []

-- a sample that isn't later than the last one taken
pub covers_not_later : (a : Answering) (xs : List Sample) (x : Sample) → x.t < next_of a.last → Covers a xs → Covers a (xs ++ x ∷ []) × (known a.query (xs ++ x ∷ []) ≡ known a.query xs)
covers_not_later a xs x early h =
    let same = taken_same xs x (omega (arith, early, h.last)) in
    (record { last = rw same h.last; reached = rw same h.reached; earlier = λ none. rw same (h.earlier none) }, rw same refl)

-- a later sample that is earlier than the interval shows that none was as late
unreached : (a : Answering) (xs : List Sample) (x : Sample) → next_of a.last ≤ x.t → x.t < a.query.from → Covers a xs → is_reached a.query (taken xs) ≡ false
unreached a xs x later early h =
    elim (cases_Bool (is_reached a.query (taken xs))) [
      | inl is ↦ absurd (omega (arith, reached_end a.query 0 (taken xs) (RisesFrom-taken_from 0 xs) is, h.last))
      | inr is ↦ is
    ]

-- a sample earlier than the interval
pub covers_earlier : (a : Answering) (xs : List Sample) (x : Sample) → next_of a.last ≤ x.t → x.t < a.query.from → Covers a xs → Covers (record a { last = Some x.t; earlier = line_text x }) (xs ++ x ∷ []) × (known a.query (xs ++ x ∷ []) ≡ known a.query xs)
covers_earlier a xs x later early h =
    let on = taken_on xs x (omega (arith, later, h.last)) in
    let none = unreached a xs x later early h in
    let still = reached_more a.query (taken xs) x ∙ or_false (is_reached a.query (taken xs)) (nat_le a.query.from x.t) none (lt-leb a.query.from x.t early) in (
      record {
        last = rw on (end_on (taken xs) x);
        reached = rw on (still ∙ sym none ∙ h.reached);
        earlier = λ unreached. rw (on, last_on (taken xs) x) (sym (append-nil (line_text x)));
      },
      rw (on, still, none) refl,
    )

-- a sample not earlier than the interval
covers_reached : (a : Answering) (xs : List Sample) (x : Sample) → next_of a.last ≤ x.t → a.query.from ≤ x.t → Covers a xs → Covers (record a { last = Some x.t; reached = true }) (xs ++ x ∷ []) × (known a.query (xs ++ x ∷ []) ≡ answer (taken xs ++ x ∷ []) a.query)
covers_reached a xs x later from h =
    let on = taken_on xs x (omega (arith, later, h.last)) in
    let now = reached_more a.query (taken xs) x ∙ or_true (is_reached a.query (taken xs)) (nat_le a.query.from x.t) (le-leb a.query.from x.t from) in
    (record { last = rw on (end_on (taken xs) x); reached = rw on now; earlier = λ unreached. cc }, rw (on, now) refl)

answer_within : (q : Query) (ys : List Sample) (x : Sample) → q.from ≤ x.t → x.t ≤ q.to → answer (ys ++ x ∷ []) q ≡ answer ys q ++ x ∷ []
answer_within q ys x from to =
    let earlier : before q.from (ys ++ x ∷ []) ≡ before q.from ys = before-append q.from ys (x ∷ []) ∙ rw (le-ltb x.t q.from from) (append-nil (before q.from ys)) in
    let later : within q (ys ++ x ∷ []) ≡ within q ys ++ x ∷ [] = within-append q ys (x ∷ []) ∙ rw (le-leb q.from x.t from, le-leb x.t q.to to) refl in
    rw (earlier, later) (sym (append_assoc (last_of (before q.from ys)) (within q ys) (x ∷ [])))

answer_later : (q : Query) (ys : List Sample) (x : Sample) → q.from ≤ x.t → q.to < x.t → answer (ys ++ x ∷ []) q ≡ answer ys q
answer_later q ys x from to =
    let earlier : before q.from (ys ++ x ∷ []) ≡ before q.from ys = before-append q.from ys (x ∷ []) ∙ rw (le-ltb x.t q.from from) (append-nil (before q.from ys)) in
    let later : within q (ys ++ x ∷ []) ≡ within q ys = within-append q ys (x ∷ []) ∙ rw (le-leb q.from x.t from, lt-leb x.t q.to to) (append-nil (within q ys)) in
    rw (earlier, later) refl

held_at : (a : Answering) (xs : List Sample) (r : Bool) → a.reached ≡ r → Covers a xs → lines_text (answer (taken xs) a.query) ≡ lines_text (known a.query xs) ++ (if r then [] else a.earlier)
held_at a xs true is h = let found = h.reached ∙ is in rw found (sym (append-nil (lines_text (answer (taken xs) a.query))))
held_at a xs false is h =
    let none = h.reached ∙ is in
    rw (none, answer_not_reached a.query (taken xs) none) (sym (h.earlier is))

-- what was held back is what of the answer isn't known yet
pub held_back : (a : Answering) (xs : List Sample) → Covers a xs → lines_text (answer (taken xs) a.query) ≡ lines_text (known a.query xs) ++ (if a.reached then [] else a.earlier)
held_back a xs h = held_at a xs a.reached refl h

pub covers_within : (a : Answering) (xs : List Sample) (x : Sample) → next_of a.last ≤ x.t → a.query.from ≤ x.t → x.t ≤ a.query.to → Covers a xs → Covers (record a { last = Some x.t; reached = true }) (xs ++ x ∷ []) × (lines_text (known a.query (xs ++ x ∷ [])) ≡ lines_text (known a.query xs) ++ ((if a.reached then [] else a.earlier) ++ line_text x))
covers_within a xs x later from to h =
    let r = covers_reached a xs x later from h in (
      r.0,
      ap lines_text (r.1 ∙ answer_within a.query (taken xs) x from to) ∙ flat_map-append line_text (answer (taken xs) a.query) (x ∷ []) ∙ ap (λ (u : List ℕ). lines_text (answer (taken xs) a.query) ++ u) (append-nil (line_text x)) ∙ ap (λ (u : List ℕ). u ++ line_text x) (held_back a xs h) ∙ append_assoc (lines_text (known a.query xs)) (if a.reached then [] else a.earlier) (line_text x),
    )

pub covers_later : (a : Answering) (xs : List Sample) (x : Sample) → next_of a.last ≤ x.t → a.query.from ≤ x.t → a.query.to < x.t → Covers a xs → Covers (record a { last = Some x.t; reached = true }) (xs ++ x ∷ []) × (lines_text (known a.query (xs ++ x ∷ [])) ≡ lines_text (known a.query xs) ++ (if a.reached then [] else a.earlier))
covers_later a xs x later from to h =
    let r = covers_reached a xs x later from h in
    (r.0, ap lines_text (r.1 ∙ answer_later a.query (taken xs) x from to) ∙ held_back a xs h)

-- TAKING

pub takes_past : (a : Answering) (x : Sample) (out : List ℕ) → x.t < next_of a.last → Takes a a x out out
takes_past a x out past xs h =
    let k = covers_not_later a xs x past h in
    (k.0, ([], ap lines_text k.1 ∙ sym (append-nil (lines_text (known a.query xs))), sym (append-nil out)))

pub takes_earlier : (a b : Answering) (x : Sample) (out : List ℕ) → next_of a.last ≤ x.t → x.t < a.query.from → b ≡ record a { last = Some x.t; earlier = line_text x } → Takes a b x out out
takes_earlier a b x out later early is xs h =
    let k = covers_earlier a xs x later early h in
    let P : Answering → Type 0 = λ b. Covers b (xs ++ x ∷ []) in
    (subst P (sym is) k.0, ([], ap lines_text k.1 ∙ sym (append-nil (lines_text (known a.query xs))), sym (append-nil out)))

pub takes_within : (a b : Answering) (x : Sample) (out mid new : List ℕ) → next_of a.last ≤ x.t → a.query.from ≤ x.t → x.t ≤ a.query.to → b ≡ record a { last = Some x.t; reached = true } → mid ≡ out ++ (if a.reached then [] else a.earlier) → new ≡ mid ++ line_text x → Takes a b x out new
takes_within a b x out mid new later from to is held more xs h =
    let k = covers_within a xs x later from to h in
    let P : Answering → Type 0 = λ b. Covers b (xs ++ x ∷ []) in
    (subst P (sym is) k.0, ((if a.reached then [] else a.earlier) ++ line_text x, k.1, more ∙ ap (λ (u : List ℕ). u ++ line_text x) held ∙ append_assoc out (if a.reached then [] else a.earlier) (line_text x)))

pub takes_later : (a b : Answering) (x : Sample) (out new : List ℕ) → next_of a.last ≤ x.t → a.query.from ≤ x.t → a.query.to < x.t → b ≡ record a { last = Some x.t; reached = true } → new ≡ out ++ (if a.reached then [] else a.earlier) → Takes a b x out new
takes_later a b x out new later from to is held xs h =
    let k = covers_later a xs x later from to h in
    let P : Answering → Type 0 = λ b. Covers b (xs ++ x ∷ []) in
    (subst P (sym is) k.0, (if a.reached then [] else a.earlier, k.1, held))

-- WHATEVER CAME

last_at : ℕ → Option ℕ
last_at zero = None
last_at (suc n) = Some n

next_at : (n : ℕ) → next_of (last_at n) ≡ n
unfolding last_at
next_at zero = refl
next_at (suc n) = omega arith

-- any samples are covered by some state
covering : (q : Query) (xs : List Sample) (n : ℕ) → end_of (taken xs) ≡ n → (a : Answering) × (a.query ≡ q) × Covers a xs
covering q xs n is =
    let r = is_reached q (taken xs) in (
      record { query = q; last = last_at n; reached = r; earlier = lines_text (last_of (taken xs)) },
      refl,
      record { last = is ∙ sym (next_at n); reached = refl; earlier = λ none. refl },
    )

pub known_more : (q : Query) (xs : List Sample) (x : Sample) → (more : List ℕ) × (lines_text (known q (xs ++ x ∷ [])) ≡ lines_text (known q xs) ++ more)
known_more q xs x =
    let c = covering q xs (end_of (taken xs)) refl in
    let a = c.0 in
    let P : Query → Type 0 = λ q. (more : List ℕ) × (lines_text (known q (xs ++ x ∷ [])) ≡ lines_text (known q xs) ++ more) in
    let none : known a.query (xs ++ x ∷ []) ≡ known a.query xs → P a.query = λ same. ([], ap lines_text same ∙ sym (append-nil (lines_text (known a.query xs)))) in
    subst P c.1 (elim (cases_lt x.t (next_of a.last)) [
      | inl past ↦ none (covers_not_later a xs x past c.2).1
      | inr later ↦ elim (cases_lt x.t a.query.from) [
        | inl early ↦ none (covers_earlier a xs x later early c.2).1
        | inr from ↦ elim (cases_lt a.query.to x.t) [
          | inl beyond ↦ (if a.reached then [] else a.earlier, (covers_later a xs x later from beyond c.2).1)
          | inr to ↦ ((if a.reached then [] else a.earlier) ++ line_text x, (covers_within a xs x later from to c.2).1)
        ]
      ]
    ])

pub held_more : (q : Query) (xs : List Sample) → (more : List ℕ) × (lines_text (answer (taken xs) q) ≡ lines_text (known q xs) ++ more)
held_more q xs =
    let c = covering q xs (end_of (taken xs)) refl in
    let P : Query → Type 0 = λ q. (more : List ℕ) × (lines_text (answer (taken xs) q) ≡ lines_text (known q xs) ++ more) in
    subst P c.1 (if c.0.reached then [] else c.0.earlier, held_back c.0 xs c.2)

-- A RUN

rises_to : (n : ℕ) (ys : List Sample) (z : Sample) → RisesFrom n (ys ++ z ∷ []) → n ≤ z.t
rises_to n [] z h = h.0
rises_to n (y ∷ ys) z h = omega (arith, h.0, rises_to (y.t + 1) ys z h.1)

-- all of them stand before the interval
earlier_run : (a : Answering) (xs ys : List Sample) (z : Sample) → RisesFrom (next_of a.last) (ys ++ z ∷ []) → z.t < a.query.from → Covers a xs → Covers (record a { last = Some z.t; earlier = line_text z }) (xs ++ (ys ++ z ∷ [])) × (known a.query (xs ++ (ys ++ z ∷ [])) ≡ known a.query xs)
earlier_run a xs [] z rises early h = covers_earlier a xs z rises.0 early h
earlier_run a xs (y ∷ ys) z rises early h =
    let k = covers_earlier a xs y rises.0 (omega (arith, rises_to (y.t + 1) ys z rises.1, early)) h in
    let r = earlier_run (record a { last = Some y.t; earlier = line_text y }) (xs ++ y ∷ []) ys z rises.1 early k.0 in
    let same : (xs ++ y ∷ []) ++ (ys ++ z ∷ []) ≡ xs ++ (y ∷ (ys ++ z ∷ [])) = append_assoc xs (y ∷ []) (ys ++ z ∷ []) in
    let P : List Sample → Type 0 = λ l. Covers (record a { last = Some z.t; earlier = line_text z }) l in
    (subst P same r.0, ap (λ (l : List Sample). known a.query l) (sym same) ∙ r.1 ∙ k.1)

-- all of them stand in it
within_run : (a : Answering) (xs ys : List Sample) (z : Sample) → RisesFrom (next_of a.last) (ys ++ z ∷ []) → a.query.from ≤ next_of a.last → z.t ≤ a.query.to → Covers a xs → Covers (record a { last = Some z.t; reached = true }) (xs ++ (ys ++ z ∷ [])) × (lines_text (known a.query (xs ++ (ys ++ z ∷ []))) ≡ lines_text (known a.query xs) ++ ((if a.reached then [] else a.earlier) ++ lines_text (ys ++ z ∷ [])))
within_run a xs [] z rises from to h =
    let k = covers_within a xs z rises.0 (omega (arith, rises.0, from)) to h in
    let held : List ℕ = if a.reached then [] else a.earlier in
    (k.0, k.1 ∙ ap (λ (u : List ℕ). lines_text (known a.query xs) ++ (held ++ u)) (sym (append-nil (line_text z))))
within_run a xs (y ∷ ys) z rises from to h =
    let low = rises_to (y.t + 1) ys z rises.1 in
    let k = covers_within a xs y rises.0 (omega (arith, rises.0, from)) (omega (arith, low, to)) h in
    let r = within_run (record a { last = Some y.t; reached = true }) (xs ++ y ∷ []) ys z rises.1 (omega (arith, rises.0, from)) to k.0 in
    let same : (xs ++ y ∷ []) ++ (ys ++ z ∷ []) ≡ xs ++ (y ∷ (ys ++ z ∷ [])) = append_assoc xs (y ∷ []) (ys ++ z ∷ []) in
    let P : List Sample → Type 0 = λ l. Covers (record a { last = Some z.t; reached = true }) l in
    let held : List ℕ = if a.reached then [] else a.earlier in
    let before = lines_text (known a.query xs) in
    let more = lines_text (ys ++ z ∷ []) in (
      subst P same r.0,
      ap (λ (l : List Sample). lines_text (known a.query l)) (sym same)
          ∙ r.1
          ∙ ap (λ (u : List ℕ). u ++ more) k.1
          ∙ append_assoc before (held ++ line_text y) more
          ∙ ap (λ (u : List ℕ). before ++ u) (append_assoc held (line_text y) more),
    )

-- all of them stand behind it
later_run : (a : Answering) (xs ys : List Sample) (z : Sample) → RisesFrom (next_of a.last) (ys ++ z ∷ []) → a.query.from ≤ next_of a.last → a.query.to < next_of a.last → Covers a xs → Covers (record a { last = Some z.t; reached = true }) (xs ++ (ys ++ z ∷ [])) × (lines_text (known a.query (xs ++ (ys ++ z ∷ []))) ≡ lines_text (known a.query xs) ++ (if a.reached then [] else a.earlier))
later_run a xs [] z rises from to h = covers_later a xs z rises.0 (omega (arith, rises.0, from)) (omega (arith, rises.0, to)) h
later_run a xs (y ∷ ys) z rises from to h =
    let k = covers_later a xs y rises.0 (omega (arith, rises.0, from)) (omega (arith, rises.0, to)) h in
    let r = later_run (record a { last = Some y.t; reached = true }) (xs ++ y ∷ []) ys z rises.1 (omega (arith, rises.0, from)) (omega (arith, rises.0, to)) k.0 in
    let same : (xs ++ y ∷ []) ++ (ys ++ z ∷ []) ≡ xs ++ (y ∷ (ys ++ z ∷ [])) = append_assoc xs (y ∷ []) (ys ++ z ∷ []) in
    let P : List Sample → Type 0 = λ l. Covers (record a { last = Some z.t; reached = true }) l in
    (subst P same r.0, ap (λ (l : List Sample). lines_text (known a.query l)) (sym same) ∙ r.1 ∙ append-nil (lines_text (known a.query (xs ++ y ∷ []))) ∙ k.1)

-- the last line of the text
ending_line : (front : List Sample) (z : Sample) (text : List ℕ) (last : ℕ) → text ≡ lines_text (front ++ z ∷ []) → last ≡ length z.line → take last (drop (length text - 1 - last) text) ≡ z.line
ending_line front z text last is long =
    let fore = lines_text front in
    let all : text ≡ fore ++ (z.line ++ 10 ∷ []) = is ∙ flat_map-append line_text front (z ∷ []) ∙ ap (λ (u : List ℕ). fore ++ u) (append-nil (line_text z)) in
    let size : length text ≡ length fore + (length z.line + 1) = omega (arith, ap length all, length-append fore (z.line ++ 10 ∷ []), length-append z.line (10 ∷ [])) in
    ap (λ (l : List ℕ). take last (drop (length text - 1 - last) l)) all
    ∙ ap (λ (l : List ℕ). take last l) (drop_at fore (z.line ++ 10 ∷ []) (length text - 1 - last) (omega (arith, size, long)))
    ∙ take_at z.line (10 ∷ []) last (sym long)

pub follows_earlier : (a b : Answering) (ys : List Sample) (t last : ℕ) (text line out new given : List ℕ) → IsFollowed a ys t last text → t < a.query.from → line ≡ take last (drop (length text - 1 - last) text) → b ≡ record a { last = Some t; earlier = line ++ 10 ∷ [] } → new ≡ out → given ≡ [] → TakesAll a b ys out (new ++ given)
follows_earlier a b ys t last text line out new given f early line_is is same none =
    let z = f.final in
    let zs = f.front ++ z ∷ [] in
    let here : line ≡ z.line = line_is ∙ ending_line f.front z text last (f.text ∙ ap lines_text f.split) f.ending in
    let b_is : b ≡ record a { last = Some z.t; earlier = line_text z } = is ∙ ap (λ (n : ℕ). record a { last = Some n; earlier = line ++ 10 ∷ [] }) f.t ∙ ap (λ (u : List ℕ). record a { last = Some z.t; earlier = u ++ 10 ∷ [] }) here in
    let R : List Sample → Type 0 = λ l. RisesFrom (next_of a.last) l in
    let T : List Sample → Type 0 = λ l. TakesAll a b l out (new ++ given) in
    subst T (sym f.split) (λ xs h.
    let k = earlier_run a xs f.front z (subst R f.split f.rising) (omega (arith, f.t, early)) h in
    let P : Answering → Type 0 = λ b. Covers b (xs ++ zs) in
    (subst P (sym b_is) k.0, ([], ap lines_text k.1 ∙ sym (append-nil (lines_text (known a.query xs))), ap (λ (u : List ℕ). new ++ u) none ∙ ap (λ (u : List ℕ). u ++ []) same)))

pub follows_within : (a b : Answering) (ys : List Sample) (t last : ℕ) (text out new given : List ℕ) → IsFollowed a ys t last text → a.query.from ≤ t → t ≤ a.query.to → b ≡ record a { last = Some t; reached = true } → new ≡ out ++ (if a.reached then [] else a.earlier) → given ≡ text → TakesAll a b ys out (new ++ given)
follows_within a b ys t last text out new given f from to is held lines =
    let z = f.final in
    let zs = f.front ++ z ∷ [] in
    let b_is : b ≡ record a { last = Some z.t; reached = true } = is ∙ ap (λ (n : ℕ). record a { last = Some n; reached = true }) f.t in
    let earlier : List ℕ = if a.reached then [] else a.earlier in
    let R : List Sample → Type 0 = λ l. RisesFrom (next_of a.last) l in
    let T : List Sample → Type 0 = λ l. TakesAll a b l out (new ++ given) in
    let grown : new ++ given ≡ out ++ (earlier ++ lines_text zs) = ap (λ (u : List ℕ). u ++ given) held ∙ append_assoc out earlier given ∙ ap (λ (u : List ℕ). out ++ (earlier ++ u)) (lines ∙ f.text ∙ ap lines_text f.split) in
    subst T (sym f.split) (λ xs h.
    let k = within_run a xs f.front z (subst R f.split f.rising) (f.side.0 (omega (arith, f.t, from))) (omega (arith, f.t, to)) h in
    let P : Answering → Type 0 = λ b. Covers b (xs ++ zs) in
    (subst P (sym b_is) k.0, (earlier ++ lines_text zs, k.1, grown)))

pub follows_later : (a b : Answering) (ys : List Sample) (t last : ℕ) (text out new given : List ℕ) → IsFollowed a ys t last text → a.query.from ≤ t → a.query.to < t → b ≡ record a { last = Some t; reached = true } → new ≡ out ++ (if a.reached then [] else a.earlier) → given ≡ [] → TakesAll a b ys out (new ++ given)
follows_later a b ys t last text out new given f from to is held none =
    let z = f.final in
    let zs = f.front ++ z ∷ [] in
    let b_is : b ≡ record a { last = Some z.t; reached = true } = is ∙ ap (λ (n : ℕ). record a { last = Some n; reached = true }) f.t in
    let earlier : List ℕ = if a.reached then [] else a.earlier in
    let R : List Sample → Type 0 = λ l. RisesFrom (next_of a.last) l in
    let T : List Sample → Type 0 = λ l. TakesAll a b l out (new ++ given) in
    let late : a.query.from ≤ z.t = omega (arith, f.t, from) in
    subst T (sym f.split) (λ xs h.
    let k = later_run a xs f.front z (subst R f.split f.rising) (f.side.0 late) (f.side.1 late (omega (arith, f.t, to))) h in
    let P : Answering → Type 0 = λ b. Covers b (xs ++ zs) in
    (subst P (sym b_is) k.0, (earlier, k.1, ap (λ (u : List ℕ). new ++ u) none ∙ append-nil new ∙ held)))
