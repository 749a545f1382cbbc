-- Where the lines of a file stand.
use Rattle.std.proofs.Common.{◌≡◌, ◌≢◌, ℕ, ℤ, ◌+◌, ◌-◌, ◌<◌, ◌≤◌, ◌⊎◌, inl, inr, List, [], ◌∷◌, ◌++◌, length, take, drop, arith, refl, sym, ap, ◌∙◌, subst, append_assoc}
use Rattle.std.proofs.lemmas.List.{length-append, length-drop, drop-append-le, drop_at, take-append-drop}
use Rattle.std.proofs.Math.Seq.{drop-append-add, drop-nil}
use Rattle.std.proofs.lemmas.Bool.{cases_lt}
use Rattle.std.proofs.lemmas.List.Elements.{recursion_from_All, All-from_recursion}
use Rattle.std.specs.List.{AllByRecursion}
use Rattle.pb_wire.specs.declared.payload.PayloadType.{PayloadType}
use Rattle.line_escape.specs.Unescaping.{HasNoNewline}
use Rattle.series_model.specs.declared.sample.Sample.{Sample}
use Rattle.pb_lines.specs.File.{AreSamples, lines_of}
use Rattle.pb_file.specs.Search.{end_place}
use Rattle.pb_lines.proofs.FileLines.{all_rest, lines_of-append, one_line, no_line}

-- LENGTHS

pub size-more : (s : Sample) (xs : List Sample) → length (lines_of (s ∷ xs)) ≡ length s.line + 1 + length (lines_of xs)
size-more s xs = omega (arith, length-append s.line (10 ∷ lines_of xs))

pub size-append : (xs ys : List Sample) → length (lines_of (xs ++ ys)) ≡ length (lines_of xs) + length (lines_of ys)
size-append xs ys = ap length (lines_of-append xs ys) ∙ length-append (lines_of xs) (lines_of ys)

pub end_is : (head : List ℕ) (xs : List Sample) → end_place head xs ≡ length head + 1 + length (lines_of xs)
end_is head xs = omega (arith, length-append head (10 ∷ lines_of xs))

pub end-append : (head : List ℕ) (xs ys : List Sample) → end_place head (xs ++ ys) ≡ end_place head xs + length (lines_of ys)
end-append head xs ys = omega (arith, end_is head (xs ++ ys), end_is head xs, size-append xs ys)

-- what stands behind the first lines
pub drop_front : (bytes head : List ℕ) (a b : List Sample) → bytes ≡ head ++ 10 ∷ lines_of (a ++ b) → drop (end_place head a) bytes ≡ lines_of b
drop_front bytes head a b is =
    let front = head ++ 10 ∷ lines_of a in
    let all : bytes ≡ front ++ lines_of b = is ∙ ap (λ (u : List ℕ). head ++ 10 ∷ u) (lines_of-append a b) ∙ sym (append_assoc head (10 ∷ lines_of a) (lines_of b)) in
    ap (λ (u : List ℕ). drop (length front) u) all ∙ drop_at front (lines_of b) (length front) refl

-- THE FIRST NEWLINE FROM A PLACE ON

pub no_newline_behind : (k : ℕ) (line : List ℕ) → HasNoNewline line → HasNoNewline (drop k line)
no_newline_behind k line whole =
    let P : List ℕ → Type 0 = λ u. AllByRecursion (λ (z : ℕ). z ≢ 10) u in
    let all = subst P (sym (take-append-drop k line)) (recursion_from_All (λ z. z ≢ 10) line whole) in
    All-from_recursion (λ z. z ≢ 10) (drop k line) (all_rest (λ (z : ℕ). z ≢ 10) (take k line) (drop k line) all)

-- the place lies within the first line, or its newline
drop_near : (k : ℕ) (line rest : List ℕ) → k ≤ length line → drop k (line ++ 10 ∷ rest) ≡ drop k line ++ 10 ∷ rest
drop_near k line rest near = drop-append-le k line (10 ∷ rest) near

-- the place lies behind it
drop_far : (k j : ℕ) (line rest : List ℕ) → k ≡ length line + 1 + j → drop k (line ++ 10 ∷ rest) ≡ drop j rest
drop_far k j line rest far =
    let front = line ++ 10 ∷ [] in
    let size : k ≡ length front + j = omega (arith, far, length-append line (10 ∷ [])) in
    ap (λ (u : List ℕ). drop k u) (sym (append_assoc line (10 ∷ []) rest)) ∙ ap (λ (n : ℕ). drop n (front ++ rest)) size ∙ drop-append-add front rest j

-- The first newline from a place on ends one of the lines. The lines up to it begin no later than at that place.
pub record Located (ys : List Sample) (k : ℕ) (part : List ℕ) : Type 0 where
  pub front : List Sample
  pub rest : List Sample
  pub list : ys ≡ front ++ rest
  pub place : k + length part + 1 ≡ length (lines_of front)
  pub begins : (a : List Sample) (s : Sample) (b : List Sample) → front ≡ a ++ s ∷ b → length (lines_of a) ≤ k

one_begins : (s : Sample) (k : ℕ) (a : List Sample) (x : Sample) (b : List Sample) → s ∷ [] ≡ a ++ x ∷ b → length (lines_of a) ≤ k
one_begins s k [] x b is = omega arith
one_begins s k (y ∷ []) x b is = absurd (cc)
one_begins s k (y ∷ z ∷ a) x b is = absurd (cc)

more_begin : (s : Sample) (front : List Sample) (j k : ℕ) → k ≡ length s.line + 1 + j → ((a : List Sample) (x : Sample) (b : List Sample) → front ≡ a ++ x ∷ b → length (lines_of a) ≤ j) → (a : List Sample) (x : Sample) (b : List Sample) → s ∷ front ≡ a ++ x ∷ b → length (lines_of a) ≤ k
more_begin s front j k far begins [] x b is = omega arith
more_begin s front j k far begins (y ∷ a) x b is =
    let first : s ≡ y = cc in
    let more : front ≡ a ++ x ∷ b = cc in
    omega (arith, begins a x b more, size-more y a, far, ap (λ (z : Sample). length z.line) first)

pub locate : (ty : PayloadType) (year : ℤ) (ys : List Sample) → AreSamples ty year ys → (k : ℕ) (part more : List ℕ) → HasNoNewline part → drop k (lines_of ys) ≡ part ++ 10 ∷ more → Located ys k part
locate ty year [] are k part more whole is = absurd (omega (arith, ap length (sym (drop-nil k) ∙ is), length-append part (10 ∷ more)))
locate ty year (s ∷ ys) are k part more whole is =
    elim (cases_lt (length s.line) k) [
      | inr near ↦
          (let line = one_line (drop k s.line) part (lines_of ys) more (no_newline_behind k s.line are.0.whole) whole (sym (drop_near k s.line (lines_of ys) near) ∙ is) in
          record {
            front = s ∷ [];
            rest = ys;
            list = refl;
            place = omega (arith, ap length line.0, length-drop k s.line, near, size-more s []);
            begins = one_begins s k;
          })
      | inl far ↦
          (let j = k - (length s.line + 1) in
          let size : k ≡ length s.line + 1 + j = omega (arith, far) in
          let more_of = locate ty year ys are.1 j part more whole (sym (drop_far k j s.line (lines_of ys) size) ∙ is) in
          record {
            front = s ∷ more_of.front;
            rest = more_of.rest;
            list = ap (λ (l : List Sample). s ∷ l) more_of.list;
            place = omega (arith, size, more_of.place, size-more s more_of.front);
            begins = more_begin s more_of.front j k size more_of.begins;
          })
    ]

-- a newline stands behind each place within the lines
pub some_newline : (ys : List Sample) (k : ℕ) → k < length (lines_of ys) → HasNoNewline (drop k (lines_of ys)) → ⊥
some_newline [] k within none = omega arith
some_newline (s ∷ ys) k within none =
    elim (cases_lt (length s.line) k) [
      | inr near ↦ no_line (drop k (lines_of (s ∷ ys))) (drop k s.line) (lines_of ys) none (drop_near k s.line (lines_of ys) near)
      | inl far ↦
          (let j = k - (length s.line + 1) in
          let size : k ≡ length s.line + 1 + j = omega (arith, far) in
          let P : List ℕ → Type 0 = HasNoNewline in
          some_newline ys j (omega (arith, size, within, size-more s ys)) (subst P (drop_far k j s.line (lines_of ys) size) none))
    ]

-- TWO SPLITS OF ONE LIST

pub split_two : (a b c d : List Sample) → a ++ b ≡ c ++ d → ((g : List Sample) × (c ≡ a ++ g) × (b ≡ g ++ d)) ⊎ ((s : Sample) × (g : List Sample) × (a ≡ c ++ s ∷ g) × (d ≡ s ∷ (g ++ b)))
split_two [] b c d is = inl (c, refl, is)
split_two (x ∷ a) b [] d is = inr (x, a, refl, sym is)
split_two (x ∷ a) b (y ∷ c) d is =
    let first : x ≡ y = cc in
    let more : a ++ b ≡ c ++ d = cc in
    elim (split_two a b c d more) [
      | inl g ↦ inl (g.0, ap (λ (l : List Sample). y ∷ l) g.1 ∙ ap (λ (z : Sample). z ∷ (a ++ g.0)) (sym first), g.2)
      | inr g ↦ inr (g.0, g.1, ap (λ (l : List Sample). x ∷ l) g.2 ∙ ap (λ (z : Sample). z ∷ (c ++ g.0 ∷ g.1)) first, g.3)
    ]
