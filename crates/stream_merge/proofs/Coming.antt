-- What is yet to come, from one read to the next.
use Rattle.std.proofs.Common.{◌≡◌, ◌⊎◌, ℕ, ◌+◌, ◌*◌, ◌^◌, ◌≤◌, ◌<◌, inl, inr, List, [], ◌∷◌, ◌++◌, Option, None, Some, length, take, drop, refl, sym, ap, ◌∙◌, subst, arith, append_assoc}
use Rattle.std.specs.List.{flat_map, Contains}
use Rattle.std.specs.Int.Digits.{digits_of}
use Rattle.std.proofs.lemmas.Int.Digits.{number_digits_of, number_lt, all_below_base_digits_of}
use Rattle.std.proofs.lemmas.List.{take-append-drop}
use Rattle.std.proofs.lemmas.List.Elements.{Contains-append_left, Contains-append_right, Contains-push}
use Rattle.disk_model.specs.Files.{Name, Rose}
use Rattle.series_model.specs.declared.sample.Sample.{Sample}
use Rattle.series_model.specs.declared.sample.Query.{Query}
use Rattle.pb_wire.specs.declared.payload.PayloadType.{PayloadType}
use Rattle.pb_lines.proofs.FileLines.{all_rest}
use Rattle.stream_merge.specs.declared.pieces.Merged.{Merged}
use Rattle.stream_merge.specs.declared.pieces.Merged.TheVariants.{Line, End, ReadFault, Damaged, Spent, Memory}
use Rattle.stream_merge.specs.declared.source.OpenPiece.{OpenPiece}
use Rattle.stream_merge.specs.declared.source.SampleSource.{SampleSource}
use Rattle.stream_merge.specs.Pieces.{NamedBytes}
use Rattle.stream_merge.specs.Reading.{IsSampleOf, AreSamplesOf, IsReadAs, AreReadAs, IsBadFor, IsDamaged}
use Rattle.stream_merge.specs.Beginning.{early_count, IsPlaced, AnswersAs}
use Rattle.stream_merge.specs.Source.{open_pieces, IsOpenAs, BeginsAs, ReadsOpen, Coming, StillComing, search_steps, HasTaken, TakesFew, Pulls, Passes, OpensOn, HasFailedNow, HasRisen, HasFailed, Grew, unread, unread_in}
use Rattle.stream_merge.proofs.Leaving.{answers_on, answers_same, placed_rest, placed_none, early_cons, early_one}

abbrev flat : List (List Sample) → List Sample
flat lists = flat_map (λ (l : List Sample). l) lists

-- THE LISTS

-- the open piece came to its end
pub ended : {R : Type 0} (bytes : R → List ℕ) (s : SampleSource R) (o : Option (OpenPiece R)) (ps : List NamedBytes) (xs : List Sample) → o ≡ None → ((ys : List Sample) → IsOpenAs bytes s.piece ys → ys ≡ []) → Coming bytes s ps xs → Coming bytes (record s { piece = o }) ps xs
ended {R} bytes s o ps xs none end c =
    let P : Option (OpenPiece R) → Type 0 = λ x. IsOpenAs bytes x [] in
    record {
      here = [];
      lists = c.lists;
      begins = subst P (sym none) refl;
      are_left = c.are_left;
      all = c.all ∙ ap (λ (l : List Sample). l ++ (flat c.lists ++ drop s.at s.tail.items)) (end c.here c.begins);
    }

-- where no piece is open
abbrev IsLeft : PayloadType → List NamedBytes → List Sample → List Sample → Type 0
IsLeft ty ps d xs = (lists : List (List Sample)) × AreReadAs ty ps lists × (xs ≡ flat lists ++ d)

is_left : {R : Type 0} (bytes : R → List ℕ) (s : SampleSource R) (ps : List NamedBytes) (xs : List Sample) → s.piece ≡ None → Coming bytes s ps xs → IsLeft s.ty ps (drop s.at s.tail.items) xs
is_left {R} bytes s ps xs none c =
    let P : Option (OpenPiece R) → Type 0 = λ x. IsOpenAs bytes x c.here in
    let empty : c.here ≡ [] = subst P none c.begins in
    (c.lists, c.are_left, c.all ∙ ap (λ (l : List Sample). l ++ (flat c.lists ++ drop s.at s.tail.items)) empty)

-- the first of them, and the others
first_of : (ty : PayloadType) (n : NamedBytes) (rest : List NamedBytes) (d xs : List Sample) → IsLeft ty (n ∷ rest) d xs → (ys : List Sample) × (lists : List (List Sample)) × IsReadAs ty n.bytes ys × AreReadAs ty rest lists × (xs ≡ ys ++ (flat lists ++ d))
first_of ty n rest d xs ([], are, is) = absurd are
first_of ty n rest d xs (ys ∷ lists, are, is) = (ys, lists, are.0, are.1, is ∙ append_assoc ys (flat lists) d)

none_of : (ty : PayloadType) (d xs : List Sample) → IsLeft ty [] d xs → xs ≡ d
none_of ty d xs ([], are, is) = is
none_of ty d xs (ys ∷ lists, are, is) = absurd are

-- none was left: the tail is
pub tail_left : {R : Type 0} (bytes : R → List ℕ) (s : SampleSource R) (ps : List NamedBytes) (xs : List Sample) → s.piece ≡ None → ps ≡ [] → Coming bytes s ps xs → xs ≡ drop s.at s.tail.items
tail_left {R} bytes s ps xs none is c =
    let d = drop s.at s.tail.items in
    let L : List NamedBytes → Type 0 = λ l. IsLeft s.ty l d xs in
    none_of s.ty d xs (subst L is (is_left bytes s ps xs none c))

pub only_tail : {R : Type 0} (bytes : R → List ℕ) (left : List NamedBytes → Type 0) (s : SampleSource R) → s.piece ≡ None → left [] → StillComing bytes left s (drop s.at s.tail.items)
only_tail {R} bytes left s none is =
    let P : Option (OpenPiece R) → Type 0 = λ x. IsOpenAs bytes x [] in
    record { pieces = []; left_is = is; coming = record { here = []; lists = []; begins = subst P (sym none) refl; are_left = tt; all = refl } }

-- THE STEPS

-- a number is below the power of two of its binary digits
below_power : (n : ℕ) → n < 2 ^ length (digits_of 2 n)
below_power n =
    let two : 2 ≤ 2 = omega arith in
    let P : ℕ → Type 0 = λ m. m < 2 ^ length (digits_of 2 n) in
    subst P (number_digits_of 2 n two) (number_lt 2 (digits_of 2 n) (all_below_base_digits_of 2 n two))

search_steps-append : (xs ys : List NamedBytes) → search_steps (xs ++ ys) ≡ search_steps xs + search_steps ys
search_steps-append [] ys = omega arith
search_steps-append (x ∷ xs) ys = omega (arith, search_steps-append xs ys)

pub takes_none : (pieces : List NamedBytes) (room steps : ℕ) → steps ≤ room → HasTaken pieces pieces room steps
takes_none pieces room steps few = record { opened = []; are = refl; few = omega (arith, few) }

pub takes_more : (pieces left : List NamedBytes) (room room₂ steps steps₂ : ℕ) → HasTaken pieces left room steps → (room + steps₂ ≤ room₂ + steps) → HasTaken pieces left room₂ steps₂
takes_more pieces left room room₂ steps steps₂ taken more = record { opened = taken.opened; are = taken.are; few = omega (arith, taken.few, more) }

pub takes_on : (pieces middle left : List NamedBytes) (room steps steps₂ : ℕ) → HasTaken pieces middle room steps → HasTaken middle left steps steps₂ → HasTaken pieces left room steps₂
takes_on pieces middle left room steps steps₂ one two = record {
  opened = one.opened ++ two.opened;
  are = one.are ∙ ap (λ (l : List NamedBytes). one.opened ++ l) two.are ∙ sym (append_assoc one.opened two.opened left);
  few = omega (arith, one.few, two.few, search_steps-append one.opened two.opened);
}

pub takes_at : (pieces left left₂ : List NamedBytes) (room steps : ℕ) → left ≡ left₂ → HasTaken pieces left room steps → HasTaken pieces left₂ room steps
takes_at pieces left left₂ room steps is taken = let P : List NamedBytes → Type 0 = λ l. HasTaken pieces l room steps in subst P is taken

-- a piece was opened, and the place found where it begins
pub opens_one : (n : NamedBytes) (left : List NamedBytes) (len steps steps₂ : ℕ) → length n.bytes ≡ len → ((d : ℕ) → len < 2 ^ d → steps₂ ≤ steps + 4 * d + 5) → HasTaken (n ∷ left) left steps (steps₂ + 1)
opens_one n left len steps steps₂ size few =
    let d = length (digits_of 2 (length n.bytes)) in
    let P : ℕ → Type 0 = λ m. m < 2 ^ d in
    record { opened = n ∷ []; are = refl; few = omega (arith, few d (subst P size (below_power (length n.bytes)))) }

-- WHAT WAS READ

-- what is to come still answers as what was, and there is room for the steps
pub record Proceeds {R : Type 0} (bytes : R → List ℕ) (left : List NamedBytes → Type 0) (n : ℕ) (q : Query) (pieces : List NamedBytes) (xs : List Sample) (room : ℕ) (s : SampleSource R) (steps : ℕ) : Type 0 where
  pub coming : List Sample
  pub same : AnswersAs n q xs coming
  pub still : StillComing bytes left s coming
  pub placed : IsPlaced n q.from still.coming.here
  pub taken : HasTaken pieces still.pieces room (steps + early_count q.from still.coming.here)

pub proceeds_first : {R : Type 0} (bytes : R → List ℕ) (left : List NamedBytes → Type 0) (n : ℕ) (q : Query) (ps : List NamedBytes) (xs : List Sample) (s : SampleSource R) (steps : ℕ) → left ps → (c : Coming bytes s ps xs) → IsPlaced n q.from c.here → Proceeds bytes left n q ps xs (steps + early_count q.from c.here) s steps
proceeds_first {R} bytes left n q ps xs s steps is c placed = record {
  coming = xs;
  same = answers_same n q xs xs refl;
  still = record { pieces = ps; left_is = is; coming = c };
  placed = placed;
  taken = takes_none ps (steps + early_count q.from c.here) (steps + early_count q.from c.here) (omega arith);
}

-- the open piece came to its end
proceeds_ended : {R : Type 0} (bytes : R → List ℕ) (left : List NamedBytes → Type 0) (n : ℕ) (q : Query) (ps : List NamedBytes) (xs : List Sample) (room : ℕ) (s : SampleSource R) (o : Option (OpenPiece R)) (steps steps₂ : ℕ) → o ≡ None → ((ys : List Sample) → IsOpenAs bytes s.piece ys → ys ≡ []) → steps₂ ≡ steps
    → Proceeds bytes left n q ps xs room s steps → Proceeds bytes left n q ps xs room (record s { piece = o }) steps₂
unfolding ended
proceeds_ended {R} bytes left n q ps xs room s o steps steps₂ none end same p = record {
  coming = p.coming;
  same = p.same;
  still = record { pieces = p.still.pieces; left_is = p.still.left_is; coming = ended bytes s o p.still.pieces p.coming none end p.still.coming };
  placed = placed_none n q.from;
  taken = takes_more ps p.still.pieces room room (steps + early_count q.from p.still.coming.here) (steps₂ + 0) p.taken (omega (arith, same));
}

pub proceeds_past : {R : Type 0} (bytes : R → List ℕ) (left : List NamedBytes → Type 0) (n : ℕ) (q : Query) (ps : List NamedBytes) (xs : List Sample) (room : ℕ) (s s₂ : SampleSource R) (steps steps₂ : ℕ) → s₂ ≡ record s { piece = s₂.piece }
    → s₂.piece ≡ None → ((ys : List Sample) → IsOpenAs bytes s.piece ys → ys ≡ []) → steps₂ ≡ steps → Proceeds bytes left n q ps xs room s steps → Proceeds bytes left n q ps xs room s₂ steps₂
proceeds_past {R} bytes left n q ps xs room s s₂ steps steps₂ is none end same p =
    let P : SampleSource R → Type 0 = λ x. Proceeds bytes left n q ps xs room x steps₂ in subst P (sym is) (proceeds_ended bytes left n q ps xs room s s₂.piece steps steps₂ none end same p)

-- the next piece was opened
pub proceeds_opened : {R : Type 0} (bytes : R → List ℕ) (left left₂ : List NamedBytes → Type 0) (n : ℕ) (q : Query) (ps : List NamedBytes) (xs : List Sample) (room : ℕ) (s : SampleSource R) (p : OpenPiece R) (m : NamedBytes) (rest : List NamedBytes) (len steps steps₂ : ℕ) → s.piece ≡ None → (a : Proceeds bytes left n q ps xs room s steps)
    → a.still.pieces ≡ m ∷ rest → left₂ rest → ((ys : List Sample) → IsReadAs s.ty m.bytes ys → BeginsAs bytes n q p ys) → length m.bytes ≡ len → ((d : ℕ) → len < 2 ^ d → steps₂ ≤ steps + 4 * d + 5) → Proceeds bytes left₂ n q ps xs room (record s { piece = Some p }) steps₂
proceeds_opened {R} bytes left left₂ n q ps xs room s p m rest len steps steps₂ none a is left_is begins size few =
    let d = drop s.at s.tail.items in
    let L : List NamedBytes → Type 0 = λ l. IsLeft s.ty l d a.coming in
    let f = first_of s.ty m rest d a.coming (subst L is (is_left bytes s a.still.pieces a.coming none a.still.coming)) in
    let b = begins f.0 f.2 in
    let more = flat f.1 ++ d in
    let now = b.here ++ more in
    let before = takes_at ps a.still.pieces (m ∷ rest) room (steps + early_count q.from a.still.coming.here) is a.taken in
    let there = takes_more ps (m ∷ rest) room room (steps + early_count q.from a.still.coming.here) steps before (omega arith) in
    record {
      coming = now;
      same = answers_on n q xs a.coming now a.same (answers_on n q a.coming (f.0 ++ more) now (answers_same n q a.coming (f.0 ++ more) f.4) (b.same more));
      still = record { pieces = rest; left_is = left_is; coming = record { here = b.here; lists = f.1; begins = b.gives; are_left = f.3; all = refl } };
      placed = b.placed;
      taken = takes_more ps rest room room (steps₂ + 1) (steps₂ + early_count q.from b.here) (takes_on ps (m ∷ rest) rest room steps (steps₂ + 1) there (opens_one m rest len steps steps₂ size few)) (omega (arith, b.placed.1));
    }

-- the next piece was opened, and then a call failed
pub fails_opened : {R : Type 0} (bytes : R → List ℕ) (left left₂ : List NamedBytes → Type 0) (n : ℕ) (q : Query) (ps : List NamedBytes) (xs : List Sample) (room : ℕ) (s : SampleSource R) (m : NamedBytes) (rest : List NamedBytes) (len steps steps₂ : ℕ) → (a : Proceeds bytes left n q ps xs room s steps) → a.still.pieces ≡ m ∷ rest → left₂ rest → length m.bytes ≡ len
    → ((d : ℕ) → len < 2 ^ d → steps₂ ≤ steps + 4 * d + 5) → TakesFew left₂ ps (room + 1) steps₂
fails_opened {R} bytes left left₂ n q ps xs room s m rest len steps steps₂ a is left_is size few =
    let before = takes_at ps a.still.pieces (m ∷ rest) room (steps + early_count q.from a.still.coming.here) is a.taken in
    let there = takes_more ps (m ∷ rest) room room (steps + early_count q.from a.still.coming.here) steps before (omega arith) in
    record { rest = rest; left_is = left_is; taken = takes_more ps rest room (room + 1) (steps₂ + 1) steps₂ (takes_on ps (m ∷ rest) rest room steps (steps₂ + 1) there (opens_one m rest len steps steps₂ size few)) (omega arith) }

-- nothing was opened
pub fails_past : {R : Type 0} (bytes : R → List ℕ) (left left₂ : List NamedBytes → Type 0) (n : ℕ) (q : Query) (ps : List NamedBytes) (xs : List Sample) (room : ℕ) (s s₂ : SampleSource R) (steps steps₂ : ℕ) → s₂ ≡ record s { piece = s₂.piece }
    → s₂.piece ≡ None → ((ys : List Sample) → IsOpenAs bytes s.piece ys → ys ≡ []) → steps₂ ≡ steps → Proceeds bytes left n q ps xs room s steps → ((rest : List NamedBytes) → left rest → left₂ rest) → TakesFew left₂ ps (room + 1) steps₂
fails_past {R} bytes left left₂ n q ps xs room s s₂ steps steps₂ is none end same p opens =
    let a = proceeds_past bytes left n q ps xs room s s₂ steps steps₂ is none end same p in
    record { rest = a.still.pieces; left_is = opens a.still.pieces a.still.left_is; taken = takes_more ps a.still.pieces room (room + 1) (steps₂ + early_count q.from a.still.coming.here) steps₂ a.taken (omega arith) }

-- a failure says nothing but that
-- so these are to come, none of a piece
abbrev EndsWith : {R : Type 0} → (R → List ℕ) → (List NamedBytes → Type 0) → ℕ → Query → List NamedBytes → ℕ → ℕ → SampleSource R → List Sample → Type 0
EndsWith {R} bytes left n q pieces room steps s l = (still : StillComing bytes left s l) × IsPlaced n q.from still.coming.here × HasTaken pieces still.pieces room (steps + early_count q.from still.coming.here)

-- what the tail gave
pub pulls_tail : {R : Type 0} (bytes : R → List ℕ) (left left₂ : List NamedBytes → Type 0) (n : ℕ) (q : Query) (ps : List NamedBytes) (xs : List Sample) (room : ℕ) (old new : SampleSource R) (steps : ℕ) (line : List ℕ) (r : Merged R) → (a : Proceeds bytes left n q ps xs room old steps) → old.piece ≡ None → new.piece ≡ None → a.still.pieces ≡ [] → left₂ []
    → ((t : ℕ) → r ≡ Line t → drop old.at old.tail.items ≡ record { t = t; line = line } ∷ drop new.at new.tail.items) → (r ≡ End → (drop old.at old.tail.items ≡ []) × (new ≡ old)) → Pulls bytes left₂ n q ps xs room new line steps r
unfolding only_tail
pulls_tail {R} bytes left left₂ n q ps xs room old new steps line r a none none₂ is left_is gives end = by_answer r gives end
  where
    there : HasTaken ps [] room steps
    there = takes_more ps [] room room (steps + early_count q.from a.still.coming.here) steps (takes_at ps a.still.pieces [] room (steps + early_count q.from a.still.coming.here) is a.taken) (omega arith)

    all : AnswersAs n q xs (drop old.at old.tail.items)
    all = answers_on n q xs a.coming (drop old.at old.tail.items) a.same (answers_same n q a.coming (drop old.at old.tail.items) (tail_left bytes old a.still.pieces a.coming none is a.still.coming))

    few : TakesFew left₂ ps (room + 1) steps
    few = record { rest = []; left_is = left_is; taken = takes_more ps [] room (room + 1) steps steps there (omega arith) }

    by_answer : (r : Merged R) → ((t : ℕ) → r ≡ Line t → drop old.at old.tail.items ≡ record { t = t; line = line } ∷ drop new.at new.tail.items) → (r ≡ End → (drop old.at old.tail.items ≡ []) × (new ≡ old)) → Pulls bytes left₂ n q ps xs room new line steps r
    by_answer (Line t) gives end =
        let s : Sample = record { t = t; line = line } in
        let more = drop new.at new.tail.items in
        record {
          rest = more;
          same = answers_on n q xs (drop old.at old.tail.items) (s ∷ more) all (answers_same n q (drop old.at old.tail.items) (s ∷ more) (gives t refl));
          still = only_tail bytes left₂ new none₂ left_is;
          placed = placed_none n q.from;
          later = placed_none (t + 1) q.from;
          taken = takes_more ps [] room (room + 1) steps (steps + 0) there (omega arith);
          free = λ which. takes_more ps [] room room steps (steps + 0) there (omega arith);
        }
    by_answer End gives end =
        let over = end refl in
        let P : List Sample → Type 0 = λ l. EndsWith bytes left₂ n q ps room steps new l in
        let tail : EndsWith bytes left₂ n q ps room steps new (drop new.at new.tail.items) = (only_tail bytes left₂ new none₂ left_is, placed_none n q.from, takes_more ps [] room room steps (steps + 0) there (omega arith)) in
        let ends = subst P (ap (λ (x : SampleSource R). drop x.at x.tail.items) over.1 ∙ over.0) tail in
        record {
          same = answers_on n q xs (drop old.at old.tail.items) [] all (answers_same n q (drop old.at old.tail.items) [] over.0);
          still = ends.0;
          placed = ends.1;
          taken = ends.2;
        }
    by_answer (ReadFault failed) gives end = few
    by_answer (Damaged name at) gives end = few
    by_answer Spent gives end = few
    by_answer Memory gives end = few

-- what the open piece gave
pub pulls_open : {R : Type 0} (bytes : R → List ℕ) (left : List NamedBytes → Type 0) (n : ℕ) (q : Query) (ps : List NamedBytes) (xs : List Sample) (room : ℕ) (s : SampleSource R) (o : Option (OpenPiece R)) (steps steps₂ : ℕ) (line : List ℕ) (r : Merged R) → Proceeds bytes left n q ps xs room s steps → ((ys : List Sample) → IsOpenAs bytes s.piece ys → ReadsOpen bytes o ys line r)
    → steps₂ ≤ steps + 1 → (r ≡ End → ⊥) → Pulls bytes left n q ps xs room (record s { piece = o }) line steps₂ r
pulls_open {R} bytes left n q ps xs room s o steps steps₂ line r a reads one more = by_answer r reads more
  where
    few : TakesFew left ps (room + 1) steps₂
    few = record { rest = a.still.pieces; left_is = a.still.left_is; taken = takes_more ps a.still.pieces room (room + 1) (steps + early_count q.from a.still.coming.here) steps₂ a.taken (omega (arith, one)) }

    by_answer : (r : Merged R) → ((ys : List Sample) → IsOpenAs bytes s.piece ys → ReadsOpen bytes o ys line r) → (r ≡ End → ⊥) → Pulls bytes left n q ps xs room (record s { piece = o }) line steps₂ r
    by_answer (Line t) reads more =
        let c = a.still.coming in
        let d = flat c.lists ++ drop s.at s.tail.items in
        let x : Sample = record { t = t; line = line } in
        let read = reads c.here c.begins in
        let P : List Sample → Type 0 = λ l. IsPlaced n q.from l in
        let rest = placed_rest n q.from x read.0 (subst P read.1 a.placed) in
        let count : early_count q.from c.here ≡ early_count q.from (x ∷ []) + early_count q.from read.0 = ap (λ (l : List Sample). early_count q.from l) read.1 ∙ early_cons q.from x read.0 in
        record {
          rest = read.0 ++ d;
          same = answers_on n q xs a.coming (x ∷ (read.0 ++ d)) a.same (answers_same n q a.coming (x ∷ (read.0 ++ d)) (c.all ∙ ap (λ (l : List Sample). l ++ d) read.1));
          still = record { pieces = a.still.pieces; left_is = a.still.left_is; coming = record { here = read.0; lists = c.lists; begins = read.2; are_left = c.are_left; all = refl } };
          placed = rest.0;
          later = rest.1;
          taken = takes_more ps a.still.pieces room (room + 1) (steps + early_count q.from c.here) (steps₂ + early_count q.from read.0) a.taken (omega (arith, one, count));
          free = λ which. takes_more ps a.still.pieces room room (steps + early_count q.from c.here) (steps₂ + early_count q.from read.0) a.taken (elim which [ inl gone ↦ absurd (omega (arith, gone, rest.2)) | inr less ↦ omega (arith, one, count, early_one q.from x less) ]);
        }
    by_answer End reads more = absurd (more refl)
    by_answer (ReadFault failed) reads more = few
    by_answer (Damaged name at) reads more = few
    by_answer Spent reads more = few
    by_answer Memory reads more = few

-- THE PIECES

pub passes_on : {R : Type 0} (bytes : R → List ℕ) (left : List NamedBytes → Type 0) (all : List NamedBytes) (old new : Option (OpenPiece R)) → open_pieces bytes new ≡ open_pieces bytes old → Passes bytes left all old → Passes bytes left all new
passes_on {R} bytes left all old new same p = record { passed = p.passed; rest = p.rest; left_is = p.left_is; are = p.are ∙ ap (λ (l : List NamedBytes). p.passed ++ (l ++ p.rest)) (sym same) }

pub passes_end : {R : Type 0} (bytes : R → List ℕ) (left : List NamedBytes → Type 0) (all : List NamedBytes) (old new : Option (OpenPiece R)) → new ≡ None → Passes bytes left all old → Passes bytes left all new
passes_end {R} bytes left all old new none p =
    let P : Option (OpenPiece R) → Type 0 = λ x. Passes bytes left all x in
    subst P (sym none) (record { passed = p.passed ++ open_pieces bytes old; rest = p.rest; left_is = p.left_is; are = p.are ∙ sym (append_assoc p.passed (open_pieces bytes old) p.rest) })

pub passes_opened : {R : Type 0} (bytes : R → List ℕ) (left : List NamedBytes → Type 0) (all : List NamedBytes) (o : Option (OpenPiece R)) (passed ps rest : List NamedBytes) (n : NamedBytes) → all ≡ passed ++ ps → ps ≡ n ∷ rest → open_pieces bytes o ≡ n ∷ [] → left rest → Passes bytes left all o
passes_opened {R} bytes left all o passed ps rest n are is now left_is = record {
  passed = passed;
  rest = rest;
  left_is = left_is;
  are = are ∙ ap (λ (l : List NamedBytes). passed ++ l) is ∙ ap (λ (l : List NamedBytes). passed ++ (l ++ rest)) (sym now);
}

-- where none is open
pub passed_all : {R : Type 0} (bytes : R → List ℕ) (left : List NamedBytes → Type 0) (all : List NamedBytes) (o : Option (OpenPiece R)) → o ≡ None → (p : Passes bytes left all o) → all ≡ p.passed ++ p.rest
passed_all {R} bytes left all o none p = p.are ∙ ap (λ (l : List NamedBytes). p.passed ++ (l ++ p.rest)) (ap (open_pieces bytes) none)

pub damaged_in : (ty : PayloadType) (all front middle back : List NamedBytes) (name : Name) (at : ℕ) → all ≡ front ++ (middle ++ back) → IsDamaged ty middle name at → IsDamaged ty all name at
damaged_in ty all front middle back name at are bad =
    let C : List NamedBytes → Type 0 = λ l. Contains l bad.piece in
    record { piece = bad.piece; among = subst C (sym are) (Contains-append_right front (middle ++ back) bad.piece (Contains-append_left middle back bad.piece bad.among)); named = bad.named; bad = bad.bad }

pub damaged_one : (ty : PayloadType) (n : NamedBytes) (name : Name) (at : ℕ) → name ≡ n.name → IsBadFor ty n.bytes at → IsDamaged ty (n ∷ []) name at
damaged_one ty n name at named bad = record { piece = n; among = Contains-push [] n; named = sym named; bad = bad }

-- FAULTS

rose_now : (a b : ℕ) → Rose a b → Rose 0 b
rose_now a b rose = omega (arith, rose)

none_risen : {R : Type 0} (faults : R → ℕ) (o : Option (OpenPiece R)) → HasRisen faults o None → ⊥
none_risen {R} faults None h = h
none_risen {R} faults (Some p) h = h

pub now_risen : {R : Type 0} (faults : R → ℕ) (o : Option (OpenPiece R)) (r : R) → HasRisen faults o (Some r) → Rose 0 (faults r)
now_risen {R} faults None r h = absurd h
now_risen {R} faults (Some p) r h = rose_now (faults p.reader) (faults r) h

some_open : {R : Type 0} (faults : R → ℕ) (first now : Option (OpenPiece R)) (r : R) (opened : Type 0) → HasRisen faults now (Some r) → opened ⊎ (now ≡ first) → (opened × Rose 0 (faults r)) ⊎ HasRisen faults first (Some r)
some_open {R} faults first now r opened rose (inl was) = inl (was, now_risen faults now r rose)
some_open {R} faults first now r opened rose (inr same) = let P : Option (OpenPiece R) → Type 0 = λ x. HasRisen faults x (Some r) in inr (subst P same rose)

pub failed_open : {R : Type 0} (faults : R → ℕ) (first now : Option (OpenPiece R)) (opened risen : Type 0) (failed : Option R) → opened ⊎ (now ≡ first) → HasRisen faults now failed → HasFailed faults first opened risen failed
failed_open {R} faults first now opened risen None since rose = absurd (none_risen faults now rose)
failed_open {R} faults first now opened risen (Some r) since rose = some_open faults first now r opened rose since

pub failed_first : {R : Type 0} (faults : R → ℕ) (first : Option (OpenPiece R)) (opened risen : Type 0) (failed : Option R) → opened → HasFailedNow faults failed → HasFailed faults first opened risen failed
failed_first {R} faults first opened risen None was now = absurd now
failed_first {R} faults first opened risen (Some r) was now = inl (was, now)

pub grew_since : {R : Type 0} (faults : R → ℕ) (first now new : Option (OpenPiece R)) (opened : Type 0) → Grew faults now new → opened ⊎ (now ≡ first) → opened ⊎ Grew faults first new
grew_since {R} faults first now new opened grew (inl was) = inl was
grew_since {R} faults first now new opened grew (inr same) = let P : Option (OpenPiece R) → Type 0 = λ x. Grew faults x new in inr (subst P same grew)

-- AT THE EXITS

pub opens_open : {R : Type 0} (bytes : R → List ℕ) (left : List NamedBytes → Type 0) (first now new : Option (OpenPiece R)) (ps : List NamedBytes) (r : Merged R) → ((t : ℕ) → r ≡ Line t → open_pieces bytes new ≡ open_pieces bytes now) → (r ≡ End → ⊥) → Passes bytes left (open_pieces bytes first ++ ps) now → OpensOn bytes left first new ps r
opens_open {R} bytes left first now new ps (Line t) stays more p = passes_on bytes left (open_pieces bytes first ++ ps) now new (stays t refl) p
opens_open {R} bytes left first now new ps End stays more p = absurd (more refl)
opens_open {R} bytes left first now new ps (ReadFault failed) stays more p = tt
opens_open {R} bytes left first now new ps (Damaged name at) stays more p = tt
opens_open {R} bytes left first now new ps Spent stays more p = tt
opens_open {R} bytes left first now new ps Memory stays more p = tt

pub opens_any : {R : Type 0} (bytes : R → List ℕ) (left : List NamedBytes → Type 0) (first new : Option (OpenPiece R)) (ps : List NamedBytes) (r : Merged R) → Passes bytes left (open_pieces bytes first ++ ps) new → OpensOn bytes left first new ps r
opens_any {R} bytes left first new ps (Line t) p = p
opens_any {R} bytes left first new ps End p = p
opens_any {R} bytes left first new ps (ReadFault failed) p = tt
opens_any {R} bytes left first new ps (Damaged name at) p = tt
opens_any {R} bytes left first new ps Spent p = tt
opens_any {R} bytes left first new ps Memory p = tt

pub passes_none : {R : Type 0} (bytes : R → List ℕ) (left : List NamedBytes → Type 0) (all passed ps : List NamedBytes) (o : Option (OpenPiece R)) → o ≡ None → all ≡ passed ++ ps → ps ≡ [] → left [] → Passes bytes left all o
passes_none {R} bytes left all passed ps o none are empty is =
    let P : Option (OpenPiece R) → Type 0 = λ x. Passes bytes left all x in
    subst P (sym none) (record { passed = passed; rest = []; left_is = is; are = are ∙ ap (λ (l : List NamedBytes). passed ++ l) empty })

-- HOW MUCH IS LEFT

pub less_open : {R : Type 0} (c k : ℕ) (s new : SampleSource R) → new ≡ record s { piece = new.piece } → unread_in new.piece < unread_in s.piece → unread c s ≤ k → unread c new < k
less_open {R} c k s new same less all = omega (arith, ap (λ (x : SampleSource R). length (drop x.at x.tail.items)) same, less, all)

pub less_opened : {R : Type 0} (before now k : ℕ) (s next : SampleSource R) (p : OpenPiece R) → next ≡ record s { piece = next.piece } → before ≡ now + 1 → unread_in (Some p) < 2 ^ 64 → unread before s ≤ k → unread now (record next { piece = Some p }) ≤ k
less_opened {R} before now k s next p same count less all =
    let rest = ap (λ (x : SampleSource R). length (drop x.at x.tail.items)) same in
    omega (arith, rest, ap (λ (n : ℕ). n * 2 ^ 64) count, less, all)

pub none_left : {R : Type 0} (before now k : ℕ) (s new last : SampleSource R) → new ≡ record s { piece = new.piece } → new.piece ≡ None → last ≡ new → now ≡ before → unread before s ≤ k → unread now last ≤ k
none_left {R} before now k s new last same none is count all =
    let rest = ap (λ (x : SampleSource R). length (drop x.at x.tail.items)) same in
    let whole : unread now last ≡ unread before new = ap (λ (x : SampleSource R). unread now x) is ∙ ap (λ (n : ℕ). unread n new) count in
    omega (arith, rest, whole, ap unread_in none, all)

pub tail_less : {R : Type 0} (was now k : ℕ) (s new last : SampleSource R) → new ≡ record s { piece = new.piece } → last.piece ≡ None → now ≡ was → unread was s ≤ k → length (drop last.at last.tail.items) < length (drop new.at new.tail.items) → unread now last < k
tail_less {R} was now k s new last same gone count all less =
    let rest = ap (λ (x : SampleSource R). length (drop x.at x.tail.items)) same in
    omega (arith, rest, ap (λ (n : ℕ). n * 2 ^ 64) count, ap unread_in gone, all, less)

-- THE TAIL

pub tail_event : (ty : PayloadType) (at : ℕ) (tail rest : List Sample) (s : Sample) → AreSamplesOf ty tail → drop at tail ≡ s ∷ rest → IsSampleOf ty s
tail_event ty at tail rest s are is =
    let P : List Sample → Type 0 = λ l. AreSamplesOf ty l in
    let back = all_rest (IsSampleOf ty) (take at tail) (drop at tail) (subst P (sym (take-append-drop at tail)) are) in
    (subst P is back).0
