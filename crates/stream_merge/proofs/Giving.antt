-- What a merge gives, sample by sample.
use Rattle.std.proofs.Common.{◌≡◌, ℕ, ◌+◌, ◌<◌, ◌≤◌, ◌⊎◌, inl, inr, List, [], ◌∷◌, ◌++◌, Option, None, Some, drop, refl, sym, ap, ◌∙◌, subst, arith, append_assoc, Bool}
use Rattle.std.specs.Prelude.{IsSome}
use Rattle.std.specs.List.{Contains}
use Rattle.std.proofs.lemmas.List.Elements.{Contains-append_right}
use Rattle.disk_model.specs.Files.{Name, Rose}
use Rattle.std.proofs.lemmas.Bool.{cases_lt}
use Rattle.series_model.specs.declared.sample.Sample.{Sample}
use Rattle.series_model.specs.declared.sample.Query.{Query}
use Rattle.series_model.specs.Series.{RisesFrom, IsRising, end_of, taken_from}
use Rattle.series_model.specs.Retrieval.{answer}
use Rattle.series_model.proofs.RisingLists.{RisesFrom-taken_from}
use Rattle.pb_wire.specs.declared.payload.PayloadType.{PayloadType}
use Rattle.pb_file.specs.Walk.{behind}
use Rattle.stream_merge.specs.declared.pieces.Merged.{Merged}
use Rattle.stream_merge.specs.declared.pieces.Merged.TheVariants.{Line, End, ReadFault, Damaged, Spent, Memory}
use Rattle.stream_merge.specs.declared.source.OpenPiece.{OpenPiece}
use Rattle.stream_merge.specs.declared.source.SampleSource.{SampleSource}
use Rattle.stream_merge.specs.declared.merge.Merge.{Merge}
use Rattle.stream_merge.specs.Pieces.{NamedBytes}
use Rattle.stream_merge.specs.Reading.{AreReadAs, IsSampleOf, AreSamplesOf, IsBadFor, IsDamaged}
use Rattle.stream_merge.specs.Over.{over_all}
use Rattle.stream_merge.specs.Source.{IsReady, IsOpenAs, Coming, StillComing, HasTaken, TakesFew, Pulls, PullsLine, Passes, OpensOn, HasRisen, HasFailed, Grew, IsGiven, open_pieces}
use Rattle.stream_merge.specs.Merging.{kept_of, kept_count, IsEarly, IsDue, IsKept, IsGoing, Rest, StillGives, Answers, Gives}
use Rattle.stream_merge.proofs.Answering.{flat, whole, first_within, none_left, first_held, takes, drops, more_earlier}
use Rattle.stream_merge.specs.Beginning.{early_count, IsPlaced, AnswersAs}
use Rattle.stream_merge.proofs.Leaving.{placed_none}
use Rattle.stream_merge.proofs.Coming.{now_risen, takes_none, takes_more, takes_on}

-- OVER LISTS

pub step_skip : (q : Query) (n : ℕ) (s : Sample) (rest coming xs ks : List Sample) → coming ≡ s ∷ rest → s.t < n → xs ≡ answer (ks ++ taken_from n coming) q → xs ≡ answer (ks ++ taken_from n rest) q
step_skip q n s rest coming xs ks is low all = all ∙ ap (λ (l : List Sample). answer (ks ++ taken_from n l) q) is ∙ ap (λ (l : List Sample). answer (ks ++ l) q) (drops n s rest low)

took : (q : Query) (n : ℕ) (s : Sample) (rest coming xs ks : List Sample) → coming ≡ s ∷ rest → n ≤ s.t → xs ≡ answer (ks ++ taken_from n coming) q → xs ≡ answer (ks ++ (s ∷ taken_from (s.t + 1) rest)) q
took q n s rest coming xs ks is low all = all ∙ ap (λ (l : List Sample). answer (ks ++ taken_from n l) q) is ∙ ap (λ (l : List Sample). answer (ks ++ l) q) (takes n s rest low)

pub step_keep : (q : Query) (n : ℕ) (k : Option ℕ) (l : List ℕ) (s : Sample) (rest coming xs : List Sample) → coming ≡ s ∷ rest → n ≤ s.t → s.t < q.from → IsEarly k q.from → xs ≡ answer (kept_of k l ++ taken_from n coming) q → xs ≡ answer ((s ∷ []) ++ taken_from (s.t + 1) rest) q
step_keep q n None l s rest coming xs is low early kept all = took q n s rest coming xs [] is low all
step_keep q n (Some b) l s rest coming xs is low early kept all = took q n s rest coming xs (record { t = b; line = l } ∷ []) is low all ∙ more_earlier q (record { t = b; line = l }) s (taken_from (s.t + 1) rest) kept early

rises : (s : Sample) (rest : List Sample) → RisesFrom s.t (s ∷ taken_from (s.t + 1) rest)
rises s rest = (omega arith, RisesFrom-taken_from (s.t + 1) rest)

pub step_held : (q : Query) (n b : ℕ) (l : List ℕ) (s : Sample) (rest coming xs : List Sample) → coming ≡ s ∷ rest → n ≤ s.t → q.from ≤ s.t → b < q.from → xs ≡ answer (kept_of (Some b) l ++ taken_from n coming) q
    → xs ≡ record { t = b; line = l } ∷ answer ((s ∷ []) ++ taken_from (s.t + 1) rest) q
step_held q n b l s rest coming xs is low from early all =
    let h : Sample = record { t = b; line = l } in
    took q n s rest coming xs (h ∷ []) is low all ∙ first_held q h s.t (s ∷ taken_from (s.t + 1) rest) (rises s rest) from early

pub step_within : (q : Query) (n : ℕ) (s : Sample) (rest coming xs : List Sample) → coming ≡ s ∷ rest → n ≤ s.t → q.from ≤ s.t → s.t ≤ q.to → xs ≡ answer ([] ++ taken_from n coming) q → xs ≡ s ∷ answer ([] ++ taken_from (s.t + 1) rest) q
step_within q n s rest coming xs is low from to all = took q n s rest coming xs [] is low all ∙ first_within q s (s.t + 1) (taken_from (s.t + 1) rest) (RisesFrom-taken_from (s.t + 1) rest) (omega arith) from to

pub step_past : (q : Query) (n : ℕ) (s : Sample) (rest coming xs : List Sample) → coming ≡ s ∷ rest → n ≤ s.t → q.from ≤ s.t → q.to < s.t → xs ≡ answer ([] ++ taken_from n coming) q → xs ≡ []
step_past q n s rest coming xs is low from to all = took q n s rest coming xs [] is low all ∙ none_left q s (s.t + 1) (taken_from (s.t + 1) rest) (RisesFrom-taken_from (s.t + 1) rest) (omega arith) from to

pub step_due : (q : Query) (n : ℕ) (s : Sample) (coming xs ks : List Sample) → ks ≡ s ∷ [] → q.from ≤ s.t → s.t ≤ q.to → s.t < n → xs ≡ answer (ks ++ taken_from n coming) q → xs ≡ s ∷ answer ([] ++ taken_from n coming) q
step_due q n s coming xs ks is from to low all = all ∙ ap (λ (l : List Sample). answer (l ++ taken_from n coming) q) is ∙ first_within q s n (taken_from n coming) (RisesFrom-taken_from n coming) low from to

pub step_due_past : (q : Query) (n : ℕ) (s : Sample) (coming xs ks : List Sample) → ks ≡ s ∷ [] → q.from ≤ s.t → q.to < s.t → s.t < n → xs ≡ answer (ks ++ taken_from n coming) q → xs ≡ []
step_due_past q n s coming xs ks is from to low all = all ∙ ap (λ (l : List Sample). answer (l ++ taken_from n coming) q) is ∙ none_left q s n (taken_from n coming) (RisesFrom-taken_from n coming) low from to

pub step_last : (q : Query) (n : ℕ) (s : Sample) (coming xs ks : List Sample) → coming ≡ [] → ks ≡ s ∷ [] → s.t < q.from → xs ≡ answer (ks ++ taken_from n coming) q → xs ≡ s ∷ answer ([] ++ taken_from n []) q
step_last q n s coming xs ks none is early all = all ∙ ap (λ (l : List Sample). answer (ks ++ taken_from n l) q) none ∙ ap (λ (l : List Sample). answer (l ++ []) q) is ∙ first_held q s q.from [] tt (omega arith) early

pub step_end : (q : Query) (n : ℕ) (coming xs ks : List Sample) → coming ≡ [] → ks ≡ [] → xs ≡ answer (ks ++ taken_from n coming) q → xs ≡ []
step_end q n coming xs ks none is all = all ∙ ap (λ (l : List Sample). answer (ks ++ taken_from n l) q) none ∙ ap (λ (l : List Sample). answer (l ++ []) q) is

-- OF A MERGE

-- a merge still has these to give, and there is room for the steps
pub record GivesOn {R : Type 0} (bytes : R → List ℕ) (left : List NamedBytes → Type 0) (pieces : List NamedBytes) (room : ℕ) (m : Merge R) (xs : List Sample) (steps : ℕ) : Type 0 where
  pub still : StillGives bytes left m xs
  pub taken : HasTaken pieces still.pieces room (steps + early_count m.query.from still.rest.comes.here)

pub gives_first : {R : Type 0} (bytes : R → List ℕ) (left : List NamedBytes → Type 0) (ps : List NamedBytes) (m : Merge R) (xs : List Sample) (steps : ℕ) → left ps → (r : Rest bytes m ps xs) → GivesOn bytes left ps (steps + early_count m.query.from r.comes.here) m xs steps
gives_first {R} bytes left ps m xs steps is r = record { still = record { pieces = ps; left_is = is; rest = r }; taken = takes_none ps (steps + early_count m.query.from r.comes.here) (steps + early_count m.query.from r.comes.here) (omega arith) }

pub gives_at : {R : Type 0} (bytes : R → List ℕ) (left : List NamedBytes → Type 0) (ps : List NamedBytes) (room : ℕ) (m : Merge R) (s : SampleSource R) (q : Query) (last : Option ℕ) (ks coming xs : List Sample) (steps : ℕ) → m.source ≡ s → m.query ≡ q → m.last ≡ last → kept_of m.kept m.kept_line.items ≡ ks → (still : StillComing bytes left s coming)
    → IsPlaced (behind last) q.from still.coming.here → HasTaken ps still.pieces room (steps + early_count q.from still.coming.here) → xs ≡ answer (ks ++ taken_from (behind last) coming) q → GivesOn bytes left ps room m xs steps
gives_at {R} bytes left ps room m s q last ks coming xs steps source query was kept still placed taken is =
    let now = kept_of m.kept m.kept_line.items in
    let C : SampleSource R → Type 0 = λ x. (c : Coming bytes x still.pieces coming) × IsPlaced (behind m.last) m.query.from c.here × HasTaken ps still.pieces room (steps + early_count m.query.from c.here) in
    let L : Option ℕ → Type 0 = λ o. IsPlaced (behind o) m.query.from still.coming.here in
    let Q : Query → Type 0 = λ x. IsPlaced (behind last) x.from still.coming.here in
    let T : Query → Type 0 = λ x. HasTaken ps still.pieces room (steps + early_count x.from still.coming.here) in
    let here = subst C (sym source) (still.coming, subst L (sym was) (subst Q (sym query) placed), subst T (sym query) taken) in
    record {
      still = record {
        pieces = still.pieces;
        left_is = still.left_is;
        rest = record {
          coming = coming;
          comes = here.0;
          placed = here.1;
          are = is ∙ ap (λ (k : List Sample). answer (k ++ taken_from (behind last) coming) q) (sym kept) ∙ ap (λ (o : Option ℕ). answer (now ++ taken_from (behind o) coming) q) (sym was) ∙ ap (λ (x : Query). answer (now ++ taken_from (behind m.last) coming) x) (sym query);
        };
      };
      taken = here.2;
    }

still_at : {R : Type 0} (bytes : R → List ℕ) (left : List NamedBytes → Type 0) (m : Merge R) (s : SampleSource R) (q : Query) (last : Option ℕ) (ks coming xs : List Sample) → m.source ≡ s → m.query ≡ q → m.last ≡ last → kept_of m.kept m.kept_line.items ≡ ks → (still : StillComing bytes left s coming) → IsPlaced (behind last) q.from still.coming.here
    → xs ≡ answer (ks ++ taken_from (behind last) coming) q → StillGives bytes left m xs
still_at {R} bytes left m s q last ks coming xs source query was kept still placed is =
    let few = early_count q.from still.coming.here in
    (gives_at bytes left still.pieces few m s q last ks coming xs 0 source query was kept still placed (takes_none still.pieces few (0 + few) (omega arith)) is).still

-- what is kept of the samples so far
kept_rises : (ty : PayloadType) (last k : Option ℕ) (l : List ℕ) → IsKept ty last k l → IsRising (kept_of k l) × (end_of (kept_of k l) ≤ behind last)
kept_rises ty last None l kept = (tt, omega arith)
kept_rises ty last (Some t) l kept = ((omega arith, tt), omega (arith, kept.1))

-- the samples that were left out aren't missed
pub left_out : (ty : PayloadType) (q : Query) (last k : Option ℕ) (l : List ℕ) (xs coming now : List Sample) → IsKept ty last k l → AnswersAs (behind last) q coming now → xs ≡ answer (kept_of k l ++ taken_from (behind last) coming) q → xs ≡ answer (kept_of k l ++ taken_from (behind last) now) q
left_out ty q last k l xs coming now kept same is = let r = kept_rises ty last k l kept in is ∙ same (kept_of k l) r.0 r.1

-- THE STEPS

pub few_none : (left : List NamedBytes → Type 0) (ps : List NamedBytes) (steps steps₂ : ℕ) → left ps → steps₂ ≤ steps → TakesFew left ps (steps + 4) steps₂
few_none left ps steps steps₂ is few = record { rest = ps; left_is = is; taken = takes_none ps (steps + 4) steps₂ (omega (arith, few)) }

pub few_on : {R : Type 0} (bytes : R → List ℕ) (left₁ left : List NamedBytes → Type 0) (ps : List NamedBytes) (xs : List Sample) (m first : Merge R) (was : Rest bytes first ps xs) (steps steps₁ steps₂ : ℕ) → (a : GivesOn bytes left₁ ps (steps + early_count first.query.from was.comes.here) m xs steps₁) → TakesFew left a.still.pieces (steps₁ + early_count m.query.from a.still.rest.comes.here + 1) steps₂
    → TakesFew left ps (steps + 4) steps₂
few_on {R} bytes left₁ left ps xs m first was steps steps₁ steps₂ a few =
    let used = steps₁ + early_count m.query.from a.still.rest.comes.here in
    let room = steps + early_count first.query.from was.comes.here in
    let one = takes_more ps a.still.pieces room (room + 1) used (used + 1) a.taken (omega arith) in
    record { rest = few.rest; left_is = few.left_is; taken = takes_more ps few.rest (room + 1) (steps + 4) steps₂ steps₂ (takes_on ps a.still.pieces few.rest (room + 1) (used + 1) steps₂ one few.taken) (omega (arith, was.placed.1)) }

pub taken_on : {R : Type 0} (bytes : R → List ℕ) (left : List NamedBytes → Type 0) (ps rest : List NamedBytes) (xs : List Sample) (m : Merge R) (room steps used : ℕ) → (a : GivesOn bytes left ps room m xs steps) → HasTaken a.still.pieces rest (steps + early_count m.query.from a.still.rest.comes.here) used → HasTaken ps rest room used
taken_on {R} bytes left ps rest xs m room steps used a more = takes_on ps a.still.pieces rest room (steps + early_count m.query.from a.still.rest.comes.here) used a.taken more

-- of a line, the end or a failure
pub few_line : {R : Type 0} (bytes : R → List ℕ) (left : List NamedBytes → Type 0) (n : ℕ) (q : Query) (ps : List NamedBytes) (xs : List Sample) (room : ℕ) (s : SampleSource R) (x : Sample) (steps : ℕ) → PullsLine bytes left n q ps xs room s x steps → TakesFew left ps (room + 1) steps
few_line {R} bytes left n q ps xs room s x steps p = record { rest = p.still.pieces; left_is = p.still.left_is; taken = takes_more ps p.still.pieces (room + 1) (room + 1) (steps + early_count q.from p.still.coming.here) steps p.taken (omega arith) }

pub few_pulled : {R : Type 0} (bytes : R → List ℕ) (left : List NamedBytes → Type 0) (n : ℕ) (q : Query) (ps : List NamedBytes) (xs : List Sample) (room : ℕ) (s : SampleSource R) (line : List ℕ) (steps : ℕ) (r : Merged R) → Pulls bytes left n q ps xs room s line steps r → TakesFew left ps (room + 1) steps
few_pulled {R} bytes left n q ps xs room s line steps (Line t) p = few_line bytes left n q ps xs room s (record { t = t; line = line }) steps p
few_pulled {R} bytes left n q ps xs room s line steps End p = record { rest = p.still.pieces; left_is = p.still.left_is; taken = takes_more ps p.still.pieces room (room + 1) (steps + early_count q.from p.still.coming.here) steps p.taken (omega arith) }
few_pulled {R} bytes left n q ps xs room s line steps (ReadFault failed) p = p
few_pulled {R} bytes left n q ps xs room s line steps (Damaged name at) p = p
few_pulled {R} bytes left n q ps xs room s line steps Spent p = p
few_pulled {R} bytes left n q ps xs room s line steps Memory p = p

pub rest_whole : {R : Type 0} (bytes : R → List ℕ) (m : Merge R) (s : SampleSource R) (q : Query) (ps : List NamedBytes) (lists : List (List Sample)) (tail : List Sample) → m.source ≡ s → m.query ≡ q → m.last ≡ None → m.kept ≡ None → s.piece ≡ None → drop s.at s.tail.items ≡ tail
    → AreReadAs s.ty ps lists → IsRising tail → Rest bytes m ps (answer (over_all lists tail) q)
rest_whole {R} bytes m s q ps lists tail source query was kept none at are last =
    let coming = flat lists ++ tail in
    let P : Option (OpenPiece R) → Type 0 = λ x. IsOpenAs bytes x [] in
    let first : Coming bytes s ps coming = record { here = []; lists = lists; begins = subst P (sym none) refl; are_left = are; all = ap (λ (d : List Sample). flat lists ++ d) (sym at) } in
    let C : SampleSource R → Type 0 = λ x. (c : Coming bytes x ps coming) × IsPlaced (behind m.last) m.query.from c.here in
    let here = subst C (sym source) (first, placed_none (behind m.last) m.query.from) in
    let now = kept_of m.kept m.kept_line.items in
    let empty : now ≡ [] = ap (λ (o : Option ℕ). kept_of o m.kept_line.items) kept in
    record {
      coming = coming;
      comes = here.0;
      placed = here.1;
      are = whole s.ty ps lists tail q are last ∙ ap (λ (k : List Sample). answer (k ++ taken_from 0 coming) q) (sym empty) ∙ ap (λ (o : Option ℕ). answer (now ++ taken_from (behind o) coming) q) (sym was) ∙ ap (λ (x : Query). answer (now ++ taken_from (behind m.last) coming) x) (sym query);
    }

due_from : (k : Option ℕ) (l : List ℕ) (s : Sample) (from : ℕ) → kept_of k l ≡ s ∷ [] → IsDue k from → from ≤ s.t
due_from None l s from is due = absurd due
due_from (Some b) l s from is due = let same : b ≡ s.t = cc in omega (arith, same, due)

early_from : (k : Option ℕ) (l : List ℕ) (s : Sample) (from : ℕ) → kept_of k l ≡ s ∷ [] → IsEarly k from → s.t < from
early_from None l s from is early = absurd (cc)
early_from (Some b) l s from is early = let same : b ≡ s.t = cc in omega (arith, same, early)

kept_before : (ty : PayloadType) (last k : Option ℕ) (l : List ℕ) (s : Sample) → kept_of k l ≡ s ∷ [] → IsKept ty last k l → s.t < behind last
kept_before ty last None l s is kept = absurd (cc)
kept_before ty last (Some b) l s is kept = let same : b ≡ s.t = cc in omega (arith, same, kept.1)

due_end : (ty : PayloadType) (q : Query) (last k : Option ℕ) (l : List ℕ) (coming xs : List Sample) → IsDue k q.from → IsKept ty last k l → ((t : ℕ) → k ≡ Some t → q.to < t) → xs ≡ answer (kept_of k l ++ taken_from (behind last) coming) q → xs ≡ []
due_end ty q last None l coming xs due kept past is = absurd due
due_end ty q last (Some b) l coming xs due kept past is = step_due_past q (behind last) (record { t = b; line = l }) coming xs (record { t = b; line = l } ∷ []) refl due (past b refl) kept.1 is

pub none_kept : {R : Type 0} (m : Merge R) → m.kept ≡ None → kept_of m.kept m.kept_line.items ≡ []
none_kept {R} m none = ap (λ (o : Option ℕ). kept_of o m.kept_line.items) none

-- what was kept is due
pub due_answers : {R : Type 0} (bytes : R → List ℕ) (left : List NamedBytes → Type 0) (m m₂ : Merge R) (ty : PayloadType) (ps : List NamedBytes) (xs : List Sample) (line : List ℕ) (r : Merged R) → left ps → Rest bytes m ps xs → m₂.source ≡ m.source → m₂.query ≡ m.query → m₂.last ≡ m.last → m₂.kept ≡ None
    → IsDue m.kept m.query.from → IsKept ty m.last m.kept m.kept_line.items → ((t : ℕ) → r ≡ Line t → (kept_of m.kept m.kept_line.items ≡ record { t = t; line = line } ∷ []) × (t ≤ m.query.to)) → ((t : ℕ) → r ≡ End → m.kept ≡ Some t → m.query.to < t) → IsGiven r → Answers bytes left m₂ xs line r
due_answers {R} bytes left m m₂ ty ps xs line (Line t) is rest source query last none due kept gives ends given =
    let s : Sample = record { t = t; line = line } in
    let gave = gives t refl in
    let n = behind m.last in
    let ks = kept_of m.kept m.kept_line.items in
    let more = answer ([] ++ taken_from n rest.coming) m.query in (
      more,
      step_due m.query n s rest.coming xs ks gave.0 (due_from m.kept m.kept_line.items s m.query.from gave.0 due) gave.1 (kept_before ty m.last m.kept m.kept_line.items s gave.0 kept) rest.are,
      still_at bytes left m₂ m.source m.query m.last [] rest.coming more source query last (none_kept m₂ none) (record { pieces = ps; left_is = is; coming = rest.comes }) rest.placed refl,
    )
due_answers {R} bytes left m m₂ ty ps xs line End is rest source query last none due kept gives ends given = due_end ty m.query m.last m.kept m.kept_line.items rest.coming xs due kept (λ t some. ends t refl some) rest.are
due_answers {R} bytes left m m₂ ty ps xs line (ReadFault failed) is rest source query last none due kept gives ends given = absurd given
due_answers {R} bytes left m m₂ ty ps xs line (Damaged name at) is rest source query last none due kept gives ends given = absurd given
due_answers {R} bytes left m m₂ ty ps xs line Spent is rest source query last none due kept gives ends given = absurd given
due_answers {R} bytes left m m₂ ty ps xs line Memory is rest source query last none due kept gives ends given = absurd given

-- nothing more comes
pub last_answers : {R : Type 0} (bytes : R → List ℕ) (left : List NamedBytes → Type 0) (m m₂ : Merge R) (s : SampleSource R) (coming xs : List Sample) (line : List ℕ) (r : Merged R) → m₂.source ≡ s → m₂.query ≡ m.query → m₂.last ≡ m.last → m₂.kept ≡ None → coming ≡ [] → (still : StillComing bytes left s []) → IsPlaced (behind m.last) m.query.from still.coming.here
    → IsEarly m.kept m.query.from → xs ≡ answer (kept_of m.kept m.kept_line.items ++ taken_from (behind m.last) coming) m.query
    → ((t : ℕ) → r ≡ Line t → kept_of m.kept m.kept_line.items ≡ record { t = t; line = line } ∷ []) → (r ≡ End → kept_of m.kept m.kept_line.items ≡ []) → IsGiven r → Answers bytes left m₂ xs line r
last_answers {R} bytes left m m₂ s coming xs line (Line t) source query last none empty still placed early is gives ends given =
    let x : Sample = record { t = t; line = line } in
    let ks = kept_of m.kept m.kept_line.items in
    let more = answer ([] ++ taken_from (behind m.last) []) m.query in
    (more, step_last m.query (behind m.last) x coming xs ks empty (gives t refl) (early_from m.kept m.kept_line.items x m.query.from (gives t refl) early) is, still_at bytes left m₂ s m.query m.last [] [] more source query last (none_kept m₂ none) still placed refl)
last_answers {R} bytes left m m₂ s coming xs line End source query last none empty still placed early is gives ends given = step_end m.query (behind m.last) coming xs (kept_of m.kept m.kept_line.items) empty (ends refl) is
last_answers {R} bytes left m m₂ s coming xs line (ReadFault failed) source query last none empty still placed early is gives ends given = absurd given
last_answers {R} bytes left m m₂ s coming xs line (Damaged name at) source query last none empty still placed early is gives ends given = absurd given
last_answers {R} bytes left m m₂ s coming xs line Spent source query last none empty still placed early is gives ends given = absurd given
last_answers {R} bytes left m m₂ s coming xs line Memory source query last none empty still placed early is gives ends given = absurd given

-- a sample that isn't earlier than the interval came
gives_none : {R : Type 0} (bytes : R → List ℕ) (left : List NamedBytes → Type 0) (m₂ : Merge R) (s : SampleSource R) (q : Query) (n t : ℕ) (line line₂ : List ℕ) (rest coming xs : List Sample) (r : Merged R) → m₂.source ≡ s → m₂.query ≡ q → m₂.last ≡ Some t → coming ≡ record { t = t; line = line } ∷ rest → (still : StillComing bytes left s rest) → IsPlaced (t + 1) q.from still.coming.here
    → n ≤ t → q.from ≤ t → xs ≡ answer ([] ++ taken_from n coming) q → (m₂.kept ≡ None) × (t ≤ q.to → r ≡ Line t) × (q.to < t → r ≡ End) → line₂ ≡ line → Answers bytes left m₂ xs line₂ r
gives_none {R} bytes left m₂ s q n t line line₂ rest coming xs r source query last is still placed low from all gives same =
    let x : Sample = record { t = t; line = line } in
    let A : Merged R → Type 0 = λ k. Answers bytes left m₂ xs line₂ k in
    elim (cases_lt q.to t) [
      | inl past ↦ subst A (sym (gives.2 past)) (step_past q n x rest coming xs is low from past all)
      | inr within ↦
          let more = answer ([] ++ taken_from (t + 1) rest) q in
          subst A (sym (gives.1 within)) (more, step_within q n x rest coming xs is low from within all ∙ ap (λ (l : List ℕ). record { t = t; line = l } ∷ more) (sym same), still_at bytes left m₂ s q (Some t) [] rest more source query last (none_kept m₂ gives.0) still placed refl)
    ]

gives_some : {R : Type 0} (bytes : R → List ℕ) (left : List NamedBytes → Type 0) (m₂ : Merge R) (s : SampleSource R) (q : Query) (n t b : ℕ) (l line line₂ : List ℕ) (rest coming xs : List Sample) (r : Merged R) → m₂.source ≡ s → m₂.query ≡ q → m₂.last ≡ Some t → coming ≡ record { t = t; line = line } ∷ rest → (still : StillComing bytes left s rest) → IsPlaced (t + 1) q.from still.coming.here
    → n ≤ t → q.from ≤ t → b < q.from → xs ≡ answer (kept_of (Some b) l ++ taken_from n coming) q → (m₂.kept ≡ Some t) × (r ≡ Line b) → line₂ ≡ l → m₂.kept_line.items ≡ line → Answers bytes left m₂ xs line₂ r
gives_some {R} bytes left m₂ s q n t b l line line₂ rest coming xs r source query last is still placed low from early all gives same now =
    let x : Sample = record { t = t; line = line } in
    let more = answer ((x ∷ []) ++ taken_from (t + 1) rest) q in
    let A : Merged R → Type 0 = λ k. Answers bytes left m₂ xs line₂ k in
    let kept : kept_of m₂.kept m₂.kept_line.items ≡ x ∷ [] = ap (λ (o : Option ℕ). kept_of o m₂.kept_line.items) gives.0 ∙ ap (λ (k : List ℕ). record { t = t; line = k } ∷ []) now in
    subst A (sym gives.1) (more, step_held q n b l x rest coming xs is low from early all ∙ ap (λ (k : List ℕ). record { t = b; line = k } ∷ more) (sym same), still_at bytes left m₂ s q (Some t) (x ∷ []) rest more source query last kept still placed refl)

pub gives_answers : {R : Type 0} (bytes : R → List ℕ) (left : List NamedBytes → Type 0) (m₂ : Merge R) (k : Option ℕ) (l : List ℕ) (s : SampleSource R) (q : Query) (n t : ℕ) (line line₂ : List ℕ) (rest coming xs : List Sample) (r : Merged R) → m₂.source ≡ s → m₂.query ≡ q → m₂.last ≡ Some t → coming ≡ record { t = t; line = line } ∷ rest
    → (still : StillComing bytes left s rest) → IsPlaced (t + 1) q.from still.coming.here → n ≤ t → q.from ≤ t → IsEarly k q.from → xs ≡ answer (kept_of k l ++ taken_from n coming) q → Gives q.to k t m₂.kept r → (IsSome k → (line₂ ≡ l) × (m₂.kept_line.items ≡ line)) → (k ≡ None → line₂ ≡ line) → Answers bytes left m₂ xs line₂ r
gives_answers {R} bytes left m₂ None l s q n t line line₂ rest coming xs r source query last is still placed low from early all gives swapped stays = gives_none bytes left m₂ s q n t line line₂ rest coming xs r source query last is still placed low from all gives (stays refl)
gives_answers {R} bytes left m₂ (Some b) l s q n t line line₂ rest coming xs r source query last is still placed low from early all gives swapped stays = let lines = swapped refl in gives_some bytes left m₂ s q n t b l line line₂ rest coming xs r source query last is still placed low from early all gives lines.0 lines.1

line_same : {R : Type 0} (a b : ℕ) → ◌≡◌ {A = Merged R} (Line a) (Line b) → a ≡ b
line_same {R} a b is = cc

line_not_end : {R : Type 0} (r : Merged R) (t : ℕ) → r ≡ Line t → r ≡ End → ⊥
line_not_end {R} r t line end = cc

pub gives_event : {R : Type 0} (ty : PayloadType) (to : ℕ) (last k : Option ℕ) (l : List ℕ) (t : ℕ) (kept : Option ℕ) (line line₂ : List ℕ) (r : Merged R) (at : ℕ) → Gives to k t kept r → IsKept ty last k l → IsSampleOf ty (record { t = t; line = line }) → (IsSome k → line₂ ≡ l) → (k ≡ None → line₂ ≡ line) → r ≡ Line at
    → IsSampleOf ty (record { t = at; line = line₂ })
gives_event {R} ty to last None l t kept line line₂ r at gives was event swapped stays is =
    let P : List ℕ → Type 0 = λ u. IsSampleOf ty (record { t = t; line = u }) in
    let here = subst P (sym (stays refl)) event in
    elim (cases_lt to t) [
      | inl past ↦ absurd (line_not_end r at is (gives.2 past))
      | inr within ↦ (let N : ℕ → Type 0 = λ u. IsSampleOf ty (record { t = u; line = line₂ }) in subst N (line_same t at (sym (gives.1 within) ∙ is)) here)
    ]
gives_event {R} ty to last (Some b) l t kept line line₂ r at gives was event swapped stays is =
    let P : List ℕ → Type 0 = λ u. IsSampleOf ty (record { t = b; line = u }) in
    let N : ℕ → Type 0 = λ u. IsSampleOf ty (record { t = u; line = line₂ }) in
    subst N (line_same b at (sym gives.1 ∙ is)) (subst P (sym (swapped refl)) was.0)

-- THE STATE

pub kept_now : (ty : PayloadType) (last k : Option ℕ) (l : List ℕ) (t : ℕ) (line : List ℕ) → k ≡ Some t → last ≡ Some t → kept_of k l ≡ record { t = t; line = line } ∷ [] → IsSampleOf ty (record { t = t; line = line }) → IsKept ty last k l
kept_now ty last None l t line some was is event = absurd (cc)
kept_now ty None (Some b) l t line some was is event = absurd (cc)
kept_now ty (Some u) (Some b) l t line some was is event =
    let one : b ≡ t = cc in
    let two : u ≡ t = cc in
    let whole : ◌≡◌ {A = Sample} (record { t = b; line = l }) (record { t = t; line = line }) = cc in
    let same : line ≡ l = sym (ap (λ (x : Sample). x.line) whole) in
    let P : List ℕ → Type 0 = λ x. IsSampleOf ty (record { t = t; line = x }) in
    let N : ℕ → Type 0 = λ x. IsSampleOf ty (record { t = x; line = l }) in
    (subst N (sym one) (subst P same event), omega (arith, one, two))

pub none_is_kept : (ty : PayloadType) (last k : Option ℕ) (l : List ℕ) → k ≡ None → IsKept ty last k l
none_is_kept ty last None l none = tt
none_is_kept ty last (Some b) l none = absurd (cc)

pub early_at : (k : Option ℕ) (t from from₂ : ℕ) → k ≡ Some t → from₂ ≡ from → t < from → IsEarly k from₂
early_at None t from from₂ some same early = tt
early_at (Some b) t from from₂ some same early = let is : b ≡ t = cc in omega (arith, is, same, early)

-- nothing is read behind a line or the end
pub going_at : {R : Type 0} (tells : Bool) (bytes : R → List ℕ) (m m₂ : Merge R) (s : SampleSource R) → m₂.source ≡ s → s.ty ≡ m.source.ty → s.tail ≡ m.source.tail → IsReady tells bytes s.ty s.piece → IsGoing tells bytes m → IsKept s.ty m₂.last m₂.kept m₂.kept_line.items → IsGoing tells bytes m₂
going_at {R} tells bytes m m₂ s source ty tail ready going kept =
    let P : SampleSource R → Type 0 = λ x. IsReady tells bytes x.ty x.piece in
    let T : PayloadType → Type 0 = λ x. AreSamplesOf x m.source.tail.items in
    let V : SampleSource R → Type 0 = λ x. AreSamplesOf x.ty x.tail.items in
    let K : SampleSource R → Type 0 = λ x. IsKept x.ty m₂.last m₂.kept m₂.kept_line.items in
    let tail_is : AreSamplesOf s.ty s.tail.items = rw tail (subst T (sym ty) going.tail) in
    record { ready = subst P (sym source) ready; tail = subst V (sym source) tail_is; kept = subst K (sym source) kept }

-- THE PIECES

pub passes_join : {R : Type 0} (bytes : R → List ℕ) (left left₂ : List NamedBytes → Type 0) (all : List NamedBytes) (now new : Option (OpenPiece R)) → (p : Passes bytes left all now) → Passes bytes left₂ (open_pieces bytes now ++ p.rest) new → Passes bytes left₂ all new
passes_join {R} bytes left left₂ all now new p q = record {
  passed = p.passed ++ q.passed;
  rest = q.rest;
  left_is = q.left_is;
  are = p.are ∙ ap (λ (l : List NamedBytes). p.passed ++ l) q.are ∙ sym (append_assoc p.passed q.passed (open_pieces bytes new ++ q.rest));
}

pub passes_at : {R : Type 0} (bytes : R → List ℕ) (left : List NamedBytes → Type 0) (all : List NamedBytes) (s : SampleSource R) (m : Merge R) → m.source ≡ s → Passes bytes left all s.piece → Passes bytes left all m.source.piece
passes_at {R} bytes left all s m source p = let P : SampleSource R → Type 0 = λ x. Passes bytes left all x.piece in subst P (sym source) p

pub damaged_back : (ty ty₂ : PayloadType) (all front back : List NamedBytes) (name : Name) (at : ℕ) → ty ≡ ty₂ → all ≡ front ++ back → IsDamaged ty back name at → IsDamaged ty₂ all name at
damaged_back ty ty₂ all front back name at same are bad =
    let C : List NamedBytes → Type 0 = λ l. Contains l bad.piece in
    let T : PayloadType → Type 0 = λ x. IsBadFor x bad.piece.bytes at in
    record { piece = bad.piece; among = subst C (sym are) (Contains-append_right front back bad.piece bad.among); named = bad.named; bad = subst T same bad.bad }

-- FAULTS

pub rose_lower : (a b c : ℕ) → a ≤ b → Rose b c → Rose a c
rose_lower a b c low rose = omega (arith, low, rose)

since_open : {R : Type 0} (faults : R → ℕ) (first now : Option (OpenPiece R)) (r : R) → Grew faults first now → HasRisen faults now (Some r) → HasRisen faults first (Some r)
since_open {R} faults None None r grew rose = rose
since_open {R} faults None (Some q) r grew rose = absurd grew
since_open {R} faults (Some p) None r grew rose = absurd rose
since_open {R} faults (Some p) (Some q) r grew rose = rose_lower (faults p.reader) (faults q.reader) (faults r) grew rose

since_some : {R : Type 0} (faults : R → ℕ) (first now : Option (OpenPiece R)) (opened opened₂ : Type 0) (r : R) → (opened → opened₂) → opened₂ ⊎ Grew faults first now → (opened × Rose 0 (faults r)) ⊎ HasRisen faults now (Some r) → (opened₂ × Rose 0 (faults r)) ⊎ HasRisen faults first (Some r)
since_some {R} faults first now opened opened₂ r more since (inl new) = inl (more new.0, new.1)
since_some {R} faults first now opened opened₂ r more (inl was) (inr rose) = inl (was, now_risen faults now r rose)
since_some {R} faults first now opened opened₂ r more (inr grew) (inr rose) = inr (since_open faults first now r grew rose)

pub failed_since : {R : Type 0} (faults : R → ℕ) (first now : Option (OpenPiece R)) (opened opened₂ risen risen₂ : Type 0) (failed : Option R) → (opened → opened₂) → (risen → risen₂) → opened₂ ⊎ Grew faults first now → HasFailed faults now opened risen failed → HasFailed faults first opened₂ risen₂ failed
failed_since {R} faults first now opened opened₂ risen risen₂ None more rises since h = rises h
failed_since {R} faults first now opened opened₂ risen risen₂ (Some r) more rises since h = since_some faults first now opened opened₂ r more since h

pub since_more : {A B C : Type 0} → (A → B) → A ⊎ C → B ⊎ C
since_more {A} {B} {C} more (inl a) = inl (more a)
since_more {A} {B} {C} more (inr c) = inr c

grew_through : {R : Type 0} (faults : R → ℕ) (a b c : Option (OpenPiece R)) → Grew faults a b → Grew faults b c → Grew faults a c
grew_through {R} faults a b None one two = ends a
  where
    ends : (o : Option (OpenPiece R)) → Grew faults o None
    ends None = tt
    ends (Some p) = tt
grew_through {R} faults None None (Some r) one two = two
grew_through {R} faults None (Some q) (Some r) one two = absurd one
grew_through {R} faults (Some p) None (Some r) one two = absurd two
grew_through {R} faults (Some p) (Some q) (Some r) one two = omega (arith, one, two)

pub since_through : {R : Type 0} (faults : R → ℕ) (first now new : Option (OpenPiece R)) (opened opened₂ : Type 0) → (opened → opened₂) → opened ⊎ Grew faults now new → opened₂ ⊎ Grew faults first now → opened₂ ⊎ Grew faults first new
since_through {R} faults first now new opened opened₂ more (inl was) since = inl (more was)
since_through {R} faults first now new opened opened₂ more (inr grew) (inl was) = inl was
since_through {R} faults first now new opened opened₂ more (inr grew) (inr earlier) = inr (grew_through faults first now new earlier grew)

-- OTHER ANSWERS

pub answers_none : {R : Type 0} (bytes : R → List ℕ) (left : List NamedBytes → Type 0) (m : Merge R) (xs : List Sample) (line : List ℕ) (r : Merged R) → ((t : ℕ) → r ≡ Line t → ⊥) → (r ≡ End → ⊥) → Answers bytes left m xs line r
answers_none {R} bytes left m xs line (Line t) one two = absurd (one t refl)
answers_none {R} bytes left m xs line End one two = absurd (two refl)
answers_none {R} bytes left m xs line (ReadFault failed) one two = tt
answers_none {R} bytes left m xs line (Damaged name at) one two = tt
answers_none {R} bytes left m xs line Spent one two = tt
answers_none {R} bytes left m xs line Memory one two = tt

pub opens_none : {R : Type 0} (bytes : R → List ℕ) (left : List NamedBytes → Type 0) (first new : Option (OpenPiece R)) (ps : List NamedBytes) (r : Merged R) → ((t : ℕ) → r ≡ Line t → ⊥) → (r ≡ End → ⊥) → OpensOn bytes left first new ps r
opens_none {R} bytes left first new ps (Line t) one two = absurd (one t refl)
opens_none {R} bytes left first new ps End one two = absurd (two refl)
opens_none {R} bytes left first new ps (ReadFault failed) one two = tt
opens_none {R} bytes left first new ps (Damaged name at) one two = tt
opens_none {R} bytes left first new ps Spent one two = tt
opens_none {R} bytes left first new ps Memory one two = tt

-- HOW MUCH REMAINS

pub count_le : (k : Option ℕ) → kept_count k ≤ 1
count_le None = omega arith
count_le (Some t) = omega arith

pub due_count : (k : Option ℕ) (from : ℕ) → IsDue k from → kept_count k ≡ 1
due_count None from due = absurd due
due_count (Some t) from due = refl

pub kept_length : (k : Option ℕ) (l : List ℕ) (s : Sample) → kept_of k l ≡ s ∷ [] → kept_count k ≡ 1
kept_length None l s is = absurd (cc)
kept_length (Some t) l s is = refl

pub gives_count : {R : Type 0} (to : ℕ) (k : Option ℕ) (t : ℕ) (kept : Option ℕ) (r : Merged R) → Gives to k t kept r → kept_count kept ≤ kept_count k
gives_count {R} to None t kept r gives = omega (arith, ap kept_count gives.0)
gives_count {R} to (Some b) t kept r gives = omega (arith, ap kept_count gives.0)
