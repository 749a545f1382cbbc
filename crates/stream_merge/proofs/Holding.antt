-- What a sample in memory comes to, once the merge has passed it.
use Rattle.std.proofs.Common.{◌≡◌, ℕ, ◌+◌, ◌<◌, ◌≤◌, Bool, List, [], ◌∷◌, ◌++◌, Option, None, Some, IsTrue, length, drop, refl, sym, ap, ◌∙◌, subst, arith}
use Rattle.series_model.specs.declared.sample.Sample.{Sample}
use Rattle.series_model.specs.Series.{RisesFrom, taken_from}
use Rattle.series_model.specs.Retrieval.{answer}
use Rattle.pb_wire.specs.declared.payload.PayloadType.{PayloadType}
use Rattle.pb_messages.specs.declared.info.PayloadInfo.{PayloadInfo}
use Rattle.pb_lines.specs.File.{IsSample}
use Rattle.pb_file.specs.declared.walk.Walked.TheVariants as walked
use Rattle.pb_file.specs.Walk.{Front, HoldsSample, behind}
use Rattle.pb_file.specs.Skip.{HasSkipped, GoesOnFrom}
use Rattle.pb_file.proofs.Walking.{one_info, held_line, held_takes}
use Rattle.pb_file.proofs.Skipping.{skip_line}
use Rattle.stream_merge.specs.declared.source.OpenPiece.{OpenPiece}
use Rattle.stream_merge.specs.declared.merge.Merge.{Merge}
use Rattle.stream_merge.specs.Pieces.{NamedBytes}
use Rattle.stream_merge.specs.Reading.{IsSampleOf}
use Rattle.stream_merge.specs.Beginning.{IsPlaced}
use Rattle.stream_merge.specs.Source.{IsReady, IsOpenAs, HoldsIn, open_pieces, passed, unread_in}
use Rattle.stream_merge.specs.Merging.{IsGoing, IsKept, Rest, HoldsNext, GoesBehind, kept_of, next_from}
use Rattle.stream_merge.specs.Reads.{HasReadOpen, HasGiven}
use Rattle.stream_merge.proofs.SoFar.{one_read, read_line}
use Rattle.stream_merge.proofs.Answered.{given_step}
use Rattle.stream_merge.proofs.Pulling.{begun_on, line_read}
use Rattle.stream_merge.proofs.Answering.{flat}
use Rattle.stream_merge.proofs.Giving.{step_within}
use Rattle.series_model.proofs.AnswerLemmas.{before_none}

-- OF THE OPEN PIECE

-- the open piece once it was passed
abbrev piece_behind : {R : Type 0} → OpenPiece R → ℕ → ℕ → OpenPiece R
piece_behind {R} p t len = record p { walk = record p.walk { place = p.walk.place + len + 1; earliest = t + 1 } }

skips : {R : Type 0} (bytes : R → List ℕ) (p : OpenPiece R) (t : ℕ) (line : List ℕ) → HoldsSample p.walk t line → p.walk.len ≤ length (bytes p.reader)
    → (at : ℕ) (front : Front) → HasSkipped p.walk (bytes p.reader) at front → GoesOnFrom at front (bytes p.reader) line (walked.Sample t) (piece_behind p t (length line)).walk
skips {R} bytes p t line h long at front skipped =
    let w = p.walk in
    let new = (piece_behind p t (length line)).walk in
    skip_line w new (bytes p.reader) line at front (walked.Sample t) h.held.text.2 (held_line w (bytes p.reader) line t h long skipped.window) skipped (held_takes w new line t h refl)

pub ready_behind : {R : Type 0} (tells : Bool) (bytes : R → List ℕ) (ty : PayloadType) (o : Option (OpenPiece R)) (t : ℕ) (line : List ℕ) → IsReady tells bytes ty o → HoldsIn o t line → IsReady tells bytes ty (passed o t (length line))
ready_behind {R} tells bytes ty None t line ready h = absurd h
ready_behind {R} tells bytes ty (Some p) t line ready h =
    begun_on tells bytes ty p p.reader (piece_behind p t (length line)).walk line t ready (held_takes p.walk (piece_behind p t (length line)).walk line t h refl).0 h.room (λ told. refl)
    (λ told. skips bytes p t line h (ready.bytes_are told))

pub open_behind : {R : Type 0} (tells : Bool) (bytes : R → List ℕ) (ty : PayloadType) (o : Option (OpenPiece R)) (t : ℕ) (line : List ℕ) (xs : List Sample) → IsTrue tells → IsReady tells bytes ty o → HoldsIn o t line → IsOpenAs bytes o xs
    → (rest : List Sample) × (xs ≡ record { t = t; line = line } ∷ rest) × IsOpenAs bytes (passed o t (length line)) rest
open_behind {R} tells bytes ty None t line xs told ready h now = absurd h
open_behind {R} tells bytes ty (Some p) t line xs told ready h now = line_read bytes p p.reader (piece_behind p t (length line)).walk line t xs now refl (ready.bytes_are told) refl (skips bytes p t line h (ready.bytes_are told))

pub event_held : {R : Type 0} (tells : Bool) (bytes : R → List ℕ) (ty : PayloadType) (o : Option (OpenPiece R)) (t : ℕ) (line : List ℕ) → IsReady tells bytes ty o → HoldsIn o t line → IsSampleOf ty (record { t = t; line = line })
event_held {R} tells bytes ty None t line ready h = absurd h
event_held {R} tells bytes ty (Some p) t line ready h =
    let T : PayloadType → Type 0 = λ y. IsSample y h.info.year (record { t = t; line = line }) in
    (h.info.year, subst T (ap (λ (i : PayloadInfo). i.ty) (one_info p.walk.info h.info ready.info h.header ready.header) ∙ ready.type) h.sample)

pub unread_behind : {R : Type 0} (o : Option (OpenPiece R)) (t : ℕ) (line : List ℕ) → HoldsIn o t line → unread_in (passed o t (length line)) < unread_in o
unread_behind {R} None t line h = absurd h
unread_behind {R} (Some p) t line h = omega (arith, h.room)

-- OF THE MERGE

-- one sample fewer is to come, and none of them is earlier than the interval
placed_behind : (n from t : ℕ) (line : List ℕ) (here rest : List Sample) → IsPlaced n from here → here ≡ record { t = t; line = line } ∷ rest → from ≤ t → IsPlaced (t + 1) from rest
placed_behind n from t line here rest placed is low =
    let R : List Sample → Type 0 = λ l. RisesFrom n l in
    let rises = (subst R is placed.0).1 in
    (rises, omega (arith, ap length (before_none from (t + 1) rest rises (omega (arith, low)))))

-- the merge once it passed a sample
abbrev pub merge_behind : {R : Type 0} → Merge R → ℕ → List ℕ → Merge R
merge_behind {R} m t line = record m { last = Some t; source = record m.source { piece = passed m.source.piece t (length line) } }

rest_behind : {R : Type 0} (tells : Bool) (bytes : R → List ℕ) (m : Merge R) (t : ℕ) (line : List ℕ) (left : List NamedBytes) (xs : List Sample) → IsTrue tells → IsGoing tells bytes m → HoldsNext m t line → Rest bytes m left xs
    → (rest : List Sample) × (xs ≡ record { t = t; line = line } ∷ rest) × Rest bytes (merge_behind m t line) left rest
rest_behind {R} tells bytes m t line left xs told going h r =
    let s : Sample = record { t = t; line = line } in
    let q = m.query in
    let c = r.comes in
    let opened = open_behind tells bytes m.source.ty m.source.piece t line c.here told going.ready h.held c.begins in
    let more = flat c.lists ++ drop m.source.at m.source.tail.items in
    let now = opened.0 ++ more in
    let is : r.coming ≡ s ∷ now = c.all ∙ ap (λ (l : List Sample). l ++ more) opened.1 in
    let K : Option ℕ → Type 0 = λ k. xs ≡ answer (kept_of k m.kept_line.items ++ taken_from (behind m.last) r.coming) q in (
      answer ([] ++ taken_from (t + 1) now) q,
      step_within q (behind m.last) s now r.coming xs is h.later h.from h.to (subst K h.none_kept r.are),
      record {
        coming = now;
        comes = record { here = opened.0; lists = c.lists; begins = opened.2; are_left = c.are_left; all = refl };
        placed = placed_behind (behind m.last) q.from t line c.here opened.0 r.placed opened.1 h.from;
        are = ap (λ (k : Option ℕ). answer (kept_of k m.kept_line.items ++ taken_from (t + 1) now) q) (sym h.none_kept);
      },
    )

pub goes_behind : {R : Type 0} (tells : Bool) (bytes : R → List ℕ) (m : Merge R) (t : ℕ) (line : List ℕ) → IsGoing tells bytes m → HoldsNext m t line → GoesBehind tells bytes m t line (merge_behind m t line)
goes_behind {R} tells bytes m t line going h =
    let K : Option ℕ → Type 0 = λ k. IsKept m.source.ty (Some t) k m.kept_line.items in
    let L : Option ℕ → Type 0 = λ k. (next_from k m.last ≤ t) × (t < next_from k (Some t)) in
    record {
      going = record { ready = ready_behind tells bytes m.source.ty m.source.piece t line going.ready h.held; tail = going.tail; kept = subst K (sym h.none_kept) tt };
      same = refl;
      event = event_held tells bytes m.source.ty m.source.piece t line going.ready h.held;
      later = subst L (sym h.none_kept) (h.later, omega arith);
      gives = λ told left xs r. rest_behind tells bytes m t line left xs told going h r;
      smaller = λ count. let less = unread_behind m.source.piece t line h.held in omega (arith, less);
    }

-- WHAT WAS READ

open_read : {R : Type 0} (tells : Bool) (bytes : R → List ℕ) (ty : PayloadType) (o : Option (OpenPiece R)) (t : ℕ) (line : List ℕ) (read : List Sample) → IsTrue tells → IsReady tells bytes ty o → HoldsIn o t line → HasReadOpen bytes ty o read → HasReadOpen bytes ty (passed o t (length line)) (read ++ record { t = t; line = line } ∷ [])
open_read {R} tells bytes ty None t line read told ready h now = absurd h
open_read {R} tells bytes ty (Some p) t line read told ready h now = one_read bytes ty p p.reader (piece_behind p t (length line)).walk line t read refl refl (skips bytes p t line h (ready.bytes_are told)) now

pub same_pieces : {R : Type 0} (bytes : R → List ℕ) (o : Option (OpenPiece R)) (t len : ℕ) → open_pieces bytes (passed o t len) ≡ open_pieces bytes o
same_pieces {R} bytes None t len = refl
same_pieces {R} bytes (Some p) t len = refl

some_open : {R : Type 0} (o : Option (OpenPiece R)) (t : ℕ) (line : List ℕ) → HoldsIn o t line → o ≡ None → ⊥
some_open {R} None t line h is = h
some_open {R} (Some p) t line h is = cc

none_now : (k : Option ℕ) (t : ℕ) → k ≡ None → k ≡ Some t → ⊥
none_now k t none some = cc

pub gives_behind : {R : Type 0} (tells : Bool) (bytes : R → List ℕ) (m : Merge R) (t : ℕ) (line : List ℕ) (left : ℕ) (ps : List NamedBytes) (given : List Sample) → IsTrue tells → IsGoing tells bytes m → HoldsNext m t line → HasGiven bytes m left ps given
    → HasGiven bytes (merge_behind m t line) left ps (given ++ record { t = t; line = line } ∷ [])
gives_behind {R} tells bytes m t line left ps given told going h g =
    let x : Sample = record { t = t; line = line } in
    let q = m.query in
    let n = behind m.last in
    let o = passed m.source.piece t (length line) in
    let has = read_line bytes m.source o left ps g.read x (same_pieces bytes m.source.piece t (length line)) (some_open m.source.piece t line h.held) (λ xs now. open_read tells bytes m.source.ty m.source.piece t line xs told going.ready h.held now) g.has in
    let none : kept_of m.kept m.kept_line.items ≡ [] = ap (λ (k : Option ℕ). kept_of k m.kept_line.items) h.none_kept in
    given_step bytes m (merge_behind m t line) (merge_behind m t line).source left left ps ps given (x ∷ []) [] (t + 1) x refl refl refl none g has (λ all. some_open m.source.piece t line h.held all.none_open) (λ u some. absurd (none_now m.kept u h.none_kept some))
    (λ more. ap (λ (l : List Sample). answer (l ++ taken_from n (x ∷ more)) q) none ∙ step_within q n x more (x ∷ more) (answer ([] ++ taken_from n (x ∷ more)) q) refl h.later h.from h.to refl)
