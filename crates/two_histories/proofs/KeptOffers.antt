-- What an offer keeps is accepted of the row of its name, and durable once all of it is flushed.
use Rattle.std.proofs.Common.{◌≡◌, ℕ, zero, suc, ◌+◌, ◌≤◌, List, [], ◌∷◌, ◌++◌, length, map, drop, Option, Some, None, true, false, refl, ap, sym, ◌∙◌, subst, arith, inl, inr, append_assoc}
use Rattle.std.specs.Prelude.{◌==◌, Contains, slice_get}
use Rattle.std.proofs.lemmas.Bool.Decides.{nat_tests}
use Rattle.std.proofs.lemmas.List.Elements.{Contains-append_left, Contains-push}
use Rattle.pb_messages.specs.declared.about.Method.{Method}
use Rattle.pb_messages.specs.declared.about.Method.TheVariants.{Monitor, Scan}
use Rattle.pb_wire.specs.declared.payload.PayloadType.{PayloadType}
use Rattle.series_model.specs.Admission.{refused_by_row}
use Rattle.series_model.specs.Archive.{IsPrefix}
use Rattle.series_model.specs.declared.admission.Reason.{Reason}
use Rattle.series_model.specs.declared.sample.Sample.{Sample}
use Rattle.act_model.specs.declared.acts.Act.{Act}
use Rattle.act_model.specs.declared.acts.Act.TheVariants.{Offer}
use Rattle.act_model.specs.declared.acts.Answer.TheVariants.{Kept}
use Rattle.act_model.specs.Changes.{each, at, with_rows}
use Rattle.act_model.specs.Machine.{Machine, find_row}
use Rattle.act_model.specs.Offer.{OfferStep, gains, offered, offered_to}
use Rattle.act_model.specs.Outcome.{Outcome}
use Rattle.act_model.specs.Reply.{Reply}
use Rattle.act_model.specs.Rows.{RowState, number_of, standing}
use Rattle.act_model.specs.Step.{Step}
use Rattle.act_model.proofs.Onward.{each_forward}
use Rattle.act_model.proofs.RowActs.{tried_is}
use Rattle.two_histories.specs.Histories.{left_by}
use Rattle.two_histories.specs.Store.{Lists}
use Rattle.two_histories.specs.ArchiveHistories.{accepted_by, added, first_accepted}
use Rattle.two_histories.specs.ArchiveIntake.{IntakeHalf, IntakeRow, known_at, tail_at, as_row, kept_row, kept_rows, intake_of, machine_of}
use Rattle.two_histories.specs.ArchiveLaws.{KeptIsAccepted, KeptIsDurable}
use Rattle.two_histories.specs.ArchiveStore.{StoreHalf, durable_at}
use Rattle.two_histories.specs.IntakeStep.{IntakePart, Offers, IntakeAnswer, IntakeEntry, Replies, IntakeStep, offers, ticks, no_row, sees_doors, sees_batch, sees_row, takes, takes_flush, lacks_memory}
use Rattle.two_histories.proofs.ArchiveJoined.{accepted_more}
use Rattle.two_histories.proofs.ArchiveLaw.{joined_of, legal_of, reported_is_durable}
use Rattle.two_histories.proofs.Halves.{left_by_more}
use Rattle.two_histories.proofs.IntakeLaws.{tail_known, drop_more}
use Rattle.two_histories.proofs.KnownRows.{Ascends}
use Rattle.two_histories.proofs.Lists.{prefix_same, prefix_through}
use Rattle.two_histories.proofs.Renaming.{found_name}

-- THE MACHINE

-- the sample is at the end of the tail of the row with this name
record KeptIn (m : Machine) (name : List ℕ) (s : Sample) (after : Machine) : Type 0 where
  place : ℕ
  row : RowState
  found : find_row m name ≡ Some place
  here : slice_get m.rows place ≡ Some row
  is : after ≡ with_rows m (at place (gains s))

abbrev Keeps : Machine → List ℕ → Sample → Outcome → Type 0
Keeps m name s end = end.answer ≡ Kept → KeptIn m name s end.after

kept_in : (m : Machine) (name : List ℕ) (ty : PayloadType) (s : Sample) (now : ℕ) → Keeps m name s (offered m name ty s now)
kept_in m name ty s now = by_name (find_row m name) refl
  where
    by_method : (i : ℕ) (row : RowState) → find_row m name ≡ Some i → slice_get m.rows i ≡ Some row → (d : Method) → row.about.method ≡ d → refused_by_row (Some (standing row)) (number_of ty) ≡ None → Keeps m name s (offered_to m i row ty s now)
    by_method i row found here Monitor is none =
        rw (none, is) (tried_is (λ o. Keeps m name s o) m row s now (record { answer = Kept; after = with_rows m (at i (gains s)) }) (λ reason bad. absurd cc) (λ bad. absurd cc)
        (λ late room_for told. record { place = i; row = row; found = found; here = here; is = refl }))
    by_method i row found here (Scan period) is none = rw (none, is) (λ bad. absurd cc)

    by_reason : (i : ℕ) (row : RowState) → find_row m name ≡ Some i → slice_get m.rows i ≡ Some row → (o : Option Reason) → refused_by_row (Some (standing row)) (number_of ty) ≡ o → Keeps m name s (offered_to m i row ty s now)
    by_reason i row found here (Some reason) is = rw is (λ bad. absurd cc)
    by_reason i row found here None is = by_method i row found here row.about.method refl is

    by_row : (i : ℕ) → (o : Option RowState) → slice_get m.rows i ≡ o → find_row m name ≡ Some i → Keeps m name s (offered m name ty s now)
    by_row i None none found = rw (found, none) (λ bad. absurd cc)
    by_row i (Some row) here found = rw (found, here) (by_reason i row found here (refused_by_row (Some (standing row)) (number_of ty)) refl)

    by_name : (o : Option ℕ) → find_row m name ≡ o → Keeps m name s (offered m name ty s now)
    by_name None is = rw is (λ bad. absurd cc)
    by_name (Some i) is = by_row i (slice_get m.rows i) refl is

-- THE HALF

number_up : (n : ℕ) (ks : List IntakeRow) (i : ℕ) (k : IntakeRow) → Ascends n ks → slice_get ks i ≡ Some k → n ≤ k.row
number_up n [] i k up here = absurd cc
number_up n (x ∷ ks) zero k up here = let same : x ≡ k = cc in subst (λ (y : IntakeRow). n ≤ y.row) same up.0
number_up n (x ∷ ks) (suc i) k up here = let low : n ≤ x.row = up.0 in let more = number_up (x.row + 1) ks i k up.1 here in omega arith

-- the row in a place is the one with its number, before and after
abbrev IsKeptAs : List IntakeRow → List RowState → IntakeRow → RowState → Type 0
IsKeptAs ks rows k row = (known_at ks k.row ≡ Some k) × (known_at (kept_rows ks rows) k.row ≡ Some (kept_row k row))

first_kept : (k : IntakeRow) (row : RowState) (ks : List IntakeRow) (rows : List RowState) → IsKeptAs (k ∷ ks) (row ∷ rows) k row
first_kept k row ks rows = let hit : (k.row == k.row) ≡ true = grind (arith, nat_tests) in (rw hit refl, rw hit refl)

kept_as : (n : ℕ) (ks : List IntakeRow) (rows : List RowState) (i : ℕ) (k : IntakeRow) (row : RowState) → Ascends n ks → slice_get ks i ≡ Some k → slice_get rows i ≡ Some row → IsKeptAs ks rows k row
kept_as n [] rows i k row up here there = absurd cc
kept_as n (x ∷ ks) [] i k row up here there = absurd cc
kept_as n (x ∷ ks) (y ∷ rows) zero k row up here there =
    let same : x ≡ k = cc in
    let own : y ≡ row = cc in
    subst (λ (w : IntakeRow). IsKeptAs (w ∷ ks) (y ∷ rows) k row) (sym same) (subst (λ (w : RowState). IsKeptAs (k ∷ ks) (w ∷ rows) k row) (sym own) (first_kept k row ks rows))
kept_as n (x ∷ ks) (y ∷ rows) (suc i) k row up here there =
    let rest = kept_as (x.row + 1) ks rows i k row up.1 here there in
    let low : x.row + 1 ≤ k.row = number_up (x.row + 1) ks i k up.1 here in
    let other : (x.row == k.row) ≡ false = grind (arith, nat_tests) in
    (rw other rest.0, rw other rest.1)

as_back : (ks : List IntakeRow) (i : ℕ) (row : RowState) → slice_get (map as_row ks) i ≡ Some row → (k : IntakeRow) × (slice_get ks i ≡ Some k) × (as_row k ≡ row)
as_back [] i row here = absurd cc
as_back (k ∷ ks) zero row here = let same : as_row k ≡ row = cc in (k, refl, same)
as_back (k ∷ ks) (suc i) row here = as_back ks i row here

-- the row with this name has the sample at the end of its tail
record TailGains (old new : IntakeHalf) (name : List ℕ) (s : Sample) : Type 0 where
  number : ℕ
  row : IntakeRow
  here : known_at old.rows number ≡ Some row
  named : row.name ≡ name
  tail_is : tail_at new.rows number ≡ tail_at old.rows number ++ s ∷ []

kept_step : {who : ℕ} {old new : IntakeHalf} {part : IntakePart} {answer : IntakeAnswer} → IntakeStep who old part answer new → Ascends 0 old.rows
    → (name : List ℕ) (ty : PayloadType) (x : Sample) (now : ℕ) → part ≡ Offers (Offer name ty x.t x.line now) → answer ≡ Replies Kept → TailGains old new name x
kept_step {who} {old} (offers after act reply of may step) up name ty x now asked said =
    let same : act ≡ Offer name ty x.t x.line now = cc in
    let told : reply ≡ Kept = cc in
    by_end (subst (λ (a : Act). Step who a (machine_of old) Kept after) same (subst (λ (y : Reply). Step who act (machine_of old) y after) told step))
  where
    by_end : OfferStep name ty x now (machine_of old) Kept after → TailGains old (intake_of old after) name x
    by_end (inl ends) =
        let k = kept_in (machine_of old) name ty x now (sym ends.0) in
        let b = as_back old.rows k.place k.row k.here in
        let plain : 0 + k.place ≡ k.place = omega arith in
        let hit : (k.place == k.place) ≡ true = grind (arith, nat_tests) in
        let own : at k.place (gains x) k.place k.row ≡ gains x k.row = rw hit refl in
        let rows : after.rows ≡ each (at k.place (gains x)) 0 (map as_row old.rows) = ap (λ (m : Machine). m.rows) (ends.1 ∙ k.is) in
        let there : slice_get after.rows k.place ≡ Some (gains x k.row) =
        ap (λ (w : List RowState). slice_get w k.place) rows ∙ (each_forward (at k.place (gains x)) 0 (map as_row old.rows) k.place k.row k.here ∙ (ap (λ (n : ℕ). Some (at k.place (gains x) n k.row)) plain ∙ ap (λ (w : RowState). Some w) own)) in
        let h = kept_as 0 old.rows after.rows k.place b.0 (gains x k.row) up b.1 there in
        let tail : k.row.tail ≡ tail_at old.rows b.0.row = sym (ap (λ (w : RowState). w.tail) b.2) ∙ sym (tail_known old.rows b.0.row b.0 h.0) in
        record {
          number = b.0.row;
          row = b.0;
          here = h.0;
          named = ap (λ (w : RowState). w.name) b.2 ∙ found_name (machine_of old) name k.place k.row k.found k.here;
          tail_is = tail_known (kept_rows old.rows after.rows) b.0.row (kept_row b.0 (gains x k.row)) h.1 ∙ ap (λ (w : List Sample). w ++ x ∷ []) tail;
        }
    by_end (inr lacks) = absurd (let bad = lacks.0 in cc)
kept_step (ticks after row then_at i reply a b) up name ty x now asked said = absurd cc
kept_step (no_row row then_at a) up name ty x now asked said = absurd cc
kept_step sees_doors up name ty x now asked said = absurd cc
kept_step (sees_batch limit a) up name ty x now asked said = absurd cc
kept_step (sees_row other) up name ty x now asked said = absurd cc
kept_step (takes ends rows) up name ty x now asked said = absurd cc
kept_step (takes_flush len ends rows) up name ty x now asked said = absurd cc
kept_step (lacks_memory other a) up name ty x now asked said = absurd cc

pub kept_is_accepted : KeptIsAccepted
kept_is_accepted s0 i0 s i p files ahead behind e is name ty x now asked said =
    let j = joined_of s0 i0 s i p.begins files (legal_of s0 i0 s i p) in
    let old = left_by i0 ahead in
    let k = kept_step (p.intake ahead behind e is).0 (j.joined.sounds ahead (e ∷ behind, is)).up name ty x now asked said in
    let gained : added e.part old e.after k.number ≡ x ∷ [] =
    ap (λ (q : IntakePart). added q old e.after k.number) asked ∙ (ap (λ (w : List Sample). drop (length (tail_at old.rows k.number)) w) k.tail_is ∙ drop_more (tail_at old.rows k.number) (x ∷ [])) in (
      k.number,
      k.row,
      k.here,
      k.named,
      accepted_more (first_accepted s0 i0) i0 ahead e k.number ∙ ap (λ (w : List Sample). accepted_by (first_accepted s0 i0) i0 ahead k.number ++ w) gained,
    )

-- WHAT IS ACCEPTED STAYS SO

accepted_first : (lists : Lists) (m : IntakeHalf) (h : List IntakeEntry) (r : ℕ) → IsPrefix (lists r) (accepted_by lists m h r)
accepted_first lists m [] r = prefix_same (lists r)
accepted_first lists m (e ∷ h) r =
    prefix_through (lists r) (lists r ++ added e.part m e.after r) (accepted_by lists m (e ∷ h) r) (added e.part m e.after r, refl) (accepted_first (λ k. lists k ++ added e.part m e.after k) e.after h r)

accepted_on : (lists : Lists) (m : IntakeHalf) (front back : List IntakeEntry) (r : ℕ) → IsPrefix (accepted_by lists m front r) (accepted_by lists m (front ++ back) r)
accepted_on lists m [] back r = accepted_first lists m back r
accepted_on lists m (e ∷ front) back r = accepted_on (λ k. lists k ++ added e.part m e.after k) e.after front back r

in_longer : (a b : List Sample) (x : Sample) → IsPrefix a b → Contains a x → Contains b x
in_longer a b x p has = subst (λ (w : List Sample). Contains w x) (sym p.1) (Contains-append_left a p.0 x has)

pub kept_is_durable : KeptIsDurable
kept_is_durable s0 i0 s i p files ahead e f early late kept cut name ty x now asked said =
    let there : i ≡ early ++ kept ∷ (late ++ f.look ∷ f.behind) = f.looks ∙ (ap (λ (w : List IntakeEntry). w ++ f.look ∷ f.behind) cut ∙ append_assoc early (kept ∷ late) (f.look ∷ f.behind)) in
    let k = kept_is_accepted s0 i0 s i p files early (late ++ f.look ∷ f.behind) kept there name ty x now asked said in
    let r : ℕ = k.0 in
    let first = first_accepted s0 i0 in
    let at_end : Contains (accepted_by first i0 (early ++ kept ∷ []) r) x = subst (λ (w : List Sample). Contains w x) (sym k.4) (Contains-push (accepted_by first i0 early r) x) in
    let front : ahead ≡ (early ++ kept ∷ []) ++ late = cut ∙ sym (append_assoc early (kept ∷ []) late) in
    let grows : IsPrefix (accepted_by first i0 (early ++ kept ∷ []) r) (accepted_by first i0 ahead r)
    = subst (λ (w : List IntakeEntry). IsPrefix (accepted_by first i0 (early ++ kept ∷ []) r) (accepted_by first i0 w r)) (sym front) (accepted_on first i0 (early ++ kept ∷ []) late r) in
    let at_look = in_longer (accepted_by first i0 (early ++ kept ∷ []) r) (accepted_by first i0 ahead r) x grows at_end in
    let flushed = in_longer (accepted_by first i0 ahead r) (durable_at e.after.rows r) x (reported_is_durable s0 i0 s i p files ahead e f r) at_look in
    let j = joined_of s0 i0 s i p.begins files (legal_of s0 i0 s i p) in
    let stays = j.grown.durable (f.front ++ e ∷ []) (f.back, f.is ∙ sym (append_assoc f.front (e ∷ []) f.back)) r in
    let after : durable_at (left_by s0 (f.front ++ e ∷ [])).rows r ≡ durable_at e.after.rows r = ap (λ (m : StoreHalf). durable_at m.rows r) (left_by_more s0 f.front e) in
    let last = in_longer (durable_at (left_by s0 (f.front ++ e ∷ [])).rows r) (durable_at (left_by s0 s).rows r) x stays (subst (λ (w : List Sample). Contains w x) (sym after) flushed) in
    (r, k.1, k.2, k.3, flushed, last)
