-- What a step of either half keeps.
use Rattle.std.proofs.Common.{◌≡◌, ℕ, ◌≤◌, List, [], ◌∷◌, ◌++◌, Option, Some, None, Bool, true, false, refl, ap, sym, ◌∙◌, subst, arith}
use Rattle.std.specs.Prelude.{◌⊎◌, ◌==◌, if◌then◌else◌}
use Rattle.std.proofs.lemmas.Bool.Decides.{nat_tests}
use Rattle.series_model.specs.declared.sample.Sample.{Sample}
use Rattle.series_model.specs.Series.{IsRising, end_of, since, over}
use Rattle.series_model.specs.Archive.{IsPrefix}
use Rattle.series_model.proofs.RisingLists.{rises_more, since-since}
use Rattle.two_histories.specs.Histories.{left_by}
use Rattle.two_histories.specs.Store.{Lists, Numbers, StoreHalf, StoreChange, Appends, Alters, made, written, Settles, no_doubt, as_not_made, as_made, change_by, StorePart, Flush, Alter, Pin, Rest, StoreAnswer, Flushed, StoreStep, stays, settles, fails, flushes, alters, pins, rests}
use Rattle.two_histories.specs.Store.{ends_of}
use Rattle.two_histories.specs.Intake.{IntakeHalf, IntakeEntry, IntakePart, Offer, Look, LookAt, Take, TakeFlush, IntakeAnswer, Looked, LookedAt, IntakeStep, refuses, keeps, looks, looks_at, takes, takes_flush, with_more}
use Rattle.two_histories.proofs.Lists.{prefix_same, prefix_through, IsTail, tail_trimmed, tail_more}
use Rattle.two_histories.proofs.Halves.{Agrees, MayAppend, DoubtAgrees, agrees_more}

-- THE STORE

module _ (i0 : IntakeHalf) (i : List IntakeEntry) where
  abbrev accepted : Lists
  accepted = (left_by i0 i).accepted

  -- what a step leaves
  pub record StoreKeeps (old new : StoreHalf) : Type 0 where
    pub agrees : Agrees new.durable i0 i
    pub doubted : DoubtAgrees new accepted
    pub grows : (r : ℕ) → IsPrefix (old.durable r) (new.durable r)

  -- a step that settles a doubt leaves none
  pub record Settled (old mid : StoreHalf) : Type 0 where
    pub agrees : Agrees mid.durable i0 i
    pub none : mid.doubt ≡ None
    pub grows : (r : ℕ) → IsPrefix (old.durable r) (mid.durable r)

  no_batch : (m : StoreHalf) → m.doubt ≡ None → DoubtAgrees m accepted
  no_batch m none batch is = absurd cc

  appended : (m : StoreHalf) (batch : Lists) → Agrees m.durable i0 i → MayAppend m.durable batch accepted → Agrees (λ r. over (m.durable r) (batch r)) i0 i
  appended m batch a may = agrees_more m.durable (λ r. over (m.durable r) (batch r)) i0 i a (λ r. (since (end_of (m.durable r)) (batch r), refl)) may

  settled_as_made : (n : ℕ) (m : StoreHalf) (change : StoreChange) → m.doubt ≡ Some change → Agrees m.durable i0 i → DoubtAgrees m accepted → Settled m (record (made n change m) { doubt = None })
  settled_as_made n m (Appends batch) is a d = record { agrees = appended m batch a (d batch is); none = refl; grows = λ r. (since (end_of (m.durable r)) (batch r), refl) }
  settled_as_made n m (Alters rows) is a d = record { agrees = a; none = refl; grows = λ r. prefix_same (m.durable r) }

  pub settled : {n : ℕ} {old mid : StoreHalf} → Settles n old mid → Agrees old.durable i0 i → DoubtAgrees old accepted → Settled old mid
  settled (no_doubt {m = m} none) a d = record { agrees = a; none = none; grows = λ r. prefix_same (m.durable r) }
  settled (as_not_made {m = m} change is) a d = record { agrees = a; none = refl; grows = λ r. prefix_same (m.durable r) }
  settled {n = n} (as_made {m = m} change is) a d = settled_as_made n m change is a d

  -- what a flush carries may be appended to all that agrees
  abbrev pub Carries : StorePart → Type 0
  Carries (Flush batch upto) = (durable : Lists) → Agrees durable i0 i → MayAppend durable batch accepted
  Carries (Alter rows) = Unit {0}
  Carries (Pin row tail) = Unit {0}
  Carries Rest = Unit {0}

  own_change : (part : StorePart) (batch : Lists) → change_by part ≡ Some (Appends batch) → Carries part → (durable : Lists) → Agrees durable i0 i → MayAppend durable batch accepted
  own_change (Flush batch' upto) batch is c durable a = let same : batch' ≡ batch = cc in subst (λ w. MayAppend durable w accepted) same (c durable a)
  own_change (Alter rows) batch is c durable a = absurd cc
  own_change (Pin row tail) batch is c durable a = absurd cc
  own_change Rest batch is c durable a = absurd cc

  -- what is written of a batch may be appended where the batch may
  written_may : (m : StoreHalf) (change : StoreChange) (part : StorePart) → change_by part ≡ Some change → Carries part → Agrees m.durable i0 i → (batch : Lists) → Some (written change m) ≡ Some (Appends batch) → MayAppend m.durable batch accepted
  written_may m (Appends whole) part by c a batch is = λ r.
      let n = end_of (m.durable r) in
      let same : (λ (k : ℕ). since (end_of (m.durable k)) (whole k)) ≡ batch = cc in
      let own : IsPrefix (m.durable r ++ since n (whole r)) (accepted r) = own_change part whole by c m.durable a r in
      subst (λ (f : Lists). IsPrefix (over (m.durable r) (f r)) (accepted r)) same (subst (λ (w : List Sample). IsPrefix (m.durable r ++ w) (accepted r)) (sym (since-since n n (whole r) (omega arith))) own)
  written_may m (Alters rows) part by c a batch is = absurd cc

  pub store_keeps : {n : ℕ} {old new : StoreHalf} {part : StorePart} {answer : StoreAnswer} → StoreStep n old part answer new → Carries part → Agrees old.durable i0 i → DoubtAgrees old accepted → StoreKeeps old new
  store_keeps {old = old} stays c a d = record { agrees = a; doubted = d; grows = λ r. prefix_same (old.durable r) }
  store_keeps {new = new} (settles s) c a d = let mid = settled s a d in record { agrees = mid.agrees; doubted = no_batch new mid.none; grows = mid.grows }
  store_keeps {part = part} (fails {mid = m} change by s) c a d =
      let mid = settled s a d in
      record { agrees = mid.agrees; doubted = λ batch is. written_may m change part by c mid.agrees batch is; grows = mid.grows }
  store_keeps {old = old} (flushes {mid = m} batch upto s) c a d =
      let mid = settled s a d in
      record {
        agrees = appended m batch mid.agrees (c m.durable mid.agrees);
        doubted = λ b is. no_batch (made 0 (Appends batch) m) mid.none b is;
        grows = λ r. prefix_through (old.durable r) (m.durable r) (over (m.durable r) (batch r)) (mid.grows r) (since (end_of (m.durable r)) (batch r), refl);
      }
  store_keeps (alters {mid = m} rows s) c a d = let mid = settled s a d in record { agrees = mid.agrees; doubted = λ b is. no_batch (made 0 (Alters rows) m) mid.none b is; grows = mid.grows }
  store_keeps {new = new} (pins row tail s) c a d = let mid = settled s a d in record { agrees = mid.agrees; doubted = no_batch new mid.none; grows = mid.grows }
  store_keeps {new = new} (rests s) c a d = let mid = settled s a d in record { agrees = mid.agrees; doubted = no_batch new mid.none; grows = mid.grows }

-- the ends that a flush tells
pub ends_told : {n : ℕ} {old new : StoreHalf} {part : StorePart} {answer : StoreAnswer} → StoreStep n old part answer new → (ends : ℕ → ℕ) (rows : Numbers) (len : ℕ) → answer ≡ Flushed ends rows len → (r : ℕ) → ends r ≡ end_of (new.durable r)
ends_told stays ends rows len is r = absurd cc
ends_told (settles s) ends rows len is r = absurd cc
ends_told (fails change by s) ends rows len is r = absurd cc
ends_told (flushes {mid = m} batch upto s) ends rows len is r = let same : ends_of (made 0 (Appends batch) m) ≡ ends = cc in sym (ap (λ (f : ℕ → ℕ). f r) same)
ends_told (alters row s) ends rows len is r = absurd cc
ends_told (pins row tail s) ends rows len is r = absurd cc
ends_told (rests s) ends rows len is r = absurd cc

-- THE INTAKE

-- what a step leaves of a row
pub record RowKeeps (durable accepted new_accepted new_tail : List Sample) : Type 0 where
  pub grows : IsPrefix accepted new_accepted
  pub rising : IsRising new_accepted
  pub is_tail : IsTail durable new_accepted new_tail

-- the ends that a Take names are those of what is durable
abbrev pub Named : Lists → IntakePart → Type 0
Named durable (Offer row s) = Unit {0}
Named durable Look = Unit {0}
Named durable (LookAt row) = Unit {0}
Named durable (Take ends rows) = (r : ℕ) → ends r ≤ end_of (durable r)
Named durable (TakeFlush len ends rows) = (r : ℕ) → ends r ≤ end_of (durable r)

same_row : (durable accepted tail : List Sample) → IsRising accepted → IsTail durable accepted tail → RowKeeps durable accepted accepted tail
same_row durable accepted tail rises t = record { grows = prefix_same accepted; rising = rises; is_tail = t }

more_row : (durable accepted tail : List Sample) (s : Sample) → end_of accepted ≤ s.t → IsRising accepted → IsTail durable accepted tail → RowKeeps durable accepted (accepted ++ s ∷ []) (tail ++ s ∷ [])
more_row durable accepted tail s late rises t = record { grows = (s ∷ [], refl); rising = (rises_more accepted s).1 (rises, late); is_tail = tail_more durable accepted tail s t }

trimmed_row : (durable accepted tail : List Sample) (n : ℕ) → n ≤ end_of durable → IsRising accepted → IsTail durable accepted tail → RowKeeps durable accepted accepted (since n tail)
trimmed_row durable accepted tail n low rises t = record { grows = prefix_same accepted; rising = rises; is_tail = tail_trimmed durable accepted tail n low rises t }

kept_row : (old : IntakeHalf) (durable : List Sample) (row : ℕ) (s : Sample) (r : ℕ) → end_of (old.accepted row) ≤ s.t → IsRising (old.accepted r) → IsTail durable (old.accepted r) (old.tail r) → RowKeeps durable (old.accepted r) (with_more row s old.accepted r) (with_more row s old.tail r)
kept_row old durable row s r late rises t = by_test (r == row) refl
  where
    by_test : (b : Bool) → (r == row) ≡ b → RowKeeps durable (old.accepted r) (if b then old.accepted r ++ s ∷ [] else old.accepted r) (if b then old.tail r ++ s ∷ [] else old.tail r)
    by_test true is =
        let same : row ≡ r = grind (arith, nat_tests) in
        more_row durable (old.accepted r) (old.tail r) s (subst (λ k. end_of (old.accepted k) ≤ s.t) same late) rises t
    by_test false is = same_row durable (old.accepted r) (old.tail r) rises t

pub intake_keeps : {old new : IntakeHalf} {part : IntakePart} {answer : IntakeAnswer} → IntakeStep old part answer new → (durable : Lists) → Named durable part
    → (r : ℕ) → IsRising (old.accepted r) → IsTail (durable r) (old.accepted r) (old.tail r) → RowKeeps (durable r) (old.accepted r) (new.accepted r) (new.tail r)
intake_keeps {old = old} refuses durable named r rises t = same_row (durable r) (old.accepted r) (old.tail r) rises t
intake_keeps {old = old} (keeps row number s there late) durable named r rises t = kept_row old (durable r) row s r late rises t
intake_keeps {old = old} (looks batch left whole all) durable named r rises t = same_row (durable r) (old.accepted r) (old.tail r) rises t
intake_keeps {old = old} (looks_at row) durable named r rises t = same_row (durable r) (old.accepted r) (old.tail r) rises t
intake_keeps {old = old} (takes ends rows) durable named r rises t = trimmed_row (durable r) (old.accepted r) (old.tail r) (ends r) (named r) rises t
intake_keeps {old = old} (takes_flush len ends rows) durable named r rises t = trimmed_row (durable r) (old.accepted r) (old.tail r) (ends r) (named r) rises t

-- a batch that a Look tells is of whole tails, of all where none are left
pub batch_told : {old new : IntakeHalf} {part : IntakePart} {answer : IntakeAnswer} → IntakeStep old part answer new → (batch : Lists) (left upto : ℕ) → answer ≡ Looked batch left upto → (r : ℕ) → (batch r ≡ old.tail r) ⊎ (batch r ≡ [])
batch_told refuses batch left upto is r = absurd cc
batch_told (keeps row number s there late) batch left upto is r = absurd cc
batch_told {old = old} (looks told left' whole all) batch left upto is r = let same : told ≡ batch = cc in subst (λ (w : Lists). (w r ≡ old.tail r) ⊎ (w r ≡ [])) same (whole r)
batch_told (looks_at row) batch left upto is r = absurd cc
batch_told (takes ends rows) batch left upto is r = absurd cc
batch_told (takes_flush len ends rows) batch left upto is r = absurd cc

pub whole_told : {old new : IntakeHalf} {part : IntakePart} {answer : IntakeAnswer} → IntakeStep old part answer new → (batch : Lists) (left upto : ℕ) → answer ≡ Looked batch left upto → left ≡ 0 → (r : ℕ) → batch r ≡ old.tail r
whole_told refuses batch left upto is none r = absurd cc
whole_told (keeps row number s there late) batch left upto is none r = absurd cc
whole_told {old = old} (looks told left' whole all) batch left upto is none r =
    let same : told ≡ batch = cc in let none' : left' ≡ 0 = cc in subst (λ (w : Lists). w r ≡ old.tail r) same (all none' r)
whole_told (looks_at row) batch left upto is none r = absurd cc
whole_told (takes ends rows) batch left upto is none r = absurd cc
whole_told (takes_flush len ends rows) batch left upto is none r = absurd cc

pub tail_told : {old new : IntakeHalf} {part : IntakePart} {answer : IntakeAnswer} → IntakeStep old part answer new → (row : ℕ) (tail : List Sample) (number : Option ℕ) → part ≡ LookAt row → answer ≡ LookedAt tail number → tail ≡ old.tail row
tail_told refuses row tail number asks is = absurd cc
tail_told (keeps row' number' s there late) row tail number asks is = absurd cc
tail_told (looks told left' whole all) row tail number asks is = absurd cc
tail_told {old = old} (looks_at row') row tail number asks is = let same : row' ≡ row = cc in let told : old.tail row' ≡ tail = cc in sym told ∙ ap old.tail same
tail_told (takes ends rows) row tail number asks is = absurd cc
tail_told (takes_flush len ends rows) row tail number asks is = absurd cc
