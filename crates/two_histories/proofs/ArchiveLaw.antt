-- What holds of every closed legal pair.
use Rattle.std.proofs.Common.{◌≡◌, ℕ, zero, suc, List, [], ◌∷◌, ◌++◌, Some, true, ap, sym, ◌∙◌, subst, arith}
use Rattle.std.specs.Prelude.{slice_get}
use Rattle.closed_pairs.proofs.Legal.{legal_joint, legal_at, holds_along}
use Rattle.series_model.specs.Archive.{IsPrefix}
use Rattle.series_model.specs.Series.{IsRising, over}
use Rattle.series_model.proofs.OverLemmas.{over_front}
use Rattle.act_model.specs.Changes.{of_row}
use Rattle.two_histories.specs.Histories.{left_by}
use Rattle.two_histories.proofs.Lists.{IsTail, prefix_same, prefix_shorter, tail_over, tail_longer, has_later}
use Rattle.two_histories.specs.ArchiveIntake.{IntakeHalf}
use Rattle.two_histories.specs.IntakeStep.{IntakeEntry, told_rows}
use Rattle.two_histories.specs.ArchiveLaws.{StoreStaysSound, NothingIsLost, BasesAreDurable, NamesStayApart, ReportedIsDurable}
use Rattle.two_histories.specs.ArchiveStore.{RegisteredRow, StoreHalf, doubted, machine_of as store_machine}
use Rattle.two_histories.specs.StoreStep.{StoreEntry}
use Rattle.two_histories.specs.ArchiveHistories.{BeginTogether, StoreFits, IntakeFits, store_knows, intake_knows, IsPair}
use Rattle.two_histories.proofs.Batches.{BatchFits}
use Rattle.two_histories.proofs.Beginning.{begun}
use Rattle.two_histories.proofs.Closing.{is_base}
use Rattle.two_histories.proofs.Idle.{one_name}
use Rattle.two_histories.proofs.ArchiveJoined.{A, T, D, Legal, IsJoined}
use Rattle.two_histories.proofs.IntakeMore.{ToldRow, intake_more, told_of}
use Rattle.two_histories.proofs.Looking.{batch_whole}
use Rattle.two_histories.proofs.Stepping.{batch_of_part, flush_stored, half_row, half_forth}
use Rattle.two_histories.proofs.StoreMore.{store_more, seen_of, fits_of, settled_at}
use Rattle.two_histories.proofs.Telling.{batch_told}

pub legal_of : (s0 : StoreHalf) (i0 : IntakeHalf) (s : List StoreEntry) (i : List IntakeEntry) → IsPair s0 i0 s i → Legal s0 i0 s i
legal_of s0 i0 s i p = legal_joint store_knows intake_knows (StoreFits s0) (IntakeFits s0 i0) s i p.closed p.store p.intake

first_joined : (s0 : StoreHalf) (i0 : IntakeHalf) → BeginTogether s0 i0 → s0.told ≡ true → IsJoined s0 i0 [] []
first_joined s0 i0 b t =
    subst (λ (x : StoreHalf × IntakeHalf). IsJoined x.0 x.1 [] []) (λ k. (sym b.store k, sym b.intake k)) (begun b.state b.sound (sym (ap (λ (m : StoreHalf). m.told) b.store) ∙ t))

pub joined_of : (s0 : StoreHalf) (i0 : IntakeHalf) (s : List StoreEntry) (i : List IntakeEntry) → BeginTogether s0 i0 → s0.told ≡ true → Legal s0 i0 s i → IsJoined s0 i0 s i
joined_of s0 i0 s i b t l = holds_along store_knows intake_knows (StoreFits s0) (IntakeFits s0 i0) (λ s i. IsJoined s0 i0 s i) (first_joined s0 i0 b t) (store_more s0 i0) (intake_more s0 i0) s i l

pub store_stays_sound : StoreStaysSound
store_stays_sound s0 i0 s i p t = (joined_of s0 i0 s i p.begins t (legal_of s0 i0 s i p)).joined.sound

pub nothing_is_lost : NothingIsLost
nothing_is_lost s0 i0 s i p t r =
    let j = (joined_of s0 i0 s i p.begins t (legal_of s0 i0 s i p)).joined in
    let at = j.at r in
    let durable = D s0 i0 s r in
    let accepted = A s0 i0 i r in
    let tail = T s0 i0 i r in
    let own : IsTail durable accepted tail = (at.each i (prefix_same i)).is_tail in
    let rises : IsRising (durable ++ at.flushed.0) = subst IsRising at.flushed.1 (j.rising r) in
    record {
      flushed = at.flushed;
      suffix = own.suffix;
      later = has_later durable accepted tail own;
      joined = tail_over durable accepted tail own ∙ (ap (λ w. over durable w) at.flushed.1 ∙ (over_front durable at.flushed.0 rises ∙ sym at.flushed.1));
    }

-- where a row stands that is told
cut_at : (rows : List RegisteredRow) (k : ℕ) (reg : RegisteredRow) → slice_get rows k ≡ Some reg → (front : List RegisteredRow) × (back : List RegisteredRow) × (rows ≡ front ++ reg ∷ back)
cut_at [] k reg here = absurd cc
cut_at (x ∷ rows) zero reg here = let same : x ≡ reg = cc in ([], rows, ap (λ (y : RegisteredRow). y ∷ rows) same)
cut_at (x ∷ rows) (suc k) reg here = let rest = cut_at rows k reg here in (x ∷ rest.0, rest.1, ap (λ (ys : List RegisteredRow). x ∷ ys) rest.2)

pub names_stay_apart : NamesStayApart
names_stay_apart s0 i0 s i p t part n allowed =
    let l = legal_of s0 i0 s i p in
    let j = joined_of s0 i0 s i p.begins t l in
    let told : (k : ℕ) (reg : RegisteredRow) → slice_get (told_rows part) k ≡ Some reg → ToldRow s0 i0 s reg = λ k reg at. let cut = cut_at (told_rows part) k reg at in told_of s0 i0 s i n part l j allowed reg cut.0 cut.1 cut.2 in
    record {
      known_ones = λ r k row reg here at same.
          let own = j.joined.knows i (prefix_same i) r row here in
          let other = told k reg at in
          one_name (left_by s0 s) j.joined.sound r reg.row own.0 other.row own.1 other.here (own.2.1 ∙ (same ∙ sym other.same.1));
      told_ones = λ k h one other at there same.
          let first = told k one at in
          let second = told h other there in
          one_name (left_by s0 s) j.joined.sound one.row other.row first.row second.row first.here second.here (first.same.1 ∙ (same ∙ sym second.same.1));
    }

pub bases_are_durable : BasesAreDurable
bases_are_durable s0 i0 s i p t k row b here base =
    let j = joined_of s0 i0 s i p.begins t (legal_of s0 i0 s i p) in
    let m = left_by s0 s in
    (j.closed b (is_base (record { at = k; row = half_row (doubted m.doubt) m.rows k row; here = half_forth (doubted m.doubt) m.rows k row here; base = base }))).all

pub reported_is_durable : ReportedIsDurable
reported_is_durable s0 i0 s i p t ahead e f r =
    let front = f.front in
    let batch = f.batch in
    let low = f.known in
    let at = legal_at store_knows intake_knows (StoreFits s0) (IntakeFits s0 i0) s i (legal_of s0 i0 s i p) front f.back e f.is in
    let first = at.first in
    let within = at.low in
    let joined = joined_of s0 i0 front first p.begins t at.pair in
    let j = joined.joined in
    let there : IsPrefix ahead first = prefix_shorter ahead first i (f.look ∷ f.behind, f.looks) (at.rest, at.is) (omega arith) in
    let told = batch_told (p.intake ahead f.behind f.look f.looks).0 f.doors batch 0 f.upto f.saw in
    let left = told.left_is in
    let all : of_row r batch ≡ T s0 i0 ahead r = ap (λ b. of_row r b) told.batch_is ∙ batch_whole told.limit 0 r (left_by i0 ahead).rows 0 (j.sounds ahead there).up (omega arith) in
    let old = left_by s0 front in
    let seen = seen_of s0 i0 front first e.other e.part at.pair j at.fit.1 in
    let fits = subst (λ b. BatchFits (store_machine 0 old).rows old.doubt (batch_of_part b)) f.part (fits_of s0 i0 old first (batch_of_part e.part) j (λ k c. (joined.closed k c).all) seen) in
    let done = flush_stored at.fit.0 batch f.upto 0 f.doors f.part f.reply f.ends f.rows f.len f.done j.sound j.told fits in
    let mid = done.mid r in
    let now = (settled_at s0 i0 old first done.mid r j (done.settled r)).1 in
    let was = now.each ahead there in
    let longer = tail_longer mid (A s0 i0 ahead r) (T s0 i0 ahead r) (A s0 i0 first r) (j.rising r) now.flushed was.prefix was.is_tail in
    subst (λ w. IsPrefix (A s0 i0 ahead r) w) (sym (done.all r ∙ ap (λ w. over mid w) all)) longer.other
