-- What the store's and the intake's answers tell.
use Rattle.std.proofs.Common.{◌≡◌, ℕ, ◌+◌, List, [], ◌∷◌, ◌++◌, Some, Bool, true, false, cond, suc, refl, ap, sym, ◌∙◌, arith}
use Rattle.std.specs.Prelude.{◌-◌, slice_get, nat_lt}
use Rattle.series_model.specs.declared.batch.RowSamples.{RowSamples}
use Rattle.series_model.specs.Series.{end_of}
use Rattle.act_model.specs.declared.acts.Answer.TheVariants.{Flushed}
use Rattle.act_model.specs.Machine.{held_bytes}
use Rattle.act_model.specs.Reply.{Reply}
use Rattle.two_histories.specs.ArchiveIntake.{IntakeHalf, RowLook, look_at, known_as, machine_of, batch_of, bytes_in}
use Rattle.two_histories.specs.IntakeStep.{IntakePart, LooksAt, IntakeAnswer, SawBatch, SawRow, IntakeStep, offers, ticks, no_row, sees_doors, sees_batch, sees_row, takes, takes_flush, lacks_memory}
use Rattle.two_histories.specs.ArchiveStore.{StoreHalf, StoreRow, RegisteredRow, registered, changed_since, durable_at}
use Rattle.two_histories.specs.StoreStep.{StorePart, Does, BeginsMove, Flushes, PinsAt, DescribesAt, RenamesAt, StoreAnswer, Stored, StoreStep, answer_of, ends_in, ends_by}
use Rattle.two_histories.proofs.Batches.{ends_are}
use Rattle.two_histories.proofs.Durables.{in_left_rows}

-- what a flush that is done tells
pub record FlushTold (new : StoreHalf) (by ends : ℕ → ℕ) (rows : List RegisteredRow) : Type 0 where
  pub upto : ℕ
  pub ends_is : ends ≡ by
  pub rows_is : rows ≡ changed_since upto 0 new.rows

told_flush : (n : ℕ) (batch : List RowSamples) (upto left doors : ℕ) (by : ℕ → ℕ) (new : StoreHalf) (reply : Reply) (told : Reply) (ends : ℕ → ℕ) (rows : List RegisteredRow) (len : ℕ) → answer_of (Flushes batch upto left doors) n by new reply ≡ Stored told ends rows len → FlushTold new by ends rows
told_flush n batch upto left doors by new (Flushed samples bytes doors_left) told ends rows len is =
    record { upto = upto; ends_is = (let same : by ≡ ends = cc in sym same); rows_is = (let same : changed_since upto 0 new.rows ≡ rows = cc in sym same) }
told_flush n batch upto left doors by new other told ends rows len is = absurd cc

told_by : (n : ℕ) (part : StorePart) (by : ℕ → ℕ) (new : StoreHalf) (reply : Reply) (told : Reply) (ends : ℕ → ℕ) (rows : List RegisteredRow) (len : ℕ) → answer_of part n by new reply ≡ Stored told ends rows len → FlushTold new by ends rows
told_by n (Does act) by new reply told ends rows len is = absurd cc
told_by n (BeginsMove store now doors) by new reply told ends rows len is = absurd cc
told_by n (Flushes batch upto left doors) by new reply told ends rows len is = told_flush n batch upto left doors by new reply told ends rows len is
told_by n (PinsAt query look) by new reply told ends rows len is = absurd cc
told_by n (DescribesAt look) by new reply told ends rows len is = absurd cc
told_by n (RenamesAt newname look) by new reply told ends rows len is = absurd cc

-- the rows that are told, and where files are told also where each row ends
pub store_told : {who n : ℕ} {old new : StoreHalf} {part : StorePart} {answer : StoreAnswer} → StoreStep who n old part answer new → (told : Reply) (ends : ℕ → ℕ) (rows : List RegisteredRow) (len : ℕ) → answer ≡ Stored told ends rows len
    → (old.told ≡ true → (i : ℕ) → ends i ≡ end_of (durable_at new.rows i)) × ((upto : ℕ) × (rows ≡ changed_since upto 0 new.rows))
store_told {n = n} {old = old} {new = new} {part = part} step told ends rows len is =
    let t = told_by n part (ends_by old.told step.ends step.after.rows) new step.reply told ends rows len (sym step.answered ∙ is) in (
      λ files i.
          let own : ends ≡ ends_in step.after.rows = t.ends_is ∙ ap (λ (b : Bool). ends_by b step.ends step.after.rows) files in
          ap (λ (f : ℕ → ℕ). f i) own ∙ (ends_are step.after.rows i ∙ ap end_of (sym (in_left_rows n old.rows 0 step.after.rows i) ∙ ap (λ (m : StoreHalf). durable_at m.rows i) (sym step.left))),
      (t.upto, t.rows_is),
    )

-- a row that is told is there
pub told_row : (upto k : ℕ) (rows : List StoreRow) (front back : List RegisteredRow) (reg : RegisteredRow) → changed_since upto k rows ≡ front ++ reg ∷ back → (i : ℕ) × (row : StoreRow) × (slice_get rows i ≡ Some row) × (registered (k + i) row ≡ reg)
told_row upto k [] [] back reg is = absurd cc
told_row upto k [] (x ∷ front) back reg is = absurd cc
told_row upto k (row ∷ rows) front back reg is = by_test (nat_lt upto row.changed) front is (λ f w. told_row upto (k + 1) rows f back reg w)
  where
    later : ((i : ℕ) × (row : StoreRow) × (slice_get rows i ≡ Some row) × (registered ((k + 1) + i) row ≡ reg)) → (i : ℕ) × (other : StoreRow) × (slice_get (row ∷ rows) i ≡ Some other) × (registered (k + i) other ≡ reg)
    later x = let next : k + suc x.0 ≡ (k + 1) + x.0 = omega arith in (suc x.0, x.1, x.2, ap (λ n. registered n x.1) next ∙ x.3)

    by_test : (b : Bool) (front : List RegisteredRow) → cond b (registered k row ∷ changed_since upto (k + 1) rows) (changed_since upto (k + 1) rows) ≡ front ++ reg ∷ back
        → ((f : List RegisteredRow) → changed_since upto (k + 1) rows ≡ f ++ reg ∷ back → (i : ℕ) × (other : StoreRow) × (slice_get rows i ≡ Some other) × (registered ((k + 1) + i) other ≡ reg))
        → (i : ℕ) × (other : StoreRow) × (slice_get (row ∷ rows) i ≡ Some other) × (registered (k + i) other ≡ reg)
    by_test true [] is more = let first : registered k row ≡ reg = cc in let plain : k + 0 ≡ k = omega arith in (0, row, refl, ap (λ n. registered n row) plain ∙ first)
    by_test true (x ∷ front) is more = let rest : changed_since upto (k + 1) rows ≡ front ++ reg ∷ back = cc in later (more front rest)
    by_test false front is more = later (more front is)

-- what a Look at a batch tells
pub record BatchTold (old : IntakeHalf) (batch : List RowSamples) (left : ℕ) : Type 0 where
  pub limit : ℕ
  pub batch_is : batch ≡ batch_of limit old
  pub left_is : left ≡ held_bytes (machine_of old).rows - bytes_in (batch_of limit old)

-- what a Look at a row tells
pub look_told : {who : ℕ} {old new : IntakeHalf} {part : IntakePart} {answer : IntakeAnswer} → IntakeStep who old part answer new → (name : List ℕ) (doors : ℕ) (look : RowLook) → part ≡ LooksAt name → answer ≡ SawRow doors look → look ≡ look_at name (known_as old.rows name)
look_told (offers after act reply a b c) name doors look part is = absurd cc
look_told (ticks after row now i reply a b) name doors look part is = absurd cc
look_told (no_row row now a) name doors look part is = absurd cc
look_told sees_doors name doors look part is = absurd cc
look_told (sees_batch limit a) name doors look part is = absurd cc
look_told {old = old} (sees_row other) name doors look part is =
    let same : other ≡ name = cc in let told : look_at other (known_as old.rows other) ≡ look = cc in sym told ∙ ap (λ w. look_at w (known_as old.rows w)) same
look_told (takes ends rows) name doors look part is = absurd cc
look_told (takes_flush len ends rows) name doors look part is = absurd cc
look_told (lacks_memory other a) name doors look part is = absurd cc

pub batch_told : {who : ℕ} {old new : IntakeHalf} {part : IntakePart} {answer : IntakeAnswer} → IntakeStep who old part answer new → (doors : ℕ) (batch : List RowSamples) (left upto : ℕ) → answer ≡ SawBatch doors batch left upto → BatchTold old batch left
batch_told (offers after act reply a b c) doors batch left upto is = absurd cc
batch_told (ticks after row now i reply a b) doors batch left upto is = absurd cc
batch_told (no_row row now a) doors batch left upto is = absurd cc
batch_told sees_doors doors batch left upto is = absurd cc
batch_told {old = old} (sees_batch limit a) doors batch left upto is =
    record { limit = limit; batch_is = (let same : batch_of limit old ≡ batch = cc in sym same); left_is = (let same : held_bytes (machine_of old).rows - bytes_in (batch_of limit old) ≡ left = cc in sym same) }
batch_told (sees_row name) doors batch left upto is = absurd cc
batch_told (takes ends rows) doors batch left upto is = absurd cc
batch_told (takes_flush len ends rows) doors batch left upto is = absurd cc
batch_told (lacks_memory other a) doors batch left upto is = absurd cc
