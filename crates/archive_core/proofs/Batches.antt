-- A batch that is flushed: what it has of the machine's rows, and that the stores can take it; and what acts leave of strays.
use Rattle.std.proofs.Common.{◌≡◌, ◌≢◌, ◌⊎◌, inl, inr, Bool, true, false, ℕ, List, [], Option, None, Some, refl, sym, ◌∙◌, ap, subst, arith, Ok, Err, Result, suc, ◌+◌, ◌<◌, ◌≤◌, ◌∷◌, ◌++◌, length, cond, length-append, zero, zero-add, ◌-◌, take, get_or, max, append-nil, append_assoc}
use Rattle.std.proofs.lemmas.Bool.Decides.{nat_tests}
use Rattle.std.specs.Prelude.{◌==◌, Contains, IfOk, if◌then◌else◌, OnOk, ◌&&◌, slice_get, nat_eq, nat_le, All, IsTrue, IfSome, filter, option_map, ◌↔◌}
use Rattle.std.proofs.lemmas.Option.{same_Some, slice_get_within, get_or_from_slice_get}
use Rattle.disk_model.specs.Files.{Name, Files}
use Rattle.disk_model.specs.declared.disk.DiskErr.{DiskErr}
use Rattle.disk_model.specs.declared.disk.DiskErr.TheVariants.{Fault, Memory}
use Rattle.etl_mover.specs.declared.moving.Stage.TheVariants.{Copying}
use Rattle.durable_write.proofs.Staying.{same_cases}
use Rattle.moves.specs.declared.table.Running.{Running}
use Rattle.tier_store.specs.Pinned.{SeenAll}
use Rattle.tier_store.specs.Seen.{IsSettled, Seen}
use Rattle.tier_store.specs.Strays.{IsKnownName, IsStray, LeavesNoStray, MakesNoStray, SweepsFiles, targets}
use Rattle.tier_store.specs.declared.removing.StoreSwept.{StoreSwept}
use Rattle.tier_store.proofs.Strays.{fronts_strays, no_strays}
use Rattle.act_model.specs.Reply.{reply_of}
use Rattle.intake_half.proofs.Telling.{since_start}
use Rattle.archive_core.specs.Ends.{disk_reply}
use Rattle.archive_core.specs.Leaving.{ReadsAlone, files_of}
use Rattle.archive_core.specs.Parts.{Parts}
use Rattle.archive_core.specs.Strays.{IsStrayIn, IsTarget, IsWell, Tidies}
use Rattle.archive_core.specs.Sweeping.{removal_reply, sweep_reply}
use Rattle.act_model.specs.declared.acts.Answer.{Answer}
use Rattle.tier_store.specs.Opening.{answer_of}
use Rattle.std.specs.List.{AllByRecursion, flat_map}
use Rattle.std.proofs.lemmas.List.Elements.{All-from_recursion}
use Rattle.std.proofs.lemmas.List.{length-map, get_or-map}
use Rattle.intake.specs.Tails.{TailState, tail_at, SetsTail}
use Rattle.pb_messages.specs.declared.about.About.{About}
use Rattle.pb_lines.specs.File.{lines_of}
use Rattle.pb_wire.specs.declared.payload.PayloadType.{PayloadType}
use Rattle.pv_catalog.specs.declared.row.Row.{Row}
use Rattle.series_model.specs.Series.{end_of, end_from, RisesFrom, IsRising, since}
use Rattle.series_model.specs.declared.batch.RowSamples.{RowSamples}
use Rattle.series_model.specs.declared.sample.Sample.{Sample}
use Rattle.series_model.proofs.OverLemmas.{end_of-over, since_max}
use Rattle.series_model.proofs.RisingLists.{end_from-append, end_from-ge, RisesFrom-front, RisesFrom-rest, RisesFrom-lower, end_of_last}
use Rattle.store_manifest.specs.Manifest.{ManifestState}
use Rattle.durable_write.specs.Flush.{CanFlush, IsOfRow, IsSampleOf, bytes_in}
use Rattle.durable_write.specs.Held.{samples_of, Filed, count_of}
use Rattle.tier_store.specs.Change.{Has}
use Rattle.tier_store.specs.Stores.{Stores}
use Rattle.act_model.specs.Changes.{each, changed, made, of_row}
use Rattle.act_model.specs.Crash.{DurableRow, kept_of, kept}
use Rattle.act_model.specs.Event.{IsEvent}
use Rattle.act_model.specs.Flush.{batch_from, batch_of, count_in}
use Rattle.act_model.specs.Limbo.{files_of as limbo_files}
use Rattle.act_model.specs.Machine.{Machine, Appends, held_bytes}
use Rattle.act_model.specs.Rows.{RowState, Short, deep, durable, is_empty, size_of}
use Rattle.act_model.specs.Sound.{IsSound, MayMake}
use Rattle.act_model.proofs.MadeLaws.{ground}
use Rattle.act_model.proofs.Puts.{put_rises}
use Rattle.act_model.proofs.RowLaws.{fit_all, higher_cover}
use Rattle.archive_core.specs.declared.memory.RowEnd.{RowEnd}
use Rattle.intake_half.specs.declared.memory.RowMemory.{RowMemory}
use Rattle.archive_core.specs.Flushing.{ListsEnds, GivesUp}
use Rattle.archive_core.specs.Memory.{AreRowsOf, row_end, row_ends}
use Rattle.archive_core.specs.Opening.{end_at}
use Rattle.archive_core.specs.Stands.{AreDurable, HoldsDurable, IsPartOf}
use Rattle.archive_core.proofs.MoveChoice.{place_end}
use Rattle.archive_core.proofs.Lists.{element, get_front, same_or_not, take_whole}
use Rattle.archive_core.proofs.Windows.{kept_to, taken_durable, taken_later, kept_untold, kept_empty}
use Rattle.act_model.proofs.Rows.{each_forward}
use Rattle.etl_mover.specs.Move.{Moving}
use Rattle.moves.specs.Table.{at as move_at}

-- What acts leave of strays: whatever is one afterwards was one before.

-- WITH THE FILES OF MOVES

pub no_names : (n : Name) → Contains [] n → ⊥
no_names n (k, lt, is) = omega (arith, lt)

-- Beside what moves have written: what the stores' call says, where what is written then is a move's to list, and what moves were to list
-- before is what the call began with, or is so still.
pub tidy_moves : (tells : Bool) (p q : Parts) (gone come : List Name) → IsSettled q.at → MakesNoStray tells (files_of p) gone (files_of q) come
    → ((n : Name) → Contains come n → IsTarget q.slots n) → ((n : Name) → IsTarget p.slots n → Contains gone n ⊎ IsTarget q.slots n) → Tidies tells p q
tidy_moves tells p q gone come settled strays comes goes = record {
  settled = settled;
  strays = λ told n s.
      let was = strays told n (record { numbered = s.stray.numbered; file = s.stray.file; unknown = unknown n s }) in
      record {
        stray = record { numbered = was.numbered; file = was.file; unknown = known n was };
        unwritten = λ t. elim (goes n t) [ inl there ↦ was.unknown (inr (inr there)) | inr still ↦ s.unwritten still ];
      };
}
  where
    unknown : (n : Name) → IsStrayIn q n → IsKnownName (files_of q) come n → ⊥
    unknown n s (inl l) = s.stray.unknown (inl l)
    unknown n s (inr (inl c)) = s.stray.unknown (inr (inl c))
    unknown n s (inr (inr t)) = s.unwritten (comes n t)

    known : (n : Name) → IsStray (files_of p) gone n → IsKnownName (files_of p) [] n → ⊥
    known n was (inl l) = was.unknown (inl l)
    known n was (inr (inl c)) = was.unknown (inr (inl c))
    known n was (inr (inr t)) = no_names n t

-- beside the same moves
pub tidy_stores : (tells : Bool) (p q : Parts) → q.slots ≡ p.slots → IsSettled q.at → LeavesNoStray tells (files_of p) (files_of q) → Tidies tells p q
tidy_stores tells p q slots settled strays =
    tidy_moves tells p q [] [] settled strays (λ n c. absurd (no_names n c)) (λ n t. inr (subst (λ (l : List (Option (Running Moving))). IsTarget l n) (sym slots) t))

-- nothing was done
pub tidy_none : (tells : Bool) (p q : Parts) → files_of q ≡ files_of p → q.slots ≡ p.slots → IsSettled p.at → Tidies tells p q
tidy_none tells p q same slots settled =
    tidy_stores tells p q slots (subst (λ (all : SeenAll). IsSettled all.stores) (sym same) settled) (subst (LeavesNoStray tells (files_of p)) (sym same) (no_strays tells (files_of p) []))

-- the disk was only read
pub tidy_reads : (tells : Bool) (p q : Parts) → ReadsAlone tells p q → q.slots ≡ p.slots → IsSettled p.at → Tidies tells p q
tidy_reads tells p q reads slots settled =
    let now = reads.quiet settled in
    tidy_stores tells p q slots now.0 (fronts_strays tells (files_of p) (files_of q) settled (λ n was. reads.fronts.there n 0 was) (λ told n own unlisted. ap (λ (f : Files). f n) (now.1 told).0))

-- one after another, where nothing was done first
pub tidy_then : (tells : Bool) (p q r : Parts) → files_of q ≡ files_of p → q.slots ≡ p.slots → Tidies tells q r → Tidies tells p r
tidy_then tells p q r same slots tidy = record {
  settled = tidy.settled;
  strays = λ told n s. let was = tidy.strays told n s in record {
    stray = subst (λ (all : SeenAll). IsStray all [] n) same was.stray;
    unwritten = λ t. was.unwritten (subst (λ (l : List (Option (Running Moving))). IsTarget l n) (sym slots) t);
  };
}

-- after a fault and for want of memory nothing is said
pub disk_not_well : (e : DiskErr) → IsWell (disk_reply e) → ⊥
disk_not_well Fault well = well
disk_not_well Memory well = well

pub ok_tidy : (R : Type 0) (tells reader_tells : Bool) (bytes : R → List ℕ) (faults : R → ℕ) (p q : Parts) (r : Result (Answer R) DiskErr) → OnOk r (Tidies tells p q) → IsWell (reply_of reader_tells bytes faults (answer_of r)) → Tidies tells p q
ok_tidy R tells reader_tells bytes faults p q (Ok given) tidy well = tidy
ok_tidy R tells reader_tells bytes faults p q (Err Fault) tidy well = absurd well
ok_tidy R tells reader_tells bytes faults p q (Err Memory) tidy well = absurd well

-- THE TABLE OF MOVES

if_same : {A : Type 0} (k n : ℕ) (a b : A) → k ≡ n → (if k == n then a else b) ≡ a
if_same {A} k n a b same = let test : (k == n) ≡ true = grind (arith, nat_tests, same) in ap (λ (t : Bool). if t then a else b) test

if_other : {A : Type 0} (k n : ℕ) (a b : A) → k ≢ n → (if k == n then a else b) ≡ b
if_other {A} k n a b apart = let test : (k == n) ≡ false = grind (arith, nat_tests, apart) in ap (λ (t : Bool). if t then a else b) test

-- the same moves run
pub tidy_slots : (tells : Bool) (p q : Parts) → files_of q ≡ files_of p → ((k : ℕ) → move_at q.slots k ≡ move_at p.slots k) → IsSettled p.at → Tidies tells p q
tidy_slots tells p q same slots settled =
    tidy_moves tells p q [] [] (subst (λ (all : SeenAll). IsSettled all.stores) (sym same) settled) (subst (LeavesNoStray tells (files_of p)) (sym same) (no_strays tells (files_of p) [])) (λ n c. absurd (no_names n c))
    (λ n t. inr (record { number = t.number; running = t.running; runs = slots t.number ∙ t.runs; stage = t.stage; target = t.target }))

-- a move begins under a free number
pub tidy_begun : (tells : Bool) (p q : Parts) (m : ℕ) (running : Running Moving) → files_of q ≡ files_of p → move_at p.slots m ≡ None → ((k : ℕ) → move_at q.slots k ≡ (if k == m then Some running else move_at p.slots k)) → IsSettled p.at → Tidies tells p q
tidy_begun tells p q m running same free begun settled =
    tidy_moves tells p q [] [] (subst (λ (all : SeenAll). IsSettled all.stores) (sym same) settled) (subst (LeavesNoStray tells (files_of p)) (sym same) (no_strays tells (files_of p) [])) (λ n c. absurd (no_names n c))
    (λ n t. inr (record { number = t.number; running = t.running; runs = begun t.number ∙ (if_other t.number m (Some running) (move_at p.slots t.number) (λ is. let none : move_at p.slots t.number ≡ None = ap (move_at p.slots) is ∙ free in let some = t.runs in cc (none, some)) ∙ t.runs); stage = t.stage; target = t.target }))

-- A step of a move that was taken out of the table: it is put back as another, or not at all. `come` are the files that it is to list then.
pub tidy_step : (tells : Bool) (p q : Parts) (number : ℕ) (running : Running Moving) (back : Option (Running Moving)) (gone come : List Name) → move_at p.slots number ≡ Some running → ((k : ℕ) → move_at q.slots k ≡ (if k == number then back else move_at p.slots k)) → IsSettled q.at
    → MakesNoStray tells (files_of p) gone (files_of q) come → (running.moving.stage ≡ Copying → (n : Name) → Contains (targets running.moving) n → Contains gone n)
    → ((n : Name) → Contains come n → (moved : Running Moving) × (back ≡ Some moved) × (moved.moving.stage ≡ Copying) × Contains (targets moved.moving) n) → Tidies tells p q
tidy_step tells p q number running back gone come ran slots settled strays mine comes = tidy_moves tells p q gone come settled strays
    (λ n c. let t = comes n c in record { number = number; running = t.0; runs = slots number ∙ (if_same number number back (move_at p.slots number) refl ∙ t.1); stage = t.2; target = t.3 })
    (λ n t. elim (same_cases t.number number) [
      | inl is ↦
          let own : t.running ≡ running = same_Some t.running running (sym t.runs ∙ (ap (move_at p.slots) is ∙ ran)) in
          inl (mine (ap (λ (r : Running Moving). r.moving.stage) (sym own) ∙ t.stage) n (subst (λ (r : Running Moving). Contains (targets r.moving) n) own t.target))
      | inr apart ↦ inr (record { number = t.number; running = t.running; runs = slots t.number ∙ (if_other t.number number back (move_at p.slots t.number) apart ∙ t.runs); stage = t.stage; target = t.target })
    ])

-- put back after it was taken
pub put_after : (number : ℕ) (back : Option (Running Moving)) (slots left new : List (Option (Running Moving))) → ((k : ℕ) → move_at new k ≡ (if k == number then back else move_at left k)) → ((k : ℕ) → move_at left k ≡ (if k == number then None else move_at slots k)) → (k : ℕ) → move_at new k ≡ (if k == number then back else move_at slots k)
put_after number back slots left new put taken k = elim (same_cases k number) [
  | inl is ↦ put k ∙ (if_same k number back (move_at left k) is ∙ sym (if_same k number back (move_at slots k) is))
  | inr apart ↦ put k ∙ (if_other k number back (move_at left k) apart ∙ (taken k ∙ (if_other k number None (move_at slots k) apart ∙ sym (if_other k number back (move_at slots k) apart))))
]

-- none was there to be taken
pub none_taken : (number : ℕ) (slots left : List (Option (Running Moving))) → move_at slots number ≡ None → ((k : ℕ) → move_at left k ≡ (if k == number then None else move_at slots k)) → (k : ℕ) → move_at left k ≡ move_at slots k
none_taken number slots left none taken k = elim (same_cases k number) [
  | inl is ↦ taken k ∙ (if_same k number None (move_at slots k) is ∙ sym (ap (move_at slots) is ∙ none))
  | inr apart ↦ taken k ∙ if_other k number None (move_at slots k) apart
]

-- the stores' sweep, once a doubt is settled, of which all is removed
pub swept_by : (tells : Bool) (p q new : Parts) (copied : List Name) (r : Result StoreSwept DiskErr) → files_of q ≡ files_of p → q.slots ≡ p.slots → new.slots ≡ q.slots → IfOk r (SweepsFiles tells q.pinned copied (files_of q) (files_of new)) → IsWell (sweep_reply r) → Tidies tells p new
swept_by tells p q new copied (Ok s) same slots still sweeps well = tidy_then tells p q new same slots (by_removal s.removed refl well)
  where
    by_removal : (removed : Result (Unit {0}) DiskErr) → s.removed ≡ removed → IsWell (removal_reply s.files removed) → Tidies tells q new
    by_removal (Ok done) is well = tidy_stores tells q new still sweeps.settled (sweeps.tidy is)
    by_removal (Err e) is well = absurd well
swept_by tells p q new copied (Err e) same slots still sweeps well = absurd (disk_not_well e well)

-- A batch that is flushed: what it has of the machine's rows, that the stores can take it, and whether store 1 lists it.

-- WHAT A FLUSH TAKES

-- a part of a batch is the tail of a row, and has samples
record IsTailOf (rows : List RowState) (part : RowSamples) : Type 0 where
  row : RowState
  here : slice_get rows part.row ≡ Some row
  is : part.samples ≡ row.tail
  some : is_empty part.samples ≡ false

tails_taken : (all : List RowState) (limit : ℕ) (rows : List RowState) (k taken : ℕ) → ((i : ℕ) (r : RowState) → slice_get rows i ≡ Some r → slice_get all (k + i) ≡ Some r) → AllByRecursion (IsTailOf all) (batch_from limit rows k taken)
tails_taken all limit [] k taken there = tt
tails_taken all limit (r ∷ rows) k taken there =
    let further : (i : ℕ) (q : RowState) → slice_get rows i ≡ Some q → slice_get all ((k + 1) + i) ≡ Some q = λ i q here. let next : (k + 1) + i ≡ k + suc i = omega arith in ap (slice_get all) next ∙ there (suc i) q here in
    by_tests (nat_le limit taken) (is_empty r.tail) refl (tails_taken all limit rows (k + 1) taken further) (tails_taken all limit rows (k + 1) (taken + size_of r.tail) further)
  where
    own : slice_get all k ≡ Some r
    own = let plain : k ≡ k + 0 = omega arith in ap (slice_get all) plain ∙ there 0 r refl

    by_tests : (b c : Bool) → is_empty r.tail ≡ c → AllByRecursion (IsTailOf all) (batch_from limit rows (k + 1) taken) → AllByRecursion (IsTailOf all) (batch_from limit rows (k + 1) (taken + size_of r.tail))
        → AllByRecursion (IsTailOf all) (cond b [] (cond c (batch_from limit rows (k + 1) taken) (record { row = k; samples = r.tail } ∷ batch_from limit rows (k + 1) (taken + size_of r.tail))))
    by_tests true c is same more = tt
    by_tests false true is same more = same
    by_tests false false is same more = (record { row = r; here = own; is = refl; some = is }, more)

taken_of : (limit : ℕ) (m : Machine) → AllByRecursion (IsTailOf m.rows) (batch_of limit m)
taken_of limit m = tails_taken m.rows limit m.rows 0 0 (λ i r here. let plain : i ≡ 0 + i = omega arith in ap (slice_get m.rows) (sym plain) ∙ here)

-- each part is of a row that is there
pub parts_there : (limit : ℕ) (m : Machine) → AllByRecursion (IsPartOf (length m.rows)) (batch_of limit m)
parts_there limit m = go (batch_of limit m) (taken_of limit m)
  where
    go : (batch : List RowSamples) → AllByRecursion (IsTailOf m.rows) batch → AllByRecursion (IsPartOf (length m.rows)) batch
    go [] all = tt
    go (part ∷ batch) all = (record { here = slice_get_within m.rows part.row all.0.row all.0.here; some = all.0.some }, go batch all.1)

-- THE STORES CAN TAKE IT

pub lines_size : (xs : List Sample) → length (lines_of xs) ≡ size_of xs
lines_size [] = refl
lines_size (x ∷ xs) =
    let more = lines_size xs in
    let all : length (x.line ++ (10 ∷ lines_of xs)) ≡ length x.line + length (10 ∷ lines_of xs) = length-append x.line (10 ∷ lines_of xs) in
    omega (arith, more, all)

bytes_taken : (limit : ℕ) (rows : List RowState) (k taken : ℕ) → bytes_in (batch_from limit rows k taken) ≤ held_bytes rows
bytes_taken limit [] k taken = omega arith
bytes_taken limit (r ∷ rows) k taken = by_tests (nat_le limit taken) (is_empty r.tail) (bytes_taken limit rows (k + 1) taken) (bytes_taken limit rows (k + 1) (taken + size_of r.tail))
  where
    by_tests : (b c : Bool) → bytes_in (batch_from limit rows (k + 1) taken) ≤ held_bytes rows → bytes_in (batch_from limit rows (k + 1) (taken + size_of r.tail)) ≤ held_bytes rows
        → bytes_in (cond b [] (cond c (batch_from limit rows (k + 1) taken) (record { row = k; samples = r.tail } ∷ batch_from limit rows (k + 1) (taken + size_of r.tail)))) ≤ size_of r.tail + held_bytes rows
    by_tests true c same more = omega arith
    by_tests false true same more = omega (arith, same)
    by_tests false false same more = let own = lines_size r.tail in omega (arith, more, own)

sample_of : (row : Row) (ty : PayloadType) (s : Sample) → ty ≡ row.about.ty → IsEvent ty s → IsSampleOf row s
sample_of row ty s same of_type =
    let e : IsEvent row.about.ty s = subst (λ (t : PayloadType). IsEvent t s) same of_type in (
      e.year,
      record {
        whole = e.whole;
        meant = record { secs = e.secs; nano = e.nano; stamp = (e.message, e.means, e.stamp); sample_year = e.sample_year; in_year = e.in_year; at = e.at };
      },
    )

samples_are : (row : Row) (ty : PayloadType) (xs : List Sample) → ty ≡ row.about.ty → AllByRecursion (IsEvent ty) xs → AllByRecursion (IsSampleOf row) xs
samples_are row ty [] same all = tt
samples_are row ty (x ∷ xs) same all = (sample_of row ty x same all.0, samples_are row ty xs same all.1)

pub can_flush : (limit : ℕ) (rows : List Row) (kept : List RowMemory) (ts : List TailState) (m : Machine) → IsSound m → AreRowsOf rows kept ts m.rows → CanFlush rows (batch_of limit m)
can_flush limit rows kept ts m sound are = record {
  each = All-from_recursion (IsOfRow rows) (batch_of limit m) (go (batch_of limit m) (taken_of limit m));
  few = let bytes = bytes_taken limit m.rows 0 0 in let most = sound.intake in omega (arith, bytes, most);
}
  where
    one : (part : RowSamples) → IsTailOf m.rows part → IsOfRow rows part
    one part of =
        let at = are.each part.row of.row of.here in
        let is_sound = sound.each_row part.row of.row of.here in
        let lines = sound.lines part.row of.row of.here in
        let samples = samples_are at.row of.row.about.ty of.row.tail (ap (λ (a : About). a.ty) at.is.about) lines.tail in
        record {
          row = at.row;
          stands = at.here;
          samples = subst (λ (xs : List Sample). All (IsSampleOf at.row) xs) (sym of.is) (All-from_recursion (IsSampleOf at.row) of.row.tail samples);
          rising = subst (λ (xs : List Sample). IsRising xs) (sym of.is) (RisesFrom-lower 0 (end_of (durable of.row)) of.row.tail is_sound.later (omega arith));
        }

    go : (batch : List RowSamples) → AllByRecursion (IsTailOf m.rows) batch → AllByRecursion (IsOfRow rows) batch
    go [] all = tt
    go (part ∷ batch) all = (one part all.0, go batch all.1)

-- WHETHER IT IS LISTED

-- a batch has nothing of a row that isn't there
pub none_beyond : (count : ℕ) (batch : List RowSamples) (i : ℕ) → AllByRecursion (IsPartOf count) batch → count ≤ i → of_row i batch ≡ []
none_beyond count [] i all high = refl
none_beyond count (part ∷ batch) i all high =
    let low = all.0.here in
    let other : nat_eq part.row i ≡ false = grind (arith, nat_tests) in
    rw other (none_beyond count batch i all.1 high)

le_or_not : (a b : ℕ) → (a ≤ b) ⊎ (a ≤ b → ⊥)
le_or_not a b = by_test (nat_le a b) refl
  where
    by_test : (t : Bool) → nat_le a b ≡ t → (a ≤ b) ⊎ (a ≤ b → ⊥)
    by_test true is = inl (grind (arith, nat_tests))
    by_test false is = let more : b < a = grind (arith, nat_tests) in inr (λ low. omega (arith, low, more))

-- a list that has no last element is empty
no_last : (xs : List Sample) → slice_get xs (length xs - 1) ≡ None → xs ≡ []
no_last [] none = refl
no_last (x ∷ xs) none = absurd (let last = element (x ∷ xs) (length (x ∷ xs) - 1) (omega arith) in let some = last.1 in cc (none, some))

-- the first moment behind a last one, or behind none
abbrev first_after : Option ℕ → ℕ
first_after None = 0
first_after (Some last) = last + 1

-- samples end behind their last moment
end_is : (xs : List Sample) (last : Option ℕ) → option_map (λ (s : Sample). s.t) (slice_get xs (length xs - 1)) ≡ last → end_of xs ≡ first_after last
end_is xs last is = by_last (slice_get xs (length xs - 1)) refl ∙ ap first_after is
  where
    by_last : (o : Option Sample) → slice_get xs (length xs - 1) ≡ o → end_of xs ≡ first_after (option_map (λ (s : Sample). s.t) o)
    by_last None none = ap end_of (no_last xs none)
    by_last (Some s) here = end_of_last xs s here

-- store 1 lists a batch, by where its first row ends
abbrev pub ListsBatch : List ManifestState → List RowSamples → Type 0
ListsBatch manifests batch = ListsEnds manifests (row_ends batch)

lists_to : (xs : List Sample) (end : ℕ) → IfSome (option_map (λ (s : Sample). s.t) (slice_get xs (length xs - 1))) (λ last. last < end) ↔ (end_of xs ≤ end)
lists_to xs end = by_last (option_map (λ (s : Sample). s.t) (slice_get xs (length xs - 1))) refl
  where
    by_last : (last : Option ℕ) → option_map (λ (s : Sample). s.t) (slice_get xs (length xs - 1)) ≡ last → IfSome last (λ last. last < end) ↔ (end_of xs ≤ end)
    by_last None is = let at = end_is xs None is in (λ lists. omega (arith, at), λ low. tt)
    by_last (Some last) is = let at = end_is xs (Some last) is in (λ lists. omega (arith, at, lists), λ low. omega (arith, at, low))

pub lists_or_not : (manifests : List ManifestState) (batch : List RowSamples) → ListsBatch manifests batch ⊎ (ListsBatch manifests batch → ⊥)
lists_or_not manifests [] = inl tt
lists_or_not manifests (part ∷ batch) =
    let lists = lists_to part.samples (end_at manifests 0 part.row) in
    elim (le_or_not (end_of part.samples) (end_at manifests 0 part.row)) [
      | inl low ↦ inl (lists.1 low)
      | inr high ↦ inr (λ is. high (lists.0 is))
    ]

-- the stores of a told machine stand
pub told_stands : (tells told stands : Bool) → told ≡ (tells && stands) → told ≡ true → IsTrue stands
told_stands true told true same is = refl
told_stands true told false same is = absurd (let bad = sym same ∙ is in cc (bad))
told_stands false told stands same is = absurd (let bad = sym same ∙ is in cc (bad))

-- samples that are there end behind where they rise from
grows : (n : ℕ) (xs : List Sample) → is_empty xs ≡ false → RisesFrom n xs → n < end_of xs
grows n [] some rises = absurd (cc (some))
grows n (x ∷ xs) some rises = let first = rises.0 in let end = end_from-ge (x.t + 1) xs rises.1 in omega (arith, first, end)

-- and so wherever they begin
same_end : (n : ℕ) (xs : List Sample) → is_empty xs ≡ false → end_from n xs ≡ end_of xs
same_end n [] some = absurd (cc (some))
same_end n (x ∷ xs) some = refl

own_first : (part : RowSamples) (batch : List RowSamples) → of_row part.row (part ∷ batch) ≡ part.samples ++ of_row part.row batch
own_first part batch = let own : nat_eq part.row part.row ≡ true = grind (arith, nat_tests) in rw own refl

-- once a batch is appended, store 1 ends where the batch does
end_with : (m : Machine) (batch : List RowSamples) (i : ℕ) (r : RowState) → IsSound m → MayMake m.rule m.told m.rows m.limbo (Appends batch) → slice_get m.rows i ≡ Some r → m.told ≡ true → end_of (changed m.told m.limbo (Appends batch) i r).short ≡ end_from (end_of r.short) (of_row i batch)
end_with m batch i r sound may here told =
    let row = sound.each_row i r here in
    let on = ground m.rule m.told m.rows m.limbo i r here sound.each_file in
    let files = limbo_files i Short m.limbo in
    let end = end_of-over (deep r Short) r.short row.short in
    let low = higher_cover files (end_of (deep r Short)) (end_of (durable r)) (on.covered Short told) (omega (arith, end)) in
    let fits = fit_all (of_row i batch) (end_of (durable r)) files (taken_durable m batch i r sound may here) low in
    rw told (put_rises (of_row i batch) files r.short row.short (taken_later m batch i r sound may here) (on.parts Short told) fits).1

module _ (tells : Bool) (new : Seen) (m : Machine) (sound : IsSound m) (held : Stores) (has : Has tells new held) (told_is : m.told ≡ (tells && held.stands)) where
  -- where store 1 lists a part of samples, it isn't without them
  not_before : (part : RowSamples) (batch : List RowSamples) → m.told ≡ true → MayMake m.rule m.told m.rows m.limbo (Appends (part ∷ batch)) → IsPartOf (length m.rows) part → ListsBatch new.manifests (part ∷ batch) → HoldsDurable held m → ⊥
  not_before part batch told may is lists holds =
      let r = element m.rows part.row is.here in
      let at = holds.each part.row (kept_of r.0) (kept_to m.rows part.row r.0 r.1) in
      let short : r.0.short ≡ samples_of part.row held.short = at.is.short told in
      let end : end_at new.manifests 0 part.row ≡ end_of (samples_of part.row held.short) = place_end new held tells has (told_stands tells m.told held.stands told_is told) 0 part.row (omega arith) in
      let later = taken_later m (part ∷ batch) part.row r.0 sound may r.1 in
      let all : RisesFrom (end_of r.0.short) (part.samples ++ of_row part.row batch) = subst (λ (xs : List Sample). RisesFrom (end_of r.0.short) xs) (own_first part batch) later in
      let more = grows (end_of r.0.short) part.samples is.some (RisesFrom-front (end_of r.0.short) part.samples (of_row part.row batch) all) in
      let same : end_of r.0.short ≡ end_of (samples_of part.row held.short) = ap end_of short in
      let listed = (lists_to part.samples (end_at new.manifests 0 part.row)).0 lists in
      omega (arith, listed, end, more, same)

  -- where it has them, it lists them
  lists_then : (part : RowSamples) (batch : List RowSamples) → m.told ≡ true → MayMake m.rule m.told m.rows m.limbo (Appends (part ∷ batch)) → IsPartOf (length m.rows) part → HoldsDurable held (made [] (Appends (part ∷ batch)) m) → ListsBatch new.manifests (part ∷ batch)
  lists_then part batch told may is holds =
      let r = element m.rows part.row is.here in
      let change = changed m.told m.limbo (Appends (part ∷ batch)) in
      let plain : 0 + part.row ≡ part.row = omega arith in
      let there : slice_get (made [] (Appends (part ∷ batch)) m).rows part.row ≡ Some (change part.row r.0) = get_front (each change 0 m.rows) [] part.row (change part.row r.0) (each_forward change 0 m.rows part.row r.0 r.1 ∙ ap (λ (n : ℕ). Some (change n r.0)) plain) in
      let at = holds.each part.row (kept_of (change part.row r.0)) (kept_to (made [] (Appends (part ∷ batch)) m).rows part.row (change part.row r.0) there) in
      let same : end_of (change part.row r.0).short ≡ end_of (samples_of part.row held.short) = ap end_of (at.is.short told) in
      let end : end_at new.manifests 0 part.row ≡ end_of (samples_of part.row held.short) = place_end new held tells has (told_stands tells m.told held.stands told_is told) 0 part.row (omega arith) in
      let later = taken_later m (part ∷ batch) part.row r.0 sound may r.1 in
      let n = end_of r.0.short in
      let all : RisesFrom n (part.samples ++ of_row part.row batch) = subst (λ (xs : List Sample). RisesFrom n xs) (own_first part batch) later in
      let whole : end_of (change part.row r.0).short ≡ end_from (end_from n part.samples) (of_row part.row batch) = end_with m (part ∷ batch) part.row r.0 sound may r.1 told ∙ (ap (end_from n) (own_first part batch) ∙ end_from-append n part.samples (of_row part.row batch)) in
      let more = end_from-ge (end_from n part.samples) (of_row part.row batch) (RisesFrom-rest n part.samples (of_row part.row batch) all) in
      let first = same_end n part.samples is.some in
      (lists_to part.samples (end_at new.manifests 0 part.row)).1 (omega (arith, end, whole, more, first, same))

  -- stores that list a batch hold what is durable with it
  pub holds_with : (batch : List RowSamples) → MayMake m.rule m.told m.rows m.limbo (Appends batch) → AllByRecursion (IsPartOf (length m.rows)) batch → ListsBatch new.manifests batch → HoldsDurable held m ⊎ HoldsDurable held (made [] (Appends batch) m) → HoldsDurable held (made [] (Appends batch) m)
  holds_with batch may all lists (inr holds) = holds
  holds_with [] may all lists (inl holds) = subst (λ (ds : List DurableRow). AreDurable m.told held ds) (sym (kept_empty m)) holds
  holds_with (part ∷ batch) may all lists (inl holds) = by_told m.told refl
    where
      by_told : (t : Bool) → m.told ≡ t → HoldsDurable held (made [] (Appends (part ∷ batch)) m)
      by_told true told = absurd (not_before part batch told may all.0 lists holds)
      by_told false told = subst (λ (ds : List DurableRow). AreDurable m.told held ds) (sym (kept_untold m (part ∷ batch) told)) holds

  -- and others hold it without
  pub holds_without : (batch : List RowSamples) → MayMake m.rule m.told m.rows m.limbo (Appends batch) → AllByRecursion (IsPartOf (length m.rows)) batch → (ListsBatch new.manifests batch → ⊥) → HoldsDurable held m ⊎ HoldsDurable held (made [] (Appends batch) m) → HoldsDurable held m
  holds_without batch may all lacks (inl holds) = holds
  holds_without [] may all lacks (inr holds) = absurd (lacks tt)
  holds_without (part ∷ batch) may all lacks (inr holds) = by_told m.told refl
    where
      by_told : (t : Bool) → m.told ≡ t → HoldsDurable held m
      by_told true told = absurd (lacks (lists_then part batch told may all.0 holds))
      by_told false told = subst (λ (ds : List DurableRow). AreDurable m.told held ds) (kept_untold m (part ∷ batch) told) holds

-- HOW MANY SAMPLES A FLUSH APPENDS

-- the sum over all rows before k
abbrev total : (ℕ → ℕ) → ℕ → ℕ
total f zero = 0
total f (suc k) = total f k + f k

total_same : (f g : ℕ → ℕ) (k : ℕ) → ((i : ℕ) → i < k → f i ≡ g i) → total f k ≡ total g k
total_same f g zero same = refl
total_same f g (suc k) same =
    let own = same k (omega arith) in
    let rest = total_same f g k (λ i low. same i (omega (arith, low))) in
    omega (arith, own, rest)

total_sum : (f g : ℕ → ℕ) (k : ℕ) → total (λ i. f i + g i) k ≡ total f k + total g k
total_sum f g zero = refl
total_sum f g (suc k) = let rest = total_sum f g k in omega (arith, rest)

total_none : (k : ℕ) → total (λ i. 0) k ≡ 0
total_none zero = refl
total_none (suc k) = let rest = total_none k in omega (arith, rest)

-- so many of one row
abbrev of_one : ℕ → ℕ → ℕ → ℕ
of_one j n i = cond (nat_eq j i) n 0

one_past : (j n k : ℕ) → k ≤ j → total (of_one j n) k ≡ 0
one_past j n zero high = refl
one_past j n (suc k) high =
    let rest = one_past j n k (omega (arith, high)) in
    let other : nat_eq j k ≡ false = grind (arith, nat_tests) in
    let none : of_one j n k ≡ 0 = rw other refl in
    omega (arith, rest, none)

one_there : (j n k : ℕ) → j < k → total (of_one j n) k ≡ n
one_there j n zero low = absurd (omega (arith, low))
one_there j n (suc k) low = by_test (nat_eq j k) refl (one_there j n k)
  where
    by_test : (b : Bool) → nat_eq j k ≡ b → (j < k → total (of_one j n) k ≡ n) → total (of_one j n) k + of_one j n k ≡ n
    by_test true is more =
        let same : j ≡ k = grind (arith, nat_tests) in
        let rest = one_past j n k (omega (arith, same)) in
        let own : of_one j n k ≡ n = rw is refl in
        omega (arith, rest, own)
    by_test false is more =
        let below : j < k = grind (arith, nat_tests) in
        let rest = more below in
        let none : of_one j n k ≡ 0 = rw is refl in
        omega (arith, rest, none)

-- a file is of a row before k
abbrev pub IsBefore : ℕ → Filed → Type 0
IsBefore k f = f.entry.series < k

count_rows : (k : ℕ) (files : List Filed) → AllByRecursion (IsBefore k) files → total (λ i. length (samples_of i files)) k ≡ count_of files
count_rows k [] all = total_none k
count_rows k (f ∷ files) all =
    let one = one_there f.entry.series (length f.samples) k all.0 in
    let rest = count_rows k files all.1 in
    let parts = total_same (λ i. length (samples_of i (f ∷ files))) (λ i. of_one f.entry.series (length f.samples) i + length (samples_of i files)) k (λ i low. own i (nat_eq f.entry.series i)) in
    let both = total_sum (of_one f.entry.series (length f.samples)) (λ i. length (samples_of i files)) k in
    let whole : count_of (f ∷ files) ≡ length f.samples + count_of files = length-append f.samples (flat_map (λ (h : Filed). h.samples) files) in
    omega (arith, one, rest, parts, both, whole)
  where
    own : (i : ℕ) (b : Bool) → length (flat_map (λ (h : Filed). h.samples) (cond b (f ∷ filter (λ (h : Filed). nat_eq h.entry.series i) files) (filter (λ (h : Filed). nat_eq h.entry.series i) files))) ≡ cond b (length f.samples) 0 + length (samples_of i files)
    own i true = length-append f.samples (samples_of i files)
    own i false = sym (zero-add (length (samples_of i files)))

count_parts : (k : ℕ) (batch : List RowSamples) → AllByRecursion (IsPartOf k) batch → total (λ i. length (of_row i batch)) k ≡ count_in batch
count_parts k [] all = total_none k
count_parts k (part ∷ batch) all =
    let one = one_there part.row (length part.samples) k all.0.here in
    let rest = count_parts k batch all.1 in
    let parts = total_same (λ i. length (of_row i (part ∷ batch))) (λ i. of_one part.row (length part.samples) i + length (of_row i batch)) k (λ i low. own i (nat_eq part.row i)) in
    let both = total_sum (of_one part.row (length part.samples)) (λ i. length (of_row i batch)) k in
    omega (arith, one, rest, parts, both)
  where
    own : (i : ℕ) (b : Bool) → length (cond b (part.samples ++ of_row i batch) (of_row i batch)) ≡ cond b (length part.samples) 0 + length (of_row i batch)
    own i true = length-append part.samples (of_row i batch)
    own i false = sym (zero-add (length (of_row i batch)))

-- where each row has the batch's samples more, there are as many more as the batch has
pub count_more : (k : ℕ) (old new : List Filed) (batch : List RowSamples) → AllByRecursion (IsBefore k) old → AllByRecursion (IsBefore k) new → AllByRecursion (IsPartOf k) batch → ((i : ℕ) → i < k → samples_of i new ≡ samples_of i old ++ of_row i batch) → count_of new ≡ count_of old + count_in batch
count_more k old new batch old_there new_there there more =
    let was = count_rows k old old_there in
    let now = count_rows k new new_there in
    let parts = count_parts k batch there in
    let each = total_same (λ i. length (samples_of i new)) (λ i. length (samples_of i old) + length (of_row i batch)) k (λ i low. ap length (more i low) ∙ length-append (samples_of i old) (of_row i batch)) in
    let both = total_sum (λ i. length (samples_of i old)) (λ i. length (of_row i batch)) k in
    omega (arith, was, now, parts, each, both)

-- THE INTAKE GIVES UP A BATCH, PART BY PART

-- ONE PART

-- a part without samples gives up nothing
pub gives_none : (end : RowEnd) (old : List TailState) → end.last ≡ None → (part : RowSamples) → row_end part ≡ end → (i : ℕ) → (tail_at old i).samples ≡ since (end_of (of_row i (part ∷ []))) (tail_at old i).samples
gives_none end old none part is i = sym (ap (λ (n : ℕ). since n (tail_at old i).samples) (by_test (nat_eq part.row i)) ∙ since_start (tail_at old i).samples)
  where
    by_test : (b : Bool) → end_of (cond b (part.samples ++ []) []) ≡ 0
    by_test true = ap end_of (append-nil part.samples) ∙ end_is part.samples None (ap (λ (e : RowEnd). e.last) is ∙ none)
    by_test false = refl

-- another gives up what is no later than its last sample
pub gives_part : (end : RowEnd) (last : ℕ) (old new : List TailState) → end.last ≡ Some last → SetsTail end.row (since (last + 1) (tail_at old end.row).samples) old new → (part : RowSamples) → row_end part ≡ end → (i : ℕ) → (tail_at new i).samples ≡ since (end_of (of_row i (part ∷ []))) (tail_at old i).samples
gives_part end last old new here sets part is i = by_place (same_or_not i end.row)
  where
    row : part.row ≡ end.row
    row = ap (λ (e : RowEnd). e.row) is

    by_place : (i ≡ end.row) ⊎ (i ≢ end.row) → (tail_at new i).samples ≡ since (end_of (of_row i (part ∷ []))) (tail_at old i).samples
    by_place (inl same) =
        let test : nat_eq part.row i ≡ true = grind (arith, nat_tests, row) in
        let own : of_row i (part ∷ []) ≡ part.samples = rw test (append-nil part.samples) in
        let end_at : end_of (of_row i (part ∷ [])) ≡ last + 1 = ap end_of own ∙ end_is part.samples (Some last) (ap (λ (e : RowEnd). e.last) is ∙ here) in
        ap (λ (k : ℕ). (tail_at new k).samples) same ∙ (sets.own ∙ (ap (λ (k : ℕ). since (last + 1) (tail_at old k).samples) (sym same) ∙ ap (λ (n : ℕ). since n (tail_at old i).samples) (sym end_at)))
    by_place (inr apart) =
        let test : nat_eq part.row i ≡ false = grind (arith, nat_tests, row) in
        let own : of_row i (part ∷ []) ≡ [] = rw test refl in
        sets.others i apart ∙ sym (ap (λ (xs : List Sample). since (end_of xs) (tail_at old i).samples) own ∙ since_start (tail_at old i).samples)

-- ONE AFTER ANOTHER

of_row-append : (i : ℕ) (xs ys : List RowSamples) → of_row i (xs ++ ys) ≡ of_row i xs ++ of_row i ys
of_row-append i [] ys = refl
of_row-append i (x ∷ xs) ys = by_test (nat_eq x.row i) (of_row-append i xs ys)
  where
    by_test : (b : Bool) → of_row i (xs ++ ys) ≡ of_row i xs ++ of_row i ys → cond b (x.samples ++ of_row i (xs ++ ys)) (of_row i (xs ++ ys)) ≡ cond b (x.samples ++ of_row i xs) (of_row i xs) ++ of_row i ys
    by_test true rest = ap (λ (zs : List Sample). x.samples ++ zs) rest ∙ sym (append_assoc x.samples (of_row i xs) (of_row i ys))
    by_test false rest = rest

take_next : (xs : List RowSamples) (k : ℕ) (x : RowSamples) → k < length xs → x ≡ get_or xs k x → take (suc k) xs ≡ take k xs ++ x ∷ []
take_next [] k x low is = absurd (omega (arith, low))
take_next (y ∷ xs) zero x low is = ap (λ (w : RowSamples). w ∷ []) (sym is)
take_next (y ∷ xs) (suc k) x low is = ap (λ (ws : List RowSamples). y ∷ ws) (take_next xs k x (omega (arith, low)) is)

later_end : (n : ℕ) (xs : List Sample) → RisesFrom n xs → max (end_of xs) n ≡ end_from n xs
later_end n [] rises = omega arith
later_end n (x ∷ xs) rises = let low = rises.0 in let end = end_from-ge (x.t + 1) xs rises.1 in omega (arith, low, end)

-- what is given up before a part, and that part
pub gives_more : (parts : List RowSamples) (k : ℕ) (part : RowSamples) (old mid new : List TailState) → k < length parts → part ≡ get_or parts k part → GivesUp (take k parts) old mid → ((i : ℕ) → (tail_at new i).samples ≡ since (end_of (of_row i (part ∷ []))) (tail_at mid i).samples) → GivesUp (take (k + 1) parts) old new
gives_more parts k part old mid new low is gave gives = λ i rises.
    let front = of_row i (take k parts) in
    let own = of_row i (part ∷ []) in
    let next : k + 1 ≡ suc k = omega arith in
    let all : of_row i (take (k + 1) parts) ≡ front ++ own = ap (λ (n : ℕ). of_row i (take n parts)) next ∙ (ap (of_row i) (take_next parts k part low is) ∙ of_row-append i (take k parts) (part ∷ [])) in
    let both : IsRising (front ++ own) = subst (λ (xs : List Sample). IsRising xs) all rises in
    let first = gave i (RisesFrom-front 0 front own both) in
    let end : max (end_of own) (end_of front) ≡ end_of (front ++ own) = later_end (end_of front) own (RisesFrom-rest 0 front own both) ∙ sym (end_from-append 0 front own) in
    gives i ∙ (ap (λ (xs : List Sample). since (end_of own) xs) first ∙ (since_max (end_of own) (end_of front) (tail_at old i).samples ∙ (ap (λ (n : ℕ). since n (tail_at old i).samples) end ∙ ap (λ (xs : List Sample). since (end_of xs) (tail_at old i).samples) (sym all))))

pub gives_all : (batch : List RowSamples) (k : ℕ) (old new : List TailState) → length batch ≤ k → GivesUp (take k batch) old new → GivesUp batch old new
gives_all batch k old new end gives = subst (λ (b : List RowSamples). GivesUp b old new) (take_whole k batch end) gives

-- the part that has the next end
pub next_part : (batch : List RowSamples) (ends : List RowEnd) (k : ℕ) (d : RowEnd) → row_ends batch ≡ ends → k < length ends → (part : RowSamples) × (k < length batch) × (part ≡ get_or batch k part) × (row_end part ≡ get_or ends k d)
next_part batch ends k d are low =
    let long : length batch ≡ length ends = sym (length-map batch row_end) ∙ ap length are in
    let within : k < length batch = omega (arith, long, low) in
    let at = element batch k within in
    let here : get_or batch k at.0 ≡ at.0 = get_or_from_slice_get batch k at.0 at.0 at.1 in
    (at.0, within, sym here, ap row_end (sym here) ∙ (sym (get_or-map row_end batch k at.0 d within) ∙ ap (λ (es : List RowEnd). get_or es k d) are))
