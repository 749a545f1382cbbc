-- What a change makes of one row.
use Rattle.std.proofs.Common.{◌≡◌, ◌≢◌, ℕ, ◌≤◌, List, [], ◌++◌, Bool, true, false, refl, ap, sym, ◌∙◌, arith, append-nil, subst, None, inl, inr}
use Rattle.std.proofs.lemmas.Bool.Decides.{nat_tests}
use Rattle.std.specs.Prelude.{◌⊎◌, ◌==◌, if◌then◌else◌}
use Rattle.std.specs.List.{AllByRecursion}
use Rattle.series_model.specs.declared.sample.Sample.{Sample}
use Rattle.series_model.specs.Series.{end_from, end_of, RisesFrom, since, before, over}
use Rattle.series_model.proofs.RisingLists.{end_from-append, end_from-ge, RisesFrom-front, RisesFrom-rest, RisesFrom-lower}
use Rattle.series_model.proofs.OverLemmas.{end_of-over}
use Rattle.pb_messages.specs.declared.about.State.{State}
use Rattle.pb_messages.specs.declared.about.State.TheVariants.{Retired}
use Rattle.act_model.specs.Rows.{RowState, Store, Short, Medium, Long, next_store, durable, deep, tier, accepted}
use Rattle.act_model.specs.Limbo.{RowFile, put, files_of, Covered, IsOfPart}
use Rattle.act_model.specs.Machine.{Change, AddsRow, SetsState, Renames, Appends, Publishes, Unlists}
use Rattle.act_model.specs.Changes.{changed, at, flushed, published, retired, without_held, of_row}
use Rattle.act_model.specs.Sound.{RowSound, IsCopied, CopiesOf}
use Rattle.act_model.proofs.Puts.{end_from-mono, put_rises}
use Rattle.act_model.proofs.RowLaws.{flush_row, Keeps, publish_medium, publish_long, retire_short, retire_medium, retire_over, since_front}

-- A row goes on: it is sound, over the same base, accepted and durable stay or grow, and its tail gives up samples alone. Once it is retired
-- it stays so.
pub record RowGoes (told : Bool) (row new : RowState) : Type 0 where
  pub sound : RowSound told new
  pub name : new.name ≡ row.name
  pub about : new.about ≡ row.about
  pub base : new.base ≡ row.base
  pub next : new.next ≡ row.next
  pub stays_retired : row.state ≡ Retired → new.state ≡ Retired
  pub short_base : told ≡ true → end_of (deep row Short) ≤ end_of (deep new Short)
  pub medium_base : told ≡ true → end_of (deep row Medium) ≤ end_of (deep new Medium)
  pub same : told ≡ true → accepted new ≡ accepted row
  pub more : told ≡ true → (xs : List Sample) × (durable new ≡ durable row ++ xs)
  pub untold : told ≡ false → durable new ≡ durable row
  pub tail : (new.tail ≡ row.tail) ⊎ ((n : ℕ) × (new.tail ≡ since n row.tail))
  pub held : (new.cell.held ≡ row.cell.held) ⊎ (new.cell.held ≡ None)

pub stays_row : (told : Bool) (row : RowState) → RowSound told row → RowGoes told row row
stays_row told row s = record { sound = s; name = refl; about = refl; base = refl; next = refl; stays_retired = λ is. is; short_base = λ t. omega arith; medium_base = λ t. omega arith; same = λ t. refl; more = λ t. ([], sym (append-nil (durable row))); untold = λ f. refl; tail = inl refl; held = inl refl }

state_row : (told : Bool) (state : State) (row : RowState) → RowSound told row → (row.state ≡ Retired → state ≡ Retired) → RowGoes told row (without_held state row)
state_row told state row s stays =
    record {
      sound = record { short = s.short; medium = s.medium; long = s.long; later = s.later; next = s.next };
      name = refl;
      about = refl;
      base = refl;
      next = refl;
      stays_retired = stays;
      short_base = λ t. omega arith;
      medium_base = λ t. omega arith;
      same = λ t. refl;
      more = λ t. ([], sym (append-nil (durable row)));
      untold = λ f. refl;
      tail = inl refl;
      held = inr refl;
    }

pub at_row : (k i : ℕ) (f : RowState → RowState) (row : RowState) (P : RowState → Type 0) → P row → (i ≡ k → P (f row)) → P (at k f i row)
at_row k i f row P other own = by_test (i == k) refl
  where
    by_test : (b : Bool) → (i == k) ≡ b → P (if b then f row else row)
    by_test true is = own (grind (arith, nat_tests))
    by_test false is = other

untold_flush : (row : RowState) (limbo : List RowFile) (xs rest : List Sample) → RowSound false row → row.tail ≡ xs ++ rest → RowGoes false row (flushed false limbo xs row)
untold_flush row limbo xs rest s is =
    let p = end_of (durable row) in
    let later : RisesFrom p (xs ++ rest) = rw (← is) s.later in
    let tail : since (end_of xs) row.tail ≡ rest = ap (λ w. since (end_of xs) w) is ∙ since_front p xs rest later in
    let up : p ≤ end_from p xs = end_from-ge p xs (RisesFrom-front p xs rest later) in
    let low : end_from p rest ≤ end_from (end_from p xs) rest = end_from-mono p (end_from p xs) rest up in
    let whole : end_from p row.tail ≡ end_from (end_from p xs) rest = ap (λ w. end_from p w) is ∙ end_from-append p xs rest in
    let bound : end_from p row.tail ≤ row.next = s.next in
    record {
      sound = record { short = s.short; medium = s.medium; long = s.long; later = rw tail (RisesFrom-lower p (end_from p xs) rest (RisesFrom-rest p xs rest later) up); next = rw tail (omega arith) };
      name = refl;
      about = refl;
      base = refl;
      next = refl;
      stays_retired = λ is. is;
      short_base = λ t. absurd cc;
      medium_base = λ t. absurd cc;
      same = λ t. absurd cc;
      more = λ t. absurd cc;
      untold = λ f. refl;
      tail = inr (end_of xs, refl);
      held = inl refl;
    }

told_flush : (row : RowState) (limbo : List RowFile) (xs rest : List Sample) → RowSound true row → row.tail ≡ xs ++ rest → Covered (end_of (deep row Short)) limbo → AllByRecursion IsOfPart limbo → RowGoes true row (flushed true limbo xs row)
told_flush row limbo xs rest s is low parts =
    let f = flush_row row limbo xs rest s is low parts in
    record { sound = f.sound; name = refl; about = refl; base = refl; next = refl; stays_retired = λ is. is; short_base = λ t. omega arith; medium_base = λ t. omega arith; same = λ t. f.same; more = λ t. (xs, f.more); untold = λ f. absurd cc; tail = inr (end_of xs, refl); held = inl refl }

kept_row : (row new : RowState) → Keeps row new → new.name ≡ row.name → new.about ≡ row.about → new.base ≡ row.base → new.next ≡ row.next → new.state ≡ row.state → end_of (deep row Short) ≤ end_of (deep new Short) → end_of (deep row Medium) ≤ end_of (deep new Medium) → new.cell.held ≡ row.cell.held → RowGoes true row new
kept_row row new k name about base next state a b held =
    record {
      sound = k.sound;
      name = name;
      about = about;
      base = base;
      next = next;
      stays_retired = λ is. state ∙ is;
      short_base = λ t. a;
      medium_base = λ t. b;
      same = λ t. ap (λ w. over w new.tail) k.same ∙ ap (λ w. over (durable row) w) k.tail;
      more = λ t. ([], k.same ∙ sym (append-nil (durable row)));
      untold = λ f. absurd cc;
      tail = inl k.tail;
      held = inl held;
    }

told_medium : (row : RowState) (limbo : List RowFile) (copied : List Sample) → RowSound true row → Covered (end_of row.long) limbo → AllByRecursion IsOfPart limbo → IsCopied limbo row.long row.medium row.short copied → RowGoes true row (published true limbo Medium copied row)
told_medium row limbo copied s low parts is =
    let both = put_rises copied limbo row.medium s.medium is.rises parts is.fits in
    let up : end_of row.medium ≤ end_from (end_of row.medium) copied = end_from-ge (end_of row.medium) copied is.rises in
    let now : end_of (put copied limbo row.medium) ≡ end_from (end_of row.medium) copied = both.1 in
    let one = end_of-over row.long row.medium s.medium in
    let two = end_of-over row.long (put copied limbo row.medium) both.0 in
    kept_row row (published true limbo Medium copied row) (publish_medium row limbo copied s low parts is) refl refl refl refl refl (omega arith) (omega arith) refl

told_long : (row : RowState) (limbo : List RowFile) (copied : List Sample) → RowSound true row → Covered 0 limbo → AllByRecursion IsOfPart limbo → IsCopied limbo [] row.long row.medium copied → RowGoes true row (published true limbo Long copied row)
told_long row limbo copied s low parts is =
    let both = put_rises copied limbo row.long s.long is.rises parts is.fits in
    let up : end_of row.long ≤ end_from (end_of row.long) copied = end_from-ge (end_of row.long) copied is.rises in
    let now : end_of (put copied limbo row.long) ≡ end_from (end_of row.long) copied = both.1 in
    let one = end_of-over row.long row.medium s.medium in
    let two = end_of-over (put copied limbo row.long) row.medium s.medium in
    kept_row row (published true limbo Long copied row) (publish_long row limbo copied s low parts is) refl refl refl refl refl (omega arith) (omega arith) refl

told_short_leaves : (row : RowState) (to : ℕ) → RowSound true row → end_of (before to row.short) ≤ end_of row.medium → RowGoes true row (retired true Short to row)
told_short_leaves row to s low = kept_row row (retired true Short to row) (retire_short row to s low) refl refl refl refl refl (omega arith) (omega arith) refl

told_medium_leaves : (row : RowState) (to : ℕ) → RowSound true row → end_of (before to row.medium) ≤ end_of row.long → RowGoes true row (retired true Medium to row)
told_medium_leaves row to s low =
    let same : end_of (over row.long (since to row.medium)) ≡ end_of (over row.long row.medium) = ap end_of (retire_over row.long row.medium to s.medium low) in
    kept_row row (retired true Medium to row) (retire_medium row to s low) refl refl refl refl refl (omega arith) (omega arith) refl

-- what limbo is to a row
pub record Ground (told : Bool) (limbo : List RowFile) (i : ℕ) (row : RowState) : Type 0 where
  pub covered : (store : Store) → told ≡ true → Covered (end_of (deep row store)) (files_of i store limbo)
  pub parts : (store : Store) → told ≡ true → AllByRecursion IsOfPart (files_of i store limbo)

-- what a change asks of a row
abbrev pub RowMay : Bool → List RowFile → Change → ℕ → RowState → Type 0
RowMay told limbo (AddsRow name about) i row = Unit {0}
RowMay told limbo (SetsState k state) i row = i ≡ k → row.state ≢ Retired
RowMay told limbo (Renames k name) i row = Unit {0}
RowMay told limbo (Appends batch) i row = (rest : List Sample) × (row.tail ≡ of_row i batch ++ rest)
RowMay told limbo (Publishes k store copied) i row = i ≡ k → told ≡ true → (store ≢ Long) × CopiesOf limbo row k store copied
RowMay told limbo (Unlists k store to) i row = i ≡ k → told ≡ true → (store ≢ Long) × (end_of (before to (tier row store)) ≤ end_of (tier row (next_store store)))

publishes_here : (limbo : List RowFile) (k : ℕ) (store : Store) (copied : List Sample) (row : RowState) → RowSound true row → Ground true limbo k row → store ≢ Long → CopiesOf limbo row k store copied → RowGoes true row (published true (files_of k (next_store store) limbo) (next_store store) copied row)
publishes_here limbo k Short copied row s ground apart is = told_medium row (files_of k Medium limbo) copied s (ground.covered Medium refl) (ground.parts Medium refl) is
publishes_here limbo k Medium copied row s ground apart is = told_long row (files_of k Long limbo) copied s (ground.covered Long refl) (ground.parts Long refl) is
publishes_here limbo k Long copied row s ground apart is = absurd (apart refl)

leaves_here : (store : Store) (to : ℕ) (row : RowState) → RowSound true row → store ≢ Long → end_of (before to (tier row store)) ≤ end_of (tier row (next_store store)) → RowGoes true row (retired true store to row)
leaves_here Short to row s apart low = told_short_leaves row to s low
leaves_here Medium to row s apart low = told_medium_leaves row to s low
leaves_here Long to row s apart low = absurd (apart refl)

pub changed_goes : (told : Bool) (limbo : List RowFile) (change : Change) (i : ℕ) (row : RowState) → RowSound told row → Ground told limbo i row → RowMay told limbo change i row → RowGoes told row (changed told limbo change i row)
changed_goes told limbo (AddsRow name about) i row s ground may = stays_row told row s
changed_goes told limbo (SetsState k state) i row s ground may = at_row k i (without_held state) row (λ r. RowGoes told row r) (stays_row told row s) (λ is. state_row told state row s (λ gone. absurd (may is gone)))
changed_goes told limbo (Renames k name) i row s ground may = at_row k i (without_held Retired) row (λ r. RowGoes told row r) (stays_row told row s) (λ is. state_row told Retired row s (λ gone. refl))
changed_goes true limbo (Appends batch) i row s ground may = told_flush row (files_of i Short limbo) (of_row i batch) may.0 s may.1 (ground.covered Short refl) (ground.parts Short refl)
changed_goes false limbo (Appends batch) i row s ground may = untold_flush row (files_of i Short limbo) (of_row i batch) may.0 s may.1
changed_goes true limbo (Publishes k store copied) i row s ground may =
    at_row k i (published true (files_of k (next_store store) limbo) (next_store store) copied) row (λ r. RowGoes true row r) (stays_row true row s) (λ is. let both = may is refl in let here : Ground true limbo k row = subst (λ n. Ground true limbo n row) is ground in publishes_here limbo k store copied row s here both.0 both.1)
changed_goes false limbo (Publishes k store copied) i row s ground may =
    at_row k i (published false (files_of k (next_store store) limbo) (next_store store) copied) row (λ r. RowGoes false row r) (stays_row false row s) (λ is. stays_row false row s)
changed_goes true limbo (Unlists k store to) i row s ground may = at_row k i (retired true store to) row (λ r. RowGoes true row r) (stays_row true row s) (λ is. let both = may is refl in leaves_here store to row s both.0 both.1)
changed_goes false limbo (Unlists k store to) i row s ground may = at_row k i (retired false store to) row (λ r. RowGoes false row r) (stays_row false row s) (λ is. stays_row false row s)
