-- A move changes neither what is durable nor what is accepted.
use Rattle.std.proofs.Common.{◌≡◌, ◌≢◌, ℕ, ◌+◌, ◌≤◌, List, [], Some, true, refl, ap, sym, ◌∙◌, arith, subst}
use Rattle.std.specs.Prelude.{slice_get}
use Rattle.series_model.specs.declared.sample.Sample.{Sample}
use Rattle.series_model.specs.Series.{end_of, before}
use Rattle.act_model.specs.Reply.{Reply}
use Rattle.act_model.specs.Rows.{RowState, Store, Short, Medium, Long, next_store, tier, durable}
use Rattle.act_model.specs.Limbo.{RowFile, files_of}
use Rattle.act_model.specs.Machine.{Machine, Change, Publishes, Unlists}
use Rattle.act_model.specs.Changes.{made, each, changed, added, published, retired}
use Rattle.act_model.specs.MoveStep.{GoesOn, copies, has_copied, publishes, retires, again, damaged}
use Rattle.act_model.specs.Sound.{RowSound, CopiesOf, MayMake, IsSound}
use Rattle.act_model.specs.Growth.{RowsLike}
use Rattle.act_model.proofs.RowLaws.{publish_medium, publish_long, retire_short, retire_medium}
use Rattle.act_model.proofs.ChangeLaws.{RowGoes, Ground, RowMay, at_row}
use Rattle.act_model.proofs.MadeLaws.{ground, row_may, goes}
use Rattle.act_model.proofs.Onward.{each_forward, append_forward}
use Rattle.act_model.proofs.MoveActs.{publish_may, unlist_may}

same_rows : (rows news : List RowState) → news ≡ rows → RowsLike rows news
same_rows rows news is = λ i row here. (row, ap (λ w. slice_get w i) is ∙ here, record { durable_is = refl; accepted_is = refl })

-- copies that are listed
copied_there : (limbo : List RowFile) (k : ℕ) (store : Store) (copied : List Sample) (row : RowState) → RowSound true row → Ground true limbo k row → store ≢ Long → CopiesOf limbo row k store copied → durable (published true (files_of k (next_store store) limbo) (next_store store) copied row) ≡ durable row
copied_there limbo k Short copied row s g apart is = (publish_medium row (files_of k Medium limbo) copied s (g.covered Medium refl) (g.parts Medium refl) is).same
copied_there limbo k Medium copied row s g apart is = (publish_long row (files_of k Long limbo) copied s (g.covered Long refl) (g.parts Long refl) is).same
copied_there limbo k Long copied row s g apart is = absurd (apart refl)

-- parts that leave
left_there : (store : Store) (to : ℕ) (row : RowState) → RowSound true row → store ≢ Long → end_of (before to (tier row store)) ≤ end_of (tier row (next_store store)) → durable (retired true store to row) ≡ durable row
left_there Short to row s apart low = (retire_short row to s low).same
left_there Medium to row s apart low = (retire_medium row to s low).same
left_there Long to row s apart low = absurd (apart refl)

-- a move's two changes
data IsOfMove : Change → Type 0 where
  of_publishing : (k : ℕ) (store : Store) (copied : List Sample) → IsOfMove (Publishes k store copied)
  of_retiring : (k : ℕ) (store : Store) (to : ℕ) → IsOfMove (Unlists k store to)

durable_stays : (limbo : List RowFile) (change : Change) (i : ℕ) (row : RowState) → IsOfMove change → RowSound true row → Ground true limbo i row → RowMay true limbo change i row → durable (changed true limbo change i row) ≡ durable row
durable_stays limbo change i row (of_publishing k store copied) s g may =
    at_row k i (published true (files_of k (next_store store) limbo) (next_store store) copied) row (λ r. durable r ≡ durable row) refl
    (λ is. let both = may is refl in copied_there limbo k store copied row s (subst (λ n. Ground true limbo n row) is g) both.0 both.1)
durable_stays limbo change i row (of_retiring k store to) s g may = at_row k i (retired true store to) row (λ r. durable r ≡ durable row) refl (λ is. let both = may is refl in left_there store to row s both.0 both.1)

made_like : (m : Machine) (into : List RowFile) (change : Change) → IsOfMove change → m.told ≡ true → IsSound m → MayMake m.rule m.told m.rows m.limbo change → RowsLike m.rows (made into change m).rows
made_like m into change of t s may = λ i row here.
    let new = changed m.told m.limbo change i row in
    let sound : RowSound true row = subst (λ b. RowSound b row) t (s.each_row i row here) in
    let ground_here : Ground true m.limbo i row = subst (λ b. Ground b m.limbo i row) t (ground m.rule m.told m.rows m.limbo i row here s.each_file) in
    let may_here : RowMay true m.limbo change i row = subst (λ b. RowMay b m.limbo change i row) t (row_may m.rule m.told m.rows m.limbo change i row here may) in
    let stays : durable new ≡ durable row = ap (λ b. durable (changed b m.limbo change i row)) t ∙ durable_stays m.limbo change i row of sound ground_here may_here in
    let g : RowGoes m.told row new = goes m.rule m.told m.rows m.limbo change s.each_row s.each_file may i row here in
    let plain : 0 + i ≡ i = omega arith in
    let there : slice_get (each (changed m.told m.limbo change) 0 m.rows) i ≡ Some new = each_forward (changed m.told m.limbo change) 0 m.rows i row here ∙ ap (λ n. Some (changed m.told m.limbo change n row)) plain in
    (new, append_forward (each (changed m.told m.limbo change) 0 m.rows) (added change m.rows) i new there, record { durable_is = stays; accepted_is = g.same t })

-- whatever a move does, both lists of each row stay
pub goes_like : {n : ℕ} {mid new : Machine} {answer : Reply} → mid.told ≡ true → IsSound mid → GoesOn n mid answer new → RowsLike mid.rows new.rows
goes_like {mid = mid} {new = new} t s (copies move first more next rest here at left same) = same_rows mid.rows new.rows (ap (λ (m : Machine). m.rows) same)
goes_like {mid = mid} {new = new} t s (has_copied move xs here at left same) = same_rows mid.rows new.rows (ap (λ (m : Machine). m.rows) same)
goes_like {n} {mid} {new} t s (publishes move here at same) =
    subst (λ w. RowsLike mid.rows w) (sym (ap (λ (m : Machine). m.rows) same)) (made_like mid [] (Publishes move.row move.store move.copied) (of_publishing move.row move.store move.copied) t s (publish_may mid n move s here at))
goes_like {n} {mid} {new} t s (retires move into here at covers stays named same) =
    subst (λ w. RowsLike mid.rows w) (sym (ap (λ (m : Machine). m.rows) same)) (made_like mid into (Unlists move.row move.store move.to) (of_retiring move.row move.store move.to) t s (unlist_may mid n move s here covers))
goes_like {mid = mid} {new = new} t s (again move len copied here at grown less part same) = same_rows mid.rows new.rows (ap (λ (m : Machine). m.rows) same)
goes_like {mid = mid} {new = new} t s (damaged name at untold same) = same_rows mid.rows new.rows (ap (λ (m : Machine). m.rows) same)
