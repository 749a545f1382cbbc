-- A pin and details over the tail of a Look keep the machine sound.
use Rattle.std.proofs.Common.{◌≡◌, ◌≢◌, ℕ, List, Option, Some, None, true, refl, ap, sym, ◌∙◌, subst, inl, inr}
use Rattle.std.specs.Prelude.{slice_get, ◌⊎◌}
use Rattle.std.specs.FinMap.{get, insert}
use Rattle.std.specs.List.{AllByRecursion}
use Rattle.series_model.specs.declared.sample.Query.{Query}
use Rattle.series_model.specs.declared.sample.Sample.{Sample}
use Rattle.act_model.specs.Details.{details_refused, Describes}
use Rattle.act_model.specs.Limbo.{RowFile}
use Rattle.act_model.specs.Machine.{Machine, PinState, Change, find_row}
use Rattle.act_model.specs.Outcome.{Acts, all_go}
use Rattle.act_model.specs.Pin.{MakesPin, pins, IsListedPiece, IsPieceOf}
use Rattle.act_model.specs.Reply.{Reply}
use Rattle.act_model.specs.Rows.{RowState, Store, Short, Medium, Long, tier, window}
use Rattle.act_model.specs.Rule.{Rule}
use Rattle.act_model.specs.Sound.{MayMake, EndedMove, PieceSound, IsSound}
use Rattle.act_model.proofs.PinActs.{pin_inserted, other_pins, listed_sound}
use Rattle.act_model.proofs.Rows.{of_all}
use Rattle.act_model.proofs.StepLaws.{Acts-sound, same_sound}
use Rattle.two_histories.specs.ArchiveIntake.{RowLook}
use Rattle.two_histories.specs.StoreStep.{part_with, tail_rows, tail_of, with_batch, OverTail}
use Rattle.two_histories.proofs.Flushing.{batch_row, with_back}
use Rattle.act_model.proofs.RowActs.{all_fewer}

-- the row without the tail of the Look: another tail is no matter to its pieces
other_tail : (xs : List Sample) (n : ℕ) (row : RowState) (store : Store) → tier (record row { tail = xs; next = n }) store ≡ tier row store
other_tail xs n row Short = refl
other_tail xs n row Medium = refl
other_tail xs n row Long = refl

listed_piece : (rule : Rule) (i : ℕ) (xs : List Sample) (n : ℕ) (row : RowState) (f : RowFile) → IsListedPiece rule i (record row { tail = xs; next = n }) f → IsListedPiece rule i row f
listed_piece rule i xs n row f l =
    record {
      own = l.own;
      partition = l.partition;
      samples = l.samples ∙ ap (λ w. window f.part w) (other_tail xs n row f.store);
      some = l.some;
      file = record { whole = l.file.whole; message = l.file.message; means = l.file.means; header = l.file.header; says = l.file.says; ty = l.file.ty; lines = l.file.lines; rising = l.file.rising };
    }

-- the row of the Look's machine, and what it is in the machine itself
record OwnRow (m : Machine) (look : RowLook) (i : ℕ) (row : RowState) : Type 0 where
  own : RowState
  here : slice_get m.rows i ≡ Some own
  xs : List Sample
  n : ℕ
  is : row ≡ record own { tail = xs; next = n }

own_row : (m : Machine) (look : RowLook) (i : ℕ) (row : RowState) → slice_get (tail_rows look m) i ≡ Some row → OwnRow m look i row
own_row m look i row there = by_name (find_row m look.name) refl
  where
    by_name : (o : Option ℕ) → find_row m look.name ≡ o → OwnRow m look i row
    by_name None none = record { own = row; here = (let same : tail_rows look m ≡ m.rows = rw none refl in sym (ap (λ w. slice_get w i) same) ∙ there); xs = row.tail; n = row.next; is = refl }
    by_name (Some k) found =
        let batch = part_with k look.tail in
        let same : tail_rows look m ≡ (with_batch batch m).rows = rw found refl in
        let o = with_back m batch i row (sym (ap (λ w. slice_get w i) same) ∙ there) in
        let new = batch_row m batch i o.0 in
        record { own = o.0; here = o.1; xs = new.tail; n = new.next; is = o.2 }

-- PARTS

none_may : (look : RowLook) (mid : Machine) (one : Change) → IsSound mid → mid.doubt ≡ None → details_refused look.name mid ≡ None → None ≡ Some one → MayMake mid.rule mid.told mid.rows mid.limbo one × EndedMove mid.moves one
none_may look mid one s none free is = absurd cc

pinned_sound : {who : ℕ} {name : List ℕ} {query : Query} {reply : Reply} (look : RowLook) (mid end new : Machine) → IsSound mid → MakesPin who name query (tail_of look mid) reply end → new ≡ record end { rows = mid.rows } → IsSound new
pinned_sound {who} look mid end new s (pins i row pin pieces found here free least listed order gives few same) is =
    let made : PinState = record { owner = who; pieces = pieces } in
    let all : new ≡ record mid { pins = insert mid.pins pin made; faults = end.faults } = is ∙ ap (λ (m : Machine). record m { rows = mid.rows }) same in
    let sound : IsSound (record mid { pins = insert mid.pins pin made }) = other_pins mid (insert mid.pins pin made) s (λ t n other there. by_case made t n other (pin_inserted mid.pins pin n made other there) refl) in
    subst (λ m. IsSound m) (sym all) sound
  where
    own_sound : (f : RowFile) → IsPieceOf mid.rule (tail_rows look mid) i row f → PieceSound mid.rule mid.rows mid.limbo f
    own_sound f p =
        let own = own_row mid look f.row p.own p.here in
        listed_sound mid.rule mid.rows mid.limbo f.row own.own own.here s.each_unlisted f (listed_piece mid.rule f.row own.xs own.n own.own f (subst (λ r. IsListedPiece mid.rule f.row r f) own.is p.listed))

    by_case : (made : PinState) → mid.told ≡ true → (n : ℕ) (other : PinState) → ((n ≡ pin) × (other ≡ made)) ⊎ ((n ≢ pin) × (get mid.pins n ≡ Some other)) → made.pieces ≡ pieces → AllByRecursion (PieceSound mid.rule mid.rows mid.limbo) other.pieces
    by_case made t n other (inl same') has =
        let sound = of_all (IsPieceOf mid.rule (tail_rows look mid) i row) (PieceSound mid.rule mid.rows mid.limbo) pieces own_sound (listed t) in
        subst (λ (p : PinState). AllByRecursion (PieceSound mid.rule mid.rows mid.limbo) p.pieces) (sym same'.1) (subst (λ w. AllByRecursion (PieceSound mid.rule mid.rows mid.limbo) w) (sym has) sound)
    by_case made t n other (inr there) has = s.pinned t n other there.1

pub pins_keep : (who : ℕ) (query : Query) (look : RowLook) (old new : Machine) (reply : Reply) → IsSound old → Acts (details_refused look.name) (OverTail look (MakesPin who look.name query)) (λ m. None) all_go old reply new → IsSound new
pins_keep who query look old new reply s step =
    Acts-sound (details_refused look.name) (OverTail look (MakesPin who look.name query)) (λ m. None) all_go all_fewer (λ mid answer after sound none free ran. pinned_sound look mid ran.0 after sound ran.1 ran.2) (none_may look) s step

described_sound : (look : RowLook) (mid end new : Machine) {reply : Reply} → IsSound mid → Describes look.name (tail_of look mid) reply end → new ≡ record end { rows = mid.rows } → IsSound new
described_sound look mid end new s d is = same_sound mid new (is ∙ (ap (λ (m : Machine). record m { rows = mid.rows }) d.same ∙ faults_are)) s
  where
    faults_are : record mid { faults = end.faults } ≡ record mid { faults = new.faults }
    faults_are = ap (λ n. record mid { faults = n }) (sym (ap (λ (m : Machine). m.faults) is))

pub describes_keep : (look : RowLook) (old new : Machine) (reply : Reply) → IsSound old → Acts (details_refused look.name) (OverTail look (Describes look.name)) (λ m. None) all_go old reply new → IsSound new
describes_keep look old new reply s step =
    Acts-sound (details_refused look.name) (OverTail look (Describes look.name)) (λ m. None) all_go all_fewer (λ mid answer after sound none free ran. described_sound look mid ran.0 after sound ran.1 ran.2) (none_may look) s step
