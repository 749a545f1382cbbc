-- Moves and the sweep keep the machine sound.
use Rattle.std.proofs.Common.{◌≡◌, ◌≢◌, ℕ, ◌<◌, ◌≤◌, List, [], ◌∷◌, ◌++◌, length, max, Option, Some, None, Bool, true, false, cond, refl, ap, sym, ◌∙◌, arith, subst, inl, inr, append-nil}
use Rattle.std.specs.Prelude.{◌⊎◌, ◌↔◌, ◌==◌, ◌||◌, nat_lt, nat_le, slice_get, filter}
use Rattle.std.proofs.lemmas.Bool.Decides.{nat_tests}
use Rattle.std.specs.List.{AllByRecursion, list_any}
use Rattle.std.specs.Ordering.{nat_cmp}
use Rattle.std.specs.FinMap.{FinMap, get, insert, remove, gets}
use Rattle.series_model.specs.declared.sample.Sample.{Sample}
use Rattle.series_model.specs.Archive.{IsPrefix}
use Rattle.series_model.specs.Series.{end_of, IsRising, since, before}
use Rattle.partition_names.specs.declared.part.Part.{Part}
use Rattle.act_model.specs.Reply.{Reply}
use Rattle.act_model.specs.Rows.{RowState, Store, Short, Medium, Long, same_store, next_store, tier, deep}
use Rattle.act_model.specs.Rule.{Rule, IsPartition, IsPartitionEnd}
use Rattle.act_model.specs.Limbo.{RowFile, files_of, Covered, Fits}
use Rattle.act_model.specs.Machine.{Machine, PinState, MoveState, Stage, Copies, HasCopied, HasPublished, Change, Publishes, Unlists}
use Rattle.act_model.specs.Changes.{made}
use Rattle.act_model.specs.Outcome.{all_go}
use Rattle.act_model.specs.MoveBegin.{MoveBeginStep, Begins, begins, all_run, none_to_make, new_move, with_move, HasMove}
use Rattle.act_model.specs.MoveStep.{without_move, ends_move, no_move, moved, MoveStepStep, GoesOn, copies, has_copied, publishes, retires, again, damaged, is_covered, change_of, change_at, RemainingIs}
use Rattle.act_model.specs.Sweep.{SweepStep, Sweeps, IsSwept, IsPinned, IsCopiedInto, is_at}
use Rattle.act_model.specs.Sound.{RowSound, IsCopied, CopiesOf, MoveSound, is_copying, IsStill, MayMake, EndedMove, LimboSound, IsUnlisted, Backed, PieceSound, IsSoundOf, IsSound}
use Rattle.act_model.proofs.Places.{places_filter}
use Rattle.act_model.proofs.Rows.{of_filter, of_all, of_both, fewer_of_place, there_is_row}
use Rattle.act_model.proofs.PinnedPieces.{there_filter}
use Rattle.act_model.proofs.MadeLaws.{ground}
use Rattle.act_model.proofs.MadeSound.{made_sound}
use Rattle.act_model.proofs.StepLaws.{Acts-sound, same_sound, fewer_moves}
use Rattle.act_model.proofs.Copies.{copies_more}

-- ONE MOVE IN THE MAP

inserted : (moves : FinMap nat_cmp MoveState) (n k : ℕ) (move other : MoveState) → get (insert moves n move) k ≡ Some other → ((k ≡ n) × (other ≡ move)) ⊎ ((k ≢ n) × (get moves k ≡ Some other))
inserted moves n k move other here = by_test (k == n) refl
  where
    by_test : (b : Bool) → (k == n) ≡ b → ((k ≡ n) × (other ≡ move)) ⊎ ((k ≢ n) × (get moves k ≡ Some other))
    by_test true is = let same : k ≡ n = grind (arith, nat_tests) in inl (same, grind (arith, gets, nat_tests))
    by_test false is = inr (grind (arith, nat_tests), grind (arith, gets, nat_tests))

removed : (moves : FinMap nat_cmp MoveState) (n k : ℕ) (other : MoveState) → get (remove moves n) k ≡ Some other → (k ≢ n) × (get moves k ≡ Some other)
removed moves n k other here = by_test (k == n) refl
  where
    by_test : (b : Bool) → (k == n) ≡ b → (k ≢ n) × (get moves k ≡ Some other)
    by_test true is = absurd (grind (arith, gets, nat_tests))
    by_test false is = (grind (arith, nat_tests), grind (arith, gets, nat_tests))

fewer : (n : ℕ) (moves : FinMap nat_cmp MoveState) (k : ℕ) (move : MoveState) → get (ends_move n moves) k ≡ Some move → get moves k ≡ Some move
fewer n moves k move here = (removed moves n k move here).1

-- what is put in the place of a move, or is new
module _ (rule : Rule) (told : Bool) (rows : List RowState) (limbo : List RowFile) (pins : FinMap nat_cmp PinState) (moves : FinMap nat_cmp MoveState) (doubt : Option Change)
    (s : IsSoundOf rule told rows limbo pins moves doubt) (none : doubt ≡ None) (n : ℕ) (move : MoveState)
    (own : MoveSound rule told rows limbo move) (apart : (k : ℕ) (other : MoveState) → get moves k ≡ Some other → k ≢ n → other.row ≢ move.row) where
  each_inserted : (k : ℕ) (other : MoveState) → get (insert moves n move) k ≡ Some other → MoveSound rule told rows limbo other
  each_inserted k other here = by_case (inserted moves n k move other here)
    where
      by_case : ((k ≡ n) × (other ≡ move)) ⊎ ((k ≢ n) × (get moves k ≡ Some other)) → MoveSound rule told rows limbo other
      by_case (inl is) = rw is.1 own
      by_case (inr is) = s.each_move k other is.1

  one_inserted : (j k : ℕ) (a b : MoveState) → get (insert moves n move) j ≡ Some a → get (insert moves n move) k ≡ Some b → a.row ≡ b.row → j ≡ k
  one_inserted j k a b here there same = by_case (inserted moves n j move a here) (inserted moves n k move b there)
    where
      by_case : ((j ≡ n) × (a ≡ move)) ⊎ ((j ≢ n) × (get moves j ≡ Some a)) → ((k ≡ n) × (b ≡ move)) ⊎ ((k ≢ n) × (get moves k ≡ Some b)) → j ≡ k
      by_case (inl p) (inl q) = p.0 ∙ sym q.0
      by_case (inl p) (inr q) = absurd (apart k b q.1 q.0 (sym same ∙ ap (λ (m : MoveState). m.row) p.1))
      by_case (inr p) (inl q) = absurd (apart j a p.1 p.0 (same ∙ ap (λ (m : MoveState). m.row) q.1))
      by_case (inr p) (inr q) = s.one_move j k a b p.1 q.1 same

  pub insert_sound : IsSoundOf rule told rows limbo pins (insert moves n move) doubt
  insert_sound = record { few = s.few; keys = s.keys; each_row = s.each_row; bases = s.bases; lines = s.lines; intake = s.intake; doubted = λ c is. absurd cc; each_move = each_inserted; one_move = one_inserted; each_file = s.each_file; each_unlisted = s.each_unlisted; places = s.places; pinned = s.pinned }

-- MOVE BEGIN

no_copies : (limbo : List RowFile) (below dest source : List Sample) → IsCopied limbo below dest source []
no_copies limbo below dest source = record { rises = tt; front = sym (nothing (max (end_of below) (end_of dest)) (end_of dest) source (omega arith)); fits = tt; until = omega arith }
  where
    nothing : (k c : ℕ) (xs : List Sample) → c ≤ k → since k (before c xs) ≡ []
    nothing k c [] low = refl
    nothing k c (x ∷ xs) low = by_test (nat_lt x.t c) refl (nothing k c xs low)
      where
        by_test : (b : Bool) → nat_lt x.t c ≡ b → since k (before c xs) ≡ [] → since k (cond b (x ∷ before c xs) (before c xs)) ≡ []
        by_test true is more = let out : nat_le k x.t ≡ false = grind (arith, nat_tests) in rw out more
        by_test false is more = more

-- a move goes to the end of a partition
middle : (P : Part → Type 0) (xs ys : List Part) (p : Part) → AllByRecursion P (xs ++ p ∷ ys) → P p
middle P [] ys p all = all.0
middle P (x ∷ xs) ys p all = middle P xs ys p all.1

move_edge : (rule : Rule) (rows : List RowState) (store : Store) (now i n to : ℕ) → i < length rows → ((row : RowState) → slice_get rows i ≡ Some row → HasMove rule store now row n to) → IsPartitionEnd rule store to
move_edge rule rows store now i n to low has = by_row (slice_get rows i) refl
  where
    by_row : (o : Option RowState) → slice_get rows i ≡ o → IsPartitionEnd rule store to
    by_row None none = absurd (there_is_row rows i low none)
    by_row (Some row) here =
        let h = has row here in
        let l = h.last in
        let each_one : AllByRecursion (IsPartition rule store) (l.0 ++ l.2 ∷ l.1) = subst (λ w. AllByRecursion (IsPartition rule store) w) l.3 h.are.each_one in
        record { part = l.2; partition = middle (IsPartition rule store) l.0 l.1 l.2 each_one; end = l.5 }

begins_sound : {store : Store} {now : ℕ} {mid new : Machine} {answer : Reply} → IsSound mid → mid.doubt ≡ None → Begins store now mid answer new → IsSound new
begins_sound {store} {now} {mid} {new} s none (begins n i parts to apart low free empty least has passed same) =
    let move = new_move store i parts to in
    let own : MoveSound mid.rule mid.told mid.rows mid.limbo move = record { here = low; moves = apart; edge = λ t. move_edge mid.rule mid.rows store now i parts to low (has t); copied = λ row here t copies. no_copies (files_of i (next_store store) mid.limbo) (deep row (next_store store)) (tier row (next_store store)) (tier row store) } in
    same_sound (with_move n move mid) new same (insert_sound mid.rule mid.told mid.rows mid.limbo mid.pins mid.moves mid.doubt s none n move own (λ k other here differ. free k other here))
begins_sound {mid = mid} {new = new} s none (all_run n i moving made passed has same) = same_sound mid new same s
begins_sound {mid = mid} {new = new} s none (none_to_make has same) = same_sound mid new same s

all_fewer : (moves : FinMap nat_cmp MoveState) (n : ℕ) (move : MoveState) → get (all_go moves) n ≡ Some move → get moves n ≡ Some move
all_fewer moves n move here = here

abbrev no_reply : Option Reply
no_reply = None

no_change : (mid : Machine) (one : Change) → IsSound mid → mid.doubt ≡ None → no_reply ≡ None → None ≡ Some one → MayMake mid.rule mid.told mid.rows mid.limbo one × EndedMove mid.moves one
no_change mid one s none free is = absurd cc

pub move_begin_sound : (store : Store) (now : ℕ) (old new : Machine) (answer : Reply) → IsSound old → MoveBeginStep store now old answer new → IsSound new
move_begin_sound store now old new answer s step = Acts-sound (λ m. None) (Begins store now) (λ m. None) all_go all_fewer (λ mid answer new s none free ran. begins_sound s none ran) no_change s step

-- MOVE STEP

-- no other move is of the row of a move
others : (mid : Machine) (n : ℕ) (move : MoveState) → IsSound mid → get mid.moves n ≡ Some move → (k : ℕ) (other : MoveState) → get mid.moves k ≡ Some other → k ≢ n → other.row ≢ move.row
others mid n move s here k other there differ same = differ (s.one_move k n other move there here same)

more_copied : (mid : Machine) (n : ℕ) (move : MoveState) (stage : Stage) (chunk later : List Sample) → IsSound mid → get mid.moves n ≡ Some move → move.stage ≡ Copies → RemainingIs mid move (chunk ++ later) → MoveSound mid.rule mid.told mid.rows mid.limbo (moved move stage (move.copied ++ chunk))
more_copied mid n move stage chunk later s here at left =
    let old : MoveSound mid.rule mid.told mid.rows mid.limbo move = s.each_move n move here in
    record {
      here = old.here;
      moves = old.moves;
      edge = old.edge;
      copied = λ row there t copying.
          let sound : RowSound true row = subst (λ b. RowSound b row) t (s.each_row move.row row there) in
          let low : Covered (end_of (deep row (next_store move.store))) (files_of move.row (next_store move.store) mid.limbo) = (ground mid.rule mid.told mid.rows mid.limbo move.row row there s.each_file).covered (next_store move.store) t in
          let was : CopiesOf mid.limbo row move.row move.store move.copied = old.copied row there t (ap is_copying at) in
          copies_more (files_of move.row (next_store move.store) mid.limbo) (deep row (next_store move.store)) (tier row (next_store move.store)) (tier row move.store) move.copied chunk later move.to (rises row sound move.store) low was (left t row there);
    }
  where
    rises : (row : RowState) → RowSound true row → (store : Store) → IsRising (tier row store)
    rises row sound Short = sound.short
    rises row sound Medium = sound.medium
    rises row sound Long = sound.long

pub publish_may : (mid : Machine) (n : ℕ) (move : MoveState) → IsSound mid → get mid.moves n ≡ Some move → move.stage ≡ HasCopied → MayMake mid.rule mid.told mid.rows mid.limbo (Publishes move.row move.store move.copied)
publish_may mid n move s here at = let old = s.each_move n move here in record { here = old.here; moves = old.moves; front = λ row there t. old.copied row there t (ap is_copying at) }

pub unlist_may : (mid : Machine) (n : ℕ) (move : MoveState) → IsSound mid → get mid.moves n ≡ Some move → is_covered mid move ≡ true → MayMake mid.rule mid.told mid.rows mid.limbo (Unlists move.row move.store move.to)
unlist_may mid n move s here covers =
    let old = s.each_move n move here in
    record { here = old.here; moves = old.moves; edge = old.edge; covered = λ row there t. covered_row row there t covers }
  where
    covered_row : (row : RowState) → slice_get mid.rows move.row ≡ Some row → mid.told ≡ true → is_covered mid move ≡ true → end_of (before move.to (tier row move.store)) ≤ end_of (tier row (next_store move.store))
    covered_row row there t is = let low : nat_le (end_of (before move.to (tier row move.store))) (end_of (tier row (next_store move.store))) ≡ true = rw (t, there) at is in grind (arith, nat_tests)

-- once a move has published, or is gone, no copies of its row are left
still_published : (mid : Machine) (n : ℕ) (move : MoveState) → IsSound mid → get mid.moves n ≡ Some move → IsStill (insert mid.moves n (moved move HasPublished move.copied)) move.row
still_published mid n move s here = λ k other there copying same. by_case k other copying same (inserted mid.moves n k (moved move HasPublished move.copied) other there)
  where
    by_case : (k : ℕ) (other : MoveState) → is_copying other.stage ≡ true → other.row ≡ move.row → ((k ≡ n) × (other ≡ moved move HasPublished move.copied)) ⊎ ((k ≢ n) × (get mid.moves k ≡ Some other)) → ⊥
    by_case k other copying same (inl is) = let bad : is_copying other.stage ≡ false = ap (λ (m : MoveState). is_copying m.stage) is.1 in cc
    by_case k other copying same (inr is) = others mid n move s here k other is.1 is.0 same

still_gone : (mid : Machine) (n : ℕ) (move : MoveState) → IsSound mid → get mid.moves n ≡ Some move → IsStill (ends_move n mid.moves) move.row
still_gone mid n move s here = λ k other there copying same. let old = removed mid.moves n k other there in others mid n move s here k other old.1 old.0 same

goes_sound : {n : ℕ} {mid new : Machine} {answer : Reply} → IsSound mid → mid.doubt ≡ None → GoesOn n mid answer new → IsSound new
goes_sound {n} {mid} {new} s none (copies move first more next rest here at left same) =
    let now = moved move Copies (move.copied ++ (first ∷ more)) in
    same_sound (with_move n now mid) new same (insert_sound mid.rule mid.told mid.rows mid.limbo mid.pins mid.moves mid.doubt s none n now (more_copied mid n move Copies (first ∷ more) (next ∷ rest) s here at left) (others mid n move s here))
goes_sound {n} {mid} {new} s none (has_copied move xs here at left same) =
    let now = moved move HasCopied (move.copied ++ xs) in
    let all : RemainingIs mid move (xs ++ []) = λ t row there. left t row there ∙ sym (append-nil xs) in
    same_sound (with_move n now mid) new same (insert_sound mid.rule mid.told mid.rows mid.limbo mid.pins mid.moves mid.doubt s none n now (more_copied mid n move HasCopied xs [] s here at all) (others mid n move s here))
goes_sound {n} {mid} {new} s none (publishes move here at same) =
    let change = Publishes move.row move.store move.copied in
    let now = moved move HasPublished move.copied in
    let old = s.each_move n move here in
    let own : MoveSound mid.rule mid.told mid.rows mid.limbo now = record { here = old.here; moves = old.moves; edge = old.edge; copied = λ row there t copying. absurd cc } in
    let wide = insert_sound mid.rule mid.told mid.rows mid.limbo mid.pins mid.moves mid.doubt s none n now own (others mid n move s here) in
    let after = with_move n now (made [] change mid) in
    let sound : IsSoundOf after.rule after.told after.rows after.limbo after.pins after.moves None = made_sound mid [] change s (publish_may mid n move s here at) refl (insert mid.moves n now) (still_published mid n move s here) wide.each_move wide.one_move in
    same_sound after new same (subst (λ d. IsSoundOf after.rule after.told after.rows after.limbo after.pins after.moves d) (sym none) sound)
goes_sound {n} {mid} {new} s none (retires move into here at covers stays named same) =
    let change = Unlists move.row move.store move.to in
    let thin = fewer_moves mid.rule mid.told mid.rows mid.limbo mid.pins mid.moves (ends_move n mid.moves) mid.doubt (fewer n mid.moves) s in
    let after = without_move n (made into change mid) in
    let sound : IsSoundOf after.rule after.told after.rows after.limbo after.pins after.moves None = made_sound mid into change s (unlist_may mid n move s here covers) stays (ends_move n mid.moves) (still_gone mid n move s here) thin.each_move thin.one_move in
    same_sound after new same (subst (λ d. IsSoundOf after.rule after.told after.rows after.limbo after.pins after.moves d) (sym none) sound)
goes_sound {n} {mid} {new} s none (again move len copied here at grown less part same) = same_sound (without_move n mid) new same (fewer_moves mid.rule mid.told mid.rows mid.limbo mid.pins mid.moves (ends_move n mid.moves) mid.doubt (fewer n mid.moves) s)
goes_sound {n} {mid} {new} s none (damaged name at untold same) = same_sound (without_move n mid) new same (fewer_moves mid.rule mid.told mid.rows mid.limbo mid.pins mid.moves (ends_move n mid.moves) mid.doubt (fewer n mid.moves) s)

pub step_may : (n : ℕ) (mid : Machine) (one : Change) → IsSound mid → change_of mid (get mid.moves n) ≡ Some one → MayMake mid.rule mid.told mid.rows mid.limbo one × EndedMove (ends_move n mid.moves) one
step_may n mid one s is = by_move (get mid.moves n) refl is
  where
    Good : Change → Type 0
    Good c = MayMake mid.rule mid.told mid.rows mid.limbo c × EndedMove (ends_move n mid.moves) c

    by_covered : (move : MoveState) → get mid.moves n ≡ Some move → (b : Bool) → is_covered mid move ≡ b → cond b (Some (Unlists move.row move.store move.to)) None ≡ Some one → MayMake mid.rule mid.told mid.rows mid.limbo one × EndedMove (ends_move n mid.moves) one
    by_covered move here true covers is = let same : Unlists move.row move.store move.to ≡ one = cc in subst (λ c. MayMake mid.rule mid.told mid.rows mid.limbo c × EndedMove (ends_move n mid.moves) c) same (unlist_may mid n move s here covers, still_gone mid n move s here)
    by_covered move here false covers is = absurd cc

    by_stage : (move : MoveState) → get mid.moves n ≡ Some move → (stage : Stage) → move.stage ≡ stage → change_at mid stage move ≡ Some one → MayMake mid.rule mid.told mid.rows mid.limbo one × EndedMove (ends_move n mid.moves) one
    by_stage move here Copies at is = absurd cc
    by_stage move here HasCopied at is = let same : Publishes move.row move.store move.copied ≡ one = cc in subst (λ c. MayMake mid.rule mid.told mid.rows mid.limbo c × EndedMove (ends_move n mid.moves) c) same (publish_may mid n move s here at, still_gone mid n move s here)
    by_stage move here HasPublished at is = by_covered move here (is_covered mid move) refl is

    by_move : (o : Option MoveState) → get mid.moves n ≡ o → change_of mid o ≡ Some one → MayMake mid.rule mid.told mid.rows mid.limbo one × EndedMove (ends_move n mid.moves) one
    by_move None here is = absurd cc
    by_move (Some move) here is = by_stage move here move.stage refl is

pub move_step_sound : (n : ℕ) (old new : Machine) (answer : Reply) → IsSound old → MoveStepStep n old answer new → IsSound new
move_step_sound n old new answer s step =
    Acts-sound (λ m. no_move (get m.moves n)) (GoesOn n) (λ m. change_of m (get m.moves n)) (ends_move n) (fewer n) (λ mid answer new s none free ran. goes_sound s none ran) (λ mid one s none free is. step_may n mid one s is) s step

-- SWEEP

fits_fewer : (p : RowFile → Bool) (i : ℕ) (store : Store) (limbo : List RowFile) (xs : List Sample) → AllByRecursion (Fits (files_of i store limbo)) xs → AllByRecursion (Fits (files_of i store (filter p limbo))) xs
fits_fewer p i store limbo [] all = tt
fits_fewer p i store limbo (s ∷ xs) all = (fewer_of_place _ p i store limbo all.0, fits_fewer p i store limbo xs all.1)

same_store-refl : (s : Store) → same_store s s ≡ true
same_store-refl Short = refl
same_store-refl Medium = refl
same_store-refl Long = refl

or_left : (a b : Bool) → a ≡ true → (a || b) ≡ true
or_left true b is = refl
or_left false b is = absurd cc

or_right : (a b : Bool) → b ≡ true → (a || b) ≡ true
or_right true b is = refl
or_right false b is = is

-- each piece of a list is named by the list
named_from : (all xs : List RowFile) → ((f : RowFile) → list_any (is_at f) xs ≡ true → list_any (is_at f) all ≡ true) → AllByRecursion (λ (piece : RowFile). (f : RowFile) → is_at f piece ≡ true → list_any (is_at f) all ≡ true) xs
named_from all [] more = tt
named_from all (x ∷ xs) more = (λ f is. more f (or_left (is_at f x) (list_any (is_at f) xs) is), named_from all xs (λ f is. more f (or_right (is_at f x) (list_any (is_at f) xs) is)))

same_place : (f piece : RowFile) → f.row ≡ piece.row → f.store ≡ piece.store → f.part ≡ piece.part → is_at f piece ≡ true
same_place f piece a b c =
    let rows : (piece.row == f.row) ≡ true = grind (arith, nat_tests) in
    let stores : same_store piece.store f.store ≡ true = ap (λ w. same_store piece.store w) b ∙ same_store-refl piece.store in
    let starts : (piece.part.start == f.part.start) ≡ true = let same : f.part.start ≡ piece.part.start = ap (λ (p : Part). p.start) c in grind (arith, nat_tests) in
    rw (rows, stores, starts) refl

-- a piece of a pin stays where no file that a pin names leaves limbo
swept_piece : (m : Machine) (stays : RowFile → Bool) → IsSwept m stays m.limbo → (n : ℕ) (pin : PinState) → get m.pins n ≡ Some pin → (piece : RowFile) → ((f : RowFile) → is_at f piece ≡ true → list_any (is_at f) pin.pieces ≡ true)
    → PieceSound m.rule m.rows m.limbo piece → PieceSound m.rule m.rows (filter stays m.limbo) piece
swept_piece m stays just n pin here piece named p =
    record {
      here = p.here;
      partition = p.partition;
      extend = fewer_of_place (λ f. f.part ≡ piece.part → IsPrefix piece.samples f.samples) stays piece.row piece.store m.limbo p.extend;
      backed = λ row there. by_case row (p.backed row there);
    }
  where
    stay : AllByRecursion (λ (f : RowFile). f.row ≡ piece.row → f.store ≡ piece.store → f.part ≡ piece.part → stays f ≡ true) m.limbo
    stay = of_all (λ f. (stays f ≡ true) ↔ (IsPinned m f ⊎ IsCopiedInto m f)) (λ (f : RowFile). f.row ≡ piece.row → f.store ≡ piece.store → f.part ≡ piece.part → stays f ≡ true) m.limbo
        (λ f one a b c. one.1 (inl (record { number = n; pin = pin; here = here; names = named f (same_place f piece a b c) }))) just

    by_case : (row : RowState) → Backed m.limbo row piece → Backed (filter stays m.limbo) row piece
    by_case row (inl q) = inl q
    by_case row (inr q) = inr (q.0, there_filter piece.part piece.row piece.store stays m.limbo stay q.1)

swept_sound : (m : Machine) (stays : RowFile → Bool) → IsSound m → m.doubt ≡ None → IsSwept m stays m.limbo → IsSound (record m { limbo = filter stays m.limbo })
swept_sound m stays s none just =
    record {
      few = s.few;
      keys = s.keys;
      each_row = s.each_row;
      bases = s.bases;
      lines = s.lines;
      intake = s.intake;
      doubted = λ c is. absurd cc;
      each_move = λ n move here. let old = s.each_move n move here in
          record { here = old.here; moves = old.moves; edge = old.edge; copied = λ row there t copying. let c = old.copied row there t copying in record { rises = c.rises; front = c.front; fits = fits_fewer stays move.row (next_store move.store) m.limbo move.copied c.fits; until = c.until } };
      one_move = s.one_move;
      each_file = of_filter (LimboSound m.rule m.told m.rows) stays m.limbo s.each_file;
      each_unlisted = of_filter (IsUnlisted m.rows) stays m.limbo s.each_unlisted;
      places = λ t. places_filter stays m.limbo (s.places t);
      pinned = λ t n pin here. of_both (λ (piece : RowFile). (f : RowFile) → is_at f piece ≡ true → list_any (is_at f) pin.pieces ≡ true) (PieceSound m.rule m.rows m.limbo) (PieceSound m.rule m.rows (filter stays m.limbo)) pin.pieces
          (λ piece named p. swept_piece m stays just n pin here piece named p) (named_from pin.pieces pin.pieces (λ f is. is)) (s.pinned t n pin here);
    }

pub sweep_sound : (old new : Machine) (answer : Reply) → IsSound old → SweepStep old answer new → IsSound new
sweep_sound old new answer s step =
    Acts-sound (λ m. None) Sweeps (λ m. None) all_go all_fewer (λ mid answer new s none free ran. same_sound (record mid { limbo = filter ran.stays mid.limbo }) new ran.same (swept_sound mid ran.stays s none ran.just)) no_change s step
