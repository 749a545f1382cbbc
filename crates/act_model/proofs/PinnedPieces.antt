-- A change keeps each pinned piece: it is the front of its partition's listed file, or of its file in limbo.
use Rattle.std.proofs.Common.{◌≡◌, ℕ, ◌+◌, ◌<◌, ◌≤◌, List, [], ◌∷◌, ◌++◌, length, Option, Some, None, Bool, true, false, cond, refl, ap, sym, ◌∙◌, arith, subst, inl, inr}
use Rattle.std.proofs.lemmas.Bool.Decides.{nat_tests}
use Rattle.std.specs.Prelude.{◌⊎◌, ◌==◌, ◌&&◌, slice_get, filter}
use Rattle.std.specs.List.{AllByRecursion}
use Rattle.std.specs.FinMap.{get}
use Rattle.series_model.specs.declared.sample.Sample.{Sample}
use Rattle.series_model.specs.Archive.{IsPrefix}
use Rattle.series_model.specs.Series.{since}
use Rattle.partition_names.specs.declared.part.Part.{Part}
use Rattle.pb_messages.specs.declared.about.State.{State}
use Rattle.pb_messages.specs.declared.about.State.TheVariants.{Retired}
use Rattle.act_model.specs.Rows.{RowState, Store, Short, Medium, Long, same_store, next_store, tier, window, holds, is_empty}
use Rattle.act_model.specs.Rule.{IsPartition}
use Rattle.act_model.specs.Limbo.{RowFile, files_of, put, tier_at, unlisted, IsThere, Extend}
use Rattle.act_model.specs.Machine.{Machine, PinState, Change, AddsRow, SetsState, Renames, Appends, Publishes, Unlists}
use Rattle.act_model.specs.Changes.{changed, changed_rows, added, published, retired, without_held, of_row, Retires, IsRetired}
use Rattle.act_model.specs.Sound.{MayMake, MayUnlist, LimboSound, Backed, PieceSound, PinsSound}
use Rattle.act_model.proofs.ChangeLaws.{at_row}
use Rattle.act_model.proofs.Partitions.{one_partition, not_cut}
use Rattle.act_model.proofs.Rows.{Came, from_row, is_new, came, of_place, of_all, of_both, all_of, fewer_of_place, same_store_is, more_rows, there_is_row}
use Rattle.act_model.proofs.Revivals.{IsFileOf, piece_put, piece_revived, window_left, window_gone}

-- WHAT A CHANGE DOES TO ONE STORE OF A ROW

pub data TierGoes (limbo : List RowFile) (change : Change) (i : ℕ) (row new : RowState) (st : Store) : Type 0 where
  same_tier : tier new st ≡ tier row st → TierGoes limbo change i row new st
  put_tier : (xs : List Sample) → tier new st ≡ put xs (files_of i st limbo) (tier row st) → TierGoes limbo change i row new st
  left_tier : (to : ℕ) → change ≡ Unlists i st to → tier new st ≡ since to (tier row st) → TierGoes limbo change i row new st

held_tier : (state : State) (row : RowState) (st : Store) → tier (without_held state row) st ≡ tier row st
held_tier state row Short = refl
held_tier state row Medium = refl
held_tier state row Long = refl

pub tier_goes : (limbo : List RowFile) (change : Change) (i : ℕ) (row : RowState) (st : Store) → TierGoes limbo change i row (changed true limbo change i row) st
tier_goes limbo (AddsRow name about) i row st = same_tier refl
tier_goes limbo (SetsState k state) i row st = at_row k i (without_held state) row (λ r. TierGoes limbo (SetsState k state) i row r st) (same_tier refl) (λ is. same_tier (held_tier state row st))
tier_goes limbo (Renames k name) i row st = at_row k i (without_held Retired) row (λ r. TierGoes limbo (Renames k name) i row r st) (same_tier refl) (λ is. same_tier (held_tier Retired row st))
tier_goes limbo (Appends batch) i row Short = put_tier (of_row i batch) refl
tier_goes limbo (Appends batch) i row Medium = same_tier refl
tier_goes limbo (Appends batch) i row Long = same_tier refl
tier_goes limbo (Publishes k store copied) i row st = at_row k i (published true (files_of k (next_store store) limbo) (next_store store) copied) row (λ r. TierGoes limbo (Publishes k store copied) i row r st) (same_tier refl) (λ is. by_store store st is)
  where
    by_store : (store st : Store) → i ≡ k → TierGoes limbo (Publishes k store copied) i row (published true (files_of k (next_store store) limbo) (next_store store) copied row) st
    by_store Short Short is = same_tier refl
    by_store Short Medium is = put_tier copied (ap (λ n. put copied (files_of n Medium limbo) row.medium) (sym is))
    by_store Short Long is = same_tier refl
    by_store Medium Short is = same_tier refl
    by_store Medium Medium is = same_tier refl
    by_store Medium Long is = put_tier copied (ap (λ n. put copied (files_of n Long limbo) row.long) (sym is))
    by_store Long Short is = same_tier refl
    by_store Long Medium is = same_tier refl
    by_store Long Long is = put_tier copied (ap (λ n. put copied (files_of n Long limbo) row.long) (sym is))
tier_goes limbo (Unlists k store to) i row st = at_row k i (retired true store to) row (λ r. TierGoes limbo (Unlists k store to) i row r st) (same_tier refl) (λ is. by_store store st is)
  where
    by_store : (store st : Store) → i ≡ k → TierGoes limbo (Unlists k store to) i row (retired true store to row) st
    by_store Short Short is = left_tier to (ap (λ n. Unlists n Short to) (sym is)) refl
    by_store Short Medium is = same_tier refl
    by_store Short Long is = same_tier refl
    by_store Medium Short is = same_tier refl
    by_store Medium Medium is = left_tier to (ap (λ n. Unlists n Medium to) (sym is)) refl
    by_store Medium Long is = same_tier refl
    by_store Long Short is = same_tier refl
    by_store Long Medium is = same_tier refl
    by_store Long Long is = left_tier to (ap (λ n. Unlists n Long to) (sym is)) refl

-- WHAT STAYS IN LIMBO

there_append : (p : Part) (i : ℕ) (st : Store) (limbo into : List RowFile) → IsThere p (files_of i st limbo) ⊎ IsThere p (files_of i st into) → IsThere p (files_of i st (limbo ++ into))
there_append p i st [] into (inl there) = absurd there
there_append p i st [] into (inr there) = there
there_append p i st (f ∷ limbo) into there = by_test (f.row == i && same_store f.store st) there (λ t. there_append p i st limbo into t)
  where
    by_test : (b : Bool) → IsThere p (cond b (f ∷ files_of i st limbo) (files_of i st limbo)) ⊎ IsThere p (files_of i st into) → (IsThere p (files_of i st limbo) ⊎ IsThere p (files_of i st into) → IsThere p (files_of i st (limbo ++ into)))
        → IsThere p (cond b (f ∷ files_of i st (limbo ++ into)) (files_of i st (limbo ++ into)))
    by_test true (inl (inl same)) more = inl same
    by_test true (inl (inr t)) more = inr (more (inl t))
    by_test true (inr t) more = inr (more (inr t))
    by_test false t more = more t

-- a file of the partition stays, where all of it stay
pub there_filter : (p : Part) (i : ℕ) (st : Store) (keep : RowFile → Bool) (limbo : List RowFile) → AllByRecursion (λ (f : RowFile). f.row ≡ i → f.store ≡ st → f.part ≡ p → keep f ≡ true) limbo → IsThere p (files_of i st limbo) → IsThere p (files_of i st (filter keep limbo))
there_filter p i st keep [] stay there = there
there_filter p i st keep (f ∷ limbo) stay there = by_test (f.row == i) refl (same_store f.store st) refl (keep f) refl there (λ t. there_filter p i st keep limbo stay.1 t)
  where
    by_test : (a : Bool) → (f.row == i) ≡ a → (b : Bool) → same_store f.store st ≡ b → (k : Bool) → keep f ≡ k → IsThere p (cond (a && b) (f ∷ files_of i st limbo) (files_of i st limbo))
        → (IsThere p (files_of i st limbo) → IsThere p (files_of i st (filter keep limbo))) → IsThere p (files_of i st (cond k (f ∷ filter keep limbo) (filter keep limbo)))
    by_test true r true s true e (inl same) more = rw (r, s) (inl same)
    by_test true r true s true e (inr t) more = rw (r, s) (inr (more t))
    by_test true r true s false e (inl same) more = absurd (let kept : keep f ≡ true = stay.0 (grind (arith, nat_tests)) (same_store_is f.store st s) same in cc)
    by_test true r true s false e (inr t) more = more t
    by_test true r false s true e t more = rw (r, s) (more t)
    by_test true r false s false e t more = more t
    by_test false r b s true e t more = rw r (more t)
    by_test false r b s false e t more = more t

-- a file of the partition stays where that isn't listed
there_kept : (p : Part) (i : ℕ) (st : Store) (rows : List RowState) (limbo : List RowFile) → is_empty (window p (tier_at rows i st)) ≡ true → IsThere p (files_of i st limbo) → IsThere p (files_of i st (unlisted rows limbo))
there_kept p i st rows limbo empty there =
    there_filter p i st (λ (f : RowFile). is_empty (window f.part (tier_at rows f.row f.store))) limbo (all_of (λ (f : RowFile). f.row ≡ i → f.store ≡ st → f.part ≡ p → is_empty (window f.part (tier_at rows f.row f.store)) ≡ true) limbo (λ f a b c. rw (c, a, b) empty)) there

-- ONE PIECE

module _ (IsPartition : Part → Type 0) (one_part : (p q : Part) (t : ℕ) → IsPartition p → IsPartition q → holds p t ≡ true → holds q t ≡ true → p ≡ q) where
  -- a change of the piece's row: what is new of its store, with all that may stay of it in limbo
  pub backed_goes : (limbo all : List RowFile) (change : Change) (row new : RowState) (piece : RowFile) → IsPartition piece.part → AllByRecursion (IsFileOf IsPartition one_part) (files_of piece.row piece.store limbo)
      → Extend piece.samples piece.part (files_of piece.row piece.store limbo) → Backed limbo row piece
      → (is_empty (window piece.part (tier new piece.store)) ≡ true → IsThere piece.part (files_of piece.row piece.store limbo) → IsThere piece.part (files_of piece.row piece.store all))
      → ((to : ℕ) → change ≡ Unlists piece.row piece.store to → ((piece.part.end ≤ to) × (is_empty (window piece.part (tier row piece.store)) ≡ false → is_empty (window piece.part (tier new piece.store)) ≡ true → IsThere piece.part (files_of piece.row piece.store all))) ⊎ (to ≤ piece.part.start))
      → TierGoes limbo change piece.row row new piece.store → Backed all new piece
  backed_goes limbo all change row new piece part files extend backed wider edge (same_tier is) = by_case backed
    where
      by_case : Backed limbo row piece → Backed all new piece
      by_case (inl p) = inl (rw is p)
      by_case (inr p) = let e : is_empty (window piece.part (tier new piece.store)) ≡ true = rw is p.0 in inr (e, wider e p.1)
  backed_goes limbo all change row new piece part files extend backed wider edge (put_tier xs is) = by_case backed
    where
      by_put : IsThere piece.part (files_of piece.row piece.store limbo) → (is_empty (window piece.part (put xs (files_of piece.row piece.store limbo) (tier row piece.store))) ≡ true) ⊎ IsPrefix piece.samples (window piece.part (put xs (files_of piece.row piece.store limbo) (tier row piece.store))) → Backed all new piece
      by_put there (inl empty) = let e : is_empty (window piece.part (tier new piece.store)) ≡ true = rw is empty in inr (e, wider e there)
      by_put there (inr p) = inl (rw is p)

      by_case : Backed limbo row piece → Backed all new piece
      by_case (inl p) = inl (rw is (piece_put piece.samples xs (files_of piece.row piece.store limbo) (tier row piece.store) piece.part p))
      by_case (inr p) = by_put p.1 (piece_revived IsPartition one_part xs piece.samples piece.part (files_of piece.row piece.store limbo) (tier row piece.store) part files extend p.1 p.0)
  backed_goes limbo all change row new piece part files extend backed wider edge (left_tier to same is) = by_edge (edge to same)
    where
      none : (xs : List Sample) → is_empty xs ≡ true → xs ≡ []
      none [] e = refl
      none (x ∷ xs) e = absurd cc

      gone : (piece.part.end ≤ to) → is_empty (window piece.part (tier new piece.store)) ≡ true
      gone low = ap is_empty (ap (λ w. window piece.part w) is ∙ window_gone piece.part to (tier row piece.store) low)

      by_list : (b : Bool) → is_empty (window piece.part (tier row piece.store)) ≡ b → (piece.part.end ≤ to) → (is_empty (window piece.part (tier row piece.store)) ≡ false → is_empty (window piece.part (tier new piece.store)) ≡ true → IsThere piece.part (files_of piece.row piece.store all)) → Backed limbo row piece → Backed all new piece
      by_list b e low stays (inr p) = inr (gone low, wider (gone low) p.1)
      by_list false e low stays (inl p) = inr (gone low, stays e (gone low))
      by_list true e low stays (inl p) =
          let nothing : window piece.part (tier row piece.store) ≡ [] = none (window piece.part (tier row piece.store)) e in
          let also : window piece.part (tier new piece.store) ≡ [] = none (window piece.part (tier new piece.store)) (gone low) in
          inl (p.0, also ∙ (sym nothing ∙ p.1))

      by_left : to ≤ piece.part.start → Backed limbo row piece → Backed all new piece
      by_left high (inl p) = inl (rw (is, window_left piece.part to (tier row piece.store) high) p)
      by_left high (inr p) = let e : is_empty (window piece.part (tier new piece.store)) ≡ true = rw (is, window_left piece.part to (tier row piece.store) high) p.0 in inr (e, wider e p.1)

      by_edge : ((piece.part.end ≤ to) × (is_empty (window piece.part (tier row piece.store)) ≡ false → is_empty (window piece.part (tier new piece.store)) ≡ true → IsThere piece.part (files_of piece.row piece.store all))) ⊎ (to ≤ piece.part.start) → Backed all new piece
      by_edge (inl e) = by_list (is_empty (window piece.part (tier row piece.store))) refl e.0 e.1 backed
      by_edge (inr high) = by_left high backed

-- THE MACHINE

place_append : (Q : RowFile → Type 0) (i : ℕ) (st : Store) (limbo into : List RowFile) → AllByRecursion Q (files_of i st limbo) → AllByRecursion Q (files_of i st into) → AllByRecursion Q (files_of i st (limbo ++ into))
place_append Q i st [] into a b = b
place_append Q i st (f ∷ limbo) into a b = by_test (f.row == i && same_store f.store st) a (λ w. place_append Q i st limbo into w b)
  where
    by_test : (c : Bool) → AllByRecursion Q (cond c (f ∷ files_of i st limbo) (files_of i st limbo)) → (AllByRecursion Q (files_of i st limbo) → AllByRecursion Q (files_of i st (limbo ++ into))) → AllByRecursion Q (cond c (f ∷ files_of i st (limbo ++ into)) (files_of i st (limbo ++ into)))
    by_test true a more = (a.0, more a.1)
    by_test false a more = more a

module _ (m : Machine) (into : List RowFile) (change : Change) (may : MayMake m.rule m.told m.rows m.limbo change) (retires : Retires m change into)
    (each_file : AllByRecursion (LimboSound m.rule m.told m.rows) m.limbo) (told : m.told ≡ true) where
  abbrev rows' : List RowState
  rows' = changed_rows m.told m.limbo change m.rows

  abbrev limbo' : List RowFile
  limbo' = unlisted rows' (m.limbo ++ into)

  -- one piece, of which what is listed stays in limbo
  module _ (piece : RowFile) (s : PieceSound m.rule m.rows m.limbo piece)
      (stays : (to : ℕ) → change ≡ Unlists piece.row piece.store to → piece.part.end ≤ to → is_empty (window piece.part (tier_at m.rows piece.row piece.store)) ≡ false → IsThere piece.part (files_of piece.row piece.store into)) where
    abbrev OfStore : Part → Type 0
    OfStore part = IsPartition m.rule piece.store part

    files : AllByRecursion (IsFileOf OfStore (one_partition m.rule piece.store)) (files_of piece.row piece.store m.limbo)
    files = of_place (LimboSound m.rule m.told m.rows) (IsFileOf OfStore (one_partition m.rule piece.store)) piece.row piece.store m.limbo
        (λ f a b l. record { partition = subst (λ st. IsPartition m.rule st f.part) b (l.partition told); of_part = l.part told }) each_file

    edge : (to : ℕ) → change ≡ Unlists piece.row piece.store to → (piece.part.end ≤ to) ⊎ (to ≤ piece.part.start)
    edge to is = let own : MayUnlist m.rule m.told m.rows piece.row piece.store to = subst (λ c. MayMake m.rule m.told m.rows m.limbo c) is may in not_cut m.rule piece.store piece.part to s.partition (own.edge told)

    into_extend : AllByRecursion (λ (f : RowFile). f.part ≡ piece.part → IsPrefix piece.samples f.samples) (files_of piece.row piece.store into)
    into_extend = by_change change retires
      where
        none : into ≡ [] → AllByRecursion (λ (f : RowFile). f.part ≡ piece.part → IsPrefix piece.samples f.samples) (files_of piece.row piece.store into)
        none is = rw is tt

        by_row : (k : ℕ) (store : Store) (to : ℕ) (f : RowFile) → f.row ≡ piece.row → f.store ≡ piece.store → IsRetired m k store to f → f.part ≡ piece.part → (o : Option RowState) → slice_get m.rows piece.row ≡ o → IsPrefix piece.samples f.samples
        by_row k store to f a b r same None is = absurd (there_is_row m.rows piece.row s.here is)
        by_row k store to f a b r same (Some row) is =
            let at_is : tier_at m.rows k store ≡ tier row piece.store = ap (λ n. tier_at m.rows n store) (sym r.row ∙ a) ∙ (ap (λ w. tier_at m.rows piece.row w) (sym r.own_store ∙ b) ∙ rw is refl) in
            let samples : f.samples ≡ window piece.part (tier row piece.store) = r.samples told ∙ (ap (λ w. window w (tier_at m.rows k store)) same ∙ ap (λ w. window piece.part w) at_is) in
            by_backed row samples (s.backed row is)
          where
            by_backed : (row : RowState) → f.samples ≡ window piece.part (tier row piece.store) → Backed m.limbo row piece → IsPrefix piece.samples f.samples
            by_backed row samples (inl p) = (p.0, samples ∙ p.1)
            by_backed row samples (inr p) = absurd (let some : is_empty f.samples ≡ false = r.some told in let none : is_empty f.samples ≡ true = ap is_empty samples ∙ p.0 in cc)

        by_change : (c : Change) → Retires m c into → AllByRecursion (λ (f : RowFile). f.part ≡ piece.part → IsPrefix piece.samples f.samples) (files_of piece.row piece.store into)
        by_change (AddsRow name about) r = none r
        by_change (SetsState k state) r = none r
        by_change (Renames k name) r = none r
        by_change (Appends batch) r = none r
        by_change (Publishes k st xs) r = none r
        by_change (Unlists k st to) r = of_place (IsRetired m k st to) (λ (f : RowFile). f.part ≡ piece.part → IsPrefix piece.samples f.samples) piece.row piece.store into (λ f a b one same. by_row k st to f a b one same (slice_get m.rows piece.row) refl) r.0

    backed_made : (new : RowState) → slice_get rows' piece.row ≡ Some new → Backed limbo' new piece
    backed_made new there = by_row new there (came m.told m.limbo change m.rows piece.row new there)
      where
        at_new : (new : RowState) → slice_get rows' piece.row ≡ Some new → tier_at rows' piece.row piece.store ≡ tier new piece.store
        at_new new there = rw there refl

        at_old : (row : RowState) → slice_get m.rows piece.row ≡ Some row → tier_at m.rows piece.row piece.store ≡ tier row piece.store
        at_old row here = rw here refl

        stay_there : (new : RowState) → slice_get rows' piece.row ≡ Some new → is_empty (window piece.part (tier new piece.store)) ≡ true → IsThere piece.part (files_of piece.row piece.store (m.limbo ++ into)) → IsThere piece.part (files_of piece.row piece.store limbo')
        stay_there new there empty t = there_kept piece.part piece.row piece.store rows' (m.limbo ++ into) (ap (λ w. is_empty (window piece.part w)) (at_new new there) ∙ empty) t

        by_edge : (new row : RowState) → slice_get rows' piece.row ≡ Some new → slice_get m.rows piece.row ≡ Some row → (to : ℕ) → change ≡ Unlists piece.row piece.store to → (piece.part.end ≤ to) ⊎ (to ≤ piece.part.start)
            → ((piece.part.end ≤ to) × (is_empty (window piece.part (tier row piece.store)) ≡ false → is_empty (window piece.part (tier new piece.store)) ≡ true → IsThere piece.part (files_of piece.row piece.store limbo'))) ⊎ (to ≤ piece.part.start)
        by_edge new row there here to is (inl low) = inl (low, λ some empty. stay_there new there empty (there_append piece.part piece.row piece.store m.limbo into (inr (stays to is low (ap (λ w. is_empty (window piece.part w)) (at_old row here) ∙ some)))))
        by_edge new row there here to is (inr high) = inr high

        by_row : (new : RowState) → slice_get rows' piece.row ≡ Some new → Came m.told m.limbo change m.rows piece.row new → Backed limbo' new piece
        by_row new there (is_new j at_end row) = absurd (let low : piece.row < length m.rows = s.here in omega arith)
        by_row new there (from_row row here is) =
            let same : new ≡ changed true m.limbo change piece.row row = is ∙ ap (λ b. changed b m.limbo change piece.row row) told in
            let goes : TierGoes m.limbo change piece.row row new piece.store = rw same (tier_goes m.limbo change piece.row row piece.store) in
            backed_goes OfStore (one_partition m.rule piece.store) m.limbo limbo' change row new piece s.partition files s.extend (s.backed row here)
            (λ empty t. stay_there new there empty (there_append piece.part piece.row piece.store m.limbo into (inl t))) (λ to is. by_edge new row there here to is (edge to is)) goes

    -- the change keeps the piece
    pub piece_made : PieceSound m.rule rows' limbo' piece
    piece_made =
        record {
          here = (let low : piece.row < length m.rows = s.here in let more : length rows' ≡ length m.rows + length (added change m.rows) = more_rows m.told m.limbo change m.rows in omega arith);
          partition = s.partition;
          extend = fewer_of_place (λ f. f.part ≡ piece.part → IsPrefix piece.samples f.samples) (λ (f : RowFile). is_empty (window f.part (tier_at rows' f.row f.store))) piece.row piece.store (m.limbo ++ into)
              (place_append (λ f. f.part ≡ piece.part → IsPrefix piece.samples f.samples) piece.row piece.store m.limbo into s.extend into_extend);
          backed = backed_made;
        }

  -- what a retirement leaves of a pin's piece
  abbrev Leaves : RowFile → Type 0
  Leaves piece = (to : ℕ) → change ≡ Unlists piece.row piece.store to → piece.part.end ≤ to → is_empty (window piece.part (tier_at m.rows piece.row piece.store)) ≡ false → IsThere piece.part (files_of piece.row piece.store into)

  leaves : (n : ℕ) (pin : PinState) → get m.pins n ≡ Some pin → AllByRecursion Leaves pin.pieces
  leaves n pin here = by_change change refl retires
    where
      other : ((i : ℕ) (st : Store) (to : ℕ) → change ≡ Unlists i st to → ⊥) → AllByRecursion Leaves pin.pieces
      other none = all_of Leaves pin.pieces (λ piece to is. absurd (none piece.row piece.store to is))

      own : (k i : ℕ) (st store : Store) (to end : ℕ) → Unlists k st to ≡ Unlists i store end → (k ≡ i) × (st ≡ store) × (to ≡ end)
      own k i st store to end is = (cc, cc, cc)

      by_change : (c : Change) → change ≡ c → Retires m c into → AllByRecursion Leaves pin.pieces
      by_change (AddsRow name about) is r = other (λ i st to same. (let bad = sym is ∙ same in cc))
      by_change (SetsState k state) is r = other (λ i st to same. (let bad = sym is ∙ same in cc))
      by_change (Renames k name) is r = other (λ i st to same. (let bad = sym is ∙ same in cc))
      by_change (Appends batch) is r = other (λ i st to same. (let bad = sym is ∙ same in cc))
      by_change (Publishes k st xs) is r = other (λ i store to same. (let bad = sym is ∙ same in cc))
      by_change (Unlists k st to) is r = of_all (λ (piece : RowFile). piece.row ≡ k → piece.store ≡ st → piece.part.end ≤ to → is_empty (window piece.part (tier_at m.rows k st)) ≡ false → IsThere piece.part (files_of k st into)) Leaves pin.pieces
          (λ piece stay end same low some. by_own piece stay end (own k piece.row st piece.store to end (sym is ∙ same)) low some) (r.1.stays n pin here)
        where
          by_own : (piece : RowFile) → (piece.row ≡ k → piece.store ≡ st → piece.part.end ≤ to → is_empty (window piece.part (tier_at m.rows k st)) ≡ false → IsThere piece.part (files_of k st into)) → (end : ℕ) → (k ≡ piece.row) × (st ≡ piece.store) × (to ≡ end)
              → piece.part.end ≤ end → is_empty (window piece.part (tier_at m.rows piece.row piece.store)) ≡ false → IsThere piece.part (files_of piece.row piece.store into)
          by_own piece stay end same low some =
              let last : to ≡ end = same.2 in
              let some' : is_empty (window piece.part (tier_at m.rows k st)) ≡ false = rw (same.0, same.1) some in
              let there : IsThere piece.part (files_of k st into) = stay (sym same.0) (sym same.1) (omega arith) some' in
              subst (λ i. IsThere piece.part (files_of i piece.store into)) same.0 (subst (λ w. IsThere piece.part (files_of k w into)) same.1 there)

  -- a change keeps the pieces of all pins
  pub pins_made : PinsSound m.rule m.rows m.limbo m.pins → PinsSound m.rule rows' limbo' m.pins
  pins_made sound = λ n pin here. of_both (PieceSound m.rule m.rows m.limbo) Leaves (PieceSound m.rule rows' limbo') pin.pieces (λ piece s stays. piece_made piece s stays) (sound n pin here) (leaves n pin here)
