-- Rows go on over their bases, whatever a change, an offer or a tick makes of them; and where their own lists followed the wholes of these,
-- they do.
use Rattle.std.proofs.Common.{◌≡◌, ℕ, ◌<◌, ◌≤◌, List, [], length, Some, None, max, Bool, true, ap, sym, ◌∙◌, arith, subst, append-nil, append_assoc}
use Rattle.std.specs.Prelude.{◌++◌, slice_get}
use Rattle.std.proofs.lemmas.Option.{same_Some, slice_get_within}
use Rattle.series_model.specs.declared.sample.Sample.{Sample}
use Rattle.series_model.specs.Series.{end_of, IsRising, RisesFrom, over}
use Rattle.series_model.proofs.RisingLists.{RisesFrom-append, RisesFrom-lower}
use Rattle.series_model.proofs.OverLemmas.{over_rising, end_of-over}
use Rattle.pb_messages.specs.declared.about.State.TheVariants.{Paused, Retired}
use Rattle.act_model.specs.Rows.{RowState, accepted, durable}
use Rattle.act_model.specs.Whole.{past, whole, FollowsBase, AllFollow}
use Rattle.act_model.specs.Sound.{RowSound, IsOver, BasesSound}
use Rattle.act_model.proofs.Wholes.{StandsBefore, Beside, together, whole_is, old_whole, past_stays, whole_goes}

-- a row goes on over its base: as much of its own list as it had, or more, up to where admission takes the next; what is more, where samples
-- are told, begins where admission stood
pub record RowOver (told : Bool) (row new : RowState) : Type 0 where
  pub base : new.base ≡ row.base
  pub about : new.about ≡ row.about
  pub retired : row.state ≡ Retired → new.state ≡ Retired
  pub still : row.state ≡ Retired → row.tail ≡ [] → (new.tail ≡ []) × (accepted new ≡ accepted row)
  pub next : row.next ≤ new.next
  pub goes : IsRising (accepted row) → end_of (accepted row) ≤ row.next → IsRising (accepted new) × (end_of (accepted new) ≤ new.next)
  pub exact : told ≡ true → (e : ℕ) → row.next ≡ max e (end_of (accepted row)) → new.next ≡ max e (end_of (accepted new))
  pub more : told ≡ true → (xs : List Sample) × (accepted new ≡ accepted row ++ xs) × RisesFrom row.next xs

-- where a row comes from: from one that was there, or it is the one that was added, over none or over one that was paused
pub data Comes (told : Bool) (rows news : List RowState) (i : ℕ) (new : RowState) : Type 0 where
  goes_on : (row : RowState) → slice_get rows i ≡ Some row → RowOver told row new → Comes told rows news i new
  over_none : new.base ≡ None → accepted new ≡ [] → new.next ≡ 0 → Comes told rows news i new
  over_row : (k : ℕ) (row now : RowState) → i ≡ length rows → slice_get rows k ≡ Some row → slice_get news k ≡ Some now → RowOver told row now
      → row.state ≡ Paused → now.state ≡ Retired → now.tail ≡ [] → new.base ≡ Some k → now.about ≡ new.about → accepted new ≡ [] → new.next ≡ now.next → Comes told rows news i new

pub before_of : (told : Bool) (rows : List RowState) → BasesSound told rows → (i : ℕ) (row : RowState) (b : ℕ) → slice_get rows i ≡ Some row → row.base ≡ Some b → StandsBefore rows i b
before_of told rows s i row b here is = let o = s.over i row b here is in record { base = o.base; here = o.here; below = o.below }

-- where the list of a row ends over that of its base
pub end_over : (rows : List RowState) (past_is own : List Sample) (i : ℕ) → IsRising own → whole accepted rows i ≡ over past_is own → end_of (whole accepted rows i) ≡ max (end_of past_is) (end_of own)
end_over rows past_is own i rises is = ap end_of is ∙ end_of-over past_is own rises

-- a row's own list rises
pub accepted_rises : (told : Bool) (row : RowState) → RowSound told row → IsRising (accepted row)
accepted_rises told row s =
    over_rising (durable row) row.tail (over_rising (over row.long row.medium) row.short (over_rising row.long row.medium s.long s.medium) s.short) (RisesFrom-lower 0 (end_of (durable row)) row.tail s.later (omega arith))

module _ (told : Bool) (rows news : List RowState) (each_row : (i : ℕ) (row : RowState) → slice_get rows i ≡ Some row → RowSound told row) (s : BasesSound told rows)
    (forth : (i : ℕ) (row : RowState) → slice_get rows i ≡ Some row → (new : RowState) × (slice_get news i ≡ Some new) × RowOver told row new)
    (back : (i : ℕ) (new : RowState) → slice_get news i ≡ Some new → Comes told rows news i new) where
  before_it : (i : ℕ) (row : RowState) (b : ℕ) → slice_get rows i ≡ Some row → row.base ≡ Some b → StandsBefore rows i b
  before_it = before_of told rows s

  -- a base is retired and has no tail
  beside : (i : ℕ) (row : RowState) → slice_get rows i ≡ Some row → Beside accepted accepted rows news i row
  beside i row here =
      let x = forth i row here in
      record {
        new = x.0;
        there = x.1;
        base = x.2.base;
        still = λ j above there is.
            let o = s.over j above i there is in
            let same : o.base ≡ row = same_Some o.base row (sym o.here ∙ here) in
            (x.2.still (ap (λ (r : RowState). r.state) (sym same) ∙ o.retired) (ap (λ (r : RowState). r.tail) (sym same) ∙ o.none)).1;
      }

  rises_own : (i : ℕ) (row : RowState) → slice_get rows i ≡ Some row → IsRising (accepted row)
  rises_own i row here = accepted_rises told row (each_row i row here)

  old_end : (i : ℕ) (row : RowState) → slice_get rows i ≡ Some row → end_of (whole accepted rows i) ≡ max (end_of (past accepted rows row.base)) (end_of (accepted row))
  old_end i row here = end_over rows (past accepted rows row.base) (accepted row) i (rises_own i row here) (old_whole accepted accepted rows news before_it beside i row here)

  -- a row's own list goes on to rise, and ends before admission takes the next
  own_goes : (i : ℕ) (row : RowState) (here : slice_get rows i ≡ Some row) → IsRising (accepted (forth i row here).0) × (end_of (accepted (forth i row here).0) ≤ (forth i row here).0.next)
  own_goes i row here =
      let old : end_of (whole accepted rows i) ≤ row.next = s.end i row here in
      let was = old_end i row here in
      (forth i row here).2.goes (rises_own i row here) (omega arith)

  new_end : (i : ℕ) (row : RowState) (here : slice_get rows i ≡ Some row) → end_of (whole accepted news i) ≡ max (end_of (past accepted rows row.base)) (end_of (accepted (forth i row here).0))
  unfolding beside
  new_end i row here = end_over news (past accepted rows row.base) (accepted (forth i row here).0) i (own_goes i row here).0 (whole_goes accepted accepted rows news before_it beside i row here)

  -- WHERE THE WHOLE OF A ROW ENDS

  end_there : (i : ℕ) (row : RowState) (here : slice_get rows i ≡ Some row) → end_of (whole accepted news i) ≤ (forth i row here).0.next
  end_there i row here =
      let x = forth i row here in
      let old : end_of (whole accepted rows i) ≤ row.next = s.end i row here in
      let was = old_end i row here in
      let now = new_end i row here in
      let up : row.next ≤ x.0.next = x.2.next in
      let own : end_of (accepted x.0) ≤ x.0.next = (own_goes i row here).1 in
      omega arith

  exact_there : told ≡ true → (i : ℕ) (row : RowState) (here : slice_get rows i ≡ Some row) → (forth i row here).0.next ≡ end_of (whole accepted news i)
  exact_there t i row here = (forth i row here).2.exact t (end_of (past accepted rows row.base)) (s.exact t i row here ∙ old_end i row here) ∙ sym (new_end i row here)

  -- the row that is there is the one that goes on
  same_there : (i : ℕ) (row : RowState) (here : slice_get rows i ≡ Some row) (new : RowState) → slice_get news i ≡ Some new → (forth i row here).0 ≡ new
  same_there i row here new there = let x = forth i row here in same_Some x.0 new (sym x.1 ∙ there)

  -- the whole of a row that was added
  none_whole : (i : ℕ) (new : RowState) → slice_get news i ≡ Some new → new.base ≡ None → accepted new ≡ [] → whole accepted news i ≡ []
  none_whole i new there base empty =
      whole_is accepted news i new there (λ b is. absurd (let bad : None ≡ Some b = sym base ∙ is in cc))
      ∙ (ap (λ o. over (past accepted news o) (accepted new)) base ∙ ap (λ w. over [] w) empty)

  over_whole : (i k : ℕ) (new : RowState) → slice_get news i ≡ Some new → k < i → new.base ≡ Some k → accepted new ≡ [] → whole accepted news i ≡ whole accepted news k
  over_whole i k new there low base empty =
      whole_is accepted news i new there (λ b is. (let same : k ≡ b = same_Some k b (sym base ∙ is) in omega arith))
      ∙ (ap (λ o. over (past accepted news o) (accepted new)) base ∙ (ap (λ w. over (whole accepted news k) w) empty ∙ append-nil (whole accepted news k)))

  lower : (i k : ℕ) (row : RowState) → i ≡ length rows → slice_get rows k ≡ Some row → k < i
  lower i k row place here = let low : k < length rows = slice_get_within rows k row here in omega arith

  end_new : (i : ℕ) (new : RowState) → slice_get news i ≡ Some new → Comes told rows news i new → end_of (whole accepted news i) ≤ new.next
  end_new i new there (goes_on row here on) = subst (λ (r : RowState). end_of (whole accepted news i) ≤ r.next) (same_there i row here new there) (end_there i row here)
  end_new i new there (over_none base empty next) = let none = ap end_of (none_whole i new there base empty) in omega arith
  end_new i new there (over_row k row now place here now_here on paused gone none base about empty next) =
      let same = ap end_of (over_whole i k new there (lower i k row place here) base empty) in
      let below : end_of (whole accepted news k) ≤ now.next = subst (λ (r : RowState). end_of (whole accepted news k) ≤ r.next) (same_there k row here now now_here) (end_there k row here) in
      omega arith

  exact_new : told ≡ true → (i : ℕ) (new : RowState) → slice_get news i ≡ Some new → Comes told rows news i new → new.next ≡ end_of (whole accepted news i)
  exact_new t i new there (goes_on row here on) = subst (λ (r : RowState). r.next ≡ end_of (whole accepted news i)) (same_there i row here new there) (exact_there t i row here)
  exact_new t i new there (over_none base empty next) = next ∙ sym (ap end_of (none_whole i new there base empty))
  exact_new t i new there (over_row k row now place here now_here on paused gone none base about empty next) =
      let below : now.next ≡ end_of (whole accepted news k) = subst (λ (r : RowState). r.next ≡ end_of (whole accepted news k)) (same_there k row here now now_here) (exact_there t k row here) in
      next ∙ (below ∙ sym (ap end_of (over_whole i k new there (lower i k row place here) base empty)))

  -- WHAT STANDS OVER WHAT

  over_new : (i : ℕ) (new : RowState) (b : ℕ) → new.base ≡ Some b → Comes told rows news i new → IsOver news i new b
  over_new i new b is (goes_on row here on) =
      let own : row.base ≡ Some b = sym on.base ∙ is in
      let o = s.over i row b here own in
      let x = forth b o.base o.here in
      record {
        base = x.0;
        here = x.1;
        below = o.below;
        retired = x.2.retired o.retired;
        about = x.2.about ∙ (o.about ∙ sym on.about);
        none = (x.2.still o.retired o.none).0;
      }
  over_new i new b is (over_none base empty next) = absurd (let bad : None ≡ Some b = sym base ∙ is in cc)
  over_new i new b is (over_row k row now place here now_here on paused gone none base about empty next) =
      let same : k ≡ b = same_Some k b (sym base ∙ is) in
      subst (λ n. IsOver news i new n) same (record {
        base = now;
        here = now_here;
        below = lower i k row place here;
        retired = gone;
        about = about;
        none = none;
      })

  -- a row that was paused was no base
  not_both : (i b k : ℕ) (row other : RowState) → slice_get rows i ≡ Some row → row.base ≡ Some b → k ≡ b → slice_get rows k ≡ Some other → other.state ≡ Paused → ⊥
  not_both i b k row other here is same there paused =
      let o = s.over i row b here is in
      let one : o.base ≡ other = same_Some o.base other (sym o.here ∙ (ap (λ n. slice_get rows n) (sym same) ∙ there)) in
      let bad : Paused ≡ Retired = sym paused ∙ (ap (λ (r : RowState). r.state) (sym one) ∙ o.retired) in
      cc

  one_new : (i j b : ℕ) (a c : RowState) → a.base ≡ Some b → c.base ≡ Some b → Comes told rows news i a → Comes told rows news j c → i ≡ j
  one_new i j b a c is is' (goes_on row here on) (goes_on other there on') = s.one i j b row other here there (sym on.base ∙ is) (sym on'.base ∙ is')
  one_new i j b a c is is' (goes_on row here on) (over_row k old now place there now_here on' paused gone none base about empty next) =
      absurd (not_both i b k row old here (sym on.base ∙ is) (same_Some k b (sym base ∙ is')) there paused)
  one_new i j b a c is is' (over_row k old now place there now_here on' paused gone none base about empty next) (goes_on row here on) =
      absurd (not_both j b k row old here (sym on.base ∙ is') (same_Some k b (sym base ∙ is)) there paused)
  one_new i j b a c is is' (over_row k old now place there now_here on paused gone none base about empty next) (over_row k' old' now' place' there' now_here' on' paused' gone' none' base' about' empty' next') = place ∙ sym place'
  one_new i j b a c is is' (over_none base empty next) other = absurd (let bad : None ≡ Some b = sym base ∙ is in cc)
  one_new i j b a c is is' other (over_none base empty next) = absurd (let bad : None ≡ Some b = sym base ∙ is' in cc)

  pub bases_go : BasesSound told news
  bases_go =
      record {
        over = λ i new b there is. over_new i new b is (back i new there);
        one = λ i j b a c here there is is'. one_new i j b a c is is' (back i a here) (back j c there);
        end = λ i new there. end_new i new there (back i new there);
        exact = λ t i new there. exact_new t i new there (back i new there);
      }

  -- WHAT FOLLOWS ITS BASE

  module _ (t : told ≡ true) (f : AllFollow accepted rows) where
    -- what a row has now rises behind the whole of its base
    rises_behind : (i : ℕ) (row : RowState) (here : slice_get rows i ≡ Some row) → IsRising (past accepted rows row.base ++ accepted (forth i row here).0)
    rises_behind i row here =
        let p = past accepted rows row.base in
        let w = whole accepted rows i in
        let was : FollowsBase accepted rows i row = f i row here in
        let x = (forth i row here).2.more t in
        let low : end_of w ≤ row.next = s.end i row here in
        let all : IsRising (w ++ x.0) = RisesFrom-append 0 w x.0 was.1 (RisesFrom-lower (end_of w) row.next x.0 x.2 low) in
        subst (λ xs. IsRising xs) (ap (λ xs. xs ++ x.0) was.0 ∙ (append_assoc p (accepted row) x.0 ∙ ap (λ xs. p ++ xs) (sym x.1))) all

    follows_there : (i : ℕ) (row : RowState) (here : slice_get rows i ≡ Some row) → (whole accepted news i ≡ past accepted rows row.base ++ accepted (forth i row here).0) × IsRising (whole accepted news i)
    unfolding beside
    follows_there i row here =
        together (whole accepted news i) (past accepted rows row.base) (accepted (forth i row here).0) (whole_goes accepted accepted rows news before_it beside i row here) (rises_behind i row here)

    follows_new : (i : ℕ) (new : RowState) → slice_get news i ≡ Some new → Comes told rows news i new → FollowsBase accepted news i new
    follows_new i new there (goes_on row here on) =
        let y = follows_there i row here in
        let p : past accepted news new.base ≡ past accepted rows row.base = ap (λ o. past accepted news o) on.base ∙ past_stays accepted accepted rows news before_it beside i row here in
        (y.0 ∙ (ap (λ r. past accepted rows row.base ++ accepted r) (same_there i row here new there) ∙ ap (λ xs. xs ++ accepted new) (sym p)), y.1)
    follows_new i new there (over_none base empty next) =
        let none = none_whole i new there base empty in
        (none ∙ sym (ap (λ o. past accepted news o ++ accepted new) base ∙ empty), subst (λ xs. IsRising xs) (sym none) tt)
    follows_new i new there (over_row k row now place here now_here on paused gone none base about empty next) =
        let same = over_whole i k new there (lower i k row place here) base empty in
        (same ∙ sym (ap (λ o. past accepted news o ++ accepted new) base ∙ (ap (λ xs. whole accepted news k ++ xs) empty ∙ append-nil (whole accepted news k))), subst (λ xs. IsRising xs) (sym same) (follows_there k row here).1)

    pub follows_go : AllFollow accepted news
    follows_go i new there = follows_new i new there (back i new there)
