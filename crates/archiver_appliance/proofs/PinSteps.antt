-- A pin that one who acts alone makes first: of an archive that was just opened it finds the rows and samples that are held.
use Rattle.std.proofs.Common.{◌≡◌, ℕ, ◌+◌, ◌≤◌, zero, suc, List, [], ◌∷◌, ◌++◌, length, map, cond, Bool, true, false, Option, Some, None, refl, sym, ◌∙◌, ap, subst, arith, append-nil}
use Rattle.std.specs.Prelude.{◌==◌, slice_get}
use Rattle.std.proofs.lemmas.Bool.Decides.{nat_tests}
use Rattle.std.proofs.lemmas.Option.{same_Some}
use Rattle.pb_messages.specs.declared.about.About.{About}
use Rattle.etl_rules.specs.Config.{ConfigState}
use Rattle.pv_catalog.specs.Rows.{HasName}
use Rattle.pv_catalog.specs.declared.row.Row.{Row}
use Rattle.series_model.specs.Series.{over}
use Rattle.series_model.specs.declared.sample.Query.{Query}
use Rattle.series_model.specs.declared.sample.Sample.{Sample}
use Rattle.tier_store.specs.Stores.{Stores, whole_in}
use Rattle.act_model.specs.declared.acts.Act.{Act}
use Rattle.act_model.specs.declared.acts.Answer.TheVariants as answer
use Rattle.act_model.specs.Changes.{Settles, each, no_doubt, as_not_made, as_made}
use Rattle.act_model.specs.Crash.{DurableRow, kept, kept_of}
use Rattle.act_model.specs.Details.{details_refused}
use Rattle.act_model.specs.History.{Done, Entry, Runs, done_of, mine, own}
use Rattle.act_model.specs.Machine.{Machine, find_row, same_bytes}
use Rattle.act_model.specs.NextLife.{listed_row, opened_rows, with_next}
use Rattle.act_model.specs.Outcome.{refused_at_once, refused, runs, faults_first, faults_between, faults_within, faults_removing, wants_memory, wants_memory_settled}
use Rattle.act_model.specs.Pin.{PinStep, MakesPin, pins}
use Rattle.act_model.specs.Reply.{Reply}
use Rattle.act_model.specs.Rows.{RowState, accepted}
use Rattle.act_model.specs.Sound.{IsSound}
use Rattle.act_model.specs.Step.{Step}
use Rattle.act_model.specs.Whole.{whole}
use Rattle.archive_core.specs.Parts.{Parts}
use Rattle.archive_core.specs.Stands.{Stands}
use Rattle.archive_core.proofs.Windows.{kept_to, accepted_held}
use Rattle.archive_core.proofs.KeptRows.{Placed, placed, place_none, place_some, row_there}
use Rattle.archiver_appliance.specs.Acting.{IsOpenedOn}
use Rattle.archiver_appliance.specs.Retrieving.{HasNone}
use Rattle.act_model.proofs.RowActs.{same_bytes_is, same_bytes-refl}

-- ALL ARE ONE'S OWN

own_few : (who : ℕ) (es : List Entry) → length (own who es) ≤ length es
own_few who [] = omega arith
own_few who (e ∷ es) = by_test (e.who == who) (own_few who es)
  where
    by_test : (b : Bool) → length (own who es) ≤ length es → length (cond b (e ∷ own who es) (own who es)) ≤ suc (length es)
    by_test true few = omega (arith, few)
    by_test false few = omega (arith, few)

-- the first of entries that are all one's own is so
pub first_own : (who : ℕ) (e : Entry) (es : List Entry) → own who (e ∷ es) ≡ e ∷ es → (e.who == who) ≡ true
first_own who e es all = by_test (e.who == who) refl all
  where
    by_test : (b : Bool) → (e.who == who) ≡ b → cond b (e ∷ own who es) (own who es) ≡ e ∷ es → (e.who == who) ≡ true
    by_test true is same = is
    by_test false is same = let few = own_few who es in let long : length (own who es) ≡ suc (length es) = ap length same in absurd (omega (arith, few, long))

mine_first : (who : ℕ) (e : Entry) (es : List Entry) → (e.who == who) ≡ true → mine who (e ∷ es) ≡ done_of e ∷ mine who es
mine_first who e es is = rw is refl

-- none stands before an act whose forerunners are others'
pub none_before : (who : ℕ) (front : List Entry) (e : Entry) (back : List Entry) → own who (front ++ e ∷ back) ≡ front ++ e ∷ back → own who front ≡ [] → front ≡ []
none_before who [] e back all none = refl
none_before who (x ∷ xs) e back all none = let is = first_own who x (xs ++ e ∷ back) all in absurd (cc (rw is at none))

-- the first act of a run is a step from its start
pub first_step : (entries : List Entry) (start end : Machine) (d : Done) (rest : List Done) → own 0 entries ≡ entries → mine 0 entries ≡ d ∷ rest → Runs start entries end → (n : Machine) × Step 0 d.act start d.answer n
first_step [] start end d rest all is run = absurd (cc (is))
first_step (e ∷ es) start end d rest all is run =
    let test = first_own 0 e es all in
    let first : done_of e ≡ d = let both = sym (mine_first 0 e es test) ∙ is in cc (both) in
    let who : e.who ≡ 0 = grind (arith, nat_tests, test) in
    let act : e.act ≡ d.act = ap (λ (x : Done). x.act) first in
    let told : e.answer ≡ d.answer = ap (λ (x : Done). x.answer) first in
    (run.1, subst (λ (a : Act). Step 0 a start d.answer run.1) act (subst (λ (r : Reply). Step 0 e.act start r run.1) told (subst (λ (w : ℕ). Step w e.act start e.answer run.1) who run.2)))

-- A PIN WHERE NOTHING STANDS IN DOUBT

settles_same : {old mid : Machine} → Settles old mid → old.doubt ≡ None → mid ≡ old
settles_same (no_doubt is) none = refl
settles_same (as_not_made change is) none = absurd (cc (is, none))
settles_same (as_made change into is stays) none = absurd (cc (is, none))

rows_of : {a b : Machine} → a ≡ b → a.rows ≡ b.rows
rows_of is = ap (λ (m : Machine). m.rows) is

pinned_rows : {who : ℕ} {name : List ℕ} {query : Query} (mid new : Machine) (reply : Reply) → MakesPin who name query mid reply new → new.rows ≡ mid.rows
pinned_rows mid new reply (pins i row pin pieces found here free least listed order gives few same) = rows_of same

-- it leaves the rows
pub pin_rows : (who : ℕ) (name : List ℕ) (query : Query) {old new : Machine} {reply : Reply} → old.doubt ≡ None → PinStep who name query old reply new → new.rows ≡ old.rows
pin_rows who name query none (refused_at_once answer p) = refl
pin_rows who name query none (refused answer p settles q same more) = rows_of same ∙ rows_of (settles_same settles none)
pin_rows who name query {new = new} none (runs {mid = mid} answer p settles q ran more) = pinned_rows mid new answer ran ∙ rows_of (settles_same settles none)
pin_rows who name query none (faults_first p same rose) = rows_of same
pin_rows who name query none (faults_between p settles same rose) = rows_of same ∙ rows_of (settles_same settles none)
pin_rows who name query none (faults_within doubted p settles q r same rose) = absurd (cc (r))
pin_rows who name query {new = new} none (faults_removing {mid = mid} done gone p settles q ran rose) = pinned_rows mid new done ran ∙ rows_of (settles_same settles none)
pin_rows who name query none (wants_memory same more) = rows_of same
pin_rows who name query none (wants_memory_settled p settles same more) = rows_of same ∙ rows_of (settles_same settles none)

-- the row that is pinned
pub record IsPinnedRow (m : Machine) (name told_name : List ℕ) (about : About) (tail : List Sample) : Type 0 where
  pub i : ℕ
  pub row : RowState
  pub found : find_row m name ≡ Some i
  pub here : slice_get m.rows i ≡ Some row
  pub name_is : told_name ≡ row.name
  pub about_is : about ≡ row.about
  pub tail_is : tail ≡ row.tail

pins_row : {who : ℕ} {name : List ℕ} {query : Query} (mid new : Machine) (reply : Reply) → MakesPin who name query mid reply new → (pin : ℕ) (told_name : List ℕ) (about : About) (pieces : ℕ) (tail : List Sample) → reply ≡ answer.Pinned pin told_name about pieces tail → IsPinnedRow mid name told_name about tail
pins_row mid new reply (pins i row pin pieces found here free least listed order gives few same) n told_name about count tail is =
    record { i = i; row = row; found = found; here = here; name_is = let one = is in sym (cc (one)); about_is = let one = is in sym (cc (one)); tail_is = let one = is in sym (cc (one)) }

refusal_not : (name : List ℕ) (m : Machine) (pin : ℕ) (told_name : List ℕ) (about : About) (pieces : ℕ) (tail : List Sample) → details_refused name m ≡ Some (answer.Pinned pin told_name about pieces tail) → ⊥
refusal_not name m pin told_name about pieces tail is = by_found (find_row m name) refl
  where
    by_found : (o : Option ℕ) → find_row m name ≡ o → ⊥
    by_found (Some i) here = let one = rw here at is in cc (one)
    by_found None here = let one = rw here at is in cc (one)

pub pin_named : (who : ℕ) (name : List ℕ) (query : Query) {old new : Machine} {reply : Reply} → old.doubt ≡ None → PinStep who name query old reply new → (pin : ℕ) (told_name : List ℕ) (about : About) (pieces : ℕ) (tail : List Sample) → reply ≡ answer.Pinned pin told_name about pieces tail → IsPinnedRow old name told_name about tail
pin_named who name query {old = old} none (refused_at_once reply p) pin told_name about pieces tail is = absurd (refusal_not name old pin told_name about pieces tail (p ∙ ap (λ (r : Reply). Some r) is))
pin_named who name query none (refused {mid = mid} reply p settles q same more) pin told_name about pieces tail is = absurd (refusal_not name mid pin told_name about pieces tail (q ∙ ap (λ (r : Reply). Some r) is))
pin_named who name query {new = new} none (runs {mid = mid} reply p settles q ran more) pin told_name about pieces tail is = subst (λ (m : Machine). IsPinnedRow m name told_name about tail) (settles_same settles none) (pins_row mid new reply ran pin told_name about pieces tail is)
pin_named who name query none (faults_first p same rose) pin told_name about pieces tail is = absurd (cc (is))
pin_named who name query none (faults_between p settles same rose) pin told_name about pieces tail is = absurd (cc (is))
pin_named who name query none (faults_within doubted p settles q r same rose) pin told_name about pieces tail is = absurd (cc (is))
pin_named who name query none (faults_removing done gone p settles q ran rose) pin told_name about pieces tail is = absurd (cc (is))
pin_named who name query none (wants_memory same more) pin told_name about pieces tail is = absurd (cc (is))
pin_named who name query none (wants_memory_settled p settles same more) pin told_name about pieces tail is = absurd (cc (is))

-- where no variable is told, no row has the name
refused_none : (name : List ℕ) (m : Machine) → details_refused name m ≡ Some answer.NoSuchVariable → find_row m name ≡ None
refused_none name m is = by_found (find_row m name) refl
  where
    by_found : (o : Option ℕ) → find_row m name ≡ o → find_row m name ≡ None
    by_found (Some i) here = let one = rw here at is in absurd (cc (one))
    by_found None here = here

pins_not_none : {who : ℕ} {name : List ℕ} {query : Query} (mid new : Machine) (reply : Reply) → MakesPin who name query mid reply new → reply ≡ answer.NoSuchVariable → ⊥
pins_not_none mid new reply (pins i row pin pieces found here free least listed order gives few same) is = cc (is)

pub pin_unknown : (who : ℕ) (name : List ℕ) (query : Query) {old new : Machine} {reply : Reply} → old.doubt ≡ None → PinStep who name query old reply new → reply ≡ answer.NoSuchVariable → find_row old name ≡ None
pin_unknown who name query {old = old} none (refused_at_once reply p) is = refused_none name old (p ∙ ap (λ (r : Reply). Some r) is)
pin_unknown who name query none (refused {mid = mid} reply p settles q same more) is = subst (λ (m : Machine). find_row m name ≡ None) (settles_same settles none) (refused_none name mid (q ∙ ap (λ (r : Reply). Some r) is))
pin_unknown who name query {new = new} none (runs {mid = mid} reply p settles q ran more) is = absurd (pins_not_none mid new reply ran is)
pin_unknown who name query none (faults_first p same rose) is = absurd (cc (is))
pin_unknown who name query none (faults_between p settles same rose) is = absurd (cc (is))
pin_unknown who name query none (faults_within doubted p settles q r same rose) is = absurd (cc (is))
pin_unknown who name query none (faults_removing done gone p settles q ran rose) is = absurd (cc (is))
pin_unknown who name query none (wants_memory same more) is = absurd (cc (is))
pin_unknown who name query none (wants_memory_settled p settles same more) is = absurd (cc (is))

-- NAMES

-- the row that is found has the name
pub found_name : (m : Machine) (name : List ℕ) (i : ℕ) (row : RowState) → find_row m name ≡ Some i → slice_get m.rows i ≡ Some row → row.name ≡ name
found_name m name i row found here = by_placed (place_some (λ (r : RowState). same_bytes r.name name) 0 m.rows i found)
  where
    by_placed : Placed (λ (r : RowState). same_bytes r.name name) 0 m.rows i → row.name ≡ name
    by_placed (placed j r at there passes) =
        let same : j ≡ i = omega (arith, at) in
        let both : Some r ≡ Some row = sym there ∙ (ap (λ (n : ℕ). slice_get m.rows n) same ∙ here) in
        let is : r ≡ row = same_Some r row both in
        same_bytes_is row.name name (subst (λ (x : RowState). same_bytes x.name name ≡ true) is passes)

-- where none is found, no row of the catalogue has the name; and where one is, a row has it
pub none_has : (tells : Bool) (p : Parts) (m : Machine) (name : List ℕ) → Stands tells p m → find_row m name ≡ None → HasNone p.at.catalogue.rows name
none_has tells p m name stands none i has =
    let there = row_there p.at.catalogue.rows p.kept p.tails m.rows stands.rows i has.row has.here in
    let passes : same_bytes there.0.name name ≡ true = ap (λ (n : List ℕ). same_bytes n name) (there.2 ∙ has.is) ∙ same_bytes-refl name in
    let fails : same_bytes there.0.name name ≡ false = place_none (λ (r : RowState). same_bytes r.name name) 0 m.rows none i there.0 there.1 in
    cc (passes, fails)

pub one_has : (tells : Bool) (p : Parts) (m : Machine) (name : List ℕ) (i : ℕ) (row : RowState) → Stands tells p m → find_row m name ≡ Some i → slice_get m.rows i ≡ Some row → (has : HasName p.at.catalogue.rows i name) × (has.row.about ≡ row.about)
one_has tells p m name i row stands found here =
    let one = stands.rows.each i row here in
    (record { row = one.row; here = one.here; is = sym one.is.name ∙ found_name m name i row found here }, sym one.is.about)

-- WHAT IS HELD

-- rows that were just opened have no tail
tail_none : (rows : List RowState) (n : ℕ) (ds : List DurableRow) (i : ℕ) (row : RowState) → slice_get (each (with_next rows) n (map listed_row ds)) i ≡ Some row → row.tail ≡ []
tail_none rows n [] i row here = absurd (cc (here))
tail_none rows n (d ∷ ds) zero row here = sym (ap (λ (r : RowState). r.tail) (same_Some (with_next rows n (listed_row d)) row here))
tail_none rows n (d ∷ ds) (suc i) row here = tail_none rows (n + 1) ds i row here

-- of a row of what was opened the whole that is held is accepted
pub record IsHeldRow (held : Stores) (rows : List RowState) (i : ℕ) (row : RowState) : Type 0 where
  pub own : Row
  pub here : slice_get held.rows i ≡ Some own
  pub name_is : row.name ≡ own.name
  pub about_is : row.about ≡ own.about
  pub whole_is : whole accepted rows i ≡ whole_in i held

pub held_row : (config : ConfigState) (held : Stores) (start : Machine) → IsSound start → IsOpenedOn true config held start → start.told ≡ true → (i : ℕ) (row : RowState) → slice_get start.rows i ≡ Some row → IsHeldRow held start.rows i row
held_row config held start sound opened told i row here =
    let rows : start.rows ≡ opened_rows (kept start) = rows_of (opened.fresh told) in
    let none : row.tail ≡ [] = tail_none (map listed_row (kept start)) 0 (kept start) i row (ap (λ (rs : List RowState). slice_get rs i) (sym rows) ∙ here) in
    let at = opened.holds.each i (kept_of row) (kept_to start.rows i row here) in
    record {
      own = at.row;
      here = at.here;
      name_is = at.is.name;
      about_is = at.is.about;
      whole_is = accepted_held start sound held opened.holds told i row here ∙ (ap (over (whole_in i held)) none ∙ append-nil (whole_in i held));
    }
