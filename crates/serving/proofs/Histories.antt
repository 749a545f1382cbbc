-- The acts of those who ended in a pass, as the premises of the law of the end.
use Rattle.std.proofs.Common.{◌≡◌, ℕ, ◌<◌, List, [], ◌∷◌, ◌++◌, length, refl, sym, ap, ◌∙◌, subst, arith, ⊎_elim, append_assoc}
use Rattle.std.specs.Prelude.{All, Contains, map}
use Rattle.std.specs.List.{AllZip}
use Rattle.std.proofs.lemmas.List.{map-append, length-map, length-append}
use Rattle.std.proofs.lemmas.List.Elements.{All-nil, All-cons, All-head, All-tail, Contains-append_left, Contains-append_right, Contains-append_cases}
use Rattle.turn_rooms.specs.declared.room.RoomEntry.{RoomEntry}
use Rattle.turn_rooms.specs.declared.rooms.Pass.{Pass}
use Rattle.turn_rooms.specs.declared.rooms.Rooms.{Rooms}
use Rattle.turn_rooms.specs.declared.view.SeatNumbers.{SeatNumbers}
use Rattle.turn_rooms.specs.Histories.{by}
use Rattle.turn_rooms.specs.Passes.{Goes, KnowsAllOf, known, stands}
use Rattle.turn_rooms.proofs.Lists.{has_first, only_element, cons_more}
use Rattle.act_model.specs.declared.acts.Act.{Act}
use Rattle.act_model.specs.History.{Entry, Done, done_of, own, mine}
use Rattle.act_model.specs.Machine.{Machine}
use Rattle.act_model.specs.Reply.{Reply}
use Rattle.act_model.specs.Sound.{IsSound}
use Rattle.act_model.proofs.Histories.{cut_at}
use Rattle.archive_actors.specs.Seats.{StandsFor}
use Rattle.archive_actors.specs.SeatLaws.{kept_append, known_further}
use Rattle.archive_actors.specs.Steps.{RoomStep, kept, all_kept}
use Rattle.serving.specs.declared.ends.FlushEnd.TheVariants.{LeavesNone, FailsToWrite}
use Rattle.serving.specs.declared.ends.MoverEnd.{MoverEnd}
use Rattle.serving.specs.declared.ends.MoverEnd.TheVariants.{MeetsNoMemory}
use Rattle.serving.specs.End.{ServesToEnd}
use Rattle.serving.specs.Rounds.{IsFlushing, IsMoving, IsShift}
use Rattle.serving.proofs.Law.{serving_ends}
use Rattle.serving.proofs.Works.{own_map, nothing_before, nothing_since}
use Rattle.workers.specs.Left.{Drawn, IsNew, Met}
use Rattle.serving.specs.Acting.{Acts, EndsInTurns, HasFlushFault}

module _ {S B : Type 0} (steps : S → ℕ → ℕ → Act → B → S → Type 0) (reply : B → Reply) (rooms : Rooms S Act B) where
  abbrev P : Type 0
  P = Pass S Act B

  -- the entries of a number among all that is known
  kept_own : (q : ℕ) (acts : List (RoomEntry S Act B)) → own q (all_kept reply acts) ≡ all_kept reply (by q acts)
  kept_own q acts = own_map (λ (e : RoomEntry S Act B). kept reply e.who e.act e.answer) (λ (e : RoomEntry S Act B). e.who) (λ e. refl) q acts

  -- a number has no entry since, where nothing more of it is known
  none_since : (q : ℕ) (old new : P) (more : List (RoomEntry S Act B)) → known new ≡ known old ++ more → by q (known new) ≡ by q (known old) → own q (all_kept reply more) ≡ []
  none_since q old new more is same =
      let whole : own q (all_kept reply (known old) ++ all_kept reply more) ≡ own q (all_kept reply (known old)) =
      ap (λ (es : List Entry). own q es) (sym (kept_append reply (known old) more)) ∙ (ap (λ (h : List (RoomEntry S Act B)). own q (all_kept reply h)) (sym is)
      ∙ (kept_own q (known new) ∙ (ap (λ (h : List (RoomEntry S Act B)). all_kept reply h) same ∙ sym (kept_own q (known old))))) in
      nothing_since q (all_kept reply (known old)) (all_kept reply more) whole

  -- all entries of a number are new, where none was known of it
  all_since : (q : ℕ) (front new more : List (RoomEntry S Act B)) → new ≡ front ++ more → by q front ≡ [] → own q (all_kept reply more) ≡ all_kept reply (by q new)
  all_since q front new more is none =
      let before : own q (all_kept reply front) ≡ [] = kept_own q front ∙ ap (λ (h : List (RoomEntry S Act B)). all_kept reply h) none in
      sym (nothing_before q (all_kept reply front) (all_kept reply more) before) ∙ (ap (λ (es : List Entry). own q es) (sym (kept_append reply front more))
      ∙ (ap (λ (h : List (RoomEntry S Act B)). own q (all_kept reply h)) (sym is) ∙ kept_own q new))

  module _ (old new : P) (more : List (RoomEntry S Act B)) (is : known new ≡ known old ++ more) where
    -- the acts of one who was drawn, and ended in the pass
    pub one_mine : (Such : List Done → Type 0) (n n' : P) → Acts steps reply rooms n Such n' → IsNew old n → KnowsAllOf n' new → Such (mine n.number (all_kept reply more))
    one_mine Such n n' acts fresh knows =
        let q = n.number in
        let before : by q (known old) ≡ [] = subst (λ (h : List (RoomEntry S Act B)). by q h ≡ []) fresh.knows fresh.acts in
        let there : stands n' ≡ q ∷ [] = ap (λ (s : SeatNumbers). s.stands) acts.goes.same_standing ∙ fresh.stands_for in
        let known_is : by q (known new) ≡ by q (known n') = knows.acts q (subst (λ (xs : List ℕ). Contains xs q) (sym there) (has_first q [])) in
        let here : known n' ≡ known old ++ acts.more = acts.goes_on ∙ ap (λ (h : List (RoomEntry S Act B)). h ++ acts.more) fresh.knows in
        let same : own q (all_kept reply acts.more) ≡ own q (all_kept reply more) =
        all_since q (known old) (known n') acts.more here before ∙ (ap (λ (h : List (RoomEntry S Act B)). all_kept reply h) (sym known_is) ∙ sym (all_since q (known old) (known new) more is before)) in
        subst (λ (es : List Entry). Such (map done_of es)) same acts.such

    each_mine : (Such : List Done → Type 0) (ns ns' : List P) → AllZip (λ (n n' : P). Acts steps reply rooms n Such n') ns ns' → All (λ (n : P). IsNew old n) ns → All (λ (n : P). KnowsAllOf n new) ns'
        → All (λ (q : ℕ). Such (mine q (all_kept reply more))) (map (λ (n : P). n.number) ns)
    each_mine Such [] ns' w f k = All-nil (λ (q : ℕ). Such (mine q (all_kept reply more)))
    each_mine Such (n ∷ ns) [] w f k = absurd w
    each_mine Such (n ∷ ns) (n' ∷ ns') w f k =
        All-cons (λ (q : ℕ). Such (mine q (all_kept reply more))) n.number (map (λ (n : P). n.number) ns)
        (one_mine Such n n' w.0 (All-head (λ (n : P). IsNew old n) n ns f) (All-head (λ (n : P). KnowsAllOf n new) n' ns' k))
        (each_mine Such ns ns' w.1 (All-tail (λ (n : P). IsNew old n) n ns f) (All-tail (λ (n : P). KnowsAllOf n new) n' ns' k))

  -- who is none of them stands for none of their numbers
  nobody : (old : P) (q : ℕ) (ns ns' : List P) → AllZip (Goes steps rooms) ns ns' → All (λ (n : P). IsNew old n) ns → ¬ Contains (map (λ (n : P). n.number) ns) q → All (λ (n : P). ¬ Contains (stands n) q) ns'
  nobody old q [] [] w f other = All-nil (λ (n : P). ¬ Contains (stands n) q)
  nobody old q [] (n' ∷ ns') w f other = absurd w
  nobody old q (n ∷ ns) [] w f other = absurd w
  nobody old q (n ∷ ns) (n' ∷ ns') w f other =
      let there : stands n' ≡ n.number ∷ [] = ap (λ (s : SeatNumbers). s.stands) w.0.same_standing ∙ (All-head (λ (n : P). IsNew old n) n ns f).stands_for in
      let first : ¬ Contains (stands n') q = λ c. other (subst (λ (z : ℕ). Contains (map (λ (n : P). n.number) (n ∷ ns)) z) (only_element n.number q (subst (λ (xs : List ℕ). Contains xs q) there c)) (has_first n.number (map (λ (n : P). n.number) ns))) in
      All-cons (λ (n : P). ¬ Contains (stands n) q) n' ns' first (nobody old q ns ns' w.1 (All-tail (λ (n : P). IsNew old n) n ns f) (λ c. other (cons_more n.number (map (λ (n : P). n.number) ns) q c)))

  zip_goes : (Such : List Done → Type 0) (ns ns' : List P) → AllZip (λ (n n' : P). Acts steps reply rooms n Such n') ns ns' → AllZip (Goes steps rooms) ns ns'
  zip_goes Such [] [] w = tt
  zip_goes Such [] (n' ∷ ns') w = absurd w
  zip_goes Such (n ∷ ns) [] w = absurd w
  zip_goes Such (n ∷ ns) (n' ∷ ns') w = (w.0.goes, zip_goes Such ns ns' w.1)

  zip_append : (xs xs' ys ys' : List P) → AllZip (Goes steps rooms) xs xs' → AllZip (Goes steps rooms) ys ys' → AllZip (Goes steps rooms) (xs ++ ys) (xs' ++ ys')
  zip_append [] [] ys ys' w v = v
  zip_append [] (x' ∷ xs') ys ys' w v = absurd w
  zip_append (x ∷ xs) [] ys ys' w v = absurd w
  zip_append (x ∷ xs) (x' ∷ xs') ys ys' w v = (w.0, zip_append xs xs' ys ys' w.1 v)

pub all_parts : {X : Type 0} (Is : X → Type 0) (xs ys : List X) → All Is (xs ++ ys) → All Is xs × All Is ys
all_parts Is [] ys a = (All-nil Is, a)
all_parts Is (x ∷ xs) ys a = let rest = all_parts Is xs ys (All-tail Is x (xs ++ ys) a) in (All-cons Is x xs (All-head Is x (xs ++ ys) a) rest.0, rest.1)

-- two numbers behind others, and before them
ahead : (xs : List ℕ) (a b q : ℕ) → Contains (xs ++ a ∷ b ∷ []) q → Contains (a ∷ b ∷ xs) q
ahead xs a b q c = ⊎_elim {C = Contains (a ∷ b ∷ xs) q} (λ x. Contains-append_right (a ∷ b ∷ []) xs q x) (λ x. Contains-append_left (a ∷ b ∷ []) xs q x) (Contains-append_cases xs (a ∷ b ∷ []) q c)

module _ {S B : Type 0} (steps : S → ℕ → ℕ → Act → B → S → Type 0) (stands_for : S → Machine → Type 0) (reply : B → Reply)
    (stepped : (old new : S) (who n : ℕ) (act : Act) (answer : B) → steps old who n act answer new → RoomStep stands_for reply old who n act answer new)
    (sound : (s : S) (m : Machine) → stands_for s m → IsSound m) where
  pub ends_in_turns : (rooms : Rooms S Act B) (old drawn new flusher flusher' mover mover' : Pass S Act B) (workers workers' : List (Pass S Act B)) (moved : MoverEnd) (m : Machine)
      → StandsFor steps stands_for rooms old m → m.doors ≡ length workers → Drawn steps rooms old drawn (workers ++ flusher ∷ mover ∷ [])
      → AllZip (λ n n'. Acts steps reply rooms n IsShift n') workers workers' → Acts steps reply rooms flusher (IsFlushing LeavesNone) flusher' → Acts steps reply rooms mover (IsMoving moved) mover' → (moved ≡ MeetsNoMemory → ⊥)
      → Met steps rooms drawn new (workers' ++ flusher' ∷ mover' ∷ []) → EndsInTurns steps stands_for reply rooms old new m mover.number
  ends_in_turns rooms old drawn new flusher flusher' mover mover' workers workers' moved m here doors d ws fs ms enough met =
      let P = Pass S Act B in
      let number = λ (n : P). n.number in
      let tenders : List P = flusher ∷ mover ∷ [] in
      let more = met.back.goes_on.0 in
      let is : known new ≡ known old ++ more = sym met.back.goes_on.1 ∙ ap (λ (h : List (RoomEntry S Act B)). h ++ more) d.knows in
      let goes = known_further steps stands_for reply stepped rooms old new more m met.rooms is here in
      let fresh = all_parts (λ (n : P). IsNew old n) workers tenders d.each in
      let knows = all_parts (λ (n : P). KnowsAllOf n new) workers' (flusher' ∷ mover' ∷ []) met.each in
      let fresh_two = All-tail (λ (n : P). IsNew old n) flusher (mover ∷ []) fresh.1 in
      let knows_two = All-tail (λ (n : P). KnowsAllOf n new) flusher' (mover' ∷ []) knows.1 in
      let went = zip_append steps reply rooms workers workers' tenders (flusher' ∷ mover' ∷ []) (zip_goes steps reply rooms IsShift workers workers' ws) (fs.goes, (ms.goes, tt)) in
      let some : 0 < length (workers' ++ flusher' ∷ mover' ∷ []) = let long = length-append workers' (flusher' ∷ mover' ∷ []) in omega arith in
      let served : ServesToEnd m (all_kept reply more) goes.after (map number workers) flusher.number mover.number LeavesNone moved = record {
        sound = sound _ m here.now;
        runs = goes.runs;
        doors = doors ∙ sym (length-map workers number);
        only = λ q none.
            let nobody_is = nobody steps reply rooms old q (workers ++ tenders) (workers' ++ flusher' ∷ mover' ∷ []) went d.each
            (λ c. none (ahead (map number workers) flusher.number mover.number q (subst (λ (xs : List ℕ). Contains xs q) (map-append number workers tenders) c))) in
            none_since steps reply rooms q old new more is (met.only some q nobody_is ∙ ap (λ (h : List (RoomEntry S Act B)). by q h) d.knows);
        shifts = each_mine steps reply rooms old new more is IsShift workers workers' ws fresh.0 knows.0;
        flushes = one_mine steps reply rooms old new more is (IsFlushing LeavesNone) flusher flusher' fs (All-head (λ (n : P). IsNew old n) flusher (mover ∷ []) fresh.1) (All-head (λ (n : P). KnowsAllOf n new) flusher' (mover' ∷ []) knows.1);
        moves = one_mine steps reply rooms old new more is (IsMoving moved) mover mover' ms (All-head (λ (n : P). IsNew old n) mover [] fresh_two) (All-head (λ (n : P). KnowsAllOf n new) mover' [] knows_two);
      } in
      record {
        more = more;
        goes_on = is;
        after = goes.after;
        runs = goes.runs;
        stands_for = goes.stands_for;
        ends = serving_ends m goes.after (all_kept reply more) (map number workers) flusher.number mover.number moved served enough;
      }

-- FLUSHES

-- where a list that was made of another is cut, the other is cut
record MapCut {X Y : Type 0} (f : X → Y) (xs : List X) (y : Y) (back : List Y) : Type 0 where
  before : List X
  at : X
  behind : List X
  is : xs ≡ before ++ at ∷ behind
  made : f at ≡ y
  made_back : map f behind ≡ back

map_cut : {X Y : Type 0} (f : X → Y) (xs : List X) (front : List Y) (y : Y) (back : List Y) → map f xs ≡ front ++ y ∷ back → MapCut f xs y back
map_cut f [] [] y back is = absurd cc
map_cut f [] (z ∷ front) y back is = absurd cc
map_cut f (x ∷ xs) [] y back is = record { before = []; at = x; behind = xs; is = refl; made = cc; made_back = cc }
map_cut {X} f (x ∷ xs) (z ∷ front) y back is =
    let rest : map f xs ≡ front ++ y ∷ back = cc in
    let found = map_cut f xs front y back rest in
    record { before = x ∷ found.before; at = found.at; behind = found.behind; is = ap (λ (l : List X). x ∷ l) found.is; made = found.made; made_back = found.made_back }

-- what an empty list was made of is empty
none_made : {X Y : Type 0} (f : X → Y) (xs : List X) → map f xs ≡ [] → xs ≡ []
none_made f [] is = refl
none_made f (x ∷ xs) is = absurd cc

module _ {S B : Type 0} (steps : S → ℕ → ℕ → Act → B → S → Type 0) (reply : B → Reply) (rooms : Rooms S Act B) where
  pub flush_fault : (old new n n' : Pass S Act B) (more : List (RoomEntry S Act B)) → known new ≡ known old ++ more → Acts steps reply rooms n (IsFlushing FailsToWrite) n' → IsNew old n → KnowsAllOf n' new → HasFlushFault reply old new
  flush_fault old new n n' more is acts fresh knows =
      let f = one_mine steps reply rooms old new more is (IsFlushing FailsToWrite) n n' acts fresh knows in
      let round = f.last.round in
      let at : mine n.number (all_kept reply more) ≡ (f.before ++ round.first ∷ round.ticks) ++ round.flush ∷ [] =
      f.is ∙ (ap (λ (w : List Done). f.before ++ w) round.is ∙ sym (append_assoc f.before (round.first ∷ round.ticks) (round.flush ∷ []))) in
      let k = cut_at n.number (all_kept reply more) (f.before ++ round.first ∷ round.ticks) [] round.flush at in
      let found = map_cut (λ (e : RoomEntry S Act B). kept reply e.who e.act e.answer) more k.front k.entry k.back k.is in
      let whose : found.at.who ≡ n.number = ap (λ (e : Entry). e.who) found.made ∙ k.by in
      let none : own n.number k.back ≡ [] = none_made done_of (own n.number k.back) k.back_is in
      let none_kept : all_kept reply (by n.number found.behind) ≡ [] = sym (kept_own steps reply rooms n.number found.behind) ∙ (ap (λ (es : List Entry). own n.number es) found.made_back ∙ none) in
      record {
        more = more;
        goes_on = is;
        front = found.before;
        flush = found.at;
        back = found.behind;
        is = found.is;
        last = ap (λ (q : ℕ). by q found.behind) whose ∙ none_made (λ (e : RoomEntry S Act B). kept reply e.who e.act e.answer) (by n.number found.behind) none_kept;
        limit = 67108864;
        act = ap (λ (e : Entry). e.act) found.made ∙ (ap (λ (d : Done). d.act) k.done ∙ round.flushes);
        answer = ap (λ (e : Entry). e.answer) found.made ∙ (ap (λ (d : Done). d.answer) k.done ∙ f.last.answered);
      }
