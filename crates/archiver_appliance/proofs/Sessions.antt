-- What a service gave to those who came, from the passes by which its links were served to the one history that these passes know.
use Rattle.std.proofs.Common.{◌≡◌, ℕ, ◌<◌, Bool, List, [], ◌∷◌, ◌++◌, length, Option, Result, refl, sym, ◌∙◌, ap, subst, map, arith}
use Rattle.std.specs.Prelude.{All, Contains}
use Rattle.std.proofs.lemmas.List.{length-map}
use Rattle.std.proofs.lemmas.List.Elements.{All-cons, All-head, All-nil, All-tail}
use mathlib.Core.List.{IsPrefix}
use Rattle.edge_io.specs.Doors.{IsFresh}
use Rattle.edge_io.specs.Moments.{Moments}
use Rattle.edge_io.specs.declared.link.Door.{Ghosts as OfDoor}
use Rattle.edge_io.specs.declared.stream.Source.{Ghosts as OfSource}
use Rattle.edge_io.specs.declared.stream.Sink.{Ghosts as OfSink}
use Rattle.disk_model.specs.declared.disk.ReadAt.{Ghosts as OfFile}
use Rattle.turn_rooms.specs.declared.room.RoomEntry.{RoomEntry}
use Rattle.turn_rooms.specs.declared.rooms.Pass.{Pass}
use Rattle.turn_rooms.specs.declared.rooms.Rooms.{Rooms}
use Rattle.turn_rooms.specs.Histories.{by, end_of}
use Rattle.turn_rooms.specs.declared.view.SeatNumbers.{SeatNumbers}
use Rattle.turn_rooms.specs.Passes.{IsPassOf, KnowsAllOf, Opens, known, opened, standing, stands}
use Rattle.turn_rooms.proofs.Lists.{cons_more, has_first, only_element}
use Rattle.workers.specs.Left.{IsNew}
use Rattle.act_model.specs.declared.acts.Act.{Act}
use Rattle.act_model.specs.declared.acts.Act.TheVariants.{DoorDone}
use Rattle.act_model.specs.declared.acts.Answer.{Answer}
use Rattle.act_model.specs.declared.acts.Answer.TheVariants.{Flushed}
use Rattle.act_model.specs.declared.actor.Actor.{Ghosts as OfActor}
use Rattle.act_model.specs.declared.actor.Spent.{Spent as NoAct}
use Rattle.act_model.specs.Growth.{Onward}
use Rattle.act_model.specs.History.{Done, Entry, Goes, Runs, done_of, mine, own}
use Rattle.act_model.specs.Machine.{Machine}
use Rattle.act_model.specs.Reply.{Reply}
use Rattle.act_model.specs.Sound.{IsSound}
use Rattle.act_model.proofs.Histories.{runs_append, runs_onward, runs_sound}
use Rattle.archive_actors.specs.declared.seated.Seated.{Seated}
use Rattle.archive_actors.specs.declared.shared.Shared.{Shared}
use Rattle.archive_actors.specs.Seats.{StandsFor}
use Rattle.archive_actors.specs.SeatLaws.{kept_append, seat_joined, seat_legal}
use Rattle.archive_actors.specs.Steps.{RoomStep, all_kept, kept}
use Rattle.pb_lines.specs.Stream.{Item}
use Rattle.feed_session.specs.Asks.{flush_all}
use Rattle.feed_session.specs.Durable.{SaysDurable}
use Rattle.feed_session.specs.Session.{EndsIn, IsFlushed, acts_of}
use Rattle.feed_session.specs.declared.end.Fed.{Fed}
use Rattle.feed_session.specs.declared.end.Fed.TheVariants as fed
use Rattle.feed_session.proofs.Durable.{kept_durable}
use Rattle.serving.proofs.Works.{nothing_since, own_map}
use Rattle.service.specs.declared.door.DoorServed.{DoorServed}
use Rattle.service.specs.declared.door.DoorServed.TheVariants as ended
use Rattle.service.specs.declared.posts.Post.{Post}
use Rattle.service.specs.declared.served.Kind.{Kind}
use Rattle.service.specs.declared.served.Kind.TheVariants.{Feed, Http}
use Rattle.service.specs.declared.served.Served.{Served}
use Rattle.service.specs.declared.service.AllServed.{AllServed}
use Rattle.service.specs.Doors.{AsksToEnd, CountsOff, InTurn, IsServed, ServesDoor, ServesDoorAt, ServesLinkTold, Shift, no_link, one_more_link}
use Rattle.service.specs.Seats.{seat_by, seat_pass, seat_rooms}
use Rattle.service.specs.Service.{AllWorked, PostWork, ServesPost, Tends, at_door, at_flushes, at_moves, told_of}
use Rattle.service.specs.Serving.{ServesLink}
use Rattle.archiver_appliance.specs.Serving.{EachOf}
use Rattle.archiver_appliance.specs.Sessions.{Given, KeepsAll, Knower, KnowsMost, Learns, PostGiven, ServesFrom, ServesIn, Tended, knower}
use Rattle.archiver_appliance.proofs.Histories.{link_known, link_leads, made_known, spent_known}

-- A FEED THAT TELLS WHAT IS DURABLE

-- a session that says so ended with a flush
flushed_last : (end : Fed) (begun : List Item) (last : List Done) → SaysDurable end → EndsIn end begun last → IsFlushed last
flushed_last (fed.Fed kept held dropped) begun last says ends = ends.1
flushed_last (fed.Refused line fault) begun last says ends = ends.1
flushed_last fed.PeerFault begun last says ends = absurd says
flushed_last fed.DiskFault begun last says ends = absurd says
flushed_last fed.Spent begun last says ends = absurd says
flushed_last fed.Memory begun last says ends = absurd says

module _ {L R : Type 0} (start : Machine) (file : OfFile R) (source : OfSource L) (sink : OfSink L) (at : Machine) (sound : IsSound at) where
  keeps_all : (kind : Kind) (old : Knower) (clock : Option Moments) (was : L) (result : Served R) (new : Knower) (clock' : Option Moments) (l : L) → (s : ServesFrom start file source sink at kind old clock was result new clock' l) → KeepsAll start file source sink at kind old clock was result new clock' l s
  keeps_all Feed old clock was result new clock' l s = λ says told after run.
      let session = s.2.ended.session in
      let made = s.2.ended.made in
      let f = flushed_last s.2.end session.begun session.last says session.ends in
      let all : mine old.number made.entries ≡ acts_of s.2.taken ++ record { act = flush_all; answer = Flushed f.samples 0 f.doors } ∷ [] = made.just_these ∙ (session.all ∙ ap (λ (ds : List Done). acts_of s.2.taken ++ ds) f.is) in
      kept_durable old.number at after made.entries sound told run (acts_of s.2.taken) f.samples f.doors all
  keeps_all Http old clock was result new clock' l s = tt

-- A DOOR, BY ONE WHO KNOWS A FRONT OF A HISTORY

module _ {A R : Type 0} (actor : OfActor A R) (knows : A → Knower) (same : (a : A) → (knows a).number ≡ actor.number a)
    (learns : (a b : A) (es : List Entry) → actor.between a es b → Learns (knows a) es (knows b)) (full : (a : A) → actor.is_spent a → KnowsMost (knows a)) (joined : (a b c : A) (xs ys : List Entry) → actor.between a xs b → actor.between b ys c → actor.between a (xs ++ ys) c)
    (legal : (a b : A) (es : List Entry) (m : Machine) → actor.between a es b → actor.stands a m → Goes (actor.stands b) m es) (start : Machine) (sound : IsSound start) where
  abbrev pub LeadsTo : A → A → Type 0
  LeadsTo a b = (es : List Entry) × actor.between a es b

  -- what it knows runs from the start to a state that it stands for
  pub record IsAt (a : A) : Type 0 where
    pub at : Machine
    pub to : Runs start (knows a).known at
    pub here : actor.stands a at

  at_later : (a b : A) → IsAt a → LeadsTo a b → IsAt b
  at_later a b p l =
      let goes = legal a b l.0 p.at l.1 p.here in
      record {
        at = goes.after;
        to = subst (λ (es : List Entry). Runs start es goes.after) (sym (learns a b l.0 l.1).1) (runs_append (knows a).known l.0 start p.at goes.after p.to goes.runs);
        here = goes.stands_for;
      }

  module _ {L : Type 0} (file : OfFile R) (source : OfSource L) (sink : OfSink L) (Told : Type 0) (kind : Kind) where
    abbrev Fresh : L → Type 0
    Fresh l = IsFresh sink.written source.read_faults sink.write_faults l

    abbrev ByLink : A → Option Moments → L → Served R → A → Option Moments → L → Type 0
    ByLink old clock was result new clock' l = ServesLinkTold actor file source sink Told kind old clock was result new clock' l

    abbrev InHistory : Knower → Option Moments → L → Served R → Knower → Option Moments → L → Type 0
    InHistory old clock was result new clock' l = ServesIn start file source sink kind old clock was result new clock' l

    serves_in : (a : A) (clock : Option Moments) (was : L) (result : Served R) (b : A) (clock' : Option Moments) (l : L) → IsAt a → ServesLink actor file source sink kind a clock was result b clock' l
        → InHistory (knows a) clock was result (knows b) clock' l
    serves_in a clock was result b clock' l p s =
        let on : Onward start p.at = runs_onward (knows a).known start p.at sound p.to in
        let serves = link_known actor knows same learns full file source sink kind a clock was result b clock' l p.at p.here s in
        record {
          at = p.at;
          to = p.to;
          told = on.told;
          rule = on.rule;
          serves = serves;
          keeps = keeps_all start file source sink p.at (runs_sound (knows a).known start p.at sound p.to) kind (knows a) clock was result (knows b) clock' l serves;
        }

    turns_in : (old : A) (clock : Option Moments) (links : List L) (results : List (Served R)) (new : A) (clock' : Option Moments) → IsAt old → InTurn Fresh ByLink old clock links results new clock'
        → InTurn Fresh InHistory (knows old) clock links results (knows new) clock' × IsAt new
    turns_in old clock links results new clock' p no_link = (no_link, p)
    turns_in old clock links results new clock' p (one_more_link {links = ls} {results = rs} {mid = mid} {moments = ms} was l result b later before fresh s) =
        let rest = turns_in old clock ls rs mid ms p before in (
          one_more_link was l result (knows b) later rest.0 fresh (serves_in mid ms was result b later l rest.1 s.0),
          at_later mid b rest.1 (link_leads actor joined file source sink kind mid ms was result b later l s.0),
        )

    module _ {D : Type 0} (door : OfDoor D L) where
      abbrev Is : L → Type 0
      Is l = IsServed kind sink.written source.read_faults sink.write_faults l

      shift_known : (a : A) (served : DoorServed) (b : A) → Shift actor a served b → Shift {R = R} (knower start) (knows a) served (knows b)
      shift_known a (ended.Done lacked failed) b s = (s.0, made_known actor knows same learns full a b s.0 s.1, s.2)
      shift_known a ended.Spent b s = (s.0, made_known actor knows same learns full a b s.0 s.1, s.2)

      shift_leads : (a : A) (served : DoorServed) (b : A) → Shift actor a served b → LeadsTo a b
      shift_leads a (ended.Done lacked failed) b s = (s.1.entries, s.1.leads)
      shift_leads a ended.Spent b s = (s.1.entries, s.1.leads)

      asked_known : (a : A) (clock : Option Moments) (was : D) (served : DoorServed) (mid : A) (clock' : Option Moments) (now : D) → IsAt a → AsksToEnd door Is (λ links results. InTurn Fresh ByLink a clock links results mid clock') was served now
          → AsksToEnd door Is (λ links results. InTurn Fresh InHistory (knows a) clock links results (knows mid) clock') was served now
      asked_known a clock was (ended.Done lacked failed) mid clock' now p s =
          let l = s.0.left in (
            record {
              left = record { links = l.links; results = l.results; were = (turns_in a clock l.links l.results mid clock' p l.were).0; returned = l.returned; faults_rise = l.faults_rise };
              told = s.0.told;
              are = s.0.are;
            },
            s.1,
          )
      asked_known a clock was ended.Spent mid clock' now p s =
          record { links = s.links; results = s.results; were = (turns_in a clock s.links s.results mid clock' p s.were).0; returned = s.returned; faults_rise = s.faults_rise }

      counted_known : (mid : A) (served : DoorServed) (b : A) → CountsOff actor mid served b → CountsOff {R = R} (knower start) (knows mid) served (knows b)
      counted_known mid (ended.Done lacked failed) b s = (s.0, made_known actor knows same learns full mid b (record { act = DoorDone; answer = s.0 } ∷ []) s.1)
      counted_known mid ended.Spent b s = made_known actor knows same learns full mid b [] s

      pub door_known : (a : A) (clock : Option Moments) (was : D) (served : DoorServed) (b : A) (clock' : Option Moments) (now : D) → IsAt a → ServesDoor actor door Fresh Is ByLink a clock was served b clock' now
          → ServesDoor (knower start) door Fresh Is InHistory (knows a) clock was served (knows b) clock' now
      door_known a clock was served b clock' now p s = record {
        shift = shift_known a served b s.shift;
        mid = knows s.mid;
        asked = asked_known a clock was served s.mid clock' now p s.asked;
        counted = counted_known s.mid served b s.counted;
        spent = λ is. spent_known actor knows same learns full start b (s.spent is);
      }

      pub door_leads : (a : A) (clock : Option Moments) (was : D) (served : DoorServed) (b : A) (clock' : Option Moments) (now : D) → ServesDoor actor door Fresh Is ByLink a clock was served b clock' now → LeadsTo a b
      door_leads a clock was served b clock' now s = shift_leads a served b s.shift

-- ONE WHO IS SEATED

module _ {S B : Type 0} (reply : B → Reply) where
  -- what was done under a number, where that is the same of two histories
  own_same : (q : ℕ) (xs ys : List (RoomEntry S Act B)) → by q xs ≡ by q ys → own q (all_kept reply xs) ≡ own q (all_kept reply ys)
  own_same q xs ys is = seen xs ∙ (ap (λ (h : List (RoomEntry S Act B)). all_kept reply h) is ∙ sym (seen ys))
    where
      seen : (h : List (RoomEntry S Act B)) → own q (all_kept reply h) ≡ all_kept reply (by q h)
      seen h = own_map (λ (e : RoomEntry S Act B). kept reply e.who e.act e.answer) (λ (e : RoomEntry S Act B). e.who) (λ e. refl) q h

  -- a front of the acts is a front of the history
  front_kept : (xs ys : List (RoomEntry S Act B)) (p : IsPrefix xs ys) → all_kept reply ys ≡ all_kept reply xs ++ all_kept reply p.0
  front_kept xs ys p = ap (λ (h : List (RoomEntry S Act B)). all_kept reply h) (sym p.1) ∙ kept_append reply xs p.0

  -- one who is seated, as one who knows a front of the history
  abbrev pub knower_by : Pass S Act B → Knower
  knower_by p = record { number = p.number; known = all_kept reply (known p) }

module _ (T : Type 0) {X Y : Type 0} (steps : Shared X Y → ℕ → ℕ → Act → Answer Y → Shared X Y → Type 0) (Stood : Shared X Y → Machine → Type 0) (reply : Answer Y → Reply)
    (stepped : (old new : Shared X Y) (who n : ℕ) (act : Act) (answer : Answer Y) → steps old who n act answer new → RoomStep Stood reply old who n act answer new) where
  abbrev Seat : Type 0
  Seat = Seated T X Y

  abbrev seat_knows : Seat → Knower
  seat_knows a = knower_by reply (seat_pass a)

  -- what an actor tells, of such a seat
  abbrev seated : OfActor Seat Y
  seated = seat_by steps Stood reply

  seat_learns : (a b : Seat) (es : List Entry) → seated.between a es b → Learns (seat_knows a) es (seat_knows b)
  seat_learns a b es h =
      let before = all_kept reply (known (seat_pass a)) in
      (h.1.same_number, ap (λ (l : List (RoomEntry (Shared X Y) Act (Answer Y))). all_kept reply l) h.1.goes_on ∙ (kept_append reply (known (seat_pass a)) h.1.acts ∙ ap (λ (l : List Entry). before ++ l) (sym h.1.are)))

  seat_full : (a : Seat) → seated.is_spent a → KnowsMost (seat_knows a)
  seat_full a is =
      let long = length-map (known (seat_pass a)) (λ (e : RoomEntry (Shared X Y) Act (Answer Y)). kept reply e.who e.act e.answer) in
      let all : length (known (seat_pass a)) ≡ 9223372036854775807 = is in
      omega (arith, long, all)

  seats_joined : (a b c : Seat) (xs ys : List Entry) → seated.between a xs b → seated.between b ys c → seated.between a (xs ++ ys) c
  seats_joined a b c xs ys p q = (q.0 ∙ p.0, seat_joined steps reply (seat_rooms a) (seat_pass a) xs (seat_rooms b) (seat_pass b) ys (seat_rooms c) (seat_pass c) p.1 q.1)

  seats_legal : (a b : Seat) (es : List Entry) (m : Machine) → seated.between a es b → seated.stands a m → Goes (seated.stands b) m es
  seats_legal a b es m h s = seat_legal steps Stood reply stepped (seat_rooms a) (seat_pass a) es (seat_rooms b) (seat_pass b) m h.1 s

  module _ {C D L : Type 0} (file : OfFile Y) (source : OfSource L) (sink : OfSink L) (door : OfDoor D L) (Told : ℕ → Type 0) (coming : C → Option Moments)
      (rooms : Rooms (Shared X Y) Act (Answer Y)) (old new : Pass (Shared X Y) Act (Answer Y)) (opens : Opens steps rooms (opened rooms) old) (start : Machine) (sound : IsSound start) (stood : Stood (opened rooms) start) where
    abbrev P : Type 0
    P = Pass (Shared X Y) Act (Answer Y)

    abbrev W : Type 0
    W = PostWork Seat C D

    abbrev History : List Entry
    History = all_kept reply (known new)

    abbrev Serving : W → Type 0
    Serving w = ServesPost (ServesDoorAt seated file source sink door Told) seat_pass seat_rooms coming rooms w

    abbrev IsKnown : P → Type 0
    IsKnown n = IsPrefix (known n) (known new)

    -- a pass that was drawn of the first one knows nothing
    knows_none : (n : P) → IsNew old n → known n ≡ []
    knows_none n is = is.knows ∙ opens.knows

    -- one with such a pass stands for the start
    begins : (n : P) → IsPassOf steps rooms n → known n ≡ [] → StandsFor steps Stood rooms n start
    begins n is none = record {
      is_pass = is;
      begun = (start, stood);
      now = subst (λ (h : List (RoomEntry (Shared X Y) Act (Answer Y))). Stood (end_of (opened rooms) h) start) (sym none) stood;
    }

    abbrev At : Seat → Type 0
    At a = IsAt seated seat_knows (λ a. refl) seat_learns seat_full seats_joined seats_legal start sound a

    seat_begins : (a : Seat) → seat_rooms a ≡ rooms → IsPassOf steps rooms (seat_pass a) → known (seat_pass a) ≡ [] → At a
    seat_begins a same is none = record {
      at = start;
      to = subst (λ (h : List (RoomEntry (Shared X Y) Act (Answer Y))). Runs start (all_kept reply h) start) (sym none) refl;
      here = subst (λ (r : Rooms (Shared X Y) Act (Answer Y)). StandsFor steps Stood r (seat_pass a) start) (sym same) (begins (seat_pass a) is none);
    }

    -- all acts under a pass's number are those that it knows
    no_more_acts : (n : P) (q : ℕ) → Contains (stands n) q → KnowsAllOf n new → (p : IsKnown n) → own q (all_kept reply p.0) ≡ []
    no_more_acts n q has all p =
        nothing_since q (all_kept reply (known n)) (all_kept reply p.0)
        (ap (λ (es : List Entry). own q es) (sym (front_kept reply (known n) (known new) p)) ∙ own_same reply q (known new) (known n) (all.acts q has))

    abbrev who_knows : ℕ → List Entry → Knower
    who_knows n es = record { number = n; known = es }

    abbrev InDoor : W → Knower → Knower → Type 0
    InDoor w k later = ServesDoor (knower start) door (IsFresh sink.written source.read_faults sink.write_faults) (IsServed w.post.kind sink.written source.read_faults sink.write_faults) (ServesIn start file source sink w.post.kind)
        k (coming w.clock) w.post.door w.served later (coming w.clock') w.post'.door

    by_knowers : (w : W) (k later k' later' : Knower) → k ≡ k' → later ≡ later' → InDoor w k later → InDoor w k' later'
    by_knowers w k later k' later' is is' d = subst (λ (x : Knower). InDoor w k' x) is' (subst (λ (x : Knower). InDoor w x later) is d)

    post_given : (w : W) → Serving w → IsNew old (seat_pass w.seat) → IsPassOf steps rooms (seat_pass w.seat) → KnowsAllOf (seat_pass w.seat') new → IsKnown (seat_pass w.seat')
        → PostGiven start file source sink History door ((seat_pass w.seat).number, w.served) w.post w.post'
    post_given w s fresh pass all p =
        let none = knows_none (seat_pass w.seat) fresh in
        let at = seat_begins w.seat s.rooms_are pass none in
        let leads = door_leads seated seat_knows (λ a. refl) seat_learns seat_full seats_joined seats_legal start sound file source sink (Told w.place) w.post.kind door
        w.seat (coming w.clock) w.post.door w.served w.seat' (coming w.clock') w.post'.door s.serves in
        let goes = (seats_legal w.seat w.seat' leads.0 at.at leads.1 at.here).stands_for.is_pass in
        let number : (seat_pass w.seat').number ≡ (seat_pass w.seat).number = leads.1.1.same_number in
        let last : Contains (stands (seat_pass w.seat')) (seat_pass w.seat').number = goes.belongs.live in
        record {
          known = all_kept reply (known (seat_pass w.seat'));
          rest = all_kept reply p.0;
          front = front_kept reply (known (seat_pass w.seat')) (known new) p;
          no_more = no_more_acts (seat_pass w.seat') (seat_pass w.seat).number (subst (λ (q : ℕ). Contains (stands (seat_pass w.seat')) q) number last) all p;
          clock = coming w.clock;
          clock' = coming w.clock';
          serves = by_knowers w (seat_knows w.seat) (seat_knows w.seat') _ _ (ap (λ (h : List (RoomEntry (Shared X Y) Act (Answer Y))). who_knows (seat_pass w.seat).number (all_kept reply h)) none)
              (ap (λ (q : ℕ). who_knows q (all_kept reply (known (seat_pass w.seat')))) number)
              (door_known seated seat_knows (λ a. refl) seat_learns seat_full seats_joined seats_legal start sound file source sink (Told w.place) w.post.kind door
              w.seat (coming w.clock) w.post.door w.served w.seat' (coming w.clock') w.post'.door at s.serves);
        }

    tended : {E : Type 0} (Such : Result E NoAct → List ℕ → List Done → Type 0) (n n' : P) (clock clock' : Option Moments) (end : Result E NoAct) → IsNew old n → KnowsAllOf n' new → IsKnown n' → Tends steps reply rooms Such n clock end n' clock'
        → Tended start file source sink History door Such end
    tended Such n n' clock clock' end fresh all p t =
        let none = knows_none n fresh in
        let goes = t.acts.goes in
        let more : known n' ≡ t.acts.more = t.acts.goes_on ∙ ap (λ (h : List (RoomEntry (Shared X Y) Act (Answer Y))). h ++ t.acts.more) none in
        let has : Contains (stands n') n.number = subst (λ (q : ℕ). Contains (stands n') q) goes.same_number goes.rooms.belongs.live in
        let own_all : own n.number History ≡ own n.number (all_kept reply (known n')) = own_same reply n.number (known new) (known n') (all.acts n.number has) in
        let mine_all : mine n.number (all_kept reply t.acts.more) ≡ mine n.number History =
        ap (λ (h : List (RoomEntry (Shared X Y) Act (Answer Y))). mine n.number (all_kept reply h)) (sym more) ∙ sym (ap (λ (es : List Entry). map done_of es) own_all) in
        record { number = n.number; clock = clock; clock' = clock'; moments = t.moments; at = t.at; acts = subst (λ (ds : List Done). Such end t.moments ds) mine_all t.acts.such }

    abbrev GivenAt : ℕ × DoorServed → Post D → Post D → Type 0
    GivenAt by_it was now = PostGiven start file source sink History door by_it was now

    -- under which number each post's door was served, and how
    abbrev served_by : W → ℕ × DoorServed
    served_by w = ((seat_pass w.seat).number, w.served)

    posts_given : (works : List W) (others others' : List P) → All Serving works → All (IsNew old) (map (λ (w : W). seat_pass w.seat) works ++ others) → All (λ (n : P). IsPassOf steps rooms n) (map (λ (w : W). seat_pass w.seat) works ++ others)
        → All (λ (n : P). KnowsAllOf n new) (map (λ (w : W). seat_pass w.seat') works ++ others') → All IsKnown (map (λ (w : W). seat_pass w.seat') works ++ others')
        → EachOf GivenAt (map served_by works) (map (λ (w : W). w.post) works) (map (λ (w : W). w.post') works)
    posts_given [] others others' serve fresh passes all fronts = tt
    posts_given (w ∷ ws) others others' serve fresh passes all fronts =
        let before = map (λ (w : W). seat_pass w.seat) ws ++ others in
        let behind = map (λ (w : W). seat_pass w.seat') ws ++ others' in (
          post_given w (All-head Serving w ws serve) (All-head (IsNew old) (seat_pass w.seat) before fresh) (All-head (λ (n : P). IsPassOf steps rooms n) (seat_pass w.seat) before passes)
              (All-head (λ (n : P). KnowsAllOf n new) (seat_pass w.seat') behind all) (All-head IsKnown (seat_pass w.seat') behind fronts),
          posts_given ws others others' (All-tail Serving w ws serve) (All-tail (IsNew old) (seat_pass w.seat) before fresh) (All-tail (λ (n : P). IsPassOf steps rooms n) (seat_pass w.seat) before passes)
              (All-tail (λ (n : P). KnowsAllOf n new) (seat_pass w.seat') behind all) (All-tail IsKnown (seat_pass w.seat') behind fronts),
        )

    -- those beside the doors, behind all at posts
    two_last : (Q : P → Type 0) (passes : List P) (f m : P) → All Q (passes ++ f ∷ m ∷ []) → Q f × Q m
    two_last Q [] f m all = (All-head Q f (m ∷ []) all, All-head Q m [] (All-tail Q f (m ∷ []) all))
    two_last Q (p ∷ ps) f m all = two_last Q ps f m (All-tail Q p (ps ++ f ∷ m ∷ []) all)

    ends_at : (works : List W) → map (λ (w : W). at_door w.served) works ≡ map (λ (s : ℕ × DoorServed). at_door s.1) (map served_by works)
    ends_at [] = refl
    ends_at (w ∷ ws) = ap (λ es. at_door w.served ∷ es) (ends_at ws)

    -- NOBODY ELSE

    -- a pass by which one acted stands for one number alone, as it did when it was drawn
    stands_for_one : (n n' : P) (q : ℕ) → IsNew old n → standing n' ≡ standing n → (q ≡ n.number → ⊥) → Contains (stands n') q → ⊥
    stands_for_one n n' q fresh same other has =
        let one : Contains (n.number ∷ []) q = subst (λ (xs : List ℕ). Contains xs q) fresh.stands_for (subst (λ (x : SeatNumbers). Contains x.stands q) same has) in
        other (sym (only_element n.number q one))

    beside_one : (w : W) (q : ℕ) → Serving w → IsNew old (seat_pass w.seat) → IsPassOf steps rooms (seat_pass w.seat) → (q ≡ (seat_pass w.seat).number → ⊥) → Contains (stands (seat_pass w.seat')) q → ⊥
    beside_one w q s fresh pass other has =
        let leads = door_leads seated seat_knows (λ a. refl) seat_learns seat_full seats_joined seats_legal start sound file source sink (Told w.place) w.post.kind door
        w.seat (coming w.clock) w.post.door w.served w.seat' (coming w.clock') w.post'.door s.serves in
        let goes = leads.1.1.goes (subst (λ (r : Rooms (Shared X Y) Act (Answer Y)). IsPassOf steps r (seat_pass w.seat)) (sym s.rooms_are) pass) in
        stands_for_one (seat_pass w.seat) (seat_pass w.seat') q fresh goes.same_standing other has

    abbrev Apart : ℕ → P → Type 0
    Apart q n = Contains (stands n) q → ⊥

    beside_all : (q : ℕ) (works : List W) (others others' : List P) (more : List ℕ) → All Serving works → All (IsNew old) (map (λ (w : W). seat_pass w.seat) works ++ others) → All (λ (n : P). IsPassOf steps rooms n) (map (λ (w : W). seat_pass w.seat) works ++ others)
        → (Contains (map (λ (s : ℕ × DoorServed). s.0) (map served_by works) ++ more) q → ⊥) → ((Contains more q → ⊥) → All (Apart q) others') → All (Apart q) (map (λ (w : W). seat_pass w.seat') works ++ others')
    beside_all q [] others others' more serve fresh passes none last = last none
    beside_all q (w ∷ ws) others others' more serve fresh passes none last =
        let before = map (λ (w : W). seat_pass w.seat) ws ++ others in
        let numbers = map (λ (s : ℕ × DoorServed). s.0) (map served_by ws) ++ more in
        let number = (seat_pass w.seat).number in
        All-cons (Apart q) (seat_pass w.seat') (map (λ (w : W). seat_pass w.seat') ws ++ others')
        (beside_one w q (All-head Serving w ws serve) (All-head (IsNew old) (seat_pass w.seat) before fresh) (All-head (λ (n : P). IsPassOf steps rooms n) (seat_pass w.seat) before passes) (λ is. none (subst (λ (x : ℕ). Contains (number ∷ numbers) x) (sym is) (has_first number numbers))))
        (beside_all q ws others others' more (All-tail Serving w ws serve) (All-tail (IsNew old) (seat_pass w.seat) before fresh) (All-tail (λ (n : P). IsPassOf steps rooms n) (seat_pass w.seat) before passes) (λ has. none (cons_more number numbers q has)) last)

    one_or_more : (passes : List P) (f m : P) → 0 < length (passes ++ f ∷ m ∷ [])
    one_or_more [] f m = omega arith
    one_or_more (p ∷ ps) f m = omega arith

    pub all_given : (told : AllServed) (olds news : List (Post D)) → AllWorked (ServesDoorAt seated file source sink door Told) seat_pass seat_rooms coming steps reply rooms told old new olds news
        → Given start file source sink History door told olds news
    unfolding tended
    all_given told olds news all =
        let before = map (λ (w : W). seat_pass w.seat) all.works in
        let behind = map (λ (w : W). seat_pass w.seat') all.works in
        let fresh = two_last (IsNew old) before all.flusher all.mover all.drawn.each in
        let ended = two_last (λ (n : P). KnowsAllOf n new) behind all.flusher' all.mover' all.met.each in
        let fronts = two_last IsKnown behind all.flusher' all.mover' all.met.knows_more in
        let two : List ℕ = all.flusher.number ∷ all.mover.number ∷ [] in
        let last : (q : ℕ) → (Contains two q → ⊥) → All (Apart q) (all.flusher' ∷ all.mover' ∷ []) = λ q none.
        All-cons (Apart q) all.flusher' (all.mover' ∷ [])
        (stands_for_one all.flusher all.flusher' q fresh.0 all.flushes.acts.goes.same_standing (λ is. none (subst (λ (x : ℕ). Contains two x) (sym is) (has_first all.flusher.number (all.mover.number ∷ [])))))
        (All-cons (Apart q) all.mover' []
        (stands_for_one all.mover all.mover' q fresh.1 all.moves.acts.goes.same_standing (λ is. none (cons_more all.flusher.number (all.mover.number ∷ []) q (subst (λ (x : ℕ). Contains (all.mover.number ∷ []) x) (sym is) (has_first all.mover.number [])))))
        (All-nil (Apart q))) in
        record {
          served = map served_by all.works;
          each = rw (all.posts, all.posts') (posts_given all.works (all.flusher ∷ all.mover ∷ []) (all.flusher' ∷ all.mover' ∷ []) all.serve all.drawn.each all.drawn.left.each all.met.each all.met.knows_more);
          flushed = all.flushed;
          flushes = tended _ all.flusher all.flusher' (coming all.flusher_clock) (coming all.flusher_clock') all.flushed fresh.0 ended.0 fronts.0 all.flushes;
          moved = all.moved;
          moves = tended _ all.mover all.mover' (coming all.mover_clock) (coming all.mover_clock') all.moved fresh.1 ended.1 fronts.1 all.moves;
          nobody_else = λ q none.
              let only = all.met.only (one_or_more behind all.flusher' all.mover') q (beside_all q all.works (all.flusher ∷ all.mover ∷ []) (all.flusher' ∷ all.mover' ∷ []) two all.serve all.drawn.each all.drawn.left.each none (last q)) in
              own_same reply q (known new) [] (only ∙ ap (λ (h : List (RoomEntry (Shared X Y) Act (Answer Y))). by q h) (all.drawn.knows ∙ opens.knows));
          told_is = all.told_is ∙ ap (λ es. told_of (es ++ at_flushes all.flushed ∷ at_moves all.moved ∷ [])) (ends_at all.works);
        }
