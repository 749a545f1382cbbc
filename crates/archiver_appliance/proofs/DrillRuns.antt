-- From a disk in memory through a drill's service, its opening again and its moves to its text.
use Rattle.std.proofs.Common.{◌≡◌, ◌⊎◌, inl, inr, ℕ, zero, suc, ◌+◌, List, [], ◌∷◌, ◌++◌, length, Bool, true, false, Some, None, refl, sym, ap, subst, ◌∙◌, arith}
use Rattle.std.specs.Prelude.{◌==◌, All, IsTrue, Result, IfOk}
use Rattle.std.proofs.lemmas.Bool.{false≢true}
use Rattle.std.proofs.lemmas.List.Elements.{filter-append}
use Rattle.std.proofs.lemmas.Result.{IfOk-weaker}
use Rattle.disk_model.specs.Files.{Content, Files, Name}
use Rattle.disk_model.specs.Past.{MayLeave, Past}
use Rattle.disk_model.specs.Crash.{MayHold, never}
use Rattle.disk_model.specs.Record.{files_of, opened_of, past_of}
use Rattle.disk_model.specs.declared.disk.Disk.{Ghosts}
use Rattle.etl_rules.specs.Config.{ConfigState}
use Rattle.partition_names.specs.declared.granularity.Granularity.{Granularity}
use Rattle.durable_write.specs.Held.{Filed, IsIn, shelf_of}
use Rattle.edge_io.specs.Doors.{Both, ListedLinks, ledger_of}
use Rattle.drill_feed.specs.Report.{tiers_text}
use Rattle.drill_feed.specs.Workload.{name_text, now_of}
use Rattle.tier_store.specs.Change.{Has, IsEither}
use Rattle.tier_store.specs.Seen.{seen}
use Rattle.tier_store.specs.Stored.{HoldsAll}
use Rattle.tier_store.specs.Stores.{Stores, list_at, tier}
use Rattle.tier_store.specs.declared.store.TierStore.{TierStore}
use Rattle.store_reopen.specs.Reopen.{AllIn, HasRead, IsUnopened, OpensEither, stores_of}
use Rattle.pb_messages.specs.declared.about.About.{About}
use Rattle.pb_messages.specs.declared.about.Method.TheVariants.{Monitor}
use Rattle.pb_wire.specs.declared.payload.PayloadType.TheVariants.{ScalarInt}
use Rattle.act_model.specs.declared.acts.Act.TheVariants.{Register}
use Rattle.act_model.specs.declared.acts.Answer.TheVariants.{Registered}
use Rattle.act_model.specs.Changes.{Settles, as_made, as_not_made, made, no_doubt}
use Rattle.act_model.specs.Growth.{Onward}
use Rattle.act_model.specs.History.{Done, Entry, Runs, mine, own}
use Rattle.act_model.specs.Machine.{Change, Machine}
use Rattle.act_model.specs.Outcome.{refused_at_once, refused, runs, faults_first, faults_between, faults_within, faults_removing, wants_memory, wants_memory_settled}
use Rattle.act_model.specs.Register.{RegisterStep}
use Rattle.act_model.specs.Reply.{Reply}
use Rattle.act_model.specs.Rule.{Rule}
use Rattle.act_model.proofs.Histories.{mine-append, runs_append, runs_onward}
use Rattle.serving.specs.declared.due.DueMoved.{DueMoved}
use Rattle.serving.specs.Due.{MovesAll}
use Rattle.archive_core.specs.Parts.{parts}
use Rattle.archive_core.specs.Stands.{HoldsDurable, Stands}
use Rattle.archive_core.specs.declared.archive.Archive.{Archive}
use Rattle.retrieval_query.specs.Retrieving.{ReadsHeaders}
use Rattle.service.specs.declared.posts.Post.{Post}
use Rattle.service.specs.declared.service.AllServed.{AllServed}
use Rattle.service.specs.Doors.{IsServed}
use Rattle.archiver_appliance.specs.Acting.{Acts, ActsAlone, IsOpenedOn, OpensAgain, rule_of}
use Rattle.archiver_appliance.specs.Drilling.{AreFed, FeedsLeft, HasRegistered, HoldsLeft, IsBegunWith, IsClean, IsDrillText, OfHeld, OpensWell, Tells, TellsOn, WereSpent, feed_posts, none_registered, nothing_held, one_registered, registers, shipped, tiers_of, unmoving}
use Rattle.archiver_appliance.specs.Serving.{LeavesArchive, PostsLeft}
use Rattle.archiver_appliance.proofs.Acting.{both_hold, handed, opens_again, ran, unopened_given}
use Rattle.archiver_appliance.proofs.Answering.{reads_headers}
use Rattle.archiver_appliance.proofs.DrillReads.{one_step}
use Rattle.archiver_appliance.proofs.Opening.{first_stands}

-- AN EMPTY DISK

-- a crash leaves no file of a name that never had one
none_left : (content : Content) → MayHold never content → content ≡ None
none_left None left = refl
none_left (Some bytes) (inl left) = absurd left
none_left (Some bytes) (inr left) = absurd left

no_list : (i : ℕ) → list_at i nothing_held ≡ []
no_list zero = refl
no_list (suc zero) = refl
no_list (suc (suc i)) = refl

all_of_none : (P : Filed → Type 0) (xs : List Filed) → xs ≡ [] → All P xs
all_of_none P xs none k d low = let short : length xs ≡ 0 = ap (λ (l : List Filed). length l) none in absurd (omega (arith, low, short))

none_in : (image : Files) → AllIn nothing_held image
none_in image i low stands = all_of_none (IsIn (shelf_of (tier i nothing_held)) image) (list_at i nothing_held) (no_list i)

module _ (holds : (gs : List Granularity) (files : Files) → ((n : Name) → files n ≡ None) → HoldsAll gs files (record { rows = []; short = []; medium = []; long = []; stands = true })) (gs : List Granularity) where
  empty_either : OpensEither gs (past_of []) nothing_held nothing_held
  empty_either = record {
    one_change = inl refl;
    holds = λ image left. inl (holds gs image (λ n. none_left (image n) (left n)));
    files = λ image left. (none_in image, none_in image);
  }

  pub empty_opens : OpensWell gs (past_of [])
  empty_opens = record { before = nothing_held; after = nothing_held; opens = empty_either; stands = refl }

  -- what holds of what stands on it holds of nothing
  pub of_nothing : (Such : Stores → Type 0) → OfHeld gs (past_of []) Such → Such nothing_held
  of_nothing Such of = let one = of nothing_held nothing_held empty_either refl in by_either one.0 one.1 one.3
    where
      by_either : (held : Stores) → IsEither nothing_held nothing_held held → Such held → Such nothing_held
      by_either held (inl is) such = subst Such is such
      by_either held (inr is) such = subst Such is such

pub empty_unopened : IsUnopened (files_of []) (opened_of [])
empty_unopened = record { catalogue = λ n at. refl; manifests = λ i low n at. refl; listed = λ rows said i low g entries listed. λ k d within. omega arith }

-- WHAT IS OPENED

module _ {D R : Type 0} (disk : Ghosts D R) where
  -- an archive on whatever the stores have
  abbrev pub OpensFrom : TierStore D R → ℕ → Archive D R → Type 0
  OpensFrom store doors archive = (held : Stores) → Has disk.tells (seen disk store) held → IsBegunWith disk store.config held doors archive

  -- an archive stands for something
  abbrev pub StandsNow : Archive D R → Type 0
  StandsNow archive = (m : Machine) × Stands disk.tells (parts disk archive) m

  -- it was opened on what a disk held that tells its files
  abbrev pub OpenedOn : ConfigState → D → ℕ → Archive D R → Type 0
  OpenedOn config old doors archive = IsTrue disk.tells → OfHeld (stores_of config) (disk.past old) (λ held. IsBegunWith disk config held doors archive)

  pub stands_by : {E : Type 0} (store : TierStore D R) (doors : ℕ) (result : Result (Archive D R) E) → (held : Stores) × Has disk.tells (seen disk store) held → IfOk result (OpensFrom store doors) → IfOk result StandsNow
  stands_by {E} store doors result some opens = IfOk-weaker result (OpensFrom store doors) StandsNow (λ archive each. let one = each some.0 some.1 in (one.start, one.stands)) opens

  pub opened_by : {E : Type 0} (store : TierStore D R) (config : ConfigState) (old : D) (doors : ℕ) (result : Result (Archive D R) E) → store.config ≡ config
      → (IsTrue disk.tells → (before after : Stores) → OpensEither (stores_of config) (disk.past old) before after → HasRead disk (stores_of config) old (seen disk store) before after) → IfOk result (OpensFrom store doors) → IfOk result (OpenedOn config old doors)
  opened_by {E} store config old doors result same reads opens = IfOk-weaker result (OpensFrom store doors) (OpenedOn config old doors) (λ archive each told before after either stand.
      let read = reads told before after either in (
        read.held,
        read.either,
        first_stands (stores_of config) (disk.past old) before after read.held either stand read.either,
        subst (λ (c : ConfigState). IsBegunWith disk c read.held doors archive) same (each read.held read.has),
      )) opens

-- WHAT IS REGISTERED

acts_join : (start mid new : Machine) (xs ys : List Done) (es : List Entry) → Acts start xs mid → mine 0 es ≡ ys → own 0 es ≡ es → Runs mid es new → Acts start (xs ++ ys) new
acts_join start mid new xs ys es a just none run = record {
  entries = a.entries ++ es;
  just_these = mine-append 0 a.entries es ∙ (ap (λ (w : List Done). w ++ mine 0 es) a.just_these ∙ ap (λ (w : List Done). xs ++ w) just);
  no_others = filter-append (λ e. e.who == 0) a.entries es ∙ (ap (λ (w : List Entry). w ++ own 0 es) a.no_others ∙ ap (λ (w : List Entry). a.entries ++ w) none);
  runs = runs_append a.entries es start mid new a.runs run;
}

settled_doors : {old mid : Machine} → Settles old mid → mid.doors ≡ old.doors
settled_doors (no_doubt is) = refl
settled_doors (as_not_made change is) = refl
settled_doors (as_made change into is stays) = refl

same_doors : {a b : Machine} → b ≡ a → b.doors ≡ a.doors
same_doors same = ap (λ (m : Machine). m.doors) same

-- no door is counted off by a registration
register_doors : (name : List ℕ) (about : About) {old new : Machine} {reply : Reply} → RegisterStep name about old reply new → new.doors ≡ old.doors
register_doors name about (refused_at_once reply p) = refl
register_doors name about (refused reply p settles q same r) = same_doors same ∙ settled_doors settles
register_doors name about (runs reply p settles q ran r) = same_doors ran.1 ∙ settled_doors settles
register_doors name about (faults_first p same q) = same_doors same
register_doors name about (faults_between p settles same q) = same_doors same ∙ settled_doors settles
register_doors name about (faults_within doubted p settles q r same t) = same_doors same ∙ settled_doors settles
register_doors name about (faults_removing done gone p settles q ran t) = same_doors ran.1 ∙ settled_doors settles
register_doors name about (wants_memory same q) = same_doors same
register_doors name about (wants_memory_settled p settles same q) = same_doors same ∙ settled_doors settles

module _ (held : Stores) (variables : ℕ) (m : Machine) (h : HasRegistered true held variables m) (stands : IsTrue held.stands) where
  on : Onward h.start m
  on = runs_onward h.acts.entries h.start m h.sound h.acts.runs

  is_told : m.told ≡ true
  is_told = on.told ∙ (h.opened.told ∙ stands)

  by_shipped : m.rule.granularity ≡ stores_of shipped
  by_shipped = ap (λ (r : Rule). r.granularity) (on.rule ∙ h.opened.rule)

-- a variable's name and what is known of it, by other names
pub registered_as : {D R : Type 0} (disk : Ghosts D R) (first last : Archive D R) (name : List ℕ) (about : About) (variable row : ℕ) → name ≡ name_text variable → about ≡ record { ty = ScalarInt; method = Monitor; count = None; headers = [] }
    → ActsAlone disk first (record { act = Register name about; answer = Registered row } ∷ []) last → ActsAlone disk first (registers variable row ∷ []) last
registered_as {D} {R} disk first last name about variable row named known made =
    subst (λ (a : About). ActsAlone disk first (record { act = Register (name_text variable) a; answer = Registered row } ∷ []) last) known
    (subst (λ (n : List ℕ). ActsAlone disk first (record { act = Register n about; answer = Registered row } ∷ []) last) named made)

module _ {D R : Type 0} (disk : Ghosts D R) (old : D) where
  -- so many variables were registered in an archive that was opened on what a disk held that tells its files
  abbrev pub RegisteredOn : ℕ → Archive D R → Type 0
  RegisteredOn variables archive = IsTrue disk.tells → OfHeld (stores_of shipped) (disk.past old) (λ held. (m : Machine) × Stands disk.tells (parts disk archive) m × HasRegistered disk.tells held variables m)

  pub registered_first : (config : ConfigState) (archive : Archive D R) → config ≡ unmoving → OpenedOn disk config old 2 archive → RegisteredOn 0 archive
  registered_first config archive same o told before after opens stand =
      let one = o told before after (subst (λ (c : ConfigState). OpensEither (stores_of c) (disk.past old) before after) (sym same) opens) stand in
      let b = one.3 in (
        one.0,
        one.1,
        one.2,
        (
          b.start,
          b.stands,
          record {
            start = b.start;
            sound = b.stands.sound;
            opened = subst (λ (c : ConfigState). IsOpenedOn disk.tells c one.0 b.start) same b.opened;
            with_doors = b.with_doors;
            done = [];
            registered = none_registered;
            acts = record { entries = []; just_these = refl; no_others = refl; runs = refl };
            doors = b.with_doors;
          },
        ),
      )

  pub registered_next : (first second : Archive D R) (variable row : ℕ) → RegisteredOn variable first → ActsAlone disk first (registers variable row ∷ []) second → RegisteredOn (variable + 1) second
  registered_next first second variable row before acts told b a opens stand =
      let one = before told b a opens stand in
      let now = one.3 in
      let h = now.2 in
      let run = ran disk first second (registers variable row ∷ []) now.0 now.1 acts in (
        one.0,
        one.1,
        one.2,
        (
          run.after,
          run.stands,
          record {
            start = h.start;
            sound = h.sound;
            opened = h.opened;
            with_doors = h.with_doors;
            done = h.done ++ registers variable row ∷ [];
            registered = one_registered row h.registered;
            acts = acts_join h.start now.0 run.after h.done (registers variable row ∷ []) acts.entries h.acts acts.just_these acts.no_others run.runs;
            doors = register_doors (name_text variable) _ (one_step acts.entries now.0 run.after (registers variable row) acts.no_others acts.just_these run.runs) ∙ h.doors;
          },
        ),
      )

  pub stands_next : (first second : Archive D R) (done : List Done) → StandsNow disk first → ActsAlone disk first done second → StandsNow disk second
  stands_next first second done s made = let run = ran disk first second done s.0 s.1 made in (run.after, run.stands)

  -- WHAT IS SERVED

  module _ (hours : ℕ) (archive left : Archive D R) (began : Bool) (told : AllServed) (posts : List (Post (ListedLinks Both))) (registered : RegisteredOn 4 archive) (Given : Machine → List Entry → Type 0) (leaves : LeavesArchive disk archive 2 Given began told left) (feeds : FeedsLeft hours began told posts) where
    -- what one began who found nothing wanting
    clean_began : (b : Bool) → FeedsLeft hours b told posts → IsClean told → b ≡ true
    clean_began true left clean = refl
    clean_began false nobody clean = absurd (false≢true (sym clean.1 ∙ ap (λ (t : AllServed). t.memory) nobody.want))

    -- and what one began for whom no act was left
    spent_began : (b : Bool) → FeedsLeft hours b told posts → told.spent ≡ true → b ≡ true
    spent_began true left lacks = refl
    spent_began false nobody lacks = absurd (false≢true (sym (ap (λ (t : AllServed). t.spent) nobody.want) ∙ lacks))

    pub were_spent : told.spent ≡ true → IsTrue disk.tells → OfHeld (stores_of shipped) (disk.past old) (WereSpent hours)
    were_spent lacks tells before after opens stand =
        let one = registered tells before after opens stand in
        let now = one.3 in
        let run = leaves.run now.0 now.1 in (
          one.0,
          one.1,
          one.2,
          record {
            told = told;
            lacks = lacks;
            fed = run.after;
            feeds = record {
              ready = now.0;
              begun = subst (λ (b : Bool). HasRegistered b one.0 4 now.0) tells now.2;
              posts = posts;
              left = subst (λ (b : Bool). FeedsLeft hours b told posts) (spent_began began feeds lacks) feeds;
              entries = leaves.entries;
              runs = run.runs;
              none = λ no. absurd (false≢true (sym no));
              spent = leaves.spent;
              ends = λ none memory fault. absurd (false≢true (sym none ∙ lacks));
            };
          },
        )

    module _ (after_it : TierStore D R) (given : D) (back : after_it ≡ left.half.store) (is : given ≡ after_it.disk) where
      pub were_fed : IsClean told → IsTrue disk.tells → OfHeld (stores_of shipped) (disk.past old) (λ held. AreFed hours held (disk.past given))
      were_fed clean tells before after opens stand =
          let one = registered tells before after opens stand in
          let now = one.3 in
          let m = now.0 in
          let has : HasRegistered true one.0 4 m = subst (λ (b : Bool). HasRegistered b one.0 4 m) tells now.2 in
          let end = leaves.ends m now.1 has.doors clean.0 clean.1 clean.2 in
          let onward : Onward m end.1 = runs_onward leaves.entries m end.1 now.1.sound end.2 in
          let yes = clean_began began feeds clean in (
            one.0,
            one.1,
            one.2,
            record {
              told = told;
              clean = clean;
              fed = end.1;
              feeds = record {
                ready = m;
                begun = has;
                posts = posts;
                left = subst (λ (b : Bool). FeedsLeft hours b told posts) yes feeds;
                entries = leaves.entries;
                runs = end.2;
                none = λ no. absurd (false≢true (sym no));
                spent = λ lacks. absurd (false≢true (sym clean.0 ∙ lacks));
                ends = λ none memory fault. (end.0, end.4);
              };
              leaves = subst (λ (d : D). OpensAgain shipped end.1 (disk.past d)) (handed disk left after_it given back is)
                  (opens_again disk left end.1 end.3 shipped (ap (λ (r : Rule). r.granularity) onward.rule ∙ by_shipped one.0 4 m has one.2) tells);
              stands = onward.told ∙ is_told one.0 4 m has one.2;
            },
          )

      -- none of the disk's journals was opened beyond what it lists
      pub served_unopened : StandsNow disk archive → (IsTrue disk.tells → MayLeave (disk.past left.half.store.disk) (disk.files left.half.store.disk)) → IsTrue disk.tells → IsUnopened (disk.files given) (disk.opened given)
      served_unopened s may tells = let run = leaves.run s.0 s.1 in unopened_given disk left after_it given back is run.after run.stands may tells

-- the posts that were served are those of the feeds
pub feeds_left : (hours : ℕ) (began : Bool) (told : AllServed) (olds news : List (Post (ListedLinks Both)))
    → PostsLeft (λ (d : ListedLinks Both). d.closed) (λ (d : ListedLinks Both). d.calls.faults) (λ (d : ListedLinks Both). Some (ledger_of d)) (λ kind (l : Both). IsServed kind (λ (l : Both). Some l.output.written) (λ (l : Both). l.input.calls.faults) (λ (l : Both). l.output.calls.faults) l) began told olds news → olds ≡ feed_posts hours
    → FeedsLeft hours began told news
feeds_left hours began told olds news left are =
    subst (λ (ps : List (Post (ListedLinks Both))). PostsLeft (λ (d : ListedLinks Both). d.closed) (λ (d : ListedLinks Both). d.calls.faults) (λ (d : ListedLinks Both). Some (ledger_of d)) (λ kind (l : Both). IsServed kind (λ (l : Both). Some l.output.written) (λ (l : Both). l.input.calls.faults) (λ (l : Both). l.output.calls.faults) l) began told ps news) are left

-- what was left holds what is durable of the state that it was left in
held_left : (config : ConfigState) (end : Machine) (past : Past) (a : OpensAgain config end past) (held : Stores) → IsEither a.before a.after held → HoldsLeft held end
held_left config end past a held (inl is) = subst (λ (s : Stores). HoldsLeft s end) (sym is) (inl a.holds)
held_left config end past a held (inr is) = subst (λ (s : Stores). HoldsLeft s end) (sym is) (by_doubt a.doubted)
  where
    by_doubt : (a.after ≡ a.before) ⊎ ((change : Change) × (end.doubt ≡ Some change) × HoldsDurable a.after (made [] change end)) → HoldsLeft a.after end
    by_doubt (inl same) = inl (subst (λ (s : Stores). HoldsDurable s end) (sym same) a.holds)
    by_doubt (inr change) = inr change

-- THE TEXT

module _ {D R : Type 0} (disk : Ghosts D R) (hours : ℕ) (first : D) (given : D) (fed : IsTrue disk.tells → OfHeld (stores_of shipped) (disk.past first) (λ held. AreFed hours held (disk.past given))) (tells : IsTrue disk.tells) where
  -- the disk that is given back opens
  pub opens_left : OpensWell (stores_of shipped) (disk.past first) → OpensWell (stores_of shipped) (disk.past given)
  opens_left w =
      let a = (fed tells w.before w.after w.opens w.stands).3 in
      record { before = a.leaves.before; after = a.leaves.after; opens = a.leaves.opens; stands = a.leaves.stands a.stands }

  pub is_drill_text : (own : ConfigState) (old mid new : Archive D R) (done : List Done) (moved : DueMoved) (text : List ℕ) → own ≡ shipped → OpenedOn disk own given 0 old → MovesAll (now_of hours) moved done → ActsAlone disk old done mid
      → TellsOn disk mid new (λ m entries. (lines : List ℕ) × (files : List ℕ) × Tells m entries hours 4 lines files × (text ≡ lines ++ tiers_text (tiers_of files))) → OfHeld (stores_of shipped) (disk.past first) (λ held. IsDrillText hours held text)
  is_drill_text own old mid new done moved text same o moves made led_on before after opens stand =
      let one = fed tells before after opens stand in
      let a = one.3 in
      let b = o tells a.leaves.before a.leaves.after (subst (λ (c : ConfigState). OpensEither (stores_of c) (disk.past given) a.leaves.before a.leaves.after) (sym same) a.leaves.opens) (a.leaves.stands a.stands) in
      let begun = b.3 in
      let start = begun.start in
      let run = ran disk old mid done start begun.stands made in
      let on : Onward start run.after = runs_onward made.entries start run.after begun.stands.sound run.runs in
      let is_told : start.told ≡ true = begun.opened.told ∙ both_hold disk.tells b.0.stands tells b.2 in
      let rule_is : run.after.rule ≡ rule_of own = on.rule ∙ begun.opened.rule in
      let led = led_on tells run.after run.stands (on.told ∙ is_told) (subst (λ (r : Rule). ReadsHeaders r) (sym rule_is) (reads_headers own)) in (
        one.0,
        one.1,
        one.2,
        record {
          told = a.told;
          clean = a.clean;
          fed = a.fed;
          feeds = a.feeds;
          held = b.0;
          left = held_left shipped a.fed (disk.past given) a.leaves b.0 b.1;
          stands = b.2;
          start = start;
          opened = subst (λ (c : ConfigState). IsOpenedOn true c b.0 start) same (subst (λ (t : Bool). IsOpenedOn t own b.0 start) tells begun.opened);
          without_doors = begun.with_doors;
          moves = done;
          moved = moved;
          all_moved = moves;
          settled = run.after;
          acts = record { entries = made.entries; just_these = made.just_these; no_others = made.no_others; runs = run.runs };
          entries = led.entries;
          lines = led.such.0;
          files = led.such.1;
          tells = led.such.2;
          whole = led.such.3;
        },
      )
