-- From stores that were just opened to an archive, its acts, and the disk that is given back.
use Rattle.std.proofs.Common.{◌≡◌, ◌⊎◌, inl, inr, ℕ, List, [], ◌∷◌, ◌++◌, Bool, true, false, refl, sym, ◌∙◌, ap, subst}
use Rattle.std.specs.Prelude.{IsTrue, ◌&&◌}
use Rattle.disk_model.specs.Files.{Files, Rose as DiskRose}
use Rattle.disk_model.specs.Past.{Past, MayLeave, Passes}
use Rattle.disk_model.specs.declared.disk.Disk.{Ghosts}
use Rattle.disk_model.proofs.Passing.{passes_then, passes_weaker}
use Rattle.etl_rules.specs.Config.{ConfigState}
use Rattle.partition_names.specs.declared.granularity.Granularity.{Granularity}
use Rattle.tier_store.specs.Beginning.{AllNested}
use Rattle.tier_store.specs.Change.{Has}
use Rattle.tier_store.specs.Seen.{Seen, seen, granularities}
use Rattle.tier_store.specs.Stores.{Stores}
use Rattle.tier_store.specs.declared.store.TierStore.{TierStore}
use Rattle.store_reopen.specs.Reopen.{IsUnopened, OpensEither, stores_of}
use Rattle.store_reopen.proofs.Swept.{has_opens, doubt_opens, open_unopened}
use Rattle.act_model.specs.Alone.{Alone, Chain}
use Rattle.act_model.specs.Growth.{Onward}
use Rattle.act_model.specs.History.{Done, Entry, mine, own}
use Rattle.act_model.specs.Laws.{AnswersAreOfActs}
use Rattle.act_model.specs.Machine.{Machine}
use Rattle.act_model.specs.Rule.{Rule}
use Rattle.act_model.specs.declared.acts.Act.{Act}
use Rattle.act_model.specs.declared.acts.Answer.TheVariants.{DiskFault}
use Rattle.act_model.proofs.Histories.{runs_onward}
use Rattle.archive_core.specs.Leaving.{Leaves}
use Rattle.archive_core.specs.Opening.{OpensAs}
use Rattle.archive_core.specs.Parts.{parts}
use Rattle.archive_core.specs.Running.{HoldsBetween, RunsOn}
use Rattle.archive_core.specs.Stands.{InDoubt, Stands, TellsHeaders}
use Rattle.archive_core.specs.declared.archive.Archive.{Archive}
use Rattle.archive_core.proofs.Acting.{chain_runs_on}
use Rattle.archiver_appliance.specs.Acting.{ActsAlone, ActsFrom, IsFresh, IsOpenedOn, OpensAgain, header_by, rule_of}
use Rattle.archiver_appliance.specs.Outside.{HasNotFallen}
use Rattle.service.proofs.Counting.{runs_counts, runs_rose}

-- THE RULE

pub tells_headers : (config : ConfigState) → TellsHeaders (rule_of config)
tells_headers config message info is = ap header_by is

-- WHAT IS OPENED

-- the machine that an archive stands for as it is opened on what is held
pub record IsBegun {D R : Type 0} (disk : Ghosts D R) (config : ConfigState) (held : Stores) (archive : Archive D R) : Type 0 where
  pub start : Machine
  pub opened : IsOpenedOn disk.tells config held start
  pub stands : Stands disk.tells (parts disk archive) start

module _ {D R : Type 0} (disk : Ghosts D R) (store : TierStore D R) (fresh : IsFresh disk store) (archive : Archive D R) (opens : OpensAs disk.tells (seen disk store) store.config 0 (parts disk archive)) where
  pub begins : (held : Stores) → Has disk.tells (seen disk store) held → IsBegun disk store.config held archive
  begins held has =
      let config = store.config in
      let made = opens held (rule_of config) has (sym fresh.ready.granularity) (tells_headers config) refl refl in
      record {
        start = made.0;
        opened = record { told = made.5; holds = made.2; rule = made.1.of_rule; settled = made.3.settled; fresh = made.1.fresh };
        stands = made.3.stands;
      }

  pub stands_at_first : (m : Machine) × Stands disk.tells (parts disk archive) m
  stands_at_first = let one = begins fresh.has.0 fresh.has.1 in (one.start, one.stands)

pub nested_in : {D R : Type 0} (disk : Ghosts D R) (store : TierStore D R) → IsFresh disk store → AllNested (granularities store.manifests.items)
nested_in {D} {R} disk store fresh = subst AllNested (sym fresh.ready.granularity) fresh.ready.nested

-- WHAT IS GIVEN BACK

pub both_hold : (a b : Bool) → IsTrue a → IsTrue b → (a && b) ≡ true
both_hold true true one two = refl
both_hold false b one two = absurd (cc (one))
both_hold true false one two = absurd (cc (two))

second_holds : (a b : Bool) → (a && b) ≡ true → IsTrue b
second_holds true b is = is
second_holds false b is = absurd (cc (is))

module _ {D R : Type 0} (disk : Ghosts D R) (archive : Archive D R) (m : Machine) (stands : Stands disk.tells (parts disk archive) m) where
  abbrev before : Stores
  before = stands.store.before

  abbrev s : Seen
  s = seen disk archive.half.store

  -- the disk may be opened again
  pub opens_again : (config : ConfigState) → m.rule.granularity ≡ stores_of config → IsTrue disk.tells → OpensAgain config m (disk.past archive.half.store.disk)
  opens_again config same told = by_open stands.store.is_open
    where
      gs_is : granularities s.manifests ≡ stores_of config
      gs_is = sym stands.rule.granularity ∙ same

      stand : m.told ≡ true → IsTrue before.stands
      stand is = second_holds disk.tells before.stands (sym stands.store.told ∙ is)

      by_open : Has disk.tells s before ⊎ InDoubt disk.tells s (parts disk archive).limbo before m → OpensAgain config m (disk.past archive.half.store.disk)
      by_open (inl has) = record { before = before; after = before; opens = subst (λ (gs : List Granularity). OpensEither gs s.past before before) gs_is (has_opens disk.tells s before told has); holds = stands.store.holds; stands = stand; doubted = inl refl }
      by_open (inr d) = record { before = before; after = d.after; opens = subst (λ (gs : List Granularity). OpensEither gs s.past before d.after) gs_is (doubt_opens disk.tells s before d.after told d.doubts); holds = stands.store.holds; stands = stand; doubted = inr (d.change, d.is, d.holds) }

  pub left_unopened : (IsTrue disk.tells → MayLeave (disk.past archive.half.store.disk) (disk.files archive.half.store.disk)) → IsTrue disk.tells → IsUnopened (disk.files archive.half.store.disk) (disk.opened archive.half.store.disk)
  left_unopened left told = by_open stands.store.is_open
    where
      by_open : Has disk.tells s before ⊎ InDoubt disk.tells s (parts disk archive).limbo before m → IsUnopened s.files s.opened
      by_open (inl has) = open_unopened disk.tells s before before told (left told) (inl has)
      by_open (inr d) = open_unopened disk.tells s before d.after told (left told) (inr d.doubts)

-- THE ACTS

-- the run of the machine that acts made on an archive
pub ran : {D R : Type 0} (disk : Ghosts D R) (old new : Archive D R) (done : List Done) (m : Machine) → Stands disk.tells (parts disk old) m → (made : ActsAlone disk old done new) → RunsOn disk.tells (parts disk old) m made.entries (parts disk new)
ran {D} {R} disk old new done m stands made = chain_runs_on disk.tells (parts disk) made.entries old new m stands made.chain

pub acts_from : {D R : Type 0} (disk : Ghosts D R) (config : ConfigState) (held : Stores) (old new : Archive D R) (done : List Done) → (begun : IsBegun disk config held old) → (made : ActsAlone disk old done new)
    → (from : ActsFrom (λ image. ⊥) disk.tells config held done (disk.past old.half.store.disk) (disk.past new.half.store.disk)) × Stands disk.tells (parts disk new) from.end
acts_from {D} {R} disk config held old new done begun made =
    let run = ran disk old new done begun.start begun.stands made in
    let on : Onward begun.start run.after = runs_onward made.entries begun.start run.after begun.stands.sound run.runs in
    let rule_is : run.after.rule.granularity ≡ stores_of config = ap (λ (r : Rule). r.granularity) (on.rule ∙ begun.opened.rule) in
    let gs_is : granularities (seen disk old.half.store).manifests ≡ stores_of config = sym begun.stands.rule.granularity ∙ ap (λ (r : Rule). r.granularity) begun.opened.rule in (
      record {
        start = begun.start;
        opened = begun.opened;
        end = run.after;
        acts = record { entries = made.entries; just_these = made.just_these; no_others = made.no_others; runs = run.runs };
        leaves = λ told. opens_again disk new run.after run.stands config rule_is told;
        any_moment = λ told stands. passes_weaker (λ a image. HoldsBetween (granularities (seen disk old.half.store).manifests) begun.start made.entries run.after image) (λ a image. ⊥ ⊎ HoldsBetween (stores_of config) begun.start made.entries run.after image) (disk.past old.half.store.disk) (disk.past new.half.store.disk)
            (run.any_moment told (begun.opened.told ∙ both_hold disk.tells held.stands told stands)) (λ a image left h. inr (subst (λ (gs : List Granularity). HoldsBetween gs begun.start made.entries run.after image) gs_is h));
      },
      run.stands,
    )

-- an opening before them
pub acts_behind : (Before : Files → Type 0) (tells : Bool) (config : ConfigState) (held : Stores) (done : List Done) (old mid new : Past) → Passes (λ a image. Before image) old mid → ActsFrom (λ image. ⊥) tells config held done mid new → ActsFrom Before tells config held done old new
acts_behind Before tells config held done old mid new opening from = record {
  start = from.start;
  opened = from.opened;
  end = from.end;
  acts = from.acts;
  leaves = from.leaves;
  any_moment = λ told stands.
      let All : Files → Files → Type 0 = λ a image. Before image ⊎ HoldsBetween (stores_of config) from.start from.acts.entries from.end image in
      passes_then All (λ a image. ⊥ ⊎ HoldsBetween (stores_of config) from.start from.acts.entries from.end image) old mid new (passes_weaker (λ a image. Before image) All old mid opening (λ a image left h. inl h)) (from.any_moment told stands)
      (λ a b c left h now is. by_either c is);
}
  where
    by_either : (c : Files) → ⊥ ⊎ HoldsBetween (stores_of config) from.start from.acts.entries from.end c → Before c ⊎ HoldsBetween (stores_of config) from.start from.acts.entries from.end c
    by_either c (inl none) = absurd none
    by_either c (inr h) = inr h

-- the opening is no act, so it leaves the end
pub same_end : (Before : Files → Type 0) (tells : Bool) (config : ConfigState) (held : Stores) (done : List Done) (old mid new : Past) → (opening : Passes (λ a image. Before image) old mid) → (from : ActsFrom (λ image. ⊥) tells config held done mid new) → from.end ≡ (acts_behind Before tells config held done old mid new opening from).end
unfolding acts_behind
same_end Before tells config held done old mid new opening from = refl

-- COUNTS

module _ {D R : Type 0} (disk : Ghosts D R) (old new : Archive D R) (done : List Done) (m : Machine) (stands : Stands disk.tells (parts disk old) m) (made : ActsAlone disk old done new) where
  run : RunsOn disk.tells (parts disk old) m made.entries (parts disk new)
  run = ran disk old new done m stands made

  pub has_not_fallen : HasNotFallen (disk.faults old.half.store.disk) (disk.faults new.half.store.disk)
  has_not_fallen =
      let one : HasNotFallen m.faults run.after.faults = runs_counts made.entries m run.after stands.sound run.runs in
      subst (λ (n : ℕ). HasNotFallen n (disk.faults new.half.store.disk)) stands.faults (subst (λ (n : ℕ). HasNotFallen m.faults n) run.stands.faults one)

  -- where an act is told as a fault, the disk has counted it
  pub has_risen_within : AnswersAreOfActs → (before behind : List Done) (act : Act) → done ≡ before ++ record { act = act; answer = DiskFault } ∷ behind → DiskRose (disk.faults old.half.store.disk) (disk.faults new.half.store.disk)
  has_risen_within answers before behind act is =
      let one : DiskRose m.faults run.after.faults = runs_rose answers 0 made.entries m run.after before behind act stands.sound run.runs (made.just_these ∙ is) in
      subst (λ (n : ℕ). DiskRose n (disk.faults new.half.store.disk)) stands.faults (subst (λ (n : ℕ). DiskRose m.faults n) run.stands.faults one)

  pub has_risen : AnswersAreOfActs → (before : List Done) (act : Act) → done ≡ before ++ record { act = act; answer = DiskFault } ∷ [] → DiskRose (disk.faults old.half.store.disk) (disk.faults new.half.store.disk)
  has_risen answers before act is = has_risen_within answers before [] act is

-- THE DISK THAT IS HANDED BACK

module _ {D R : Type 0} (disk : Ghosts D R) (new : Archive D R) (after : TierStore D R) (given : D) (back : after ≡ new.half.store) (is : given ≡ after.disk) where
  pub handed : new.half.store.disk ≡ given
  handed = sym (is ∙ ap (λ (s : TierStore D R). s.disk) back)

  pub acts_given : (config : ConfigState) (held : Stores) (done : List Done) (store : TierStore D R) (old : Archive D R) → old.half.store ≡ store → ActsFrom (λ image. ⊥) disk.tells config held done (disk.past old.half.store.disk) (disk.past new.half.store.disk)
      → ActsFrom (λ image. ⊥) disk.tells config held done (disk.past store.disk) (disk.past given)
  acts_given config held done store old same from =
      subst (λ (s : TierStore D R). ActsFrom (λ image. ⊥) disk.tells config held done (disk.past s.disk) (disk.past given)) same (subst (λ (d : D). ActsFrom (λ image. ⊥) disk.tells config held done (disk.past old.half.store.disk) (disk.past d)) handed from)

  pub unopened_given : (m : Machine) → Stands disk.tells (parts disk new) m → (IsTrue disk.tells → MayLeave (disk.past new.half.store.disk) (disk.files new.half.store.disk)) → IsTrue disk.tells → IsUnopened (disk.files given) (disk.opened given)
  unopened_given m stands left told = subst (λ (d : D). IsUnopened (disk.files d) (disk.opened d)) handed (left_unopened disk new m stands left told)

  pub count_given : (store : TierStore D R) (old : Archive D R) → old.half.store ≡ store → HasNotFallen (disk.faults old.half.store.disk) (disk.faults new.half.store.disk) → HasNotFallen (disk.faults store.disk) (disk.faults given)
  count_given store old same count = subst (λ (s : TierStore D R). HasNotFallen (disk.faults s.disk) (disk.faults given)) same (subst (λ (d : D). HasNotFallen (disk.faults old.half.store.disk) (disk.faults d)) handed count)

  pub rose_given : (store : TierStore D R) (old : Archive D R) → old.half.store ≡ store → DiskRose (disk.faults old.half.store.disk) (disk.faults new.half.store.disk) → DiskRose (disk.faults store.disk) (disk.faults given)
  rose_given store old same count = subst (λ (s : TierStore D R). DiskRose (disk.faults s.disk) (disk.faults given)) same (subst (λ (d : D). DiskRose (disk.faults old.half.store.disk) (disk.faults d)) handed count)

-- where no archive was made
pub unopened_back : {D R : Type 0} (disk : Ghosts D R) (store back : TierStore D R) (given : D) → IsFresh disk store → back ≡ store → given ≡ back.disk → (IsTrue disk.tells → MayLeave (disk.past store.disk) (disk.files store.disk)) → IsTrue disk.tells → IsUnopened (disk.files given) (disk.opened given)
unopened_back {D} {R} disk store back given fresh same is left told =
    subst (λ (d : D). IsUnopened (disk.files d) (disk.opened d)) (sym (is ∙ ap (λ (s : TierStore D R). s.disk) same)) (open_unopened disk.tells (seen disk store) fresh.has.0 fresh.has.0 told (left told) (inl fresh.has.1))

-- THE ACTOR

-- One who acts alone under 0 lends an archive and gives it back.
pub acts_alone : {D R : Type 0} (disk : Ghosts D R) (first old new last : Archive D R) (who : ℕ) (done : List Done) (entries : List Entry) → mine who entries ≡ done → who ≡ 0
    → Alone (λ a m. Stands disk.tells (parts disk a) m) (λ a e b. Leaves disk.tells (parts disk a) e (parts disk b)) who first entries new → first ≡ old → last ≡ new → ActsAlone disk old done last
acts_alone {D} {R} disk first old new last who done entries just zero alone from to =
    let Linked : Archive D R → Archive D R → Type 0 = λ a b. Chain (λ a m. Stands disk.tells (parts disk a) m) (λ a e b. Leaves disk.tells (parts disk a) e (parts disk b)) a entries b in
    record {
      entries = entries;
      just_these = subst (λ (n : ℕ). mine n entries ≡ done) zero just;
      no_others = subst (λ (n : ℕ). own n entries ≡ entries) zero alone.all_mine;
      chain = subst (λ (b : Archive D R). Linked old b) (sym to) (subst (λ (a : Archive D R). Linked a new) from alone.chain);
    }
