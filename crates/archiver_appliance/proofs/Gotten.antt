-- What a retrieval by one who acts alone made of the archive, from what it made of its actor and its output.
use Rattle.std.proofs.Common.{◌≡◌, ◌⊎◌, inl, inr, ℕ, List, [], ◌∷◌, ◌++◌, Bool, true, Option, sym, ◌∙◌, subst}
use Rattle.std.specs.Prelude.{IsTrue}
use Rattle.std.specs.Io.KnownBytes.{Appends}
use Rattle.edge_io.specs.Stream.{AppendsFront}
use Rattle.disk_model.specs.declared.disk.Disk.{Ghosts}
use Rattle.series_model.specs.declared.sample.Query.{Query}
use Rattle.series_model.specs.declared.sample.Sample.{Sample}
use Rattle.act_model.specs.Alone.{Alone}
use Rattle.act_model.specs.declared.acts.Act.{Act}
use Rattle.act_model.specs.History.{Done, Entry, Made, Runs, own, mine}
use Rattle.act_model.specs.Machine.{Machine}
use Rattle.act_model.specs.Out.{Subject}
use Rattle.act_model.specs.Step.{Step}
use Rattle.archive_core.specs.Leaving.{Leaves}
use Rattle.archive_core.specs.Parts.{parts}
use Rattle.archive_core.specs.Stands.{Stands}
use Rattle.archive_core.specs.declared.archive.Archive.{Archive}
use Rattle.retrieval_query.specs.Raw.{IsRaw}
use Rattle.retrieval_query.specs.Retrieving.{IsPinned, NotPinned, ReadsHeaders, Writes, WritesAnswer}
use Rattle.retrieval_query.specs.declared.retrieved.Retrieved.{Retrieved}
use Rattle.retrieval_query.specs.declared.retrieved.Retrieved.TheVariants as got
use Rattle.archiver_appliance.specs.Acting.{ActsAlone}
use Rattle.archiver_appliance.specs.Retrieving.{IsPinless, Retrieves, WritesAccepted}
use Rattle.archiver_appliance.proofs.PinSteps.{none_before}
use Rattle.archiver_appliance.proofs.Retrievals.{is_pinned, not_pinned, writes_raw}

-- an archive, as one who acts on it alone under 0 knows it
abbrev pub AloneOn : {D R : Type 0} → Ghosts D R → Archive D R → List Entry → Archive D R → Type 0
AloneOn {D} {R} disk old entries new = Alone (λ a m. Stands disk.tells (parts disk a) m) (λ a e b. Leaves disk.tells (parts disk a) e (parts disk b)) 0 old entries new

-- the acts that an actor made are those that were made on the archive that it lends
pub alone_made : {A D R : Type 0} (number : A → ℕ) (between : A → List Entry → A → Type 0) (disk : Ghosts D R) (old new : A) (first last : Archive D R) → number old ≡ 0 → ((entries : List Entry) → between old entries new → AloneOn disk first entries last) → (done : List Done) → Made number between old done new → ActsAlone disk first done last
alone_made number between disk old new first last zero alone done m =
    let on = alone m.entries m.leads in
    record { entries = m.entries; just_these = subst (λ (n : ℕ). mine n m.entries ≡ done) zero m.just_these; no_others = on.all_mine; chain = on.chain }

-- a run of one act
step_of : (m n : Machine) (e : Entry) → Runs m (e ∷ []) n → Step e.who e.act m e.answer n
step_of m n e run = subst (λ (x : Machine). Step e.who e.act m e.answer x) (sym run.3) run.2

module _ {A O D R : Type 0} (number : A → ℕ) (between : A → List Entry → A → Type 0) (is_spent : A → Type 0) (never : (a : A) → is_spent a → ⊥)
    (joined : (a b c : A) (xs ys : List Entry) → between a xs b → between b ys c → between a (xs ++ ys) c) (number_stays : (a b : A) (entries : List Entry) → between a entries b → number b ≡ number a)
    (tells : Bool) (faults : R → ℕ) (rose : Type 0) (disk : Ghosts D R) (old new : A) (first last : Archive D R) (zero : number old ≡ 0) (alone : (entries : List Entry) → between old entries new → AloneOn disk first entries last)
    (finished broke : O → Subject → List Sample → O → Type 0) (out out' : O) (a b : Option (List ℕ)) (untouched : out' ≡ out → b ≡ a)
    (whole : (subject : Subject) (xs : List Sample) → finished out subject xs out' → (text : List ℕ) × IsRaw subject xs text × Appends a b text)
    (front : (subject : Subject) (xs : List Sample) → broke out subject xs out' → (text : List ℕ) × IsRaw subject xs text × AppendsFront a b text)
    (name : List ℕ) (query : Query) (result : Retrieved R) where
  made_alone : (done : List Done) → Made number between old done new → ActsAlone disk first done last
  made_alone done m = alone_made number between disk old new first last zero alone done m

  accepted_of : (m : Machine) → WritesAnswer number between finished broke old m name query out result new out' → WritesAccepted m name query a b result
  accepted_of m w =
      let on = alone (w.before_it ++ w.pin ∷ w.after_it) w.leads in
      let none : w.before_it ≡ [] = none_before 0 w.before_it w.pin w.after_it on.all_mine (subst (λ (n : ℕ). own n w.before_it ≡ []) zero w.first) in
      let step : Step w.pin.who w.pin.act m w.pin.answer w.pinned = step_of m w.pinned w.pin (subst (λ (es : List Entry). Runs m (es ++ w.pin ∷ []) w.pinned) none w.runs) in
      let by_zero : Step 0 w.pin.act m w.pin.answer w.pinned = subst (λ (n : ℕ). Step n w.pin.act m w.pin.answer w.pinned) (w.by ∙ zero) step in
      record {
        reply = w.pin.answer;
        pinned = w.pinned;
        step = subst (λ (act : Act). Step 0 act m w.pin.answer w.pinned) w.act by_zero;
        i = w.i;
        row = w.row;
        found = w.found;
        here = w.here;
        writes = writes_raw finished broke out out' a b whole front (record { name = w.row.name; about = w.row.about; query = query }) _ result w.writes;
      }

  module _ (from_start : (m : Machine) → m.told ≡ true → ReadsHeaders m.rule → IsTrue tells → Stands disk.tells (parts disk first) m
      → NotPinned number between is_spent old name query out result new out' ⊎ WritesAnswer number between finished broke old m name query out result new out') where
    accepted : IsTrue tells → (m : Machine) → Stands disk.tells (parts disk first) m → m.told ≡ true → ReadsHeaders m.rule → (IsPinless result × (b ≡ a)) ⊎ WritesAccepted m name query a b result
    accepted told m stands is reads = by (from_start m is reads told stands)
      where
        by : NotPinned number between is_spent old name query out result new out' ⊎ WritesAnswer number between finished broke old m name query out result new out' → (IsPinless result × (b ≡ a)) ⊎ WritesAccepted m name query a b result
        by (inl n) = let one = not_pinned number between is_spent never joined number_stays tells faults rose old name query new result n.refuses in inl (one.1, untouched n.untouched)
        by (inr w) = inr (accepted_of m w)

    pub retrieves : NotPinned number between is_spent old name query out result new out' ⊎ IsPinned number between is_spent tells faults finished broke rose old name query out result new out'
        → Retrieves disk tells faults rose first name query a b result last
    retrieves (inl n) =
        let one = not_pinned number between is_spent never joined number_stays tells faults rose old name query new result n.refuses in
        record {
          done = one.0.done;
          made = made_alone one.0.done one.0.made;
          are = one.0.are;
          ends = one.0.ends;
          some = inl (one.1, untouched n.untouched);
          whole = λ told m stands is reads. accepted told m stands is reads;
        }
    retrieves (inr p) =
        let one = is_pinned number between is_spent never joined number_stays tells faults rose old name query new p.pin p.name_told p.about p.pieces p.tail p.pinned result p.pins p.reads in
        record {
          done = one.0.done;
          made = made_alone one.0.done one.0.made;
          are = one.0.are;
          ends = one.0.ends;
          some = inr (record {
            pin = p.pin;
            told_name = p.name_told;
            about = p.about;
            pieces = p.pieces;
            tail = p.tail;
            rest = one.1.0;
            is = one.1.1;
            samples = p.writes.given;
            events = p.writes.events;
            rising = p.writes.rising;
            writes = writes_raw finished broke out out' a b whole front (record { name = p.name_told; about = p.about; query = query }) p.writes.given result p.writes.writes;
          });
          whole = λ told m stands is reads. accepted told m stands is reads;
        }

-- what a finished and a broken output both have, it has at each end
pub kept_by : {O R : Type 0} (finished broke : O → Subject → List Sample → O → Type 0) (old new : O) (G : Type 0) → ((s : Subject) (xs : List Sample) → finished old s xs new → G) → ((s : Subject) (xs : List Sample) → broke old s xs new → G)
    → (s : Subject) (xs : List Sample) (result : Retrieved R) → Writes finished broke old s xs result new → G
kept_by finished broke old new G one other s xs (got.Finished count) w = one s xs w.0
kept_by finished broke old new G one other s xs got.NoSuchVariable w = other s xs w
kept_by finished broke old new G one other s xs (got.ReadFault failed) w = other s xs w
kept_by finished broke old new G one other s xs (got.Damaged name at) w = other s xs w
kept_by finished broke old new G one other s xs got.SinkFault w = other s xs w
kept_by finished broke old new G one other s xs got.Spent w = other s xs w
kept_by finished broke old new G one other s xs got.Memory w = other s xs w

-- an actor's chain is that of the archive that it lends
pub alone_on : {D R : Type 0} (disk : Ghosts D R) (first old new last : Archive D R) (who : ℕ) (entries : List Entry) → who ≡ 0
    → Alone (λ a m. Stands disk.tells (parts disk a) m) (λ a e b. Leaves disk.tells (parts disk a) e (parts disk b)) who first entries new → first ≡ old → last ≡ new → AloneOn disk old entries last
alone_on {D} {R} disk first old new last who entries zero alone from to =
    subst (λ (b : Archive D R). AloneOn disk old entries b) (sym to) (subst (λ (a : Archive D R). AloneOn disk a entries new) from
    (subst (λ (n : ℕ). Alone (λ a m. Stands disk.tells (parts disk a) m) (λ a e b. Leaves disk.tells (parts disk a) e (parts disk b)) n first entries new) zero alone))
