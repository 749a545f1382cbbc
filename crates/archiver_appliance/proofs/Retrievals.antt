-- The acts of a retrieval by one who acts alone, why it ended, and what it wrote.
use Rattle.std.proofs.Common.{◌≡◌, ◌⊎◌, inl, inr, ℕ, List, [], ◌∷◌, ◌++◌, Bool, Option, Some, None, refl, ◌∙◌, ap, subst, append-nil, append_assoc}
use Rattle.std.specs.Prelude.{length}
use Rattle.std.specs.Io.KnownBytes.{Appends}
use Rattle.edge_io.specs.Stream.{AppendsFront}
use Rattle.pb_messages.specs.declared.about.About.{About}
use Rattle.series_model.specs.declared.sample.Query.{Query}
use Rattle.series_model.specs.declared.sample.Sample.{Sample}
use Rattle.act_model.specs.declared.acts.Act.TheVariants.{Pin, OpenPiece}
use Rattle.act_model.specs.declared.acts.Answer.TheVariants as answer
use Rattle.act_model.specs.History.{Done, Entry, Made}
use Rattle.act_model.specs.Out.{Subject}
use Rattle.act_model.proofs.Histories.{made_joined}
use Rattle.retrieval_query.specs.Openings.{PieceTold, openings}
use Rattle.retrieval_query.specs.Raw.{IsRaw}
use Rattle.retrieval_query.specs.Retrieving.{Ends, ReadsPinned, Refuses, Writes, given_up}
use Rattle.retrieval_query.specs.declared.retrieved.Retrieved.{Retrieved}
use Rattle.retrieval_query.specs.declared.retrieved.Retrieved.TheVariants as got
use Rattle.archiver_appliance.specs.Retrieving.{EndsBy, FailsAtMost, IsPinless, IsRetrieval, WritesRaw, of_none, without_pin, with_pin}

-- THE TEXT

module _ {O R : Type 0} (finished broke : O → Subject → List Sample → O → Type 0) (old new : O) (a b : Option (List ℕ))
    (whole : (subject : Subject) (xs : List Sample) → finished old subject xs new → (text : List ℕ) × IsRaw subject xs text × Appends a b text)
    (front : (subject : Subject) (xs : List Sample) → broke old subject xs new → (text : List ℕ) × IsRaw subject xs text × AppendsFront a b text) where
  pub writes_raw : (subject : Subject) (xs : List Sample) (result : Retrieved R) → Writes finished broke old subject xs result new → WritesRaw subject xs a b result
  writes_raw subject xs (got.Finished count) w = whole subject xs w.0
  writes_raw subject xs got.NoSuchVariable w = front subject xs w
  writes_raw subject xs (got.ReadFault failed) w = front subject xs w
  writes_raw subject xs (got.Damaged name at) w = front subject xs w
  writes_raw subject xs got.SinkFault w = front subject xs w
  writes_raw subject xs got.Spent w = front subject xs w
  writes_raw subject xs got.Memory w = front subject xs w

-- THE ACTS

module _ {A R : Type 0} (number : A → ℕ) (between : A → List Entry → A → Type 0) (is_spent : A → Type 0) (never : (a : A) → is_spent a → ⊥)
    (joined : (a b c : A) (xs ys : List Entry) → between a xs b → between b ys c → between a (xs ++ ys) c) (number_stays : (a b : A) (entries : List Entry) → between a entries b → number b ≡ number a)
    (tells : Bool) (faults : R → ℕ) (rose : Type 0) (old : A) (name : List ℕ) (query : Query) (new : A) where
  -- which acts were made, and why it ended
  pub record IsDone (result : Retrieved R) : Type 0 where
    pub done : List Done
    pub made : Made number between old done new
    pub are : IsRetrieval name query done
    pub ends : EndsBy tells faults rose name query result done

  -- no pin was made
  pub not_pinned : (result : Retrieved R) → Refuses number between is_spent old name query result new → IsDone result × IsPinless result
  not_pinned (got.Finished count) r = absurd r
  not_pinned got.NoSuchVariable r = (record { done = _; made = r; are = without_pin answer.NoSuchVariable (inl refl); ends = refl }, tt)
  not_pinned (got.ReadFault None) r = (record { done = _; made = r; are = without_pin answer.DiskFault (inr (inl refl)); ends = record { before = []; act = Pin name query; behind = []; is = refl } }, tt)
  not_pinned (got.ReadFault (Some file)) r = absurd r
  not_pinned (got.Damaged file at) r = absurd r
  not_pinned got.SinkFault r = absurd r
  not_pinned got.Spent r = absurd (never new r.1)
  not_pinned got.Memory (inl r) = (record { done = []; made = r; are = of_none; ends = tt }, tt)
  not_pinned got.Memory (inr r) = (record { done = _; made = r; are = without_pin answer.Memory (inr (inr refl)); ends = tt }, tt)

  -- a pin was made
  module _ (pin : ℕ) (told_name : List ℕ) (about : About) (pieces : ℕ) (tail : List Sample) (pinned : A) where
    abbrev first : Done
    first = record { act = Pin name query; answer = answer.Pinned pin told_name about pieces tail }

    all_of : List PieceTold → List Done → List Done
    all_of told failed = first ∷ ((openings pin 0 told ++ failed) ++ given_up pin)

    none_failed : (told : List PieceTold) (failed : List Done) → failed ≡ [] → all_of told failed ≡ first ∷ (openings pin 0 told ++ given_up pin)
    unfolding all_of
    none_failed told failed none = ap (λ (ds : List Done). first ∷ (ds ++ given_up pin)) (ap (λ (f : List Done). openings pin 0 told ++ f) none ∙ append-nil (openings pin 0 told))

    fails : (result : Retrieved R) (told : List PieceTold) (failed unpin : List Done) (spent : Type 0) → (spent → ⊥) → Ends tells faults about.ty pin told failed unpin spent rose result → FailsAtMost pin told failed
    fails (got.Finished count) told failed unpin spent none e = inl e.0
    fails got.NoSuchVariable told failed unpin spent none e = absurd e
    fails (got.ReadFault None) told failed unpin spent none e = inr (inl e)
    fails (got.ReadFault (Some file)) told failed unpin spent none e = inl e.0
    fails (got.Damaged file at) told failed unpin spent none e = inl e.0
    fails got.SinkFault told failed unpin spent none e = inl e.0
    fails got.Spent told failed unpin spent none e = absurd (none e.1)
    fails got.Memory told failed unpin spent none (inl e) = inl e
    fails got.Memory told failed unpin spent none (inr e) = inr (inr e)

    ends_by : (result : Retrieved R) (told : List PieceTold) (failed unpin : List Done) (spent : Type 0) → (spent → ⊥) → Ends tells faults about.ty pin told failed unpin spent rose result → EndsBy tells faults rose name query result (all_of told failed)
    unfolding all_of
    ends_by (got.Finished count) told failed unpin spent none e = tt
    ends_by got.NoSuchVariable told failed unpin spent none e = absurd e
    ends_by (got.ReadFault None) told failed unpin spent none e = record {
      before = first ∷ openings pin 0 told;
      act = OpenPiece pin (length told);
      behind = given_up pin;
      is = ap (λ (ds : List Done). first ∷ ds) (ap (λ (f : List Done). (openings pin 0 told ++ f) ++ given_up pin) e ∙ append_assoc (openings pin 0 told) _ (given_up pin));
    }
    ends_by (got.ReadFault (Some file)) told failed unpin spent none e = e.1
    ends_by (got.Damaged file at) told failed unpin spent none e = record { pin = pin; told_name = told_name; about = about; pieces = pieces; tail = tail; act = Pin name query; told = told; is = none_failed told failed e.0; bad = e.1 }
    ends_by got.SinkFault told failed unpin spent none e = e.1
    ends_by got.Spent told failed unpin spent none e = none e.1
    ends_by got.Memory told failed unpin spent none e = tt

    pub is_pinned : (result : Retrieved R) → Made number between old (first ∷ []) pinned → ReadsPinned number between is_spent tells faults about.ty pinned pin rose result new → (d : IsDone result) × ((rest : List Done) × (d.done ≡ first ∷ rest))
    unfolding all_of
    is_pinned result pins reads =
        let none : is_spent reads.stopped ⊎ is_spent new → ⊥ = λ spent. elim spent [ inl s ↦ never reads.stopped s | inr s ↦ never new s ] in
        let unpin : reads.unpin ≡ given_up pin = elim reads.is [ inl is ↦ is | inr spent ↦ absurd (never new spent.1) ] in
        let given : Made number between reads.stopped (given_up pin) new = subst (λ (ds : List Done). Made number between reads.stopped ds new) unpin reads.unpinned in
        let read = made_joined number between joined number_stays pinned reads.stopped new (openings pin 0 reads.told ++ reads.failed) (given_up pin) reads.made given in
        let all = made_joined number between joined number_stays old pinned new (first ∷ []) ((openings pin 0 reads.told ++ reads.failed) ++ given_up pin) pins read in (
          record {
            done = all_of reads.told reads.failed;
            made = all;
            are = with_pin pin told_name about pieces tail reads.told reads.failed (fails result reads.told reads.failed reads.unpin _ none reads.ends);
            ends = ends_by result reads.told reads.failed reads.unpin _ none reads.ends;
          },
          ((openings pin 0 reads.told ++ reads.failed) ++ given_up pin, refl),
        )
