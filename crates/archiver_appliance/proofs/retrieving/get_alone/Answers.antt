use Rattle.std.proofs.Common.{◌≡◌, ◌≤◌, ◌++◌, inl, inr, rules, ℕ, List, ◌∙◌, ap, subst}
use Rattle.std.specs.Io.KnownBytes.{Appends}
use Rattle.edge_io.specs.Stream.{AppendsFront, Rose}
use Rattle.act_model.specs.Alone.{Alone as Acts}
use Rattle.act_model.specs.History.{Entry}
use Rattle.act_model.specs.Out.{Subject}
use Rattle.act_model.proofs.ActsAlone.{alone_joined}
use Rattle.archive_actors.specs.declared.alone.Alone.{Alone}
use Rattle.archive_core.specs.Leaving.{Leaves}
use Rattle.archive_core.specs.Parts.{parts}
use Rattle.archive_core.specs.Stands.{Stands}
use Rattle.archive_core.specs.declared.archive.Archive.{Archive}
use Rattle.series_model.specs.declared.sample.Sample.{Sample}
use Rattle.retrieval_query.specs.Writing.{Breaks, Finishes}
use Rattle.retrieval_query.specs.declared.raw.RawOut.{RawOut}
use Rattle.archiver_appliance.specs.Retrieving.{ReadsPinAt, Retrieves}
use Rattle.archiver_appliance.proofs.Gotten.{AloneOn, alone_made, alone_on, kept_by, retrieves}
use Rattle.archiver_appliance.proofs.ReadFiles.{reads_alone}
use Rattle.archiver_appliance.proofs.retrieving.get_alone.Goals as goal

pub retrieve-got-requires : goal.retrieve-got-requires
retrieve-got-requires g c = rw c.new-actor.ensures.archive c.requires

pub returns-clause-retrieves : goal.returns-clause-retrieves
returns-clause-retrieves g c =
    let written = g.K.Sink.written in
    let count = g.K.Sink.write_faults in
    let disk = g.D.Disk in
    let out = c.new-out.result in
    let later = c.retrieve-got.new.out in
    let number : Alone (Archive g.row.D.Denot g.row.D-Reader.Denot) g.row.D-Reader.Denot → ℕ = λ a. a.who in
    let between : Alone (Archive g.row.D.Denot g.row.D-Reader.Denot) g.row.D-Reader.Denot → List Entry → Alone (Archive g.row.D.Denot g.row.D-Reader.Denot) g.row.D-Reader.Denot → Type 0 =
    λ a entries b. (b.archive.ghost_name ≡ a.archive.ghost_name) × (b.who ≡ a.who) × Acts (λ x m. Stands disk.tells (parts disk x) m) (λ x e y. Leaves disk.tells (parts disk x) e (parts disk y)) a.who a.archive.now entries b.archive.now in
    let finished : RawOut g.row.K.Denot → Subject → List Sample → RawOut g.row.K.Denot → Type 0 =
    λ before subject xs now. (now.sink.ghost_name ≡ before.sink.ghost_name) × Finishes (written before.sink.now) (written now.sink.now) before.buffer now.buffer subject xs in
    let broke : RawOut g.row.K.Denot → Subject → List Sample → RawOut g.row.K.Denot → Type 0 =
    λ before subject xs now. (now.sink.ghost_name ≡ before.sink.ghost_name) × Breaks (written before.sink.now) (written now.sink.now) before.buffer subject xs in
    let same : later.sink.ghost_name ≡ out.sink.ghost_name = elim c.retrieve-got.ensures.acts [
      | inl n ↦ ap (λ (o : RawOut g.row.K.Denot). o.sink.ghost_name) n.untouched
      | inr p ↦ kept_by finished broke out later (later.sink.ghost_name ≡ out.sink.ghost_name) (λ s xs f. f.0) (λ s xs f. f.0) _ _ _ p.writes.writes
    ] in
    let done : Retrieves disk g.D.Reader.ReadAt.tells g.D.Reader.ReadAt.faults (Rose (count c.args.sink.now) (count later.sink.now)) c.args.archive.now c.args.name.now c.args.query (written c.args.sink.now) (written later.sink.now) c.retrieve-got.result c.archive-1.given.0 =
    rw (← c.new-out.ensures.sink)
    (retrieves number between (λ a. ⊥) (λ a none. none)
    (λ a b d xs ys p q. (q.0 ∙ p.0, q.1 ∙ p.1, alone_joined (λ x m. Stands disk.tells (parts disk x) m) (λ x e y. Leaves disk.tells (parts disk x) e (parts disk y)) a.who b.who a.archive.now b.archive.now d.archive.now xs ys p.1 p.2 q.2))
    (λ a b entries h. h.1)
    g.D.Reader.ReadAt.tells g.D.Reader.ReadAt.faults (Rose (count out.sink.now) (count later.sink.now)) disk c.new-actor.result c.retrieve-got.new.actor c.args.archive.now c.archive-1.given.0 c.new-actor.ensures.number
    (λ entries leads. alone_on disk c.new-actor.result.archive.now c.args.archive.now c.retrieve-got.new.actor.archive.now c.archive-1.given.0 c.new-actor.result.who entries c.new-actor.ensures.number leads.2 c.new-actor.ensures.archive (search (rules, leads.0, c.new-actor.ensures.same_reference)))
    finished broke out later (written out.sink.now) (written later.sink.now)
    (λ is. ap (λ (o : RawOut g.row.K.Denot). written o.sink.now) is)
    (λ subject xs f. (f.1.text, f.1.raw, subst (λ (l : List ℕ). Appends (written out.sink.now) (written later.sink.now) (l ++ f.1.text)) c.new-out.ensures.gathered f.1.all))
    (λ subject xs f. (f.1.text, f.1.raw, subst (λ (l : List ℕ). AppendsFront (written out.sink.now) (written later.sink.now) (l ++ f.1.text)) c.new-out.ensures.gathered f.1.front))
    c.args.name.now c.args.query c.retrieve-got.result
    (λ m is reads told stands. c.retrieve-got.ensures.whole told m (rw c.new-actor.ensures.archive stands) is reads)
    c.retrieve-got.ensures.acts) in
    search (rules, same, done)

pub returns-clause-read : goal.returns-clause-read
returns-clause-read g c told =
    let written = g.K.Sink.written in
    let disk = g.D.Disk in
    let out = c.new-out.result in
    let later = c.retrieve-got.new.out in
    let number : Alone (Archive g.row.D.Denot g.row.D-Reader.Denot) g.row.D-Reader.Denot → ℕ = λ a. a.who in
    let between : Alone (Archive g.row.D.Denot g.row.D-Reader.Denot) g.row.D-Reader.Denot → List Entry → Alone (Archive g.row.D.Denot g.row.D-Reader.Denot) g.row.D-Reader.Denot → Type 0 =
    λ a entries b. (b.archive.ghost_name ≡ a.archive.ghost_name) × (b.who ≡ a.who) × Acts (λ x m. Stands disk.tells (parts disk x) m) (λ x e y. Leaves disk.tells (parts disk x) e (parts disk y)) a.who a.archive.now entries b.archive.now in
    let finished : RawOut g.row.K.Denot → Subject → List Sample → RawOut g.row.K.Denot → Type 0 =
    λ before subject xs now. (now.sink.ghost_name ≡ before.sink.ghost_name) × Finishes (written before.sink.now) (written now.sink.now) before.buffer now.buffer subject xs in
    let broke : RawOut g.row.K.Denot → Subject → List Sample → RawOut g.row.K.Denot → Type 0 =
    λ before subject xs now. (now.sink.ghost_name ≡ before.sink.ghost_name) × Breaks (written before.sink.now) (written now.sink.now) before.buffer subject xs in
    let same : later.sink.ghost_name ≡ out.sink.ghost_name = elim c.retrieve-got.ensures.acts [
      | inl n ↦ ap (λ (o : RawOut g.row.K.Denot). o.sink.ghost_name) n.untouched
      | inr p ↦ kept_by finished broke out later (later.sink.ghost_name ≡ out.sink.ghost_name) (λ s xs f. f.0) (λ s xs f. f.0) _ _ _ p.writes.writes
    ] in
    let on : (entries : List Entry) → between c.new-actor.result entries c.retrieve-got.new.actor → AloneOn disk c.args.archive.now entries c.archive-1.given.0 =
    λ entries leads. alone_on disk c.new-actor.result.archive.now c.args.archive.now c.retrieve-got.new.actor.archive.now c.archive-1.given.0 c.new-actor.result.who entries c.new-actor.ensures.number leads.2 c.new-actor.ensures.archive (search (rules, leads.0, c.new-actor.ensures.same_reference)) in
    let done : ReadsPinAt disk c.args.archive.now c.args.name.now c.args.query (written c.args.sink.now) (written later.sink.now) c.retrieve-got.result c.archive-1.given.0 =
    rw (← c.new-out.ensures.sink)
    (reads_alone number between
    (λ a b d xs ys p q. (q.0 ∙ p.0, q.1 ∙ p.1, alone_joined (λ x m. Stands disk.tells (parts disk x) m) (λ x e y. Leaves disk.tells (parts disk x) e (parts disk y)) a.who b.who a.archive.now b.archive.now d.archive.now xs ys p.1 p.2 q.2))
    (λ a b entries h. h.1) disk c.new-actor.result c.retrieve-got.new.actor c.args.archive.now c.archive-1.given.0 (λ done m. alone_made number between disk c.new-actor.result c.retrieve-got.new.actor c.args.archive.now c.archive-1.given.0 c.new-actor.ensures.number on done m)
    finished out later (written out.sink.now) (written later.sink.now)
    (λ subject xs f. (f.1.text, f.1.raw, subst (λ (l : List ℕ). Appends (written out.sink.now) (written later.sink.now) (l ++ f.1.text)) c.new-out.ensures.gathered f.1.all))
    c.args.name.now c.args.query c.retrieve-got.result (c.retrieve-got.ensures.read told)) in
    search (rules, same, done)

pub returns-clause-untouched : goal.returns-clause-untouched
returns-clause-untouched g c = λ is.
    let out = c.new-out.result in
    let later = c.retrieve-got.new.out in
    elim c.retrieve-got.ensures.acts [
      | inl n ↦
          let same : later.sink.ghost_name ≡ out.sink.ghost_name = ap (λ (o : RawOut g.row.K.Denot). o.sink.ghost_name) n.untouched in
          let done : later.sink.now ≡ c.args.sink.now = ap (λ (o : RawOut g.row.K.Denot). o.sink.now) n.untouched ∙ c.new-out.ensures.sink in
          search (rules, same, done)
      | inr p ↦ absurd (rw is at p.reads.ends)
    ]

pub returns-clause-write_faults : goal.returns-clause-write_faults
returns-clause-write_faults g c =
    let written = g.K.Sink.written in
    let out = c.new-out.result in
    let later = c.retrieve-got.new.out in
    let finished : RawOut g.row.K.Denot → Subject → List Sample → RawOut g.row.K.Denot → Type 0 =
    λ before subject xs now. (now.sink.ghost_name ≡ before.sink.ghost_name) × Finishes (written before.sink.now) (written now.sink.now) before.buffer now.buffer subject xs in
    let broke : RawOut g.row.K.Denot → Subject → List Sample → RawOut g.row.K.Denot → Type 0 =
    λ before subject xs now. (now.sink.ghost_name ≡ before.sink.ghost_name) × Breaks (written before.sink.now) (written now.sink.now) before.buffer subject xs in
    let same : later.sink.ghost_name ≡ out.sink.ghost_name = elim c.retrieve-got.ensures.acts [
      | inl n ↦ ap (λ (o : RawOut g.row.K.Denot). o.sink.ghost_name) n.untouched
      | inr p ↦ kept_by finished broke out later (later.sink.ghost_name ≡ out.sink.ghost_name) (λ s xs f. f.0) (λ s xs f. f.0) _ _ _ p.writes.writes
    ] in
    let done : g.K.Sink.write_faults c.args.sink.now ≤ g.K.Sink.write_faults later.sink.now = rw (← c.new-out.ensures.sink) c.retrieve-got.ensures.faults in
    search (rules, same, done)
