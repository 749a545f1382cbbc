use Rattle.std.proofs.Common.{◌≡◌, ℕ, [], inr, refl, sym, ◌∙◌, ap, subst, arith}
use Rattle.disk_model.specs.Files.{Files, Name}
use Rattle.disk_model.specs.Files.{Content}
use Rattle.gate_journal.specs.Batches.{HasBatches}
use Rattle.gate_journal.specs.Plain.{PlainState}
use Rattle.gate_journal.specs.DiskShown.{shown_by}
use Rattle.gate_journal.proofs.Begin.{begun, begun_made, walked, begun_settled, loaded_settled, short_batches}
use Rattle.gate_journal.proofs.plain.PlainJournal.load_into.Goals as goal

pub returns-in_err-write_synced-clause-any_moment : goal.returns-in_err-write_synced-clause-any_moment
returns-in_err-write_synced-clause-any_moment g c tells =
    let small = c.if-size-lt2.true in
    begun c.args.name.now _ _ _ (c.in_ok-size.ensures.short_left tells small) (c.present.ensures.crash tells) (c.write_synced.ensures.any_moment tells)

pub returns-then-size-lt2-clause-any_moment : goal.returns-then-size-lt2-clause-any_moment
returns-then-size-lt2-clause-any_moment g c tells =
    let small = c.if-size-lt2.true in
    begun c.args.name.now _ _ _ (c.in_ok-size.ensures.short_left tells small) (c.present.ensures.crash tells) (c.write_synced.ensures.any_moment tells)

pub returns-clause-any_moment : goal.returns-clause-any_moment
returns-clause-any_moment g c tells = walked c.args.name.now _ _ _ (c.present.ensures.crash tells) (c.walk.ensures.reads tells).any_moment

pub returns-then-size-lt2-clause-made : goal.returns-then-size-lt2-clause-made
returns-then-size-lt2-clause-made g c tells short =
    begun_made c.args.name.now (g.D.Disk.files c.present.new.disk) (g.D.Disk.files c.write_synced.new.disk) c.in_ok-size.size (c.in_ok-size.ensures.file tells) c.if-size-lt2.true (c.in_ok-write_synced.ensures.written tells)

pub returns-then-size-lt2-clause-took : goal.returns-then-size-lt2-clause-took
returns-then-size-lt2-clause-took g c = (
  [],
  c.requires.empty,
  λ tells.
      let name = c.args.name.now in
      let same = ap (λ (f : Name → ℕ). f name) (c.write_synced.ensures.opened tells) in
      let unopened : g.D.Disk.opened c.write_synced.new.disk name ≡ 0 = omega (arith, same, c.present.ensures.no_more tells, c.requires.unopened tells) in (
        short_batches (g.D.Disk.files c.args.disk.now name) [] (c.in_ok-size.ensures.short tells c.if-size-lt2.true) refl,
        begun_settled c.closed_at.result name c.in_ok-size.size (g.D.Disk.files c.present.new.disk) (shown_by g.D.Disk c.write_synced.new.disk)
            (ap (λ (j : PlainState). j.name) c.closed_at.ensures ∙ c.in_ok-own.ensures) (ap (λ (j : PlainState). j.place) c.closed_at.ensures)
            (c.in_ok-size.ensures.file tells) (c.in_ok-write_synced.ensures.written tells) (c.in_ok-write_synced.ensures.durable tells) unopened,
      ),
)

pub returns-clause-took : goal.returns-clause-took
returns-clause-took g c =
    let took = c.in_ok-place.ensures.loaded in (
      took.0,
      took.1,
      λ tells.
          let name = c.args.name.now in
          let long = c.in_ok-size.ensures.long tells c.if-size-lt2.false in
          let same = ap (λ (f : Name → ℕ). f name) (c.walk.ensures.reads tells).same_opened in
          let unopened : g.D.Disk.opened c.walk.new.disk name ≡ 0 = omega (arith, same, c.present.ensures.no_more tells, c.requires.unopened tells) in
          let file = c.in_ok-size.ensures.file tells in
          let seen = ap (λ (f : Files). f name) (sym long.0) ∙ file.file in
          let loaded = took.2 tells file.bytes file.file in
          let P : Content → Type 0 = λ content. HasBatches content took.0 in (
            subst P (sym seen) (inr loaded.0),
            loaded_settled c.closed_at-2.result name (g.D.Disk.files c.args.disk.now) (g.D.Disk.files c.present.new.disk) (g.D.Disk.past c.present.new.disk) (shown_by g.D.Disk c.walk.new.disk)
                file.bytes took.0 (ap (λ (j : PlainState). j.name) c.closed_at-2.ensures ∙ c.in_ok-own.ensures) seen long.0 (c.walk.ensures.reads tells).same long.1 (c.walk.ensures.reads tells).any_moment
                loaded.0 (ap (λ (j : PlainState). j.place) c.closed_at-2.ensures ∙ loaded.1) unopened,
          ),
    )
