use Rattle.std.proofs.Common.{ℕ, List, [], inr, sym, ◌∙◌, ap, subst}
use Rattle.std.proofs.lemmas.Result.{err_from_is_err_and}
use Rattle.std.specs.Int.{to_le_bytes, w64}
use Rattle.disk_model.specs.Files.{Name}
use Rattle.gate_journal.specs.Journal.{SwitchesTo}
use Rattle.gate_journal.specs.DiskShown.{shown_by}
use Rattle.gate_journal.proofs.Results.{on_ok_always}
use Rattle.gate_journal.proofs.Files.{Anyhow}
use Rattle.gate_journal.proofs.Switching.{made_settled, not_made, switch_passes, still_durable, left_same, files_same, passes_same}
use Rattle.gate_journal.proofs.journal.switch.Goals as goal

pub commit-requires-clause-settled : goal.commit-requires-clause-settled
commit-requires-clause-settled g c tells =
    let s = c.requires.settled tells in
    let apart = c.requires.apart tells in
    (s.0, made_settled c.args.at.now (shown_by g.D.Disk c.args.disk.now) s.0 s.1 c.args.next.now apart [] c.args.bytes.now (shown_by g.D.Disk c.make_anew.new.disk) (c.make_anew.ensures.any_moment tells) (c.make_anew.ensures.elsewhere tells c.args.at.now.name apart) (c.make_anew.ensures.opened tells c.args.at.now.name apart))

pub returns-in_err-make_anew-clause-switches : goal.returns-in_err-make_anew-clause-switches
returns-in_err-make_anew-clause-switches g c tells bs s =
    let made = c.make_anew.ensures in
    let p = err_from_is_err_and c.from_residual.result c.from_residual.ensures.1 in
    not_made c.args.at.now (shown_by g.D.Disk c.args.disk.now) bs s c.args.next.now (c.requires.apart tells) (to_le_bytes w64 c.args.generation) c.args.bytes.now (shown_by g.D.Disk c.make_anew.new.disk)
    (made.any_moment tells) c.from_residual.result _ p.1 (made.elsewhere tells) (made.opened tells) (made.unopened tells)

pub returns-clause-switches : goal.returns-clause-switches
returns-clause-switches g c tells bs s =
    let at = c.args.at.now in
    let next = c.args.next.now in
    let apart = c.requires.apart tells in
    let was = shown_by g.D.Disk c.args.disk.now in
    let mid = shown_by g.D.Disk c.make_anew.new.disk in
    let now = shown_by g.D.Disk c.commit.new.disk in
    let made = c.make_anew.ensures in
    let says = c.commit.ensures in
    let one = says.one_file tells in
    let settled = made_settled at was bs s next apart c.to_le_bytes.result c.args.bytes.now mid (made.any_moment tells) (made.elsewhere tells at.name apart) (made.opened tells at.name apart) in
    let seen = one.files next (λ is. apart (sym is)) ∙ c.in_ok-make_anew.ensures.made tells in
    let durable = still_durable at was bs s next apart c.to_le_bytes.result c.args.bytes.now mid (made.any_moment tells) (c.in_ok-make_anew.ensures.durable tells) now.past (says.any_moment tells bs settled) in
    let P : List ℕ → Type 0 = λ l. SwitchesTo next bs l c.args.bytes.now c.commit.result at c.commit.new.self was now in
    subst P c.to_le_bytes.ensures (record {
      told = says.added tells bs settled;
      made = on_ok_always c.commit.result (seen, durable);
      any_moment = switch_passes at was bs s next apart c.to_le_bytes.result c.args.bytes.now mid (made.any_moment tells) (c.in_ok-make_anew.ensures.durable tells) now.past (says.any_moment tells bs settled);
      left = λ failed. let kept = says.memory failed in left_same (shown_by g.D.Disk) c.make_anew.new.disk c.commit.new.disk at c.commit.new.self bs kept.1 kept.0 settled;
      in_doubt = λ failed. inr (record { unsound = (says.fault failed).0; in_doubt = says.in_doubt tells bs settled failed; made = seen; durable = durable });
      elsewhere = λ n not_at not_next. one.files n not_at ∙ made.elsewhere tells n not_next;
      untold = λ failed.
          let same = (says.memory failed).1 in (
            λ n not_next. files_same g.D.Disk.files c.make_anew.new.disk c.commit.new.disk n same ∙ made.elsewhere tells n not_next,
            passes_same g.D.Disk.past (Anyhow next) was.past c.make_anew.new.disk c.commit.new.disk same (made.any_moment tells),
          );
      opened = λ n not_next. ap (λ (f : Name → ℕ). f n) one.opened ∙ made.opened tells n not_next;
      unopened = ap (λ (f : Name → ℕ). f next) one.opened ∙ made.unopened tells;
    })
