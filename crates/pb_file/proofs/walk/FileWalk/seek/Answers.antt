use Rattle.std.proofs.Common.{[], None, sym, subst}
use Rattle.pb_file.specs.Walk.{Walk}
use Rattle.pb_file.specs.Skip.{HasSkipped}
use Rattle.pb_file.proofs.Skipping.{moves}
use Rattle.pb_file.proofs.walk.FileWalk.seek.Goals as goal

pub returns-clause-skipped : goal.returns-clause-skipped
returns-clause-skipped c bytes head info h =
    let P : Walk → Type 0 = λ v. HasSkipped (record v { place = c.args.at; earliest = 0; stop = None }) bytes c.args.at (record { head = head; info = info; samples = [] }) in
    subst P (sym c.self.view_is) (moves c.args.self.now bytes head info c.args.at c.requires.within h)
