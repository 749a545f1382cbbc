use Rattle.std.proofs.Common.{◌≡◌, Result, Err}
use Rattle.pb_file.specs.declared.good.Front.{Front}
use Rattle.pb_file.specs.declared.good.FrontErr.{FrontErr}
use Rattle.pb_file.specs.declared.good.FrontErr.TheVariants.{NoFront}
use Rattle.found_files.proofs.Candidates.{no_front_of}
use Rattle.found_files.proofs.reading.front_of.Goals as goal

refused : (r : Result Front FrontErr) (e : FrontErr) → r ≡ Err e → e ≡ NoFront → r ≡ Err NoFront
refused r e is same = cc

pub returns-in-NoFront-clause-front : goal.returns-in-NoFront-clause-front
returns-in-NoFront-clause-front g c told =
    no_front_of c.args.part.now (g.D.Disk.files c.args.disk.now) c.args.name.now c.args.len (c.requires.there told)
    (c.good_front-front.ensures.none told (refused c.good_front-front.result c.in-Err.cause c.in-Err.is c.in-NoFront.is))
