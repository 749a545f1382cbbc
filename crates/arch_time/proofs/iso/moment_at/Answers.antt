use Rattle.std.proofs.Common.{arith, ◌+◌, ◌-◌}
use Rattle.arch_time.proofs.iso.moment_at.Goals as goal
use Rattle.arch_time.proofs.iso.moment_at.Goals.{in-Ahead+in_ok-since_1970-in-Ahead, in-Behind+in_ok-since_1970-in-Behind}

pub returns-clause-found : goal.returns-clause-found
returns-clause-found c = elim c.match-offset.branch [
  | in-Ahead+in_ok-since_1970-in-Ahead w ↦
      let kept = w.in_ok-since_1970-in-Ahead.ensures in
      rw w.in-Ahead.is (record { utc = c.args.civil - w.in-Ahead.seconds; less = omega (arith, kept); moment = omega (arith, kept); range = omega arith })
  | in-Behind+in_ok-since_1970-in-Behind w ↦
      let kept = w.in_ok-since_1970-in-Behind.ensures in
      rw w.in-Behind.is (record { utc = c.args.civil + w.in-Behind.seconds; less = omega (arith, kept); moment = omega (arith, kept); range = omega arith })
]
