-- The law as a contract.
use Rattle.closed_pairs.proofs.Joints.{closed_is_joint}
use Rattle.closed_pairs.proofs.Interleaved.{joint_is_closed, closed_is_interleaved}
use Rattle.closed_pairs.proofs.closed_pairs_are_joint.Goals as goal

pub returns-clause-joint : goal.returns-clause-joint
returns-clause-joint g c knows other_knows h k = (λ closed. closed_is_joint knows other_knows h k closed, λ joint. joint_is_closed knows other_knows joint)

pub returns-clause-interleaved : goal.returns-clause-interleaved
returns-clause-interleaved g c knows other_knows h k closed = closed_is_interleaved knows other_knows h k closed
