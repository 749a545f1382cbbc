use Rattle.etl_mover.proofs.Beginning.{copies_on, rest_is_remaining, flushed_beside, still_rises}
use Rattle.etl_mover.proofs.laws.a_running_move.Goals as goal

pub returns : goal.returns
returns c = record { copies = copies_on; remaining = rest_is_remaining; flushed = flushed_beside; rises = still_rises }
