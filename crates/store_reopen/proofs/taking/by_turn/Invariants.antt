use Rattle.std.proofs.Common.{◌≡◌, ◌≤◌, ◌*◌, length}
use Rattle.store_reopen.specs.Listing.{AtEachTurn, turns_of}
use Rattle.store_reopen.specs.Turns.{all_taken}
use Rattle.store_reopen.proofs.Stages.{SoFar}
use Rattle.store_reopen.proofs.taking.by_turn.Given as goal

abbrev pub invariant-loop-one : goal.invariant-loop-one
invariant-loop-one l = record {
  count : length l.turns.items ≡ 3 * length l.catalogue.rows;
  takes : AtEachTurn (λ turn taken. SoFar l.manifests l.catalogue.rows turn l.fn.unlisted.items (length l.yielded) taken) (turns_of l.turns.items);
  fewer : length (all_taken (turns_of l.turns.items)) ≤ length l.yielded;
}
