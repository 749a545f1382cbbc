use Rattle.std.proofs.Common.{[], ◌++◌, List, sym, subst, append-nil}
use Rattle.series_model.specs.declared.sample.Sample.{Sample}
use Rattle.act_model.specs.Event.{AreEvents}
use Rattle.retrieval_query.proofs.retrieval.end_pinned.Goals as goal

pub returns-in-Err-unpinned-clause-writes : goal.returns-in-Err-unpinned-clause-writes
returns-in-Err-unpinned-clause-writes g c = λ before subject xs events gives.
    let out = c.args.out.now in
    let gave = rw c.in-Ok.is at gives in
    let more : AreEvents subject.about.ty (xs ++ []) = subst (λ (l : List Sample). AreEvents subject.about.ty l) (sym (append-nil xs)) events in
    subst (λ (l : List Sample). g.O.Out.broke before subject l out) (append-nil xs) (g.met.O.Out.front before out subject xs [] more gave.0)
