use Rattle.std.proofs.Common.{sym, ◌∙◌, subst, arith}
use Rattle.partition_names.specs.Part.{IsPart}
use Rattle.partition_names.proofs.PartLemmas.{within}
use Rattle.etl_mover.specs.Move.{Moving}
use Rattle.etl_mover.proofs.Steps.{goes_nowhere, part_is}
use Rattle.etl_mover.proofs.moving.Move.next_start.Goals as goal

pub unreachable-requires : goal.unreachable-requires
unreachable-requires c =
    let fine = c.requires.running.0 in
    let known = part_is fine c.args.self.now c.args.part.now c.requires.running.1 c.requires.next in
    let range = within fine c.args.part.now.part known.0 in
    absurd (cc (c.in_default.ensures.good.1 (omega (arith, range.0), omega (arith, range.1, range.2))))

pub returns-clause-nowhere : goal.returns-clause-nowhere
returns-clause-nowhere c none p start goes =
    let known = c.in-Some.ensures.value in
    goes_nowhere c.args.self.now c.args.revived c.args.part.now p c.in-Some.to start c.requires.next (subst (λ (m : Moving). IsPart m.granularity c.in-Some.to) c.self.view_is known.0) known.1 (sym c.start.ensures ∙ none) goes

pub returns-clause-ends : goal.returns-clause-ends
returns-clause-ends c none =
    let known = c.in-Some.ensures.value in
    record { to = c.in-Some.to; is = subst (λ (m : Moving). IsPart m.granularity c.in-Some.to) c.self.view_is known.0; holds = known.1; none = sym c.start.ensures ∙ none }
