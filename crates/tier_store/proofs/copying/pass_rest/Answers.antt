use Rattle.std.proofs.Common.{◌≡◌, None, Some, sym, ◌∙◌, ap, arith, Option}
use Rattle.std.specs.Prelude.{option_copied, slice_get}
use Rattle.std.proofs.lemmas.Option.{slice_get_within}
use Rattle.etl_mover.specs.Move.{Moving}
use Rattle.store_manifest.specs.declared.entry.Entry.{Entry}
use Rattle.tier_store.proofs.CopyParts.{some_entry, rest_begun, rest_done, rest_long, rest_step}
use Rattle.tier_store.proofs.copying.pass_rest.Goals as goal

pub loop-part-init : goal.loop-part-init
loop-part-init c = record { running = λ fine is. is; low = omega arith; high = c.requires.running.1.at; is = rest_begun c.args.moving.now }

pub pass-requires-clause-running : goal.pass-requires-clause-running
pass-requires-clause-running c = let run = c.requires.running in (run.0, c.loop-part.invariant.running run.0 run.1)

pub pass-requires-clause-left : goal.pass-requires-clause-left
pass-requires-clause-left c all =
    let here : slice_get c.loop-part.moving.parts c.loop-part.moving.at ≡ Some c.in-Some.part.now = sym c.at.ensures ∙ ap option_copied c.in-Some.is in
    let low = slice_get_within c.loop-part.moving.parts c.loop-part.moving.at c.in-Some.part.now here in
    omega (arith, low, all)

pub loop-part-smaller : goal.loop-part-smaller
loop-part-smaller c =
    let here : slice_get c.loop-part.moving.parts c.loop-part.moving.at ≡ Some c.in-Some.part.now = sym c.at.ensures ∙ ap option_copied c.in-Some.is in
    let low = slice_get_within c.loop-part.moving.parts c.loop-part.moving.at c.in-Some.part.now here in
    let more = ap (λ (x : Moving). x.at) (c.pass.ensures.passed c.in-Some.part.now here) in
    let long = rest_long c.args.moving.now c.loop-part.moving c.loop-part.invariant.is in
    omega (arith, low, more, long)

pub loop-part-preserved : goal.loop-part-preserved
loop-part-preserved c =
    let inv = c.loop-part.invariant in
    let here : slice_get c.loop-part.moving.parts c.loop-part.moving.at ≡ Some c.in-Some.part.now = sym c.at.ensures ∙ ap option_copied c.in-Some.is in
    let low = slice_get_within c.loop-part.moving.parts c.loop-part.moving.at c.in-Some.part.now here in
    let passed = c.pass.ensures.passed c.in-Some.part.now here in
    let more = ap (λ (x : Moving). x.at) passed in
    let long = rest_long c.args.moving.now c.loop-part.moving inv.is in
    record {
      running = λ fine is. c.pass.ensures.running fine (inv.running fine is);
      low = let was = inv.low in omega (arith, was, more);
      high = omega (arith, low, more, long);
      is = rest_step c.args.moving.now c.loop-part.moving c.pass.new.self c.in-Some.part.now _ inv.is inv.low here c.from.ensures passed;
    }

pub returns-clause-running : goal.returns-clause-running
returns-clause-running c fine is = c.loop-part.invariant.running fine is

pub returns-clause-passes : goal.returns-clause-passes
returns-clause-passes c = rest_done c.args.moving.now c.loop-part.moving c.loop-part.invariant.is c.loop-part.invariant.high (λ low. let there = some_entry c.loop-part.moving.parts c.loop-part.moving.at low in let none : ◌≡◌ {A = Option Entry} None (slice_get c.loop-part.moving.parts c.loop-part.moving.at) = c.in_default.ensures in absurd (cc (none ∙ there.1)))
