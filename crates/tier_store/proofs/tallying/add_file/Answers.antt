use Rattle.std.proofs.Common.{◌+◌, ℕ, max, Option, sym, ◌∙◌, ap, arith}
use Rattle.std.specs.Prelude.{unwrap_or}
use Rattle.store_manifest.specs.declared.entry.Entry.{Entry}
use Rattle.tier_store.specs.Counting.{behind}
use Rattle.tier_store.proofs.Tallies.{tally_more}
use Rattle.tier_store.proofs.tallying.add_file.Goals as goal

pub returns-clause-tally : goal.returns-clause-tally
returns-clause-tally g c tells h f samples same is was =
    let t = c.args.tally in
    let last = ap (λ (e : Entry). e.last) same in
    tally_more h (c.args.store, c.args.rows.now) (g.D.Disk.files c.args.disk.now) f is samples t c.in-Some.count c.in_ok-more.more c.unwrap_or-first.result c.later.result was (c.in_ok-more.ensures.count tells h f same is) c.in-Some.ensures.1
    (λ x some. c.unwrap_or-first.ensures ∙ ap (λ (o : Option ℕ). unwrap_or o c.args.entry.now.first) some)
    (λ none. c.unwrap_or-first.ensures ∙ ap (λ (o : Option ℕ). unwrap_or o c.args.entry.now.first) none ∙ ap (λ (e : Entry). e.first) (sym same))
    (c.later.ensures ∙ ap (λ (n : ℕ). max (behind t.last) (n + 1)) (sym last))

pub returns-clause-listed : goal.returns-clause-listed
returns-clause-listed g c low =
    let more = c.in_ok-more.ensures.listed low in
    let sum = c.in-Some.ensures.1 in
    (omega (arith, more, sum), c.later.ensures)
