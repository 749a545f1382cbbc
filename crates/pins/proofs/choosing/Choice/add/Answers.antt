use Rattle.std.proofs.Common.{◌≡◌, ◌++◌, ◌∷◌, [], List, take, sym, ◌∙◌, ap, subst, arith}
use Rattle.std.proofs.lemmas.List.{append_assoc, take_all}
use Rattle.pins.specs.Choosing.{IsChoice, listed}
use Rattle.store_manifest.specs.declared.entry.Entry.{Entry}
use Rattle.pins.specs.declared.choosing.Listed.{Listed}
use Rattle.pins.proofs.ChoosingLemmas.{listed_more}
use Rattle.pins.proofs.choosing.Choice.add.Goals as goal

pub loop-entry-preserved : goal.loop-entry-preserved
loop-entry-preserved c = (
  λ told choice.
      let so_far = listed c.args.store (take c.loop-entry.entry-index c.args.entries.now) in
      let file : Listed = record { store = c.args.store; entry = c.entry-item.result } in
      let more = listed_more c.args.store c.args.entries.now c.loop-entry.entry-index c.entry-item.result c.loop-entry-test.true c.entry-item.is in
      subst (λ (l : List Listed). IsChoice l c.add_file.new.self) (append_assoc told so_far (file ∷ []) ∙ ap (λ (l : List Listed). told ++ l) (sym more)) (c.in_ok-add_file.ensures.chosen (told ++ so_far) (c.loop-entry.invariant.0 told choice)),
  c.add_file.ensures.from ∙ c.loop-entry.invariant.1,
  c.add_file.ensures.to ∙ c.loop-entry.invariant.2,
)

pub returns-clause-chosen : goal.returns-clause-chosen
returns-clause-chosen c told choice =
    let all : take c.loop-entry.entry-index c.args.entries.now ≡ c.args.entries.now = take_all c.loop-entry.entry-index c.args.entries.now (omega (arith, c.loop-entry-test.false)) in
    subst (λ (es : List Entry). IsChoice (told ++ listed c.args.store es) c.loop-entry.self) all (c.loop-entry.invariant.0 told choice)
