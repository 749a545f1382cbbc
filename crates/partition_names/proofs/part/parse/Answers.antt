use Rattle.std.proofs.Common.{refl, None, ◌∙◌, ◌≡◌, IsTrue, false}
use Rattle.partition_names.proofs.NameLemmas.{same_parts}
use Rattle.partition_names.proofs.PartLemmas.{read_none, read_some}
use Rattle.partition_names.proofs.part.parse.Goals as goal

pub returns-in_err-from : goal.returns-in_err-from
returns-in_err-from c = record {
  exact = read_none c.args.g c.args.text.now c.from_residual.result c.from_residual.ensures (λ from unit parts. c.in_err-from.ensures.none from parts);
}

pub returns-then-not-is_unit_start : goal.returns-then-not-is_unit_start
returns-then-not-is_unit_start c = record {
  exact = read_none c.args.g c.args.text.now None refl
      (λ from unit parts.
      let same : from ≡ c.in_ok-from.from = same_parts c.args.text.now from c.in_ok-from.from parts c.in_ok-from.ensures.found in
      let no : IsTrue false = c.if-not-is_unit_start.ensures.1 (rw same at unit) in
      cc);
}

pub returns : goal.returns
returns c = record {
  exact = read_some c.args.g c.args.text.now c.in_ok-from.from c.part_from.result c.part_from.ensures c.in_ok-from.ensures.found (c.if-text-name_length.false ∙ c.name_length.ensures.value);
}
