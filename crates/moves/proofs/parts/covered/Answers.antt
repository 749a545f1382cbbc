use Rattle.std.proofs.Common.{◌≡◌, ◌-◌, List, Option, Some, None, refl, sym, ◌∙◌, ap}
use Rattle.std.proofs.lemmas.List.Recursion.{is_count_by}
use Rattle.std.specs.Option.{option_copied}
use Rattle.std.specs.Prelude.{count_by}
use Rattle.store_manifest.specs.declared.entry.Entry.{Entry}
use Rattle.moves.specs.Parts.{is_covered}
use Rattle.moves.proofs.parts.covered.Goals as goal

-- nothing is covered where nothing is listed
none_covered : (source : List Entry) (last : Option Entry) → last ≡ None → 0 ≡ count_by (is_covered last) source
none_covered source None none = is_count_by (λ xs. 0) (is_covered None) refl (λ x xs. refl) source
none_covered source (Some e) none = absurd cc

pub returns-in_default : goal.returns-in_default
returns-in_default c = none_covered c.args.source.now _ (sym c.last.ensures.value ∙ ap option_copied c.in_default.is)
