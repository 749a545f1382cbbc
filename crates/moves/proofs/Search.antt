-- The search for the series that moves next, series by series.
use Rattle.std.proofs.Common.{◌≡◌, inl, inr, ℕ, List, below_more, ap, ◌+◌, ◌≤◌, zero, suc, Option, Some, None, sym, ◌∙◌, subst, arith}
use Rattle.std.specs.Option.{is_some, unwrap_or}
use Rattle.store_manifest.specs.declared.entry.Entry.{Entry}
use Rattle.moves.specs.declared.parts.MoveRule.{MoveRule}
use Rattle.moves.specs.Parts.{parts_of}
use Rattle.moves.specs.declared.series.SearchStep.TheVariants.{On}
use Rattle.moves.specs.Search.{IsSearchStep, search_step, answer}
use Rattle.moves.specs.Series.{IsToMove, IsPassed, of_series, parts_in}

-- so many partitions of a series move, by its own entries
pub many_of : (rule : MoveRule) (source destination es ds : List Entry) (s n : ℕ) → n ≡ parts_of rule es ds → es ≡ of_series s source → ds ≡ of_series s destination → n ≡ parts_in rule source destination s
many_of rule source destination es ds s n are left right = are ∙ ap (λ l. parts_of rule l ds) left ∙ ap (λ l. parts_of rule (of_series s source) l) right

-- it goes on behind a series that has no move to make
idle : (parts : ℕ → ℕ) (running : ℕ → Option ℕ) (k : ℕ) (first : Option ℕ) → parts k ≡ 0 → IsToMove parts running k (answer first) → IsToMove parts running (k + 1) (answer first)
idle parts running k None none so_far = below_more (λ s. parts s ≡ 0) k so_far none
idle parts running k (Some m) none so_far = record {
  series = so_far.series;
  within = omega (arith, so_far.within);
  some = so_far.some;
  runs = so_far.runs;
  least = so_far.least;
  all = below_more (IsPassed parts running) k so_far.all (inl none);
}

-- and behind one whose move runs
busy : (parts : ℕ → ℕ) (running : ℕ → Option ℕ) (k n : ℕ) (first : Option ℕ) → 1 ≤ parts k → running k ≡ Some n → IsToMove parts running k (answer first) → IsToMove parts running (k + 1) (answer (Some (unwrap_or first n)))
busy parts running k n None some runs none = record {
  series = k;
  within = omega arith;
  some = some;
  runs = runs;
  least = none;
  all = below_more (IsPassed parts running) k (λ s less. inl (none s less)) (inr (ap (λ o. is_some o) runs));
}
busy parts running k n (Some m) some runs so_far = record {
  series = so_far.series;
  within = omega (arith, so_far.within);
  some = so_far.some;
  runs = so_far.runs;
  least = so_far.least;
  all = below_more (IsPassed parts running) k so_far.all (inr (ap (λ o. is_some o) runs));
}

-- it goes on where a series is looked at and isn't free
pub goes_on : (parts : ℕ → ℕ) (running : ℕ → Option ℕ) (k n : ℕ) (number first next : Option ℕ) → n ≡ parts k → number ≡ running k → IsSearchStep n number first (On next) → IsToMove parts running k (answer first) → IsToMove parts running (k + 1) (answer next)
goes_on parts running k zero number first next many runs turn so_far = cc_next (idle parts running k first (sym many) so_far)
  where
    cc_next : IsToMove parts running (k + 1) (answer first) → IsToMove parts running (k + 1) (answer next)
    cc_next moved = subst (λ o. IsToMove parts running (k + 1) (answer o)) (same first next turn) moved
      where
        same : (a b : Option ℕ) → On b ≡ search_step zero number a → a ≡ b
        same a b is = cc
goes_on parts running k (suc n) None first next many runs turn so_far = absurd cc
goes_on parts running k (suc n) (Some m) first next many runs turn so_far =
    let moved = busy parts running k m first (omega (arith, many)) (sym runs) so_far in
    let same : Some (unwrap_or first m) ≡ next = cc in
    subst (λ o. IsToMove parts running (k + 1) (answer o)) same moved
