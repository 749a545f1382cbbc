use Rattle.std.proofs.Common.{◌≡◌, ℕ, ◌++◌, ◌∷◌, [], List, Some, length, sym, ap, ◌∙◌, subst}
use Rattle.stream_merge.specs.declared.merge.Merge.{Merge}
use Rattle.stream_merge.specs.declared.source.SampleSource.{SampleSource}
use Rattle.stream_merge.specs.Source.{passed}
use Rattle.stream_merge.specs.Merging.{GoesBehind}
use Rattle.stream_merge.specs.Reads.{HasGiven}
use Rattle.stream_merge.proofs.Holding.{merge_behind, goes_behind, gives_behind}
use Rattle.stream_merge.proofs.merge.Merge.pass.Goals as goal

pub returns : goal.returns
returns g c =
    let R = g.R.ReadAt in
    let m = c.args.self.now in
    let t = c.args.t in
    let is : (line : List ℕ) → c.args.len ≡ length line → record m { last = Some t; source = c.pass.new.self } ≡ merge_behind m t line = λ line long.
    ap (λ (s : SampleSource g.row.R.Denot). record m { last = Some t; source = s }) (c.pass.ensures.passed ∙ ap (λ (n : ℕ). record m.source { piece = passed m.source.piece t n }) long) in
    record {
      behind = λ line h long.
          let B : Merge g.row.R.Denot → Type 0 = λ v. GoesBehind R.tells R.bytes m t line v in
          subst B (sym (is line long)) (goes_behind R.tells R.bytes m t line c.requires.going h);
      reads = λ told line h long left ps given gave.
          let B : Merge g.row.R.Denot → Type 0 = λ v. HasGiven R.bytes v left ps (given ++ record { t = t; line = line } ∷ []) in
          subst B (sym (is line long)) (gives_behind R.tells R.bytes m t line left ps given told c.requires.going h gave);
      step = c.pass.ensures.step;
    }
