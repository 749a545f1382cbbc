use Rattle.std.proofs.Common.{◌≡◌, ◌∙◌, length, ap}
use Rattle.std.specs.Prelude.{unwrap_or}
use Rattle.std.specs.List.{position_or_len}
use Rattle.pv_name.specs.Name.{is_separator}
use Rattle.pv_name.proofs.Segments.{segment_end}
use Rattle.pv_name.proofs.name.begins_badly.Goals as goal

pub returns : goal.returns
returns c =
    let rest = c.args.rest.now in
    let end : c.unwrap_or-end.result ≡ position_or_len is_separator rest =
    c.unwrap_or-end.ensures ∙ (ap (λ found. unwrap_or found (length rest)) c.first_separator.ensures ∙ segment_end is_separator rest) in
    rw (← end) c.is_bad_segment.ensures
