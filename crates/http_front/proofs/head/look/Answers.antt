use Rattle.std.proofs.Common.{ap}
use Rattle.std.specs.Prelude.{Err}
use Rattle.http_front.proofs.Fields.{never_exceeds}
use Rattle.http_front.proofs.head.look.Goals as goal

pub returns-in-Err : goal.returns-in-Err
returns-in-Err c = record { looked = c.in-Err.ensures.invalid (λ e. absurd (never_exceeds c.args.bytes.now _ c.requires.room c.requires.short (c.in-Err.ensures.too_many (ap Err e)))) }
