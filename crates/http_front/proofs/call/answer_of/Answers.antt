use Rattle.http_front.proofs.ReadLemmas.{refused}
use Rattle.std.proofs.Common.{◌≡◌, rules}
use Rattle.std.specs.Prelude.{codes}
use Rattle.http_front.proofs.call.answer_of.Goals as goal

pub returns-in-Err : goal.returns-in-Err
returns-in-Err c =
    let get : c.args.method.now ≡ codes "GET" = search rules in
    refused c.args.method.now c.args.target.now c.args.version c.in-Err.refusal get c.in-Err.ensures
