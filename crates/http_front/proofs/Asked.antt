-- The operator of a request that was read is in range.
use Rattle.std.proofs.Common.{ℕ, List, Option, None, Some, Ok}
use Rattle.std.specs.Prelude.{IfSome}
use Rattle.sample_bins.specs.declared.op.Op.{Op}
use Rattle.sample_bins.specs.Bins.{IsInRange}
use Rattle.sample_bins.proofs.Asking.{asked_wide}
use Rattle.http_front.specs.declared.request.WebCall.{WebCall}
use Rattle.http_front.specs.declared.request.WebCall.TheVariants.{Raw, Json, AllPvs, PvStatus, PvDetails, ArchivePv, PausePv, ResumePv, RenamePv, FlushAll}
use Rattle.http_front.specs.declared.request.Request.{Request}
use Rattle.http_front.specs.Query.{IsAsked}
use Rattle.http_front.specs.Calls.{Holds, IsWide}
use Rattle.http_front.specs.Reading.{HasRead}

operator_wide : (query name : List ℕ) (op : Option Op) → IsAsked query op name → IfSome op IsInRange
operator_wide query name None asked = tt
operator_wide query name (Some op) asked = asked_wide asked.0 name op asked.2

call_wide : (query : List ℕ) (call : WebCall) → Holds query call → IsWide call
call_wide query (Raw pv interval op) holds = operator_wide query pv op holds.0
call_wide query (Json pv interval op) holds = operator_wide query pv op holds.0
call_wide query AllPvs holds = tt
call_wide query (PvStatus pv) holds = tt
call_wide query (PvDetails pv) holds = tt
call_wide query (ArchivePv pv about) holds = tt
call_wide query (PausePv pv) holds = tt
call_wide query (ResumePv pv) holds = tt
call_wide query (RenamePv pv newname) holds = tt
call_wide query FlushAll holds = tt

pub request_wide : (before after : Option (List ℕ)) (request : Request) → HasRead before after (Ok request) → IsWide request.call
request_wide before after request read = call_wide _ request.call read.judges.answers.1.2.1
