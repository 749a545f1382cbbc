-- The refusals of requests: the status of each, and the number or word by which its body names it.
use Rattle.std.specs.Prelude.{ℕ, List, [], ◌++◌, codes, decimal, Option, Some, None}
use Rattle.http_front.specs.Param.{name_of}
use Rattle.http_front.specs.declared.request.HttpErr.{HttpErr}
use Rattle.http_front.specs.declared.request.HttpErr.TheVariants as http
use Rattle.admin_commands.specs.declared.refusal.Refusal.{Refusal}
use Rattle.admin_commands.specs.declared.refusal.Refusal.TheVariants.{BadHead, HeadTooLong, BadMethod, BadPath, BadParameter, NoSuchVariable, NameTaken, KeyTaken, CatalogueFull, NotRunning, NotPaused, RenameNotPaused, NotDurable, DiskFault, Spent}

-- A row of the table.
pub record RefusalRow : Type 0 where
  pub status : ℕ
  pub word : List ℕ

abbrev pub row_of : Refusal → RefusalRow
row_of BadHead = record { status = 400; word = codes "E27" }
row_of (BadParameter which) = record { status = 400; word = codes "E31" }
row_of BadPath = record { status = 404; word = codes "E30" }
row_of NoSuchVariable = record { status = 404; word = codes "E26" }
row_of BadMethod = record { status = 405; word = codes "E29" }
row_of (NameTaken row) = record { status = 409; word = codes "E18" }
row_of (KeyTaken row) = record { status = 409; word = codes "E19" }
row_of CatalogueFull = record { status = 409; word = codes "E20" }
row_of NotRunning = record { status = 409; word = codes "E21" }
row_of NotPaused = record { status = 409; word = codes "E22" }
row_of RenameNotPaused = record { status = 409; word = codes "E32" }
row_of (NotDurable last durable) = record { status = 409; word = codes "E33" }
row_of HeadTooLong = record { status = 431; word = codes "E28" }
row_of DiskFault = record { status = 500; word = codes "disk" }
row_of Spent = record { status = 503; word = codes "spent" }

-- a moment in nanoseconds, if there is one
abbrev pub moment_text : Option ℕ → List ℕ
moment_text (Some t) = decimal t
moment_text None = codes "null"

-- the members behind it, if there are some: the parameter, the row that has the name or the key, or the moments of the last sample and of
-- the last durable one
abbrev pub member_text : Refusal → List ℕ
member_text (BadParameter which) = codes ",\"parameter\":\"" ++ name_of which ++ codes "\""
member_text (NameTaken row) = codes ",\"row\":" ++ decimal row
member_text (KeyTaken row) = codes ",\"row\":" ++ decimal row
member_text (NotDurable last durable) = codes ",\"last\":" ++ decimal last ++ codes ",\"durable\":" ++ moment_text durable
member_text other = []

abbrev pub refusal_text : Refusal → List ℕ
refusal_text refusal = codes "{\"status\":\"" ++ (row_of refusal).word ++ codes "\"" ++ member_text refusal ++ codes "}"

-- What is replied to bytes that are no request; nothing where the source failed or memory ran out.
abbrev pub refusal_of : HttpErr → Option Refusal
refusal_of http.SourceFault = None
refusal_of http.BadHead = Some BadHead
refusal_of http.HeadTooLong = Some HeadTooLong
refusal_of http.BadMethod = Some BadMethod
refusal_of http.BadPath = Some BadPath
refusal_of (http.BadParameter which) = Some (BadParameter which)
refusal_of http.Memory = None
