-- The head of a request among bytes (RFC 9112, sections 2 to 5). The grammar is `httparse`'s: empty lines may stand before the
-- request line, and a line may end with LF alone. Two heads with which the same bytes begin are one.
use Rattle.std.specs.Prelude.{◌≡◌, ℕ, List}
use Rattle.httparse.specs.Grammar.{RequestHead, ReadsRequest, HasNoRequest, NeverHasRequest, MayBecomeRequest}
use Rattle.httparse.specs.Spans.{IsWithin, span_bytes}
use Rattle.std.specs.Prelude.{length}
use Rattle.http_front.specs.declared.head.HeadSeen.{HeadSeen}
use Rattle.http_front.specs.declared.head.HeadSeen.TheVariants as seen

-- the bytes begin with a head of this method, target and minor version
pub record BeginsWith (bytes method target : List ℕ) (minor : ℕ) : Type 0 where
  pub head : RequestHead
  pub rest : List ℕ
  pub reads : ReadsRequest bytes head rest
  pub method_is : method ≡ head.method
  pub target_is : target ≡ head.target
  pub minor_is : minor ≡ head.minor

-- no head yet, but bytes may follow that make one, or the target is still being read
abbrev pub IsUnfinished : List ℕ → Type 0
IsUnfinished bytes = HasNoRequest bytes × MayBecomeRequest bytes

abbrev pub Looked : List ℕ → HeadSeen → Type 0
Looked bytes (seen.Head method target minor) = IsWithin (length bytes) method × IsWithin (length bytes) target × BeginsWith bytes (span_bytes bytes method) (span_bytes bytes target) minor
Looked bytes seen.More = IsUnfinished bytes
Looked bytes seen.Bad = NeverHasRequest bytes
