-- The call that a request asks for. A target is a path, or a path, a question mark and a query.
use Rattle.std.specs.Prelude.{◌≡◌, ◌≢◌, ℕ, List, [], codes, None, IfSome, Result, Ok, Err, ⊤}
use Rattle.form_urlencoded.specs.Form.{split_once}
use Rattle.pb_messages.specs.declared.about.About.{About}
use Rattle.sample_bins.specs.Bins.{IsInRange}
use Rattle.http_front.specs.declared.path.Path.{Path}
use Rattle.http_front.specs.declared.path.Path.TheVariants as served
use Rattle.http_front.specs.declared.request.WebCall.{WebCall}
use Rattle.http_front.specs.declared.request.WebCall.TheVariants.{Raw, Json, AllPvs, PvStatus, PvDetails, ArchivePv, PausePv, ResumePv, RenamePv, FlushAll}
use Rattle.http_front.specs.declared.request.Request.{Request}
use Rattle.http_front.specs.declared.request.Param.TheVariants.{NewName}
use Rattle.http_front.specs.declared.request.HttpErr.{HttpErr}
use Rattle.http_front.specs.declared.request.HttpErr.TheVariants.{BadMethod, BadPath, BadParameter, Memory}
use Rattle.http_front.specs.Paths.{row_of}
use Rattle.http_front.specs.Query.{IsNamed, IsPv, IsAsked, IsInterval, IsType, IsSampling, IsFirstBad}

abbrev pub question_mark : ℕ
question_mark = 63

abbrev pub path_in : List ℕ → List ℕ
path_in target = (split_once question_mark target).0

abbrev pub query_in : List ℕ → List ℕ
query_in target = (split_once question_mark target).1

-- how a variable is to be archived: a scalar or a waveform of any length, without headers of its own
pub record IsAbout (query : List ℕ) (about : About) : Type 0 where
  pub ty : IsType query about.ty
  pub method : IsSampling query about.method
  pub count : about.count ≡ None
  pub headers : about.headers ≡ []

-- the path at which a call is asked for
abbrev pub served_at : WebCall → Path
served_at (Raw pv interval op) = served.RawData
served_at (Json pv interval op) = served.JsonData
served_at AllPvs = served.AllPvs
served_at (PvStatus pv) = served.PvStatus
served_at (PvDetails pv) = served.PvDetails
served_at (ArchivePv pv about) = served.ArchivePv
served_at (PausePv pv) = served.PausePv
served_at (ResumePv pv) = served.ResumePv
served_at (RenamePv pv newname) = served.RenamePv
served_at FlushAll = served.FlushAll

-- the number of its operator, if it has one, is in range
abbrev pub IsWide : WebCall → Type 0
IsWide (Raw pv interval op) = IfSome op IsInRange
IsWide (Json pv interval op) = IfSome op IsInRange
IsWide other = ⊤

-- the query has what the call holds
abbrev pub Holds : List ℕ → WebCall → Type 0
Holds query (Raw pv interval op) = IsAsked query op pv × IsInterval query interval
Holds query (Json pv interval op) = IsAsked query op pv × IsInterval query interval
Holds query AllPvs = ⊤
Holds query (PvStatus pv) = IsPv query pv
Holds query (PvDetails pv) = IsPv query pv
Holds query (ArchivePv pv about) = IsPv query pv × IsAbout query about
Holds query (PausePv pv) = IsPv query pv
Holds query (ResumePv pv) = IsPv query pv
Holds query (RenamePv pv newname) = IsPv query pv × IsNamed NewName query newname
Holds query FlushAll = ⊤

-- this call is what the path asks for with the query
abbrev pub Asks : Path → List ℕ → WebCall → Type 0
Asks path query call = (path ≡ served_at call) × Holds query call

-- the path at which something is served
abbrev pub IsPathOf : List ℕ → Path → Type 0
IsPathOf target path = (row_of path).text ≡ path_in target

-- what a target is answered: its call, or the first refusal
abbrev pub CallOf : List ℕ → Result WebCall HttpErr → Type 0
CallOf target (Ok call) = (path : Path) × IsPathOf target path × Asks path (query_in target) call
CallOf target (Err BadPath) = (path : Path) → ¬ (IsPathOf target path)
CallOf target (Err (BadParameter which)) = (path : Path) × IsPathOf target path × IsFirstBad (query_in target) (row_of path).columns which
CallOf target (Err Memory) = ⊤
CallOf target (Err _) = ⊥

-- what a request of this method, target and minor version is answered
abbrev pub Answers : List ℕ → List ℕ → ℕ → Result Request HttpErr → Type 0
Answers method target minor (Ok request) = (method ≡ codes "GET") × CallOf target (Ok request.call) × (request.version ≡ minor)
Answers method target minor (Err BadMethod) = method ≢ codes "GET"
Answers method target minor (Err e) = (method ≡ codes "GET") × CallOf target (Err e)
