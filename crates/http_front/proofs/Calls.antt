-- A method, a target and a version have one answer.
use Rattle.std.proofs.Common.{◌≡◌, ◌≢◌, ℕ, List, [], ◌∷◌, Option, Some, Result, Ok, Err, cond, refl, sym, ap, ◌∙◌, subst, inl, inr}
use Rattle.std.specs.Prelude.{codes, bytes_eq, ⊤}
use Rattle.std.proofs.lemmas.Bool.{false≢true, eq-eqb}
use Rattle.pb_wire.specs.Payload.{row_of}
use Rattle.pb_wire.specs.declared.payload.PayloadType.{PayloadType}
use Rattle.pb_wire.specs.declared.payload.PayloadType.TheVariants.{ScalarString, ScalarShort, ScalarFloat, ScalarEnum, ScalarByte, ScalarInt, ScalarDouble, WaveformString, WaveformShort, WaveformFloat, WaveformEnum, WaveformByte, WaveformInt, WaveformDouble}
use Rattle.pb_messages.specs.declared.about.About.{About}
use Rattle.pb_messages.specs.declared.about.Method.{Method}
use Rattle.pb_messages.specs.declared.about.Method.TheVariants.{Monitor, Scan}
use Rattle.series_model.specs.declared.sample.Query.{Query}
use Rattle.arch_time.specs.Iso.{IsIso}
use Rattle.arch_time.proofs.IsoLemmas.{one_moment}
use Rattle.sample_bins.specs.declared.op.Op.{Op}
use Rattle.sample_bins.specs.Words.{Asks as AsksText}
use Rattle.sample_bins.proofs.Asking.{one_asked}
use Rattle.http_front.specs.declared.path.Path.{Path}
use Rattle.http_front.specs.declared.path.Path.TheVariants as served
use Rattle.http_front.specs.declared.request.Param.{Param}
use Rattle.http_front.specs.declared.request.Param.TheVariants.{Pv, From, To, SamplingMethod, SamplingPeriod, NewName}
use Rattle.http_front.specs.declared.request.WebCall.{WebCall}
use Rattle.http_front.specs.declared.request.WebCall.TheVariants.{Raw, Json, AllPvs, PvStatus, PvDetails, ArchivePv, PausePv, ResumePv, RenamePv, FlushAll}
use Rattle.http_front.specs.declared.request.Request.{Request}
use Rattle.http_front.specs.declared.request.HttpErr.{HttpErr}
use Rattle.http_front.specs.declared.request.HttpErr.TheVariants.{SourceFault, BadHead, HeadTooLong, BadMethod, BadPath, BadParameter, Memory}
use Rattle.http_front.specs.Paths as paths
use Rattle.http_front.specs.Query.{IsNamed, IsAsked, IsMoment, IsInterval, IsType, IsSampling, IsGood, IsFirstBad, period_word}
use Rattle.http_front.specs.Calls.{IsAbout, Asks, served_at, IsPathOf, CallOf, Answers, query_in}
use Rattle.http_front.specs.Laws.{IsAnswer}
use Rattle.http_front.proofs.Periods.{one_period}
use Rattle.http_front.proofs.QueryLemmas.{no_ok}

-- VALUES THAT ARE ONE

one_some : {A : Type 0} (a b : A) → Some a ≡ Some b → a ≡ b
one_some a b e = cc

one_ok : {A E : Type 0} (r : Result A E) (a b : A) → r ≡ Ok a → r ≡ Ok b → a ≡ b
one_ok r a b p q = cc

one_err : {A E : Type 0} (r : Result A E) (a b : E) → r ≡ Err a → r ≡ Err b → a ≡ b
one_err r a b p q = cc

no_path_for_memory : BadPath ≡ Memory → ⊥
no_path_for_memory e = cc

no_parameter_for_memory : (which : Param) → BadParameter which ≡ Memory → ⊥
no_parameter_for_memory which e = cc

-- PARAMETERS

one_name : (param : Param) (query a b : List ℕ) → IsNamed param query a → IsNamed param query b → a ≡ b
one_name param query a b x y = one_some a b (sym x.0 ∙ y.0)

same_asked : (query a b : List ℕ) (p q : Option Op) → IsAsked query p a → IsAsked query q b → (p ≡ q) × (a ≡ b)
same_asked query a b p q x y =
    let text : y.0 ≡ x.0 = one_some y.0 x.0 (sym y.1 ∙ x.1) in
    one_asked x.0 a b p q x.2 (subst (λ (t : List ℕ). AsksText t q b) text y.2)

same_moment : (param : Param) (query : List ℕ) (t u : ℕ) → IsMoment param query t → IsMoment param query u → t ≡ u
same_moment param query t u x y =
    let text : y.0 ≡ x.0 = one_some y.0 x.0 (sym y.1 ∙ x.1) in
    one_moment x.0 t u x.2 (subst (λ (v : List ℕ). IsIso v u) text y.2)

one_interval : (query : List ℕ) (q r : Query) → IsInterval query q → IsInterval query r → q ≡ r
one_interval query q r x y =
    let from : q.from ≡ r.from = same_moment From query q.from r.from x.0 y.0 in
    let to : q.to ≡ r.to = same_moment To query q.to r.to x.1 y.1 in
    λ i. record { from = from i; to = to i }

type_of : List ℕ → Option PayloadType
type_of name =
    cond (bytes_eq name (codes "SCALAR_STRING")) (Some ScalarString) (
    cond (bytes_eq name (codes "SCALAR_SHORT")) (Some ScalarShort) (
    cond (bytes_eq name (codes "SCALAR_FLOAT")) (Some ScalarFloat) (
    cond (bytes_eq name (codes "SCALAR_ENUM")) (Some ScalarEnum) (
    cond (bytes_eq name (codes "SCALAR_BYTE")) (Some ScalarByte) (
    cond (bytes_eq name (codes "SCALAR_INT")) (Some ScalarInt) (
    cond (bytes_eq name (codes "SCALAR_DOUBLE")) (Some ScalarDouble) (
    cond (bytes_eq name (codes "WAVEFORM_STRING")) (Some WaveformString) (
    cond (bytes_eq name (codes "WAVEFORM_SHORT")) (Some WaveformShort) (
    cond (bytes_eq name (codes "WAVEFORM_FLOAT")) (Some WaveformFloat) (
    cond (bytes_eq name (codes "WAVEFORM_ENUM")) (Some WaveformEnum) (
    cond (bytes_eq name (codes "WAVEFORM_BYTE")) (Some WaveformByte) (
    cond (bytes_eq name (codes "WAVEFORM_INT")) (Some WaveformInt) (
    Some WaveformDouble)))))))))))))

type_of_name : (ty : PayloadType) → type_of (row_of ty).name ≡ Some ty
unfolding type_of
type_of_name ScalarString = refl
type_of_name ScalarShort = refl
type_of_name ScalarFloat = refl
type_of_name ScalarEnum = refl
type_of_name ScalarByte = refl
type_of_name ScalarInt = refl
type_of_name ScalarDouble = refl
type_of_name WaveformString = refl
type_of_name WaveformShort = refl
type_of_name WaveformFloat = refl
type_of_name WaveformEnum = refl
type_of_name WaveformByte = refl
type_of_name WaveformInt = refl
type_of_name WaveformDouble = refl

one_type : (query : List ℕ) (a b : PayloadType) → IsType query a → IsType query b → a ≡ b
one_type query a b x y =
    let names : (row_of a).name ≡ (row_of b).name = one_some _ _ (sym x ∙ y) in
    one_some a b (sym (type_of_name a) ∙ ap type_of names ∙ type_of_name b)

words_differ : (word : List ℕ) → word ≡ codes "MONITOR" → word ≡ codes "SCAN" → ⊥
words_differ word a b = cc

one_sampling : (query : List ℕ) (a b : Method) → IsSampling query a → IsSampling query b → a ≡ b
one_sampling query Monitor Monitor x y = refl
one_sampling query Monitor (Scan n) x y = absurd (words_differ _ x y.0)
one_sampling query (Scan n) Monitor x y = absurd (words_differ _ y x.0)
one_sampling query (Scan n) (Scan m) x y = ap Scan (one_period (period_word query) n m x.1 y.1)

one_about : (query : List ℕ) (a b : About) → IsAbout query a → IsAbout query b → a ≡ b
one_about query a b x y =
    let ty : a.ty ≡ b.ty = one_type query a.ty b.ty x.ty y.ty in
    let method : a.method ≡ b.method = one_sampling query a.method b.method x.method y.method in
    let count : a.count ≡ b.count = x.count ∙ sym y.count in
    let headers : a.headers ≡ b.headers = x.headers ∙ sym y.headers in
    λ i. record { ty = ty i; method = method i; count = count i; headers = headers i }

-- TARGETS

path_at : List ℕ → Option Path
path_at text =
    cond (bytes_eq text (codes "/retrieval/data/getData.raw")) (Some served.RawData) (
    cond (bytes_eq text (codes "/retrieval/data/getData.json")) (Some served.JsonData) (
    cond (bytes_eq text (codes "/mgmt/bpl/getAllPVs")) (Some served.AllPvs) (
    cond (bytes_eq text (codes "/mgmt/bpl/getPVStatus")) (Some served.PvStatus) (
    cond (bytes_eq text (codes "/mgmt/bpl/getPVDetails")) (Some served.PvDetails) (
    cond (bytes_eq text (codes "/mgmt/bpl/archivePV")) (Some served.ArchivePv) (
    cond (bytes_eq text (codes "/mgmt/bpl/pauseArchivingPV")) (Some served.PausePv) (
    cond (bytes_eq text (codes "/mgmt/bpl/resumeArchivingPV")) (Some served.ResumePv) (
    cond (bytes_eq text (codes "/mgmt/bpl/renamePV")) (Some served.RenamePv) (
    Some served.FlushAll)))))))))

path_at_text : (path : Path) → path_at (paths.row_of path).text ≡ Some path
unfolding path_at
path_at_text served.RawData = refl
path_at_text served.JsonData = refl
path_at_text served.AllPvs = refl
path_at_text served.PvStatus = refl
path_at_text served.PvDetails = refl
path_at_text served.ArchivePv = refl
path_at_text served.PausePv = refl
path_at_text served.ResumePv = refl
path_at_text served.RenamePv = refl
path_at_text served.FlushAll = refl

one_path : (target : List ℕ) (p q : Path) → IsPathOf target p → IsPathOf target q → p ≡ q
one_path target p q x y =
    one_some p q (sym (path_at_text p) ∙ ap path_at (x ∙ sym y) ∙ path_at_text q)

abbrev number_of : WebCall → ℕ
number_of call = (paths.row_of (served_at call)).number

one_call : (path : Path) (query : List ℕ) (a b : WebCall) → Asks path query a → Asks path query b → a ≡ b
one_call path query (Raw pv q op) (Raw pv' q' op') x y =
    let asked = same_asked query pv pv' op op' x.1.0 y.1.0 in
    let interval = one_interval query q q' x.1.1 y.1.1 in
    λ i. Raw (asked.1 i) (interval i) (asked.0 i)
one_call path query (Json pv q op) (Json pv' q' op') x y =
    let asked = same_asked query pv pv' op op' x.1.0 y.1.0 in
    let interval = one_interval query q q' x.1.1 y.1.1 in
    λ i. Json (asked.1 i) (interval i) (asked.0 i)
one_call path query AllPvs AllPvs x y = refl
one_call path query (PvStatus pv) (PvStatus pv') x y = ap PvStatus (one_name Pv query pv pv' x.1 y.1)
one_call path query (PvDetails pv) (PvDetails pv') x y = ap PvDetails (one_name Pv query pv pv' x.1 y.1)
one_call path query (ArchivePv pv about) (ArchivePv pv' about') x y =
    let name = one_name Pv query pv pv' x.1.0 y.1.0 in
    let same = one_about query about about' x.1.1 y.1.1 in
    λ i. ArchivePv (name i) (same i)
one_call path query (PausePv pv) (PausePv pv') x y = ap PausePv (one_name Pv query pv pv' x.1 y.1)
one_call path query (ResumePv pv) (ResumePv pv') x y = ap ResumePv (one_name Pv query pv pv' x.1 y.1)
one_call path query (RenamePv pv newname) (RenamePv pv' newname') x y =
    let name = one_name Pv query pv pv' x.1.0 y.1.0 in
    let other = one_name NewName query newname newname' x.1.1 y.1.1 in
    λ i. RenamePv (name i) (other i)
one_call path query FlushAll FlushAll x y = refl
one_call path query a b x y = absurd (false≢true (eq-eqb (number_of a) (number_of b) (ap (λ (p : Path). (paths.row_of p).number) (sym x.0 ∙ y.0))))

-- REFUSALS

one_bad : (query : List ℕ) (params : List Param) (a b : Param) → IsFirstBad query params a → IsFirstBad query params b → a ≡ b
one_bad query [] a b x y = absurd x
one_bad query (p ∷ ps) a b (inl x) (inl y) = x.0 ∙ sym y.0
one_bad query (p ∷ ps) a b (inl x) (inr y) = absurd (x.1 y.0)
one_bad query (p ∷ ps) a b (inr x) (inl y) = absurd (y.1 x.0)
one_bad query (p ∷ ps) a b (inr x) (inr y) = one_bad query ps a b x.1 y.1

abbrev AllGood : List ℕ → List Param → Type 0
AllGood query [] = ⊤
AllGood query (p ∷ ps) = IsGood query p × AllGood query ps

none_bad : (query : List ℕ) (params : List Param) (which : Param) → AllGood query params → IsFirstBad query params which → ⊥
none_bad query [] which good bad = bad
none_bad query (p ∷ ps) which good (inl bad) = bad.1 good.0
none_bad query (p ∷ ps) which good (inr bad) = none_bad query ps which good.1 bad.1

method_good : (query : List ℕ) (m : Method) → IsSampling query m → IsGood query SamplingMethod
method_good query Monitor x = inl x
method_good query (Scan n) x = inr x.0

period_good : (query : List ℕ) (m : Method) → IsSampling query m → IsGood query SamplingPeriod
period_good query Monitor x = λ scan. absurd (words_differ _ x scan)
period_good query (Scan n) x = λ scan. (n, x.1)

all_good : (path : Path) (query : List ℕ) (call : WebCall) → Asks path query call → AllGood query (paths.row_of path).columns
all_good path query (Raw pv q op) x = rw x.0 ((op, pv, x.1.0), ((q.from, x.1.1.0), ((q.to, x.1.1.1), tt)))
all_good path query (Json pv q op) x = rw x.0 ((op, pv, x.1.0), ((q.from, x.1.1.0), ((q.to, x.1.1.1), tt)))
all_good path query AllPvs x = rw x.0 tt
all_good path query (PvStatus pv) x = rw x.0 ((pv, x.1), tt)
all_good path query (PvDetails pv) x = rw x.0 ((pv, x.1), tt)
all_good path query (ArchivePv pv about) x = rw x.0 ((pv, x.1.0), ((about.ty, x.1.1.ty), (method_good query about.method x.1.1.method, (period_good query about.method x.1.1.method, tt))))
all_good path query (PausePv pv) x = rw x.0 ((pv, x.1), tt)
all_good path query (ResumePv pv) x = rw x.0 ((pv, x.1), tt)
all_good path query (RenamePv pv newname) x = rw x.0 ((pv, x.1.0), ((newname, x.1.1), tt))
all_good path query FlushAll x = rw x.0 tt

-- what a target is told, but for want of memory
data Told (target : List ℕ) : Result WebCall HttpErr → Type 0 where
  called : (call : WebCall) (path : Path) → IsPathOf target path → Asks path (query_in target) call → Told target (Ok call)
  lost : ((path : Path) → IsPathOf target path → ⊥) → Told target (Err BadPath)
  bad : (which : Param) (path : Path) → IsPathOf target path → IsFirstBad (query_in target) (paths.row_of path).columns which → Told target (Err (BadParameter which))

told : (target : List ℕ) (a : Result WebCall HttpErr) → a ≢ Err Memory → CallOf target a → Told target a
told target (Ok call) n x = called call x.0 x.1 x.2
told target (Err BadPath) n x = lost x
told target (Err (BadParameter which)) n x = bad which x.0 x.1 x.2
told target (Err Memory) n x = absurd (n refl)
told target (Err SourceFault) n x = absurd x
told target (Err BadHead) n x = absurd x
told target (Err HeadTooLong) n x = absurd x
told target (Err BadMethod) n x = absurd x

same_path : (target : List ℕ) (p q : Path) (P : Path → Type 0) → IsPathOf target p → IsPathOf target q → P q → P p
same_path target p q P x y h = subst P (one_path target q p y x) h

one_told : (target : List ℕ) (a b : Result WebCall HttpErr) → Told target a → Told target b → a ≡ b
one_told target _ _ (called c p is x) (called d q at y) = ap Ok (one_call p (query_in target) c d x (same_path target p q (λ r. Asks r (query_in target) d) is at y))
one_told target _ _ (called c p is x) (lost none) = absurd (none p is)
one_told target _ _ (called c p is x) (bad w q at y) = absurd (none_bad (query_in target) (paths.row_of p).columns w (all_good p (query_in target) c x) (same_path target p q (λ r. IsFirstBad (query_in target) (paths.row_of r).columns w) is at y))
one_told target _ _ (lost none) (called d q at y) = absurd (none q at)
one_told target _ _ (lost none) (lost empty) = refl
one_told target _ _ (lost none) (bad w q at y) = absurd (none q at)
one_told target _ _ (bad w p is x) (called d q at y) = absurd (none_bad (query_in target) (paths.row_of q).columns w (all_good q (query_in target) d y) (same_path target q p (λ r. IsFirstBad (query_in target) (paths.row_of r).columns w) at is x))
one_told target _ _ (bad w p is x) (lost empty) = absurd (empty p is)
one_told target _ _ (bad w p is x) (bad v q at y) = ap (λ (u : Param). Err (BadParameter u)) (one_bad (query_in target) (paths.row_of p).columns w v x (same_path target p q (λ r. IsFirstBad (query_in target) (paths.row_of r).columns v) is at y))

-- what a request is told, but for want of memory
data Replied (method target : List ℕ) (minor : ℕ) : Result Request HttpErr → Type 0 where
  wrong : (method ≡ codes "GET" → ⊥) → Replied method target minor (Err BadMethod)
  asked : (request : Request) → method ≡ codes "GET" → Told target (Ok request.call) → request.version ≡ minor → Replied method target minor (Ok request)
  refused : (e : HttpErr) → method ≡ codes "GET" → Told target (Err e) → Replied method target minor (Err e)

replied : (method target : List ℕ) (minor : ℕ) (a : Result Request HttpErr) → IsAnswer a → Answers method target minor a → Replied method target minor a
replied method target minor (Ok request) is x = asked request x.0 (told target (Ok request.call) (no_ok request.call Memory) x.1) x.2
replied method target minor (Err BadMethod) is x = wrong x
replied method target minor (Err BadPath) is x = refused BadPath x.0 (told target (Err BadPath) (λ e. no_path_for_memory (one_err (Err BadPath) BadPath Memory refl e)) x.1)
replied method target minor (Err (BadParameter which)) is x = refused (BadParameter which) x.0 (told target (Err (BadParameter which)) (λ e. no_parameter_for_memory which (one_err (Err (BadParameter which)) (BadParameter which) Memory refl e)) x.1)
replied method target minor (Err SourceFault) is x = absurd is
replied method target minor (Err BadHead) is x = absurd x.1
replied method target minor (Err HeadTooLong) is x = absurd x.1
replied method target minor (Err Memory) is x = absurd is

same_request : (target : List ℕ) (minor : ℕ) (r s : Request) → Told target (Ok r.call) → Told target (Ok s.call) → r.version ≡ minor → s.version ≡ minor → r ≡ s
same_request target minor r s x y v w =
    let call : r.call ≡ s.call = one_ok (Ok r.call) r.call s.call refl (one_told target (Ok r.call) (Ok s.call) x y) in
    let version : r.version ≡ s.version = v ∙ sym w in
    λ i. record { call = call i; version = version i }

one_reply : (method target : List ℕ) (minor : ℕ) (a b : Result Request HttpErr) → Replied method target minor a → Replied method target minor b → a ≡ b
one_reply method target minor _ _ (wrong n) (wrong m) = refl
one_reply method target minor _ _ (wrong n) (asked s get y w) = absurd (n get)
one_reply method target minor _ _ (wrong n) (refused e get y) = absurd (n get)
one_reply method target minor _ _ (asked r get x v) (wrong m) = absurd (m get)
one_reply method target minor _ _ (asked r get x v) (asked s also y w) = ap Ok (same_request target minor r s x y v w)
one_reply method target minor _ _ (asked r get x v) (refused e also y) = absurd (no_ok r.call e (one_told target (Ok r.call) (Err e) x y))
one_reply method target minor _ _ (refused e get x) (wrong m) = absurd (m get)
one_reply method target minor _ _ (refused e get x) (asked s also y w) = absurd (no_ok s.call e (sym (one_told target (Err e) (Ok s.call) x y)))
one_reply method target minor _ _ (refused e get x) (refused f also y) = ap Err (one_err (Err e) e f refl (one_told target (Err e) (Err f) x y))

pub one_answer_of : (method target : List ℕ) (minor : ℕ) (a b : Result Request HttpErr) → IsAnswer a → IsAnswer b → Answers method target minor a → Answers method target minor b → a ≡ b
one_answer_of method target minor a b is_a is_b x y = one_reply method target minor a b (replied method target minor a is_a x) (replied method target minor b is_b y)
