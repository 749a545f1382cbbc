-- What a query says. It is read as a form (URL Standard, section 5): pairs between `&`, of which `+` is a space and `%` with two
-- digits a byte, and bytes that aren't UTF-8 are replaced by U+FFFD. Of a parameter's values the first counts, and other names are
-- passed over.
use Rattle.std.specs.Prelude.{◌≡◌, ◌⊎◌, ℕ, List, [], ◌∷◌, Option, Some, option_map, unwrap_or, find, bytes_eq, codes, Result, Ok, Err, ⊤}
use Rattle.std.specs.Str.Lossy.{utf8_lossy}
use Rattle.form_urlencoded.specs.Form.{raw_pairs, decode}
use Rattle.arch_time.specs.Iso.{IsIso}
use Rattle.pv_name.specs.Name.{IsName}
use Rattle.pb_wire.specs.Payload.{row_of}
use Rattle.pb_wire.specs.declared.payload.PayloadType.{PayloadType}
use Rattle.pb_messages.specs.declared.about.Method.{Method}
use Rattle.pb_messages.specs.declared.about.Method.TheVariants.{Monitor, Scan}
use Rattle.series_model.specs.declared.sample.Query.{Query}
use Rattle.sample_bins.specs.declared.op.Op.{Op}
use Rattle.sample_bins.specs.Words.{Asks}
use Rattle.http_front.specs.declared.request.Param.{Param}
use Rattle.http_front.specs.declared.request.Param.TheVariants.{Pv, PvOrBins, From, To, TypeName, SamplingMethod, SamplingPeriod, NewName}
use Rattle.http_front.specs.declared.request.HttpErr.{HttpErr}
use Rattle.http_front.specs.declared.request.HttpErr.TheVariants.{BadParameter, Memory}
use Rattle.http_front.specs.Param.{name_of}
use Rattle.http_front.specs.Period.{IsPeriod}

-- the text that a name or a value stands for
abbrev pub text_of : List ℕ → List ℕ
text_of bytes = utf8_lossy (decode bytes)

-- what the first of the pairs with this name has
unfoldable pub first_of : List ℕ → List (List ℕ × List ℕ) → Option (List ℕ)
first_of name pairs = option_map (λ (pair : List ℕ × List ℕ). text_of pair.1) (find (λ (pair : List ℕ × List ℕ). bytes_eq (text_of pair.0) name) pairs)

-- what a query has under this name
abbrev pub value_of : List ℕ → List ℕ → Option (List ℕ)
value_of name query = first_of name (raw_pairs query)

-- the same, and this word where no pair has the name
abbrev pub value_or : List ℕ → List ℕ → List ℕ → List ℕ
value_or word name query = unwrap_or (value_of name query) word

-- under `pv` or `newname` stands a name of a process variable, and it is this one
abbrev pub IsNamed : Param → List ℕ → List ℕ → Type 0
IsNamed param query name = (value_of (name_of param) query ≡ Some name) × IsName name

abbrev pub IsPv : List ℕ → List ℕ → Type 0
IsPv query name = IsNamed Pv query name

-- under `pv` stands a name, or an operator of bins and a name in parentheses, and these are they
abbrev pub IsAsked : List ℕ → Option Op → List ℕ → Type 0
IsAsked query op name = (text : List ℕ) × (value_of (name_of PvOrBins) query ≡ Some text) × Asks text op name × IsName name

-- under `from` or `to` stands an ISO text of this moment
abbrev pub IsMoment : Param → List ℕ → ℕ → Type 0
IsMoment param query t = (text : List ℕ) × (value_of (name_of param) query ≡ Some text) × IsIso text t

abbrev pub IsInterval : List ℕ → Query → Type 0
IsInterval query q = IsMoment From query q.from × IsMoment To query q.to

-- under `type` stands the name of this payload type
abbrev pub IsType : List ℕ → PayloadType → Type 0
IsType query ty = value_of (name_of TypeName) query ≡ Some (row_of ty).name

-- the words of sampling, and those that hold where they are missing
abbrev pub method_word : List ℕ → List ℕ
method_word query = value_or (codes "MONITOR") (name_of SamplingMethod) query

abbrev pub period_word : List ℕ → List ℕ
period_word query = value_or (codes "1") (name_of SamplingPeriod) query

-- how a variable is to be sampled; the period is read only where it is scanned
abbrev pub IsSampling : List ℕ → Method → Type 0
IsSampling query Monitor = method_word query ≡ codes "MONITOR"
IsSampling query (Scan period) = (method_word query ≡ codes "SCAN") × IsPeriod (period_word query) period

-- the parameter is there and of its form, or may be missing
abbrev pub IsGood : List ℕ → Param → Type 0
IsGood query Pv = (name : List ℕ) × IsNamed Pv query name
IsGood query PvOrBins = (op : Option Op) × (name : List ℕ) × IsAsked query op name
IsGood query From = (t : ℕ) × IsMoment From query t
IsGood query To = (t : ℕ) × IsMoment To query t
IsGood query TypeName = (ty : PayloadType) × IsType query ty
IsGood query SamplingMethod = (method_word query ≡ codes "MONITOR") ⊎ (method_word query ≡ codes "SCAN")
IsGood query SamplingPeriod = method_word query ≡ codes "SCAN" → (period : ℕ) × IsPeriod (period_word query) period
IsGood query NewName = (name : List ℕ) × IsNamed NewName query name

-- of these parameters this is the first that isn't good
abbrev pub IsFirstBad : List ℕ → List Param → Param → Type 0
IsFirstBad query [] which = ⊥
IsFirstBad query (param ∷ params) which = ((which ≡ param) × ¬ (IsGood query param)) ⊎ (IsGood query param × IsFirstBad query params which)

-- why a query's parameters of these columns are refused: by the first that isn't good, or for want of memory
abbrev pub Refuses : List ℕ → List Param → HttpErr → Type 0
Refuses query columns (BadParameter which) = IsFirstBad query columns which
Refuses query columns Memory = ⊤
Refuses query columns _ = ⊥

-- what they are read as: a value with this meaning, or a refusal
abbrev pub Reading : {A : Type 0} → List ℕ → List Param → (A → Type 0) → Result A HttpErr → Type 0
Reading query columns Means (Ok value) = Means value
Reading query columns Means (Err e) = Refuses query columns e
