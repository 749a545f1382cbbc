-- Lists of lines: how they join, and what the line at the front is.
use Rattle.std.proofs.Common.{◌≡◌, ◌≢◌, ℕ, ℤ, ◌⊎◌, inl, inr, List, [], ◌∷◌, ◌++◌, Result, Ok, Err, refl, sym, ap, ◌∙◌, subst, append_assoc}
use Rattle.std.proofs.lemmas.List.Elements.{recursion_from_All}
use Rattle.std.specs.List.{AllByRecursion}
use Rattle.pb_wire.specs.declared.payload.PayloadType.{PayloadType}
use Rattle.arch_time.specs.YearTime.{moment}
use Rattle.line_escape.specs.Unescaping.{HasNoNewline, Means}
use Rattle.line_escape.proofs.EscapingLemmas.{lines_apart, every_line}
use Rattle.pb_messages.specs.Event.{stamp_of}
use Rattle.pb_wire.specs.declared.fault.FieldFault.{FieldFault as EventFault}
use Rattle.series_model.specs.declared.sample.Sample.{Sample}
use Rattle.pb_messages.specs.declared.info.PayloadInfo.{PayloadInfo}
use Rattle.pb_messages.specs.declared.info_error.InfoFault.{InfoFault}
use Rattle.pb_messages.specs.Info.{info_of}
use Rattle.pb_lines.specs.declared.fault.HeadFault.TheVariants as head_fault
use Rattle.pb_lines.specs.declared.fault.LineFault.TheVariants as line_fault
use Rattle.pb_lines.specs.Header.{IsHeaderLine}
use Rattle.pb_lines.specs.Sample.{IsSampleLine, IsStamp}
use Rattle.pb_lines.proofs.Unique.{one_moment, header_or_fault, sample_or_fault}
use Rattle.pb_lines.proofs.Whole.{in_year_or_not}
use Rattle.pb_lines.specs.File.{AreSamples, HasNoHeader, HasNoSample, lines_of}

-- LISTS

pub all-append : {X : Type 0} (P : X → Type 0) (xs ys : List X) → AllByRecursion P xs → AllByRecursion P ys → AllByRecursion P (xs ++ ys)
all-append P [] ys h k = k
all-append P (x ∷ xs) ys h k = (h.0, all-append P xs ys h.1 k)

pub all_front : {X : Type 0} (P : X → Type 0) (xs ys : List X) → AllByRecursion P (xs ++ ys) → AllByRecursion P xs
all_front P [] ys h = tt
all_front P (x ∷ xs) ys h = (h.0, all_front P xs ys h.1)

pub all_rest : {X : Type 0} (P : X → Type 0) (xs ys : List X) → AllByRecursion P (xs ++ ys) → AllByRecursion P ys
all_rest P [] ys h = h
all_rest P (x ∷ xs) ys h = all_rest P xs ys h.1

pub lines_of-append : (xs ys : List Sample) → lines_of (xs ++ ys) ≡ lines_of xs ++ lines_of ys
lines_of-append [] ys = refl
lines_of-append (s ∷ xs) ys = ap (λ (u : List ℕ). s.line ++ 10 ∷ u) (lines_of-append xs ys) ∙ sym (append_assoc s.line (10 ∷ lines_of xs) (lines_of ys))

-- THE LINE AT THE FRONT

pub one_line : (u v x y : List ℕ) → HasNoNewline u → HasNoNewline v → u ++ 10 ∷ x ≡ v ++ 10 ∷ y → (u ≡ v) × (x ≡ y)
one_line u v x y h k e = lines_apart u v x y (recursion_from_All (λ z. z ≢ 10) u h) (recursion_from_All (λ z. z ≢ 10) v k) e

pub no_line : (bytes line rest : List ℕ) → HasNoNewline bytes → bytes ≡ line ++ 10 ∷ rest → ⊥
no_line bytes line rest whole is =
    let all = recursion_from_All (λ z. z ≢ 10) bytes whole in
    let P : List ℕ → Type 0 = λ u. AllByRecursion (λ (z : ℕ). z ≢ 10) u in
    (all_rest (λ (z : ℕ). z ≢ 10) line (10 ∷ rest) (subst P is all)).0 refl

pub torn_head : (bytes : List ℕ) → HasNoNewline bytes → HasNoHeader bytes
torn_head bytes whole line rest info is h k = no_line bytes line rest whole is

pub bad_head : (bytes line rest : List ℕ) → bytes ≡ line ++ 10 ∷ rest → HasNoNewline line → ((info : PayloadInfo) → IsHeaderLine line info → ⊥) → HasNoHeader bytes
bad_head bytes line rest is whole bad other more info is₂ whole₂ header =
    let same = one_line line other rest more whole whole₂ (sym is ∙ is₂) in
    let P : List ℕ → Type 0 = λ u. IsHeaderLine u info in
    bad info (subst P (sym same.0) header)

pub torn_sample : (info : PayloadInfo) (is_good : ℕ → Type 0) (bytes : List ℕ) → bytes ≢ [] → HasNoNewline bytes → HasNoSample info is_good bytes
torn_sample info is_good bytes some whole = record { some = some; none = λ s rest is h k. no_line bytes s.line rest whole is }

some_line : (line rest : List ℕ) → line ++ 10 ∷ rest ≡ [] → ⊥
some_line [] rest h = cc
some_line (x ∷ line) rest h = cc

pub bad_sample : (info : PayloadInfo) (is_good : ℕ → Type 0) (bytes line rest : List ℕ) → bytes ≡ line ++ 10 ∷ rest → HasNoNewline line → ((t : ℕ) → IsSampleLine info.ty info.year line t → is_good t → ⊥) → HasNoSample info is_good bytes
bad_sample info is_good bytes line rest is whole bad = record {
  some = λ e. some_line line rest (sym is ∙ e);
  none = λ s more is₂ sample good.
      let same = one_line line s.line rest more whole sample.whole (sym is ∙ is₂) in
      let P : List ℕ → Type 0 = λ u. IsSampleLine info.ty info.year u s.t in
      bad s.t (subst P (sym same.0) sample.meant) good;
}

-- EACH LINE IS SOMETHING OR NOTHING

header_by : (line message : List ℕ) (r : Result PayloadInfo InfoFault) → Means line message → info_of message ≡ r → ((info : PayloadInfo) × IsHeaderLine line info) ⊎ ((info : PayloadInfo) → IsHeaderLine line info → ⊥)
header_by line message (Ok info) means is = inl (info, (message, means, is))
header_by line message (Err f) means is = inr (λ info h. header_or_fault line info (head_fault.Info f) h (message, means, is))

pub header_or_not : (line : List ℕ) → HasNoNewline line → ((info : PayloadInfo) × IsHeaderLine line info) ⊎ ((info : PayloadInfo) → IsHeaderLine line info → ⊥)
header_or_not line whole =
    elim (every_line line whole) [
      | inl h ↦ header_by line h.0 (info_of h.0) h.1 refl
      | inr h ↦ inr (λ info k. header_or_fault line info (head_fault.Escape h.0) k h.1)
    ]

sample_by : (ty : PayloadType) (year : ℤ) (line message : List ℕ) (r : Result (ℕ × ℕ) EventFault) → Means line message → stamp_of ty message ≡ r → ((t : ℕ) × IsSampleLine ty year line t) ⊎ ((t : ℕ) → IsSampleLine ty year line t → ⊥)
sample_by ty year line message (Err f) means is = inr (λ t h. sample_or_fault ty year line t (line_fault.Event f) h (message, means, is))
sample_by ty year line message (Ok (secs, nano)) means is =
    let stamp : IsStamp ty line secs nano = (message, means, is) in
    elim (in_year_or_not year secs nano) [
      | inl in_year ↦ inl (moment year secs nano, record { secs = secs; nano = nano; stamp = stamp; sample_year = in_year.0; in_year = in_year.1; at = refl })
      | inr out ↦ inr (λ t h. sample_or_fault ty year line t line_fault.Time h (secs, nano, stamp, out))
    ]

pub sample_or_not : (ty : PayloadType) (year : ℤ) (line : List ℕ) → HasNoNewline line → ((t : ℕ) × IsSampleLine ty year line t) ⊎ ((t : ℕ) → IsSampleLine ty year line t → ⊥)
sample_or_not ty year line whole =
    elim (every_line line whole) [
      | inl h ↦ sample_by ty year line h.0 (stamp_of ty h.0) h.1 refl
      | inr h ↦ inr (λ t k. sample_or_fault ty year line t (line_fault.Escape h.0) k h.1)
    ]

-- LINES THAT BEGIN THE SAME BYTES

-- the samples of one list are those of the other and more
pub record GoesOn (xs ys : List Sample) (u v : List ℕ) : Type 0 where
  pub more : List Sample
  pub list : ys ≡ xs ++ more
  pub left : u ≡ lines_of more ++ v

same_sample : (s other : Sample) → s.t ≡ other.t → s.line ≡ other.line → s ≡ other
same_sample s other t line = ap (λ (n : ℕ). record { t = n; line = s.line }) t ∙ ap (λ (u : List ℕ). record { t = other.t; line = u }) line

-- Of two lists of samples whose lines begin the same bytes, one begins the other.
pub one_run : (ty : PayloadType) (year : ℤ) (xs ys : List Sample) (u v : List ℕ) → AreSamples ty year xs → AreSamples ty year ys → lines_of xs ++ u ≡ lines_of ys ++ v → GoesOn xs ys u v ⊎ GoesOn ys xs v u
one_run ty year [] ys u v h k is = inl (record { more = ys; list = refl; left = is })
one_run ty year (x ∷ xs) [] u v h k is = inr (record { more = x ∷ xs; list = refl; left = sym is })
one_run ty year (x ∷ xs) (y ∷ ys) u v h k is =
    let lines = one_line x.line y.line (lines_of xs ++ u) (lines_of ys ++ v) h.0.whole k.0.whole (sym (append_assoc x.line (10 ∷ lines_of xs) u) ∙ is ∙ append_assoc y.line (10 ∷ lines_of ys) v) in
    let P : List ℕ → Type 0 = λ line. IsSampleLine ty year line y.t in
    let same : x ≡ y = same_sample x y (one_moment ty year x.line x.t y.t h.0.meant (subst P (sym lines.0) k.0.meant)) lines.0 in
    elim (one_run ty year xs ys u v h.1 k.1 lines.1) [
      | inl g ↦ inl (record { more = g.more; list = ap (λ (l : List Sample). y ∷ l) g.list ∙ ap (λ (s : Sample). s ∷ (xs ++ g.more)) (sym same); left = g.left })
      | inr g ↦ inr (record { more = g.more; list = ap (λ (l : List Sample). x ∷ l) g.list ∙ ap (λ (s : Sample). s ∷ (ys ++ g.more)) same; left = g.left })
    ]
