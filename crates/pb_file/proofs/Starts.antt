-- Where lines begin, and where a search may end.
use Rattle.std.proofs.Common.{◌≡◌, ℕ, ◌+◌, ◌-◌, ◌<◌, ◌≤◌, inl, inr, List, [], ◌∷◌, ◌++◌, Option, None, Some, length, take, drop, arith, refl, sym, ap, ◌∙◌, subst, append_assoc, append-nil}
use Rattle.std.specs.Prelude.{IfSome}
use Rattle.std.proofs.lemmas.List.{length-append, length-take-le, take-append-drop, take-take, take_at}
use Rattle.std.proofs.lemmas.Bool.{cases_lt}
use Rattle.series_model.specs.declared.sample.Sample.{Sample}
use Rattle.pb_messages.specs.declared.info.PayloadInfo.{PayloadInfo}
use Rattle.pb_file.specs.declared.search.FoundLine.{FoundLine}
use Rattle.pb_lines.specs.File.{IsFile, IsBadAt, HasNoHeader, lines_of}
use Rattle.pb_file.specs.Walk.{Walk, Front, HasWalked}
use Rattle.pb_file.specs.Skip.{HasHeader, BeginsBehind}
use Rattle.pb_file.specs.Search.{BeginsWithHeader, HasSampleAt, IsLineStart, MayBegin}
use Rattle.pb_file.specs.Parting.{BeginsFrom, IsLineAt}
use Rattle.pb_file.specs.declared.search.Parted.{Parted}
use Rattle.pb_lines.proofs.FileMeaning.{begins, begin_alike}

pub behind_start : (bytes : List ℕ) (first place at : ℕ) → place ≤ length bytes → BeginsBehind bytes place at → IsLineStart bytes first at
behind_start bytes first place at within (inr h) = inr (inl h.1)
behind_start bytes first place at within (inl h) =
    let front = take place bytes ++ h.0 in
    let all : bytes ≡ (front ++ 10 ∷ []) ++ h.1 =
    sym (take-append-drop place bytes)
    ∙ ap (λ (u : List ℕ). take place bytes ++ u) h.3
    ∙ sym (append_assoc (take place bytes) h.0 (10 ∷ h.1))
    ∙ sym (append_assoc front (10 ∷ []) h.1) in
    let size : length (front ++ 10 ∷ []) ≡ at = omega (arith, h.4, length-append front (10 ∷ []), length-append (take place bytes) h.0, length-take-le place bytes within) in
    inr (inr (front, ap (λ (u : List ℕ). take at u) all ∙ take_at (front ++ 10 ∷ []) h.1 at size))

pub from_start : (bytes : List ℕ) (first low middle at : ℕ) → middle ≤ length bytes → IsLineStart bytes first low → BeginsFrom bytes low middle at → IsLineStart bytes first at
from_start bytes first low middle at within start (inl h) = let P : ℕ → Type 0 = λ n. IsLineStart bytes first n in subst P (sym h.1) start
from_start bytes first low middle at within start (inr h) = behind_start bytes first (middle - 1) at (omega (arith, within)) h.1

pub end_start : (bytes : List ℕ) (first : ℕ) (info : PayloadInfo) (f : FoundLine) → f.at ≤ length bytes → IsLineAt info bytes f → IsLineStart bytes first f.end
end_start bytes first info f within h = behind_start bytes first f.at f.end within (inl (h.sample.line, h.rest, h.is.whole, h.text, h.end))

-- a bad line at the front is a header's
no_file_of_none : (bytes head : List ℕ) (info : PayloadInfo) (samples : List Sample) (at : ℕ) → at ≡ 0 → IsFile (take at bytes) head info samples → ⊥
no_file_of_none bytes head info samples at zero file =
    let none : take at bytes ≡ [] = ap (λ (n : ℕ). take n bytes) zero in
    omega (arith, ap length (sym none ∙ file.text), length-append head (10 ∷ lines_of samples))

pub no_header_there : (bytes : List ℕ) (at : ℕ) → at ≡ 0 → IsBadAt bytes at → HasNoHeader bytes
no_header_there bytes at zero (inl h) = h.1
no_header_there bytes at zero (inr h) = absurd (no_file_of_none bytes h.head h.info h.samples at zero h.front)

within_len : (w : Walk) (bytes : List ℕ) (len : ℕ) (f : Front) → w.len ≡ len → HasWalked w bytes (Some f) → IsFile (take w.place (take len bytes)) f.head f.info f.samples
within_len w bytes len f size h = let P : List ℕ → Type 0 = λ b. IsFile b f.head f.info f.samples in subst P (sym (take-take w.place len bytes (omega (arith, h.within, size)))) h.read.0

-- the header that was read is that of the file
pub header_of : (w : Walk) (bytes : List ℕ) (len : ℕ) (f : Front) (head : List ℕ) (info : PayloadInfo) (samples : List Sample) → w.len ≡ len → HasWalked w bytes (Some f) → IsFile (take len bytes) head info samples → HasHeader w bytes head info
header_of w bytes len f head info samples size h file =
    let all = take len bytes in
    let alike = begin_alike (take w.place all) all (drop w.place all) [] f.head head f.info info f.samples samples (within_len w bytes len f size h) file (take-append-drop w.place all ∙ sym (append-nil all)) in
    record { info_is = h.read.1 ∙ ap (λ (i : PayloadInfo). Some i) alike.infos; whole = file.whole; header = file.header; window = h.window }

-- and of bytes that begin with it
pub header_at : (w : Walk) (bytes : List ℕ) (len : ℕ) (f : Front) (head : List ℕ) (info : PayloadInfo) → w.len ≡ len → HasWalked w bytes (Some f) → BeginsWithHeader (take len bytes) head info → HasHeader w bytes head info
header_at w bytes len f head info size h b =
    let all = take len bytes in
    let file = within_len w bytes len f size h in
    let line = begins head info b.whole b.header in
    let alike = begin_alike (take w.place all) (head ++ 10 ∷ []) (drop w.place all) b.rest f.head head f.info info f.samples [] file line (take-append-drop w.place all ∙ b.text ∙ sym (append_assoc head (10 ∷ []) b.rest)) in
    record { info_is = h.read.1 ∙ ap (λ (i : PayloadInfo). Some i) alike.infos; whole = b.whole; header = b.header; window = h.window }

-- a line that was found is that of a sample
pub sample_there : (info : PayloadInfo) (bytes : List ℕ) (f : FoundLine) → IsLineAt info bytes f → HasSampleAt info bytes f.at
sample_there info bytes f h = record { sample = h.sample; rest = h.rest; is = h.is; text = h.text }

-- so it is of both places of a search that stopped
pub stops_so : (P Q : ℕ → Type 0) → ((n : ℕ) → Q n → P n) → (first : ℕ) (last : Option ℕ) (p : Parted) → p.last ≡ last → IfSome last (λ at. p.next ≡ at) → (last ≡ None → p.next ≡ first) → P first → IfSome last Q → P p.next × IfSome p.last Q
stops_so P Q weaker first None p same some none here is = (subst P (sym (none refl)) here, subst (λ (o : Option ℕ). IfSome o Q) (sym same) tt)
stops_so P Q weaker first (Some at) p same some none here is = (subst P (sym some) (weaker at is), subst (λ (o : Option ℕ). IfSome o Q) (sym same) is)

-- where the samples are said to begin, or the end
pub low_begins : (info : PayloadInfo) (bytes : List ℕ) (first len low : ℕ) → len ≡ length bytes → low ≤ first → (low < first → low ≡ len) → MayBegin info bytes first low
low_begins info bytes first len low size below or_end =
    elim (cases_lt low first) [
      | inl less ↦ inr (inl (or_end less ∙ size))
      | inr same ↦ inl (omega (arith, below, same))
    ]

pub low_start : (bytes : List ℕ) (first len low : ℕ) → len ≡ length bytes → low ≤ first → (low < first → low ≡ len) → IsLineStart bytes first low
low_start bytes first len low size below or_end =
    elim (cases_lt low first) [
      | inl less ↦ inr (inl (or_end less ∙ size))
      | inr same ↦ inl (omega (arith, below, same))
    ]

pub low_first : (bytes head : List ℕ) (info : PayloadInfo) (samples : List Sample) (first len low : ℕ) → IsFile bytes head info samples → len ≡ length bytes → first ≡ length head + 1 → (first ≤ len → low ≡ first) → low ≡ length head + 1
low_first bytes head info samples first len low file size is at = at (omega (arith, is, size, ap length file.text, length-append head (10 ∷ lines_of samples))) ∙ is
