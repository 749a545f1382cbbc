-- Each list of bytes is one stream of items, and no other.
use Rattle.std.proofs.Common.{◌≡◌, ◌≢◌, ℕ, ◌+◌, ◌⊎◌, inl, inr, List, [], ◌∷◌, All, Option, Some, None, Result, Ok, Err, ℤ, pos, negsuc, length, arith, refl}
use Rattle.std.specs.Prelude.{◌*◌, if◌then◌else◌}
use Rattle.std.proofs.lemmas.Int.{ints}
use Rattle.std.proofs.lemmas.Bool.{cases_lt}
use Rattle.line_escape.specs.Unescaping.{Means}
use Rattle.line_escape.proofs.EscapingLemmas.{every_line}
use Rattle.pb_messages.specs.Event.{stamp_of}
use Rattle.pb_wire.specs.declared.fault.FieldFault.{FieldFault}
use Rattle.arch_time.specs.YearTime.{moment, IsInYear, IsSampleYear}
use Rattle.arch_time.specs.Calendar.{days_in_year}
use Rattle.pb_messages.specs.declared.info.PayloadInfo.{PayloadInfo}
use Rattle.pb_messages.specs.declared.info_error.InfoFault.{InfoFault}
use Rattle.pb_messages.specs.Info.{info_of}
use Rattle.edge_io.specs.declared.lines.LineRead.{LineRead}
use Rattle.edge_io.specs.declared.lines.LineRead.TheVariants.{Line, End, Torn, TooLong, InputTooLong, SourceFault, Memory}
use Rattle.pb_lines.specs.declared.fault.LineFault.TheVariants as line_fault
use Rattle.pb_lines.specs.declared.fault.HeadFault.TheVariants as head_fault
use Rattle.pb_lines.specs.declared.fault.ChunkFault.{ChunkFault}
use Rattle.pb_lines.specs.declared.fault.ChunkFault.TheVariants as fault
use Rattle.pb_lines.specs.Sample.{IsStamp}
use Rattle.pb_lines.specs.Stream.{Item, header, sample, chunk_end, Section, Stop, IsStream, IsLines, IsItems, IsEnding, Skips, Gives, Fails, within, between}
use Rattle.pb_lines.proofs.Lines.{cut_of}

-- EACH LINE COMES TO SOMETHING

-- what a line comes to in a section
abbrev pub Outcome : Section → List ℕ → Type 0
Outcome s line = Skips s line ⊎ (((item : Item) × (behind : Section) × Gives s line item behind) ⊎ ((f : ChunkFault) × Fails s line f))

pub in_year_or_not : (y : ℤ) (s n : ℕ) → (IsSampleYear y × IsInYear y s n) ⊎ (IsSampleYear y × IsInYear y s n → ⊥)
in_year_or_not (negsuc m) s n = inr (λ h. omega (arith, ints, h.0.0))
in_year_or_not (pos m) s n =
    elim (cases_lt m 1991) [
      | inl early ↦ inr (λ h. omega (arith, ints, h.0.0))
      | inr from ↦ elim (cases_lt 2499 m) [
        | inl late ↦ inr (λ h. omega (arith, ints, h.0.1))
        | inr to ↦ elim (cases_lt s (days_in_year m * 86400)) [
          | inr past ↦ inr (λ h. omega (arith, h.1.second))
          | inl second ↦ elim (cases_lt n 1000000000) [
            | inr past ↦ inr (λ h. omega (arith, h.1.nano))
            | inl nano ↦ inl ((omega (arith, ints), omega (arith, ints)), record { second = second; nano = nano })
          ]
        ]
      ]
    ]

header_outcome : (s : Section) (line message : List ℕ) (r : Result PayloadInfo InfoFault) → s.chunk ≡ None → line ≢ [] → Means line message → info_of message ≡ r → Outcome s line
header_outcome s line message (Ok info) outside some means is = inr (inl (header info line, within info, (outside, some, (message, means, is), refl, refl)))
header_outcome s line message (Err f) outside some means is = inr (inr (fault.BadHeader (head_fault.Info f), (outside, some, (message, means, is))))

sample_outcome : (s : Section) (info : PayloadInfo) (line message : List ℕ) (r : Result (ℕ × ℕ) FieldFault) → s.chunk ≡ Some info → line ≢ [] → Means line message → stamp_of info.ty message ≡ r → Outcome s line
sample_outcome s info line message (Err f) inside some means is = inr (inr (fault.BadLine (line_fault.Event f), (info, inside, some, (message, means, is))))
sample_outcome s info line message (Ok (secs, nano)) inside some means is =
    let stamp : IsStamp info.ty line secs nano = (message, means, is) in
    elim (in_year_or_not info.year secs nano) [
      | inl in_year ↦ inr (inl (sample (record { t = moment info.year secs nano; line = line }), s, (info, inside, some, record { secs = secs; nano = nano; stamp = stamp; sample_year = in_year.0; in_year = in_year.1; at = refl }, refl, refl)))
      | inr out ↦ inr (inr (fault.BadLine line_fault.Time, (info, inside, some, (secs, nano, stamp, out))))
    ]

outcome_in : (s : Section) (line : List ℕ) (o : Option PayloadInfo) → s.chunk ≡ o → All (λ x. x ≢ 10) line → Outcome s line
outcome_in s [] None is whole = inl (is, refl)
outcome_in s [] (Some info) is whole = inr (inl (chunk_end, between, (info, is, refl, refl)))
outcome_in s (x ∷ u) None is whole =
    elim (every_line (x ∷ u) whole) [
      | inl h ↦ header_outcome s (x ∷ u) h.0 (info_of h.0) is (λ e. cc) h.1 refl
      | inr h ↦ inr (inr (fault.BadHeader (head_fault.Escape h.0), (is, (λ e. cc), h.1)))
    ]
outcome_in s (x ∷ u) (Some info) is whole =
    elim (every_line (x ∷ u) whole) [
      | inl h ↦ sample_outcome s info (x ∷ u) h.0 (stamp_of info.ty h.0) is (λ e. cc) h.1 refl
      | inr h ↦ inr (inr (fault.BadLine (line_fault.Escape h.0), (info, is, (λ e. cc), h.1)))
    ]

-- EACH STREAM HAS ITEMS

-- the items of some lines, and where they stop
abbrev pub Read : Section → ℕ → List (List ℕ) → LineRead → Type 0
Read s n lines ending = (items : List Item) × (stop : Stop) × IsItems s n lines ending items stop

ending_read : (s : Section) (n p : ℕ) (bytes : List ℕ) (ending : LineRead) (o : Option PayloadInfo) → s.chunk ≡ o → IsEnding p bytes ending → Read s n [] ending
ending_read s n p bytes End (Some info) is h = (chunk_end ∷ [], None, inl (info, is, refl, refl))
ending_read s n p bytes End None is h = ([], (if s.begun then None else Some (n + 1, fault.NoHeader)), inr (is, refl, refl))
ending_read s n p bytes Torn o is h = ([], Some (n + 1, fault.Torn), (refl, refl))
ending_read s n p bytes TooLong o is h = ([], Some (n + 1, fault.LineTooLong), (refl, refl))
ending_read s n p bytes InputTooLong o is h = ([], Some (n + 1, fault.InputTooLong), (refl, refl))
ending_read s n p bytes Line o is h = absurd h
ending_read s n p bytes SourceFault o is h = absurd h
ending_read s n p bytes Memory o is h = absurd h

lines_read : (lines : List (List ℕ)) (s : Section) (n p : ℕ) (bytes : List ℕ) (ending : LineRead) → IsLines p bytes lines ending → Read s n lines ending
lines_read [] s n p bytes ending cut = ending_read s n p bytes ending s.chunk refl cut
lines_read (line ∷ lines) s n p bytes ending cut =
    elim (outcome_in s line s.chunk refl cut.2) [
      | inl skips ↦ (let rest = lines_read lines s (n + 1) (p + length line + 1) cut.0 ending cut.5 in (rest.0, rest.1, inl (skips, rest.2)))
      | inr h ↦ elim h [
        | inl gives ↦ (let rest = lines_read lines gives.1 (n + 1) (p + length line + 1) cut.0 ending cut.5 in (gives.0 ∷ rest.0, rest.1, inr (inl (gives.0, gives.1, rest.0, gives.2, refl, rest.2))))
        | inr fails ↦ ([], Some (n + 1, fails.0), inr (inr (fails.0, fails.1, refl, refl)))
      ]
    ]

pub every_stream : (s : Section) (n p : ℕ) (bytes : List ℕ) → (items : List Item) × (stop : Stop) × IsStream s n p bytes items stop
every_stream s n p bytes =
    let cut = cut_of p bytes in
    let read = lines_read cut.lines s n p bytes cut.ending cut.cut in
    (read.0, read.1, record { lines = cut.lines; ending = cut.ending; cut = cut.cut; read = read.2 })
