-- What follows of raw texts: that of samples and one more, and that what was written of some samples is a front of the text of more.
use Rattle.std.proofs.Common.{◌≡◌, ◌≢◌, inl, inr, ℕ, ℤ, List, [], ◌∷◌, ◌++◌, Option, None, Some, refl, sym, ap, ◌∙◌, subst, append_assoc, append-nil}
use Rattle.std.specs.Prelude.{◌⊎◌, All}
use Rattle.std.specs.List.{flat_map, AllByRecursion}
use Rattle.std.proofs.lemmas.List.Concat.{flat_map-append}
use Rattle.std.proofs.lemmas.List.Elements.{All-nil, All-cons, All-push, All-head, All-contains, Contains-push, recursion_from_All, All-from_recursion}
use Rattle.std.proofs.Math.IntN.{ℤ_discrete}
use Rattle.series_model.specs.declared.sample.Sample.{Sample}
use Rattle.pb_wire.specs.declared.payload.PayloadType.{PayloadType}
use Rattle.act_model.specs.Event.{IsEvent}
use Rattle.act_model.specs.Out.{Subject}
use Rattle.pb_lines.specs.File.{lines_of}
use Rattle.pb_lines.proofs.FileLines.{lines_of-append, all_front}
use Rattle.retrieval_query.specs.Raw.{Chunk, IsChunk, HasMoment, IsOfYear, YearsDiffer, AreCut, header_text, chunk_text, chunks_text, IsNearestYear, IsRaw}
use Rattle.retrieval_query.specs.Writing.{IsText, IsOpening, IsEnding, last_year, gap}

last_view : {X : Type 0} (xs : List X) → (xs ≡ []) ⊎ ((rest : List X) × (x : X) × (xs ≡ rest ++ x ∷ []))
last_view [] = inl refl
last_view {X} (x ∷ xs) = elim (last_view xs) [ inl none ↦ inr ([], x, ap (λ (l : List X). x ∷ l) none) | inr v ↦ inr (x ∷ v.0, v.1, ap (λ (l : List X). x ∷ l) v.2) ]

All-front : {X : Type 0} (P : X → Type 0) (xs ys : List X) → All P (xs ++ ys) → All P xs
All-front P xs ys h = All-from_recursion P xs (all_front P xs ys (recursion_from_All P (xs ++ ys) h))

abbrev pub samples_in : Chunk → List Sample
samples_in c = c.samples

-- the line with its newline
abbrev pub line_of : Sample → List ℕ
line_of s = s.line ++ 10 ∷ []

-- ONE CHUNK MORE

pub chunks_push : (subject : Subject) (cs : List Chunk) (d : Chunk) → chunks_text subject (cs ++ d ∷ []) ≡ chunks_text subject cs ++ (gap (last_year cs) ++ chunk_text subject d)
chunks_push subject [] d = refl
chunks_push subject (c ∷ []) d = refl
chunks_push subject (c ∷ e ∷ cs) d =
    ap (λ (u : List ℕ). chunk_text subject c ++ 10 ∷ u) (chunks_push subject (e ∷ cs) d) ∙ sym (append_assoc (chunk_text subject c) (10 ∷ chunks_text subject (e ∷ cs)) (gap (last_year (e ∷ cs)) ++ chunk_text subject d))

pub last_push : (cs : List Chunk) (d : Chunk) → last_year (cs ++ d ∷ []) ≡ Some d.year
last_push [] d = refl
last_push (c ∷ []) d = refl
last_push (c ∷ e ∷ cs) d = last_push (e ∷ cs) d

years_push : (cs : List Chunk) (d : Chunk) → YearsDiffer cs → last_year cs ≢ Some d.year → YearsDiffer (cs ++ d ∷ [])
years_push [] d differ other = tt
years_push (c ∷ []) d differ other = (λ same. other (ap (λ (y : ℤ). Some y) same), tt)
years_push (c ∷ e ∷ cs) d differ other = (differ.0, years_push (e ∷ cs) d differ.1 other)

some_year : (y z : ℤ) → ◌≡◌ {A = Option ℤ} (Some y) (Some z) → y ≡ z
some_year y z is = cc

no_year : (y : ℤ) → ◌≡◌ {A = Option ℤ} None (Some y) → ⊥
no_year y is = cc

years_front : (cs : List Chunk) (d : Chunk) → YearsDiffer (cs ++ d ∷ []) → YearsDiffer cs × (last_year cs ≢ Some d.year)
years_front [] d h = (tt, no_year d.year)
years_front (c ∷ []) d h = (tt, λ is. h.0 (some_year c.year d.year is))
years_front (c ∷ e ∷ cs) d h = let rest = years_front (e ∷ cs) d h.1 in ((h.0, rest.0), rest.1)

-- ONE SAMPLE MORE

pushed_some : (xs : List Sample) (s : Sample) → xs ++ s ∷ [] ≢ []
pushed_some [] s = λ e. cc
pushed_some (x ∷ xs) s = λ e. cc

-- in a chunk of its own
text_begun : (subject : Subject) (samples : List Sample) (last : Option ℤ) (bytes : List ℕ) (year : ℤ) (s : Sample) → IsText subject samples last bytes → last ≢ Some year → IsOfYear year s → IsText subject (samples ++ s ∷ []) (Some year) (bytes ++ ((gap last ++ header_text subject year) ++ line_of s))
text_begun subject samples last bytes year s t other of_year =
    let d : Chunk = record { year = year; samples = s ∷ [] } in
    let M : Sample → Type 0 = λ x. HasMoment year x.t in
    let is_chunk : IsChunk d = record { some = pushed_some [] s; sample_year = of_year.sample_year; year = All-cons M s [] of_year.moment (All-nil M) } in
    record {
      chunks = t.chunks ++ d ∷ [];
      cut = record {
        all = ap (λ (l : List Sample). l ++ s ∷ []) t.cut.all ∙ sym (flat_map-append samples_in t.chunks (d ∷ []));
        each = All-push IsChunk t.chunks d t.cut.each is_chunk;
        differ = years_push t.chunks d t.cut.differ (λ same. other (t.last ∙ same));
      };
      last = sym (last_push t.chunks d);
      are = ap (λ (u : List ℕ). u ++ ((gap last ++ header_text subject year) ++ line_of s)) t.are
          ∙ ap (λ (u : List ℕ). chunks_text subject t.chunks ++ u) (append_assoc (gap last) (header_text subject year) (line_of s) ∙ ap (λ (y : Option ℤ). gap y ++ (header_text subject year ++ line_of s)) t.last)
          ∙ sym (chunks_push subject t.chunks d);
    }

-- in the last chunk
text_joined : (subject : Subject) (samples : List Sample) (last : Option ℤ) (bytes : List ℕ) (year : ℤ) (s : Sample) (front : List Chunk) (c : Chunk) (t : IsText subject samples last bytes) → t.chunks ≡ front ++ c ∷ [] → last ≡ Some year → IsOfYear year s → IsText subject (samples ++ s ∷ []) (Some year) (bytes ++ line_of s)
text_joined subject samples last bytes year s front c t is same of_year =
    let d : Chunk = record { year = c.year; samples = c.samples ++ s ∷ [] } in
    let A : List Chunk → Type 0 = λ l. All IsChunk l in
    let each : All IsChunk (front ++ c ∷ []) = subst A is t.cut.each in
    let one : IsChunk c = All-contains IsChunk (front ++ c ∷ []) c each (Contains-push front c) in
    let year_is : c.year ≡ year = some_year c.year year (sym (last_push front c) ∙ ap last_year (sym is) ∙ sym t.last ∙ same) in
    let M : Sample → Type 0 = λ x. HasMoment c.year x.t in
    let Y : ℤ → Type 0 = λ y. HasMoment y s.t in
    let is_chunk : IsChunk d = record { some = pushed_some c.samples s; sample_year = one.sample_year; year = All-push M c.samples s one.year (subst Y (sym year_is) of_year.moment) } in
    let apart = years_front front c (subst YearsDiffer is t.cut.differ) in
    let all : samples ≡ flat_map samples_in front ++ c.samples = t.cut.all ∙ ap (flat_map samples_in) is ∙ flat_map-append samples_in front (c ∷ []) ∙ ap (λ (l : List Sample). flat_map samples_in front ++ l) (append-nil c.samples) in
    let H = header_text subject c.year in
    let grown : chunk_text subject d ≡ chunk_text subject c ++ line_of s = ap (λ (u : List ℕ). H ++ u) (lines_of-append c.samples (s ∷ [])) ∙ sym (append_assoc H (lines_of c.samples) (line_of s)) in
    let B = chunks_text subject front in
    let G = gap (last_year front) in
    record {
      chunks = front ++ d ∷ [];
      cut = record {
        all = ap (λ (l : List Sample). l ++ s ∷ []) all ∙ append_assoc (flat_map samples_in front) c.samples (s ∷ []) ∙ ap (λ (l : List Sample). flat_map samples_in front ++ l) (sym (append-nil (c.samples ++ s ∷ []))) ∙ sym (flat_map-append samples_in front (d ∷ []));
        each = All-push IsChunk front d (All-front IsChunk front (c ∷ []) each) is_chunk;
        differ = years_push front d apart.0 apart.1;
      };
      last = ap (λ (y : ℤ). Some y) (sym year_is) ∙ sym (last_push front d);
      are = ap (λ (u : List ℕ). u ++ line_of s) (t.are ∙ ap (chunks_text subject) is ∙ chunks_push subject front c)
          ∙ append_assoc B (G ++ chunk_text subject c) (line_of s)
          ∙ ap (λ (u : List ℕ). B ++ u) (append_assoc G (chunk_text subject c) (line_of s) ∙ ap (λ (u : List ℕ). G ++ u) (sym grown))
          ∙ sym (chunks_push subject front d);
    }

no_chunk_ends : (chunks : List Chunk) (last : Option ℤ) (year : ℤ) → chunks ≡ [] → last ≡ last_year chunks → last ≡ Some year → ⊥
no_chunk_ends chunks last year none is same = no_year year (sym (ap last_year none) ∙ sym is ∙ same)

-- the text of one sample more
pub text_more : (subject : Subject) (samples : List Sample) (last : Option ℤ) (bytes : List ℕ) (year : ℤ) (s : Sample) (piece : List ℕ) → IsText subject samples last bytes → IsOpening subject last year piece → IsOfYear year s → IsText subject (samples ++ s ∷ []) (Some year) (bytes ++ (piece ++ line_of s))
text_more subject samples last bytes year s piece t (inr opening) of_year =
    let P : List ℕ → Type 0 = λ p. IsText subject (samples ++ s ∷ []) (Some year) (bytes ++ (p ++ line_of s)) in
    subst P (sym opening.1) (text_begun subject samples last bytes year s t opening.0 of_year)
text_more subject samples last bytes year s piece t (inl opening) of_year =
    let P : List ℕ → Type 0 = λ p. IsText subject (samples ++ s ∷ []) (Some year) (bytes ++ (p ++ line_of s)) in
    elim (last_view t.chunks) [
      | inl none ↦ absurd (no_chunk_ends t.chunks last year none t.last opening.0)
      | inr v ↦ subst P (sym opening.1) (text_joined subject samples last bytes year s v.0 v.1 t v.2 opening.0 of_year)
    ]

pub text_none : (subject : Subject) → IsText subject [] None []
text_none subject = record { chunks = []; cut = record { all = refl; each = All-nil IsChunk; differ = tt }; last = refl; are = refl }

-- MORE SAMPLES

-- the year of an event
pub of_year_of : (ty : PayloadType) (s : Sample) (e : IsEvent ty s) → IsOfYear e.year s
of_year_of ty s e = record { sample_year = e.sample_year; moment = record { secs = e.secs; nano = e.nano; in_year = e.in_year; at = e.at } }

-- there is one
pub opening_of : (subject : Subject) (last : Option ℤ) (year : ℤ) → (piece : List ℕ) × IsOpening subject last year piece
opening_of subject None year = (header_text subject year, inr (no_year year, refl))
opening_of subject (Some y) year = elim (ℤ_discrete y year) [
  | yes is ↦ ([], inl (ap (λ (z : ℤ). Some z) is, refl))
  | no other ↦ (10 ∷ header_text subject year, inr (λ is. other (some_year y year is), refl))
]

text_goes_on : (ty : PayloadType) (subject : Subject) (given : List Sample) (last : Option ℤ) (bytes : List ℕ) (more : List Sample) → IsText subject given last bytes → AllByRecursion (IsEvent ty) more → (rest : List ℕ) × (end : Option ℤ) × IsText subject (given ++ more) end (bytes ++ rest)
text_goes_on ty subject given last bytes [] t years =
    let L : List Sample → Type 0 = λ l. IsText subject l last (bytes ++ []) in
    let B : List ℕ → Type 0 = λ b. IsText subject given last b in
    ([], last, subst L (sym (append-nil given)) (subst B (sym (append-nil bytes)) t))
text_goes_on ty subject given last bytes (s ∷ more) t years =
    let year = years.0.year in
    let opening = opening_of subject last year in
    let piece = opening.0 ++ line_of s in
    let step = text_more subject given last bytes year s opening.0 t opening.1 (of_year_of ty s years.0) in
    let later = text_goes_on ty subject (given ++ s ∷ []) (Some year) (bytes ++ piece) more step years.1 in
    let L : List Sample → Type 0 = λ l. IsText subject l later.1 (bytes ++ (piece ++ later.0)) in
    let B : List ℕ → Type 0 = λ b. IsText subject ((given ++ s ∷ []) ++ more) later.1 b in
    (piece ++ later.0, later.1, subst L (append_assoc given (s ∷ []) more) (subst B (append_assoc bytes piece later.0) later.2))

-- THE RAW TEXT

first_is_some : (c : Chunk) (cs : List Chunk) → IsChunk c → [] ≡ flat_map samples_in (c ∷ cs) → ⊥
first_is_some c cs one is = empty c.samples one.some is
  where
    empty : (xs : List Sample) → xs ≢ [] → [] ≡ xs ++ flat_map samples_in cs → ⊥
    empty [] some is = some refl
    empty (x ∷ xs) some is = cc

no_chunks : (chunks : List Chunk) → AreCut [] chunks → chunks ≡ []
no_chunks [] cut = refl
no_chunks (c ∷ cs) cut = absurd (first_is_some c cs (All-head IsChunk c cs cut.each) cut.all)

raw_some : (subject : Subject) (samples : List Sample) (s : Sample) (rest : List Sample) (last : Option ℤ) (bytes : List ℕ) → samples ≡ s ∷ rest → IsText subject samples last bytes → IsRaw subject samples bytes
raw_some subject samples s rest last bytes is t =
    let P : List Sample → Type 0 = λ l. IsText subject l last bytes → IsRaw subject l bytes in
    subst P (sym is) (λ u. record { chunks = u.chunks; cut = u.cut; is = u.are }) t

-- nothing was given, and so nothing put
nothing_put : (subject : Subject) (last : Option ℤ) (bytes : List ℕ) → IsText subject [] last bytes → (bytes ≡ []) × (last ≡ None)
nothing_put subject last bytes t =
    let none = no_chunks t.chunks t.cut in (t.are ∙ ap (chunks_text subject) none, t.last ∙ ap last_year none)

header_alone : (subject : Subject) (nearest : ℤ) (bytes piece : List ℕ) → bytes ≡ [] → piece ≡ header_text subject nearest → IsNearestYear nearest subject.query.from → IsRaw subject [] (bytes ++ piece)
header_alone subject nearest bytes piece none is near = record { year = nearest; nearest = near; is = ap (λ (u : List ℕ). u ++ piece) none ∙ is }

-- whatever events follow, the text of those that were given is a front of the raw text of all
pub raw_front : (ty : PayloadType) (subject : Subject) (nearest : ℤ) (given more : List Sample) (last : Option ℤ) (bytes : List ℕ) → IsText subject given last bytes → AllByRecursion (IsEvent ty) more → (last ≡ None → IsNearestYear nearest subject.query.from) → (rest : List ℕ) × IsRaw subject (given ++ more) (bytes ++ rest)
raw_front ty subject nearest [] [] last bytes t years near =
    let none = nothing_put subject last bytes t in
    (header_text subject nearest, header_alone subject nearest bytes (header_text subject nearest) none.0 refl (near none.1))
raw_front ty subject nearest [] (s ∷ more) last bytes t years near =
    let all = text_goes_on ty subject [] last bytes (s ∷ more) t years in
    (all.0, raw_some subject (s ∷ more) s more all.1 (bytes ++ all.0) refl all.2)
raw_front ty subject nearest (g ∷ given) more last bytes t years near =
    let all = text_goes_on ty subject (g ∷ given) last bytes more t years in
    (all.0, raw_some subject (g ∷ (given ++ more)) g (given ++ more) all.1 (bytes ++ all.0) refl all.2)

-- where a year was begun, the text is whole
pub raw_begun : (subject : Subject) (given : List Sample) (last : Option ℤ) (bytes : List ℕ) → IsText subject given last bytes → last ≢ None → IsRaw subject given bytes
raw_begun subject [] last bytes t begun = absurd (begun (nothing_put subject last bytes t).1)
raw_begun subject (g ∷ given) last bytes t begun = raw_some subject (g ∷ given) g given last bytes refl t

no_last : (chunks front : List Chunk) (c : Chunk) → chunks ≡ front ++ c ∷ [] → None ≡ last_year chunks → ⊥
no_last chunks front c is none = no_year c.year (none ∙ ap last_year is ∙ last_push front c)

nothing_given : (subject : Subject) (given : List Sample) (bytes : List ℕ) → IsText subject given None bytes → (given ≡ []) × (bytes ≡ [])
nothing_given subject given bytes t = elim (last_view t.chunks) [
  | inl none ↦ (t.cut.all ∙ ap (flat_map samples_in) none, t.are ∙ ap (chunks_text subject) none)
  | inr v ↦ absurd (no_last t.chunks v.0 v.1 v.2 t.last)
]

some_begun : {y : ℤ} → Some y ≢ None
some_begun = λ is. cc

-- with its ending the text is whole
pub raw_ended : (subject : Subject) (given : List Sample) (last : Option ℤ) (bytes piece : List ℕ) → IsText subject given last bytes → IsEnding subject last piece → IsRaw subject given (bytes ++ piece)
raw_ended subject given (Some year) bytes piece t is =
    let P : List ℕ → Type 0 = λ l. IsRaw subject given l in
    subst P (sym (append-nil bytes) ∙ ap (λ (u : List ℕ). bytes ++ u) (sym is)) (raw_begun subject given (Some year) bytes t some_begun)
raw_ended subject given None bytes piece t alone =
    let none = nothing_given subject given bytes t in
    let P : List Sample → Type 0 = λ l. IsRaw subject l (bytes ++ piece) in
    subst P (sym none.0) (record { year = alone.year; nearest = alone.nearest; is = ap (λ (u : List ℕ). u ++ piece) none.1 ∙ alone.is })
