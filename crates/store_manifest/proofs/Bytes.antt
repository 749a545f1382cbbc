-- The bytes of a change, read from the front.
use Rattle.std.proofs.Common.{◌≡◌, ℕ, ◌*◌, ◌<◌, ◌≤◌, ◌^◌, List, ◌∷◌, ◌++◌, length, sym, ◌∙◌, ap, arith, append_assoc, length-append}
use Rattle.std.proofs.lemmas.Nat.{from_le_bytes-to_le_bytes_4, from_le_bytes-to_le_bytes_8}
use Rattle.std.specs.Int.{from_le_bytes, to_le_bytes, w32, w64}
use Rattle.partition_names.specs.declared.granularity.Granularity.{Granularity}
use Rattle.partition_names.specs.declared.part.Part.{Part}
use Rattle.partition_names.specs.Part.{IsPart, HoldsMoment}
use Rattle.partition_names.proofs.PartLemmas.{one_part, within}
use Rattle.store_manifest.specs.declared.entry.Entry.{Entry}
use Rattle.store_manifest.specs.declared.entry.Change.{Change}
use Rattle.store_manifest.specs.declared.entry.Change.TheVariants.{Set, Drop}
use Rattle.store_manifest.specs.Batches.{members_of}
use Rattle.store_manifest.specs.Numbers.{IsSized}
use Rattle.store_manifest.specs.Reading.{IsFront}
use Rattle.gate_journal.proofs.Meaning.{split_same}

pub length_32 : (n : ℕ) → length (to_le_bytes w32 n) ≡ 4
length_32 n = omega arith

pub length_64 : (n : ℕ) → length (to_le_bytes w64 n) ≡ 8
length_64 n = omega arith

-- bytes begin with one number of a width
pub split_32 : (m n : ℕ) (x y : List ℕ) → m < 2 ^ 32 → n < 2 ^ 32 → to_le_bytes w32 m ++ x ≡ to_le_bytes w32 n ++ y → (m ≡ n) × (x ≡ y)
split_32 m n x y small_m small_n same =
    let parts = split_same (to_le_bytes w32 m) (to_le_bytes w32 n) x y (length_32 m ∙ sym (length_32 n)) same in
    (sym (from_le_bytes-to_le_bytes_4 m small_m) ∙ ap (λ (l : List ℕ). from_le_bytes w32 l) parts.0 ∙ from_le_bytes-to_le_bytes_4 n small_n, parts.1)

pub split_64 : (m n : ℕ) (x y : List ℕ) → m < 2 ^ 64 → n < 2 ^ 64 → to_le_bytes w64 m ++ x ≡ to_le_bytes w64 n ++ y → (m ≡ n) × (x ≡ y)
split_64 m n x y small_m small_n same =
    let parts = split_same (to_le_bytes w64 m) (to_le_bytes w64 n) x y (length_64 m ∙ sym (length_64 n)) same in
    (sym (from_le_bytes-to_le_bytes_8 m small_m) ∙ ap (λ (l : List ℕ). from_le_bytes w64 l) parts.0 ∙ from_le_bytes-to_le_bytes_8 n small_n, parts.1)

-- the members one after another
pub members_in_row : (e : Entry) (x : List ℕ) → members_of e ++ x
    ≡ to_le_bytes w32 e.series ++ (to_le_bytes w64 e.part.start ++ (to_le_bytes w64 e.len ++ (to_le_bytes w32 e.head_len ++ (to_le_bytes w64 e.first ++ (to_le_bytes w64 e.last ++ (to_le_bytes w64 e.count ++ x))))))
unfolding members_of
members_in_row e x = simp append_assoc

pub length_members : (e : Entry) → length (members_of e) ≡ 48
unfolding members_of
length_members e = omega arith

start_fits : (g : Granularity) (p : Part) → IsPart g p → p.start < 2 ^ 64
start_fits g p is = let span = within g p is in omega (arith, span)

-- of one granularity no two partitions begin together
pub one_start : (g : Granularity) (p q : Part) → IsPart g p → IsPart g q → p.start ≡ q.start → p ≡ q
one_start g p q one two same =
    let span = within g p one in
    let other = within g q two in
    one_part g p q p.start one two (omega arith, span.1) (omega (arith, same), omega (arith, same, other.1))

same_entry : (e d : Entry) → e.series ≡ d.series → e.part ≡ d.part → e.len ≡ d.len → e.head_len ≡ d.head_len → e.first ≡ d.first → e.last ≡ d.last → e.count ≡ d.count → e ≡ d
same_entry e d series part len head first last count =
    let of : ℕ → Part → ℕ → ℕ → ℕ → ℕ → ℕ → Entry = λ s p l h f a n. record { series = s; part = p; len = l; head_len = h; first = f; last = a; count = n } in
    ap (λ (s : ℕ). of s e.part e.len e.head_len e.first e.last e.count) series
    ∙ ap (λ (p : Part). of d.series p e.len e.head_len e.first e.last e.count) part
    ∙ ap (λ (n : ℕ). of d.series d.part n e.head_len e.first e.last e.count) len
    ∙ ap (λ (n : ℕ). of d.series d.part d.len n e.first e.last e.count) head
    ∙ ap (λ (n : ℕ). of d.series d.part d.len d.head_len n e.last e.count) first
    ∙ ap (λ (n : ℕ). of d.series d.part d.len d.head_len d.first n e.count) last
    ∙ ap (λ (n : ℕ). of d.series d.part d.len d.head_len d.first d.last n) count

one_members : (g : Granularity) (e d : Entry) (x y : List ℕ) → IsSized e → IsSized d → IsPart g e.part → IsPart g d.part → members_of e ++ x ≡ members_of d ++ y → (e ≡ d) × (x ≡ y)
one_members g e d x y sized_e sized_d part_e part_d same =
    let series = split_32 e.series d.series _ _ sized_e.series sized_d.series (sym (members_in_row e x) ∙ same ∙ members_in_row d y) in
    let start = split_64 e.part.start d.part.start _ _ (start_fits g e.part part_e) (start_fits g d.part part_d) series.1 in
    let len = split_64 e.len d.len _ _ sized_e.len sized_d.len start.1 in
    let head = split_32 e.head_len d.head_len _ _ sized_e.head_len sized_d.head_len len.1 in
    let first = split_64 e.first d.first _ _ sized_e.first sized_d.first head.1 in
    let last = split_64 e.last d.last _ _ sized_e.last sized_d.last first.1 in
    let count = split_64 e.count d.count _ _ sized_e.count sized_d.count last.1 in
    (same_entry e d series.0 (one_start g e.part d.part part_e part_d start.0) len.0 head.0 first.0 last.0 count.0, count.1)

one_place : (s t u v : ℕ) (x y : List ℕ) → s < 2 ^ 32 → t < 2 ^ 64 → u < 2 ^ 32 → v < 2 ^ 64 → (to_le_bytes w32 s ++ to_le_bytes w64 t) ++ x ≡ (to_le_bytes w32 u ++ to_le_bytes w64 v) ++ y → (s ≡ u) × (t ≡ v) × (x ≡ y)
one_place s t u v x y fits_s fits_t fits_u fits_v same =
    let series = split_32 s u _ _ fits_s fits_u (sym (append_assoc (to_le_bytes w32 s) (to_le_bytes w64 t) x) ∙ same ∙ append_assoc (to_le_bytes w32 u) (to_le_bytes w64 v) y) in
    let start = split_64 t v _ _ fits_t fits_v series.1 in
    (series.0, start.0, start.1)

-- bytes begin with one change at most
pub one_front : (g : Granularity) (bytes : List ℕ) (c d : Change) (x y : List ℕ) → IsFront g bytes c x → IsFront g bytes d y → (c ≡ d) × (x ≡ y)
one_front g bytes (Set e) (Set d) x y one two =
    let both : 2 ∷ (members_of e ++ x) ≡ 2 ∷ (members_of d ++ y) = sym one.split ∙ two.split in
    let same = one_members g e d x y one.sizes two.sizes one.part two.part (cc both) in
    (ap (λ (z : Entry). Set z) same.0, same.1)
one_front g bytes (Drop s t) (Drop u v) x y one two =
    let both : 3 ∷ ((to_le_bytes w32 s ++ to_le_bytes w64 t) ++ x) ≡ 3 ∷ ((to_le_bytes w32 u ++ to_le_bytes w64 v) ++ y) = sym one.split ∙ two.split in
    let same = one_place s t u v x y one.sizes.0 one.sizes.1 two.sizes.0 two.sizes.1 (cc both) in
    (ap (λ (n : ℕ). Drop n t) same.0 ∙ ap (λ (n : ℕ). Drop u n) same.1, same.2)
one_front g bytes (Set e) (Drop u v) x y one two =
    let both : 2 ∷ (members_of e ++ x) ≡ 3 ∷ ((to_le_bytes w32 u ++ to_le_bytes w64 v) ++ y) = sym one.split ∙ two.split in absurd (cc both)
one_front g bytes (Drop s t) (Set d) x y one two =
    let both : 3 ∷ ((to_le_bytes w32 s ++ to_le_bytes w64 t) ++ x) ≡ 2 ∷ (members_of d ++ y) = sym one.split ∙ two.split in absurd (cc both)

-- no entry lies wholly in fewer bytes
pub no_short_set : (g : Granularity) (bytes : List ℕ) (c : Change) (rest : List ℕ) → length bytes < 48 → IsFront g (2 ∷ bytes) c rest → ⊥
no_short_set g bytes (Set e) rest short front =
    let is : 2 ∷ bytes ≡ 2 ∷ (members_of e ++ rest) = front.split in
    omega (arith, ap length is, length-append (members_of e) rest, length_members e)
no_short_set g bytes (Drop s t) rest short front = let is : 2 ∷ bytes ≡ 3 ∷ ((to_le_bytes w32 s ++ to_le_bytes w64 t) ++ rest) = front.split in cc is

-- and none has a start at which no partition begins
pub no_part : (g : Granularity) (bytes one two : List ℕ) (series start : ℕ) → series < 2 ^ 32 → start < 2 ^ 64 → bytes ≡ to_le_bytes w32 series ++ one → one ≡ to_le_bytes w64 start ++ two
    → ((part : Part) → IsPart g part → part.start ≡ start → ⊥) → (c : Change) (rest : List ℕ) → IsFront g (2 ∷ bytes) c rest → ⊥
no_part g bytes one two series start fits_series fits_start is_one is_two none (Set e) rest front =
    let is : 2 ∷ bytes ≡ 2 ∷ (members_of e ++ rest) = front.split in
    let same : bytes ≡ members_of e ++ rest = cc is in
    let first = split_32 series e.series _ _ fits_series front.sizes.series (sym is_one ∙ same ∙ members_in_row e rest) in
    let second = split_64 start e.part.start _ _ fits_start (start_fits g e.part front.part) (sym is_two ∙ first.1) in
    none e.part front.part (sym second.0)
no_part g bytes one two series start fits_series fits_start is_one is_two none (Drop s t) rest front = let is : 2 ∷ bytes ≡ 3 ∷ ((to_le_bytes w32 s ++ to_le_bytes w64 t) ++ rest) = front.split in cc is

-- the members that were read
pub read_members : (e : Entry) (b b1 b2 b3 b4 b5 b6 b7 : List ℕ) → b ≡ to_le_bytes w32 e.series ++ b1 → b1 ≡ to_le_bytes w64 e.part.start ++ b2 → b2 ≡ to_le_bytes w64 e.len ++ b3 → b3 ≡ to_le_bytes w32 e.head_len ++ b4
    → b4 ≡ to_le_bytes w64 e.first ++ b5 → b5 ≡ to_le_bytes w64 e.last ++ b6 → b6 ≡ to_le_bytes w64 e.count ++ b7 → b ≡ members_of e ++ b7
read_members e b b1 b2 b3 b4 b5 b6 b7 e1 e2 e3 e4 e5 e6 e7 = rw (e1, e2, e3, e4, e5, e6, e7) (sym (members_in_row e b7))

-- a moment at which a partition begins lies in the years of partitions
pub outside : (g : Granularity) (t : ℕ) → ((662_688_000 * 1_000_000_000 ≤ t) × (t < 16_725_225_600 * 1_000_000_000) → ⊥) → (p : Part) → IsPart g p → p.start ≡ t → ⊥
outside g t out p is starts = let span = within g p is in out (omega (arith, span, starts), omega (arith, span, starts))

-- the partition that holds a moment begins there if one does
pub not_its_start : (g : Granularity) (t : ℕ) (found : Part) → IsPart g found → HoldsMoment found t → (found.start ≡ t → ⊥) → (p : Part) → IsPart g p → p.start ≡ t → ⊥
not_its_start g t found is holds apart p is_p starts =
    let span = within g p is_p in
    let same = one_part g found p t is is_p holds (omega (arith, starts), omega (arith, starts, span.1)) in
    apart (ap (λ (q : Part). q.start) same ∙ starts)
