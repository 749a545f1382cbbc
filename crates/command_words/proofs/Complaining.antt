-- A line that is written piece by piece.
use Rattle.std.proofs.Common.{◌≡◌, ◌∙◌, ℕ, ◌+◌, ◌<◌, ◌≤◌, List, [], ◌∷◌, ◌++◌, Bor, Option, length, get_or, take, drop, sym, ap, subst, arith, take-append-drop, append_assoc}
use Rattle.std.specs.Prelude.{codes, decimal}
use Rattle.std.specs.List.{flat_map}
use Rattle.std.specs.Io.KnownBytes.{Appends}
use Rattle.std.proofs.lemmas.List.{append-nil}
use Rattle.std.proofs.lemmas.List.Concat.{flat_map-append}
use Rattle.std.proofs.lemmas.Grind.{take_at_read}
use Rattle.edge_io.specs.Stream.{AppendsFront, Rose}
use Rattle.disk_model.specs.Files.{Name}
use Rattle.partition_names.specs.declared.granularity.Granularity.{Granularity}
use Rattle.partition_names.specs.Granularity as granularity
use Rattle.pb_lines.specs.declared.fault.ChunkFault.{ChunkFault}
use Rattle.pb_lines.specs.Fault.{fault_number}
use Rattle.command_words.specs.declared.status.Status.{Status}
use Rattle.command_words.specs.declared.status.Status.TheVariants.{Refused, Damaged, GranularityDiffers}
use Rattle.command_words.specs.Complaint.{Complains, complaint_of}
use Rattle.command_words.proofs.Fronts.{front_of}

abbrev pub text_of : List (Bor (List ℕ)) → List ℕ
text_of pieces = flat_map (λ piece. piece.now) pieces

next_text : (pieces : List (Bor (List ℕ))) (i : ℕ) (d : Bor (List ℕ)) → i < length pieces → text_of (take (i + 1) pieces) ≡ text_of (take i pieces) ++ (get_or pieces i d).now
next_text pieces i d within =
    let f : Bor (List ℕ) → List ℕ = λ piece. piece.now in
    let read = take_at_read pieces i d within in
    ap (flat_map f) read.1 ∙ flat_map-append f (take i pieces) (get_or pieces i d ∷ []) ∙ ap (λ (t : List ℕ). text_of (take i pieces) ++ t) (append-nil (get_or pieces i d).now)

-- a front of one piece
pub front_written : (pieces : List (Bor (List ℕ))) (i : ℕ) (d : Bor (List ℕ)) (a b c : Option (List ℕ)) → i < length pieces → Appends a b (text_of (take i pieces)) → AppendsFront b c (get_or pieces i d).now → AppendsFront a c (text_of pieces)
front_written pieces i d a b c within done front =
    let f : Bor (List ℕ) → List ℕ = λ piece. piece.now in
    let rest = text_of (drop (i + 1) pieces) in
    let all : text_of pieces ≡ (text_of (take i pieces) ++ (get_or pieces i d).now) ++ rest =
    ap (flat_map f) (sym (take-append-drop (i + 1) pieces)) ∙ flat_map-append f (take (i + 1) pieces) (drop (i + 1) pieces) ∙ ap (λ (t : List ℕ). t ++ rest) (next_text pieces i d within) in
    front_of a b c (text_of (take i pieces)) (get_or pieces i d).now rest (text_of pieces) done front all

-- a count that rose later rose
pub rose_after : (before mid now : ℕ) → before ≤ mid → Rose mid now → Rose before now
rose_after before mid now later rose = grind arith

-- THE LINES

join5 : (a b c d e : List ℕ) → a ++ b ++ c ++ d ++ e ≡ a ++ (b ++ (c ++ (d ++ (e ++ []))))
join5 a b c d e = append_assoc (a ++ b ++ c) d e ∙ append_assoc (a ++ b) c (d ++ e) ∙ append_assoc a b (c ++ (d ++ e)) ∙ ap (λ (t : List ℕ). a ++ (b ++ (c ++ (d ++ t)))) (sym (append-nil e))

join7 : (a b c d e f h : List ℕ) → a ++ b ++ c ++ d ++ e ++ f ++ h ≡ a ++ (b ++ (c ++ (d ++ (e ++ (f ++ (h ++ []))))))
join7 a b c d e f h =
    append_assoc (a ++ b ++ c ++ d ++ e) f h ∙ append_assoc (a ++ b ++ c ++ d) e (f ++ h) ∙ append_assoc (a ++ b ++ c) d (e ++ (f ++ h)) ∙ append_assoc (a ++ b) c (d ++ (e ++ (f ++ h))) ∙ append_assoc a b (c ++ (d ++ (e ++ (f ++ h))))
    ∙ ap (λ (t : List ℕ). a ++ (b ++ (c ++ (d ++ (e ++ (f ++ t)))))) (sym (append-nil h))

pub told_as : (a b : Option (List ℕ)) (before now : ℕ) (pieces text : List ℕ) → pieces ≡ text → Complains a b before now pieces → Complains a b before now text
told_as a b before now pieces text is told = subst (λ (t : List ℕ). Complains a b before now t) is told

pub refused_line : (x y : List ℕ) (line : ℕ) (fault : ChunkFault) (status : Status) → x ≡ decimal line → y ≡ decimal (fault_number fault) → status ≡ Refused line fault → codes "archappl: line " ++ (x ++ (codes ": E" ++ (y ++ (codes "\n" ++ [])))) ≡ complaint_of status
refused_line x y line fault status is_line is_fault is =
    ap (λ (t : List ℕ). codes "archappl: line " ++ (t ++ (codes ": E" ++ (y ++ (codes "\n" ++ []))))) is_line ∙ ap (λ (t : List ℕ). codes "archappl: line " ++ (decimal line ++ (codes ": E" ++ (t ++ (codes "\n" ++ []))))) is_fault
    ∙ sym (join5 (codes "archappl: line ") (decimal line) (codes ": E") (decimal (fault_number fault)) (codes "\n")) ∙ sym (ap complaint_of is)

pub damaged_line : (x y z : List ℕ) (name : Name) (at : ℕ) (status : Status) → x ≡ decimal name.0 → y ≡ name.1 → z ≡ decimal at → status ≡ Damaged name at → codes "archappl: damaged: " ++ (x ++ (codes " " ++ (y ++ (codes " at " ++ (z ++ (codes "\n" ++ [])))))) ≡ complaint_of status
damaged_line x y z name at status is_store is_path is_place is =
    ap (λ (t : List ℕ). codes "archappl: damaged: " ++ (t ++ (codes " " ++ (y ++ (codes " at " ++ (z ++ (codes "\n" ++ []))))))) is_store ∙ ap (λ (t : List ℕ). codes "archappl: damaged: " ++ (decimal name.0 ++ (codes " " ++ (t ++ (codes " at " ++ (z ++ (codes "\n" ++ []))))))) is_path
    ∙ ap (λ (t : List ℕ). codes "archappl: damaged: " ++ (decimal name.0 ++ (codes " " ++ (name.1 ++ (codes " at " ++ (t ++ (codes "\n" ++ []))))))) is_place
    ∙ sym (join7 (codes "archappl: damaged: ") (decimal name.0) (codes " ") name.1 (codes " at ") (decimal at) (codes "\n")) ∙ sym (ap complaint_of is)

pub granularity_line : (x y : List ℕ) (kept asked : Granularity) (status : Status) → x ≡ granularity.text_of kept → y ≡ granularity.text_of asked → status ≡ GranularityDiffers kept asked
    → codes "archappl: granularity: kept " ++ (x ++ (codes ", asked " ++ (y ++ (codes "\n" ++ [])))) ≡ complaint_of status
granularity_line x y kept asked status is_kept is_asked is =
    ap (λ (t : List ℕ). codes "archappl: granularity: kept " ++ (t ++ (codes ", asked " ++ (y ++ (codes "\n" ++ []))))) is_kept
    ∙ ap (λ (t : List ℕ). codes "archappl: granularity: kept " ++ (granularity.text_of kept ++ (codes ", asked " ++ (t ++ (codes "\n" ++ []))))) is_asked
    ∙ sym (join5 (codes "archappl: granularity: kept ") (granularity.text_of kept) (codes ", asked ") (granularity.text_of asked) (codes "\n")) ∙ sym (ap complaint_of is)
