-- What a block in memory tells of its file.
use Rattle.std.proofs.Common.{◌≡◌, ◌≢◌, ℕ, ◌+◌, ◌-◌, ◌<◌, ◌≤◌, List, [], ◌∷◌, ◌++◌, length, take, drop, arith, refl, sym, ap, ◌∙◌, append_assoc, append-nil}
use Rattle.std.proofs.lemmas.List.Elements.{All-append, All-same}
use Rattle.std.proofs.lemmas.List.{length-append, length-drop, take-append-drop, take-take, drop-take, drop-drop, take_at}
use Rattle.line_escape.specs.Unescaping.{HasNoNewline}
use Rattle.pb_file.specs.Block.{Window, IsWindowOf}

-- more of a list
pub take-plus : (a b : ℕ) (xs : List ℕ) → take (a + b) xs ≡ take a xs ++ take b (drop a xs)
take-plus a b xs =
    sym (take-append-drop a (take (a + b) xs))
    ∙ ap (λ (u : List ℕ). u ++ drop a (take (a + b) xs)) (take-take a (a + b) xs (omega arith))
    ∙ ap (λ (u : List ℕ). take a xs ++ u) (drop-take a b xs)

-- what a window has from a place on is what the file has there
pub from_window : (window : Window) (file : List ℕ) (place : ℕ) → IsWindowOf window file → window.start ≤ place → place - window.start ≤ length window.bytes
    → let k = place - window.start in drop k window.bytes ≡ take (length window.bytes - k) (drop place file)
from_window window file place is from within =
    let k = place - window.start in
    let size : length window.bytes ≡ k + (length window.bytes - k) = omega (arith, within) in
    ap (λ (u : List ℕ). drop k u) is
    ∙ ap (λ (n : ℕ). drop k (take n (drop window.start file))) size
    ∙ drop-take k (length window.bytes - k) (drop window.start file)
    ∙ ap (λ (u : List ℕ). take (length window.bytes - k) u) (drop-drop k window.start file ∙ ap (λ (n : ℕ). drop n file) (omega (arith, from)))

-- more of a line that began at a place: the window has it next
pub goes_on : (window : Window) (file line part rest : List ℕ) (at place : ℕ) → IsWindowOf window file → window.start ≤ place → place < window.start + length window.bytes
    → take place file ≡ take at file ++ line → drop (place - window.start) window.bytes ≡ part ++ rest → take (place + length part) file ≡ take at file ++ (line ++ part)
goes_on window file line part rest at place is from within front next =
    let k = place - window.start in
    let m = length window.bytes - k in
    let short : length part ≤ m = omega (arith, ap length next, length-append part rest, length-drop k window.bytes) in
    let same = sym (take-take (length part) m (drop place file) short) ∙ ap (λ (u : List ℕ). take (length part) u) (sym (from_window window file place is from (omega (arith, within))) ∙ next) ∙ take_at part rest (length part) refl in
    take-plus place (length part) file ∙ ap (λ (u : List ℕ). u ++ take (length part) (drop place file)) front ∙ ap (λ (u : List ℕ). (take at file ++ line) ++ u) same ∙ append_assoc (take at file) line part

-- the line ends within the window
pub line_ends : (window : Window) (file line part rest new bytes : List ℕ) (at place : ℕ) → IsWindowOf window file → window.start ≤ place → place < window.start + length window.bytes
    → place ≡ at + length line → take place file ≡ take at file ++ line → bytes ≡ drop (place - window.start) window.bytes → bytes ≡ part ++ 10 ∷ rest → new ≡ line ++ part
    → take (at + length new + 1) file ≡ take at file ++ (new ++ 10 ∷ [])
line_ends window file line part rest new bytes at place is from within size front next split added =
    let more = goes_on window file line (part ++ 10 ∷ []) rest at place is from within front (sym next ∙ split ∙ sym (append_assoc part (10 ∷ []) rest)) in
    let long : at + length new + 1 ≡ place + length (part ++ 10 ∷ []) = omega (arith, size, ap length added, length-append line part, length-append part (10 ∷ [])) in
    ap (λ (n : ℕ). take n file) long ∙ more ∙ ap (λ (u : List ℕ). take at file ++ u) (sym (append_assoc line part (10 ∷ [])) ∙ ap (λ (u : List ℕ). u ++ 10 ∷ []) (sym added))

-- the window ends within the line
pub window_ends : (window : Window) (file line new bytes : List ℕ) (at place : ℕ) → IsWindowOf window file → window.start ≤ place → place < window.start + length window.bytes
    → take place file ≡ take at file ++ line → bytes ≡ drop (place - window.start) window.bytes → new ≡ line ++ bytes
    → take (window.start + length window.bytes) file ≡ take at file ++ new
window_ends window file line new bytes at place is from within front next added =
    let more = goes_on window file line bytes [] at place is from within front (sym next ∙ sym (append-nil bytes)) in
    let long : window.start + length window.bytes ≡ place + length bytes = omega (arith, from, within, ap length next, length-drop (place - window.start) window.bytes) in
    ap (λ (n : ℕ). take n file) long ∙ more ∙ ap (λ (u : List ℕ). take at file ++ u) (sym added)

-- lines without newlines make one without
pub both_whole : (line part new : List ℕ) → HasNoNewline line → HasNoNewline part → new ≡ line ++ part → HasNoNewline new
both_whole line part new h k is = All-same (λ x. x ≢ 10) new (line ++ part) is (All-append (λ x. x ≢ 10) line part h k)
