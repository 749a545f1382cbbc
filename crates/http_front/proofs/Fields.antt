-- Room for 8,192 fields is always enough for a head of 16,384 bytes.
use Rattle.std.proofs.Common.{◌≡◌, ℕ, ◌+◌, ◌*◌, ◌<◌, ◌≤◌, List, [], ◌∷◌, ◌++◌, ap, arith, length, flat_map}
use Rattle.std.specs.Prelude.{All}
use Rattle.std.proofs.lemmas.List.{length-append}
use Rattle.std.proofs.lemmas.List.Elements.{All-head, All-tail}
use Rattle.httparse.specs.Grammar.{LineEnd, crlf, lf, print_end, Field, IsField, print_field, print_section, RequestHead, print_request}
use Rattle.httparse.specs.Spans.{RequestExceeds}

end_length : (e : LineEnd) → 1 ≤ length (print_end e)
end_length crlf = omega arith
end_length lf = omega arith

field_length : (f : Field) → IsField f → 3 ≤ length (print_field f)
field_length f is =
    let n : 0 < length f.name = is.name.0 in
    let e = end_length f.end in
    let a : length (print_field f) ≡ length (f.name ++ 58 ∷ f.raw) + length (print_end f.end) = length-append (f.name ++ 58 ∷ f.raw) (print_end f.end) in
    let b : length (f.name ++ 58 ∷ f.raw) ≡ length f.name + length (58 ∷ f.raw) = length-append f.name (58 ∷ f.raw) in
    omega (arith, n, e, a, b)

fields_length : (fs : List Field) → All IsField fs → 3 * length fs ≤ length (flat_map print_field fs)
fields_length [] all = omega arith
fields_length (f ∷ fs) all =
    let i = fields_length fs (All-tail IsField f fs all) in
    let h = field_length f (All-head IsField f fs all) in
    omega (arith, length-append (print_field f) (flat_map print_field fs))

ends_with : (xs ys : List ℕ) → length ys ≤ length (xs ++ ys)
ends_with xs ys = omega (arith, length-append xs ys)

unfolds : (h : RequestHead) → length (print_section h.fields h.last) ≤ length (print_request h)
unfolding print_request
unfolds h = ends_with _ (print_section h.fields h.last)

-- a head has at least three bytes for each field
pub head_length : (h : RequestHead) → All IsField h.fields → 3 * length h.fields ≤ length (print_request h)
head_length h all =
    let i = fields_length h.fields all in
    let s = print_section h.fields h.last in
    let l : length (flat_map print_field h.fields) ≤ length s = omega (arith, length-append (flat_map print_field h.fields) (print_end h.last)) in
    let v : length s ≤ length (print_request h) = unfolds h in
    omega (arith, i, l, v)

pub never_exceeds : (bytes : List ℕ) (room : ℕ) → 8192 ≤ room → length bytes ≤ 16384 → RequestExceeds room bytes → ⊥
never_exceeds bytes room wide short x =
    let front = x.0 in
    let rest = x.1 in
    let h = x.3 in
    let i = head_length h x.4.0.fields in
    let p : front ++ print_end lf ≡ print_request h ++ [] = x.4.1 in
    let a : length (front ++ print_end lf) ≡ length front + 1 = length-append front (print_end lf) in
    let b : length (print_request h ++ []) ≡ length (print_request h) + 0 = length-append (print_request h) [] in
    let c : length (front ++ print_end lf) ≡ length (print_request h ++ []) = ap length p in
    let d : length bytes ≡ length (front ++ rest) = ap length x.2 in
    let e : length (front ++ rest) ≡ length front + length rest = length-append front rest in
    let f : room < length h.fields = x.5 in
    absurd (omega (arith, i, a, b, c, d, e, f, short, wide))
