-- Each list of bytes is lines and an ending.
use Rattle.std.proofs.Common.{◌≡◌, ◌≢◌, ℕ, ◌+◌, ◌-◌, ◌<◌, ◌≤◌, ◌⊎◌, inl, inr, zero, suc, List, [], ◌∷◌, ◌++◌, All, length, arith, ap, ◌∙◌}
use Rattle.std.specs.Prelude.{◌^◌}
use Rattle.std.proofs.lemmas.List.{length-append, get_or_append_left, nil_from_length}
use Rattle.std.proofs.lemmas.List.Elements.{All-get_or, All-nil, All-cons}
use Rattle.std.proofs.lemmas.Bool.Decides.{eqb_tells}
use Rattle.std.proofs.lemmas.Bool.{cases_lt}
use Rattle.edge_io.specs.Lines.{NoneBelow}
use Rattle.edge_io.specs.declared.lines.LineRead.{LineRead}
use Rattle.edge_io.specs.declared.lines.LineRead.TheVariants.{End, Torn, TooLong, InputTooLong}
use Rattle.pb_lines.specs.Stream.{IsEnding, IsLines}

-- a line up to the first newline
pub record FirstLine (bytes : List ℕ) : Type 0 where
  pub line : List ℕ
  pub rest : List ℕ
  pub split : bytes ≡ line ++ 10 ∷ rest
  pub whole : All (λ x. x ≢ 10) line

pub first_line : (bytes : List ℕ) → FirstLine bytes ⊎ All (λ x. x ≢ 10) bytes
first_line [] = inr (All-nil (λ x. x ≢ 10))
first_line (b ∷ bytes) =
    elim (eqb_tells b 10) [
      | inl h ↦ inl (record { line = []; rest = bytes; split = ap (λ (x : ℕ). x ∷ bytes) h.1; whole = All-nil (λ x. x ≢ 10) })
      | inr h ↦ elim (first_line bytes) [
        | inl l ↦ inl (record { line = b ∷ l.line; rest = l.rest; split = ap (λ (xs : List ℕ). b ∷ xs) l.split; whole = All-cons (λ x. x ≢ 10) b l.line h.1 l.whole })
        | inr none ↦ inr (All-cons (λ x. x ≢ 10) b bytes h.1 none)
      ]
    ]

none_below : (bytes : List ℕ) (n : ℕ) → All (λ x. x ≢ 10) bytes → n ≤ length bytes → NoneBelow bytes n
none_below bytes n none within k lt = All-get_or (λ x. x ≢ 10) bytes k 0 (omega arith) none

none_before : (line more : List ℕ) (n : ℕ) → All (λ x. x ≢ 10) line → n ≤ length line → NoneBelow (line ++ more) n
none_before line more n none within k lt = rw (get_or_append_left line more 0 k (omega arith)) (none_below line n none within k lt)

-- lines and an ending
pub record Cut (p : ℕ) (bytes : List ℕ) : Type 0 where
  pub lines : List (List ℕ)
  pub ending : LineRead
  pub cut : IsLines p bytes lines ending

ends_by : (p : ℕ) (bytes : List ℕ) (ending : LineRead) → IsEnding p bytes ending → Cut p bytes
ends_by p bytes ending h = record { lines = []; ending = ending; cut = h }

-- no newline is left
no_line : (p : ℕ) (bytes : List ℕ) → All (λ x. x ≢ 10) bytes → Cut p bytes
no_line p bytes none =
    elim (cases_lt 16777216 (length bytes)) [
      | inl long ↦ elim (cases_lt (p + 16777216) (2 ^ 40)) [
        | inl room ↦ ends_by p bytes TooLong (long, room, none_below bytes 16777217 none (omega arith))
        | inr full ↦ ends_by p bytes InputTooLong (omega arith, full, none_below bytes (2 ^ 40 - p) none (omega arith))
      ]
      | inr short ↦ elim (cases_lt (p + length bytes) (2 ^ 40)) [
        | inl room ↦ elim (cases_lt 0 (length bytes)) [
          | inl some ↦ ends_by p bytes Torn (some, short, room, none_below bytes (length bytes) none (omega arith))
          | inr empty ↦ ends_by p bytes End (nil_from_length bytes (omega arith), omega arith)
        ]
        | inr full ↦ ends_by p bytes InputTooLong (full, omega arith, none_below bytes (2 ^ 40 - p) none (omega arith))
      ]
    ]

-- a line that doesn't fit into the stream, or is too long
line_beyond : (p : ℕ) (bytes : List ℕ) (l : FirstLine bytes) → (16777216 < length l.line) ⊎ (2 ^ 40 < p + length l.line + 1) → Cut p bytes
line_beyond p bytes l beyond =
    let size : length bytes ≡ length l.line + suc (length l.rest) = ap length l.split ∙ length-append l.line (10 ∷ l.rest) in
    elim (cases_lt 16777216 (length l.line)) [
      | inl long ↦ elim (cases_lt (p + 16777216) (2 ^ 40)) [
        | inl room ↦ ends_by p bytes TooLong (omega arith, room, rw l.split (none_before l.line (10 ∷ l.rest) 16777217 l.whole (omega arith)))
        | inr full ↦ ends_by p bytes InputTooLong (omega arith, full, rw l.split (none_before l.line (10 ∷ l.rest) (2 ^ 40 - p) l.whole (omega arith)))
      ]
      | inr short ↦
          let full : 2 ^ 40 < p + length l.line + 1 = elim beyond [ inl long ↦ absurd (omega arith) | inr full ↦ full ] in
          ends_by p bytes InputTooLong (omega arith, omega arith, rw l.split (none_before l.line (10 ∷ l.rest) (2 ^ 40 - p) l.whole (omega arith)))
    ]

-- one more line in front
line_first : (p : ℕ) (bytes : List ℕ) (l : FirstLine bytes) → length l.line ≤ 16777216 → p + length l.line + 1 ≤ 2 ^ 40 → Cut (p + length l.line + 1) l.rest → Cut p bytes
line_first p bytes l short room c = record { lines = l.line ∷ c.lines; ending = c.ending; cut = (l.rest, l.split, l.whole, short, room, c.cut) }

-- Bytes have lines, where they are n at most.
cut_within : (n p : ℕ) (bytes : List ℕ) → length bytes ≤ n → Cut p bytes
cut_within zero p bytes within =
    elim (first_line bytes) [
      | inr none ↦ no_line p bytes none
      | inl l ↦ absurd (omega (arith, ap length l.split, length-append l.line (10 ∷ l.rest)))
    ]
cut_within (suc n) p bytes within =
    elim (first_line bytes) [
      | inr none ↦ no_line p bytes none
      | inl l ↦ elim (cases_lt 16777216 (length l.line)) [
        | inl long ↦ line_beyond p bytes l (inl long)
        | inr short ↦ elim (cases_lt (2 ^ 40) (p + length l.line + 1)) [
          | inl full ↦ line_beyond p bytes l (inr full)
          | inr room ↦ line_first p bytes l short room (cut_within n (p + length l.line + 1) l.rest (omega (arith, ap length l.split, length-append l.line (10 ∷ l.rest))))
        ]
      ]
    ]

-- Each list of bytes is lines and an ending.
pub cut_of : (p : ℕ) (bytes : List ℕ) → Cut p bytes
cut_of p bytes = cut_within (length bytes) p bytes (omega arith)
