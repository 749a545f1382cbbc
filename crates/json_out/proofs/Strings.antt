-- Strings of printable ASCII.
use Rattle.std.proofs.Common.{◌≡◌, ◌≢◌, ◌<◌, ◌≤◌, ℕ, Bool, true, false, not, ◌&&◌, ◌==◌, nat_le, List, [], ◌∷◌, ◌++◌, IsAscii, refl, ap, ◌∙◌, arith}
use Rattle.std.specs.List.{list_all, AllByRecursion}
use Rattle.std.specs.Str.Lossy.{utf8_lossy}
use Rattle.std.proofs.lemmas.Bool.{not-true, eqb-false, leb-true}
use Rattle.std.proofs.lemmas.Str.{IsUtf8-from_ascii, utf8_lossy-IsUtf8}
use Rattle.std.proofs.lemmas.Str.Ascii.{IsAscii-from_all}
use Rattle.std.proofs.lemmas.List.Elements.{All-from_recursion}
use Rattle.json.specs.Print.{escape, quoted}
use Rattle.json.proofs.Printed.Strings.{escape_byte_plain}
use Rattle.json_out.specs.Values.{string_text, is_plain}

first_true : (a b : Bool) → (a && b) ≡ true → a ≡ true
first_true true b both = refl
first_true false b both = both

second_true : (a b : Bool) → (a && b) ≡ true → b ≡ true
second_true true b both = both
second_true false b both = cc

-- what is plain is no control character, no quotation mark and no backslash
record IsPlain (x : ℕ) : Type 0 where
  least : 32 ≤ x
  most : x ≤ 126
  quote : x ≢ 34
  slash : x ≢ 92

plain_byte : (x : ℕ) → is_plain x ≡ true → IsPlain x
plain_byte x plain =
    let three = first_true ((nat_le 32 x && nat_le x 126) && not (x == 34)) (not (x == 92)) plain in
    let two = first_true (nat_le 32 x && nat_le x 126) (not (x == 34)) three in
    record {
      least = leb-true 32 x (first_true (nat_le 32 x) (nat_le x 126) two);
      most = leb-true x 126 (second_true (nat_le 32 x) (nat_le x 126) two);
      quote = eqb-false x 34 (not-true (x == 34) (second_true (nat_le 32 x && nat_le x 126) (not (x == 34)) three));
      slash = eqb-false x 92 (not-true (x == 92) (second_true ((nat_le 32 x && nat_le x 126) && not (x == 34)) (not (x == 92)) plain));
    }

plain_escape : (bytes : List ℕ) → list_all is_plain bytes ≡ true → escape bytes ≡ bytes
plain_escape [] plain = refl
plain_escape (x ∷ bytes) plain =
    let is = plain_byte x (first_true (is_plain x) (list_all is_plain bytes) plain) in
    rw (escape_byte_plain x is.quote is.slash is.least) (ap (λ (u : List ℕ). x ∷ u) (plain_escape bytes (second_true (is_plain x) (list_all is_plain bytes) plain)))

plain_below : (bytes : List ℕ) → list_all is_plain bytes ≡ true → AllByRecursion (λ x. x < 128) bytes
plain_below [] plain = tt
plain_below (x ∷ bytes) plain =
    let is = plain_byte x (first_true (is_plain x) (list_all is_plain bytes) plain) in
    (omega (arith, is.most), plain_below bytes (second_true (is_plain x) (list_all is_plain bytes) plain))

-- a plain string is its bytes in quotation marks
pub plain_string : (bytes : List ℕ) → list_all is_plain bytes ≡ true → string_text bytes ≡ 34 ∷ (bytes ++ 34 ∷ [])
plain_string bytes plain =
    let ascii : IsAscii bytes = IsAscii-from_all bytes (All-from_recursion (λ x. x < 128) bytes (plain_below bytes plain)) in
    let same : utf8_lossy bytes ≡ bytes = utf8_lossy-IsUtf8 bytes (IsUtf8-from_ascii bytes ascii) in
    ap quoted same ∙ ap (λ (u : List ℕ). 34 ∷ (u ++ 34 ∷ [])) (plain_escape bytes plain)
