-- What is behind a sink of a body: the link, and the text that goes to it. The list that tells it has five parts, of which a write keeps
-- the first four: 1 while the text goes out in chunks, and 0 where it goes out as it is; the name of the reference to the link; 1 where
-- the link tells what it has, and else 0; how many bytes the link had before the body; and those bytes, and then the body.
use Rattle.std.specs.Prelude.{◌≡◌, ◌⊎◌, ℕ, ◌≤◌, nat_le, Result, Ok, Err, IsSomeAnd, ◌*◌, ◌-◌, ◌/◌, ◌%◌, min, ◌==◌, ◌&&◌, ◌||◌, not, Bool, true, false, List, [], ◌∷◌, ◌++◌, Option, Some, None, length, take, drop, bytes_eq, if◌then◌else◌, ⊤}
use Rattle.std.specs.Io.KnownBytes.{append_known}
use Rattle.edge_io.specs.declared.stream.Failed.{Failed}
use Rattle.http_front.specs.Chunks.{full_chunks, full_in, chunked, chunk_len}

-- what a link is known to have
abbrev pub known : Option (List ℕ) → List ℕ
known None = []
known (Some xs) = xs

abbrev pub tells : Option (List ℕ) → ℕ
tells None = 0
tells (Some xs) = 1

-- A link of this name, which had `start`, and a body that goes to it in chunks, as far as it has come.
abbrev pub in_chunks : ℕ → Option (List ℕ) → List ℕ → List ℕ
in_chunks name start body = 1 ∷ name ∷ tells start ∷ length (known start) ∷ (known start ++ body)

-- The same of a text that goes out as it is.
abbrev pub as_it_is : ℕ → Option (List ℕ) → List ℕ → List ℕ
as_it_is name start text = 0 ∷ name ∷ tells start ∷ length (known start) ∷ (known start ++ text)

abbrev pub behind : Bool → ℕ → Option (List ℕ) → List ℕ → List ℕ
behind true name start body = in_chunks name start body
behind false name start text = as_it_is name start text

-- Of a text as far as it has come, what is in chunks that are full, or all of it.
abbrev pub coded : Bool → List ℕ → List ℕ
coded true text = full_chunks (full_in text) text
coded false text = text

-- a text of which each byte is in a full chunk
abbrev pub is_full : List ℕ → Bool
is_full text = length text == chunk_len * full_in text

-- The link has the text behind what it had, where it told that.
abbrev pub has_got : Option (List ℕ) → Option (List ℕ) → List ℕ → Bool
has_got None now text = true
has_got (Some xs) None text = false
has_got (Some xs) (Some ys) text = bytes_eq ys (xs ++ text)

-- The link has no less than it had, where it told that.
abbrev pub has_kept : Option (List ℕ) → Option (List ℕ) → Bool
has_kept None now = true
has_kept (Some xs) None = false
has_kept (Some xs) (Some ys) = nat_le (length xs) (length ys)

-- A sink whose link had `start` and has `now` has sent what it took, in chunks those that are full, but for what is on its way.
abbrev pub stands : Option (List ℕ) → Option (List ℕ) → Bool → List ℕ → List ℕ → Bool
stands start now chunks taken going = has_got start (append_known now going) (coded chunks taken) && (has_kept start now && (not chunks || is_full taken))

-- in chunks, what is held for the next chunk is taken too
abbrev pub text_of : Bool → List ℕ → List ℕ → List ℕ
text_of true taken held = taken ++ held
text_of false taken held = taken

-- What is behind a sink, where it stands.
abbrev pub written_behind : Option (List ℕ) → Option (List ℕ) → ℕ → Bool → List ℕ → List ℕ → List ℕ → Option (List ℕ)
written_behind start now name chunks taken held going =
    if stands start now chunks taken going then Some (behind chunks name start (text_of chunks taken held)) else None

-- all that the link will have once the body has ended
abbrev pub whole_of : List ℕ → List ℕ
whole_of (mode ∷ name ∷ told ∷ before ∷ text) = if mode == 0 then text else take before text ++ chunked (drop before text)
whole_of text = []

-- the same once the body has ended: what follows goes out as it is
abbrev pub ended : List ℕ → List ℕ
ended (mode ∷ name ∷ told ∷ before ∷ text) = 0 ∷ name ∷ told ∷ before ∷ whole_of (mode ∷ name ∷ told ∷ before ∷ text)
ended text = text

-- whether the link tells what it has
abbrev pub told_of : List ℕ → ℕ
told_of (mode ∷ name ∷ told ∷ more) = told
told_of text = 0

-- how many bytes the link had before the body
abbrev pub before_of : List ℕ → ℕ
before_of (mode ∷ name ∷ told ∷ before ∷ text) = before
before_of text = 0

-- the body of a text in chunks, as far as it has come
abbrev pub body_of : List ℕ → List ℕ
body_of (mode ∷ name ∷ told ∷ before ∷ text) = drop before text
body_of text = []

-- whether the text goes out in chunks
abbrev pub mode_of : List ℕ → ℕ
mode_of (mode ∷ more) = mode
mode_of text = 0

-- How many bytes there is room for in the chunk that the next byte of a body stands in.
abbrev pub room_of : List ℕ → ℕ
room_of told = chunk_len - length (body_of told) % chunk_len

-- What the link has once a write ended well: of a body each full chunk behind which something was taken, and else all of the text.
abbrev pub sent_of : List ℕ → List ℕ
sent_of (mode ∷ name ∷ told ∷ before ∷ text) = if mode == 0 then text else take before text ++ full_chunks ((length (drop before text) - 1) / chunk_len) (drop before text)
sent_of text = []

-- Of so many bytes this many are taken, in chunks as many as there is room for; and those that go out as they are, are written then.
abbrev pub Takes : Option (List ℕ) → Option (List ℕ) → Option (List ℕ) → ℕ → Result ℕ Failed → Type 0
Takes None new now most result = ⊤
Takes (Some told) None now most result = ⊤
Takes (Some told) (Some more) now most (Ok count) = (mode_of told ≡ 1 → count ≡ min most (room_of told)) × (told_of more ≡ 1 → now ≡ Some (sent_of more))
Takes (Some told) (Some more) now most (Err e) = ⊤

-- What the end of a body comes to: at Ok the link has all of it, and else the end has begun or hasn't.
abbrev pub EndsBody : Option (List ℕ) → Option (List ℕ) → Option (List ℕ) → Result Unit Failed → Type 0
EndsBody None new now result = ⊤
EndsBody (Some told) new now (Ok done) = (new ≡ Some (ended told)) × (told_of told ≡ 1 → now ≡ Some (whole_of told))
EndsBody (Some told) new now (Err e) = (new ≡ Some told) ⊎ (new ≡ Some (ended told))

-- The link has no less than it had before the body, and whatever follows of the body, a front of what it will have.
abbrev pub HasFront : List ℕ → Option (List ℕ) → Type 0
HasFront told now = told_of told ≡ 1 → IsSomeAnd now (λ xs. (before_of told ≤ length xs) × ((more : List ℕ) → (rest : List ℕ) × (whole_of (told ++ more) ≡ xs ++ rest)))
