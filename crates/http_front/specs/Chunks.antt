-- A body in chunked transfer coding (RFC 9112, section 7.1): as many full chunks as it has, a shorter one of the rest, and the
-- last chunk, which has no bytes. No chunk has extensions, and there are no trailers.
use Rattle.std.specs.Prelude.{ℕ, ◌*◌, ◌/◌, List, [], ◌∷◌, ◌++◌, length, take, drop, codes, zero, suc, false}
use Rattle.std.specs.Fmt.{digits}

-- the bytes of a full chunk
abbrev pub chunk_len : ℕ
chunk_len = 8192

-- the length in hexadecimal digits in lower case, the bytes, and CR LF behind each of the two
abbrev pub chunk_of : List ℕ → List ℕ
chunk_of bytes = digits 16 false (length bytes) ++ codes "\r\n" ++ bytes ++ codes "\r\n"

abbrev pub last_chunk : List ℕ
last_chunk = codes "0\r\n\r\n"

-- the first n pieces of so many bytes, each as a chunk
abbrev pub full_chunks : ℕ → List ℕ → List ℕ
full_chunks zero text = []
full_chunks (suc n) text = chunk_of (take chunk_len text) ++ full_chunks n (drop chunk_len text)

-- a chunk of the rest, none where there is no rest
abbrev pub rest_chunk : List ℕ → List ℕ
rest_chunk [] = []
rest_chunk (x ∷ xs) = chunk_of (x ∷ xs)

-- how many full chunks a text has
abbrev pub full_in : List ℕ → ℕ
full_in text = length text / chunk_len

abbrev pub chunked : List ℕ → List ℕ
chunked body = full_chunks (full_in body) body ++ rest_chunk (drop (chunk_len * full_in body) body) ++ last_chunk
