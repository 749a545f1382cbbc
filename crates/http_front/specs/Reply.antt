-- The text of a reply's head. Each of its lines ends with CR LF, and an empty line follows the last.
use Rattle.std.specs.Prelude.{ℕ, ◌==◌, ◌&&◌, ◌||◌, Bool, List, [], ◌∷◌, ◌++◌, Option, Some, None, is_some, is_none, IsTrue, codes, decimal, nat_le, if◌then◌else◌}
use Rattle.std.specs.List.{list_any}
use Rattle.http_front.specs.declared.reply.Head.{Head}

-- a status and its phrase
abbrev pub status_text : ℕ → List ℕ
status_text status =
    if status == 200 then codes "200 OK" else (
    if status == 400 then codes "400 Bad Request" else (
    if status == 404 then codes "404 Not Found" else (
    if status == 405 then codes "405 Method Not Allowed" else (
    if status == 409 then codes "409 Conflict" else (
    if status == 431 then codes "431 Request Header Fields Too Large" else (
    if status == 500 then codes "500 Internal Server Error" else (
    codes "503 Service Unavailable")))))))

abbrev pub type_text : Bool → List ℕ
type_text json = if json then codes "application/json" else codes "application/octet-stream"

-- the line that says where the body ends; to HTTP/1.0 a body without a length ends with the connection
abbrev pub framing_text : Head → List ℕ
framing_text head = framing head.length head.version
  where
    framing : Option ℕ → ℕ → List ℕ
    framing (Some length) version = codes "Content-Length: " ++ decimal length ++ codes "\r\n"
    framing None version = if version == 0 then [] else codes "Transfer-Encoding: chunked\r\n"

abbrev pub head_text : Head → List ℕ
head_text head =
    codes "HTTP/1.1 " ++ status_text head.status ++ codes "\r\nContent-Type: " ++ type_text head.json ++ codes "\r\n"
    ++ framing_text head ++ codes "Connection: close\r\n\r\n"

-- the statuses of replies
abbrev pub statuses : List ℕ
statuses = 200 ∷ 400 ∷ 404 ∷ 405 ∷ 409 ∷ 431 ∷ 500 ∷ 503 ∷ []

-- A head that is written: its status is one of these, a body without a length is data, and has the status 200, all others are JSON,
-- and the version is 0 or 1. It is a test, so that it computes.
abbrev pub is_head : Head → Bool
is_head head =
    list_any (λ status. status == head.status) statuses && (is_some head.length || head.status == 200) && (is_none head.length || head.json)
    && nat_le head.version 1

abbrev pub IsHead : Head → Type 0
IsHead head = IsTrue (is_head head)
