-- A reply's bytes: a head with the status and the body's length, and the body, a JSON text with a newline.
use Rattle.std.specs.Prelude.{ℕ, List, ◌++◌, codes, length, true, Some}
use Rattle.http_front.specs.declared.reply.Head.{Head}
use Rattle.http_front.specs.Reply.{head_text}
use Rattle.admin_commands.specs.declared.refusal.Refusal.{Refusal}
use Rattle.admin_commands.specs.declared.reply.WebReply.{WebReply}
use Rattle.admin_commands.specs.declared.reply.WebReply.TheVariants.{Success, Refused}
use Rattle.admin_commands.specs.Refusals.{row_of, refusal_text}

abbrev pub status_of : WebReply → ℕ
status_of (Success text) = 200
status_of (Refused refusal) = (row_of refusal).status

-- the body before its newline
abbrev pub text_of : WebReply → List ℕ
text_of (Success text) = text
text_of (Refused refusal) = refusal_text refusal

abbrev pub body_of : WebReply → List ℕ
body_of reply = text_of reply ++ codes "\n"

-- the head of a JSON body of this length
abbrev pub head_of : ℕ → List ℕ → Head
head_of status body = record { status = status; json = true; length = Some (length body); version = 1 }

abbrev pub reply_text : WebReply → List ℕ
reply_text reply = head_text (head_of (status_of reply) (body_of reply)) ++ body_of reply

-- the whole reply of a request that is refused
abbrev pub refused_reply : Refusal → List ℕ
refused_reply refusal = reply_text (Refused refusal)
