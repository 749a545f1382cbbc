-- What is promised of a management call: just the acts that it asks for are made, in order, and what is written is the reply over their
-- answers.
use Rattle.std.specs.Prelude.{◌≡◌, ◌⊎◌, ℕ, List, [], ◌∷◌, ◌++◌, map, Option, Result, Ok, Err}
use Rattle.std.specs.Io.KnownBytes.{Appends}
use Rattle.edge_io.specs.Stream.{AppendsFront}
use Rattle.act_model.specs.declared.acts.Act.{Act}
use Rattle.act_model.specs.Reply.{Reply}
use Rattle.act_model.specs.History.{Entry, Done, Made}
use Rattle.http_front.specs.declared.request.WebCall.{WebCall}
use Rattle.admin_commands.specs.declared.refusal.Refusal.TheVariants as refusal
use Rattle.admin_commands.specs.declared.reply.WebReply.{WebReply}
use Rattle.admin_commands.specs.declared.reply.WebReply.TheVariants.{Refused}
use Rattle.admin_commands.specs.declared.end.NoReply.{NoReply}
use Rattle.admin_commands.specs.declared.end.NoReply.TheVariants as stopped
use Rattle.admin_commands.specs.declared.end.AdminErr.{AdminErr}
use Rattle.admin_commands.specs.declared.end.AdminErr.TheVariants.{SinkFault, Spent, Memory}
use Rattle.admin_commands.specs.Next.{NextStep, asks, tells, next}
use Rattle.admin_commands.specs.Replies.{reply_text}

abbrev pub answers_of : List Done → List Reply
answers_of done = map (λ (d : Done). d.answer) done

-- behind these answers each act is the one that the call asks for next
abbrev pub Follows : WebCall → List Reply → List Done → Type 0
Follows call seen [] = Unit {0}
Follows call seen (d ∷ done) = (next call seen ≡ asks d.act) × Follows call (seen ++ d.answer ∷ []) done

-- Just these acts were made under the actor's number: the first ones that the call asks for. Behind them it goes on so.
pub record Proceeds {A : Type 0} (number : A → ℕ) (between : A → List Entry → A → Type 0) (call : WebCall) (old : A) (goes_on : NextStep → Type 0) (new : A) : Type 0 where
  pub done : List Done
  pub made : Made number between old done new
  pub follows : Follows call [] done
  pub goes : goes_on (next call (answers_of done))

-- the reply is told
abbrev pub IsTold : WebReply → NextStep → Type 0
IsTold reply n = n ≡ tells reply

-- one more act is asked for
abbrev pub AsksMore : NextStep → Type 0
AsksMore n = (act : Act) × (n ≡ asks act)

abbrev pub Anyhow : NextStep → Type 0
Anyhow n = Unit {0}

-- what is made of an answer: the reply, or nothing, since memory ran out
abbrev pub Tells : NextStep → Result WebReply NoReply → Type 0
Tells n (Ok reply) = n ≡ tells reply
Tells n (Err stopped.Spent) = ⊥
Tells n (Err stopped.Memory) = Unit {0}

-- What a call came to: its reply, or no act was left for the one that it asks for next, or memory ran out.
abbrev pub Comes : {A : Type 0} (number : A → ℕ) (between : A → List Entry → A → Type 0) (is_spent : A → Type 0) (call : WebCall) (old : A) → Result WebReply NoReply → A → Type 0
Comes number between is_spent call old (Ok reply) new = Proceeds number between call old (IsTold reply) new
Comes number between is_spent call old (Err stopped.Spent) new = Proceeds number between call old AsksMore new × is_spent new
Comes number between is_spent call old (Err stopped.Memory) new = Proceeds number between call old Anyhow new

-- the reply where no act is left
abbrev pub spent_reply : WebReply
spent_reply = Refused refusal.Spent

-- What is written of it. At a fault of the sink it is a front of the reply, and where memory ran out nothing.
abbrev pub Serves : {A : Type 0} (number : A → ℕ) (between : A → List Entry → A → Type 0) (is_spent : A → Type 0) (call : WebCall) (old : A) → Result (Unit {0}) AdminErr → A → Option (List ℕ) → Option (List ℕ) → Type 0
Serves number between is_spent call old (Ok done) new a b = (reply : WebReply) × Proceeds number between call old (IsTold reply) new × Appends a b (reply_text reply)
Serves number between is_spent call old (Err SinkFault) new a b =
    (reply : WebReply) × (Proceeds number between call old (IsTold reply) new ⊎ ((reply ≡ spent_reply) × Proceeds number between call old AsksMore new × is_spent new)) × AppendsFront a b (reply_text reply)
Serves number between is_spent call old (Err Spent) new a b = Proceeds number between call old AsksMore new × is_spent new × Appends a b (reply_text spent_reply)
Serves number between is_spent call old (Err Memory) new a b = Proceeds number between call old Anyhow new × (b ≡ a)
