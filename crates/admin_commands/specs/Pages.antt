-- What the parts of a call tell: a page of names, the names of all rows, and a flush.
use Rattle.std.specs.Prelude.{◌≡◌, ℕ, ◌+◌, ◌<◌, List, true, Result, Ok, Err}
use Rattle.series_model.specs.Limits.{most_rows}
use Rattle.act_model.specs.declared.answers.NamesTold.{NamesTold}
use Rattle.act_model.specs.declared.answers.NamesTold.TheVariants as names_told
use Rattle.act_model.specs.declared.answers.Flushed.{Flushed as FlushTold}
use Rattle.act_model.specs.declared.answers.Flushed.TheVariants as flush_told
use Rattle.act_model.specs.History.{Entry}
use Rattle.http_front.specs.declared.request.WebCall.TheVariants.{AllPvs}
use Rattle.admin_commands.specs.declared.reply.WebReply.TheVariants.{Success}
use Rattle.admin_commands.specs.declared.end.NoReply.{NoReply}
use Rattle.admin_commands.specs.Bodies.{names_text}
use Rattle.admin_commands.specs.Next.{page}
use Rattle.admin_commands.specs.Serving.{Comes}

-- more names follow a page only where they begin below the most rows that there can be
abbrev pub EndsBelow : ℕ → NamesTold → Type 0
EndsBelow from (names_told.NamesAre names more) = more ≡ true → from + page < most_rows
EndsBelow from names_told.Memory = Unit {0}

-- nothing is left in the intake
abbrev pub LeavesNone : FlushTold → Type 0
LeavesNone (flush_told.Flushed samples left doors) = left ≡ 0
LeavesNone other = Unit {0}

-- the names of all rows, from which the reply is made
abbrev pub Gathers : {A : Type 0} (number : A → ℕ) (between : A → List Entry → A → Type 0) (is_spent : A → Type 0) (old : A) → Result (List (List ℕ)) NoReply → A → Type 0
Gathers number between is_spent old (Ok names) new = Comes number between is_spent AllPvs old (Ok (Success (names_text names))) new
Gathers number between is_spent old (Err stopped) new = Comes number between is_spent AllPvs old (Err stopped) new
