-- Where an answer goes. An output is told the variable and the query, and then the answer's samples one by one, each of which is an
-- event of the variable's type. What its text is, each kind of output says itself, by relations between the output before it began
-- and now.
use Rattle.std.specs.Prelude.{ℕ, List}
use Rattle.series_model.specs.declared.sample.Query.{Query}
use Rattle.series_model.specs.declared.sample.Sample.{Sample}
use Rattle.pb_messages.specs.declared.about.About.{About}
use Rattle.act_model.specs.Event.{IsEvent}

-- what an answer is of: the variable's name, what is known of it, and the moments that are asked for
pub record Subject : Type 0 where
  pub name : List ℕ
  pub about : About
  pub query : Query

-- An output that has begun may be given this sample next.
pub record MayGive {A : Type 0} (gave : A → Subject → List Sample → A → Type 0) (now : A) (s : Sample) : Type 0 where
  pub before : A
  pub subject : Subject
  pub given : List Sample
  pub has_begun : gave before subject given now
  pub event : IsEvent subject.about.ty s
