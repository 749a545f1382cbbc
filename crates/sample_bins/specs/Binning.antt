-- What an output of bins was given, and what it handed on.
use Rattle.std.specs.Prelude.{◌≡◌, ℕ, List, ◌++◌, Option, Some, None, IfSome}
use Rattle.arch_time.specs.YearTime.{start}
use Rattle.series_model.specs.declared.sample.Sample.{Sample}
use Rattle.series_model.specs.Retrieval.{within}
use Rattle.pb_wire.specs.declared.payload.PayloadType.TheVariants.{ScalarInt}
use Rattle.act_model.specs.Event.{IsEvent, AreEvents}
use Rattle.act_model.specs.Out.{Subject}
use Rattle.sample_bins.specs.declared.op.Op.{Op}
use Rattle.sample_bins.specs.declared.beginning.BegunText.{BegunText}
use Rattle.sample_bins.specs.declared.kept.Kept.{Kept}
use Rattle.sample_bins.specs.Bins.{bin_start, binned, binned_subject}
use Rattle.sample_bins.specs.Coming.{coming}

-- the start of the bin of the last sample
abbrev pub kept_start : ℕ → Option ℕ → ℕ
kept_start width None = start
kept_start width (Some bin) = bin_start width bin

-- An output has begun with what is told of bins, and this sample, if it is one, is an event of the variable.
pub record Stands {O : Type 0} (gave : O → Subject → List Sample → O → Type 0) (op : Op) (now : O) (s : Option Sample) : Type 0 where
  pub before : O
  pub subject : Subject
  pub given : List Sample
  pub has : gave before (binned_subject op subject) given now
  pub event : IfSome s (IsEvent subject.about.ty)

-- An output has begun with a variable whose samples are whole numbers.
pub record StandsCounting {O : Type 0} (gave : O → Subject → List Sample → O → Type 0) (now : O) : Type 0 where
  pub before : O
  pub subject : Subject
  pub given : List Sample
  pub has : gave before subject given now
  pub kind : subject.about.ty ≡ ScalarInt

-- An output that was given some samples was given these behind them.
pub record Gives {O : Type 0} (gave : O → Subject → List Sample → O → Type 0) (old : O) (out : List Sample) (new : O) : Type 0 where
  pub all : (before : O) (subject : Subject) (xs : List Sample) → gave before subject xs old → gave before subject (xs ++ out) new

-- It broke off, whatever events follow these.
pub record Breaks {O : Type 0} (gave broke : O → Subject → List Sample → O → Type 0) (old : O) (out : List Sample) (new : O) : Type 0 where
  pub all : (before : O) (subject : Subject) (xs more : List Sample) → AreEvents subject.about.ty (xs ++ (out ++ more)) → gave before subject xs old → broke before subject (xs ++ (out ++ more)) new

-- It was given all of BINS that doesn't depend on the samples that are still to come.
pub record GivesBins {O : Type 0} (gave : O → Subject → List Sample → O → Type 0) (op : Op) (begun : Option BegunText) (kept : Kept) (before : O) (subject : Subject) (xs : List Sample) (now : O) : Type 0 where
  pub asked : begun ≡ Some (record { ty = subject.about.ty; query = subject.query })
  pub events : AreEvents subject.about.ty xs
  pub given : List Sample
  pub has : gave before (binned_subject op subject) given now
  pub goes_on : (more : List Sample) → binned op subject.query.from (within subject.query xs ++ more) ≡ given ++ coming op subject.query.from kept more
