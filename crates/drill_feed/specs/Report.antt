-- What a drill tells.
use Rattle.std.specs.Prelude.{◌≡◌, ℕ, zero, suc, ◌-◌, List, [], ◌++◌, Some, length, slice_get, codes, decimal, option_map}
use Rattle.arch_time.specs.Iso.{IsPrinted}
use Rattle.series_model.specs.declared.sample.Sample.{Sample}
use Rattle.drill_feed.specs.declared.report.Tally.{Tally}
use Rattle.drill_feed.specs.declared.tiers.Tiers.{Tiers}
use Rattle.drill_feed.specs.Workload.{name_text, samples}
use Rattle.drill_feed.specs.Tiers.{AreTiers}

-- the number of the samples, and the moments of the first and the last
pub record IsTally (xs : List Sample) (tally : Tally) : Type 0 where
  pub count : tally.count ≡ length xs
  pub first : option_map (λ s. s.t) (slice_get xs 0) ≡ Some tally.first
  pub last : option_map (λ s. s.t) (slice_get xs (length xs - 1)) ≡ Some tally.last

-- NAME COUNT FIRST LAST
pub record IsVariableLine (name : List ℕ) (tally : Tally) (line : List ℕ) : Type 0 where
  pub first : List ℕ
  pub last : List ℕ
  pub first_is : IsPrinted first tally.first
  pub last_is : IsPrinted last tally.last
  pub text : line ≡ name ++ codes " " ++ decimal tally.count ++ codes " " ++ first ++ codes " " ++ last ++ codes "\n"

-- tiers SHORT MEDIUM LONG
abbrev pub tiers_text : Tiers → List ℕ
tiers_text tiers = codes "tiers " ++ decimal tiers.short ++ codes " " ++ decimal tiers.medium ++ codes " " ++ decimal tiers.long ++ codes "\n"

-- the line of a variable of which all samples are held
pub record IsHeldLine (hours variable : ℕ) (line : List ℕ) : Type 0 where
  pub tally : Tally
  pub held : IsTally (samples hours variable) tally
  pub text : IsVariableLine (name_text variable) tally line

-- the lines of so many first variables, one after another
abbrev pub AreHeldLines : ℕ → ℕ → List ℕ → Type 0
AreHeldLines hours zero text = text ≡ []
AreHeldLines hours (suc variable) text = (front line : List ℕ) × AreHeldLines hours variable front × IsHeldLine hours variable line × (text ≡ front ++ line)

-- the lines of all variables, and the one of the files
pub record IsReport (hours : ℕ) (text : List ℕ) : Type 0 where
  pub lines : List ℕ
  pub tiers : Tiers
  pub held : AreHeldLines hours 4 lines
  pub settled : AreTiers hours tiers
  pub whole : text ≡ lines ++ tiers_text tiers
