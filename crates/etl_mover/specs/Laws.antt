-- What holds of all moves, over lists of samples.
use Rattle.std.specs.Prelude.{◌≡◌, ◌≤◌, List, [], ◌++◌}
use Rattle.series_model.specs.declared.sample.Sample.{Sample}
use Rattle.series_model.specs.Series.{since, end_of, IsRising}
use Rattle.etl_mover.specs.Moving.{whole, IsMoving}

-- one step of copying
abbrev pub CopiesOn : Type 0
CopiesOn = (destination parts copied more left : List Sample) → IsMoving destination parts copied (more ++ left) → IsMoving destination parts (copied ++ more) left

-- what is left is what the parts have later than the destination's last and than all that was copied
abbrev pub RestIsRemaining : Type 0
RestIsRemaining = (destination parts copied left : List Sample) → IsMoving destination parts copied left → left ≡ since (end_of (destination ++ copied)) parts

-- a flush may append to a part meanwhile
abbrev pub FlushedBeside : Type 0
FlushedBeside = (destination parts more copied left : List Sample) → IsMoving destination parts copied left → IsRising (parts ++ more) → IsMoving destination (parts ++ more) copied (left ++ since (end_of destination) more)

-- the destination rises with what was copied
abbrev pub StillRises : Type 0
StillRises = (destination parts copied left : List Sample) → IsRising destination → IsMoving destination parts copied left → IsRising (destination ++ copied)

-- what was copied may be listed at any time, from store 1 to store 2
abbrev pub PublishedFromShort : Type 0
PublishedFromShort = (long medium parts rest copied left : List Sample) → IsRising medium → IsRising (parts ++ rest) → IsMoving medium parts copied left → whole long (medium ++ copied) (parts ++ rest) ≡ whole long medium (parts ++ rest)

-- and from store 2 to store 3
abbrev pub PublishedFromMedium : Type 0
PublishedFromMedium = (long parts rest short copied left : List Sample) → IsRising (parts ++ rest) → IsMoving long parts copied left → whole (long ++ copied) (parts ++ rest) short ≡ whole long (parts ++ rest) short

-- once all is published the destination covers the parts
abbrev pub AllPublished : Type 0
AllPublished = (destination parts copied : List Sample) → IsMoving destination parts copied [] → end_of parts ≤ end_of (destination ++ copied)

-- parts that the destination covers may leave store 1
abbrev pub RetiredFromShort : Type 0
RetiredFromShort = (long medium parts rest : List Sample) → IsRising medium → IsRising parts → end_of parts ≤ end_of medium → whole long medium (parts ++ rest) ≡ whole long medium rest

-- and store 2
abbrev pub RetiredFromMedium : Type 0
RetiredFromMedium = (long parts rest short : List Sample) → IsRising parts → end_of parts ≤ end_of long → whole long (parts ++ rest) short ≡ whole long rest short
