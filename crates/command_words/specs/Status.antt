-- The numbers that the program ends with.
use Rattle.std.specs.Prelude.{ℕ}
use Rattle.command_words.specs.declared.status.Status.{Status}
use Rattle.command_words.specs.declared.status.Status.TheVariants.{Done, Usage, Refused, NoSuchVariable, SourceFault, SinkFault, DiskFault, Damaged, OutOfMemory, GranularityDiffers, DoorFault, Spent}

abbrev pub number_of : Status → ℕ
number_of Done = 0
number_of Usage = 2
number_of (Refused line fault) = 3
number_of NoSuchVariable = 4
number_of SourceFault = 5
number_of SinkFault = 6
number_of DiskFault = 7
number_of (Damaged name at) = 8
number_of OutOfMemory = 9
number_of DoorFault = 11
number_of (GranularityDiffers kept asked) = 12
number_of Spent = 13
