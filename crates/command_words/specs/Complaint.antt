-- The one line that tells why a command ended with a status other than 0.
use Rattle.std.specs.Prelude.{◌⊎◌, ℕ, List, [], ◌++◌, Option, codes, decimal}
use Rattle.std.specs.Io.KnownBytes.{Appends}
use Rattle.edge_io.specs.Stream.{Rose, AppendsFront}
use Rattle.pb_lines.specs.Fault.{fault_number}
use Rattle.command_words.specs.declared.status.Status.{Status}
use Rattle.partition_names.specs.Granularity.{text_of}
use Rattle.command_words.specs.declared.status.Status.TheVariants.{Done, Usage, Refused, NoSuchVariable, SourceFault, SinkFault, DiskFault, Damaged, OutOfMemory, GranularityDiffers, DoorFault, Spent}

-- nothing where the command was done
abbrev pub complaint_of : Status → List ℕ
complaint_of Done = []
complaint_of Usage = codes "archappl: usage: archappl extract FROM TO / ingest / get NAME FROM TO / etl / status / check / drill N / serve FEEDPORT HTTPPORT WORKERS LINKS / adopt\n"
complaint_of (Refused line fault) = codes "archappl: line " ++ decimal line ++ codes ": E" ++ decimal (fault_number fault) ++ codes "\n"
complaint_of NoSuchVariable = codes "archappl: no such variable\n"
complaint_of SourceFault = codes "archappl: input failed\n"
complaint_of SinkFault = codes "archappl: output failed\n"
complaint_of DiskFault = codes "archappl: disk failed\n"
complaint_of (Damaged name at) = codes "archappl: damaged: " ++ decimal name.0 ++ codes " " ++ name.1 ++ codes " at " ++ decimal at ++ codes "\n"
complaint_of OutOfMemory = codes "archappl: out of memory\n"
complaint_of DoorFault = codes "archappl: door failed\n"
complaint_of Spent = codes "archappl: acts are spent\n"
complaint_of (GranularityDiffers kept asked) = codes "archappl: granularity: kept " ++ text_of kept ++ codes ", asked " ++ text_of asked ++ codes "\n"

-- The text went out whole, or a front of it where the count of faults rose.
abbrev pub Complains : Option (List ℕ) → Option (List ℕ) → ℕ → ℕ → List ℕ → Type 0
Complains a b before now text = Appends a b text ⊎ (AppendsFront a b text × Rose before now)
