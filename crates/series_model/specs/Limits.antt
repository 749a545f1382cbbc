-- What an archive takes and holds at most. The code has each in `src/limits.rt`.
use Rattle.std.specs.Prelude.{ℕ}

-- bytes of samples that are held in memory, each line counted with its newline: 64 MiB
abbrev pub intake_room : ℕ
intake_room = 67_108_864

-- rows of a catalogue
abbrev pub most_rows : ℕ
most_rows = 65_536

-- partitions of one move
abbrev pub most_parts : ℕ
most_parts = 65_536

-- nanoseconds that a sample may be ahead of the clock: half an hour
abbrev pub ahead : ℕ
ahead = 1_800_000_000_000
