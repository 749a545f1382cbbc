-- The paths of files.
use Rattle.std.specs.Prelude.{ℕ, List, ◌++◌, codes}
use Rattle.pv_name.specs.Key.{key_of}

-- the path of a variable's file of one partition: its key, a colon, the partition's name and .pb
abbrev pub path_of : List ℕ → List ℕ → List ℕ
path_of name part = key_of name ++ codes ":" ++ part ++ codes ".pb"
