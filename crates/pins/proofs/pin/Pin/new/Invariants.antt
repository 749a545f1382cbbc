use Rattle.std.proofs.Common.{◌≡◌, take}
use Rattle.pins.proofs.pin.Pin.new.Given as goal

-- the files so far are copied
abbrev pub invariant-loop-file : goal.invariant-loop-file
invariant-loop-file l = l.names.items ≡ take l.file-index l.files
