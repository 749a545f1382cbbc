use Rattle.std.proofs.Common.{◌≡◌, ◌+◌, ◌≤◌, ◌++◌, length, take, vec_len, vec_capacity}
use Rattle.pv_name.specs.Key.{key_of}
use Rattle.pv_name.proofs.key.key_path.Given as goal

-- the key of the bytes so far is appended, and there is room for the rest
abbrev pub invariant-loop-byte : goal.invariant-loop-byte
invariant-loop-byte l = record {
  appended : l.out.items ≡ l.fn.out.items ++ key_of (take l.byte-index l.bytes);
  room : vec_len l.fn.out + length l.bytes ≤ vec_capacity l.out;
  so_far : vec_len l.out ≡ vec_len l.fn.out + l.byte-index;
}
