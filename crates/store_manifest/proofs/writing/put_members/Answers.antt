use Rattle.std.specs.Int.{to_le_bytes, w32, w64}
use Rattle.store_manifest.specs.Batches.{members_of}
use Rattle.store_manifest.proofs.Written.{joined}
use Rattle.store_manifest.proofs.writing.put_members.Goals as goal

pub returns-clause-bytes : goal.returns-clause-bytes
unfolding members_of
returns-clause-bytes c =
    joined
    c.args.out.now.items
    _
    _
    _
    _
    (to_le_bytes w32 c.args.entry.now.series)
    (to_le_bytes w64 c.args.entry.now.part.start)
    _
    _
    _
    _
    _
    c.in_ok-put_place.ensures
    c.in_ok-extend_from_slice.ensures.items
    c.to_le_bytes.ensures
    c.in_ok-extend_from_slice-2.ensures.items
    c.to_le_bytes-2.ensures
    c.in_ok-put_samples.ensures
