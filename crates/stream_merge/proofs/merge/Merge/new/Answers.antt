use Rattle.std.proofs.Common.{None, refl, ap}
use Rattle.stream_merge.specs.declared.merge.Merge.{Merge}
use Rattle.stream_merge.specs.declared.source.SampleSource.{SampleSource}
use Rattle.stream_merge.proofs.Giving.{rest_whole}
use Rattle.stream_merge.proofs.Answered.{given_first}
use Rattle.stream_merge.proofs.merge.Merge.new.Goals as goal

pub returns-clause-whole : goal.returns-clause-whole
returns-clause-whole g c ps lists are last =
    let m : Merge g.row.R.Denot = record { query = c.args.query; source = c.new.result; last = None; kept = None; kept_line = c.new-2.result } in
    let s : SampleSource g.row.R.Denot = record { alloc = c.args.alloc; ty = c.args.ty; piece = None; tail = c.into_vec.result; at = 0 } in
    rest_whole g.R.ReadAt.bytes m s c.args.query ps lists c.args.tail c.new.ensures refl refl refl refl c.into_vec.ensures are last

pub returns-clause-nothing : goal.returns-clause-nothing
returns-clause-nothing g c left =
    let m : Merge g.row.R.Denot = record { query = c.args.query; source = c.new.result; last = None; kept = None; kept_line = c.new-2.result } in
    let is = c.new.ensures in
    given_first g.R.ReadAt.bytes m c.new.result left refl refl refl (ap (λ (s : SampleSource g.row.R.Denot). s.piece) is) (ap (λ (s : SampleSource g.row.R.Denot). s.at) is)
