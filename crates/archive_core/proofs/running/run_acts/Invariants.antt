use Rattle.std.proofs.Common.{◌≡◌, ◌≤◌, length, map, vec_len}
use Rattle.std.specs.Vec.{vec_capacity}
use Rattle.act_model.specs.Reply.{reply_of}
use Rattle.archive_core.specs.Parts.{parts}
use Rattle.archive_core.specs.Running.{MakesAll}
use Rattle.archive_core.proofs.running.run_acts.Given as goal

abbrev pub invariant-acts : goal.invariant-acts
invariant-acts g l = record {
  made : MakesAll g.D.Disk.tells (parts g.D.Disk l.fn.archive) l.yielded (map (reply_of g.D.Reader.ReadAt.tells g.D.Reader.ReadAt.bytes g.D.Reader.ReadAt.faults) l.answers.items) (parts g.D.Disk l.archive);
  many : vec_len l.answers ≡ length l.yielded;
  room : length l.fn.acts.items ≤ vec_capacity l.answers;
}
