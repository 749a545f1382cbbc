use Rattle.act_model.specs.Reply.{reply_of}
use Rattle.archive_actors.specs.Steps.{SharedStands, SharedStep}
use Rattle.archive_actors.proofs.Learning.{acts_after_met, acts_after_parted}
use Rattle.archive_actors.proofs.laws.acts_come_after_those_known.Goals as goal

pub returns-clause-meets : goal.returns-clause-meets
returns-clause-meets g c rooms old new note =
    acts_after_met (SharedStep g.X.Applies.stands g.X.Applies.leaves g.X.Reader.ReadAt.tells g.X.Reader.ReadAt.bytes g.X.Reader.ReadAt.faults) (SharedStands g.X.Applies.stands) (reply_of g.X.Reader.ReadAt.tells g.X.Reader.ReadAt.bytes g.X.Reader.ReadAt.faults)
    (λ before after who n act answer step. step.0) (λ s m stood. g.X.Applies.sound s.archive m stood) rooms old new note

pub returns-clause-parts : goal.returns-clause-parts
returns-clause-parts g c rooms old new note =
    acts_after_parted (SharedStep g.X.Applies.stands g.X.Applies.leaves g.X.Reader.ReadAt.tells g.X.Reader.ReadAt.bytes g.X.Reader.ReadAt.faults) (SharedStands g.X.Applies.stands) (reply_of g.X.Reader.ReadAt.tells g.X.Reader.ReadAt.bytes g.X.Reader.ReadAt.faults)
    (λ before after who n act answer step. step.0) (λ s m stood. g.X.Applies.sound s.archive m stood) rooms old new note
