use Rattle.act_model.proofs.LivesLaws.{lives_sound, lives_last, lives_follow, lives_leave}
use Rattle.act_model.proofs.laws.lives_lose_nothing.Goals as goal

pub returns-clause-sound : goal.returns-clause-sound
returns-clause-sound c = lives_sound

pub returns-clause-durable : goal.returns-clause-durable
returns-clause-durable c = lives_last

pub returns-clause-accepted : goal.returns-clause-accepted
returns-clause-accepted c = lives_leave

pub returns-clause-follows : goal.returns-clause-follows
returns-clause-follows c = lives_follow
