use Rattle.unit_cases.proofs.OnBoards.{no_other, of_another, unpinned}
use Rattle.unit_cases.proofs.board.Board.unpin_of.Goals as goal

pub returns-then-pin-ne0 : goal.returns-then-pin-ne0
returns-then-pin-ne0 c = no_other c.args.who c.args.self.now c.args.owner c.requires c.args.pin c.if-pin-ne0.true

pub returns-then-owner-who : goal.returns-then-owner-who
returns-then-owner-who c = rw c.if-pin-ne0.false (of_another c.args.who c.args.self.now c.args.owner c.requires c.if-owner-who.true)

pub returns : goal.returns
returns c = rw c.if-pin-ne0.false (unpinned c.args.who c.args.self.now c.args.owner c.requires c.if-owner-who.false)
