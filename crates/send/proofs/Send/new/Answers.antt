-- Sound as `opened` is. Assumes nothing.
use Rattle.std.proofs.Common.{arith}
use Rattle.std.proofs.lemmas.Grind.{common_steps}
use Rattle.send.specs.Send.{opened}
use Rattle.send.proofs.Sound.{opened_sound}
use Rattle.send.proofs.Send.new.Goals as goal

pub returns-clause-sound : goal.returns-clause-sound
unfolding opened
returns-clause-sound c = grind (arith, common_steps, opened_sound c.args.iss.0 c.args.shift c.args.syn c.args.flag)
