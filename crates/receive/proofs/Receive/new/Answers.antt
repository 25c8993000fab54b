-- Sound as `opened` is. Assumes nothing.
use Rattle.std.proofs.Common.{arith}
use Rattle.std.proofs.lemmas.Grind.{common_steps}
use Rattle.receive.specs.Window.{opened}
use Rattle.receive.proofs.Opening.{opened_sound}
use Rattle.receive.proofs.Receive.new.Goals as goal

pub returns-clause-sound : goal.returns-clause-sound
unfolding opened
returns-clause-sound c =
    grind (arith, common_steps, opened_sound c.args.nxt.0 c.args.window c.args.shift (omega arith))
