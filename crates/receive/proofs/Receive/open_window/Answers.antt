-- Sound as `window_opened` is. Assumes nothing.
use Rattle.std.proofs.Common.{arith}
use Rattle.std.proofs.lemmas.Grind.{common_steps}
use Rattle.receive.specs.Window.{window_opened}
use Rattle.receive.proofs.Opening.{opened_window_sound}
use Rattle.receive.proofs.Receive.open_window.Goals as goal

pub returns-clause-sound : goal.returns-clause-sound
unfolding window_opened
returns-clause-sound c = grind (arith, common_steps, opened_window_sound c.args.self c.args.window c.requires)
