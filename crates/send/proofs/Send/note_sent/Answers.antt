-- Sound as `sent` is. Assumes nothing.
use Rattle.std.proofs.Common.{arith}
use Rattle.std.proofs.lemmas.Grind.{common_steps}
use Rattle.send.specs.Send.{sent}
use Rattle.send.proofs.Sound.{sent_sound}
use Rattle.send.proofs.Send.note_sent.Goals as goal

pub returns-clause-sound : goal.returns-clause-sound
unfolding sent
returns-clause-sound c = grind (arith, common_steps, sent_sound c.args.self c.args.n c.requires)
