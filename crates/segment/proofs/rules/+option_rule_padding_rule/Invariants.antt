-- The measure is document 01's: twice the octets left, plus one in the padding rule.
use Rattle.std.proofs.Common.{◌+◌, ◌-◌, ◌*◌, length}
use Rattle.segment.proofs.rules.+option_rule_padding_rule.Given as goal

abbrev pub decreases-option_rule : goal.decreases-option_rule
decreases-option_rule l = 2 * (length l.header.now - l.at)

abbrev pub decreases-padding_rule : goal.decreases-padding_rule
decreases-padding_rule l = 2 * (length l.header.now - l.from) + 1
