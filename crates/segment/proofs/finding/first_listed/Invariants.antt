-- What is found in the header is what is found from the place on.
use Rattle.std.proofs.Common.{◌≡◌, ◌-◌, drop, length}
use Rattle.segment.specs.Grammar.{padding_rule}
use Rattle.segment.specs.Options.{option_in}
use Rattle.segment.specs.Reading.{matching}
use Rattle.segment.proofs.finding.first_listed.Given as goal

abbrev pub invariant-loop-n : goal.invariant-loop-n
invariant-loop-n l =
    option_in (matching l.kinds) (padding_rule 20 (drop 20 l.header)) ≡ option_in (matching l.kinds) (padding_rule l.at (drop l.at l.header))

abbrev pub decreases-loop-n : goal.decreases-loop-n
decreases-loop-n l = length l.header - l.at
