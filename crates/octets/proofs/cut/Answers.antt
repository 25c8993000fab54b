-- The octets that lie within, and octets 0 after them. Assumes nothing.
use Rattle.std.proofs.Common.{◌-◌, ◌++◌, ap, ◌∙◌, drop, length}
use Rattle.std.proofs.lemmas.List.{take_rest}
use Rattle.std.proofs.Math.ListN.{replicate}
use Rattle.octets.proofs.Parts.{octets_cut, octets_past}
use Rattle.octets.proofs.cut.Goals as goal

pub returns-then-at-octets : goal.returns-then-at-octets
returns-then-at-octets g c =
    let a = c.args in
    ap (λ l. l ++ drop (length a.octets.now - a.at) (replicate g.row.N 0)) (c.copy_from_slice.ensures.after ∙ take_rest a.octets.now a.at)
    ∙ octets_cut g.row.N a.at a.octets.now c.if-at-octets.true c.requires

pub returns-else-at-octets : goal.returns-else-at-octets
returns-else-at-octets g c = octets_past g.row.N c.args.at c.args.octets.now c.if-at-octets.false
