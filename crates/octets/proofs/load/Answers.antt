-- All the octets lie within, or some lie past the end. Assumes nothing.
use Rattle.std.proofs.Common.{◌≡◌, ◌+◌, ◌-◌, ◌∙◌, ap, take, drop, arith}
use Rattle.octets.proofs.Parts.{octets_whole}
use Rattle.octets.proofs.load.Goals as goal

pub returns : goal.returns
returns g c =
    let a = c.args in
    let count : a.at + g.row.N - a.at ≡ g.row.N = omega arith in
    c.copy_from_slice.ensures.after ∙ ap (λ n. take n (drop a.at a.octets.now)) count
    ∙ octets_whole g.row.N a.at a.octets.now (omega arith)
