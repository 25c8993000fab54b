-- `fixed_header::flags_octet` meets its contract. Assumes nothing.
use mathlib.Core.Bool.{Bool, true, false, cond}
use mathlib.Core.Path.{◌≡◌, ◌∙◌, ap}
use Prim.Native.Nat.{ℕ, ◌*◌}
use native.Mathlib.Omega.{arith}
use Rattle.std.specs.Int.{from_bool}
use Rattle.writer.specs.Writing.{flags_written}
use Rattle.writer.proofs.fixed_header.flags_octet.Goals as goal

worth : (flag : Bool) (n : ℕ) {bit : ℕ} → bit ≡ from_bool flag → bit * n ≡ cond flag n 0
worth true n e = ap (λ (b : ℕ). b * n) e ∙ omega arith
worth false n e = ap (λ (b : ℕ). b * n) e ∙ omega arith

pub returns : goal.returns
unfolding flags_written
returns c =
    let f = c.args.flags in
    omega (
      arith,
      worth f.cwr 128 c.from.ensures,
      worth f.ece 64 c.from-2.ensures,
      worth f.urg 32 c.from-3.ensures,
      worth f.ack 16 c.from-4.ensures,
      worth f.psh 8 c.from-5.ensures,
      worth f.rst 4 c.from-6.ensures,
      worth f.syn 2 c.from-7.ensures,
      worth f.fin 1 c.from-8.ensures,
    )
