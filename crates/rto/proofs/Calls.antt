-- A run over two lists is a run over the first, then over the second. Assumes nothing.
use mathlib.Core.List.{List, [], ◌∷◌, ◌++◌}
use mathlib.Core.Path.{◌≡◌, refl}
use Rattle.rto.specs.declared.Timer.{Timer}
use Rattle.rto.specs.Calls.{Call, called, run}

pub run_append : (t : Timer) (cs ds : List Call) → run t (cs ++ ds) ≡ run (run t cs) ds
run_append t [] ds = refl
run_append t (c ∷ cs) ds = run_append (called t c) cs ds
