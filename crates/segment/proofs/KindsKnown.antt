-- The kinds of the code are the known kinds. Assumes nothing.
use mathlib.Core.Bool.{true}
use mathlib.Core.Path.{◌≡◌, refl}
use Rattle.segment.specs.Kinds.{kind_number}
use Rattle.segment.specs.Options.{is_known, stands_in}
use Rattle.segment.specs.declared.kinds.Kind.{Kind}

pub kind_known : (kind : Kind) → is_known (kind_number kind) ≡ true
unfolding stands_in
kind_known Kind.Mss = refl
kind_known Kind.WindowScale = refl
kind_known Kind.SackPermitted = refl
kind_known Kind.Sack = refl
kind_known Kind.Timestamps = refl
