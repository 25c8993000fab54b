-- Each field is read at the place of its option. Assumes nothing.
use mathlib.Core.Path.{refl, ap, ◌∙◌}
use Rattle.std.specs.Prelude.{is_some}
use Rattle.segment.specs.Options.{option_of, options_of, stands_in}
use Rattle.segment.proofs.HeldBlocks.{is_padded}
use Rattle.segment.proofs.Standing.{place_found}
use Rattle.segment.proofs.values.options.Goals as goal

pub returns : goal.returns
unfolding options_of stands_in
returns c = λ steps p all.
    let mss = c.mss.ensures (option_of 2 steps) (c.place.ensures ∙ p.places 2 refl) all.mss in
    let scale = c.scale.ensures (option_of 3 steps) (c.place-2.ensures ∙ p.places 3 refl) all.scale in
    let permitted = c.is_some.ensures ∙ ap is_some (c.place-3.ensures ∙ p.places 4 refl) ∙ place_found (option_of 4 steps) in
    let blocks = is_padded _ _ (c.sack_blocks.ensures (option_of 5 steps) (c.place-4.ensures ∙ p.places 5 refl) all.sack) in
    let timestamps = c.timestamps.ensures (option_of 8 steps) (c.place-5.ensures ∙ p.places 8 refl) all.timestamps in
    λ i. record { mss = mss i; scale = scale i; permitted = permitted i; blocks = blocks i; timestamps = timestamps i }
