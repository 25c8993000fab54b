-- What the definitions give is what the paper gives, case by case: by computation, and M10 by its four steps. Assumes nothing.
use Rattle.std.specs.Prelude.{ℕ, false, List, [], ◌∷◌, ◌≡◌, refl}
use Rattle.std.proofs.Math.Option.{Option-elim}
use Rattle.std.proofs.Common.{ap, ◌∙◌}
use Rattle.serial.specs.Serial.{distance_of, offset_of}
use Rattle.octets.specs.Octets.{big_endian, number_at}
use Rattle.segment.specs.Grammar.{is_broken, padding, padding_rule}
use Rattle.segment.specs.Options as options
use Rattle.segment.specs.Reading.{options_read, reading, segment_of}
use Rattle.writer.specs.Writing as writing
use Rattle.offers.specs.Offers.{exceed_limits, in_force, shifts_in_force}
use Rattle.receive.specs.Ranges.{held_of, is_out_of_order, joined, left_of, meets, no_room, range_of, ranges_after, ranges_of, right_of}
use Rattle.receive.specs.Taking as taking
use Rattle.receive.specs.Window as receive
use Rattle.send.specs.Send as send
use Rattle.timestamps.specs.Timestamps as timestamps
use Rattle.connection.specs.Arriving.{arriving, arriving_read, judged, settled, taken_by}
use Rattle.connection.specs.Calls.{called, run}
use Rattle.connection.specs.Cases as cases
use Rattle.connection.specs.Opening.{is_not_syn, is_wrong_ack, opening, opening_from, record_from, record_with}
use Rattle.connection.specs.Taking.{fed_by, record_after}
use Rattle.connection.specs.Verdict.{rows}
use Rattle.connection.specs.declared.Connection.{Connection}
use Rattle.acknowledgment.specs.Acknowledgment as ack
use Rattle.conformance.specs.Marked.{Case, at, opened, option_octets, own, paper, permitted, scaling, segment, send_fields, worked}
use Rattle.conformance.specs.Marked.Case.{M1, M2, M3, M4, M5, M6, M7, M8, M9, M10, M11, M12}
use Rattle.conformance.specs.Marked.Fact.{number, ranges}

-- M10 is computed segment by segment, since nothing is shared within one computation: this is the record after the segment at WL1, which
-- holds ranges of 500 numbers from these on. Whoever unfolds it unfolds all that the cases are computed with.
after : List ℕ → ℕ → Connection
unfolding send_fields scaling segment at own opened permitted option_octets distance_of offset_of big_endian number_at Option-elim
    is_broken padding padding_rule options.fault_at options.fault_in options.is_repeated options.is_wrong_length options.lengths_of
    options.option_in options.options_of options.stands_in options_read reading segment_of exceed_limits in_force shifts_in_force
    held_of is_out_of_order joined left_of meets no_room range_of ranges_after ranges_of right_of taking.advanced taking.holding taking.taken
    receive.acceptable receive.lacks_room receive.new_part receive.opened send.opened send.is_too_old send.is_new send.acknowledged send.is_current send.is_later
    send.updates_window send.windowed send.taken is_not_syn is_wrong_ack opening opening_from record_from record_with timestamps.opened
    timestamps.is_old timestamps.is_missing rows fed_by timestamps.is_recorded record_after timestamps.taken arriving arriving_read judged settled taken_by
    writing.header_written writing.mss_written writing.timestamps_written writing.scale_written writing.blocks_written writing.sack_written
    writing.others_written writing.fitting writing.options_written writing.written writing.writing ack.own_timestamps
    ack.own_blocks ack.own_options ack.acknowledging
after lefts wl1 =
    cases.record_holding 5500 65035 500 lefts wl1 (record { active = false; recent = record { 0 = 0 }; since = 0; offset = 0 })

steps : (called (opened []) (at 5000 500) ≡ after [] 5000)
    × (called (after [] 5000) (at 6000 500) ≡ after (6000 ∷ []) 6000)
    × (called (after (6000 ∷ []) 6000) (at 7000 500) ≡ after (7000 ∷ 6000 ∷ []) 7000)
    × (called (after (7000 ∷ 6000 ∷ []) 7000) (at 8000 500) ≡ after (8000 ∷ 7000 ∷ 6000 ∷ []) 8000)
unfolding after
steps = (refl, refl, refl, refl)

run_of_four : run (opened []) (at 5000 500 ∷ at 6000 500 ∷ at 7000 500 ∷ at 8000 500 ∷ []) ≡ after (8000 ∷ 7000 ∷ 6000 ∷ []) 8000
run_of_four =
    ap (λ k. run k (at 6000 500 ∷ at 7000 500 ∷ at 8000 500 ∷ [])) steps.0
    ∙ (ap (λ k. run k (at 7000 500 ∷ at 8000 500 ∷ [])) steps.1
    ∙ (ap (λ k. run k (at 8000 500 ∷ [])) steps.2 ∙ steps.3))

pub marked : (m : Case) → worked m ≡ paper m
unfolding worked paper after
marked M1 = refl
marked M2 = refl
marked M3 = refl
marked M4 = refl
marked M5 = refl
marked M6 = refl
marked M7 = refl
marked M8 = refl
marked M9 = refl
marked M10 = ap (λ k. number k.receive.nxt.0 ∷ ranges (ranges_of k.receive.held) ∷ []) run_of_four
marked M11 = refl
marked M12 = refl
