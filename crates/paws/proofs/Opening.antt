-- The invariant holds of a run at its opening. Assumes nothing.
use mathlib.Core.Bool.{false, false≢true}
use mathlib.Core.List.{List}
use mathlib.Core.Path.{◌≡◌, sym, ap, ◌∙◌}
use Prim.Native.Nat.{ℕ, ◌+◌, ◌%◌, ◌^◌, ◌≤◌}
use native.Mathlib.Omega.{arith}
use Rattle.laws.specs.Lists.{any}
use Rattle.serial.specs.Serial.{moved_by}
use Rattle.serial.specs.declared.Stamp.{Stamp}
use Rattle.serial.proofs.TrueNumbers.{moved_true}
use Rattle.offers.specs.Offers.{in_force}
use Rattle.receive.specs.Coverage.{is_held, is_in}
use Rattle.receive.specs.Sound.{Sound}
use Rattle.receive.proofs.Taken.{window_below}
use Rattle.segment.specs.declared.Segment.{Segment}
use Rattle.connection.specs.Calls.{Incoming, Way, opened_under, read, unread}
use Rattle.connection.specs.Opening.{peer_offers}
use Rattle.connection.specs.declared.Connection.{Connection}
use Rattle.connection.specs.declared.Setup.{Setup}
use Rattle.connection.proofs.Keeping.{opened_sound}
use Rattle.connection.proofs.Openings.{Opens, opening_opens, syn_counts_by_way}
use Rattle.paws.specs.History.{Brings, Sent}
use Rattle.paws.specs.Premises.{SynCounts}
use Rattle.paws.specs.Runs as runs
use Rattle.paws.specs.Runs.{Opening}
use Rattle.paws.proofs.Invariant.{Holds}

syn_filled : {history : List Sent} (way : Way) (own : Setup) (clock : ℕ) (i : Incoming) (b : Brings history i)
    → (opened_under way own clock i).number ≡ 0 → SynCounts i b.sent → 1 ≤ b.sent.len
syn_filled way own clock (unread octets) b opens counts = rw b.len at (syn_counts_by_way way own clock octets b.fields b.reads opens)
syn_filled way own clock (read s) b opens counts = omega arith

module _ {history : List Sent} (o : Opening history) (counts : SynCounts o.segment o.syn.sent) where
  abbrev syn : Segment
  syn = o.syn.fields

  abbrev k : Connection
  k = (opened_under o.way o.own o.clock o.segment).connection

  opens : Opens o.own o.clock syn (in_force o.own.offers (peer_offers syn)) k
  opens = opening_opens o.own o.clock syn o.way o.segment o.syn.reads o.opens

  side_sound : Sound k.receive
  side_sound = (opened_sound o.own o.clock o.way o.segment).receive_sound

  next_is : moved_by syn.seq.0 1 ≡ (o.syn.sent.start + 1) % 2 ^ 32
  next_is = moved_true syn.seq.0 o.syn.sent.start 1 o.syn.seq

  none_held : (x : ℕ) → is_held k.receive x ≡ false
  none_held x = ap (any (is_in x)) opens.no_ranges

  recent_is : k.timestamping.recent ≡ record { 0 = o.syn.sent.stamp % 2 ^ 32 }
  recent_is = opens.recent _ o.syn.echoed (sym opens.timestamps_in_force ∙ o.active) o.syn.stamp

  pub at_opening : Holds history (runs.opened o)
  at_opening = record {
    sound = side_sound;
    active = o.active;
    last = o.syn.sent.start + 1;
    last_is = opens.last_ack_sent ∙ next_is;
    nxt_is = opens.rcv_nxt ∙ next_is;
    recent_is = ap (λ (t : Stamp). t.0) recent_is;
    acknowledged = omega arith;
    offered = omega arith;
    in_window = omega (arith, opens.rcv_window);
    edge_most = omega (arith, opens.rcv_window, window_below k.receive side_sound);
    held_below = λ x held. absurd (false≢true (sym (none_held x) ∙ held));
    reached =
        record {
          high = o.syn.sent;
          sent = o.syn.in_history;
          not_above = omega arith;
          filled = syn_filled o.way o.own o.clock o.segment o.syn o.opens counts;
          near = omega arith;
          past = λ less. absurd (omega arith);
        };
  }
