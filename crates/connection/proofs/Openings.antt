-- An opening (document 01, "Opening"): E9, reading, E10, E11 in this order, and the record of one that is not refused, field by field; of
-- octets and of fields read before. Assumes nothing.
use mathlib.Core.Bool.{Bool, true, false, cond, not, and-false, or-true}
use mathlib.Core.List.{List, []}
use mathlib.Core.Logic.{◌⊎◌, inl, inr}
use mathlib.Core.Option.{none, some, Option-elim}
use mathlib.Core.Path.{◌≡◌, refl, sym, ap, subst, ◌∙◌}
use Prim.Native.Nat.{ℕ, ◌+◌, ◌%◌, ◌^◌, ◌<◌, ◌≤◌}
use native.Mathlib.Omega.{arith}
use borrow.Author.Tests.{eq-eqb, ne_eqb, not-false}
use Rattle.std.specs.Prelude.{Option, None, Some}
use Rattle.laws.proofs.Choices.{either, if_some, neither}
use Rattle.serial.specs.declared.Stamp.{Stamp}
use Rattle.offers.specs.Offers.{exceed_limits, in_force}
use Rattle.offers.specs.declared.InForce.{InForce}
use Rattle.offers.proofs.Limits.{shifts_most, window_most}
use Rattle.receive.specs.Ranges.{held_of, ranges_of}
use Rattle.receive.specs.Window as receive
use Rattle.segment.specs.Reading.{reading}
use Rattle.segment.specs.declared.Segment.{Segment}
use Rattle.segment.specs.declared.Timestamps.{Timestamps}
use Rattle.segment.proofs.Readable.{readable}
use Rattle.segment.proofs.Refused.{read_whole, reading_alone}
use Rattle.send.specs.Send as send
use Rattle.timestamps.specs.Timestamps as timestamps
use Rattle.connection.specs.declared.Connection.{Connection}
use Rattle.connection.specs.declared.Setup.{Setup}
use Rattle.connection.specs.Opening.{OpeningAnswer, exceeds_limits, is_not_syn, is_wrong_ack, mss_of, opening, opening_from, opening_read, peer_offers, record_from, record_with, refused_opening, tsval_of}
use Rattle.connection.specs.Calls.{Incoming, Way, fields_of, opened_by, opened_under, plain, profile, read, unread}
use Rattle.connection.proofs.Incoming.{opened_by_fields, profiled_cases}

-- the tests of E10 and E11
module _ (iss : ℕ) (syn : Segment) where
  not_syn_if : (syn.flags.syn ≡ false) ⊎ (syn.flags.rst ≡ true) → is_not_syn syn ≡ true
  unfolding is_not_syn
  not_syn_if (inl lacks) = rw lacks
  not_syn_if (inr has) = rw has (or-true (not syn.flags.syn))

  syn_if : syn.flags.syn ≡ true → syn.flags.rst ≡ false → is_not_syn syn ≡ false
  unfolding is_not_syn
  syn_if is_syn no_rst = rw (is_syn, no_rst)

  wrong_ack_if : syn.flags.ack ≡ true → (syn.ack.0 ≡ (iss + 1) % 2 ^ 32 → ⊥) → is_wrong_ack iss syn ≡ true
  unfolding is_wrong_ack
  wrong_ack_if has wrong = rw (has, ne_eqb syn.ack.0 ((iss + 1) % 2 ^ 32) wrong)

  right_ack_if : (syn.flags.ack ≡ false) ⊎ (syn.ack.0 ≡ (iss + 1) % 2 ^ 32) → is_wrong_ack iss syn ≡ false
  unfolding is_wrong_ack
  right_ack_if (inl lacks) = rw lacks
  right_ack_if (inr right) = rw (eq-eqb syn.ack.0 ((iss + 1) % 2 ^ 32) right) (and-false syn.flags.ack)

module _ (own : Setup) (clock : ℕ) where
  -- no number above 11
  abbrev Most : OpeningAnswer → Type 0
  Most a = a.number ≤ 11

  from_most : (syn : Segment) → Most (opening_from own clock syn)
  unfolding opening_from
  from_most syn =
      either Most (is_not_syn syn) _ _ (λ _. omega arith)
      (λ _. either Most (is_wrong_ack own.iss.0 syn) _ _ (λ _. omega arith) (λ _. omega arith))

  pub opening_most : (i : Incoming) → (opened_by own clock i).number ≤ 11
  unfolding opening opening_read
  opening_most (unread octets) =
      either Most (exceeds_limits own) _ _ (λ _. omega arith)
      (λ _. if_some Most (reading octets).fields _ _ (omega (arith, (reading_alone octets).number_most)) from_most)
  opening_most (read syn) = either Most (exceeds_limits own) _ _ (λ _. omega arith) (λ _. from_most syn)

  -- E9, whatever the segment is
  pub limits_refused : (i : Incoming) → exceed_limits own.offers own.window ≡ true → (opened_by own clock i).number ≡ 9
  unfolding opening opening_read
  limits_refused (unread octets) exceeds =
      let read = Option-elim (reading octets).fields (refused_opening (reading octets).number (reading octets).place) (opening_from own clock) in
      ap (λ b. (cond b (refused_opening 9 none) read).number) exceeds
  limits_refused (read syn) exceeds = ap (λ b. (cond b (refused_opening 9 none) (opening_from own clock syn)).number) exceeds

  module _ (within : exceed_limits own.offers own.window ≡ false) where
    -- reading's refusals
    pub unreadable_not_opened : (octets : List ℕ) → (reading octets).fields ≡ none
        → (opened_by own clock (unread octets)).number ≡ (reading octets).number
    unfolding opening Option-elim
    unreadable_not_opened octets is = rw (within, is)

    module _ (i : Incoming) (syn : Segment) (is : fields_of i ≡ some syn) where
      by_tests : (not_syn wrong_ack : Bool) → is_not_syn syn ≡ not_syn → is_wrong_ack own.iss.0 syn ≡ wrong_ack
          → (opened_by own clock i).number ≡ cond not_syn 10 (cond wrong_ack 11 0)
      unfolding opening_read opening_from
      by_tests true w e f = ap (λ (a : OpeningAnswer). a.number) (opened_by_fields own clock i syn is) ∙ rw (within, e)
      by_tests false true e f = ap (λ (a : OpeningAnswer). a.number) (opened_by_fields own clock i syn is) ∙ rw (within, e, f)
      by_tests false false e f = ap (λ (a : OpeningAnswer). a.number) (opened_by_fields own clock i syn is) ∙ rw (within, e, f)

      -- E10: lacks SYN, or has RST
      pub not_syn_refused : (syn.flags.syn ≡ false) ⊎ (syn.flags.rst ≡ true) → (opened_by own clock i).number ≡ 10
      not_syn_refused lacks = by_tests true (is_wrong_ack own.iss.0 syn) (not_syn_if own.iss.0 syn lacks) refl

      -- a SYN without RST
      module _ (is_syn : syn.flags.syn ≡ true) (no_rst : syn.flags.rst ≡ false) where
        -- E11: has ACK and its ACK is not ISS+1
        pub wrong_ack_refused : syn.flags.ack ≡ true → (syn.ack.0 ≡ (own.iss.0 + 1) % 2 ^ 32 → ⊥) → (opened_by own clock i).number ≡ 11
        wrong_ack_refused has wrong = by_tests false true (syn_if own.iss.0 syn is_syn no_rst) (wrong_ack_if own.iss.0 syn has wrong)

        pub not_refused : (syn.flags.ack ≡ false) ⊎ (syn.ack.0 ≡ (own.iss.0 + 1) % 2 ^ 32) → (opened_by own clock i).number ≡ 0
        not_refused right = by_tests false false (syn_if own.iss.0 syn is_syn no_rst) (right_ack_if own.iss.0 syn right)

-- an opening that is not refused is past E9 and from a SYN, and gives the record of document 01's "Opening"
pub record Gives (own : Setup) (clock : ℕ) (syn : Segment) (a : OpeningAnswer) : Type 0 where
  pub within_limits_lem : exceed_limits own.offers own.window ≡ false
  pub from_syn : syn.flags.syn ≡ true
  pub record_is : a.connection ≡ record_from own clock syn

pub opening_gives : (own : Setup) (clock : ℕ) (syn : Segment) → (opening_read own clock syn).number ≡ 0
    → Gives own clock syn (opening_read own clock syn)
unfolding opening_read opening_from is_not_syn
opening_gives own clock syn =
    either Given (exceeds_limits own) _ _ (λ _ e. absurd (omega arith))
    (λ within.
    either Given (is_not_syn syn) _ _ (λ _ e. absurd (omega arith))
    (λ is_syn.
    either Given (is_wrong_ack own.iss.0 syn) _ _ (λ _ e. absurd (omega arith))
    (λ _ e. record {
      within_limits_lem = within;
      from_syn = not-false _ (neither (not syn.flags.syn) syn.flags.rst is_syn).0;
      record_is = refl;
    })))
  where
    Given : OpeningAnswer → Type 0
    Given a = a.number ≡ 0 → Gives own clock syn a

-- SYN counts in the LEN of a segment that is read from octets
pub syn_counts : (own : Setup) (clock : ℕ) (octets : List ℕ) (syn : Segment) → fields_of (unread octets) ≡ some syn
    → (opened_by own clock (unread octets)).number ≡ 0 → 0 < syn.len
syn_counts own clock octets syn is opens =
    let by = opened_by_fields own clock (unread octets) syn is in
    let gives = opening_gives own clock syn (sym (ap (λ (a : OpeningAnswer). a.number) by) ∙ opens) in
    let len = (readable octets syn (read_whole octets syn is)).len_is in
    let counted : ◌≡◌ {A = ℕ} (cond syn.flags.syn 1 0) 1 = ap (λ b. cond b 1 0) gives.from_syn in
    omega arith

-- what opens by either way opens without the profile
opens_plain : (way : Way) (own : Setup) (clock : ℕ) (i : Incoming) → (opened_under way own clock i).number ≡ 0 → (opened_by own clock i).number ≡ 0
opens_plain plain own clock i opens = opens
opens_plain profile own clock i opens =
    profiled_cases (λ a. a.opening.number ≡ 0 → (opened_by own clock i).number ≡ 0) own clock i (λ e. e) (λ opens _ _ _ _ _. opens) opens

-- the same by either way
pub syn_counts_by_way : (way : Way) (own : Setup) (clock : ℕ) (octets : List ℕ) (syn : Segment) → fields_of (unread octets) ≡ some syn
    → (opened_under way own clock (unread octets)).number ≡ 0 → 1 ≤ syn.len
syn_counts_by_way way own clock octets syn is opens =
    let counts = syn_counts own clock octets syn is (opens_plain way own clock (unread octets) opens) in
    omega arith

-- what the peer's SYN offers: what it has
module _ (syn : Segment) where
  pub scale_offered : (peer_offers syn).scale ≡ syn.options.scale
  scale_offered = refl

  pub timestamps_offered : (value echoed : Stamp) → syn.options.timestamps ≡ Some (record { value = value; echoed = echoed })
      → (peer_offers syn).timestamps ≡ true
  timestamps_offered value echoed has = rw has

  pub timestamps_not_offered : syn.options.timestamps ≡ None → (peer_offers syn).timestamps ≡ false
  timestamps_not_offered lacks = rw lacks

  pub sack_offered : (peer_offers syn).sack ≡ syn.options.permitted
  sack_offered = refl

-- the record that is opened, in document 01's order
pub record Opens (own : Setup) (clock : ℕ) (syn : Segment) (force : InForce) (k : Connection) : Type 0 where
  pub rcv_shift : k.receive.shift ≡ force.shifts.receive
  pub snd_shift : k.send.shift ≡ force.shifts.send
  pub timestamps_in_force : k.timestamping.active ≡ force.timestamps
  pub sack_in_force : k.sack ≡ force.sack
  pub rcv_nxt : k.receive.nxt.0 ≡ (syn.seq.0 + 1) % 2 ^ 32
  pub last_ack_sent : k.receive.acked.0 ≡ (syn.seq.0 + 1) % 2 ^ 32
  pub rcv_window : k.receive.window ≡ own.window
  pub snd_nxt : k.send.nxt.0 ≡ (own.iss.0 + 1) % 2 ^ 32
  pub una_with_ack : syn.flags.ack ≡ true → k.send.una.0 ≡ (own.iss.0 + 1) % 2 ^ 32
  pub una_without : syn.flags.ack ≡ false → k.send.una.0 ≡ own.iss.0
  pub snd_window : k.send.window ≡ syn.window
  pub snd_largest : k.send.largest ≡ syn.window
  pub wl1 : k.send.wl1 ≡ syn.seq
  pub wl2_with_ack : syn.flags.ack ≡ true → k.send.wl2.0 ≡ syn.ack.0
  pub wl2_without : syn.flags.ack ≡ false → k.send.wl2.0 ≡ own.iss.0
  pub recent : (value echoed : Stamp) → force.timestamps ≡ true → syn.options.timestamps ≡ Some (record { value = value; echoed = echoed })
      → k.timestamping.recent ≡ value
  pub recent_none : force.timestamps ≡ false → k.timestamping.recent.0 ≡ 0
  pub since : k.timestamping.since ≡ clock
  pub offset : k.timestamping.offset ≡ own.offset
  pub mss : (n : ℕ) → syn.options.mss ≡ Some n → k.mss ≡ n
  pub mss_none : syn.options.mss ≡ None → k.mss ≡ 536
  pub no_ranges : ranges_of k.receive.held ≡ []
  pub timer : k.timer ≡ record { srtt = 0; rttvar = 0; sampled = false; timeout = 1000 }

module _ (own : Setup) (clock : ℕ) (syn : Segment) where
  abbrev force : InForce
  force = in_force own.offers (peer_offers syn)

  abbrev stamp_of : Option Timestamps → Stamp
  stamp_of stamps = timestamps.stamp_of (tsval_of stamps)

  record_opens : exceed_limits own.offers own.window ≡ false → Opens own clock syn force (record_from own clock syn)
  unfolding record_from record_with receive.opened send.opened timestamps.opened ranges_of held_of
  record_opens within =
      let shifts = shifts_most own.offers (peer_offers syn) own.window within in
      let window = window_most own.offers own.window within in
      record {
        rcv_shift = omega (arith, shifts.0);
        snd_shift = omega (arith, shifts.1);
        timestamps_in_force = refl;
        sack_in_force = refl;
        rcv_nxt = refl;
        last_ack_sent = refl;
        rcv_window = omega (arith, window);
        snd_nxt = refl;
        una_with_ack = ap (λ b. cond b ((own.iss.0 + 1) % 2 ^ 32) own.iss.0);
        una_without = ap (λ b. cond b ((own.iss.0 + 1) % 2 ^ 32) own.iss.0);
        snd_window = refl;
        snd_largest = refl;
        wl1 = refl;
        wl2_with_ack = ap (λ b. cond b syn.ack.0 own.iss.0);
        wl2_without = ap (λ b. cond b syn.ack.0 own.iss.0);
        recent =
            λ value echoed active has.
            ap (λ b. cond b (stamp_of syn.options.timestamps) (record { 0 = 0 })) active ∙ ap stamp_of has;
        recent_none = ap (λ b. (cond b (stamp_of syn.options.timestamps) (record { 0 = 0 })).0);
        since = refl;
        offset = refl;
        mss = λ n. ap mss_of;
        mss_none = ap mss_of;
        no_ranges = refl;
        timer = refl;
      }

  opens_by : (i : Incoming) → fields_of i ≡ some syn → (opened_by own clock i).number ≡ 0
      → Opens own clock syn force (opened_by own clock i).connection
  opens_by i is opens =
      let by = opened_by_fields own clock i syn is in
      let gives = opening_gives own clock syn (sym (ap (λ (a : OpeningAnswer). a.number) by) ∙ opens) in
      let same = ap (λ (a : OpeningAnswer). a.connection) by ∙ gives.record_is in
      subst (Opens own clock syn force) (sym same) (record_opens gives.within_limits_lem)

  -- by either way
  pub opening_opens : (way : Way) (i : Incoming) → fields_of i ≡ some syn → (opened_under way own clock i).number ≡ 0
      → Opens own clock syn force (opened_under way own clock i).connection
  opening_opens plain i is opens = opens_by i is opens
  opening_opens profile i is opens =
      profiled_cases (λ a. a.opening.number ≡ 0 → Opens own clock syn force a.opening.connection) own clock i
      (opens_by i is) (λ _ _ _ _ _ e. absurd (omega arith)) opens
