-- The claim without its definitions of places: after any calls, of an arrival that the premises allow, "octet j, true number start + j, lies at
-- the offset from RCV.NXT whose true number that is", and no other octet is in the new part. Assumes nothing.
use mathlib.Core.List.{List, [], ◌∷◌, ◌++◌}
use mathlib.Core.Path.{◌≡◌, ap, ◌∙◌}
use Prim.Native.Nat.{ℕ, ◌+◌, ◌≤◌, ◌<◌}
use native.Mathlib.Omega.{arith}
use Rattle.serial.specs.Serial.{moved_by, offset_of}
use Rattle.serial.proofs.Offset.{moved_offset, offset_moved}
use Rattle.connection.specs.Arriving.{Arrival}
use Rattle.connection.specs.Calls.{Incoming, arrived}
use Rattle.paws.specs.Claim.{EachInPlace, NoWrappedOctet, octet_at}
use Rattle.paws.specs.History.{Brings, Sent}
use Rattle.paws.specs.Premises.{Allowed, AllowedStep, Peer, SynCounts}
use Rattle.paws.specs.Runs.{Opening, Run, Step, Throughout, arrives, opened, ran}
use Rattle.paws.proofs.Steps.{later, then}
use Rattle.paws.proofs.Theorem.{no_wrapped_octet}

module _
    {history : List Sent} (peer : Peer history) (o : Opening history) (counts : SynCounts o.segment o.syn.sent)
    (steps : List (Step history)) (before : Throughout AllowedStep (opened o) steps)
    (clock : ℕ) (i : Incoming) (b : Brings history i) (allowed : Allowed (ran (opened o) steps) clock b.sent)
  where
    abbrev r : Run
    r = ran (opened o) steps

    abbrev a : Arrival
    a = arrived r.now clock i

    abbrev p : Sent
    p = b.sent

    abbrev nxt : ℕ
    nxt = r.now.receive.nxt.0

    abbrev seq : ℕ
    seq = b.fields.seq.0

    -- the offset from RCV.NXT at which octet j lies
    abbrev at : ℕ → ℕ
    at j = offset_of nxt (moved_by seq j)

    in_place : EachInPlace r (arrives clock i b)
    unfolding NoWrappedOctet
    in_place =
        let all = steps ++ (arrives clock i b ∷ []) in
        let each_allowed = then AllowedStep steps (arrives clock i b ∷ []) (opened o) before (allowed, tt) in
        (later EachInPlace steps (arrives clock i b ∷ []) (opened o) (no_wrapped_octet history peer o counts all each_allowed)).0

    pub octet_in_place : (j : ℕ) → j < p.len → a.part.from ≤ at j → at j < a.part.to → p.start + j ≡ r.nxt + at j
    unfolding octet_at
    octet_in_place j less from to =
        let short = peer.starts_near p p (p.start + j) b.in_history b.in_history (omega arith) (omega arith, omega arith) in
        let back : moved_by nxt (at j) ≡ moved_by seq j = omega (arith, moved_offset nxt (moved_by seq j)) in
        let same : octet_at r.now seq (at j) ≡ j = ap (offset_of seq) back ∙ offset_moved seq j (omega arith) in
        omega (arith, (in_place (at j) from to).true_number)

    -- the octet at an offset n of the new part: SEQ + j is the sequence number of that place
    pub record Filled (n : ℕ) : Type 0 where
      pub j : ℕ
      pub within : j < p.len
      pub there : moved_by seq j ≡ moved_by nxt n

    pub place_filled : (n : ℕ) → a.part.from ≤ n → n < a.part.to → Filled n
    unfolding octet_at
    place_filled n from to = record {
      j = octet_at r.now seq n;
      within = (in_place n from to).within;
      there = omega (arith, moved_offset seq (moved_by nxt n));
    }
