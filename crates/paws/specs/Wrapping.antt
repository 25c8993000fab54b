-- A worked case in which the sequence numbers wrap: after a SYN at 4999 the peer sends 2^17 segments of 2^15 octets, one tick apart. Each
-- arrives, the window is opened again, and an acknowledgment is written; then the first of them arrives once more.
use Rattle.std.specs.Prelude.{List, [], ◌∷◌, ℕ, zero, suc, ◌+◌, ◌*◌, ◌^◌}
use Rattle.paws.specs.History.{Sent}

-- 2^15 octets
abbrev pub size : ℕ
size = 32768

abbrev pub syn : Sent
syn = record { start = 4999; len = 1; stamp = 50 }

-- the segment after j others
abbrev pub piece : ℕ → Sent
piece j = record { start = 5000 + j * size; len = size; stamp = 51 + j }

-- n segments, from that one on
unfoldable pub pieces_from : ℕ → ℕ → List Sent
pieces_from j zero = []
pieces_from j (suc n) = piece j ∷ pieces_from (suc j) n

unfoldable pub history : List Sent
history = syn ∷ pieces_from 0 (2 ^ 17)
