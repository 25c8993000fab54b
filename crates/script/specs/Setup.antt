-- What an opening is given, as a script's call holds it (docs/REPLAY.md): ISS (4 octets), shift (1), offers (1), first receive window (4),
-- offset of our timestamps (4).
use Rattle.std.specs.Prelude.{Bool, cond, List, ℕ, ◌/◌, ◌%◌, eqb, get_or, Option, None, Some}
use Rattle.octets.specs.Octets.{number_at}
use Rattle.offers.specs.declared.Offers.{Offers}
use Rattle.connection.specs.declared.Setup.{Setup}

abbrev pub scale_in : ℕ → Bool → Option ℕ
scale_in shift offered = cond offered (Some shift) None

-- bit 0 timestamps, bit 1 SACK, bit 2 window scale
abbrev pub offers_in : ℕ → ℕ → Offers
offers_in shift bits = record {
  scale = scale_in shift (eqb (bits / 4 % 2) 1);
  timestamps = eqb (bits % 2) 1;
  sack = eqb (bits / 2 % 2) 1;
}

unfoldable pub setup_in : List ℕ → Setup
setup_in body = record {
  iss = record { 0 = number_at 4 body 0 };
  offers = offers_in (get_or body 4 0) (get_or body 5 0);
  window = number_at 4 body 6;
  offset = number_at 4 body 10;
}
