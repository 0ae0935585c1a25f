-- Whether a service is live, by what it has to offer.
use Rattle.std.specs.Prelude.{ℕ, Bool, is_none}
use Rattle.std.specs.Option.{option_map, unwrap_or}
use Rattle.fcas.specs.Live.{ground_number}
use Rattle.limits.specs.declared.terms.Offer.{Offer}

-- A service is live where nothing keeps it out.
abbrev pub live : Offer → Bool
live offer = is_none offer.kept_out

-- The number of the ground that keeps a service out, 0 for a live one.
abbrev pub ground_told : Offer → ℕ
ground_told offer = unwrap_or (option_map ground_number offer.kept_out) 0
