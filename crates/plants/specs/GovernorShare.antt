-- A governor share allows so much raise and so much lower, over the five services of each.
use Rattle.std.specs.Prelude.{ℕ, ◌+◌, Bool, ◌&&◌, nat_le}
use Rattle.limits.specs.Row.{amount}
use Rattle.limits.specs.declared.row.Row.{Row}
use Rattle.plants.specs.declared.governor_share.GovernorShare.{GovernorShare}

-- The five raise amounts together.
abbrev pub raises : Row → ℕ
raises row = amount row 0 + amount row 1 + amount row 2 + amount row 3 + amount row 4

-- The five lower amounts together.
abbrev pub lowers : Row → ℕ
lowers row = amount row 5 + amount row 6 + amount row 7 + amount row 8 + amount row 9

abbrev pub share_allows : GovernorShare → Row → Bool
share_allows plant row = nat_le (raises row) plant.raise && nat_le (lowers row) plant.lower
