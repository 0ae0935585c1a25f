-- One of the plant limits, chosen as a program runs.
use Rattle.std.specs.Prelude.{Bool, true, ◌&&◌}
use Rattle.limits.specs.declared.row.Row.{Row}
use Rattle.plants.specs.ConnectionCap.{cap_allows}
use Rattle.plants.specs.GovernorShare.{share_allows}
use Rattle.plants.specs.declared.choice.PlantChoice.{PlantChoice}
use Rattle.plants.specs.declared.choice.PlantChoice.TheVariants.{Bare, Cap, Share, CapAndShare}

-- It allows what the limit that was chosen allows.
abbrev pub choice_allows : PlantChoice → Row → Bool
choice_allows (Bare bare) row = true
choice_allows (Cap cap) row = cap_allows cap row
choice_allows (Share share) row = share_allows share row
choice_allows (CapAndShare both) row = cap_allows both.0 row && share_allows both.1 row
