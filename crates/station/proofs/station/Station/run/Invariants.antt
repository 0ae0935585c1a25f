use Rattle.std.proofs.Common.{◌≡◌, ◌≤◌, [], length, take, vec_items}
use Rattle.station.specs.Sound.{Sound, upon}
use Rattle.station.proofs.station.Station.run.Given as goal

abbrev pub invariant-loop-call : goal.invariant-loop-call
invariant-loop-call g l =
    (l.call-index ≤ length l.calls)
    × (length (vec_items l.answers) ≡ l.call-index)
    × Sound g.P.PlantLimit.allowed l.initial.number l.initial.first l.initial.station.plant (upon [] (take l.call-index l.calls) (vec_items l.answers)) l.station
