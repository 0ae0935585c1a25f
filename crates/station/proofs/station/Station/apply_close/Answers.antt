use Rattle.std.proofs.Common.{◌≤◌, length, sym, take_all, rules}
use Rattle.std.proofs.lemmas.Bool.{le-ltb}
use Rattle.station.proofs.ByPass.{same_places}
use Rattle.station.proofs.station.Station.apply_close.Goals as goal

pub returns-in-Ok : goal.returns-in-Ok
returns-in-Ok g c =
    let ten : length c.close.new.table ≤ 10 = search rules in
    rw (sym (take_all 10 c.close.new.table ten)) (same_places g.P.PlantLimit.allowed c.args.self.now c.args.numbers 10 c.args.places _ c.close.new.self (sym (le-ltb c.args.places 10 c.if-places-lt10.false)) c.in-Ok.ensures.turn)

pub returns-in-Err : goal.returns-in-Err
returns-in-Err g c = rw c.take_apart.ensures (same_places g.P.PlantLimit.allowed c.args.self.now c.args.numbers 10 c.args.places _ c.close.new.self (sym (le-ltb c.args.places 10 c.if-places-lt10.false)) c.in-Err.ensures.turn)
