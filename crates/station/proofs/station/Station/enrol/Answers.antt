use Rattle.std.proofs.Common.{◌<◌, [], ◌∷◌, ◌++◌, length, is_some, Some, refl, ap, ◌∙◌, rules}
use Rattle.fcas.specs.Kind.{kind_faults}
use Rattle.fcas.specs.declared.kind.Kind.{Kind}
use Rattle.station.specs.Book.{enter, unit_faults}
use Rattle.station.specs.Entry.{enrolled}
use Rattle.station.specs.View.{view_of}
use Rattle.station.specs.declared.call.Call.TheVariants.{Enrol}
use Rattle.station.proofs.Firsts.{first_skip}
use Rattle.station.proofs.Turns.{by_unit, kind_is}
use Rattle.station.proofs.station.Station.enrol.Goals as goal

pub returns : goal.returns
returns g c =
    let within : c.args.unit < length c.args.self.now.rows = search rules in
    by_unit g.P.PlantLimit.allowed c.args.self.now c.args.unit c.index-self-unit.result c.enrol.new.self within
    (Enrol c.args.unit c.args.kind) (unit_faults c.args.unit ++ kind_faults c.args.kind) (λ entry. (21, is_some entry) ∷ []) (λ entry. Some (enrolled c.in_ok-kind.kind))
    (first_skip (unit_faults c.args.unit) (kind_faults c.args.kind) c.in_ok-check_unit.ensures.0 ∙ c.in_ok-kind.ensures.0) refl refl c.enrol.result (λ _. refl) refl
    (ap (λ (kind : Kind). enter (view_of c.args.self.now) c.args.unit (Some (enrolled kind))) (kind_is c.in_ok-kind.kind c.args.kind c.in_ok-kind.ensures.1)) c.enrol.ensures
