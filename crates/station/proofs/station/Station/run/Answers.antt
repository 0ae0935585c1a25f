use Rattle.std.proofs.Common.{◌≡◌, ℕ, suc, [], ◌∷◌, ◌++◌, take, vec_items, sym, ap, ◌∙◌, subst, add-one, arith, length-append, rules}
use Rattle.station.specs.Sound.{Past, Sound, upon}
use Rattle.station.specs.declared.call.Call.TheVariants.{Enrol}
use Rattle.station.proofs.Soundness.{upon_more}
use Rattle.station.proofs.station.Station.run.Goals as goal

pub loop-call-preserved : goal.loop-call-preserved
loop-call-preserved g c =
    let items : vec_items c.push.new.self ≡ vec_items c.loop-call.answers ++ (c.apply.result ∷ []) = search rules in
    let more = upon_more [] c.args.calls.now (vec_items c.loop-call.answers) c.loop-call.call-index (Enrol 0 0) c.apply.result c.loop-call-test.true c.loop-call.invariant.1 in (
      omega arith,
      rw items (simp length-append (omega (arith, c.loop-call.invariant.1))),
      subst (λ (past : Past). Sound g.P.PlantLimit.allowed c.args.number c.args.first c.new-station.result.plant past c.apply.new.self)
          (sym (ap (λ (n : ℕ). upon [] (take n c.args.calls.now) (vec_items c.push.new.self)) (add-one c.loop-call.call-index) ∙ ap (upon [] (take (suc c.loop-call.call-index) c.args.calls.now)) items ∙ more))
          (c.apply.ensures.law c.args.number c.args.first c.new-station.result.plant (upon [] (take c.loop-call.call-index c.args.calls.now) (vec_items c.loop-call.answers)) c.loop-call.invariant.2),
    )
