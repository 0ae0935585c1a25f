use Rattle.std.proofs.Common.{◌≡◌, ℕ, ◌<◌, length, get_or}
use Rattle.limits.specs.Figure.{FigureAt, no_figure}
use Rattle.limits.proofs.figure.figures.Given as goal

abbrev pub invariant-loop-service : goal.invariant-loop-service
invariant-loop-service g l = (length l.table ≡ 10) × ((service : ℕ) → service < l.service-index → FigureAt (g.P.PlantLimit.allowed l.plant) l.terms.terms l.row.row service (get_or l.table service no_figure))
