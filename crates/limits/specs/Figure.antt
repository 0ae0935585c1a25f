-- The figure of a service: the greatest amount that a row bears, and the limit that one kilowatt more breaks first.
use Rattle.std.specs.Prelude.{◌≡◌, ℕ, ◌+◌, ◌<◌, ◌≤◌, Bool, true, List, Some, None, MatchBool, Option, ◌≢◌, slice_index_or}
use Rattle.fcas.specs.declared.kind.Kind.{Kind}
use Rattle.limits.specs.Limit.{Borne, First, breaks, limit_by, limit_number, offer_at}
use Rattle.limits.specs.Offer.{ground_told, live}
use Rattle.limits.specs.Row.{with_amount}
use Rattle.limits.specs.declared.figure.Figure.{Figure}
use Rattle.limits.specs.declared.limit.Limit.{Limit}
use Rattle.limits.specs.declared.row.Row.{Row}
use Rattle.limits.specs.declared.terms.Terms.{Terms}

-- What breaks as the amount of one service goes, the row's other amounts left.
abbrev pub breaks_with : (Row → Bool) → Terms → Row → ℕ → ℕ → Limit → Bool
breaks_with allowed terms row service a = breaks allowed terms (with_amount row service a)

-- The amount a is borne, every other amount that is borne is less, and one more breaks the limit first.
pub record GreatestBorne (broken : ℕ → Limit → Bool) (a : ℕ) (limit : Limit) : Type 0 where
  pub within : a ≤ 4000000
  pub borne : Borne (broken a)
  pub others : (b : ℕ) → b ≤ 4000000 → Borne (broken b) → (b ≢ a) → b < a
  pub next : First (broken (a + 1)) limit

-- A record of a live service: its figure, and the ground and by of the limit.
pub record LiveFigure (kind : Kind) (broken : ℕ → Limit → Bool) (told : Figure) : Type 0 where
  pub limit : Limit
  pub greatest : GreatestBorne broken told.figure limit
  pub ground : told.ground ≡ limit_number limit
  pub by : told.by ≡ limit_by kind limit

-- A record of a service that is not live: 0, the ground that keeps it out, and itself.
pub record DeadFigure (terms : Terms) (service : ℕ) (told : Figure) : Type 0 where
  pub figure : told.figure ≡ 0
  pub ground : told.ground ≡ ground_told (offer_at terms service)
  pub by : told.by ≡ service

-- The record of a service at a row, live or not.
abbrev pub FigureAt : (Row → Bool) → Terms → Row → ℕ → Figure → Type 0
FigureAt allowed terms row service told = MatchBool (live (offer_at terms service)) (LiveFigure terms.kind (breaks_with allowed terms row service) told) (DeadFigure terms service told)

-- What a probe gives: nothing exactly where the service is not live or not even 0 is borne.
abbrev pub Probed : (Row → Bool) → Terms → Row → ℕ → Option Figure → Type 0
Probed allowed terms row service None = live (offer_at terms service) ≡ true → Borne (breaks_with allowed terms row service 0) → ⊥
Probed allowed terms row service (Some told) = (live (offer_at terms service) ≡ true) × Borne (breaks_with allowed terms row service 0) × LiveFigure terms.kind (breaks_with allowed terms row service) told

-- The place of a service that is none.
abbrev pub no_figure : Figure
no_figure = record { figure = 0; ground = 0; by = 0 }

-- What all ten figures of a row are: nothing exactly where the row is not borne.
abbrev pub AllFigures : (Row → Bool) → Terms → Row → Option (List Figure) → Type 0
AllFigures allowed terms row None = Borne (breaks allowed terms row) → ⊥
AllFigures allowed terms row (Some table) = Borne (breaks allowed terms row) × ((service : ℕ) → service < 10 → FigureAt allowed terms row service (slice_index_or table service no_figure))
