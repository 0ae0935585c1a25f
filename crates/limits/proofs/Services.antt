-- The numbers of the ten services, and their table, which has each at its own number.
use Rattle.std.proofs.Common.{◌≡◌, ℕ, zero, suc, ◌<◌, refl, get_or, arith}
use Rattle.fcas.specs.Service.{service_number}
use Rattle.fcas.specs.declared.service.Service.{Service}
use Rattle.fcas.specs.declared.service.TheConstants.{SERVICES}

pub service_at : (i : ℕ) (d : Service) → i < 10 → service_number (get_or SERVICES i d) ≡ i
service_at zero d h = refl
service_at (suc zero) d h = refl
service_at (suc (suc zero)) d h = refl
service_at (suc (suc (suc zero))) d h = refl
service_at (suc (suc (suc (suc zero)))) d h = refl
service_at (suc (suc (suc (suc (suc zero))))) d h = refl
service_at (suc (suc (suc (suc (suc (suc zero)))))) d h = refl
service_at (suc (suc (suc (suc (suc (suc (suc zero))))))) d h = refl
service_at (suc (suc (suc (suc (suc (suc (suc (suc zero)))))))) d h = refl
service_at (suc (suc (suc (suc (suc (suc (suc (suc (suc zero))))))))) d h = refl
service_at (suc (suc (suc (suc (suc (suc (suc (suc (suc (suc n)))))))))) d h = absurd (omega (arith, h))
