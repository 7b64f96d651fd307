-- What is told of leases, where it is asked and where an operation stands.
use Rattle.std.proofs.Common.{◌≡◌, Bool, sym, ap, subst}
use Rattle.lnfs_world.specs.World.{World}
use Rattle.lnfs_world.specs.Outcome.{Place}
use Rattle.lnfs_open.specs.declared.keys.ClientKey.{ClientKey}
use Rattle.lnfs_nodes.specs.declared.calls.Caller.{Caller}
use Rattle.lnfs_nodes.specs.Acts.{placed}
use Rattle.lnfs_files.specs.Leases.{Leases}

-- a caller's moment is that of its place
pub told_at : (told : ClientKey → Bool → Type 0) (rest : World) (p : Place) (caller : Caller) → placed p caller ≡ p → Leases told rest p.moment → Leases told rest caller.moment
told_at told rest p caller is tells = subst (Leases told rest) (sym (ap (λ (q : Place). q.moment) is)) tells
