-- The tests of an operation's definition, by what the code finds of them.
use Rattle.std.proofs.Common.{◌≡◌, ℕ, refl, ap, Bool, true, false, cond, Some, None}
use Rattle.lnfs_world.specs.Outcome.{Site, Place, Outcome}
use Rattle.lnfs_arguments.specs.declared.statuses.TheConstants.{NFS4ERR_STALE}
use Rattle.lnfs_monitor.specs.declared.rule.Rule.TheVariants.{M8}
use Rattle.lnfs_monitor.specs.Rules.{Asks, allows, rule_of}
use Rattle.lnfs_operations.specs.declared.Gate.TheVariants.{Namespace, Monitor}
use Rattle.lnfs_operations.specs.Chain.{Answer, refuse, demand}
use Rattle.lnfs_operations.specs.Chain as chain
use Rattle.lnfs_operations.specs.Judged.{denied_with, where_allowed, where_home}
use Rattle.lnfs_nodes.specs.Trees.{denial, home_denial}

-- a test that holds
pub passed : {A : Type 0} (b : Bool) (refusal next : Outcome A) → b ≡ true → demand b refusal next ≡ next
passed b refusal next e = ap (λ (b : Bool). demand b refusal next) e

-- and one that doesn't
pub barred : {A : Type 0} (b : Bool) (refusal next : Outcome A) → b ≡ false → demand b refusal next ≡ refusal
barred b refusal next e = ap (λ (b : Bool). demand b refusal next) e

-- a question of which the rules of labels refuse nothing
pub allowed : {R : Type 0} (site : Site) (p : Place) (asks : Asks) (next : Outcome (Answer R)) → None ≡ denial site p.subject asks → where_allowed site p asks next ≡ next
allowed {R} site p asks next e = at (allows site.dom p.subject asks) e
  where
    refusal : chain.Refusal
    refusal = record { gate = Monitor (rule_of asks); status = denied_with (rule_of asks) }

    at : (b : Bool) → None ≡ cond b None (Some refusal) → demand b (refuse p refusal.gate refusal.status) next ≡ next
    at true e = refl
    at false e = cc

-- a home of which a subject may name a node
pub named : {R : Type 0} (site : Site) (p : Place) (home : ℕ) (next : Outcome (Answer R)) → None ≡ home_denial site p.subject home → where_home site p home next ≡ next
named {R} site p home next e = at (site.dom p.subject home) e
  where
    refusal : chain.Refusal
    refusal = record { gate = cond site.limited Namespace (Monitor M8); status = NFS4ERR_STALE }

    at : (b : Bool) → None ≡ cond b None (Some refusal) → demand b (refuse p refusal.gate refusal.status) next ≡ next
    at true e = refl
    at false e = cc
