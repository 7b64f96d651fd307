-- Questions to the rules of labels, as tests of an operation.
use Rattle.std.specs.Prelude.{ℕ, Bool, cond}
use Rattle.lnfs_world.specs.Outcome.{Site, Place, Outcome}
use Rattle.lnfs_arguments.specs.declared.statuses.TheConstants.{NFS4ERR_ACCESS, NFS4ERR_STALE}
use Rattle.lnfs_monitor.specs.declared.rule.Rule.{Rule}
use Rattle.lnfs_monitor.specs.declared.rule.Rule.TheVariants.{M8}
use Rattle.lnfs_monitor.specs.Rules.{Asks, Home, allows, rule_of}
use Rattle.lnfs_operations.specs.declared.Gate.TheVariants.{Namespace, Monitor}
use Rattle.lnfs_operations.specs.Chain.{Answer, refuse, demand}

-- A node that the subject may not name is stale to it; what else it may not do is denied.
abbrev pub denied_with : Rule → ℕ
denied_with M8 = NFS4ERR_STALE
denied_with rule = NFS4ERR_ACCESS

-- the next test where the rules allow what is asked
abbrev pub where_allowed : {R : Type 0} → Site → Place → Asks → Outcome (Answer R) → Outcome (Answer R)
where_allowed site p asks next = demand (allows site.dom p.subject asks) (refuse p (Monitor (rule_of asks)) (denied_with (rule_of asks))) next

-- a question that comes up in some cases alone
abbrev pub where_asked : {R : Type 0} → Bool → Site → Place → Asks → Outcome (Answer R) → Outcome (Answer R)
where_asked comes_up site p asks next = cond comes_up (where_allowed site p asks next) next

-- A node of a home that the subject doesn't dominate is stale to it. Where labels are carried alone no rule says so: all nodes
-- are of level 0, so there is none of that home.
abbrev pub where_home : {R : Type 0} → Site → Place → (home : ℕ) → Outcome (Answer R) → Outcome (Answer R)
where_home site p home next = demand (allows site.dom p.subject (Home home)) (refuse p (cond site.limited Namespace (Monitor M8)) NFS4ERR_STALE) next
