use Rattle.std.proofs.Common.{refl, ◌≡◌, ◌≤◌, arith}
use Rattle.lnfs_world.specs.Usage.{nodes_used, bytes_used, bytes_of}
use Rattle.lnfs_quota.specs.Totals.{home_share, label_share}
use Rattle.lnfs_quota.proofs.Counting.{sum-made, sum-dropped, sum-updated, sum-updated_alike, sum-held}
use Rattle.lnfs_quota.proofs.Kept.{home_own, label_own}
use Rattle.lnfs_quota.proofs.laws.usage.Goals as goal

pub returns-clause-held_nodes : goal.returns-clause-held_nodes
returns-clause-held_nodes c nodes i n found = let own : home_share n n.id.level ≡ 1 = home_own n in let held : home_share n n.id.level ≤ nodes_used nodes n.id.level = sum-held (λ m. home_share m n.id.level) i n nodes found in omega arith

pub returns-clause-held_bytes : goal.returns-clause-held_bytes
returns-clause-held_bytes c nodes i n found = let own : label_share n n.label ≡ bytes_of n n.kind = label_own n in let held : label_share n n.label ≤ bytes_used nodes n.label = sum-held (λ m. label_share m n.label) i n nodes found in omega arith

pub returns-clause-made_nodes : goal.returns-clause-made_nodes
returns-clause-made_nodes c n entry w level none = sum-made (λ m. home_share m level) n w.nodes none

pub returns-clause-made_bytes : goal.returns-clause-made_bytes
returns-clause-made_bytes c n entry w level none = sum-made (λ m. label_share m level) n w.nodes none

pub returns-clause-dropped_nodes : goal.returns-clause-dropped_nodes
returns-clause-dropped_nodes c entry n w level rising found = sum-dropped (λ m. home_share m level) entry.node n w.nodes rising found

pub returns-clause-dropped_bytes : goal.returns-clause-dropped_bytes
returns-clause-dropped_bytes c entry n w level rising found = sum-dropped (λ m. label_share m level) entry.node n w.nodes rising found

pub returns-clause-touched_nodes : goal.returns-clause-touched_nodes
returns-clause-touched_nodes c i inner w level = sum-updated_alike (λ m. home_share m level) (λ m. record m { inner = inner }) i w.nodes (λ x. refl)

pub returns-clause-touched_bytes : goal.returns-clause-touched_bytes
returns-clause-touched_bytes c i inner n w level found = sum-updated (λ m. label_share m level) (λ m. record m { inner = inner }) i n w.nodes found

pub returns-clause-relabelled_nodes : goal.returns-clause-relabelled_nodes
returns-clause-relabelled_nodes c i label inner w level = sum-updated_alike (λ m. home_share m level) (λ m. record m { label = label; inner = inner }) i w.nodes (λ x. refl)

pub returns-clause-relabelled_bytes : goal.returns-clause-relabelled_bytes
returns-clause-relabelled_bytes c i label inner n w level found = sum-updated (λ m. label_share m level) (λ m. record m { label = label; inner = inner }) i n w.nodes found
