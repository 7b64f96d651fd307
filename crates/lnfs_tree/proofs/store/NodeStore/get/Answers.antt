use Rattle.std.proofs.Common.{◌∙◌, sym, ap}
use Rattle.lnfs_tree.proofs.Slots.{node_at-held, found}
use Rattle.lnfs_tree.proofs.store.NodeStore.get.Goals as goal

pub returns-in-Some : goal.returns-in-Some
returns-in-Some c = rw (← c.self.view_is) (c.get-in-Some.ensures ∙ ap (found c.self.inside.slots) c.in-Some.ensures.value ∙ sym (node_at-held c.args.id c.self.inside.slots c.self.inside.by_id.entries c.self.invariant))

pub returns-in-None : goal.returns-in-None
returns-in-None c = rw (← c.self.view_is) (ap (found c.self.inside.slots) c.in-None.ensures.value ∙ sym (node_at-held c.args.id c.self.inside.slots c.self.inside.by_id.entries c.self.invariant))
