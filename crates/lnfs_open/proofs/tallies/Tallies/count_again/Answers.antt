use Rattle.std.proofs.Common.{◌≡◌, Some, ap, sym, subst, ◌∙◌}
use Rattle.std.specs.Prelude.{is_some}
use Rattle.std.specs.BTreeMap.{get}
use Rattle.lnfs_open.specs.declared.tallies.Tally.{Tally}
use Rattle.lnfs_open.specs.Tallies.{layer_cmp, tally_in, more, less, IsSound}
use Rattle.lnfs_open.proofs.Layers.{tally_updated}
use Rattle.lnfs_open.proofs.tallies.Tallies.count_again.Goals as goal

pub with-requires : goal.with-requires
with-requires c =
    let there : Some c.in-Some.tally.now ≡ get layer_cmp c.args.self.now.layers c.args.layer = c.in-Some.ensures.value in
    let before : Tally → Tally = less c.args.before.access c.args.before.deny in
    record {
      few = c.without.ensures.few;
      sound = subst IsSound (sym (c.without.ensures.less ∙ ap (λ x. before (tally_in x)) there)) c.requires.sound;
    }

pub returns : goal.returns
returns c =
    let there : Some c.in-Some.tally.now ≡ get layer_cmp c.args.self.now.layers c.args.layer = c.in-Some.ensures.value in
    let new : Tally → Tally = λ t. more c.args.after.access c.args.after.deny (less c.args.before.access c.args.before.deny t) in
    tally_updated c.args.self.now.layers (c.get_mut.follows.lender c.with.result) c.args.layer (Some c.with.result) ((c.get_mut.follows.holds c.with.result).3 (ap is_some (sym there))) new (c.with.ensures ∙ ap (more c.args.after.access c.args.after.deny) c.without.ensures.less ∙ ap (λ x. new (tally_in x)) there)
