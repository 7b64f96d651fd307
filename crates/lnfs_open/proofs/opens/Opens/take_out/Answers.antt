use Rattle.std.proofs.Common.{◌≡◌, ℕ, List, None, cond, not, ◌&&◌, filter, sym, ap, ◌∙◌, subst}
use Rattle.std.specs.Str.{bytes_eq}
use Rattle.std.specs.Prelude.{◌==◌}
use Rattle.lnfs_world.specs.World.{Id, Open, same_id}
use Rattle.lnfs_counts.proofs.Rows.{none_gone}
use Rattle.lnfs_open.specs.Lists.{Lists}
use Rattle.lnfs_open.specs.Listed.{id_of, row_of}
use Rattle.lnfs_open.specs.Kept.{lists_in}
use Rattle.lnfs_open.specs.Finding.{index_of}
use Rattle.lnfs_open.specs.Groups.{holds}
use Rattle.lnfs_open.specs.Owners.{number_at}
use Rattle.lnfs_open.specs.Indexed.{own_id, open_at}
use Rattle.lnfs_open.specs.Tallies.{tally_at, tally_of, in_layer, less}
use Rattle.lnfs_open.proofs.Tallying.{tally_dropped}
use Rattle.lnfs_open.proofs.Indexing.{told_same, client_of, dropped}
use Rattle.lnfs_open.proofs.opens.Opens.take_out.Goals as goal

pub returns-in_default : goal.returns-in_default
returns-in_default c =
    let i = id_of c.args.id in
    let s = lists_in c.self.inside.rows.entries c.self.inside.counters in
    let none : open_at s.opens i ≡ None = sym c.in_default.ensures.row in
    let all : s ≡ record s { opens = filter (λ o. not (same_id i o.id)) s.opens } = ap (λ (opens : List Open). record s { opens = opens }) (sym (none_gone own_id i s.opens none)) in
    subst (λ (k : Lists). k ≡ record k { opens = filter (λ o. not (same_id i o.id)) k.opens }) c.self.view_is all

pub invariant_of-self : goal.invariant_of-self
invariant_of-self c =
    let i = id_of c.args.id in
    let old = c.self.inside.finder in
    let s = lists_in c.self.inside.rows.entries c.self.inside.counters in
    let row : Open = row_of i c.in-Some.row.now in
    let left = dropped s (index_of c.self.inside.counters old) c.self.invariant.indexed i row (sym c.in-Some.ensures.row) in
    let level = c.in-Some.ensures.own c.self.invariant.own in
    let client : id_of c.key.result ≡ client_of row = c.key.ensures ∙ (λ t. record { level = level t; number = row.client }) in
    let node : id_of c.key-node.result ≡ row.node = c.key-node.ensures in
    let owner : c.as_slice.result.now ≡ row.owner = c.as_slice.ensures in
    let gone = c.leave.ensures in
    let was = c.self.invariant.tallied in
    let told : (n : Id) (l : ℕ) → cond (same_id (id_of c.key-node.result) n && i.level == l) (less c.uses-uses.result.access c.uses-uses.result.deny (tally_at c.self.inside.tallies n l)) (tally_at c.self.inside.tallies n l) ≡ cond (in_layer n l row) (less row.access row.deny (tally_of s.opens n l)) (tally_of s.opens n l) =
    λ n l t. cond (same_id (node t) n && i.level == l) (less (c.uses-uses.ensures t).access (c.uses-uses.ensures t).deny (was n l t)) (was n l t) in
    let counted = c.count_off.ensures in
    record {
      own = c.drop_row.ensures.own c.self.invariant.own;
      indexed = told_same _ _ _ _ (λ t. record { opens = c.drop_row.ensures.left t; lasts = counted.lasts t })
          (record {
            last = counted.last;
            opens = counted.count;
            nodes = λ n j. gone.nodes n j ∙ (λ t. not (same_id (node t) n && same_id i j) && holds old.nodes n j);
            clients = λ d j. gone.clients d j ∙ (λ t. not (same_id (client t) d && same_id i j) && holds old.clients d j);
            number = λ d n o. gone.numbers d n o ∙ (λ t. cond ((same_id (client t) d && same_id (node t) n) && bytes_eq (owner t) o) None (number_at old.owners d n o));
          }) left;
      tallied = λ n l. c.count_off-2.ensures n l ∙ told n l ∙ sym (ap (λ (opens : List Open). tally_of opens n l) c.drop_row.ensures.left ∙ tally_dropped i row s.opens c.self.invariant.indexed.counted.rise (sym c.in-Some.ensures.row) n l);
    }
