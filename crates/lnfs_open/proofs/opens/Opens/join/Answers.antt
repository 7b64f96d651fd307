use Rattle.std.proofs.Common.{◌≡◌, ℕ, List, Some, cond, ◌&&◌, refl, sym, ap, ◌∙◌, subst}
use Rattle.std.specs.Prelude.{◌==◌, option_map, bit_or}
use Rattle.lnfs_world.specs.World.{Id, Open, same_id}
use Rattle.lnfs_open.specs.Lists.{Lists}
use Rattle.lnfs_open.specs.Listed.{id_of, client_id, node_id, row_of}
use Rattle.lnfs_open.specs.declared.tallies.Tally.{Tally}
use Rattle.lnfs_open.specs.Tallies.{tally_at, tally_of, in_layer, more, less, CanChange}
use Rattle.lnfs_open.proofs.Tallying.{can_change, tally_again}
use Rattle.lnfs_open.specs.Kept.{lists_in}
use Rattle.lnfs_open.specs.Finding.{index_of}
use Rattle.lnfs_world.specs.Opens.{joined, sequence_after}
use Rattle.lnfs_open.specs.Opening.{Wish, own_open, rows_set, IsJoined}
use Rattle.lnfs_open.proofs.Indexing.{told_same}
use Rattle.lnfs_open.proofs.Joining.{own_known, set_kept, answered, has_sequence}
use Rattle.lnfs_open.proofs.opens.Opens.join.Goals as goal

pub returns-in_err-row-clause-answer : goal.returns-in_err-row-clause-answer
returns-in_err-row-clause-answer c =
    let wish : Wish = record { client = client_id c.args.client; owner = c.args.owner.now; node = node_id c.args.node; access = c.args.access; deny = c.args.deny } in
    absurd (has_sequence _ _ wish (id_of c.in_ok-id.id) c.self.view_is c.self.invariant.indexed.counted.rise c.in_ok-id.ensures (ap (option_map (λ (o : Open). sequence_after o.sequence)) c.in_err-row.ensures.row))

pub returns-in_err-row-clause-lists : goal.returns-in_err-row-clause-lists
returns-in_err-row-clause-lists c =
    let wish : Wish = record { client = client_id c.args.client; owner = c.args.owner.now; node = node_id c.args.node; access = c.args.access; deny = c.args.deny } in
    absurd (has_sequence _ _ wish (id_of c.in_ok-id.id) c.self.view_is c.self.invariant.indexed.counted.rise c.in_ok-id.ensures (ap (option_map (λ (o : Open). sequence_after o.sequence)) c.in_err-row.ensures.row))

pub returns-in_err-seq-clause-answer : goal.returns-in_err-seq-clause-answer
returns-in_err-seq-clause-answer c =
    let wish : Wish = record { client = client_id c.args.client; owner = c.args.owner.now; node = node_id c.args.node; access = c.args.access; deny = c.args.deny } in
    absurd (has_sequence _ _ wish (id_of c.in_ok-id.id) c.self.view_is c.self.invariant.indexed.counted.rise c.in_ok-id.ensures c.in_err-seq.ensures.sequence)

pub returns-in_err-seq-clause-lists : goal.returns-in_err-seq-clause-lists
returns-in_err-seq-clause-lists c =
    let wish : Wish = record { client = client_id c.args.client; owner = c.args.owner.now; node = node_id c.args.node; access = c.args.access; deny = c.args.deny } in
    absurd (has_sequence _ _ wish (id_of c.in_ok-id.id) c.self.view_is c.self.invariant.indexed.counted.rise c.in_ok-id.ensures c.in_err-seq.ensures.sequence)

-- the open as it was, which is counted
pub count_again-requires : goal.count_again-requires
count_again-requires c =
    let s = lists_in c.self.inside.rows.entries c.self.inside.counters in
    let o : Open = row_of (id_of c.in_ok-id.id) c.in_ok-row.row.now in
    let uses = c.uses-before.ensures in
    let was : tally_at c.self.inside.tallies (id_of c.key.result) o.id.level ≡ tally_of s.opens o.node o.id.level = c.self.invariant.tallied (id_of c.key.result) o.id.level ∙ ap (λ n. tally_of s.opens n o.id.level) c.key.ensures in
    subst (λ (X : Type 0). X) (λ t. CanChange (sym uses t).access (sym uses t).deny (sym was t))
    (can_change o.id o s.opens c.self.invariant.indexed.counted.rise (sym c.in_ok-row.ensures.row))

pub invariant_of-self-2 : goal.invariant_of-self-2
invariant_of-self-2 c =
    let s = lists_in c.self.inside.rows.entries c.self.inside.counters in
    let ix = index_of c.self.inside.counters c.self.inside.finder in
    let set = set_kept s ix c.self.invariant.indexed (id_of c.in_ok-id.id) c.args.access c.args.deny in
    let o : Open = row_of (id_of c.in_ok-id.id) c.in_ok-row.row.now in
    let uses = c.uses-before.ensures in
    let node = c.key.ensures in
    let was = c.self.invariant.tallied in
    let joins : ℕ → ℕ → Tally → Tally = λ access deny t. more (bit_or access c.args.access) (bit_or deny c.args.deny) (less access deny t) in
    let again : (n : Id) (l : ℕ) → cond (same_id (id_of c.key.result) n && o.id.level == l) (joins c.uses-before.result.access c.uses-before.result.deny (tally_at c.self.inside.tallies n l)) (tally_at c.self.inside.tallies n l) ≡ cond (in_layer n l o) (joins o.access o.deny (tally_of s.opens n l)) (tally_of s.opens n l) =
    λ n l t. cond (same_id (node t) n && o.id.level == l) (joins (uses t).access (uses t).deny (was n l t)) (was n l t) in
    let new = c.join_row.ensures.joined ∙ ap (λ x. rows_set (joined c.args.access c.args.deny) x s.opens) (sym c.in_ok-row.ensures.row) in
    record {
      own = c.join_row.ensures.own c.self.invariant.own;
      indexed = told_same _ _ ix ix (λ t. record s { opens = c.join_row.ensures.joined t }) (record { last = λ l. refl; opens = λ l. refl; nodes = λ n j. refl; clients = λ d j. refl; number = λ d n o. refl }) set;
      tallied = λ n l. c.count_again.ensures n l ∙ again n l ∙ sym (ap (λ (opens : List Open). tally_of opens n l) new ∙ tally_again (joined c.args.access c.args.deny o) o s.opens c.self.invariant.indexed.counted.rise (sym c.in_ok-row.ensures.row) refl n l);
    }

pub returns-clause-answer : goal.returns-clause-answer
returns-clause-answer c =
    let s = lists_in c.self.inside.rows.entries c.self.inside.counters in
    let wish : Wish = record { client = client_id c.args.client; owner = c.args.owner.now; node = node_id c.args.node; access = c.args.access; deny = c.args.deny } in
    let i = id_of c.in_ok-id.id in
    let known = own_known s c.args.self.now wish i c.self.view_is c.self.invariant.indexed.counted.rise c.in_ok-id.ensures in
    let told : Some c.in_ok-seq.seq ≡ option_map (λ (o : Open). sequence_after o.sequence) (own_open s wish) = c.in_ok-seq.ensures.sequence ∙ ap (option_map (λ (o : Open). sequence_after o.sequence)) (sym known.1) in
    subst (λ (k : Lists). IsJoined c.args.access c.args.deny (own_open k wish) (Some c.at.result)) c.self.view_is
    (answered c.args.access c.args.deny (own_open s wish) i c.at.result c.in_ok-seq.seq known.0 told c.at.ensures.id c.at.ensures.seq)

pub returns-clause-lists : goal.returns-clause-lists
returns-clause-lists c =
    let s = lists_in c.self.inside.rows.entries c.self.inside.counters in
    let wish : Wish = record { client = client_id c.args.client; owner = c.args.owner.now; node = node_id c.args.node; access = c.args.access; deny = c.args.deny } in
    let i = id_of c.in_ok-id.id in
    let known = own_known s c.args.self.now wish i c.self.view_is c.self.invariant.indexed.counted.rise c.in_ok-id.ensures in
    let new = c.join_row.ensures.joined ∙ ap (λ x. rows_set (joined c.args.access c.args.deny) x s.opens) (sym known.1) in
    subst (λ (k : Lists). lists_in c.join_row.new.rows.entries c.self.inside.counters ≡ record k { opens = rows_set (joined c.args.access c.args.deny) (own_open k wish) k.opens }) c.self.view_is (λ t. record s { opens = new t })
