use Rattle.std.proofs.Common.{◌≡◌, ◌+◌, ℕ, List, Some, cond, ◌&&◌, ◌||◌, map, sym, ap, ◌∙◌, subst}
use Rattle.std.specs.Prelude.{◌==◌, ◌<◌, count_by}
use Rattle.std.specs.Str.{bytes_eq}
use Rattle.lnfs_world.specs.Rows.{inserted}
use Rattle.lnfs_world.specs.World.{Id, Open, open_order, same_id}
use Rattle.lnfs_world.specs.declared.numbers.TheConstants.{LAST_NUMBER}
use Rattle.lnfs_rows.specs.Told as told
use Rattle.lnfs_counts.specs.Counters.{count_at}
use Rattle.lnfs_counts.proofs.Counted.{added_given}
use Rattle.lnfs_open.specs.Indexed.{own_id}
use Rattle.lnfs_open.specs.Listed.{id_of, row_of, open_of}
use Rattle.lnfs_open.specs.Kept.{lists_in}
use Rattle.lnfs_open.specs.Groups.{holds}
use Rattle.lnfs_open.specs.Owners.{number_at}
use Rattle.lnfs_open.specs.Finding.{index_of}
use Rattle.lnfs_open.specs.Tallies.{tally_at, tally_of, in_layer, more, HasRoom}
use Rattle.lnfs_open.proofs.Tallying.{room_in, tally_added}
use Rattle.lnfs_open.proofs.Indexing.{told_same, client_of, none_numbered, not_of_node, not_of_client, entered_by}
use Rattle.lnfs_open.proofs.making.Parts.enter.Goals as goal

pub enter-requires-clause-node : goal.enter-requires-clause-node
enter-requires-clause-node c =
    let old = c.args.self.now in
    let s = lists_in old.rows.entries old.counters in
    let row : Open = told.open_of c.args.row.now in
    let ix = index_of old.counters old.finder in
    let indexed = c.requires.kept.indexed in
    let none = none_numbered s ix indexed (client_of row) row.node row.owner c.requires.come.alone in
    let node : id_of c.key-2.result ≡ row.node = c.key-2.ensures ∙ ap (λ (o : Open). o.node) c.in_ok-open.ensures.row in
    (λ t. holds old.finder.nodes (node t) (c.key_of-id.ensures t)) ∙ not_of_node s ix indexed row c.requires.come.absent none

pub enter-requires-clause-client : goal.enter-requires-clause-client
enter-requires-clause-client c =
    let old = c.args.self.now in
    let s = lists_in old.rows.entries old.counters in
    let row : Open = told.open_of c.args.row.now in
    let ix = index_of old.counters old.finder in
    let indexed = c.requires.kept.indexed in
    let none = none_numbered s ix indexed (client_of row) row.node row.owner c.requires.come.alone in
    let client : id_of c.key.result ≡ client_of row = c.key.ensures ∙ (λ t. record { level = c.in_ok-open.ensures.level t; number = (c.in_ok-open.ensures.row t).client }) in
    (λ t. holds old.finder.clients (client t) (c.key_of-id.ensures t)) ∙ not_of_client s ix indexed row c.requires.come.absent none

pub count-requires-clause-room : goal.count-requires-clause-room
count-requires-clause-room c =
    let old = c.args.self.now in
    let s = lists_in old.rows.entries old.counters in
    let level = c.key_of-id.result.level in
    let node = id_of c.key-2.result in
    let room : count_at old.counters level < LAST_NUMBER = subst (λ (i : Id). count_at old.counters i.level < LAST_NUMBER) (sym c.key_of-id.ensures) c.requires.come.few in
    let few : count_by (λ o. o.id.level == level) s.opens < LAST_NUMBER = subst (λ (n : ℕ). n < LAST_NUMBER) (c.requires.kept.indexed.counted.counted level) room in
    subst HasRoom (sym (c.in_ok-place_row.ensures.same node level ∙ c.requires.kept.tallied node level)) (room_in s.opens node level few)

pub returns-clause-added : goal.returns-clause-added
returns-clause-added c =
    let opens = map open_of c.args.self.now.rows.entries in
    c.in_ok-place_row.ensures.added ∙ ap (λ (o : Open). inserted open_order o opens) ((λ t. row_of (c.key_of-id.ensures t) c.in_ok-open.open) ∙ c.in_ok-open.ensures.row)

pub returns-clause-kept : goal.returns-clause-kept
returns-clause-kept c =
    let old = c.args.self.now in
    let s = lists_in old.rows.entries old.counters in
    let row : Open = told.open_of c.args.row.now in
    let ix = index_of old.counters old.finder in
    let indexed = c.requires.kept.indexed in
    let come = c.requires.come in
    let none = none_numbered s ix indexed (client_of row) row.node row.owner come.alone in
    let open_is = c.in_ok-open.ensures.row in
    let id : id_of c.key_of-id.result ≡ row.id = c.key_of-id.ensures in
    let client : id_of c.key.result ≡ client_of row = c.key.ensures ∙ (λ t. record { level = c.in_ok-open.ensures.level t; number = (open_is t).client }) in
    let node : id_of c.key-2.result ≡ row.node = c.key-2.ensures ∙ ap (λ (o : Open). o.node) open_is in
    let added = c.in_ok-place_row.ensures.added ∙ ap (λ (o : Open). inserted open_order o s.opens) ((λ t. row_of (id t) c.in_ok-open.open) ∙ open_is) in
    let uses : c.uses-uses.result ≡ record { access = row.access; deny = row.deny } = c.uses-uses.ensures ∙ (λ t. record { access = (open_is t).access; deny = (open_is t).deny }) in
    let new = c.in_ok-enter.ensures.entered in
    let one = c.count_given.ensures in
    let was : (n : Id) (l : ℕ) → tally_at c.place_row.new.tallies n l ≡ tally_of s.opens n l = λ n l. c.in_ok-place_row.ensures.same n l ∙ c.requires.kept.tallied n l in
    let told_added : (n : Id) (l : ℕ) → cond (same_id (id_of c.key-2.result) n && c.key_of-id.result.level == l) (more c.uses-uses.result.access c.uses-uses.result.deny (tally_at c.place_row.new.tallies n l)) (tally_at c.place_row.new.tallies n l) ≡ cond (in_layer n l row) (more row.access row.deny (tally_of s.opens n l)) (tally_of s.opens n l) =
    λ n l t. cond (same_id (node t) n && (id t).level == l) (more (uses t).access (uses t).deny (was n l t)) (was n l t) in
    record {
      own = c.in_ok-place_row.ensures.own (c.in_ok-open.ensures.level ∙ sym (ap (λ (i : Id). i.level) id)) c.requires.kept.own;
      indexed = told_same _ _ _ _ (λ t. record { opens = added t; lasts = one.lasts t })
          (record {
            last = one.last;
            opens = λ l. one.count l ∙ (λ t. cond ((id t).level == l) (count_at old.counters (id t).level + 1) (count_at old.counters l));
            nodes = λ n j. new.nodes n j ∙ (λ t. same_id (node t) n && same_id (id t) j || holds old.finder.nodes n j);
            clients = λ d j. new.clients d j ∙ (λ t. same_id (client t) d && same_id (id t) j || holds old.finder.clients d j);
            number = λ d n o. new.numbers d n o ∙ (λ t. cond ((same_id (client t) d && same_id (node t) n) && bytes_eq row.owner o) (Some (id t).number) (number_at old.finder.owners d n o));
          }) (entered_by s ix indexed row come.absent none s.lasts _ _ (added_given own_id s.opens s.lasts ix.last ix.opens indexed.counted row come.absent come.given));
      tallied = λ n l. c.count.ensures n l ∙ told_added n l ∙ sym (ap (λ (opens : List Open). tally_of opens n l) added ∙ tally_added row s.opens come.absent n l);
    }
