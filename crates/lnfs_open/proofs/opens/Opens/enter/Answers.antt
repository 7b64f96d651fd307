use Rattle.std.proofs.Common.{◌≡◌, ◌+◌, ℕ, List, Some, None, cond, ◌&&◌, ◌||◌, map, sym, ap, ◌∙◌, subst}
use Rattle.std.specs.Prelude.{◌==◌}
use Rattle.std.specs.Str.{bytes_eq}
use Rattle.lnfs_world.specs.Rows.{inserted}
use Rattle.lnfs_world.specs.World.{Id, Open, same_id, level_order}
use Rattle.lnfs_open.specs.Lists.{Lists}
use Rattle.lnfs_open.specs.Opening.{has_open_left}
use Rattle.lnfs_open.specs.Tallies.{tally_at, tally_of, in_layer, more, HasRoom}
use Rattle.lnfs_open.proofs.Tallying.{room, tally_added}
use Rattle.lnfs_open.specs.Listed.{id_of, row_of, open_of, AreOwn}
use Rattle.lnfs_open.specs.Kept.{lists_in}
use Rattle.lnfs_open.specs.Groups.{holds}
use Rattle.lnfs_open.specs.Owners.{number_at}
use Rattle.lnfs_open.specs.Finding.{index_of}
use Rattle.lnfs_open.proofs.Indexing.{told_same, entered, absent}
use Rattle.lnfs_open.proofs.Entering.{index_same, taken_back, can_enter}
use Rattle.lnfs_open.proofs.opens.Opens.enter.Goals as goal

pub enter-requires-clause-node : goal.enter-requires-clause-node
enter-requires-clause-node c = (can_enter c.self.inside.counters c.self.inside.finder _ c.args.self.now (id_of c.args.id) (id_of c.key.result) (id_of c.key-2.result) c.args.row c.self.view_is c.self.invariant.indexed c.requires.next c.requires.level c.requires.absent c.key.ensures c.key-2.ensures).free_node

pub enter-requires-clause-client : goal.enter-requires-clause-client
enter-requires-clause-client c = (can_enter c.self.inside.counters c.self.inside.finder _ c.args.self.now (id_of c.args.id) (id_of c.key.result) (id_of c.key-2.result) c.args.row c.self.view_is c.self.invariant.indexed c.requires.next c.requires.level c.requires.absent c.key.ensures c.key-2.ensures).free_client

pub invariant_of-self-in_err-enter : goal.invariant_of-self-in_err-enter
invariant_of-self-in_err-enter c =
    let s = lists_in c.self.inside.rows.entries c.self.inside.counters in
    let told = c.in_ok-make_counter.ensures.same in
    record {
      own = c.self.invariant.own;
      indexed = told_same s _ _ _ (λ t. record s { lasts = told.lasts t }) (index_same c.self.inside.counters c.make_counter.new.counters c.self.inside.finder c.enter.new.self told c.in_err-enter.ensures.kept) c.self.invariant.indexed;
      tallied = c.self.invariant.tallied;
    }

pub invariant_of-self-in-Err : goal.invariant_of-self-in-Err
invariant_of-self-in-Err c =
    let s = lists_in c.self.inside.rows.entries c.self.inside.counters in
    let old = c.self.inside.finder in
    let can = can_enter c.self.inside.counters c.self.inside.finder _ c.args.self.now (id_of c.args.id) (id_of c.key.result) (id_of c.key-2.result) c.args.row c.self.view_is c.self.invariant.indexed c.requires.next c.requires.level c.requires.absent c.key.ensures c.key-2.ensures in
    let told = c.in_ok-make_counter.ensures.same in
    let owner : number_at old.owners (id_of c.key.result) (id_of c.key-2.result) c.args.owner.now ≡ None = (λ t. number_at old.owners (can.own t) (c.key-2.ensures t) (sym c.requires.owner t)) ∙ can.none in
    let found = taken_back (record { id = id_of c.args.id; client = id_of c.key.result; node = id_of c.key-2.result; owner = c.args.owner.now }) old c.enter.new.self c.leave.new.self c.in_ok-enter.ensures.entered c.leave.ensures can.free_node can.free_client owner in
    record {
      own = subst AreOwn (sym c.in-Err.ensures.kept) c.self.invariant.own;
      indexed = told_same s _ _ _ (λ t. record { opens = map open_of (c.in-Err.ensures.kept t); lasts = told.lasts t }) (index_same c.self.inside.counters c.make_counter.new.counters old c.leave.new.self told found) c.self.invariant.indexed;
      tallied = λ n l. c.place_row-placed.ensures.same n l ∙ c.self.invariant.tallied n l ∙ sym (ap (λ es. tally_of (map open_of es) n l) c.in-Err.ensures.kept);
    }

pub count-requires-clause-room : goal.count-requires-clause-room
count-requires-clause-room c =
    let s = lists_in c.self.inside.rows.entries c.self.inside.counters in
    let node = id_of c.key-2.result in
    let level = c.args.id.level in
    let left = ap (λ (k : Lists). has_open_left k level) c.self.view_is ∙ c.requires.room in
    subst HasRoom (sym (c.place_row-placed.ensures.same node level ∙ c.self.invariant.tallied node level)) (room s node level left)

pub invariant_of-self-2 : goal.invariant_of-self-2
invariant_of-self-2 c =
    let i = id_of c.args.id in
    let s = lists_in c.self.inside.rows.entries c.self.inside.counters in
    let old = c.self.inside.finder in
    let can = can_enter c.self.inside.counters c.self.inside.finder _ c.args.self.now (id_of c.args.id) (id_of c.key.result) (id_of c.key-2.result) c.args.row c.self.view_is c.self.invariant.indexed c.requires.next c.requires.level c.requires.absent c.key.ensures c.key-2.ensures in
    let node = c.key-2.ensures in
    let told = c.in_ok-make_counter.ensures.same in
    let new = c.in_ok-enter.ensures.entered in
    let one = c.count_one.ensures in
    let row : Open = row_of i c.args.row in
    let was : (n : Id) (l : ℕ) → tally_at c.place_row-placed.new.tallies n l ≡ tally_of s.opens n l = λ n l. c.place_row-placed.ensures.same n l ∙ c.self.invariant.tallied n l in
    let told_added : (n : Id) (l : ℕ) → cond (same_id (id_of c.key-2.result) n && i.level == l) (more c.uses-uses.result.access c.uses-uses.result.deny (tally_at c.place_row-placed.new.tallies n l)) (tally_at c.place_row-placed.new.tallies n l) ≡ cond (in_layer n l row) (more row.access row.deny (tally_of s.opens n l)) (tally_of s.opens n l) =
    λ n l t. cond (same_id (node t) n && i.level == l) (more (c.uses-uses.ensures t).access (c.uses-uses.ensures t).deny (was n l t)) (was n l t) in
    record {
      own = c.in_default.ensures.own c.requires.level c.self.invariant.own;
      indexed = told_same _ _ _ _ (λ t. record { opens = c.in_default.ensures.added t; lasts = (one.lasts ∙ ap (inserted level_order i) told.lasts) t })
          (record {
            last = λ l. one.last l ∙ ap (λ (n : ℕ). cond (i.level == l) i.number n) (told.last l);
            opens = λ l. one.count l ∙ (λ t. cond (i.level == l) (told.count i.level t + 1) (told.count l t));
            nodes = λ n j. new.nodes n j ∙ (λ t. same_id (node t) n && same_id i j || holds old.nodes n j);
            clients = λ d j. new.clients d j ∙ (λ t. same_id (can.own t) d && same_id i j || holds old.clients d j);
            number = λ d n o. new.numbers d n o ∙ (λ t. cond ((same_id (can.own t) d && same_id (node t) n) && bytes_eq (sym c.requires.owner t) o) (Some i.number) (number_at old.owners d n o));
          }) (entered s (index_of c.self.inside.counters old) c.self.invariant.indexed (row_of i c.args.row) can.next can.none);
      tallied = λ n l.
          c.count.ensures n l
          ∙ told_added n l
          ∙ sym (ap (λ (opens : List Open). tally_of opens n l) c.in_default.ensures.added ∙ tally_added row s.opens (absent s (index_of c.self.inside.counters old) c.self.invariant.indexed row can.next can.none) n l);
    }
