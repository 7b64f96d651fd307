use Rattle.std.proofs.Common.{◌≡◌, ℕ, Some, None, map, option_map, refl, sym, ap, subst, ◌∙◌}
use Rattle.std.specs.Prelude.{bit_or}
use Rattle.lnfs_world.specs.Rows.{inserted}
use Rattle.lnfs_world.specs.World.{Open, open_order}
use Rattle.lnfs_counts.proofs.Entries.{find-entries, set-entries}
use Rattle.lnfs_open.specs.declared.keys.OpenRow.{OpenRow}
use Rattle.lnfs_open.specs.Listed.{id_of, row_of, open_of, AreOwn}
use Rattle.lnfs_world.specs.Opens.{joined, sequence_after}
use Rattle.lnfs_open.specs.Opening.{rows_set}
use Rattle.lnfs_open.specs.Indexed.{own_id}
use Rattle.lnfs_open.proofs.Entries.{key_cmp, keys, at, own_at, own_set}
use Rattle.lnfs_open.proofs.rows.join_row.Goals as goal

pub returns-in_err-row-clause-sequence : goal.returns-in_err-row-clause-sequence
returns-in_err-row-clause-sequence c =
    let entries = c.args.rows.now.entries in
    let none : None ≡ at c.args.id entries = c.in_err-row.ensures.value in
    c.from_residual.ensures
    ∙ ap (option_map (λ (o : Open). sequence_after o.sequence)) (ap (option_map (row_of (id_of c.args.id))) none ∙ sym (find-entries id_of key_cmp keys open_of own_id (λ e. refl) c.args.id entries))

pub returns-in_err-row-clause-joined : goal.returns-in_err-row-clause-joined
returns-in_err-row-clause-joined c =
    let entries = c.args.rows.now.entries in
    let none : None ≡ at c.args.id entries = c.in_err-row.ensures.value in
    ap (λ m. map open_of m.entries) c.get_mut.follows.holds-at-none
    ∙ ap (λ o. rows_set (joined c.args.access c.args.deny) o (map open_of entries)) (ap (option_map (row_of (id_of c.args.id))) none ∙ sym (find-entries id_of key_cmp keys open_of own_id (λ e. refl) c.args.id entries))

pub returns-clause-sequence : goal.returns-clause-sequence
returns-clause-sequence c =
    let entries = c.args.rows.now.entries in
    let there : Some c.in_ok-row.row.now ≡ at c.args.id entries = c.in_ok-row.ensures.value in
    ap Some c.sequence_after-row.ensures
    ∙ ap (option_map (λ (o : Open). sequence_after o.sequence)) (ap (option_map (row_of (id_of c.args.id))) there ∙ sym (find-entries id_of key_cmp keys open_of own_id (λ e. refl) c.args.id entries))

pub returns-clause-joined : goal.returns-clause-joined
returns-clause-joined c =
    let entries = c.args.rows.now.entries in
    let old : OpenRow = c.in_ok-row.row.now in
    let there : Some old ≡ at c.args.id entries = c.in_ok-row.ensures.value in
    let new : OpenRow = record old { access = bit_or old.access c.args.access; deny = bit_or old.deny c.args.deny; seq = c.sequence_after-row.result } in
    ap (map open_of) (c.get_mut.follows.holds new).0
    ∙ set-entries id_of key_cmp keys open_of own_id (λ e. refl) c.args.id new old entries c.get_mut.ensures.ordered (sym there)
    ∙ ap (λ (n : ℕ). inserted open_order (record (row_of (id_of c.args.id) new) { sequence = n }) (map open_of entries)) c.sequence_after-row.ensures
    ∙ ap (λ o. rows_set (joined c.args.access c.args.deny) o (map open_of entries)) (ap (option_map (row_of (id_of c.args.id))) there ∙ sym (find-entries id_of key_cmp keys open_of own_id (λ e. refl) c.args.id entries))

pub returns-clause-own : goal.returns-clause-own
returns-clause-own c =
    let entries = c.args.rows.now.entries in
    let old : OpenRow = c.in_ok-row.row.now in
    let there : Some old ≡ at c.args.id entries = c.in_ok-row.ensures.value in
    let new : OpenRow = record old { access = bit_or old.access c.args.access; deny = bit_or old.deny c.args.deny; seq = c.sequence_after-row.result } in
    λ own. subst AreOwn (sym (c.get_mut.follows.holds new).0) (own_set c.args.id new entries (own_at c.args.id old entries own (sym there)) own)
