-- That locks stay found by their node when one comes, changes or goes.
use Rattle.std.proofs.Common.{◌≡◌, ℕ, Bool, true, false, cond, not, ◌&&◌, ◌||◌, List, Option, Some, None, refl, sym, ap, ◌∙◌, arith}
use Rattle.std.specs.Prelude.{filter}
use Rattle.lnfs_world.specs.Rows.{Rising, inserted}
use Rattle.lnfs_world.specs.World.{Id, same_id}
use Rattle.lnfs_world.proofs.Keys.{id_same, id_turned, id_after, id_before, id_tied}
use Rattle.lnfs_world.proofs.Sorted.{rising_inserted, rising_filter}
use Rattle.lnfs_counts.specs.Counted.{order_by}
use Rattle.lnfs_counts.proofs.Rows.{row_at-inserted, row_at-dropped, found_id}
use Rattle.lnfs_ranges.specs.declared.range.LockRange.{LockRange}
use Rattle.lnfs_locking.specs.declared.groups.Groups.{Groups}
use Rattle.lnfs_locking.specs.Groups.{holds}
use Rattle.lnfs_locks.specs.Locks.{Lock}
use Rattle.lnfs_locking.specs.Rows.{lock_id, lock_at, rows_with, with_ranges}
use Rattle.lnfs_locking.specs.Indexed.{passes}

abbrev pub AreFound : Groups → List Lock → Type 0
AreFound index ls = (node i : Id) → holds index node i ≡ passes (λ l. same_id node l.node) (lock_at ls i)

pub rise_inserted : (l : Lock) (ls : List Lock) → Rising (order_by lock_id) ls → Rising (order_by lock_id) (inserted (order_by lock_id) l ls)
rise_inserted l ls rising =
    rising_inserted (order_by lock_id) (λ a b e. id_after a.id b.id e) (λ a b c e f. id_before a.id b.id c.id e f) (λ a b c e. id_tied a.id b.id c.id e) l ls rising

pub rise_filter : (q : Lock → Bool) (ls : List Lock) → Rising (order_by lock_id) ls → Rising (order_by lock_id) (filter q ls)
rise_filter q ls rising = rising_filter (order_by lock_id) q ls rising

swapped : (a b : Id) → same_id a b ≡ same_id b a
swapped a b = id_turned a b

entered_at : (old : Bool) (l : Lock) (node i : Id) (x : Option Lock) (b : Bool) → same_id i l.id ≡ b → (b ≡ true → x ≡ None) → old ≡ passes (λ l. same_id node l.node) x →
    ((same_id l.node node && b) || old) ≡ passes (λ l. same_id node l.node) (cond b (Some l) x)
entered_at old l node i x true is none told =
    let gone : old ≡ false = told ∙ ap (passes (λ l. same_id node l.node)) (none refl) in
    let turned = swapped l.node node in
    grind (arith, gone, turned)
entered_at old l node i x false is none told = grind (arith, told)

pub entered : (ls : List Lock) (old new : Groups) (l : Lock) → lock_at ls l.id ≡ None → AreFound old ls →
    ((node i : Id) → holds new node i ≡ ((same_id l.node node && same_id l.id i) || holds old node i)) → AreFound new (inserted (order_by lock_id) l ls)
entered ls old new l none found told node i =
    told node i
    ∙ (ap (λ b. (same_id l.node node && b) || holds old node i) (swapped l.id i)
    ∙ (entered_at (holds old node i) l node i (lock_at ls i) (same_id i l.id) refl (λ same. ap (lock_at ls) (id_same i l.id same) ∙ none) (found node i)
    ∙ sym (ap (passes (λ x. same_id node x.node)) (row_at-inserted lock_id l ls i))))

left_at : (old : Bool) (n node : Id) (x : Option Lock) (b : Bool) → (b ≡ true → passes (λ l. same_id node l.node) x ≡ same_id node n) → old ≡ passes (λ l. same_id node l.node) x →
    (not (same_id n node && b) && old) ≡ passes (λ l. same_id node l.node) (cond b None x)
left_at old n node x true of told =
    let turned = swapped n node in
    let here = told ∙ of refl in
    grind (arith, turned, here)
left_at old n node x false of told = grind (arith, told)

pub left : (ls : List Lock) (old new : Groups) (j n : Id) (l : Lock) → lock_at ls j ≡ Some l → n ≡ l.node → AreFound old ls →
    ((node i : Id) → holds new node i ≡ (not (same_id n node && same_id j i) && holds old node i)) → AreFound new (filter (λ x. not (same_id j x.id)) ls)
left ls old new j n l there of found told node i =
    told node i
    ∙ (ap (λ b. not (same_id n node && b) && holds old node i) (swapped j i)
    ∙ (left_at (holds old node i) n node (lock_at ls i) (same_id i j) (λ same. ap (λ k. passes (λ x. same_id node x.node) (lock_at ls k)) (id_same i j same) ∙ (ap (passes (λ x. same_id node x.node)) there ∙ ap (same_id node) (sym of))) (found node i)
    ∙ sym (ap (passes (λ x. same_id node x.node)) (row_at-dropped lock_id j ls i))))

changed_at : (l m : Lock) (node i : Id) (x : Option Lock) (b : Bool) → m.node ≡ l.node → (b ≡ true → x ≡ Some l) →
    passes (λ l. same_id node l.node) x ≡ passes (λ l. same_id node l.node) (cond b (Some m) x)
changed_at l m node i x true same there = ap (passes (λ l. same_id node l.node)) (there refl) ∙ ap (same_id node) (sym same)
changed_at l m node i x false same there = refl

-- another state of a lock keeps its node
pub changed : (ls : List Lock) (index : Groups) (j : Id) (sequence : ℕ) (ranges : List LockRange) → AreFound index ls → AreFound index (rows_with (with_ranges sequence ranges) (lock_at ls j) ls)
changed ls index j sequence ranges found node i = by (lock_at ls j) refl
  where
    by : (x : Option Lock) → lock_at ls j ≡ x → holds index node i ≡ passes (λ l. same_id node l.node) (lock_at (rows_with (with_ranges sequence ranges) x ls) i)
    by None at = found node i
    by (Some l) at =
        let own : j ≡ l.id = id_same j l.id (found_id lock_id ls j l at) in
        found node i
        ∙ (changed_at l (with_ranges sequence ranges l) node i (lock_at ls i) (same_id i l.id) refl (λ same. ap (lock_at ls) (id_same i l.id same ∙ sym own) ∙ at)
        ∙ sym (ap (passes (λ x. same_id node x.node)) (row_at-inserted lock_id (with_ranges sequence ranges l) ls i)))

pub rise_changed : (g : Lock → Lock) (x : Option Lock) (ls : List Lock) → Rising (order_by lock_id) ls → Rising (order_by lock_id) (rows_with g x ls)
rise_changed g None ls rising = rising
rise_changed g (Some l) ls rising = rise_inserted (g l) ls rising
