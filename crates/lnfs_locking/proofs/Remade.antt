-- Locks that are made of rows, one after the other.
use Rattle.std.proofs.Common.{◌≡◌, ◌++◌, ◌+◌, ◌<◌, ℕ, List, [], ◌∷◌, None, length, map, drop, get_or, sym, ap, ◌∙◌, subst}
use Rattle.std.specs.List.{AllByRecursion}
use Rattle.std.proofs.lemmas.List.{append_assoc, drop_more}
use Rattle.lnfs_world.specs.Rows.{Rising, inserted}
use Rattle.lnfs_counts.proofs.Coming.{of_next, at_end, fresh}
use Rattle.lnfs_locks.specs.Locks.{Lock, lock_order}
use Rattle.lnfs_locking.specs.Rows.{lock_id, lock_at}
use Rattle.lnfs_locking.specs.Makes.{IsStorable, MakesRows}

-- the locks that are made so far, and the rows from one on that are left
module _ {R : Type 0} (f : R → Lock) (rows : List R) (makes : MakesRows (map f rows)) (made : List Lock) (i : ℕ) (d : R) (less : i < length rows) (rest : made ++ map f (drop i rows) ≡ map f rows) where
  behind : made ++ f (get_or rows i d) ∷ map f (drop (i + 1) rows) ≡ map f rows
  behind = subst (λ xs. made ++ map f xs ≡ map f rows) (drop_more rows i d less) rest

  rising : Rising lock_order (made ++ f (get_or rows i d) ∷ map f (drop (i + 1) rows))
  rising = subst (Rising lock_order) (sym behind) makes.rise

  pub storable : IsStorable (f (get_or rows i d))
  storable = of_next IsStorable (f (get_or rows i d)) made (map f (drop (i + 1) rows)) (subst (AllByRecursion IsStorable) (sym behind) makes.storable)

  pub absent : lock_at made (f (get_or rows i d)).id ≡ None
  absent = fresh lock_id (f (get_or rows i d)) made (map f (drop (i + 1) rows)) rising

  pub one_more : (more : List Lock) → more ≡ inserted lock_order (f (get_or rows i d)) made → more ++ map f (drop (i + 1) rows) ≡ map f rows
  one_more more is =
      let left = map f (drop (i + 1) rows) in
      ap (λ xs. xs ++ left) (is ∙ at_end lock_id (f (get_or rows i d)) made left rising)
      ∙ append_assoc made (f (get_or rows i d) ∷ []) left
      ∙ behind
