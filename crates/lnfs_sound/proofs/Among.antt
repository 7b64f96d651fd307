-- Whether an identifier is among others, by its place.
use Rattle.std.proofs.Common.{◌≡◌, ℕ, ◌<◌, Bool, true, false, List, Option, Some, None, refl, sym, subst, length, arith}
use Rattle.std.specs.Prelude.{is_some, IfSome, IfNone}
use Rattle.std.proofs.lemmas.List.{length-map}
use Rattle.lnfs_world.specs.World as world
use Rattle.lnfs_world.specs.World.{same_id}
use Rattle.lnfs_world.specs.Tree.{root}
use Rattle.lnfs_world.proofs.Keys.{id_same, id_itself}
use Rattle.lnfs_rows.specs.declared.numbers.Id.{Id}
use Rattle.lnfs_rows.specs.Told.{id_of}
use Rattle.lnfs_fit.specs.Ids.{nth_id}
use Rattle.lnfs_fit.specs.RowsOf.{ids_of}
use Rattle.lnfs_fit.proofs.Indexed.{any_at, at_any}
use Rattle.lnfs_sound.specs.Parts.{is_among}

not_yes : (b : Bool) → (b ≡ true → ⊥) → b ≡ false
not_yes true no_one = absurd (no_one refl)
not_yes false no_one = refl

pub among_is : (ids : List Id) (i : world.Id) (o : Option ℕ) → IfSome o (λ k. (k < length ids) × (nth_id (ids_of ids) k ≡ i)) → IfNone o ((k : ℕ) → k < length ids → nth_id (ids_of ids) k ≡ i → ⊥) → is_some o ≡ is_among (ids_of ids) i
among_is ids i (Some k) found missing = sym (at_any root (λ j. same_id i j) (ids_of ids) k (omega (arith, length-map ids id_of, found.0)) (subst (λ j. same_id i j ≡ true) (sym found.1) (id_itself i)))
among_is ids i None found missing = sym (not_yes (is_among (ids_of ids) i) (λ some.
    let there = any_at root (λ j. same_id i j) (ids_of ids) some in
    missing there.0 (omega (arith, length-map ids id_of, there.1)) (sym (id_same i (nth_id (ids_of ids) there.0) there.2))))
