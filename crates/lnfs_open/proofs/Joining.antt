-- An open of one's own is joined.
use Rattle.std.proofs.Common.{◌≡◌, ℕ, Option, Some, None, refl, sym, ap, ◌∙◌}
use Rattle.std.specs.Prelude.{option_map, bit_or}
use Rattle.lnfs_world.specs.Rows.{Rising}
use Rattle.lnfs_world.specs.World.{Id, Open, open_order}
use Rattle.lnfs_world.proofs.Rows.{all_find}
use Rattle.lnfs_counts.proofs.Rows.{each_at}
use Rattle.lnfs_open.specs.declared.keys.OpenRef.{OpenRef}
use Rattle.lnfs_open.specs.Lists.{Lists}
use Rattle.lnfs_open.specs.Listed.{open_id}
use Rattle.lnfs_world.specs.Opens.{joined, sequence_after}
use Rattle.lnfs_open.specs.Opening.{Wish, own_open, rows_set, IsJoined, new_open}
use Rattle.lnfs_world.specs.Facts.{same_opening}
use Rattle.lnfs_open.specs.Indexed.{own_id, open_at, Index, IsIndexed}
use Rattle.lnfs_open.proofs.Indexing.{set}

abbrev pub id_in : Option Open → Option Id
id_in x = option_map (λ o. o.id) x

-- what is one's own is found at its identifier
own_at : (s : Lists) (wish : Wish) (i : Id) → Rising open_order s.opens → Some i ≡ id_in (own_open s wish) → own_open s wish ≡ open_at s.opens i
own_at s wish i rise known = by (own_open s wish) refl known
  where
    by : (x : Option Open) → own_open s wish ≡ x → Some i ≡ id_in x → x ≡ open_at s.opens i
    by None is known = absurd (cc)
    by (Some o) is known =
        let same : o.id ≡ i = cc in
        sym (ap (open_at s.opens) (sym same) ∙ (all_find _ (same_opening (new_open s wish)) s.opens o (each_at own_id s.opens rise) is).0)

pub set_kept : (s : Lists) (ix : Index) → IsIndexed s ix → (i : Id) (access deny : ℕ) → IsIndexed (record s { opens = rows_set (joined access deny) (open_at s.opens i) s.opens }) ix
set_kept s ix kept i access deny = by (open_at s.opens i) refl
  where
    by : (x : Option Open) → open_at s.opens i ≡ x → IsIndexed (record s { opens = rows_set (joined access deny) x s.opens }) ix
    by None is = kept
    by (Some o) is = set s ix kept i o is (bit_or o.access access) (bit_or o.deny deny) (sequence_after o.sequence)

pub answered : (access deny : ℕ) (x : Option Open) (i : Id) (r : OpenRef) (sequence : ℕ) → Some i ≡ id_in x → Some sequence ≡ option_map (λ o. sequence_after o.sequence) x → open_id r ≡ i → r.seq ≡ sequence → IsJoined access deny x (Some r)
answered access deny None i r sequence known told id seq = absurd (cc)
answered access deny (Some o) i r sequence known told id seq =
    let same : i ≡ o.id = cc in
    let next : sequence ≡ sequence_after o.sequence = cc in
    (id ∙ same, seq ∙ next)

pub clash : {A B : Type 0} (f : Open → A) (g : Open → B) (x : Option Open) (a : A) → Some a ≡ option_map f x → None ≡ option_map g x → ⊥
clash f g None a some none = absurd (cc)
clash f g (Some o) a some none = absurd (cc)

-- one's own that is found is the open of its identifier
pub own_known : (s v : Lists) (wish : Wish) (i : Id) → s ≡ v → Rising open_order s.opens → Some i ≡ id_in (own_open v wish) → (Some i ≡ id_in (own_open s wish)) × (own_open s wish ≡ open_at s.opens i)
own_known s v wish i same rise own =
    let known : Some i ≡ id_in (own_open s wish) = own ∙ sym (ap (λ (lists : Lists). id_in (own_open lists wish)) same) in
    (known, own_at s wish i rise known)

-- one's own that is joined has a sequence
pub has_sequence : (s v : Lists) (wish : Wish) (i : Id) → s ≡ v → Rising open_order s.opens → Some i ≡ id_in (own_open v wish) → None ≡ option_map (λ (o : Open). sequence_after o.sequence) (open_at s.opens i) → ⊥
has_sequence s v wish i same rise own none =
    let known = own_known s v wish i same rise own in
    clash (λ (o : Open). o.id) (λ (o : Open). sequence_after o.sequence) (open_at s.opens i) i (known.0 ∙ ap id_in known.1) none

pub none_joined : (access deny : ℕ) (x : Option Open) → IsJoined access deny x None → x ≡ None
none_joined access deny None h = refl
none_joined access deny (Some o) h = absurd h
