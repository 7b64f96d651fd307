-- What the operations that read leave: the place but for its file handles, and the world but for a time of access.
use Rattle.std.proofs.Common.{◌≡◌, ◌⊎◌, ℕ, Bool, true, false, cond, List, [], ◌∷◌, Some, refl, sym, ap, subst, ◌∙◌, arith, inl, inr}
use Rattle.std.specs.Prelude.{◌==◌}
use Rattle.std.specs.List.{find, AllByRecursion}
use Rattle.lnfs_arguments.specs.declared.types.Op.{Op}
use Rattle.lnfs_arguments.specs.declared.types.Op.TheVariants as ops
use Rattle.lnfs_world.specs.Rows.{updated}
use Rattle.lnfs_world.specs.World.{Id, Node, World, same_id, node_at}
use Rattle.lnfs_world.specs.Tree.{root}
use Rattle.lnfs_world.specs.Change.{Touch, touched, apply_all}
use Rattle.lnfs_world.specs.Outcome.{Site, Place, Outcome, done_to}
use Rattle.lnfs_world.proofs.Rows.{all_find}
use Rattle.lnfs_world.proofs.Seen.{node_at-id}
use Rattle.lnfs_operations.specs.declared.Gate.{Gate}
use Rattle.lnfs_operations.specs.Chain.{Answer, refuse, done}
use Rattle.lnfs_operations.specs.Accessed.{accessed}
use Rattle.lnfs_operations.specs.Sequence.{Sent}
use Rattle.lnfs_operations.specs.Served.{row}
use Rattle.lnfs_operations.specs.Sizes.{NodeFits}
use Rattle.lnfs_operations.proofs.Readings.{IsMovedPlace, put_fh_any, get_fh_any, save_fh_any, restore_fh_any, lookup_any, lookup_parent_any, access_any, read_link_any}
use Rattle.lnfs_operations.proofs.GetAttrLaws.{get_attr_any, verify_any, nverify_any}
use Rattle.lnfs_operations.proofs.ReadDirLaws.{read_dir_any}
use Rattle.lnfs_operations.proofs.FileLaws.{read_any, commit_any}

-- nothing changes, or the time of access of a node does
pub record Reads {A : Type 0} (p : Place) (w : World) (o : Outcome A) : Type 0 where
  pub moved : IsMovedPlace p o.place
  pub changes : (o.changes ≡ []) ⊎ ((n : Node) × (node_at w.nodes n.id ≡ Some n) × (o.changes ≡ accessed p n))

-- ---- each of them

abbrev pub is_reading : Op → Bool
is_reading (ops.PutFh handle) = true
is_reading ops.PutRootFh = true
is_reading ops.GetFh = true
is_reading ops.SaveFh = true
is_reading ops.RestoreFh = true
is_reading (ops.Lookup name) = true
is_reading ops.LookupP = true
is_reading (ops.GetAttr asked) = true
is_reading (ops.Verify given) = true
is_reading (ops.NVerify given) = true
is_reading (ops.Access bits) = true
is_reading (ops.ReadDir cookie verifier dircount maxcount asked) = true
is_reading ops.ReadLink = true
is_reading (ops.Read id offset count) = true
is_reading (ops.Commit offset count) = true
is_reading op = false

module _ (site : Site) (sent : Sent) (p : Place) (w : World) where
  refused_reads : {R : Type 0} (gate : Gate) (status : ℕ) → Reads {A = Answer R} p w (refuse p gate status)
  refused_reads gate status = record { moved = refl; changes = inl refl }

  told_reads : {R : Type 0} (r : R) → Reads p w (done p r [])
  told_reads r = record { moved = refl; changes = inl refl }

  moved_reads : (q : Place) → IsMovedPlace p q → Reads {A = Answer (Unit {0})} p w (done q tt [])
  moved_reads q moved = record { moved = moved; changes = inl refl }

  accessed_reads : {R : Type 0} (i : Id) (n : Node) (r : R) → node_at w.nodes i ≡ Some n → Reads p w (done p r (accessed p n))
  accessed_reads i n r found = record { moved = refl; changes = inr (n, ap (node_at w.nodes) (node_at-id i w.nodes n found) ∙ found, refl) }

  -- with another answer
  replied_reads : {A B : Type 0} (o : Outcome A) (answer : B) → Reads p w o → Reads p w (record { answer = answer; place = o.place; changes = o.changes })
  replied_reads o answer reads = record { moved = reads.moved; changes = reads.changes }

  pub row_reads : (op : Op) → is_reading op ≡ true → Reads p w (row site sent op p w)
  row_reads (ops.PutFh handle) is = replied_reads _ _ (put_fh_any (Reads p w) site p w refused_reads moved_reads handle)
  row_reads ops.PutRootFh is = replied_reads _ _ (moved_reads (record p { current = Some root }) refl)
  row_reads ops.GetFh is = replied_reads _ _ (get_fh_any (Reads p w) p w refused_reads (λ i. told_reads _))
  row_reads ops.SaveFh is = replied_reads _ _ (save_fh_any (Reads p w) site p w refused_reads moved_reads)
  row_reads ops.RestoreFh is = replied_reads _ _ (restore_fh_any (Reads p w) site p w refused_reads moved_reads)
  row_reads (ops.Lookup name) is = replied_reads _ _ (lookup_any (Reads p w) site p w refused_reads moved_reads name)
  row_reads ops.LookupP is = replied_reads _ _ (lookup_parent_any (Reads p w) site p w refused_reads moved_reads)
  row_reads (ops.GetAttr asked) is = replied_reads _ _ (get_attr_any (Reads p w) site asked p w refused_reads (λ i n found. told_reads _))
  row_reads (ops.Verify given) is = replied_reads _ _ (verify_any (Reads p w) site given p w refused_reads (told_reads tt))
  row_reads (ops.NVerify given) is = replied_reads _ _ (nverify_any (Reads p w) site given p w refused_reads (told_reads tt))
  row_reads (ops.Access bits) is = replied_reads _ _ (access_any (Reads p w) site bits p w refused_reads (λ granted. told_reads granted))
  row_reads (ops.ReadDir cookie verifier dircount maxcount asked) is = replied_reads _ _ (read_dir_any (Reads p w) site (record { cookie = cookie; maxcount = maxcount; asked = asked }) p w refused_reads (λ i d found there size listed. accessed_reads i d found there))
  row_reads ops.ReadLink is = replied_reads _ _ (read_link_any (Reads p w) site p w refused_reads (λ i n there link. accessed_reads i n _ there))
  row_reads (ops.Read id offset count) is = replied_reads _ _ (read_any (Reads p w) site (record { id = id; offset = offset; count = count }) p w refused_reads (λ n file. accessed_reads n.id n _ file.found))
  row_reads (ops.Commit offset count) is = replied_reads _ _ (commit_any (Reads p w) site p w refused_reads (told_reads tt))
  row_reads op is = absurd (grind arith)

-- ---- what stays

module _ (p : Place) (w : World) where
  accessed_any : (P : World → Type 0) (n : Node) → P w → P (apply_all (Touch n.id (record n.inner { accessed = p.moment }) ∷ []) w) → P (apply_all (accessed p n) w)
  accessed_any P n same touched = at (p.subject == n.label)
    where
      at : (own : Bool) → P (apply_all (cond own (Touch n.id (record n.inner { accessed = p.moment }) ∷ []) []) w)
      at true = touched
      at false = same

  -- what holds of the world before, and of it with another time of access, holds afterwards
  pub reads_any : {A : Type 0} (P : World → Type 0) (o : Outcome A) → Reads p w o → P w → ((n : Node) → node_at w.nodes n.id ≡ Some n → P (apply_all (Touch n.id (record n.inner { accessed = p.moment }) ∷ []) w)) → P (done_to w o)
  reads_any P o reads same touched = elim reads.changes [
    | inl none ↦ subst (λ cs. P (apply_all cs w)) (sym none) same
    | inr some ↦ subst (λ cs. P (apply_all cs w)) (sym some.2) (accessed_any P some.0 same (touched some.0 some.1))
  ]

  pub reads_stay : {A : Type 0} (o : Outcome A) → Reads p w o → ((done_to w o).sessions ≡ w.sessions) × (o.place.session ≡ p.session)
  reads_stay o reads = (reads_any (λ v. v.sessions ≡ w.sessions) o reads refl (λ n found. refl), ap (λ (q : Place). q.session) reads.moved)

-- the row that is found changes to one of which the same holds
pub all_found : {X : Type 0} (P : X → Type 0) (q : X → Bool) (g : X → X) (xs : List X) (x : X) → find q xs ≡ Some x → P (g x) → AllByRecursion P xs → AllByRecursion P (updated q g xs)
all_found P q g [] x found now all = tt
all_found P q g (y ∷ ys) x found now all = at (q y) found (λ later. all_found P q g ys x later now all.1)
  where
    at : (b : Bool) → cond b (Some y) (find q ys) ≡ Some x → (find q ys ≡ Some x → AllByRecursion P (updated q g ys)) → AllByRecursion P (cond b (g y ∷ ys) (y ∷ updated q g ys))
    at true is rest = let same : x ≡ y = cc in (subst (λ z. P (g z)) same now, all.1)
    at false is rest = (all.0, rest is)

-- a time of access is of no size
accessed_fits : (p : Place) (n : Node) → NodeFits n → NodeFits (record n { inner = record n.inner { accessed = p.moment } })
accessed_fits p n fits = record { stored = fits.stored; text = fits.text }

pub all_accessed_fit : (p : Place) (w : World) (n : Node) → node_at w.nodes n.id ≡ Some n → AllByRecursion NodeFits w.nodes → AllByRecursion NodeFits (touched n.id (record n.inner { accessed = p.moment }) w.nodes)
all_accessed_fit p w n found fit = all_found NodeFits (λ m. same_id n.id m.id) (λ m. record m { inner = record n.inner { accessed = p.moment } }) w.nodes n found
    (accessed_fits p n (all_find NodeFits (λ m. same_id n.id m.id) w.nodes n fit found).0) fit
