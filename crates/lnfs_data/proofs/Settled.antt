-- Totals after a file was set, and counted anew.
use Rattle.std.proofs.Common.{◌≡◌, ◌≤◌, ℕ, Bool, true, false, cond, List, [], ◌∷◌, length, Option, Some, None, refl, sym, ap, subst, ◌∙◌, arith, inl, inr}
use Rattle.std.specs.Option.{option_map}
use Rattle.lnfs_types.specs.declared.event.Moment.{Moment}
use Rattle.lnfs_world.specs.declared.numbers.TheConstants.{MOST_FILE}
use Rattle.lnfs_world.specs.World.{Id, Kind, File, Directory, SymbolicLink, Inner, Node, same_id, node_at}
use Rattle.lnfs_world.specs.Change.{Touch, touched, apply}
use Rattle.lnfs_world.specs.Usage.{bytes_of}
use Rattle.lnfs_quota.specs.declared.quota.Row.{Row}
use Rattle.lnfs_quota.specs.Quota.{resized}
use Rattle.lnfs_quota.specs.Totals.{AreTotals}
use Rattle.lnfs_tree.specs.Places.{world_of}
use Rattle.lnfs_tree.specs.Rows.{Rows}
use Rattle.lnfs_data.specs.Charges.{charge_by, charge_in, charge_at, SetsFile, WereTotals, accessed_in, IsAccessed}

-- ---- a node that is touched

pub node_touched : (i : Id) (inner : Inner) (n : Node) (nodes : List Node) → node_at nodes i ≡ Some n → node_at (touched i inner nodes) i ≡ Some (record n { inner = inner })
node_touched i inner n [] found = absurd (grind (arith, found))
node_touched i inner n (m ∷ nodes) found = at (λ later. node_touched i inner n nodes later) (same_id i m.id) refl found
  where
    at : (node_at nodes i ≡ Some n → node_at (touched i inner nodes) i ≡ Some (record n { inner = inner })) → (b : Bool) → same_id i m.id ≡ b → cond b (Some m) (node_at nodes i) ≡ Some n →
        node_at (cond b (record m { inner = inner } ∷ nodes) (m ∷ touched i inner nodes)) i ≡ Some (record n { inner = inner })
    at rest true is e = ap (λ b. cond b (Some (record m { inner = inner })) (node_at nodes i)) is ∙ ap (option_map (λ (x : Node). record x { inner = inner })) e
    at rest false is e = ap (λ b. cond b (Some m) (node_at (touched i inner nodes) i)) is ∙ rest e

-- ---- what is told of a file

abbrev pair_in : Option (ℕ × ℕ) → ℕ × ℕ
pair_in None = (0, 0)
pair_in (Some x) = x

abbrev charge : (label size : ℕ) → Option (ℕ × ℕ)
charge label size = Some (label, size)

labels_same : (a b x y : ℕ) → charge a b ≡ charge x y → a ≡ x
labels_same a b x y e = ap (λ (o : Option (ℕ × ℕ)). (pair_in o).0) e

sizes_same : (a b x y : ℕ) → charge a b ≡ charge x y → b ≡ y
sizes_same a b x y e = ap (λ (o : Option (ℕ × ℕ)). (pair_in o).1) e

charged : (i : Id) (n : Node) (nodes : List Node) → node_at nodes i ≡ Some n → n.kind ≡ File → charge_in (node_at nodes i) ≡ Some (n.label, length n.inner.content)
charged i n nodes found file = ap charge_in found ∙ ap (charge_by n) file

module _ (i : Id) (t u : Rows) (s : SetsFile i t u) where
  charged_before : charge_at t i ≡ Some (s.node.label, length s.node.inner.content)
  charged_before = charged i s.node t.nodes s.found s.file

  charged_after : charge_at u i ≡ Some (s.node.label, length s.inner.content)
  charged_after = ap (λ (nodes : List Node). charge_in (node_at nodes i)) s.set ∙ charged i (record s.node { inner = s.inner }) (touched i s.inner t.nodes) (node_touched i s.inner s.node t.nodes s.found) s.file

  bytes_before : bytes_of s.node s.node.kind ≡ length s.node.inner.content
  bytes_before = ap (bytes_of s.node) s.file

  bytes_after : bytes_of (record s.node { inner = s.inner }) s.node.kind ≡ length s.inner.content
  bytes_after = ap (bytes_of (record s.node { inner = s.inner })) s.file

-- ---- the totals

module _ (rows : List Row) (i : Id) (u : Rows) (told : Option (ℕ × ℕ)) (w : WereTotals rows u i told) where
  abbrev t : Rows
  t = w.before

  same_totals : u.nodes ≡ t.nodes → AreTotals rows u.nodes
  same_totals same = subst (AreTotals rows) (sym same) w.totals

  -- what was no file is as it was
  pub no_file_before : None ≡ told → AreTotals rows u.nodes
  no_file_before none = elim w.sets [
    | inl same ↦ same_totals same
    | inr s ↦ absurd (no none (w.charged ∙ charged_before i t u s))
  ]
    where
      no : {x : ℕ × ℕ} → None ≡ told → told ≡ Some x → ⊥
      no a b = grind (arith, a, b)

  pub no_file_after : None ≡ charge_at u i → AreTotals rows u.nodes
  no_file_after none = elim w.sets [
    | inl same ↦ same_totals same
    | inr s ↦ absurd (no none (charged_after i t u s))
  ]
    where
      no : {x : ℕ × ℕ} → None ≡ charge_at u i → charge_at u i ≡ Some x → ⊥
      no a b = grind (arith, a, b)

  module _ (label old label_after new : ℕ) (was : Some (label, old) ≡ told) (is : Some (label_after, new) ≡ charge_at u i) where
    old_is : (s : SetsFile i t u) → (label ≡ s.node.label) × (old ≡ length s.node.inner.content)
    old_is s = let e : charge label old ≡ charge s.node.label (length s.node.inner.content) = was ∙ w.charged ∙ charged_before i t u s in (labels_same label old s.node.label (length s.node.inner.content) e, sizes_same label old s.node.label (length s.node.inner.content) e)

    new_is : (s : SetsFile i t u) → new ≡ length s.inner.content
    new_is s = let e : charge label_after new ≡ charge s.node.label (length s.inner.content) = is ∙ charged_after i t u s in sizes_same label_after new s.node.label (length s.inner.content) e

    same_size : u.nodes ≡ t.nodes → old ≡ new
    same_size same = let e : charge label old ≡ charge label_after new = was ∙ w.charged ∙ ap (λ (nodes : List Node). charge_in (node_at nodes i)) (sym same) ∙ sym is in sizes_same label old label_after new e

    pub size_stays : old ≡ new → ((n : Node) (inner : Inner) → node_at t.nodes i ≡ Some n → bytes_of (record n { inner = inner }) n.kind ≡ bytes_of n n.kind → AreTotals rows (apply (Touch i inner) (world_of t)).nodes) → AreTotals rows u.nodes
    size_stays equal law = elim w.sets [
      | inl same ↦ same_totals same
      | inr s ↦ subst (AreTotals rows) (sym s.set) (law s.node s.inner s.found (bytes_after i t u s ∙ sym (new_is s) ∙ sym equal ∙ (old_is s).1 ∙ sym (bytes_before i t u s)))
    ]

    -- another size is that of a file that was set
    pub set_file : (old ≡ new → ⊥) → SetsFile i t u
    set_file differ = elim w.sets [
      | inl same ↦ absurd (differ (same_size same))
      | inr s ↦ s
    ]

    module _ (differ : old ≡ new → ⊥) where
      pub resized_totals : new ≤ MOST_FILE →
          ((n : Node) (inner : Inner) → node_at t.nodes i ≡ Some n → bytes_of (record n { inner = inner }) n.kind ≤ MOST_FILE → AreTotals (resized rows n.label (bytes_of n n.kind) (bytes_of (record n { inner = inner }) n.kind)) (apply (Touch i inner) (world_of t)).nodes) →
          AreTotals (resized rows label old new) u.nodes
      resized_totals few law =
          let s : SetsFile i t u = set_file differ in
          let small : bytes_of (record s.node { inner = s.inner }) s.node.kind ≤ MOST_FILE = (let a = bytes_after i t u s in let b = new_is s in omega (arith, a, b, few)) in
          subst (λ (nodes : List Node). AreTotals (resized rows label old new) nodes) (sym s.set)
          (subst (λ (l : ℕ). AreTotals (resized rows l old new) (touched i s.inner t.nodes)) (sym (old_is s).0)
          (subst (λ (a : ℕ). AreTotals (resized rows s.node.label a new) (touched i s.inner t.nodes)) (bytes_before i t u s ∙ sym (old_is s).1)
          (subst (λ (b : ℕ). AreTotals (resized rows s.node.label (bytes_of s.node s.node.kind) b) (touched i s.inner t.nodes)) (bytes_after i t u s ∙ sym (new_is s)) (law s.node s.inner s.found small))))

-- ---- a time of access

bytes_alike : (n : Node) (at : Moment) (k : Kind) → bytes_of (record n { inner = record n.inner { accessed = at } }) k ≡ bytes_of n k
bytes_alike n at File = refl
bytes_alike n at Directory = refl
bytes_alike n at SymbolicLink = refl

pub accessed_totals : (rows : List Row) (i : Id) (at : Moment) (t u : Rows) → AreTotals rows t.nodes → IsAccessed i at t u →
    ((n : Node) (inner : Inner) → node_at t.nodes i ≡ Some n → bytes_of (record n { inner = inner }) n.kind ≡ bytes_of n n.kind → AreTotals rows (apply (Touch i inner) (world_of t)).nodes) → AreTotals rows u.nodes
accessed_totals rows i at t u totals is law = subst (λ (r : Rows). AreTotals rows r.nodes) (sym is) (by (node_at t.nodes i) refl)
  where
    by : (o : Option Node) → node_at t.nodes i ≡ o → AreTotals rows (accessed_in i at t o).nodes
    by None none = totals
    by (Some n) found = law n (record n.inner { accessed = at }) found (bytes_alike n at n.kind)
