-- What walks over the indexes tell: the nodes in the slots, the names of a directory, the last numbers.
use Rattle.std.proofs.Common.{◌≡◌, ℕ, zero, suc, ◌+◌, ◌<◌, List, [], ◌∷◌, ◌++◌, length, take, get_or, Option, Some, None, map, refl, sym, ap, ◌∙◌, subst, Bor, arith}
use Rattle.std.specs.Map.{values_of}
use Rattle.std.specs.Map.Iter.{deref}
use Rattle.std.specs.List.{AllByRecursion}
use Rattle.std.proofs.lemmas.List.{map-append, append-nil}
use Rattle.slab.specs.Slab.{Slab, get}
use Rattle.lnfs_rows.specs.Lasts.{each_from, each_of}
use Rattle.lnfs_world.specs.World.{Id, Entry as NameRow, last_of}
use Rattle.lnfs_rows.specs.declared.nodes.EntryRow.{EntryRow}
use Rattle.lnfs_rows.specs.Told.{entry_of as told_entry}
use Rattle.lnfs_tree.specs.declared.node.Entry.{Entry}
use Rattle.lnfs_tree.specs.declared.node.NodeId.{NodeId}
use Rattle.lnfs_tree.specs.declared.store.Node.{Node}
use Rattle.lnfs_tree.specs.Rows.{id_of, row_of_entry}
use Rattle.lnfs_tree.specs.Listed.{listed, AreKeyed}
use Rattle.lnfs_tree.specs.Held.{held, cons_some}
use Rattle.lnfs_tree.specs.Flat.{row_of, entries_in}
use Rattle.lnfs_tree.proofs.Lists.{all_append}
use Rattle.lnfs_tree.proofs.Sequences.{append-more, map-more-at}

-- ---- nodes

-- the nodes in the slots of keys
abbrev pub held_at : Slab Node → List ℕ → List Node
held_at s [] = []
held_at s (k ∷ ks) = cons_some (get s k) (held_at s ks)

pub held_at-values : (s : Slab Node) (es : List (NodeId × ℕ)) → held_at s (values_of es) ≡ held s es
held_at-values s [] = refl
held_at-values s (e ∷ es) = ap (cons_some (get s e.1)) (held_at-values s es)

held_at-more : (s : Slab Node) (ks : List ℕ) (k : ℕ) → held_at s (ks ++ k ∷ []) ≡ held_at s ks ++ cons_some (get s k) []
held_at-more s [] k = refl
held_at-more s (x ∷ ks) k = ap (cons_some (get s x)) (held_at-more s ks k) ∙ at (get s x)
  where
    at : (o : Option Node) → cons_some o (held_at s ks ++ cons_some (get s k) []) ≡ cons_some o (held_at s ks) ++ cons_some (get s k) []
    at None = refl
    at (Some n) = refl

module _ (s : Slab Node) (ns : List (Bor Node)) (keys : List (Bor ℕ)) (key : Bor ℕ) (told : map (λ n. n.now) ns ≡ held_at s (map (λ k. k.now) keys)) where
  at_more : held_at s (map (λ (k : Bor ℕ). k.now) (keys ++ key ∷ [])) ≡ held_at s (map (λ (k : Bor ℕ). k.now) keys) ++ cons_some (get s key.now) []
  at_more = ap (held_at s) (map-append (λ (k : Bor ℕ). k.now) keys (key ∷ [])) ∙ held_at-more s (map (λ (k : Bor ℕ). k.now) keys) key.now

  pub node_more : (n : Bor Node) → Some n.now ≡ get s key.now → map (λ (n : Bor Node). n.now) (ns ++ n ∷ []) ≡ held_at s (map (λ (k : Bor ℕ). k.now) (keys ++ key ∷ []))
  node_more n found =
      map-append (λ (n : Bor Node). n.now) ns (n ∷ [])
      ∙ (λ i. told i ++ cons_some (found i) [])
      ∙ sym at_more

  pub no_more : None ≡ get s key.now → map (λ (n : Bor Node). n.now) ns ≡ held_at s (map (λ (k : Bor ℕ). k.now) (keys ++ key ∷ []))
  no_more none = told ∙ sym (append-none (held_at s (map (λ (k : Bor ℕ). k.now) keys))) ∙ (λ i. held_at s (map (λ (k : Bor ℕ). k.now) keys) ++ cons_some (none i) []) ∙ sym at_more
    where
      append-none : (xs : List Node) → xs ++ [] ≡ xs
      append-none [] = refl
      append-none (x ∷ xs) = ap (λ ys. x ∷ ys) (append-none xs)

keys-seen : (xs : List (Bor ℕ)) → map (λ (k : Bor ℕ). k.now) xs ≡ map deref xs
keys-seen [] = refl
keys-seen (x ∷ xs) = ap (λ ks. x.now ∷ ks) (keys-seen xs)

-- what a walk over all keys finds
pub all_nodes : (s : Slab Node) (es : List (NodeId × ℕ)) (keys : List (Bor ℕ)) (ns now : List Node) → ns ≡ held_at s (map (λ k. k.now) keys) → map deref keys ≡ values_of es → held s es ≡ now → ns ≡ now
all_nodes s es keys ns now told are is = told ∙ ap (held_at s) (keys-seen keys ∙ are) ∙ held_at-values s es ∙ is

-- ---- names
pub listed_is : (es : List (ℕ × Entry)) → AreKeyed es → values_of es ≡ listed es
listed_is [] keyed = refl
listed_is (e ∷ es) keyed = λ i. record e.1 { cookie = keyed.0 i } ∷ listed_is es keyed.1 i

entries-seen : (d : Id) (xs : List (Bor Entry)) → map (λ e. row_of_entry d e.now) xs ≡ map (row_of_entry d) (map deref xs)
entries-seen d [] = refl
entries-seen d (x ∷ xs) = ap (λ es. row_of_entry d x.now ∷ es) (entries-seen d xs)

-- what a walk over all names tells
pub all_names : (d : Id) (es : List (ℕ × Entry)) (xs : List (Bor Entry)) (names : List Entry) → AreKeyed es → map deref xs ≡ values_of es → listed es ≡ names → map (λ e. row_of_entry d e.now) xs ≡ map (row_of_entry d) names
all_names d es xs names keyed are is = entries-seen d xs ∙ ap (map (row_of_entry d)) (are ∙ listed_is es keyed ∙ is)

pub names_more : (d : Id) (start : List NameRow) (rows : List EntryRow) (xs : List (Bor Entry)) (x : Bor Entry) (r : EntryRow) → map told_entry rows ≡ start ++ map (λ e. row_of_entry d e.now) xs → told_entry r ≡ row_of_entry d x.now → map told_entry (rows ++ r ∷ []) ≡ start ++ map (λ e. row_of_entry d e.now) (xs ++ x ∷ [])
names_more d start rows xs x r told is =
    map-append told_entry rows (r ∷ [])
    ∙ (λ k. told k ++ is k ∷ [])
    ∙ append-more start (map (λ (e : Bor Entry). row_of_entry d e.now) xs) (row_of_entry d x.now ∷ [])
    ∙ ap (λ (es : List NameRow). start ++ es) (sym (map-append (λ (e : Bor Entry). row_of_entry d e.now) xs (x ∷ [])))

-- ---- all nodes, one after the other
pub rows_seen : (ns : List (Bor Node)) → map (λ n. row_of n.now) ns ≡ map row_of (map (λ n. n.now) ns)
rows_seen [] = refl
rows_seen (n ∷ ns) = ap (λ rs. row_of n.now ∷ rs) (rows_seen ns)

entries-snoc : (ns : List Node) (n : Node) → entries_in (ns ++ n ∷ []) ≡ entries_in ns ++ map (row_of_entry (id_of n.id)) n.names
entries-snoc [] n = append-nil (map (row_of_entry (id_of n.id)) n.names)
entries-snoc (m ∷ ns) n = ap (λ (es : List NameRow). map (row_of_entry (id_of m.id)) m.names ++ es) (entries-snoc ns n) ∙ sym (append-more (map (row_of_entry (id_of m.id)) m.names) (entries_in ns) (map (row_of_entry (id_of n.id)) n.names))

pub entries_more : (ns : List (Bor Node)) (i : ℕ) (n : Bor Node) → i < length ns → n ≡ get_or ns i n → entries_in (map (λ n. n.now) (take (i + 1) ns)) ≡ entries_in (map (λ n. n.now) (take i ns)) ++ map (row_of_entry (id_of n.now.id)) n.now.names
entries_more ns i n inside is = ap entries_in (map-more-at (λ (n : Bor Node). n.now) ns i n inside is) ∙ entries-snoc (map (λ (n : Bor Node). n.now) (take i ns)) n.now

-- ---- last numbers
each_more_from : (level count : ℕ) (lasts : List Id) → each_from level (suc count) lasts ≡ each_from level count lasts ++ last_of (level + count) lasts ∷ []
each_more_from level zero lasts = let here : level ≡ level + 0 = omega arith in ap (λ (l : ℕ). last_of l lasts ∷ []) here
each_more_from level (suc count) lasts =
    let next : suc level + count ≡ level + suc count = omega arith in
    ap (λ (ns : List ℕ). last_of level lasts ∷ ns) (each_more_from (suc level) count lasts ∙ ap (λ (l : ℕ). each_from (suc level) count lasts ++ last_of l lasts ∷ []) next)

pub each_more : (count : ℕ) (lasts : List Id) → each_of (count + 1) lasts ≡ each_of count lasts ++ last_of count lasts ∷ []
each_more count lasts =
    let here : 0 + count ≡ count = omega arith in
    let more : count + 1 ≡ suc count = omega arith in
    ap (λ (n : ℕ). each_of n lasts) more ∙ each_more_from 0 count lasts ∙ ap (λ (l : ℕ). each_of count lasts ++ last_of l lasts ∷ []) here

-- ---- what holds of each
module _ (s : Slab Node) (keys : List (Bor ℕ)) (key : Bor ℕ) where
  keys_more : held_at s (map (λ (k : Bor ℕ). k.now) (keys ++ key ∷ [])) ≡ held_at s (map (λ (k : Bor ℕ). k.now) keys) ++ cons_some (get s key.now) []
  keys_more = ap (held_at s) (map-append (λ (k : Bor ℕ). k.now) keys (key ∷ [])) ∙ held_at-more s (map (λ (k : Bor ℕ). k.now) keys) key.now

  module _ (P : Node → Type 0) (all : AllByRecursion P (held_at s (map (λ k. k.now) keys))) where
    pub node_holds : (n : Node) → Some n ≡ get s key.now → P n → AllByRecursion P (held_at s (map (λ (k : Bor ℕ). k.now) (keys ++ key ∷ [])))
    node_holds n found this = subst (AllByRecursion P) (sym (keys_more ∙ ap (λ (o : Option Node). held_at s (map (λ (k : Bor ℕ). k.now) keys) ++ cons_some o []) (sym found))) (all_append P (held_at s (map (λ (k : Bor ℕ). k.now) keys)) (n ∷ []) all (this, tt))

    pub none_holds : None ≡ get s key.now → AllByRecursion P (held_at s (map (λ (k : Bor ℕ). k.now) (keys ++ key ∷ [])))
    none_holds none = subst (AllByRecursion P) (sym (keys_more ∙ ap (λ (o : Option Node). held_at s (map (λ (k : Bor ℕ). k.now) keys) ++ cons_some o []) (sym none))) (all_append P (held_at s (map (λ (k : Bor ℕ). k.now) keys)) [] all tt)

pub walked : (s : Slab Node) (es : List (NodeId × ℕ)) (keys : List (Bor ℕ)) → map deref keys ≡ values_of es → held_at s (map (λ k. k.now) keys) ≡ held s es
walked s es keys are = ap (held_at s) (keys-seen keys ∙ are) ∙ held_at-values s es

pub all_seen : {X : Type 0} (P : X → Type 0) (xs : List (Bor X)) (x : Bor X) → AllByRecursion P (map deref xs) → P x.now → AllByRecursion P (map deref (xs ++ x ∷ []))
all_seen P xs x all this = subst (AllByRecursion P) (sym (map-append deref xs (x ∷ []))) (all_append P (map deref xs) (x.now ∷ []) all (this, tt))
