-- The components of a path are its names, and tell it.
use Rattle.std.proofs.Common.{◌≡◌, ◌≤◌, ◌<◌, ◌+◌, ℕ, ◌==◌, true, not, ◌&&◌, List, [], ◌∷◌, ◌++◌, length, drop, nat_le, refl, sym, ap, ◌∙◌, subst, inl, inr, arith}
use Rattle.std.specs.Prelude.{codes, All, IsTrue}
use Rattle.std.specs.List.{list_all}
use Rattle.std.specs.Str.{bytes_eq}
use Rattle.std.proofs.Math.Seq.{drop-append-add}
use Rattle.std.proofs.lemmas.Bool.{cases_Bool, and_parts, or_cases, or_right, eqb-true, leb-true}
use Rattle.std.proofs.lemmas.Grind.{flat_map-append}
use Rattle.std.proofs.lemmas.List.{append-nil}
use Rattle.std.proofs.lemmas.List.Folds.{list_all-append}
use Rattle.std.proofs.lemmas.List.Elements.{All-nil, All-cons, filter-append}
use Rattle.std.proofs.lemmas.Slice.Eq.{bytes_eq-Decides}
use Rattle.lnfs_words.specs.Words.{is_empty, split, longer, slash}
use Rattle.lnfs_words.specs.Paths.{is_component, are_components, is_path, parent_of}
use Rattle.lnfs_words.proofs.Splits.{split_some}
use Rattle.lnfs_words.proofs.PathParts.{path_parts}
use Rattle.lnfs_script.specs.Paths.{are_filled, components, joined, is_root_or_path}

-- ---- names are components

abbrev IsName : List ℕ → Type 0
IsName name = is_component name ≡ true

filled : (name : List ℕ) → is_component name ≡ true → not (is_empty name) ≡ true
filled [] e = cc
filled (b ∷ name) e = refl

all_filled : (names : List (List ℕ)) → list_all is_component names ≡ true → are_filled names ≡ names
all_filled [] e = refl
all_filled (name ∷ names) e =
    let h = and_parts (is_component name) (list_all is_component names) e in
    rw (filled name h.0, all_filled names h.1) refl

all_named : (names : List (List ℕ)) → list_all is_component names ≡ true → All IsName names
all_named [] e = All-nil IsName
all_named (name ∷ names) e =
    let h = and_parts (is_component name) (list_all is_component names) e in
    All-cons IsName name names h.0 (all_named names h.1)

pub record AreNames (path : List ℕ) (names : List (List ℕ)) : Type 0 where
  pub parts : split slash path ≡ [] ∷ names
  pub some : 1 ≤ length names
  pub few : length names ≤ 16
  pub all : list_all is_component names ≡ true

empty_is : (text : List ℕ) → is_empty text ≡ true → text ≡ []
empty_is [] e = refl
empty_is (b ∷ text) e = cc

names_of : (path : List ℕ) → is_path path ≡ true → (names : List (List ℕ)) × AreNames path names
unfolding is_path
names_of path e = of (split slash path) refl e
  where
    of : (parts : List (List ℕ)) → split slash path ≡ parts → are_components parts ≡ true → (names : List (List ℕ)) × AreNames path names
    of [] s e = cc
    of (front ∷ names) s e =
        let a = and_parts (is_empty front && nat_le 1 (length names) && nat_le (length names) 16) (list_all is_component names) e in
        let b = and_parts (is_empty front && nat_le 1 (length names)) (nat_le (length names) 16) a.0 in
        let c = and_parts (is_empty front) (nat_le 1 (length names)) b.0 in
        (names, record { parts = s ∙ ap (λ (f : List ℕ). f ∷ names) (empty_is front c.0); some = leb-true _ _ c.1; few = leb-true _ _ b.1; all = a.1 })

components_are : (path : List ℕ) (names : List (List ℕ)) → AreNames path names → components path ≡ names
components_are path names h = ap are_filled h.parts ∙ all_filled names h.all

-- ---- what holds of them

root_has_none : (path : List ℕ) → bytes_eq path (codes "/") ≡ true → components path ≡ []
root_has_none path e = ap components ((bytes_eq-Decides path (codes "/")).0 e)

module _ (P : List (List ℕ) → Type 0) where
  either : (path : List ℕ) → IsTrue (is_root_or_path path) → P [] → ((names : List (List ℕ)) → AreNames path names → P names) → P (components path)
  either path is none some =
      elim (or_cases (bytes_eq path (codes "/")) (is_path path) is) [
        | inl root ↦ subst P (sym (root_has_none path root)) none
        | inr path_is ↦ let n = names_of path path_is in subst P (sym (components_are path n.0 n.1)) (some n.0 n.1)
      ]

pub few : (path : List ℕ) → IsTrue (is_root_or_path path) → length (components path) ≤ 16
few path is = either (λ names. length names ≤ 16) path is (omega arith) (λ names h. h.few)

pub all : (path : List ℕ) → IsTrue (is_root_or_path path) → All (λ name. is_component name ≡ true) (components path)
all path is = either (All IsName) path is (All-nil IsName) (λ names h. all_named names h.all)

pub some : (path : List ℕ) → IsTrue (is_path path) → 1 ≤ length (components path)
some path is = let n = names_of path is in subst (λ (names : List (List ℕ)). 1 ≤ length names) (sym (components_are path n.0 n.1)) n.1.some

pub below : (path : List ℕ) → IsTrue (is_path path) → IsTrue (is_root_or_path path)
below path is = or_right (bytes_eq path (codes "/")) (is_path path) is

-- ---- they tell the path

joined_longer : (b : ℕ) (text : List ℕ) (parts : List (List ℕ)) → 0 < length parts → joined parts ≡ slash ∷ text → joined (longer b parts) ≡ slash ∷ b ∷ text
joined_longer b text [] some e = absurd (omega arith)
joined_longer b text (part ∷ parts) some e = let rest : part ++ joined parts ≡ text = cc in ap (λ bs. slash ∷ b ∷ bs) rest

joined_split : (text : List ℕ) → joined (split slash text) ≡ slash ∷ text
joined_split [] = refl
joined_split (b ∷ text) =
    elim (cases_Bool (b == slash)) [
      | inl t ↦ rw t (ap (λ bs. slash ∷ bs) (joined_split text) ∙ ap (λ c. slash ∷ c ∷ text) (sym (eqb-true b slash t)))
      | inr f ↦ rw f (joined_longer b text (split slash text) (split_some slash text) (joined_split text))
    ]

-- what is behind the first slash
joined_names : (path : List ℕ) (names : List (List ℕ)) → split slash path ≡ [] ∷ names → joined names ≡ path
joined_names path names e = let both : slash ∷ joined names ≡ slash ∷ path = sym (ap joined e) ∙ joined_split path in cc

pub spelled : (path : List ℕ) → IsTrue (is_path path) → joined (components path) ≡ path
spelled path is = let n = names_of path is in ap joined (components_are path n.0 n.1) ∙ joined_names path n.0 n.1.parts

-- ---- the last of them

pub record HasLast (path : List ℕ) : Type 0 where
  pub name : List ℕ
  pub text : path ≡ parent_of path ++ slash ∷ name
  pub components : components path ≡ components (parent_of path) ++ name ∷ []

pub last_of : (path : List ℕ) → is_path path ≡ true → HasLast path
last_of path is =
    let h = path_parts path is in
    let n = names_of path is in
    let names : n.0 ≡ h.front ++ h.name ∷ [] = let both : [] ∷ n.0 ≡ [] ∷ (h.front ++ h.name ∷ []) = sym n.1.parts ∙ h.parts in cc in
    let whole : joined (h.front ++ h.name ∷ []) ≡ path = joined_names path (h.front ++ h.name ∷ []) h.parts in
    let front : joined h.front ≡ parent_of path = joined_names (parent_of path) h.front h.parent in
    let last : joined (h.name ∷ []) ≡ slash ∷ h.name = ap (λ (t : List ℕ). slash ∷ t) (append-nil h.name) in
    let is_name : list_all is_component (h.front ++ h.name ∷ []) ≡ true = subst (λ (ns : List (List ℕ)). list_all is_component ns ≡ true) names n.1.all in
    record {
      name = h.name;
      text = sym whole ∙ flat_map-append (λ (name : List ℕ). slash ∷ name) h.front (h.name ∷ []) ∙ ap (λ (t : List ℕ). joined h.front ++ t) last ∙ ap (λ (t : List ℕ). t ++ slash ∷ h.name) front;
      components = ap are_filled h.parts ∙ filter-append (λ part. not (is_empty part)) h.front (h.name ∷ []) ∙ ap (λ (ns : List (List ℕ)). are_filled h.front ++ ns) (all_filled (h.name ∷ []) (and_parts (list_all is_component h.front) (list_all is_component (h.name ∷ [])) (sym (list_all-append is_component h.front (h.name ∷ [])) ∙ is_name)).1) ∙ ap (λ (ns : List (List ℕ)). ns ++ h.name ∷ []) (sym (ap are_filled h.parent));
    }

pub behind_parent : (path name : List ℕ) → path ≡ parent_of path ++ slash ∷ name → drop (length (parent_of path) + 1) path ≡ name
behind_parent path name e = ap (drop (length (parent_of path) + 1)) e ∙ drop-append-add (parent_of path) (slash ∷ name) 1
