-- A name that is taken out of a directory may be put there anew, under the next cookie.
use Rattle.std.proofs.Common.{◌≡◌, ℕ, ◌+◌, Bool, true, false, not, ◌&&◌, ◌||◌, List, [], ◌∷◌, Some, refl, sym, ap, ◌∙◌, arith}
use Rattle.std.specs.Prelude.{◌==◌}
use Rattle.std.specs.Option.{option_map}
use Rattle.std.specs.List.{find, AllByRecursion}
use Rattle.std.specs.Str.{bytes_eq}
use Rattle.std.proofs.lemmas.Bool.{and_parts}
use Rattle.std.proofs.lemmas.Bool.Decides.{nat_tests}
use Rattle.lnfs_world.specs.Rows.{Apart}
use Rattle.lnfs_world.specs.World.{Id, Node, Entry, World, same_id, node_at, label_at, directory_at}
use Rattle.lnfs_world.specs.Names.{entry_at}
use Rattle.lnfs_world.specs.Tree.{same_entry}
use Rattle.lnfs_world.specs.Change.{without_entry}
use Rattle.lnfs_world.specs.Facts.{Facts, same_name, cookies_at, is_below}
use Rattle.lnfs_world.specs.Within.{is_free, may_add}
use Rattle.lnfs_world.specs.Effects.{next_entry}
use Rattle.lnfs_world.proofs.Rows.{all_weaker, all_two, all_filter, all_none}
use Rattle.lnfs_world.proofs.Keys.{id_same, id_itself, bytes_same, bytes_itself, bytes_turned}

entry_itself : (e : Entry) → same_entry e e ≡ true
entry_itself e = grind (arith, nat_tests)

-- names differ, so what has the name of an entry that was found is that entry
alone : (q : Entry → Bool) → ((x y : Entry) → q x ≡ true → q y ≡ true → same_name x y ≡ true) → (xs : List Entry) (e : Entry) → Apart same_name xs → find q xs ≡ Some e → AllByRecursion (λ x. q x ≡ true → same_entry e x ≡ true) xs
alone q alike [] e apart found = tt
alone q alike (y ∷ xs) e apart found = at (q y) refl (alone q alike xs e apart.1)
  where
    at : (b : Bool) → q y ≡ b → (find q xs ≡ Some e → AllByRecursion (λ x. q x ≡ true → same_entry e x ≡ true) xs) → AllByRecursion (λ x. q x ≡ true → same_entry e x ≡ true) (y ∷ xs)
    at true is rest =
        let same : y ≡ e = grind (arith, is) in
        (λ passes. ap (λ x. same_entry x y) (sym same) ∙ entry_itself y, all_weaker _ _ (λ x none passes. absurd (grind (arith, none, alike y x is passes))) xs apart.0)
    at false is rest = (λ passes. absurd (grind (arith, is, passes)), rest (grind (arith, is)))

abbrev is_named : Id → List ℕ → Entry → Bool
is_named d name e = same_id d e.directory && bytes_eq e.name name

named_alike : (d : Id) (name : List ℕ) (x y : Entry) → is_named d name x ≡ true → is_named d name y ≡ true → same_name x y ≡ true
named_alike d name x y a b =
    let first = and_parts _ _ a in
    let then = and_parts _ _ b in
    let directories : x.directory ≡ y.directory = sym (id_same d x.directory first.0) ∙ id_same d y.directory then.0 in
    let names : x.name ≡ y.name = bytes_same x.name name first.1 ∙ sym (bytes_same y.name name then.1) in
    grind (arith, id_itself y.directory, bytes_itself y.name, directories, names)

module _ (dom : ℕ → ℕ → Bool) (w : World) (facts : Facts dom w) (d : Node) (there : node_at w.nodes d.id ≡ Some d) (name : List ℕ) (i : Id) where
  cookies_there : cookies_at w.nodes d.id ≡ Some d.inner.cookies
  cookies_there = ap (option_map (λ n. n.inner.cookies)) there

  -- no other name of the directory has its next cookie
  cookie_free : (e : Entry) → is_below e.cookie (cookies_at w.nodes e.directory) ≡ true → (same_id d.id e.directory && d.inner.cookies == e.cookie) ≡ false
  cookie_free e below = let cookies = cookies_there in grind (arith, nat_tests, id_same d.id e.directory)

  -- the name of an entry is free where this is taken out
  pub free_left : (e : Entry) → entry_at w.entries d.id name ≡ Some e → is_free (without_entry e w.entries) (next_entry d name i) ≡ true
  free_left e found =
      let all = all_two _ _ (λ x. (is_named d.id name x ≡ true → same_entry e x ≡ true) × (is_below x.cookie (cookies_at w.nodes x.directory) ≡ true)) (λ x a b. (a, b)) w.entries (alone (is_named d.id name) (named_alike d.id name) w.entries e facts.nodes.names found) facts.nodes.cookies in
      ap not (all_none _ (without_entry e w.entries) (all_weaker _ _ (λ x both. each x both.0 both.1.0 both.1.1) _ (all_filter _ (λ x. not (same_entry e x)) w.entries all)))
    where
      each : (x : Entry) → not (same_entry e x) ≡ true → (is_named d.id name x ≡ true → same_entry e x ≡ true) → is_below x.cookie (cookies_at w.nodes x.directory) ≡ true → (same_name (next_entry d name i) x || same_id d.id x.directory && d.inner.cookies == x.cookie) ≡ false
      each x left only below = grind (arith, left, only, cookie_free x below, bytes_turned name x.name)

-- what may be added is named anew in a directory of the subject's label, and has its next cookie
pub adds_within : (s : ℕ) (v : World) (d : Node) (name : List ℕ) (i : Id) → label_at v.nodes d.id ≡ Some s → directory_at v.nodes d.id ≡ Some true → cookies_at v.nodes d.id ≡ Some (d.inner.cookies + 1) → is_free v.entries (next_entry d name i) ≡ true → may_add s v (next_entry d name i) ≡ true
adds_within s v d name i own kind cookies free = grind (arith, nat_tests)
