-- A directory of the subject's level may take a new name, under its next cookie, and with it a new node.
use Rattle.std.proofs.Common.{◌≡◌, ◌+◌, ℕ, Bool, true, false, not, ◌&&◌, ◌||◌, List, [], ◌∷◌, Option, Some, None, refl, ap, arith}
use Rattle.std.specs.Prelude.{◌==◌}
use Rattle.std.specs.Option.{option_map}
use Rattle.std.specs.List.{find, AllByRecursion}
use Rattle.std.proofs.lemmas.Bool.Decides.{nat_tests}
use Rattle.lnfs_types.specs.declared.event.Moment.{Moment}
use Rattle.lnfs_world.specs.World.{Id, Inner, Node, Entry, World, same_id, node_at, label_at, directory_at, is_directory, is_given}
use Rattle.lnfs_world.specs.Names.{entry_at}
use Rattle.lnfs_world.specs.Tree.{holds_names}
use Rattle.lnfs_world.specs.Change.{Touch, Make, apply}
use Rattle.lnfs_world.specs.Effects.{name_added, next_entry, next_id}
use Rattle.lnfs_world.specs.Facts.{Facts, NodeFacts, same_name, cookies_at}
use Rattle.lnfs_world.specs.Within.{is_new, is_free, may_add, is_within, all_within}
use Rattle.lnfs_world.proofs.Seals.{unseal}
use Rattle.lnfs_world.proofs.Rows.{all_two, all_none, all_weaker}
use Rattle.lnfs_world.proofs.Keys.{id_same, id_itself, bytes_turned}
use Rattle.lnfs_world.proofs.Seen.{label_of-found}
use Rattle.lnfs_world.proofs.Nodes.{told-touched, label_at-touched, cookies_at-touched}

-- what isn't found isn't there
pub none_found : {X : Type 0} (q : X → Bool) (xs : List X) → find q xs ≡ None → AllByRecursion (λ x. q x ≡ false) xs
none_found q [] none = tt
none_found q (x ∷ xs) none = (grind arith, none_found q xs (grind arith))

module _ (dom : ℕ → ℕ → Bool) (s : ℕ) (w : World) (facts : Facts dom w) where
  -- what isn't a directory holds no names
  pub holds_none : (n : Node) → node_at w.nodes n.id ≡ Some n → is_directory n.kind ≡ false → holds_names w.entries n.id ≡ false
  holds_none n found other =
      let kind : directory_at w.nodes n.id ≡ Some (is_directory n.kind) = ap (option_map (λ m. is_directory m.kind)) found in
      all_none _ w.entries (all_weaker _ _ (λ e joined. grind (arith, nat_tests, other, kind, joined, id_same n.id e.directory)) w.entries (unseal facts.nodes.tree).joined)

  module _ (d : Node) (found : node_at w.nodes d.id ≡ Some d) where
    -- a name that isn't there and the next cookie are free
    pub next_free : (name : List ℕ) (i : Id) → entry_at w.entries d.id name ≡ None → is_free w.entries (next_entry d name i) ≡ true
    next_free name i new =
        let cookies : cookies_at w.nodes d.id ≡ Some d.inner.cookies = ap (option_map (λ m. m.inner.cookies)) found in
        let none = all_none (λ e. same_name (next_entry d name i) e || same_id d.id e.directory && d.inner.cookies == e.cookie) w.entries
        (all_two _ _ _ (λ e absent below. grind (arith, nat_tests, cookies, absent, below, id_same d.id e.directory, bytes_turned name e.name)) w.entries (none_found _ w.entries new) facts.nodes.cookies) in
        ap not none

    module _ (own : d.label ≡ s) (inner : Inner) (more : inner.cookies ≡ d.inner.cookies + 1) where
      -- once its next cookie is the one after, or later
      pub next_added : (name : List ℕ) (i : Id) → is_directory d.kind ≡ true → entry_at w.entries d.id name ≡ None → may_add s (apply (Touch d.id inner) w) (next_entry d name i) ≡ true
      next_added name i directory new =
          let label : label_at w.nodes d.id ≡ Some d.label = ap (option_map (λ m. m.label)) found in
          let kind : directory_at w.nodes d.id ≡ Some (is_directory d.kind) = ap (option_map (λ m. is_directory m.kind)) found in
          let cookies : cookies_at w.nodes d.id ≡ Some d.inner.cookies = ap (option_map (λ m. m.inner.cookies)) found in
          let free = next_free name i new in
          grind (
            arith,
            nat_tests,
            own,
            more,
            directory,
            label,
            kind,
            cookies,
            free,
            id_itself d.id,
            label_at-touched d.id inner d.id w.nodes,
            told-touched (λ n. is_directory n.kind) d.id inner (λ n. refl) d.id w.nodes,
            cookies_at-touched d.id inner d.id w.nodes,
          )

-- a node comes into a directory under a new name
pub added_within : (dom : ℕ → ℕ → Bool) (s : ℕ) (w : World) (facts : Facts dom w) (d n : Node) (name : List ℕ) (inner : Inner) → inner.cookies ≡ d.inner.cookies + 1 → node_at w.nodes d.id ≡ Some d → is_directory d.kind ≡ true → d.label ≡ s → n.id ≡ next_id w.lasts.nodes s → dom n.label s ≡ true → entry_at w.entries d.id name ≡ None →
    all_within dom s w (Touch d.id inner ∷ Make n (next_entry d name n.id) ∷ []) ≡ true
added_within dom s w facts d n name inner more found directory own id rises new =
    let label = label_of-found d.id w.nodes d found in
    let cookies : cookies_at w.nodes d.id ≡ Some d.inner.cookies = ap (option_map (λ m. m.inner.cookies)) found in
    let adds = next_added dom s w facts d found own inner more name n.id directory new in
    let next : is_new s w.lasts.nodes n.id ≡ true = grind (arith, nat_tests, id) in
    let touch : is_within dom s w (Touch d.id inner) ≡ true = grind (arith, nat_tests, own, more, label, cookies) in
    λ k. touch k && ((next k && (rises k && (id_itself n.id k && adds k))) && true)

pub made_within : (dom : ℕ → ℕ → Bool) (s : ℕ) (w : World) (facts : Facts dom w) (d n : Node) (name : List ℕ) (moment : Moment) → node_at w.nodes d.id ≡ Some d → is_directory d.kind ≡ true → d.label ≡ s → n.id ≡ next_id w.lasts.nodes s → dom n.label s ≡ true → entry_at w.entries d.id name ≡ None →
    all_within dom s w (Touch d.id (name_added moment d.inner) ∷ Make n (next_entry d name n.id) ∷ []) ≡ true
made_within dom s w facts d n name moment found directory own id rises new = added_within dom s w facts d n name (name_added moment d.inner) refl found directory own id rises new

-- a number that wasn't given yet is of no node
pub next_absent : (dom : ℕ → ℕ → Bool) (nodes : List Node) (entries : List Entry) (lasts : List Id) → NodeFacts dom nodes entries lasts → (level : ℕ) → node_at nodes (next_id lasts level) ≡ None
next_absent dom nodes entries lasts facts level = at (node_at nodes (next_id lasts level)) refl
  where
    at : (o : Option Node) → node_at nodes (next_id lasts level) ≡ o → node_at nodes (next_id lasts level) ≡ None
    at None found = found
    at (Some n) found =
        let given : is_given lasts (next_id lasts level) ≡ true = facts.given (next_id lasts level) n.label (ap (option_map (λ (m : Node). m.label)) found) in
        absurd (grind (arith, nat_tests, given))
