-- Names that are put, taken out and moved, and the nodes that they name: the changes are those that their subject may make.
use Rattle.std.proofs.Common.{◌≡◌, ℕ, Bool, true, false, ◌&&◌, cond, List, [], ◌∷◌, Option, Some, None, refl, sym, ap, subst, ◌∙◌, arith}
use Rattle.std.specs.Prelude.{◌==◌, ◌++◌, is_some, nat_le}
use Rattle.std.specs.Option.{option_map}
use Rattle.std.specs.List.{list_any}
use Rattle.std.specs.Str.{bytes_eq}
use Rattle.std.proofs.lemmas.Bool.{and_parts}
use Rattle.std.proofs.lemmas.Bool.Decides.{nat_tests}
use Rattle.lnfs_types.specs.declared.event.Moment.{Moment}
use Rattle.lnfs_world.specs.World.{Id, Inner, Node, Entry, World, same_id, session_at, node_at, label_at, directory_at, is_directory}
use Rattle.lnfs_world.specs.Names.{entry_at}
use Rattle.lnfs_world.specs.Tree.{is_some_directory, same_entry, has_name, has_other_name, holds_names}
use Rattle.lnfs_world.specs.Change.{Change, Touch, Unlink, Drop, apply, apply_all, touched, without_entry}
use Rattle.lnfs_world.specs.Facts.{Facts, has_confirmed, is_held, cookies_at}
use Rattle.lnfs_world.specs.Within.{is_within, all_within}
use Rattle.lnfs_world.specs.Effects.{attributes_changed, taken_out}
use Rattle.lnfs_world.specs.Outcome.{Place, is_place, is_session_for}
use Rattle.lnfs_world.proofs.Rows.{all_anyway, all_weaker, all_find, none_any, any_found, any_weaker, any_constant}
use Rattle.lnfs_world.proofs.Keys.{id_same, id_itself}
use Rattle.lnfs_world.proofs.Nodes.{label_at-touched, told-touched, told-dropped, label_at-dropped, cookies_at-touched}
use Rattle.lnfs_world.proofs.Ways.{differs}
use Rattle.lnfs_world.proofs.Seals.{unseal}
use Rattle.lnfs_world.proofs.Places.{place_stays}

-- ---- changes one after the other

pub within_joined : (dom : ℕ → ℕ → Bool) (s : ℕ) (first then : List Change) (w : World) → all_within dom s w first ≡ true → all_within dom s (apply_all first w) then ≡ true → all_within dom s w (first ++ then) ≡ true
within_joined dom s [] then w a b = b
within_joined dom s (c ∷ first) then w a b = let both = and_parts (is_within dom s w c) (all_within dom s (apply c w) first) a in grind (arith, both.0, within_joined dom s first then (apply c w) both.1 b)

pub applied_joined : (first then : List Change) (w : World) → apply_all (first ++ then) w ≡ apply_all then (apply_all first w)
applied_joined [] then w = refl
applied_joined (c ∷ first) then w = applied_joined first then (apply c w)

-- ---- a place stays one where clients and sessions are left

pub record Beside (w v : World) : Type 0 where
  pub clients : v.clients ≡ w.clients
  pub sessions : v.sessions ≡ w.sessions

pub beside_both : (w v u : World) → Beside w v → Beside v u → Beside w u
beside_both w v u first then = record { clients = then.clients ∙ first.clients; sessions = then.sessions ∙ first.sessions }

pub place_left : (dom : ℕ → ℕ → Bool) (p : Place) (w v : World) → Beside w v → is_place dom w p ≡ true → is_place dom v p ≡ true
place_left dom p w v beside is = place_stays dom p.subject w v
    (λ number there. subst (λ rows. has_confirmed rows p.subject number ≡ true) (sym beside.clients) there)
    (λ client number there held. subst (λ rows. is_session_for (Some client) (session_at rows (record { level = p.subject; number = number })) ≡ true) (sym beside.sessions) held)
    p.client p.session p.current p.saved is

-- ---- nodes are touched

-- what is told of nodes but their inner part stays
pub record Touched (w v : World) : Type 0 where
  pub labels : (i : Id) → label_at v.nodes i ≡ label_at w.nodes i
  pub kinds : (i : Id) → directory_at v.nodes i ≡ directory_at w.nodes i
  pub entries : v.entries ≡ w.entries
  pub beside : Beside w v

pub untouched : (w : World) → Touched w w
untouched w = record { labels = λ i. refl; kinds = λ i. refl; entries = refl; beside = record { clients = refl; sessions = refl } }

pub touched_too : (w v : World) (i : Id) (inner : Inner) → Touched w v → Touched w (apply (Touch i inner) v)
touched_too w v i inner before = record {
  labels = λ d. label_at-touched i inner d v.nodes ∙ before.labels d;
  kinds = λ d. told-touched (λ n. is_directory n.kind) i inner (λ n. refl) d v.nodes ∙ before.kinds d;
  entries = before.entries;
  beside = record { clients = before.beside.clients; sessions = before.beside.sessions };
}

pub touch_within : (dom : ℕ → ℕ → Bool) (s : ℕ) (v : World) (i : Id) (inner : Inner) (cookies : ℕ) → label_at v.nodes i ≡ Some s → cookies_at v.nodes i ≡ Some cookies → nat_le cookies inner.cookies ≡ true → is_within dom s v (Touch i inner) ≡ true
touch_within dom s v i inner cookies label next more = grind (arith, nat_tests)

-- ---- nodes that were found

pub own_label : (s : ℕ) (nodes : List Node) (i : Id) (n : Node) → node_at nodes i ≡ Some n → s == n.label ≡ true → label_at nodes i ≡ Some s
own_label s nodes i n found own = grind (arith, nat_tests)

pub own_kind : (nodes : List Node) (i : Id) (n : Node) (directory : Bool) → node_at nodes i ≡ Some n → is_directory n.kind ≡ directory → directory_at nodes i ≡ Some directory
own_kind nodes i n directory found is = ap (option_map (λ n. is_directory n.kind)) found ∙ ap Some is

pub own_cookies : (nodes : List Node) (i : Id) (n : Node) → node_at nodes i ≡ Some n → cookies_at nodes i ≡ Some n.inner.cookies
own_cookies nodes i n found = ap (option_map (λ n. n.inner.cookies)) found

pub kinds_differ : (nodes : List Node) (d i : Id) → directory_at nodes d ≡ Some true → directory_at nodes i ≡ Some false → same_id d i ≡ false
kinds_differ nodes d i directory other = differs _ _ refl (λ same. absurd (grind (arith, directory, other, ap (directory_at nodes) (id_same d i same))))

-- the cookies of a node that is touched, and of another one
pub cookies_own : (i : Id) (inner : Inner) (nodes : List Node) (cookies : ℕ) → cookies_at nodes i ≡ Some cookies → cookies_at (touched i inner nodes) i ≡ Some inner.cookies
cookies_own i inner nodes cookies was = grind (arith, was, id_itself i, cookies_at-touched i inner i nodes)

pub cookies_other : (i : Id) (inner : Inner) (nodes : List Node) (d : Id) → same_id d i ≡ false → cookies_at (touched i inner nodes) d ≡ cookies_at nodes d
cookies_other i inner nodes d differs = grind (arith, differs, cookies_at-touched i inner d nodes)

-- ---- a name is taken out, with its node where it has no other

pub record Without (e : Entry) (v u : World) : Type 0 where
  pub labels : (i : Id) → same_id i e.node ≡ false → label_at u.nodes i ≡ label_at v.nodes i
  pub kinds : (i : Id) → same_id i e.node ≡ false → directory_at u.nodes i ≡ directory_at v.nodes i
  pub cookies : (i : Id) → same_id i e.node ≡ false → cookies_at u.nodes i ≡ cookies_at v.nodes i
  pub entries : u.entries ≡ without_entry e v.entries
  pub beside : Beside v u

pub taken_out-without : (moment : Moment) (entries : List Entry) (e : Entry) (n : Node) (v : World) → n.id ≡ e.node → Without e v (apply_all (taken_out moment entries e n) v)
taken_out-without moment entries e n v id = at (has_other_name entries e)
  where
    at : (b : Bool) → Without e v (apply_all (cond b (Touch n.id (attributes_changed moment n.inner) ∷ Unlink e ∷ []) (Drop e ∷ [])) v)
    at true = record {
      labels = λ i differs. label_at-touched n.id (attributes_changed moment n.inner) i v.nodes;
      kinds = λ i differs. told-touched (λ n. is_directory n.kind) n.id (attributes_changed moment n.inner) (λ n. refl) i v.nodes;
      cookies = λ i differs. grind (arith, id, differs, cookies_at-touched n.id (attributes_changed moment n.inner) i v.nodes);
      entries = refl;
      beside = record { clients = refl; sessions = refl };
    }
    at false = record {
      labels = λ i differs. grind (arith, differs, label_at-dropped e.node i v.nodes);
      kinds = λ i differs. grind (arith, differs, told-dropped (λ n. is_directory n.kind) e.node i v.nodes);
      cookies = λ i differs. grind (arith, differs, told-dropped (λ n. n.inner.cookies) e.node i v.nodes);
      entries = refl;
      beside = record { clients = refl; sessions = refl };
    }

-- ---- what a name names

module _ (entries : List Entry) (d : Id) (name : List ℕ) (e : Entry) (found : entry_at entries d name ≡ Some e) where
  pub found_in : (e.directory ≡ d) × (bytes_eq e.name name ≡ true)
  found_in =
      let known = and_parts _ _ (all_find (λ x. Unit {0}) (λ x. same_id d x.directory && bytes_eq x.name name) entries e (all_anyway _ (λ x. tt) entries) found).1 in
      (sym (id_same d e.directory known.0), known.1)

  has_name_found : has_name entries e.node ≡ true
  has_name_found = any_found _ (λ x. same_id e.node x.node) entries e found (id_itself e.node)

  pub is_there : list_any (λ x. same_entry e x) entries ≡ true
  is_there = any_found _ (λ x. same_entry e x) entries e found (grind (arith, nat_tests))

module _ (dom : ℕ → ℕ → Bool) (w : World) (facts : Facts dom w) where
  -- what has a further name is no directory
  named_file : (d : Id) (name : List ℕ) (e : Entry) → entry_at w.entries d name ≡ Some e → has_other_name w.entries e ≡ true → directory_at w.nodes e.node ≡ Some false
  named_file d name e found other =
      let good = (all_find _ _ w.entries e (unseal facts.nodes.tree).joined found).0 in
      let one = (all_find _ _ w.entries e (unseal facts.nodes.tree).once found).0 in
      by_kind (directory_at w.nodes e.node) (grind arith) (grind arith)
    where
      by_kind : (o : Option Bool) → is_some o ≡ true → is_some_directory o ≡ false → o ≡ Some false
      by_kind None there file = absurd (grind arith)
      by_kind (Some true) there file = absurd (grind arith)
      by_kind (Some false) there file = refl

  -- what goes with its last name, out of a directory of its label, is at home there
  dropped_home : (s : ℕ) (entry : Entry) → label_at w.nodes entry.node ≡ Some s → label_at w.nodes entry.directory ≡ Some s → has_other_name w.entries entry ≡ false → entry.node.level ≡ s
  dropped_home s entry own directory last =
      let held : is_held (label_at w.nodes) w.entries entry.node ≡ true → (s == entry.node.level) ≡ true = λ h.
      any_constant (s == entry.node.level) w.entries (any_weaker _ (λ e. s == entry.node.level) w.entries (all_weaker _ _ (λ e none. grind (arith, nat_tests, id_same entry.directory e.directory)) w.entries (none_any _ w.entries last)) h) in
      grind (arith, nat_tests, facts.nodes.held entry.node s own, held)

  pub taken_out_within : (s : ℕ) (moment : Moment) (v : World) (d : Id) (name : List ℕ) (e : Entry) (n : Node) → Touched w v → label_at w.nodes d ≡ Some s → entry_at w.entries d name ≡ Some e → node_at w.nodes e.node ≡ Some n → n.id ≡ e.node → label_at w.nodes e.node ≡ Some s → holds_names w.entries e.node ≡ false →
      (directory_at w.nodes e.node ≡ Some false → cookies_at v.nodes e.node ≡ cookies_at w.nodes e.node) → all_within dom s v (taken_out moment w.entries e n) ≡ true
  taken_out_within s moment v d name e n touched own named there id own_node empty same_cookies = at (has_other_name w.entries e) refl
    where
      in_own : label_at w.nodes e.directory ≡ Some s
      in_own = ap (label_at w.nodes) (found_in w.entries d name e named).0 ∙ own

      at : (b : Bool) → has_other_name w.entries e ≡ b → all_within dom s v (cond b (Touch n.id (attributes_changed moment n.inner) ∷ Unlink e ∷ []) (Drop e ∷ [])) ≡ true
      at true other =
          let file = named_file d name e named other in
          let inner : Inner = attributes_changed moment n.inner in
          let cookies : cookies_at v.nodes n.id ≡ Some n.inner.cookies = ap (cookies_at v.nodes) id ∙ same_cookies file ∙ grind arith in
          let first = touch_within dom s v n.id inner n.inner.cookies (ap (label_at v.nodes) id ∙ touched.labels e.node ∙ own_node) cookies (grind (arith, nat_tests)) in
          let now = touched_too w v n.id inner touched in
          let in_directory = now.labels e.directory ∙ in_own in
          let of_node = now.labels e.node ∙ own_node in
          let kind = now.kinds e.node ∙ file in
          let more : has_other_name v.entries e ≡ true = ap (λ entries. has_other_name entries e) touched.entries ∙ other in
          grind (arith, nat_tests, first, in_directory, of_node, kind, more)
      at false last =
          let in_directory = touched.labels e.directory ∙ in_own in
          let of_node = touched.labels e.node ∙ own_node in
          let home = dropped_home s e own_node in_own last in
          let has : has_name v.entries e.node ≡ true = ap (λ entries. has_name entries e.node) touched.entries ∙ has_name_found w.entries d name e named in
          let alone : has_other_name v.entries e ≡ false = ap (λ entries. has_other_name entries e) touched.entries ∙ last in
          let holds : holds_names v.entries e.node ≡ false = ap (λ entries. holds_names entries e.node) touched.entries ∙ empty in
          grind (arith, nat_tests, in_directory, of_node, home, has, alone, holds)
