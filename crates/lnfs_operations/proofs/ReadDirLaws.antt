-- What READDIR looks at, and what it changes: the time of access of a directory at the label of its subject.
use Rattle.std.proofs.Common.{◌≡◌, ◌-◌, ℕ, Bool, true, false, ◌&&◌, not, cond, List, [], ◌∷◌, Option, Some, None, refl, sym, ap, subst, ◌∙◌}
use Rattle.std.specs.Prelude.{min, nat_le}
use Rattle.std.specs.Option.{option_map}
use Rattle.std.specs.List.{AllByRecursion}
use Rattle.std.proofs.lemmas.Bool.{and_parts}
use Rattle.lnfs_calipso.specs.Label.{IsPreorderWithBottom}
use Rattle.lnfs_attrs.specs.declared.bitmap.Bitmap.{Bitmap}
use Rattle.lnfs_world.specs.World.{Id, Node, Entry, World, node_at, is_directory}
use Rattle.lnfs_world.specs.Erased.{erased, sees, shrunk}
use Rattle.lnfs_world.specs.Names.{entries_above}
use Rattle.lnfs_world.specs.Outcome.{Site, Place, Outcome, Stands, View, Footprint, IsFootprint}
use Rattle.lnfs_world.proofs.Rows.{all_weaker}
use Rattle.lnfs_world.proofs.Seen.{node_at-id, shrunk_whole, node_at-seen, sees_node, entries_above-seen, entries_above-behind}
use Rattle.lnfs_results.specs.declared.types.DirEntry.{DirEntry}
use Rattle.lnfs_results.specs.declared.limits.TheConstants.{MOST_DATA}
use Rattle.lnfs_monitor.specs.Rules.{Read}
use Rattle.lnfs_operations.specs.declared.Gate.{Gate}
use Rattle.lnfs_operations.specs.declared.numbers.TheConstants.{EMPTY_LISTING}
use Rattle.lnfs_operations.specs.Chain.{Answer, refuse, done}
use Rattle.lnfs_operations.specs.Accessed.{accessed}
use Rattle.lnfs_operations.specs.ReadDir.{Arguments, Listed, error_of, entry_of, may_show, shown_entry, where_shown, listed, is_fruitless, finished, read_dir}
use Rattle.lnfs_operations.proofs.Chains.{demand_alike, demand_any, standing_view, unchanged_footprint}
use Rattle.lnfs_operations.proofs.CurrentLaws.{with_current-seen, accessed_footprint}
use Rattle.lnfs_operations.proofs.Ends.{current_any, allowed_any}
use Rattle.lnfs_operations.proofs.ShownLaws.{NoneInner, none_allowed, answer_seen}

-- ---- the entries

listed_alike : (f g : Entry → Option DirEntry) (room : ℕ) (entries : List Entry) → AllByRecursion (λ e. f e ≡ g e) entries → listed f room entries ≡ listed g room entries
listed_alike f g room [] all = refl
listed_alike f g room (e ∷ entries) all = λ k. where_shown (all.0 k) room (λ left. listed_alike f g left entries all.1 k)

module _ (site : Site) (lattice : IsPreorderWithBottom site.dom) (p : Place) (w : World) (stands : Stands site.dom p w) where
  abbrev seen_world : World
  seen_world = erased site.dom p.subject w

  none_inner : (asked : Bitmap) (above : Bool) → above ≡ false → NoneInner asked above
  none_inner asked above apart = subst (NoneInner asked) (sym apart) (none_allowed asked)

  entry_seen : (asked : Bitmap) (e : Entry) (n : Node) → node_at w.nodes e.node ≡ Some n → entry_of site p seen_world asked e (shrunk site.dom p.subject n) ≡ entry_of site p w asked e n
  entry_seen asked e n found =
      ap (λ a. let d : DirEntry = record { cookie = e.cookie; name = e.name; attrs = a } in d)
      (answer_seen site lattice p w stands.facts e.node n (error_of site p asked n) asked (site.dom p.subject n.label) found (none_inner asked (site.dom p.subject n.label)))

  shown_seen : (asked : Bitmap) (e : Entry) → site.dom p.subject e.node.level ≡ true → shown_entry site p seen_world asked e (node_at seen_world.nodes e.node) ≡ shown_entry site p w asked e (node_at w.nodes e.node)
  shown_seen asked e home = ap (shown_entry site p seen_world asked e) (node_at-seen site.dom p.subject w e.node home) ∙ at (node_at w.nodes e.node) refl
    where
      at : (o : Option Node) → node_at w.nodes e.node ≡ o → shown_entry site p seen_world asked e (option_map (shrunk site.dom p.subject) o) ≡ shown_entry site p w asked e o
      at None found = refl
      at (Some n) found = ap (λ d. cond (may_show site p asked n) (Some d) None) (entry_seen asked e n found)

  listed_seen : (d : Id) (asked : Bitmap) (cookie room : ℕ) → sees site.dom p.subject w.nodes d ≡ true →
      listed (λ e. shown_entry site p seen_world asked e (node_at seen_world.nodes e.node)) room (entries_above seen_world.entries d cookie)
      ≡ listed (λ e. shown_entry site p w asked e (node_at w.nodes e.node)) room (entries_above w.entries d cookie)
  listed_seen d asked cookie room seen =
      ap (listed (λ e. shown_entry site p seen_world asked e (node_at seen_world.nodes e.node)) room) (entries_above-seen site.dom p.subject w d seen cookie)
      ∙ listed_alike _ _ room (entries_above w.entries d cookie) (all_weaker _ _ (λ e known. shown_seen asked e known.1) _ (entries_above-behind site.dom lattice p.subject w stands.facts d cookie seen))

  pub read_dir_seen : (args : Arguments) → read_dir site args p seen_world ≡ read_dir site args p w
  read_dir_seen args =
      let size = min args.maxcount MOST_DATA in
      with_current-seen site.dom p w stands _ _ (λ d held.
      demand_alike (is_directory d.kind) _ _ _ (λ directory.
      demand_alike (site.dom p.subject d.label) _ _ _ (λ above.
      let seen = sees_node site.dom lattice p.subject w stands.facts d.id d held.found above in
      λ k. finished site p (shrunk_whole site.dom p.subject d above k) size (listed_seen d.id args.asked args.cookie (size - EMPTY_LISTING) seen k))))

pub read_dir_view : (site : Site) → IsPreorderWithBottom site.dom → (args : Arguments) → View site.dom (read_dir site args)
read_dir_view site lattice args = standing_view site.dom (read_dir site args) (λ p w stands. read_dir_seen site lattice p w stands args)

-- ---- what is answered

-- the entries above a cookie, as far as there is room for them
abbrev pub entries_found : Site → Arguments → Place → World → Node → Option Listed
entries_found site args p w d = listed (λ e. shown_entry site p w args.asked e (node_at w.nodes e.node)) (min args.maxcount MOST_DATA - EMPTY_LISTING) (entries_above w.entries d.id args.cookie)

-- what holds of each end of READDIR holds of its outcome
pub read_dir_any : (P : Outcome (Answer Listed) → Type 0) (site : Site) (args : Arguments) (p : Place) (w : World) → ((gate : Gate) (status : ℕ) → P (refuse p gate status)) →
    ((i : Id) (d : Node) (found : Listed) → node_at w.nodes i ≡ Some d → nat_le EMPTY_LISTING (min args.maxcount MOST_DATA) ≡ true → entries_found site args p w d ≡ Some found → P (done p found (accessed p d))) → P (read_dir site args p w)
read_dir_any P site args p w refused told =
    let size = min args.maxcount MOST_DATA in
    current_any P p refused w _ (λ i d there.
    demand_any P (is_directory d.kind) _ _ (refused _ _) (λ directory.
    allowed_any P p refused site (Read d.label) _ (λ above. ends i d there (entries_found site args p w d) refl)))
  where
    ends : (i : Id) (d : Node) → node_at w.nodes i ≡ Some d → (o : Option Listed) → entries_found site args p w d ≡ o → P (finished site p d (min args.maxcount MOST_DATA) o)
    ends i d there None is = refused _ _
    ends i d there (Some found) is = demand_any P (nat_le EMPTY_LISTING (min args.maxcount MOST_DATA) && not (is_fruitless found.eof found.entries)) _ _ (refused _ _) (λ enough. told i d found there (and_parts _ _ enough).0 is)

pub read_dir_footprint : (site : Site) → IsPreorderWithBottom site.dom → (args : Arguments) → Footprint site.dom (read_dir site args)
read_dir_footprint site lattice args p w stands = read_dir_any (IsFootprint site.dom p w) site args p w (λ gate status. unchanged_footprint site.dom p w stands _)
    (λ i d found there size is. accessed_footprint site.dom p w stands _ d (ap (node_at w.nodes) (node_at-id i w.nodes d there) ∙ there))
