-- What CREATE looks at, and what it changes: a directory whose label is the subject's, and a new node in it.
use Rattle.std.proofs.Common.{◌≡◌, ◌+◌, ℕ, true, not, ◌&&◌, List, length, Option, Some, None, refl, sym, ap, ◌∙◌, arith}
use Rattle.std.specs.Prelude.{◌==◌, is_some, nat_le, nat_lt}
use Rattle.std.proofs.lemmas.Bool.Decides.{nat_tests}
use Rattle.lnfs_words.specs.Words.{is_empty}
use Rattle.lnfs_calipso.specs.Label.{IsPreorderWithBottom}
use Rattle.lnfs_attrs.specs.declared.raw.RawAttrs.{RawAttrs}
use Rattle.lnfs_attrs.specs.declared.settable.AttrSet.{AttrSet}
use Rattle.lnfs_arguments.specs.declared.types.What.{What}
use Rattle.lnfs_arguments.specs.declared.statuses.TheConstants.{NFS4ERR_EXIST, NFS4ERR_NOSPC}
use Rattle.lnfs_monitor.specs.Rules.{Change as ChangeNames, Child}
use Rattle.lnfs_world.specs.declared.numbers.TheConstants.{LAST_NUMBER}
use Rattle.lnfs_world.specs.World.{Node, Entry, World, node_at, is_directory}
use Rattle.lnfs_world.specs.Names.{entry_at}
use Rattle.lnfs_world.specs.Erased.{erased}
use Rattle.lnfs_world.specs.Effects.{has_cookie, next_id}
use Rattle.lnfs_world.specs.Outcome.{Site, Place, Outcome, Stands, View, Footprint, IsFootprint, done_to, is_place}
use Rattle.lnfs_world.proofs.Seen.{node_at-id, shrunk_whole, sees_node, entry_at-seen}
use Rattle.lnfs_world.proofs.Views.{last_of-seen}
use Rattle.lnfs_world.proofs.Usage.{nodes_used-seen}
use Rattle.lnfs_world.proofs.NewNames.{made_within}
use Rattle.lnfs_world.proofs.Places.{place_stays}
use Rattle.lnfs_operations.specs.declared.Gate.{Gate}
use Rattle.lnfs_operations.specs.declared.Gate.TheVariants.{Namespace, Quota}
use Rattle.lnfs_operations.specs.declared.numbers.TheConstants.{MOST_TEXT}
use Rattle.lnfs_operations.specs.Chain.{Answer, refuse, demand, where_there}
use Rattle.lnfs_operations.specs.Names.{where_named}
use Rattle.lnfs_operations.specs.Given.{is_mode, GivenLabel, level_or, set_of}
use Rattle.lnfs_operations.specs.Bounds.{is_well_formed}
use Rattle.lnfs_operations.specs.Create.{Made, is_text, has_room, new_node, made, create}
use Rattle.lnfs_operations.proofs.Chains.{demand_alike, demand_any, standing_view, unchanged_footprint}
use Rattle.lnfs_operations.proofs.CurrentLaws.{with_current-seen}
use Rattle.lnfs_operations.proofs.Ends.{at_current_any, allowed_any, well_named_any, new_any}
use Rattle.lnfs_operations.proofs.GivenLaws.{values_alike, label_alike, AreRead, IsGiven, values_any, mode_any, label_any}

-- ---- what is looked at

module _ (site : Site) (what : What) (name : List ℕ) (given : RawAttrs) (p : Place) (w : World) (mode : Option ℕ) (label : Option GivenLabel) where
  -- the last tests, on what they look at of the world
  abbrev placed : (there : Option Entry) (used last : ℕ) → Node → Outcome (Answer Made)
  placed there used last d =
      where_there there (λ e. refuse p Namespace NFS4ERR_EXIST) (
      demand (nat_lt used (site.nodes d.label) && (nat_lt last LAST_NUMBER && has_cookie d)) (refuse p Quota NFS4ERR_NOSPC) (
      made p d name (set_of given) (record (new_node site p w what mode label d) { id = record { level = d.label; number = last + 1 } })))

module _ (site : Site) (lattice : IsPreorderWithBottom site.dom) where
  create_seen : (what : What) (name : List ℕ) (given : RawAttrs) (p : Place) (w : World) → Stands site.dom p w → create site what name given p (erased site.dom p.subject w) ≡ create site what name given p w
  create_seen what name given p w stands = ap (where_named p name) (
      values_alike p given _ _ (λ values.
      demand_alike (not (is_some values.size)) _ _ _ (λ none.
      demand_alike (is_mode values.mode) _ _ _ (λ mode.
      label_alike site p values.label _ _ (λ label.
      demand_alike (is_text what (λ text. not (is_empty text))) _ _ _ (λ some.
      demand_alike (is_text what (λ text. nat_le (length text) MOST_TEXT)) _ _ _ (λ short.
      with_current-seen site.dom p w stands _ _ (λ d held.
      demand_alike (is_directory d.kind) _ _ _ (λ directory.
      demand_alike (p.subject == d.label) _ _ _ (λ own.
      demand_alike (site.dom (level_or d.label label) d.label) _ _ _ (λ rises.
      let above : site.dom p.subject d.label ≡ true = grind (arith, nat_tests, own, lattice.reflexive p.subject) in
      let there = entry_at-seen site.dom p.subject w d.id (sees_node site.dom lattice p.subject w stands.facts d.id d held.found above) name in
      let used = nodes_used-seen site.dom p.subject d.label w above in
      let last = last_of-seen site.dom p.subject d.label above w.lasts.nodes in
      λ k. placed site what name given p w values.mode label (there k) (used k) (last k) (shrunk_whole site.dom p.subject d above k))))))))))))

  pub create_view : (what : What) (name : List ℕ) (given : RawAttrs) → View site.dom (create site what name given)
  create_view what name given = standing_view site.dom (create site what name given) (create_seen what name given)

-- ---- what is answered

-- the directory of a new node, and what its tests told
pub record MayMake (site : Site) (what : What) (name : List ℕ) (p : Place) (w : World) (mode : Option ℕ) (label : Option GivenLabel) (d : Node) : Type 0 where
  pub current : p.current ≡ Some d.id
  pub named : is_well_formed name ≡ true
  pub mode_fits : is_mode mode ≡ true
  pub found : node_at w.nodes d.id ≡ Some d
  pub text : is_text what (λ text. nat_le (length text) MOST_TEXT) ≡ true
  pub directory : is_directory d.kind ≡ true
  pub own : (p.subject == d.label) ≡ true
  pub rises : site.dom (level_or d.label label) d.label ≡ true
  pub new : entry_at w.entries d.id name ≡ None
  pub room : has_room site w d ≡ true

-- what holds of each end of CREATE holds of its outcome
pub create_any : (P : Outcome (Answer Made) → Type 0) (site : Site) (what : What) (name : List ℕ) (given : RawAttrs) (p : Place) (w : World) → ((gate : Gate) (status : ℕ) → P (refuse p gate status)) →
    ((values : AttrSet) (label : Option GivenLabel) (d : Node) → AreRead given values → IsGiven site values.label label → MayMake site what name p w values.mode label d → P (made p d name (set_of given) (new_node site p w what values.mode label d))) → P (create site what name given p w)
create_any P site what name given p w refused told =
    well_named_any P p refused name _ (λ named.
    values_any P p refused given _ (λ values read.
    demand_any P (not (is_some values.size)) _ _ (refused _ _) (λ none.
    mode_any P p refused values.mode _ (λ mode.
    label_any P p refused site values.label _ (λ label as_given.
    demand_any P (is_text what (λ text. not (is_empty text))) _ _ (refused _ _) (λ some.
    demand_any P (is_text what (λ text. nat_le (length text) MOST_TEXT)) _ _ (refused _ _) (λ short.
    at_current_any P p refused w _ (λ i d is found.
    demand_any P (is_directory d.kind) _ _ (refused _ _) (λ directory.
    allowed_any P p refused site (ChangeNames d.label) _ (λ own.
    allowed_any P p refused site (Child d.label (level_or d.label label)) _ (λ rises.
    new_any P p refused w d name _ (λ new.
    demand_any P (has_room site w d) _ _ (refused _ _) (λ room.
    told values label d read as_given (record { named = named; mode_fits = mode; current = is ∙ ap Some (sym (node_at-id i w.nodes d found)); found = ap (node_at w.nodes) (node_at-id i w.nodes d found) ∙ found; text = short; directory = directory; own = own; rises = rises; new = new; room = room }))))))))))))))

-- ---- what is changed

pub create_footprint : (site : Site) → IsPreorderWithBottom site.dom → (what : What) (name : List ℕ) (given : RawAttrs) → Footprint site.dom (create site what name given)
create_footprint site lattice what name given p w stands = create_any (IsFootprint site.dom p w) site what name given p w (λ gate status. unchanged_footprint site.dom p w stands _) (λ values label d read as_given may.
    let own : d.label ≡ p.subject = let is = may.own in grind (arith, nat_tests, is) in
    let home : site.dom p.subject d.label ≡ true = ap (site.dom p.subject) own ∙ lattice.reflexive p.subject in
    let n : Node = new_node site p w what values.mode label d in
    let o : Outcome (Answer Made) = made p d name (set_of given) n in
    let place = stands.place in
    let there : is_place site.dom w (record p { current = Some n.id }) ≡ true = grind (arith, home) in
    record {
      within = made_within site.dom p.subject w stands.facts d n name p.moment may.found may.directory own (ap (next_id w.lasts.nodes) own) (ap (site.dom n.label) (sym own) ∙ may.rises) may.new;
      place = place_stays site.dom p.subject w (done_to w o) (λ number there. there) (λ client number there held. held) p.client p.session (Some n.id) p.saved there;
      subject = refl;
    })
