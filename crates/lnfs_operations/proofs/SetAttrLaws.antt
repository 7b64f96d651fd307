-- What SETATTR looks at, and what it changes: a node whose label is the subject's.
use Rattle.std.proofs.Common.{◌≡◌, ℕ, Bool, true, false, cond, not, ◌&&◌, ◌||◌, [], ◌∷◌, Option, Some, None, refl, sym, ap, ◌∙◌, arith}
use Rattle.std.specs.Prelude.{◌==◌, is_some, IfSome, nat_le}
use Rattle.std.specs.Option.{option_map}
use Rattle.std.specs.List.{list_all}
use Rattle.std.proofs.lemmas.Bool.{and_parts}
use Rattle.std.proofs.lemmas.Bool.Decides.{nat_tests}
use Rattle.lnfs_words.specs.Words.{is_empty}
use Rattle.lnfs_calipso.specs.Label.{IsPreorderWithBottom}
use Rattle.lnfs_attrs.specs.declared.bitmap.Bitmap.{Bitmap}
use Rattle.lnfs_attrs.specs.declared.raw.RawAttrs.{RawAttrs}
use Rattle.lnfs_attrs.specs.declared.settable.AttrSet.{AttrSet}
use Rattle.lnfs_attrs.specs.declared.view.LabelValue.{LabelValue}
use Rattle.lnfs_arguments.specs.declared.stateid.StateId.{StateId}
use Rattle.lnfs_arguments.specs.declared.statuses.TheConstants.{NFS4ERR_NOTEMPTY}
use Rattle.lnfs_monitor.specs.Rules.{Write, Raise}
use Rattle.lnfs_world.specs.World.{Inner, Node, Stored, World, session_at, node_at, label_at, is_directory}
use Rattle.lnfs_world.specs.Erased.{shrunk, erased}
use Rattle.lnfs_world.specs.Tree.{holds_names}
use Rattle.lnfs_world.specs.Change.{Change, Touch, Relabel, apply}
use Rattle.lnfs_world.specs.Effects.{attributes_changed, parent_labels}
use Rattle.lnfs_world.specs.Facts.{has_confirmed, cookies_at}
use Rattle.lnfs_world.specs.Within.{is_within, all_within}
use Rattle.lnfs_world.specs.Outcome.{LevelOf, Site, Place, Outcome, Stands, View, IsFootprint, is_session_for}
use Rattle.lnfs_world.specs.declared.numbers.TheConstants.{MOST_FILE}
use Rattle.lnfs_world.proofs.Seen.{node_at-id, label_of-found, holds_names-seen}
use Rattle.lnfs_world.proofs.Parents.{parent_labels-seen, home_of_parents, named_by_parents}
use Rattle.lnfs_world.proofs.NewNames.{holds_none}
use Rattle.lnfs_world.proofs.Places.{place_stays}
use Rattle.lnfs_operations.specs.declared.Gate.{Gate}
use Rattle.lnfs_operations.specs.declared.Gate.TheVariants.{Namespace}
use Rattle.lnfs_operations.specs.Chain.{Answer, refuse, done, demand}
use Rattle.lnfs_operations.specs.Lookup.{is_link}
use Rattle.lnfs_operations.specs.Shown.{label_shown}
use Rattle.lnfs_operations.specs.StateIds.{Writing}
use Rattle.lnfs_operations.specs.Files.{where_fitting}
use Rattle.lnfs_operations.specs.Given.{is_mode, GivenLabel, spelled_by, set_of}
use Rattle.lnfs_operations.specs.SetAttr.{is_company, same_spelling, respelled, label_set, size_set, mode_set, where_size, values_set, set_on, set_attr}
use Rattle.lnfs_operations.proofs.Chains.{demand_alike, asked_alike, demand_any, standing_view, unchanged_footprint}
use Rattle.lnfs_operations.proofs.CurrentLaws.{IsHeld, with_current-seen}
use Rattle.lnfs_operations.proofs.Ends.{at_current_any, allowed_any, asked_any}
use Rattle.lnfs_operations.proofs.TakingLaws.{own_whole, own_seen}
use Rattle.lnfs_operations.proofs.StateIdLaws.{where_usable-seen, usable_any}
use Rattle.lnfs_operations.proofs.FileLaws.{where_fitting-seen, fitting_any}
use Rattle.lnfs_operations.proofs.GivenLaws.{values_alike, label_alike, AreRead, IsGiven, values_any, mode_any, label_any}

-- ---- what is looked at

-- behind a test all is alike, and so is the rest of the test
demand_both : {A : Type 0} (own x y : Bool) (refusal a b : Outcome A) → (own ≡ true → (x ≡ y) × (a ≡ b)) → demand (own && x) refusal a ≡ demand (own && y) refusal b
demand_both true x y refusal a b same = let both = same refl in λ k. demand (both.0 k) refusal (both.1 k)
demand_both false x y refusal a b same = refl

module _ (site : Site) (lattice : IsPreorderWithBottom site.dom) (p : Place) (w : World) (stands : Stands site.dom p w) (set : Bitmap) (n : Node) (held : IsHeld site.dom p w stands n) where
  abbrev seen_world : World
  seen_world = erased site.dom p.subject w

  abbrev seen_node : Node
  seen_node = shrunk site.dom p.subject n

  whole : (p.subject == n.label) ≡ true → seen_node ≡ n
  whole own = own_whole site.dom lattice p w stands n own

  -- a size, where its question allowed it
  sized_seen : {R : Type 0} (id : StateId) (size : Option ℕ) (next : Outcome (Answer R)) → (is_some size ≡ true → (p.subject == n.label) ≡ true) → where_size site id p seen_world seen_node size next ≡ where_size site id p w n size next
  sized_seen id None next own = refl
  sized_seen id (Some size) next own = where_usable-seen site lattice p w n id Writing _ _ (
      ap (λ m. where_fitting site p seen_world m size next) (whole (own refl)) ∙ where_fitting-seen site lattice p w stands n size next (own refl))

  written_seen : (values : AttrSet) (asks : Bool) → (asks ≡ true → (p.subject == n.label) ≡ true) →
      cond asks (Touch n.id (mode_set p values.mode (size_set p seen_node values.size)) ∷ []) [] ≡ cond asks (Touch n.id (mode_set p values.mode (size_set p n values.size)) ∷ []) []
  written_seen values true own = ap (λ m. Touch n.id (mode_set p values.mode (size_set p m values.size)) ∷ []) (whole (own refl))
  written_seen values false own = refl

  values_seen : (id : StateId) (values : AttrSet) → values_set site id p seen_world seen_node values set ≡ values_set site id p w n values set
  values_seen id values =
      asked_alike (is_some values.size || is_some values.mode) site p (Write n.label) _ _ (λ own.
      ap (λ changes. where_size site id p seen_world seen_node values.size (done p set changes)) (written_seen values (is_some values.size || is_some values.mode) own)
      ∙ sized_seen id values.size _ (λ some. own (grind (arith, some))))

  -- a level that is set, on what it looks at of the world
  abbrev raised_on : Node → (level : ℕ) → (holds : Bool) → Outcome (Answer Bitmap)
  raised_on m level holds =
      cond (level == m.label)
      (done p set [])
      (demand (not (is_directory m.kind && holds)) (refuse p Namespace NFS4ERR_NOTEMPTY) (
      done p set (Relabel m.id level (attributes_changed p.moment m.inner) ∷ [])))

  label_seen : (given : GivenLabel) → label_set site p seen_world seen_node given set ≡ label_set site p w n given set
  label_seen given =
      let respelled_alike = demand_alike (p.subject == n.label) _ _ _ (λ own. ap (λ m. respelled site p m given.spelled set) (whole own)) in
      let raised_alike = demand_both (p.subject == n.label) _ _ _ _ _ (λ own.
      let seen = own_seen site.dom lattice p w stands n held.found own in
      let labels = parent_labels-seen site.dom lattice p.subject w stands.facts n.id seen in
      let holds = holds_names-seen site.dom p.subject w n.id seen in
      ((λ k. list_all (λ parent. p.subject == parent) (labels k) && (not (is_empty (labels k)) && site.dom given.level n.label)), (λ k. raised_on (whole own k) given.level (holds k)))) in
      λ k. cond site.limited (respelled_alike k) (raised_alike k)

  set_seen : (id : StateId) (values : AttrSet) (label : Option GivenLabel) → set_on site id p seen_world seen_node values label set ≡ set_on site id p w n values label set
  set_seen id values None = values_seen id values
  set_seen id values (Some given) = label_seen given

module _ (site : Site) (lattice : IsPreorderWithBottom site.dom) where
  set_attr_seen : (id : StateId) (given : RawAttrs) (p : Place) (w : World) → Stands site.dom p w → set_attr site id given p (erased site.dom p.subject w) ≡ set_attr site id given p w
  set_attr_seen id given p w stands =
      values_alike p given _ _ (λ values.
      demand_alike (is_mode values.mode) _ _ _ (λ mode.
      label_alike site p values.label _ _ (λ label.
      demand_alike (not (is_company values)) _ _ _ (λ alone.
      with_current-seen site.dom p w stands _ _ (λ n held.
      demand_alike (not (is_some values.size && is_directory n.kind)) _ _ _ (λ other.
      demand_alike (not (is_some values.size && is_link n.kind)) _ _ _ (λ file.
      set_seen site lattice p w stands (set_of given) n held id values label)))))))

  pub set_attr_view : (id : StateId) (given : RawAttrs) → View site.dom (set_attr site id given)
  set_attr_view id given = standing_view site.dom (set_attr site id given) (set_attr_seen id given)

-- ---- what is answered

either_any : {A : Type 0} (P : Outcome A → Type 0) (b : Bool) (x y : Outcome A) → P x → P y → P (cond b x y)
either_any P true x y here there = here
either_any P false x y here there = there

-- one of two ways, where it is known which is taken
first_any : {A : Type 0} (P : Outcome A → Type 0) (b : Bool) (x y : Outcome A) → (b ≡ true → P x) → (b ≡ false → P y) → P (cond b x y)
first_any P true x y here there = here refl
first_any P false x y here there = there refl

-- a node at the label of the subject, whose attributes it may set
pub record MaySet (p : Place) (w : World) (n : Node) : Type 0 where
  pub current : p.current ≡ Some n.id
  pub found : node_at w.nodes n.id ≡ Some n
  pub own : (p.subject == n.label) ≡ true

-- and one of which it may set values: a size is that of a file, which may have it
pub record MaySetValues (p : Place) (w : World) (n : Node) (values : AttrSet) : Type 0 where
  pub set : MaySet p w n
  pub mode : is_mode values.mode ≡ true
  pub plain : is_some values.size ≡ true → is_directory n.kind ≡ false
  pub file : is_some values.size ≡ true → is_link n.kind ≡ false
  pub small : IfSome values.size (λ size. nat_le size MOST_FILE ≡ true)

-- and one whose label it may raise to a level that was read
pub record MayRaise (site : Site) (p : Place) (w : World) (n : Node) (level : ℕ) : Type 0 where
  pub enforcing : site.limited ≡ false
  pub set : MaySet p w n
  pub read : (spelled : Stored) × (site.reading spelled ≡ LevelOf level)
  pub parents : list_all (λ parent. p.subject == parent) (parent_labels w.nodes w.entries n.id) ≡ true
  pub named : not (is_empty (parent_labels w.nodes w.entries n.id)) ≡ true
  pub rises : site.dom level n.label ≡ true
  pub empty : not (is_directory n.kind && holds_names w.entries n.id) ≡ true

-- the outcomes that change something
module _ (p : Place) (set : Bitmap) (n : Node) where
  abbrev pub spelled_to : Stored → Outcome (Answer Bitmap)
  spelled_to spelled = done p set (Touch n.id (attributes_changed p.moment (record n.inner { stored = Some spelled })) ∷ [])

  abbrev pub raised_to : (level : ℕ) → Outcome (Answer Bitmap)
  raised_to level = done p set (Relabel n.id level (attributes_changed p.moment n.inner) ∷ [])

  abbrev pub values_to : AttrSet → Outcome (Answer Bitmap)
  values_to values = done p set (Touch n.id (mode_set p values.mode (size_set p n values.size)) ∷ [])

-- what holds of each end of SETATTR holds of its outcome
module _ (P : Outcome (Answer Bitmap) → Type 0) (site : Site) (id : StateId) (given : RawAttrs) (p : Place) (w : World)
    (refused : (gate : Gate) (status : ℕ) → P (refuse p gate status))
    (nothing : P (done p (set_of given) []))
    (spelled : (values : AttrSet) (label : GivenLabel) (n : Node) → site.limited ≡ true → AreRead given values → IsGiven site values.label (Some label) → MaySet p w n → P (spelled_to p (set_of given) n label.spelled))
    (raises : (n : Node) (level : ℕ) → MayRaise site p w n level → P (raised_to p (set_of given) n level))
    (writes : (n : Node) (values : AttrSet) → MaySetValues p w n values → P (values_to p (set_of given) n values)) where
  module _ (n : Node) (current : p.current ≡ Some n.id) (found : node_at w.nodes n.id ≡ Some n) where
    sized_any : (size : Option ℕ) (next : Outcome (Answer Bitmap)) → (IfSome size (λ size. nat_le size MOST_FILE ≡ true) → P next) → P (where_size site id p w n size next)
    sized_any None next is = is tt
    sized_any (Some size) next is = usable_any P p refused w site n id Writing _ (fitting_any P p refused site w n size next (λ small few. is small))

    written_any : (values : AttrSet) (asks : Bool) → (asks ≡ true → MaySetValues p w n values) → P (done p (set_of given) (cond asks (Touch n.id (mode_set p values.mode (size_set p n values.size)) ∷ []) []))
    written_any values true may = writes n values (may refl)
    written_any values false may = nothing

    values_set_any : (values : AttrSet) → is_mode values.mode ≡ true → (is_some values.size ≡ true → is_directory n.kind ≡ false) → (is_some values.size ≡ true → is_link n.kind ≡ false) → P (values_set site id p w n values (set_of given))
    values_set_any values mode plain file =
        asked_any P p refused (is_some values.size || is_some values.mode) site (Write n.label) _ (λ own.
        sized_any values.size _ (λ small.
        written_any values (is_some values.size || is_some values.mode) (λ asks. record { set = record { current = current; found = found; own = own asks }; mode = mode; plain = plain; file = file; small = small })))

    -- a label that was given is read
    given_read : (value : Option LabelValue) (label : GivenLabel) → IsGiven site value (Some label) → (spelled : Stored) × (site.reading spelled ≡ LevelOf label.level)
    given_read None label as_given = absurd (grind (arith, as_given))
    given_read (Some v) label as_given =
        let same : as_given.0 ≡ label.level = let is = as_given.2 in cc in
        (spelled_by v, as_given.1 ∙ ap LevelOf same)

    label_set_any : (values : AttrSet) (label : GivenLabel) → AreRead given values → IsGiven site values.label (Some label) → P (label_set site p w n label (set_of given))
    label_set_any values label read as_given = first_any P site.limited _ _
        (λ limited. allowed_any P p refused site (Write n.label) _ (λ own.
        either_any P (same_spelling (label_shown site p n) label.spelled) _ _ nothing (spelled values label n limited read as_given (record { current = current; found = found; own = own }))))
        (λ enforcing. allowed_any P p refused site (Raise n.label (parent_labels w.nodes w.entries n.id) label.level) _ (λ allowed.
        let own = and_parts _ _ allowed in
        let parents = and_parts _ _ own.1 in
        let named = and_parts _ _ parents.1 in
        either_any P (label.level == n.label) _ _ nothing (
        demand_any P (not (is_directory n.kind && holds_names w.entries n.id)) _ _ (refused _ _) (λ empty.
        raises n label.level (record { enforcing = enforcing; set = record { current = current; found = found; own = own.0 }; read = given_read values.label label as_given; parents = parents.0; named = named.0; rises = named.1; empty = empty })))))

    set_on_any : (values : AttrSet) (label : Option GivenLabel) → is_mode values.mode ≡ true → (is_some values.size ≡ true → is_directory n.kind ≡ false) → (is_some values.size ≡ true → is_link n.kind ≡ false) → AreRead given values → IsGiven site values.label label → P (set_on site id p w n values label (set_of given))
    set_on_any values None mode plain file read as_given = values_set_any values mode plain file
    set_on_any values (Some label) mode plain file read as_given = label_set_any values label read as_given

  pub set_attr_any : P (set_attr site id given p w)
  set_attr_any =
      values_any P p refused given _ (λ values read.
      mode_any P p refused values.mode _ (λ mode.
      label_any P p refused site values.label _ (λ label as_given.
      demand_any P (not (is_company values)) _ _ (refused _ _) (λ alone.
      at_current_any P p refused w _ (λ i n is found.
      demand_any P (not (is_some values.size && is_directory n.kind)) _ _ (refused _ _) (λ other.
      demand_any P (not (is_some values.size && is_link n.kind)) _ _ (refused _ _) (λ file.
      set_on_any n (is ∙ ap Some (sym (node_at-id i w.nodes n found))) (ap (node_at w.nodes) (node_at-id i w.nodes n found) ∙ found) values label mode (λ sized. grind (arith, other, sized)) (λ sized. grind (arith, file, sized)) read as_given)))))))

-- ---- what is changed

module _ (site : Site) (lattice : IsPreorderWithBottom site.dom) (p : Place) (w : World) (stands : Stands site.dom p w) where
  -- changes of nodes alone leave the place
  set_place : (set : Bitmap) (c : Change) → all_within site.dom p.subject w (c ∷ []) ≡ true → (apply c w).clients ≡ w.clients → (apply c w).sessions ≡ w.sessions → IsFootprint site.dom p w (done p set (c ∷ []))
  set_place set c within clients sessions = record {
    within = within;
    place = place_stays site.dom p.subject w (apply c w) (λ number there. ap (λ cs. has_confirmed cs p.subject number) clients ∙ there) (λ client number there held. ap (λ xs. is_session_for (Some client) (session_at xs (record { level = p.subject; number = number }))) sessions ∙ held) p.client p.session p.current p.saved stands.place;
    subject = refl;
  }

  touched_footprint : (set : Bitmap) (n : Node) (inner : Inner) → MaySet p w n → inner.cookies ≡ n.inner.cookies → IsFootprint site.dom p w (done p set (Touch n.id inner ∷ []))
  touched_footprint set n inner may same =
      let own = may.own in
      let label : label_at w.nodes n.id ≡ Some n.label = label_of-found n.id w.nodes n may.found in
      let cookies : cookies_at w.nodes n.id ≡ Some n.inner.cookies = ap (option_map (λ m. m.inner.cookies)) may.found in
      set_place set (Touch n.id inner) (grind (arith, nat_tests, own, label, cookies, same)) refl refl

  -- What isn't a directory holds no names, and a node of which all directories have the subject's label has its home there.
  raised_within : (n : Node) (level : ℕ) (inner : Inner) → MayRaise site p w n level → is_within site.dom p.subject w (Relabel n.id level inner) ≡ true
  raised_within n level inner may =
      let own : n.label ≡ p.subject = let is = may.set.own in grind (arith, nat_tests, is) in
      let label : label_at w.nodes n.id ≡ Some p.subject = label_of-found n.id w.nodes n may.set.found ∙ ap Some own in
      let home = home_of_parents site.dom p.subject w stands.facts n.id label may.parents in
      let rises : site.dom level p.subject ≡ true = ap (site.dom level) (sym own) ∙ may.rises in
      let named = named_by_parents w n.id may.named in
      let empty = may.empty in
      let none = holds_none site.dom p.subject w stands.facts n may.set.found in
      let holds : holds_names w.entries n.id ≡ false = grind (arith, empty, none) in
      grind (arith, nat_tests, label, home, rises, named, holds)

  -- the cookies of a node stay where its values are set
  cookies_stay : (n : Node) (size mode : Option ℕ) → (mode_set p mode (size_set p n size)).cookies ≡ n.inner.cookies
  cookies_stay n None None = refl
  cookies_stay n None (Some mode) = refl
  cookies_stay n (Some size) None = refl
  cookies_stay n (Some size) (Some mode) = refl

  pub set_attr_footprint : (id : StateId) (given : RawAttrs) → IsFootprint site.dom p w (set_attr site id given p w)
  set_attr_footprint id given = set_attr_any (IsFootprint site.dom p w) site id given p w
      (λ gate status. unchanged_footprint site.dom p w stands _) (unchanged_footprint site.dom p w stands _)
      (λ values label n limited read as_given may. touched_footprint (set_of given) n _ may refl)
      (λ n level may. set_place (set_of given) (Relabel n.id level (attributes_changed p.moment n.inner)) (grind (arith, raised_within n level (attributes_changed p.moment n.inner) may)) refl refl)
      (λ n values may. touched_footprint (set_of given) n _ may.set (cookies_stay n values.size values.mode))
