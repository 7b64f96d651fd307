-- A SETATTR of a label that succeeds sets it to what was given, where labels are carried alone.
use Rattle.std.proofs.Common.{◌≡◌, ℕ, Bool, true, false, cond, ◌&&◌, List, [], ◌∷◌, Option, Some, refl, sym, ap, subst, ◌∙◌, arith}
use Rattle.std.specs.Prelude.{◌==◌, not, is_some}
use Rattle.std.specs.Option.{option_map}
use Rattle.std.specs.Str.{bytes_eq}
use Rattle.std.proofs.lemmas.Bool.{and_parts}
use Rattle.std.proofs.lemmas.Bool.Decides.{nat_tests}
use Rattle.lnfs_calipso.specs.Label.{IsPreorderWithBottom}
use Rattle.lnfs_attrs.specs.declared.bitmap.Bitmap.{Bitmap}
use Rattle.lnfs_attrs.specs.declared.raw.RawAttrs.{RawAttrs}
use Rattle.lnfs_attrs.specs.declared.view.LabelValue.{LabelValue}
use Rattle.lnfs_attrs.specs.declared.settable.AttrSet.{AttrSet}
use Rattle.lnfs_arguments.specs.declared.stateid.StateId.{StateId}
use Rattle.lnfs_monitor.specs.Rules.{Write, Raise}
use Rattle.lnfs_world.specs.World.{Id, Inner, Stored, Node, World, same_id, node_at, is_directory}
use Rattle.lnfs_world.specs.Change.{Touch, touched, apply}
use Rattle.lnfs_world.specs.Effects.{attributes_changed, parent_labels}
use Rattle.lnfs_world.specs.Outcome.{Site, Place, Outcome, Stands, done_to}
use Rattle.lnfs_world.proofs.Keys.{bytes_same}
use Rattle.lnfs_world.proofs.Seen.{node_at-id}
use Rattle.lnfs_operations.specs.declared.Gate.{Gate}
use Rattle.lnfs_operations.specs.Carried.{CarriesAlone, StandsLow, label_of, label_in}
use Rattle.lnfs_operations.specs.Chain.{Answer, Done, Refused, refuse, done}
use Rattle.lnfs_operations.specs.Given.{GivenLabel, spelled_by, set_of}
use Rattle.lnfs_operations.specs.Judged.{where_allowed}
use Rattle.lnfs_operations.specs.Lookup.{is_link}
use Rattle.lnfs_operations.specs.SetAttr.{is_company, same_spelling, raised, respelled, label_set, set_on, set_attr}
use Rattle.lnfs_operations.specs.Shown.{label_shown}
use Rattle.lnfs_operations.proofs.CarriedRows.{read_in, shown_own}
use Rattle.lnfs_operations.proofs.Chains.{demand_any}
use Rattle.lnfs_operations.proofs.Ends.{at_current_any, allowed_any}
use Rattle.lnfs_operations.proofs.GivenLaws.{IsGiven, values_any, mode_any, label_any}

spelling_same : (a b : Stored) → same_spelling a b ≡ true → a ≡ b
spelling_same a b same =
    let first = and_parts (a.lfs == b.lfs) (a.pi == b.pi && bytes_eq a.bytes b.bytes) same in
    let rest = and_parts (a.pi == b.pi) (bytes_eq a.bytes b.bytes) first.1 in
    let lfs : a.lfs ≡ b.lfs = let is : (a.lfs == b.lfs) ≡ true = first.0 in grind (arith, nat_tests, is) in
    let pi : a.pi ≡ b.pi = let is : (a.pi == b.pi) ≡ true = rest.0 in grind (arith, nat_tests, is) in
    let bytes = bytes_same a.bytes b.bytes rest.1 in
    λ k. record { lfs = lfs k; pi = pi k; bytes = bytes k }

-- a node that is touched
abbrev holding : Inner → Node → Node
holding inner n = record n { inner = inner }

node_at-touched : (i : Id) (inner : Inner) (nodes : List Node) → node_at (touched i inner nodes) i ≡ option_map (holding inner) (node_at nodes i)
node_at-touched i inner [] = refl
node_at-touched i inner (n ∷ nodes) = at (same_id i n.id) refl (node_at-touched i inner nodes)
  where
    at : (b : Bool) → same_id i n.id ≡ b → node_at (touched i inner nodes) i ≡ option_map (holding inner) (node_at nodes i) →
        node_at (cond b (holding inner n ∷ nodes) (n ∷ touched i inner nodes)) i ≡ option_map (holding inner) (cond b (Some n) (node_at nodes i))
    at true is rest = ap (λ b. cond b (Some (holding inner n)) (node_at nodes i)) is
    at false is rest = ap (λ b. cond b (Some n) (node_at (touched i inner nodes) i)) is ∙ rest

-- what holds where an operation succeeds
abbrev pub WhereDone : {R : Type 0} → Answer R → Type 0 → Type 0
WhereDone (Done r) T = T
WhereDone (Refused why) T = Unit {0}

module _ (site : Site) (lattice : IsPreorderWithBottom site.dom) (alone : CarriesAlone site) (p : Place) (w : World) (stands : Stands site.dom p w) (low : StandsLow p w) (v : LabelValue) where
  -- the node of an identifier has the label that was given
  abbrev pub IsSet : World → Id → Type 0
  IsSet u i = (n : Node) × (node_at u.nodes i ≡ Some n) × (label_of site n ≡ spelled_by v)

  record Sets (o : Outcome (Answer Bitmap)) : Type 0 where
    is : WhereDone o.answer ((i : Id) → p.current ≡ Some i → IsSet (done_to w o) i)

  refused_sets : (gate : Gate) (status : ℕ) → Sets (refuse p gate status)
  refused_sets gate status = record { is = tt }

  -- of the node of the current file handle
  named_set : (u : World) (i : Id) → p.current ≡ Some i → IsSet u i → (j : Id) → p.current ≡ Some j → IsSet u j
  named_set u i is set j named = let same : i ≡ j = cc in subst (IsSet u) same set

  respelled_sets : (set : Bitmap) (i : Id) (n : Node) → p.current ≡ Some i → node_at w.nodes i ≡ Some n → Sets (respelled site p n (spelled_by v) set)
  respelled_sets set i n current found = at (same_spelling (label_shown site p n) (spelled_by v)) refl
    where
      inner : Inner
      inner = attributes_changed p.moment (record n.inner { stored = Some (spelled_by v) })

      there : node_at (touched n.id inner w.nodes) i ≡ Some (holding inner n)
      there =
          let same = node_at-id i w.nodes n found in
          ap (λ j. node_at (touched j inner w.nodes) i) same ∙ node_at-touched i inner w.nodes ∙ ap (option_map (holding inner)) found

      at : (b : Bool) → same_spelling (label_shown site p n) (spelled_by v) ≡ b → Sets (cond b (done p set []) (done p set (Touch n.id inner ∷ [])))
      at true same = record { is = named_set w i current (n, found, sym (shown_own site lattice alone p w low i n found) ∙ spelling_same (label_shown site p n) (spelled_by v) same) }
      at false other = record { is = named_set (apply (Touch n.id inner) w) i current (holding inner n, there, refl) }

  label_sets : (set : Bitmap) (i : Id) (n : Node) (level : ℕ) → p.current ≡ Some i → node_at w.nodes i ≡ Some n → Sets (label_set site p w n (record { level = level; spelled = spelled_by v }) set)
  label_sets set i n level current found =
      let carried = where_allowed site p (Write n.label) (respelled site p n (spelled_by v) set) in
      let enforced = where_allowed site p (Raise n.label (parent_labels w.nodes w.entries n.id) level) (raised p w n level set) in
      subst (λ b. Sets (cond b carried enforced)) (sym alone.limited) (allowed_any Sets p refused_sets site (Write n.label) _ (λ own. respelled_sets set i n current found))

  on_sets : (id : StateId) (values : AttrSet) (set : Bitmap) (i : Id) (n : Node) (label : Option GivenLabel) → p.current ≡ Some i → node_at w.nodes i ≡ Some n → IsGiven site (Some v) label → Sets (set_on site id p w n values label set)
  on_sets id values set i n label current found is = subst (λ o. Sets (set_on site id p w n values o set)) (sym is.2) (label_sets set i n is.0 current found)

  set_attr_sets : (id : StateId) (given : RawAttrs) → label_in given ≡ Some v → Sets (set_attr site id given p w)
  set_attr_sets id given named =
      values_any Sets p refused_sets given _ (λ values read.
      let value : values.label ≡ Some v = sym (read_in given values read) ∙ named in
      mode_any Sets p refused_sets values.mode _ (λ mode.
      label_any Sets p refused_sets site values.label _ (λ label as_given.
      demand_any Sets (not (is_company values)) _ _ (refused_sets _ _) (λ one.
      at_current_any Sets p refused_sets w _ (λ i n current found.
      demand_any Sets (not (is_some values.size && is_directory n.kind)) _ _ (refused_sets _ _) (λ other.
      demand_any Sets (not (is_some values.size && is_link n.kind)) _ _ (refused_sets _ _) (λ file.
      on_sets id values (set_of given) i n label current found (subst (λ o. IsGiven site o label) value as_given))))))))

  pub label_is_set : (id : StateId) (given : RawAttrs) → label_in given ≡ Some v → WhereDone (set_attr site id given p w).answer ((i : Id) → p.current ≡ Some i → IsSet (done_to w (set_attr site id given p w)) i)
  label_is_set id given named = (set_attr_sets id given named).is
