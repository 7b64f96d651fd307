-- What the operations leave that make nodes, change their names and set their attributes: the place but for its current file
-- handle, all clients and sessions, and the sizes of nodes.
use Rattle.std.proofs.Common.{◌≡◌, ◌≤◌, ℕ, Bool, true, false, cond, List, [], ◌∷◌, ◌++◌, length, Option, Some, None, refl, sym, ap, subst, ◌∙◌, arith}
use Rattle.std.specs.Prelude.{nat_le, is_some, IfSome}
use Rattle.std.specs.Option.{option_map}
use Rattle.std.specs.List.{AllByRecursion}
use Rattle.std.proofs.lemmas.Bool.Decides.{nat_tests}
use Rattle.lnfs_types.specs.declared.event.Moment.{Moment}
use Rattle.lnfs_words.specs.Words.{is_empty}
use Rattle.lnfs_attrs.specs.declared.bitmap.Bitmap.{Bitmap}
use Rattle.lnfs_attrs.specs.declared.raw.RawAttrs.{RawAttrs}
use Rattle.lnfs_attrs.specs.declared.view.LabelValue.{LabelValue}
use Rattle.lnfs_arguments.specs.declared.stateid.StateId.{StateId}
use Rattle.lnfs_arguments.specs.declared.stateid.Cinfo.{Cinfo}
use Rattle.lnfs_arguments.specs.declared.types.What.{What}
use Rattle.lnfs_arguments.specs.declared.types.What.TheVariants.{Dir, Symlink}
use Rattle.lnfs_arguments.specs.declared.types.Op.{Op}
use Rattle.lnfs_arguments.specs.declared.types.Op.TheVariants as ops
use Rattle.lnfs_world.specs.World.{Id, Inner, Stored, Node, Entry, Open, World, same_id, node_at, node_order}
use Rattle.lnfs_world.specs.Change.{Change, Touch, Relabel, Make, Unlink, Drop, Move, EndOpen, apply, apply_all}
use Rattle.lnfs_world.specs.Effects.{names_changed, name_added, attributes_changed, next_entry, written, data_changed, taken_out, directories_changed}
use Rattle.lnfs_world.specs.Opens.{ended}
use Rattle.lnfs_world.specs.Tree.{has_other_name}
use Rattle.lnfs_world.specs.Outcome.{Site, Place, Outcome, done_to}
use Rattle.lnfs_world.proofs.Rows.{all_find, all_left}
use Rattle.lnfs_world.proofs.Sorted.{all_inserted}
use Rattle.lnfs_world.proofs.Nodes.{told-touched}
use Rattle.lnfs_world.proofs.Seen.{node_at-id}
use Rattle.lnfs_operations.specs.declared.Gate.{Gate}
use Rattle.lnfs_types.specs.declared.limits.TheConstants.{LABEL_LIMIT}
use Rattle.lnfs_operations.specs.declared.numbers.TheConstants.{MOST_TEXT}
use Rattle.lnfs_operations.specs.Chain.{Answer, refuse, done}
use Rattle.lnfs_operations.specs.Lookup.{is_link}
use Rattle.lnfs_operations.specs.Shown.{label_shown}
use Rattle.lnfs_operations.specs.Given.{GivenLabel, spelled_by, spelled_or, kept_label, set_of}
use Rattle.lnfs_operations.specs.Create.{is_text, text_of, kind_of, new_node, create}
use Rattle.lnfs_operations.specs.Link.{link}
use Rattle.lnfs_operations.specs.Remove.{remove}
use Rattle.lnfs_operations.specs.Rename.{Mover, rename}
use Rattle.lnfs_operations.specs.SetAttr.{size_set, mode_set, set_attr}
use Rattle.lnfs_operations.specs.Open.{Arguments as OpenArguments, Wanted, passed_over, new_open, joined, new_file, cut, opened_with, open_file}
use Rattle.lnfs_operations.specs.Close.{close}
use Rattle.lnfs_operations.specs.Write.{Arguments as WriteArguments, write}
use Rattle.lnfs_operations.specs.Sequence.{Sent}
use Rattle.lnfs_operations.specs.Served.{row}
use Rattle.lnfs_operations.specs.Sizes.{NodeFits, LabelsFit}
use Rattle.lnfs_world.proofs.ChangedNames.{applied_joined, Beside, beside_both}
use Rattle.lnfs_world.proofs.Leases.{ended_beside, ended_nodes}
use Rattle.lnfs_operations.proofs.GivenLaws.{IsGiven}
use Rattle.lnfs_operations.proofs.CreateLaws.{create_any}
use Rattle.lnfs_operations.proofs.Namings.{renamed, link_any, remove_any, rename_any}
use Rattle.lnfs_operations.proofs.SetAttrLaws.{set_attr_any}
use Rattle.lnfs_operations.proofs.FileLaws.{IsFile, close_any, write_any}
use Rattle.lnfs_operations.proofs.Openings.{open_any}
use Rattle.lnfs_operations.proofs.ReadingRows.{all_found}
use Rattle.lnfs_operations.proofs.ShortRows.{label_short}

-- whether a node is a symbolic link
abbrev link_at : List Node → Id → Option Bool
link_at nodes i = option_map (λ n. is_link n.kind) (node_at nodes i)

module _ (site : Site) (w : World) where
  -- clients and sessions are left, and the sizes of nodes are kept
  pub record Changed (v : World) : Type 0 where
    pub beside : Beside w v
    pub sizes : LabelsFit site → AllByRecursion NodeFits w.nodes → AllByRecursion NodeFits v.nodes

  -- and the kinds of nodes
  record Stepped (v : World) : Type 0 where
    kinds : (i : Id) → link_at v.nodes i ≡ link_at w.nodes i
    changed : Changed v

  unchanged : Stepped w
  unchanged = record { kinds = λ i. refl; changed = record { beside = record { clients = refl; sessions = refl }; sizes = λ spells fits. fits } }

  -- ---- changes

  -- what a node gets is of a size that it may have
  abbrev Gives : Node → Inner → Type 0
  Gives n inner = LabelsFit site → NodeFits n → NodeFits (record n { inner = inner })

  found_in : (v : World) (n : Node) → Stepped v → node_at w.nodes n.id ≡ Some n → (m : Node) × (node_at v.nodes n.id ≡ Some m) × (is_link m.kind ≡ is_link n.kind)
  found_in v n before there = at (node_at v.nodes n.id) refl
    where
      told : link_at v.nodes n.id ≡ Some (is_link n.kind)
      told = before.kinds n.id ∙ ap (option_map (λ m. is_link m.kind)) there

      at : (o : Option Node) → node_at v.nodes n.id ≡ o → (m : Node) × (node_at v.nodes n.id ≡ Some m) × (is_link m.kind ≡ is_link n.kind)
      at None is = absurd (grind (arith, told))
      at (Some m) is = (m, is, grind (arith, told))

  node_fits_in : (v : World) (i : Id) (n : Node) → AllByRecursion NodeFits v.nodes → node_at v.nodes i ≡ Some n → NodeFits n
  node_fits_in v i n fits found = (all_find NodeFits (λ m. same_id i m.id) v.nodes n fits found).0

  touch_steps : (v : World) (n : Node) (inner : Inner) → node_at w.nodes n.id ≡ Some n → Gives n inner → Stepped v → Stepped (apply (Touch n.id inner) v)
  touch_steps v n inner there gives before = record {
    kinds = λ i. told-touched (λ m. is_link m.kind) n.id inner (λ m. refl) i v.nodes ∙ before.kinds i;
    changed = record {
      beside = record { clients = before.changed.beside.clients; sessions = before.changed.beside.sessions };
      sizes = λ spells fits.
          let given = gives spells (node_fits_in w n.id n fits there) in
          let found = found_in v n before there in
          all_found NodeFits (λ m. same_id n.id m.id) (λ m. record m { inner = inner }) v.nodes found.0 found.1
          (record { stored = given.stored; text = λ link. given.text (sym found.2 ∙ link) }) (before.changed.sizes spells fits);
    };
  }

  make_changes : (v : World) (n : Node) (e : Entry) → (LabelsFit site → AllByRecursion NodeFits w.nodes → NodeFits n) → Changed v → Changed (apply (Make n e) v)
  make_changes v n e new before = record {
    beside = record { clients = before.beside.clients; sessions = before.beside.sessions };
    sizes = λ spells fits. all_inserted node_order NodeFits n v.nodes (new spells fits) (before.sizes spells fits);
  }

  drop_changes : (v : World) (e : Entry) → Changed v → Changed (apply (Drop e) v)
  drop_changes v e before = record {
    beside = record { clients = before.beside.clients; sessions = before.beside.sessions };
    sizes = λ spells fits. all_left NodeFits _ v.nodes (before.sizes spells fits);
  }

  -- the nodes are left, and what is beside them; names or opens change
  names_change : (v u : World) → u.nodes ≡ v.nodes → Beside v u → Changed v → Changed u
  names_change v u same beside before = record {
    beside = record { clients = beside.clients ∙ before.beside.clients; sessions = beside.sessions ∙ before.beside.sessions };
    sizes = λ spells fits. subst (AllByRecursion NodeFits) (sym same) (before.sizes spells fits);
  }

  taken_out_changes : (moment : Moment) (v : World) (entries : List Entry) (e : Entry) (n : Node) → node_at w.nodes n.id ≡ Some n → Stepped v → Changed (apply_all (taken_out moment entries e n) v)
  taken_out_changes moment v entries e n there before = at (has_other_name entries e)
    where
      at : (b : Bool) → Changed (apply_all (cond b (Touch n.id (attributes_changed moment n.inner) ∷ Unlink e ∷ []) (Drop e ∷ [])) v)
      at true =
          let touched = touch_steps v n (attributes_changed moment n.inner) there (λ spells fits. record { stored = fits.stored; text = fits.text }) before in
          names_change (apply (Touch n.id (attributes_changed moment n.inner)) v) _ refl (record { clients = refl; sessions = refl }) touched.changed
      at false = drop_changes v e before.changed

  directories_step : (moment : Moment) (from to : Node) → node_at w.nodes from.id ≡ Some from → node_at w.nodes to.id ≡ Some to → Stepped (apply_all (directories_changed moment from to) w)
  directories_step moment from to from_there to_there = at (same_id from.id to.id)
    where
      added : (v : World) → Stepped v → Stepped (apply (Touch to.id (name_added moment to.inner)) v)
      added v before = touch_steps v to (name_added moment to.inner) to_there (λ spells fits. record { stored = fits.stored; text = fits.text }) before

      at : (b : Bool) → Stepped (apply_all (cond b (Touch to.id (name_added moment to.inner) ∷ []) (Touch from.id (names_changed moment from.inner) ∷ Touch to.id (name_added moment to.inner) ∷ [])) w)
      at true = added w unchanged
      at false = added (apply (Touch from.id (names_changed moment from.inner)) w) (touch_steps w from (names_changed moment from.inner) from_there (λ spells fits. record { stored = fits.stored; text = fits.text }) unchanged)

-- ---- the operations

abbrev pub is_changing : Op → Bool
is_changing (ops.Create what name given) = true
is_changing (ops.Link name) = true
is_changing (ops.Remove name) = true
is_changing (ops.Rename old new) = true
is_changing (ops.SetAttr id given) = true
is_changing (ops.Open seqid access deny client owner making claim) = true
is_changing (ops.Close seqid id) = true
is_changing (ops.Write id offset stable content) = true
is_changing op = false

-- what an outcome leaves
pub record Changes {A : Type 0} (site : Site) (p : Place) (w : World) (o : Outcome A) : Type 0 where
  pub session : o.place.session ≡ p.session
  pub changed : Changed site w (done_to w o)

-- a label that was given, and one that is kept: given, or that of a directory
given_short : (site : Site) (spells : LabelsFit site) (value : Option LabelValue) (label : GivenLabel) → site.limited ≡ true → IsGiven site value (Some label) → length label.spelled.bytes ≤ LABEL_LIMIT
given_short site spells None label limited as_given = absurd (grind (arith, as_given))
given_short site spells (Some v) label limited as_given =
    let same : spelled_by v ≡ label.spelled = let is = as_given.2 in cc in
    subst (λ (spelled : Stored). length spelled.bytes ≤ LABEL_LIMIT) same (spells.taken limited (spelled_by v) as_given.0 as_given.1)

kept_short : (site : Site) (spells : LabelsFit site) (p : Place) (d : Node) (value : Option LabelValue) (label : Option GivenLabel) → NodeFits d → IsGiven site value label → IfSome (kept_label site p d label) (λ stored. length stored.bytes ≤ LABEL_LIMIT)
kept_short site spells p d value label fits as_given = at site.limited refl
  where
    of : (label : Option GivenLabel) → site.limited ≡ true → IsGiven site value label → length (spelled_or (label_shown site p d) label).bytes ≤ LABEL_LIMIT
    of None limited as_given = label_short site spells p d fits
    of (Some label) limited as_given = given_short site spells value label limited as_given

    at : (b : Bool) → site.limited ≡ b → IfSome (cond b (Some (spelled_or (label_shown site p d) label)) None) (λ stored. length stored.bytes ≤ LABEL_LIMIT)
    at true limited = of label limited as_given
    at false limited = tt

-- the text of a link that was tested
text_short : (what : What) → is_text what (λ text. nat_le (length text) MOST_TEXT) ≡ true → is_link (kind_of what) ≡ true → length (text_of what) ≤ MOST_TEXT
text_short Dir short link = absurd cc
text_short (Symlink text) short link = grind (arith, nat_tests, short)

module _ (site : Site) (p : Place) (w : World) where
  refused_changes : {R : Type 0} (gate : Gate) (status : ℕ) → Changes {A = Answer R} site p w (refuse p gate status)
  refused_changes gate status = record { session = refl; changed = (unchanged site w).changed }

  create_changes : (what : What) (name : List ℕ) (given : RawAttrs) → Changes site p w (create site what name given p w)
  create_changes what name given = create_any (Changes site p w) site what name given p w refused_changes (λ values label d read as_given may. record {
    session = refl;
    changed = make_changes site w (apply (Touch d.id (name_added p.moment d.inner)) w) (new_node site p w what values.mode label d) _
        (λ spells fits. record {
          stored = kept_short site spells p d values.label label (node_fits_in site w w d.id d fits may.found) as_given;
          text = λ link. text_short what may.text link;
        })
        (touch_steps site w w d (name_added p.moment d.inner) may.found (λ spells fits. record { stored = fits.stored; text = fits.text }) (unchanged site w)).changed;
  })

  link_changes : (name : List ℕ) → Changes site p w (link site name p w)
  link_changes name = link_any site p w (Changes site p w) name refused_changes (λ n d is links free.
      let v : World = apply (Touch d.id (name_added p.moment d.inner)) w in
      let once = touch_steps site w w d (name_added p.moment d.inner) is.there (λ spells fits. record { stored = fits.stored; text = fits.text }) (unchanged site w) in
      let twice = touch_steps site w v n (attributes_changed p.moment n.inner) links.there (λ spells fits. record { stored = fits.stored; text = fits.text }) once in
      record { session = refl; changed = names_change site w (apply (Touch n.id (attributes_changed p.moment n.inner)) v) _ refl (record { clients = refl; sessions = refl }) twice.changed })

  -- what a name names is found under its own identifier
  named_there : (i : Id) (n : Node) → node_at w.nodes i ≡ Some n → node_at w.nodes n.id ≡ Some n
  named_there i n there = ap (node_at w.nodes) (node_at-id i w.nodes n there) ∙ there

  remove_changes : (name : List ℕ) → Changes site p w (remove site name p w)
  remove_changes name = remove_any site p w (Changes site p w) name refused_changes (λ d n e is named leaves.
      let v : World = apply (Touch d.id (names_changed p.moment d.inner)) w in
      let once = touch_steps site w w d (names_changed p.moment d.inner) is.there (λ spells fits. record { stored = fits.stored; text = fits.text }) (unchanged site w) in
      record { session = refl; changed = taken_out_changes site w p.moment v w.entries e n (named_there e.node n named.there) once })

  moved_changes : (new : List ℕ) (m : Mover) (room : List Change) → Changed site w (apply_all room (apply_all (directories_changed p.moment m.from m.to) w)) → Changes site p w (renamed p new m room)
  moved_changes new m room before =
      let steps : List Change = directories_changed p.moment m.from m.to in
      let move : Change = Move m.entry (next_entry m.to new m.node.id) in
      let joined : apply_all (steps ++ room ++ move ∷ []) w ≡ apply move (apply_all room (apply_all steps w)) = applied_joined (steps ++ room) (move ∷ []) w ∙ ap (apply move) (applied_joined steps room w) in
      record { session = refl; changed = subst (Changed site w) (sym joined) (names_change site w (apply_all room (apply_all steps w)) _ refl (record { clients = refl; sessions = refl }) before) }

  rename_changes : (old new : List ℕ) → Changes site p w (rename site old new p w)
  rename_changes old new = rename_any site p w (Changes site p w) old new (record {
    refused = refused_changes;
    stays = λ m. record { session = refl; changed = (unchanged site w).changed };
    free = λ m from to named moves is. moved_changes new m [] (directories_step site w p.moment m.from m.to from.there to.there).changed;
    onto = λ m e n from to named moves onto gives. moved_changes new m (taken_out p.moment w.entries e n)
        (taken_out_changes site w p.moment _ w.entries e n (named_there e.node n onto.there) (directories_step site w p.moment m.from m.to from.there to.there));
  })

  set_changes : (set : Bitmap) (n : Node) (inner : Inner) → node_at w.nodes n.id ≡ Some n → Gives site w n inner → Changes site p w (done p set (Touch n.id inner ∷ []))
  set_changes set n inner there gives = record { session = refl; changed = (touch_steps site w w n inner there gives (unchanged site w)).changed }

  raised_changes : (set : Bitmap) (n : Node) (level : ℕ) (inner : Inner) → node_at w.nodes n.id ≡ Some n → Gives site w n inner → Changes site p w (done p set (Relabel n.id level inner ∷ []))
  raised_changes set n level inner there gives = record {
    session = refl;
    changed = record {
      beside = record { clients = refl; sessions = refl };
      sizes = λ spells fits.
          let given = gives spells (node_fits_in site w w n.id n fits there) in
          all_found NodeFits (λ m. same_id n.id m.id) (λ m. record m { label = level; inner = inner }) w.nodes n there (record { stored = given.stored; text = given.text }) fits;
    };
  }

  -- a size is that of a file, and no other value is of a size
  values_give : (n : Node) (size mode : Option ℕ) → (is_some size ≡ true → is_link n.kind ≡ false) → Gives site w n (mode_set p mode (size_set p n size))
  values_give n None None file spells fits = record { stored = fits.stored; text = fits.text }
  values_give n None (Some mode) file spells fits = record { stored = fits.stored; text = fits.text }
  values_give n (Some size) None file spells fits = record { stored = fits.stored; text = λ link. absurd (grind (arith, link, file refl)) }
  values_give n (Some size) (Some mode) file spells fits = record { stored = fits.stored; text = λ link. absurd (grind (arith, link, file refl)) }

  set_attr_changes : (id : StateId) (given : RawAttrs) → Changes site p w (set_attr site id given p w)
  set_attr_changes id given = set_attr_any (Changes site p w) site id given p w refused_changes
      (record { session = refl; changed = (unchanged site w).changed })
      (λ values label n limited read as_given may. set_changes (set_of given) n _ may.found (λ spells fits. record { stored = given_short site spells values.label label limited as_given; text = fits.text }))
      (λ n level may. raised_changes (set_of given) n level _ may.set.found (λ spells fits. record { stored = fits.stored; text = fits.text }))
      (λ n values may. set_changes (set_of given) n _ may.set.found (values_give n values.size values.mode may.file))

  -- ---- data of files, and opens

  -- a file has no text of a link
  data_gives : (n : Node) (content : List ℕ) → is_link n.kind ≡ false → Gives site w n (data_changed p.moment content n.inner)
  data_gives n content file spells fits = record { stored = fits.stored; text = λ link. absurd (grind (arith, link, file)) }

  -- nothing, or data of a file
  data_steps : (n : Node) (content : List ℕ) → IsFile w n → (b : Bool) → Stepped site w (apply_all (cond b (Touch n.id (data_changed p.moment content n.inner) ∷ []) []) w)
  data_steps n content file true = touch_steps site w w n (data_changed p.moment content n.inner) file.found (data_gives n content file.link) (unchanged site w)
  data_steps n content file false = unchanged site w

  close_changes : (id : StateId) → Changes site p w (close id p w)
  close_changes id = close_any (Changes site p w) id p w refused_changes (λ n o found named. record { session = refl; changed = names_change site w w (apply (EndOpen o.id) w) refl (record { clients = refl; sessions = refl }) (unchanged site w).changed })

  write_changes : (args : WriteArguments) → Changes site p w (write site args p w)
  write_changes args = write_any (Changes site p w) site args p w refused_changes (λ n may.
      either (is_empty args.content) n (written args.offset args.content n.inner.content) may.file)
    where
      either : (none : Bool) (n : Node) (content : List ℕ) → IsFile w n → Changes site p w (done p (length args.content) (cond none [] (Touch n.id (data_changed p.moment content n.inner) ∷ [])))
      either true n content file = record { session = refl; changed = (data_steps n content file false).changed }
      either false n content file = record { session = refl; changed = (data_steps n content file true).changed }

  -- a file that is there, then a change of opens, and then the end of some
  opened_changes : (wanted : Wanted) (info : Cinfo) (n : Node) (o : Open) (c : Change) (ends : List Open) → IsFile w n → ((v : World) → (apply c v).nodes ≡ v.nodes) → ((v : World) → Beside v (apply c v)) → Changes site p w (opened_with p wanted n info o (c ∷ ended ends))
  opened_changes wanted info n o c ends file nodes beside =
      let v : World = apply_all (cut p wanted n) w in
      let u : World = apply c v in
      let before = data_steps n [] file wanted.sized in
      let left = beside_both v u (apply_all (ended ends) u) (beside v) (ended_beside ends u) in
      record {
        session = refl;
        changed = subst (Changed site w) (sym (applied_joined (cut p wanted n) (c ∷ ended ends) w)) (names_change site w v (apply_all (ended ends) u) (ended_nodes ends u ∙ nodes v) left before.changed);
      }

  open_changes : (args : OpenArguments) → Changes site p w (open_file site args p w)
  open_changes args = open_any (Changes site p w) site args p w (record {
    refused = refused_changes;
    makes = λ client name making wanted d may.
        let n : Node = new_file site p w making wanted d in
        let v : World = apply (Touch d.id (name_added p.moment d.inner)) w in
        let first = touch_steps site w w d (name_added p.moment d.inner) may.found (λ spells fits. record { stored = fits.stored; text = fits.text }) (unchanged site w) in
        let then = make_changes site w v n (next_entry d name n.id)
        (λ spells fits. record { stored = kept_short site spells p d may.as_given.values.label wanted.label (node_fits_in site w w d.id d fits may.found) may.as_given.given; text = λ link. absurd cc })
        first.changed in
        record { session = refl; changed = names_change site w (apply (Make n (next_entry d name n.id)) v) _ refl (record { clients = refl; sessions = refl }) then };
    joins = λ client wanted info n o may found. opened_changes wanted info n (joined args o) _ (passed_over args p w client n) may.file (λ v. refl) (λ v. record { clients = refl; sessions = refl });
    adds = λ client wanted info n may none left. opened_changes wanted info n (new_open args p w client n.id) _ (passed_over args p w client n) may.file (λ v. refl) (λ v. record { clients = refl; sessions = refl });
  })

  -- with another answer
  replied_changes : {A B : Type 0} (o : Outcome A) (answer : B) → Changes site p w o → Changes site p w (record { answer = answer; place = o.place; changes = o.changes })
  replied_changes o answer changes = record { session = changes.session; changed = changes.changed }

  pub row_changes : (sent : Sent) (op : Op) → is_changing op ≡ true → Changes site p w (row site sent op p w)
  row_changes sent (ops.Create what name given) is = replied_changes _ _ (create_changes what name given)
  row_changes sent (ops.Link name) is = replied_changes _ _ (link_changes name)
  row_changes sent (ops.Remove name) is = replied_changes _ _ (remove_changes name)
  row_changes sent (ops.Rename old new) is = replied_changes _ _ (rename_changes old new)
  row_changes sent (ops.SetAttr id given) is = replied_changes _ _ (set_attr_changes id given)
  row_changes sent (ops.Open seqid access deny client owner making claim) is = replied_changes _ _ (open_changes (record { access = access; deny = deny; owner = owner; making = making; claim = claim }))
  row_changes sent (ops.Close seqid id) is = replied_changes _ _ (close_changes id)
  row_changes sent (ops.Write id offset stable content) is = replied_changes _ _ (write_changes (record { id = id; offset = offset; stable = stable; content = content }))
  row_changes sent op is = absurd (grind arith)

  pub changes_stay : {A : Type 0} (o : Outcome A) → Changes site p w o → ((done_to w o).sessions ≡ w.sessions) × (o.place.session ≡ p.session)
  changes_stay o changes = (changes.changed.beside.sessions, changes.session)
