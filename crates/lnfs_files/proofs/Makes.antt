-- A file that is made and opened.
use Rattle.std.proofs.Common.{◌≡◌, refl, ap, sym, subst, ◌∙◌, ℕ, Bool, true, false, cond, List, [], ◌∷◌, Option, Some, None, Ok, Err, arith}
use Rattle.std.specs.Prelude.{◌&&◌, if◌then◌else◌}
use Rattle.std.specs.List.{AllByRecursion, find}
use Rattle.lnfs_arguments.specs.declared.stateid.StateId.{StateId}
use Rattle.lnfs_arguments.specs.declared.stateid.Cinfo.{Cinfo}
use Rattle.lnfs_arguments.specs.declared.statuses.TheConstants.{NFS4ERR_NOSPC}
use Rattle.lnfs_attrs.specs.declared.bitmap.Bitmap.{Bitmap}
use Rattle.lnfs_world.specs.World.{Id, Kind, Inner, Node, Entry, Open, World, same_id, node_at, is_directory}
use Rattle.lnfs_world.specs.Change.{Change, Touch, Make, apply, touched}
use Rattle.lnfs_world.specs.Effects.{name_added, next_entry}
use Rattle.lnfs_world.specs.Facts.{is_good_open, same_opening}
use Rattle.lnfs_world.specs.Usage.{bytes_of}
use Rattle.lnfs_world.specs.Outcome.{Place, Outcome}
use Rattle.lnfs_world.proofs.Keys.{id_same}
use Rattle.lnfs_operations.specs.declared.Gate.TheVariants.{Quota}
use Rattle.lnfs_operations.specs.Chain.{Answer, Done, refuse, demand}
use Rattle.lnfs_operations.specs.NewNames.{changed}
use Rattle.lnfs_operations.specs.StateIds.{state_of}
use Rattle.lnfs_operations.specs.Open as operation
use Rattle.lnfs_operations.specs.Open.{Arguments, made, access_of}
use Rattle.lnfs_tree.specs.Rows.{Rows, id_of}
use Rattle.lnfs_tree.specs.Places.{world_of}
use Rattle.lnfs_tree.specs.Changed.{ran, new_node}
use Rattle.lnfs_tree.specs.Changed as tree
use Rattle.lnfs_tree.specs.declared.node.Info.{Info}
use Rattle.lnfs_nodes.specs.Told.{cinfo_of}
use Rattle.lnfs_open.specs.Lists.{Lists}
use Rattle.lnfs_open.specs.Lists as lists
use Rattle.lnfs_open.specs.Opening.{Wish, Opened, Does, Names, opened_by, opened_of, new_open, own_open, has_open_left}
use Rattle.lnfs_open.specs.declared.keys.OpenRef.{OpenRef}
use Rattle.lnfs_open.specs.declared.keys.OpenError.TheVariants.{Full}
use Rattle.lnfs_quota.specs.declared.quota.Row.{Row}
use Rattle.lnfs_quota.specs.Quota.{node_charged}
use Rattle.lnfs_quota.specs.Totals.{IsInBounds, AreTotals}
use Rattle.lnfs_files.specs.Worlds.{with_files}
use Rattle.lnfs_files.specs.Acts.{Succeeds}
use Rattle.lnfs_files.specs.declared.opened.Opened as code_opened
use Rattle.lnfs_files.specs.Openings as files
use Rattle.lnfs_files.proofs.Opens.{wished, added, Answered, answered}

-- ---- room

module _ {R : Type 0} (p : Place) (next : Outcome (Answer R)) where
  abbrev full : Outcome (Answer R)
  full = refuse p Quota NFS4ERR_NOSPC

  pub no_room : (nodes numbers opens : Bool) → (nodes && opens) ≡ false → demand (nodes && numbers) full (demand opens full next) ≡ full
  no_room true true true e = cc
  no_room true true false e = refl
  no_room true false opens e = refl
  no_room false numbers opens e = refl

  pub no_number : (nodes numbers opens : Bool) → numbers ≡ false → demand (nodes && numbers) full (demand opens full next) ≡ full
  no_number true true opens e = cc
  no_number true false opens e = refl
  no_number false numbers opens e = refl

  pub all_room : (nodes numbers opens : Bool) → (nodes && opens) ≡ true → numbers ≡ true → demand (nodes && numbers) full (demand opens full next) ≡ next
  all_room true true true e same = refl
  all_room true true false e same = cc
  all_room true false opens e same = cc
  all_room false numbers opens e same = cc

-- no open is of a node that isn't there
pub none_of : (dom : ℕ → ℕ → Bool) (label : Id → Option ℕ) (o : Open) (opens : List Open) → label o.node ≡ None → AllByRecursion (λ x. is_good_open dom label x ≡ true) opens → find (same_opening o) opens ≡ None
none_of dom label o [] none all = refl
none_of dom label o (x ∷ xs) none all = at (same_opening o x) refl (none_of dom label o xs none all.1)
  where
    node : same_opening o x ≡ true → same_id o.node x.node ≡ true
    node e = grind (arith, e)

    at : (b : Bool) → same_opening o x ≡ b → find (same_opening o) xs ≡ None → cond b (Some x) (find (same_opening o) xs) ≡ None
    at false is rest = rest
    at true is rest =
        let same : o.node ≡ x.node = id_same o.node x.node (node is) in
        let gone : label x.node ≡ None = ap label (sym same) ∙ none in
        absurd (grind (arith, gone, all.0))

-- ---- totals

touch_absent : (i j : Id) (inner : Inner) (nodes : List Node) → node_at nodes i ≡ None → node_at (touched j inner nodes) i ≡ None
touch_absent i j inner [] e = e
touch_absent i j inner (n ∷ ns) e = grind (arith, touch_absent i j inner ns)

abbrev pub Alike : List Row → Type 0
Alike rows = (i : Id) (inner : Inner) (n : Node) (w : World) → AreTotals rows w.nodes → node_at w.nodes i ≡ Some n → bytes_of (record n { inner = inner }) n.kind ≡ bytes_of n n.kind → AreTotals rows (apply (Touch i inner) w).nodes

abbrev pub Made : List Row → Type 0
Made rows = (n : Node) (entry : Entry) (w : World) → AreTotals rows w.nodes → node_at w.nodes n.id ≡ None → IsInBounds n → bytes_of n n.kind ≡ 0 → AreTotals (node_charged rows n.id.level) (apply (Make n entry) w).nodes

no_bytes : (d : Node) (inner : Inner) (k : Kind) → is_directory k ≡ true → bytes_of (record d { inner = inner }) k ≡ bytes_of d k
no_bytes d inner k e = grind arith

pub counts_made : (rows : List Row) (t u : Rows) (d n : Node) (inner : Inner) (entry : Entry) → Alike rows → Made rows → AreTotals rows t.nodes → node_at t.nodes d.id ≡ Some d → is_directory d.kind ≡ true → node_at t.nodes n.id ≡ None → IsInBounds n → bytes_of n n.kind ≡ 0
    → u ≡ ran (Touch d.id inner ∷ Make n entry ∷ []) t → AreTotals (node_charged rows n.id.level) u.nodes
counts_made rows t u d n inner entry alike law totals at directory absent bounds none e =
    subst (λ (x : Rows). AreTotals (node_charged rows n.id.level) x.nodes) (sym e)
    (law n entry (apply (Touch d.id inner) (world_of t)) (alike d.id inner d (world_of t) totals at (no_bytes d inner d.kind directory)) (touch_absent n.id d.id inner t.nodes absent) bounds none)

-- ---- what is made

module _ (args : Arguments) (p : Place) (rest : World) (t u : Rows) (s v : Lists) (client : ℕ) (d : Node) (name : List ℕ) (set : Bitmap) (n : Node) where
  abbrev w : World
  w = with_files rest t s

  abbrev pub wish : Wish
  wish = wished p.subject client args n.id (access_of args)

  abbrev new : Opened
  new = added s wish

  -- a new open is added, and no other joined
  pub is_added : (o : Opened) → own_open s wish ≡ None → opened_of s wish ≡ Ok o → new ≡ o
  is_added o none e = by (has_open_left s p.subject) (sym (ap (opened_by s wish) none) ∙ e)
    where
      by : (b : Bool) → (if b then Ok new else Err Full) ≡ Ok o → new ≡ o
      by true e = cc
      by false e = cc

  abbrev pub changes : List Change
  changes = Touch d.id (name_added p.moment d.inner) ∷ Make n (next_entry d name n.id) ∷ []

  pub makes : (id : OpenRef) (r : code_opened.Opened) (info : Info) → own_open s wish ≡ None → Does (opened_of s wish) s v (Ok id) → u ≡ ran changes t
      → ((x : Open) → Names id x → r.id ≡ state_of x) → id_of r.node ≡ n.id → r.info ≡ cinfo_of info → info ≡ tree.changed d → r.set ≡ set
      → Succeeds (files.opened_of r) (record p { current = Some (id_of r.node) }) rest t u s v (made args p w client d name set n)
  makes id r info none does after state node told is same_set =
      let a : Answered s v (opened_of s wish) id = answered s v (opened_of s wish) id does in
      let one : new ≡ a.opened = is_added a.opened none a.is in
      let row : a.opened.row ≡ new_open s wish = ap (λ (o : Opened). o.row) (sym one) in
      let cinfo : r.info ≡ changed d = told ∙ ap cinfo_of is in
      let result : operation.Opened = record { id = state_of (new_open s wish); info = changed d; set = set } in
      let same : files.opened_of r ≡ result =
      ap (λ (x : StateId). let y : operation.Opened = record { id = x; info = r.info; set = r.set } in y) (state a.opened.row a.names ∙ ap state_of row)
      ∙ ap (λ (x : Cinfo). let y : operation.Opened = record { id = state_of (new_open s wish); info = x; set = r.set } in y) cinfo
      ∙ ap (λ (x : Bitmap). let y : operation.Opened = record { id = state_of (new_open s wish); info = changed d; set = x } in y) same_set in
      record {
        answer = ap (λ (x : operation.Opened). Done x) (sym same);
        place = ap (λ (i : Id). record p { current = Some i }) (sym node);
        world =
            ap (λ (x : Rows). with_files rest x (lists.ran new.change s)) (sym after)
            ∙ ap (λ (x : Lists). with_files rest u x) (ap (λ (o : Opened). lists.ran o.change s) one ∙ sym a.after);
      }
