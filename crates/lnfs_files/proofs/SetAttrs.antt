-- SETATTR, from its arguments to what it does of a node.
use Rattle.std.proofs.Common.{◌≡◌, refl, ap, sym, subst, ◌∙◌, ℕ, Bool, true, false, not, cond, Option, Some, None, Result, Ok, Err}
use Rattle.std.specs.Prelude.{◌&&◌, is_some, IfSome, if◌then◌else◌}
use Rattle.lnfs_attrs.specs.declared.bitmap.Bitmap.{Bitmap}
use Rattle.lnfs_attrs.specs.declared.raw.RawAttrs.{RawAttrs}
use Rattle.lnfs_attrs.specs.declared.settable.AttrSet.{AttrSet}
use Rattle.lnfs_arguments.specs.declared.stateid.StateId.{StateId}
use Rattle.lnfs_arguments.specs.declared.statuses.TheConstants.{NFS4ERR_INVAL, NFS4ERR_ISDIR}
use Rattle.lnfs_world.specs.World.{Kind, File, Directory, SymbolicLink, Node, World, is_directory}
use Rattle.lnfs_world.specs.Effects.{parent_labels}
use Rattle.lnfs_world.specs.Outcome.{Site, Place, Outcome}
use Rattle.lnfs_monitor.specs.Rules.{Write, Raise}
use Rattle.lnfs_operations.specs.declared.Gate.TheVariants.{Argument, Namespace}
use Rattle.lnfs_operations.specs.declared.Refusal.{Refusal}
use Rattle.lnfs_operations.specs.Chain.{Answer, refuse, demand}
use Rattle.lnfs_operations.specs.Chain as chain
use Rattle.lnfs_operations.specs.Judged.{where_allowed}
use Rattle.lnfs_operations.specs.Handles.{with_current}
use Rattle.lnfs_operations.specs.Lookup.{is_link}
use Rattle.lnfs_operations.specs.Given.{is_mode, where_mode, GivenLabel, where_label, set_of}
use Rattle.lnfs_operations.specs.SetAttr.{is_company, where_sized, respelled, raised, values_set, set_on, set_attr}
use Rattle.lnfs_tree.specs.Rows.{Rows, kind_of}
use Rattle.lnfs_open.specs.Lists.{Lists}
use Rattle.lnfs_nodes.specs.Trees.{held_in, Holds, IsHeld, refusal_of}
use Rattle.lnfs_nodes.specs.declared.held.Held.{Held}
use Rattle.lnfs_nodes.specs.Creating.{namespace}
use Rattle.lnfs_nodes.specs.GivenValues.{Wanted, followed, and_then, tested, values_in, label_in, wanted_in}
use Rattle.lnfs_nodes.proofs.Found.{about_held}
use Rattle.lnfs_nodes.proofs.Refusing.{refused_as, on_held}
use Rattle.lnfs_nodes.proofs.Stages.{values, labelled, test_stage, value_stage}
use Rattle.lnfs_files.specs.Worlds.{with_opens, with_files}
use Rattle.lnfs_files.specs.Acts.{Acts}
use Rattle.lnfs_files.specs.Setting.{size_refusal, unlabelled, wanted_done}

module _ (site : Site) (id : StateId) (given : RawAttrs) (p : Place) (w : World) where
  abbrev pub on_node : Wanted → Node → Outcome (Answer Bitmap)
  on_node x n = where_sized p (is_some x.size) n (wanted_done site id p w n x (set_of given))

  abbrev pub behind : Wanted → Outcome (Answer Bitmap)
  behind x = with_current p w (on_node x)

  abbrev wanted : AttrSet → Option GivenLabel → Wanted
  wanted v l = record { size = v.size; mode = v.mode; label = l }

  abbrev on : AttrSet → Option GivenLabel → Outcome (Answer Bitmap)
  on v l = with_current p w (λ n. where_sized p (is_some v.size) n (set_on site id p w n v l (set_of given)))

  abbrev behind_label : AttrSet → Option GivenLabel → Outcome (Answer Bitmap)
  behind_label v l = demand (not (is_company v)) (refuse p Argument NFS4ERR_INVAL) (on v l)

  abbrev behind_values : AttrSet → Outcome (Answer Bitmap)
  behind_values v = where_mode p v.mode (where_label site p v.label (behind_label v))

  last : (v : AttrSet) (l : Option GivenLabel) → on v l ≡ behind (wanted v l)
  last v None = refl
  last v (Some g) = refl

  pub wanted_told : set_attr site id given p w ≡ followed p (wanted_in site given) behind
  wanted_told =
      values p given behind_values
      ∙ value_stage p behind (values_in given) behind_values (λ v. tested (is_mode v.mode) NFS4ERR_INVAL (and_then (label_in site v.label) (λ l. tested (not (is_company v)) NFS4ERR_INVAL (Ok (wanted v l))))) (λ v.
      test_stage p behind (is_mode v.mode) NFS4ERR_INVAL (where_label site p v.label (behind_label v)) (and_then (label_in site v.label) (λ l. tested (not (is_company v)) NFS4ERR_INVAL (Ok (wanted v l)))) (
      labelled p site v.label (behind_label v)
      ∙ value_stage p behind (label_in site v.label) (behind_label v) (λ l. tested (not (is_company v)) NFS4ERR_INVAL (Ok (wanted v l))) (λ l.
      test_stage p behind (not (is_company v)) NFS4ERR_INVAL (on v l) (Ok (wanted v l)) (last v l))))

  pub refused : (why : Refusal) → Err (refusal_of why) ≡ wanted_in site given → set_attr site id given p w ≡ refuse p why.gate why.status
  refused why e = wanted_told ∙ ap (λ (r : Result Wanted chain.Refusal). followed p r behind) (sym e)

  pub taken : (x : Wanted) → Ok x ≡ wanted_in site given → set_attr site id given p w ≡ behind x
  taken x e = wanted_told ∙ ap (λ (r : Result Wanted chain.Refusal). followed p r behind) (sym e)

-- ---- a size

module _ (p : Place) (sized : Bool) (n : Node) (next : Outcome (Answer Bitmap)) where
  pub size_taken : None ≡ size_refusal sized n.kind → where_sized p sized n next ≡ next
  size_taken e = at (sized && is_directory n.kind) (sized && is_link n.kind) e
    where
      at : (a b : Bool) → None ≡ (if a then Some (namespace NFS4ERR_ISDIR) else if b then Some (namespace NFS4ERR_INVAL) else None)
          → demand (not a) (refuse p Namespace NFS4ERR_ISDIR) (demand (not b) (refuse p Namespace NFS4ERR_INVAL) next) ≡ next
      at true b e = cc
      at false true e = cc
      at false false e = refl

  pub size_refused : (why : Refusal) → Some (refusal_of why) ≡ size_refusal sized n.kind → where_sized p sized n next ≡ refuse p why.gate why.status
  size_refused why e = at (sized && is_directory n.kind) (sized && is_link n.kind) e
    where
      at : (a b : Bool) → Some (refusal_of why) ≡ (if a then Some (namespace NFS4ERR_ISDIR) else if b then Some (namespace NFS4ERR_INVAL) else None)
          → demand (not a) (refuse p Namespace NFS4ERR_ISDIR) (demand (not b) (refuse p Namespace NFS4ERR_INVAL) next) ≡ refuse p why.gate why.status
      at true b e = refused_as p why (namespace NFS4ERR_ISDIR) cc
      at false true e = refused_as p why (namespace NFS4ERR_INVAL) cc
      at false false e = cc

-- ---- what is done of a node that is held

module _ (site : Site) (id : StateId) (given : RawAttrs) (p : Place) (rest : World) (t u : Rows) (s : Lists) (h : Held) (x : Wanted) (held : IsHeld t (held_in t.nodes p.current) (Ok h)) (is : Ok x ≡ wanted_in site given) where
  abbrev w : World
  w = with_files rest t s

  abbrev sized_node : Node → Outcome (Answer Bitmap)
  sized_node n = where_sized p (is_some x.size) n (wanted_done site id p w n x (set_of given))

  abbrev IsDone : Result (Unit {0}) Refusal → Outcome (Answer Bitmap) → Type 0
  IsDone told o = Acts {A = Unit {0}} (λ it. set_of given) p rest t u s s o told

  pub sized_not : (why : Refusal) → Some (refusal_of why) ≡ size_refusal (is_some x.size) (kind_of h.facts.kind) → set_attr site id given p w ≡ refuse p why.gate why.status
  sized_not why e =
      taken site id given p w x is
      ∙ on_held p (with_opens rest s) t sized_node h (refuse p why.gate why.status) held (λ n holds.
      size_refused p (is_some x.size) n (wanted_done site id p w n x (set_of given)) why (e ∙ ap (size_refusal (is_some x.size)) holds.tells.kind))

  pub acted : (told : Result (Unit {0}) Refusal) → None ≡ size_refusal (is_some x.size) (kind_of h.facts.kind)
      → ((n : Node) (set : Bitmap) → Holds t n h → Acts {A = Unit {0}} (λ it. set) p rest t u s s (wanted_done site id p w n x set) told)
      → IsDone told (set_attr site id given p w)
  acted told e acts =
      subst (IsDone told) (sym (taken site id given p w x is))
      (about_held (IsDone told) p (with_opens rest s) t sized_node h held (λ n holds.
      subst (IsDone told) (sym (size_taken p (is_some x.size) n (wanted_done site id p w n x (set_of given)) (e ∙ ap (size_refusal (is_some x.size)) holds.tells.kind))) (acts n (set_of given) holds)))

-- a size that nothing refuses is that of a file
pub is_file : (size : Option ℕ) (kind : Kind) → None ≡ size_refusal (is_some size) kind → IfSome size (λ size. kind ≡ File)
is_file None kind e = tt
is_file (Some size) File e = refl
is_file (Some size) Directory e = cc
is_file (Some size) SymbolicLink e = cc

-- ---- a label, or the other attributes

module _ (site : Site) (id : StateId) (p : Place) (w : World) (n : Node) (x : Wanted) (set : Bitmap) where
  pub values_wanted : None ≡ x.label → wanted_done site id p w n x set ≡ values_set site id p w n (unlabelled x.size x.mode) set
  values_wanted e = ap (λ (l : Option GivenLabel). set_on site id p w n (unlabelled x.size x.mode) l set) (sym e)

  module _ (given : GivenLabel) (is : Some given ≡ x.label) where
    abbrev spelled : Outcome (Answer Bitmap)
    spelled = where_allowed site p (Write n.label) (respelled site p n given.spelled set)

    abbrev levelled : Outcome (Answer Bitmap)
    levelled = where_allowed site p (Raise n.label (parent_labels w.nodes w.entries n.id) given.level) (raised p w n given.level set)

    by_label : wanted_done site id p w n x set ≡ cond site.limited spelled levelled
    by_label = ap (λ (l : Option GivenLabel). set_on site id p w n (unlabelled x.size x.mode) l set) (sym is)

    pub spelling_wanted : site.limited ≡ true → wanted_done site id p w n x set ≡ spelled
    spelling_wanted e = by_label ∙ ap (λ (b : Bool). cond b spelled levelled) e

    pub level_wanted : site.limited ≡ false → wanted_done site id p w n x set ≡ levelled
    level_wanted e = by_label ∙ ap (λ (b : Bool). cond b spelled levelled) e
