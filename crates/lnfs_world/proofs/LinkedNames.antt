-- The changes of a name that is given to a node or taken out, in order, in a directory of the subject's label.
use Rattle.std.proofs.Common.{◌≡◌, ℕ, Bool, true, false, List, [], ◌∷◌, Some, None, sym, ap, ◌∙◌, arith}
use Rattle.std.proofs.lemmas.Bool.Decides.{nat_tests}
use Rattle.lnfs_types.specs.declared.event.Moment.{Moment}
use Rattle.lnfs_world.specs.World.{Inner, Node, Entry, World, node_at, label_at, is_directory}
use Rattle.lnfs_world.specs.Names.{entry_at}
use Rattle.lnfs_world.specs.Tree.{holds_names}
use Rattle.lnfs_world.specs.Effects.{attributes_changed, names_changed, name_added, next_entry, taken_out}
use Rattle.lnfs_world.specs.Change.{Touch, Link, apply}
use Rattle.lnfs_world.specs.Facts.{Facts}
use Rattle.lnfs_world.specs.Within.{all_within}
use Rattle.lnfs_world.proofs.Keys.{id_turned}
use Rattle.lnfs_world.proofs.NewNames.{next_free}
use Rattle.lnfs_world.proofs.Seen.{node_at-id}
use Rattle.lnfs_world.proofs.ChangedNames.{untouched, touched_too, touch_within, own_kind, own_cookies, kinds_differ, cookies_own, cookies_other, taken_out_within}
use Rattle.lnfs_world.proofs.FreeNames.{adds_within}

module _ (dom : ℕ → ℕ → Bool) (s : ℕ) (w : World) (facts : Facts dom w) (moment : Moment) (d : Node) (there : node_at w.nodes d.id ≡ Some d) (directory : is_directory d.kind ≡ true) (own : label_at w.nodes d.id ≡ Some s) (name : List ℕ) (n : Node) where
  -- to a node of that label
  pub linked_within : node_at w.nodes n.id ≡ Some n → is_directory n.kind ≡ false → label_at w.nodes n.id ≡ Some s → entry_at w.entries d.id name ≡ None → all_within dom s w (Touch d.id (name_added moment d.inner) ∷ Touch n.id (attributes_changed moment n.inner) ∷ Link (next_entry d name n.id) ∷ []) ≡ true
  linked_within n_there other n_own free =
      let d_inner : Inner = name_added moment d.inner in
      let n_inner : Inner = attributes_changed moment n.inner in
      let d_kind = own_kind w.nodes d.id d true there directory in
      let n_kind = own_kind w.nodes n.id n false n_there other in
      let d_cookies = own_cookies w.nodes d.id d there in
      let n_cookies = own_cookies w.nodes n.id n n_there in
      let apart = kinds_differ w.nodes d.id n.id d_kind n_kind in
      let v : World = apply (Touch d.id d_inner) w in
      let once = touched_too w w d.id d_inner (untouched w) in
      let twice = touched_too w v n.id n_inner once in
      let first = touch_within dom s w d.id d_inner d.inner.cookies own d_cookies (grind (arith, nat_tests)) in
      let then = touch_within dom s v n.id n_inner n.inner.cookies (once.labels n.id ∙ n_own) (cookies_other d.id d_inner w.nodes n.id (id_turned n.id d.id ∙ apart) ∙ n_cookies) (grind (arith, nat_tests)) in
      let cookies = cookies_other n.id n_inner v.nodes d.id apart ∙ cookies_own d.id d_inner w.nodes d.inner.cookies d_cookies in
      let adds = adds_within s (apply (Touch n.id n_inner) v) d name n.id (twice.labels d.id ∙ own) (twice.kinds d.id ∙ d_kind) cookies (next_free dom s w facts d there name n.id free) in
      grind (arith, nat_tests, first, then, adds, twice.labels n.id ∙ n_own, twice.kinds n.id ∙ n_kind)

  -- a name of a node of that label
  pub removed_within : (e : Entry) → entry_at w.entries d.id name ≡ Some e → node_at w.nodes e.node ≡ Some n → label_at w.nodes e.node ≡ Some s → holds_names w.entries n.id ≡ false → all_within dom s w (Touch d.id (names_changed moment d.inner) ∷ taken_out moment w.entries e n) ≡ true
  removed_within e named n_there n_own empty =
      let inner : Inner = names_changed moment d.inner in
      let v : World = apply (Touch d.id inner) w in
      let id = node_at-id e.node w.nodes n n_there in
      let kind = own_kind w.nodes d.id d true there directory in
      let cookies = own_cookies w.nodes d.id d there in
      let first = touch_within dom s w d.id inner d.inner.cookies own cookies (grind (arith, nat_tests)) in
      let then = taken_out_within dom w facts s moment v d.id name e n (touched_too w w d.id inner (untouched w)) own named n_there id n_own
      (ap (holds_names w.entries) (sym id) ∙ empty)
      (λ other. cookies_other d.id inner w.nodes e.node (id_turned e.node d.id ∙ kinds_differ w.nodes d.id e.node kind other)) in
      grind (arith, first, then)
