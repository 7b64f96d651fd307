-- What came of an entry.
use Rattle.std.proofs.Common.{◌≡◌, ◌<◌, ◌≤◌, ◌+◌, ◌-◌, ℕ, Bool, true, false, not, cond, List, ◌++◌, length, Option, Some, None, Ok, Err, Result, refl, ap, sym, subst, ◌∙◌, take, length-append, append_assoc, option_map, IfSome, Bor, arith}
use Rattle.std.specs.Prelude.{◌&&◌, ◌||◌}
use Rattle.std.proofs.Math.Seq.{take-append_seam}
use Rattle.lnfs_xdr.specs.Canon.{flag, long, opaque}
use Rattle.lnfs_xdr.proofs.Sizes.{length-flag}
use Rattle.lnfs_attrs.specs.declared.bitmap.Bitmap.{Bitmap}
use Rattle.lnfs_attrs.specs.declared.view.View.{View}
use Rattle.lnfs_attrs.specs.declared.numbers.TheConstants.{RDATTR_ERROR}
use Rattle.lnfs_attrs.specs.Bitmaps.{has_attr}
use Rattle.lnfs_arguments.specs.declared.statuses.TheConstants.{NFS4_OK, NFS4ERR_ACCESS}
use Rattle.lnfs_arguments.specs.SharedTexts.{attrs_text}
use Rattle.lnfs_results.specs.declared.types.DirEntry.{DirEntry}
use Rattle.lnfs_results.specs.Texts.{entry_text}
use Rattle.lnfs_monitor.specs.Rules.{Read, allows}
use Rattle.lnfs_world.specs.World.{Node, Entry, World, node_at, is_directory}
use Rattle.lnfs_world.specs.Names.{entry_above, entries_above}
use Rattle.lnfs_world.specs.Outcome.{Site, Place}
use Rattle.lnfs_operations.specs.Shown.{asks_inner, shown}
use Rattle.lnfs_operations.specs.ReadDir.{taken, may_show, error_of, shown_entry}
use Rattle.lnfs_tree.specs.Rows.{Rows, id_of, row_of_entry, IsTold, in_directory, next_found}
use Rattle.lnfs_tree.specs.declared.node.NodeId.{NodeId}
use Rattle.lnfs_tree.specs.declared.node.Facts.{Facts}
use Rattle.lnfs_tree.specs.declared.node.Entry.{Entry as Held}
use Rattle.lnfs_tree.specs.declared.node.TreeError.{TreeError}
use Rattle.lnfs_tree.specs.declared.node.TreeError.TheVariants.{NotDir}
use Rattle.lnfs_nodes.specs.Walks.{entry_as, entry_written, Enters}
use Rattle.lnfs_nodes.specs.declared.entries.Entered.{Entered}
use Rattle.lnfs_nodes.specs.declared.entries.Entered.TheVariants.{Taken, Left, Denied}
use Rattle.lnfs_nodes.specs.Trees.{there, Holds, IsHeld}
use Rattle.lnfs_nodes.proofs.Found.{told_held}
use Rattle.lnfs_nodes.proofs.Walking.{fewer}

-- ---- the code's answer

pub was_taken : (old new : List ℕ) (room : ℕ) (o : Option DirEntry) (x : Entered) → x ≡ Taken → Enters old new room o x → (d : DirEntry) × (o ≡ Some d) × (new ≡ old ++ entry_written d) × (taken d ≤ room)
was_taken old new room o x is enters = at o (subst (Enters old new room o) is enters)
  where
    at : (o : Option DirEntry) → Enters old new room o Taken → (d : DirEntry) × (o ≡ Some d) × (new ≡ old ++ entry_written d) × (taken d ≤ room)
    at (Some d) enters = (d, refl, enters.0, enters.1)
    at None enters = absurd enters

pub was_left : (old new : List ℕ) (room : ℕ) (o : Option DirEntry) (x : Entered) → x ≡ Left → Enters old new room o x → (d : DirEntry) × (o ≡ Some d) × (new ≡ old) × (room < taken d)
was_left old new room o x is enters = at o (subst (Enters old new room o) is enters)
  where
    at : (o : Option DirEntry) → Enters old new room o Left → (d : DirEntry) × (o ≡ Some d) × (new ≡ old) × (room < taken d)
    at (Some d) enters = (d, refl, enters.0, enters.1)
    at None enters = absurd enters

pub was_denied : (old new : List ℕ) (room : ℕ) (o : Option DirEntry) (x : Entered) → x ≡ Denied → Enters old new room o x → o ≡ None
was_denied old new room o x is enters = at o (subst (Enters old new room o) is enters)
  where
    at : (o : Option DirEntry) → Enters old new room o Denied → o ≡ None
    at (Some d) enters = absurd enters
    at None enters = refl

length_written : (d : DirEntry) → length (entry_written d) ≡ taken d
length_written d = simp (length-append, length-flag) refl

-- what was appended part by part
pub entry_put : (old begun with_cookie with_name new : List ℕ) (d : DirEntry) → begun ≡ old ++ flag true → with_cookie ≡ begun ++ long d.cookie → with_name ≡ with_cookie ++ opaque d.name → new ≡ with_name ++ attrs_text d.attrs → new ≡ old ++ entry_written d
unfolding entry_text
entry_put old begun with_cookie with_name new d begins cookie name is =
    is
    ∙ ap (λ (out : List ℕ). out ++ attrs_text d.attrs) (name ∙ ap (λ (out : List ℕ). out ++ opaque d.name) (cookie ∙ ap (λ (out : List ℕ). out ++ long d.cookie) begins))
    ∙ simp append_assoc

-- what was appended fits
pub fits_in : (old new : List ℕ) (room begin end : ℕ) (o : Option DirEntry) (d : DirEntry) → o ≡ Some d → new ≡ old ++ entry_written d → begin ≡ length old → end ≡ length new → end - begin ≤ room → Enters old new room o Taken
fits_in old new room begin end o d is wrote begins ends le =
    let long : length new ≡ length old + taken d = ap length wrote ∙ length-append old (entry_written d) ∙ ap (λ (n : ℕ). length old + n) (length_written d) in
    let room_for : taken d ≤ room = omega (arith, long, begins, ends, le) in
    subst (λ (o : Option DirEntry). Enters old new room o Taken) (sym is) (wrote, room_for)

-- it doesn't, and was taken back
pub left_out : (old new back : List ℕ) (room begin end : ℕ) (o : Option DirEntry) (d : DirEntry) → o ≡ Some d → new ≡ old ++ entry_written d → begin ≡ length old → end ≡ length new → room < end - begin → back ≡ take begin new → Enters old back room o Left
left_out old new back room begin end o d is wrote begins ends lt taken_back =
    let long : length new ≡ length old + taken d = ap length wrote ∙ length-append old (entry_written d) ∙ ap (λ (n : ℕ). length old + n) (length_written d) in
    let no_room : room < taken d = omega (arith, long, begins, ends, lt) in
    let same : back ≡ old = taken_back ∙ ap (λ (n : ℕ). take n new) begins ∙ ap (take (length old)) wrote ∙ take-append_seam old (entry_written d) in
    subst (λ (o : Option DirEntry). Enters old back room o Left) (sym is) (same, no_room)

-- ---- what a node shows

-- a node that is told of
pub about_told : (P : Option Node → Type 0) (t : Rows) (i : NodeId) (f : Facts) → IsTold t.entries (node_at t.nodes (id_of i)) (Some f) → ((n : Node) → Holds t n (record { id = i; facts = f }) → P (Some n)) → P (node_at t.nodes (id_of i))
about_told P t i f told next = at (node_at t.nodes (id_of i)) (told_held t i f told)
  where
    at : (o : Option Node) → IsHeld t (there o) (Ok (record { id = i; facts = f })) → P o
    at (Some n) held = next n held
    at None held = absurd held

pub no_bar : (hidden has : Bool) → has ≡ true → (hidden && not has) ≡ false
no_bar true has e = ap not e
no_bar false has e = refl

may : (asks has inner hidden : Bool) → hidden ≡ (asks && not inner) → (hidden && not has) ≡ false → (not asks || (has || inner)) ≡ true
may true true inner hidden is e = refl
may true false true hidden is e = refl
may true false false hidden is e = absurd (let two : (hidden && true) ≡ true = ap (λ (b : Bool). b && true) is in cc)
may false has inner hidden is e = refl

may_not : (asks has inner hidden : Bool) → hidden ≡ (asks && not inner) → hidden ≡ true → has ≡ false → (not asks || (has || inner)) ≡ false
may_not true true inner hidden is e none = cc
may_not true false true hidden is e none = cc
may_not true false false hidden is e none = refl
may_not false has inner hidden is e none = cc

module _ (site : Site) (p : Place) (w : World) (asked : Bitmap) (e : Entry) (n : Node) (inner hidden : Bool) (readable : inner ≡ allows site.dom p.subject (Read n.label)) (hides : hidden ≡ (asks_inner asked && not inner)) where
  hides_so : hidden ≡ (asks_inner asked && not (allows site.dom p.subject (Read n.label)))
  hides_so = hides ∙ ap (λ (b : Bool). asks_inner asked && not b) readable

  pub seen_as : (error : ℕ) (view : View) → (hidden && not (has_attr asked RDATTR_ERROR)) ≡ false → error ≡ cond hidden NFS4ERR_ACCESS NFS4_OK → view ≡ shown site p w n error
      → shown_entry site p w asked e (Some n) ≡ Some (entry_as asked e.cookie e.name inner view)
  seen_as error view no_bar status is =
      let shows : may_show site p asked n ≡ true = may (asks_inner asked) (has_attr asked RDATTR_ERROR) (allows site.dom p.subject (Read n.label)) hidden hides_so no_bar in
      ap (λ (b : Bool). cond b (Some (entry_as asked e.cookie e.name (allows site.dom p.subject (Read n.label)) (shown site p w n (error_of site p asked n)))) None) shows
      ∙ ap (λ (b : Bool). Some (entry_as asked e.cookie e.name b (shown site p w n (error_of site p asked n)))) (sym readable)
      ∙ ap (λ (b : Bool). Some (entry_as asked e.cookie e.name inner (shown site p w n (cond b NFS4ERR_ACCESS NFS4_OK)))) (sym hides_so)
      ∙ ap (λ (status : ℕ). Some (entry_as asked e.cookie e.name inner (shown site p w n status))) (sym status)
      ∙ ap (λ (v : View). Some (entry_as asked e.cookie e.name inner v)) (sym is)

  pub seen_not : hidden ≡ true → has_attr asked RDATTR_ERROR ≡ false → shown_entry site p w asked e (Some n) ≡ None
  seen_not is none =
      let shows : may_show site p asked n ≡ false = may_not (asks_inner asked) (has_attr asked RDATTR_ERROR) (allows site.dom p.subject (Read n.label)) hidden hides_so is none in
      ap (λ (b : Bool). cond b (Some (entry_as asked e.cookie e.name (allows site.dom p.subject (Read n.label)) (shown site p w n (error_of site p asked n)))) None) shows

-- ---- the next entry

next_above : (o : Option Node) (found : Option Entry) (e : Option Entry) → Ok e ≡ in_directory {A = Option Entry} o (λ n. Ok found) → e ≡ found
next_above None found e is = cc
next_above (Some n) found e is = at (is_directory n.kind) is
  where
    at : (b : Bool) → Ok e ≡ cond {A = Result (Option Entry) TreeError} b (Ok found) (Err NotDir) → e ≡ found
    at true is = cc
    at false is = cc

pub fewer_in : (t : Rows) (i : NodeId) (cookie : ℕ) (o : Option (Bor Held)) → Ok (option_map (λ e. row_of_entry (id_of i) e.now) o) ≡ next_found t (id_of i) cookie
    → IfSome o (λ e. length (entries_above t.entries (id_of i) e.now.cookie) < length (entries_above t.entries (id_of i) cookie))
fewer_in t i cookie None e = tt
fewer_in t i cookie (Some x) e =
    let row : Entry = row_of_entry (id_of i) x.now in
    let above : Some row ≡ entry_above t.entries (id_of i) cookie = next_above (node_at t.nodes (id_of i)) (entry_above t.entries (id_of i) cookie) (Some row) e in
    fewer t.entries (id_of i) cookie row (sym above)
