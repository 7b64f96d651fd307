-- READDIR of a directory that is held.
use Rattle.std.proofs.Common.{◌≡◌, ◌-◌, ℕ, Bool, true, false, not, List, [], ◌∷◌, ◌++◌, nat_le, min, Option, Some, None, Ok, Err, refl, ap, sym, subst, ◌∙◌, append_assoc, append-nil}
use Rattle.std.specs.Prelude.{◌&&◌, replicate}
use Rattle.std.specs.List.{flat_map}
use Rattle.lnfs_xdr.specs.Canon.{word, flag, padded, linked}
use Rattle.lnfs_xdr.proofs.Linking.{linked-as-map}
use Rattle.lnfs_results.specs.declared.limits.TheConstants.{MOST_DATA}
use Rattle.lnfs_results.specs.declared.types.DirEntry.{DirEntry}
use Rattle.lnfs_results.specs.Texts.{entry_text, fields_text, result_text}
use Rattle.lnfs_arguments.specs.Numbers.{op_readdir}
use Rattle.lnfs_arguments.specs.declared.statuses.TheConstants.{NFS4ERR_TOOSMALL}
use Rattle.lnfs_monitor.specs.Rules.{Read}
use Rattle.lnfs_world.specs.World.{Id, Node, World, node_at, entry_order, is_directory}
use Rattle.lnfs_world.specs.Rows.{Rising}
use Rattle.lnfs_world.specs.Change.{apply_all}
use Rattle.lnfs_world.specs.Outcome.{Site, Place, Outcome}
use Rattle.lnfs_operations.specs.declared.Gate.TheVariants.{Namespace}
use Rattle.lnfs_operations.specs.declared.numbers.TheConstants.{EMPTY_LISTING}
use Rattle.lnfs_operations.specs.declared.Refusal.{Refusal}
use Rattle.lnfs_operations.specs.Chain.{Answer, refuse, done, demand}
use Rattle.lnfs_operations.specs.Accessed.{accessed}
use Rattle.lnfs_operations.specs.ReadDir.{Arguments, Listed, is_fruitless, finished, read_dir}
use Rattle.lnfs_tree.specs.Rows.{Rows, id_of, kind_of}
use Rattle.lnfs_nodes.specs.Trees.{with_tree, held_in, Holds, IsHeld, denial}
use Rattle.lnfs_nodes.specs.Walks.{entry_written, has_any, Walks, IsListable, listed_in, listing_head, listing_result, Lists}
use Rattle.lnfs_nodes.specs.Writes.{Writes}
use Rattle.lnfs_nodes.specs.declared.held.Held.{Held}
use Rattle.lnfs_nodes.specs.declared.entries.Walked.TheVariants.{Ended}
use Rattle.lnfs_nodes.proofs.Tests.{passed, allowed}
use Rattle.lnfs_nodes.proofs.Found.{about_held}

-- ---- the result

regroup : (old a b z es f e whole : List ℕ) → whole ≡ es ++ f → ((old ++ ((a ++ b) ++ z)) ++ es) ++ (f ++ e) ≡ old ++ (((a ++ b) ++ ((z ++ whole) ++ e)) ++ [])
regroup old a b z es f e whole is = rw is (simp (append_assoc, append-nil))

listing_written : (old head body new : List ℕ) (found : Listed) → head ≡ old ++ listing_head → body ≡ head ++ flat_map entry_written found.entries → new ≡ body ++ (flag false ++ flag found.eof) → new ≡ old ++ result_text (listing_result found)
unfolding result_text fields_text
listing_written old head body new found begins middle ends =
    ends ∙ ap (λ (b : List ℕ). b ++ (flag false ++ flag found.eof)) (middle ∙ ap (λ (b : List ℕ). b ++ flat_map entry_written found.entries) begins)
    ∙ regroup old (word op_readdir) (word 0) (padded (replicate 8 0)) (flat_map entry_written found.entries) (flag false) (flag found.eof) (linked entry_text found.entries) (linked-as-map entry_text found.entries)

fruitless : (eof : Bool) (entries : List DirEntry) → is_fruitless eof entries ≡ (not (has_any entries) && not eof)
fruitless eof [] = refl
fruitless eof (d ∷ entries) = refl

holds_so : (a b : Bool) → not (a && b) ≡ false → (a && b) ≡ true
holds_so true true e = refl
holds_so true false e = cc
holds_so false b e = cc

-- entries that end and are large enough
pub listing_done : (site : Site) (p : Place) (d : Node) (size : ℕ) (old head body new : List ℕ) (o : Option Listed) (any eof : Bool) → Walks head body o (Ended any eof) → not (nat_le EMPTY_LISTING size && not (not any && not eof)) ≡ false
    → head ≡ old ++ listing_head → new ≡ body ++ (flag false ++ flag eof) → Lists old new (finished site p d size o).answer (Ok tt)
listing_done site p d size old head body new None any eof walks large begins ends = absurd walks
listing_done site p d size old head body new (Some found) any eof walks large begins ends =
    let same : (not any && not eof) ≡ is_fruitless found.eof found.entries =
    ap (λ (b : Bool). not b && not eof) walks.1 ∙ ap (λ (b : Bool). not (has_any found.entries) && not b) walks.2 ∙ sym (fruitless found.eof found.entries) in
    let test : (nat_le EMPTY_LISTING size && not (is_fruitless found.eof found.entries)) ≡ true =
    ap (λ (b : Bool). nat_le EMPTY_LISTING size && not b) (sym same) ∙ holds_so (nat_le EMPTY_LISTING size) (not (not any && not eof)) large in
    subst (λ (o : Outcome (Answer Listed)). Lists old new o.answer (Ok tt))
    (sym (passed (nat_le EMPTY_LISTING size && not (is_fruitless found.eof found.entries)) (refuse p Namespace NFS4ERR_TOOSMALL) (done p found (accessed p d)) test))
    (listing_written old head body new found begins walks.0 (ends ∙ ap (λ (b : Bool). body ++ (flag false ++ flag b)) walks.2))

-- ---- what becomes of it

pub finished_writes : (site : Site) (p : Place) (d : Node) (size : ℕ) (o : Option Listed) (old new : List ℕ) (before after : World) → Lists old new (finished site p d size o).answer (Ok tt) → after ≡ apply_all (accessed p d) before
    → Writes old new listing_result p before after (finished site p d size o) (Ok tt)
finished_writes site p d size None old new before after lists touched = absurd lists
finished_writes site p d size (Some found) old new before after lists touched = at (nat_le EMPTY_LISTING size && not (is_fruitless found.eof found.entries)) lists
  where
    at : (b : Bool) → Lists old new (demand b (refuse p Namespace NFS4ERR_TOOSMALL) (done p found (accessed p d))).answer (Ok tt)
        → Writes old new listing_result p before after (demand b (refuse p Namespace NFS4ERR_TOOSMALL) (done p found (accessed p d))) (Ok tt)
    at true lists = record { place = refl; world = touched; wrote = lists }
    at false lists = absurd lists

pub finished_refused : (site : Site) (p : Place) (d : Node) (size : ℕ) (o : Option Listed) (old new back : List ℕ) (w : World) (why : Refusal) → Lists old new (finished site p d size o).answer (Err why) → back ≡ old
    → Writes old back listing_result p w w (finished site p d size o) (Err why)
finished_refused site p d size None old new back w why lists same = record { place = refl; world = refl; wrote = (lists, same) }
finished_refused site p d size (Some found) old new back w why lists same = at (nat_le EMPTY_LISTING size && not (is_fruitless found.eof found.entries)) lists
  where
    at : (b : Bool) → Lists old new (demand b (refuse p Namespace NFS4ERR_TOOSMALL) (done p found (accessed p d))).answer (Err why)
        → Writes old back listing_result p w w (demand b (refuse p Namespace NFS4ERR_TOOSMALL) (done p found (accessed p d))) (Err why)
    at true lists = absurd lists
    at false lists = record { place = refl; world = refl; wrote = (lists, same) }

-- the operation in a directory that may be read
pub about_directory : (P : Outcome (Answer Listed) → Type 0) (site : Site) (p : Place) (rest : World) (t : Rows) (h : Held) (args : Arguments) (size : ℕ) → IsHeld t (held_in t.nodes p.current) (Ok h) → is_directory (kind_of h.facts.kind) ≡ true
    → None ≡ denial site p.subject (Read h.facts.label.0) → Rising entry_order t.entries → size ≡ min args.maxcount MOST_DATA
    → ((n : Node) → Holds t n h → IsListable t (id_of h.id) → P (finished site p n size (listed_in site p (with_tree rest t) args.asked (id_of h.id) args.cookie (size - EMPTY_LISTING))))
    → P (read_dir site args p (with_tree rest t))
about_directory P site p rest t h args size held is may rise sized next =
    about_held P p rest t _ h held (λ n holds.
    let is_one : is_directory n.kind ≡ true = ap is_directory (sym holds.tells.kind) ∙ is in
    let goes : None ≡ denial site p.subject (Read n.label) = may ∙ ap (λ (label : ℕ). denial site p.subject (Read label)) holds.tells.label in
    let whole : ℕ → Id → Outcome (Answer Listed) = λ size i. finished site p n size (listed_in site p (with_tree rest t) args.asked i args.cookie (size - EMPTY_LISTING)) in
    subst P
    (sym (passed (is_directory n.kind) _ _ is_one ∙ allowed site p (Read n.label) (whole (min args.maxcount MOST_DATA) n.id) goes ∙ ap (λ (s : ℕ). whole s n.id) (sym sized) ∙ ap (whole size) (sym holds.id)))
    (next n holds (record { node = n; node_is = ap (node_at t.nodes) holds.id ∙ holds.node_is; kind = is_one; rise = rise })))
