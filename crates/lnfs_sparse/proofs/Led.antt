-- The operations on one file: which file they are led to, and what refuses them.
use Rattle.std.proofs.Common.{◌≡◌, refl, ap, sym, subst, ◌∙◌, ℕ, List, Some, None, Result, Ok, Err}
use Rattle.std.specs.Prelude.{IsErrAnd, IfOk}
use Rattle.lnfs_arguments.specs.declared.stateid.StateId.{StateId}
use Rattle.lnfs_world.specs.World.{File, Node, World}
use Rattle.lnfs_world.specs.Change.{Change}
use Rattle.lnfs_world.specs.Outcome.{Site, Place, Outcome}
use Rattle.lnfs_operations.specs.declared.Refusal.{Refusal}
use Rattle.lnfs_operations.specs.Chain.{Answer, refuse, done}
use Rattle.lnfs_operations.specs.StateIds.{Way}
use Rattle.lnfs_tree.specs.Rows.{Rows, rows_of, kind_of}
use Rattle.lnfs_nodes.specs.Trees.{held_in, Holds, IsHeld, refusal_of}
use Rattle.lnfs_nodes.specs.declared.held.Held.{Held}
use Rattle.lnfs_files.specs.Tests.{passed, refused, refusal_in}
use Rattle.lnfs_engine.specs.declared.extra.ExtraRan.{ExtraRan}
use Rattle.lnfs_sparse_ops.specs.Outcome.{told}
use Rattle.lnfs_sparse.specs.Answers.{Ends}
use Rattle.lnfs_sparse.specs.Files.{where_ready}
use Rattle.lnfs_sparse.specs.Deciding.{IsLed, Leads}
use Rattle.lnfs_sparse.proofs.HeldFiles.{is_file}
use Rattle.lnfs_sparse.proofs.Passing.{ready, unready}

-- a refusal that `?` hands on
pub err_leads : {R : Type 0} (o : Outcome (Answer R)) (p : Place) (w : World) (tells : Node → R) (changes : Node → List Change) (r : Result Held Refusal) (why : Refusal) → IsErrAnd r (λ e. e ≡ why)
    → o ≡ refuse p why.gate why.status → Leads o p w tells changes r
err_leads o p w tells changes (Ok h) why is off = absurd is
err_leads o p w tells changes (Err e) why is off = off ∙ ap (λ (x : Refusal). refuse p x.gate x.status) (sym is)

module _ {R : Type 0} (site : Site) (p : Place) (w : World) (id : StateId) (way : Way) (next : Node → Outcome (Answer R)) (o : Outcome (Answer R)) (behind : o ≡ where_ready site p w id way next) where
  abbrev t : Rows
  t = rows_of w

  -- what refuses the file
  pub off : (why : Refusal) → Some (refusal_of why) ≡ refusal_in (where_ready site p w id way (λ n. passed p)) → o ≡ refuse p why.gate why.status
  off why e = behind ∙ unready site p w id way next (refusal_of why) e

  module _ (h : Held) (held : IsHeld t (held_in w.nodes p.current) (Ok h)) (e : None ≡ refusal_in (where_ready site p w id way (λ n. passed p))) (kind : kind_of h.facts.kind ≡ File) where
    -- the file
    abbrev Found : Outcome (Answer R) → Type 0
    Found x = (n : Node) × (Holds t n h × (x ≡ next n))

    pub on : Found o
    on = subst Found (sym behind) (ready site p w id way next Found h held e (λ n holds. (n, (holds, refl))))

    pub led : (tells : Node → R) (changes : Node → List Change) → ((n : Node) → Holds t n h → n.kind ≡ File → next n ≡ done p (tells n) (changes n)) → IsLed o p w tells changes h
    led tells changes last =
        let x = on in
        let file = is_file t x.0 h x.1.0 kind in
        record { node = x.0; holds = x.1.0; file = file; leads = x.1.1 ∙ last x.0 x.1.0 file }

    -- what refuses it behind the tests of the file
    pub off_behind : (why : Refusal) → ((n : Node) → Holds t n h → n.kind ≡ File → next n ≡ refuse p why.gate why.status) → o ≡ refuse p why.gate why.status
    off_behind why last = let x = on in x.1.1 ∙ last x.0 x.1.0 (is_file t x.0 h x.1.0 kind)

-- whatever comes of those tests
pub decided : {R : Type 0} (site : Site) (p : Place) (w : World) (id : StateId) (way : Way) (next : Node → Outcome (Answer R)) (o : Outcome (Answer R)) → o ≡ where_ready site p w id way next → (r : Result Held Refusal) (tells : Node → R) (changes : Node → List Change)
    → ((n : Node) (h : Held) → Holds (rows_of w) n h → n.kind ≡ File → next n ≡ done p (tells n) (changes n))
    → refused r ≡ refusal_in (where_ready site p w id way (λ n. passed p)) → IfOk r (λ h. IsHeld (rows_of w) (held_in w.nodes p.current) (Ok h)) → IfOk r (λ h. kind_of h.facts.kind ≡ File) → Leads o p w tells changes r
decided site p w id way next o behind (Ok h) tells changes last e held kind = led site p w id way next o behind h held e kind tells changes (λ n holds file. last n h holds file)
decided site p w id way next o behind (Err why) tells changes last e held kind = off site p w id way next o behind why e

-- what is answered of a refusal
pub ends_refused : {R : Type 0} (text : R → List ℕ) (o : Outcome (Answer R)) (p : Place) (w : World) (why : Refusal) (ran : ExtraRan) → o ≡ refuse p why.gate why.status → ((p : Place) (w : World) → Ends (refuse p why.gate why.status) ran w w) → Ends (told text o) ran w w
ends_refused text o p w why ran is ends = subst (λ x. Ends (told text x) ran w w) (sym is) (ends p w)
