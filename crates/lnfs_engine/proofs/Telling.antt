-- An operation on the clients of a store, whose answer is appended.
use Rattle.std.proofs.Common.{◌≡◌, ℕ, List, Err, sym, ap, subst}
use Rattle.std.specs.Prelude.{Result, IfOk}
use Rattle.std.proofs.lemmas.Result.{IfOk-weaker}
use Rattle.lnfs_arguments.specs.declared.types.Op.{Op}
use Rattle.lnfs_results.specs.declared.types.OpResult.{OpResult}
use Rattle.lnfs_world.specs.World.{World}
use Rattle.lnfs_world.specs.Outcome.{Site, Place, Outcome, begins_at, done_to}
use Rattle.lnfs_operations.specs.Chain.{refuse}
use Rattle.lnfs_operations.specs.Sequence.{Sent}
use Rattle.lnfs_operations.specs.Served.{Keeper, Nowhere, Reply, told_reply, replied, row}
use Rattle.lnfs_session.specs.Standing.{Lists}
use Rattle.lnfs_tree.specs.Rows.{Rows}
use Rattle.lnfs_nodes.specs.Trees.{with_tree}
use Rattle.lnfs_open.specs.Lists as opens
use Rattle.lnfs_gss3.specs.Contexts as contexts
use Rattle.lnfs_operations.specs.declared.Refusal.{Refusal}
use Rattle.lnfs_engine.specs.declared.place.Keeper as code
use Rattle.lnfs_engine.specs.declared.reply.Came.{Came}
use Rattle.lnfs_engine.specs.Places.{Starts}
use Rattle.lnfs_engine.specs.Replies.{Acts, IsBare, Says, own_of}
use Rattle.lnfs_engine.specs.Nodes.{told_as, SaysBare}
use Rattle.lnfs_engine.specs.Performs.{turn, Performs}
use Rattle.lnfs_engine.specs.Stores.{stored}
use Rattle.lnfs_engine.proofs.Acting.{performs_at, performs_first}

-- what is said of every answer that is appended
abbrev pub Said : (old new : List ℕ) → Op → Result OpResult Refusal → Came → Type 0
Said old new op answer came = (begin : ℕ) (keeper : Keeper) → Says begin old new (own_of op keeper answer) came

module _ (begin : ℕ) (old new : List ℕ) (here : code.Keeper) (site : Site) (sent : Sent) (op same : Op) (p : Place) (answer : Result OpResult Refusal) (is : op ≡ same) {E : Type 0} (result : Result Came E) (said : IfOk result (Said old new op answer)) where
  module _ (store : World) (clients after : Lists) (tree : Rows) (held : opens.Lists) (kept : contexts.Lists) (view_is : stored clients tree held kept ≡ store) where
    abbrev before : World
    before = stored clients tree held kept

    abbrev later : World
    later = stored after tree held kept

    abbrev Told : Came → Type 0
    Told came = Performs begin old new here here p later (turn site sent op p store) came

    from_store : (came : Came) → Performs begin old new here here p later (turn site sent op p before) came → Told came
    from_store came = subst (λ w. Performs begin old new here here p later (turn site sent op p w) came) view_is

    pub told : Acts (row site sent same p before) (own_of same Nowhere answer) p before later → IfOk result Told
    told did = IfOk-weaker result (Said old new op answer) Told (λ came says. from_store came (performs_at begin old new here site sent op same p p before later answer came is did (says begin Nowhere))) said

    -- of the first operation of its COMPOUND
    pub told_first : Starts p here → Acts (row site sent same (begins_at p.subject p.moment) before) (own_of same Nowhere answer) (begins_at p.subject p.moment) before later → IfOk result Told
    told_first starts did = IfOk-weaker result (Said old new op answer) Told (λ came says. from_store came (performs_first begin old new here site sent op same p before later answer came is starts did (says begin Nowhere))) said

-- one that is refused with no test
pub refused : (site : Site) (sent : Sent) (op : Op) (p : Place) (w : World) (why : Refusal) → row site sent op p w ≡ replied op (told_reply p.subject) (refuse p why.gate why.status) → Acts (row site sent op p w) (own_of op Nowhere (Err why)) p w w
refused site sent op p w why is = record {
  answer = ap (λ (o : Outcome Reply). o.answer) is;
  place = ap (λ (o : Outcome Reply). o.place) is;
  world = sym (ap (done_to w) is);
}

module _ (begin : ℕ) (old new : List ℕ) (here : code.Keeper) (site : Site) (sent : Sent) (op same : Op) (p : Place) (why : Refusal) (is : op ≡ same) {E : Type 0} (result : Result Came E) (said : IfOk result (Said old new op (Err why))) where
  pub told_refused : (w : World) → row site sent same p w ≡ replied same (told_reply p.subject) (refuse p why.gate why.status) → IfOk result (λ came. Performs begin old new here here p w (turn site sent op p w) came)
  told_refused w row_is = IfOk-weaker result (Said old new op (Err why)) (λ came. Performs begin old new here here p w (turn site sent op p w) came) (λ came says. performs_at begin old new here site sent op same p p w w (Err why) came is (refused site sent same p w why row_is) (says begin Nowhere)) said

-- from worlds to worlds
module _ (begin : ℕ) (old new : List ℕ) (site : Site) (sent : Sent) (op same : Op) (p q : Place) (answer : Result OpResult Refusal) (is : op ≡ same) {E : Type 0} (result : Result Came E) (said : IfOk result (Said old new op answer)) where
  pub told_from : (before after : World → World) → ((rest : World) → Acts (row site sent same p (before rest)) (own_of same Nowhere answer) q (before rest) (after rest)) →
      IfOk result (λ came. (keeper : code.Keeper) (rest : World) → Performs begin old new keeper keeper q (after rest) (turn site sent op p (before rest)) came)
  told_from before after did = IfOk-weaker result (Said old new op answer) (λ came. (keeper : code.Keeper) (rest : World) → Performs begin old new keeper keeper q (after rest) (turn site sent op p (before rest)) came)
      (λ came says keeper rest. performs_at begin old new keeper site sent op same p q (before rest) (after rest) answer came is (did rest) (says begin Nowhere))
      said

  -- of worlds of which something is told
  pub told_where : (Told : World → Type 0) (before after : World → World) → ((rest : World) → Told rest → Acts (row site sent same p (before rest)) (own_of same Nowhere answer) q (before rest) (after rest)) →
      IfOk result (λ came. (keeper : code.Keeper) (rest : World) → Told rest → Performs begin old new keeper keeper q (after rest) (turn site sent op p (before rest)) came)
  told_where Told before after did = IfOk-weaker result (Said old new op answer) (λ came. (keeper : code.Keeper) (rest : World) → Told rest → Performs begin old new keeper keeper q (after rest) (turn site sent op p (before rest)) came)
      (λ came says keeper rest tells. performs_at begin old new keeper site sent op same p q (before rest) (after rest) answer came is (did rest tells) (says begin Nowhere))
      said

  -- which stay as they are but for the tree
  pub told_on : (tree : Rows) → ((rest : World) → Acts (row site sent same p (with_tree rest tree)) (own_of same Nowhere answer) q (with_tree rest tree) (with_tree rest tree)) →
      IfOk result (λ came. (keeper : code.Keeper) (rest : World) → Performs begin old new keeper keeper q (with_tree rest tree) (turn site sent op p (with_tree rest tree)) came)
  told_on tree = told_from (λ (rest : World). with_tree rest tree) (λ (rest : World). with_tree rest tree)

-- ---- a result that has nothing behind its status

module _ (old new : List ℕ) (op same : Op) (told : OpResult) (ended : Result (Unit {0}) Refusal) (is : op ≡ same) {E : Type 0} (result : Result Came E) (said : IfOk result (SaysBare old new op ended)) where
  pub bare_said : IsBare same told → IfOk result (Said old new op (told_as (λ it. told) ended))
  bare_said bare = IfOk-weaker result (SaysBare old new op ended) (Said old new op (told_as (λ it. told) ended)) (λ came says. says told (subst (λ o. IsBare o told) (sym is) bare)) said
