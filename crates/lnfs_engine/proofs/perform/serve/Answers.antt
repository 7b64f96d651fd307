use Rattle.std.proofs.Common.{◌≡◌, ℕ, Bool, true, List, refl, sym, ap, subst}
use Rattle.std.proofs.lemmas.Result.{IfOk-weaker}
use Rattle.lnfs_arguments.specs.declared.types.Op.{Op}
use Rattle.lnfs_arguments.specs.declared.types.Op.TheVariants as ops
use Rattle.lnfs_arguments.specs.declared.types.CreateSession.{CreateSession}
use Rattle.lnfs_arguments.specs.declared.types.Implementation.{Implementation}
use Rattle.lnfs_arguments.specs.declared.types.Sequence.{Sequence}
use Rattle.std.specs.Prelude.{Option}
use Rattle.lnfs_arguments.specs.declared.stateid.StateId.{StateId}
use Rattle.lnfs_arguments.specs.declared.types.What.{What}
use Rattle.lnfs_arguments.specs.declared.types.Making.{Making}
use Rattle.lnfs_arguments.specs.declared.types.Claim.{Claim}
use Rattle.lnfs_attrs.specs.declared.raw.RawAttrs.{RawAttrs}
use Rattle.std.specs.List.{AllByRecursion}
use Rattle.lnfs_world.specs.World.{World, label_at}
use Rattle.lnfs_world.specs.Facts.{is_good_open}
use Rattle.lnfs_engine.specs.declared.reply.Came.{Came}
use Rattle.lnfs_engine.specs.Places.{place_of, Stands, IsOnNodes}
use Rattle.lnfs_engine.specs.Performs.{site_in, sent_of, turn, Performs}
use Rattle.lnfs_files.specs.Worlds.{with_opens}
use Rattle.lnfs_engine.specs.Stores.{beside, stored}
use Rattle.lnfs_engine.proofs.Staying.{stays}
use Rattle.lnfs_engine.proofs.perform.serve.Goals as goal

pub returns-in-Sequence-clause-performs : goal.returns-in-Sequence-clause-performs
returns-in-Sequence-clause-performs c =
    let r = c.args.request.now in
    let p = place_of c.args.place.now in
    let tree = c.store.inside.tree in
    let after = stored c.sequence.new.clients tree c.store.inside.opens c.store.inside.contexts in
    let Goal : World → Came → Type 0 = λ w came. Performs r.begin c.args.out.now c.sequence.new.out c.args.keeper.now c.sequence.new.keeper (place_of c.sequence.new.place) after (turn (site_in r) (sent_of r) c.args.op.now p w) came in
    IfOk-weaker c.sequence.result _ (Goal c.args.store.now)
    (λ came did. subst (λ w. Goal w came) c.store.view_is (did (with_opens (beside tree c.store.inside.contexts) c.store.inside.opens)))
    c.sequence.ensures.performs

-- the others are on nodes
record IsOther (op : Op) : Type 0 where
  pub exchange_id : (verifier owner : List ℕ) (flags : ℕ) (implementation : Option Implementation) → op ≡ ops.ExchangeId verifier owner flags implementation → ⊥
  pub create_session : (args : CreateSession) → op ≡ ops.CreateSession args → ⊥
  pub destroy_session : (session : List ℕ) → op ≡ ops.DestroySession session → ⊥
  pub sequence : (args : Sequence) → op ≡ ops.Sequence args → ⊥
  pub destroy_clientid : (client : ℕ) → op ≡ ops.DestroyClientId client → ⊥
  pub reclaim_complete : (one_fs : Bool) → op ≡ ops.ReclaimComplete one_fs → ⊥
  pub outside : (number status : ℕ) → op ≡ ops.Outside number status → ⊥
  pub extra : (number : ℕ) (arguments : List ℕ) → op ≡ ops.Extra number arguments → ⊥
  pub create : (what : What) (name : List ℕ) (given : RawAttrs) → op ≡ ops.Create what name given → ⊥
  pub link : (name : List ℕ) → op ≡ ops.Link name → ⊥
  pub remove : (name : List ℕ) → op ≡ ops.Remove name → ⊥
  pub rename : (old new : List ℕ) → op ≡ ops.Rename old new → ⊥
  pub opening : (seqid access deny client : ℕ) (owner : List ℕ) (making : Option Making) (claim : Claim) → op ≡ ops.Open seqid access deny client owner making claim → ⊥
  pub close : (seqid : ℕ) (id : StateId) → op ≡ ops.Close seqid id → ⊥
  pub read : (id : StateId) (offset count : ℕ) → op ≡ ops.Read id offset count → ⊥
  pub write : (id : StateId) (offset stable : ℕ) (content : List ℕ) → op ≡ ops.Write id offset stable content → ⊥
  pub commit : (offset count : ℕ) → op ≡ ops.Commit offset count → ⊥
  pub set_attr : (id : StateId) (given : RawAttrs) → op ≡ ops.SetAttr id given → ⊥

on_nodes : (op : Op) → IsOther op → IsOnNodes op
on_nodes (ops.ExchangeId verifier owner flags implementation) n = n.exchange_id verifier owner flags implementation refl
on_nodes (ops.CreateSession args) n = n.create_session args refl
on_nodes (ops.DestroySession session) n = n.destroy_session session refl
on_nodes (ops.Sequence args) n = n.sequence args refl
on_nodes (ops.DestroyClientId client) n = n.destroy_clientid client refl
on_nodes (ops.ReclaimComplete one_fs) n = n.reclaim_complete one_fs refl
on_nodes (ops.Outside number status) n = n.outside number status refl
on_nodes (ops.Extra number arguments) n = n.extra number arguments refl
on_nodes (ops.Create what name given) n = n.create what name given refl
on_nodes (ops.Link name) n = n.link name refl
on_nodes (ops.Remove name) n = n.remove name refl
on_nodes (ops.Rename old new) n = n.rename old new refl
on_nodes (ops.Open seqid access deny client owner making claim) n = n.opening seqid access deny client owner making claim refl
on_nodes (ops.Close seqid id) n = n.close seqid id refl
on_nodes (ops.Read id offset count) n = n.read id offset count refl
on_nodes (ops.Write id offset stable content) n = n.write id offset stable content refl
on_nodes (ops.Commit offset count) n = n.commit offset count refl
on_nodes (ops.SetAttr id given) n = n.set_attr id given refl
on_nodes op n = tt

pub returns-in-Create-clause-performs : goal.returns-in-Create-clause-performs
returns-in-Create-clause-performs c =
    let r = c.args.request.now in
    let here = c.args.keeper.now in
    let p = place_of c.args.place.now in
    let q = place_of c.on_names.new.place in
    let clients = c.store.inside.clients in
    let after = stored clients c.on_names.new.tree c.on_names.new.opens c.store.inside.contexts in
    let Goal : World → Came → Type 0 = λ w came. Performs r.begin c.args.out.now c.on_names.new.out here here q after (turn (site_in r) (sent_of r) c.args.op.now p w) came in
    IfOk-weaker c.on_names.result _ (Goal c.args.store.now)
    (λ came did. subst (λ w. Goal w came) c.store.view_is (did here (stored clients c.store.inside.tree c.store.inside.opens c.store.inside.contexts)))
    c.on_names.ensures.performs

pub on_files-requires-clause-opens : goal.on_files-requires-clause-opens
on_files-requires-clause-opens c = subst (λ (w : World). AllByRecursion (λ o. is_good_open (site_in c.args.request.now).dom (label_at w.nodes) o ≡ true) w.opens) (sym c.store.view_is) c.requires.nodes

pub returns-in-Open-clause-performs : goal.returns-in-Open-clause-performs
returns-in-Open-clause-performs c =
    let r = c.args.request.now in
    let here = c.args.keeper.now in
    let p = place_of c.args.place.now in
    let q = place_of c.on_files.new.place in
    let clients = c.store.inside.clients in
    let after = stored clients c.on_files.new.tree c.on_files.new.opens c.store.inside.contexts in
    let Goal : World → Came → Type 0 = λ w came. Performs r.begin c.args.out.now c.on_files.new.out here here q after (turn (site_in r) (sent_of r) c.args.op.now p w) came in
    IfOk-weaker c.on_files.result _ (Goal c.args.store.now)
    (λ came did. subst (λ w. Goal w came) c.store.view_is (did here (stored clients c.store.inside.tree c.store.inside.opens c.store.inside.contexts) refl))
    c.on_files.ensures.performs

pub on_nodes-requires-clause-own : goal.on_nodes-requires-clause-own
on_nodes-requires-clause-own c =
    let n = c.in_default in
    on_nodes c.args.op.now (record {
      exchange_id = n.not-ExchangeId;
      create_session = n.not-CreateSession;
      destroy_session = n.not-DestroySession;
      sequence = n.not-Sequence;
      destroy_clientid = n.not-DestroyClientId;
      reclaim_complete = n.not-ReclaimComplete;
      outside = n.not-Outside;
      extra = n.not-Extra;
      create = n.not-Create;
      link = n.not-Link;
      remove = n.not-Remove;
      rename = n.not-Rename;
      opening = n.not-Open;
      close = n.not-Close;
      read = n.not-Read;
      write = n.not-Write;
      commit = n.not-Commit;
      set_attr = n.not-SetAttr;
    })

pub returns-in_default : goal.returns-in_default
returns-in_default c =
    let r = c.args.request.now in
    let here = c.args.keeper.now in
    let p = place_of c.args.place.now in
    let q = place_of c.on_nodes.new.place in
    let clients = c.store.inside.clients in
    let after = stored clients c.on_nodes.new.tree c.store.inside.opens c.store.inside.contexts in
    let sessions = c.args.store.now.sessions in
    let Goal : World → Came → Type 0 = λ w came. Performs r.begin c.args.out.now c.on_nodes.new.out here here q after (turn (site_in r) (sent_of r) c.args.op.now p w) came in
    record {
      performs = IfOk-weaker c.on_nodes.result _ (Goal c.args.store.now)
          (λ came did. subst (λ w. Goal w came) c.store.view_is (did here (stored clients c.store.inside.tree c.store.inside.opens c.store.inside.contexts)))
          c.on_nodes.ensures.performs;
      stands = IfOk-weaker c.on_nodes.result _ (λ (came : Came). Stands q after.sessions here)
          (λ came moved. subst (λ at. Stands at after.sessions here) (sym moved)
          (stays p q.current q.saved sessions after.sessions here (ap (λ (w : World). w.sessions) c.store.view_is) c.requires.stands))
          c.on_nodes.ensures.moved;
    }
