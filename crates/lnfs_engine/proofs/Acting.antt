-- What an operation comes to, from what the clients answered.
use Rattle.std.proofs.Common.{◌≡◌, ℕ, [], List, Err, refl, sym, ap, ◌∙◌, subst}
use Rattle.std.specs.Prelude.{Result}
use Rattle.lnfs_arguments.specs.declared.types.Op.{Op}
use Rattle.lnfs_types.specs.declared.event.Moment.{Moment}
use Rattle.lnfs_results.specs.declared.types.OpResult.{OpResult}
use Rattle.lnfs_world.specs.World.{Open, Session, World}
use Rattle.lnfs_world.specs.Outcome.{Site, Place, Outcome, begins_at, done_to}
use Rattle.lnfs_operations.specs.Chain.{Answer}
use Rattle.lnfs_operations.specs.Sequence.{Sent}
use Rattle.lnfs_operations.specs.Served.{Keeper, Nowhere, Slot, Record, Reply, failure, reply_of, row}
use Rattle.lnfs_session.specs.declared.clients.SessionError.{SessionError}
use Rattle.lnfs_session.specs.declared.clients.SessionError.TheVariants.{Status, Memory}
use Rattle.lnfs_session.specs.Answers.{Answers, UnlessMemory}
use Rattle.lnfs_session.specs.Standing.{Lists, lists_of, standing}
use Rattle.lnfs_operations.specs.declared.Refusal.{Refusal}
use Rattle.lnfs_engine.specs.declared.place.Keeper as code
use Rattle.lnfs_engine.specs.declared.reply.Came.{Came}
use Rattle.lnfs_engine.specs.Places.{keeper_of, Stands, Starts}
use Rattle.lnfs_nodes.specs.Trees.{refusal_of}
use Rattle.lnfs_engine.specs.Replies.{IsRefusal, own_of, Acts, Says}
use Rattle.lnfs_engine.specs.Performs.{turn, first_kept, kept_behind, Performs}
use Rattle.lnfs_engine.proofs.Own.{IsOwn, whole}

-- what holds unless memory was wanting holds where a test refused
pub not_memory : (S : Type 0) {P : Type 0} (e : SessionError) (why : Refusal) → IsRefusal e why → UnlessMemory {S = S} (Err e) P → P
not_memory S (Status code foreign) why is holds = holds
not_memory S Memory why is holds = absurd is

-- a refusal of the definition
pub refused_as : {S R : Type 0} (f : S → R) (op : Op) (reply : R → Reply) (a : Answer R) (e : SessionError) (why : Refusal) → IsRefusal e why → Answers f (Err e) a → reply_of op reply a ≡ failure op (refusal_of why)
refused_as f op reply a (Status code foreign) why is answers = ap (reply_of op reply) (sym answers) ∙ ap (failure op) (sym is)
refused_as f op reply a Memory why is answers = absurd is

pub acts : {R : Type 0} (rest : World) (opens : List Open) (before after : Lists) (o : Outcome (Answer R)) (answer : Reply) (next : Place) (r : Reply) → IsOwn next (standing rest before) opens o → answer ≡ r → after ≡ lists_of (done_to (standing rest before) o) →
    Acts (record { answer = answer; place = o.place; changes = o.changes }) r next (standing rest before) (standing (record rest { opens = opens }) after)
acts rest opens before after o answer next r own same lists = record {
  answer = same;
  place = own.place;
  world = ap (standing (record rest { opens = opens })) lists ∙ whole rest opens before next o own;
}

-- an operation that ran, whose reply was appended
pub performs : (begin : ℕ) (old new : List ℕ) (here next : code.Keeper) (at : Place) (site : Site) (sent : Sent) (op : Op) (p q : Place) (w v : World) (r : Reply) (came : Came) →
    Acts (row site sent op p w) r q w v → q ≡ at → kept_behind (keeper_of here) r ≡ keeper_of next → Says begin old new r came →
    Performs begin old new here next at v (turn site sent op p w) came
performs begin old new here next at site sent op p q w v r came did stands keeper says = record {
  place_is = did.place ∙ stands;
  state = sym did.world;
  keeper = ap (kept_behind (keeper_of here)) did.answer ∙ keeper;
  says = subst (λ x. Says begin old new x came) (sym did.answer) says;
}

pub first_nowhere : (keeper : Keeper) → first_kept keeper Nowhere ≡ keeper
first_nowhere Nowhere = refl
first_nowhere (Slot slot sequence) = refl
first_nowhere (Record client) = refl

-- by another name of the operation
pub named : (site : Site) (sent : Sent) (op same : Op) (p q : Place) (w v : World) (r : Op → Reply) → op ≡ same → Acts (row site sent same p w) (r same) q w v → Acts (row site sent op p w) (r op) q w v
named site sent op same p q w v r is = subst (λ o. Acts (row site sent o p w) (r o) q w v) (sym is)

-- one whose result is kept nowhere
module _ (begin : ℕ) (old new : List ℕ) (here : code.Keeper) (site : Site) (sent : Sent) (op same : Op) (p q : Place) (w v : World) (answer : Result OpResult Refusal) (came : Came) (is : op ≡ same) where
  pub performs_at : Acts (row site sent same p w) (own_of same Nowhere answer) q w v → Says begin old new (own_of op Nowhere answer) came → Performs begin old new here here q v (turn site sent op p w) came
  performs_at did says =
      performs begin old new here here q site sent op p q w v (own_of op Nowhere answer) came (named site sent op same p q w v (λ o. own_of o Nowhere answer) is did) refl (first_nowhere (keeper_of here)) says

-- which is the first of its COMPOUND
pub performs_first : (begin : ℕ) (old new : List ℕ) (here : code.Keeper) (site : Site) (sent : Sent) (op same : Op) (p : Place) (w v : World) (answer : Result OpResult Refusal) (came : Came) → op ≡ same →
    Starts p here → Acts (row site sent same (begins_at p.subject p.moment) w) (own_of same Nowhere answer) (begins_at p.subject p.moment) w v → Says begin old new (own_of op Nowhere answer) came → Performs begin old new here here p v (turn site sent op p w) came
performs_first begin old new here site sent op same p w v answer came is starts did =
    performs_at begin old new here site sent op same p p w v answer came is (subst (λ q. Acts (row site sent same q w) (own_of same Nowhere answer) q w v) (sym starts.place) did)

-- the first operation stands in no session
pub starts_stands : (p : Place) (sessions : List Session) (keeper : code.Keeper) → Starts p keeper → Stands p sessions keeper
starts_stands p sessions keeper starts = subst (Stands p sessions) (sym starts.nowhere) (record { client = ap (λ (q : Place). q.client) starts.place; session = ap (λ (q : Place). q.session) starts.place })

-- some world and moment
abbrev pub some_world : World
some_world = record { clients = []; sessions = []; contexts = []; nodes = []; entries = []; opens = []; lasts = record { clients = []; sessions = []; contexts = []; nodes = []; opens = [] } }

pub some_moment : Moment
some_moment = record { secs = 0; nanos = 0 }
