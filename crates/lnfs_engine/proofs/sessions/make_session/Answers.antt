use Rattle.std.proofs.Common.{◌≡◌, List, None, Ok, Err, sym, ap, ◌∙◌, subst}
use Rattle.std.specs.Prelude.{Option}
use Rattle.std.specs.Option.{option_map}
use Rattle.lnfs_arguments.specs.declared.types.Op.TheVariants as ops
use Rattle.lnfs_arguments.specs.declared.channel.Channel.{Channel}
use Rattle.lnfs_world.specs.World.{Id, Open, client_at}
use Rattle.lnfs_world.specs.Outcome.{begins_at}
use Rattle.lnfs_operations.specs.declared.Refusal.{Refusal}
use Rattle.lnfs_operations.specs.Chain.{Answer, Done}
use Rattle.lnfs_operations.specs.CreateSession.{Created, create_session}
use Rattle.lnfs_operations.specs.Served.{Kept, created_keeper, created_reply, sizes_of, reply_of, row, under}
use Rattle.lnfs_operations.specs.Sequence.{Sent}
use Rattle.lnfs_operations.specs.Identifiers.{client_named}
use Rattle.lnfs_session.specs.declared.clients.SessionError.{SessionError}
use Rattle.lnfs_session.specs.declared.clients.SessionError.TheVariants.{Status, Memory}
use Rattle.lnfs_session.specs.declared.create.Created as code
use Rattle.lnfs_session.specs.declared.create.Created.TheVariants as variants
use Rattle.lnfs_session.specs.Answers.{Answers}
use Rattle.lnfs_session.specs.Listed.{id_of, channel_of}
use Rattle.lnfs_session.specs.Creates.{created_of, kept_reply, or_none, IsPlain, Replaces}
use Rattle.lnfs_session.specs.Standing.{Lists, lists_of, standing}
use Rattle.lnfs_open.specs.Lists as opens
use Rattle.lnfs_engine.specs.Replies.{Acts, IsRefusal, own_of}
use Rattle.lnfs_engine.specs.Results.{created_result}
use Rattle.lnfs_files.specs.Worlds.{with_opens}
use Rattle.lnfs_engine.specs.Stores.{opens_left}
use Rattle.lnfs_engine.proofs.Own.{IsOwn, opens_by, given_way, create_session_own, create_session_again}
use Rattle.lnfs_engine.proofs.Acting.{not_memory, refused_as, acts}
use Rattle.lnfs_engine.proofs.sessions.make_session.Goals as goal

-- what is granted is told as it is
granted_plain : (granted : Channel) → granted.headerpad ≡ 0 → granted.ird ≡ None → sizes_of (channel_of granted) ≡ granted
granted_plain granted pad ird = λ i. record granted { headerpad = sym pad i; ird = sym ird i }

-- a refusal leaves the opens
refused_opens : (client : Option Id) (opens : List Open) (f : code.Created → Created) (a : Answer Created) (e : SessionError) (why : Refusal) → IsRefusal e why → Answers f (Err e) a → opens_by client opens a ≡ opens
refused_opens client opens f a (Status code foreign) why is answers = ap (opens_by client opens) (sym answers)
refused_opens client opens f a Memory why is answers = absurd is

pub returns-in-Ok-New-clause-acts : goal.returns-in-Ok-New-clause-acts
returns-in-Ok-New-clause-acts c = λ site size count moment rest at.
    let args = c.args.args.now in
    let op = ops.CreateSession args in
    let p = begins_at c.args.level moment in
    let l = c.args.clients.now in
    let s = c.args.opens.now in
    let here = with_opens rest s in
    let w = standing here l in
    let keeper = created_keeper args p w in
    let x = c.in-Ok-New in
    let told = created_of l args in
    let plainly = subst (λ y. IsPlain (Ok y)) x.field-0-is x.ensures.plain in
    let plain = granted_plain x.granted plainly.0 plainly.1 in
    let o = create_session args c.args.bytes.now p w in
    let answer : Done (told (variants.New x.session x.granted x.dropped)) ≡ o.answer = ap (λ y. Done (told y)) (sym x.field-0-is) ∙ x.ensures.answer moment here in
    let gone : option_map id_of x.dropped ≡ given_way args l.clients = subst (λ y. Replaces args l (Ok y)) x.field-0-is x.ensures.dropped in
    let left = ap (opens_by (given_way args l.clients) s.opens) (sym answer) ∙ ap (λ g. opens_left g s.opens) (sym gone) in
    let stays = opens_left (option_map id_of x.dropped) s.opens in
    let own : IsOwn p w stays o = subst (λ opens. IsOwn p w opens o) left (create_session_own c.args.level moment w args c.args.bytes.now) in
    let same = ap (λ a. under keeper (reply_of op (created_reply c.args.level args) a)) (sym answer)
    ∙ ap (λ g. own_of op keeper (Ok (created_result c.args.level args x.session g))) plain
    ∙ ap (λ r. own_of op keeper (Ok r)) (sym c.created_result.ensures.created) in
    let sent : Sent = record { arguments = c.args.bytes.now; size = size; count = count } in
    subst (λ (v : opens.Lists). Acts (row site sent op p w) (own_of op keeper (Ok c.created_result.result)) p w (standing (with_opens rest v) c.create_session.new.self)) (sym c.drop_opens.ensures)
    (acts here stays l c.create_session.new.self o _ p _ own same (x.ensures.lists moment here at))

pub returns-in_ok-refused_by-in-Err-clause-acts : goal.returns-in_ok-refused_by-in-Err-clause-acts
returns-in_ok-refused_by-in-Err-clause-acts c = λ site size count moment rest at.
    let args = c.args.args.now in
    let op = ops.CreateSession args in
    let p = begins_at c.args.level moment in
    let l = c.args.clients.now in
    let s = c.args.opens.now in
    let here = with_opens rest s in
    let w = standing here l in
    let why = c.in_ok-refused_by-in-Err.field-0 in
    let is = c.in_ok-refused_by-in-Err.ensures in
    let o = create_session args c.args.bytes.now p w in
    let answers = c.in-Err.ensures.answer moment here in
    let own : IsOwn p w s.opens o = subst (λ opens. IsOwn p w opens o) (refused_opens (given_way args l.clients) s.opens (created_of l args) o.answer c.in-Err.error why is answers) (create_session_own c.args.level moment w args c.args.bytes.now) in
    acts here s.opens l c.create_session.new.self o _ p _ own
    (ap (under (created_keeper args p w)) (refused_as (created_of l args) op (created_reply c.args.level args) _ c.in-Err.error why is answers))
    (not_memory code.Created c.in-Err.error why is c.in-Err.ensures.lists moment here at)

pub returns-in-Ok-Replay-clause-acts : goal.returns-in-Ok-Replay-clause-acts
returns-in-Ok-Replay-clause-acts c = λ site size count moment rest at.
    let args = c.args.args.now in
    let op = ops.CreateSession args in
    let p = begins_at c.args.level moment in
    let l = c.args.clients.now in
    let s = c.args.opens.now in
    let here = with_opens rest s in
    let w = standing here l in
    let keeper = created_keeper args p w in
    let o = create_session args c.args.bytes.now p w in
    let x = c.in-Ok-Replay in
    let answer : Done (created_of l args variants.Replay) ≡ o.answer = ap (λ y. Done (created_of l args y)) (sym x.field-0-is) ∙ x.ensures.answer moment here in
    let own : IsOwn p w s.opens o = subst (λ opens. IsOwn p w opens o) (ap (opens_by (given_way args l.clients) s.opens) (sym answer)) (create_session_own c.args.level moment w args c.args.bytes.now) in
    let same : c.create_session.new.self ≡ l = x.ensures.lists moment here at ∙ ap lists_of (create_session_again c.args.level moment w args c.args.bytes.now _ (sym answer)) in
    acts here s.opens l c.create_session.new.self o _ p _ own
    (ap (λ a. under keeper (reply_of op (created_reply c.args.level args) a)) (sym answer) ∙ ap (λ (k : Lists). Kept (or_none (kept_reply (client_at k.clients (client_named args.client))))) (sym same))
    (x.ensures.lists moment here at)
