use Rattle.std.proofs.Common.{◌<◌, None, Bool, length, not, filter, sym, ap, ◌∙◌, subst}
use Rattle.lnfs_world.specs.World.{Session}
use Rattle.lnfs_world.specs.Change.{is_session_of}
use Rattle.lnfs_counts.proofs.Rows.{gone_first, fewer, none_filtered}
use Rattle.lnfs_session.specs.Listed.{id_of, session_id_of}
use Rattle.lnfs_session.specs.Sessions.{SessionLists, own_id}
use Rattle.lnfs_session.proofs.Ended.{found_there, is_found}
use Rattle.lnfs_session.proofs.sessions.Sessions.remove_of.Goals as goal

pub loop-id-smaller : goal.loop-id-smaller
loop-id-smaller c =
    let sessions = c.loop-id.self.sessions in
    let i = session_id_of c.in-Some.id in
    subst (λ (k : SessionLists). length k.sessions < length sessions) (sym c.remove.ensures)
    (fewer own_id i sessions (found_there (is_session_of (id_of c.args.client)) i sessions c.in-Some.ensures.found))

pub loop-id-preserved : goal.loop-id-preserved
loop-id-preserved c =
    let of : Session → Bool = is_session_of (id_of c.args.client) in
    record {
      sessions = ap (λ (k : SessionLists). filter (λ x. not (of x)) k.sessions) c.remove.ensures ∙ gone_first own_id of (session_id_of c.in-Some.id) c.loop-id.self.sessions c.in-Some.ensures.only ∙ c.loop-id.invariant.sessions;
      lasts = ap (λ (k : SessionLists). k.lasts) c.remove.ensures ∙ c.loop-id.invariant.lasts;
    }

pub returns : goal.returns
returns c =
    let of : Session → Bool = is_session_of (id_of c.args.client) in
    let left = sym (none_filtered of c.loop-id.self.sessions (sym (is_found of None c.loop-id.self.sessions c.in_default.ensures.found))) ∙ c.loop-id.invariant.sessions in
    (λ t. record { sessions = left t; lasts = c.loop-id.invariant.lasts t })
