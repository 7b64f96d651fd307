use Rattle.std.proofs.Common.{◌≡◌, Bool, true, false, cond, Some, None, refl, sym, ap, ◌∙◌, arith}
use Rattle.std.specs.Prelude.{◌==◌, ◌&&◌}
use Rattle.std.proofs.lemmas.Bool.Decides.{nat_tests}
use Rattle.lnfs_world.specs.World.{Id, client_at}
use Rattle.lnfs_world.specs.Outcome.{begins_at}
use Rattle.lnfs_operations.specs.Identifiers.{client_named}
use Rattle.lnfs_operations.specs.CreateSession.{is_next_of, is_next_created}
use Rattle.lnfs_operations.specs.Served.{Nowhere, Record}
use Rattle.lnfs_session.specs.declared.rows.ClientRef.{ClientRef}
use Rattle.lnfs_session.specs.Listed.{id_of}
use Rattle.lnfs_session.specs.Standing.{standing}
use Rattle.lnfs_engine.proofs.Acting.{some_world}
use Rattle.lnfs_engine.proofs.sessions.created_keeper.Goals as goal

-- the record that keeps is the one that is named
kept_in : (b : Bool) (i : Id) (client : ClientRef) → Some (id_of client) ≡ cond b (Some i) None → (b ≡ true) × (id_of client ≡ i)
kept_in true i client is = (refl, cc)
kept_in false i client is = absurd (cc)

nowhere : (b : Bool) (i : Id) → None ≡ cond b (Some i) None → b ≡ false
nowhere true i is = absurd (cc)
nowhere false i is = refl

both_left : (a b : Bool) → (a && b) ≡ true → a ≡ true
both_left true b is = refl
both_left false b is = absurd (cc)

pub returns-in-Some-clause-keeper : goal.returns-in-Some-clause-keeper
returns-in-Some-clause-keeper c = λ moment rest.
    let args = c.args.args.now in
    let next = is_next_created args (begins_at c.args.level moment) (standing rest c.args.clients.now) in
    let is = kept_in next (client_named args.client) c.in-Some.client (c.in-Some.ensures moment rest) in
    ap (λ (i : Id). Record i.number) is.1 ∙ ap (λ b. cond b (Record (client_named args.client).number) Nowhere) (sym is.0)

pub returns-in-Some-clause-stands : goal.returns-in-Some-clause-stands
returns-in-Some-clause-stands c = λ moment sessions.
    let args = c.args.args.now in
    let w = standing some_world c.args.clients.now in
    let own = (client_named args.client).level == c.args.level in
    let is = kept_in (is_next_created args (begins_at c.args.level moment) w) (client_named args.client) c.in-Some.client (c.in-Some.ensures moment some_world) in
    let level : own ≡ true = both_left own (is_next_of args.sequence (client_at w.clients (client_named args.client))) is.0 in
    record { own = ap (λ (i : Id). i.level) is.1 ∙ grind (arith, nat_tests, level); outside = record { client = refl; session = refl } }

pub returns-in-None-clause-keeper : goal.returns-in-None-clause-keeper
returns-in-None-clause-keeper c = λ moment rest.
    let args = c.args.args.now in
    let next = is_next_created args (begins_at c.args.level moment) (standing rest c.args.clients.now) in
    ap (λ b. cond b (Record (client_named args.client).number) Nowhere) (sym (nowhere next (client_named args.client) (c.in-None.ensures moment rest)))
