-- A machine's turns are turns of the client that is seen.
use Rattle.std.proofs.Common.{◌≡◌, ℕ, Bool, true, false, cond, List, [], ◌∷◌, Option, Some, None, refl, sym, subst, arith}
use Rattle.std.specs.Prelude.{◌&&◌, nat_lt}
use Rattle.lnfs_once.specs.Client.{Packet, Client, packet_of, next_request, takes}
use Rattle.lnfs_once.specs.Server.{Server}
use Rattle.lnfs_once.specs.Schedule.{Reply, nth, posted, noted, ActsOnce, start}
use Rattle.lnfs_once.specs.Laws.{ClientRows, IsLawful, IsBare}
use Rattle.lnfs_once.specs.Machine.{Machine, IsMade, IsMachine, MachineState, viewed, MachineTurn, Tell, Next, Resend, Arrive, Return, Others, requests, arrived, returned, machine_happens, machine_run, machine_start}
use Rattle.lnfs_once.proofs.Invariant.{Holds}
use Rattle.lnfs_once.proofs.Keeps.{comes, others}
use Rattle.lnfs_once.proofs.Told.{newest_or}
use Rattle.lnfs_once.proofs.Arrivals.{arrive_holds}
use Rattle.lnfs_once.proofs.Turns.{request_holds, resend_holds, return_holds}
use Rattle.lnfs_once.proofs.Theorem.{law, starts}

module _ {S : Server} (N : ClientRows S) (laws : IsLawful N) (M : Machine S) (machine : IsMachine N M) where
  -- each reply bears the transaction of its packet
  abbrev AllBear : List (Reply S.A S.R) → Type 0
  AllBear given = (j : ℕ) (g : Reply S.A S.R) → nth given j ≡ Some g → M.Bears g.packet g.outcome

  abbrev Stands : MachineState M → Type 0
  Stands s = Holds N (viewed M s) × AllBear s.given

  next_stands : (s : MachineState M) → Stands s → Stands (requests M s)
  next_stands s stands = at (nat_lt (M.seen s.client).sent S.top && M.asks s.client) refl
    where
      abbrev_made : IsMade S (M.seen s.client) (M.seen (M.made s.client)) → nat_lt (M.seen s.client).sent S.top ≡ true → Holds N (viewed M (record s { client = M.made s.client; sent = posted (M.seen (M.made s.client)).awaited s.sent }))
      abbrev_made made room =
          let asked = request_holds N (viewed M s) stands.0 made.kind made.payload None made.idle in
          let open_to : (nat_lt (M.seen s.client).sent S.top && S.suits (packet_of made.kind made.payload (M.seen s.client))) ≡ true = grind (arith, room, made.suits) in
          let now = subst (λ b. Holds N (cond b (record (viewed M s) { client = next_request S.top made.kind made.payload (M.seen s.client); sent = packet_of made.kind made.payload (M.seen s.client) ∷ s.sent }) (viewed M s))) open_to asked in
          subst (λ (c : Client S.A). Holds N (record (viewed M s) { client = c; sent = posted c.awaited s.sent })) (sym made.client) now

      at : (b : Bool) → (nat_lt (M.seen s.client).sent S.top && M.asks s.client) ≡ b → Stands (cond b (record s { client = M.made s.client; sent = posted (M.seen (M.made s.client)).awaited s.sent }) s)
      at false e = stands
      at true e =
          let room : nat_lt (M.seen s.client).sent S.top ≡ true = grind (arith, e) in
          let asks : M.asks s.client ≡ true = grind (arith, e) in
          (abbrev_made (machine.made s.client room asks) room, stands.1)

  return_stands : (s : MachineState M) → Stands s → (j : ℕ) (r : Reply S.A S.R) → nth s.given j ≡ Some r → Stands (returned M s (Some r))
  return_stands s stands j r there =
      let now = return_holds N (viewed M s) stands.0 j r there in
      let client = machine.took r.packet r.outcome s.client (stands.1 j r there) in
      (subst (λ (c : Client S.A). Holds N (record (viewed M s) { client = c; taken = cond (takes r.packet.xid (M.seen s.client).awaited) (noted S (M.seen s.client).awaited r.outcome s.taken) s.taken })) (sym client) now, stands.1)

  moves_stand : (s : MachineState M) → Stands s → (turn : MachineTurn M) → Stands (machine_happens M s turn)
  moves_stand s stands (Tell t) = (subst (λ (c : Client S.A). Holds N (record (viewed M s) { client = c })) (sym (machine.told t s.client)) stands.0, stands.1)
  moves_stand s stands Next = next_stands s stands
  moves_stand s stands Resend = (resend_holds N (viewed M s) stands.0 (M.seen s.client).awaited refl, stands.1)
  moves_stand s stands (Arrive k moment) = at (nth s.sent k) refl
    where
      at : (p : Option (Packet S.A)) → nth s.sent k ≡ p → Stands (arrived M s moment p)
      at None e = stands
      at (Some p) e = (
        arrive_holds N laws (viewed M s) stands.0 p k e moment,
        newest_or (λ g. M.Bears g.packet g.outcome) (record { packet = p; outcome = (S.serve s.server moment p).reply }) s.given (machine.bears s.server moment p (comes N (viewed M s) stands.0.0 p k e)) stands.1,
      )
  moves_stand s stands (Return k) = at (nth s.given k) refl
    where
      at : (r : Option (Reply S.A S.R)) → nth s.given k ≡ r → Stands (returned M s r)
      at None e = stands
      at (Some r) e = return_stands s stands k r e
  moves_stand s stands (Others e) = (others N laws (viewed M s) e stands.0, stands.1)

  goes_stand : (rest : List (MachineTurn M)) (s : MachineState M) → Stands s → Stands (machine_run M rest s)
  goes_stand [] s stands = stands
  goes_stand (turn ∷ rest) s stands = goes_stand rest (machine_happens M s turn) (moves_stand s stands turn)

  begins : (v : S.V) → IsBare N v → Stands (machine_start M v)
  begins v bare = (subst (λ (c : Client S.A). Holds N (record (start S v) { client = c })) (sym machine.first) (starts N laws v bare), λ j g h. absurd (grind arith))

  pub machine_acts_once : (v : S.V) → IsBare N v → (turns : List (MachineTurn M)) → ActsOnce S (viewed M (machine_run M turns (machine_start M v)))
  machine_acts_once v bare turns = law N _ (goes_stand turns (machine_start M v) (begins v bare)).0.0
