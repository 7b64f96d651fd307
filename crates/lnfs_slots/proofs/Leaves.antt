-- What DESTROY_CLIENTID and EXCHANGE_ID leave of a world.
use Rattle.std.proofs.Common.{◌≡◌, ◌≤◌, ◌⊎◌, inl, inr, ℕ, ◌+◌, Bool, true, false, not, [], ◌∷◌, ◌++◌, Option, Some, None, refl, sym, ◌∙◌, ap, subst, arith}
use Rattle.std.specs.Prelude.{◌==◌, nat_lt}
use Rattle.std.specs.List.{find}
use Rattle.std.proofs.lemmas.Bool.Decides.{nat_tests}
use Rattle.lnfs_types.specs.declared.event.Moment.{Moment}
use Rattle.lnfs_arguments.specs.declared.statuses.TheConstants.{NFS4ERR_STALE_CLIENTID, NFS4ERR_CLIENTID_BUSY, NFS4ERR_INVAL, NFS4ERR_NOSPC}
use Rattle.lnfs_monitor.specs.declared.rule.Rule.TheVariants.{M9}
use Rattle.lnfs_world.specs.World.{Id, Client, World, client_at, last_of}
use Rattle.lnfs_world.specs.Change.{AddClient, DropClient, apply}
use Rattle.lnfs_world.specs.Outcome.{Place, Outcome, begins_at, done_to}
use Rattle.lnfs_world.specs.declared.numbers.TheConstants.{LAST_NUMBER}
use Rattle.lnfs_operations.specs.declared.Gate.TheVariants as gates
use Rattle.lnfs_operations.specs.declared.numbers.TheConstants.{EXCHGID4_FLAG_CONFIRMED_R, EXCHGID4_FLAG_UPD_CONFIRMED_REC_A, CLIENTS_OF_A_LEVEL}
use Rattle.lnfs_operations.specs.Chain.{Answer, refuse, done, demand, where_there}
use Rattle.lnfs_operations.specs.Identifiers.{client_named}
use Rattle.lnfs_operations.specs.DestroyClientId.{is_busy, destroy_clientid}
use Rattle.lnfs_operations.specs.ExchangeId.{Arguments, Told, has_flag, is_confirmed_as, is_pending, others_of, dropped, new_client, exchange_id}
use Rattle.lnfs_operations.proofs.SessionLaws.{client_level}
use Rattle.lnfs_operations.proofs.Retries.{chosen_true}

-- a record that is there, with no session and no open, goes; or nothing does
pub record IsLeft (j : Id) (w v : World) : Type 0 where
  pub idle : is_busy j w ≡ false
  pub world : v ≡ apply (DropClient j) w

module _ (client : ℕ) (j : Id) (moment : Moment) (w : World) (named : client_named client ≡ j) where
  abbrev p : Place
  p = begins_at j.level moment

  abbrev leaving : Client → Outcome (Answer (Unit {0}))
  leaving c = demand (not (is_busy c.id w)) (refuse p gates.Session NFS4ERR_CLIENTID_BUSY) (done p tt (DropClient c.id ∷ []))

  abbrev Leaves : Outcome (Answer (Unit {0})) → Type 0
  Leaves o = (done_to w o ≡ w) ⊎ IsLeft j w (done_to w o)

  pub left_rows : Leaves (destroy_clientid client p w)
  left_rows = subst Leaves (sym is) (at (client_at w.clients j) refl)
    where
      is : destroy_clientid client p w ≡ where_there (client_at w.clients j) leaving (refuse p gates.Session NFS4ERR_STALE_CLIENTID)
      is =
          chosen_true ((client_named client).level == j.level) _ (refuse p (gates.Monitor M9) NFS4ERR_STALE_CLIENTID) (grind (arith, nat_tests, ap (λ (i : Id). i.level) named))
          ∙ ap (λ i. where_there (client_at w.clients i) leaving (refuse p gates.Session NFS4ERR_STALE_CLIENTID)) named

      of : (c : Client) → c.id ≡ j → (b : Bool) → is_busy c.id w ≡ b → Leaves (demand (not b) (refuse p gates.Session NFS4ERR_CLIENTID_BUSY) (done p tt (DropClient c.id ∷ [])))
      of c id true e = inl refl
      of c id false e = inr (record { idle = ap (λ i. is_busy i w) (sym id) ∙ e; world = ap (λ i. apply (DropClient i) w) id })

      at : (o : Option Client) → client_at w.clients j ≡ o → Leaves (where_there o leaving (refuse p gates.Session NFS4ERR_STALE_CLIENTID))
      at None e = inl refl
      at (Some c) e = of c (client_level j w.clients c e) (is_busy c.id w) refl

-- What EXCHANGE_ID answers: nothing; the owner's confirmed record, and the world stays; or a new record under the next
-- number, where no confirmed one is there, and the pending one goes.
pub data IsExchanged (args : Arguments) (p : Place) (w : World) (o : Outcome (Answer Told)) : Type 0 where
  refused : (status : ℕ) → 1 ≤ status → o ≡ refuse p gates.Session status → IsExchanged args p w o
  again : (c : Client) → find (is_confirmed_as p.subject args.owner args.verifier) w.clients ≡ Some c → o ≡ done p (record { number = c.id.number; sequence = c.sequence; confirmed = c.confirmed }) [] → IsExchanged args p w o
  anew : nat_lt (last_of p.subject w.lasts.clients) LAST_NUMBER ≡ true → find (is_confirmed_as p.subject args.owner args.verifier) w.clients ≡ None →
      o ≡ done p (record { number = last_of p.subject w.lasts.clients + 1; sequence = 1; confirmed = false }) (dropped (find (is_pending p.subject args.owner) w.clients) ++ AddClient (new_client (record { level = p.subject; number = last_of p.subject w.lasts.clients + 1 }) args) ∷ []) → IsExchanged args p w o

pub exchanged_rows : (args : Arguments) (p : Place) (w : World) → IsExchanged args p w (exchange_id args p w)
exchanged_rows args p w = chosen (not (has_flag args.flags EXCHGID4_FLAG_CONFIRMED_R)) NFS4ERR_INVAL (omega arith) (λ plain. chosen (not (has_flag args.flags EXCHGID4_FLAG_UPD_CONFIRMED_REC_A)) NFS4ERR_INVAL (omega arith) (λ begins. at (find (is_confirmed_as p.subject args.owner args.verifier) w.clients) refl))
  where
    chosen : (b : Bool) (status : ℕ) {o : Outcome (Answer Told)} → 1 ≤ status → (b ≡ true → IsExchanged args p w o) → IsExchanged args p w (demand b (refuse p gates.Session status) o)
    chosen true status some is = is refl
    chosen false status some is = refused status some refl

    number : ℕ
    number = last_of p.subject w.lasts.clients + 1

    new : Outcome (Answer Told)
    new = done p (record { number = last_of p.subject w.lasts.clients + 1; sequence = 1; confirmed = false }) (dropped (find (is_pending p.subject args.owner) w.clients) ++ AddClient (new_client (record { level = p.subject; number = last_of p.subject w.lasts.clients + 1 }) args) ∷ [])

    at : (o : Option Client) → find (is_confirmed_as p.subject args.owner args.verifier) w.clients ≡ o →
        IsExchanged args p w (where_there o (λ c. done p (record { number = c.id.number; sequence = c.sequence; confirmed = c.confirmed }) [])
        (demand (nat_lt (others_of p.subject args.owner w.clients) CLIENTS_OF_A_LEVEL) (refuse p gates.Session NFS4ERR_NOSPC) (demand (nat_lt (last_of p.subject w.lasts.clients) LAST_NUMBER) (refuse p gates.Session NFS4ERR_NOSPC) new)))
    at (Some c) e = again c e refl
    at None e = chosen (nat_lt (others_of p.subject args.owner w.clients) CLIENTS_OF_A_LEVEL) NFS4ERR_NOSPC (omega arith) (λ few. chosen (nat_lt (last_of p.subject w.lasts.clients) LAST_NUMBER) NFS4ERR_NOSPC (omega arith) (λ room. anew room e refl))
