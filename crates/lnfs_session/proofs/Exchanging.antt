-- The outcomes of EXCHANGE_ID, each by the tests that led to it.
use Rattle.std.proofs.Common.{◌≡◌, ℕ, ◌+◌, true, false, List, [], ◌∷◌, ◌++◌, Option, Some, None, refl, sym, ◌∙◌}
use Rattle.std.specs.Prelude.{find, nat_lt, option_map}
use Rattle.lnfs_types.specs.declared.event.Moment.{Moment}
use Rattle.lnfs_world.specs.Rows.{inserted}
use Rattle.lnfs_world.specs.World.{Client, World, client_order, level_order, last_of}
use Rattle.lnfs_world.specs.Change.{AddClient, apply_all}
use Rattle.lnfs_world.specs.Outcome.{begins_at}
use Rattle.lnfs_operations.specs.declared.Gate.TheVariants.{Session}
use Rattle.lnfs_world.specs.declared.numbers.TheConstants.{LAST_NUMBER}
use Rattle.lnfs_operations.specs.declared.numbers.TheConstants.{EXCHGID4_FLAG_CONFIRMED_R, EXCHGID4_FLAG_UPD_CONFIRMED_REC_A, CLIENTS_OF_A_LEVEL}
use Rattle.lnfs_arguments.specs.declared.statuses.TheConstants.{NFS4ERR_NOSPC}
use Rattle.lnfs_operations.specs.Chain.{done, refuse}
use Rattle.lnfs_operations.specs.ExchangeId.{Arguments, exchange_id, new_client, has_flag, is_confirmed_as, is_pending, others_of, dropped}
use Rattle.lnfs_session.specs.Answers.{told_as}
use Rattle.lnfs_session.specs.Records.{left_by}
use Rattle.lnfs_session.specs.Standing.{Lists, standing, lists_of, clients_left, sessions_left}

module _ (args : Arguments) (level : ℕ) (moment : Moment) (rest : World) (lists : Lists) where
  pub again : has_flag args.flags EXCHGID4_FLAG_CONFIRMED_R ≡ false → has_flag args.flags EXCHGID4_FLAG_UPD_CONFIRMED_REC_A ≡ false → (c : Client) → find (is_confirmed_as level args.owner args.verifier) lists.clients ≡ Some c → exchange_id args (begins_at level moment) (standing rest lists) ≡ done (begins_at level moment) (told_as c) []
  again told update c found = rw (told, update, found) refl

  pub full : has_flag args.flags EXCHGID4_FLAG_CONFIRMED_R ≡ false → has_flag args.flags EXCHGID4_FLAG_UPD_CONFIRMED_REC_A ≡ false → find (is_confirmed_as level args.owner args.verifier) lists.clients ≡ None → nat_lt (others_of level args.owner lists.clients) CLIENTS_OF_A_LEVEL ≡ false → exchange_id args (begins_at level moment) (standing rest lists) ≡ refuse (begins_at level moment) Session NFS4ERR_NOSPC
  full told update none room = rw (told, update, none, room) refl

  pub spent : has_flag args.flags EXCHGID4_FLAG_CONFIRMED_R ≡ false → has_flag args.flags EXCHGID4_FLAG_UPD_CONFIRMED_REC_A ≡ false → find (is_confirmed_as level args.owner args.verifier) lists.clients ≡ None → nat_lt (others_of level args.owner lists.clients) CLIENTS_OF_A_LEVEL ≡ true → nat_lt (last_of level lists.client_lasts) LAST_NUMBER ≡ false → exchange_id args (begins_at level moment) (standing rest lists) ≡ refuse (begins_at level moment) Session NFS4ERR_NOSPC
  spent told update none room number = rw (told, update, none, room, number) refl

  pub made : has_flag args.flags EXCHGID4_FLAG_CONFIRMED_R ≡ false → has_flag args.flags EXCHGID4_FLAG_UPD_CONFIRMED_REC_A ≡ false → find (is_confirmed_as level args.owner args.verifier) lists.clients ≡ None → nat_lt (others_of level args.owner lists.clients) CLIENTS_OF_A_LEVEL ≡ true → nat_lt (last_of level lists.client_lasts) LAST_NUMBER ≡ true → exchange_id args (begins_at level moment) (standing rest lists) ≡
      done (begins_at level moment) (record { number = last_of level lists.client_lasts + 1; sequence = 1; confirmed = false }) (dropped (find (is_pending level args.owner) lists.clients) ++ AddClient (new_client (record { level = level; number = last_of level lists.client_lasts + 1 }) args) ∷ [])
  made told update none room number = rw (told, update, none, room, number) refl

-- the lists after a record gave way to a new one
pub replaced : (rest : World) (lists : Lists) (o : Option Client) (row : Client) → lists_of (apply_all (dropped o ++ AddClient row ∷ []) (standing rest lists)) ≡
    record { clients = inserted client_order row (clients_left (option_map (λ c. c.id) o) lists.clients); sessions = sessions_left (option_map (λ c. c.id) o) lists.sessions; client_lasts = inserted level_order row.id lists.client_lasts; session_lasts = lists.session_lasts }
replaced rest lists None row = refl
replaced rest lists (Some c) row = refl

-- where one row goes, by its identifier
pub left_as : (o : Option Client) (clients : List Client) → left_by o clients ≡ clients_left (option_map (λ c. c.id) o) clients
left_as None clients = refl
left_as (Some c) clients = refl

-- the lists after the owner's pending record gave way
pub pending_as : (rest : World) (lists : Lists) (o : Option Client) (row : Client) →
    record { clients = inserted client_order row (left_by o lists.clients); sessions = sessions_left (option_map (λ c. c.id) o) lists.sessions; client_lasts = inserted level_order row.id lists.client_lasts; session_lasts = lists.session_lasts }
    ≡ lists_of (apply_all (dropped o ++ AddClient row ∷ []) (standing rest lists))
pending_as rest lists o row = (λ i. record { clients = inserted client_order row (left_as o lists.clients i); sessions = sessions_left (option_map (λ c. c.id) o) lists.sessions; client_lasts = inserted level_order row.id lists.client_lasts; session_lasts = lists.session_lasts }) ∙ sym (replaced rest lists o row)
