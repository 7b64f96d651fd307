use Rattle.std.proofs.Common.{◌≡◌, ℕ, List, map, sym, subst, ap, ◌∙◌}
use Rattle.lnfs_rows.specs.declared.sessions.ClientRow.{ClientRow}
use Rattle.lnfs_rows.specs.declared.sessions.SessionRow.{SessionRow}
use Rattle.lnfs_rows.specs.Told.{client_of, session_of}
use Rattle.lnfs_rows.specs.Lasts.{given_of, each_of}
use Rattle.lnfs_session.specs.Standing.{Lists}
use Rattle.lnfs_session.specs.Makes.{MakesClients, lists_told}
use Rattle.lnfs_test_state.proofs.clients_again.again.Goals as goal

same_lists : (t : Lists) (clients : List ClientRow) (sessions : List SessionRow) (last_clients last_sessions : List ℕ) → map client_of clients ≡ t.clients → map session_of sessions ≡ t.sessions → given_of last_clients ≡ t.client_lasts → given_of last_sessions ≡ t.session_lasts → lists_told clients sessions last_clients last_sessions ≡ t
same_lists t clients sessions last_clients last_sessions clients_are sessions_are client_lasts_are session_lasts_are = λ p. record { clients = clients_are p; sessions = sessions_are p; client_lasts = client_lasts_are p; session_lasts = session_lasts_are p }

makes_again : (t : Lists) → MakesClients t → given_of (each_of 2 t.client_lasts) ≡ t.client_lasts → given_of (each_of 2 t.session_lasts) ≡ t.session_lasts → (clients : List ClientRow) (sessions : List SessionRow) (last_clients last_sessions : List ℕ) → map client_of clients ≡ t.clients → map session_of sessions ≡ t.sessions → last_clients ≡ each_of 2 t.client_lasts → last_sessions ≡ each_of 2 t.session_lasts → MakesClients (lists_told clients sessions last_clients last_sessions)
makes_again t makes given_clients given_sessions clients sessions last_clients last_sessions clients_are sessions_are last_clients_are last_sessions_are =
    subst MakesClients (sym (same_lists t clients sessions last_clients last_sessions clients_are sessions_are (ap given_of last_clients_are ∙ given_clients) (ap given_of last_sessions_are ∙ given_sessions))) makes

pub from_rows-requires : goal.from_rows-requires
from_rows-requires c = record { makes = makes_again c.args.clients.now c.requires.makes c.requires.clients c.requires.sessions _ _ c.deref-3.result.now c.deref-4.result.now (ap (map client_of) c.deref.ensures.value ∙ c.in_ok-records.ensures) (ap (map session_of) c.deref-2.ensures.value ∙ c.in_ok-sessions.ensures) (c.deref-3.ensures.value ∙ c.in_ok-last_clients.ensures) (c.deref-4.ensures.value ∙ c.in_ok-last_sessions.ensures) }
