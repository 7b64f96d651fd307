-- The rows of a sound world make its clients and sessions.
use Rattle.std.proofs.Common.{◌≡◌, ◌<◌, ◌≤◌, ◌+◌, ℕ, zero, suc, true, List, [], ◌∷◌, Option, Some, None, length, map, refl, sym, subst, arith}
use Rattle.std.specs.Prelude.{◌^◌}
use Rattle.std.specs.List.{AllByRecursion}
use Rattle.std.proofs.lemmas.Bool.{false≢true}
use Rattle.lnfs_world.specs.World.{Id, Client, World, same_id, client_at}
use Rattle.lnfs_world.specs.Facts.{has_confirmed, is_confirmed}
use Rattle.lnfs_world.specs.Outcome.{Site}
use Rattle.lnfs_world.specs.declared.numbers.TheConstants.{LAST_NUMBER}
use Rattle.lnfs_world.proofs.Rows.{all_weaker, all_find}
use Rattle.lnfs_world.proofs.Keys.{id_same}
use Rattle.lnfs_operations.specs.Bounds.{IsSound, IsGivenBy}
use Rattle.lnfs_counts.specs.Counters.{FitsCounter}
use Rattle.lnfs_rows.specs.declared.lists.Lists.{Lists}
use Rattle.lnfs_rows.specs.declared.sessions.ClientRow.{ClientRow}
use Rattle.lnfs_rows.specs.declared.sessions.SessionRow.{SessionRow}
use Rattle.lnfs_rows.specs.Lasts.{given_from, given_of}
use Rattle.lnfs_rows.specs.Told.{client_of, session_of}
use Rattle.lnfs_rows.specs.World.{world_of, AreOf}
use Rattle.lnfs_session.specs.Standing.{lists_of}
use Rattle.lnfs_session.specs.Makes.{IsNumber, MakesClients, lists_told}

-- a client that is there has a number that a level gives
behind_number : (clients : List Client) (level number : ℕ) → AllByRecursion (λ c. IsNumber c.id) clients → has_confirmed clients level number ≡ true → number ≤ LAST_NUMBER
behind_number clients level number numbers behind = by (client_at clients i) refl behind
  where
    i : Id
    i = record { level = level; number = number }

    by : (o : Option Client) → client_at clients i ≡ o → is_confirmed o ≡ true → number ≤ LAST_NUMBER
    by None is there = absurd (false≢true there)
    by (Some c) is there =
        let found = all_find (λ x. IsNumber x.id) (λ x. same_id i x.id) clients c numbers is in
        subst (λ (j : Id). j.number ≤ LAST_NUMBER) (sym (id_same i c.id found.1)) found.0.1

-- last numbers by level fit counters, where the levels do
given_fits : (site : Site) (level : ℕ) (ns : List ℕ) → level + length ns ≤ 2 ^ 32 → AllByRecursion (IsGivenBy site) (given_from level ns) → AllByRecursion FitsCounter (given_from level ns)
given_fits site level [] few all = tt
given_fits site level (zero ∷ ns) few all = given_fits site (suc level) ns (omega (arith, few)) all
given_fits site level (suc n ∷ ns) few all = (record { level = omega (arith, few); number = all.0.number.1 }, given_fits site (suc level) ns (omega (arith, few)) all.1)

-- where the last numbers are told of no more levels than there can be
module _ (site : Site) (w : World) (sound : IsSound site w) (last_clients last_sessions : List ℕ) (few_clients : length last_clients ≤ 2 ^ 32) (few_sessions : length last_sessions ≤ 2 ^ 32) (clients_given : given_of last_clients ≡ w.lasts.clients) (sessions_given : given_of last_sessions ≡ w.lasts.sessions) where
  fits_of : (ns : List ℕ) (lasts : List Id) → length ns ≤ 2 ^ 32 → given_of ns ≡ lasts → AllByRecursion (IsGivenBy site) lasts → AllByRecursion FitsCounter lasts
  fits_of ns lasts few same all = subst (AllByRecursion FitsCounter) same (given_fits site 0 ns (omega (arith, few)) (subst (AllByRecursion (IsGivenBy site)) (sym same) all))

  pub makes_standing : MakesClients (lists_of w)
  makes_standing =
      let numbers = all_weaker _ _ (λ c bounds. bounds.id.number) w.clients sound.bounds.rows.clients in
      record {
        records = record {
          facts = sound.facts.clients;
          numbers = numbers;
          fits = fits_of last_clients w.lasts.clients few_clients clients_given sound.bounds.rows.lasts.clients;
        };
        sessions = record {
          rise = sound.facts.sessions.rise;
          given = sound.facts.sessions.given;
          numbers = all_weaker _ _ (λ x bounds. bounds.id.number) w.sessions sound.bounds.rows.sessions;
          clients = all_weaker _ _ (λ x behind. behind_number w.clients x.id.level x.client numbers behind) w.sessions sound.facts.sessions.behind;
          fits = fits_of last_sessions w.lasts.sessions few_sessions sessions_given sound.bounds.rows.lasts.sessions;
        };
      }

  -- the rows that were told of it, and its last numbers by level, are its lists again
  module _ (clients : List ClientRow) (sessions : List SessionRow) (clients_told : map client_of clients ≡ w.clients) (sessions_told : map session_of sessions ≡ w.sessions) where
    pub told_again : lists_told clients sessions last_clients last_sessions ≡ lists_of w
    told_again = (λ t. record { clients = clients_told t; sessions = sessions_told t; client_lasts = clients_given t; session_lasts = sessions_given t })

    pub makes_again : MakesClients (lists_told clients sessions last_clients last_sessions)
    makes_again = subst MakesClients (sym told_again) makes_standing

-- the lists of a sound world
pub makes_sound : (site : Site) (levels : ℕ) (lists : Lists) → levels < 2 ^ 32 → AreOf levels lists.lasts → IsSound site (world_of lists) → MakesClients (lists_told lists.clients.items lists.sessions.items lists.lasts.clients.items lists.lasts.sessions.items)
makes_sound site levels lists few are sound = makes_standing site (world_of lists) sound lists.lasts.clients.items lists.lasts.sessions.items (omega (arith, few, are.clients)) (omega (arith, few, are.sessions)) refl refl
