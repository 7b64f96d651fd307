-- A place stays one where its client and its session stay.
use Rattle.std.proofs.Common.{◌≡◌, ℕ, Bool, true, ◌&&◌, Option, Some, None, refl, arith}
use Rattle.lnfs_world.specs.World.{Id, World, session_at}
use Rattle.lnfs_world.specs.Facts.{has_confirmed}
use Rattle.lnfs_world.specs.Outcome.{serves_client, is_session_for, serves_session, may_hold}

module _ (dom : ℕ → ℕ → Bool) (s : ℕ) (before after : World)
    (clients : (number : ℕ) → has_confirmed before.clients s number ≡ true → has_confirmed after.clients s number ≡ true)
    (sessions : (client number : ℕ) → has_confirmed before.clients s client ≡ true → is_session_for (Some client) (session_at before.sessions (record { level = s; number = number })) ≡ true → is_session_for (Some client) (session_at after.sessions (record { level = s; number = number })) ≡ true) where
  client_stays : (client : Option ℕ) → serves_client s client before ≡ true → serves_client s client after ≡ true
  client_stays None is = refl
  client_stays (Some number) is = clients number is

  session_stays : (client session : Option ℕ) → serves_client s client before ≡ true → serves_session s client session before ≡ true → serves_session s client session after ≡ true
  session_stays client None there is = refl
  session_stays None (Some number) there is = is
  session_stays (Some client) (Some number) there is = sessions client number there is

  pub place_stays : (client session : Option ℕ) (current saved : Option Id) → (serves_client s client before && (serves_session s client session before && (may_hold dom s current && may_hold dom s saved))) ≡ true → (serves_client s client after && (serves_session s client session after && (may_hold dom s current && may_hold dom s saved))) ≡ true
  place_stays client session current saved is =
      let there : serves_client s client before ≡ true = grind arith in
      let holds : serves_session s client session before ≡ true = grind arith in
      grind (arith, client_stays client there, session_stays client session there holds)
