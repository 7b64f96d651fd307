-- What DESTROY_SESSION leaves of a world: the session that it names is gone, and all else is as before.
use Rattle.std.proofs.Common.{◌≡◌, ℕ, Bool, true, false, cond, not, List, [], ◌∷◌, Option, Some, None, refl, sym, ◌∙◌, ap, subst, arith}
use Rattle.std.specs.Prelude.{◌==◌, filter, drop}
use Rattle.std.specs.Str.{bytes_eq}
use Rattle.std.proofs.lemmas.Bool.Decides.{nat_tests}
use Rattle.lnfs_types.specs.declared.event.Moment.{Moment}
use Rattle.lnfs_arguments.specs.declared.statuses.TheConstants.{NFS4ERR_BADSESSION}
use Rattle.lnfs_monitor.specs.declared.rule.Rule.TheVariants.{M9}
use Rattle.lnfs_world.specs.World.{Id, Session, World, same_id, session_at}
use Rattle.lnfs_world.specs.Change.{DropSession}
use Rattle.lnfs_world.specs.Outcome.{Outcome, begins_at, done_to}
use Rattle.lnfs_world.proofs.Keys.{id_same}
use Rattle.lnfs_operations.specs.declared.Gate.TheVariants as gates
use Rattle.lnfs_operations.specs.Chain.{Answer, refuse, done, where_there}
use Rattle.lnfs_operations.specs.Identifiers.{session_named}
use Rattle.lnfs_operations.specs.DestroySession.{destroy_session}
use Rattle.lnfs_operations.proofs.SessionLaws.{session_at-id}
use Rattle.lnfs_operations.proofs.Retries.{chosen_true}

pub session_at-dropped : (session : Id) (sessions : List Session) (i : Id) → session_at (filter (λ x. not (same_id session x.id)) sessions) i ≡ cond (same_id i session) None (session_at sessions i)
session_at-dropped session [] i = grind arith
session_at-dropped session (x ∷ sessions) i = grind (arith, nat_tests, session_at-dropped session sessions i)

pub record IsDestroyed (j : Id) (w v : World) : Type 0 where
  pub clients : v.clients ≡ w.clients
  pub contexts : v.contexts ≡ w.contexts
  pub lasts : v.lasts ≡ w.lasts
  pub sessions : (i : Id) → session_at v.sessions i ≡ cond (same_id i j) None (session_at w.sessions i)

module _ (session : List ℕ) (j : Id) (moment : Moment) (w : World) (named : session_named session ≡ j) (whole : bytes_eq (drop 12 session) (0 ∷ 0 ∷ 0 ∷ 0 ∷ []) ≡ true) where
  abbrev ending : Option Session → Outcome (Answer (Unit {0}))
  ending o = where_there o (λ x. done (begins_at j.level moment) tt (DropSession x.id ∷ [])) (refuse (begins_at j.level moment) gates.Session NFS4ERR_BADSESSION)

  -- by the session that is there
  is_ending : destroy_session session (begins_at j.level moment) w ≡ ending (session_at w.sessions j)
  is_ending =
      chosen_true ((session_named session).level == j.level) _ (refuse (begins_at j.level moment) (gates.Monitor M9) NFS4ERR_BADSESSION) (grind (arith, nat_tests, ap (λ (i : Id). i.level) named))
      ∙ ap ending (ap (λ t. cond t (session_at w.sessions (session_named session)) None) whole ∙ ap (session_at w.sessions) named)

  ended : (o : Option Session) → session_at w.sessions j ≡ o → IsDestroyed j w (done_to w (ending o))
  ended None none = record { clients = refl; contexts = refl; lasts = refl; sessions = λ i. at i (same_id i j) refl }
    where
      at : (i : Id) (t : Bool) → same_id i j ≡ t → session_at w.sessions i ≡ cond (same_id i j) None (session_at w.sessions i)
      at i true e = ap (session_at w.sessions) (id_same i j e) ∙ none ∙ sym (ap (λ t. cond t None (session_at w.sessions i)) e)
      at i false e = sym (ap (λ t. cond t None (session_at w.sessions i)) e)
  ended (Some x) there = record {
    clients = refl;
    contexts = refl;
    lasts = refl;
    sessions = λ i. session_at-dropped x.id w.sessions i ∙ ap (λ k. cond (same_id i k) None (session_at w.sessions i)) (session_at-id j w.sessions x there);
  }

  pub destroyed_rows : IsDestroyed j w (done_to w (destroy_session session (begins_at j.level moment) w))
  destroyed_rows = subst (λ (o : Outcome (Answer (Unit {0}))). IsDestroyed j w (done_to w o)) (sym is_ending) (ended (session_at w.sessions j) refl)
