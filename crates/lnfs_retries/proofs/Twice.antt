-- The first request of a client that mounts is made, sent twice and answered twice.
use Rattle.std.proofs.Common.{◌≡◌, ℕ, length, refl}
use Rattle.lnfs_policy.specs.Policy.{Policy}
use Rattle.lnfs_gss3.specs.Mechanism.{Signing}
use Rattle.lnfs_script.specs.declared.identity.Identity.{Identity}
use Rattle.lnfs_script.specs.declared.identity.Identity.TheVariants.{Guest, Full}
use Rattle.lnfs_client.specs.Machine.{asked, request_in}
use Rattle.lnfs_operations.specs.Extra.{Extra}
use Rattle.lnfs_slots.specs.OneClient.{When, before_all}
use Rattle.lnfs_retries.specs.Packets.{Setting}
use Rattle.lnfs_retries.specs.Schedule.{ClientState, client_run, client_start, twice}

abbrev Ended : (X : Extra) (m : Signing) (p : Policy) (s : Setting) (level : ℕ) → When → ClientState X m p s level
Ended X m p s level when = client_run X m p s level (twice X m p s level when) (client_start X m p s level (before_all X p))

abbrev Goes : (X : Extra) (m : Signing) (p : Policy) (s : Setting) (level : ℕ) → When → Type 0
Goes X m p s level when = (length (Ended X m p s level when).sent ≡ 2) × (length (Ended X m p s level when).given ≡ 2) × ((Ended X m p s level when).client.sent ≡ 1)

pub sent_twice : (X : Extra) (m : Signing) (p : Policy) (s : Setting) (level : ℕ) (when : When) (who : Identity) → Goes X m p (record s { who = who }) level when
unfolding asked request_in
sent_twice X m p s level when (Guest uid) = (refl, refl, refl)
sent_twice X m p s level when (Full number) = (refl, refl, refl)
