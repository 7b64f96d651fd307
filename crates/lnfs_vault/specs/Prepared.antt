-- What a record asks, decoded, with all that its reply needs of it.
use Rattle.std.specs.Prelude.{◌≡◌, ℕ, List}
use Rattle.lnfs_arguments.specs.Further.{Further}
use Rattle.lnfs_policy.specs.Policy.{Policy}
use Rattle.lnfs_gss3.specs.Mechanism.{Signing}
use Rattle.lnfs_step.specs.Wrapping.{Wrapping, Plain}
use Rattle.lnfs_step.specs.Request.{Request, Silent, Refused, Nothing, Asked, Task, Garbled, Run, MakeContext, EndContext, request_with}
use Rattle.lnfs_vault.specs.Requests.{seen_asked, IsAsked, IsFormed}
use Rattle.lnfs_vault.specs.Seals.{Seal, seal_of, seen_sealing, results_begun}
use Rattle.lnfs_vault.specs.declared.decode.Prepared.{Prepared}

-- how the reply to a request is wrapped
abbrev pub wrapping_of : Request → Wrapping
wrapping_of Silent = Plain
wrapping_of (Refused xid w cause) = w
wrapping_of (Nothing xid) = Plain
wrapping_of (Asked call task) = call.wrapping

-- the buffer is begun for a task that may have results
abbrev pub BeginsFor : Task → Seal → (xid : ℕ) → (out : List ℕ) → Type 0
BeginsFor Garbled seal xid out = Unit {0}
BeginsFor (Run arguments c) seal xid out = out ≡ results_begun seal xid
BeginsFor (MakeContext parent assertion) seal xid out = out ≡ results_begun seal xid
BeginsFor (EndContext number) seal xid out = Unit {0}

abbrev pub Begins : Request → Seal → (out : List ℕ) → Type 0
Begins (Asked call task) seal out = BeginsFor task seal call.xid out
Begins _ seal out = Unit {0}

-- a record of a class, under a policy
pub record IsPrepared (g : Further) (m : Signing) (p : Policy) (class : ℕ) (bytes : List ℕ) (prepared : Prepared) : Type 0 where
  pub asked : seen_asked prepared.asked ≡ request_with g m p class bytes
  pub read : IsAsked (seen_asked prepared.asked)
  pub form : IsFormed prepared.asked
  pub seal : seen_sealing prepared.sealing ≡ seal_of m (wrapping_of (seen_asked prepared.asked))
  pub begins : Begins (seen_asked prepared.asked) (seen_sealing prepared.sealing) prepared.out
