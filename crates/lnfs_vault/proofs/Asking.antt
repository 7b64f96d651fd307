-- What a record asks was read, and who asks is of a level of the site.
use Rattle.std.proofs.Common.{◌≡◌, ℕ, true, List, ap, sym, ◌∙◌, subst}
use Rattle.lnfs_arguments.specs.Further.{Further}
use Rattle.lnfs_policy.specs.Policy.{Policy}
use Rattle.lnfs_policy.specs.PolicyText.{IsPolicy}
use Rattle.lnfs_gss3.specs.Mechanism.{Signing}
use Rattle.lnfs_site.specs.Site.{site_of}
use Rattle.lnfs_operations.specs.Sizes.{is_level}
use Rattle.lnfs_step.specs.Request.{Call, Task, Garbled, Run, MakeContext, EndContext, Request, Silent, Refused, Nothing, Asked, request_with}
use Rattle.lnfs_step.proofs.Compounds.{compound_read}
use Rattle.lnfs_step.proofs.Requests as step
use Rattle.lnfs_step.proofs.SiteLevels.{event_level}
use Rattle.lnfs_vault.specs.Requests.{IsTask, IsAsked}

task_is : (g : Further) (t : Task) → step.IsTask g t → IsTask t
task_is g Garbled is = tt
task_is g (Run arguments c) is = compound_read g arguments c is
task_is g (MakeContext parent assertion) is = is
task_is g (EndContext number) is = tt

request_is : (g : Further) (r : Request) → step.Reads g r → IsAsked r
request_is g Silent is = tt
request_is g (Refused xid w cause) is = tt
request_is g (Nothing xid) is = tt
request_is g (Asked call task) is = task_is g task is

pub is_asked : (g : Further) (m : Signing) (p : Policy) (class : ℕ) (bytes : List ℕ) (r : Request) → r ≡ request_with g m p class bytes → IsAsked r
is_asked g m p class bytes r same = subst IsAsked (sym same) (request_is g (request_with g m p class bytes) (step.request_reads g m p class bytes))

pub asked_level : (g : Further) (m : Signing) (p : Policy) → IsPolicy p → (class : ℕ) (bytes : List ℕ) (call : Call) (task : Task) → Asked call task ≡ request_with g m p class bytes → is_level (site_of p) call.level ≡ true
asked_level g m p spelled class bytes call task is = event_level p p.text spelled m class bytes call.level (sym (step.request_level g m p class bytes) ∙ ap step.level_in (sym is))
