-- What is known of a call that was written.
use Rattle.std.specs.Prelude.{◌≡◌, ◌<◌, ◌^◌, ℕ, List, Bool, true, Option, Some, option_map}
use Rattle.lnfs_rpc.specs.Calls.{CallMessage}
use Rattle.lnfs_rpc.specs.CallGrammar.{IsCall}
use Rattle.lnfs_policy.specs.declared.mode.Mode.TheVariants.{Enforcing}
use Rattle.lnfs_policy.specs.declared.rows.Parent.{Parent}
use Rattle.lnfs_policy.specs.Policy.{Policy, parent_at}
use Rattle.lnfs_gss3.specs.declared.caller.Caller.{Caller}
use Rattle.lnfs_gss3.specs.Mechanism.{Signing}
use Rattle.lnfs_gss3.specs.Grammar.{Body, body}
use Rattle.lnfs_gss3.specs.Who.{who}

-- The signatures that are made are good ones.
abbrev pub Accepts : Signing → Type 0
Accepts m = (parent : Parent) (covered : List ℕ) → m.good parent covered (m.mic_of parent covered) ≡ true

-- Labels are asserted at the site, and this is one of its parents.
pub record IsParentOf (p : Policy) (parent : Parent) : Type 0 where
  pub mode : p.mode ≡ Enforcing
  pub known : parent_at p parent.number ≡ Some parent
  pub number : parent.number < 2 ^ 32

-- The record is a call, and from this caller, whatever the class of its link is.
pub record IsFrom (m : Signing) (p : Policy) (caller : Caller) (message : List ℕ) : Type 0 where
  pub call : CallMessage
  pub call_is : IsCall call message
  pub from : (class : ℕ) → who m p class call ≡ caller

-- And these are the arguments proper in its signed body.
pub record IsAskedBy (m : Signing) (p : Policy) (caller : Caller) (arguments : List ℕ) (message : List ℕ) : Type 0 where
  pub call : CallMessage
  pub call_is : IsCall call message
  pub from : (class : ℕ) → who m p class call ≡ caller
  pub asked : option_map (λ (b : Body). b.content) (body call.arguments) ≡ Some arguments
