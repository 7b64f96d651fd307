-- What a limited policy says of callers and of lines: where the clients enforce, labels are carried alone.
use Rattle.std.specs.Prelude.{◌≡◌, ◌==◌, ◌⊎◌, false, Option, Ok, IfSome}
use Rattle.lnfs_xdr.specs.declared.flavors.TheConstants.{AUTH_NONE, AUTH_SYS}
use Rattle.lnfs_rpc.specs.declared.authsys.Sys.{Sys}
use Rattle.lnfs_rpc.specs.Calls.{CallMessage}
use Rattle.lnfs_rpc.specs.Sys.{sys_of}
use Rattle.lnfs_monitor.specs.declared.rule.Rule.{Rule}
use Rattle.lnfs_monitor.specs.declared.rule.Rule.TheVariants.{M9}
use Rattle.lnfs_gss3.specs.declared.numbers.TheConstants.{PROC_NULL}
use Rattle.lnfs_step.specs.Step.{Line, rule_name}

-- A call of a guest, other than NULL: by AUTH_NONE, or by AUTH_SYS with a body that is one (RFC 5531 section 14).
abbrev pub IsGuestCall : CallMessage → Type 0
IsGuestCall call =
    ((call.procedure == PROC_NULL) ≡ false)
    × ((call.credential.flavor ≡ AUTH_NONE) ⊎ ((call.credential.flavor ≡ AUTH_SYS) × ((sys : Sys) × (sys_of call.credential.body ≡ Ok sys))))

-- No line bears a rule of labels but M9.
abbrev pub BearsNoRule : Option Line → Type 0
BearsNoRule line = IfSome line (λ l. (r : Rule) → l.gate ≡ rule_name r → r ≡ M9)
