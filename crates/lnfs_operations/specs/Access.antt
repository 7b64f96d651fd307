-- ACCESS (RFC 8881 section 18.1): what the rules of labels allow, never refused.
use Rattle.std.specs.Prelude.{ℕ, cond, [], bit_and, bit_or}
use Rattle.lnfs_world.specs.World.{Node}
use Rattle.lnfs_world.specs.Outcome.{Site, Place, Act}
use Rattle.lnfs_monitor.specs.Rules.{Read, Write, allows}
use Rattle.lnfs_operations.specs.declared.numbers.TheConstants.{ACCESS_READING, ACCESS_WRITING}
use Rattle.lnfs_operations.specs.Chain.{Answer, done}
use Rattle.lnfs_operations.specs.Handles.{with_current}

pub record Granted : Type 0 where
  -- those of the asked bits that are told of, and those of them that are allowed
  pub supported : ℕ
  pub granted : ℕ

-- READ, LOOKUP and EXECUTE by the rule for reading; MODIFY, EXTEND and DELETE by that for writing
abbrev pub allowed_bits : Site → Place → Node → ℕ
allowed_bits site p n = bit_or (cond (allows site.dom p.subject (Read n.label)) ACCESS_READING 0) (cond (allows site.dom p.subject (Write n.label)) ACCESS_WRITING 0)

abbrev pub access : Site → (bits : ℕ) → Act (Answer Granted)
access site bits p w =
    with_current p w (λ n. done p (record {
      supported = bit_and bits (bit_or ACCESS_READING ACCESS_WRITING);
      granted = bit_and bits (allowed_bits site p n);
    }) [])
