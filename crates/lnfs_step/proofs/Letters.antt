-- Each gate has a name of its own in a line.
use Rattle.std.proofs.Common.{◌≡◌, ℕ, List, refl, sym, ap, ◌∙◌}
use Rattle.std.specs.Prelude.{codes, if◌then◌else◌}
use Rattle.std.specs.Str.{bytes_eq}
use Rattle.lnfs_monitor.specs.declared.rule.Rule.TheVariants as rules
use Rattle.lnfs_operations.specs.declared.Gate.{Gate}
use Rattle.lnfs_operations.specs.declared.Gate.TheVariants.{Session, Room, Argument, Outside, Namespace, Monitor, Open, Quota}
use Rattle.lnfs_step.specs.Step.{letter}

-- the gate of a name
abbrev gate_of : List ℕ → Gate
gate_of name =
    if bytes_eq name (codes "S") then Session else
    if bytes_eq name (codes "R") then Room else
    if bytes_eq name (codes "A") then Argument else
    if bytes_eq name (codes "X") then Outside else
    if bytes_eq name (codes "N") then Namespace else
    if bytes_eq name (codes "O") then Open else
    if bytes_eq name (codes "Q") then Quota else
    if bytes_eq name (codes "M1") then Monitor rules.M1 else
    if bytes_eq name (codes "M2") then Monitor rules.M2 else
    if bytes_eq name (codes "M3") then Monitor rules.M3 else
    if bytes_eq name (codes "M4") then Monitor rules.M4 else
    if bytes_eq name (codes "M5") then Monitor rules.M5 else
    if bytes_eq name (codes "M6") then Monitor rules.M6 else
    if bytes_eq name (codes "M7") then Monitor rules.M7 else
    if bytes_eq name (codes "M8") then Monitor rules.M8 else
    Monitor rules.M9

gate_named : (gate : Gate) → gate_of (letter gate) ≡ gate
gate_named Session = refl
gate_named Room = refl
gate_named Argument = refl
gate_named Outside = refl
gate_named Namespace = refl
gate_named (Monitor rules.M1) = refl
gate_named (Monitor rules.M2) = refl
gate_named (Monitor rules.M3) = refl
gate_named (Monitor rules.M4) = refl
gate_named (Monitor rules.M5) = refl
gate_named (Monitor rules.M6) = refl
gate_named (Monitor rules.M7) = refl
gate_named (Monitor rules.M8) = refl
gate_named (Monitor rules.M9) = refl
gate_named Open = refl
gate_named Quota = refl

pub same_gate : (a b : Gate) → letter a ≡ letter b → a ≡ b
same_gate a b same = sym (gate_named a) ∙ ap gate_of same ∙ gate_named b
