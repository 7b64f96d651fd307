-- The levels of events, as they are kept.
use Rattle.std.specs.Prelude.{◌≡◌, ◌<◌, ℕ, List, length, map, Option, All, IfSome}
use Rattle.std.specs.Option.{option_map}
use Rattle.lnfs_calipso.specs.declared.Level.{Level}
use Rattle.lnfs_types.specs.declared.event.Event.{Event}
use Rattle.lnfs_policy.specs.Policy.{Policy}
use Rattle.lnfs_gss3.specs.Mechanism.{Signing}
use Rattle.lnfs_step.specs.Level.{level_of}

abbrev pub level_in : Signing → Policy → Event → Option ℕ
level_in m p event = level_of m p event.class event.message

abbrev pub numbered : Option Level → Option ℕ
numbered level = option_map (λ (l : Level). l.0) level

-- a level of the policy, or none
abbrev pub IsKnown : Policy → Option Level → Type 0
IsKnown p level = IfSome level (λ l. l.0 < length p.labels)

-- the levels of the events, each of the policy
pub record AreLevels (m : Signing) (p : Policy) (events : List Event) (levels : List (Option Level)) : Type 0 where
  pub own : map numbered levels ≡ map (level_in m p) events
  pub known : All (IsKnown p) levels
