-- What stands where a further operation stands.
use Rattle.std.proofs.Common.{◌≡◌, ℕ, Bool, true, false, ◌&&◌}
use Rattle.lnfs_world.specs.World.{World}
use Rattle.lnfs_world.specs.Outcome.{Place, Stands, may_hold, serves_client, serves_session}
use Rattle.lnfs_operations.specs.Extra.{spot_of, place_at}

-- what stands of a place and a world stands of that place in no session
pub stands_at : {dom : ℕ → ℕ → Bool} (p : Place) (w : World) → Stands dom p w → Stands dom (place_at (spot_of p)) w
stands_at {dom = dom} p w stands = record {
  facts = stands.facts;
  place = outside (serves_client p.subject p.client w) (serves_session p.subject p.client p.session w) (may_hold dom p.subject p.current && may_hold dom p.subject p.saved) stands.place;
}
  where
    outside : (client session handles : Bool) → (client && (session && handles)) ≡ true → (client && (true && handles)) ≡ true
    outside true true handles is = is
    outside true false handles is = absurd (cc)
    outside false session handles is = is
