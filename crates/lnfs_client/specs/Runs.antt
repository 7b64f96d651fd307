-- What a client does over time: whatever actions begin, whenever requests are made, whatever records come.
use Rattle.std.specs.Prelude.{ℕ, ◌<◌, Bool, ◌&&◌, ◌||◌, List, [], ◌∷◌, ◌++◌, length, map, is_none, nat_lt, if◌then◌else◌}
use Rattle.lnfs_policy.specs.Policy.{Policy}
use Rattle.lnfs_gss3.specs.Mechanism.{Signing}
use Rattle.lnfs_answers.specs.declared.types.Told.{Told}
use Rattle.lnfs_script.specs.declared.action.Action.{Action}
use Rattle.lnfs_script.specs.declared.identity.Identity.{Identity}
use Rattle.lnfs_script.specs.Fits.{ActionSuits, IdentitySuits}
use Rattle.lnfs_client.specs.declared.known.Known.{Known}
use Rattle.lnfs_client.specs.declared.answer.Shown.{Shown}
use Rattle.lnfs_client.specs.Told.{last_in, entries_of, shown_as}
use Rattle.lnfs_client.specs.Machine.{begun, is_mount, asked, turn}
use Rattle.lnfs_client.specs.Promises.{IsJudged}

pub data Deed : Type 0 where
  begins : (action : Action) → Deed
  asks : Deed
  takes : (bytes : List ℕ) → Deed

abbrev pub may_begin : Known → Action → Bool
may_begin k action = is_none k.running && (is_mount action || k.mounted)

-- the most requests of a client
abbrev pub most_requests : ℕ
most_requests = 4294967295

-- what can't be done changes nothing
abbrev pub after : Signing → Policy → Known → Deed → Known
after m p k (begins action) = if may_begin k action then begun action k else k
after m p k asks = if nat_lt k.sent most_requests then asked m p k else k
after m p k (takes bytes) = (turn m p k bytes).client

-- the client after all of them
unfoldable pub run : Signing → Policy → Known → List Deed → Known
run m p k [] = k
run m p k (deed ∷ deeds) = run m p (after m p k deed) deeds

-- the levels of the actions are the policy's
abbrev pub DeedSuits : Policy → Deed → Type 0
DeedSuits p (begins action) = ActionSuits p action
DeedSuits p asks = Unit {0}
DeedSuits p (takes bytes) = Unit {0}

abbrev pub DeedsSuit : Policy → List Deed → Type 0
DeedsSuit p [] = Unit {0}
DeedsSuit p (deed ∷ deeds) = DeedSuits p deed × DeedsSuit p deeds

pub record MayStart (p : Policy) (level : ℕ) (who : Identity) : Type 0 where
  pub level_is : level < length p.labels
  pub identity : IdentitySuits p who

-- Entries come of records of a run, one after the other, each of which was judged by its own label.
pub data AreJudged (m : Signing) (p : Policy) (start : Known) : List Shown → Type 0 where
  nothing : AreJudged m p start []
  further : (before : List Shown) → AreJudged m p start before →
      (deeds : List Deed) (bytes : List ℕ) (rs : List Told) → IsJudged m p (run m p start deeds) bytes rs →
      AreJudged m p start (before ++ map (shown_as p) (entries_of (last_in rs)))
