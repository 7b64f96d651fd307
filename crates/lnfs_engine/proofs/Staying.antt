-- A further operation that ran: what it answers is appended, and where the result of its COMPOUND is kept stays.
use Rattle.std.proofs.Common.{◌≡◌, ℕ, List, Option, refl, sym, subst}
use Rattle.lnfs_world.specs.World.{Id, Session}
use Rattle.lnfs_world.specs.Outcome.{Place}
use Rattle.lnfs_world.specs.Lawful.{Turn}
use Rattle.lnfs_operations.specs.Extra.{Said}
use Rattle.lnfs_operations.specs.Served.{said_reply}
use Rattle.lnfs_engine.specs.declared.place.Keeper as code
use Rattle.lnfs_engine.specs.declared.place.Keeper.TheVariants as keepers
use Rattle.lnfs_engine.specs.declared.reply.Came.{Came}
use Rattle.lnfs_engine.specs.Places.{keeper_of, Stands}
use Rattle.lnfs_engine.specs.Replies.{Says}
use Rattle.lnfs_engine.specs.Performs.{Performs}
use Rattle.lnfs_engine.proofs.Acting.{first_nowhere}

-- at a place with other file handles
pub with_handles : (p : Place) (current saved : Option Id) (sessions : List Session) (keeper : code.Keeper) → Stands p sessions keeper → Stands (record p { current = current; saved = saved }) sessions keeper
with_handles p current saved sessions keepers.Nowhere stands = record { client = stands.client; session = stands.session }
with_handles p current saved sessions (keepers.Client client) stands = record { own = stands.own; outside = record { client = stands.outside.client; session = stands.outside.session } }
with_handles p current saved sessions (keepers.Session s) stands = record { level = stands.level; client_level = stands.client_level; client = stands.client; session = stands.session; room = stands.room }

pub stays : (p : Place) (current saved : Option Id) (before after : List Session) (keeper : code.Keeper) → after ≡ before → Stands p before keeper → Stands (record p { current = current; saved = saved }) after keeper
stays p current saved before after keeper same stands = with_handles p current saved after keeper (subst (λ s. Stands p s keeper) (sym same) stands)

-- one whose outcome is told
abbrev pub further_turn : {S : Type 0} → Said → Place → S → Turn Said S
further_turn said place state = record { answer = said; place = place; state = state }

pub further_performs : {S : Type 0} (begin : ℕ) (old new : List ℕ) (keeper : code.Keeper) (number : ℕ) (said : Said) (next : Place) (after : S) (outcome : Turn Said S) (came : Came) → further_turn said next after ≡ outcome → Says begin old new (said_reply number said) came →
    Performs begin old new keeper keeper next after (record { answer = said_reply number outcome.answer; place = outcome.place; state = outcome.state }) came
further_performs {S = S} begin old new keeper number said next after outcome came is says =
    subst (λ (t : Turn Said S). Performs begin old new keeper keeper next after (record { answer = said_reply number t.answer; place = t.place; state = t.state }) came) is
    (record { place_is = refl; state = refl; keeper = first_nowhere (keeper_of keeper); says = says })
