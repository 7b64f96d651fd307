-- Further operations beside those of the table, and what they owe.
use Rattle.std.specs.Prelude.{◌≡◌, ◌≢◌, ◌≤◌, ◌+◌, ◌⊎◌, ℕ, Bool, true, false, List, [], length, Option, Some, None, is_some}
use Rattle.lnfs_types.specs.declared.event.Moment.{Moment}
use Rattle.lnfs_calipso.specs.Label.{IsPreorderWithBottom}
use Rattle.lnfs_arguments.specs.declared.statuses.TheConstants.{NFS4ERR_NOTSUPP}
use Rattle.lnfs_arguments.specs.Further.{Further, nothing_further}
use Rattle.lnfs_world.specs.World.{Id, World, label_at, is_given}
use Rattle.lnfs_world.specs.Outcome.{Site, Place}
use Rattle.lnfs_world.specs.Tame.{Tame}
use Rattle.lnfs_world.specs.Lawful.{Turn, Deed, Lawful}
use Rattle.lnfs_world.specs.Both.{Both, both_seen, BothStand}
use Rattle.lnfs_operations.specs.declared.Gate.TheVariants.{Outside}
use Rattle.lnfs_operations.specs.Chain.{Refusal}
use Rattle.lnfs_operations.specs.Sizes.{is_level, LabelsFit}
use Rattle.lnfs_operations.specs.Bounds.{Bounds}

-- what a further operation says: what refused it, if anything did, and the bytes behind its status
pub record Said : Type 0 where
  pub refusal : Option Refusal
  pub bytes : List ℕ

-- Where a further operation stands, and all that it may look at of its place: who asks, and when; the client under which it
-- came, a number of the subject's level; and the two file handles. In which session it came isn't told.
pub record Spot : Type 0 where
  pub subject : ℕ
  pub moment : Moment
  pub client : Option ℕ
  pub current : Option Id
  pub saved : Option Id

-- What it comes to: what it says, and the two file handles and the state afterwards. All else of its place stays.
pub record After (S : Type 0) : Type 0 where
  pub said : Said
  pub current : Option Id
  pub saved : Option Id
  pub state : S

-- Rows of a level each, the outcome of an operation by its number and its arguments, and a fact.
pub record Extra : Type 1 where
  pub grammar : Further
  pub Row : Type 0
  pub level_of : Row → ℕ
  pub outcome : Site → (number : ℕ) (arguments : List ℕ) → Spot → Both Row → After (Both Row)
  pub Fact : World → List Row → Type 0

-- ---- at a place of a COMPOUND

abbrev pub spot_of : Place → Spot
spot_of p = record { subject = p.subject; moment = p.moment; client = p.client; current = p.current; saved = p.saved }

-- a place there, in no session
abbrev pub place_at : Spot → Place
place_at at = record { subject = at.subject; moment = at.moment; client = at.client; session = None; current = at.current; saved = at.saved }

abbrev pub turned : {S : Type 0} → Place → After S → Turn Said S
turned p after = record { answer = after.said; place = record p { current = after.current; saved = after.saved }; state = after.state }

abbrev pub further_deed : (X : Extra) → Site → (number : ℕ) (arguments : List ℕ) → Deed Said (Both X.Row)
further_deed X site number arguments p a = turned p (X.outcome site number arguments (spot_of p) a)

-- ---- what is owed

-- What stays of a world: clients, sessions and contexts, their last numbers, and each label. A new node has an
-- identifier that wasn't given before.
pub record Untouched (a b : World) : Type 0 where
  pub clients : b.clients ≡ a.clients
  pub sessions : b.sessions ≡ a.sessions
  pub contexts : b.contexts ≡ a.contexts
  pub last_clients : b.lasts.clients ≡ a.lasts.clients
  pub last_sessions : b.lasts.sessions ≡ a.lasts.sessions
  pub last_contexts : b.lasts.contexts ≡ a.lasts.contexts
  pub labels : (i : Id) (l m : ℕ) → label_at a.nodes i ≡ Some l → label_at b.nodes i ≡ Some m → m ≡ l
  pub new : (i : Id) (m : ℕ) → label_at a.nodes i ≡ None → label_at b.nodes i ≡ Some m → is_given a.lasts.nodes i ≡ false

-- a file handle is unchanged, or names a node whose home the subject dominates
abbrev pub MayBecome : (ℕ → ℕ → Bool) → ℕ → World → Option Id → Option Id → Type 0
MayBecome dom s w before after =
    (after ≡ before) ⊎ ((i : Id) × (after ≡ Some i) × (dom s i.level ≡ true) × (is_some (label_at w.nodes i) ≡ true))

-- what the file handles of a place become
pub record IsMoved (dom : ℕ → ℕ → Bool) (w : World) (p q : Place) : Type 0 where
  pub current : MayBecome dom p.subject w p.current q.current
  pub saved : MayBecome dom p.subject w p.saved q.saved

-- a refusal has a status other than 0, and leaves place and state
abbrev pub IsRefused : {S : Type 0} → Place → S → Turn Said S → Option Refusal → Type 0
IsRefused p a t None = Unit {0}
IsRefused p a t (Some why) = (why.status ≢ 0) × (t.place ≡ p) × (t.state ≡ a)

-- What one operation does, beside the laws of erasure.
pub record IsTame (X : Extra) (site : Site) (room : ℕ) (p : Place) (a : Both X.Row) (t : Turn Said (Both X.Row)) : Type 0 where
  pub untouched : Untouched a.world t.state.world
  pub tame : Tame a.world t.state.world
  -- rows keep their bounds, where the subject is of a level of the site
  pub bounds : LabelsFit site → is_level site p.subject ≡ true → Bounds site a.world → Bounds site t.state.world
  pub moved : IsMoved site.dom t.state.world p t.place
  pub refused : IsRefused p a t t.answer.refusal
  -- with its number and its status the result is within its bound
  pub bound : length t.answer.bytes + 8 ≤ room

pub record AreLawful (X : Extra) : Type 0 where
  -- the fact holds where there are no own rows, and bears every tame change of the world
  pub begins : (w : World) → X.Fact w []
  pub bears : (a b : World) (rows : List X.Row) → Tame a b → X.Fact a rows → X.Fact b rows
  -- both laws of erasure, and what has to stand stands afterwards
  pub laws : (site : Site) → IsPreorderWithBottom site.dom → (number : ℕ) (arguments : List ℕ) →
      Lawful site.dom (both_seen X.level_of site.dom) (BothStand X.Fact site.dom) (further_deed X site number arguments)
  pub tame : (site : Site) → IsPreorderWithBottom site.dom → (number : ℕ) (arguments : List ℕ) (p : Place) (a : Both X.Row) →
      BothStand X.Fact site.dom p a → IsTame X site (X.grammar.bound number arguments) p a (further_deed X site number arguments p a)

-- no further operations, and no rows
abbrev pub no_extra : Extra
no_extra = record {
  grammar = nothing_further;
  Row = ⊥;
  level_of = λ r. 0;
  outcome = λ site number arguments at a. record {
    said = record { refusal = Some (record { gate = Outside; status = NFS4ERR_NOTSUPP }); bytes = [] };
    current = at.current;
    saved = at.saved;
    state = a;
  };
  Fact = λ w rows. Unit {0};
}
