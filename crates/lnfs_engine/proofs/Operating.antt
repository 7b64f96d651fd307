-- An operation behind its tests of place and room.
use Rattle.std.proofs.Common.{◌≡◌, ℕ, Bool, true, false, cond, List, Option, Some, None, refl, sym, ap, ◌∙◌}
use Rattle.lnfs_arguments.specs.declared.types.Op.{Op}
use Rattle.lnfs_arguments.specs.declared.types.Op.TheVariants as ops
use Rattle.lnfs_arguments.specs.declared.types.Compound.{Compound}
use Rattle.lnfs_results.specs.declared.types.OpResult.{OpResult}
use Rattle.lnfs_world.specs.World.{World}
use Rattle.lnfs_world.specs.Outcome.{Site, Place}
use Rattle.lnfs_world.specs.Lawful.{Turn, Deed, deed_of}
use Rattle.lnfs_world.specs.Both.{Both, both, on_world}
use Rattle.lnfs_operations.specs.Chain.{Refusal}
use Rattle.lnfs_operations.specs.Extra.{Extra, further_deed}
use Rattle.lnfs_operations.specs.Sequence.{Sent}
use Rattle.lnfs_operations.specs.Admission.{admission}
use Rattle.lnfs_operations.specs.Served.{Reply, failure, row, further_reply, row_in, admitted, operation}
use Rattle.lnfs_engine.specs.declared.place.Keeper as code
use Rattle.lnfs_engine.specs.declared.reply.Came.{Came}
use Rattle.lnfs_engine.specs.Places.{further_in}
use Rattle.lnfs_engine.specs.Performs.{turn, Performs}

-- of two, the one that is told by what a test tells
is_first : {A : Type 0} (b : Bool) (x y : A) (f told : ℕ × List ℕ) → Some told ≡ cond b (Some f) None → (cond b x y ≡ x) × (f ≡ told)
is_first true x y f told is = (refl, cc)
is_first false x y f told is = absurd (cc)

is_other : {A : Type 0} (b : Bool) (x y : A) (f : ℕ × List ℕ) → None ≡ cond b (Some f) None → cond b x y ≡ y
is_other true x y f is = absurd (cc)
is_other false x y f is = refl

module _ (X : Extra) (site : Site) (sent : Sent) where
  -- one of the table
  pub own_row : (o : Op) (p : Place) (b : Both X.Row) → None ≡ further_in X.grammar o → row_in X site sent o p b ≡ on_world (deed_of (row site sent o)) p b
  own_row (ops.Extra number arguments) p b is = ap (λ (deed : Deed Reply (Both X.Row)). deed p b) (is_other (X.grammar.serves number) (further_reply number (further_deed X site number arguments)) (on_world (deed_of (row site sent (ops.Extra number arguments)))) (number, arguments) is)
  own_row o p b is = refl

  -- a further one
  pub further_row : (o : Op) (n : ℕ) (args : List ℕ) (p : Place) (b : Both X.Row) → Some (n, args) ≡ further_in X.grammar o → row_in X site sent o p b ≡ further_reply n (further_deed X site n args) p b
  further_row (ops.Extra number arguments) n args p b is =
      let f = is_first (X.grammar.serves number) (further_reply number (further_deed X site number arguments)) (on_world (deed_of (row site sent (ops.Extra number arguments)))) (number, arguments) (n, args) is in
      ap (λ (deed : Deed Reply (Both X.Row)). deed p b) f.0 ∙ ap (λ (told : ℕ × List ℕ). further_reply told.0 (further_deed X site told.0 told.1) p b) f.1
  further_row o n args p b is = absurd (cc)

  module _ (c : Compound) (so_far : List OpResult) (op : Op) (p : Place) (b : Both X.Row) where
    abbrev after : Option Refusal → Turn Reply (Both X.Row)
    after refused = admitted op p b refused (row_in X site sent op p b)

    pub runs : None ≡ admission X.grammar c so_far op p b.world → operation X site sent c so_far op p b ≡ row_in X site sent op p b
    runs is = ap after (sym is)

    pub fails : (why : Refusal) → Some why ≡ admission X.grammar c so_far op p b.world → operation X site sent c so_far op p b ≡ record { answer = failure op why; place = p; state = b }
    fails why is = ap after (sym is)

-- an operation of the table leaves the rows beside
pub lifted : {Row : Type 0} (begin : ℕ) (old new : List ℕ) (here next : code.Keeper) (at : Place) (site : Site) (sent : Sent) (op : Op) (p : Place) (w v : World) (rows : List Row) (came : Came) →
    Performs begin old new here next at v (turn site sent op p w) came → Performs begin old new here next at (both v rows) (on_world (deed_of (row site sent op)) p (both w rows)) came
lifted begin old new here next at site sent op p w v rows came did = record {
  place_is = did.place_is;
  state = ap (λ (x : World). both x rows) did.state;
  keeper = did.keeper;
  says = did.says;
}
