-- All laws that a server owes, and the law over schedules.
use Rattle.std.proofs.Common.{◌≡◌, ◌+◌, true, false, List, Some, refl, arith}
use Rattle.lnfs_calipso.specs.Label.{IsPreorderWithBottom}
use Rattle.lnfs_policy.specs.Policy.{Policy, dominance}
use Rattle.lnfs_operations.specs.Extra.{Extra, AreLawful}
use Rattle.lnfs_gss3.specs.Mechanism.{Signing}
use Rattle.lnfs_once.specs.Client.{Kind, Assert, Exchange, Create, Compound, Destroy, Leave, End, Packet}
use Rattle.lnfs_once.specs.Laws.{has_slot, slot_of, IsPlain, IsNew, Comes, IsLawful}
use Rattle.lnfs_once.specs.Schedule.{Turn, ActsOnce, run, start}
use Rattle.lnfs_once.specs.Machine.{Machine, IsMachine, MachineTurn, viewed, machine_run, machine_start}
use Rattle.lnfs_once.proofs.Turns.{acts_once}
use Rattle.lnfs_once.proofs.Machines.{machine_acts_once}
use Rattle.lnfs_slots.specs.OneClient.{Seen, When, Row, Writer, before_all, serve, step_server, rows}
use Rattle.lnfs_slots.specs.Written.{IsWriter}
use Rattle.lnfs_slots.proofs.First.{bare}
use Rattle.lnfs_slots.proofs.OnSlots.{standing, compound_new, create_new}
use Rattle.lnfs_slots.proofs.OtherEvents.{others_apart}
use Rattle.lnfs_slots.proofs.PlainAssert.{plain_assert}
use Rattle.lnfs_slots.proofs.PlainDestroy.{plain_destroy}
use Rattle.lnfs_slots.proofs.PlainEnd.{plain_end}
use Rattle.lnfs_slots.proofs.PlainExchange.{plain_exchange}
use Rattle.lnfs_slots.proofs.PlainLeave.{plain_leave}

module _ (X : Extra) (owed : AreLawful X) (m : Signing) (p : Policy) (lattice : IsPreorderWithBottom (dominance p)) {A : Type 0} (w : Writer A) (written : IsWriter X m p w) where
  plain_at : (v : Seen X) (at : When) (q : Packet A) → Comes (rows X m p w) v q → (k : Kind) → q.kind ≡ k → has_slot k ≡ false → IsPlain (rows X m p w) v q (serve X m p w v at q)
  plain_at v at q came Assert kind plain = plain_assert X owed m p lattice w v at q kind (written.assert q came.suits kind) came
  plain_at v at q came Exchange kind plain = plain_exchange X owed m p lattice w v at q kind (written.exchange q came.suits kind) came
  plain_at v at q came Create kind plain = absurd (grind arith)
  plain_at v at q came Compound kind plain = absurd (grind arith)
  plain_at v at q came Destroy kind plain = plain_destroy X owed m p lattice w v at q kind (written.destroy q came.suits kind) came
  plain_at v at q came Leave kind plain = plain_leave X owed m p lattice w v at q kind (written.leave q came.suits kind) came
  plain_at v at q came End kind plain = plain_end X owed m p lattice w v at q kind (written.end_ q came.suits kind) came

  new_at : (v : Seen X) (at : When) (q : Packet A) (x : Row) → Comes (rows X m p w) v q → (k : Kind) → q.kind ≡ k → has_slot k ≡ true → slot_of (rows X m p w) v q.kind q.place ≡ Some x → q.sequence ≡ x.last + 1 → IsNew (rows X m p w) v q (serve X m p w v at q)
  new_at v at q x came Assert kind slotted is next = absurd (grind arith)
  new_at v at q x came Exchange kind slotted is next = absurd (grind arith)
  new_at v at q x came Create kind slotted is next = create_new X owed m p lattice w written v at q x came kind is next
  new_at v at q x came Compound kind slotted is next = compound_new X owed m p lattice w written v at q x came kind is next
  new_at v at q x came Destroy kind slotted is next = absurd (grind arith)
  new_at v at q x came Leave kind slotted is next = absurd (grind arith)
  new_at v at q x came End kind slotted is next = absurd (grind arith)

  pub lawful : IsLawful (rows X m p w)
  lawful = record {
    plain = λ v at q came plain. plain_at v at q came q.kind refl plain;
    lost = (standing X m p w written).lost;
    refused = written.lost;
    stale = (standing X m p w written).stale;
    retry = (standing X m p w written).retry;
    due = λ v at q x came slotted is next. new_at v at q x came q.kind refl slotted is next;
    others = others_apart X owed m p lattice w;
    zero = (standing X m p w written).zero;
  }

  -- so each request acts at most once, over every schedule from the first state on
  pub acts : (turns : List (Turn (step_server X m p w))) → ActsOnce (step_server X m p w) (run (step_server X m p w) turns (start (step_server X m p w) (before_all X p)))
  acts turns = acts_once (rows X m p w) lawful (before_all X p) (bare X owed m p lattice w) turns

  -- and so does each request of a machine
  pub machine_acts : (M : Machine (step_server X m p w)) → IsMachine (rows X m p w) M → (turns : List (MachineTurn M)) → ActsOnce (step_server X m p w) (viewed M (machine_run M turns (machine_start M (before_all X p))))
  machine_acts M machine turns = machine_acts_once (rows X m p w) lawful M machine (before_all X p) (bare X owed m p lattice w) turns
