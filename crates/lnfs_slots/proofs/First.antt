-- Before all events the client has nothing.
use Rattle.std.proofs.Common.{◌≡◌, ◌≤◌, inl, ℕ, Some, None, refl, sym, ◌∙◌, ap, subst, arith}
use Rattle.std.specs.Prelude.{map}
use Rattle.lnfs_calipso.specs.Label.{IsPreorderWithBottom}
use Rattle.lnfs_policy.specs.Policy.{Policy, dominance}
use Rattle.lnfs_world.specs.World.{Id, Client as ClientRow, Session as SessionRow, client_at, session_at, last_of}
use Rattle.lnfs_world.specs.declared.numbers.TheConstants.{LAST_NUMBER}
use Rattle.lnfs_world.proofs.FirstTrees.{IsBare as IsBareWorld, first_bare}
use Rattle.lnfs_operations.specs.Extra.{Extra, AreLawful}
use Rattle.lnfs_gss3.specs.Mechanism.{Signing}
use Rattle.lnfs_site.specs.Site.{first_label, first_dir, first_world}
use Rattle.lnfs_step.proofs.Steps.{first_holds}
use Rattle.lnfs_once.specs.Laws.{Holder, Record, Session, IsBare}
use Rattle.lnfs_slots.specs.OneClient.{Writer, at_level, record_row, session_row, row_of, before_all, IsSound, rows}

world_bare : (p : Policy) → IsBareWorld (first_world p)
unfolding first_world
world_bare p = first_bare (dominance p) (first_label p 0) (map (first_dir p) p.dirs)

module _ (X : Extra) (owed : AreLawful X) (m : Signing) (p : Policy) (lattice : IsPreorderWithBottom (dominance p)) {A : Type 0} (w : Writer A) where
  no_client : (i : Id) → client_at (first_world p).clients i ≡ None
  no_client i = ap (λ cs. client_at cs i) (world_bare p).clients

  no_session : (i : Id) → session_at (first_world p).sessions i ≡ None
  no_session i = ap (λ ss. session_at ss i) (world_bare p).sessions

  never : {B : Type 0} (c : ClientRow) (i : Id) → client_at (first_world p).clients i ≡ Some c → B
  never c i there = let both : Some c ≡ None = sym there ∙ no_client i in absurd cc

  never_session : {B : Type 0} (y : SessionRow) (i : Id) → session_at (first_world p).sessions i ≡ Some y → B
  never_session y i there = let both : Some y ≡ None = sym there ∙ no_session i in absurd cc

  sound : IsSound X m p w (before_all X p)
  sound = record {
    holds = first_holds X owed m p lattice;
    numbers = subst (λ l. last_of w.level l ≤ LAST_NUMBER) (sym (world_bare p).last_clients) (omega arith);
    no_client = no_client (at_level w.level 0);
    no_session = no_session (at_level w.level 0);
    no_context = refl;
    one = λ j k c d c_there d_there c_own d_own. never c (at_level w.level j) c_there;
    verifier = λ n c there own. never c (at_level w.level n) there;
    given = λ c mine. absurd (grind (arith, mine));
    slotted = λ n y there own. never_session y (at_level w.level n) there;
    grants = λ n y there own. never_session y (at_level w.level n) there;
  }

  nothing : (h : Holder) (n : ℕ) → row_of w.owner w.level (first_world p) h n ≡ None
  nothing Record n = ap (record_row w.owner) (no_client (at_level w.level n))
  nothing Session n = ap (session_row w.owner w.level (first_world p)) (no_session (at_level w.level n))

  pub bare : IsBare (rows X m p w) (before_all X p)
  bare = record { good = sound; rows = nothing; met = inl refl }
