-- What becomes of the labels that are kept of nodes, change by change.
use Rattle.std.proofs.Common.{◌≡◌, ℕ, Bool, true, false, cond, List, [], ◌∷◌, ◌++◌, Option, Some, None, refl, sym, subst, ◌∙◌, arith}
use Rattle.std.specs.Option.{option_map}
use Rattle.std.proofs.lemmas.Bool.Decides.{nat_tests}
use Rattle.lnfs_world.specs.World.{Id, Inner, Stored, Node, Open, World, same_id}
use Rattle.lnfs_world.specs.Change.{Change, AddClient, SetClient, DropClient, AddSession, SetSession, DropSession, AddContext, DropContext, Make, Touch, Relabel, Link, Unlink, Drop, Move, AddOpen, SetOpen, EndOpen, touched, relabelled, apply, apply_all}
use Rattle.lnfs_world.specs.Opens.{ended}
use Rattle.lnfs_world.proofs.Keys.{id_same}
use Rattle.lnfs_world.proofs.Nodes.{told-made, told-dropped}
use Rattle.lnfs_operations.specs.Carried.{stored_at}

-- ---- what is kept of a node, after a change

stored_at-touched : (i : Id) (inner : Inner) (d : Id) (nodes : List Node) → stored_at (touched i inner nodes) d ≡ cond (same_id d i) (option_map (λ _. inner.stored) (stored_at nodes d)) (stored_at nodes d)
stored_at-touched i inner d [] = grind arith
stored_at-touched i inner d (n ∷ nodes) = grind (arith, nat_tests, stored_at-touched i inner d nodes)

stored_at-relabelled : (i : Id) (label : ℕ) (inner : Inner) (d : Id) (nodes : List Node) → stored_at (relabelled i label inner nodes) d ≡ cond (same_id d i) (option_map (λ _. inner.stored) (stored_at nodes d)) (stored_at nodes d)
stored_at-relabelled i label inner d [] = grind arith
stored_at-relabelled i label inner d (n ∷ nodes) = grind (arith, nat_tests, stored_at-relabelled i label inner d nodes)

-- ---- what holds of the label of each node

module _ (Q : Id → Option Stored → Type 0) where
  abbrev pub AllHave : World → Type 0
  AllHave w = (i : Id) (stored : Option Stored) → stored_at w.nodes i ≡ Some stored → Q i stored

  -- of each label that a change keeps
  abbrev pub Gives : Change → Type 0
  Gives (Make node entry) = Q node.id node.inner.stored
  Gives (Touch node inner) = Q node inner.stored
  Gives (Relabel node label inner) = Q node inner.stored
  Gives c = Unit {0}

  abbrev pub AllGive : List Change → Type 0
  AllGive [] = Unit {0}
  AllGive (c ∷ cs) = Gives c × AllGive cs

  -- the label of one node becomes another
  set_have : (i : Id) (new : Option Stored) → Q i new → (d : Id) (before : Option (Option Stored)) → ((stored : Option Stored) → before ≡ Some stored → Q d stored) → (b : Bool) → same_id d i ≡ b →
      (stored : Option Stored) → cond b (option_map (λ _. new) before) before ≡ Some stored → Q d stored
  set_have i new gives d None have true same stored is = absurd (grind arith)
  set_have i new gives d (Some before) have true same stored is =
      let own : new ≡ stored = cc in
      subst (λ s. Q d s) own (subst (λ j. Q j new) (sym (id_same d i same)) gives)
  set_have i new gives d before have false same stored is = have stored is

  made_have : (i : Id) (new : Option Stored) → Q i new → (d : Id) (before : Option (Option Stored)) → ((stored : Option Stored) → before ≡ Some stored → Q d stored) → (b : Bool) → same_id d i ≡ b →
      (stored : Option Stored) → cond b (Some new) before ≡ Some stored → Q d stored
  made_have i new gives d before have true same stored is =
      let own : new ≡ stored = cc in
      subst (λ s. Q d s) own (subst (λ j. Q j new) (sym (id_same d i same)) gives)
  made_have i new gives d before have false same stored is = have stored is

  left_have : (d : Id) (before : Option (Option Stored)) → ((stored : Option Stored) → before ≡ Some stored → Q d stored) → (b : Bool) → (stored : Option Stored) → cond b None before ≡ Some stored → Q d stored
  left_have d before have true stored is = absurd (grind arith)
  left_have d before have false stored is = have stored is

  change_has : (c : Change) (w : World) → Gives c → AllHave w → AllHave (apply c w)
  change_has (Make node entry) w gives have = λ d stored is. made_have node.id node.inner.stored gives d (stored_at w.nodes d) (have d) (same_id d node.id) refl stored (sym (told-made (λ n. n.inner.stored) node d w.nodes) ∙ is)
  change_has (Touch node inner) w gives have = λ d stored is. set_have node inner.stored gives d (stored_at w.nodes d) (have d) (same_id d node) refl stored (sym (stored_at-touched node inner d w.nodes) ∙ is)
  change_has (Relabel node label inner) w gives have = λ d stored is. set_have node inner.stored gives d (stored_at w.nodes d) (have d) (same_id d node) refl stored (sym (stored_at-relabelled node label inner d w.nodes) ∙ is)
  change_has (Drop entry) w gives have = λ d stored is. left_have d (stored_at w.nodes d) (have d) (same_id d entry.node) stored (sym (told-dropped (λ n. n.inner.stored) entry.node d w.nodes) ∙ is)
  change_has (AddClient row) w gives have = have
  change_has (SetClient row) w gives have = have
  change_has (DropClient client) w gives have = have
  change_has (AddSession row) w gives have = have
  change_has (SetSession row) w gives have = have
  change_has (DropSession session) w gives have = have
  change_has (AddContext row) w gives have = have
  change_has (DropContext context) w gives have = have
  change_has (Link entry) w gives have = have
  change_has (Unlink entry) w gives have = have
  change_has (Move entry other) w gives have = have
  change_has (AddOpen row) w gives have = have
  change_has (SetOpen row) w gives have = have
  change_has (EndOpen opening) w gives have = have

  pub changes_have : (cs : List Change) (w : World) → AllGive cs → AllHave w → AllHave (apply_all cs w)
  changes_have [] w gives have = have
  changes_have (c ∷ cs) w gives have = changes_have cs (apply c w) gives.1 (change_has c w gives.0 have)

  -- ---- lists of changes

  pub joined_give : (first then : List Change) → AllGive first → AllGive then → AllGive (first ++ then)
  joined_give [] then a b = b
  joined_give (c ∷ first) then a b = (a.0, joined_give first then a.1 b)

  pub ended_give : (opens : List Open) → AllGive (ended opens)
  ended_give [] = tt
  ended_give (o ∷ opens) = (tt, ended_give opens)
