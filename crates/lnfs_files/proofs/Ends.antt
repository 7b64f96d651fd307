-- Opens that end, and what refuses it.
use Rattle.std.proofs.Common.{◌≡◌, refl, ap, sym, subst, ◌∙◌, true, false, not, [], ◌∷◌, Option, Some, None, Result, Ok, Err}
use Rattle.std.specs.Prelude.{IsErrAnd, is_some}
use Rattle.std.specs.Option.{option_map}
use Rattle.lnfs_world.specs.World.{Open, World}
use Rattle.lnfs_world.specs.Change.{EndOpen}
use Rattle.lnfs_world.specs.Outcome.{Place, Outcome}
use Rattle.lnfs_operations.specs.declared.Refusal.{Refusal}
use Rattle.lnfs_operations.specs.Chain.{Answer, refuse, done}
use Rattle.lnfs_operations.specs.StateIds as operation
use Rattle.lnfs_tree.specs.Rows.{Rows}
use Rattle.lnfs_open.specs.Lists.{Lists}
use Rattle.lnfs_open.specs.Opening.{Ends, ended_of}
use Rattle.lnfs_open.specs.declared.keys.OpenError.{OpenError}
use Rattle.lnfs_nodes.specs.Trees.{answered, stays}
use Rattle.lnfs_nodes.specs.Acts.{failed}
use Rattle.lnfs_files.specs.declared.state_ids.Special.{Special}
use Rattle.lnfs_files.specs.Worlds.{with_files}
use Rattle.lnfs_files.specs.Tests.{tested}
use Rattle.lnfs_files.specs.Uses.{special_of, refusal_by}
use Rattle.lnfs_files.specs.Acts.{Succeeds, Refuses, Acts}

-- a refusal that `?` hands on
pub err_acts : {A R : Type 0} (told : A → R) (at : Place) (rest : World) (t0 t1 : Rows) (s0 s1 : Lists) (o : Outcome (Answer R)) (r : Result A Refusal) (why : Refusal) → IsErrAnd r (λ e. e ≡ why) → Refuses why at t0 t1 s0 s1 o → Acts told at rest t0 t1 s0 s1 o r
err_acts told at rest t0 t1 s0 s1 o (Ok a) why is refuses = absurd is
err_acts told at rest t0 t1 s0 s1 o (Err e) why is refuses = subst (λ (x : Refusal). Refuses x at t0 t1 s0 s1 o) (sym is) refuses

abbrev ended_by : Place → Result Open OpenError → Outcome (Answer (Unit {0}))
ended_by at (Ok o) = done at tt (EndOpen o.id ∷ [])
ended_by at (Err e) = refuse at (refusal_by e).gate (refusal_by e).status

-- the open that was found ends
pub ended : (at : Place) (rest : World) (t : Rows) (s0 s1 : Lists) (found : Result Open OpenError) (o : Outcome (Answer (Unit {0}))) → o ≡ ended_by at found → Ends (Ok tt) found → s1 ≡ ended_of found s0 → Succeeds tt at rest t t s0 s1 o
ended at rest t s0 s1 (Ok x) o is ends lists =
    subst (λ (o : Outcome (Answer (Unit {0}))). Succeeds tt at rest t t s0 s1 o) (sym is) (record { answer = refl; place = refl; world = ap (with_files rest t) (sym lists) })
ended at rest t s0 s1 (Err e) o is ends lists = absurd ends

-- a state id that has no meaning of its own
pub no_meaning : (m : Option Special) (x : Option operation.Special) → option_map special_of m ≡ x → is_some m ≡ false → not (is_some x) ≡ true
no_meaning m x e none = ap (λ (y : Option operation.Special). not (is_some y)) (sym e) ∙ at m none
  where
    at : (m : Option Special) → is_some m ≡ false → not (is_some (option_map special_of m)) ≡ true
    at None none = refl
    at (Some s) none = cc

-- nothing is done behind a test
pub stays_tested : (p : Place) (r : Result (Unit {0}) Refusal) → tested p (failed r) (done p tt []) ≡ stays p (answered (λ (it : Unit {0}). it) r)
stays_tested p (Ok it) = refl
stays_tested p (Err why) = refl

pub err_stays : {A R : Type 0} (told : A → R) (p : Place) (r : Result A Refusal) (why : Refusal) → IsErrAnd r (λ e. e ≡ why) → refuse p why.gate why.status ≡ stays p (answered told r)
err_stays told p (Ok a) why is = absurd is
err_stays told p (Err e) why is = ap (λ (x : Refusal). refuse p x.gate x.status) (sym is)
