-- A COMPOUND that ran, and the keeping of its result.
use Rattle.std.proofs.Common.{◌≡◌, ◌≤◌, ◌+◌, ℕ, List, Option, ◌++◌, length, drop, refl, sym, ap, ◌∙◌, length-append, arith}
use Rattle.std.specs.Prelude.{option_map}
use Rattle.std.proofs.Math.Seq.{drop-append_seam}
use Rattle.lnfs_arguments.specs.declared.types.Compound.{Compound}
use Rattle.lnfs_results.specs.declared.types.OpResult.{OpResult}
use Rattle.lnfs_results.specs.Texts.{head_text}
use Rattle.lnfs_xdr.specs.Canon.{word, opaque}
use Rattle.lnfs_xdr.proofs.Sizes.{length-word}
use Rattle.lnfs_world.specs.World.{Kept}
use Rattle.lnfs_world.specs.Outcome.{Site, Place, done_to}
use Rattle.lnfs_world.specs.Both.{Both, both}
use Rattle.lnfs_operations.specs.Extra.{Extra}
use Rattle.lnfs_operations.specs.Sequence.{Sent}
use Rattle.lnfs_operations.specs.Results.{Denial}
use Rattle.lnfs_operations.specs.Served.{operation}
use Rattle.lnfs_operations.specs.SlotRule.{Ran, run_all, result_of, keep_in, served}
use Rattle.lnfs_engine.specs.declared.place.Keeper as code
use Rattle.lnfs_engine.specs.declared.run.Ended.{Ended}
use Rattle.lnfs_engine.specs.declared.run.Ended.TheVariants as ended
use Rattle.lnfs_engine.specs.Places.{keeper_of}
use Rattle.lnfs_engine.specs.Runs.{denial_of, EndsBy, denied_by}

-- ---- the head

pub head_long : (before tag : List ℕ) (begin : ℕ) → length before ≡ begin → begin + 8 ≤ length (before ++ head_text 0 tag 0)
head_long before tag begin is = omega (arith, is, length-append before (head_text 0 tag 0), length-append (word 0 ++ opaque tag) (word 0), length-append (word 0) (opaque tag), length-word 0)

pub denied_is : (begin : ℕ) (old new : List ℕ) (due : ℕ) (results : List OpResult) (refused : Option Denial) (again : Option (List ℕ)) (e : Ended) → EndsBy begin old new due results refused again e → option_map denial_of (denied_by e) ≡ refused
denied_is begin old new due results refused again (ended.New status count denial) by = by.denied
denied_is begin old new due results refused again ended.Again by = by.denied

-- ---- the whole

pub behind_mark : (before result reply : List ℕ) (begin : ℕ) → length before ≡ begin → reply ≡ before ++ result → drop begin reply ≡ result
behind_mark before result reply begin starts is = ap (drop begin) is ∙ ap (λ n. drop n (before ++ result)) (sym starts) ∙ drop-append_seam before result

module _ (X : Extra) (site : Site) (sent : Sent) (c : Compound) (p : Place) (b : Both X.Row) where
  abbrev pub ran : Ran (Both X.Row)
  ran = run_all (operation X site sent c) c p b

  abbrev pub result : List ℕ
  result = result_of c ran.results ran.again

  pub served_result : result ≡ (served X site sent c p b).answer.result
  unfolding served
  served_result = refl

  pub served_denial : ran.denial ≡ (served X site sent c p b).answer.denial
  unfolding served
  served_denial = refl

  kept_state : both (done_to ran.state.world (keep_in ran.keeper (record { arguments = sent.arguments; reply = result }) ran.place ran.state.world)) ran.state.own ≡ (served X site sent c p b).state
  unfolding served
  kept_state = refl

  -- kept from the place and the state that the code has
  pub served_state : (kept : Kept) (next : code.Keeper) (q : Place) (v : Both X.Row) → kept ≡ record { arguments = sent.arguments; reply = result } → ran.place ≡ q → ran.state ≡ v → ran.keeper ≡ keeper_of next →
      both (done_to v.world (keep_in (keeper_of next) kept q v.world)) v.own ≡ (served X site sent c p b).state
  served_state kept next q v is place state keeper =
      (λ i. both (done_to (sym state i).world (keep_in (sym keeper i) (is i) (sym place i) (sym state i).world)) (sym state i).own) ∙ kept_state
