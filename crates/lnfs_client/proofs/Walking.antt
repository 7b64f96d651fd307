-- A walk is of operations within their bounds.
use Rattle.std.proofs.Common.{◌≡◌, ◌≤◌, ◌+◌, ℕ, List, ◌++◌, length, map, take, All, Result, Ok, Err, sym, subst, arith, length-append}
use Rattle.std.specs.Prelude.{OnOk}
use Rattle.std.proofs.lemmas.List.{length-map, length-take}
use Rattle.std.proofs.lemmas.List.Elements.{All-cons, All-append, All-map, All-take, All-weaker}
use Rattle.lnfs_arguments.specs.declared.types.Op.{Op}
use Rattle.lnfs_arguments.specs.declared.types.Op.TheVariants as ops
use Rattle.lnfs_requests.specs.Fits.{OpFits}
use Rattle.lnfs_client.specs.Names.{AreNames}
use Rattle.lnfs_client.specs.Requests.{walk}

walk_fits : (names : List (List ℕ)) → AreNames names → All OpFits (walk names)
walk_fits names are =
    All-cons OpFits ops.PutRootFh (map ops.Lookup names) tt (All-map OpFits ops.Lookup names (All-weaker (λ (name : List ℕ). length name ≤ 255) (λ (name : List ℕ). length name ≤ 65536) (λ name short. omega arith) names are.short))

pub walked_fits : {E : Type 0} (r : Result (Unit {0}) E) (before after : List Op) (names : List (List ℕ)) → AreNames names → OnOk r (after ≡ before ++ walk names) → All OpFits before → OnOk r (All OpFits after)
walked_fits (Ok done) before after names are e fits = subst (All OpFits) (sym e) (All-append OpFits before (walk names) fits (walk_fits names are))
walked_fits (Err none) before after names are e fits = tt

pub walked_few : {E : Type 0} (r : Result (Unit {0}) E) (before after : List Op) (names : List (List ℕ)) → AreNames names → OnOk r (after ≡ before ++ walk names) → OnOk r (length after ≤ length before + 17)
walked_few (Ok done) before after names are e = rw e (simp length-append (omega (arith, length-map names ops.Lookup, are.few)))
walked_few (Err none) before after names are e = tt

-- names without the last ones
pub front_are : (n : ℕ) (names : List (List ℕ)) → AreNames names → AreNames (take n names)
front_are n names are = record { few = omega (arith, length-take n names, are.few); short = All-take (λ (name : List ℕ). length name ≤ 255) n names are.short }
