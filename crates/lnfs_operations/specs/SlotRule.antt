-- A COMPOUND under the slot rule (RFC 8881 section 2.10.6): one that comes again under its sequence gets the
-- result that was kept, and does nothing; the whole result of a new one is kept.
use Rattle.std.specs.Prelude.{ℕ, ◌+◌, ◌==◌, List, [], ◌∷◌, ◌++◌, length, Option, Some, None, if◌then◌else◌}
use Rattle.lnfs_arguments.specs.declared.types.Op.{Op}
use Rattle.lnfs_arguments.specs.declared.types.Compound.{Compound}
use Rattle.lnfs_arguments.specs.declared.statuses.TheConstants.{NFS4ERR_MINOR_VERS_MISMATCH}
use Rattle.lnfs_arguments.specs.Numbered.{number_of}
use Rattle.lnfs_results.specs.declared.types.OpResult.{OpResult}
use Rattle.lnfs_results.specs.Numbered.{status_of_all}
use Rattle.lnfs_results.specs.Texts.{results_text}
use Rattle.lnfs_world.specs.World.{World}
use Rattle.lnfs_world.specs.World as world
use Rattle.lnfs_world.specs.Outcome.{Site, Place, Act}
use Rattle.lnfs_world.specs.Lawful.{Turn, Deed, deed_of}
use Rattle.lnfs_world.specs.Both.{Both, on_world}
use Rattle.lnfs_operations.specs.declared.Gate.TheVariants.{Outside}
use Rattle.lnfs_operations.specs.Chain.{Refusal}
use Rattle.lnfs_operations.specs.Keeping.{keeps, keep_result, keep_created}
use Rattle.lnfs_operations.specs.Sequence.{Sent}
use Rattle.lnfs_operations.specs.Extra.{Extra}
use Rattle.lnfs_operations.specs.Results.{Denial}
use Rattle.lnfs_operations.specs.Served.{Keeper, Nowhere, Slot, Record, Reply, Own, Kept, operation}

-- ---- the operations in order, up to the first that fails

pub record Ran (S : Type 0) : Type 0 where
  pub place : Place
  pub state : S
  pub results : List OpResult
  pub denial : Option Denial
  -- what was kept of the first time, where it is answered again
  pub again : Option (List ℕ)
  pub keeper : Keeper

-- the keeper is the one that the first of the operations says that says one
abbrev pub kept_by : {S : Type 0} → Keeper → Ran S → Ran S
kept_by Nowhere rest = rest
kept_by (Slot slot sequence) rest = record rest { keeper = Slot slot sequence }
kept_by (Record client) rest = record rest { keeper = Record client }

abbrev pub own_reply : {S : Type 0} → (so_far : List OpResult) → Op → Place → S → OpResult → Option Refusal → Keeper → (List OpResult → Ran S) → Ran S
own_reply so_far op p a result None keeper rest = kept_by keeper (rest (so_far ++ result ∷ []))
own_reply so_far op p a result (Some why) keeper rest = record {
  place = p;
  state = a;
  results = so_far ++ result ∷ [];
  denial = Some (record { place = length so_far + 1; number = number_of op; gate = why.gate; status = why.status });
  again = None;
  keeper = keeper;
}

abbrev pub followed : {S : Type 0} → (so_far : List OpResult) → Op → Place → S → Reply → (List OpResult → Ran S) → Ran S
followed so_far op p a (Own own keeper) rest = own_reply so_far op p a own.result own.refusal keeper rest
followed so_far op p a (Kept reply) rest = record { place = p; state = a; results = so_far; denial = None; again = Some reply; keeper = Nowhere }

-- the operations behind the results so far
unfoldable pub run_behind : {S : Type 0} → ((so_far : List OpResult) → Op → Deed Reply S) → (so_far : List OpResult) → List Op → Place → S → Ran S
run_behind deeds so_far [] p a = record { place = p; state = a; results = so_far; denial = None; again = None; keeper = Nowhere }
run_behind deeds so_far (op ∷ ops) p a =
    let t = deeds so_far op p a in
    followed so_far op t.place t.state t.answer (λ results. run_behind deeds results ops t.place t.state)

-- another minor version is refused as a whole
unfoldable pub run_all : {S : Type 0} → ((so_far : List OpResult) → Op → Deed Reply S) → Compound → Place → S → Ran S
run_all deeds c p a = if c.minor == 2 then run_behind deeds [] c.ops p a else record {
  place = p;
  state = a;
  results = [];
  denial = Some (record { place = 0; number = 0; gate = Outside; status = NFS4ERR_MINOR_VERS_MISMATCH });
  again = None;
  keeper = Nowhere;
}

-- ---- its result

-- a new result: the status is that of the last operation, the tag is sent back
abbrev pub new_result : Compound → List OpResult → List ℕ
new_result c results = results_text (record {
  status = if c.minor == 2 then status_of_all results else NFS4ERR_MINOR_VERS_MISMATCH;
  tag = c.tag;
  results = results;
})

abbrev pub result_of : Compound → List OpResult → Option (List ℕ) → List ℕ
result_of c results None = new_result c results
result_of c results (Some kept) = kept

-- the keeping of a result, with the arguments that it answers
abbrev pub keep_in : Keeper → world.Kept → Act (Unit {0})
keep_in Nowhere kept p w = keeps p []
keep_in (Slot slot sequence) kept p w = keep_result slot sequence kept p w
keep_in (Record client) kept p w = keep_created client kept p w

pub record Answer : Type 0 where
  -- the bytes of the result
  pub result : List ℕ
  pub denial : Option Denial

abbrev pub kept_after : {Row : Type 0} → Sent → Compound → Ran (Both Row) → Turn Answer (Both Row)
kept_after sent c r =
    let result = result_of c r.results r.again in
    let t = on_world (deed_of (keep_in r.keeper (record { arguments = sent.arguments; reply = result }))) r.place r.state in
    record { answer = record { result = result; denial = r.denial }; place = t.place; state = t.state }

-- A COMPOUND as a whole: what is answered, and what stands afterwards.
unfoldable pub served : (X : Extra) → Site → Sent → Compound → Deed Answer (Both X.Row)
served X site sent c p b = kept_after sent c (run_all (operation X site sent c) c p b)
