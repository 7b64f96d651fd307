-- The checkpoint of a new server, behind the lines of a recording.
use Rattle.std.proofs.Common.{◌≡◌, ◌+◌, ℕ, List, [], ◌∷◌, length, sym, ap, subst, ◌∙◌, arith}
use Rattle.std.specs.Prelude.{Result, Ok, Err}
use Rattle.lnfs_policy.specs.Policy.{Policy}
use Rattle.lnfs_types.specs.declared.event.Event.{Event}
use Rattle.lnfs_world.specs.Both.{Both}
use Rattle.lnfs_gss3.specs.Mechanism.{keyed_digest}
use Rattle.lnfs_step.specs.Journal.{first_state, state_from, state_after}
use Rattle.lnfs_traffic.specs.Parts.{recorded}
use Rattle.lnfs_checkpoint.specs.Checkpoint.{checkpoint_text}
use Rattle.lnfs_checkpoint.specs.Resumed.{Resumed, state_of}
use Rattle.lnfs_checkpoint.specs.Takes.{IsVerdict, AreBytes, told_of}
use Rattle.lnfs_checkpoint.proofs.Serving.{locks_again}
use Rattle.lnfs_layout.specs.Whole.{Told}
use Rattle.lnfs_stage.specs.declared.stop.Stop.{Stop}
use Rattle.lnfs_stage.specs.declared.stop.Stop.TheVariants.{Memory}
use Rattle.lnfs_stage.specs.Seen.{Seen}
use Rattle.lnfs_stage.specs.Writes.{to_out}
use Rattle.lnfs_stage.specs.Due.{Due, written}
use Rattle.lnfs_stage.specs.Does.{Does}
use Rattle.lnfs_stage.proofs.Doing.{does_short, does_first, does_then}
use Rattle.lnfs_further.specs.Further.{further, locks_in}
use Rattle.lnfs_checkpointing.specs.Checkpoints.{line_alone, served, saved, text_behind, told_behind, IsTakenAgain}
use Rattle.lnfs_checkpointing.specs.Servings.{IsNew, IsBehind}

none_before : (n m k : ℕ) → n ≡ 0 → k ≡ n + m → k ≡ m
none_before n m k e f = omega (arith, e, f)

-- the state behind the events
told_is : (r now : Resumed) (events : List Event) → IsNew r → IsBehind r now events → told_of now ≡ told_behind r.policy events
told_is r now events n b =
    let count : now.events ≡ length events = none_before r.events (length events) now.events n.events b.count in
    let state : state_of now.world now.locks ≡ state_after further keyed_digest r.policy events = b.state ∙ ap (λ (x : Both (further).Row). state_from further keyed_digest r.policy x events) n.state in
    let locks : now.locks ≡ locks_in (state_after further keyed_digest r.policy events).own = sym (locks_again now.locks) ∙ ap (λ (x : Both (further).Row). locks_in x.own) state in
    λ i. record { events = count i; world = (state i).world; locks = locks i }

-- the bytes that are due
text_is : (r now : Resumed) (events : List Event) → IsNew r → IsBehind r now events → checkpoint_text now.policy now.events now.world now.locks ≡ text_behind r.policy events
text_is r now events n b =
    let told : told_of now ≡ told_behind r.policy events = told_is r now events n b in
    λ i. checkpoint_text (b.policy i) (told i).events (told i).world (told i).locks

-- they are taken again
pub again : (r now : Resumed) (events : List Event) → IsNew r → IsBehind r now events → (text : List ℕ) → text ≡ checkpoint_text now.policy now.events now.world now.locks → AreBytes text → IsVerdict now.policy text (Ok (told_of now)) → IsTakenAgain r.policy events
again r now events n b text is fits taken =
    let due : text ≡ text_behind r.policy events = is ∙ text_is r now events n b in
    let of_policy : IsVerdict r.policy text (Ok (told_of now)) = subst (λ (p : Policy). IsVerdict p text (Ok (told_of now))) b.policy taken in
    let of_state : IsVerdict r.policy text (Ok (told_behind r.policy events)) = subst (λ (t : Told). IsVerdict r.policy text (Ok t)) (told_is r now events n b) of_policy in
    record { bytes = subst AreBytes due fits; verdict = subst (λ (l : List ℕ). IsVerdict r.policy l (Ok (told_behind r.policy events))) due of_state }

abbrev lines : Resumed → (traffic : List ℕ) → Due
lines r traffic = served line_alone r.policy 0 (first_state further r.policy) traffic

abbrev next : Resumed → (traffic : List ℕ) → Due
next r traffic = written (to_out (text_behind r.policy (recorded traffic)) ∷ [])

module _ (r : Resumed) (traffic : List ℕ) (n : IsNew r) {s t : Seen} where
  as_new : {T : Type 0} {result : Result T Stop} → Does result s t (served line_alone r.policy r.events (state_of r.world r.locks) traffic) → Does result s t (lines r traffic)
  as_new {T} {result} p = subst (λ (d : Due). Does result s t d) (λ i. served line_alone r.policy (n.events i) (n.state i) traffic) p

  pub save_stop : {S T : Type 0} (stop : Stop) {result : Result T Stop} → result ≡ Err stop → Does {T = S} (Err stop) s t (served line_alone r.policy r.events (state_of r.world r.locks) traffic) → Does result s t (saved r.policy traffic)
  save_stop stop is p = does_first stop (lines r traffic) (next r traffic) (as_new p) is

  pub save_short : {S T : Type 0} (value : S) {result : Result T Stop} → result ≡ Err Memory → Does {T = S} (Ok value) s t (served line_alone r.policy r.events (state_of r.world r.locks) traffic) → Does result s t (saved r.policy traffic)
  save_short value is p = does_then value (lines r traffic) (next r traffic) (as_new p) (does_short t (next r traffic) is)

  pub save_all : {S T : Type 0} (value : S) {result : Result T Stop} {u : Seen} (now : Resumed) (text : List ℕ) → Does {T = S} (Ok value) s t (served line_alone r.policy r.events (state_of r.world r.locks) traffic) → IsBehind r now (recorded traffic)
      → text ≡ checkpoint_text now.policy now.events now.world now.locks → Does result t u (written (to_out text ∷ [])) → Does result s u (saved r.policy traffic)
  save_all value {result} {u} now text p b is q =
      let due : text ≡ text_behind r.policy (recorded traffic) = is ∙ text_is r now (recorded traffic) n b in
      does_then value (lines r traffic) (next r traffic) (as_new p) (subst (λ (l : List ℕ). Does result t u (written (to_out l ∷ []))) due q)
