-- What events get, and what is written of it, one event after another.
use Rattle.std.proofs.Common.{◌≡◌, ◌+◌, ℕ, suc, List, [], ◌∷◌, ◌++◌, length, refl, sym, ap, ◌∙◌, arith, append_assoc, append-nil, unwrap_or}
use Rattle.std.specs.Prelude.{Result, Ok, Err, OnOk}
use Rattle.std.specs.declared.option.Option.{Option}
use Rattle.std.proofs.lemmas.List.{length-append}
use Rattle.lnfs_types.specs.declared.event.Event.{Event}
use Rattle.lnfs_policy.specs.Policy.{Policy}
use Rattle.lnfs_world.specs.Both.{Both}
use Rattle.lnfs_gss3.specs.Mechanism.{keyed_digest}
use Rattle.lnfs_step.specs.Step.{step_with}
use Rattle.lnfs_step.specs.Journal.{state_from, text_of}
use Rattle.lnfs_step.proofs.Steps.{state_from-append}
use Rattle.lnfs_checkpoint.specs.Resumed.{Resumed, Got, got_from, state_of}
use Rattle.lnfs_stage.specs.Writes.{Write, to_out, to_audit}
use Rattle.lnfs_commands.specs.Events.{framed}
use Rattle.lnfs_further.specs.Further.{further}
use Rattle.lnfs_checkpointing.specs.Checkpoints.{writes_of}
use Rattle.lnfs_checkpointing.specs.declared.serving.Shown.{Shown}
use Rattle.lnfs_checkpointing.specs.declared.serving.Shown.TheVariants.{LineAlone, ReplyAndLine}
use Rattle.lnfs_checkpointing.specs.Servings.{each_of, shown_of, got_of, IsBehind}

-- what an event of this number gets
abbrev pub got_at : Policy → (number : ℕ) → Both (further).Row → Event → Got
got_at p number b event =
    let step = step_with further keyed_digest p b event in
    record { reply = step.reply; line = step.line; number = number }

more_behind : (n m : ℕ) → (n + 1) + m ≡ n + suc m
more_behind n m = omega arith

module _ (each : Got → List Write) (p : Policy) where
  -- what is written of events that are served from a state on
  abbrev pub written_of : (before : ℕ) → Both (further).Row → List Event → List Write
  written_of before b events = writes_of each (got_from further keyed_digest p before b events)

  -- of one
  pub written_one : (before : ℕ) (b : Both (further).Row) (event : Event) → written_of before b (event ∷ []) ≡ each (got_at p (before + 1) b event)
  unfolding writes_of got_from
  written_one before b event = append-nil (each (got_at p (before + 1) b event))

  -- of some, and then of others
  pub written_join : (before : ℕ) (b : Both (further).Row) (xs ys : List Event) → written_of before b (xs ++ ys) ≡ written_of before b xs ++ written_of (before + length xs) (state_from further keyed_digest p b xs) ys
  unfolding writes_of got_from state_from
  written_join before b [] ys = ap (λ (n : ℕ). written_of n b ys) (omega arith)
  written_join before b (x ∷ xs) ys =
      let now : List Write = each (got_at p (before + 1) b x) in
      let then : Both (further).Row = (step_with further keyed_digest p b x).state in
      let last : Both (further).Row = state_from further keyed_digest p then xs in
      let others : List Write = written_of (before + 1) then xs in
      ap (λ (ws : List Write). now ++ ws) (written_join (before + 1) then xs ys ∙ ap (λ (n : ℕ). others ++ written_of n last ys) (more_behind before (length xs)))
      ∙ sym (append_assoc now others (written_of (before + length (x ∷ xs)) last ys))

  pub written_more : (before : ℕ) (b : Both (further).Row) (events : List Event) (event : Event)
      → written_of before b (events ++ event ∷ []) ≡ written_of before b events ++ each (got_at p (before + length events + 1) (state_from further keyed_digest p b events) event)
  written_more before b events event = written_join before b events (event ∷ []) ∙ ap (λ (ws : List Write). written_of before b events ++ ws) (written_one (before + length events) (state_from further keyed_digest p b events) event)

-- ---- a server behind events

pub behind_none : (r : Resumed) → IsBehind r r []
unfolding state_from
behind_none r = record { policy = refl; count = omega arith; state = refl }

-- what it gives to the next one
pub next_got : (old now : Resumed) (events : List Event) (event : Event) → IsBehind old now events → got_of now event ≡ got_at old.policy (old.events + length events + 1) (state_from further keyed_digest old.policy (state_of old.world old.locks) events) event
next_got old now events event p = λ i. got_at (p.policy i) (p.count i + 1) (p.state i) event

one_longer : (a n m : ℕ) → m ≡ n + 1 → (a + n) + 1 ≡ a + m
one_longer a n m e = omega (arith, e)

pub behind_more : (old now new : Resumed) (events : List Event) (event : Event) → IsBehind old now events → IsBehind now new (event ∷ []) → IsBehind old new (events ++ event ∷ [])
unfolding state_from
behind_more old now new events event p q = record {
  policy = q.policy ∙ p.policy;
  count = q.count ∙ ap (λ (n : ℕ). n + 1) p.count ∙ one_longer old.events (length events) (length (events ++ event ∷ [])) (length-append events (event ∷ []));
  state = q.state ∙ (λ i. (step_with further keyed_digest (p.policy i) (p.state i) event).state) ∙ sym (state_from-append further keyed_digest old.policy (state_of old.world old.locks) events event);
}

pub behind_one : {old new : Resumed} {event : Event} → new.policy ≡ old.policy → new.events ≡ old.events + 1 → state_of new.world new.locks ≡ (step_with further keyed_digest old.policy (state_of old.world old.locks) event).state → IsBehind old new (event ∷ [])
unfolding state_from
behind_one policy count state = record { policy = policy; count = count; state = state }

-- what is shown of it
pub shown_is : (shown : Shown) (got : Got) {reply : Option (List ℕ)} {line : List ℕ} → reply ≡ got.reply → line ≡ unwrap_or (text_of got.number got.line) [] → shown_of shown reply line ≡ each_of shown got
shown_is LineAlone got r l = ap (λ (line : List ℕ). to_audit line ∷ []) l
shown_is ReplyAndLine got r l = λ i. to_out (framed (r i)) ∷ to_audit (l i) ∷ []

-- a fact, whatever a call answered
pub on_ok : {T E : Type 0} (result : Result T E) {P : Type 0} → P → OnOk result P
on_ok (Ok value) p = p
on_ok (Err error) p = tt
