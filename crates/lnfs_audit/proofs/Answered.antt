-- The replies to events, and the answers to those of one level.
use Rattle.std.proofs.Common.{◌≡◌, ℕ, zero, suc, ◌+◌, ◌<◌, Bool, true, false, cond, List, [], ◌∷◌, ◌++◌, length, take, get_or, Option, Some, None, refl, sym, ap, subst, ◌∙◌, arith, append_assoc}
use Rattle.std.specs.Prelude.{filter, is_some}
use Rattle.std.proofs.lemmas.List.{append-nil, get_or-map, length-map, take_more}
use Rattle.std.proofs.lemmas.List.Elements.{All-get_or, filter-append}
use Rattle.lnfs_calipso.specs.declared.Level.{Level}
use Rattle.lnfs_calipso.proofs.Lattices.{preorder_of}
use Rattle.lnfs_types.specs.declared.event.Event.{Event}
use Rattle.lnfs_policy.specs.Policy.{Policy, dominance}
use Rattle.lnfs_operations.specs.Extra.{Extra}
use Rattle.lnfs_gss3.specs.Mechanism.{Signing}
use Rattle.lnfs_step.specs.Purged.{is_dominated, is_for, purged, purged_to}
use Rattle.lnfs_step.specs.Journal.{reply_with, answer_with}
use Rattle.lnfs_audit.specs.Replies.{replies_after, answers_to}
use Rattle.lnfs_audit.specs.Levels.{level_in, numbered, IsKnown, AreLevels}
use Rattle.lnfs_audit.specs.Filled.{AreServed, IsBelow, level_at}

-- ---- replies one after another

module _ (reply : List Event → Event → Option (List ℕ)) where
  pub one_for_each : (journal events : List Event) → length (replies_after reply journal events) ≡ length events
  unfolding replies_after
  one_for_each journal [] = refl
  one_for_each journal (event ∷ events) = ap suc (one_for_each (journal ++ event ∷ []) events)

  -- the reply at a place is that to the event there, behind those before it
  reply_at : (journal events : List Event) (i : ℕ) (event : Event) (d : Option (List ℕ)) → i < length events → get_or (replies_after reply journal events) i d ≡ reply (journal ++ take i events) (get_or events i event)
  unfolding replies_after
  reply_at journal [] i event d within = absurd (omega arith)
  reply_at journal (x ∷ xs) zero event d within = ap (λ (j : List Event). reply j x) (sym (append-nil journal))
  reply_at journal (x ∷ xs) (suc i) event d within =
      reply_at (journal ++ x ∷ []) xs i event d (omega arith) ∙ ap (λ (j : List Event). reply j (get_or xs i event)) (append_assoc journal (x ∷ []) (take i xs))

module _ (X : Extra) (m : Signing) (p : Policy) (events : List Event) where
  pub an_answer_for_each : length (answers_to X m p events) ≡ length events
  an_answer_for_each = one_for_each (answer_with X m p) [] events

  module _ (i : ℕ) (event : Event) (within : i < length events) (is : event ≡ get_or events i event) where
    pub answer_at : (d : Option (List ℕ)) → get_or (answers_to X m p events) i d ≡ answer_with X m p (take i events) event
    answer_at d = reply_at (answer_with X m p) [] events i event d within ∙ ap (answer_with X m p (take i events)) (sym is)

    -- the reply of a vault that was given the events before
    pub answered : (p' : Policy) (journal : List Event) (reply : Option (List ℕ)) → p' ≡ p → journal ≡ take i events → reply ≡ answer_with X m p' journal event → get_or (answers_to X m p events) i reply ≡ reply
    answered p' journal reply same before is_reply =
        answer_at reply ∙ sym (is_reply ∙ ap (λ (q : Policy). answer_with X m q journal event) same ∙ ap (λ (j : List Event). answer_with X m p j event) before)

-- one event more
pub taken_more : (events : List Event) (i : ℕ) (event : Event) (journal : List Event) → i < length events → event ≡ get_or events i event → journal ≡ take i events → journal ++ event ∷ [] ≡ take (i + 1) events
taken_more events i event journal within is before =
    ap (λ (j : List Event). j ++ event ∷ []) before ∙ ap (λ (e : Event). take i events ++ e ∷ []) is ∙ sym (take_more events i event within)

-- no event is for a level where there is none
pub purged_none : (m : Signing) (p : Policy) (s : ℕ) → purged m p [] s ≡ []
unfolding purged
purged_none m p s = refl

-- ---- one level

-- one is kept, or none
some_of : (own : Option Level) → true ≡ is_some own → (level : ℕ) × (numbered own ≡ Some level)
some_of None is = absurd cc
some_of (Some level) is = (level.0, refl)

none_of : (own : Option Level) → false ≡ is_some own → numbered own ≡ None
none_of None is = refl
none_of (Some level) is = absurd cc

-- a level is kept for each event
pub as_many : (m : Signing) (p : Policy) (events : List Event) (levels : List (Option Level)) → AreLevels m p events levels → length levels ≡ length events
as_many m p events levels are = sym (length-map levels numbered) ∙ ap length are.own ∙ length-map events (level_in m p)

module _ (m : Signing) (p : Policy) (events : List Event) (i : ℕ) (event : Event) (within : i < length events) (is : event ≡ get_or events i event) where
  level_there : level_at m p events i ≡ level_in m p event
  level_there = get_or-map (level_in m p) events i event None within ∙ ap (level_in m p) (sym is)

  -- the event, where it is for the level, comes into the level's journal
  pub purged_more : (s : ℕ) → purged m p (take (i + 1) events) s ≡ purged m p (take i events) s ++ cond (is_for m p s event) (event ∷ []) []
  unfolding purged
  purged_more s =
      ap (filter (is_for m p s)) (take_more events i event within ∙ ap (λ (e : Event). take i events ++ e ∷ []) (sym is))
      ∙ filter-append (is_for m p s) (take i events) (event ∷ [])

  -- the level that is kept for the event
  module _ (levels : List (Option Level)) (are : AreLevels m p events levels) (own : Option Level) (is_own : own ≡ get_or levels i None) where
    pub level_kept : level_at m p events i ≡ numbered own
    level_kept =
        let there : i < length levels = omega (arith, within, as_many m p events levels are) in
        sym (ap (λ (ls : List (Option ℕ)). get_or ls i None) are.own) ∙ get_or-map numbered levels i None None there ∙ ap numbered (sym is_own)

    pub some_level : true ≡ is_some own → (level : ℕ) × (level_at m p events i ≡ Some level)
    some_level is = let of = some_of own is in (of.0, level_kept ∙ of.1)

    own_level : numbered own ≡ level_in m p event
    own_level = sym level_kept ∙ level_there

    -- one that isn't for a level isn't the level's own
    pub not_own : (s : ℕ) → false ≡ is_dominated (dominance p) s (numbered own) → level_at m p events i ≡ Some s → ⊥
    not_own s unseen is =
        let same : numbered own ≡ Some s = sym level_kept ∙ is in
        let e : false ≡ true = unseen ∙ ap (is_dominated (dominance p) s) same ∙ (preorder_of p.labels).reflexive s in
        absurd cc

    -- the journal of a level's vault, where the event came into it or not
    pub journal_more : (s : ℕ) (seen : Bool) → seen ≡ is_dominated (dominance p) s (numbered own) → purged m p (take i events) s ++ cond seen (event ∷ []) [] ≡ purged m p (take (i + 1) events) s
    journal_more s seen is_seen =
        let same : seen ≡ is_for m p s event = is_seen ∙ ap (is_dominated (dominance p) s) own_level in
        ap (λ (b : Bool). purged m p (take i events) s ++ cond b (event ∷ []) []) same ∙ sym (purged_more s)

    -- what the requester of one without a level dominates
    pub stranger_journal : false ≡ is_some own → [] ≡ purged_to m p (take i events) (numbered own)
    stranger_journal is = sym (ap (purged_to m p (take i events)) (none_of own is))

    purged_answer : (X : Extra) (journal : List Event) → journal ≡ purged_to m p (take i events) (numbered own) → answer_with X m p (take i events) event ≡ reply_with X m p journal event
    unfolding answer_with
    purged_answer X journal before = sym (ap (λ (j : List Event). reply_with X m p j event) (before ∙ ap (purged_to m p (take i events)) own_level))

    -- the reply of the vault of the event's own level
    pub answered_purged : (X : Extra) (p' : Policy) (journal : List Event) (reply : Option (List ℕ)) → p' ≡ p → journal ≡ purged_to m p (take i events) (numbered own) → reply ≡ reply_with X m p' journal event → get_or (answers_to X m p events) i None ≡ reply
    answered_purged X p' journal reply same before is_reply =
        answer_at X m p events i event within is None ∙ purged_answer X journal before ∙ sym (is_reply ∙ ap (λ (q : Policy). reply_with X m q journal event) same)

-- ---- all levels

level_below : (p : Policy) (own : Option Level) → IsKnown p own → IsBelow (length p.labels) (numbered own)
level_below p None known = tt
level_below p (Some level) known = known

-- the level of each event is one of the policy
pub all_below : (m : Signing) (p : Policy) (events : List Event) (levels : List (Option Level)) → AreLevels m p events levels → (i : ℕ) → i < length events → IsBelow (length p.labels) (level_at m p events i)
all_below m p events levels are i within =
    let there : i < length levels = omega (arith, within, as_many m p events levels are) in
    let kept : level_at m p events i ≡ numbered (get_or levels i None) = sym (ap (λ (ls : List (Option ℕ)). get_or ls i None) are.own) ∙ get_or-map numbered levels i None None there in
    subst (IsBelow (length p.labels)) (sym kept) (level_below p (get_or levels i None) (All-get_or (IsKnown p) levels i None there are.known))

-- the same under a policy that is the same
pub served_under : {replies : List (Option (List ℕ))} (X : Extra) (m : Signing) (p q : Policy) (events : List Event) (n : ℕ) → p ≡ q → AreServed X m p events n replies → AreServed X m q events n replies
served_under {replies} X m p q events n same served = subst (λ (r : Policy). AreServed X m r events n replies) same served
