-- Where the policy gives the client no level nothing of it acts.
use Rattle.std.proofs.Common.{◌≡◌, inl, inr, ℕ, ◌+◌, ◌<◌, ◌^◌, List, [], ◌∷◌, replicate, Option, Some, None, refl, sym, ap, ◌∙◌, arith}
use Rattle.std.specs.Prelude.{IfSome, IsSome}
use Rattle.lnfs_arguments.specs.declared.types.Op.TheVariants as ops
use Rattle.lnfs_requests.specs.Texts.{compound_text}
use Rattle.lnfs_policy.specs.declared.mode.Mode.{Mode}
use Rattle.lnfs_policy.specs.declared.mode.Mode.TheVariants.{Enforcing, Limited}
use Rattle.lnfs_policy.specs.declared.rows.Parent.{Parent}
use Rattle.lnfs_policy.specs.Policy.{Policy, parent_at}
use Rattle.lnfs_gss3.specs.declared.caller.Caller.TheVariants.{Nobody}
use Rattle.lnfs_gss3.specs.declared.numbers.TheConstants.{AUTH_TOOWEAK, RPCSEC_GSS_LABEL_PROBLEM}
use Rattle.lnfs_gss3.specs.Mechanism.{Signing, IsSized}
use Rattle.lnfs_gss3.specs.Who.{guest_by, guest_in}
use Rattle.lnfs_signed_calls.specs.Laws.{Accepts}
use Rattle.lnfs_script.specs.declared.identity.Identity.{Identity}
use Rattle.lnfs_script.specs.declared.identity.Identity.TheVariants as identities
use Rattle.lnfs_script.specs.declared.action.Action.TheVariants as actions
use Rattle.lnfs_script.specs.Fits.{IdentitySuits}
use Rattle.lnfs_asking.specs.declared.plan.Plan.TheVariants as plans
use Rattle.lnfs_asking.specs.Labels.{spelled}
use Rattle.lnfs_asking.specs.Sending.{compound_of, asserted, sent_of}
use Rattle.lnfs_client.specs.declared.known.Known.{Known}
use Rattle.lnfs_client.specs.declared.known.Running.{Running}
use Rattle.lnfs_client.specs.declared.stage.Stage.{Stage}
use Rattle.lnfs_client.specs.declared.stage.Stage.TheVariants.{Asserting, Exchanging}
use Rattle.lnfs_client.specs.Stages.{first_stage}
use Rattle.lnfs_client.specs.Machine.{signer_of, speaker_under}
use Rattle.lnfs_operations.specs.Extra.{Extra}
use Rattle.lnfs_step.specs.Wrapping.{Plain, caller}
use Rattle.lnfs_step.specs.Request.{Refused, request_with}
use Rattle.lnfs_once.specs.Client.{Kind, Assert, Exchange}
use Rattle.lnfs_once.specs.Schedule.{ActsOnce}
use Rattle.lnfs_slots.specs.OneClient.{Seen}
use Rattle.lnfs_retries.specs.Packets.{Setting, ParentFits, UserFits, HasWords, asserted_level, level_by, served_level, number_of_parent, handle_in, client_writer}
use Rattle.lnfs_retries.specs.Schedule.{packet_for, server_of, ClientTurn, client_run, client_start, seen_state}
use Rattle.lnfs_retries.proofs.Agreeing.{context_read}
use Rattle.lnfs_retries.proofs.Pieces.{spelled_short}
use Rattle.lnfs_retries.proofs.Refusals.{only, never_acts, never_once}
use Rattle.lnfs_retries.proofs.Unlevelled.{guest_refused, limited_refused, label_refused}

-- nothing acts over any schedule
pub record Never (X : Extra) (m : Signing) (p : Policy) (s : Setting) (level : ℕ) : Type 0 where
  pub acts : (v : Seen X) (turns : List (ClientTurn X m p s level)) → (client_run X m p s level turns (client_start X m p s level v)).acts ≡ []
  pub once : (v : Seen X) (turns : List (ClientTurn X m p s level)) → ActsOnce (server_of X m p s level) (seen_state X m p s level (client_run X m p s level turns (client_start X m p s level v)))

-- the packet of a first stage, of a client without a context
first_made : (p : Policy) (k : Known) (r : Running) (stage : Stage) (kind : Kind) → r.stage ≡ stage → k.context ≡ replicate 16 0
    → ((k : Known) (r : Running) → packet_for p (record k { context = replicate 16 0 }) (record r { stage = stage }) ≡ record { xid = k.sent + 1; kind = kind; place = record { context = 0; number = 0 }; sequence = 0; payload = [] })
    → packet_for p k r ≡ record { xid = k.sent + 1; kind = kind; place = record { context = 0; number = 0 }; sequence = 0; payload = [] }
first_made p k r stage kind at none is =
    ap (λ (c : List ℕ). packet_for p (record k { context = c }) r) none ∙ ap (λ (s : Stage). packet_for p (record k { context = replicate 16 0 }) (record r { stage = s })) at ∙ is k r

module _ (X : Extra) (m : Signing) (sized : IsSized m) (accepts : Accepts m) (p : Policy) (class own level : ℕ) (owner : List ℕ) where
  -- ---- a guest

  no_line : (uid : ℕ) (mode : Mode) → level_by mode p (record { class = class; level = own; who = identities.Guest uid; owner = owner }) (identities.Guest uid) ≡ None → guest_in mode p class (Some uid) ≡ Nobody AUTH_TOOWEAK
  no_line uid Enforcing e = ap guest_by e
  no_line uid Limited e = absurd cc

  guest_never : (uid : ℕ) → uid < 2 ^ 32 → level_by p.mode p (record { class = class; level = own; who = identities.Guest uid; owner = owner }) (identities.Guest uid) ≡ None → Never X m p (record { class = class; level = own; who = identities.Guest uid; owner = owner }) level
  unfolding sent_of
  guest_never uid small none =
      let s : Setting = record { class = class; level = own; who = identities.Guest uid; owner = owner } in
      let refused : (xid : ℕ) → xid < 2 ^ 32 → request_with X.grammar m p class ((client_writer X m p s level).text (only X m p s level Exchange (inr refl) Exchanging xid)) ≡ Refused xid Plain (caller AUTH_TOOWEAK) =
      λ xid lt. guest_refused X.grammar m p class uid xid (compound_text (compound_of (ops.ExchangeId (replicate 8 0) owner 0 None ∷ []))) lt small (no_line uid p.mode none) in
      let made : (k : Known) (r : Running) → r.stage ≡ Exchanging → k.context ≡ replicate 16 0 → packet_for p k r ≡ only X m p s level Exchange (inr refl) Exchanging (k.sent + 1) =
      λ k r at none. first_made p k r Exchanging Exchange at none (λ k r. ap (λ (n : ℕ). record { xid = k.sent + 1; kind = Exchange; place = record { context = n; number = 0 }; sequence = 0; payload = [] }) (context_read 0 0 0 (omega arith))) in
      let begins : (k : Known) → k.identity ≡ identities.Guest uid → first_stage k.identity actions.Mount ≡ Exchanging = λ k is. ap (λ (who : Identity). first_stage who actions.Mount) is in
      record {
        acts = never_acts X m p s level Exchange (inr refl) Exchanging AUTH_TOOWEAK (omega arith) refused made begins (λ k. refl);
        once = never_once X m p s level Exchange (inr refl) Exchanging AUTH_TOOWEAK (omega arith) refused made begins (λ k. refl);
      }

  -- ---- a member

  module _ (number : ℕ) (under : Parent) (found : parent_at p number ≡ Some under) (fits : ParentFits p under) (label : ((spelled p own).lfs < 2 ^ 32) × ((spelled p own).pi < 2 ^ 32)) where
    abbrev s : Setting
    s = record { class = class; level = own; who = identities.Full number; owner = owner }

    text_is : (xid : ℕ) (stat : ℕ) → request_with X.grammar m p class (sent_of m (speaker_under (handle_in under.number level 0) (Some under) (identities.Full number)) xid (plans.Assert (spelled p own))).message ≡ Refused xid Plain (caller stat)
        → request_with X.grammar m p class ((client_writer X m p s level).text (only X m p s level Assert (inl refl) Asserting xid)) ≡ Refused xid Plain (caller stat)
    text_is xid stat is = ap (λ (o : Option Parent). request_with X.grammar m p class (sent_of m (speaker_under (handle_in (number_of_parent o) level 0) o (identities.Full number)) xid (plans.Assert (spelled p own))).message) found ∙ is

    by_mode : (mode : Mode) → p.mode ≡ mode → level_by mode p s (identities.Full number) ≡ None → (stat : ℕ) × (stat < 2 ^ 32) × ((xid : ℕ) → xid < 2 ^ 32 → request_with X.grammar m p class ((client_writer X m p s level).text (only X m p s level Assert (inl refl) Asserting xid)) ≡ Refused xid Plain (caller stat))
    unfolding sent_of
    by_mode Limited e none = (AUTH_TOOWEAK, omega arith, λ xid lt. text_is xid AUTH_TOOWEAK (limited_refused X.grammar m p class under accepts sized fits xid lt (asserted (spelled p own)) (label.0, label.1, spelled_short p own) e))
    by_mode Enforcing e none =
        let refused = sym (ap (asserted_level p (spelled p own)) found) ∙ none in
        (RPCSEC_GSS_LABEL_PROBLEM, omega arith, λ xid lt. text_is xid RPCSEC_GSS_LABEL_PROBLEM (label_refused X.grammar m p class under accepts sized fits xid lt (asserted (spelled p own)) (label.0, label.1, spelled_short p own) e refused))

    member_never : level_by p.mode p s (identities.Full number) ≡ None → Never X m p s level
    member_never none =
        let r = by_mode p.mode refl none in
        let made : (k : Known) (r : Running) → r.stage ≡ Asserting → k.context ≡ replicate 16 0 → packet_for p k r ≡ only X m p s level Assert (inl refl) Asserting (k.sent + 1) =
        λ k r at none. first_made p k r Asserting Assert at none (λ k r. ap (λ (n : ℕ). record { xid = k.sent + 1; kind = Assert; place = record { context = n; number = 0 }; sequence = 0; payload = [] }) (context_read 0 0 0 (omega arith))) in
        let begins : (k : Known) → k.identity ≡ identities.Full number → first_stage k.identity actions.Mount ≡ Asserting = λ k is. ap (λ (who : Identity). first_stage who actions.Mount) is in
        record {
          acts = never_acts X m p s level Assert (inl refl) Asserting r.0 r.1 r.2 made begins (λ k. refl);
          once = never_once X m p s level Assert (inl refl) Asserting r.0 r.1 r.2 made begins (λ k. refl);
        }

module _ (X : Extra) (m : Signing) (sized : IsSized m) (accepts : Accepts m) (p : Policy) where
  never_as : (s : Setting) (level : ℕ) → ((spelled p s.level).lfs < 2 ^ 32) × ((spelled p s.level).pi < 2 ^ 32) → (who : Identity) → IdentitySuits p who → UserFits who → IfSome (signer_of p who) (ParentFits p) → level_by p.mode p (record s { who = who }) who ≡ None → Never X m p (record s { who = who }) level
  never_as s level label (identities.Guest uid) known user parents none = guest_never X m sized accepts p s.class s.level level s.owner uid user none
  never_as s level label (identities.Full number) known user parents none = at (parent_at p number) refl known parents
    where
      at : (o : Option Parent) → parent_at p number ≡ o → IsSome o → IfSome o (ParentFits p) → Never X m p (record s { who = identities.Full number }) level
      at None is some fits = absurd (let no = some in cc)
      at (Some under) is some fits = member_never X m sized accepts p s.class s.level level s.owner number under is fits label none

  pub never : (s : Setting) (level : ℕ) → IdentitySuits p s.who → HasWords p s → served_level p s ≡ None → Never X m p s level
  never s level known words none = never_as s level words.label s.who known words.user words.parent none
