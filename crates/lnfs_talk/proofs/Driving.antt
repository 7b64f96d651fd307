-- One record of a dialogue over a link.
use Rattle.std.proofs.Common.{◌≡◌, ◌≤◌, ◌+◌, ℕ, Bool, true, false, List, [], map, refl, sym, ap, ◌∙◌, subst, append-nil, arith}
use Rattle.std.specs.Prelude.{cond, Option, Some, None, Result, Ok, Err, IfErr, OnOk, is_none}
use Rattle.std.specs.List.{flat_map}
use Rattle.std.specs.Option.{option_map}
use Rattle.lnfs_outside.specs.Bytes.{Puts}
use Rattle.lnfs_outside.proofs.Parts.{nothing}
use Rattle.lnfs_rpc.specs.Formats.{frame_of}
use Rattle.lnfs_policy.specs.Policy.{Policy}
use Rattle.lnfs_gss3.specs.Mechanism.{Signing}
use Rattle.lnfs_asking.specs.declared.sent.Sent.{Sent}
use Rattle.lnfs_client.specs.declared.known.Known.{Known}
use Rattle.lnfs_client.specs.declared.known.Running.{Running}
use Rattle.lnfs_client.specs.Machine.{asked, asked_with, awaited, may_ask, may_ask_in, request_by, request_for, request_in, turn}
use Rattle.lnfs_stage.specs.declared.stop.Stop.{Stop}
use Rattle.lnfs_stage.specs.declared.stop.Stop.TheVariants as stop
use Rattle.lnfs_stage.specs.Seen.{Seen}
use Rattle.lnfs_stage.specs.Writes.{Write, to_out}
use Rattle.lnfs_stage.specs.Due.{written}
use Rattle.lnfs_stage.specs.Does.{Does, DoesBy}
use Rattle.lnfs_stage.proofs.Doing.{beside_net}
use Rattle.lnfs_stage.proofs.Writing.{front_whole_of}
use Rattle.lnfs_talk.specs.Exchange.{IsOfLink}
use Rattle.lnfs_talk.specs.Talk.{State, Talk, asks, fresh, heard, led, message_of, shown_of, turned}
use Rattle.lnfs_talk.specs.Talks.{AreShown}
use Rattle.lnfs_talk.proofs.Dialogues.{asked_sent, led_sent, turn_sent}

-- ---- the request that is sent

abbrev bytes_of : Option Sent → List ℕ
bytes_of sent = flat_map frame_of (message_of sent)

not_none : (k : Known) (m : Signing) (p : Policy) (r : Running) (a : Option Sent) → is_none a ≡ true → request_by m p k r a ≡ None → ⊥
not_none k m p r None is e = cc
not_none k m p r (Some sent) is e = cc

none_by : (m : Signing) (p : Policy) (k : Known) (r : Running) (a : Option Sent) → is_none a ≡ false → request_by m p k r a ≡ None
none_by m p k r None is = let h : ⊥ = cc in absurd h
none_by m p k r (Some sent) is = refl

none_for : (m : Signing) (p : Policy) (k : Known) (running : Option Running) → may_ask_in running ≡ false → request_for m p k running ≡ None
none_for m p k None is = refl
none_for m p k (Some r) is = none_by m p k r r.awaited is

-- where nothing is asked nothing is sent
pub none_sent : (m : Signing) (p : Policy) (k : Known) → may_ask k ≡ false → flat_map frame_of (message_of (request_in m p k)) ≡ []
unfolding request_in
none_sent m p k is = ap bytes_of (none_for m p k k.running is)

awaits : (m : Signing) (p : Policy) (k : Known) (running : Option Running) (x : Option Sent) → k.running ≡ running → request_for m p k running ≡ x → may_ask_in running ≡ true → awaited (asked_with k x) ≡ x
awaits m p k None x e f is = let h : ⊥ = cc in absurd h
awaits m p k (Some r) None e f is = absurd (not_none k m p r r.awaited is f)
awaits m p k (Some r) (Some sent) e f is = rw e refl

-- what is awaited is what was asked
pub asked_awaits : (m : Signing) (p : Policy) (k : Known) → may_ask k ≡ true → awaited (asked m p k) ≡ request_in m p k
unfolding asked request_in
asked_awaits m p k is = awaits m p k k.running (request_for m p k k.running) refl refl is

pub nothing_asked : (sent : Option Sent) → option_map (λ s. s.message) sent ≡ None → flat_map frame_of (message_of sent) ≡ []
nothing_asked None e = refl
nothing_asked (Some sent) e = let h : ⊥ = cc in absurd h

pub one_asked : (sent : Option Sent) (bytes : List ℕ) → option_map (λ s. s.message) sent ≡ Some bytes → flat_map frame_of (message_of sent) ≡ frame_of bytes
one_asked None bytes e = let h : ⊥ = cc in absurd h
one_asked (Some sent) bytes e = append-nil (frame_of sent.message) ∙ ap frame_of (some_is e)
  where
    some_is : {a b : List ℕ} → Some a ≡ Some b → a ≡ b
    some_is e = cc

-- the request that is lent behind it
lent : (m : Signing) (p : Policy) (d e : State) → may_ask d.client ≡ true → e ≡ record d { client = asked m p d.client } → option_map (λ s. s.message) (request_in m p d.client) ≡ option_map (λ s. s.message) (awaited e.client)
lent m p d e may is = ap (λ (o : Option Sent). option_map (λ (s : Sent). s.message) o) (sym (ap (λ (x : State). awaited x.client) is ∙ asked_awaits m p d.client may))

pub one_sent : (m : Signing) (p : Policy) (d e : State) (bytes : List ℕ) → may_ask d.client ≡ true → e ≡ record d { client = asked m p d.client } → Some bytes ≡ option_map (λ s. s.message) (awaited e.client)
    → flat_map frame_of (message_of (request_in m p d.client)) ≡ frame_of bytes
one_sent m p d e bytes may is has = one_asked (request_in m p d.client) bytes (lent m p d e may is ∙ sym has)

pub nothing_sent : (m : Signing) (p : Policy) (d e : State) → may_ask d.client ≡ true → e ≡ record d { client = asked m p d.client } → None ≡ option_map (λ s. s.message) (awaited e.client)
    → flat_map frame_of (message_of (request_in m p d.client)) ≡ []
nothing_sent m p d e may is has = nothing_asked (request_in m p d.client) (lent m p d e may is ∙ sym has)

-- the same of a text that is spelled otherwise
pub puts_as : {T : Type 0} {result : Result T Stop} {old new : Option (List ℕ)} (text said : List ℕ) → said ≡ text → Puts old new result text → Puts old new result said
puts_as {T} {result} {old} {new} text said e p = subst (λ (l : List ℕ). Puts old new result l) (sym e) p

-- no text
pub puts_none : {T : Type 0} (value : T) (known : Option (List ℕ)) (text : List ℕ) → text ≡ [] → Puts {T = T} {E = Stop} known known (Ok value) text
puts_none {T} value known text e = rw e (record { front = record { part = []; rest = []; parts = refl; appended = nothing known }; whole = nothing known })

-- ---- a record that is heard

module _ (m : Signing) (p : Policy) (d : State) (message : List ℕ) where
  -- the state that it leads to, before the next request
  abbrev pub then_state : State
  then_state = led (record d { client = (turn m p d.client message).client }) (turn m p d.client message).told

  by_over : (b : Bool) → b ≡ false → cond b (fresh d) (asks m p (turned (fresh d) (turn m p d.client message))) ≡ asks m p (turned (fresh d) (turn m p d.client message))
  by_over true is = let h : ⊥ = cc in absurd h
  by_over false is = refl

  pub heard_is : d.is_over ≡ false → heard m p (fresh d) message ≡ asks m p (turned (fresh d) (turn m p d.client message))
  unfolding heard
  heard_is is = by_over d.is_over is

  module _ (is : d.is_over ≡ false) where
    pub state_heard : (heard m p (fresh d) message).state ≡ record then_state { client = asked m p then_state.client }
    state_heard = ap (λ (t : Talk). t.state) (heard_is is)

    pub sent_heard : flat_map frame_of (heard m p (fresh d) message).requests ≡ flat_map frame_of (message_of (request_in m p then_state.client))
    sent_heard = ap (λ (t : Talk). flat_map frame_of t.requests) (heard_is is)

    texts_heard : (heard m p (fresh d) message).texts ≡ shown_of (turn m p d.client message).told
    texts_heard = ap (λ (t : Talk). t.texts) (heard_is is)

    -- what was shown, as it was written
    pub does_heard : {T : Type 0} {result : Result T Stop} {s t : Seen} (texts : List (List ℕ)) → texts ≡ shown_of (turn m p d.client message).told → Does result s t (written (map to_out texts)) → Does result s t (written (map to_out (heard m p (fresh d) message).texts))
    does_heard {T} {result} {s} {t} texts e x = subst (λ (l : List (List ℕ)). Does result s t (written (map to_out l))) (e ∙ sym texts_heard) x

    pub shown_heard : {s t : Seen} (texts : List (List ℕ)) → texts ≡ shown_of (turn m p d.client message).told → AreShown s t texts → AreShown s t (heard m p (fresh d) message).texts
    shown_heard {s} {t} texts e x = subst (λ (l : List (List ℕ)). AreShown s t l) (e ∙ sym texts_heard) x

    -- the state when it was heard, and that when the next request was made
    module _ (e : State) (led_to : e ≡ then_state) where
      pub frames_asked : flat_map frame_of (heard m p (fresh d) message).requests ≡ flat_map frame_of (message_of (request_in m p e.client))
      frames_asked = sent_heard ∙ ap (λ (x : State). flat_map frame_of (message_of (request_in m p x.client))) (sym led_to)

      pub state_asked : (f : State) → f ≡ record e { client = asked m p e.client } → f ≡ (heard m p (fresh d) message).state
      state_asked f goes = goes ∙ ap (λ (x : State). record x { client = asked m p x.client }) led_to ∙ sym state_heard

  -- a record that is heard makes no request, and the next is one more
  pub same_count : (e : State) → e ≡ then_state → e.client.sent ≡ d.client.sent
  same_count e led_to = ap (λ (x : State). x.client.sent) led_to ∙ led_sent (record d { client = (turn m p d.client message).client }) (turn m p d.client message).told ∙ turn_sent m p d.client message

  pub next_count : (e f : State) → e ≡ then_state → f ≡ record e { client = asked m p e.client } → f.client.sent ≤ d.client.sent + 1
  next_count e f led_to goes =
      let now : f.client.sent ≡ (asked m p e.client).sent = ap (λ (x : State). x.client.sent) goes in
      omega (arith, now, asked_sent m p e.client, same_count e led_to)

pub on_ok : {T : Type 0} (result : Result T Stop) {A B : Type 0} → (A → B) → OnOk result A → OnOk result B
on_ok (Ok value) f a = f a
on_ok (Err cause) f a = tt

-- it gave up behind what it showed
pub stops_behind : {S T : Type 0} (value : S) (cause : Stop) (n n' : ℕ) {result : Result T Stop} {s t : Seen} (writes : List Write) → result ≡ Err cause → Does (Ok value) s t (written writes) → IsOfLink n n' cause → DoesBy n n' result s t (written writes)
stops_behind value (stop.Ends ending) n n' writes is p e = absurd e
stops_behind value stop.ReadFault n n' writes is p e = absurd e
stops_behind value stop.WriteFault n n' writes is p e = absurd e
stops_behind value stop.NetFault n n' writes is p e = rw is (record { whole = tt; begun = front_whole_of p.whole.1; stays = p.stays; excused = e })
stops_behind value stop.Memory n n' writes is p e = rw is (record { whole = tt; begun = front_whole_of p.whole.1; stays = p.stays; excused = tt })

-- the texts were shown, and then the next request was made
pub shown_then : (n n' : ℕ) (result : Result (Unit {0}) Stop) {s t : Seen} (writes : List Write) → Does {T = Unit {0}} (Ok tt) s t (written writes) → IfErr result (λ cause. IsOfLink n n' cause) → DoesBy n n' result s t (written writes)
shown_then n n' (Ok value) writes p e = beside_net n n' p
shown_then n n' (Err cause) writes p e = stops_behind tt cause n n' writes refl p e
