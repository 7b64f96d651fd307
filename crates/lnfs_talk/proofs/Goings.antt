-- How a dialogue over a link goes on, and how it ends.
use Rattle.std.proofs.Common.{◌≡◌, ◌≤◌, ◌<◌, ◌+◌, inl, inr, ℕ, true, false, List, [], ◌∷◌, ◌++◌, length, map, refl, sym, ap, ◌∙◌, subst, append_assoc, append-nil, arith}
use Rattle.std.specs.Prelude.{cond, Option, Some, None, Result, Ok, Err, IfSome}
use Rattle.std.specs.List.{flat_map}
use Rattle.std.specs.Io.KnownBytes.{Appends, Consumes}
use Rattle.std.proofs.KnownBytes.{Consumes-nil, Consumes-trans, Appends-trans}
use Rattle.std.proofs.lemmas.List.{length_push, map-append}
use Rattle.std.proofs.lemmas.Grind.{flat_map-append}
use Rattle.lnfs_outside.specs.Bytes.{AppendsPart}
use Rattle.lnfs_outside.specs.Nets.{Back}
use Rattle.lnfs_outside.proofs.Parts.{nothing}
use Rattle.lnfs_rpc.specs.Formats.{frame_of}
use Rattle.lnfs_rpc.specs.Records.{Stream}
use Rattle.lnfs_incoming.specs.declared.ending.TheConstants.{BUDGET}
use Rattle.lnfs_incoming.proofs.Records.{stream_more, stream_push}
use Rattle.lnfs_policy.specs.Policy.{Policy}
use Rattle.lnfs_gss3.specs.Mechanism.{Signing}
use Rattle.lnfs_script.specs.declared.script.Script.{Script}
use Rattle.lnfs_stage.specs.declared.ending.Ending.TheVariants.{LinkClosed}
use Rattle.lnfs_stage.specs.declared.stop.Stop.{Stop}
use Rattle.lnfs_stage.specs.declared.stop.Stop.TheVariants as stop
use Rattle.lnfs_stage.specs.Seen.{Seen}
use Rattle.lnfs_stage.specs.Writes.{to_out, Write, TakesFront}
use Rattle.lnfs_stage.specs.Due.{written}
use Rattle.lnfs_stage.specs.Does.{Does, DoesBy}
use Rattle.lnfs_stage.specs.declared.status.Status.{Status}
use Rattle.lnfs_stage.specs.declared.status.Status.TheVariants as status
use Rattle.lnfs_stage.specs.Ending.{status_of, told_by}
use Rattle.lnfs_stage.proofs.Doing.{does_nothing, does_then}
use Rattle.lnfs_stage.proofs.Staying.{stays_same, stays_then, excused_before}
use Rattle.lnfs_stage.proofs.Writing.{front_none, front_then, front_whole_of}
use Rattle.lnfs_talk.specs.Exchange.{IsOfLink, Receives, SaysNone}
use Rattle.lnfs_client.specs.Machine.{asked, request_in}
use Rattle.lnfs_talk.specs.Talk.{State, Talk, beginning, message_of, talk, opened, heard, fresh}
use Rattle.lnfs_talk.specs.Fits.{Goes}
use Rattle.lnfs_talk.specs.Talks.{Talks, IsTalk, EndsAs, WithoutFiles, due_of, frames_of}
use Rattle.lnfs_talk.proofs.Dialogues.{asked_sent, heard_on, talk_on}

abbrev pub texts_of : Talk → List Write
texts_of t = map to_out t.texts

-- so many records have come, and a reply is awaited
pub record Going (m : Signing) (p : Policy) (level : ℕ) (s : Script) (before now : Seen) (old link : Back) (pending : List ℕ) (d : State) (count : ℕ) : Type 0 where
  pub records : List (List ℕ)
  pub read : List ℕ
  pub count_is : length records ≡ count
  pub reads : Consumes old.left link.left read
  pub cuts : Stream read records pending
  pub state : d ≡ (talk m p level s records).state
  pub goes_on : d.is_over ≡ false
  pub suits : Goes p d
  pub few : d.client.sent ≤ count + 1
  pub sent : Appends old.taken link.taken (frames_of (talk m p level s records))
  pub shown : Does {T = Unit {0}} (Ok tt) before now (written (texts_of (talk m p level s records)))
  pub reading : old.read_faults ≤ link.read_faults
  pub writing : old.write_faults ≤ link.write_faults

module _ (m : Signing) (p : Policy) (level : ℕ) (s : Script) where
  -- the first request was sent
  going_first : (before : Seen) (old link : Back) (d : State) → d ≡ (opened m p level s).state → d.is_over ≡ false → Goes p d → d.client.sent ≤ 1
      → link.left ≡ old.left → Appends old.taken link.taken (frames_of (opened m p level s)) → link.read_faults ≡ old.read_faults → old.write_faults ≤ link.write_faults
      → (opened m p level s).texts ≡ [] → Going m p level s before before old link [] d 0
  unfolding talk
  going_first before old link d is on suits few left sent read wrote none = record {
    records = [];
    read = [];
    count_is = refl;
    reads = subst (λ (l : Option (List ℕ)). Consumes old.left l []) (sym left) (Consumes-nil old.left);
    cuts = refl;
    state = is;
    goes_on = on;
    suits = suits;
    few = few;
    sent = sent;
    shown = rw none (does_nothing tt before);
    reading = omega (arith, read);
    writing = wrote;
  }

  -- the requests at the beginning
  first_frames : (d : State) → d ≡ beginning level s → frames_of (opened m p level s) ≡ flat_map frame_of (message_of (request_in m p d.client))
  unfolding opened
  first_frames d is = ap (λ (x : State). flat_map frame_of (message_of (request_in m p x.client))) (sym is)

  first_state : (d e : State) → d ≡ beginning level s → e ≡ record d { client = asked m p d.client } → e ≡ (opened m p level s).state
  unfolding opened
  first_state d e is goes = goes ∙ ap (λ (x : State). record x { client = asked m p x.client }) is

  first_texts : (opened m p level s).texts ≡ []
  unfolding opened
  first_texts = refl

  first_count : (d e : State) → d ≡ beginning level s → e ≡ record d { client = asked m p d.client } → e.client.sent ≤ 1
  first_count d e is goes =
      let now : e.client.sent ≡ (asked m p d.client).sent = ap (λ (x : State). x.client.sent) goes in
      let none : d.client.sent ≡ 0 = ap (λ (x : State). x.client.sent) is in
      omega (arith, now, asked_sent m p d.client, none)

  first_on : (d e : State) → d ≡ beginning level s → e ≡ record d { client = asked m p d.client } → e.is_over ≡ false
  first_on d e is goes = ap (λ (x : State). x.is_over) goes ∙ ap (λ (x : State). x.is_over) is

  -- d is the state before the first request, and e the one behind it
  module _ (before : Seen) (old link : Back) (d e : State) (is : d ≡ beginning level s) where
    pub going_asked : (pending : List ℕ) → pending ≡ [] → e ≡ record d { client = asked m p d.client } → Goes p e → Appends old.taken link.taken (flat_map frame_of (message_of (request_in m p d.client)))
        → link.left ≡ old.left → link.read_faults ≡ old.read_faults → old.write_faults ≤ link.write_faults → Going m p level s before before old link pending e 0
    going_asked pending none goes suits sent left read wrote = rw none (going_first before old link e (first_state d e is goes) (first_on d e is goes) suits (first_count d e is goes) left
        (subst (λ (l : List ℕ). Appends old.taken link.taken l) (sym (first_frames d is)) sent) read wrote first_texts)

  -- ---- no record comes

  not_over : (d : State) (t : Talk) → d ≡ t.state → d.is_over ≡ false → t.state.is_over ≡ false
  not_over d t is on = ap (λ (x : State). x.is_over) (sym is) ∙ on

  closed : (t : Talk) → t.state.is_over ≡ false → (due_of t).ending ≡ Some LinkClosed
  closed t is = ap (λ b. cond b None (Some LinkClosed)) is

  module _ (before now : Seen) (old link after : Back) (pending new : List ℕ) (d : State) (count : ℕ) (g : Going m p level s before now old link pending d count) where
    abbrev so_far : Talk
    so_far = talk m p level s g.records

    unheard : (cause : Stop) (piece : List ℕ) → Consumes link.left after.left piece → after.taken ≡ link.taken → link.read_faults ≤ after.read_faults → after.write_faults ≡ link.write_faults → count ≤ BUDGET
        → SaysNone cause after.left link.read_faults after.read_faults (pending ++ piece) → Talks m p level s (Err cause) before now old after
    unheard (stop.Ends ending) piece reads took later wrote few says = rw says.0 (record {
      records = g.records;
      link = record {
        pending = pending ++ piece;
        read = g.read ++ piece;
        few = omega (arith, g.count_is, few);
        reads = Consumes-trans old.left link.left after.left g.read piece g.reads reads;
        cuts = stream_more g.read g.records pending piece g.cuts;
        sent = rw took g.sent;
        begun = record { part = frames_of so_far; rest = []; parts = sym (append-nil (frames_of so_far)); appended = rw took g.sent };
        ends = inl says.1;
        reading = omega (arith, g.reading, later);
        writing = omega (arith, g.writing, wrote);
      };
      does = record { whole = (sym (closed so_far (not_over d so_far g.state g.goes_on)), g.shown.whole.1); begun = front_whole_of g.shown.whole.1; stays = g.shown.stays; excused = tt };
    })
    unheard stop.NetFault piece reads took later wrote few says = record {
      records = g.records;
      link = record {
        pending = pending ++ piece;
        read = g.read ++ piece;
        few = omega (arith, g.count_is, few);
        reads = Consumes-trans old.left link.left after.left g.read piece g.reads reads;
        cuts = stream_more g.read g.records pending piece g.cuts;
        sent = tt;
        begun = record { part = frames_of so_far; rest = []; parts = sym (append-nil (frames_of so_far)); appended = rw took g.sent };
        ends = tt;
        reading = omega (arith, g.reading, later);
        writing = omega (arith, g.writing, wrote);
      };
      does = record { whole = tt; begun = front_whole_of g.shown.whole.1; stays = g.shown.stays; excused = omega (arith, says, wrote, g.reading, g.writing) };
    }
    unheard stop.Memory piece reads took later wrote few says = record {
      records = g.records;
      link = record {
        pending = pending ++ piece;
        read = g.read ++ piece;
        few = omega (arith, g.count_is, few);
        reads = Consumes-trans old.left link.left after.left g.read piece g.reads reads;
        cuts = stream_more g.read g.records pending piece g.cuts;
        sent = tt;
        begun = record { part = frames_of so_far; rest = []; parts = sym (append-nil (frames_of so_far)); appended = rw took g.sent };
        ends = tt;
        reading = omega (arith, g.reading, later);
        writing = omega (arith, g.writing, wrote);
      };
      does = record { whole = tt; begun = front_whole_of g.shown.whole.1; stays = g.shown.stays; excused = tt };
    }
    unheard stop.ReadFault piece reads took later wrote few says = absurd says
    unheard stop.WriteFault piece reads took later wrote few says = absurd says

    pub talks_unheard : {result : Result (Unit {0}) Stop} (cause : Stop) → result ≡ Err cause → Receives (Err cause) link.left after.left link.read_faults after.read_faults pending new
        → after.taken ≡ link.taken → link.read_faults ≤ after.read_faults → after.write_faults ≡ link.write_faults → count ≤ BUDGET → Talks m p level s result before now old after
    talks_unheard cause is r took later wrote few = rw is (unheard cause r.piece r.reads took later wrote few r.says)

  module _ (before now : Seen) (old link : Back) (pending : List ℕ) (d : State) (count : ℕ) (g : Going m p level s before now old link pending d count) where
    abbrev all_so_far : Talk
    all_so_far = talk m p level s g.records

    -- so many have come
    pub talks_spent : count ≡ BUDGET → Talks m p level s (Err (stop.Ends LinkClosed)) before now old link
    talks_spent all = record {
      records = g.records;
      link = record {
        pending = pending;
        read = g.read;
        few = omega (arith, g.count_is, all);
        reads = g.reads;
        cuts = g.cuts;
        sent = g.sent;
        begun = record { part = frames_of all_so_far; rest = []; parts = sym (append-nil (frames_of all_so_far)); appended = g.sent };
        ends = inr (g.count_is ∙ all);
        reading = g.reading;
        writing = g.writing;
      };
      does = record { whole = (sym (closed all_so_far (not_over d all_so_far g.state g.goes_on)), g.shown.whole.1); begun = front_whole_of g.shown.whole.1; stays = g.shown.stays; excused = tt };
    }

  -- ---- a record comes

  -- what it adds to what was asked and shown
  module _ (records : List (List ℕ)) (message : List ℕ) (d : State) (is : d ≡ (talk m p level s records).state) (on : d.is_over ≡ false) where
    abbrev step : Talk
    step = heard m p (fresh d) message

    abbrev before_it : Talk
    before_it = talk m p level s records

    grown : talk m p level s (records ++ message ∷ []) ≡ record { state = step.state; requests = before_it.requests ++ step.requests; texts = before_it.texts ++ step.texts }
    grown = talk_on m p level s records message ∙ subst (λ (x : State). heard m p before_it message ≡ record { state = (heard m p (fresh x) message).state; requests = before_it.requests ++ (heard m p (fresh x) message).requests; texts = before_it.texts ++ (heard m p (fresh x) message).texts })
        (sym is) (heard_on m p before_it message (ap (λ (x : State). x.is_over) (sym is) ∙ on))

    pub grown_state : (talk m p level s (records ++ message ∷ [])).state ≡ step.state
    grown_state = ap (λ (t : Talk). t.state) grown

    pub grown_frames : frames_of (talk m p level s (records ++ message ∷ [])) ≡ frames_of before_it ++ frames_of step
    grown_frames = ap frames_of grown ∙ flat_map-append frame_of before_it.requests step.requests

    pub grown_texts : texts_of (talk m p level s (records ++ message ∷ [])) ≡ texts_of before_it ++ texts_of step
    grown_texts = ap texts_of grown ∙ map-append to_out before_it.texts step.texts

  -- the link as the record was cut off, and as the next request was sent; d is the state before and e the one after
  module _ (before now after : Seen) (old link mid end : Back) (pending rest : List ℕ) (d e : State) (message : List ℕ) (count : ℕ) (g : Going m p level s before now old link pending d count) where
    abbrev more : List (List ℕ)
    more = g.records ++ message ∷ []

    abbrev added : Talk
    added = heard m p (fresh d) message

    abbrev whole : Talk
    whole = talk m p level s more

    frames_now : frames_of whole ≡ frames_of (talk m p level s g.records) ++ frames_of added
    frames_now = grown_frames g.records message d g.state g.goes_on

    texts_now : texts_of whole ≡ texts_of (talk m p level s g.records) ++ texts_of added
    texts_now = grown_texts g.records message d g.state g.goes_on

    module _ (got : List ℕ) (same : message ≡ got) (received : Receives (Ok got) link.left mid.left link.read_faults mid.read_faults pending rest) (took : mid.taken ≡ link.taken) (wrote : mid.write_faults ≡ link.write_faults) (read_later : link.read_faults ≤ mid.read_faults)
        (left : end.left ≡ mid.left) (read_same : end.read_faults ≡ mid.read_faults) (write_later : mid.write_faults ≤ end.write_faults) (room : count < BUDGET) where
      r : Receives (Ok message) link.left mid.left link.read_faults mid.read_faults pending rest
      r = subst (λ (x : List ℕ). Receives (Ok x) link.left mid.left link.read_faults mid.read_faults pending rest) (sym same) received

      reads_now : Consumes old.left end.left (g.read ++ r.piece)
      reads_now = subst (λ (l : Option (List ℕ)). Consumes old.left l (g.read ++ r.piece)) (sym left) (Consumes-trans old.left link.left mid.left g.read r.piece g.reads r.reads)

      cuts_now : Stream (g.read ++ r.piece) more rest
      cuts_now = stream_push (g.read ++ r.piece) g.records (pending ++ r.piece) message rest (stream_more g.read g.records pending r.piece g.cuts) r.says.1

      count_now : length more ≡ count + 1
      count_now = length_push g.records message ∙ omega (arith, g.count_is)

      sent_now : Appends mid.taken end.taken (frames_of added) → Appends old.taken end.taken (frames_of whole)
      sent_now a = subst (λ (l : List ℕ). Appends old.taken end.taken l) (sym frames_now)
          (Appends-trans old.taken link.taken end.taken (frames_of (talk m p level s g.records)) (frames_of added) g.sent (subst (λ (t : Option (List ℕ)). Appends t end.taken (frames_of added)) took a))

      part_now : AppendsPart mid.taken end.taken (frames_of added) → AppendsPart old.taken end.taken (frames_of whole)
      part_now a = record {
        part = frames_of (talk m p level s g.records) ++ a.part;
        rest = a.rest;
        parts = frames_now ∙ ap (λ (l : List ℕ). frames_of (talk m p level s g.records) ++ l) a.parts ∙ sym (append_assoc (frames_of (talk m p level s g.records)) a.part a.rest);
        appended = Appends-trans old.taken link.taken end.taken (frames_of (talk m p level s g.records)) a.part g.sent (subst (λ (t : Option (List ℕ)). Appends t end.taken a.part) took a.appended);
      }

      -- it was heard, and the next request was sent
      module _ (is : e ≡ added.state) (sent : Appends mid.taken end.taken (frames_of added)) (told : DoesBy {T = Unit {0}} mid.write_faults end.write_faults (Ok tt) now after (written (texts_of added))) where
        shown : Does {T = Unit {0}} (Ok tt) now after (written (texts_of added))
        shown = record { whole = told.whole; begun = told.begun; stays = told.stays; excused = tt }

        shown_now : Does {T = Unit {0}} (Ok tt) before after (written (texts_of whole))
        shown_now = subst (λ (ws : List Write). Does {T = Unit {0}} (Ok tt) before after (written ws)) (sym texts_now) (does_then tt (written (texts_of (talk m p level s g.records))) (written (texts_of added)) g.shown shown)

        state_now : e ≡ whole.state
        state_now = is ∙ sym (grown_state g.records message d g.state g.goes_on)

        pub going_on : Goes p e → e.is_over ≡ false → e.client.sent ≤ d.client.sent + 1 → Going m p level s before after old end rest e (count + 1)
        going_on suits on few = record {
          records = more;
          read = g.read ++ r.piece;
          count_is = count_now;
          reads = reads_now;
          cuts = cuts_now;
          state = state_now;
          goes_on = on;
          suits = suits;
          few = omega (arith, few, g.few);
          sent = sent_now sent;
          shown = shown_now;
          reading = omega (arith, g.reading, read_later, read_same);
          writing = omega (arith, g.writing, wrote, write_later);
        }

        over_now : e.is_over ≡ true → whole.state.is_over ≡ true
        over_now o = ap (λ (x : State). x.is_over) (sym state_now) ∙ o

        pub talks_over : e.is_over ≡ true → Talks m p level s (Ok tt) before after old end
        talks_over o = record {
          records = more;
          link = record {
            pending = rest;
            read = g.read ++ r.piece;
            few = omega (arith, count_now, room);
            reads = reads_now;
            cuts = cuts_now;
            sent = sent_now sent;
            begun = record { part = frames_of whole; rest = []; parts = sym (append-nil (frames_of whole)); appended = sent_now sent };
            ends = tt;
            reading = omega (arith, g.reading, read_later, read_same);
            writing = omega (arith, g.writing, wrote, write_later);
          };
          does = record { whole = (ap (λ b. cond b None (Some LinkClosed)) (sym (over_now o)), shown_now.whole.1); begun = front_whole_of shown_now.whole.1; stays = shown_now.stays; excused = tt };
        }

      -- it gave up
      given_link : (ending : Status) → IfSome (told_by ending) (λ told. Appends old.taken end.taken (frames_of whole)) → EndsAs ending end.left more rest → AppendsPart mid.taken end.taken (frames_of added) → IsTalk m p level s ending old end more
      given_link ending sent ends a = record {
        pending = rest;
        read = g.read ++ r.piece;
        few = omega (arith, count_now, room);
        reads = reads_now;
        cuts = cuts_now;
        sent = sent;
        begun = part_now a;
        ends = ends;
        reading = omega (arith, g.reading, read_later, read_same);
        writing = omega (arith, g.writing, wrote, write_later);
      }

      begun_now : TakesFront now after (texts_of added) → TakesFront before after (texts_of whole)
      begun_now t = subst (λ (ws : List Write). TakesFront before after ws) (sym texts_now) (front_then (texts_of (talk m p level s g.records)) (texts_of added) g.shown.whole.1 t)

      stopped : (cause : Stop) → WithoutFiles (status_of {T = Unit {0}} (Err cause)) → AppendsPart mid.taken end.taken (frames_of added) → DoesBy {T = Unit {0}} mid.write_faults end.write_faults (Err cause) now after (written (texts_of added)) → Talks m p level s (Err cause) before after old end
      stopped (stop.Ends ending) f a x = let h : ⊥ = cc (x.whole.0) in absurd h
      stopped stop.ReadFault f a x = absurd f
      stopped stop.WriteFault f a x = record {
        records = more;
        link = given_link status.WriteFault tt tt a;
        does = record { whole = tt; begun = begun_now x.begun; stays = stays_then g.shown.stays x.stays; excused = excused_before 0 0 stop.WriteFault before now after g.shown.stays x.excused };
      }
      stopped stop.NetFault f a x = record {
        records = more;
        link = given_link status.NetFault tt tt a;
        does = record { whole = tt; begun = begun_now x.begun; stays = stays_then g.shown.stays x.stays; excused = omega (arith, x.excused, wrote, g.writing, g.reading, read_later, read_same) };
      }
      stopped stop.Memory f a x = record {
        records = more;
        link = given_link status.Memory tt tt a;
        does = record { whole = tt; begun = begun_now x.begun; stays = stays_then g.shown.stays x.stays; excused = tt };
      }

      pub talks_stopped : {result : Result (Unit {0}) Stop} (cause : Stop) → result ≡ Err cause → WithoutFiles (status_of {T = Unit {0}} (Err cause)) → AppendsPart mid.taken end.taken (frames_of added) → DoesBy {T = Unit {0}} mid.write_faults end.write_faults (Err cause) now after (written (texts_of added)) → Talks m p level s result before after old end
      talks_stopped cause is f a x = rw is (stopped cause f a x)

-- ---- before the first record

module _ (m : Signing) (p : Policy) (level : ℕ) (s : Script) where
  nothing_read : (ending : Status) (old now : Back) → now.left ≡ old.left → now.read_faults ≡ old.read_faults → old.write_faults ≤ now.write_faults → IfSome (told_by ending) (λ told. Appends old.taken now.taken (frames_of (talk m p level s [])))
      → EndsAs ending now.left [] [] → AppendsPart old.taken now.taken (frames_of (talk m p level s [])) → IsTalk m p level s ending old now []
  nothing_read ending old now left read wrote sent ends a = record {
    pending = [];
    read = [];
    few = omega arith;
    reads = subst (λ (l : Option (List ℕ)). Consumes old.left l []) (sym left) (Consumes-nil old.left);
    cuts = refl;
    sent = sent;
    begun = a;
    ends = ends;
    reading = omega (arith, read);
    writing = wrote;
  }

  -- the first request couldn't be sent
  talks_unsent : (cause : Stop) (before : Seen) (old now : Back) → now.left ≡ old.left → now.read_faults ≡ old.read_faults → old.write_faults ≤ now.write_faults → IsOfLink old.write_faults now.write_faults cause → AppendsPart old.taken now.taken (frames_of (talk m p level s []))
      → Talks m p level s (Err cause) before before old now
  talks_unsent (stop.Ends ending) before old now left read wrote e a = absurd e
  talks_unsent stop.ReadFault before old now left read wrote e a = absurd e
  talks_unsent stop.WriteFault before old now left read wrote e a = absurd e
  talks_unsent stop.NetFault before old now left read wrote e a = record {
    records = [];
    link = nothing_read status.NetFault old now left read wrote tt tt a;
    does = record { whole = tt; begun = front_none before (texts_of (talk m p level s [])); stays = stays_same before; excused = omega (arith, e, read) };
  }
  talks_unsent stop.Memory before old now left read wrote e a = record {
    records = [];
    link = nothing_read status.Memory old now left read wrote tt tt a;
    does = record { whole = tt; begun = front_none before (texts_of (talk m p level s [])); stays = stays_same before; excused = tt };
  }

  first_part : (old now : Back) (d : State) → d ≡ beginning level s → AppendsPart old.taken now.taken (flat_map frame_of (message_of (request_in m p d.client))) → AppendsPart old.taken now.taken (frames_of (talk m p level s []))
  unfolding talk opened
  first_part old now d is a = subst (λ (x : State). AppendsPart old.taken now.taken (flat_map frame_of (message_of (request_in m p x.client)))) is a

  pub talks_unasked : {result : Result (Unit {0}) Stop} (cause : Stop) (before : Seen) (old now : Back) (d : State) → d ≡ beginning level s → result ≡ Err cause → AppendsPart old.taken now.taken (flat_map frame_of (message_of (request_in m p d.client)))
      → IsOfLink old.write_faults now.write_faults cause → old.write_faults ≤ now.write_faults → now.left ≡ old.left → now.read_faults ≡ old.read_faults → Talks m p level s result before before old now
  talks_unasked cause before old now d is stopped a excused later left read = rw stopped (talks_unsent cause before old now left read later excused (first_part old now d is a))

  -- there was no memory for the dialogue
  pub talks_short : {result : Result (Unit {0}) Stop} (before : Seen) (old : Back) → result ≡ Err stop.Memory → Talks m p level s result before before old old
  talks_short before old is = rw is (talks_unsent stop.Memory before old old refl refl (omega arith) tt (record { part = []; rest = frames_of (talk m p level s []); parts = refl; appended = nothing old.taken }))
