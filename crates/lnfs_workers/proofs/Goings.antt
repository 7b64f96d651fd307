-- How the service of a link goes on, and how it ends.
use Rattle.std.proofs.Common.{◌≡◌, ◌<◌, ◌≤◌, ℕ, List, [], ◌∷◌, ◌++◌, length, refl, sym, ap, ◌∙◌, append_assoc, append-nil, subst, arith, Some, None}
use Rattle.std.specs.declared.option.Option.{Option}
use Rattle.std.specs.Io.KnownBytes.{Appends, Consumes}
use Rattle.std.proofs.KnownBytes.{Consumes-trans, Appends-trans}
use Rattle.lnfs_outside.specs.Bytes.{AppendsPart}
use Rattle.lnfs_rpc.specs.Formats.{whole_record}
use Rattle.lnfs_rpc.specs.CallGrammar.{Begins}
use Rattle.lnfs_rpc.specs.Records.{Stream, IsPartial}
use Rattle.lnfs_types.specs.declared.event.Moment.{Moment}
use Rattle.lnfs_history.specs.declared.entry.Entry.{Entry}
use Rattle.lnfs_history.specs.Entries.{Part}
use Rattle.lnfs_workers.specs.Transcripts.{messages, framed, transcript}
use Rattle.lnfs_incoming.specs.declared.ending.TheConstants.{BUDGET}
use Rattle.lnfs_incoming.specs.declared.ending.Ending.{Ending}
use Rattle.lnfs_incoming.specs.declared.ending.Ending.TheVariants.{Closed, Cut, ReadFault, WriteFault, TooLong, Budget, Memory}
use Rattle.lnfs_incoming.specs.Incoming.{IsOfCutting, SaysRead, ReadOn}
use Rattle.lnfs_workers.specs.Turns.{IsOfWriting}
use Rattle.lnfs_workers.specs.Served.{Tells, Going, EndsAs, Service}
use Rattle.lnfs_workers.specs.Links.{IsServed}
use Rattle.lnfs_workers.specs.declared.line.LinkEnd.{LinkEnd}
use Rattle.lnfs_incoming.proofs.Records.{stream_more, stream_push}
use Rattle.lnfs_workers.proofs.Records.{messages_push, transcript_push}

-- bytes were read behind what is pending
more_read : (old now new : Tells) (pending piece : List ℕ) (entries : List Entry) → Going old now pending entries → Consumes now.left new.left piece
    → now.read_faults ≤ new.read_faults → new.taken ≡ now.taken → new.write_faults ≡ now.write_faults → Going old new (pending ++ piece) entries
more_read old now new pending piece entries g reads later took wrote = record {
  read = g.read ++ piece;
  reads = Consumes-trans old.left now.left new.left g.read piece g.reads reads;
  cuts = stream_more g.read (messages entries) pending piece g.cuts;
  writes = subst (λ (t : Option (List ℕ)). Appends old.taken t (transcript entries)) (sym took) g.writes;
  reading = omega (arith, g.reading, later);
  writing = omega (arith, g.writing, wrote);
}

pub read_more : (old now new : Tells) (pending after : List ℕ) (entries : List Entry) → Going old now pending entries
    → ReadOn None now.left new.left now.read_faults new.read_faults pending after
    → now.read_faults ≤ new.read_faults → new.taken ≡ now.taken → new.write_faults ≡ now.write_faults → Going old new after entries
read_more old now new pending after entries g r later took wrote =
    subst (λ (l : List ℕ). Going old new l entries) (sym r.says.1) (more_read old now new pending r.piece entries g r.reads later took wrote)

-- ---- a record is served

-- its bytes are cut
cut_one : (read : List ℕ) (entries : List Entry) (pending after : List ℕ) (e : Entry) → Stream read (messages entries) pending → Begins whole_record e.event.message pending (λ rest. rest ≡ after)
    → Stream read (messages (entries ++ e ∷ [])) after
cut_one read entries pending after e s b = subst (λ (ms : List (List ℕ)). Stream read ms after) (sym (messages_push entries e)) (stream_push read (messages entries) pending e.event.message after s b)

pub serves : (old now new : Tells) (pending after : List ℕ) (entries : List Entry) (e : Entry) → Going old now pending entries
    → Begins whole_record e.event.message pending (λ rest. rest ≡ after) → Appends now.taken new.taken (framed e.reply)
    → now.write_faults ≤ new.write_faults → new.left ≡ now.left → new.read_faults ≡ now.read_faults → Going old new after (entries ++ e ∷ [])
serves old now new pending after entries e g b w later left read = record {
  read = g.read;
  reads = subst (λ (t : Option (List ℕ)). Consumes old.left t g.read) (sym left) g.reads;
  cuts = cut_one g.read entries pending after e g.cuts b;
  writes = subst (λ (l : List ℕ). Appends old.taken new.taken l) (sym (transcript_push entries e)) (Appends-trans old.taken now.taken new.taken (transcript entries) (framed e.reply) g.writes w);
  reading = omega (arith, g.reading, read);
  writing = omega (arith, g.writing, later);
}

-- ---- ends

-- all that was served was written
settled : (ending : Ending) (old now : Tells) (pending : List ℕ) (entries : List Entry) (g : Going old now pending entries)
    → EndsAs ending old now entries [] pending (transcript entries) [] → Service ending old now entries
settled ending old now pending entries g ends = record {
  read = g.read;
  unserved = [];
  pending = pending;
  front = transcript entries;
  lost = [];
  reads = g.reads;
  cuts = subst (λ (ms : List (List ℕ)). Stream g.read ms pending) (sym (append-nil (messages entries))) g.cuts;
  writes = g.writes;
  replies = sym (append-nil (transcript entries));
  reading = g.reading;
  writing = g.writing;
  ends = ends;
}

-- no record is given
pub ends_cutting : (ending : Ending) (old now : Tells) (pending : List ℕ) (entries : List Entry) → Going old now pending entries → IsOfCutting ending pending → Service ending old now entries
ends_cutting Closed old now pending entries g i = absurd i
ends_cutting Cut old now pending entries g i = absurd i
ends_cutting ReadFault old now pending entries g i = absurd i
ends_cutting WriteFault old now pending entries g i = absurd i
ends_cutting TooLong old now pending entries g i = settled TooLong old now pending entries g (refl, i, refl)
ends_cutting Budget old now pending entries g i = absurd i
ends_cutting Memory old now pending entries g i = settled Memory old now pending entries g (omega arith)

-- at a reading
pub ends_reading : (ending : Ending) (old now new : Tells) (pending after : List ℕ) (entries : List Entry) → Going old now pending entries → IsPartial pending
    → ReadOn (Some ending) now.left new.left now.read_faults new.read_faults pending after
    → now.read_faults ≤ new.read_faults → new.taken ≡ now.taken → new.write_faults ≡ now.write_faults → Service ending old new entries
ends_reading ending old now new pending after entries g part r later took wrote = by_ending ending r.says
  where
    going : Going old new (pending ++ r.piece) entries
    going = more_read old now new pending r.piece entries g r.reads later took wrote

    same : r.piece ≡ [] → pending ++ r.piece ≡ pending
    same none = ap (λ (l : List ℕ). pending ++ l) none ∙ append-nil pending

    by_ending : (e : Ending) → SaysRead (Some e) new.left now.read_faults new.read_faults pending after r.piece → Service e old new entries
    by_ending Closed s = settled Closed old new (pending ++ r.piece) entries going (s.2, refl, same s.1 ∙ s.0, refl)
    by_ending Cut s = settled Cut old new (pending ++ r.piece) entries going
        (s.2, refl, subst (λ (l : List ℕ). 0 < length l) (sym (same s.1)) s.0, subst IsPartial (sym (same s.1)) part, refl)
    by_ending ReadFault s = settled ReadFault old new (pending ++ r.piece) entries going
        (omega (arith, g.reading, s.1), refl, subst IsPartial (sym (same s.0)) part, refl)
    by_ending WriteFault s = absurd s
    by_ending TooLong s = absurd s
    by_ending Budget s = absurd s
    by_ending Memory s = settled Memory old new (pending ++ r.piece) entries going (omega arith)

-- with a record that was cut and not served
unserved : (ending : Ending) (old now : Tells) (pending after : List ℕ) (entries : List Entry) (r : List ℕ) (g : Going old now pending entries)
    → Begins whole_record r pending (λ rest. rest ≡ after) → EndsAs ending old now entries (r ∷ []) after (transcript entries) [] → Service ending old now entries
unserved ending old now pending after entries r g b ends = record {
  read = g.read;
  unserved = r ∷ [];
  pending = after;
  front = transcript entries;
  lost = [];
  reads = g.reads;
  cuts = stream_push g.read (messages entries) pending r after g.cuts b;
  writes = g.writes;
  replies = sym (append-nil (transcript entries));
  reading = g.reading;
  writing = g.writing;
  ends = ends;
}

pub out_of_memory : (old now : Tells) (pending after : List ℕ) (entries : List Entry) (r : List ℕ) → Going old now pending entries
    → Begins whole_record r pending (λ rest. rest ≡ after) → Service Memory old now entries
out_of_memory old now pending after entries r g b = unserved Memory old now pending after entries r g b (omega arith)

pub out_of_budget : (old now : Tells) (pending after : List ℕ) (entries : List Entry) (r : List ℕ) → Going old now pending entries
    → Begins whole_record r pending (λ rest. rest ≡ after) → length entries ≡ BUDGET → Service Budget old now entries
out_of_budget old now pending after entries r g b all = unserved Budget old now pending after entries r g b (all, refl, refl)

-- a reply was not written whole
pub ends_writing : (ending : Ending) (old now new : Tells) (pending after : List ℕ) (entries : List Entry) (e : Entry) → Going old now pending entries
    → Begins whole_record e.event.message pending (λ rest. rest ≡ after) → IsOfWriting now.write_faults new.write_faults ending → AppendsPart now.taken new.taken (framed e.reply)
    → now.write_faults ≤ new.write_faults → new.left ≡ now.left → new.read_faults ≡ now.read_faults → Service ending old new (entries ++ e ∷ [])
ends_writing ending old now new pending after entries e g b is_of w later left read = record {
  read = g.read;
  unserved = [];
  pending = after;
  front = transcript entries ++ w.part;
  lost = w.rest;
  reads = subst (λ (t : Option (List ℕ)). Consumes old.left t g.read) (sym left) g.reads;
  cuts = subst (λ (ms : List (List ℕ)). Stream g.read ms after) (sym (append-nil (messages (entries ++ e ∷ [])))) (cut_one g.read entries pending after e g.cuts b);
  writes = Appends-trans old.taken now.taken new.taken (transcript entries) w.part g.writes w.appended;
  replies = transcript_push entries e ∙ ap (λ (l : List ℕ). transcript entries ++ l) w.parts ∙ sym (append_assoc (transcript entries) w.part w.rest);
  reading = omega (arith, g.reading, read);
  writing = omega (arith, g.writing, later);
  ends = by_ending ending is_of;
}
  where
    by_ending : (k : Ending) → IsOfWriting now.write_faults new.write_faults k → EndsAs k old new (entries ++ e ∷ []) [] after (transcript entries ++ w.part) w.rest
    by_ending Closed h = absurd h
    by_ending Cut h = absurd h
    by_ending ReadFault h = absurd h
    by_ending WriteFault h = (omega (arith, g.writing, h), refl, record { earlier = entries; last = e; part = w.part; all = refl; before = refl; behind = w.parts })
    by_ending TooLong h = absurd h
    by_ending Budget h = absurd h
    by_ending Memory h = absurd h

-- a reply was lost before any of it was written
pub lost_reply : (old now : Tells) (pending after : List ℕ) (entries : List Entry) (e : Entry) → Going old now pending entries
    → Begins whole_record e.event.message pending (λ rest. rest ≡ after) → Service Memory old now (entries ++ e ∷ [])
lost_reply old now pending after entries e g b = record {
  read = g.read;
  unserved = [];
  pending = after;
  front = transcript entries;
  lost = framed e.reply;
  reads = g.reads;
  cuts = subst (λ (ms : List (List ℕ)). Stream g.read ms after) (sym (append-nil (messages (entries ++ e ∷ [])))) (cut_one g.read entries pending after e g.cuts b);
  writes = g.writes;
  replies = transcript_push entries e;
  reading = g.reading;
  writing = g.writing;
  ends = omega arith;
}

-- What is told of a link that is over is what was served: the link that was closed tells what it told before.
pub told_over : {L : Type 0} (tell : L → Tells) (may : Moment → Type 0) (class : ℕ) (link : L) (end said : LinkEnd L) (place held : Part)
    → end ≡ record { class = said.class; link = end.link; ending = said.ending; records = said.records } → tell end.link ≡ tell said.link → place ≡ held
    → IsServed tell may class link said held.entries → IsServed tell may class link end place.entries
told_over {L} tell may class link end said place held is told same served =
    subst (λ (p : Part). IsServed tell may class link end p.entries) (sym same) (record {
      bears = ap (λ (e : LinkEnd L). e.class) is ∙ served.bears;
      records = ap (λ (e : LinkEnd L). e.records) is ∙ served.records;
      few = served.few;
      events = served.events;
      service = subst (λ (p : Ending × Tells). Service p.0 (tell link) p.1 held.entries) (λ t. (sym (ap (λ (e : LinkEnd L). e.ending) is) t, sym told t)) served.service;
    })
