use Rattle.std.proofs.Common.{◌≡◌, ◌∙◌, ◌+◌, ◌<◌, ◌-◌, ℕ, List, ap, refl, sym, subst, arith, length}
use Rattle.std.proofs.lemmas.List.{length_push}
use Rattle.lnfs_types.specs.declared.event.Event.{Event}
use Rattle.lnfs_history.specs.declared.entry.Entry.{Entry}
use Rattle.lnfs_history.specs.Entries.{of}
use Rattle.lnfs_workers.specs.Transcripts.{entries_of}
use Rattle.lnfs_workers.specs.Served.{telling}
use Rattle.lnfs_workers.specs.Links.{Comes}
use Rattle.lnfs_workers.specs.Dealt.{AllAt}
use Rattle.lnfs_workers.specs.declared.line.Done.{Done}
use Rattle.lnfs_workers.specs.declared.line.LinkEnd.{LinkEnd}
use Rattle.lnfs_workers.proofs.Dealt.{Dealt, dealt_took, all_at_snoc}
use Rattle.lnfs_workers.proofs.settling.settle.Goals as goal

pub loop-one-init : goal.loop-one-init
loop-one-init g c =
    let none = c.new-ends.ensures.items in
    let links = c.args.links.now.value.items in
    let comes = Comes (telling g.L.Source.left g.L.Sink.taken g.L.Source.read_faults g.L.Sink.write_faults) (g.C.Clock.may c.args.clock.now) links in
    let entries = entries_of g.X.ExtraRows.extra g.M.Mechanism.signing g.B.Room.policy c.args.desk.books.journal in
    let P = λ (n : ℕ) (one : Done g.row.B.Denot g.row.L.Denot). (one.place.link ≡ n) × comes n one.end one.place.entries in
    let R = λ (n : ℕ) (end : LinkEnd g.row.L.Denot). comes n end (of n entries) in
    record {
      hands = subst (λ (l : List (LinkEnd g.row.L.Denot)). Dealt (λ hand. hand.items) P (length links) (length c.args.hands.items) (length l) c.args.hands.items) (sym none) c.requires.hands;
      size = refl;
      count = omega (arith, ap length none);
      ends = subst (AllAt R 0) (sym none) tt;
      books = refl;
      lines = refl;
    }

pub loop-one-preserved : goal.loop-one-preserved
loop-one-preserved g c =
    let i = c.loop-one.invariant in
    let links = c.args.links.now.value.items in
    let one = c.in-Some.one in
    let comes = Comes (telling g.L.Source.left g.L.Sink.taken g.L.Source.read_faults g.L.Sink.write_faults) (g.C.Clock.may c.args.clock.now) links in
    let entries = λ (journal : List Event). entries_of g.X.ExtraRows.extra g.M.Mechanism.signing g.B.Room.policy journal in
    let n = length c.loop-one.ends.items in
    let P = λ (n : ℕ) (one : Done g.row.B.Denot g.row.L.Denot). (one.place.link ≡ n) × comes n one.end one.place.entries in
    let R = λ (n : ℕ) (end : LinkEnd g.row.L.Denot). comes n end (of n (entries c.args.desk.books.journal)) in
    let took = dealt_took (λ hand. hand.items) P (length links) (length c.args.hands.items) n c.loop-one.hands.items c.take_next.new.hands.items one i.size c.in-Some.ensures i.hands in
    let less : n < length links = took.0 in
    let known : one.place.entries ≡ of n (entries c.args.desk.books.journal) = c.learn.ensures.whole ∙ (λ k. of (took.1.0 k) (entries (i.books k).journal)) in
    let items = c.in_ok-push.ensures.items in
    let more : n + 1 ≡ length c.push.new.self.items = sym (ap length items ∙ length_push c.loop-one.ends.items one.end ∙ omega arith) in
    record {
      hands = subst (λ (k : ℕ). Dealt (λ hand. hand.items) P (length links) (length c.args.hands.items) k c.take_next.new.hands.items) more took.2;
      size = took.3;
      count = omega (arith, less, more);
      ends = subst (AllAt R 0) (sym items) (all_at_snoc R 0 n c.loop-one.ends.items one.end (omega arith) i.ends
          (subst (λ (es : List Entry). comes n one.end es) known took.1.1));
      books = c.learn.ensures.books ∙ i.books;
      lines = c.learn.ensures.lines ∙ i.lines;
    }

fewer : (n m k : ℕ) → n < k → n + 1 ≡ m → k - m < k - n
fewer n m k less more = omega arith

pub loop-one-smaller : goal.loop-one-smaller
loop-one-smaller g c =
    let i = c.loop-one.invariant in
    let links = c.args.links.now.value.items in
    let n = length c.loop-one.ends.items in
    let comes = Comes (telling g.L.Source.left g.L.Sink.taken g.L.Source.read_faults g.L.Sink.write_faults) (g.C.Clock.may c.args.clock.now) links in
    let P = λ (n : ℕ) (one : Done g.row.B.Denot g.row.L.Denot). (one.place.link ≡ n) × comes n one.end one.place.entries in
    let took = dealt_took (λ hand. hand.items) P (length links) (length c.args.hands.items) n c.loop-one.hands.items c.take_next.new.hands.items c.in-Some.one i.size c.in-Some.ensures i.hands in
    let more : n + 1 ≡ length c.push.new.self.items = sym (ap length c.in_ok-push.ensures.items ∙ length_push c.loop-one.ends.items c.in-Some.one.end ∙ omega arith) in
    fewer n (length c.push.new.self.items) (length links) took.0 more
