use Rattle.std.proofs.Common.{◌≡◌, ◌≤◌, ◌-◌, length}
use Rattle.lnfs_history.specs.Entries.{of}
use Rattle.lnfs_workers.specs.Transcripts.{entries_of}
use Rattle.lnfs_workers.specs.Served.{telling}
use Rattle.lnfs_workers.specs.Links.{Comes}
use Rattle.lnfs_workers.specs.Dealt.{AllAt, Hand}
use Rattle.lnfs_workers.proofs.settling.settle.Given as goal

abbrev pub invariant-loop-one : goal.invariant-loop-one
invariant-loop-one g l =
    let links = l.fn.links.value.items in
    let comes = Comes (telling g.L.Source.left g.L.Sink.taken g.L.Source.read_faults g.L.Sink.write_faults) (g.C.Clock.may l.fn.clock) links in
    record {
      hands : AllAt (λ m hand. Hand (λ n one. (one.place.link ≡ n) × comes n one.end one.place.entries) (length links) (length l.fn.hands.items) m hand.items) (length l.ends.items) l.hands.items;
      size : length l.hands.items ≡ length l.fn.hands.items;
      count : length l.ends.items ≤ length links;
      ends : AllAt (λ n end. comes n end (of n (entries_of g.X.ExtraRows.extra g.M.Mechanism.signing g.B.Room.policy l.fn.desk.books.journal))) 0 l.ends.items;
      books : l.desk.books ≡ l.fn.desk.books;
      lines : l.desk.notes.lines ≡ l.fn.desk.notes.lines;
    }

abbrev pub decreases-loop-one : goal.decreases-loop-one
decreases-loop-one g l = length l.fn.links.value.items - length l.ends.items
