use Rattle.std.proofs.Common.{◌≡◌, ◌∙◌, ◌+◌, ◌++◌, ◌∷◌, [], ap, refl, sym, arith, length, append_assoc}
use Rattle.std.proofs.lemmas.List.{length_push}
use Rattle.lnfs_history.specs.Entries.{known, part}
use Rattle.lnfs_workers.specs.declared.line.Waiting.{Waiting}
use Rattle.lnfs_workers.proofs.Pairs.{each_at_push}
use Rattle.lnfs_workers.proofs.pool.with_places.Goals as goal

pub loop-given-init : goal.loop-given-init
loop-given-init g c = record {
  front = ([], refl, rw c.new-all.ensures.items tt, ap length c.new-all.ensures.items, ap (known c.args.keeper.now.log) c.requires.first);
  room = omega (arith, ap length c.new-all.ensures.items);
}

pub loop-given-preserved : goal.loop-given-preserved
loop-given-preserved g c =
    let f = c.loop-given.invariant.front in
    let given = f.0 in
    let one : Waiting g.row.B.Denot g.row.L.Denot = record { class = c.in-Some.given.0; link = c.in-Some.given.1; place = c.place-place.result } in
    let items = c.in_ok-push.ensures.items in
    let here : c.len.result ≡ length given = omega (arith, c.len.ensures, f.3, c.loop-given.all.ok) in
    let longer : length (given ++ c.in-Some.given ∷ []) ≡ length given + 1 = length_push given c.in-Some.given in
    record {
      front = (
        given ++ c.in-Some.given ∷ [],
        f.1 ∙ ap (λ l. given ++ l) c.in-Some.ensures ∙ sym (append_assoc given (c.in-Some.given ∷ []) c.take_first.new.items.items),
        rw items (each_at_push _ 0 (length given) given c.loop-given.all.items c.in-Some.given one (omega arith) f.2 (refl, refl, c.place-place.ensures.place ∙ ap (λ n. part n []) here)),
        ap length items ∙ length_push c.loop-given.all.items one ∙ ap (λ n. n + 1) f.3 ∙ sym longer,
        c.place-place.ensures.keeper ∙ ap (λ k. known k.log (k.made + 1)) f.4 ∙ ap (known c.args.keeper.now.log) (sym longer),
      );
      room = omega (arith, ap length items, length_push c.loop-given.all.items one, ap length c.in-Some.ensures, c.loop-given.invariant.room);
    }
