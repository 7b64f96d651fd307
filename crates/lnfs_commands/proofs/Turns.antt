-- That a replay ends: each turn keeps an event in the journal, or a byte of a piece behind what is unread.
use Rattle.std.proofs.Common.{◌≡◌, ◌+◌, ◌-◌, ◌*◌, ◌^◌, ◌<◌, ℕ, Bool, true, false, cond, nat_eq, List, ◌∷◌, [], ◌++◌, length, ap, ◌∙◌, length-append, arith}
use Rattle.std.specs.Prelude.{Ok}
use Rattle.std.specs.declared.option.Option.TheVariants.{None}
use Rattle.std.proofs.lemmas.List.{length_push}
use Rattle.lnfs_types.specs.declared.event.Event.{Event}
use Rattle.lnfs_traffic.specs.Recording.{event_limit}
use Rattle.lnfs_traffic.specs.Pieces.{Unread, IsNext, fed_to}

-- what is unread is shorter where no event of it is whole
abbrev pub unread_limit : ℕ
unread_limit = event_limit + 8

-- The events that the journal can take still come first, and then the bytes that may come until one more is whole.
abbrev pub turns_left : (kept unread : ℕ) → ℕ
turns_left kept unread = (2 ^ 64 - kept) * (unread_limit + 1) + (unread_limit - unread)

falls_by_event : (before after unread other : ℕ) → after ≡ before + 1 → after < 2 ^ 64 → turns_left after other < turns_left before unread
falls_by_event before after unread other more few = omega (arith, more, few)

falls_by_byte : (kept before after piece : ℕ) → after ≡ before + piece → 0 < piece → before < unread_limit → turns_left kept after < turns_left kept before
falls_by_byte kept before after piece more some short = omega (arith, more, some, short)

-- an event was served
pub served_falls : (before after : List Event) (e : Event) (unread other : List ℕ) → after ≡ before ++ e ∷ [] → length after < 2 ^ 64 → turns_left (length after) (length other) < turns_left (length before) (length unread)
served_falls before after e unread other is few = falls_by_event (length before) (length after) (length unread) (length other) (ap length is ∙ length_push before e) few

below : (b : Bool) (n : ℕ) → n < cond b unread_limit event_limit → n < unread_limit
below true n p = p
below false n p = omega (arith, p)

-- a piece was fed
pub fed_falls : (kept : ℕ) (old next new : Unread) (piece : List ℕ) → IsNext (Ok None) old next → 0 < length piece → new ≡ fed_to next piece → turns_left kept (length new.rest) < turns_left kept (length old.rest)
fed_falls kept old next new piece n some fed =
    let rest : new.rest ≡ old.rest ++ piece = ap (λ (u : Unread). u.rest) fed ∙ ap (λ (u : Unread). u.rest ++ piece) n.1 in
    falls_by_byte kept (length old.rest) (length new.rest) (length piece) (ap length rest ∙ length-append old.rest piece) some (below (nat_eq old.place 0) (length old.rest) n.2)
