-- Shares of opens, and the sequence of a state id (RFC 8881 sections 9.7 and 8.2.2).
use Rattle.std.specs.Prelude.{ℕ, ◌+◌, ◌==◌, ◌&&◌, ◌||◌, Bool, false, not, cond, List, filter, map, Option, Some, None, bit_and, bit_or}
use Rattle.std.specs.List.{list_any}
use Rattle.std.specs.Str.{bytes_eq}
use Rattle.lnfs_world.specs.World.{Id, Open, same_id}
use Rattle.lnfs_world.specs.Change.{Change, EndOpen}
use Rattle.lnfs_world.specs.declared.numbers.TheConstants.{LAST_SEQUENCE}

abbrev pub has_any : (bits others : ℕ) → Bool
has_any bits others = not (bit_and bits others == 0)

-- A sequence of a state id doesn't come to 0 again (section 8.2.2).
abbrev pub sequence_after : ℕ → ℕ
sequence_after sequence = cond (sequence == LAST_SEQUENCE) 1 (sequence + 1)

-- with what is asked in addition
abbrev pub joined : (access deny : ℕ) → Open → Open
joined access deny o = record o { access = bit_or o.access access; deny = bit_or o.deny deny; sequence = sequence_after o.sequence }

-- ---- share reservations (section 9.7)

-- whether an open is that which a client and an owner have of a node
abbrev pub is_own : Option (Id × List ℕ) → (node : Id) → Open → Bool
is_own None node o = false
is_own (Some p) node o = p.0.level == o.id.level && (p.0.number == o.client && (bytes_eq p.1 o.owner && same_id node o.node))

-- an open denies what is asked, or is for what is to be denied
abbrev pub clashes : (access deny : ℕ) → Open → Bool
clashes access deny o = has_any o.deny access || has_any o.access deny

abbrev pub client_of : Open → Id
client_of o = record { level = o.id.level; number = o.client }

-- Whether an open of a node stands in the way of what a subject asks of it, under a client and an owner where it is an open
-- that is asked, by whether the leases of clients are over. Opens of levels that the subject doesn't dominate stand in
-- nobody's way, and those of clients whose leases are over neither.
abbrev pub stands_in_way : (dom : ℕ → ℕ → Bool) → (subject : ℕ) → (own : Option (Id × List ℕ)) → (node : Id) → (access deny : ℕ) → (over : Id → Bool) → Open → Bool
stands_in_way dom subject own node access deny over o =
    dom subject o.id.level && (not (is_own own node o) && (clashes access deny o && not (over (client_of o))))

abbrev pub conflicts : (dom : ℕ → ℕ → Bool) → (subject : ℕ) → (own : Option (Id × List ℕ)) → (node : Id) → (access deny : ℕ) → (over : Id → Bool) → List Open → Bool
conflicts dom subject own node access deny over opens = list_any (λ o. same_id node o.node && stands_in_way dom subject own node access deny over o) opens

-- Whether an open of a node gives way to one that is asked under a client and an owner: it is of the subject's own level, and
-- stands in nobody's way only because its client's lease is over.
abbrev pub gives_way : (subject : ℕ) → (own : Id × List ℕ) → (node : Id) → (access deny : ℕ) → (over : Id → Bool) → Open → Bool
gives_way subject own node access deny over o =
    o.id.level == subject && (not (is_own (Some own) node o) && (clashes access deny o && over (client_of o)))

-- the opens of the node that do
abbrev pub that_give_way : (subject : ℕ) → (own : Id × List ℕ) → (node : Id) → (access deny : ℕ) → (over : Id → Bool) → List Open → List Open
that_give_way subject own node access deny over opens = filter (λ o. same_id node o.node && gives_way subject own node access deny over o) opens

-- opens are ended, one after the other
abbrev pub ended : List Open → List Change
ended opens = map (λ o. EndOpen o.id) opens
