-- How many opens of each node and level there are, and how many of them have each bit (RFC 8881 section 9.7).
use Rattle.std.specs.Prelude.{◌≡◌, ◌<◌, ◌≤◌, ◌+◌, ◌-◌, ℕ, ◌==◌, ◌&&◌, ◌||◌, Bool, not, cond, List, Option, Some, None, count_by, nat_lt}
use Rattle.std.specs.Ordering.{nat_cmp, ordering_then}
use Rattle.std.specs.declared.cmp.Ordering.{Ordering}
use Rattle.std.specs.BTreeMap.{get}
use Rattle.lnfs_world.specs.World.{Id, Open, id_order, same_id}
use Rattle.lnfs_world.specs.Opens.{has_any}
use Rattle.lnfs_world.specs.declared.numbers.TheConstants.{LAST_NUMBER}
use Rattle.lnfs_open.specs.declared.bits.TheConstants.{READING, WRITING, BOTH}
use Rattle.lnfs_open.specs.declared.tallies.Layer.{Layer}
use Rattle.lnfs_open.specs.declared.tallies.Tally.{Tally}
use Rattle.lnfs_open.specs.declared.tallies.Tallies.{Tallies}
use Rattle.lnfs_open.specs.Listed.{id_of, key_of}

abbrev pub layer_cmp : Layer → Layer → Ordering
layer_cmp a b = ordering_then (id_order (id_of a.node) (id_of b.node)) (nat_cmp a.level b.level)

abbrev pub layer_of : (node : Id) → (level : ℕ) → Layer
layer_of node level = record { node = key_of node; level = level }

abbrev pub no_tally : Tally
no_tally = record { opens = 0; reading = 0; writing = 0; reading_denied = 0; writing_denied = 0 }

abbrev pub tally_in : Option Tally → Tally
tally_in None = no_tally
tally_in (Some t) = t

-- what is told of a node and a level
abbrev pub tally_at : Tallies → (node : Id) → (level : ℕ) → Tally
tally_at tallies node level = tally_in (get layer_cmp tallies.layers (layer_of node level))

abbrev pub one_if : Bool → ℕ
one_if b = cond b 1 0

-- with one more open
abbrev pub more : (access deny : ℕ) → Tally → Tally
more access deny t = record {
  opens = t.opens + 1;
  reading = t.reading + one_if (has_any access READING);
  writing = t.writing + one_if (has_any access WRITING);
  reading_denied = t.reading_denied + one_if (has_any deny READING);
  writing_denied = t.writing_denied + one_if (has_any deny WRITING);
}

-- without one of the opens
abbrev pub less : (access deny : ℕ) → Tally → Tally
less access deny t = record {
  opens = t.opens - 1;
  reading = t.reading - one_if (has_any access READING);
  writing = t.writing - one_if (has_any access WRITING);
  reading_denied = t.reading_denied - one_if (has_any deny READING);
  writing_denied = t.writing_denied - one_if (has_any deny WRITING);
}

-- No bit is had by more opens than there are.
pub record IsSound (t : Tally) : Type 0 where
  pub reading : t.reading ≤ t.opens
  pub writing : t.writing ≤ t.opens
  pub reading_denied : t.reading_denied ≤ t.opens
  pub writing_denied : t.writing_denied ≤ t.opens

-- One more can be counted.
pub record HasRoom (t : Tally) : Type 0 where
  pub few : t.opens < LAST_NUMBER
  pub sound : IsSound t

-- One of the opens, with these uses, can be counted again.
pub record CanChange (access deny : ℕ) (t : Tally) : Type 0 where
  pub some : 0 < t.opens
  pub sound : IsSound (less access deny t)

-- whether one of the opens may have one of some bits, where so many have the first, and so many the second
abbrev pub may_have : (bits first second : ℕ) → Bool
may_have bits first second = nat_lt BOTH bits || (has_any bits READING && not (first == 0) || has_any bits WRITING && not (second == 0))

-- whether one of the opens may deny what is asked, or be for what is to be denied
abbrev pub may_clash : (access deny : ℕ) → Tally → Bool
may_clash access deny t = may_have access t.reading_denied t.writing_denied || may_have deny t.reading t.writing

-- ---- of opens

abbrev pub in_layer : (node : Id) → (level : ℕ) → Open → Bool
in_layer node level o = same_id o.node node && o.id.level == level

abbrev pub with_any : (of : Open → ℕ) → (bits : ℕ) → (node : Id) → (level : ℕ) → List Open → ℕ
with_any of bits node level opens = count_by (λ o. in_layer node level o && has_any (of o) bits) opens

abbrev pub tally_of : List Open → (node : Id) → (level : ℕ) → Tally
tally_of opens node level = record {
  opens = count_by (in_layer node level) opens;
  reading = with_any (λ o. o.access) READING node level opens;
  writing = with_any (λ o. o.access) WRITING node level opens;
  reading_denied = with_any (λ o. o.deny) READING node level opens;
  writing_denied = with_any (λ o. o.deny) WRITING node level opens;
}

-- What is told is true of the opens.
abbrev pub AreTallied : List Open → Tallies → Type 0
AreTallied opens tallies = (node : Id) (level : ℕ) → tally_at tallies node level ≡ tally_of opens node level
