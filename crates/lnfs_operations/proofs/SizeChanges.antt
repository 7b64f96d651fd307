-- Each operation, and the keeping of a result, keeps the sizes of a world.
use Rattle.std.proofs.Common.{◌≡◌, ◌≤◌, ◌+◌, ℕ, zero, suc, true, List, [], ◌∷◌, length, Option, Some, refl, ap, ◌∙◌, subst, arith}
use Rattle.std.specs.Prelude.{IfSome, slice_get, replicate}
use Rattle.std.specs.List.{AllByRecursion}
use Rattle.std.proofs.lemmas.Bool.{false≢true}
use Rattle.std.proofs.lemmas.Bool.Decides.{nat_tests}
use Rattle.lnfs_arguments.specs.declared.channel.Channel.{Channel as Asked}
use Rattle.lnfs_arguments.specs.declared.types.Op.{Op}
use Rattle.lnfs_world.specs.World.{Id, Client, Slot as SlotRow, Session, World, client_at, session_at, same_id}
use Rattle.lnfs_world.specs.World as world
use Rattle.lnfs_world.specs.Outcome.{Site, Place, done_to}
use Rattle.lnfs_world.specs.Both.{Both}
use Rattle.lnfs_world.proofs.Rows.{all_find}
use Rattle.lnfs_operations.specs.declared.numbers.TheConstants.{MOST_CREATED}
use Rattle.lnfs_operations.specs.Admission.{session_behind}
use Rattle.lnfs_operations.specs.CreateSession.{is_large_enough, granted_of, fresh_slot}
use Rattle.lnfs_operations.specs.Keeping.{with_slot}
use Rattle.lnfs_operations.specs.Sequence.{Sent}
use Rattle.lnfs_operations.specs.Served.{Keeper, Nowhere, Slot, Record, row}
use Rattle.lnfs_operations.specs.Sizes.{IsGranted, FitsResponse, SlotFits, SessionFits, ClientFits, Sizes, LabelsFit}
use Rattle.lnfs_operations.specs.SlotRule.{keep_in}
use Rattle.lnfs_operations.proofs.Walks.{Walk, all_fresh, all_with_slot, slot_of_all, row_left, keep_left}

-- ---- rows that are there

pub client_fits : (w : World) → Sizes w → (i : Id) (c : Client) → client_at w.clients i ≡ Some c → ClientFits c
client_fits w sizes i c found = (all_find ClientFits (λ c. same_id i c.id) w.clients c sizes.clients found).0

pub session_fits : (w : World) → Sizes w → (i : Id) (x : Session) → session_at w.sessions i ≡ Some x → SessionFits x
session_fits w sizes i x found = (all_find SessionFits (λ x. same_id i x.id) w.sessions x sizes.sessions found).0

pub slot_fits : (most n : ℕ) (slots : List SlotRow) (slot : SlotRow) → AllByRecursion (SlotFits most) slots → slice_get slots n ≡ Some slot → SlotFits most slot
slot_fits most n slots slot all is = slot_of_all (SlotFits most) n slots slot all is

-- ---- sessions

fresh_length : (n : ℕ) → length (replicate n fresh_slot) ≡ n
fresh_length zero = refl
fresh_length (suc n) = omega (arith, fresh_length n)

with_slot_length : (n : ℕ) (row : SlotRow) (xs : List SlotRow) → length (with_slot n row xs) ≡ length xs
with_slot_length n row [] = refl
with_slot_length zero row (x ∷ xs) = refl
with_slot_length (suc n) row (x ∷ xs) = omega (arith, with_slot_length n row xs)

granted_fits : (fore : Asked) → is_large_enough fore ≡ true → IsGranted (granted_of fore)
granted_fits fore large = record {
  request = (grind (arith, nat_tests, large), omega arith);
  response = (grind (arith, nat_tests, large), omega arith);
  cached = (grind (arith, nat_tests, large), omega arith);
  operations = (grind (arith, nat_tests, large), omega arith);
  requests = (grind (arith, nat_tests, large), omega arith);
}

-- sizes of sessions and of the results that are kept, for a walk
abbrev sizes_walk : (Spells : Type 0) → Spells → Walk Spells
sizes_walk Spells spells = record {
  Holds = Sizes;
  OfSession = SessionFits;
  OfClient = ClientFits;
  OfSlot = λ x kept. FitsResponse x.channel.max_response kept.reply;
  OfRecord = λ level kept. length kept.reply ≤ MOST_CREATED;
  sessions = λ w sizes. sizes.sessions;
  clients = λ w sizes. sizes.clients;
  holds = λ w v sizes sessions clients nodes. record { sessions = sessions; clients = clients; nodes = nodes spells sizes.nodes };
  is_new = λ i args. record { kept = tt; seen = λ is. absurd (false≢true is) };
  when_confirmed = λ p c fits. record { kept = fits.kept; seen = λ is. refl };
  when_renewed = λ moment c fits. record { kept = fits.kept; seen = λ is. refl };
  when_reclaimed = λ c fits. record { kept = fits.kept; seen = fits.seen };
  when_kept = λ c kept fits short. record { kept = short; seen = fits.seen };
  made = λ i c fore large. record { granted = granted_fits fore large; slots = fresh_length (granted_of fore).max_requests; kept = all_fresh (SlotFits (granted_of fore).max_response) tt (granted_of fore).max_requests };
  kept = λ x slot sequence kept fits short.
      let row : SlotRow = record { sequence = sequence; kept = Some kept } in
      record { granted = fits.granted; slots = with_slot_length slot row x.slots ∙ fits.slots; kept = all_with_slot (SlotFits x.channel.max_response) slot row x.slots short fits.kept };
}

pub row_sizes : (site : Site) → LabelsFit site → (sent : Sent) (p : Place) (w : World) → Sizes w → (op : Op) → Sizes (done_to w (row site sent op p w))
row_sizes site labels sent p w sizes op = row_left site (λ fit. fit) (sizes_walk (LabelsFit site) labels) sent p w sizes op

-- ---- the keeping of a result

-- what a result has to fit in a slot of a session, and how many operations its COMPOUND may count
pub record FitsSlot (count : ℕ) (result : List ℕ) (x : Session) : Type 0 where
  pub short : FitsResponse x.channel.max_response result
  pub few : count ≤ x.channel.max_operations

-- what a result has to fit where it is kept
abbrev pub FitsIn : {Row : Type 0} → (count : ℕ) → Keeper → (result : List ℕ) → Place → Both Row → Type 0
FitsIn count Nowhere result p b = Unit {0}
FitsIn count (Slot slot sequence) result p b = IfSome (session_behind p p.session b.world.sessions) (FitsSlot count result)
FitsIn count (Record client) result p b = length result ≤ MOST_CREATED

-- in the session in which the place stands
pub fits_slot : (count : ℕ) (result : List ℕ) (p : Place) (sessions : List Session) (number : ℕ) (x : Session) → p.session ≡ Some number → session_at sessions (record { level = p.subject; number = number }) ≡ Some x → IfSome (session_behind p p.session sessions) (FitsSlot count result) → FitsSlot count result x
fits_slot count result p sessions number x named found fits = subst (λ (o : Option Session). IfSome o (FitsSlot count result)) (ap (λ (o : Option ℕ). session_behind p o sessions) named ∙ found) fits

module _ {Row : Type 0} (p : Place) (b : Both Row) (sizes : Sizes b.world) (count : ℕ) (kept : world.Kept) where
  pub keep_sizes : (keeper : Keeper) → FitsIn count keeper kept.reply p b → Sizes (done_to b.world (keep_in keeper kept p b.world))
  keep_sizes Nowhere fits = sizes
  keep_sizes (Slot slot sequence) fits = keep_left (sizes_walk (Unit {0}) tt) p b.world sizes kept (Slot slot sequence) (λ number x named found. (fits_slot count kept.reply p b.world.sessions number x named found fits).short)
  keep_sizes (Record client) fits = keep_left (sizes_walk (Unit {0}) tt) p b.world sizes kept (Record client) fits
