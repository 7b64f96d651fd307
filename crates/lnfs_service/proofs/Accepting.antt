-- Links that came, and a service of them.
use Rattle.std.proofs.Common.{◌≡◌, ◌<◌, ◌≤◌, ℕ, zero, suc, ◌+◌, take, get_or, List, [], ◌∷◌, ◌++◌, length, map, All, refl, sym, ap, ◌∙◌, subst, arith, inr}
use Rattle.std.proofs.lemmas.List.{map-append, take_more}
use Rattle.std.proofs.lemmas.List.Elements.{All-push}
use Rattle.std.specs.Prelude.{Result, Ok, Err, OnOk, IfErr}
use Rattle.std.specs.declared.option.Option.{Option}
use Rattle.std.specs.declared.option.Option.TheVariants.{Some, None}
use Rattle.lnfs_outside.specs.Nets.{Deal, Back, Grows}
use Rattle.lnfs_types.specs.declared.event.Event.{Event}
use Rattle.lnfs_types.specs.declared.event.Moment.{Moment}
use Rattle.lnfs_policy.specs.Policy.{Policy}
use Rattle.lnfs_gss3.specs.Mechanism.{Signing}
use Rattle.lnfs_operations.specs.Extra.{Extra}
use Rattle.lnfs_history.specs.Entries.{of}
use Rattle.lnfs_workers.specs.Links.{IsServed}
use Rattle.lnfs_workers.specs.Pairs.{EachAt}
use Rattle.lnfs_workers.specs.Transcripts.{entries_of}
use Rattle.lnfs_workers.specs.declared.line.LinkEnd.{LinkEnd}
use Rattle.lnfs_stage.specs.declared.stop.Stop.{Stop}
use Rattle.lnfs_stage.specs.declared.stop.Stop.TheVariants.{Ends, ReadFault, WriteFault, Memory, NetFault}
use Rattle.lnfs_stage.specs.Seen.{Seen}
use Rattle.lnfs_stage.specs.Ending.{status_of}
use Rattle.lnfs_stage.specs.Does.{Does}
use Rattle.lnfs_stage.proofs.Writing.{front_none}
use Rattle.lnfs_stage.proofs.Staying.{stays_same}
use Rattle.lnfs_stage.proofs.Doing.{beside_net}
use Rattle.lnfs_service.specs.Handed.{Dealings, dealings, Adds, Deals, AreServed}
use Rattle.lnfs_service.specs.Links.{AreUnserved, Came, IsCut, IsNew, deal_of, told_end}
use Rattle.lnfs_service.specs.Serves.{IsUntold, NetStop, Remains, Serves, served}
use Rattle.lnfs_service.specs.Session.{Session, FoundMemory, IsSession, IsShort}
use Rattle.lnfs_service.proofs.Dealing.{adds_none, adds_more, says, untouched, nothing}
use Rattle.lnfs_service.proofs.Handing.{unserved_is, served_is}
use Rattle.lnfs_service.proofs.Sessions.{IsPurged, New, classes_dealt, began_all, fresh_all, is_session, told_found}

on_ok : {T E : Type 0} (result : Result T E) {A B : Type 0} → (A → B) → OnOk result A → OnOk result B
on_ok {T} {E} result {A} {B} f h = elim result as (λ r. OnOk r A → OnOk r B) [
  | Ok value ↦ λ x. f x
  | Err error ↦ λ x. tt
] h

-- ---- a service that doesn't begin

pub cut_at : (xs : List ℕ) (n : ℕ) → n < length xs → IsCut xs (take n xs)
cut_at [] n less = absurd (omega (arith, less))
cut_at (x ∷ xs) zero less = (x, xs, refl)
cut_at (x ∷ xs) (suc n) less = let cut = cut_at xs n (omega (arith, less)) in (cut.0, cut.1, ap (λ (l : List ℕ). x ∷ l) cut.2)

-- what is said of a call by the stop that it gave up with
pub on_stop : {T : Type 0} (result : Result T Stop) (P : Stop → Type 0) (stop : Stop) → result ≡ Err stop → P stop → IfErr result P
on_stop result P stop is p = rw is p

module _ (classes : List ℕ) (dealt : Option (List Deal)) (backs : Option (List Back)) where
  pub none_for_memory : (stop : Stop) → stop ≡ Memory → Deals (dealings dealt dealt backs backs) (AreUnserved stop classes)
  none_for_memory stop is = rw is (untouched dealt backs nothing)

  pub none_for_net : (stop : Stop) → stop ≡ NetFault → 0 < length classes → Deals (dealings dealt dealt backs backs) (AreUnserved stop classes)
  none_for_net stop is some = let cut : IsCut classes [] = cut_at classes 0 some in rw is (untouched dealt backs (record { class = cut.0; others = cut.1; dealt = cut.2; handed = refl }))

-- one more link, of the next class
module _ {L : Type 0} (classes : List ℕ) (n : ℕ) (less : n < length classes) (links : List (ℕ × L)) (link : L) {now : List (ℕ × L)} (is : now ≡ links ++ (get_or classes n 0, link) ∷ []) where
  pub all_more : map (λ link. link.0) links ≡ take n classes → map (λ link. link.0) now ≡ take (n + 1) classes
  all_more all =
      ap (map (λ (x : ℕ × L). x.0)) is
      ∙ map-append (λ (x : ℕ × L). x.0) links ((get_or classes n 0, link) ∷ [])
      ∙ ap (λ (front : List ℕ). front ++ get_or classes n 0 ∷ []) all
      ∙ sym (take_more classes n 0 less)

  module _ (tell : L → Back) where
    pub new_more : New tell links → IsNew (tell link) → New tell now
    new_more all new = subst (λ (xs : List (ℕ × L)). New tell xs) (sym is) (All-push (λ (x : ℕ × L). IsNew (tell x.1)) links (get_or classes n 0, link) all new)

    pub dealt_more : (a b c : Option (List Deal)) → Adds a b (map (deal_of tell) links) → Grows b c (deal_of tell (get_or classes n 0, link)) → Adds a c (map (deal_of tell) now)
    dealt_more a b c all grows =
        subst (λ (deals : List Deal). Adds a c deals) (sym (ap (map (deal_of tell)) is ∙ map-append (deal_of tell) links ((get_or classes n 0, link) ∷ [])))
        (adds_more a b c (map (deal_of tell) links) (deal_of tell (get_or classes n 0, link)) all grows)

module _ {L : Type 0} (tell : L → Back) (classes : List ℕ) (links : List (ℕ × L)) {dealt dealt' : Option (List Deal)} {backs backs' : Option (List Back)} where
  pub some_for_net : (stop : Stop) → stop ≡ NetFault → IsCut classes (map (λ link. link.0) links) → New tell links
      → Adds dealt dealt' (map (deal_of tell) links) → Adds backs backs' (map (λ link. tell link.1) links) → Deals (dealings dealt dealt' backs backs') (AreUnserved stop classes)
  some_for_net stop is cut new d b = rw is (record {
    deals = map (deal_of tell) links;
    backs = map (λ link. tell link.1) links;
    dealt = d;
    handed = b;
    say = record {
      class = cut.0;
      others = cut.1;
      dealt = cut.2 ∙ ap (λ (front : List ℕ). front ++ cut.0 ∷ cut.1) (sym (classes_dealt tell links));
      handed = began_all tell links new;
    };
  })

  -- there was no memory to serve them
  pub links_lost : Came tell classes links (dealings dealt dealt' backs backs') → Deals (dealings dealt dealt' backs backs') (IsShort classes)
  links_lost came = record {
    deals = map (deal_of tell) links;
    backs = [];
    dealt = came.dealt;
    handed = rw came.kept (adds_none backs);
    say = record { dealt = classes_dealt tell links ∙ came.all; fresh = fresh_all tell links came.new; kept = refl };
  }

module _ (X : Extra) (may : Moment → Type 0) (m : Signing) (policy : Policy) (before : List Event) (classes : List ℕ) where
  serves_none : {s : Seen} {n n' : ℕ} {d : Dealings} (stop : Stop) {result : Result (Unit {0}) Stop} → result ≡ Err stop → NetStop stop n n' → Remains n n' → Deals d (AreServed (Unit {0}) (IsSession X may m policy before) None (status_of {T = Unit {0}} (Err stop)) classes) → Serves X may m policy before classes result s s n n' d
  serves_none (Ends ending) is x later links = absurd x
  serves_none ReadFault is x later links = absurd x
  serves_none WriteFault is x later links = absurd x
  serves_none {s} Memory is x later links = rw is (record { session = None; does = record { whole = tt; begun = front_none s []; stays = stays_same s; excused = tt }; links = links; later = later })
  serves_none {s} NetFault is x later links = rw is (record { session = None; does = record { whole = tt; begun = front_none s []; stays = stays_same s; excused = x }; links = links; later = later })

  pub serves_stopped : {s : Seen} {n n' : ℕ} {d : Dealings} (stop : Stop) {result : Result (Unit {0}) Stop} → result ≡ Err stop → NetStop stop n n' → Remains n n' → Deals d (AreUnserved stop classes) → Serves X may m policy before classes result s s n n' d
  serves_stopped stop is x later deals = serves_none stop is x later (says (unserved_is (Unit {0}) (IsSession X may m policy before) classes tt stop) deals)

  pub serves_short : {s : Seen} {n n' : ℕ} {d : Dealings} {result : Result (Unit {0}) Stop} → result ≡ Err Memory → Remains n n' → Deals d (IsShort classes) → Serves X may m policy before classes result s s n n' d
  serves_short is later deals = serves_none Memory is tt later (says (λ deals backs short. inr (tt, short)) deals)

-- ---- a service, and what is told of it

module _ (X : Extra) (may : Moment → Type 0) (m : Signing) (policy : Policy) (classes : List ℕ) where
  module _ {L : Type 0} (tell : L → Back) (links : List (ℕ × L)) (ends : List (LinkEnd L)) (journal : List Event) {dealt dealt' dealt'' : Option (List Deal)} {backs backs' backs'' : Option (List Back)} (came : Came tell classes links (dealings dealt dealt' backs backs')) where
    pub serves_told : {result : Result (Unit {0}) Stop} {s t : Seen} {n n' n'' : ℕ}
        → IsPurged X m policy
        → EachAt (λ n link end. IsServed tell may link.0 link.1 end (of n (entries_of X m policy journal))) 0 links ends
        → ((link : ℕ) → length links ≤ link → of link (entries_of X m policy journal) ≡ [])
        → Does result s t (served X m policy [] (Some (record { journal = journal; ends = map (told_end tell) ends })))
        → IfErr result IsUntold → OnOk result (All FoundMemory ends) → dealt'' ≡ dealt' → Adds backs' backs'' (map (λ end. tell end.link) ends) → Remains n n' → Remains n' n''
        → Serves X may m policy [] classes result s t n n'' (dealings dealt dealt'' backs backs'')
    serves_told {result} {s} {t} {n} {n'} {n''} purged each others does untold found same handed first last =
        let session : Session = record { journal = journal; ends = map (told_end tell) ends } in
        let deals : List Deal = map (deal_of tell) links in
        let given : List Back = map (λ end. tell end.link) ends in
        let is : IsSession X may m policy [] session classes deals given = is_session tell X may m policy journal classes links ends purged came.all came.new each others in
        let all : OnOk result (All FoundMemory session.ends) = on_ok result (told_found tell ends) found in
        record {
          session = Some session;
          does = beside_net n n'' does;
          links = record {
            deals = deals;
            backs = given;
            dealt = rw same came.dealt;
            handed = subst (λ (b : Option (List Back)). Adds b backs'' given) came.kept handed;
            say = served_is (Unit {0}) (IsSession X may m policy []) classes session deals given result is all untold;
          };
          later = omega (arith, first, last);
        }
