-- What a service came to, link by link.
use Rattle.std.proofs.Common.{◌≡◌, ℕ, zero, suc, ◌+◌, ◌≤◌, ◌<◌, List, [], ◌∷◌, ◌++◌, length, take, get_or, map, All, refl, sym, ap, ◌∙◌, subst, arith}
use Rattle.std.proofs.lemmas.List.{length-map, length-take-le, map-append, take_more}
use Rattle.std.specs.Prelude.{IfSome}
use Rattle.std.specs.declared.option.Option.{Option}
use Rattle.std.specs.declared.option.Option.TheVariants.{Some, None}
use Rattle.std.proofs.lemmas.List.Elements.{All-cons}
use Rattle.lnfs_outside.specs.Nets.{Back}
use Rattle.lnfs_types.specs.declared.event.Event.{Event}
use Rattle.lnfs_types.specs.declared.event.Moment.{Moment}
use Rattle.lnfs_policy.specs.Policy.{Policy}
use Rattle.lnfs_gss3.specs.Mechanism.{Signing}
use Rattle.lnfs_operations.specs.Extra.{Extra}
use Rattle.lnfs_history.specs.Entries.{entry, of}
use Rattle.lnfs_history.specs.declared.entry.Entry.{Entry}
use Rattle.lnfs_step.specs.Step.{Line}
use Rattle.lnfs_step.specs.Journal.{reply_with, answer_with, line_with, line_text, text_of}
use Rattle.lnfs_workers.specs.Links.{IsServed}
use Rattle.lnfs_workers.specs.Lines.{placed, lines_from, lines_of, lines_in}
use Rattle.lnfs_vault.specs.declared.audit.AuditLine.{AuditLine}
use Rattle.lnfs_workers.specs.Served.{Service}
use Rattle.lnfs_workers.specs.Pairs.{EachAt}
use Rattle.lnfs_workers.specs.Transcripts.{entries_from, entries_of}
use Rattle.lnfs_workers.specs.declared.line.LinkEnd.{LinkEnd}
use Rattle.lnfs_commands.specs.Lines.{text_at_place}
use Rattle.lnfs_commands.specs.Events.{audit_with, each_line, lone}
use Rattle.lnfs_service.specs.Links.{deal_of, IsNew, told_end}
use Rattle.lnfs_service.specs.Session.{answered_after, began, link_line, link_lines, FoundMemory, IsSession}

-- ---- the lines of links

module _ {L : Type 0} where
  lines_more : (n : ℕ) (ends : List (LinkEnd L)) (end : LinkEnd L) → link_lines n (ends ++ end ∷ []) ≡ link_lines n ends ++ link_line (n + length ends) end ∷ []
  lines_more n [] end = let number : n ≡ n + 0 = omega arith in ap (λ (k : ℕ). link_line k end ∷ []) number
  lines_more n (e ∷ ends) end =
      let number : n + 1 + length ends ≡ n + length (e ∷ ends) = omega arith in
      ap (λ (lines : List (List ℕ)). link_line n e ∷ lines) (lines_more (n + 1) ends end ∙ ap (λ (k : ℕ). link_lines (n + 1) ends ++ link_line k end ∷ []) number)

  -- with the next one
  pub lines_next : (ends : List (LinkEnd L)) (n : ℕ) (end : LinkEnd L) → n < length ends → end ≡ get_or ends n end → link_lines 0 (take n ends) ++ link_line n end ∷ [] ≡ link_lines 0 (take (n + 1) ends)
  lines_next ends n end less is =
      let front : List (LinkEnd L) = take n ends in
      let number : 0 + length front ≡ n = omega (arith, length-take-le n ends (omega (arith, less))) in
      sym (ap (link_lines 0) (take_more ends n end less ∙ ap (λ (e : LinkEnd L). front ++ e ∷ []) (sym is)) ∙ lines_more 0 front end ∙ ap (λ (k : ℕ). link_lines 0 front ++ link_line k end ∷ []) number)

module _ {L : Type 0} (tell : L → Back) where
  pub told_lines : (n : ℕ) (ends : List (LinkEnd L)) → link_lines n (map (told_end tell) ends) ≡ link_lines n ends
  told_lines n [] = refl
  told_lines n (e ∷ ends) = ap (λ (lines : List (List ℕ)). link_line n e ∷ lines) (told_lines (n + 1) ends)

  pub told_found : (ends : List (LinkEnd L)) → All FoundMemory ends → All FoundMemory (map (told_end tell) ends)
  told_found [] all = λ k d less. absurd (omega arith)
  told_found (e ∷ ends) all = All-cons FoundMemory (told_end tell e) (map (told_end tell) ends) (all zero e (omega arith)) (told_found ends (λ k d less. all (suc k) d (omega arith)))

  pub classes_dealt : (links : List (ℕ × L)) → map (λ deal. deal.class) (map (deal_of tell) links) ≡ map (λ link. link.0) links
  classes_dealt [] = refl
  classes_dealt (x ∷ links) = ap (λ (classes : List ℕ). x.0 ∷ classes) (classes_dealt links)

  pub ends_back : (ends : List (LinkEnd L)) → map (λ end. tell end.link) ends ≡ map (λ end. end.link) (map (told_end tell) ends)
  ends_back [] = refl
  ends_back (e ∷ ends) = ap (λ (backs : List Back). tell e.link ∷ backs) (ends_back ends)

  -- a new link as it was dealt
  began_is : (link : ℕ × L) → IsNew (tell link.1) → tell link.1 ≡ began (deal_of tell link)
  began_is link new = λ i. record { left = (tell link.1).left; taken = (tell link.1).taken; read_faults = new.no_read i; write_faults = new.no_write i }

  abbrev pub New : List (ℕ × L) → Type 0
  New links = All (λ link. IsNew (tell link.1)) links

  pub began_all : (links : List (ℕ × L)) → New links → map (λ link. tell link.1) links ≡ map began (map (deal_of tell) links)
  began_all [] new = refl
  began_all (x ∷ links) new = λ i. began_is x (new zero x (omega arith)) i ∷ began_all links (λ k d less. new (suc k) d (omega arith)) i

  pub fresh_all : (links : List (ℕ × L)) → New links → All (λ deal. IfSome deal.taken (λ bytes. bytes ≡ [])) (map (deal_of tell) links)
  fresh_all [] new = λ k d less. absurd (omega arith)
  fresh_all (x ∷ links) new =
      All-cons (λ deal. IfSome deal.taken (λ bytes. bytes ≡ [])) (deal_of tell x) (map (deal_of tell) links) (new zero x (omega arith)).nothing (fresh_all links (λ k d less. new (suc k) d (omega arith)))

  module _ (may : Moment → Type 0) (entries : ℕ → List Entry) where
    served_is : (link : ℕ × L) (end : LinkEnd L) (es : List Entry) → IsNew (tell link.1) → IsServed tell may link.0 link.1 end es → IsServed (λ back. back) may link.0 (began (deal_of tell link)) (told_end tell end) es
    served_is link end es new s = record {
      bears = s.bears;
      records = s.records;
      few = s.few;
      events = s.events;
      service = subst (λ (b : Back). Service end.ending b (tell end.link) es) (began_is link new) s.service;
    }

    served_all : (n : ℕ) (links : List (ℕ × L)) (ends : List (LinkEnd L)) → New links → EachAt (λ k link end. IsServed tell may link.0 link.1 end (entries k)) n links ends
        → EachAt (λ k deal end. IsServed (λ back. back) may deal.class (began deal) end (entries k)) n (map (deal_of tell) links) (map (told_end tell) ends)
    served_all n [] [] new e = tt
    served_all n [] (y ∷ ends) new e = absurd e
    served_all n (x ∷ links) [] new e = absurd e
    served_all n (x ∷ links) (y ∷ ends) new e = (served_is x y (entries n) (new zero x (omega arith)) e.0, served_all (n + 1) links ends (λ k d less. new (suc k) d (omega arith)) e.1)

-- ---- the whole service

-- each reply is the one that its requester would get with what it doesn't dominate purged
abbrev pub IsPurged : (X : Extra) → Signing → Policy → Type 0
IsPurged X m policy = (journal : List Event) (event : Event) → reply_with X m policy journal event ≡ answer_with X m policy journal event

answered_is : (X : Extra) (m : Signing) (policy : Policy) → IsPurged X m policy → (before journal : List Event) → entries_from X m policy before journal ≡ answered_after X m policy before journal
answered_is X m policy purged before [] = refl
answered_is X m policy purged before (e ∷ journal) = λ i. entry e (purged before e i) ∷ answered_is X m policy purged (before ++ e ∷ []) journal i

module _ {L : Type 0} (tell : L → Back) (X : Extra) (may : Moment → Type 0) (m : Signing) (policy : Policy) (journal : List Event) (classes : List ℕ) (links : List (ℕ × L)) (ends : List (LinkEnd L)) where
  abbrev entries : List Entry
  entries = entries_of X m policy journal

  pub is_session : IsPurged X m policy → map (λ link. link.0) links ≡ classes → New tell links
      → EachAt (λ n link end. IsServed tell may link.0 link.1 end (of n entries)) 0 links ends
      → ((link : ℕ) → length links ≤ link → of link entries ≡ [])
      → IsSession X may m policy [] (record { journal = journal; ends = map (told_end tell) ends }) classes (map (deal_of tell) links) (map (λ end. tell end.link) ends)
  is_session purged all new each others = let same : entries ≡ answered_after X m policy [] journal = answered_is X m policy purged [] journal in record {
    dealt = classes_dealt tell links ∙ all;
    fresh = fresh_all tell links new;
    links = served_all tell may (λ n. of n (answered_after X m policy [] journal)) 0 links ends new (subst (λ (es : List Entry). EachAt (λ n link end. IsServed tell may link.0 link.1 end (of n es)) 0 links ends) same each);
    others = λ link le. sym (ap (of link) same) ∙ others link (omega (arith, le, length-map links (deal_of tell)));
    handed = ends_back tell ends;
  }

-- ---- the lines of the journal

abbrev at_place : ℕ × Line → List ℕ
at_place line = line_text line.0 line.1

in_place : (lines : List AuditLine) → map text_at_place lines ≡ map at_place (lines_in lines)
in_place [] = refl
in_place (l ∷ lines) = ap (λ (texts : List (List ℕ)). text_at_place l ∷ texts) (in_place lines)

placed_text : (event : ℕ) (line : Option Line) → map at_place (placed event line) ≡ lone (text_of event line)
placed_text event None = refl
placed_text event (Some line) = refl

from_journal : (X : Extra) (m : Signing) (p : Policy) (before journal : List Event) → map at_place (lines_from X m p before journal) ≡ each_line (audit_with X m p) before journal
unfolding each_line audit_with
from_journal X m p before [] = refl
from_journal X m p before (e ∷ journal) =
    map-append at_place (placed (length before + 1) (line_with X m p before e)) (lines_from X m p (before ++ e ∷ []) journal)
    ∙ (λ i. placed_text (length before + 1) (line_with X m p before e) i ++ from_journal X m p (before ++ e ∷ []) journal i)

pub journal_lines : (X : Extra) (m : Signing) (p : Policy) (journal : List Event) (lines : List AuditLine) → lines_in lines ≡ lines_of X m p journal → map text_at_place lines ≡ each_line (audit_with X m p) [] journal
journal_lines X m p journal lines are = in_place lines ∙ ap (map at_place) are ∙ from_journal X m p [] journal
