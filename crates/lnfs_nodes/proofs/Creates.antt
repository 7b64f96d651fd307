-- CREATE, from its arguments to what it makes.
use Rattle.std.proofs.Common.{◌≡◌, refl, ap, sym, subst, ◌∙◌, ℕ, Bool, true, false, not, List, Option, Some, None, Result, Ok, Err}
use Rattle.std.specs.Prelude.{◌==◌, is_some, if◌then◌else◌}
use Rattle.lnfs_attrs.specs.declared.raw.RawAttrs.{RawAttrs}
use Rattle.lnfs_attrs.specs.declared.settable.AttrSet.{AttrSet}
use Rattle.lnfs_arguments.specs.declared.types.What.{What}
use Rattle.lnfs_arguments.specs.declared.statuses.TheConstants.{NFS4ERR_INVAL, NFS4ERR_NOTDIR, NFS4ERR_EXIST, NFS4ERR_NOSPC}
use Rattle.lnfs_world.specs.World.{Node, Entry, World, is_directory}
use Rattle.lnfs_world.specs.Names.{entry_at}
use Rattle.lnfs_world.specs.Outcome.{Site, Place, Outcome}
use Rattle.lnfs_monitor.specs.Rules.{Change as ChangeNames, Child, allows, rule_of}
use Rattle.lnfs_operations.specs.declared.Gate.TheVariants.{Argument, Namespace, Monitor, Quota}
use Rattle.lnfs_operations.specs.declared.Refusal.{Refusal}
use Rattle.lnfs_operations.specs.Chain.{Answer, refuse, done, demand, where_there}
use Rattle.lnfs_operations.specs.Chain as chain
use Rattle.lnfs_operations.specs.Judged.{denied_with, where_allowed}
use Rattle.lnfs_operations.specs.Handles.{with_current}
use Rattle.lnfs_operations.specs.Given.{where_values, is_mode, where_mode, GivenLabel, where_label, level_or, set_of}
use Rattle.lnfs_operations.specs.NewNames.{where_directory, where_new}
use Rattle.lnfs_operations.specs.Create.{Made, where_text, has_room, new_node, made, create}
use Rattle.lnfs_tree.specs.Rows.{Rows}
use Rattle.lnfs_nodes.specs.Trees.{with_tree, held_in, Holds, IsHeld, refusal_of}
use Rattle.lnfs_nodes.specs.declared.held.Held.{Held}
use Rattle.lnfs_nodes.specs.Refusals.{name_refusal}
use Rattle.lnfs_nodes.specs.GivenValues.{Asked, followed, and_then, tested, with_status, values_in, label_in, text_refusal, asked_in}
use Rattle.lnfs_nodes.specs.Creating.{namespace, first, child_refusal}
use Rattle.lnfs_nodes.proofs.Found.{about_held}
use Rattle.lnfs_nodes.proofs.Refusing.{refused_as, on_held}
use Rattle.lnfs_nodes.proofs.Stages.{named, values, labelled, texted, status_stage, test_stage, value_stage}

module _ (site : Site) (what : What) (name : List ℕ) (given : RawAttrs) (p : Place) (w : World) where
  -- behind the tests of the name
  abbrev pub makes : Asked → Node → Outcome (Answer Made)
  makes x d = demand (has_room site w d) (refuse p Quota NFS4ERR_NOSPC) (made p d name (set_of given) (new_node site p w what x.mode x.label d))

  abbrev pub in_directory : Asked → Node → Outcome (Answer Made)
  in_directory x d =
      where_directory p d (
      where_allowed site p (ChangeNames d.label) (
      where_allowed site p (Child d.label (level_or d.label x.label)) (
      where_new p w d name (makes x d))))

  abbrev pub behind : Asked → Outcome (Answer Made)
  behind x = with_current p w (in_directory x)

  abbrev asked : AttrSet → Option GivenLabel → Asked
  asked v l = record { mode = v.mode; label = l }

  abbrev behind_label : AttrSet → Option GivenLabel → Outcome (Answer Made)
  behind_label v l = where_text p what (behind (asked v l))

  abbrev behind_mode : AttrSet → Outcome (Answer Made)
  behind_mode v = where_label site p v.label (behind_label v)

  abbrev behind_values : AttrSet → Outcome (Answer Made)
  behind_values v = demand (not (is_some v.size)) (refuse p Argument NFS4ERR_INVAL) (where_mode p v.mode (behind_mode v))

  abbrev behind_name : Outcome (Answer Made)
  behind_name = where_values p given behind_values

  abbrev last_test : AttrSet → Option GivenLabel → Result Asked chain.Refusal
  last_test v l = with_status (text_refusal what) (Ok (asked v l))

  abbrev mode_test : AttrSet → Result Asked chain.Refusal
  mode_test v = tested (is_mode v.mode) NFS4ERR_INVAL (and_then (label_in site v.label) (last_test v))

  abbrev size_test : AttrSet → Result Asked chain.Refusal
  size_test v = tested (not (is_some v.size)) NFS4ERR_INVAL (mode_test v)

  told : create site what name given p w ≡ followed p (asked_in site what name given) behind
  told =
      named p name behind_name
      ∙ status_stage p behind (name_refusal name) behind_name (and_then (values_in given) size_test) (
      values p given behind_values
      ∙ value_stage p behind (values_in given) behind_values size_test (λ v.
      test_stage p behind (not (is_some v.size)) NFS4ERR_INVAL (where_mode p v.mode (behind_mode v)) (mode_test v) (
      test_stage p behind (is_mode v.mode) NFS4ERR_INVAL (behind_mode v) (and_then (label_in site v.label) (last_test v)) (
      labelled p site v.label (behind_label v)
      ∙ value_stage p behind (label_in site v.label) (behind_label v) (last_test v) (λ l.
      texted p what (behind (asked v l)) ∙ status_stage p behind (text_refusal what) (behind (asked v l)) (Ok (asked v l)) refl)))))

  pub refused : (why : Refusal) → Err (refusal_of why) ≡ asked_in site what name given → create site what name given p w ≡ refuse p why.gate why.status
  refused why e = told ∙ ap (λ (r : Result Asked chain.Refusal). followed p r behind) (sym e)

  pub taken : (x : Asked) → Ok x ≡ asked_in site what name given → create site what name given p w ≡ behind x
  taken x e = told ∙ ap (λ (r : Result Asked chain.Refusal). followed p r behind) (sym e)

-- ---- the tests of the directory

module _ (p : Place) (change child : chain.Refusal) where
  abbrev refusals : (directory may_change may_put : Bool) → Option chain.Refusal
  refusals a b c =
      if a
      then first (if b then None else Some change) (if c then None else Some child)
      else Some (namespace NFS4ERR_NOTDIR)

  abbrev tests : (directory may_change may_put : Bool) → Outcome (Answer Made) → Outcome (Answer Made)
  tests a b c next =
      demand a (refuse p Namespace NFS4ERR_NOTDIR) (
      demand b (refuse p change.gate change.status) (
      demand c (refuse p child.gate child.status) next))

  record Passed (a b c : Bool) (next : Outcome (Answer Made)) : Type 0 where
    pub directory : a ≡ true
    pub may_change : b ≡ true
    pub goes : tests a b c next ≡ next

  all_pass : (a b c : Bool) (next : Outcome (Answer Made)) → None ≡ refusals a b c → Passed a b c next
  all_pass true true true next none = record { directory = refl; may_change = refl; goes = refl }
  all_pass true true false next none = cc
  all_pass true false c next none = cc
  all_pass false b c next none = cc

  one_fails : (a b c : Bool) (next : Outcome (Answer Made)) (why : Refusal) → Some (refusal_of why) ≡ refusals a b c → tests a b c next ≡ refuse p why.gate why.status
  one_fails true true true next why some = cc
  one_fails true true false next why some = refused_as p why child cc
  one_fails true false c next why some = refused_as p why change cc
  one_fails false b c next why some = refused_as p why (namespace NFS4ERR_NOTDIR) cc

module _ (site : Site) (p : Place) (d : Node) (child : ℕ) (next : Outcome (Answer Made)) where
  abbrev pub behind_tests : Outcome (Answer Made)
  behind_tests =
      where_directory p d (
      where_allowed site p (ChangeNames d.label) (
      where_allowed site p (Child d.label child) next))

  abbrev denied : chain.Refusal
  denied = record { gate = Monitor (rule_of (ChangeNames d.label)); status = denied_with (rule_of (ChangeNames d.label)) }

  abbrev unfit : chain.Refusal
  unfit = record { gate = Monitor (rule_of (Child d.label child)); status = denied_with (rule_of (Child d.label child)) }

  pub child_passes : None ≡ child_refusal site p.subject d child → (is_directory d.kind ≡ true) × ((p.subject == d.label) ≡ true) × (behind_tests ≡ next)
  child_passes e =
      let all : Passed p denied unfit (is_directory d.kind) (allows site.dom p.subject (ChangeNames d.label)) (allows site.dom p.subject (Child d.label child)) next =
      all_pass p denied unfit (is_directory d.kind) (allows site.dom p.subject (ChangeNames d.label)) (allows site.dom p.subject (Child d.label child)) next e in
      (all.directory, all.may_change, all.goes)

  pub child_fails : (why : Refusal) → Some (refusal_of why) ≡ child_refusal site p.subject d child → behind_tests ≡ refuse p why.gate why.status
  child_fails why e = one_fails p denied unfit (is_directory d.kind) (allows site.dom p.subject (ChangeNames d.label)) (allows site.dom p.subject (Child d.label child)) next why e

-- ---- the directory that is held

module _ (site : Site) (what : What) (name : List ℕ) (given : RawAttrs) (p : Place) (rest : World) (t : Rows) (h : Held) (x : Asked) (child : ℕ) (held : IsHeld t (held_in t.nodes p.current) (Ok h)) (is : Ok x ≡ asked_in site what name given) (same : child ≡ level_or h.facts.label.0 x.label) where
  child_of : (d : Node) → Holds t d h → child ≡ level_or d.label x.label
  child_of d holds = same ∙ ap (λ (l : ℕ). level_or l x.label) holds.tells.label

  -- what is made where the name is not there
  abbrev new_in : Node → Outcome (Answer Made)
  new_in d = where_new p (with_tree rest t) d name (makes site what name given p (with_tree rest t) x d)

  pub child_refused : (why : Refusal) → ((d : Node) → Holds t d h → Some (refusal_of why) ≡ child_refusal site p.subject d child) → create site what name given p (with_tree rest t) ≡ refuse p why.gate why.status
  child_refused why e =
      taken site what name given p (with_tree rest t) x is
      ∙ on_held p rest t (in_directory site what name given p (with_tree rest t) x) h (refuse p why.gate why.status) held (λ d holds.
      child_fails site p d (level_or d.label x.label) (new_in d) why
      (e d holds ∙ ap (λ (l : ℕ). child_refusal site p.subject d l) (child_of d holds)))

  pub child_taken : (P : Outcome (Answer Made) → Type 0) → ((d : Node) → Holds t d h → None ≡ child_refusal site p.subject d child)
      → ((d : Node) → Holds t d h → is_directory d.kind ≡ true → (p.subject == d.label) ≡ true → is_some (entry_at t.entries d.id name) ≡ false → P (makes site what name given p (with_tree rest t) x d))
      → ((d : Node) → Holds t d h → is_directory d.kind ≡ true → is_some (entry_at t.entries d.id name) ≡ true → P (refuse p Namespace NFS4ERR_EXIST))
      → P (create site what name given p (with_tree rest t))
  child_taken P e absent present =
      subst P (sym (taken site what name given p (with_tree rest t) x is)) (
      about_held P p rest t (in_directory site what name given p (with_tree rest t) x) h held (λ d holds.
      let passes : (is_directory d.kind ≡ true) × ((p.subject == d.label) ≡ true) × (in_directory site what name given p (with_tree rest t) x d ≡ new_in d) =
      child_passes site p d (level_or d.label x.label) (new_in d)
      (e d holds ∙ ap (λ (l : ℕ). child_refusal site p.subject d l) (child_of d holds)) in
      subst P (sym passes.2) (by (entry_at t.entries d.id name) (makes site what name given p (with_tree rest t) x d) (absent d holds passes.0 passes.1) (present d holds passes.0))))
    where
      by : (e : Option Entry) (next : Outcome (Answer Made)) → (is_some e ≡ false → P next) → (is_some e ≡ true → P (refuse p Namespace NFS4ERR_EXIST)) → P (where_there e (λ _. refuse p Namespace NFS4ERR_EXIST) next)
      by None next absent present = absent refl
      by (Some e) next absent present = present refl

  -- no room
  pub no_space : (w : World) (d : Node) (why : Refusal) → has_room site w d ≡ false → refusal_of why ≡ record { gate = Quota; status = NFS4ERR_NOSPC } → makes site what name given p w x d ≡ refuse p why.gate why.status
  no_space w d why none is =
      ap (λ (b : Bool). demand b (refuse p Quota NFS4ERR_NOSPC) (made p d name (set_of given) (new_node site p w what x.mode x.label d))) none
      ∙ refused_as p why (record { gate = Quota; status = NFS4ERR_NOSPC }) is

  pub with_space : (w : World) (d : Node) → has_room site w d ≡ true → makes site what name given p w x d ≡ made p d name (set_of given) (new_node site p w what x.mode x.label d)
  with_space w d some = ap (λ (b : Bool). demand b (refuse p Quota NFS4ERR_NOSPC) (made p d name (set_of given) (new_node site p w what x.mode x.label d))) some
