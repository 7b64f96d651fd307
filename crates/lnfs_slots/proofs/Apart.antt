-- What changes of others' rows leave of an owner's: its records but for their lease and whether they have reclaimed, its
-- sessions, and contexts.
use Rattle.std.proofs.Common.{◌≡◌, ℕ, ◌+◌, ◌≤◌, Bool, true, false, cond, not, ◌&&◌, List, [], ◌∷◌, Option, Some, None, refl, sym, ◌∙◌, ap, arith}
use Rattle.std.specs.Prelude.{◌==◌, filter, slice_get, is_some}
use Rattle.std.specs.List.{find}
use Rattle.std.specs.Option.{option_map}
use Rattle.std.specs.Str.{bytes_eq}
use Rattle.std.proofs.lemmas.Bool.Decides.{nat_tests}
use Rattle.lnfs_world.specs.Rows.{Rising, inserted}
use Rattle.lnfs_world.specs.World.{Id, Client as ClientRow, Session as SessionRow, World, client_order, session_order, level_order, same_id, client_at, session_at, last_of}
use Rattle.lnfs_world.specs.Change.{AddClient, SetClient, DropClient, AddSession, SetSession, DropSession, is_session_of, apply}
use Rattle.lnfs_world.proofs.Keys.{id_same, last_of-inserted}
use Rattle.lnfs_world.specs.declared.numbers.TheConstants.{LAST_NUMBER}
use Rattle.lnfs_world.proofs.KeptClients.{client_at-inserted, client_at-dropped}
use Rattle.lnfs_world.proofs.Rows.{all_anyway, all_find}
use Rattle.lnfs_world.proofs.Views.{found_by_id, found_left}
use Rattle.lnfs_operations.specs.InOrder.{sequence_before}
use Rattle.lnfs_operations.proofs.KeepingLaws.{session_at-inserted}
use Rattle.lnfs_operations.proofs.SessionLaws.{session_at-id}
use Rattle.lnfs_slots.specs.OneClient.{Row, at_level, slot_row, is_owner, is_session, record_row, session_row}
use Rattle.lnfs_slots.proofs.Behind.{core}
use Rattle.lnfs_slots.proofs.Destroys.{session_at-dropped}

-- what is found among those that are left passes both tests
find-left : {Y : Type 0} (test kept : Y → Bool) (ys : List Y) → find test (filter kept ys) ≡ find (λ y. kept y && test y) ys
find-left test kept [] = refl
find-left test kept (y ∷ ys) = at (kept y) (test y) (find-left test kept ys)
  where
    at : (k t : Bool) → find test (filter kept ys) ≡ find (λ z. kept z && test z) ys → find test (cond k (y ∷ filter kept ys) (filter kept ys)) ≡ cond (k && test y) (Some y) (find (λ z. kept z && test z) ys)
    at true t e = ap (λ o. cond (test y) (Some y) o) e
    at false t e = e

-- where rows rise, what is left is what was found
was_found : (sessions : List SessionRow) → Rising session_order sessions → (kept : SessionRow → Bool) (i : Id) (y : SessionRow) → session_at (filter kept sessions) i ≡ Some y → (session_at sessions i ≡ Some y) × (kept y ≡ true)
was_found sessions rise kept i y is =
    let both : find (λ z. kept z && same_id i z.id) sessions ≡ Some y = sym (find-left (λ z. same_id i z.id) kept sessions) ∙ is in
    let passes : (kept y && same_id i y.id) ≡ true = (all_find (λ z. Unit {0}) (λ z. kept z && same_id i z.id) sessions y (all_anyway _ (λ z. tt) sessions) both).1 in
    let same : i ≡ y.id = id_same i y.id (grind (arith, passes)) in
    (ap (session_at sessions) same ∙ found_by_id (λ z. z.id) (λ z. kept z && same_id i z.id) sessions y rise both, grind (arith, passes))

module _ (owner : List ℕ) (level : ℕ) where
  -- a record, where it is the owner's, but for its lease and whether it has reclaimed
  abbrev pub own : Option ClientRow → Option ClientRow
  own None = None
  own (Some c) = cond (bytes_eq c.owner owner) (Some (core c)) None

  -- a session, where it is the owner's
  abbrev pub own_session : World → Option SessionRow → Option SessionRow
  own_session w None = None
  own_session w (Some y) = cond (is_session owner level w y) (Some y) None

  pub record IsApart (w u : World) : Type 0 where
    pub records : (n : ℕ) → own (client_at u.clients (at_level level n)) ≡ own (client_at w.clients (at_level level n))
    pub sessions : (n : ℕ) → own_session u (session_at u.sessions (at_level level n)) ≡ own_session w (session_at w.sessions (at_level level n))
    pub contexts : u.contexts ≡ w.contexts
    -- under a number that was given nothing comes up
    pub absent : (n : ℕ) → n ≤ last_of level w.lasts.clients → client_at w.clients (at_level level n) ≡ None → client_at u.clients (at_level level n) ≡ None
    pub absent_session : (n : ℕ) → n ≤ last_of level w.lasts.sessions → session_at w.sessions (at_level level n) ≡ None → session_at u.sessions (at_level level n) ≡ None
    pub clients_rise : last_of level w.lasts.clients ≤ last_of level u.lasts.clients
    pub sessions_rise : last_of level w.lasts.sessions ≤ last_of level u.lasts.sessions
    pub numbers : last_of level w.lasts.clients ≤ LAST_NUMBER → last_of level u.lasts.clients ≤ LAST_NUMBER

  pub apart_itself : (w : World) → IsApart w w
  apart_itself w = record { records = λ n. refl; sessions = λ n. refl; contexts = refl; absent = λ n below e. e; absent_session = λ n below e. e; clients_rise = omega arith; sessions_rise = omega arith; numbers = λ e. e }

  pub apart_through : (w v u : World) → IsApart w v → IsApart v u → IsApart w u
  apart_through w v u first then = record {
    records = λ n. then.records n ∙ first.records n;
    sessions = λ n. then.sessions n ∙ first.sessions n;
    contexts = then.contexts ∙ first.contexts;
    absent = λ n below e. then.absent n (let rises = first.clients_rise in omega arith) (first.absent n below e);
    absent_session = λ n below e. then.absent_session n (let rises = first.sessions_rise in omega arith) (first.absent_session n below e);
    clients_rise = let one = first.clients_rise in let two = then.clients_rise in omega arith;
    sessions_rise = let one = first.sessions_rise in let two = then.sessions_rise in omega arith;
    numbers = λ e. then.numbers (first.numbers e);
  }

  -- ---- whose a record is

  owner_shown : (o : Option ClientRow) → is_owner owner o ≡ is_some (own o)
  owner_shown None = refl
  owner_shown (Some c) = at (bytes_eq c.owner owner)
    where
      at : (t : Bool) → t ≡ is_some (cond t (Some (core c)) None)
      at true = refl
      at false = refl

  pub owner_as : (a b : Option ClientRow) → own a ≡ own b → is_owner owner a ≡ is_owner owner b
  owner_as a b e = owner_shown a ∙ ap is_some e ∙ sym (owner_shown b)

  not_own : (o : Option ClientRow) → is_owner owner o ≡ false → own o ≡ None
  not_own None e = refl
  not_own (Some c) e = ap (λ t. cond t (Some (core c)) None) e

  record_shown : (o : Option ClientRow) → record_row owner o ≡ record_row owner (own o)
  record_shown None = refl
  record_shown (Some c) = at (bytes_eq c.owner owner) refl
    where
      at : (t : Bool) → bytes_eq c.owner owner ≡ t → record_row owner (Some c) ≡ record_row owner (cond t (Some (core c)) None)
      at true e = refl
      at false e = ap (λ (t : Bool). cond t (Some (record { last = sequence_before c.sequence; kept = c.kept })) None) e

  pub record_as : (a b : Option ClientRow) → own a ≡ own b → record_row owner a ≡ record_row owner b
  record_as a b e = record_shown a ∙ ap (record_row owner) e ∙ sym (record_shown b)

  abbrev first_row : Option SessionRow → Option Row
  first_row None = None
  first_row (Some y) = option_map slot_row (slice_get y.slots 0)

  -- what a session shows is what it has, where it is the owner's
  session_shown : (w : World) (o : Option SessionRow) → session_row owner level w o ≡ first_row (own_session w o)
  session_shown w None = refl
  session_shown w (Some y) = at (is_session owner level w y)
    where
      at : (t : Bool) → cond t (option_map slot_row (slice_get y.slots 0)) None ≡ first_row (cond t (Some y) None)
      at true = refl
      at false = refl

  pub session_as : (u w : World) (a b : Option SessionRow) → own_session u a ≡ own_session w b → session_row owner level u a ≡ session_row owner level w b
  session_as u w a b e = session_shown u a ∙ ap first_row e ∙ sym (session_shown w b)

  -- ---- changes of others' rows

  -- the record of an identifier is not the owner's
  abbrev pub IsStrange : World → Id → Type 0
  IsStrange w i = i.level ≡ level → is_owner owner (client_at w.clients i) ≡ false

  pub strange_still : (w u : World) (i : Id) → IsApart w u → IsStrange w i → IsStrange u i
  strange_still w u i apart strange own_level =
      let same : at_level level i.number ≡ i = (λ k. record { level = sym own_level k; number = i.number }) in
      ap (λ j. is_owner owner (client_at u.clients j)) (sym same) ∙ owner_as (client_at u.clients (at_level level i.number)) (client_at w.clients (at_level level i.number)) (apart.records i.number) ∙ ap (λ j. is_owner owner (client_at w.clients j)) same ∙ strange own_level

  -- where records are as before, so are sessions that are left
  pub same_owners : (w u : World) → ((n : ℕ) → own (client_at u.clients (at_level level n)) ≡ own (client_at w.clients (at_level level n))) → (o : Option SessionRow) → own_session u o ≡ own_session w o
  same_owners w u records None = refl
  same_owners w u records (Some y) = ap (λ t. cond t (Some y) None) (owner_as (client_at u.clients (at_level level y.client)) (client_at w.clients (at_level level y.client)) (records y.client))

  -- a record that isn't the owner's takes the place of one that isn't either
  inserted_own : (row : ClientRow) (w : World) → IsStrange w row.id → (row.id.level ≡ level → bytes_eq row.owner owner ≡ false) → (n : ℕ) → own (client_at (inserted client_order row w.clients) (at_level level n)) ≡ own (client_at w.clients (at_level level n))
  inserted_own row w strange other n = ap own (client_at-inserted row w.clients (at_level level n)) ∙ at (same_id (at_level level n) row.id) refl
    where
      at : (t : Bool) → same_id (at_level level n) row.id ≡ t → own (cond t (Some row) (client_at w.clients (at_level level n))) ≡ own (client_at w.clients (at_level level n))
      at true e =
          let same : at_level level n ≡ row.id = id_same (at_level level n) row.id e in
          let own_level : row.id.level ≡ level = ap (λ (i : Id). i.level) (sym same) in
          not_own (Some row) (other own_level) ∙ sym (not_own (client_at w.clients (at_level level n)) (ap (λ i. is_owner owner (client_at w.clients i)) same ∙ strange own_level))
      at false e = refl

  -- a row under another number leaves it absent
  inserted_absent : (row : ClientRow) (w : World) (n : ℕ) → same_id (at_level level n) row.id ≡ false → client_at w.clients (at_level level n) ≡ None → client_at (inserted client_order row w.clients) (at_level level n) ≡ None
  inserted_absent row w n apart gone = client_at-inserted row w.clients (at_level level n) ∙ ap (λ t. cond t (Some row) (client_at w.clients (at_level level n))) apart ∙ gone

  pub set_client_apart : (row : ClientRow) (w : World) → IsStrange w row.id → (row.id.level ≡ level → bytes_eq row.owner owner ≡ false) → (before : ClientRow) → client_at w.clients row.id ≡ Some before → IsApart w (apply (SetClient row) w)
  set_client_apart row w strange other before there = record {
    records = inserted_own row w strange other;
    sessions = λ n. same_owners w (apply (SetClient row) w) (inserted_own row w strange other) (session_at w.sessions (at_level level n));
    contexts = refl;
    absent = λ n below gone. inserted_absent row w n (at n gone (same_id (at_level level n) row.id) refl) gone;
    absent_session = λ n below e. e;
    clients_rise = omega arith;
    sessions_rise = omega arith;
    numbers = λ e. e;
  }
    where
      at : (n : ℕ) → client_at w.clients (at_level level n) ≡ None → (t : Bool) → same_id (at_level level n) row.id ≡ t → same_id (at_level level n) row.id ≡ false
      at n gone false e = e
      at n gone true e = let both : Some before ≡ None = sym there ∙ ap (client_at w.clients) (sym (id_same (at_level level n) row.id e)) ∙ gone in absurd cc

  -- an identifier that its level has not given yet
  abbrev pub IsNext : List Id → Id → Type 0
  IsNext lasts i = i.level ≡ level → last_of level lasts + 1 ≤ i.number

  not_given : (lasts : List Id) (i : Id) → IsNext lasts i → (n : ℕ) → n ≤ last_of level lasts → same_id (at_level level n) i ≡ false
  not_given lasts i next n below = at (same_id (at_level level n) i) refl
    where
      at : (t : Bool) → same_id (at_level level n) i ≡ t → same_id (at_level level n) i ≡ false
      at false e = e
      at true e =
          let same : at_level level n ≡ i = id_same (at_level level n) i e in
          let above : last_of level lasts + 1 ≤ i.number = next (ap (λ (j : Id). j.level) (sym same)) in
          let number : n ≡ i.number = ap (λ (j : Id). j.number) same in
          absurd (omega arith)

  -- the last number of the level once it is given
  last_rises : (lasts : List Id) (i : Id) → IsNext lasts i → last_of level lasts ≤ last_of level (inserted level_order i lasts)
  last_rises lasts i next = at (i.level == level) refl
    where
      at : (t : Bool) → (i.level == level) ≡ t → last_of level lasts ≤ last_of level (inserted level_order i lasts)
      at true e =
          let now : last_of level (inserted level_order i lasts) ≡ i.number = last_of-inserted i lasts level ∙ ap (λ t. cond t i.number (last_of level lasts)) e in
          let above : last_of level lasts + 1 ≤ i.number = next (grind (arith, nat_tests, e)) in
          omega arith
      at false e =
          let now : last_of level (inserted level_order i lasts) ≡ last_of level lasts = last_of-inserted i lasts level ∙ ap (λ t. cond t i.number (last_of level lasts)) e in
          omega arith

  last_bound : (lasts : List Id) (i : Id) → i.number ≤ LAST_NUMBER → last_of level lasts ≤ LAST_NUMBER → last_of level (inserted level_order i lasts) ≤ LAST_NUMBER
  last_bound lasts i bound before = at (i.level == level) refl
    where
      at : (t : Bool) → (i.level == level) ≡ t → last_of level (inserted level_order i lasts) ≤ LAST_NUMBER
      at true e =
          let now : last_of level (inserted level_order i lasts) ≡ i.number = last_of-inserted i lasts level ∙ ap (λ t. cond t i.number (last_of level lasts)) e in
          omega arith
      at false e =
          let now : last_of level (inserted level_order i lasts) ≡ last_of level lasts = last_of-inserted i lasts level ∙ ap (λ t. cond t i.number (last_of level lasts)) e in
          omega arith

  pub add_client_apart : (row : ClientRow) (w : World) → IsStrange w row.id → (row.id.level ≡ level → bytes_eq row.owner owner ≡ false) → IsNext w.lasts.clients row.id → row.id.number ≤ LAST_NUMBER → IsApart w (apply (AddClient row) w)
  add_client_apart row w strange other next bound = record {
    records = inserted_own row w strange other;
    sessions = λ n. same_owners w (apply (AddClient row) w) (inserted_own row w strange other) (session_at w.sessions (at_level level n));
    contexts = refl;
    absent = λ n below gone. inserted_absent row w n (not_given w.lasts.clients row.id next n below) gone;
    absent_session = λ n below e. e;
    clients_rise = last_rises w.lasts.clients row.id next;
    sessions_rise = omega arith;
    numbers = last_bound w.lasts.clients row.id bound;
  }

  pub drop_client_apart : (i : Id) (w : World) → Rising session_order w.sessions → IsStrange w i → IsApart w (apply (DropClient i) w)
  drop_client_apart i w rise strange = record {
    records = records_now;
    sessions = λ n. sessions_at n (session_at w.sessions (at_level level n)) refl;
    contexts = refl;
    absent = λ n below gone. client_at-dropped i w.clients (at_level level n) ∙ dropped_none (same_id (at_level level n) i) (client_at w.clients (at_level level n)) gone;
    absent_session = λ n below gone. left_none (at_level level n) gone (session_at (apply (DropClient i) w).sessions (at_level level n)) refl;
    clients_rise = omega arith;
    sessions_rise = omega arith;
    numbers = λ e. e;
  }
    where
      dropped_none : (t : Bool) (o : Option ClientRow) → o ≡ None → cond t None o ≡ None
      dropped_none true o e = refl
      dropped_none false o e = e

      records_now : (n : ℕ) → own (client_at (apply (DropClient i) w).clients (at_level level n)) ≡ own (client_at w.clients (at_level level n))
      records_now n = ap own (client_at-dropped i w.clients (at_level level n)) ∙ at (same_id (at_level level n) i) refl
        where
          at : (t : Bool) → same_id (at_level level n) i ≡ t → own (cond t None (client_at w.clients (at_level level n))) ≡ own (client_at w.clients (at_level level n))
          at true e =
              let same : at_level level n ≡ i = id_same (at_level level n) i e in
              sym (not_own (client_at w.clients (at_level level n)) (ap (λ j. is_owner owner (client_at w.clients j)) same ∙ strange (ap (λ (j : Id). j.level) (sym same))))
          at false e = refl

      left_none : (j : Id) → session_at w.sessions j ≡ None → (o : Option SessionRow) → session_at (apply (DropClient i) w).sessions j ≡ o → o ≡ None
      left_none j gone None e = refl
      left_none j gone (Some y) e = let both : Some y ≡ None = sym (was_found w.sessions rise (λ x. not (is_session_of i x)) j y e).0 ∙ gone in absurd cc

      -- a session that goes is not the owner's
      goes : (n : ℕ) (x : SessionRow) → session_at w.sessions (at_level level n) ≡ Some x → is_session_of i x ≡ true → is_session owner level w x ≡ false
      goes n x there is =
          let own_level : x.id.level ≡ level = ap (λ (j : Id). j.level) (session_at-id (at_level level n) w.sessions x there) in
          let i_level : i.level ≡ level = grind (arith, nat_tests, is, own_level) in
          let number : x.client ≡ i.number = grind (arith, nat_tests, is) in
          let same : at_level level x.client ≡ i = (λ k. record { level = sym i_level k; number = number k }) in
          ap (λ j. is_owner owner (client_at w.clients j)) same ∙ strange i_level

      sessions_at : (n : ℕ) (o : Option SessionRow) → session_at w.sessions (at_level level n) ≡ o → own_session (apply (DropClient i) w) (session_at (apply (DropClient i) w).sessions (at_level level n)) ≡ own_session w (session_at w.sessions (at_level level n))
      sessions_at n None e = ap (own_session (apply (DropClient i) w)) (left_none (at_level level n) e (session_at (apply (DropClient i) w).sessions (at_level level n)) refl) ∙ sym (ap (own_session w) e)
      sessions_at n (Some x) e = by (is_session_of i x) refl
        where
          gone : is_session_of i x ≡ true → (o : Option SessionRow) → session_at (apply (DropClient i) w).sessions (at_level level n) ≡ o → own_session (apply (DropClient i) w) o ≡ None
          gone is None f = refl
          gone is (Some y) f =
              let found = was_found w.sessions rise (λ z. not (is_session_of i z)) (at_level level n) y f in
              let same : Some y ≡ Some x = sym found.0 ∙ e in
              let it : y ≡ x = cc in
              let both : false ≡ true = sym (ap not is) ∙ ap (λ z. not (is_session_of i z)) (sym it) ∙ found.1 in
              absurd cc

          by : (t : Bool) → is_session_of i x ≡ t → own_session (apply (DropClient i) w) (session_at (apply (DropClient i) w).sessions (at_level level n)) ≡ own_session w (session_at w.sessions (at_level level n))
          by true is =
              gone is (session_at (apply (DropClient i) w).sessions (at_level level n)) refl
              ∙ sym (ap (own_session w) e ∙ ap (λ t. cond t (Some x) None) (goes n x e is))
          by false is =
              ap (own_session (apply (DropClient i) w)) (found_left (λ z. same_id (at_level level n) z.id) (λ z. not (is_session_of i z)) w.sessions x e (ap not is))
              ∙ same_owners w (apply (DropClient i) w) records_now (Some x)
              ∙ sym (ap (own_session w) e)

  -- a session of another takes the place of none, or of one of another
  put_session : (row : SessionRow) (w u : World) → u.clients ≡ w.clients → u.sessions ≡ inserted session_order row w.sessions → u.contexts ≡ w.contexts → (row.id.level ≡ level → is_session owner level w row ≡ false) → (row.id.level ≡ level → own_session w (session_at w.sessions row.id) ≡ None) → ((n : ℕ) → n ≤ last_of level w.lasts.sessions → session_at w.sessions (at_level level n) ≡ None → same_id (at_level level n) row.id ≡ false) → u.lasts.clients ≡ w.lasts.clients → last_of level w.lasts.sessions ≤ last_of level u.lasts.sessions → IsApart w u
  put_session row w u clients sessions contexts other before apart last_clients rises = record {
    records = λ n. ap (λ cs. own (client_at cs (at_level level n))) clients;
    sessions = λ n. ap (λ ss. own_session u (session_at ss (at_level level n))) sessions
        ∙ same_owners w u (λ k. ap (λ cs. own (client_at cs (at_level level k))) clients) (session_at (inserted session_order row w.sessions) (at_level level n))
        ∙ ap (own_session w) (session_at-inserted row w.sessions (at_level level n)) ∙ at n (same_id (at_level level n) row.id) refl;
    contexts = contexts;
    absent = λ n below gone. ap (λ cs. client_at cs (at_level level n)) clients ∙ gone;
    absent_session = λ n below gone. ap (λ ss. session_at ss (at_level level n)) sessions ∙ session_at-inserted row w.sessions (at_level level n) ∙ ap (λ t. cond t (Some row) (session_at w.sessions (at_level level n))) (apart n below gone) ∙ gone;
    clients_rise = let same : last_of level u.lasts.clients ≡ last_of level w.lasts.clients = ap (last_of level) last_clients in omega arith;
    sessions_rise = rises;
    numbers = λ bound. let same : last_of level u.lasts.clients ≡ last_of level w.lasts.clients = ap (last_of level) last_clients in omega arith;
  }
    where
      at : (n : ℕ) (t : Bool) → same_id (at_level level n) row.id ≡ t → own_session w (cond t (Some row) (session_at w.sessions (at_level level n))) ≡ own_session w (session_at w.sessions (at_level level n))
      at n true e =
          let same : at_level level n ≡ row.id = id_same (at_level level n) row.id e in
          let own_level : row.id.level ≡ level = ap (λ (i : Id). i.level) (sym same) in
          ap (λ t. cond t (Some row) None) (other own_level) ∙ sym (ap (λ i. own_session w (session_at w.sessions i)) same ∙ before own_level)
      at n false e = refl

  pub add_session_apart : (row : SessionRow) (w : World) → (row.id.level ≡ level → is_session owner level w row ≡ false) → (row.id.level ≡ level → own_session w (session_at w.sessions row.id) ≡ None) → IsNext w.lasts.sessions row.id → IsApart w (apply (AddSession row) w)
  add_session_apart row w other before next = put_session row w (apply (AddSession row) w) refl refl refl other before (λ n below gone. not_given w.lasts.sessions row.id next n below) refl (last_rises w.lasts.sessions row.id next)

  pub set_session_apart : (row x : SessionRow) (w : World) → session_at w.sessions row.id ≡ Some x → row.client ≡ x.client → (row.id.level ≡ level → is_session owner level w x ≡ false) → IsApart w (apply (SetSession row) w)
  set_session_apart row x w there client other = put_session row w (apply (SetSession row) w) refl refl refl
      (λ own_level. ap (λ n. is_owner owner (client_at w.clients (at_level level n))) client ∙ other own_level)
      (λ own_level. ap (own_session w) there ∙ ap (λ t. cond t (Some x) None) (other own_level))
      (λ n below gone. at n gone (same_id (at_level level n) row.id) refl) refl (omega arith)
    where
      at : (n : ℕ) → session_at w.sessions (at_level level n) ≡ None → (t : Bool) → same_id (at_level level n) row.id ≡ t → same_id (at_level level n) row.id ≡ false
      at n gone false e = e
      at n gone true e = let both : Some x ≡ None = sym there ∙ ap (session_at w.sessions) (sym (id_same (at_level level n) row.id e)) ∙ gone in absurd cc

  pub drop_session_apart : (i : Id) (w : World) → (i.level ≡ level → own_session w (session_at w.sessions i) ≡ None) → IsApart w (apply (DropSession i) w)
  drop_session_apart i w before = record {
    records = λ n. refl;
    sessions = λ n. ap (own_session w) (session_at-dropped i w.sessions (at_level level n)) ∙ at n (same_id (at_level level n) i) refl;
    contexts = refl;
    absent = λ n below e. e;
    absent_session = λ n below gone. session_at-dropped i w.sessions (at_level level n) ∙ gone_too (same_id (at_level level n) i) (session_at w.sessions (at_level level n)) gone;
    clients_rise = omega arith;
    sessions_rise = omega arith;
    numbers = λ e. e;
  }
    where
      gone_too : (t : Bool) (o : Option SessionRow) → o ≡ None → cond t None o ≡ None
      gone_too true o e = refl
      gone_too false o e = e

      at : (n : ℕ) (t : Bool) → same_id (at_level level n) i ≡ t → own_session w (cond t None (session_at w.sessions (at_level level n))) ≡ own_session w (session_at w.sessions (at_level level n))
      at n true e =
          let same : at_level level n ≡ i = id_same (at_level level n) i e in
          sym (ap (λ j. own_session w (session_at w.sessions j)) same ∙ before (ap (λ (j : Id). j.level) (sym same)))
      at n false e = refl
