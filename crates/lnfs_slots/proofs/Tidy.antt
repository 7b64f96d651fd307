-- A step that only ends something of the client's, or begins a record that no request used yet: the state afterwards is sound,
-- and what the client was given stays given. So the laws of requests without a slot follow from what is said of the world.
use Rattle.std.proofs.Common.{◌≡◌, ◌⊎◌, inl, inr, ℕ, zero, suc, ◌+◌, ◌≤◌, Bool, true, false, cond, Option, Some, None, refl, sym, ◌∙◌, ap, arith}
use Rattle.std.specs.Prelude.{slice_get}
use Rattle.std.specs.Option.{option_map}
use Rattle.std.specs.Str.{bytes_eq}
use Rattle.lnfs_policy.specs.Policy.{Policy}
use Rattle.lnfs_world.specs.World.{Client as ClientRow, Session as SessionRow, World, client_at, session_at, last_of}
use Rattle.lnfs_world.specs.declared.numbers.TheConstants.{LAST_NUMBER}
use Rattle.lnfs_operations.specs.Extra.{Extra}
use Rattle.lnfs_operations.specs.InOrder.{sequence_before}
use Rattle.lnfs_gss3.specs.Mechanism.{Signing}
use Rattle.lnfs_step.specs.Journal.{Holds}
use Rattle.lnfs_once.specs.Laws.{Holder, Record, Session, IsKept, IsGentle}
use Rattle.lnfs_slots.specs.OneClient.{Seen, Row, Writer, at_level, slot_row, is_session, record_row, session_row, row_of, given_in, is_mine, context_there, context_met, IsSound, rows}

-- no number is 0 among those that are above it
not_zero : (mine : Bool) → (mine ≡ true → 1 ≤ 0) → mine ≡ false
not_zero true above = absurd (omega (arith, above refl))
not_zero false above = refl

module _ (X : Extra) (m : Signing) (p : Policy) {A : Type 0} (w : Writer A) (v t : Seen X) where
  abbrev before : World
  before = v.state.world

  abbrev after : World
  after = t.state.world

  -- a new record of the owner, which has no other
  pub record IsFresh (n : ℕ) (c : ClientRow) : Type 0 where
    pub number : n ≡ last_of w.level before.lasts.clients + 1
    pub sequence : c.sequence ≡ 1
    pub owner : bytes_eq c.owner w.owner ≡ true
    pub verifier : bytes_eq c.verifier w.verifier ≡ true
    pub alone : (k : ℕ) (d : ClientRow) → client_at after.clients (at_level w.level k) ≡ Some d → bytes_eq d.owner w.owner ≡ true → k ≡ n

  pub record IsTidy : Type 0 where
    pub holds : Holds X p t.state
    pub numbers : last_of w.level after.lasts.clients ≤ LAST_NUMBER
    -- a record that is there was there, or is new; or it is another's
    pub records : (n : ℕ) (c : ClientRow) → client_at after.clients (at_level w.level n) ≡ Some c → (client_at before.clients (at_level w.level n) ≡ Some c) ⊎ IsFresh n c
    pub sessions : (n : ℕ) (y : SessionRow) → session_at after.sessions (at_level w.level n) ≡ Some y → session_at before.sessions (at_level w.level n) ≡ Some y
    pub owners : (n : ℕ) (y : SessionRow) → session_at after.sessions (at_level w.level n) ≡ Some y → is_session w.owner w.level after y ≡ is_session w.owner w.level before y
    pub last_clients : last_of w.level before.lasts.clients ≤ last_of w.level after.lasts.clients
    pub last_sessions : last_of w.level before.lasts.sessions ≤ last_of w.level after.lasts.sessions
    pub last_contexts : last_of w.level before.lasts.contexts ≤ last_of w.level after.lasts.contexts
    pub mine : (c : ℕ) → is_mine v.mine c ≡ true → is_mine t.mine c ≡ true
    pub given : (c : ℕ) → is_mine t.mine c ≡ true → (1 ≤ c) × (c ≤ last_of w.level after.lasts.contexts)
    pub ends : (c : ℕ) → context_met X m p w v c → context_there X m p w v c ≡ false → context_there X m p w t c ≡ false

  -- what stays, where a step ends nothing that an answered request may owe
  pub record IsGentleToo : Type 0 where
    pub sessions : (n : ℕ) → row_of w.owner w.level after Session n ≡ None → row_of w.owner w.level before Session n ≡ None
    pub contexts : (c : ℕ) → context_met X m p w v c → context_there X m p w v c ≡ true → context_there X m p w t c ≡ true
    pub records : (n : ℕ) (x : Row) → row_of w.owner w.level before Record n ≡ Some x → row_of w.owner w.level after Record n ≡ None → (k : ℕ) → row_of w.owner w.level before Session k ≡ None

  module _ (sound : IsSound X m p w v) (tidy : IsTidy) where
    no_record : client_at after.clients (at_level w.level 0) ≡ None
    no_record = at (client_at after.clients (at_level w.level 0)) refl
      where
        at : (o : Option ClientRow) → client_at after.clients (at_level w.level 0) ≡ o → client_at after.clients (at_level w.level 0) ≡ None
        at None e = e
        at (Some c) e = elim (tidy.records 0 c e) [
          | inl old ↦ let no : Some c ≡ None = sym old ∙ sound.no_client in absurd cc
          | inr new ↦ absurd (omega (arith, new.number))
        ]

    no_session : session_at after.sessions (at_level w.level 0) ≡ None
    no_session = at (session_at after.sessions (at_level w.level 0)) refl
      where
        at : (o : Option SessionRow) → session_at after.sessions (at_level w.level 0) ≡ o → session_at after.sessions (at_level w.level 0) ≡ None
        at None e = e
        at (Some y) e = let no : Some y ≡ None = sym (tidy.sessions 0 y e) ∙ sound.no_session in absurd cc

    one_now : (j k : ℕ) (c d : ClientRow) → client_at after.clients (at_level w.level j) ≡ Some c → client_at after.clients (at_level w.level k) ≡ Some d → bytes_eq c.owner w.owner ≡ true → bytes_eq d.owner w.owner ≡ true → j ≡ k
    one_now j k c d c_there d_there c_own d_own = elim (tidy.records j c c_there) [
      | inl c_old ↦ elim (tidy.records k d d_there) [
        | inl d_old ↦ sound.one j k c d c_old d_old c_own d_own
        | inr new ↦ new.alone j c c_there c_own
      ]
      | inr new ↦ sym (new.alone k d d_there d_own)
    ]

    good : IsSound X m p w t
    good = record {
      holds = tidy.holds;
      numbers = tidy.numbers;
      no_client = no_record;
      no_session = no_session;
      no_context = not_zero (is_mine t.mine 0) (λ is. (tidy.given 0 is).0);
      one = one_now;
      verifier = λ n c there own. elim (tidy.records n c there) [
        | inl old ↦ sound.verifier n c old own
        | inr new ↦ new.verifier
      ];
      given = λ c is. (tidy.given c is).1;
      slotted = λ n y there own. sound.slotted n y (tidy.sessions n y there) (sym (tidy.owners n y there) ∙ own);
      grants = λ n y there own. sound.grants n y (tidy.sessions n y there) (sym (tidy.owners n y there) ∙ own);
    }

    grows_now : (h : Holder) (n : ℕ) → given_in w.owner w.level before h n → given_in w.owner w.level after h n
    grows_now Record n given = (
      let rises = tidy.last_clients in let below = given.0 in omega arith,
      λ c there. elim (tidy.records n c there) [
        | inl old ↦ given.1 c old
        | inr new ↦ new.owner
      ],
    )
    grows_now Session n given = (
      let rises = tidy.last_sessions in let below = given.0 in omega arith,
      λ y there. tidy.owners n y there ∙ given.1 y (tidy.sessions n y there),
    )

    met_now : (c : ℕ) → context_met X m p w v c → context_met X m p w t c
    met_now c met = elim met [
      | inl e ↦ inl e
      | inr e ↦ inr (tidy.mine c e.0, (tidy.given c (tidy.mine c e.0)).1)
    ]

    -- a row of a record was there, or is unused
    record_now : (n : ℕ) (x : Row) → row_of w.owner w.level after Record n ≡ Some x → (row_of w.owner w.level before Record n ≡ Some x) ⊎ ((n ≡ last_of w.level before.lasts.clients + 1) × (x.last ≡ 0))
    record_now n x is = at (client_at after.clients (at_level w.level n)) refl is
      where
        unused : (c : ClientRow) (b : Bool) → c.sequence ≡ 1 → cond b (Some (record { last = sequence_before c.sequence; kept = c.kept })) None ≡ Some x → x.last ≡ 0
        unused c true first f =
            let same : x ≡ record { last = sequence_before c.sequence; kept = c.kept } = cc in
            ap (λ (r : Row). r.last) same ∙ ap sequence_before first
        unused c false first f = absurd cc

        at : (o : Option ClientRow) → client_at after.clients (at_level w.level n) ≡ o → record_row w.owner o ≡ Some x → (row_of w.owner w.level before Record n ≡ Some x) ⊎ ((n ≡ last_of w.level before.lasts.clients + 1) × (x.last ≡ 0))
        at None e f = absurd cc
        at (Some c) e f = elim (tidy.records n c e) [
          | inl old ↦ inl (ap (record_row w.owner) old ∙ f)
          | inr new ↦ inr (new.number, unused c (bytes_eq c.owner w.owner) new.sequence f)
        ]

    session_now : (n : ℕ) (x : Row) → row_of w.owner w.level after Session n ≡ Some x → row_of w.owner w.level before Session n ≡ Some x
    session_now n x is = at (session_at after.sessions (at_level w.level n)) refl is
      where
        at : (o : Option SessionRow) → session_at after.sessions (at_level w.level n) ≡ o → session_row w.owner w.level after o ≡ Some x → row_of w.owner w.level before Session n ≡ Some x
        at None e f = absurd cc
        at (Some y) e f =
            ap (session_row w.owner w.level before) (tidy.sessions n y e)
            ∙ ap (λ (b : Bool). cond b (option_map slot_row (slice_get y.slots 0)) None) (sym (tidy.owners n y e))
            ∙ f

    stays_now : (h : Holder) (n : ℕ) (x : Row) → given_in w.owner w.level before h n → row_of w.owner w.level after h n ≡ Some x → row_of w.owner w.level before h n ≡ Some x
    stays_now Record n x given is = elim (record_now n x is) [
      | inl old ↦ old
      | inr new ↦ absurd (omega (arith, new.0, given.0))
    ]
    stays_now Session n x given is = session_now n x is

    new_now : (h : Holder) (n : ℕ) (x : Row) → row_of w.owner w.level after h n ≡ Some x → (row_of w.owner w.level before h n ≡ Some x) ⊎ (x.last ≡ 0)
    new_now Record n x is = elim (record_now n x is) [
      | inl old ↦ inl old
      | inr new ↦ inr new.1
    ]
    new_now Session n x is = inl (session_now n x is)

    pub tidy_kept : IsKept (rows X m p w) v t
    tidy_kept = record { good = good; grows = grows_now; grows_contexts = met_now; stays = stays_now; new = new_now; ends = tidy.ends }

    pub tidy_gentle : IsGentleToo → IsGentle (rows X m p w) v t
    tidy_gentle gentle = record {
      kept = tidy_kept;
      sessions = λ n given gone. gentle.sessions n gone;
      contexts = gentle.contexts;
      records = λ q x r session create is keeps told gone. gentle.records q.place.number x is gone session;
    }

module _ (X : Extra) (m : Signing) (p : Policy) {A : Type 0} (w : Writer A) (v : Seen X) where
  -- where nothing changes
  pub same_tidy : IsSound X m p w v → IsTidy X m p w v v
  same_tidy sound = record {
    holds = sound.holds;
    numbers = sound.numbers;
    records = λ n c there. inl there;
    sessions = λ n y there. there;
    owners = λ n y there. refl;
    last_clients = omega arith;
    last_sessions = omega arith;
    last_contexts = omega arith;
    mine = λ c is. is;
    given = λ c is. (some c is, sound.given c is);
    ends = λ c met gone. gone;
  }
    where
      some : (c : ℕ) → is_mine v.mine c ≡ true → 1 ≤ c
      some c is = above c (λ zero. let no : true ≡ false = sym is ∙ ap (is_mine v.mine) zero ∙ sound.no_context in absurd cc)
        where
          above : (c : ℕ) → (c ≡ 0 → ⊥) → 1 ≤ c
          above zero apart = absurd (apart refl)
          above (suc c) apart = omega arith

  pub same_gentle : IsGentleToo X m p w v v
  same_gentle = record {
    sessions = λ n gone. gone;
    contexts = λ c met there. there;
    records = λ n x is gone. λ k. let no : Some x ≡ None = sym is ∙ gone in absurd cc;
  }
