-- What the operations that read answer is within their bounds.
use Rattle.std.proofs.Common.{◌≡◌, ◌≤◌, ◌+◌, ◌-◌, ℕ, Bool, true, false, ◌&&◌, cond, List, [], ◌∷◌, ◌++◌, length, Option, Some, None, drop, refl, subst, arith, length-append, length-take}
use Rattle.std.specs.Prelude.{nat_le, min, IfSome}
use Rattle.std.proofs.lemmas.Bool.Decides.{nat_tests}
use Rattle.lnfs_xdr.specs.Canon.{word, flag, padded, linked}
use Rattle.lnfs_xdr.proofs.Sizes.{length-word, length-flag, length-padded}
use Rattle.lnfs_attrs.specs.declared.raw.RawAttrs.{RawAttrs}
use Rattle.lnfs_attrs.specs.Sizes.{ViewFits, IsAnswer}
use Rattle.lnfs_attrs.proofs.Sizes.{answer_small}
use Rattle.lnfs_arguments.specs.Further.{Further}
use Rattle.lnfs_arguments.specs.declared.types.Op.{Op}
use Rattle.lnfs_arguments.specs.declared.types.Op.TheVariants as ops
use Rattle.lnfs_results.specs.Answering.{op_bound}
use Rattle.lnfs_results.specs.declared.limits.TheConstants.{MOST_DATA}
use Rattle.lnfs_results.specs.declared.types.DirEntry.{DirEntry}
use Rattle.lnfs_results.specs.declared.types.OpResult.{OpResult}
use Rattle.lnfs_results.specs.declared.types.OpResult.TheVariants as results
use Rattle.lnfs_results.specs.Bounds.{rounded}
use Rattle.lnfs_results.specs.Texts.{entry_text, fields_text, further_text, result_text}
use Rattle.lnfs_results.proofs.Bounds.{length-result, result-bound, length-read}
use Rattle.lnfs_world.specs.World.{Id, Stored, Node, Entry, World, same_id, node_at}
use Rattle.lnfs_world.specs.Names.{entries_above}
use Rattle.lnfs_world.specs.Effects.{read_at}
use Rattle.lnfs_world.specs.Outcome.{Site, Place, Outcome}
use Rattle.lnfs_world.proofs.Rows.{all_find}
use Rattle.lnfs_monitor.specs.Rules.{Read, allows}
use Rattle.lnfs_operations.specs.declared.Gate.{Gate}
use Rattle.lnfs_types.specs.declared.limits.TheConstants.{LABEL_LIMIT}
use Rattle.lnfs_operations.specs.declared.numbers.TheConstants.{EMPTY_LISTING, MOST_TEXT}
use Rattle.lnfs_operations.specs.Chain.{Refusal, Answer, refuse}
use Rattle.lnfs_operations.specs.Access.{Granted}
use Rattle.lnfs_operations.specs.Handles.{handle_of}
use Rattle.lnfs_operations.specs.Shown.{stored_or, label_shown, shown, answer_to}
use Rattle.lnfs_operations.specs.ReadDir.{Arguments, Listed, shown_entry, taken, with_entry, where_shown, listed}
use Rattle.lnfs_operations.specs.Read as read
use Rattle.lnfs_operations.specs.Sequence.{Sent}
use Rattle.lnfs_operations.specs.Served.{Nowhere, Reply, Own, Kept, success, reply_of, plainly, zeros, row}
use Rattle.lnfs_operations.specs.Sizes.{NodeFits, Sizes, LabelsFit}
use Rattle.lnfs_operations.proofs.Lengths.{failed_short}
use Rattle.lnfs_operations.proofs.Answering.{handle_length, answer_fits}
use Rattle.lnfs_operations.proofs.Readings.{put_fh_any, get_fh_any, save_fh_any, restore_fh_any, lookup_any, lookup_parent_any, access_any, read_link_any}
use Rattle.lnfs_operations.proofs.GetAttrLaws.{get_attr_any, verify_any, nverify_any}
use Rattle.lnfs_operations.proofs.ReadDirLaws.{read_dir_any}
use Rattle.lnfs_operations.proofs.FileLaws.{read_any, commit_any}
use Rattle.lnfs_operations.proofs.ReadingRows.{is_reading}

-- ---- a listing

none_some : {X : Type 0} (x : X) {Y : Type 0} → None ≡ Some x → Y
none_some x e = absurd cc

linked_more : (d : DirEntry) (ds : List DirEntry) → length (linked entry_text (d ∷ ds)) ≡ taken d + length (linked entry_text ds)
linked_more d ds = omega (arith, length-append (flag true ++ entry_text d) (linked entry_text ds), length-append (flag true) (entry_text d), length-flag true)

-- the entries that are listed take no more than a room, with the word behind them
abbrev IsShort : (room : ℕ) → Listed → Type 0
IsShort room found = length (linked entry_text found.entries) ≤ 4 + room

none_short : (room : ℕ) (eof : Bool) (found : Listed) → Some (record { entries = []; eof = eof }) ≡ Some found → IsShort room found
none_short room eof found is =
    let none : [] ≡ found.entries = cc in
    subst (λ ds. length (linked entry_text ds) ≤ 4 + room) none (omega (arith, length-flag false))

one_more : (d : DirEntry) (room : ℕ) (o : Option Listed) (found : Listed) → taken d ≤ room → ((rest : Listed) → o ≡ Some rest → IsShort (room - taken d) rest) → with_entry d o ≡ Some found → IsShort room found
one_more d room None found fits rest is = none_some found is
one_more d room (Some more) found fits rest is =
    let same : d ∷ more.entries ≡ found.entries = cc in
    subst (λ ds. length (linked entry_text ds) ≤ 4 + room) same (omega (arith, fits, linked_more d more.entries, rest more refl))

shown_short : (o : Option DirEntry) (room : ℕ) (next : ℕ → Option Listed) (found : Listed) → ((left : ℕ) (rest : Listed) → next left ≡ Some rest → IsShort left rest) → where_shown o room next ≡ Some found → IsShort room found
shown_short None room next found rest is = none_some found is
shown_short (Some d) room next found rest is = at (nat_le (taken d) room) refl is
  where
    at : (b : Bool) → nat_le (taken d) room ≡ b → cond b (with_entry d (next (room - taken d))) (Some (record { entries = []; eof = false })) ≡ Some found → IsShort room found
    at true fits whole = one_more d room (next (room - taken d)) found (grind (arith, nat_tests, fits)) (rest (room - taken d)) whole
    at false fits whole = none_short room false found whole

listed_short : (show : Entry → Option DirEntry) (entries : List Entry) (room : ℕ) (found : Listed) → listed show room entries ≡ Some found → IsShort room found
listed_short show [] room found is = none_short room true found is
listed_short show (e ∷ entries) room found is = shown_short (show e) room (λ left. listed show left entries) found (λ left rest. listed_short show entries left rest) is

-- ---- what is shown

spelled_short : (limited : Bool) (spelled : Stored) (o : Option Stored) → length spelled.bytes ≤ LABEL_LIMIT → IfSome o (λ stored. length stored.bytes ≤ LABEL_LIMIT) → length (cond limited (stored_or spelled o) spelled).bytes ≤ LABEL_LIMIT
spelled_short true spelled None short stored = short
spelled_short true spelled (Some own) short stored = stored
spelled_short false spelled o short stored = short

module _ (site : Site) (spells : LabelsFit site) where
  pub label_short : (p : Place) (n : Node) → NodeFits n → length (label_shown site p n).bytes ≤ LABEL_LIMIT
  label_short p n fits = spelled_short (site.limited && allows site.dom p.subject (Read n.label)) (site.spelling n.label) n.inner.stored (spells.spelling n.label) fits.stored

  pub shown_fits : (p : Place) (w : World) (n : Node) (error : ℕ) → NodeFits n → ViewFits (shown site p w n error)
  shown_fits p w n error fits = (handle_length n.id, label_short p n fits)

node_fits : (w : World) → Sizes w → (i : Id) (n : Node) → node_at w.nodes i ≡ Some n → NodeFits n
node_fits w sizes i n found = (all_find NodeFits (λ m. same_id i m.id) w.nodes n sizes.nodes found).0

-- ---- each result

plain_short : (r : OpResult) → length (fields_text r) ≡ 0 → length (further_text r) ≡ 0 → length (result_text r) ≤ 8
plain_short r fields further = omega (arith, length-result r, fields, further)

get_attr_short : (a : RawAttrs) → IsAnswer a → length (result_text (results.GetAttr a)) ≤ 1276
get_attr_short a is = result-bound (results.GetAttr a) (is.words, omega (arith, (answer_small a is).1)) is

get_fh_short : (i : Id) → length (result_text (results.GetFh (handle_of i))) ≤ 24
get_fh_short i = result-bound (results.GetFh (handle_of i)) (omega (arith, handle_length i)) (omega (arith, handle_length i))

read_link_short : (text : List ℕ) → length text ≤ MOST_TEXT → length (result_text (results.ReadLink text)) ≤ 1036
read_link_short text short = result-bound (results.ReadLink text) (omega (arith, short)) (omega (arith, short))

access_short : (supported granted : ℕ) → length (result_text (results.Access supported granted)) ≤ 16
unfolding fields_text
access_short supported granted = omega (arith, length-result (results.Access supported granted), length-append (word supported) (word granted), length-word supported, length-word granted)

read_dir_short : (found : Listed) (size : ℕ) → EMPTY_LISTING ≤ size → IsShort (size - EMPTY_LISTING) found → length (result_text (results.ReadDir (zeros 8) found.entries found.eof)) ≤ 8 + size
unfolding fields_text
read_dir_short found size enough short =
    omega (arith, enough, short, length-result (results.ReadDir (zeros 8) found.entries found.eof), length-append (padded (zeros 8) ++ linked entry_text found.entries) (flag found.eof), length-append (padded (zeros 8)) (linked entry_text found.entries), length-flag found.eof, length-padded (zeros 8))

-- no more data than was asked
read_short : (offset most : ℕ) (content : List ℕ) (eof : Bool) → length (result_text (results.Read eof (read_at offset most content))) ≤ 16 + rounded most
read_short offset most content eof = omega (arith, length-read eof (read_at offset most content), length-take most (drop offset content))

committed_short : length (result_text (results.Commit (zeros 8))) ≤ 16
unfolding fields_text
committed_short = omega (arith, length-result (results.Commit (zeros 8)), length-padded (zeros 8))

-- ---- each operation

-- a success is within the bound of its operation, and a failure is short
abbrev pub ShortBy : Further → Op → OpResult → Option Refusal → Type 0
ShortBy x op result None = length (result_text result) ≤ op_bound x op
ShortBy x op result (Some why) = length (result_text result) ≤ 12

abbrev pub Short : Further → Op → Reply → Type 0
Short x op (Own own keeper) = ShortBy x op own.result own.refusal
Short x op (Kept reply) = ⊥

-- what an operation answers is short
abbrev pub IsShortBy : {R : Type 0} → Further → Op → (R → Reply) → Outcome (Answer R) → Type 0
IsShortBy x op reply o = Short x op (reply_of op reply o.answer)

pub refused_short : {R : Type 0} (x : Further) (p : Place) (op : Op) (reply : R → Reply) (gate : Gate) (status : ℕ) → IsShortBy x op reply (refuse p gate status)
refused_short x p op reply gate status = failed_short op status

module _ (x : Further) (site : Site) (spells : LabelsFit site) (sent : Sent) (p : Place) (w : World) (sizes : Sizes w) where
  pub row_short : (op : Op) → is_reading op ≡ true → Short x op (row site sent op p w).answer
  unfolding fields_text
  row_short (ops.PutFh handle) is =
      let P = IsShortBy x (ops.PutFh handle) (plainly results.PutFh) in
      put_fh_any P site p w (refused_short x p (ops.PutFh handle) (plainly results.PutFh)) (λ q moved. plain_short results.PutFh refl refl) handle
  row_short ops.PutRootFh is = plain_short results.PutRootFh refl refl
  row_short ops.GetFh is =
      let reply = λ (handle : List ℕ). success (results.GetFh handle) Nowhere in
      get_fh_any (IsShortBy x ops.GetFh reply) p w (refused_short x p ops.GetFh reply) (λ i. get_fh_short i)
  row_short ops.SaveFh is =
      save_fh_any (IsShortBy x ops.SaveFh (plainly results.SaveFh)) site p w (refused_short x p ops.SaveFh (plainly results.SaveFh)) (λ q moved. plain_short results.SaveFh refl refl)
  row_short ops.RestoreFh is =
      restore_fh_any (IsShortBy x ops.RestoreFh (plainly results.RestoreFh)) site p w (refused_short x p ops.RestoreFh (plainly results.RestoreFh)) (λ q moved. plain_short results.RestoreFh refl refl)
  row_short (ops.Lookup name) is =
      lookup_any (IsShortBy x (ops.Lookup name) (plainly results.Lookup)) site p w (refused_short x p (ops.Lookup name) (plainly results.Lookup)) (λ q moved. plain_short results.Lookup refl refl) name
  row_short ops.LookupP is =
      lookup_parent_any (IsShortBy x ops.LookupP (plainly results.LookupP)) site p w (refused_short x p ops.LookupP (plainly results.LookupP)) (λ q moved. plain_short results.LookupP refl refl)
  row_short (ops.GetAttr asked) is =
      let reply = λ (given : RawAttrs). success (results.GetAttr given) Nowhere in
      get_attr_any (IsShortBy x (ops.GetAttr asked) reply) site asked p w (refused_short x p (ops.GetAttr asked) reply) (λ i n found.
      get_attr_short (answer_to asked true (shown site p w n 0)) (answer_fits asked true (shown site p w n 0) (shown_fits site spells p w n 0 (node_fits w sizes i n found))))
  row_short (ops.Verify given) is =
      verify_any (IsShortBy x (ops.Verify given) (plainly results.Verify)) site given p w (refused_short x p (ops.Verify given) (plainly results.Verify)) (plain_short results.Verify refl refl)
  row_short (ops.NVerify given) is =
      nverify_any (IsShortBy x (ops.NVerify given) (plainly results.NVerify)) site given p w (refused_short x p (ops.NVerify given) (plainly results.NVerify)) (plain_short results.NVerify refl refl)
  row_short (ops.Access bits) is =
      let reply = λ (told : Granted). success (results.Access told.supported told.granted) Nowhere in
      access_any (IsShortBy x (ops.Access bits) reply) site bits p w (refused_short x p (ops.Access bits) reply) (λ granted. access_short granted.supported granted.granted)
  row_short (ops.ReadDir cookie verifier dircount maxcount asked) is =
      let op = ops.ReadDir cookie verifier dircount maxcount asked in
      let args : Arguments = record { cookie = cookie; maxcount = maxcount; asked = asked } in
      let reply = λ (found : Listed). success (results.ReadDir (zeros 8) found.entries found.eof) Nowhere in
      read_dir_any (IsShortBy x op reply) site args p w (refused_short x p op reply) (λ i d found there enough is.
      read_dir_short found (min maxcount MOST_DATA) (grind (arith, nat_tests, enough)) (listed_short (λ e. shown_entry site p w asked e (node_at w.nodes e.node)) (entries_above w.entries d.id cookie) (min maxcount MOST_DATA - EMPTY_LISTING) found is))
  row_short ops.ReadLink is =
      let reply = λ (text : List ℕ). success (results.ReadLink text) Nowhere in
      read_link_any (IsShortBy x ops.ReadLink reply) site p w (refused_short x p ops.ReadLink reply) (λ i n there link. read_link_short n.inner.content ((node_fits w sizes i n there).text link))
  row_short (ops.Read id offset count) is =
      let op = ops.Read id offset count in
      let args : read.Arguments = record { id = id; offset = offset; count = count } in
      let reply = λ (found : read.Data). success (results.Read found.eof found.content) Nowhere in
      read_any (IsShortBy x op reply) site args p w (refused_short x p op reply) (λ n file. read_short offset (min count MOST_DATA) n.inner.content (read.read_from args n).eof)
  row_short (ops.Commit offset count) is =
      commit_any (IsShortBy x (ops.Commit offset count) (plainly (results.Commit (zeros 8)))) site p w (refused_short x p (ops.Commit offset count) (plainly (results.Commit (zeros 8)))) committed_short
  row_short op is = absurd (grind arith)
