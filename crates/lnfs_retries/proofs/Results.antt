-- What the client reads from results that the server writes.
use Rattle.std.proofs.Common.{◌≡◌, ℕ, ◌/◌, ◌%◌, ◌≤◌, ◌<◌, ◌^◌, ◌==◌, Bool, true, false, List, [], ◌∷◌, ◌++◌, length, take, Ok, Err, refl, sym, ap, ◌∙◌, subst, append_assoc, arith}
use Rattle.std.specs.Prelude.{Result, if◌then◌else◌, nat_lt, nat_le, ◌&&◌}
use Rattle.std.proofs.lemmas.Bool.Decides.{nat_tests}
use Rattle.std.proofs.lemmas.List.{append-nil}
use Rattle.lnfs_xdr.specs.Canon.{word, padded, opaque}
use Rattle.lnfs_xdr.specs.Format.{Format, Word, Count, Among, Done, If, Then, Spells}
use Rattle.lnfs_xdr.specs.Reading.{Fault, Leaves, Read, after, read}
use Rattle.lnfs_xdr.specs.Message.{Closed, decided, parse}
use Rattle.lnfs_xdr.proofs.Laws.{again}
use Rattle.lnfs_xdr.proofs.Spelled.{Spelled, word_spelled, long_spelled, count_spelled, among_spelled, fixed_spelled, opaque_spelled, done_spelled, ◌▸◌, last, grouped, on_true, on_other}
use Rattle.lnfs_arguments.specs.declared.channel.Channel.{Channel}
use Rattle.lnfs_arguments.specs.Numbers.{op_exchange_id, op_create_session}
use Rattle.lnfs_arguments.specs.SharedTexts.{ChannelFits}
use Rattle.lnfs_arguments.proofs.Shared.{channel_spelled}
use Rattle.lnfs_results.specs.declared.types.OpResult.{OpResult}
use Rattle.lnfs_results.specs.declared.types.OpResult.TheVariants as results
use Rattle.lnfs_results.specs.Grammar.{fields, longest, octets, exchange_id, create_session}
use Rattle.lnfs_results.specs.Texts.{fields_text, result_text, results_text}
use Rattle.lnfs_answers.specs.declared.types.Awaits.{Awaits}
use Rattle.lnfs_answers.specs.declared.types.Awaits.TheVariants as awaits
use Rattle.lnfs_answers.specs.declared.types.Told.TheVariants as told
use Rattle.lnfs_answers.specs.declared.types.Said.{Said}
use Rattle.lnfs_answers.specs.declared.request.Heard.TheVariants as heards
use Rattle.lnfs_answers.specs.Grammar.{other, done, failed, result_for, results_for, is_count, said}
use Rattle.lnfs_answers.specs.Replies as replies
use Rattle.lnfs_answers.specs.Replies.{content}
use Rattle.lnfs_retries.proofs.Arguments.{parse_next}

-- ---- a word tells a number up to the multiples of 2 ^ 32

pub word-mod : (n : ℕ) → word n ≡ word (n % 2 ^ 32)
unfolding word
word-mod n = λ i. (a i ∷ b i ∷ c i ∷ d i ∷ [])
  where
    a : n / 16777216 % 256 ≡ n % 2 ^ 32 / 16777216 % 256
    a = omega arith

    b : n / 65536 % 256 ≡ n % 2 ^ 32 / 65536 % 256
    b = omega arith

    c : n / 256 % 256 ≡ n % 2 ^ 32 / 256 % 256
    c = omega arith

    d : n % 256 ≡ n % 2 ^ 32 % 256
    d = omega arith

-- ---- the text of one result, with an empty tag

-- a status, no tag, a count of 1, the number of the operation, its status, and its fields
abbrev pub one_text : (status number : ℕ) → List ℕ → List ℕ
one_text status number fields = word status ++ (word 0 ++ (word 1 ++ (word number ++ (word status ++ fields))))

none_text : opaque [] ≡ word 0
unfolding opaque padded
none_text = append-nil (word 0)

pub failed_text : (status number : ℕ) → results_text (record { status = status; tag = []; results = results.Failed number status ∷ [] }) ≡ one_text status number []
unfolding results_text result_text fields_text
failed_text status number = simp (none_text, append_assoc, append-nil) refl

module _ (number : ℕ) (more : List Awaits) (small : number < 2 ^ 32) where
  abbrev awaited : List Awaits
  awaited = awaits.Fields number ∷ more

  same_number : (number == number) ≡ true
  same_number = grind (arith, nat_tests)

  -- ---- one that failed

  failed_said : (status : ℕ) → Said
  failed_said status = record { status = status; results = told.Other (results.Failed number status) ∷ [] }

  module _ (status : ℕ) (lt : status < 2 ^ 32) (bad : (status == 0) ≡ false) where
    is_one : is_count status (length awaited) 1 ≡ true
    is_one = ap (λ (b : Bool). if b then 1 == length awaited else (nat_lt 0 1 && nat_le 1 (length awaited))) bad ∙ grind (arith, nat_tests)

    same_status : (status == status) ≡ true
    same_status = grind (arith, nat_tests)

    one_failed : Spelled (result_for (awaits.Fields number) status) (told.Other (results.Failed number status)) (word number ++ (word status ++ []))
    unfolding result_for
    one_failed =
        among_spelled (λ n. n == number) number same_number small
        ▸ among_spelled (λ n. n == status) status same_status lt
        ▸ on_other (status == 0) bad (done_spelled (told.Other (results.Failed number status)))

    all_failed : Spelled (results_for status (awaits.Fields number ∷ [])) (told.Other (results.Failed number status) ∷ []) (word number ++ (word status ++ []))
    unfolding results_for
    all_failed = last one_failed (last (done_spelled []) (done_spelled (told.Other (results.Failed number status) ∷ [])))

    said_failed : Spelled (said awaited) (failed_said status) (one_text status number [])
    unfolding said failed_said
    said_failed =
        word_spelled status lt ▸ count_spelled 0 0 (omega arith) (omega arith) ▸ among_spelled (is_count status (length awaited)) 1 is_one (omega arith)
        ▸ last all_failed (done_spelled (failed_said status))

    pub reads_failed : parse (content (replies.results awaited)) (one_text status number []) ≡ Ok (heards.Said (record { status = status; results = told.Other (results.Failed number status) ∷ [] }))
    unfolding failed_said
    reads_failed =
        ap (parse (content (replies.results awaited))) (sym (append-nil (one_text status number [])))
        ∙ parse_next (said awaited) (λ s. Closed (heards.Said s)) (λ e. heards.Said (record { status = e.1; results = [] })) (failed_said status) (one_text status number []) [] said_failed.is

-- ---- reading that fails

read_then : {E A B : Type 0} (f : Format E A) (k : A → Format E B) (a : A) (front rest : List ℕ) → Spells f a front → read (Then f k) (front ++ rest) ≡ read (k a) rest
read_then f k a front rest s = ap (λ r. after r (λ a rest. read (k a) rest)) (again f a front rest s)

-- no value is read, since an item is missing
abbrev pub IsFault : {E A : Type 0} → Read E A → Type 0
IsFault (Ok x) = ⊥
IsFault (Err (Fault c stuck)) = Unit {0}
IsFault (Err (Leaves e)) = ⊥

fault_then : {E A B : Type 0} (r : Read E A) (k : A → List ℕ → Read E B) → IsFault r → IsFault (after r k)
fault_then (Ok x) k f = absurd f
fault_then (Err (Fault c stuck)) k f = tt
fault_then (Err (Leaves e)) k f = absurd f

fault_decided : {E A B : Type 0} (r : Read E A) (k : A → List ℕ → Result B (List ℕ)) (g : E → B) → IsFault r → (stuck : List ℕ) × (decided r k g ≡ Err stuck)
fault_decided (Ok x) k g f = absurd f
fault_decided (Err (Fault c stuck)) k g f = (stuck, refl)
fault_decided (Err (Leaves e)) k g f = absurd f

-- ---- one that succeeded, alone

module _ (number : ℕ) (small : number < 2 ^ 32) where
  abbrev alone : List Awaits
  alone = awaits.Fields number ∷ []

  its_own : (number == number) ≡ true
  its_own = grind (arith, nat_tests)

  one_done : (r : OpResult) (bytes : List ℕ) → Spelled (fields number) r bytes → Spelled (result_for (awaits.Fields number) 0) (told.Other r) (word number ++ (word 0 ++ bytes))
  unfolding result_for other
  one_done r bytes p =
      among_spelled (λ n. n == number) number its_own small
      ▸ among_spelled (λ n. n == 0) 0 refl (omega arith)
      ▸ on_true (last p (done_spelled (told.Other r)))

  all_done : (r : OpResult) (bytes : List ℕ) → Spelled (fields number) r bytes → Spelled (results_for 0 alone) (told.Other r ∷ []) (word number ++ (word 0 ++ bytes))
  unfolding results_for
  all_done r bytes p = last (one_done r bytes p) (last (done_spelled []) (done_spelled (told.Other r ∷ [])))

  said_done : (r : OpResult) (bytes : List ℕ) → Spelled (fields number) r bytes → Spelled (said alone) (record { status = 0; results = told.Other r ∷ [] }) (one_text 0 number bytes)
  unfolding said
  said_done r bytes p =
      word_spelled 0 (omega arith) ▸ count_spelled 0 0 (omega arith) (omega arith) ▸ among_spelled (is_count 0 1) 1 refl (omega arith)
      ▸ last (all_done r bytes p) (done_spelled (record { status = 0; results = told.Other r ∷ [] }))

  pub reads_done : (r : OpResult) (bytes : List ℕ) → Spelled (fields number) r bytes → parse (content (replies.results alone)) (one_text 0 number bytes) ≡ Ok (heards.Said (record { status = 0; results = told.Other r ∷ [] }))
  reads_done r bytes p =
      ap (parse (content (replies.results alone))) (sym (append-nil (one_text 0 number bytes)))
      ∙ parse_next (said alone) (λ s. Closed (heards.Said s)) (λ e. heards.Said (record { status = e.1; results = [] })) (record { status = 0; results = told.Other r ∷ [] }) (one_text 0 number bytes) [] (said_done r bytes p).is

  -- ---- one whose status is told as 0, and whose fields are not there

  none_done : IsFault (read (fields number) []) → IsFault (read (result_for (awaits.Fields number) 0) (word number ++ (word 0 ++ [])))
  unfolding result_for other
  none_done f =
      let at : read (result_for (awaits.Fields number) 0) (word number ++ (word 0 ++ [])) ≡ read (other number) [] =
      read_then (Among (λ n. n == number)) (λ n. Then (Among (λ n. n == 0)) (λ own. If (0 == 0) (done (awaits.Fields number)) (failed (awaits.Fields number) 0))) number (word number) (word 0 ++ []) (among_spelled {E = ℕ × ℕ} (λ n. n == number) number its_own small).is
      ∙ read_then (Among (λ n. n == 0)) (λ own. If (0 == 0) (done (awaits.Fields number)) (failed (awaits.Fields number) 0)) 0 (word 0) [] (among_spelled {E = ℕ × ℕ} (λ n. n == 0) 0 refl (omega arith)).is in
      subst IsFault (sym at) (fault_then (read (fields number) []) (λ r rest. read (Done (told.Other r)) rest) f)

  none_said : IsFault (read (fields number) []) → IsFault (read (said alone) (one_text 0 number []))
  unfolding said results_for
  none_said f =
      let at : read (said alone) (one_text 0 number []) ≡ read (Then (results_for 0 alone) (λ rs. Done (record { status = 0; results = rs }))) (word number ++ (word 0 ++ [])) =
      ap (λ r. after r (λ status rest. read (Then (Count 0) (λ tag. Then (Among (is_count status 1)) (λ count. Then (results_for status (take count alone)) (λ rs. Done (record { status = status; results = rs }))))) rest)) (again {E = ℕ × ℕ} Word 0 (word 0) (word 0 ++ (word 1 ++ (word number ++ (word 0 ++ [])))) (word_spelled {E = ℕ × ℕ} 0 (omega arith)).is)
      ∙ read_then (Count 0) (λ tag. Then (Among (is_count 0 1)) (λ count. Then (results_for 0 (take count alone)) (λ rs. Done (record { status = 0; results = rs })))) 0 (word 0) (word 1 ++ (word number ++ (word 0 ++ []))) (count_spelled {E = ℕ × ℕ} 0 0 (omega arith) (omega arith)).is
      ∙ read_then (Among (is_count 0 1)) (λ count. Then (results_for 0 (take count alone)) (λ rs. Done (record { status = 0; results = rs }))) 1 (word 1) (word number ++ (word 0 ++ [])) (among_spelled {E = ℕ × ℕ} (is_count 0 1) 1 refl (omega arith)).is in
      subst IsFault (sym at) (fault_then (read (results_for 0 alone) (word number ++ (word 0 ++ []))) (λ rs rest. read (Done (record { status = 0; results = rs })) rest) (fault_then (read (result_for (awaits.Fields number) 0) (word number ++ (word 0 ++ []))) (λ r rest. read (Then (results_for 0 []) (λ rs. Done (r ∷ rs))) rest) (none_done f)))

  pub reads_none : IsFault (read (fields number) []) → (stuck : List ℕ) × (parse (content (replies.results alone)) (one_text 0 number []) ≡ Err stuck)
  reads_none f = fault_decided (read (said alone) (one_text 0 number [])) (λ s rest. parse (Closed (heards.Said s)) rest) (λ e. heards.Said (record { status = e.1; results = [] })) (none_said f)

-- ---- the fields that are of weight

pub exchange_none : IsFault (read (fields op_exchange_id) [])
unfolding fields exchange_id
exchange_none = tt

pub create_none : IsFault (read (fields op_create_session) [])
unfolding fields create_session
create_none = tt

octets_spelled : (v : List ℕ) → length v ≤ longest → Spelled octets v (opaque v)
octets_spelled v le = opaque_spelled longest v le (omega (arith, le))

-- what EXCHANGE_ID tells
pub exchange_spelled : (client sequence flags : ℕ) (name : List ℕ) → client < 2 ^ 64 → sequence < 2 ^ 32 → flags < 2 ^ 32 → length name ≤ longest
    → Spelled (fields op_exchange_id) (results.ExchangeId client sequence flags 0 name name) (fields_text (results.ExchangeId client sequence flags 0 name name))
unfolding fields exchange_id fields_text
exchange_spelled client sequence flags name long32 word32 flags32 short =
    let r : OpResult = results.ExchangeId client sequence flags 0 name name in
    let p : Spelled exchange_id r (fields_text r) = grouped (long_spelled client long32 ▸ word_spelled sequence word32 ▸ word_spelled flags flags32 ▸ among_spelled (λ n. n == 0) 0 refl (omega arith) ▸ long_spelled 0 (omega arith) ▸ octets_spelled name short ▸ octets_spelled name short ▸ last (among_spelled (λ n. n == 0) 0 refl (omega arith)) (done_spelled r)) (simp append_assoc refl) in
    record { is = p.is }

-- what CREATE_SESSION tells
pub create_spelled : (session : List ℕ) (sequence : ℕ) (fore back : Channel) → length session ≡ 16 → sequence < 2 ^ 32 → ChannelFits fore → ChannelFits back
    → Spelled (fields op_create_session) (results.CreateSession session sequence 0 fore back) (fields_text (results.CreateSession session sequence 0 fore back))
unfolding fields create_session fields_text
create_spelled session sequence fore back sized word32 fits given =
    let r : OpResult = results.CreateSession session sequence 0 fore back in
    let p : Spelled create_session r (fields_text r) = grouped (fixed_spelled 16 session sized ▸ word_spelled sequence word32 ▸ word_spelled 0 (omega arith) ▸ channel_spelled fore fits ▸ last (channel_spelled back given) (done_spelled r)) (simp append_assoc refl) in
    record { is = p.is }

pub exchange_text : (client sequence flags minor : ℕ) (major scope : List ℕ) → results_text (record { status = 0; tag = []; results = results.ExchangeId client sequence flags minor major scope ∷ [] }) ≡ one_text 0 op_exchange_id (fields_text (results.ExchangeId client sequence flags minor major scope))
unfolding results_text result_text
exchange_text client sequence flags minor major scope = simp (none_text, append_assoc, append-nil) refl

pub create_text : (session : List ℕ) (sequence flags : ℕ) (fore back : Channel) → results_text (record { status = 0; tag = []; results = results.CreateSession session sequence flags fore back ∷ [] }) ≡ one_text 0 op_create_session (fields_text (results.CreateSession session sequence flags fore back))
unfolding results_text result_text
create_text session sequence flags fore back = simp (none_text, append_assoc, append-nil) refl
