-- The operations of a COMPOUND in order: what ran, and what is ahead.
use Rattle.std.proofs.Common.{◌≡◌, ◌≤◌, ◌<◌, ◌+◌, ◌-◌, ℕ, zero, suc, List, [], ◌∷◌, ◌++◌, length, take, drop, get_or, Some, None, refl, sym, ap, ◌∙◌, subst, append_assoc, append-nil, length-append, arith}
use Rattle.std.specs.List.{flat_map}
use Rattle.std.proofs.lemmas.List.{take-append-le}
use Rattle.std.proofs.lemmas.List.Concat.{flat_map-cons, flat_map-append}
use Rattle.lnfs_arguments.specs.declared.types.Op.{Op}
use Rattle.lnfs_arguments.specs.declared.types.Compound.{Compound}
use Rattle.lnfs_arguments.specs.Numbered.{number_of}
use Rattle.lnfs_results.specs.declared.types.OpResult.{OpResult}
use Rattle.lnfs_results.specs.Numbered.{status_of, status_of_all}
use Rattle.lnfs_results.proofs.Numbered.{last_status}
use Rattle.lnfs_results.specs.Texts.{head_text, result_text, results_text}
use Rattle.lnfs_xdr.specs.Canon.{word, opaque}
use Rattle.lnfs_xdr.proofs.Sizes.{length-word}
use Rattle.lnfs_world.specs.Outcome.{Place}
use Rattle.lnfs_world.specs.Lawful.{Turn, Deed}
use Rattle.lnfs_operations.specs.Admission.{used}
use Rattle.lnfs_operations.specs.Served.{Keeper, Nowhere, Slot, Record, Reply, Own, Kept}
use Rattle.lnfs_operations.specs.SlotRule.{Ran, kept_by, own_reply, followed, run_behind}
use Rattle.lnfs_engine.specs.declared.place.Keeper as code
use Rattle.lnfs_engine.specs.declared.place.Keeper.TheVariants as keepers
use Rattle.lnfs_operations.specs.declared.Refusal.{Refusal}
use Rattle.lnfs_engine.specs.declared.reply.Came.{Came}
use Rattle.lnfs_engine.specs.declared.reply.Came.TheVariants as came
use Rattle.lnfs_engine.specs.declared.run.Ended.TheVariants as ended
use Rattle.lnfs_engine.specs.Places.{keeper_of}
use Rattle.lnfs_nodes.specs.Trees.{refusal_of}
use Rattle.lnfs_engine.specs.Replies.{Says}
use Rattle.lnfs_engine.specs.Performs.{first_kept, kept_behind, Performs}
use Rattle.lnfs_engine.specs.Runs.{Ends}
use Rattle.lnfs_engine.proofs.Acting.{first_nowhere}

-- ---- the operations that are ahead

drop-here : (os : List Op) (i : ℕ) (d : Op) → i < length os → drop i os ≡ get_or os i d ∷ drop (suc i) os
drop-here [] i d within = absurd (omega arith)
drop-here (x ∷ xs) zero d within = refl
drop-here (x ∷ xs) (suc i) d within = drop-here xs i d (omega arith)

-- the operation at a place, which is read from a slice of them
pub here : (os slice : List Op) (i : ℕ) (op : Op) → slice ≡ os → i < length slice → get_or slice i op ≡ op → drop i os ≡ op ∷ drop (i + 1) os
here os slice i op same within is =
    let next : suc i ≡ i + 1 = omega arith in
    drop-here os i op (omega (arith, within, ap length same)) ∙ ap (λ x. x ∷ drop (suc i) os) (ap (λ xs. get_or xs i op) (sym same) ∙ is) ∙ ap (λ n. op ∷ drop n os) next

pub none-left : (os : List Op) (i : ℕ) → length os ≤ i → drop i os ≡ []
none-left [] zero all = refl
none-left [] (suc i) all = refl
none-left (x ∷ xs) zero all = absurd (omega arith)
none-left (x ∷ xs) (suc i) all = none-left xs i (omega arith)

-- ---- results

pub text_more : (out : List ℕ) (rs : List OpResult) (r : OpResult) → out ++ flat_map result_text rs ++ result_text r ≡ out ++ flat_map result_text (rs ++ r ∷ [])
text_more out rs r = append_assoc out _ _ ∙ ap (λ x. out ++ x) (ap (λ x. flat_map result_text rs ++ x) (sym (append-nil (result_text r)) ∙ sym (flat_map-cons result_text r [])) ∙ sym (flat_map-append result_text rs (r ∷ [])))

-- what is used is what stands behind the mark
used_is : (c : Compound) (rs : List OpResult) (old out : List ℕ) (begin : ℕ) → length old ≡ begin + length (head_text 0 c.tag 0) → out ≡ old ++ flat_map result_text rs → used c rs ≡ length out - begin
unfolding results_text
used_is c rs old out begin starts is =
    omega (
      arith,
      ap length is,
      length-append old (flat_map result_text rs),
      starts,
      length-append (word 0 ++ opaque c.tag) (word 0),
      length-append (word 0) (opaque c.tag),
      length-word 0,
      length-append (word 0 ++ opaque c.tag) (word (length rs)),
      length-word (length rs),
      length-append (head_text 0 c.tag (length rs)) (flat_map result_text rs),
    )

-- ---- one operation on

module _ {S : Type 0} where
  kept_first : (k other : Keeper) (r : Ran S) → kept_by k (kept_by other r) ≡ kept_by (first_kept k other) r
  kept_first Nowhere other r = refl
  kept_first (Slot slot sequence) Nowhere r = refl
  kept_first (Slot slot sequence) (Slot n m) r = refl
  kept_first (Slot slot sequence) (Record client) r = refl
  kept_first (Record client) Nowhere r = refl
  kept_first (Record client) (Slot n m) r = refl
  kept_first (Record client) (Record n) r = refl

  -- a run that ends here
  ended_by : (k other : Keeper) (r : Ran S) → r.keeper ≡ other → kept_by k r ≡ record r { keeper = first_kept k other }
  ended_by Nowhere other r is = λ i. record r { keeper = is i }
  ended_by (Slot slot sequence) other r is = refl
  ended_by (Record client) other r is = refl

  pub record IsDone (old new : List ℕ) (k next : Keeper) (so_far : List OpResult) (run : Ran S) (rest : List OpResult → Ran S) : Type 0 where
    pub result : OpResult
    pub success : status_of result ≡ 0
    pub text : new ≡ old ++ result_text result
    pub follows : kept_by k run ≡ kept_by next (rest (so_far ++ result ∷ []))

  pub done_step : (begin : ℕ) (old new : List ℕ) (k next : Keeper) (a : Reply) (so_far : List OpResult) (op : Op) (p : Place) (s : S) (rest : List OpResult → Ran S) → kept_behind k a ≡ next → Says begin old new a came.Done → IsDone old new k next so_far (followed so_far op p s a rest) rest
  done_step begin old new k next (Own own other) so_far op p s rest is says = record {
    result = own.result;
    success = says.1;
    text = says.2;
    follows = ap (λ o. kept_by k (own_reply so_far op p s own.result o other rest)) says.0 ∙ kept_first k other (rest (so_far ++ own.result ∷ [])) ∙ ap (λ n. kept_by n (rest (so_far ++ own.result ∷ []))) is;
  }
  done_step begin old new k next (Kept kept) so_far op p s rest is says = absurd says

  pub record IsRefused (old new : List ℕ) (k next : Keeper) (so_far : List OpResult) (op : Op) (p : Place) (s : S) (why : Refusal) (run : Ran S) : Type 0 where
    pub result : OpResult
    pub status : status_of result ≡ why.status
    pub text : new ≡ old ++ result_text result
    pub ends : kept_by k run ≡ record { place = p; state = s; results = so_far ++ result ∷ []; denial = Some (record { place = length so_far + 1; number = number_of op; gate = why.gate; status = why.status }); again = None; keeper = next }

  pub refused_step : (begin : ℕ) (old new : List ℕ) (k next : Keeper) (a : Reply) (so_far : List OpResult) (op : Op) (p : Place) (s : S) (why : Refusal) (rest : List OpResult → Ran S) → kept_behind k a ≡ next → Says begin old new a (came.Refused why) → IsRefused old new k next so_far op p s why (followed so_far op p s a rest)
  refused_step begin old new k next (Own own other) so_far op p s why rest is says = record {
    result = own.result;
    status = says.1;
    text = says.2;
    ends = ap (λ o. kept_by k (own_reply so_far op p s own.result o other rest)) says.0 ∙ ended_by k other _ refl ∙ ap (λ n. record (own_reply so_far op p s own.result (Some (refusal_of why)) other rest) { keeper = n }) is;
  }
  refused_step begin old new k next (Kept kept) so_far op p s why rest is says = absurd says

  pub record IsAgain (begin : ℕ) (old new : List ℕ) (k next : Keeper) (so_far : List OpResult) (p : Place) (s : S) (run : Ran S) : Type 0 where
    pub kept : List ℕ
    pub text : new ≡ take begin old ++ kept
    pub ends : kept_by k run ≡ record { place = p; state = s; results = so_far; denial = None; again = Some kept; keeper = next }

  pub again_step : (begin : ℕ) (old new : List ℕ) (k next : Keeper) (a : Reply) (so_far : List OpResult) (op : Op) (p : Place) (s : S) (rest : List OpResult → Ran S) → kept_behind k a ≡ next → Says begin old new a came.Again → IsAgain begin old new k next so_far p s (followed so_far op p s a rest)
  again_step begin old new k next (Own own other) so_far op p s rest is says = absurd says
  again_step begin old new k next (Kept kept) so_far op p s rest is says = record {
    kept = kept;
    text = says;
    ends = ended_by k Nowhere _ refl ∙ ap (λ n. record { place = p; state = s; results = so_far; denial = None; again = Some kept; keeper = n }) (first_nowhere k ∙ is);
  }

-- ---- a whole run, of which so many operations are done

module _ {S : Type 0} (deeds : List OpResult → Op → Deed Reply S) (os : List Op) (begin : ℕ) (old : List ℕ) (total : Ran S) where
  pub record Ahead (out : List ℕ) (done : ℕ) (keeper : code.Keeper) (place : Place) (w : S) : Type 0 where
    pub so_far : List OpResult
    pub many : length so_far ≡ done
    pub text : out ≡ old ++ flat_map result_text so_far
    pub success : status_of_all so_far ≡ 0
    pub follows : total ≡ kept_by (keeper_of keeper) (run_behind deeds so_far (drop done os) place w)

  behind_cons : (so_far : List OpResult) (op : Op) (rest : List Op) (p : Place) (b : S) → run_behind deeds so_far (op ∷ rest) p b ≡ followed so_far op (deeds so_far op p b).place (deeds so_far op p b).state (deeds so_far op p b).answer (λ results. run_behind deeds results rest (deeds so_far op p b).place (deeds so_far op p b).state)
  unfolding run_behind
  behind_cons so_far op rest p b = refl

  behind_nil : (so_far : List OpResult) (p : Place) (b : S) → run_behind deeds so_far [] p b ≡ record { place = p; state = b; results = so_far; denial = None; again = None; keeper = Nowhere }
  unfolding run_behind
  behind_nil so_far p b = refl

  module _ (out : List ℕ) (done : ℕ) (keeper : code.Keeper) (place : Place) (w : S) (a : Ahead out done keeper place w) where
    pub ahead_ends : drop done os ≡ [] → Ends begin old out keeper place w (status_of_all total.results) total (ended.New 0 done None)
    ahead_ends none =
        let is = a.follows ∙ ap (λ x. kept_by (keeper_of keeper) (run_behind deeds a.so_far x place w)) none ∙ ap (kept_by (keeper_of keeper)) (behind_nil a.so_far place w)
        ∙ ended_by (keeper_of keeper) Nowhere _ refl ∙ ap (λ (k : Keeper). record { place = place; state = w; results = a.so_far; denial = None; again = None; keeper = k }) (first_nowhere (keeper_of keeper)) in
        subst (λ (r : Ran S). Ends begin old out keeper place w (status_of_all r.results) r (ended.New 0 done None)) (sym is) (record {
          place_is = refl;
          state = refl;
          keeper = refl;
          ends = record { none = refl; text = a.text; many = sym a.many; last = sym a.success; denied = refl };
        })

    -- the next one ran, as is said of it behind any results of that number and length
    module _ (c : Compound) (op : Op) (ahead : drop done os ≡ op ∷ drop (done + 1) os) (new : List ℕ) (next : code.Keeper) (at : Place) (v : S) (how : Came) (head : length old ≡ begin + length (head_text 0 c.tag 0))
        (ran : (so_far : List OpResult) → length so_far ≡ done → used c so_far ≡ length out - begin → Performs begin out new keeper next at v (deeds so_far op place w) how) where
      abbrev turn : Turn Reply S
      turn = deeds a.so_far op place w

      abbrev behind : Place → S → List OpResult → Ran S
      behind p b results = run_behind deeds results (drop (done + 1) os) p b

      here_is : total ≡ kept_by (keeper_of keeper) (followed a.so_far op turn.place turn.state turn.answer (behind turn.place turn.state))
      here_is = a.follows ∙ ap (λ x. kept_by (keeper_of keeper) (run_behind deeds a.so_far x place w)) ahead ∙ ap (kept_by (keeper_of keeper)) (behind_cons a.so_far op (drop (done + 1) os) place w)

      pub did : (x : Came) → how ≡ x → Performs begin out new keeper next at v turn x
      did x is = subst (Performs begin out new keeper next at v turn) is (ran a.so_far a.many (used_is c a.so_far old out begin head a.text))

      pub ahead_on : how ≡ came.Done → Ahead new (done + 1) next at v
      ahead_on is =
          let on = did came.Done is in
          let s = done_step begin out new (keeper_of keeper) (keeper_of next) turn.answer a.so_far op turn.place turn.state (behind turn.place turn.state) on.keeper on.says in
          record {
            so_far = a.so_far ++ s.result ∷ [];
            many = omega (arith, a.many, length-append a.so_far (s.result ∷ []));
            text = s.text ∙ ap (λ x. x ++ result_text s.result) a.text ∙ text_more old a.so_far s.result;
            success = last_status a.so_far s.result ∙ s.success;
            follows = here_is ∙ s.follows ∙ (λ i. kept_by (keeper_of next) (behind (on.place_is i) (on.state i) (a.so_far ++ s.result ∷ [])));
          }

      pub ahead_refused : (why : Refusal) → how ≡ came.Refused why →
          Ends begin old new next at v (status_of_all total.results) total (ended.New why.status (done + 1) (Some (record { place = done + 1; number = number_of op; gate = why.gate; status = why.status })))
      ahead_refused why is =
          let on = did (came.Refused why) is in
          let s = refused_step begin out new (keeper_of keeper) (keeper_of next) turn.answer a.so_far op turn.place turn.state why (behind turn.place turn.state) on.keeper on.says in
          subst (λ (r : Ran S). Ends begin old new next at v (status_of_all r.results) r (ended.New why.status (done + 1) (Some (record { place = done + 1; number = number_of op; gate = why.gate; status = why.status })))) (sym (here_is ∙ s.ends)) (record {
            place_is = on.place_is;
            state = on.state;
            keeper = refl;
            ends = record {
              none = refl;
              text = s.text ∙ ap (λ x. x ++ result_text s.result) a.text ∙ text_more old a.so_far s.result;
              many = omega (arith, a.many, length-append a.so_far (s.result ∷ []));
              last = sym (last_status a.so_far s.result ∙ s.status);
              denied = (λ i. Some (record { place = sym a.many i + 1; number = number_of op; gate = why.gate; status = why.status }));
            };
          })

      pub ahead_again : how ≡ came.Again → Ends begin old new next at v (status_of_all total.results) total ended.Again
      ahead_again is =
          let on = did came.Again is in
          let within : begin ≤ length old = omega (arith, head) in
          let s = again_step begin out new (keeper_of keeper) (keeper_of next) turn.answer a.so_far op turn.place turn.state (behind turn.place turn.state) on.keeper on.says in
          subst (λ (r : Ran S). Ends begin old new next at v (status_of_all r.results) r ended.Again) (sym (here_is ∙ s.ends)) (record {
            place_is = on.place_is;
            state = on.state;
            keeper = refl;
            ends = record {
              kept = s.kept;
              again_is = refl;
              text = s.text ∙ ap (λ x. take begin x ++ s.kept) a.text ∙ ap (λ x. x ++ s.kept) (take-append-le begin old (flat_map result_text a.so_far) within);
              denied = refl;
            };
          })

pub ahead_begin : {S : Type 0} (deeds : List OpResult → Op → Deed Reply S) (os : List Op) (begin : ℕ) (old : List ℕ) (keeper : code.Keeper) (place : Place) (w : S) → keeper ≡ keepers.Nowhere → Ahead deeds os begin old (run_behind deeds [] os place w) old 0 keeper place w
ahead_begin deeds os begin old keeper place w nowhere = record {
  so_far = [];
  many = refl;
  text = sym (append-nil old);
  success = refl;
  follows = ap (λ x. kept_by (keeper_of x) (run_behind deeds [] os place w)) (sym nowhere);
}
