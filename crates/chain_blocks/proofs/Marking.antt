-- Marks of a walk, and what the walk answers.
use Rattle.std.proofs.Common.{◌≡◌, ◌≢◌, ⊎_elim, ◌<◌, ◌≤◌, ◌+◌, ℕ, zero, suc, List, [], ◌∷◌, ◌++◌, Option, Some, None, length, get_or, set, drop, eqb, ltb, cond, refl, sym, ◌∙◌, ap, subst, arith, append_assoc, append-nil, length-append, get_or-set_same, get_or-set_other}
use Rattle.std.specs.Prelude.{Result, Ok, Err}
use Rattle.std.proofs.lemmas.List.{length-set, get_or_past, get_or_default}
use Rattle.std.proofs.lemmas.Bool.{cases_eq, cond-true, cond-false, eq-eqb, ne_eqb, lt-ltb, le-ltb}
use Rattle.chain_blocks.specs.Chains.{IsTrail, IsChain, AreChains, Holds, times, joined, last_link}
use Rattle.chain_blocks.specs.Walk.{met, unless, walk, walk_heads, first_lost, judged, then_ok, behind, unless_lost}
use Rattle.chain_blocks.specs.Marks.{Marked, Chained, Headed, unmarked}
use Rattle.chain_blocks.specs.declared.blocks.ChainFault.{ChainFault}
use Rattle.chain_blocks.specs.declared.blocks.ChainFault.TheVariants.{OutOfRange, Loop, Shared}
use Rattle.chain_blocks.proofs.Counting.{times-append, times_here, times_there, joined-append}

pub unmarked_set : (ms : List ℕ) (i m : ℕ) → i < length ms → get_or ms i 0 ≡ 0 → m ≢ 0 → unmarked (set ms i m) + 1 ≡ unmarked ms
unmarked_set [] i m lt is ne = absurd (omega arith)
unmarked_set (x ∷ ms) zero m lt is ne = omega (arith, cond-false {A = ℕ} (eqb m 0) 1 0 (ne_eqb m 0 ne), cond-true {A = ℕ} (eqb x 0) 1 0 (eq-eqb x 0 is))
unmarked_set (x ∷ ms) (suc i) m lt is ne = omega (arith, unmarked_set ms i m (omega arith) is ne)

pub unmarked_all : (ms : List ℕ) → ((k : ℕ) → get_or ms k 0 ≡ 0) → unmarked ms ≡ length ms
unmarked_all [] each = refl
unmarked_all (x ∷ ms) each = omega (arith, cond-true {A = ℕ} (eqb x 0) 1 0 (eq-eqb x 0 (each 0)), unmarked_all ms (λ k. each (suc k)))

pub unmarked_none : (ms : List ℕ) → ((k : ℕ) → k < length ms → get_or ms k 0 ≢ 0) → unmarked ms ≡ 0
unmarked_none [] each = refl
unmarked_none (x ∷ ms) each = omega (arith, cond-false {A = ℕ} (eqb x 0) 1 0 (ne_eqb x 0 (each 0 (omega arith))), unmarked_none ms (λ k lt. each (suc k) (omega arith)))

pub unmarked_most : (ms : List ℕ) → unmarked ms ≤ length ms
unmarked_most [] = omega arith
unmarked_most (x ∷ ms) = ⊎_elim
    (λ is. omega (arith, cond-true {A = ℕ} (eqb x 0) 1 0 (eq-eqb x 0 is), unmarked_most ms))
    (λ ne. omega (arith, cond-false {A = ℕ} (eqb x 0) 1 0 (ne_eqb x 0 ne), unmarked_most ms))
    (cases_eq x 0)

-- no block is met
pub marked_first : (ms : List ℕ) → ((k : ℕ) → get_or ms k 0 ≡ 0) → Marked ms 1 [] []
marked_first ms each = record {
  bound = λ k. omega (arith, each k);
  none = λ k is. (refl, refl);
  mine = λ k is. absurd (omega (arith, each k));
  other = λ k ne ne2. absurd (ne (each k));
  size = omega (arith, unmarked_all ms each);
}

-- the next chain
pub marked_next : (ms : List ℕ) (mark : ℕ) (seen here : List ℕ) → 1 ≤ mark → Marked ms mark seen here → Marked ms (mark + 1) (seen ++ here) []
marked_next ms mark seen here positive m = record {
  bound = λ k. omega (arith, m.bound k);
  none = λ k is. let was = m.none k is in (omega (arith, times-append k seen here, was.0, was.1), refl);
  mine = λ k is. absurd (omega (arith, m.bound k));
  other = λ k ne ne2. ⊎_elim
      (λ same. let was = m.mine k same in (omega (arith, times-append k seen here, was.0, was.1), refl))
      (λ differs. let was = m.other k ne differs in (omega (arith, times-append k seen here, was.0, was.1), refl))
      (cases_eq (get_or ms k 0) mark);
  size = let size = m.size in omega (arith, length-append seen here);
}

-- one more block of the chain
pub marked_more : (ms : List ℕ) (mark : ℕ) (seen here : List ℕ) (block : ℕ) → 1 ≤ mark → block < length ms → get_or ms block 0 ≡ 0 → Marked ms mark seen here → Marked (set ms block mark) mark seen (here ++ block ∷ [])
marked_more ms mark seen here block positive lt unset m = record {
  bound = λ k. by_place k (λ v. v ≤ mark) (λ same. omega arith) (λ ne. m.bound k);
  none = λ k is. ⊎_elim
      (λ same. absurd (omega (arith, ap (λ (j : ℕ). get_or (set ms block mark) j 0) (sym same), get_or-set_same ms block mark 0 lt)))
      (λ ne. let was = m.none k (sym (get_or-set_other ms block k mark 0 ne) ∙ is) in (was.0, omega (arith, was.1, times-append k here (block ∷ []), times_there block k [] (λ e. ne (sym e)))))
      (cases_eq k block);
  mine = λ k is. ⊎_elim
      (λ same. subst (λ (j : ℕ). (times j seen ≡ 0) × (times j (here ++ block ∷ []) ≡ 1)) (sym same) (let was = m.none block unset in (was.0, omega (arith, was.1, times-append block here (block ∷ []), times_here block []))))
      (λ ne. let was = m.mine k (sym (get_or-set_other ms block k mark 0 ne) ∙ is) in (was.0, omega (arith, was.1, times-append k here (block ∷ []), times_there block k [] (λ e. ne (sym e)))))
      (cases_eq k block);
  other = λ k ne_zero ne_mark. ⊎_elim
      (λ same. absurd (ne_mark (ap (λ (j : ℕ). get_or (set ms block mark) j 0) same ∙ get_or-set_same ms block mark 0 lt)))
      (λ ne. let e = get_or-set_other ms block k mark 0 ne in let was = m.other k (λ z. ne_zero (e ∙ z)) (λ z. ne_mark (e ∙ z)) in (was.0, omega (arith, was.1, times-append k here (block ∷ []), times_there block k [] (λ e. ne (sym e)))))
      (cases_eq k block);
  size = let size = m.size in omega (arith, length-append here (block ∷ []), length-set ms block mark, unmarked_set ms block mark lt unset (λ e. omega arith));
}
  where
    by_place : (k : ℕ) (P : ℕ → Type 0) → (k ≡ block → P mark) → (k ≢ block → P (get_or ms k 0)) → P (get_or (set ms block mark) k 0)
    by_place k P here_too there = ⊎_elim
        (λ same. subst P (sym (ap (λ (j : ℕ). get_or (set ms block mark) j 0) same ∙ get_or-set_same ms block mark 0 lt)) (here_too same))
        (λ ne. subst P (sym (get_or-set_other ms block k mark 0 ne)) (there ne))
        (cases_eq k block)

-- which fault a block is
pub met_out : (count : ℕ) (seen here : List ℕ) (at : ℕ) → count ≤ at → met count seen here at ≡ Some (OutOfRange at)
unfolding met
met_out count seen here at le = cond-false (ltb at count) (cond (eqb (times at here) 0) (cond (eqb (times at seen) 0) None (Some (Shared at))) (Some (Loop at))) (Some (OutOfRange at)) (le-ltb at count le)

pub met_in : (count : ℕ) (seen here : List ℕ) (at : ℕ) → at < count → met count seen here at ≡ cond (eqb (times at here) 0) (cond (eqb (times at seen) 0) None (Some (Shared at))) (Some (Loop at))
unfolding met
met_in count seen here at lt = cond-true (ltb at count) (cond (eqb (times at here) 0) (cond (eqb (times at seen) 0) None (Some (Shared at))) (Some (Loop at))) (Some (OutOfRange at)) (lt-ltb at count lt)

module _ (ms : List ℕ) (mark : ℕ) (seen here : List ℕ) (at : ℕ) (lt : at < length ms) (m : Marked ms mark seen here) where
  pub met_loop : get_or ms at 0 ≡ mark → met (length ms) seen here at ≡ Some (Loop at)
  met_loop is = let was = m.mine at is in met_in (length ms) seen here at lt ∙ cond-false (eqb (times at here) 0) (cond (eqb (times at seen) 0) None (Some (Shared at))) (Some (Loop at)) (ne_eqb (times at here) 0 (λ e. omega (arith, was.1)))

  pub met_shared : get_or ms at 0 ≢ mark → get_or ms at 0 ≢ 0 → met (length ms) seen here at ≡ Some (Shared at)
  met_shared ne_mark ne_zero = let was = m.other at ne_zero ne_mark in met_in (length ms) seen here at lt ∙ cond-true (eqb (times at here) 0) (cond (eqb (times at seen) 0) None (Some (Shared at))) (Some (Loop at)) (eq-eqb (times at here) 0 was.1)
      ∙ cond-false (eqb (times at seen) 0) None (Some (Shared at)) (ne_eqb (times at seen) 0 (λ e. omega (arith, was.0)))

  pub met_new : get_or ms at 0 ≡ 0 → met (length ms) seen here at ≡ None
  met_new is = let was = m.none at is in met_in (length ms) seen here at lt ∙ cond-true (eqb (times at here) 0) (cond (eqb (times at seen) 0) None (Some (Shared at))) (Some (Loop at)) (eq-eqb (times at here) 0 was.1)
      ∙ cond-true (eqb (times at seen) 0) None (Some (Shared at)) (eq-eqb (times at seen) 0 was.0)

-- the steps of a walk
module _ (links seen here : List ℕ) (at : ℕ) where
  pub walk_end : (n : ℕ) → at ≡ last_link → walk (suc n) links seen here at ≡ Ok here
  unfolding walk
  walk_end n is = cond-true (eqb at last_link) (Ok here) (unless (met (length links) seen here at) (walk n links seen (here ++ at ∷ []) (get_or links at last_link))) (eq-eqb at last_link is)

  walk_on : (n : ℕ) → at ≢ last_link → walk (suc n) links seen here at ≡ unless (met (length links) seen here at) (walk n links seen (here ++ at ∷ []) (get_or links at last_link))
  unfolding walk
  walk_on n ne = cond-false (eqb at last_link) (Ok here) (unless (met (length links) seen here at) (walk n links seen (here ++ at ∷ []) (get_or links at last_link))) (ne_eqb at last_link ne)

  pub walk_fault : (n : ℕ) (fault : ChainFault) → at ≢ last_link → met (length links) seen here at ≡ Some fault → walk (suc n) links seen here at ≡ Err fault
  walk_fault n fault ne is = walk_on n ne ∙ ap (λ (o : Option ChainFault). unless o (walk n links seen (here ++ at ∷ []) (get_or links at last_link))) is

  pub walk_more : (n : ℕ) → at ≢ last_link → met (length links) seen here at ≡ None → walk (suc n) links seen here at ≡ walk n links seen (here ++ at ∷ []) (get_or links at last_link)
  walk_more n ne is = walk_on n ne ∙ ap (λ (o : Option ChainFault). unless o (walk n links seen (here ++ at ∷ []) (get_or links at last_link))) is

-- how far a walk has come
pub record Walking (links marks : List ℕ) (mark head block count : ℕ) (seen : List ℕ) : Type 0 where
  pub here : List ℕ
  pub fuel : ℕ
  pub walks : walk (suc (length links)) links seen [] head ≡ walk (suc fuel) links seen here block
  pub enough : unmarked marks ≤ fuel
  pub marked : Marked marks mark seen here
  pub path : (rest : List ℕ) → IsTrail links block rest → IsTrail links head (here ++ rest)
  pub counted : count ≡ length here

pub walking_first : (links marks : List ℕ) (mark head : ℕ) (seen : List ℕ) → length marks ≡ length links → Marked marks mark seen [] → Walking links marks mark head head 0 seen
walking_first links marks mark head seen same m = record { here = []; fuel = length links; walks = refl; enough = omega (arith, unmarked_most marks); marked = m; path = λ rest is. is; counted = refl }

pub walking_next : (links marks new : List ℕ) (mark head block next count : ℕ) (seen : List ℕ) → length marks ≡ length links → block ≢ last_link → (w : Walking links marks mark head block count seen) → met (length marks) seen w.here block ≡ None → block < length marks → Marked new mark seen (w.here ++ block ∷ []) → unmarked new + 1 ≡ unmarked marks → next ≡ get_or links block last_link → Walking links new mark head next (count + 1) seen
walking_next links marks new mark head block next count seen same ne w is lt m fewer next_is = by_fuel w.fuel w.walks w.enough
  where
    by_fuel : (fuel : ℕ) → walk (suc (length links)) links seen [] head ≡ walk (suc fuel) links seen w.here block → unmarked marks ≤ fuel → Walking links new mark head next (count + 1) seen
    by_fuel zero walks enough = absurd (omega arith)
    by_fuel (suc fuel) walks enough = record {
      here = w.here ++ block ∷ [];
      fuel = fuel;
      walks = walks ∙ walk_more links seen w.here block (suc fuel) ne (ap (λ (n : ℕ). met n seen w.here block) (sym same) ∙ is) ∙ ap (λ (j : ℕ). walk (suc fuel) links seen (w.here ++ block ∷ []) j) (sym next_is);
      enough = omega arith;
      marked = m;
      path = λ rest trail. subst (IsTrail links head) (sym (append_assoc w.here (block ∷ []) rest)) (w.path (block ∷ rest) (refl, omega arith, subst (λ (j : ℕ). IsTrail links j rest) next_is trail));
      counted = let counted = w.counted in omega (arith, length-append w.here (block ∷ []));
    }

pub walking_fault : (links marks : List ℕ) (mark head block count : ℕ) (seen : List ℕ) (fault : ChainFault) → length marks ≡ length links → block ≢ last_link → (w : Walking links marks mark head block count seen) → met (length marks) seen w.here block ≡ Some fault → walk (suc (length links)) links seen [] head ≡ Err fault
walking_fault links marks mark head block count seen fault same ne w is = w.walks ∙ walk_fault links seen w.here block w.fuel fault ne (ap (λ (n : ℕ). met n seen w.here block) (sym same) ∙ is)

pub walking_end : (links marks : List ℕ) (mark head block count : ℕ) (seen : List ℕ) → block ≡ last_link → Walking links marks mark head block count seen → Chained links marks mark head count seen
walking_end links marks mark head block count seen is w = record {
  here = w.here;
  walked = w.walks ∙ walk_end links seen w.here block w.fuel is;
  marked = w.marked;
  trail = subst (IsTrail links head) (append-nil w.here) (w.path [] is);
  counted = w.counted;
}

-- the heads that were walked
pub record Heading (links heads marks : List ℕ) (i : ℕ) : Type 0 where
  pub chains : List (List ℕ)
  pub walks : walk_heads links [] heads ≡ behind chains (walk_heads links (joined chains) (drop i heads))
  pub marked : Marked marks (i + 1) (joined chains) []
  pub stand : AreChains links chains

behind_none : (r : Result (List (List ℕ)) ChainFault) → behind [] r ≡ r
behind_none (Ok cs) = refl
behind_none (Err e) = refl

behind_two : (cs ds : List (List ℕ)) (r : Result (List (List ℕ)) ChainFault) → behind cs (behind ds r) ≡ behind (cs ++ ds) r
behind_two cs ds (Ok others) = ap Ok (sym (append_assoc cs ds others))
behind_two cs ds (Err e) = refl

drop_head : (xs : List ℕ) (i : ℕ) → i < length xs → drop i xs ≡ get_or xs i 0 ∷ drop (i + 1) xs
drop_head [] i lt = absurd (omega arith)
drop_head (x ∷ xs) zero lt = refl
drop_head (x ∷ xs) (suc i) lt = let e : suc (i + 1) ≡ suc i + 1 = omega arith in drop_head xs i (omega arith) ∙ ap (λ (j : ℕ). get_or xs i 0 ∷ drop j (x ∷ xs)) e

pub walk_head : (links seen : List ℕ) (head : ℕ) (heads : List ℕ) → head ≢ last_link → walk_heads links seen (head ∷ heads) ≡ then_ok (walk (suc (length links)) links seen [] head) (λ chain. behind (chain ∷ []) (walk_heads links (seen ++ chain) heads))
unfolding walk_heads
walk_head links seen head heads ne = cond-false (eqb head last_link) (Err (OutOfRange head)) (then_ok (walk (suc (length links)) links seen [] head) (λ chain. behind (chain ∷ []) (walk_heads links (seen ++ chain) heads))) (ne_eqb head last_link ne)

walk_head_out : (links seen : List ℕ) (head : ℕ) (heads : List ℕ) → head ≡ last_link → walk_heads links seen (head ∷ heads) ≡ Err (OutOfRange head)
unfolding walk_heads
walk_head_out links seen head heads is = cond-true (eqb head last_link) (Err (OutOfRange head)) (then_ok (walk (suc (length links)) links seen [] head) (λ chain. behind (chain ∷ []) (walk_heads links (seen ++ chain) heads))) (eq-eqb head last_link is)

pub walk_no_head : (links seen : List ℕ) → walk_heads links seen [] ≡ Ok []
unfolding walk_heads
walk_no_head links seen = refl

pub heading_first : (links heads marks : List ℕ) → ((k : ℕ) → get_or marks k 0 ≡ 0) → Heading links heads marks 0
heading_first links heads marks each = record { chains = []; walks = sym (behind_none (walk_heads links [] heads)); marked = marked_first marks each; stand = tt }

stand_more : (links : List ℕ) (chains : List (List ℕ)) (chain : List ℕ) → AreChains links chains → IsChain links chain → AreChains links (chains ++ chain ∷ [])
stand_more links [] chain stand is = (is, tt)
stand_more links (c ∷ chains) chain (first, others) is = (first, stand_more links chains chain others is)

chain_from : (links : List ℕ) (head : ℕ) (chain : List ℕ) → head ≢ last_link → IsTrail links head chain → IsChain links chain
chain_from links head [] ne is = ne is
chain_from links head (b ∷ bs) ne (same, lt, rest) = (refl, lt, rest)

module _ (links heads marks : List ℕ) (i : ℕ) (h : Heading links heads marks i) (lt : i < length heads) where
  pub heading_out : get_or heads i 0 ≡ last_link → walk_heads links [] heads ≡ Err (OutOfRange last_link)
  heading_out is = h.walks ∙ ap (λ (l : List ℕ). behind h.chains (walk_heads links (joined h.chains) l)) (drop_head heads i lt) ∙ ap (behind h.chains) (walk_head_out links (joined h.chains) (get_or heads i 0) (drop (i + 1) heads) is) ∙ ap (λ (j : ℕ). Err (OutOfRange j)) is

  at_head : get_or heads i 0 ≢ last_link → walk_heads links [] heads ≡ behind h.chains (then_ok (walk (suc (length links)) links (joined h.chains) [] (get_or heads i 0)) (λ chain. behind (chain ∷ []) (walk_heads links (joined h.chains ++ chain) (drop (i + 1) heads))))
  at_head ne = h.walks ∙ ap (λ (l : List ℕ). behind h.chains (walk_heads links (joined h.chains) l)) (drop_head heads i lt) ∙ ap (behind h.chains) (walk_head links (joined h.chains) (get_or heads i 0) (drop (i + 1) heads) ne)

  pub heading_fault : (fault : ChainFault) → get_or heads i 0 ≢ last_link → walk (suc (length links)) links (joined h.chains) [] (get_or heads i 0) ≡ Err fault → walk_heads links [] heads ≡ Err fault
  heading_fault fault ne is = at_head ne ∙ ap (λ (r : Result (List ℕ) ChainFault). behind h.chains (then_ok r (λ chain. behind (chain ∷ []) (walk_heads links (joined h.chains ++ chain) (drop (i + 1) heads))))) is

  pub heading_next : (new : List ℕ) (count : ℕ) → get_or heads i 0 ≢ last_link → Chained links new (i + 1) (get_or heads i 0) count (joined h.chains) → Heading links heads new (i + 1)
  heading_next new count ne c =
      let all : joined (h.chains ++ c.here ∷ []) ≡ joined h.chains ++ c.here = joined-append h.chains (c.here ∷ []) ∙ ap (λ (l : List ℕ). joined h.chains ++ l) (append-nil c.here) in
      record {
        chains = h.chains ++ c.here ∷ [];
        walks = at_head ne
            ∙ ap (λ (r : Result (List ℕ) ChainFault). behind h.chains (then_ok r (λ chain. behind (chain ∷ []) (walk_heads links (joined h.chains ++ chain) (drop (i + 1) heads))))) c.walked
            ∙ behind_two h.chains (c.here ∷ []) (walk_heads links (joined h.chains ++ c.here) (drop (i + 1) heads))
            ∙ ap (λ (l : List ℕ). behind (h.chains ++ c.here ∷ []) (walk_heads links l (drop (i + 1) heads))) (sym all);
        marked = subst (λ (l : List ℕ). Marked new (i + 1 + 1) l []) (sym all) (marked_next new (i + 1) (joined h.chains) c.here (omega arith) c.marked);
        stand = stand_more links h.chains c.here h.stand (chain_from links (get_or heads i 0) c.here ne c.trail);
      }

pub heading_end : (links heads marks : List ℕ) → Heading links heads marks (length heads) → Headed links heads marks
heading_end links heads marks h = record {
  chains = h.chains;
  walked = h.walks ∙ ap (λ (l : List ℕ). behind h.chains (walk_heads links (joined h.chains) l)) (drop_whole heads) ∙ ap (behind h.chains) (walk_no_head links (joined h.chains)) ∙ ap Ok (append-nil h.chains);
  marked = h.marked;
  stand = h.stand;
}
  where
    drop_whole : (xs : List ℕ) → drop (length xs) xs ≡ []
    drop_whole [] = refl
    drop_whole (x ∷ xs) = drop_whole xs

-- the first block in no list
pub lost_at : (n at block : ℕ) (blocks : List ℕ) → at ≤ block → block < at + n → times block blocks ≡ 0 → ((k : ℕ) → at ≤ k → k < block → times k blocks ≢ 0) → first_lost n at blocks ≡ Some block
unfolding first_lost
lost_at zero at block blocks le lt none each = absurd (omega arith)
lost_at (suc n) at block blocks le lt none each = ⊎_elim
    (λ same. cond-true (eqb (times at blocks) 0) (Some at) (first_lost n (at + 1) blocks) (eq-eqb (times at blocks) 0 (ap (λ (j : ℕ). times j blocks) same ∙ none)) ∙ ap Some same)
    (λ ne. cond-false (eqb (times at blocks) 0) (Some at) (first_lost n (at + 1) blocks) (ne_eqb (times at blocks) 0 (each at (omega arith) (omega arith))) ∙ lost_at n (at + 1) block blocks (omega arith) (omega arith) none (λ k low high. each k (omega arith) high))
    (cases_eq at block)

pub lost_none : (n at : ℕ) (blocks : List ℕ) → ((k : ℕ) → at ≤ k → k < at + n → times k blocks ≢ 0) → first_lost n at blocks ≡ None
unfolding first_lost
lost_none zero at blocks each = refl
lost_none (suc n) at blocks each = cond-false (eqb (times at blocks) 0) (Some at) (first_lost n (at + 1) blocks) (ne_eqb (times at blocks) 0 (each at (omega arith) (omega arith))) ∙ lost_none n (at + 1) blocks (λ k low high. each k (omega arith) (omega arith))

-- what the links are taken for
pub judged_heads : (links heads : List ℕ) (free : ℕ) (fault : ChainFault) → walk_heads links [] heads ≡ Err fault → judged links heads free ≡ Err fault
unfolding judged
judged_heads links heads free fault is = ap (λ (r : Result (List (List ℕ)) ChainFault). then_ok r (λ chains. then_ok (walk (suc (length links)) links (joined chains) [] free) (λ frees. unless_lost (first_lost (length links) 0 (joined chains ++ frees)) (record { free = frees; chains = chains })))) is

module _ (links heads : List ℕ) (free : ℕ) (chains : List (List ℕ)) (walked : walk_heads links [] heads ≡ Ok chains) where
  at_free : judged links heads free ≡ then_ok (walk (suc (length links)) links (joined chains) [] free) (λ frees. unless_lost (first_lost (length links) 0 (joined chains ++ frees)) (record { free = frees; chains = chains }))
  unfolding judged
  at_free = ap (λ (r : Result (List (List ℕ)) ChainFault). then_ok r (λ chains. then_ok (walk (suc (length links)) links (joined chains) [] free) (λ frees. unless_lost (first_lost (length links) 0 (joined chains ++ frees)) (record { free = frees; chains = chains })))) walked

  pub judged_free : (fault : ChainFault) → walk (suc (length links)) links (joined chains) [] free ≡ Err fault → judged links heads free ≡ Err fault
  judged_free fault is = at_free ∙ ap (λ (r : Result (List ℕ) ChainFault). then_ok r (λ frees. unless_lost (first_lost (length links) 0 (joined chains ++ frees)) (record { free = frees; chains = chains }))) is

  pub judged_lost : (frees : List ℕ) (lost : Option ℕ) → walk (suc (length links)) links (joined chains) [] free ≡ Ok frees → first_lost (length links) 0 (joined chains ++ frees) ≡ lost → judged links heads free ≡ unless_lost lost (record { free = frees; chains = chains })
  judged_lost frees lost is that = at_free ∙ ap (λ (r : Result (List ℕ) ChainFault). then_ok r (λ frees. unless_lost (first_lost (length links) 0 (joined chains ++ frees)) (record { free = frees; chains = chains }))) is ∙ ap (λ (o : Option ℕ). unless_lost o (record { free = frees; chains = chains })) that

pub marks_zero : (ms : List ℕ) (mark : ℕ) (seen here : List ℕ) → Marked ms mark seen here → (k : ℕ) → get_or ms k 0 ≡ 0 → times k (seen ++ here) ≡ 0
marks_zero ms mark seen here m k is = let was = m.none k is in omega (arith, was.0, was.1, times-append k seen here)

pub marks_one : (ms : List ℕ) (mark : ℕ) (seen here : List ℕ) → Marked ms mark seen here → (k : ℕ) → get_or ms k 0 ≢ 0 → times k (seen ++ here) ≡ 1
marks_one ms mark seen here m k ne = ⊎_elim
    (λ same. let was = m.mine k same in omega (arith, was.0, was.1, times-append k seen here))
    (λ differs. let was = m.other k ne differs in omega (arith, was.0, was.1, times-append k seen here))
    (cases_eq (get_or ms k 0) mark)

pub holds_from : (links ms : List ℕ) (mark free : ℕ) (chains : List (List ℕ)) (frees : List ℕ) → length links ≤ last_link → length ms ≡ length links → Marked ms mark (joined chains) frees → ((k : ℕ) → k < length ms → get_or ms k 0 ≢ 0) → AreChains links chains → IsTrail links free frees → Holds (record { links = links; free = free }) frees chains
holds_from links ms mark free chains frees few same m each stand trail = record {
  few = few;
  free_trail = trail;
  chains_stand = stand;
  size = let size = m.size in omega (arith, unmarked_none ms each);
  inside = λ k lt. omega (arith, marks_one ms mark (joined chains) frees m k (each k (omega arith)), times-append k (joined chains) frees);
  outside = λ k le. omega (arith, marks_zero ms mark (joined chains) frees m k (get_or_past ms k 0 (omega arith)), times-append k (joined chains) frees);
}

-- a mark that was read
pub read_at : (ms : List ℕ) (at v : ℕ) → at < length ms → v ≡ get_or ms at v → v ≡ get_or ms at 0
read_at ms at v lt is = is ∙ get_or_default ms at v 0 lt
