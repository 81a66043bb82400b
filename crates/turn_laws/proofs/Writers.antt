-- The last writer that a node noted is the machine's.
use Rattle.std.proofs.Common.{◌≡◌, ◌≤◌, ◌<◌, ◌==◌, ◌&&◌, ◌||◌, ◌⊎◌, inl, inr, ⊎_elim, length, ℕ, Bool, true, false, cond, true≢false, not, if◌then◌else◌, List, [], ◌∷◌, ◌++◌, Option, Some, None, refl, sym, ap, ◌∙◌, subst, arith, le_of_lt}
use Rattle.std.proofs.lemmas.Bool.Decides.{eqb_tells}
use Rattle.std.specs.FinMap.{get, insert, empty, get-insert, get-empty}
use Rattle.fid_space.specs.declared.fid.Fid.{Fid}
use Rattle.fid_space.specs.declared.class.Class.TheVariants as class
use Rattle.fid_space.specs.Homes.{is_root}
use Rattle.fid_space.specs.Places.{is_client, is_stripe}
use Rattle.tree_model.specs.Fids.{fid_cmp, same_fid}
use Rattle.tree_model.proofs.Fids.{fid_ties}
use Rattle.tree_model.proofs.Maps.{fids_total}
use Rattle.out_update.specs.declared.update.Update.{Update}
use Rattle.out_update.specs.declared.update.Kind.{Kind}
use Rattle.out_update.specs.declared.update.Kind.TheVariants as kind
use Rattle.op_laws.specs.Objects.{is_among}
use Rattle.commit_sharing.specs.Pending.{Writers, noted}
use Rattle.update_record.specs.Spelling.{part_for, targets_from}
use Rattle.update_record.specs.declared.operation.Record.{Record}
use Rattle.target_state.specs.State.{TargetState}
use Rattle.target_state.specs.Rules.{has_no_writer, own_updates, updates_of, writer_told}
use Rattle.target_state.specs.Rules as rules
use Rattle.tree_shares.specs.Parts.{named_in}
use Rattle.update_protocol.specs.Events.{Tells}
use Rattle.update_protocol.specs.Facts.{Asks, Parts, asks_attributes, is_told}
use Rattle.update_protocol.specs.Lists.{IsIn, Rising}
use Rattle.update_protocol.specs.Rows.{pending}
use Rattle.update_protocol.specs.World.{Accepted, World, at, request_of, wrote_of}
use Rattle.update_protocol.proofs.Basics.{by_bool}
use Rattle.update_protocol.proofs.Invariant.{Invariant}
use Rattle.update_protocol.proofs.Setting.{Setting}
use Rattle.update_protocol.proofs.Showing.{pends_behind, rest_apart}
use Rattle.turn_laws.specs.Values.{Inside, fids_of, noted_all, record_of, records, writer_at}
use Rattle.turn_laws.specs.Agrees.{IsQuestion}
use Rattle.turn_laws.specs.Runs.{ArePlaced, names_there}
use Rattle.turn_laws.proofs.Points.{mem_append}

-- the first of two
abbrev pub last_of : Option (ℕ × ℕ) → Option (ℕ × ℕ) → Option (ℕ × ℕ)
last_of (Some w) o = Some w
last_of None o = o

eqb_sym : (m n : ℕ) → (m == n) ≡ (n == m)
eqb_sym m n = elim (eqb_tells m n) [
  | inl h ↦ elim (eqb_tells n m) [
    | inl q ↦ h.0 ∙ sym q.0
    | inr q ↦ absurd (q.1 (sym h.1))
  ]
  | inr h ↦ elim (eqb_tells n m) [
    | inl q ↦ absurd (h.1 (sym q.1))
    | inr q ↦ h.0 ∙ sym q.0
  ]
]

same_sym : (f g : Fid) → same_fid f g ≡ same_fid g f
same_sym f g =
    let s = eqb_sym f.seq g.seq in
    let o = eqb_sym f.oid g.oid in
    let v = eqb_sym f.ver g.ver in
    λ i. s i && (o i && v i)

-- ---- what a node notes

get_noted : (fs : List Fid) (number on : ℕ) (ws : Writers) (f : Fid) → get (noted number on ws fs) f ≡ (if is_among fs f then Some (number, on) else get ws f)
get_noted [] number on ws f = refl
get_noted (g ∷ fs) number on ws f =
    get_noted fs number on (insert ws g (number, on)) f
    ∙ ap (λ o. if is_among fs f then Some (number, on) else o) (get-insert fids_total ws g (number, on) f ∙ ap (λ b. cond b (Some (number, on)) (get ws f)) (sym (fid_ties f g) ∙ same_sym f g))
    ∙ by_case (is_among fs f) (same_fid g f)
  where
    by_case : (b d : Bool) → (if b then Some (number, on) else cond d (Some (number, on)) (get ws f)) ≡ (if d || b then Some (number, on) else get ws f)
    by_case true true = refl
    by_case true false = refl
    by_case false true = refl
    by_case false false = refl

last_both : (o u : Option (ℕ × ℕ)) (w : ℕ × ℕ) (b : Bool) → last_of o (if b then Some w else u) ≡ last_of (last_of o (if b then Some w else None)) u
last_both None u w true = refl
last_both None u w false = refl
last_both (Some v) u w b = refl

get_all : (t : ℕ) (ws : Writers) (rs : List Record) (f : Fid) → get (noted_all t ws rs) f ≡ last_of (get (noted_all t empty rs) f) (get ws f)
get_all t ws [] f = sym (ap (λ o. last_of o (get ws f)) (get-empty fid_cmp f))
get_all t ws (r ∷ rs) f =
    let fs = fids_of (own_updates t r) in
    let w : ℕ × ℕ = (r.number, targets_from 0 r.parts) in
    get_all t (noted r.number (targets_from 0 r.parts) ws fs) rs f
    ∙ ap (last_of (get (noted_all t empty rs) f)) (get_noted fs r.number (targets_from 0 r.parts) ws f)
    ∙ last_both (get (noted_all t empty rs) f) (get ws f) w (is_among fs f)
    ∙ ap (λ o. last_of o (get ws f)) (sym (get_all t (noted r.number (targets_from 0 r.parts) empty fs) rs f ∙ ap (last_of (get (noted_all t empty rs) f)) (get_noted fs r.number (targets_from 0 r.parts) empty f ∙ ap (λ o. if is_among fs f then Some w else o) (get-empty fid_cmp f))))

-- of one record more, in front
get_front : (t : ℕ) (r : Record) (rs : List Record) (f : Fid) → get (noted_all t empty (r ∷ rs)) f ≡ last_of (get (noted_all t empty rs) f) (if is_among (fids_of (own_updates t r)) f then Some (r.number, targets_from 0 r.parts) else None)
get_front t r rs f = get_all t (noted r.number (targets_from 0 r.parts) empty (fids_of (own_updates t r))) rs f
    ∙ ap (last_of (get (noted_all t empty rs) f)) (get_noted (fids_of (own_updates t r)) r.number (targets_from 0 r.parts) empty f ∙ ap (λ o. if is_among (fids_of (own_updates t r)) f then Some (r.number, targets_from 0 r.parts) else o) (get-empty fid_cmp f))

-- what is known of the last writer of these places
pub record LastIs (t : ℕ) (since : List Accepted) (f : Fid) (ns : List ℕ) (o : Option (ℕ × ℕ)) (k : Option ℕ) : Type 0 where
  pub is : o ≡ writer_at since k
  pub none : k ≡ None → (n : ℕ) → IsIn n ns → names_there t (at since n) f ≡ true → ⊥
  pub some : (j : ℕ) → k ≡ Some j → IsIn j ns × (names_there t (at since j) f ≡ true) × ((n : ℕ) → IsIn n ns → names_there t (at since n) f ≡ true → n ≤ j)

some_is : (i j : ℕ) → Some i ≡ Some j → i ≡ j
some_is i j q = cc

none_is : (j : ℕ) → ◌≡◌ {A = Option ℕ} None (Some j) → ⊥
none_is j q = cc

some_none : (j : ℕ) → ◌≡◌ {A = Option ℕ} (Some j) None → ⊥
some_none j q = cc

abbrev noted_at : ℕ → ℕ → List Accepted → List ℕ → Fid → Option (ℕ × ℕ)
noted_at e t since ns f = get (noted_all t empty (records e since ns)) f

pub last_here : (e t : ℕ) (since : List Accepted) (f : Fid) (ns : List ℕ) → Rising ns → (k : Option ℕ) × LastIs t since f ns (get (noted_all t empty (records e since ns)) f) k
last_here e t since f [] r = (None, record { is = get-empty fid_cmp f; none = λ q n m. absurd m; some = λ j q. absurd (none_is j q) })
last_here e t since f (n ∷ ns) r =
    let old = last_here e t since f ns r.1 in
    by_case old.0 old.1 (names_there t (at since n) f) refl (get_front t (record_of e (at since n)) (records e since ns) f ∙ ap (λ o. last_of o (if names_there t (at since n) f then Some ((request_of (at since n)).number, targets_from 0 (at since n).parts) else None)) old.1.is)
  where
    by_case : (k : Option ℕ) → LastIs t since f ns (noted_at e t since ns f) k → (b : Bool) → names_there t (at since n) f ≡ b
        → noted_at e t since (n ∷ ns) f ≡ last_of (writer_at since k) (if names_there t (at since n) f then Some ((request_of (at since n)).number, targets_from 0 (at since n).parts) else None)
        → (k : Option ℕ) × LastIs t since f (n ∷ ns) (noted_at e t since (n ∷ ns) f) k
    by_case (Some k) old b is q = (
      Some k,
      record {
        is = q;
        none = λ z. absurd (some_none k z);
        some = λ j z. let o = old.some j z in (inr o.0, o.1, λ m h w. ⊎_elim (λ (s : m ≡ n). let l = r.0 j o.0 in omega (arith, s, l)) (λ (s : IsIn m ns). o.2 m s w) h);
      },
    )
    by_case None old true is q = (
      Some n,
      record {
        is = q ∙ ap (λ b. if b then Some ((request_of (at since n)).number, targets_from 0 (at since n).parts) else None) is;
        none = λ z. absurd (some_none n z);
        some = λ j z. let s = some_is n j z in (
          inl (sym s),
          subst (λ j. names_there t (at since j) f ≡ true) s is,
          λ m h w. ⊎_elim (λ (y : m ≡ n). omega (arith, y, s)) (λ (y : IsIn m ns). absurd (old.none refl m y w)) h,
        );
      },
    )
    by_case None old false is q = (
      None,
      record {
        is = q ∙ ap (λ b. if b then Some ((request_of (at since n)).number, targets_from 0 (at since n).parts) else None) is;
        none = λ z m h w. ⊎_elim (λ (y : m ≡ n). true≢false (sym (subst (λ m. names_there t (at since m) f ≡ true) y w) ∙ is)) (λ (y : IsIn m ns). old.none refl m y w) h;
        some = λ j z. absurd (none_is j z);
      },
    )

-- ---- what it tells

among_left : (f : Fid) (xs ys : List Fid) → is_among xs f ≡ true → is_among (xs ++ ys) f ≡ true
among_left f [] ys h = absurd (true≢false (sym h))
among_left f (x ∷ xs) ys h = by_case (same_fid x f) h (among_left f xs ys)
  where
    by_case : (b : Bool) → b || is_among xs f ≡ true → (is_among xs f ≡ true → is_among (xs ++ ys) f ≡ true) → b || is_among (xs ++ ys) f ≡ true
    by_case true h old = refl
    by_case false h old = old h

among_right : (f : Fid) (xs ys : List Fid) → is_among ys f ≡ true → is_among (xs ++ ys) f ≡ true
among_right f [] ys h = h
among_right f (x ∷ xs) ys h = by_case (same_fid x f) (among_right f xs ys h)
  where
    by_case : (b : Bool) → is_among (xs ++ ys) f ≡ true → b || is_among (xs ++ ys) f ≡ true
    by_case true h = refl
    by_case false h = h

here_wrote : (t : ℕ) (parts : Parts) (f : Fid) → is_among (fids_of (updates_of (part_for t parts))) f ≡ true → is_among (named_in parts) f ≡ true
here_wrote t [] f h = absurd (true≢false (sym h))
here_wrote t (part ∷ parts) f h = by_case (part.0 == t) h (here_wrote t parts f)
  where
    by_case : (b : Bool) → is_among (fids_of (updates_of (if b then Some part.1 else part_for t parts))) f ≡ true
        → (is_among (fids_of (updates_of (part_for t parts))) f ≡ true → is_among (named_in parts) f ≡ true) → is_among (fids_of part.1 ++ named_in parts) f ≡ true
    by_case true h old = among_left f (fids_of part.1) (named_in parts) h
    by_case false h old = among_right f (fids_of part.1) (named_in parts) (old h)

rising_before : (xs ys : List ℕ) → Rising (xs ++ ys) → (n m : ℕ) → IsIn n xs → IsIn m ys → n < m
rising_before [] ys r n m h g = absurd h
rising_before (x ∷ xs) ys r n m (inl e) g = subst (λ k. k < m) (sym e) (r.0 m (behind xs ys g))
  where
    behind : (xs ys : List ℕ) → IsIn m ys → IsIn m (xs ++ ys)
    behind [] ys g = g
    behind (x ∷ xs) ys g = inr (behind xs ys g)
rising_before (x ∷ xs) ys r n m (inr h) g = rising_before xs ys r.1 n m h g

pub mem_behind : (xs ys : List ℕ) (m : ℕ) → IsIn m ys → IsIn m (xs ++ ys)
mem_behind [] ys m g = g
mem_behind (x ∷ xs) ys m g = inr (mem_behind xs ys m g)

rising_rest : (xs ys : List ℕ) → Rising (xs ++ ys) → Rising ys
rising_rest [] ys r = r
rising_rest (x ∷ xs) ys r = rising_rest xs ys r.1

stripe_is : (r c s : Bool) → rules.is_stripe (if r then class.Root else (if c then class.Client else (if s then class.Stripe else class.Other))) ≡ true → s ≡ true
stripe_is true c s e = absurd (true≢false (sym e))
stripe_is false true s e = absurd (true≢false (sym e))
stripe_is false false true e = refl
stripe_is false false false e = e

-- who is told no writer asks for the attributes of a stripe
quiet_is : (targets : ℕ) (k : Kind) (f : Fid) → has_no_writer targets k f ≡ true → asks_attributes k && is_stripe targets f ≡ true
quiet_is targets kind.AttrGet f e = stripe_is (is_root f) (is_client targets f) (is_stripe targets f) e
quiet_is targets kind.Create f e = e
quiet_is targets kind.Destroy f e = e
quiet_is targets kind.RefAdd f e = e
quiet_is targets kind.RefDel f e = e
quiet_is targets kind.AttrSet f e = e
quiet_is targets kind.XattrSet f e = e
quiet_is targets kind.XattrGet f e = e
quiet_is targets kind.Lookup f e = e
quiet_is targets kind.Insert f e = e
quiet_is targets kind.Delete f e = e
quiet_is targets kind.XattrDel f e = e
quiet_is targets kind.LayoutSet f e = e
quiet_is targets kind.ParentSet f e = e
quiet_is targets kind.Names f e = e
quiet_is targets kind.Count f e = e

not_true : (b : Bool) → b ≡ true → not b ≡ true → ⊥
not_true true e h = true≢false (sym h)
not_true false e h = true≢false (sym e)

module _ (σ : Setting) where
  pub told_tells : (w : World) → Invariant σ.targets w → ArePlaced σ.targets w.since → (e t : ℕ) (s : TargetState) → s.targets ≡ σ.targets → s.writers ≡ noted_all t empty (records e w.since (pending w t)) → (q : List Update) → IsQuestion σ.targets t q
      → (k : Option ℕ) × (writer_told s q ≡ writer_at w.since k) × Inside w.since k × Tells σ.targets w t q k
  told_tells w i places e t s count notes [] one = (None, refl, tt, λ f asks. absurd asks)
  told_tells w i places e t s count notes (u ∷ v ∷ us) one = absurd one
  told_tells w i places e t s count notes (u ∷ []) one = ⊎_elim
      (λ (y : has_no_writer s.targets u.kind u.fid ≡ true). (None, ap (λ b. if b then None else get s.writers u.fid) y, tt, silent y))
      (λ (z : has_no_writer s.targets u.kind u.fid ≡ false). let l = last_here e t w.since u.fid (pending w t) pending_rise in found z l.0 l.1)
      (by_bool (has_no_writer s.targets u.kind u.fid))
    where
      silent : has_no_writer s.targets u.kind u.fid ≡ true → Tells σ.targets w t (u ∷ []) None
      silent y f asks = ⊎_elim
          (λ (h : (u.fid ≡ f) × (is_told σ.targets u ≡ true)). absurd (not_true (asks_attributes u.kind && is_stripe σ.targets u.fid) (quiet_is σ.targets u.kind u.fid (subst (λ n. has_no_writer n u.kind u.fid ≡ true) count y)) h.1))
          (λ (h : ⊥). absurd h) asks

      behind : w.done t ≡ w.disk t ++ pending w t
      behind = pends_behind σ w i t

      all_rise : Rising (w.disk t ++ pending w t)
      all_rise = subst Rising behind (i.executed.in_order t)

      pending_rise : Rising (pending w t)
      pending_rise = rising_rest (w.disk t) (pending w t) all_rise

      in_done : (n : ℕ) → IsIn n (pending w t) → IsIn n (w.done t)
      in_done n m = subst (λ l. IsIn n l) (sym behind) (mem_behind (w.disk t) (pending w t) n m)

      where_done : (n : ℕ) → IsIn n (w.done t) → IsIn n (w.disk t) ⊎ IsIn n (pending w t)
      where_done n m = mem_append (w.disk t) (pending w t) n (subst (λ l. IsIn n l) behind m)

      known : (n : ℕ) → IsIn n (w.done t) → n < length w.since
      known n m = (i.executed.known_done t n m).0

      here : (n : ℕ) → IsIn n (w.done t) → wrote_of (at w.since n) u.fid ≡ true → names_there t (at w.since n) u.fid ≡ true
      here n m wrote = subst (λ p. names_there p (at w.since n) u.fid ≡ true) one (places n (known n m) u.fid wrote)

      asked_it : (f : Fid) → Asks σ.targets (u ∷ []) f → u.fid ≡ f
      asked_it f asks = ⊎_elim (λ (h : (u.fid ≡ f) × (is_told σ.targets u ≡ true)). h.0) (λ (h : ⊥). absurd h) asks

      noted_so : get s.writers u.fid ≡ get (noted_all t empty (records e w.since (pending w t))) u.fid
      noted_so = ap (λ ws. get ws u.fid) notes

      found : has_no_writer s.targets u.kind u.fid ≡ false → (k : Option ℕ) → LastIs t w.since u.fid (pending w t) (get (noted_all t empty (records e w.since (pending w t))) u.fid) k
          → (k : Option ℕ) × ((if has_no_writer s.targets u.kind u.fid then None else get s.writers u.fid) ≡ writer_at w.since k) × Inside w.since k × Tells σ.targets w t (u ∷ []) k
      found z None l = (
        None,
        ap (λ b. if b then None else get s.writers u.fid) z ∙ noted_so ∙ l.is,
        tt,
        λ f asks n m wrote. ⊎_elim (λ (d : IsIn n (w.disk t)). d)
            (λ (p : IsIn n (pending w t)). absurd (l.none refl n p (here n m (subst (λ g. wrote_of (at w.since n) g ≡ true) (sym (asked_it f asks)) wrote)))) (where_done n m),
      )
      found z (Some j) l =
          let s' = l.some j refl in (
            Some j,
            ap (λ b. if b then None else get s.writers u.fid) z ∙ noted_so ∙ l.is,
            known j (in_done j s'.0),
            (
              in_done j s'.0,
              (λ f asks. (
                subst (λ g. wrote_of (at w.since j) g ≡ true) (asked_it f asks) (here_wrote t (at w.since j).parts u.fid s'.1),
                λ n m wrote. ⊎_elim (λ (d : IsIn n (w.disk t)). le_of_lt (rising_before (w.disk t) (pending w t) all_rise n j d s'.0))
                    (λ (p : IsIn n (pending w t)). s'.2 n p (here n m (subst (λ g. wrote_of (at w.since n) g ≡ true) (sym (asked_it f asks)) wrote))) (where_done n m),
              )),
              (λ d. rest_apart (w.disk t) (pending w t) all_rise j s'.0 d),
            ),
          )
