-- Records of a master up to a mark are cancelled: what the node's log keeps is what the machine says.
use Rattle.std.proofs.Common.{◌≡◌, ◌≤◌, ◌==◌, ◌&&◌, ◌||◌, ◌⊎◌, inl, inr, ℕ, Bool, true, false, true≢false, if◌then◌else◌, List, [], ◌∷◌, map, leb, refl, sym, ap, ◌∙◌}
use Rattle.std.proofs.lemmas.Bool.{leb-true}
use Rattle.tree_model.specs.declared.op.Request.{Request}
use Rattle.llog_store.specs.Log.{Entry}
use Rattle.llog_store.specs.Changes.{live_payloads}
use Rattle.update_record.specs.Spelling.{FitsRecord, record_text}
use Rattle.target_state.specs.State.{TargetState}
use Rattle.target_state.specs.Marking.{cancelled, id_in, is_up_to, without_done}
use Rattle.target_state.proofs.Ids.{id_of_record}
use Rattle.update_protocol.specs.Lists.{IsIn, put}
use Rattle.update_protocol.specs.Rows.{has, live}
use Rattle.update_protocol.specs.World.{Accepted, History, at, master}
use Rattle.update_protocol.proofs.Showing.{mem_has}
use Rattle.turn_laws.specs.Values.{Slice, record_of, records}
use Rattle.turn_laws.specs.Agrees.{KeepsNode}
use Rattle.turn_laws.proofs.Points.{both, eqb_is, eqb_self}
use Rattle.turn_laws.proofs.Growing.{mem_live}
use Rattle.turn_laws.proofs.ExecuteComes.{not_has}

-- an item of the master up to the mark
abbrev pub is_below : List Accepted → ℕ → ℕ → ℕ → Bool
is_below since m k n = (master (at since n) == m) && leb (at since n).batch k

abbrev pub picked : (ℕ → Bool) → List ℕ → List ℕ
picked test [] = []
picked test (n ∷ ns) = if test n then n ∷ picked test ns else picked test ns

abbrev pub left : (ℕ → Bool) → List ℕ → List ℕ
left test [] = []
left test (n ∷ ns) = if test n then left test ns else n ∷ left test ns

-- one more gone after another
abbrev pub gone_with : List ℕ → List ℕ → List ℕ
gone_with [] gone = gone
gone_with (n ∷ ns) gone = gone_with ns (n ∷ gone)

pub of_picked : (test : ℕ → Bool) (ns : List ℕ) (n : ℕ) → IsIn n (picked test ns) → (test n ≡ true) × IsIn n ns
of_picked test [] n h = absurd h
of_picked test (x ∷ ns) n h = by_test (test x) refl h (of_picked test ns n)
  where
    by_test : (b : Bool) → test x ≡ b → IsIn n (if b then x ∷ picked test ns else picked test ns) → (IsIn n (picked test ns) → (test n ≡ true) × IsIn n ns) → (test n ≡ true) × IsIn n (x ∷ ns)
    by_test true e (inl q) rest = (ap test q ∙ e, inl q)
    by_test true e (inr g) rest = let r = rest g in (r.0, inr r.1)
    by_test false e g rest = let r = rest g in (r.0, inr r.1)

in_picked : (test : ℕ → Bool) (ns : List ℕ) (n : ℕ) → IsIn n ns → test n ≡ true → IsIn n (picked test ns)
in_picked test [] n h t = absurd h
in_picked test (x ∷ ns) n h t = by_test (test x) refl h (λ g. in_picked test ns n g t)
  where
    by_test : (b : Bool) → test x ≡ b → (n ≡ x) ⊎ IsIn n ns → (IsIn n ns → IsIn n (picked test ns)) → IsIn n (if b then x ∷ picked test ns else picked test ns)
    by_test true e (inl q) rest = inl q
    by_test true e (inr g) rest = inr (rest g)
    by_test false e (inl q) rest = absurd (true≢false (sym t ∙ ap test q ∙ e))
    by_test false e (inr g) rest = rest g

has_with : (cs gone : List ℕ) (n : ℕ) → has n (gone_with cs gone) ≡ (has n cs || has n gone)
has_with [] gone n = refl
has_with (c ∷ cs) gone n = has_with cs (c ∷ gone) n ∙ by_case (n == c) (has n cs) (has n gone)
  where
    by_case : (a b d : Bool) → b || (a || d) ≡ (a || b) || d
    by_case true true d = refl
    by_case true false d = refl
    by_case false b d = refl

in_live : (xs gone : List ℕ) (n : ℕ) → IsIn n xs → has n gone ≡ false → IsIn n (live xs gone)
in_live [] gone n h e = absurd h
in_live (x ∷ xs) gone n h e = by_test (has x gone) refl h (λ g. in_live xs gone n g e)
  where
    by_test : (b : Bool) → has x gone ≡ b → (n ≡ x) ⊎ IsIn n xs → (IsIn n xs → IsIn n (live xs gone)) → IsIn n (if b then live xs gone else x ∷ live xs gone)
    by_test true q (inl z) rest = absurd (true≢false (sym q ∙ ap (λ y. has y gone) (sym z) ∙ e))
    by_test true q (inr z) rest = rest z
    by_test false q (inl z) rest = inl z
    by_test false q (inr z) rest = inr (rest z)

-- what is picked of the live ones is gone, and nothing else is
has_gone : (test : ℕ → Bool) (xs gone : List ℕ) (n : ℕ) → IsIn n xs → has n (gone_with (picked test (live xs gone)) gone) ≡ (has n gone || test n)
has_gone test xs gone n h = has_with (picked test (live xs gone)) gone n ∙ by_gone (has n gone) refl
  where
    none : test n ≡ false → has n (picked test (live xs gone)) ≡ false
    none t = not_has n (picked test (live xs gone)) (λ g. true≢false (sym (of_picked test (live xs gone) n g).0 ∙ t))

    by_test : has n gone ≡ false → (b : Bool) → test n ≡ b → has n (picked test (live xs gone)) || false ≡ b
    by_test e true t = ap (λ b. b || false) (mem_has n (picked test (live xs gone)) (in_picked test (live xs gone) n (in_live xs gone n h e) t))
    by_test e false t = ap (λ b. b || false) (none t)

    or_true : (b : Bool) → b || true ≡ true
    or_true true = refl
    or_true false = refl

    by_gone : (b : Bool) → has n gone ≡ b → has n (picked test (live xs gone)) || has n gone ≡ (has n gone || test n)
    by_gone true e = ap (λ b. has n (picked test (live xs gone)) || b) e ∙ or_true (has n (picked test (live xs gone))) ∙ sym (ap (λ b. b || test n) e)
    by_gone false e = ap (λ b. has n (picked test (live xs gone)) || b) e ∙ by_test e (test n) refl ∙ sym (ap (λ b. b || test n) e)

live_left : (test : ℕ → Bool) (gone after : List ℕ) (xs : List ℕ) → ((n : ℕ) → IsIn n xs → has n after ≡ (has n gone || test n)) → live xs after ≡ left test (live xs gone)
live_left test gone after [] same = refl
live_left test gone after (x ∷ xs) same =
    ap (λ b. if b then live xs after else x ∷ live xs after) (same x (inl refl)) ∙ by_case (has x gone) (test x) refl (live_left test gone after xs (λ n h. same n (inr h)))
  where
    by_case : (b t : Bool) → test x ≡ t → live xs after ≡ left test (live xs gone) → (if b || t then live xs after else x ∷ live xs after) ≡ left test (if b then live xs gone else x ∷ live xs gone)
    by_case true t e rest = rest
    by_case false true e rest = rest ∙ sym (ap (λ b. if b then left test (live xs gone) else x ∷ left test (live xs gone)) e)
    by_case false false e rest = ap (λ l. x ∷ l) rest ∙ sym (ap (λ b. if b then left test (live xs gone) else x ∷ left test (live xs gone)) e)

-- ---- the log

abbrev texts_left : (List ℕ → Bool) → List (List ℕ) → List (List ℕ)
texts_left f [] = []
texts_left f (p ∷ ps) = if f p then texts_left f ps else p ∷ texts_left f ps

abbrev with_live : Bool → List ℕ → List (List ℕ) → List (List ℕ)
with_live l p ps = if l then p ∷ ps else ps

live_dropped : (f : List ℕ → Bool) (p : List ℕ) (ps : List (List ℕ)) (l : Bool) → f p ≡ true → texts_left f (with_live l p ps) ≡ texts_left f ps
live_dropped f p ps true q = ap (λ b. if b then texts_left f ps else p ∷ texts_left f ps) q
live_dropped f p ps false q = refl

live_stays : (f : List ℕ → Bool) (p : List ℕ) (ps rest : List (List ℕ)) (l : Bool) → f p ≡ false → rest ≡ texts_left f ps → with_live l p rest ≡ texts_left f (with_live l p ps)
live_stays f p ps rest true q ih = ap (λ l. p ∷ l) ih ∙ sym (ap (λ b. if b then texts_left f ps else p ∷ texts_left f ps) q)
live_stays f p ps rest false q ih = ih

abbrev kept_as : Bool → Entry → Entry
kept_as t e = if t then record { index = e.index; live = false; payload = e.payload } else e

live_by : (f : List ℕ → Bool) (e : Entry) (ps rest : List (List ℕ)) (t : Bool) → f e.payload ≡ t → rest ≡ texts_left f ps → with_live (kept_as t e).live (kept_as t e).payload rest ≡ texts_left f (with_live e.live e.payload ps)
live_by f e ps rest true q ih = ih ∙ sym (live_dropped f e.payload ps e.live q)
live_by f e ps rest false q ih = live_stays f e.payload ps rest e.live q ih

live_cancelled : (m k : ℕ) (es : List Entry) → live_payloads (map (without_done m k) es) ≡ texts_left (λ p. is_up_to m k (id_in p)) (live_payloads es)
unfolding live_payloads
live_cancelled m k [] = refl
live_cancelled m k (e ∷ es) = live_by (λ p. is_up_to m k (id_in p)) e (live_payloads es) (live_payloads (map (without_done m k) es)) (is_up_to m k (id_in e.payload)) refl (live_cancelled m k es)

texts_are : (e : ℕ) (since : List Accepted) (m k : ℕ) (ns : List ℕ) → ((n : ℕ) → IsIn n ns → FitsRecord (record_of e (at since n)))
    → texts_left (λ p. is_up_to m k (id_in p)) (map record_text (records e since ns)) ≡ map record_text (records e since (left (is_below since m k) ns))
texts_are e since m k [] fits = refl
texts_are e since m k (n ∷ ns) fits =
    ap (λ o. if is_up_to m k o then texts_left (λ p. is_up_to m k (id_in p)) (map record_text (records e since ns)) else record_text (record_of e (at since n)) ∷ texts_left (λ p. is_up_to m k (id_in p)) (map record_text (records e since ns))) (id_of_record (record_of e (at since n)) (fits n (inl refl)))
    ∙ by_test (is_below since m k n) (texts_are e since m k ns (λ j h. fits j (inr h)))
  where
    by_test : (b : Bool) → texts_left (λ p. is_up_to m k (id_in p)) (map record_text (records e since ns)) ≡ map record_text (records e since (left (is_below since m k) ns))
        → (if b then texts_left (λ p. is_up_to m k (id_in p)) (map record_text (records e since ns)) else record_text (record_of e (at since n)) ∷ texts_left (λ p. is_up_to m k (id_in p)) (map record_text (records e since ns)))
        ≡ map record_text (records e since (if b then left (is_below since m k) ns else n ∷ left (is_below since m k) ns))
    by_test true q = q
    by_test false q = ap (λ l. record_text (record_of e (at since n)) ∷ l) q

-- the places whose records are cancelled
abbrev pub cancels_at : List Accepted → Slice → ℕ → ℕ → List ℕ
cancels_at since s m k = picked (is_below since m k) (live s.done s.gone)

pub cancels_known : (since : List Accepted) (s : Slice) (m k n : ℕ) → IsIn n (cancels_at since s m k) → IsIn n s.done × (master (at since n) ≡ m) × ((at since n).batch ≤ k)
cancels_known since s m k n h =
    let p = of_picked (is_below since m k) (live s.done s.gone) n h in
    let b = both (master (at since n) == m) (leb (at since n).batch k) p.0 in
    (mem_live s.done s.gone n p.1, eqb_is (master (at since n)) m b.0, leb-true (at since n).batch k b.1)

pub node_cancels : (targets e : ℕ) (sent : List Request) (start : ℕ) (base : History) (since : List Accepted) (t : ℕ) (s : Slice) (n : TargetState) (m k : ℕ) → ((j : ℕ) → IsIn j s.done → FitsRecord (record_of e (at since j)))
    → KeepsNode targets e sent start base since t s n → KeepsNode targets e sent start base since t (record s { gone = gone_with (cancels_at since s m k) s.gone }) (cancelled n m k)
node_cancels targets e sent start base since t s n m k fits h = record {
  cluster = h.cluster;
  index = h.index;
  epoch = h.epoch;
  transno = h.transno;
  clock = h.clock;
  mark = h.mark;
  seats = h.seats;
  objects = h.objects;
  log = live_cancelled m k n.log.entries
      ∙ ap (texts_left (λ p. is_up_to m k (id_in p))) h.log
      ∙ texts_are e since m k (live s.done s.gone) (λ j g. fits j (mem_live s.done s.gone j g))
      ∙ ap (λ l. map record_text (records e since l)) (sym (live_left (is_below since m k) s.gone (gone_with (cancels_at since s m k) s.gone) s.done (λ j g. has_gone (is_below since m k) s.done s.gone j g)));
  waiting = h.waiting;
  writers = h.writers;
  holder = h.holder;
  genuine = h.genuine;
  wide = h.wide;
  ended = h.ended;
}

-- ---- the world

abbrev pub gones : ℕ → List ℕ → (ℕ → List ℕ) → ℕ → List ℕ
gones t [] f = f
gones t (n ∷ ns) f = gones t ns (put f t (n ∷ f t))

pub gones_other : (t : ℕ) (ns : List ℕ) (f : ℕ → List ℕ) (s : ℕ) → (s == t) ≡ false → gones t ns f s ≡ f s
gones_other t [] f s ne = refl
gones_other t (n ∷ ns) f s ne = gones_other t ns (put f t (n ∷ f t)) s ne ∙ ap (λ b. if b then n ∷ f t else f s) ne

pub gones_here : (t : ℕ) (ns : List ℕ) (f : ℕ → List ℕ) → gones t ns f t ≡ gone_with ns (f t)
gones_here t [] f = refl
gones_here t (n ∷ ns) f = gones_here t ns (put f t (n ∷ f t)) ∙ ap (λ b. gone_with ns (if b then n ∷ f t else f t)) (eqb_self t)
